-- How often calls of the system failed, as far as a u64 counts.
use Rattle.std.specs.Prelude.{ℕ}
use Rattle.winrt_run.specs.declared.disk.Disk.{Disk}
use Rattle.winrt_run.specs.declared.stream.Stream.{Stream}

abbrev pub disk_faults : Disk → ℕ
disk_faults disk = disk.faults

abbrev pub stream_faults : {W : Type 0} → Stream W → ℕ
stream_faults stream = stream.faults
