-- Results.
use Rattle.std.proofs.Common.{Result, Ok, Err, IfOk, OnOk}

pub if_ok_then : {X E : Type 0} (r : Result X E) (P Q : X → Type 0) → ((x : X) → P x → Q x) → IfOk r P → IfOk r Q
if_ok_then (Ok x) P Q f h = f x h
if_ok_then (Err e) P Q f h = tt

pub on_ok_then : {X E P Q : Type 0} (r : Result X E) → (P → Q) → OnOk r P → OnOk r Q
on_ok_then (Ok x) f h = f h
on_ok_then (Err e) f h = tt
