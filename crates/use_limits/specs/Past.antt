-- The limit on uses at a declaration.
use Rattle.std.specs.Prelude.{◌&&◌, ◌||◌, nat_le, nat_lt, ℕ, Bool}
use Rattle.ranked.specs.Entries.{Entry}
use Rattle.wr_base.specs.declared.code.Code.TheVariants.{ManyUses}
use Rattle.wr_rules.specs.Sites.{Site, spot_of, If}

-- one of the two counts passes its limit, from what was counted before and what is counted with the next
abbrev pub either_past : ℕ → ℕ → ℕ → ℕ → Bool
either_past words bytes next_words next_bytes = nat_le words 4000000 && nat_le bytes 67108864 && (nat_lt 4000000 next_words || nat_lt 67108864 next_bytes)

-- broken there
abbrev pub PastUses : ℕ → ℕ → ℕ → ℕ → Site → Entry → Type 0
PastUses words bytes next_words next_bytes s = If (either_past words bytes next_words next_bytes) ManyUses (spot_of s)
