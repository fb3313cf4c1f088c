-- Modifiers, one after the other.
use Rattle.std.proofs.Common.{◌≡◌, ℕ, zero, suc, ◌≤◌, ◌<◌, length, drop, true, false, arith, List, [], ◌∷◌, sym, Result, Ok, Err}
use Rattle.ranked.specs.declared.stop.Stop.{Stop}
use Rattle.ranked.specs.declared.stop.Stop.TheVariants as stops
use Rattle.sig_blobs.specs.declared.flaw.Flaw.{Flaw}
use Rattle.sig_blobs.specs.Given.{Fails}
use Rattle.sig_blobs.specs.Reading.{integer}
use Rattle.sig_blobs.specs.Uses.{begins_modifier, behind_modifiers}

clash : false ≡ true → ⊥
clash e = grind arith

none_below : (n : ℕ) → suc n ≤ 0 → ⊥
none_below n h = omega arith

pub bare : (k : ℕ) (bytes : List ℕ) (whole : Result (List ℕ) Flaw) → begins_modifier bytes ≡ false → length bytes ≤ k → behind_modifiers k bytes ≡ whole → whole ≡ Ok bytes
unfolding behind_modifiers
bare zero bytes whole e h so_far = sym so_far
bare (suc k) [] whole e h so_far = sym so_far
bare (suc k) (b ∷ bytes) whole e h so_far = sym (rw e at so_far)

broken : (k : ℕ) (bytes : List ℕ) (fault : Flaw) (whole : Result (List ℕ) Flaw) → begins_modifier bytes ≡ true → length bytes ≤ k → integer (drop 1 bytes) ≡ Err fault → behind_modifiers k bytes ≡ whole → whole ≡ Err fault
unfolding behind_modifiers
broken zero [] fault whole e h was so_far = absurd (clash e)
broken zero (b ∷ bytes) fault whole e h was so_far = absurd (none_below (length bytes) h)
broken (suc k) [] fault whole e h was so_far = absurd (clash e)
broken (suc k) (b ∷ bytes) fault whole e h was so_far = sym (rw (e, was) at so_far)

pub passed : (k : ℕ) (bytes : List ℕ) (n : ℕ) (rest : List ℕ) (whole : Result (List ℕ) Flaw) → begins_modifier bytes ≡ true → length bytes ≤ k → integer (drop 1 bytes) ≡ Ok (n, rest) → length rest < length (drop 1 bytes)
    → behind_modifiers k bytes ≡ whole → (j : ℕ) × (length rest ≤ j) × (behind_modifiers j rest ≡ whole)
unfolding behind_modifiers
passed zero [] n rest whole e h was less so_far = absurd (clash e)
passed zero (b ∷ bytes) n rest whole e h was less so_far = absurd (none_below (length bytes) h)
passed (suc k) [] n rest whole e h was less so_far = absurd (clash e)
passed (suc k) (b ∷ bytes) n rest whole e h was less so_far = (k, omega arith, rw (e, was) at so_far)

pub broken_by : (e : Stop Flaw) (k : ℕ) (bytes : List ℕ) (whole : Result (List ℕ) Flaw) → begins_modifier bytes ≡ true → length bytes ≤ k → Fails e (integer (drop 1 bytes)) → behind_modifiers k bytes ≡ whole → Fails e whole
broken_by stops.Memory k bytes whole e h was so_far = tt
broken_by (stops.Refused fault) k bytes whole e h was so_far = broken k bytes fault whole e h was so_far
