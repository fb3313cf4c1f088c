-- Texts that are put into sets.
use Rattle.std.proofs.Common.{◌≡◌, ℕ, Bool, true, false, cond, List, refl, sym, ap, ◌∙◌}
use Rattle.std.specs.Prelude.{◌||◌, String, string_bytes}
use Rattle.std.specs.BTreeSet.{BTreeSet, Updates, contains_text}
use Rattle.std.specs.Cmp.{both_ways}
use Rattle.std.specs.Cmp.Lexicographic.{bytes_decides}
use Rattle.std.specs.HashSet as hash
use Rattle.std.specs.String.{string_cmp, string_eq}
use Rattle.std.specs.declared.alloc.Global.{Global}
use Rattle.std.proofs.lemmas.Map.Text.{btree_set_updates_text, hash_set_updates_text}
use Rattle.std.specs.Str.{bytes_eq}
use Rattle.winmd_uses.specs.Known.{Hashed}

pub bytes_turned : (a b : List ℕ) → bytes_eq a b ≡ bytes_eq b a
bytes_turned a b =
    both_ways (bytes_eq a b) (bytes_eq b a) (λ e. (bytes_decides b a).1 (sym ((bytes_decides a b).0 e))) (λ e. (bytes_decides a b).1 (sym ((bytes_decides b a).0 e)))

cond_or : (b c : Bool) → cond b true c ≡ (b || c)
cond_or true c = refl
cond_or false c = refl

-- what is put at one text
put_is : (a b : List ℕ) (c : Bool) → cond (bytes_eq a b) true c ≡ (bytes_eq b a || c)
put_is a b c = cond_or (bytes_eq a b) c ∙ ap (λ (x : Bool). x || c) (bytes_turned a b)

-- a text is put into a set
pub text_put : (s n : BTreeSet (String Global)) (text : String Global) → Updates string_cmp s n text true → (other : List ℕ) → contains_text n other ≡ (bytes_eq other (string_bytes text) || contains_text s other)
text_put s n text u other = btree_set_updates_text (string_bytes text) s n true u other ∙ put_is (string_bytes text) other (contains_text s other)

-- the same by hashes
pub text_marked : (s n : Hashed (String Global)) (text : String Global) → hash.Updates string_eq s n text true → (other : List ℕ) → hash.contains_text n other ≡ (bytes_eq other (string_bytes text) || hash.contains_text s other)
text_marked s n text u other = hash_set_updates_text (string_bytes text) s n true u other ∙ put_is (string_bytes text) other (hash.contains_text s other)
