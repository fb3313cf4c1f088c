-- Numbers of names that are put behind numbers.
use Rattle.std.proofs.Common.{◌≡◌, ◌<◌, ◌+◌, ℕ, List, [], ◌∷◌, ◌++◌, Option, Some, Result, OnOk, take, length, get_or, sym, subst}
use Rattle.std.specs.List.{flat_map}
use Rattle.wr_base.specs.Lower.{lower}
use Rattle.numbered.specs.Numbers.{IsNumbering, Kept}
use Rattle.numbered.proofs.Puts.{by_none, by_one, by_then, on_ok_then, flat_more}
use Rattle.member_clash.specs.Names.{Put}

pub put_none : (f : List ℕ → Option ℕ) (n : ℕ) (old : List ℕ) → IsNumbering f n → Put f f n [] old old
put_none f n old h = by_none lower (IsNumbering f n) f old h

pub put_one : (f g : List ℕ → Option ℕ) (n k : ℕ) (name : List ℕ) (old new : List ℕ) → IsNumbering g n → Kept f g → g (lower name) ≡ Some k → new ≡ old ++ k ∷ [] → Put f g n (name ∷ []) old new
put_one f g n k name old new h kept e is = by_one lower (IsNumbering g n) f g k name old new h kept e is

pub put_then : (f g h : List ℕ → Option ℕ) (m n : ℕ) (A B : List (List ℕ)) (old mid new : List ℕ) → Put f g m A old mid → Put g h n B mid new → Put f h n (A ++ B) old new
put_then f g h m n A B old mid new a b = by_then lower (IsNumbering g m) (IsNumbering h n) f g h A B old mid new a b

pub put_then_ok : {X E : Type 0} (r : Result X E) (f g h : List ℕ → Option ℕ) (m n : ℕ) (A B : List (List ℕ)) (old mid new : List ℕ) → Put f g m A old mid → OnOk r (Put g h n B mid new) → OnOk r (Put f h n (A ++ B) old new)
put_then_ok r f g h m n A B old mid new a o = on_ok_then (Put g h n B mid new) (Put f h n (A ++ B) old new) (put_then f g h m n A B old mid new a) r o

pub put_turn : {X : Type 0} (k : X → List (List ℕ)) (xs : List X) (i : ℕ) (d : X) (f g h : List ℕ → Option ℕ) (m n : ℕ) (old mid new : List ℕ) → i < length xs
    → Put f g m (flat_map k (take i xs)) old mid → Put g h n (k (get_or xs i d)) mid new → Put f h n (flat_map k (take (i + 1) xs)) old new
put_turn k xs i d f g h m n old mid new l a b = subst (λ (A : List (List ℕ)). Put f h n A old new) (sym (flat_more k xs i d l)) (put_then f g h m n (flat_map k (take i xs)) (k (get_or xs i d)) old mid new a b)
