-- The heaps of a writer hold nothing but what the rows of its declarations say.
use Rattle.std.proofs.Common.{◌≡◌, ℕ, zero, suc, ◌<◌, Bool, true, false, cond, List, [], ◌∷◌, length, get_or, Option, ap, subst, arith, inl, inr}
use Rattle.std.specs.Prelude.{nat_le, unwrap_or}
use Rattle.std.specs.List.{Contains}
use Rattle.md_heaps.specs.Heaps.{Heap, index_of}
use Rattle.md_schema.specs.declared.table.Table.{Table}
use Rattle.md_schema.specs.declared.table.Table.TheVariants as tables
use Rattle.winmd_lines.specs.Orders.{insert_by, sort_by}
use Rattle.winmd_rows.specs.Values.{Value}
use Rattle.winmd_sets.specs.Rows.{in_order}
use Rattle.row_writer.specs.Known.{Values}
use Rattle.row_writer.specs.Tight.{Has, Tight}
use Rattle.winmd_writer.specs.Finished.{IsTight, all_in_order}

behind : {A : Type 0} (y : A) (xs : List A) (z : A) → Contains xs z → Contains (y ∷ xs) z
behind y xs z h = (suc h.0, omega (arith, h.1), h.2)

insert_step : {A : Type 0} (x y : A) (ys inserted : List A) (z : A) (b : Bool) → ((i : ℕ) → i < length (x ∷ ys) → get_or (x ∷ ys) i z ≡ z → Contains inserted z)
    → (i : ℕ) → i < length (x ∷ y ∷ ys) → get_or (x ∷ y ∷ ys) i z ≡ z → Contains (cond b (x ∷ y ∷ ys) (y ∷ inserted)) z
insert_step x y ys inserted z true go i below e = (i, below, e)
insert_step x y ys inserted z false go zero below e = behind y inserted z (go 0 (omega arith) e)
insert_step x y ys inserted z false go (suc zero) below e = (0, omega arith, e)
insert_step x y ys inserted z false go (suc (suc k)) below e = behind y inserted z (go (suc k) (omega (arith, below)) e)

contains_insert : {A : Type 0} (key : A → ℕ) (x : A) (ys : List A) (z : A) (i : ℕ) → i < length (x ∷ ys) → get_or (x ∷ ys) i z ≡ z → Contains (insert_by key x ys) z
contains_insert key x [] z i below e = (i, below, e)
contains_insert key x (y ∷ ys) z i below e = insert_step x y ys (insert_by key x ys) z (nat_le (key x) (key y)) (contains_insert key x ys z) i below e

sort_step : {A : Type 0} (key : A → ℕ) (x : A) (xs sorted : List A) (z : A) → ((i : ℕ) → i < length xs → get_or xs i z ≡ z → Contains sorted z) → (i : ℕ) → i < length (x ∷ xs) → get_or (x ∷ xs) i z ≡ z → Contains (insert_by key x sorted) z
sort_step key x xs sorted z go zero below e = contains_insert key x sorted z 0 (omega arith) e
sort_step key x xs sorted z go (suc k) below e = let h = go k (omega (arith, below)) e in contains_insert key x sorted z (suc h.0) (omega (arith, h.1)) h.2

contains_sorted : {A : Type 0} (key : A → ℕ) (xs : List A) (z : A) (i : ℕ) → i < length xs → get_or xs i z ≡ z → Contains (sort_by key xs) z
contains_sorted key [] z i below e = (i, below, e)
contains_sorted key (x ∷ xs) z i below e = sort_step key x xs (sort_by key xs) z (contains_sorted key xs z) i below e

contains_in_order : (table : Table) (rows : List (List Value)) (row : List Value) → Contains rows row → Contains (in_order table rows) row
contains_in_order tables.CustomAttribute rows row h = contains_sorted _ rows row h.0 h.1 h.2
contains_in_order tables.MethodSemantics rows row h = contains_sorted _ rows row h.0 h.1 h.2
contains_in_order _ rows row h = h

has_in_order : (rows : Values) (value : Value) → Has rows value → Has (all_in_order rows) value
has_in_order rows value h = record { table = h.table; row = h.row; stands = contains_in_order h.table (rows h.table) h.row h.stands; says = h.says }

-- a tight heap is so by placement, for the rows in order
pub tight_by : (spelled : List ℕ → List ℕ) (say : List ℕ → Value) (heap : Heap) (rows ordered : Values) → all_in_order rows ≡ ordered → Tight spelled (λ content. Has rows (say content)) heap
    → IsTight spelled (λ content. Has ordered (say content)) (record { bytes = heap.bytes; index = λ content. unwrap_or (index_of heap content) 0 })
tight_by spelled say heap rows ordered is t place below =
    let s = t.covered place below in
    let at : unwrap_or (index_of heap s.content) 0 ≡ s.index = ap (λ (o : Option ℕ). unwrap_or o 0) s.interned in
    record {
      content = s.content;
      is = elim (t.only s.content s.index s.interned) [
        | inl none ↦ inl none
        | inr said ↦ inr (subst (λ (r : Values). Has r (say s.content)) is (has_in_order rows (say s.content) said))
      ];
      from = omega (arith, s.from, at);
      below = omega (arith, s.below, at);
    }
