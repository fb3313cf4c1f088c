-- A line more.
use Rattle.std.proofs.Common.{◌≡◌, ℕ, ◌-◌, ◌^◌, ◌<◌, Bool, true, false, cond, List, [], ◌∷◌, ◌++◌, length, map, Result, Ok, Err, refl, sym, ap, subst, ◌∙◌, arith, length-append, inl, inr}
use Rattle.std.specs.Prelude.{◌==◌, OnOk, OnErr, IfOk, ◌⊎◌}
use Rattle.std.specs.List.{list_all}
use Rattle.std.proofs.lemmas.Bool.{and_parts}
use Rattle.std.proofs.lemmas.List.{length-map}
use Rattle.md_heaps.specs.Blobs.{BlobHere}
use Rattle.md_heaps.specs.Heaps.{Heap, EachStands, Keeps}
use Rattle.md_schema.specs.declared.table.Table.{Table}
use Rattle.md_schema.specs.Schema.{columns_of, place_of}
use Rattle.md_tables.specs.Rows.{with_row}
use Rattle.winmd_rows.specs.Values.{Value}
use Rattle.row_writer.specs.declared.cell.Cell.{Cell}
use Rattle.row_writer.specs.Known.{Says, values_at, rows_seen, row_known, all_known}
use Rattle.row_writer.specs.Lines.{line, counts, value_of, added}
use Rattle.row_writer.proofs.CellLaws.{same_place, seen_grown, said_row}

either : (d : Bool) → (d ≡ true) ⊎ (d ≡ false)
either true = inl refl
either false = inr refl

pub if_ok : {T E : Type 0} (r : Result T E) (P Q : T → Type 0) → ((x : T) → P x → Q x) → IfOk r P → IfOk r Q
if_ok (Ok x) P Q f h = f x h
if_ok (Err e) P Q f h = tt

pub on_ok : {T E : Type 0} (r : Result T E) (P Q : Type 0) → (P → Q) → OnOk r P → OnOk r Q
on_ok (Ok x) P Q f h = f h
on_ok (Err e) P Q f h = tt

pub either_way : {T E : Type 0} (r : Result T E) (P Q R : Type 0) → (P → R) → (Q → R) → OnOk r P → OnErr r Q → R
either_way (Ok x) P Q R f g h k = f h
either_way (Err e) P Q R f g h k = g k

all_more : {A : Type 0} (p : A → Bool) (xs : List A) (x : A) → list_all p xs ≡ true → p x ≡ true → list_all p (xs ++ x ∷ []) ≡ true
all_more p [] x h e = rw e refl
all_more p (y ∷ ys) x h e = let both = and_parts (p y) (list_all p ys) h in rw (both.0, all_more p ys x both.1 e) refl

map_more : {A B : Type 0} (f : A → B) (xs : List A) (x : A) → map f (xs ++ x ∷ []) ≡ map f xs ++ f x ∷ []
map_more {B = B} f [] x = refl
map_more {B = B} f (y ∷ ys) x = ap (λ (zs : List B). f y ∷ zs) (map_more f ys x)

abbrev Raws : Type 0
Raws = Table → List (List ℕ)

-- how many rows there are is seen as well
pub counts_seen : (texts blobs : Heap) (raws : Raws) → counts raws ≡ counts (rows_seen texts blobs raws)
counts_seen texts blobs raws = λ i. λ t. sym (length-map (raws t) (values_at texts blobs (columns_of t))) i

module _ (texts blobs texts2 blobs2 : Heap) (gt : Keeps texts texts2) (gb : Keeps blobs blobs2) (each : EachStands BlobHere blobs2) (old new : Raws) (known : (t : Table) → all_known texts blobs old t ≡ true)
    (table : Table) (cells : List Cell) (row : List ℕ) (says : Says texts2 blobs2 (columns_of table) row (map (value_of (counts old)) cells)) where
  abbrev IsPushed : Type 0
  IsPushed = (other : Table) → new other ≡ cond (place_of other == place_of table) (old other ++ row ∷ []) (old other)

  pub pushed_at : new ≡ with_row old table row → IsPushed
  pushed_at e other = ap (λ (f : Raws). f other) e

  pub known_pushed : IsPushed → (t : Table) → all_known texts2 blobs2 new t ≡ true
  known_pushed pushed t =
      let before = (seen_grown texts blobs texts2 blobs2 gt gb each old known t).1 in
      elim (either (place_of t == place_of table)) [
        | inl e ↦
            let is : t ≡ table = same_place t table e in
            let row_is : row_known texts2 blobs2 (columns_of t) row ≡ true = subst (λ (u : Table). row_known texts2 blobs2 (columns_of u) row ≡ true) (sym is) (said_row texts2 blobs2 (columns_of table) row (map (value_of (counts old)) cells) says).1 in
            let more : new t ≡ old t ++ row ∷ [] = pushed t ∙ ap (λ (b : Bool). cond b (old t ++ row ∷ []) (old t)) e in
            ap (λ (rows : List (List ℕ)). list_all (row_known texts2 blobs2 (columns_of t)) rows) more ∙ all_more (row_known texts2 blobs2 (columns_of t)) (old t) row before row_is
        | inr e ↦
            let same : new t ≡ old t = pushed t ∙ ap (λ (b : Bool). cond b (old t ++ row ∷ []) (old t)) e in
            ap (λ (rows : List (List ℕ)). list_all (row_known texts2 blobs2 (columns_of t)) rows) same ∙ before
      ]

  seen_at : IsPushed → (t : Table) → rows_seen texts2 blobs2 new t ≡ added (line table cells) (rows_seen texts blobs old) t
  seen_at pushed t =
      let before = (seen_grown texts blobs texts2 blobs2 gt gb each old known t).0 in
      let see : List (List ℕ) → List (List Value) = map (values_at texts2 blobs2 (columns_of t)) in
      elim (either (place_of t == place_of table)) [
        | inl e ↦
            let is : t ≡ table = same_place t table e in
            let values : List Value = map (value_of (counts old)) cells in
            let row_is : values_at texts2 blobs2 (columns_of t) row ≡ values = subst (λ (u : Table). values_at texts2 blobs2 (columns_of u) row ≡ values) (sym is) (said_row texts2 blobs2 (columns_of table) row values says).0 in
            let more : new t ≡ old t ++ row ∷ [] = pushed t ∙ ap (λ (b : Bool). cond b (old t ++ row ∷ []) (old t)) e in
            let same : values ≡ map (value_of (counts (rows_seen texts blobs old))) cells = ap (λ (b : Table → ℕ). map (value_of b) cells) (counts_seen texts blobs old) in
            let said : see (new t) ≡ rows_seen texts blobs old t ++ values ∷ [] = ap see more ∙ map_more (values_at texts2 blobs2 (columns_of t)) (old t) row ∙ (λ i. before i ++ row_is i ∷ []) in
            rw e (said ∙ ap (λ (v : List Value). rows_seen texts blobs old t ++ v ∷ []) same)
        | inr e ↦
            let same : new t ≡ old t = pushed t ∙ ap (λ (b : Bool). cond b (old t ++ row ∷ []) (old t)) e in
            rw e (ap see same ∙ before)
      ]

  pub seen_pushed : IsPushed → rows_seen texts2 blobs2 new ≡ added (line table cells) (rows_seen texts blobs old)
  seen_pushed pushed = λ i. λ t. seen_at pushed t i

  pub room_pushed : ((t : Table) → length (old t) < 2 ^ 24) → length (old table) < 2 ^ 24 - 1 → IsPushed → (t : Table) → length (new t) < 2 ^ 24
  room_pushed room low pushed t =
      elim (either (place_of t == place_of table)) [
        | inl e ↦
            let here : length (old t) < 2 ^ 24 - 1 = subst (λ (u : Table). length (old u) < 2 ^ 24 - 1) (sym (same_place t table e)) low in
            let more : new t ≡ old t ++ row ∷ [] = pushed t ∙ ap (λ (b : Bool). cond b (old t ++ row ∷ []) (old t)) e in
            omega (arith, here, ap length more, length-append (old t) (row ∷ []))
        | inr e ↦
            let same : new t ≡ old t = pushed t ∙ ap (λ (b : Bool). cond b (old t ++ row ∷ []) (old t)) e in
            omega (arith, room t, ap length same)
      ]
