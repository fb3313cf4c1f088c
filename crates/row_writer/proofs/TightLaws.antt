-- Heaps grow by what is said alone.
use Rattle.std.proofs.Common.{◌≡◌, ℕ, zero, suc, ◌<◌, ◌≤◌, Bool, true, false, cond, List, [], ◌∷◌, ◌++◌, length, map, get_or, Option, Some, None, refl, sym, ap, subst, ◌∙◌, arith, length-append, inl, inr}
use Rattle.std.specs.Prelude.{◌==◌, ◌⊎◌, bytes_eq}
use Rattle.std.specs.List.{Contains}
use Rattle.std.specs.FinMap.{empty}
use Rattle.std.proofs.lemmas.List.{get_or-map, length-map}
use Rattle.std.proofs.lemmas.List.Elements.{Contains-get_or, Contains-append_left, Contains-push}
use Rattle.std.proofs.lemmas.Slice.Eq.{bytes_eq-Decides}
use Rattle.md_heaps.specs.Heaps.{Heap, index_of, with_entry}
use Rattle.md_heaps.proofs.HeapLaws.{index_of-with_entry, index_of-nothing, keeps_new}
use Rattle.md_schema.specs.declared.table.Table.{Table}
use Rattle.md_schema.specs.Schema.{place_of}
use Rattle.winmd_rows.specs.Values.{Value}
use Rattle.row_writer.specs.declared.cell.Cell.{Cell}
use Rattle.row_writer.specs.Known.{Values}
use Rattle.row_writer.specs.Lines.{Line, line, counts, value_of, added}
use Rattle.row_writer.specs.Tight.{Has, IsSpelled, Covered, Tight, Grew}

same_bytes : (a : List ℕ) → bytes_eq a a ≡ true
same_bytes a = (bytes_eq-Decides a a).1 refl

module _ (spelled : List ℕ → List ℕ) where
  -- a heap is no larger than it is
  pub grew_same : (said : List ℕ → Type 0) (heap : Heap) → Grew spelled said heap heap
  grew_same said heap = record { covered = λ all. all; only = λ content index h. inl h }

  pub grew_on : (first second whole : List ℕ → Type 0) (a b c : Heap) → Grew spelled first a b → Grew spelled second b c → ((content : List ℕ) → first content → whole content) → ((content : List ℕ) → second content → whole content) → Grew spelled whole a c
  grew_on first second whole a b c g h f k = record {
    covered = λ all. h.covered (g.covered all);
    only = λ content index e. elim (h.only content index e) [
      | inr s ↦ inr (k content s)
      | inl e2 ↦ elim (g.only content index e2) [
        | inl e3 ↦ inl e3
        | inr s ↦ inr (f content s)
      ]
    ];
  }

  module _ (heap : Heap) (content : List ℕ) (absent : index_of heap content ≡ None) where
    abbrev larger : Heap
    larger = with_entry heap content (spelled content) (length heap.bytes)

    here : index_of larger content ≡ Some (length heap.bytes)
    here = index_of-with_entry heap content (spelled content) (length heap.bytes) content ∙ ap (λ (b : Bool). cond b (Some (length heap.bytes)) (index_of heap content)) (same_bytes content)

    only_by : (other : List ℕ) (index : ℕ) (b : Bool) → bytes_eq other content ≡ b → cond b (Some (length heap.bytes)) (index_of heap other) ≡ Some index → (index_of heap other ≡ Some index) ⊎ (other ≡ content)
    only_by other index true e h = inr ((bytes_eq-Decides other content).0 e)
    only_by other index false e h = inl h

    covered_by : Covered spelled heap → (place : ℕ) → place < length larger.bytes → (place < length heap.bytes) ⊎ (length heap.bytes ≤ place) → IsSpelled spelled larger place
    covered_by all place below (inl within) = let s = all place within in record {
      content = s.content;
      index = s.index;
      interned = (keeps_new heap content (spelled content) (length heap.bytes) absent).entries s.content s.index s.interned;
      from = s.from;
      below = s.below;
    }
    covered_by all place below (inr past) = record {
      content = content;
      index = length heap.bytes;
      interned = here;
      from = past;
      below = omega (arith, below, length-append heap.bytes (spelled content));
    }

    pub grew_with : Grew spelled (λ other. other ≡ content) heap larger
    grew_with = record {
      covered = λ all place below. covered_by all place below (less_or place (length heap.bytes));
      only = λ other index h. only_by other index (bytes_eq other content) refl (sym (index_of-with_entry heap content (spelled content) (length heap.bytes) other) ∙ h);
    }
      where
        less_or : (a b : ℕ) → (a < b) ⊎ (b ≤ a)
        less_or a zero = inr (omega arith)
        less_or zero (suc b) = inl (omega arith)
        less_or (suc a) (suc b) = elim (less_or a b) [
          | inl h ↦ inl (omega (arith, h))
          | inr h ↦ inr (omega (arith, h))
        ]

  -- what interning makes of a heap
  pub grew_by : (old new : Heap) (content : List ℕ) (n : ℕ) → ((at : ℕ) → index_of old content ≡ Some at → new ≡ old) → (index_of old content ≡ None → (n ≡ length old.bytes) × (new ≡ with_entry old content (spelled content) n)) → Grew spelled (λ other. other ≡ content) old new
  grew_by old new content n known added = by (index_of old content) refl
    where
      by : (o : Option ℕ) → index_of old content ≡ o → Grew spelled (λ other. other ≡ content) old new
      by (Some at) e = subst (λ (h : Heap). Grew spelled (λ other. other ≡ content) old h) (sym (known at e)) (grew_same (λ other. other ≡ content) old)
      by None e =
          let a = added e in
          let is : new ≡ with_entry old content (spelled content) (length old.bytes) = a.1 ∙ ap (with_entry old content (spelled content)) a.0 in
          subst (λ (h : Heap). Grew spelled (λ other. other ≡ content) old h) (sym is) (grew_with old content e)

  pub tight_more : (before more after : List ℕ → Type 0) (old new : Heap) → Tight spelled before old → Grew spelled more old new → ((content : List ℕ) → before content → after content) → ((content : List ℕ) → more content → after content) → Tight spelled after new
  tight_more before more after old new t g f k = record {
    covered = g.covered t.covered;
    only = λ content index e. elim (g.only content index e) [
      | inr s ↦ inr (k content s)
      | inl e2 ↦ elim (t.only content index e2) [
        | inl none ↦ inl none
        | inr s ↦ inr (f content s)
      ]
    ];
  }

  -- a heap of the empty content alone, which is one byte
  pub tight_first : (said : List ℕ → Type 0) (heap : Heap) → length (spelled []) ≡ 1 → heap ≡ with_entry (record { bytes = []; entries = empty }) [] (0 ∷ []) 0 → Tight spelled said heap
  tight_first said heap one is = subst (Tight spelled said) (sym is) (record {
    covered = λ place below. record {
      content = [];
      index = 0;
      interned = index_of-with_entry nothing [] (0 ∷ []) 0 [];
      from = omega (arith, below);
      below = omega (arith, below, one);
    };
    only = λ content index h. by content index (bytes_eq content []) refl (sym (index_of-with_entry nothing [] (0 ∷ []) 0 content) ∙ h);
  })
    where
      nothing : Heap
      nothing = record { bytes = []; entries = empty }

      by : (content : List ℕ) (index : ℕ) (b : Bool) → bytes_eq content [] ≡ b → cond b (Some 0) (index_of nothing content) ≡ Some index → (content ≡ []) ⊎ said content
      by content index true e h = inl ((bytes_eq-Decides content []).0 e)
      by content index false e h = absurd (let none = index_of-nothing nothing content refl in cc)

-- ---- rows with a line more

same_number : (n : ℕ) → (n == n) ≡ true
same_number n = grind arith

contains_at : {A B : Type 0} (f : A → B) (xs : List A) (i : ℕ) (d : A) → i < length xs → Contains (map f xs) (f (get_or xs i d))
contains_at f xs i d below =
    subst (Contains (map f xs)) (get_or-map f xs i d (f d) below) (Contains-get_or (map f xs) i (f d) (omega (arith, below, length-map xs f)))

module _ (spelled : List ℕ → List ℕ) (say : List ℕ → Value) where
  -- what a cell says is one of what the cells of the line say
  pub grew_cell : (f : Cell → Value) (cells : List Cell) (i : ℕ) (d : Cell) (a b c : Heap) → i < length cells → Grew spelled (λ content. Contains (map f cells) (say content)) a b → Grew spelled (λ content. f (get_or cells i d) ≡ say content) b c
      → Grew spelled (λ content. Contains (map f cells) (say content)) a c
  grew_cell f cells i d a b c below g h =
      grew_on spelled (λ content. Contains (map f cells) (say content)) (λ content. f (get_or cells i d) ≡ say content) (λ content. Contains (map f cells) (say content)) a b c g h
      (λ content s. s) (λ content e. subst (Contains (map f cells)) e (contains_at f cells i d below))

  pub grew_said : (v : Value) (content : List ℕ) (old new : Heap) → v ≡ say content → Grew spelled (λ other. other ≡ content) old new → Grew spelled (λ other. v ≡ say other) old new
  grew_said v content old new is g = record {
    covered = g.covered;
    only = λ other index e. elim (g.only other index e) [
      | inl h ↦ inl h
      | inr same ↦ inr (is ∙ ap say (sym same))
    ];
  }

  has_more : (l : Line) (rows : Values) (v : Value) → Has rows v → Has (added l rows) v
  has_more l rows v h = record { table = h.table; row = h.row; stands = by (place_of h.table == place_of l.table); says = h.says }
    where
      by : (b : Bool) → Contains (cond b (rows h.table ++ map (value_of (counts rows)) l.cells ∷ []) (rows h.table)) h.row
      by true = Contains-append_left (rows h.table) (map (value_of (counts rows)) l.cells ∷ []) h.row h.stands
      by false = h.stands

  has_new : (table : Table) (cells : List Cell) (rows : Values) (v : Value) → Contains (map (value_of (counts rows)) cells) v → Has (added (line table cells) rows) v
  has_new table cells rows v h =
      let row : List Value = map (value_of (counts rows)) cells in
      record {
        table = table;
        row = row;
        stands = subst (λ (b : Bool). Contains (cond b (rows table ++ row ∷ []) (rows table)) row) (sym (same_number (place_of table))) (Contains-push (rows table) row);
        says = h;
      }

  -- a heap stays tight where a line is written whole
  pub tight_line : (table : Table) (cells : List Cell) (before after : Values) (b : Table → ℕ) (old new : Heap) → b ≡ counts before → after ≡ added (line table cells) before
      → Tight spelled (λ content. Has before (say content)) old → Grew spelled (λ content. Contains (map (value_of b) cells) (say content)) old new → Tight spelled (λ content. Has after (say content)) new
  tight_line table cells before after b old new counted is t g =
      tight_more spelled (λ content. Has before (say content)) (λ content. Contains (map (value_of b) cells) (say content)) (λ content. Has after (say content)) old new t g
      (λ content h. subst (λ (rows : Values). Has rows (say content)) (sym is) (has_more (line table cells) before (say content) h))
      (λ content h. subst (λ (rows : Values). Has rows (say content)) (sym is) (has_new table cells before (say content) (subst (λ (k : Table → ℕ). Contains (map (value_of k) cells) (say content)) counted h)))
