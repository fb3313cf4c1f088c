-- What is put from the last item down to the first.
use Rattle.std.proofs.Common.{◌≡◌, ℕ, suc, ◌+◌, ◌-◌, ◌<◌, ◌≤◌, Bool, List, [], ◌∷◌, map, get_or, drop, length, refl, sym, ap, ◌∙◌, arith, inl, inr}
use Rattle.std.specs.Prelude.{◌&&◌, not, Option, Some, String, Vec, string_bytes, if◌then◌else◌}
use Rattle.std.specs.Str.{bytes_eq}
use Rattle.std.specs.Map.{AreApart, IsKeyTest, KeepsOthers, lookup}
use Rattle.std.specs.HashMap.{Updates}
use Rattle.std.specs.Cmp.Lexicographic.{bytes_decides}
use Rattle.std.specs.declared.alloc.Global.{Global}
use Rattle.std.proofs.lemmas.List.{drop_more}
use Rattle.md_schema.specs.declared.table.Table.TheVariants as tables
use Rattle.wr_base.specs.declared.type_use.TypeUse.{TypeUse}
use Rattle.wr_base.specs.Trees.{UseTree, same_use, tree_of}
use Rattle.winmd_lines.specs.Names.{is_outside}
use Rattle.winmd_uses.specs.Known.{key_eq}
use Rattle.winmd_uses.specs.Keys.{key_of}
use Rattle.winmd_uses.proofs.KeyLaws.{key_same}
use Rattle.winmd_uses.proofs.TakeLaws.{either}
use Rattle.winmd_names.specs.InstanceRows.{KeyedRows, row_among, row_under}
use Rattle.winmd_names.specs.Numbers.{def_number, ref_number, row_code}

-- nothing stands behind the last
pub none_behind : {A : Type 0} (xs : List A) (n : ℕ) → n ≡ length xs → drop n xs ≡ []
none_behind xs n e = ap (λ (k : ℕ). drop k xs) e ∙ all_dropped xs
  where
    all_dropped : {A : Type 0} (xs : List A) → drop (length xs) xs ≡ []
    all_dropped [] = refl
    all_dropped (x ∷ xs) = all_dropped xs

-- the item before those that are done
next_down : {A : Type 0} (xs : List A) (left : ℕ) (x : A) → 0 < left → left ≤ length xs → x ≡ get_or xs (left - 1) x → drop (left - 1) xs ≡ x ∷ drop left xs
next_down xs left x some all e =
    drop_more xs (left - 1) x (omega arith) ∙ ap (λ y. y ∷ drop (left - 1 + 1) xs) (sym e) ∙ ap (λ (k : ℕ). x ∷ drop k xs) (let back : left - 1 + 1 ≡ left = omega arith in back)

pub refs_down : (refs : List (String Global)) (left row : ℕ) (s : String Global) (full : List ℕ) (new old other : ℕ) → 0 < left → left ≤ length refs → row ≡ left → s ≡ get_or refs (left - 1) s
    → old ≡ ref_number (left + 1) (map string_bytes (drop left refs)) full other → new ≡ (if bytes_eq full (string_bytes s) then row_code tables.TypeRef row else old)
    → new ≡ ref_number (left - 1 + 1) (map string_bytes (drop (left - 1) refs)) full other
refs_down refs left row s full new old other some all r e o n =
    let back : left ≡ left - 1 + 1 = omega arith in
    let next : left + 1 ≡ suc left = omega arith in
    n ∙ ap (λ (k : ℕ). if bytes_eq full (string_bytes s) then row_code tables.TypeRef k else old) r
    ∙ ap (λ (k : ℕ). if bytes_eq full (string_bytes s) then row_code tables.TypeRef left else k) (o ∙ ap (λ (k : ℕ). ref_number k (map string_bytes (drop left refs)) full other) next)
    ∙ ap (λ (ss : List (String Global)). ref_number left (map string_bytes ss) full other) (sym (next_down refs left s some all e))
    ∙ ap (λ (k : ℕ). ref_number k (map string_bytes (drop (left - 1) refs)) full other) back

pub types_down : (types : List (List ℕ)) (left row : ℕ) (s full : List ℕ) (new old other : ℕ) → 0 < left → left ≤ length types → row ≡ left + 1 → s ≡ get_or types (left - 1) s
    → old ≡ def_number (left + 2) (drop left types) full other → new ≡ (if bytes_eq full s && not (is_outside s) then row_code tables.TypeDef row else old)
    → new ≡ def_number (left - 1 + 2) (drop (left - 1) types) full other
types_down types left row s full new old other some all r e o n =
    let back : left + 1 ≡ left - 1 + 2 = omega arith in
    let next : left + 2 ≡ suc (left + 1) = omega arith in
    n ∙ ap (λ (k : ℕ). if bytes_eq full s && not (is_outside s) then row_code tables.TypeDef k else old) r
    ∙ ap (λ (k : ℕ). if bytes_eq full s && not (is_outside s) then row_code tables.TypeDef (left + 1) else k) (o ∙ ap (λ (k : ℕ). def_number k (drop left types) full other) next)
    ∙ ap (λ (ss : List (List ℕ)). def_number (left + 1) ss full other) (sym (next_down types left s some all e))
    ∙ ap (λ (k : ℕ). def_number k (drop (left - 1) types) full other) back

pub rows_down : (uses : List TypeUse) (left row : ℕ) (v : TypeUse) (u : UseTree) (new old : Option ℕ) → 0 < left → left ≤ length uses → row ≡ left → v ≡ get_or uses (left - 1) v
    → old ≡ row_among (left + 1) (map tree_of (drop left uses)) u → new ≡ (if same_use u (tree_of v) then Some row else old)
    → new ≡ row_among (left - 1 + 1) (map tree_of (drop (left - 1) uses)) u
rows_down uses left row v u new old some all r e o n =
    let back : left ≡ left - 1 + 1 = omega arith in
    let next : left + 1 ≡ suc left = omega arith in
    n ∙ ap (λ (k : ℕ). if same_use u (tree_of v) then Some k else old) r
    ∙ ap (λ (k : Option ℕ). if same_use u (tree_of v) then Some left else k) (o ∙ ap (λ (k : ℕ). row_among k (map tree_of (drop left uses)) u) next)
    ∙ ap (λ (vs : List TypeUse). row_among left (map tree_of vs) u) (sym (next_down uses left v some all e))
    ∙ ap (λ (k : ℕ). row_among k (map tree_of (drop (left - 1) uses)) u) back

-- ---- a row is put under a key

abbrev Key : Type 0
Key = Vec ℕ Global

-- the rows under other keys are there as before
other_rows : (k : Key) (old new : List (Key × ℕ)) → KeepsOthers key_eq (key_eq k) old new → (other : Key → Bool) → IsKeyTest key_eq other → AreApart (key_eq k) other → lookup other new ≡ lookup other old
unfolding KeepsOthers
other_rows k old new h = h

put_under : (bs : List ℕ) (k : Key) (row : ℕ) (m n : KeyedRows) → Updates key_eq m n k (Some row) → row_under n bs ≡ (if bytes_eq bs k.items then Some row else row_under m bs)
put_under bs k row m n u =
    elim (either (bytes_eq bs k.items)) [
      | inl t ↦ ap (row_under n) ((bytes_decides bs k.items).0 t) ∙ u.1 ∙ rw t refl
      | inr t ↦
          other_rows k m.entries n.entries u.3 (λ x. bytes_eq bs x.items) (λ x y e. ap (λ (w : List ℕ). bytes_eq w y.items) ((bytes_decides bs x.items).0 e))
          (λ x e. ap (bytes_eq bs) (sym ((bytes_decides k.items x.items).0 e)) ∙ t)
          ∙ rw t refl
    ]

-- the row of a use
pub row_put : (u v : UseTree) (k : Key) (row : ℕ) (m n : KeyedRows) → k.items ≡ key_of v → Updates key_eq m n k (Some row)
    → row_under n (key_of u) ≡ (if same_use u v then Some row else row_under m (key_of u))
row_put u v k row m n e h = put_under (key_of u) k row m n h ∙ ap (λ (b : Bool). if b then Some row else row_under m (key_of u)) (ap (bytes_eq (key_of u)) e ∙ key_same u v)
