-- Names lead to the types of these names.
use Rattle.std.proofs.Common.{◌≡◌, ℕ, suc, ◌+◌, ◌*◌, ◌/◌, ◌%◌, ◌^◌, ◌<◌, Bool, true, false, List, [], ◌∷◌, ◌++◌, length, map, Ok, refl, sym, ap, subst, ◌∙◌, append_assoc, arith, inl, inr}
use Rattle.std.specs.Prelude.{bytes_eq, ⊤}
use Rattle.std.specs.List.{list_any, flat_map}
use Rattle.std.proofs.lemmas.Slice.Eq.{bytes_eq-Decides}
use Rattle.std.proofs.lemmas.List.Concat.{flat_map-cons}
use Rattle.md_schema.specs.declared.table.Table.{Table}
use Rattle.md_schema.specs.declared.table.Table.TheVariants as tables
use Rattle.wr_base.specs.Parts.{behind_last, before_last}
use Rattle.winmd_rows.specs.Values.{Value}
use Rattle.winmd_lines.specs.Lines.{Line}
use Rattle.winmd_sets.specs.Declared.{first_lines, lines_of, own_line, body_lines}
use Rattle.winmd_lines.specs.Names.{Names, Counts, none, is_in, behind, place, is_declared, token_of}
use Rattle.winmd_lines.specs.Positions.{behind_all, NoneIn}
use Rattle.winmd_lines.specs.Cells.{Tables, joined, named_at}
use Rattle.winmd_sets.specs.Rows.{ref_line, maker_line, spec_line, made_lines, all_lines}
use Rattle.wr_base.specs.Trees.{DeclTree, name_of}
use Rattle.winmd_lines.specs.Positions.{Plain}
use Rattle.winmd_lines.proofs.LineLaws.{either, row_is, map-append, behind_all-append, behind-none}
use Rattle.winmd_sets.proofs.BlobLaws.{Knows}

-- ---- the first that passes

pub record Found {A : Type 0} (passes : A → Bool) (xs : List A) : Type 0 where
  pub front : List A
  pub item : A
  pub back : List A
  pub split : xs ≡ front ++ item ∷ back
  pub is : passes item ≡ true
  pub at : length front ≡ place passes xs

found_behind : {A : Type 0} (passes : A → Bool) (x : A) (xs : List A) → passes x ≡ false → Found passes xs → Found passes (x ∷ xs)
found_behind passes x xs e f = record {
  front = x ∷ f.front;
  item = f.item;
  back = f.back;
  split = ap (λ r. x ∷ r) f.split;
  is = f.is;
  at = rw e (ap suc f.at);
}

pub found : {A : Type 0} (passes : A → Bool) (xs : List A) → list_any passes xs ≡ true → Found passes xs
found passes [] h = absurd cc
found passes (x ∷ xs) h =
    elim (either (passes x)) [
      | inl e ↦ record { front = []; item = x; back = xs; split = refl; is = e; at = rw e refl }
      | inr e ↦ found_behind passes x xs e (found passes xs (rw e at h))
    ]

-- a name that two parts make
abbrev pub TwoParts : List ℕ → Type 0
TwoParts full = joined (before_last 46 full) (behind_last 46 full) ≡ full

-- ---- TypeRefs

refs_behind : (before : Counts) (xs : List (List ℕ)) → behind_all before (map ref_line xs) tables.TypeRef ≡ before tables.TypeRef + length xs
refs_behind before [] = omega arith
refs_behind before (x ∷ xs) = let rest = refs_behind (behind before (ref_line x)) xs in omega (arith, rest)

pub ref_named : (t : Tables) (names : Names) (lines rest : List Line) (full : List ℕ) (offset : ℕ) → Plain t names lines tables.TypeRef → lines ≡ map ref_line names.refs ++ rest → list_any (bytes_eq full) names.refs ≡ true → TwoParts full
    → named_at t offset (Value.To tables.TypeRef (suc (place (bytes_eq full) names.refs))) ≡ Ok full
ref_named t names lines rest full offset p e among parts =
    let f = found (bytes_eq full) names.refs among in
    let is : full ≡ f.item = (bytes_eq-Decides full f.item).0 f.is in
    let split : lines ≡ map ref_line f.front ++ ref_line f.item ∷ (map ref_line f.back ++ rest) =
    e ∙ ap (λ (r : List (List ℕ)). map ref_line r ++ rest) f.split ∙ ap (λ (r : List Line). r ++ rest) (map-append ref_line f.front (f.item ∷ f.back)) ∙ append_assoc (map ref_line f.front) (map ref_line (f.item ∷ f.back)) rest in
    let at : behind_all none (map ref_line f.front) tables.TypeRef ≡ place (bytes_eq full) names.refs = (let b = refs_behind none f.front in let l = f.at in omega (arith, b, l)) in
    let row = row_is t names lines (map ref_line f.front) (ref_line f.item) (map ref_line f.back ++ rest) tables.TypeRef offset p split refl in
    let name : joined (before_last 46 f.item) (behind_last 46 f.item) ≡ full = subst (λ (x : List ℕ). joined (before_last 46 x) (behind_last 46 x) ≡ full) is parts in
    rw (sym at, row, name) refl

code_ref : (n : ℕ) → (n * 2 ^ 2 + 1) % 2 ^ 2 ≡ 1
code_ref n = omega arith

row_ref : (n : ℕ) → (n * 2 ^ 2 + 1) / 2 ^ 2 ≡ n
row_ref n = omega arith

pub ref_known : (t : Tables) (names : Names) (lines rest : List Line) (full : List ℕ) → Plain t names lines tables.TypeRef → lines ≡ map ref_line names.refs ++ rest → list_any (bytes_eq full) names.refs ≡ true → TwoParts full
    → is_declared names.types full ≡ false → place (bytes_eq full) names.refs < 2 ^ 26 → Knows t names full
ref_known t names lines rest full p e among parts outside few =
    let n : ℕ = suc (place (bytes_eq full) names.refs) in
    let token : ℕ = n * 2 ^ 2 + 1 in
    let small : token < 2 ^ 29 = omega (arith, few) in
    let named = ref_named t names lines rest full 0 p e among parts in
    let is : token_of names full ≡ token = rw outside refl in
    let low : token_of names full < 2 ^ 29 = subst (λ (x : ℕ). x < 2 ^ 29) (sym is) small in
    (low, rw (is, code_ref n, row_ref n, named) refl)

-- ---- TypeDefs

none_append : (table : Table) (xs ys : List Line) → NoneIn table xs → NoneIn table ys → NoneIn table (xs ++ ys)
none_append table [] ys h g = g
none_append table (x ∷ xs) ys h g = (h.0, none_append table xs ys h.1 g)

none_map : {A : Type 0} (table : Table) (f : A → Line) → ((x : A) → is_in table (f x) ≡ false) → (xs : List A) → NoneIn table (map f xs)
none_map table f h [] = tt
none_map table f h (x ∷ xs) = (h x, none_map table f h xs)

-- no declaration writes a TypeDef besides its own
abbrev pub OneEach : List DeclTree → Type 0
OneEach [] = ⊤
OneEach (d ∷ ds) = NoneIn tables.TypeDef (body_lines d) × OneEach ds

types_behind : (before : Counts) (ds : List DeclTree) → OneEach ds → behind_all before (flat_map lines_of ds) tables.TypeDef ≡ before tables.TypeDef + length ds
types_behind before [] h = omega arith
types_behind before (d ∷ ds) h =
    let own : behind_all (behind before (own_line d)) (body_lines d) tables.TypeDef ≡ suc (before tables.TypeDef) = behind-none (behind before (own_line d)) (body_lines d) tables.TypeDef h.0 in
    let rest = types_behind (behind_all (behind before (own_line d)) (body_lines d)) ds h.1 in
    let e : behind_all before (flat_map lines_of (d ∷ ds)) ≡ behind_all (behind_all (behind before (own_line d)) (body_lines d)) (flat_map lines_of ds) =
    ap (behind_all before) (flat_map-cons lines_of d ds) ∙ behind_all-append before (lines_of d) (flat_map lines_of ds) in
    ap (λ (c : Counts). c tables.TypeDef) e ∙ omega (arith, rest, own)

pub flat_map-append : (xs ys : List DeclTree) → flat_map lines_of (xs ++ ys) ≡ flat_map lines_of xs ++ flat_map lines_of ys
flat_map-append [] ys = refl
flat_map-append (x ∷ xs) ys = flat_map-cons lines_of x (xs ++ ys) ∙ ap (λ (r : List Line). lines_of x ++ r) (flat_map-append xs ys) ∙ sym (append_assoc (lines_of x) (flat_map lines_of xs) (flat_map lines_of ys)) ∙ ap (λ (r : List Line). r ++ flat_map lines_of ys) (sym (flat_map-cons lines_of x xs))

each_front : (xs : List DeclTree) (ys : List DeclTree) → OneEach (xs ++ ys) → OneEach xs
each_front [] ys h = tt
each_front (x ∷ xs) ys h = (h.0, each_front xs ys h.1)

-- the lines of references, and those that every image begins with
abbrev pub before_types : Names → List Line
before_types names = map ref_line names.refs ++ (made_lines names.specs names.makers ++ first_lines)

pub no_type_before : (names : Names) → NoneIn tables.TypeDef (map ref_line names.refs ++ made_lines names.specs names.makers)
no_type_before names = none_append tables.TypeDef (map ref_line names.refs) (made_lines names.specs names.makers) (none_map tables.TypeDef ref_line (λ x. refl) names.refs)
    (none_append tables.TypeDef (map maker_line names.makers) (map spec_line names.specs) (none_map tables.TypeDef maker_line (λ x. refl) names.makers) (none_map tables.TypeDef spec_line (λ x. refl) names.specs))

-- they end with one TypeDef
pub first_behind : (names : Names) → behind_all none (before_types names) tables.TypeDef ≡ 1
first_behind names =
    let refs : List Line = map ref_line names.refs in
    let made : List Line = made_lines names.specs names.makers in
    let e : before_types names ≡ (refs ++ made) ++ first_lines = sym (append_assoc refs made first_lines) in
    let zero_ : behind_all none (refs ++ made) tables.TypeDef ≡ 0 = behind-none none (refs ++ made) tables.TypeDef (no_type_before names) in
    ap (λ (ls : List Line). behind_all none ls tables.TypeDef) e ∙ ap (λ (c : Counts). c tables.TypeDef) (behind_all-append none (refs ++ made) first_lines) ∙ ap suc zero_

-- ---- where a declaration stands

pub types_split : (names : Names) (front : List DeclTree) (d : DeclTree) (back : List DeclTree)
    → all_lines names (front ++ d ∷ back) ≡ (before_types names ++ flat_map lines_of front) ++ own_line d ∷ (body_lines d ++ flat_map lines_of back)
types_split names front d back =
    let refs : List Line = map ref_line names.refs in
    let made : List Line = made_lines names.specs names.makers in
    let f : List Line = flat_map lines_of front in
    let r : List Line = own_line d ∷ (body_lines d ++ flat_map lines_of back) in
    let e : flat_map lines_of (front ++ d ∷ back) ≡ f ++ r = flat_map-append front (d ∷ back) ∙ ap (λ (x : List Line). f ++ x) (flat_map-cons lines_of d back) in
    ap (λ (x : List Line). refs ++ (made ++ (first_lines ++ x))) e
    ∙ ap (λ (x : List Line). refs ++ (made ++ x)) (sym (append_assoc first_lines f r))
    ∙ ap (λ (x : List Line). refs ++ x) (sym (append_assoc made (first_lines ++ f) r) ∙ ap (λ (x : List Line). x ++ r) (sym (append_assoc made first_lines f)))
    ∙ sym (append_assoc refs ((made ++ first_lines) ++ f) r) ∙ ap (λ (x : List Line). x ++ r) (sym (append_assoc refs (made ++ first_lines) f))

pub types_number : (names : Names) (front : List DeclTree) → OneEach front → behind_all none (before_types names ++ flat_map lines_of front) tables.TypeDef ≡ suc (length front)
types_number names front h =
    let first = first_behind names in
    let rest = types_behind (behind_all none (before_types names)) front h in
    ap (λ (c : Counts). c tables.TypeDef) (behind_all-append none (before_types names) (flat_map lines_of front)) ∙ omega (arith, first, rest)

place-map : {A : Type 0} (f : A → List ℕ) (passes : List ℕ → Bool) (xs : List A) → place passes (map f xs) ≡ place (λ x. passes (f x)) xs
place-map f passes [] = refl
place-map f passes (x ∷ xs) =
    elim (either (passes (f x))) [
      | inl e ↦ rw e refl
      | inr e ↦ rw e (ap suc (place-map f passes xs))
    ]

any-map : {A : Type 0} (f : A → List ℕ) (passes : List ℕ → Bool) (xs : List A) → list_any passes (map f xs) ≡ true → list_any (λ x. passes (f x)) xs ≡ true
any-map f passes [] h = absurd cc
any-map f passes (x ∷ xs) h =
    elim (either (passes (f x))) [
      | inl e ↦ rw e refl
      | inr e ↦ rw e (any-map f passes xs (rw e at h))
    ]

pub type_named : (t : Tables) (names : Names) (ds : List DeclTree) (full : List ℕ) (offset : ℕ) → Plain t names (all_lines names ds) tables.TypeDef → OneEach ds → list_any (bytes_eq full) (map name_of ds) ≡ true → TwoParts full
    → named_at t offset (Value.To tables.TypeDef (suc (suc (place (bytes_eq full) (map name_of ds))))) ≡ Ok full
type_named t names ds full offset p one among parts =
    let f = found (λ (d : DeclTree). bytes_eq full (name_of d)) ds (any-map name_of (bytes_eq full) ds among) in
    let is : full ≡ name_of f.item = (bytes_eq-Decides full (name_of f.item)).0 f.is in
    let pre : List Line = before_types names ++ flat_map lines_of f.front in
    let split : all_lines names ds ≡ pre ++ own_line f.item ∷ (body_lines f.item ++ flat_map lines_of f.back) = ap (all_lines names) f.split ∙ types_split names f.front f.item f.back in
    let at : behind_all none pre tables.TypeDef ≡ suc (place (bytes_eq full) (map name_of ds)) =
    types_number names f.front (each_front f.front (f.item ∷ f.back) (subst OneEach f.split one)) ∙ ap suc (f.at ∙ sym (place-map name_of (bytes_eq full) ds)) in
    let row = row_is t names (all_lines names ds) pre (own_line f.item) (body_lines f.item ++ flat_map lines_of f.back) tables.TypeDef offset p split refl in
    let name : joined (before_last 46 (name_of f.item)) (behind_last 46 (name_of f.item)) ≡ full = subst (λ (x : List ℕ). joined (before_last 46 x) (behind_last 46 x) ≡ full) is parts in
    rw (sym at, row, name) refl

code_def : (n : ℕ) → (n * 2 ^ 2 + 0) % 2 ^ 2 ≡ 0
code_def n = omega arith

row_def : (n : ℕ) → (n * 2 ^ 2 + 0) / 2 ^ 2 ≡ n
row_def n = omega arith

pub type_known : (t : Tables) (names : Names) (ds : List DeclTree) (full : List ℕ) → names.types ≡ map name_of ds → Plain t names (all_lines names ds) tables.TypeDef → OneEach ds → list_any (bytes_eq full) (map name_of ds) ≡ true → TwoParts full
    → is_declared names.types full ≡ true → place (bytes_eq full) (map name_of ds) < 2 ^ 26 → Knows t names full
type_known t names ds full same p one among parts inside few =
    let n : ℕ = suc (suc (place (bytes_eq full) (map name_of ds))) in
    let token : ℕ = n * 2 ^ 2 + 0 in
    let small : token < 2 ^ 29 = omega (arith, few) in
    let named = type_named t names ds full 0 p one among parts in
    let is : token_of names full ≡ token = rw (inside, same) refl in
    let low : token_of names full < 2 ^ 29 = subst (λ (x : ℕ). x < 2 ^ 29) (sym is) small in
    (low, rw (is, code_def n, row_def n, named) refl)
