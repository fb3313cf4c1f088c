-- What lines use has its place among the names of a set.
use Rattle.std.proofs.Common.{◌≡◌, ℕ, Bool, true, false, List, [], ◌∷◌, ◌++◌, map, refl, sym, ap, subst, ◌∙◌, inl, inr}
use Rattle.std.specs.Prelude.{◌||◌, not, bytes_eq}
use Rattle.std.specs.List.{list_any, flat_map, filter}
use Rattle.std.specs.Ordering.{nat_cmp, is_eq}
use Rattle.std.specs.Cmp.Lexicographic.{slice_cmp}
use Rattle.std.specs.declared.cmp.Ordering.{Ordering}
use Rattle.std.specs.declared.cmp.Ordering.TheVariants.{Less, Equal, Greater}
use Rattle.std.proofs.lemmas.Map.Text.{is_eq-slice_cmp}
use Rattle.std.proofs.lemmas.Slice.Eq.{bytes_eq-Decides}
use Rattle.std.proofs.lemmas.Grind.{flat_map-append}
use Rattle.winmd_lines.specs.Lines.{Drawn, Line}
use Rattle.winmd_sets.specs.Declared.{first_lines, lines_of}
use Rattle.winmd_lines.specs.Makers.{Maker, Flags, Activatable, Factory, Default, ExclusiveTo, Guid, Overload, Static, Version, all_makers, maker_type}
use Rattle.winmd_lines.specs.Names.{Names, is_declared, is_maker, used, names_in_cell, makers_in_cell}
use Rattle.winmd_sets.specs.Rows.{maker_line, spec_line, made_lines, own_lines, used_makers, used_refs, names_of}
use Rattle.winmd_lines.specs.Orders.{set_by, insert_once, placed_once}
use Rattle.wr_base.specs.Trees.{DeclTree}
use Rattle.winmd_sets.proofs.AttributeLaws.{MakerOk, same_maker, outside}
use Rattle.winmd_lines.proofs.LineLaws.{either}

-- ---- one of a list passes

pub or_left : (a b : Bool) → a ≡ true → (a || b) ≡ true
or_left a b h = rw h refl

pub or_right : (a b : Bool) → b ≡ true → (a || b) ≡ true
or_right true b h = refl
or_right false b h = h

pub any_left : {A : Type 0} (p : A → Bool) (xs ys : List A) → list_any p xs ≡ true → list_any p (xs ++ ys) ≡ true
any_left p [] ys h = absurd cc
any_left p (x ∷ xs) ys h =
    elim (either (p x)) [
      | inl e ↦ or_left (p x) (list_any p (xs ++ ys)) e
      | inr e ↦ or_right (p x) (list_any p (xs ++ ys)) (any_left p xs ys (rw e at h))
    ]

pub any_right : {A : Type 0} (p : A → Bool) (xs ys : List A) → list_any p ys ≡ true → list_any p (xs ++ ys) ≡ true
any_right p [] ys h = h
any_right p (x ∷ xs) ys h = or_right (p x) (list_any p (xs ++ ys)) (any_right p xs ys h)

pub any_filter : {A : Type 0} (p q : A → Bool) (xs : List A) → ((x : A) → p x ≡ true → q x ≡ true) → list_any p xs ≡ true → list_any p (filter q xs) ≡ true
any_filter p q [] g h = absurd cc
any_filter p q (x ∷ xs) g h =
    elim (either (p x)) [
      | inl e ↦ rw (g x e) (or_left (p x) (list_any p (filter q xs)) e)
      | inr e ↦
          let rest = any_filter p q xs g (rw e at h) in
          elim (either (q x)) [
            | inl k ↦ rw k (or_right (p x) (list_any p (filter q xs)) rest)
            | inr k ↦ rw k rest
          ]
    ]

-- ---- each once, in order

placed : (full x y : List ℕ) (ys inserted : List (List ℕ)) (o : Ordering) → slice_cmp nat_cmp x y ≡ o → (bytes_eq full x || list_any (bytes_eq full) ys ≡ true → list_any (bytes_eq full) inserted ≡ true)
    → (bytes_eq full x || (bytes_eq full y || list_any (bytes_eq full) ys)) ≡ true → list_any (bytes_eq full) (placed_once o x y ys inserted) ≡ true
placed full x y ys inserted Less e g h = h
placed full x y ys inserted Equal e g h =
    let same : bytes_eq x y ≡ true = sym (is_eq-slice_cmp x y) ∙ ap is_eq e in
    let is : x ≡ y = (bytes_eq-Decides x y).0 same in
    elim (either (bytes_eq full x)) [
      | inl k ↦ or_left (bytes_eq full x) (list_any (bytes_eq full) ys) k
      | inr k ↦
          let k2 : bytes_eq full y ≡ false = ap (bytes_eq full) (sym is) ∙ k in
          let r = rw (k, k2) at h in or_right (bytes_eq full x) (list_any (bytes_eq full) ys) r
    ]
placed full x y ys inserted Greater e g h =
    elim (either (bytes_eq full y)) [
      | inl k ↦ or_left (bytes_eq full y) (list_any (bytes_eq full) inserted) k
      | inr k ↦ (let r = rw k at h in or_right (bytes_eq full y) (list_any (bytes_eq full) inserted) (g r))
    ]

any_insert : (full x : List ℕ) (ys : List (List ℕ)) → (bytes_eq full x || list_any (bytes_eq full) ys) ≡ true → list_any (bytes_eq full) (insert_once (λ n. n) x ys) ≡ true
any_insert full x [] h = h
any_insert full x (y ∷ ys) h = placed full x y ys (insert_once (λ n. n) x ys) (slice_cmp nat_cmp x y) refl (any_insert full x ys) h

any_set : (full : List ℕ) (xs : List (List ℕ)) → list_any (bytes_eq full) xs ≡ true → list_any (bytes_eq full) (set_by (λ n. n) xs) ≡ true
any_set full [] h = absurd cc
any_set full (x ∷ xs) h =
    elim (either (bytes_eq full x)) [
      | inl e ↦ any_insert full x (set_by (λ n. n) xs) (or_left (bytes_eq full x) (list_any (bytes_eq full) (set_by (λ n. n) xs)) e)
      | inr e ↦ any_insert full x (set_by (λ n. n) xs) (or_right (bytes_eq full x) (list_any (bytes_eq full) (set_by (λ n. n) xs)) (any_set full xs (rw e at h)))
    ]

-- ---- what lines use

pub used_left : {A : Type 0} (p : A → Bool) (f : Drawn → List A) (xs ys : List Line) → list_any p (used f xs) ≡ true → list_any p (used f (xs ++ ys)) ≡ true
used_left p f xs ys h = ap (list_any p) (flat_map-append (λ l. flat_map f l.cells) xs ys) ∙ any_left p (used f xs) (used f ys) h

pub used_right : {A : Type 0} (p : A → Bool) (f : Drawn → List A) (xs ys : List Line) → list_any p (used f ys) ≡ true → list_any p (used f (xs ++ ys)) ≡ true
used_right p f xs ys h = ap (list_any p) (flat_map-append (λ l. flat_map f l.cells) xs ys) ∙ any_right p (used f xs) (used f ys) h

-- a name that is used and isn't declared is a TypeRef
pub ref_used : (types : List (List ℕ)) (lines : List Line) (full : List ℕ) → list_any (bytes_eq full) (used names_in_cell lines) ≡ true → is_declared types full ≡ false → list_any (bytes_eq full) (used_refs types lines) ≡ true
ref_used types lines full h d =
    any_set full (filter (λ x. not (is_declared types x)) (used names_in_cell lines))
    (any_filter (bytes_eq full) (λ x. not (is_declared types x)) (used names_in_cell lines) (λ x e. let is : full ≡ x = (bytes_eq-Decides full x).0 e in ap (λ (n : List ℕ). not (is_declared types n)) (sym is) ∙ rw d refl) h)

all_there : (m : Maker) → list_any (is_maker m) all_makers ≡ true
all_there Flags = refl
all_there Activatable = refl
all_there Factory = refl
all_there Default = refl
all_there ExclusiveTo = refl
all_there Guid = refl
all_there Overload = refl
all_there Static = refl
all_there Version = refl

maker_used : (lines : List Line) (m : Maker) → list_any (is_maker m) (used makers_in_cell lines) ≡ true → list_any (is_maker m) (used_makers lines) ≡ true
maker_used lines m h = any_filter (is_maker m) (λ x. list_any (is_maker x) (used makers_in_cell lines)) all_makers (λ x e. let is : m ≡ x = same_maker m x e in subst (λ (y : Maker). list_any (is_maker y) (used makers_in_cell lines) ≡ true) is h) (all_there m)

name_of_maker : (makers : List Maker) (m : Maker) → list_any (is_maker m) makers ≡ true → list_any (bytes_eq (maker_type m)) (used names_in_cell (map maker_line makers)) ≡ true
name_of_maker [] m h = absurd cc
name_of_maker (x ∷ xs) m h =
    elim (either (is_maker m x)) [
      | inl e ↦
          let is : m ≡ x = same_maker m x e in
          let same : bytes_eq (maker_type m) (maker_type x) ≡ true = (bytes_eq-Decides (maker_type m) (maker_type x)).1 (ap maker_type is) in
          rw same refl
      | inr e ↦ used_right (bytes_eq (maker_type m)) names_in_cell (maker_line x ∷ []) (map maker_line xs) (name_of_maker xs m (rw e at h))
    ]

-- a constructor that is used has its MemberRef, and its type a TypeRef
pub maker_reached : (ds : List DeclTree) (m : Maker) → list_any (is_maker m) (used makers_in_cell (own_lines ds)) ≡ true → MakerOk (names_of ds) m
maker_reached ds m h =
    let names : Names = names_of ds in
    let own : List Line = own_lines ds in
    let in_makers : list_any (is_maker m) names.makers ≡ true = maker_used own m h in
    record {
      made = in_makers;
      named = ref_used names.types (own ++ made_lines names.specs names.makers) (maker_type m)
          (used_right (bytes_eq (maker_type m)) names_in_cell own (made_lines names.specs names.makers) (used_left (bytes_eq (maker_type m)) names_in_cell (map maker_line names.makers) (map spec_line names.specs) (name_of_maker names.makers m in_makers)))
          (outside names.types m);
    }

-- a declaration's lines are among them
pub used_in_set : {A : Type 0} (p : A → Bool) (f : Drawn → List A) (front : List DeclTree) (d : DeclTree) (back : List DeclTree) → list_any p (used f (lines_of d)) ≡ true → list_any p (used f (own_lines (front ++ d ∷ back))) ≡ true
used_in_set p f front d back h =
    let e : flat_map lines_of (front ++ d ∷ back) ≡ flat_map lines_of front ++ (lines_of d ++ flat_map lines_of back) = flat_map-append lines_of front (d ∷ back) in
    used_right p f first_lines (flat_map lines_of (front ++ d ∷ back)) (subst (λ (ls : List Line). list_any p (used f ls) ≡ true) (sym e) (used_right p f (flat_map lines_of front) (lines_of d ++ flat_map lines_of back) (used_left p f (lines_of d) (flat_map lines_of back) h)))
