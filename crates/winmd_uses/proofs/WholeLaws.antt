-- What a whole set uses.
use Rattle.std.proofs.Common.{◌≡◌, ℕ, Bool, true, false, List, [], ◌∷◌, ◌++◌, map, get_or, refl, sym, ap, subst, ◌∙◌, inl, inr}
use Rattle.std.specs.Prelude.{◌||◌, ◌&&◌, not}
use Rattle.std.specs.List.{list_any, flat_map, filter}
use Rattle.std.specs.Str.{bytes_eq}
use Rattle.std.specs.Ordering.{nat_cmp}
use Rattle.std.specs.Cmp.Lexicographic.{slice_cmp}
use Rattle.std.specs.declared.cmp.Ordering.{Ordering}
use Rattle.std.specs.declared.cmp.Ordering.TheVariants.{Less, Equal, Greater}
use Rattle.std.proofs.lemmas.List.Concat.{flat_map-append}
use Rattle.std.proofs.lemmas.List.Folds.{list_any-append}
use Rattle.wr_base.specs.Declarations as declared
use Rattle.wr_base.specs.Trees.{UseTree, DeclTree, decl_tree, name_of, same_use, text_of_tree}
use Rattle.wr_base.proofs.TreeLaws.{name_of-decl_tree, same_use-is}
use Rattle.winmd_lines.specs.Lines.{Drawn, Line}
use Rattle.std.proofs.lemmas.Bool.{eqb-true}
use Rattle.winmd_lines.specs.Makers.{Maker, maker_number, Flags, Activatable, Factory, Default, ExclusiveTo, Guid, Overload, Static, Version, all_makers}
use Rattle.winmd_lines.specs.Names.{is_declared, is_maker, used, names_in_cell, specs_in_cell, makers_in_cell}
use Rattle.winmd_uses.proofs.TakeLaws.{Same, each, either, lines_both, same_both, same_refl, same_trans}
use Rattle.wr_base.specs.declared.declaration.Declaration.{Declaration}
use Rattle.winmd_uses.specs.Kinds.{nothing}
use Rattle.winmd_sets.specs.Declared.{lines_of}
use Rattle.winmd_sets.specs.Rows.{once, by_text, insert_by_text, placed_by_text, maker_line, spec_line, made_lines, own_lines, used_makers, used_specs}
use Rattle.winmd_uses.specs.Takes.{IsEmpty, Takes, add_each, both, is_foreign, lines_say, named_by}
use Rattle.winmd_uses.specs.Uses.{IsUsed, lines_behind}
use Rattle.winmd_uses.specs.declared.used.Used.{Used}
use Rattle.winmd_uses.proofs.AddLaws.{added_once}

-- ---- names in the rows of constructors and instances

module _ (name : List ℕ) where
  -- the lines name it
  abbrev in_lines : List Line → Bool
  in_lines ls = list_any (bytes_eq name) (used names_in_cell ls)

  in_both : (xs ys : List Line) → in_lines (xs ++ ys) ≡ (in_lines xs || in_lines ys)
  in_both xs ys = ap (list_any (bytes_eq name)) (flat_map-append (λ l. flat_map names_in_cell l.cells) xs ys) ∙ list_any-append (bytes_eq name) (used names_in_cell xs) (used names_in_cell ys)

  -- one of the items' lines names it
  mapped : {A : Type 0} (f : A → Line) (xs : List A) → in_lines (map f xs) ≡ list_any (λ x. in_lines (f x ∷ [])) xs
  mapped f [] = refl
  mapped f (x ∷ xs) = in_both (f x ∷ []) (map f xs) ∙ ap (λ (b : Bool). in_lines (f x ∷ []) || b) (mapped f xs)

  abbrev of_maker : Maker → Bool
  of_maker m = in_lines (maker_line m ∷ [])

  abbrev of_spec : UseTree → Bool
  of_spec u = in_lines (spec_line u ∷ [])

  made_in : (us : List UseTree) (ms : List Maker) → in_lines (made_lines us ms) ≡ (list_any of_maker ms || list_any of_spec us)
  made_in us ms = in_both (map maker_line ms) (map spec_line us) ∙ ap (λ (b : Bool). b || in_lines (map spec_line us)) (mapped maker_line ms) ∙ ap (λ (b : Bool). list_any of_maker ms || b) (mapped spec_line us)

  mixed : (a b c d e f : Bool) → ((a || (b || c)) || (d || (e || f))) ≡ ((a || d) || ((b || e) || (c || f)))
  mixed true b c d e f = refl
  mixed false true c true e f = refl
  mixed false true c false e f = refl
  mixed false false true true e f = refl
  mixed false false true false true f = refl
  mixed false false true false false f = refl
  mixed false false false true e f = refl
  mixed false false false false e f = refl

  -- what is said of names, of the two parts of a list
  abbrev whole : List (List ℕ) → List Maker → List UseTree → Bool
  whole names ms us = list_any (bytes_eq name) names || (list_any of_maker ms || list_any of_spec us)

  whole_both : (xs ys : List (List ℕ)) (ms ns : List Maker) (us vs : List UseTree) → (whole xs ms us || whole ys ns vs) ≡ whole (xs ++ ys) (ms ++ ns) (us ++ vs)
  whole_both xs ys ms ns us vs =
      mixed (list_any (bytes_eq name) xs) (list_any of_maker ms) (list_any of_spec us) (list_any (bytes_eq name) ys) (list_any of_maker ns) (list_any of_spec vs)
      ∙ ap (λ (b : Bool). b || ((list_any of_maker ms || list_any of_maker ns) || (list_any of_spec us || list_any of_spec vs))) (sym (list_any-append (bytes_eq name) xs ys))
      ∙ ap (λ (b : Bool). list_any (bytes_eq name) (xs ++ ys) || (b || (list_any of_spec us || list_any of_spec vs))) (sym (list_any-append of_maker ms ns))
      ∙ ap (λ (b : Bool). list_any (bytes_eq name) (xs ++ ys) || (list_any of_maker (ms ++ ns) || b)) (sym (list_any-append of_spec us vs))

  in_cell : (c : Drawn) → list_any (bytes_eq name) (named_by c) ≡ whole (names_in_cell c) (makers_in_cell c) (specs_in_cell c)
  in_cell c = list_any-append (bytes_eq name) (names_in_cell c) (used names_in_cell (made_lines (specs_in_cell c) (makers_in_cell c))) ∙ ap (λ (b : Bool). list_any (bytes_eq name) (names_in_cell c) || b) (made_in (specs_in_cell c) (makers_in_cell c))

  in_cells : (cs : List Drawn) → list_any (bytes_eq name) (flat_map named_by cs) ≡ whole (flat_map names_in_cell cs) (flat_map makers_in_cell cs) (flat_map specs_in_cell cs)
  in_cells [] = refl
  in_cells (c ∷ cs) =
      list_any-append (bytes_eq name) (named_by c) (flat_map named_by cs) ∙ ap (λ (b : Bool). b || list_any (bytes_eq name) (flat_map named_by cs)) (in_cell c)
      ∙ ap (λ (b : Bool). whole (names_in_cell c) (makers_in_cell c) (specs_in_cell c) || b) (in_cells cs)
      ∙ whole_both (names_in_cell c) (flat_map names_in_cell cs) (makers_in_cell c) (flat_map makers_in_cell cs) (specs_in_cell c) (flat_map specs_in_cell cs)

  in_all : (ls : List Line) → list_any (bytes_eq name) (used named_by ls) ≡ whole (used names_in_cell ls) (used makers_in_cell ls) (used specs_in_cell ls)
  in_all [] = refl
  in_all (l ∷ ls) =
      list_any-append (bytes_eq name) (flat_map named_by l.cells) (used named_by ls) ∙ ap (λ (b : Bool). b || list_any (bytes_eq name) (used named_by ls)) (in_cells l.cells)
      ∙ ap (λ (b : Bool). whole (flat_map names_in_cell l.cells) (flat_map makers_in_cell l.cells) (flat_map specs_in_cell l.cells) || b) (in_all ls)
      ∙ whole_both (flat_map names_in_cell l.cells) (used names_in_cell ls) (flat_map makers_in_cell l.cells) (used makers_in_cell ls) (flat_map specs_in_cell l.cells) (used specs_in_cell ls)

-- ---- once and in order, the same are there

swapped : (a b c : Bool) → (a || (b || c)) ≡ (b || (a || c))
swapped true true c = refl
swapped true false c = refl
swapped false true c = refl
swapped false false c = refl

placed_any : (p : UseTree → Bool) (x y : UseTree) (ys inserted : List UseTree) (o : Ordering) → list_any p inserted ≡ list_any p (x ∷ ys) → list_any p (placed_by_text o x y ys inserted) ≡ list_any p (x ∷ y ∷ ys)
placed_any p x y ys inserted Less h = refl
placed_any p x y ys inserted Equal h = refl
placed_any p x y ys inserted Greater h = ap (λ (b : Bool). p y || b) h ∙ swapped (p y) (p x) (list_any p ys)

insert_any : (p : UseTree → Bool) (x : UseTree) (ys : List UseTree) → list_any p (insert_by_text x ys) ≡ list_any p (x ∷ ys)
insert_any p x [] = refl
insert_any p x (y ∷ ys) = placed_any p x y ys (insert_by_text x ys) (slice_cmp nat_cmp (text_of_tree x) (text_of_tree y)) (insert_any p x ys)

by_text_any : (p : UseTree → Bool) (xs : List UseTree) → list_any p (by_text xs) ≡ list_any p xs
by_text_any p [] = refl
by_text_any p (x ∷ xs) = insert_any p x (by_text xs) ∙ ap (λ (b : Bool). p x || b) (by_text_any p xs)

without_any : (p : UseTree → Bool) (x : UseTree) → p x ≡ false → (ys : List UseTree) → list_any p (filter (λ y. not (same_use x y)) ys) ≡ list_any p ys
without_any p x h [] = refl
without_any p x h (y ∷ ys) =
    elim (either (same_use x y)) [
      | inl e ↦ (let is : x ≡ y = same_use-is x y e in let g : p y ≡ false = ap p (sym is) ∙ h in rw (e, g) (without_any p x h ys))
      | inr e ↦ rw e (ap (λ (b : Bool). p y || b) (without_any p x h ys))
    ]

once_any : (p : UseTree → Bool) (xs : List UseTree) → list_any p (once xs) ≡ list_any p xs
once_any p [] = refl
once_any p (x ∷ xs) =
    elim (either (p x)) [
      | inl e ↦ rw e refl
      | inr e ↦ rw e (without_any p x e (once xs) ∙ once_any p xs)
    ]

all_there : (m : Maker) → list_any (is_maker m) all_makers ≡ true
all_there Flags = refl
all_there Activatable = refl
all_there Factory = refl
all_there Default = refl
all_there ExclusiveTo = refl
all_there Guid = refl
all_there Overload = refl
all_there Static = refl
all_there Version = refl

is_maker-refl : (m : Maker) → is_maker m m ≡ true
is_maker-refl Flags = refl
is_maker-refl Activatable = refl
is_maker-refl Factory = refl
is_maker-refl Default = refl
is_maker-refl ExclusiveTo = refl
is_maker-refl Guid = refl
is_maker-refl Overload = refl
is_maker-refl Static = refl
is_maker-refl Version = refl

maker_is : (m : Maker) → get_or all_makers (maker_number m) Flags ≡ m
maker_is Flags = refl
maker_is Activatable = refl
maker_is Factory = refl
maker_is Default = refl
maker_is ExclusiveTo = refl
maker_is Guid = refl
maker_is Overload = refl
maker_is Static = refl
maker_is Version = refl

-- constructors of one number are one
same_maker : (a b : Maker) → is_maker a b ≡ true → a ≡ b
same_maker a b h = sym (maker_is a) ∙ ap (λ (n : ℕ). get_or all_makers n Flags) (eqb-true (maker_number a) (maker_number b) h) ∙ maker_is b

or_right : (a b : Bool) → b ≡ true → (a || b) ≡ true
or_right true b h = refl
or_right false b h = h

any_filter : {A : Type 0} (p q : A → Bool) (xs : List A) → ((x : A) → p x ≡ true → q x ≡ true) → list_any p xs ≡ true → list_any p (filter q xs) ≡ true
any_filter p q [] g h = absurd cc
any_filter p q (x ∷ xs) g h =
    elim (either (p x)) [
      | inl e ↦ rw (g x e, e) refl
      | inr e ↦
          let rest = any_filter p q xs g (rw e at h) in
          elim (either (q x)) [
            | inl k ↦ rw k (or_right (p x) (list_any p (filter q xs)) rest)
            | inr k ↦ rw k rest
          ]
    ]

-- one that passes is there
there : {A : Type 0} (p : A → Bool) (xs : List A) → list_any p xs ≡ true → (x : A) × (p x ≡ true) × ((q : A → Bool) → q x ≡ true → list_any q xs ≡ true)
there p [] h = absurd cc
there p (x ∷ xs) h =
    elim (either (p x)) [
      | inl e ↦ (x, e, λ q g. rw g refl)
      | inr e ↦ (let t = there p xs (rw e at h) in (t.0, t.1, λ q g. or_right (q x) (list_any q xs) (t.2 q g)))
    ]

of_used : (p : Maker → Bool) (ms : List Maker) → list_any p ms ≡ true → list_any p (filter (λ m. list_any (is_maker m) ms) all_makers) ≡ true
of_used p ms h =
    let t = there p ms h in
    let m : Maker = t.0 in
    let passes : (x : Maker) → is_maker m x ≡ true → p x ≡ true = λ x e. subst (λ y. p y ≡ true) (same_maker m x e) t.1 in
    let found : list_any (is_maker m) (filter (λ m. list_any (is_maker m) ms) all_makers) ≡ true =
    any_filter (is_maker m) (λ m. list_any (is_maker m) ms) all_makers (λ x e. t.2 (is_maker x) (subst (λ y. is_maker y m ≡ true) (same_maker m x e) (is_maker-refl m))) (all_there m) in
    let s = there (is_maker m) (filter (λ m. list_any (is_maker m) ms) all_makers) found in
    s.2 p (passes s.0 s.1)

used_of : (p : Maker → Bool) (ms ns : List Maker) → list_any p (filter (λ m. list_any (is_maker m) ms) ns) ≡ true → list_any p ms ≡ true
used_of p ms [] h = absurd cc
used_of p ms (n ∷ ns) h =
    elim (either (list_any (is_maker n) ms)) [
      | inl e ↦ elim (either (p n)) [
        | inl g ↦ (let t = there (is_maker n) ms e in t.2 p (subst (λ y. p y ≡ true) (same_maker n t.0 t.1) g))
        | inr g ↦ used_of p ms ns (rw (e, g) at h)
      ]
      | inr e ↦ used_of p ms ns (rw e at h)
    ]

makers_any : (p : Maker → Bool) (ms : List Maker) → list_any p (filter (λ m. list_any (is_maker m) ms) all_makers) ≡ list_any p ms
makers_any p ms =
    elim (either (list_any p ms)) [
      | inl e ↦ of_used p ms e ∙ sym e
      | inr e ↦ elim (either (list_any p (filter (λ m. list_any (is_maker m) ms) all_makers))) [
        | inl g ↦ absurd (let t : list_any p ms ≡ true = used_of p ms all_makers g in cc)
        | inr g ↦ g ∙ sym e
      ]
    ]

-- ---- the whole set

pub names_are : (ds : List DeclTree) (name : List ℕ) → list_any (bytes_eq name) (used named_by (own_lines ds)) ≡ list_any (bytes_eq name) (used names_in_cell (lines_behind ds))
names_are ds name =
    let own : List Line = own_lines ds in
    in_all name own
    ∙ ap (λ (b : Bool). list_any (bytes_eq name) (used names_in_cell own) || (b || list_any (of_spec name) (used specs_in_cell own))) (sym (makers_any (of_maker name) (used makers_in_cell own)))
    ∙ ap (λ (b : Bool). list_any (bytes_eq name) (used names_in_cell own) || (list_any (of_maker name) (used_makers own) || b)) (sym (by_text_any (of_spec name) (once (used specs_in_cell own)) ∙ once_any (of_spec name) (used specs_in_cell own)))
    ∙ ap (λ (b : Bool). list_any (bytes_eq name) (used names_in_cell own) || b) (sym (made_in name (used_specs own) (used_makers own)))
    ∙ sym (in_both name own (made_lines (used_specs own) (used_makers own)))

pub same_names : (ds : List Declaration) → map declared.name_of ds ≡ map name_of (map decl_tree ds)
same_names [] = refl
same_names (d ∷ ds) = ap (λ (n : List ℕ). n ∷ map declared.name_of ds) (sym (name_of-decl_tree d)) ∙ ap (λ (ns : List (List ℕ)). name_of (decl_tree d) ∷ ns) (same_names ds)

pub whole_set : (types : List Declaration) (g h : Used) → g.types.now ≡ types → IsEmpty g → Takes (lines_say (flat_map lines_of (map decl_tree types))) g h → IsUsed (map decl_tree types) h
whole_set types g h t e x = (let ds : List DeclTree = map decl_tree types in record {
  names = λ name. x.names name ∙ ap (λ (b : Bool). b || (is_foreign g name && list_any (bytes_eq name) (used named_by (flat_map lines_of ds)))) (e.names name)
      ∙ ap (λ (b : Bool). is_foreign g name && b) (names_are ds name)
      ∙ ap (λ (ns : List (List ℕ)). not (is_declared ns name) && list_any (bytes_eq name) (used names_in_cell (lines_behind ds))) (ap (map declared.name_of) t ∙ same_names types);
  makers = λ maker. x.makers maker ∙ ap (λ (b : Bool). b || list_any (is_maker maker) (used makers_in_cell (flat_map lines_of ds))) (e.makers maker);
  specs = x.specs e.agrees ∙ ap (λ (us : List UseTree). add_each us (used specs_in_cell (flat_map lines_of ds))) e.specs ∙ added_once (used specs_in_cell (flat_map lines_of ds));
})

pub declarations_say : (ds : List Declaration) → Same (each (λ (d : Declaration). lines_say (lines_of (decl_tree d))) ds) (lines_say (flat_map lines_of (map decl_tree ds)))
declarations_say [] = same_refl nothing
declarations_say (d ∷ ds) =
    same_trans (both (lines_say (lines_of (decl_tree d))) (each (λ (e : Declaration). lines_say (lines_of (decl_tree e))) ds)) (both (lines_say (lines_of (decl_tree d))) (lines_say (flat_map lines_of (map decl_tree ds)))) (lines_say (flat_map lines_of (map decl_tree (d ∷ ds))))
    (same_both (lines_say (lines_of (decl_tree d))) (each (λ (e : Declaration). lines_say (lines_of (decl_tree e))) ds) (lines_say (lines_of (decl_tree d))) (lines_say (flat_map lines_of (map decl_tree ds))) (same_refl (lines_say (lines_of (decl_tree d)))) (declarations_say ds))
    (lines_both (lines_of (decl_tree d)) (flat_map lines_of (map decl_tree ds)))
