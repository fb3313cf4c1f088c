-- What is taken one after the other.
use Rattle.std.proofs.Common.{◌≡◌, ℕ, ◌+◌, ◌<◌, ◌≤◌, Bool, true, false, List, [], ◌∷◌, ◌++◌, map, take, get_or, length, Result, Ok, Err, OnOk, Some, slice_get, refl, sym, ap, subst, ◌∙◌, append-nil, inl, inr}
use Rattle.std.specs.Prelude.{◌||◌, ◌&&◌, not, ◌⊎◌, String}
use Rattle.std.specs.BTreeSet.{BTreeSet, contains_text}
use Rattle.std.specs.Cmp.Lexicographic.{bytes_decides}
use Rattle.std.specs.declared.alloc.Global.{Global}
use Rattle.std.specs.List.{list_any, flat_map}
use Rattle.std.specs.Str.{bytes_eq}
use Rattle.std.proofs.lemmas.List.{take_more, take_all}
use Rattle.std.proofs.lemmas.List.Concat.{flat_map-append}
use Rattle.std.proofs.lemmas.List.Folds.{list_any-append}
use Rattle.std.proofs.lemmas.Option.{slice_get_within, same_Some, slice_get-get_or}
use Rattle.wr_base.specs.declared.declaration.Declaration.{Declaration}
use Rattle.wr_base.specs.Declarations.{name_of}
use Rattle.wr_base.specs.Trees.{UseTree, DeclTree}
use Rattle.winmd_sets.specs.Declared.{lines_of}
use Rattle.winmd_lines.specs.Lines.{Line, MadeBy}
use Rattle.winmd_lines.specs.Makers.{Maker, maker_number, maker_signature, maker_type}
use Rattle.winmd_lines.specs.UsedNames.{names_in_signature}
use Rattle.winmd_lines.specs.Names.{is_declared, is_maker, makers_in_cell, specs_in_cell}
use Rattle.winmd_uses.specs.Instances.{Adds, Agrees, add_once, all_of}
use Rattle.winmd_uses.specs.Kinds.{nothing}
use Rattle.winmd_uses.specs.Takes.{Says, Takes, add_each, both, cell_says, has_maker, has_name, instances_of, is_foreign, lines_say, maker_alone, named_by, names_alone, spec_alone}
use Rattle.winmd_uses.specs.declared.names.Names.{Names}
use Rattle.winmd_uses.specs.declared.used.Used.{Used}

pub either : (b : Bool) → (b ≡ true) ⊎ (b ≡ false)
either true = inl refl
either false = inr refl

pub or_assoc : (a b c : Bool) → ((a || b) || c) ≡ (a || (b || c))
or_assoc true b c = refl
or_assoc false b c = refl

pub or_false : (b : Bool) → (b || false) ≡ b
or_false true = refl
or_false false = refl

add_each-append : (us xs ys : List UseTree) → add_each us (xs ++ ys) ≡ add_each (add_each us xs) ys
add_each-append us [] ys = refl
add_each-append us (x ∷ xs) ys = add_each-append (add_once us x) xs ys

-- ---- the same is said

pub record Same (a b : Says) : Type 0 where
  pub names : (name : List ℕ) → list_any (bytes_eq name) a.names ≡ list_any (bytes_eq name) b.names
  pub makers : (maker : Maker) → list_any (is_maker maker) a.makers ≡ list_any (is_maker maker) b.makers
  pub specs : a.specs ≡ b.specs

pub same_refl : (a : Says) → Same a a
same_refl a = record { names = λ n. refl; makers = λ m. refl; specs = refl }

pub same_is : (a b : Says) → a ≡ b → Same a b
same_is a b e = subst (Same a) e (same_refl a)

pub same_lists : (a b : Says) → a.names ≡ b.names → a.makers ≡ b.makers → a.specs ≡ b.specs → Same a b
same_lists a b n m s = record { names = λ name. ap (list_any (bytes_eq name)) n; makers = λ maker. ap (list_any (is_maker maker)) m; specs = s }

pub same_trans : (a b c : Says) → Same a b → Same b c → Same a c
same_trans a b c x y = record { names = λ n. x.names n ∙ y.names n; makers = λ m. x.makers m ∙ y.makers m; specs = x.specs ∙ y.specs }

pub same_back : (a b : Says) → Same a b → Same b a
same_back a b x = record { names = λ n. sym (x.names n); makers = λ m. sym (x.makers m); specs = sym x.specs }

any_both : {A : Type 0} (p : A → Bool) (xs ys us vs : List A) → list_any p xs ≡ list_any p us → list_any p ys ≡ list_any p vs → list_any p (xs ++ ys) ≡ list_any p (us ++ vs)
any_both p xs ys us vs e f = list_any-append p xs ys ∙ ap (λ (b : Bool). b || list_any p ys) e ∙ ap (λ (b : Bool). list_any p us || b) f ∙ sym (list_any-append p us vs)

pub same_both : (a b c d : Says) → Same a c → Same b d → Same (both a b) (both c d)
same_both a b c d x y = record {
  names = λ n. any_both (bytes_eq n) a.names b.names c.names d.names (x.names n) (y.names n);
  makers = λ m. any_both (is_maker m) a.makers b.makers c.makers d.makers (x.makers m) (y.makers m);
  specs = ap (λ (us : List UseTree). us ++ b.specs) x.specs ∙ ap (λ (us : List UseTree). c.specs ++ us) y.specs;
}

-- said once more, where no instances are
pub same_again : (a b : Says) → a.specs ≡ [] → Same a b → Same (both a b) a
same_again a b none x = record {
  names = λ n. list_any-append (bytes_eq n) a.names b.names ∙ ap (λ (t : Bool). list_any (bytes_eq n) a.names || t) (sym (x.names n)) ∙ or_same (list_any (bytes_eq n) a.names);
  makers = λ m. list_any-append (is_maker m) a.makers b.makers ∙ ap (λ (t : Bool). list_any (is_maker m) a.makers || t) (sym (x.makers m)) ∙ or_same (list_any (is_maker m) a.makers);
  specs = ap (λ (us : List UseTree). a.specs ++ us) (sym x.specs ∙ none) ∙ append-nil a.specs;
}
  where
    or_same : (b : Bool) → (b || b) ≡ b
    or_same true = refl
    or_same false = refl

-- nothing more is said
pub same_none : (a : Says) → Same (both a nothing) a
same_none a = same_lists (both a nothing) a (append-nil a.names) (append-nil a.makers) (append-nil a.specs)

-- ---- nothing more, and one after the other

or_and_false : (a b : Bool) → (a || (b && false)) ≡ a
or_and_false true b = refl
or_and_false false true = refl
or_and_false false false = refl

or_and : (g p a b : Bool) → ((g || (p && a)) || (p && b)) ≡ (g || (p && (a || b)))
or_and true p a b = refl
or_and false true a b = refl
or_and false false a b = refl

-- a set of the same declarations leaves out the same names
foreign_same : (g h : Used) (name : List ℕ) → h.types.now ≡ g.types.now → is_foreign h name ≡ is_foreign g name
foreign_same g h name e = ap (λ (ds : List Declaration). not (is_declared (map name_of ds) name)) e

pub takes_none : (u : Used) → Takes nothing u u
takes_none u = record { types = refl; names = λ n. sym (or_and_false (has_name u n) (is_foreign u n)); makers = λ m. sym (or_false (has_maker u m)); agrees = λ a. a; specs = λ a. refl }

pub takes_as : (a b : Says) (g h : Used) → Same a b → Takes a g h → Takes b g h
takes_as a b g h s x = record {
  types = x.types;
  names = λ n. x.names n ∙ ap (λ (t : Bool). has_name g n || (is_foreign g n && t)) (s.names n);
  makers = λ m. x.makers m ∙ ap (λ (t : Bool). has_maker g m || t) (s.makers m);
  agrees = x.agrees;
  specs = λ e. x.specs e ∙ ap (add_each (instances_of g)) s.specs;
}

pub takes_then : (a b : Says) (g h k : Used) → Takes a g h → Takes b h k → Takes (both a b) g k
takes_then a b g h k x y = record {
  types = y.types ∙ x.types;
  names = λ n. y.names n ∙ ap (λ (t : Bool). has_name h n || (t && list_any (bytes_eq n) b.names)) (foreign_same g h n x.types)
      ∙ ap (λ (t : Bool). t || (is_foreign g n && list_any (bytes_eq n) b.names)) (x.names n)
      ∙ or_and (has_name g n) (is_foreign g n) (list_any (bytes_eq n) a.names) (list_any (bytes_eq n) b.names)
      ∙ ap (λ (t : Bool). has_name g n || (is_foreign g n && t)) (sym (list_any-append (bytes_eq n) a.names b.names));
  makers = λ m. y.makers m ∙ ap (λ (t : Bool). t || list_any (is_maker m) b.makers) (x.makers m) ∙ or_assoc (has_maker g m) (list_any (is_maker m) a.makers) (list_any (is_maker m) b.makers)
      ∙ ap (λ (t : Bool). has_maker g m || t) (sym (list_any-append (is_maker m) a.makers b.makers));
  agrees = λ e. y.agrees (x.agrees e);
  specs = λ e. y.specs (x.agrees e) ∙ ap (λ (us : List UseTree). add_each us b.specs) (x.specs e) ∙ sym (add_each-append (instances_of g) a.specs b.specs);
}

-- a tail call behind what was taken
pub takes_last : {X : Type 0} (r : Result Unit X) (a b c : Says) (g h k : Used) → Same (both a b) c → Takes a g h → OnOk r (Takes b h k) → OnOk r (Takes c g k)
takes_last (Ok u) a b c g h k s x y = takes_as (both a b) c g k s (takes_then a b g h k x y)
takes_last (Err z) a b c g h k s x y = tt

-- behind two, and behind three
pub takes_last3 : {X : Type 0} (r : Result Unit X) (a b c d : Says) (g h k l : Used) → Same (both a (both b c)) d → Takes a g h → Takes b h k → OnOk r (Takes c k l) → OnOk r (Takes d g l)
takes_last3 (Ok u) a b c d g h k l s x y z = takes_as (both a (both b c)) d g l s (takes_then a (both b c) g h l x (takes_then b c h k l y z))
takes_last3 (Err w) a b c d g h k l s x y z = tt

pub takes_last4 : {X : Type 0} (r : Result Unit X) (a b c d e : Says) (g h k l m : Used) → Same (both a (both b (both c d))) e → Takes a g h → Takes b h k → Takes c k l → OnOk r (Takes d l m) → OnOk r (Takes e g m)
takes_last4 (Ok u) a b c d e g h k l m s x y z w = takes_as (both a (both b (both c d))) e g m s (takes_then a (both b (both c d)) g h m x (takes_then b (both c d) h k m y (takes_then c d k l m z w)))
takes_last4 (Err v) a b c d e g h k l m s x y z w = tt

-- a tail call alone
pub takes_only : {X : Type 0} (r : Result Unit X) (a b : Says) (g h : Used) → Same a b → OnOk r (Takes a g h) → OnOk r (Takes b g h)
takes_only (Ok u) a b g h s x = takes_as a b g h s x
takes_only (Err z) a b g h s x = tt

-- ---- loops

abbrev pub each : {X : Type 0} → (X → Says) → List X → Says
each f xs = record { names = flat_map (λ x. (f x).names) xs; makers = flat_map (λ x. (f x).makers) xs; specs = flat_map (λ x. (f x).specs) xs }

flat_one : {X Y : Type 0} (f : X → List Y) (xs : List X) (x : X) → flat_map f (xs ++ x ∷ []) ≡ flat_map f xs ++ f x
flat_one f xs x = flat_map-append f xs (x ∷ []) ∙ ap (λ ys. flat_map f xs ++ ys) (append-nil (f x))

each_more : {X : Type 0} (f : X → Says) (xs : List X) (x : X) → Same (both (each f xs) (f x)) (each f (xs ++ x ∷ []))
each_more f xs x = same_lists (both (each f xs) (f x)) (each f (xs ++ x ∷ [])) (sym (flat_one (λ y. (f y).names) xs x)) (sym (flat_one (λ y. (f y).makers) xs x)) (sym (flat_one (λ y. (f y).specs) xs x))

-- a loop's turn, at the item as it was read
pub takes_turn : {X : Type 0} (f : X → Says) (xs : List X) (i : ℕ) (x : X) (g h k : Used) → i < length xs → x ≡ get_or xs i x → Takes (each f (take i xs)) g h → Takes (f x) h k → Takes (each f (take (i + 1) xs)) g k
takes_turn f xs i x g h k l e a b =
    let more : take (i + 1) xs ≡ take i xs ++ x ∷ [] = take_more xs i x l ∙ ap (λ y. take i xs ++ y ∷ []) (sym e) in
    subst (λ ys. Takes (each f ys) g k) (sym more) (takes_as (both (each f (take i xs)) (f x)) (each f (take i xs ++ x ∷ [])) g k (each_more f (take i xs) x) (takes_then (each f (take i xs)) (f x) g h k a b))

-- the same, where the item is known by its place
pub takes_turn_at : {X : Type 0} (f : X → Says) (xs : List X) (i : ℕ) (x : X) (g h k : Used) → slice_get xs i ≡ Some x → Takes (each f (take i xs)) g h → Takes (f x) h k → Takes (each f (take (i + 1) xs)) g k
takes_turn_at f xs i x g h k at a b =
    let l : i < length xs = slice_get_within xs i x at in
    takes_turn f xs i x g h k l (same_Some x (get_or xs i x) (sym at ∙ slice_get-get_or xs i x l)) a b

-- a loop's end
pub takes_all : {X : Type 0} (f : X → Says) (xs : List X) (i : ℕ) (s : Says) (g h : Used) → length xs ≤ i → Same (each f xs) s → Takes (each f (take i xs)) g h → Takes s g h
takes_all f xs i s g h all e x = takes_as (each f xs) s g h e (subst (λ ys. Takes (each f ys) g h) (take_all i xs all) x)

-- ---- lists of lines

pub lines_both : (xs ys : List Line) → Same (both (lines_say xs) (lines_say ys)) (lines_say (xs ++ ys))
lines_both xs ys =
    same_lists (both (lines_say xs) (lines_say ys)) (lines_say (xs ++ ys)) (sym (flat_map-append (λ l. flat_map named_by l.cells) xs ys)) (sym (flat_map-append (λ l. flat_map makers_in_cell l.cells) xs ys)) (sym (flat_map-append (λ l. flat_map specs_in_cell l.cells) xs ys))

flat_of_flat : {X Y Z : Type 0} (f : Y → List Z) (h : X → List Y) (xs : List X) → flat_map (λ x. flat_map f (h x)) xs ≡ flat_map f (flat_map h xs)
flat_of_flat f h [] = refl
flat_of_flat f h (x ∷ xs) = ap (λ ys. flat_map f (h x) ++ ys) (flat_of_flat f h xs) ∙ sym (flat_map-append f (h x) (flat_map h xs))

-- each item's lines, one after the other
pub lines_each : {X : Type 0} (f : X → List Line) (xs : List X) → Same (each (λ x. lines_say (f x)) xs) (lines_say (flat_map f xs))
lines_each f xs =
    same_lists (each (λ x. lines_say (f x)) xs) (lines_say (flat_map f xs)) (flat_of_flat (λ l. flat_map named_by l.cells) f xs) (flat_of_flat (λ l. flat_map makers_in_cell l.cells) f xs) (flat_of_flat (λ l. flat_map specs_in_cell l.cells) f xs)

pub flat_of_map : {X Y Z : Type 0} (f : Y → List Z) (h : X → Y) (xs : List X) → flat_map (λ x. f (h x)) xs ≡ flat_map f (map h xs)
flat_of_map f h [] = refl
flat_of_map f h (x ∷ xs) = ap (λ ys. f (h x) ++ ys) (flat_of_map f h xs)

pub each_mapped : {X Y : Type 0} (f : Y → Says) (h : X → Y) (xs : List X) → Same (each (λ x. f (h x)) xs) (each f (map h xs))
each_mapped f h xs = same_lists (each (λ x. f (h x)) xs) (each f (map h xs)) (flat_of_map (λ y. (f y).names) h xs) (flat_of_map (λ y. (f y).makers) h xs) (flat_of_map (λ y. (f y).specs) h xs)

none_of_none : {X Y : Type 0} (f : X → List Y) → ((x : X) → f x ≡ []) → (xs : List X) → flat_map f xs ≡ []
none_of_none f h [] = refl
none_of_none f h (x ∷ xs) = ap (λ ys. ys ++ flat_map f xs) (h x) ∙ none_of_none f h xs

-- names alone, of each item
pub each_names : {X Y : Type 0} (f : Y → List (List ℕ)) (h : X → Y) (xs : List X) → Same (each (λ x. names_alone (f (h x))) xs) (names_alone (flat_map f (map h xs)))
each_names f h xs = same_lists (each (λ x. names_alone (f (h x))) xs) (names_alone (flat_map f (map h xs))) (flat_of_map f h xs) (none_of_none (λ x. (names_alone (f (h x))).makers) (λ x. refl) xs) (none_of_none (λ x. (names_alone (f (h x))).specs) (λ x. refl) xs)

-- ---- names and instances

or_true : (a : Bool) → (a || true) ≡ true
or_true true = refl
or_true false = refl

-- a name that the set doesn't declare is taken
pub takes_name : (name : List ℕ) (g h : Used) → is_foreign g name ≡ true → h.types ≡ g.types → ((other : List ℕ) → has_name h other ≡ (bytes_eq other name || has_name g other)) → h.makers ≡ g.makers → h.instances ≡ g.instances
    → Takes (names_alone (name ∷ [])) g h
takes_name name g h foreign t n m i = record {
  types = λ j. (t j).now;
  names = λ other. n other ∙ elim (either (bytes_eq other name)) [
    | inl e ↦ (let f : is_foreign g other ≡ true = ap (is_foreign g) ((bytes_decides other name).0 e) ∙ foreign in rw (e, f) (sym (or_true (has_name g other))))
    | inr e ↦ rw e (sym (or_and_false (has_name g other) (is_foreign g other)))
  ];
  makers = λ maker. ap (λ (ms : List Bool). get_or ms (maker_number maker) false) m ∙ sym (or_false (has_maker g maker));
  agrees = λ a. subst Agrees (sym i) a;
  specs = λ a. ap all_of i;
}

-- a name that is there, or that the set declares, is taken by doing nothing
pub takes_again : (name : List ℕ) (g : Used) → (has_name g name ≡ true) ⊎ (is_foreign g name ≡ false) → Takes (names_alone (name ∷ [])) g g
takes_again name g h = record {
  types = refl;
  names = λ other. elim (either (bytes_eq other name)) [
    | inl e ↦ same other ((bytes_decides other name).0 e) e h
    | inr e ↦ rw e (sym (or_and_false (has_name g other) (is_foreign g other)))
  ];
  makers = λ maker. sym (or_false (has_maker g maker));
  agrees = λ a. a;
  specs = λ a. refl;
}
  where
    same : (other : List ℕ) → other ≡ name → bytes_eq other name ≡ true → (has_name g name ≡ true) ⊎ (is_foreign g name ≡ false) → has_name g other ≡ (has_name g other || (is_foreign g other && (bytes_eq other name || false)))
    same other is e (inl t) = (let known : has_name g other ≡ true = ap (has_name g) is ∙ t in rw known refl)
    same other is e (inr t) = (let own : is_foreign g other ≡ false = ap (is_foreign g) is ∙ t in rw own (sym (or_false (has_name g other))))

-- an instance is taken
pub takes_instance : (u : UseTree) (g h : Used) → h.types ≡ g.types → h.names ≡ g.names → h.makers ≡ g.makers → Adds u g.instances h.instances → Takes (spec_alone u) g h
takes_instance u g h t n m a = record {
  types = λ j. (t j).now;
  names = λ other. ap (λ (s : Names). contains_text s.set other) n ∙ sym (or_and_false (has_name g other) (is_foreign g other));
  makers = λ maker. ap (λ (ms : List Bool). get_or ms (maker_number maker) false) m ∙ sym (or_false (has_maker g maker));
  agrees = a.agrees;
  specs = a.all;
}

-- nothing is taken where names, constructors and instances stay
pub takes_same : {X : Type 0} (r : Result Unit X) (g h : Used) → h.types ≡ g.types → h.names.set ≡ g.names.set → h.makers ≡ g.makers → h.instances ≡ g.instances → OnOk r (Takes nothing g h)
takes_same (Ok x) g h t n m i = record {
  types = λ j. (t j).now;
  names = λ other. ap (λ (s : BTreeSet (String Global)). contains_text s other) n ∙ sym (or_and_false (has_name g other) (is_foreign g other));
  makers = λ maker. ap (λ (ms : List Bool). get_or ms (maker_number maker) false) m ∙ sym (or_false (has_maker g maker));
  agrees = λ a. subst Agrees (sym i) a;
  specs = λ a. ap all_of i;
}
takes_same (Err z) g h t n m i = tt

pub takes_instance_if : {X : Type 0} (r : Result Unit X) (u : UseTree) (g h : Used) → h.types ≡ g.types → h.names ≡ g.names → h.makers ≡ g.makers → OnOk r (Adds u g.instances h.instances) → OnOk r (Takes (spec_alone u) g h)
takes_instance_if (Ok x) u g h t n m a = takes_instance u g h t n m a
takes_instance_if (Err z) u g h t n m a = tt

-- a constructor: itself, and then the names in its row
pub maker_whole : (maker : Maker) → Same (both (maker_alone maker) (names_alone (maker_type maker ∷ names_in_signature (maker_signature maker)))) (cell_says (MadeBy maker))
maker_whole maker =
    let names : List (List ℕ) = names_in_signature (maker_signature maker) in
    same_lists (both (maker_alone maker) (names_alone (maker_type maker ∷ names))) (cell_says (MadeBy maker))
    (ap (λ (ns : List (List ℕ)). maker_type maker ∷ ns) (sym (append-nil (names ++ []) ∙ append-nil names))) refl refl

-- a name that is put in is taken
pub takes_put : {X : Type 0} (r : Result Unit X) (name : List ℕ) (g h : Used) → is_foreign g name ≡ true → h.types ≡ g.types → h.makers ≡ g.makers → h.instances ≡ g.instances → OnOk r ((other : List ℕ) → has_name h other ≡ (bytes_eq other name || has_name g other))
    → OnOk r (Takes (names_alone (name ∷ [])) g h)
takes_put (Ok x) name g h f t m i n = takes_name name g h f t n m i
takes_put (Err z) name g h f t m i n = tt

-- what a declaration of a kind says is what its lines say
pub taken_kind : {X : Type 0} (r : Result Unit X) (a : Says) (d e : DeclTree) (g h : Used) → d ≡ e → Same a (lines_say (lines_of e)) → OnOk r (Takes a g h) → OnOk r (Takes (lines_say (lines_of d)) g h)
taken_kind r a d e g h is s x = takes_only r a (lines_say (lines_of d)) g h (subst (λ (t : DeclTree). Same a (lines_say (lines_of t))) (sym is) s) x
