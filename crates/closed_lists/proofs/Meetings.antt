-- Uses that are met, and what a list leads to.
use Rattle.std.proofs.Common.{◌≡◌, ◌<◌, ◌≤◌, ◌+◌, ◌-◌, ℕ, zero, suc, Bool, true, false, cond, ◌||◌, List, [], ◌∷◌, ◌++◌, Some, ◌⊎◌, inl, inr, ⊎_elim, Contains, take, length, get_or, slice_get, refl, sym, ap, subst, ◌∙◌, arith, append_assoc, append-nil, not, true≢false, Result, Ok, Err, OnOk, IfOk}
use Rattle.std.specs.List.{flat_map}
use Rattle.std.specs.Str.{bytes_eq}
use Rattle.std.specs.Cmp.Lexicographic.{bytes_decides}
use Rattle.std.proofs.lemmas.List.{take_more}
use Rattle.std.proofs.lemmas.List.Folds.{list_any-append}
use Rattle.std.proofs.lemmas.List.Elements.{Contains-append_left, Contains-append_right, Contains-append_cases}
use Rattle.std.proofs.lemmas.Option.{none-some, same_Some, slice_get_within, slice_get-get_or}
use Rattle.wr_base.specs.Uses.{text_of}
use Rattle.wr_base.specs.Declarations.{name_of, declared_as}
use Rattle.wr_base.specs.declared.type_use.TypeUse.{TypeUse}
use Rattle.wr_base.specs.declared.declaration.Declaration.{Declaration}
use Rattle.wr_base.specs.declared.declaration.Declaration.TheVariants.{Enum, Struct, Delegate, Interface, Class}
use Rattle.wr_rules.specs.Closures.{Closed, listed, required, required_at, requires_of, lists}
use Rattle.wr_rules.specs.ListRules.{listed_in}
use Rattle.wr_rules.proofs.CountLaws.{apart_more}
use Rattle.closed_lists.specs.declared.closing.Gathered.{Gathered}
use Rattle.closed_lists.specs.Closing.{has, Agrees, unmet, Meets, uses_from, Reaches}
use Rattle.closed_lists.specs.Closures.{IsClosure}

-- ---- lists of texts

either_true : (a b : Bool) → (a || b) ≡ true → (a ≡ true) ⊎ (b ≡ true)
either_true true b e = inl refl
either_true false b e = inr e

first_true : (a b : Bool) → a ≡ true → (a || b) ≡ true
first_true a b e = ap (λ c. c || b) e

second_true : (a b : Bool) → b ≡ true → (a || b) ≡ true
second_true true b e = refl
second_true false b e = e

lists_both : (xs ys : List TypeUse) (text : List ℕ) → lists (xs ++ ys) text ≡ (lists xs text || lists ys text)
lists_both xs ys text = list_any-append (λ u. bytes_eq (text_of u) text) xs ys

lists_one : (u : TypeUse) (text : List ℕ) → lists (u ∷ []) text ≡ bytes_eq (text_of u) text
lists_one u text = or_false (bytes_eq (text_of u) text)
  where
    or_false : (b : Bool) → (b || false) ≡ b
    or_false true = refl
    or_false false = refl

lists_at : (us : List TypeUse) (k : ℕ) (u : TypeUse) → slice_get us k ≡ Some u → lists us (text_of u) ≡ true
lists_at [] k u e = absurd (none-some u e)
lists_at (x ∷ us) zero u e = first_true (bytes_eq (text_of x) (text_of u)) (lists us (text_of u)) ((bytes_decides (text_of x) (text_of u)).1 (ap text_of (same_Some x u e)))
lists_at (x ∷ us) (suc k) u e = second_true (bytes_eq (text_of x) (text_of u)) (lists us (text_of u)) (lists_at us k u e)

listed_at : (us : List TypeUse) (text : List ℕ) → lists us text ≡ true → (k : ℕ) × (u : TypeUse) × (slice_get us k ≡ Some u) × (text_of u ≡ text)
listed_at [] text e = cc
listed_at (x ∷ us) text e = ⊎_elim
    (λ h. (0, x, refl, (bytes_decides (text_of x) text).0 h))
    (λ h. (let r = listed_at us text h in (suc r.0, r.1, r.2, r.3)))
    (either_true (bytes_eq (text_of x) text) (lists us text) e)

pub on_ok_then : {X E : Type 0} (r : Result X E) (P Q : Type 0) → (P → Q) → OnOk r P → OnOk r Q
on_ok_then (Ok x) P Q f h = f h
on_ok_then (Err e) P Q f h = tt

pub if_ok_then : {X E : Type 0} (r : Result X E) (P Q : X → Type 0) → ((x : X) → P x → Q x) → IfOk r P → IfOk r Q
if_ok_then (Ok x) P Q f h = f x h
if_ok_then (Err e) P Q f h = tt

-- ---- meetings

contains_none : {X : Type 0} (x : X) → Contains [] x → ⊥
contains_none x c = let l = c.1 in omega (arith, l)

contains_one : {X : Type 0} (x y : X) → Contains (x ∷ []) y → x ≡ y
contains_one x y (zero, l, e) = e
contains_one x y (suc k, l, e) = absurd (omega (arith, l))

contains_itself : {X : Type 0} (x : X) → Contains (x ∷ []) x
contains_itself x = (0, omega arith, refl)

pub meets_none : (g : Gathered) → Meets [] g g
meets_none g = record {
  agrees = λ a. a;
  extra = [];
  behind = sym (append-nil g.uses.items);
  only = λ u c. absurd (contains_none u c);
  all_ = λ text e. cc;
  kept = λ text e. e;
  less = λ uses h. omega arith;
  sound = λ text e. inl e;
}

pub meets_known : (g : Gathered) (u : TypeUse) → has g (text_of u) ≡ true → Meets (u ∷ []) g g
meets_known g u known = record {
  agrees = λ a. a;
  extra = [];
  behind = sym (append-nil g.uses.items);
  only = λ v c. absurd (contains_none v c);
  all_ = λ text e. subst (λ t. has g t ≡ true) ((bytes_decides (text_of u) text).0 (sym (lists_one u text) ∙ e)) known;
  kept = λ text e. e;
  less = λ uses h. omega arith;
  sound = λ text e. inl e;
}

module _ (g h : Gathered) (u : TypeUse) (new : has g (text_of u) ≡ false) (marked : (q : List ℕ) → has h q ≡ cond (bytes_eq (text_of u) q) true (has g q)) (put : h.uses.items ≡ g.uses.items ++ u ∷ []) where
  known_still : (q : List ℕ) → has g q ≡ true → has h q ≡ true
  known_still q e = marked q ∙ elim (bytes_eq (text_of u) q) as (λ b. cond b true (has g q) ≡ true) [ true ↦ refl | false ↦ e ]

  known_now : has h (text_of u) ≡ true
  known_now = marked (text_of u) ∙ ap (λ b. cond b true (has g (text_of u))) ((bytes_decides (text_of u) (text_of u)).1 refl)

  known_before : (q : List ℕ) → has h q ≡ true → (has g q ≡ true) ⊎ (lists (u ∷ []) q ≡ true)
  known_before q e = elim (bytes_eq (text_of u) q) as (λ b. bytes_eq (text_of u) q ≡ b → (has g q ≡ true) ⊎ (lists (u ∷ []) q ≡ true)) [
    | true ↦ λ b. inr (lists_one u q ∙ b)
    | false ↦ λ b. inl (sym (marked q ∙ ap (λ c. cond c true (has g q)) b) ∙ e)
  ] refl

  agrees_now : Agrees g → Agrees h
  agrees_now a q =
      marked q ∙ ap (λ b. cond (bytes_eq (text_of u) q) true b) (a q)
      ∙ turned (bytes_eq (text_of u) q) (lists g.uses.items q)
      ∙ sym (ap (λ (us : List TypeUse). lists us q) put ∙ lists_both g.uses.items (u ∷ []) q ∙ ap (λ b. lists g.uses.items q || b) (lists_one u q))
    where
      turned : (b c : Bool) → cond b true c ≡ (c || b)
      turned true true = refl
      turned true false = refl
      turned false true = refl
      turned false false = refl

  unknown_before : (v : TypeUse) → not (has h (text_of v)) ≡ true → not (has g (text_of v)) ≡ true
  unknown_before v e = elim (has g (text_of v)) as (λ b. has g (text_of v) ≡ b → not b ≡ true) [
    | true ↦ λ b. cc (e, known_still (text_of v) b)
    | false ↦ λ b. refl
  ] refl

  unmet_less : (uses : List TypeUse) → Contains uses u → unmet h uses < unmet g uses
  unmet_less uses c =
      apart_more (λ v. not (has g (text_of v))) (λ v. not (has h (text_of v))) unknown_before uses c.0 u
      (slice_get-get_or uses c.0 u c.1 ∙ ap (λ v. Some v) c.2) (ap not new) (ap not known_now)

  length_more : length h.uses.items ≡ length g.uses.items + 1
  length_more = ap length put ∙ one_longer g.uses.items
    where
      one_longer : (us : List TypeUse) → length (us ++ u ∷ []) ≡ length us + 1
      one_longer [] = refl
      one_longer (x ∷ us) = let e = one_longer us in omega (arith, e)

  pub meets_new : Meets (u ∷ []) g h
  meets_new = record {
    agrees = agrees_now;
    extra = u ∷ [];
    behind = put;
    only = λ v c. c;
    all_ = λ text e. subst (λ t. has h t ≡ true) ((bytes_decides (text_of u) text).0 (sym (lists_one u text) ∙ e)) known_now;
    kept = known_still;
    less = λ uses w. (let l = unmet_less uses (w u (contains_itself u)) in let m = length_more in omega (arith, l, m));
    sound = known_before;
  }

-- one after the other
pub meets_then : (a b : List TypeUse) (g h k : Gathered) → Meets a g h → Meets b h k → Meets (a ++ b) g k
meets_then a b g h k x y = record {
  agrees = λ n. y.agrees (x.agrees n);
  extra = x.extra ++ y.extra;
  behind = y.behind ∙ ap (λ (us : List TypeUse). us ++ y.extra) x.behind ∙ append_assoc g.uses.items x.extra y.extra;
  only = λ u c. ⊎_elim (λ d. Contains-append_left a b u (x.only u d)) (λ d. Contains-append_right a b u (y.only u d)) (Contains-append_cases x.extra y.extra u c);
  all_ = λ text e. ⊎_elim (λ d. y.kept text (x.all_ text d)) (λ d. y.all_ text d) (either_true (lists a text) (lists b text) (sym (lists_both a b text) ∙ e));
  kept = λ text e. y.kept text (x.kept text e);
  less = λ uses w. (let l = x.less uses (λ u c. w u (Contains-append_left a b u c)) in let m = y.less uses (λ u c. w u (Contains-append_right a b u c)) in omega (arith, l, m));
  sound = λ text e. ⊎_elim
      (λ d. ⊎_elim (λ i. inl i) (λ i. inr (lists_both a b text ∙ first_true (lists a text) (lists b text) i)) (x.sound text d))
      (λ d. inr (lists_both a b text ∙ second_true (lists a text) (lists b text) d))
      (y.sound text e);
}

-- a loop's turn
pub meets_item : (us : List TypeUse) (i : ℕ) (u : TypeUse) (g h k : Gathered) → i < length us → u ≡ get_or us i u → Meets (take i us) g h → Meets (u ∷ []) h k → Meets (take (i + 1) us) g k
meets_item us i u g h k l e x y =
    subst (λ (vs : List TypeUse). Meets vs g k) (sym (take_more us i u l)) (meets_then (take i us) (get_or us i u ∷ []) g h k x (subst (λ (v : TypeUse). Meets (v ∷ []) h k) e y))

-- ---- what a list leads to

longer : (g h : Gathered) (more : List TypeUse) → Meets more g h → length g.uses.items ≤ length h.uses.items
longer g h more m = let e = ap length m.behind in let l = no_shorter g.uses.items m.extra in omega (arith, e, l)
  where
    no_shorter : (xs ys : List TypeUse) → length xs ≤ length (xs ++ ys)
    no_shorter [] ys = omega arith
    no_shorter (x ∷ xs) ys = let l = no_shorter xs ys in omega (arith, l)

still_there : (xs ys : List TypeUse) (k : ℕ) (u : TypeUse) → k < length xs → slice_get (xs ++ ys) k ≡ Some u → slice_get xs k ≡ Some u
still_there [] ys k u l e = absurd (omega (arith, l))
still_there (x ∷ xs) ys zero u l e = e
still_there (x ∷ xs) ys (suc k) u l e = still_there xs ys k u (omega (arith, l)) e

kept_there : (xs ys : List TypeUse) (k : ℕ) (u : TypeUse) → slice_get xs k ≡ Some u → slice_get (xs ++ ys) k ≡ Some u
kept_there [] ys k u e = absurd (none-some u e)
kept_there (x ∷ xs) ys zero u e = e
kept_there (x ∷ xs) ys (suc k) u e = kept_there xs ys k u e

module _ (types : List Declaration) (list : List TypeUse) where
  -- what is required is written in one of the declarations
  required_within : (ds : List Declaration) (text : List ℕ) (u : TypeUse) → Contains (requires_of (declared_as ds text)) u → Contains (flat_map listed_in ds) u
  required_within [] text u c = c
  required_within (d ∷ ds) text u c = elim (bytes_eq (name_of d) text) as (λ b. Contains (requires_of (cond b (Some d) (declared_as ds text))) u → Contains (listed_in d ++ flat_map listed_in ds) u) [
    | true ↦ λ h. Contains-append_left (listed_in d) (flat_map listed_in ds) u (its_own d h)
    | false ↦ λ h. Contains-append_right (listed_in d) (flat_map listed_in ds) u (required_within ds text u h)
  ] c
    where
      its_own : (d : Declaration) → Contains (requires_of (Some d)) u → Contains (listed_in d) u
      its_own (Interface name version id owner requires_ members) h = h
      its_own (Enum name version flags cases) h = h
      its_own (Struct name version fields) h = h
      its_own (Delegate name version id invoke) h = h
      its_own (Class name version fixed default has_ direct factories statics) h = absurd (contains_none u h)

  pub required_from : (text : List ℕ) (u : TypeUse) → Contains (required_at types text) u → Contains (uses_from types list) u
  required_from text u c = Contains-append_right list (flat_map listed_in types) u (required_within types text u c)

  pub reaches_first : (g h : Gathered) → Agrees g → g.uses.items ≡ [] → Meets list g h → Reaches types list h 0
  reaches_first g h a n m = record {
    agrees = m.agrees a;
    start = m.all_;
    sound = λ text e. ⊎_elim (λ d. absurd (true≢false (sym d ∙ a text ∙ ap (λ (us : List TypeUse). lists us text) n))) (λ d. listed d) (m.sound text e);
    written = λ u c. Contains-append_left list (flat_map listed_in types) u (m.only u (subst (λ (us : List TypeUse). Contains us u) (m.behind ∙ ap (λ (us : List TypeUse). us ++ m.extra) n) c));
    followed = λ k u text l e d. absurd (omega (arith, l));
    bound = omega arith;
  }

  module _ (g h : Gathered) (next : ℕ) (u : TypeUse) (at : slice_get g.uses.items next ≡ Some u) (m : Meets (required_at types (text_of u)) g h) (r : Reaches types list g next) where
    its_text : Closed types list (text_of u)
    its_text = r.sound (text_of u) (r.agrees (text_of u) ∙ lists_at g.uses.items next u at)

    pub reaches_next : Reaches types list h (next + 1)
    reaches_next = record {
      agrees = m.agrees r.agrees;
      start = λ text e. m.kept text (r.start text e);
      sound = λ text e. ⊎_elim (λ d. r.sound text d) (λ d. required its_text d) (m.sound text e);
      written = λ v c. ⊎_elim (λ d. r.written v d) (λ d. required_from (text_of u) v (m.only v d)) (Contains-append_cases g.uses.items m.extra v (subst (λ (us : List TypeUse). Contains us v) m.behind c));
      followed = λ k v text l e d. ⊎_elim
          (λ here. m.all_ text (subst (λ (w : TypeUse). lists (required_at types (text_of w)) text ≡ true) (same_Some v u (sym e ∙ ap (slice_get h.uses.items) here ∙ ap (λ (us : List TypeUse). slice_get us next) m.behind ∙ kept_there g.uses.items m.extra next u at)) d))
          (λ before. m.kept text (r.followed k v text before (still_there g.uses.items m.extra k v (let b = r.bound in omega (arith, before, b)) (sym (ap (λ (us : List TypeUse). slice_get us k) m.behind) ∙ e)) d))
          (here_or_before k next l);
      bound = let l = slice_get_within g.uses.items next u at in let n = longer g h (required_at types (text_of u)) m in omega (arith, l, n);
    }
      where
        here_or_before : (k n : ℕ) → k < n + 1 → (k ≡ n) ⊎ (k < n)
        here_or_before k n l = grind arith

    pub reaches_less : unmet h (uses_from types list) + (length h.uses.items - (next + 1)) < unmet g (uses_from types list) + (length g.uses.items - next)
    reaches_less =
        let l = m.less (uses_from types list) (λ v c. required_from (text_of u) v c) in
        let w = slice_get_within g.uses.items next u at in
        let n = longer g h (required_at types (text_of u)) m in
        omega (arith, l, w, n)

  -- where each one was followed, all that the list leads to is there
  all_there : (g : Gathered) (next : ℕ) → length g.uses.items ≤ next → Reaches types list g next → (text : List ℕ) → Closed types list text → has g text ≡ true
  all_there g next l r text (listed h) = r.start text h
  all_there g next l r text (required c h) =
      let here = listed_at g.uses.items _ (sym (r.agrees _) ∙ all_there g next l r _ c) in
      let w = slice_get_within g.uses.items here.0 here.1 here.2 in
      r.followed here.0 here.1 text (omega (arith, w, l)) here.2 (subst (λ t. lists (required_at types t) text ≡ true) (sym here.3) h)

  pub reaches_all : (g : Gathered) (next : ℕ) → length g.uses.items ≤ next → Reaches types list g next → IsClosure types list g.uses.items
  reaches_all g next l r = record {
    texts = λ text. (λ e. r.sound text (r.agrees text ∙ e), λ c. sym (r.agrees text) ∙ all_there g next l r text c);
    written = r.written;
  }
