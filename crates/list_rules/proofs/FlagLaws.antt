-- What flags say of numbers is what the rules ask of declarations.
use Rattle.std.proofs.Common.{◌≡◌, ◌<◌, ◌≤◌, ◌+◌, ◌↔◌, ℕ, zero, suc, Bool, true, IsTrue, List, [], ◌∷◌, ◌++◌, Option, Some, None, ◌⊎◌, ⊎_elim, map, length, slice_get, length-append, refl, sym, ap, subst, ◌∙◌, arith}
use Rattle.std.specs.Global.{Vec}
use Rattle.std.proofs.lemmas.List.{length-map}
use Rattle.std.proofs.lemmas.Option.{same_Some, none-some}
use Rattle.chains.specs.Groups.{graph_of}
use Rattle.chains.specs.Graphs.{In, steps_of}
use Rattle.chains.proofs.Marking.{same_or_not}
use Rattle.wr_base.specs.Uses.{text_of}
use Rattle.wr_base.specs.declared.type_use.TypeUse.{TypeUse}
use Rattle.wr_base.specs.Declarations.{name_of, IsInOrder, declared_as}
use Rattle.wr_base.specs.declared.declaration.Declaration.{Declaration}
use Rattle.wr_base.specs.declared.declaration.Declaration.TheVariants.{Enum, Struct, Delegate, Interface, Class}
use Rattle.wr_rules.specs.Closures.{required_at, requires_of}
use Rattle.wr_rules.specs.ListRules.{lacks, listed_in}
use Rattle.wr_rules.proofs.ClashLaws.{Holds, held_listed, listed_held}
use Rattle.numbered.specs.Numbers.{NumbersBy}
use Rattle.struct_cycles.specs.Places.{place_in}
use Rattle.struct_cycles.proofs.PlaceLaws.{place_is, place_declared, declared_place, named_at}
use Rattle.flagged_sites.specs.Flags.{flag_of}
use Rattle.list_rules.specs.Texts.{texts_in, SetsNumbered}
use Rattle.list_rules.specs.Rows.{row_of, IsGraph}
use Rattle.list_rules.specs.Open.{Tells, TellOpen, TellCyclic, FlagsAre, lists_itself}
use Rattle.list_rules.proofs.RowLaws.{there_below}
use Rattle.list_rules.proofs.Closing.{number_of_text, text_of_number, same_truth, lacks_is}

-- ---- flags behind flags

pub flag_last : (on : List Bool) (b : Bool) (i : ℕ) → length on ≡ i → flag_of (on ++ b ∷ []) i ≡ b
flag_last [] b i e = subst (λ (n : ℕ). flag_of (b ∷ []) n ≡ b) e refl
flag_last (x ∷ xs) b zero e = absurd (omega (arith, e))
flag_last (x ∷ xs) b (suc i) e = flag_last xs b i (omega (arith, e))

pub flag_before : (on : List Bool) (b : Bool) (k : ℕ) → k < length on → flag_of (on ++ b ∷ []) k ≡ flag_of on k
flag_before [] b k l = absurd (omega (arith, l))
flag_before (x ∷ xs) b zero l = refl
flag_before (x ∷ xs) b (suc k) l = flag_before xs b k (omega (arith, l))

pub tells_none : (fact : ℕ → Type 0) → Tells fact 0 []
tells_none fact = record { size = refl; told = λ k l. absurd (omega (arith, l)) }

one_told : (fact : ℕ → Type 0) (i : ℕ) (on : List Bool) (b : Bool) → Tells fact i on → IsTrue b ↔ fact i → (k : ℕ) → k < i + 1 → IsTrue (flag_of (on ++ b ∷ []) k) ↔ fact k
one_told fact i on b t own k l = ⊎_elim
    (λ q. subst (λ (j : ℕ). IsTrue (flag_of (on ++ b ∷ []) j) ↔ fact j) (sym q) (subst (λ (c : Bool). IsTrue c ↔ fact i) (sym (flag_last on b i t.size)) own))
    (λ ne.
    let low : k < i = omega (arith, l, ne) in
    let inside : k < length on = (let s = t.size in omega (arith, s, low)) in
    subst (λ (c : Bool). IsTrue c ↔ fact k) (sym (flag_before on b k inside)) (t.told k low))
    (same_or_not k i)

-- one more flag
pub tells_more : (fact : ℕ → Type 0) (i : ℕ) (old new : List Bool) (b : Bool) → Tells fact i old → new ≡ old ++ b ∷ [] → IsTrue b ↔ fact i → Tells fact (i + 1) new
tells_more fact i old new b t is own = record {
  size = let a = ap length is in let m = length-append old (b ∷ []) in let s = t.size in omega (arith, a, m, s);
  told = λ k l. subst (λ (on : List Bool). IsTrue (flag_of on k) ↔ fact k) (sym is) (one_told fact i old b t own k l);
}

-- ---- what sets and rows are numbers of

item_at : (ds : List Declaration) (k : ℕ) → k < length ds → (d : Declaration) × (slice_get ds k ≡ Some d)
item_at [] k l = absurd (omega (arith, l))
item_at (x ∷ xs) zero l = (x, refl)
item_at (x ∷ xs) (suc k) l = item_at xs k (omega (arith, l))

in_within : (sets : List (List ℕ)) (k x : ℕ) → In x (steps_of sets k) → k < length sets
in_within [] k x h = absurd h
in_within (s ∷ ss) zero x h = omega arith
in_within (s ∷ ss) (suc k) x h = let l = in_within ss k x h in omega (arith, l)

in_row : (d : Declaration) (set : List ℕ) (x : ℕ) → In x (row_of d set) → In x set
in_row (Interface name version id owner requires_ members) set x h = h
in_row (Enum name version flags cases) set x h = absurd h
in_row (Struct name version fields) set x h = absurd h
in_row (Delegate name version id invoke) set x h = absurd h
in_row (Class name version fixed default has direct factories statics) set x h = absurd h

row_numbers : (T : List ℕ → Option ℕ) (d : Declaration) (set : List ℕ) → NumbersBy (λ t. t) T (texts_in d) set → NumbersBy (λ t. t) T (map text_of (requires_of (Some d))) (row_of d set)
row_numbers T (Interface name version id owner requires_ members) set n = n
row_numbers T (Enum name version flags cases) set n = refl
row_numbers T (Struct name version fields) set n = refl
row_numbers T (Delegate name version id invoke) set n = refl
row_numbers T (Class name version fixed default has direct factories statics) set n = refl

no_place_undeclared : (types : List Declaration) (t : List ℕ) (o : Option Declaration) → place_in types t ≡ None → declared_as types t ≡ o → declared_as types t ≡ None
no_place_undeclared types t None q r = r
no_place_undeclared types t (Some d) q r = let p = declared_place types t d r in absurd (none-some p.0 (sym q ∙ p.1))

side : (m n : ℕ) → (m < n) ⊎ (n ≤ m)
side m n = grind arith

-- each declared name has a number
pub names_within : (types : List Declaration) (count : ℕ) (sets : List (List ℕ)) → IsInOrder types → SetsNumbered types count sets → length types ≤ count
names_within types count sets o s = ⊎_elim
    (λ low.
    let d = item_at types count low in
    let w = s.numbering.within (name_of d.0) count (s.names (name_of d.0) count (place_is types count (name_of d.0) o (named_at types count d.0 d.1))) in
    omega (arith, w))
    (λ high. high) (side count (length types))

module _ (types : List Declaration) (o : IsInOrder types) (count : ℕ) (sets graph : List (List ℕ)) (s : SetsNumbered types count sets) (g : IsGraph types sets count graph) where
  pub sets_within : (k x : ℕ) → In x (steps_of sets k) → x < count
  sets_within k x h =
      let l = in_within sets k x h in
      let z = s.sets_.size in
      let d = item_at types k (omega (arith, l, z)) in
      let t = text_of_number (λ t. t) s.T (texts_in d.0) (steps_of sets k) x (s.sets_.sets_ k d.0 (omega (arith, l, z)) d.1) h in
      s.numbering.within t.0 x t.2

  pub rows_within : (a x : ℕ) → In x (steps_of graph a) → x < count
  rows_within a x h = ⊎_elim
      (λ l. (let d = item_at types a l in sets_within a x (in_row d.0 (steps_of sets a) x (subst (In x) (g.rows_ a d.0 d.1) h))))
      (λ l. absurd (subst (In x) (g.past a l) h)) (side a (length types))

  -- the number at a place is that of the name there
  name_number : (k : ℕ) (d : Declaration) → slice_get types k ≡ Some d → s.T (name_of d) ≡ Some k
  name_number k d at = s.names (name_of d) k (place_is types k (name_of d) o (named_at types k d at))

  -- what isn't declared has a number behind those of names
  behind_names : (t : List ℕ) (k : ℕ) → place_in types t ≡ None → s.T t ≡ Some k → length types ≤ k
  behind_names t k q e = ⊎_elim
      (λ l.
      let d = item_at types k l in
      let same : t ≡ name_of d.0 = s.numbering.apart t (name_of d.0) k e (name_number k d.0 d.1) in
      absurd (none-some k (sym q ∙ (ap (place_in types) same ∙ place_is types k (name_of d.0) o (named_at types k d.0 d.1)))))
      (λ l. l) (side k (length types))

  row_known : (t : List ℕ) (k : ℕ) → s.T t ≡ Some k → (p : Option ℕ) → place_in types t ≡ p → NumbersBy (λ u. u) s.T (map text_of (required_at types t)) (steps_of graph k)
  row_known t k e (Some j) q =
      let d = place_declared types t j q in
      let same : j ≡ k = same_Some j k (sym (s.names t j q) ∙ e) in
      let at : slice_get types k ≡ Some d.0 = subst (λ (n : ℕ). slice_get types n ≡ Some d.0) same d.1 in
      subst (λ (us : List TypeUse). NumbersBy (λ u. u) s.T (map text_of us) (steps_of graph k)) (ap requires_of (sym d.2))
      (subst (NumbersBy (λ u. u) s.T (map text_of (requires_of (Some d.0)))) (sym (g.rows_ k d.0 at)) (row_numbers s.T d.0 (steps_of sets k) (s.sets_.sets_ k d.0 (there_below types k d.0 at) at)))
  row_known t k e None q =
      subst (λ (us : List TypeUse). NumbersBy (λ u. u) s.T (map text_of us) (steps_of graph k)) (ap requires_of (sym (no_place_undeclared types t (declared_as types t) q refl)))
      (subst (NumbersBy (λ u. u) s.T []) (sym (g.past k (behind_names t k q e))) refl)

  -- a row has the numbers of what its text requires
  steps : (t : List ℕ) (k : ℕ) → s.T t ≡ Some k → NumbersBy (λ u. u) s.T (map text_of (required_at types t)) (steps_of graph k)
  steps t k e = row_known t k e (place_in types t) refl

  pub open_flags : (on : List Bool) → TellOpen graph sets (length types) on → FlagsAre (λ d. lacks types (listed_in d)) types on
  open_flags on t k d at =
      let l = there_below types k d at in
      lacks_is types s.T count s.numbering graph (listed_in d) (steps_of sets k) (s.sets_.sets_ k d l at) steps (flag_of on k) (t.told k l)

  itself_told : (k : ℕ) (d : Declaration) → slice_get types k ≡ Some d → (set : List ℕ) → NumbersBy (λ t. t) s.T (texts_in d) set → In k (row_of d set) → lists_itself d ≡ true
  itself_told k (Interface name version id owner requires_ members) at set n h =
      let t = text_of_number (λ t. t) s.T (map text_of requires_) set k n h in
      let same : t.0 ≡ name = s.numbering.apart t.0 name k t.2 (name_number k (Interface name version id owner requires_ members) at) in
      held_listed types requires_ name (subst (Holds (map text_of requires_)) same t.1)
  itself_told k (Enum name version flags cases) at set n h = absurd h
  itself_told k (Struct name version fields) at set n h = absurd h
  itself_told k (Delegate name version id invoke) at set n h = absurd h
  itself_told k (Class name version fixed default has direct factories statics) at set n h = absurd h

  tell_itself : (k : ℕ) (d : Declaration) → slice_get types k ≡ Some d → (set : List ℕ) → NumbersBy (λ t. t) s.T (texts_in d) set → lists_itself d ≡ true → In k (row_of d set)
  tell_itself k (Interface name version id owner requires_ members) at set n e =
      let x = number_of_text (λ t. t) s.T (map text_of requires_) set name n (listed_held types requires_ name e) in
      let same : x.0 ≡ k = same_Some x.0 k (sym x.2 ∙ name_number k (Interface name version id owner requires_ members) at) in
      subst (λ (z : ℕ). In z set) same x.1
  tell_itself k (Enum name version flags cases) at set n e = cc
  tell_itself k (Struct name version fields) at set n e = cc
  tell_itself k (Delegate name version id invoke) at set n e = cc
  tell_itself k (Class name version fixed default has direct factories statics) at set n e = cc

  pub cyclic_flags : (on : List Bool) → TellCyclic graph (length types) on → FlagsAre lists_itself types on
  cyclic_flags on t k d at =
      let l = there_below types k d at in
      let own = t.told k l in
      let n = s.sets_.sets_ k d l at in
      same_truth (flag_of on k) (lists_itself d)
      (λ e. itself_told k d at (steps_of sets k) n (subst (In k) (g.rows_ k d at) (own.0 e)))
      (λ e. own.1 (subst (In k) (sym (g.rows_ k d at)) (tell_itself k d at (steps_of sets k) n e)))

-- the same where slices stand for vectors
module _ (types : List Declaration) (o : IsInOrder types) (count : ℕ) (ss gs b a : List (Vec ℕ)) (eb : b ≡ ss) (ea : a ≡ gs) (s : SetsNumbered types count (graph_of ss)) (g : IsGraph types (graph_of ss) count (graph_of gs)) where
  same_size : length ss ≡ length types
  same_size = let z = s.sets_.size in let m = length-map ss (λ (v : Vec ℕ). v.items) in omega (arith, z, m)

  pub fewer : length b ≤ length a
  fewer =
      let z = same_size in let n = names_within types count (graph_of ss) o s in let w = g.size in let m = length-map gs (λ (v : Vec ℕ). v.items) in let p = ap length eb in let q = ap length ea in
      omega (arith, z, n, w, m, p, q)

  pub rows_below : (k x : ℕ) → In x (steps_of (graph_of a) k) → x < length a
  rows_below k x h =
      let i = rows_within types o count (graph_of ss) (graph_of gs) s g k x (subst (λ (v : List (Vec ℕ)). In x (steps_of (graph_of v) k)) ea h) in
      let w = g.size in let m = length-map gs (λ (v : Vec ℕ). v.items) in let q = ap length ea in
      omega (arith, i, w, m, q)

  pub sets_below : (k x : ℕ) → In x (steps_of (graph_of b) k) → x < length a
  sets_below k x h =
      let i = sets_within types o count (graph_of ss) (graph_of gs) s g k x (subst (λ (v : List (Vec ℕ)). In x (steps_of (graph_of v) k)) eb h) in
      let w = g.size in let m = length-map gs (λ (v : Vec ℕ). v.items) in let q = ap length ea in
      omega (arith, i, w, m, q)

  pub open_told : (on : List Bool) → TellOpen (graph_of a) (graph_of b) (length b) on → FlagsAre (λ d. lacks types (listed_in d)) types on
  open_told on t =
      open_flags types o count (graph_of ss) (graph_of gs) s g on
      (subst (λ (n : ℕ). TellOpen (graph_of gs) (graph_of ss) n on) same_size
      (subst (λ (v : List (Vec ℕ)). TellOpen (graph_of gs) (graph_of v) (length v) on) eb (subst (λ (v : List (Vec ℕ)). TellOpen (graph_of v) (graph_of b) (length b) on) ea t)))

  pub cyclic_told : (on : List Bool) → TellCyclic (graph_of a) (length b) on → FlagsAre lists_itself types on
  cyclic_told on t =
      cyclic_flags types o count (graph_of ss) (graph_of gs) s g on
      (subst (λ (n : ℕ). TellCyclic (graph_of gs) n on) same_size
      (subst (λ (v : List (Vec ℕ)). TellCyclic (graph_of gs) (length v) on) eb (subst (λ (v : List (Vec ℕ)). TellCyclic (graph_of v) (length b) on) ea t)))
