-- What the tests one after the other say of the whole set.
use Rattle.std.proofs.Common.{◌≡◌, ℕ, suc, ◌+◌, ◌≤◌, ◌<◌, nat_le, nat_lt, not, Bool, true, false, List, [], ◌∷◌, map, length, Result, Ok, Err, refl, sym, ap, ◌∙◌, arith}
use Rattle.std.proofs.lemmas.Bool.Decides.{Decides-ltb}
use Rattle.md_schema.specs.declared.table.Table.TheVariants as tables
use Rattle.md_schema.specs.declared.faults.ImageKind.TheVariants.{BadShape, PastLimit}
use Rattle.md_schema.specs.declared.faults.ImageFault.{ImageFault}
use Rattle.ranked.specs.declared.stop.Stop.{Stop}
use Rattle.ranked.specs.declared.stop.Stop.TheVariants.{Memory, Refused}
use Rattle.winmd_cells.specs.Given.{Fails}
use Rattle.winmd_rows.specs.Faults.{Fault, ◌>>=◌, checked}
use Rattle.winmd_lines.specs.Cells.{Tables, at}
use Rattle.winmd_lines.specs.Orders.{set_by}
use Rattle.wr_base.specs.Trees.{DeclTree, name_of}
use Rattle.winmd_sets.specs.Types.{all_parts_of, set_of}
use Rattle.winmd_set.specs.Order.{AllOnce, set_in}
use Rattle.winmd_set.specs.Stated.{is_again}
use Rattle.winmd_set.specs.Steps.{step_of, steps_of}

-- what is read, where the tests hold
abbrev where_holds : List DeclTree → Result Bool Fault → Result (List DeclTree) Fault
where_holds set answer = answer >>= λ holds. Ok set

one_more : (d : DeclTree) (set : List DeclTree) (answer : Result Bool Fault) → (where_holds set answer >>= λ others. Ok (d ∷ others)) ≡ where_holds (d ∷ set) answer
one_more d set (Ok holds) = refl
one_more d set (Err e) = refl

abbrev tested : (few small once : Bool) (a b c all : ℕ) → Result ℕ Fault
tested few small once a b c all = (checked few PastLimit a >>= λ x. checked small PastLimit b >>= λ y. Ok all) >>= λ sum. checked once BadShape c >>= λ z. Ok sum

at_step : (few small once : Bool) (a b c all : ℕ) (d : DeclTree) (more : Result (List DeclTree) Fault) (set : List DeclTree) (answer : ℕ → Result Bool Fault) → more ≡ where_holds set (answer all)
    → (checked few PastLimit a >>= λ x. checked small PastLimit b >>= λ y. checked once BadShape c >>= λ z. more >>= λ others. Ok (d ∷ others))
    ≡ where_holds (d ∷ set) (tested few small once a b c all >>= λ sum. answer sum)
at_step true true true a b c all d more set answer e = ap (λ (m : Result (List DeclTree) Fault). m >>= λ others. Ok (d ∷ others)) e ∙ one_more d set (answer all)
at_step true true false a b c all d more set answer e = refl
at_step true false once a b c all d more set answer e = refl
at_step false small once a b c all d more set answer e = refl

-- the set is what is read, where the tests hold
pub set_steps : (t : Tables) (types parts : ℕ) (ds : List (ℕ × DeclTree)) → set_of t types parts ds ≡ where_holds (map (λ e. e.1) ds) (steps_of t types parts ds)
set_steps t types parts [] = refl
set_steps t types parts (d ∷ ds) =
    at_step (nat_lt types 20000) (nat_le (parts + all_parts_of d.1) 500000) (not (is_again d ds)) (at t tables.TypeDef d.0 0) (at t tables.TypeDef d.0 0) (at t tables.TypeDef d.0 1)
    (parts + all_parts_of d.1) d.1 (set_of t (suc types) (parts + all_parts_of d.1) ds) (map (λ e. e.1) ds) (λ sum. steps_of t (suc types) sum ds) (set_steps t (suc types) (parts + all_parts_of d.1) ds)

-- what a step that held has told
told : (few small again : Bool) (a b c all : ℕ) (answer : ℕ → Result Bool Fault) (x : Bool) → (tested few small (not again) a b c all >>= λ sum. answer sum) ≡ Ok x → (few ≡ true) × (again ≡ false) × (answer all ≡ Ok x)
told true true false a b c all answer x e = (refl, refl, e)
told true true true a b c all answer x e = absurd (cc e)
told true false again a b c all answer x e = absurd (cc e)
told false small again a b c all answer x e = absurd (cc e)

step_told : (t : Tables) (types parts : ℕ) (d : ℕ × DeclTree) (ds : List (ℕ × DeclTree)) (x : Bool) → steps_of t types parts (d ∷ ds) ≡ Ok x
    → (nat_lt types 20000 ≡ true) × (is_again d ds ≡ false) × (steps_of t (suc types) (parts + all_parts_of d.1) ds ≡ Ok x)
step_told t types parts d ds x e =
    told (nat_lt types 20000) (nat_le (parts + all_parts_of d.1) 500000) (is_again d ds) (at t tables.TypeDef d.0 0) (at t tables.TypeDef d.0 0) (at t tables.TypeDef d.0 1)
    (parts + all_parts_of d.1) (λ sum. steps_of t (suc types) sum ds) x e

pub all_once : (t : Tables) (types parts : ℕ) (ds : List (ℕ × DeclTree)) (x : Bool) → steps_of t types parts ds ≡ Ok x → AllOnce ds
all_once t types parts [] x e = tt
all_once t types parts (d ∷ ds) x e = let s = step_told t types parts d ds x e in (s.1, all_once t (suc types) (parts + all_parts_of d.1) ds x s.2)

pub few_types : (t : Tables) (types parts : ℕ) (ds : List (ℕ × DeclTree)) (x : Bool) → types ≤ 20000 → steps_of t types parts ds ≡ Ok x → length ds + types ≤ 20000
few_types t types parts [] x l e = omega (arith, l)
few_types t types parts (d ∷ ds) x l e =
    let s = step_told t types parts d ds x e in
    let low : types < 20000 = (Decides-ltb types 20000).0 s.0 in
    let more = few_types t (suc types) (parts + all_parts_of d.1) ds x (omega (arith, low)) s.2 in
    omega (arith, more)

-- ---- what a call answers

-- a fault of a step is that of the rest
pub stopped : (t : Tables) (types parts : ℕ) (d : ℕ × DeclTree) (ds rest : List (ℕ × DeclTree)) (whole : Result Bool Fault) (e : Stop ImageFault) → rest ≡ d ∷ ds → steps_of t types parts rest ≡ whole
    → Fails e (step_of t types parts d ds) → Fails e whole
stopped t types parts d ds rest whole Memory here is h = tt
stopped t types parts d ds rest whole (Refused f) here is h = sym is ∙ ap (steps_of t types parts) here ∙ ap (λ (r : Result ℕ Fault). r >>= λ all. steps_of t (suc types) all ds) h

pub goes_on : (t : Tables) (types parts all : ℕ) (d : ℕ × DeclTree) (ds rest : List (ℕ × DeclTree)) (whole : Result Bool Fault) → rest ≡ d ∷ ds → steps_of t types parts rest ≡ whole
    → step_of t types parts d ds ≡ Ok all → steps_of t (suc types) all ds ≡ whole
goes_on t types parts all d ds rest whole here is h = sym (ap (steps_of t types parts) here ∙ ap (λ (r : Result ℕ Fault). r >>= λ sum. steps_of t (suc types) sum ds) h) ∙ is

-- a fault of the steps is that of the set
pub failed : (t : Tables) (ds : List (ℕ × DeclTree)) (e : Stop ImageFault) → Fails e (steps_of t 0 0 ds) → Fails e (set_in t ds)
failed t ds Memory h = tt
failed t ds (Refused f) h =
    ap (λ (r : Result (List DeclTree) Fault). r >>= λ set. Ok (set_by name_of set)) (set_steps t 0 0 ds ∙ ap (where_holds (map (λ e. e.1) ds)) h)

pub held : (t : Tables) (ds : List (ℕ × DeclTree)) (x : Bool) (types : List DeclTree) → steps_of t 0 0 ds ≡ Ok x → types ≡ set_by name_of (map (λ e. e.1) ds) → set_in t ds ≡ Ok types
held t ds x types h is =
    ap (λ (r : Result (List DeclTree) Fault). r >>= λ set. Ok (set_by name_of set)) (set_steps t 0 0 ds ∙ ap (where_holds (map (λ e. e.1) ds)) h) ∙ ap (λ ts. Ok ts) (sym is)
