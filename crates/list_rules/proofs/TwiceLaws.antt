-- Texts in two lists, and the flags of clashes.
use Rattle.std.proofs.Common.{◌≡◌, ◌<◌, ◌+◌, ◌||◌, ℕ, zero, suc, Bool, true, false, cond, List, [], ◌∷◌, ◌++◌, Some, Result, Ok, Err, IfOk, ⊎_elim, map, length, take, get_or, slice_get, length-append, refl, sym, ap, subst, ◌∙◌, arith}
use Rattle.std.specs.List.{list_any}
use Rattle.std.specs.Str.{bytes_eq}
use Rattle.std.specs.Cmp.Lexicographic.{bytes_decides}
use Rattle.std.proofs.lemmas.List.{take_more}
use Rattle.std.proofs.lemmas.Option.{same_Some, none-some}
use Rattle.chains.proofs.Marking.{same_or_not}
use Rattle.wr_base.specs.Uses.{text_of}
use Rattle.wr_base.specs.declared.type_use.TypeUse.{TypeUse}
use Rattle.wr_base.specs.declared.declaration.Declaration.{Declaration}
use Rattle.wr_base.specs.declared.declaration.Declaration.TheVariants.{Enum, Struct, Delegate, Interface, Class}
use Rattle.wr_rules.specs.ListRules.{meets, stands_twice}
use Rattle.member_clash.specs.Tables.{clash_at}
use Rattle.flagged_sites.specs.Flags.{flag_of}
use Rattle.list_rules.specs.Open.{FlagsAre, FlagsTo, Marked, twice_at, clash_listed}
use Rattle.list_rules.proofs.Closing.{same_truth}
use Rattle.list_rules.proofs.TextLaws.{one_item}
use Rattle.list_rules.proofs.FlagLaws.{flag_last, flag_before}
use Rattle.list_rules.proofs.RowLaws.{there_below}

or_assoc : (a b c : Bool) → ((a || b) || c) ≡ (a || (b || c))
or_assoc true b c = refl
or_assoc false b c = refl

or_false : (a : Bool) → (a || false) ≡ a
or_false true = refl
or_false false = refl

pub cond_or : (b a : Bool) → cond b true a ≡ (a || b)
cond_or true true = refl
cond_or true false = refl
cond_or false true = refl
cond_or false false = refl

pub if_ok_then : {X E : Type 0} (r : Result X E) (P Q : X → Type 0) → ((x : X) → P x → Q x) → IfOk r P → IfOk r Q
if_ok_then (Ok x) P Q f h = f x h
if_ok_then (Err e) P Q f h = tt

module _ {X : Type 0} (p : X → Bool) where
  any_both : (xs : List X) (y : X) → list_any p (xs ++ y ∷ []) ≡ (list_any p xs || p y)
  any_both [] y = or_false (p y)
  any_both (x ∷ xs) y = ap (λ b. p x || b) (any_both xs y) ∙ sym (or_assoc (p x) (list_any p xs) (p y))

  pub any_more : (xs : List X) (i : ℕ) (x : X) (a b : Bool) → i < length xs → x ≡ get_or xs i x → a ≡ list_any p (take i xs) → b ≡ (a || p x) → b ≡ list_any p (take (i + 1) xs)
  any_more xs i x a b l e h n = n ∙ ap (λ c. c || p x) h ∙ sym (ap (list_any p) (take_more xs i x l ∙ ap (λ (y : X). take i xs ++ y ∷ []) (sym e)) ∙ any_both (take i xs) x)

any_map : {X Y : Type 0} (p : Y → Bool) (f : X → Y) (xs : List X) → list_any (λ x. p (f x)) xs ≡ list_any p (map f xs)
any_map p f [] = refl
any_map p f (x ∷ xs) = ap (λ b. p (f x) || b) (any_map p f xs)

pub any_mapped : {X Y : Type 0} (p : Y → Bool) (f : X → Y) (xs : List X) (b : Bool) → b ≡ list_any (λ x. p (f x)) xs → b ≡ list_any p (map f xs)
any_mapped p f xs b e = e ∙ any_map p f xs

any_same : {X : Type 0} (p q : X → Bool) (xs : List X) → ((x : X) → p x ≡ q x) → list_any p xs ≡ list_any q xs
any_same p q [] h = refl
any_same p q (x ∷ xs) h = ap (λ b. b || list_any p xs) (h x) ∙ ap (λ b. q x || b) (any_same p q xs h)

bytes_turned : (a b : List ℕ) → bytes_eq a b ≡ bytes_eq b a
bytes_turned a b = same_truth (bytes_eq a b) (bytes_eq b a) (λ e. (bytes_decides b a).1 (sym ((bytes_decides a b).0 e))) (λ e. (bytes_decides a b).1 (sym ((bytes_decides b a).0 e)))

-- ---- marked texts

pub any_none : {X : Type 0} (p : X → Bool) (xs : List X) → false ≡ list_any p (take 0 xs)
any_none p [] = refl
any_none p (x ∷ xs) = refl

pub marked_more : (names : List (List ℕ)) (i : ℕ) (name : List ℕ) (old new : List ℕ → Bool) → i < length names → name ≡ get_or names i name → Marked (take i names) old → ((q : List ℕ) → new q ≡ (old q || bytes_eq name q)) → Marked (take (i + 1) names) new
marked_more names i name old new l e m n = λ q. any_more (λ b. bytes_eq b q) names i name (old q) (new q) l e (m q) (n q)

-- what stands in both lists
meets_is : (types : List Declaration) (names others : List (List ℕ)) (has : List ℕ → Bool) → Marked others has → list_any has names ≡ meets types names others
meets_is types names others has m = any_same has (λ n. list_any (bytes_eq n) others) names (λ n. m n ∙ any_same (λ b. bytes_eq b n) (bytes_eq n) others (λ b. bytes_turned b n))

pub twice_is : (types : List Declaration) (has : List TypeUse) (factories statics : List (List ℕ)) (made shown : List ℕ → Bool) → Marked factories made → Marked statics shown
    → ((list_any made (map text_of has) || list_any shown (map text_of has)) || list_any shown factories) ≡ stands_twice types has factories statics
twice_is types has factories statics made shown m s =
    ap (λ b. (b || list_any shown (map text_of has)) || list_any shown factories) (meets_is types (map text_of has) factories made m)
    ∙ ap (λ b. (meets types (map text_of has) factories || b) || list_any shown factories) (meets_is types (map text_of has) statics shown s)
    ∙ ap (λ b. (meets types (map text_of has) factories || meets types (map text_of has) statics) || b) (meets_is types factories statics shown s)

-- ---- flags of clashes

clash_both : (types : List Declaration) (d : Declaration) → (clash_at types d || twice_at types d) ≡ clash_listed types d
clash_both types (Interface name version id owner requires_ members) = or_false (clash_at types (Interface name version id owner requires_ members))
clash_both types (Class name version fixed default has direct factories statics) = refl
clash_both types (Enum name version flags cases) = refl
clash_both types (Struct name version fields) = refl
clash_both types (Delegate name version id invoke) = refl

flag_there : (p : Declaration → Bool) (ds : List Declaration) (k : ℕ) (d : Declaration) → slice_get ds k ≡ Some d → flag_of (map p ds) k ≡ p d
flag_there p [] k d e = absurd (none-some d e)
flag_there p (x ∷ xs) zero d e = ap p (same_Some x d e)
flag_there p (x ∷ xs) (suc k) d e = flag_there p xs k d e

pub flags_none : (p : Declaration → Bool) (types : List Declaration) → FlagsTo p types 0 []
flags_none p types = record { size = refl; flags = λ k d l at. absurd (omega (arith, l)) }

module _ (p : Declaration → Bool) (types : List Declaration) (i : ℕ) (d : Declaration) (at : slice_get types i ≡ Some d) (on : List Bool) (b : Bool) (s : FlagsTo p types i on) (own : b ≡ p d) where
  one_flag : (k : ℕ) (e : Declaration) → k < i + 1 → slice_get types k ≡ Some e → flag_of (on ++ b ∷ []) k ≡ p e
  one_flag k e l here = ⊎_elim
      (λ q. ap (flag_of (on ++ b ∷ [])) q ∙ flag_last on b i s.size ∙ own ∙ ap p (one_item types i d e at (subst (λ (j : ℕ). slice_get types j ≡ Some e) q here)))
      (λ ne. (let low : k < i = omega (arith, l, ne) in let z = s.size in flag_before on b k (omega (arith, z, low)) ∙ s.flags k e low here))
      (same_or_not k i)

  flags_behind : FlagsTo p types (i + 1) (on ++ b ∷ [])
  flags_behind = record { size = let m = length-append on (b ∷ []) in let z = s.size in omega (arith, m, z); flags = one_flag }

pub clash_more : (types : List Declaration) (i : ℕ) (d : Declaration) (shared old new : List Bool) (first twice b : Bool) → slice_get types i ≡ Some d → shared ≡ map (clash_at types) types → first ≡ flag_of shared i → twice ≡ twice_at types d → b ≡ (first || twice)
    → FlagsTo (clash_listed types) types i old → new ≡ old ++ b ∷ [] → FlagsTo (clash_listed types) types (i + 1) new
clash_more types i d shared old new first twice b at sh f t e s is =
    subst (FlagsTo (clash_listed types) types (i + 1)) (sym is) (flags_behind (clash_listed types) types i d at old b s
    (e ∙ ap (λ x. x || twice) (f ∙ ap (λ (l : List Bool). flag_of l i) sh ∙ flag_there (clash_at types) types i d at) ∙ ap (λ x. clash_at types d || x) t ∙ clash_both types d))

pub flags_all : (p : Declaration → Bool) (types : List Declaration) (i : ℕ) (on : List Bool) → FlagsTo p types i on → i ≡ length types → FlagsAre p types on
flags_all p types i on s e = λ k d at. s.flags k d (let l = there_below types k d at in omega (arith, l, e)) at
