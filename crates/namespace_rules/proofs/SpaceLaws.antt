-- Texts that begin a name.
use Rattle.std.proofs.Common.{◌≡◌, ⊎_elim, ◌+◌, ◌<◌, ◌≤◌, ◌⊎◌, ℕ, Bool, true, false, ◌||◌, ◌&&◌, ◌==◌, cond, codes, List, [], ◌∷◌, ◌++◌, length, map, take, get_or, slice_get, Some, Result, Ok, Err, OnOk, refl, sym, ap, subst, ◌∙◌, arith}
use Rattle.std.specs.List.{list_any}
use Rattle.std.specs.Char.{to_ascii_lowercase}
use Rattle.std.specs.Str.{bytes_eq}
use Rattle.std.proofs.lemmas.Bool.{ne_eqb}
use Rattle.std.proofs.lemmas.Str.Ascii.{lowercase_is}
use Rattle.std.proofs.lemmas.Bool.Decides.{eqb_tells}
use Rattle.std.proofs.lemmas.List.{take_more, take_all, map-append}
use Rattle.std.proofs.lemmas.List.Folds.{list_any-append}
use Rattle.std.proofs.lemmas.Option.{slice_get_within}
use Rattle.wr_base.specs.Lower.{lower}
use Rattle.wr_base.specs.Parts.{has, behind_last}
use Rattle.found_table.specs.Table.{table, foundation, name_of as found_name}
use Rattle.wr_rules.specs.Sites.{Site, site_name}
use Rattle.wr_rules.specs.NameRules.{begins, all_names}
use Rattle.place_order.proofs.StandLaws.{get_there}
use Rattle.namespace_rules.specs.Spaces.{SpacesTo, SameSpaces, Follows}
use Rattle.namespace_rules.proofs.FrontLaws.{or_false, or_left, or_right}

pub on_ok_then : {X E : Type 0} (r : Result X E) (P Q : Type 0) → (P → Q) → OnOk r P → OnOk r Q
on_ok_then (Ok x) P Q f h = f h
on_ok_then (Err e) P Q f h = h

pub cond_or : (b x : Bool) → cond b true x ≡ (x || b)
cond_or true true = refl
cond_or true false = refl
cond_or false true = refl
cond_or false false = refl

none_of_or : (a b : Bool) → (a || b) ≡ false → (a ≡ false) × (b ≡ false)
none_of_or true b h = absurd cc
none_of_or false b h = (refl, h)

and_false : (a : Bool) → (a && false) ≡ false
and_false true = refl
and_false false = refl

spread : (a b c : Bool) → (a && (b || c)) ≡ ((a && b) || (a && c))
spread true b c = refl
spread false b c = refl

flip : (a b : ℕ) → (a == b) ≡ (b == a)
flip a b = ⊎_elim
    (λ t. ⊎_elim (λ u. t.0 ∙ sym u.0) (λ u. absurd (u.1 (sym t.1))) (eqb_tells b a))
    (λ t. ⊎_elim (λ u. absurd (t.1 (sym u.1))) (λ u. t.0 ∙ sym u.0) (eqb_tells b a)) (eqb_tells a b)

-- ---- where no dot follows

begins_none : (bs q : List ℕ) → has 46 bs ≡ false → begins q bs ≡ false
begins_none [] [] h = refl
begins_none [] (a ∷ as_) h = refl
begins_none (b ∷ bs) [] h = (none_of_or (b == 46) (has 46 bs) h).0
begins_none (b ∷ bs) (a ∷ as_) h = ap (λ t. (a == b) && t) (begins_none bs as_ (none_of_or (b == 46) (has 46 bs) h).1) ∙ and_false (a == b)

pub begins_cut : (front back q : List ℕ) → has 46 back ≡ false → begins q (front ++ 46 ∷ back) ≡ (bytes_eq front q || begins q front)
begins_cut [] back [] h = refl
begins_cut [] back (a ∷ as_) h = ap (λ t. (a == 46) && t) (begins_none back as_ h) ∙ and_false (a == 46)
begins_cut (f ∷ fs) back [] h = refl
begins_cut (f ∷ fs) back (a ∷ as_) h =
    ap (λ t. (a == f) && t) (begins_cut fs back as_ h) ∙ spread (a == f) (bytes_eq fs as_) (begins as_ fs)
    ∙ ap (λ t. (t && bytes_eq fs as_) || ((a == f) && begins as_ fs)) (flip a f)

-- ---- names of one namespace

three_parts : (b : ℕ) → (b < 65) ⊎ (((65 ≤ b) × (b ≤ 90)) ⊎ (90 < b))
three_parts b = grind arith

lower_other : (b : ℕ) → (b == 46) ≡ false → (to_ascii_lowercase b == 46) ≡ false
lower_other b h = ⊎_elim
    (λ l. ap (λ n. n == 46) ((lowercase_is b).1 l) ∙ h)
    (λ r. ⊎_elim (λ w. ap (λ n. n == 46) ((lowercase_is b).0 w) ∙ ne_eqb (b + 32) 46 (λ e. (let l = w.0 in omega (arith, e, l)))) (λ g. ap (λ n. n == 46) ((lowercase_is b).2 g) ∙ h) r)
    (three_parts b)

lower_free : (bs : List ℕ) → has 46 bs ≡ false → has 46 (lower bs) ≡ false
lower_free [] h = refl
lower_free (b ∷ bs) h = let s = none_of_or (b == 46) (has 46 bs) h in ap (λ t. t || has 46 (lower bs)) (lower_other b s.0) ∙ lower_free bs s.1

behind_free : (bs : List ℕ) → has 46 (behind_last 46 bs) ≡ false
behind_free [] = refl
behind_free (b ∷ bs) = elim (has 46 (b ∷ bs)) as (λ t. has 46 (b ∷ bs) ≡ t → has 46 (cond t (behind_last 46 bs) (b ∷ bs)) ≡ false) [
  | true ↦ λ e. behind_free bs
  | false ↦ λ e. e
] refl

-- what holds a name is its namespace, or holds that
space_begins : (q name space back : List ℕ) → space ++ 46 ∷ back ≡ name → back ≡ behind_last 46 name → begins q (lower name) ≡ (bytes_eq (lower space) q || begins q (lower space))
space_begins q name space back j b =
    ap (λ n. begins q (lower n)) (sym j) ∙ ap (begins q) (map-append to_ascii_lowercase space (46 ∷ back)) ∙ begins_cut (lower space) (lower back) q (lower_free back (ap (has 46) b ∙ behind_free name))

pub same_spaces : (name other space other_space back other_back : List ℕ) → space ++ 46 ∷ back ≡ name → other_space ++ 46 ∷ other_back ≡ other → back ≡ behind_last 46 name → other_back ≡ behind_last 46 other → space ≡ other_space → SameSpaces name other
same_spaces name other space other_space back other_back j k b d e q =
    space_begins q name space back j b ∙ ap (λ t. bytes_eq (lower t) q || begins q (lower t)) e ∙ sym (space_begins q other other_space other_back k d)

-- ---- found types

foundation_begins : (q name : List ℕ) → has 46 (lower name) ≡ false → begins q (lower (foundation name)) ≡ begins q (codes "windows.foundation.")
foundation_begins q name h = begins_cut (codes "windows.foundation") (lower name) q h ∙ sym (begins_cut (codes "windows.foundation") [] q refl)

or_same : (a b c : Bool) → a ≡ c → b ≡ c → (a || b) ≡ c
or_same true b c h g = h
or_same false b c h g = g

found_begins : (q : List ℕ) → list_any (λ n. begins q (lower n)) (map found_name table) ≡ begins q (codes "windows.foundation.")
found_begins q =
    one (codes "EventRegistrationToken") refl _ (one (codes "DateTime") refl _ (one (codes "TimeSpan") refl _ (one (codes "IClosable") refl _ (one (codes "IStringable") refl _ (one (codes "IReference") refl _
    (one (codes "EventHandler") refl _ (or_false _ ∙ foundation_begins q (codes "TypedEventHandler") refl)))))))
  where
    one : (name : List ℕ) → has 46 (lower name) ≡ false → (b : Bool) → b ≡ begins q (codes "windows.foundation.") → (begins q (lower (foundation name)) || b) ≡ begins q (codes "windows.foundation.")
    one name h b e = or_same _ b _ (foundation_begins q name h) e

-- ---- declared types

turned : (a f b : Bool) → ((a || f) || b) ≡ ((a || (b || false)) || f)
turned true f b = refl
turned false true true = refl
turned false true false = refl
turned false false true = refl
turned false false false = refl

pub sites_more : (sites : List Site) (i : ℕ) (s : Site) (name : List ℕ) (old new : List ℕ → Bool) → slice_get sites i ≡ Some s → name ≡ site_name s → SpacesTo sites i old → ((q : List ℕ) → new q ≡ (old q || begins q (lower name))) → SpacesTo sites (i + 1) new
sites_more sites i s name old new at is before adds q =
    adds q ∙ ap (λ t. t || begins q (lower name)) (before q)
    ∙ turned (list_any (λ n. begins q (lower n)) (map site_name (take i sites))) (begins q (codes "windows.foundation.")) (begins q (lower name))
    ∙ ap (λ t. t || begins q (codes "windows.foundation."))
    (sym (list_any-append (λ n. begins q (lower n)) (map site_name (take i sites)) (name ∷ []))
    ∙ ap (λ z. list_any (λ n. begins q (lower n)) (map site_name (take i sites) ++ z ∷ [])) is
    ∙ ap (list_any (λ n. begins q (lower n)))
    (sym (map-append site_name (take i sites) (s ∷ [])) ∙ ap (λ (z : Site). map site_name (take i sites ++ z ∷ [])) (sym (get_there sites i s s at)) ∙ ap (map site_name) (sym (take_more sites i s (slice_get_within sites i s at)))))

there_already : (a b : Bool) → (b ≡ true → a ≡ true) → a ≡ (a || b)
there_already true b h = refl
there_already false true h = h refl
there_already false false h = refl

-- a name of the namespace of the one before it
pub sites_follow : (sites : List Site) (i : ℕ) (set : List ℕ → Bool) → Follows sites i → SpacesTo sites i set → SpacesTo sites (i + 1) set
sites_follow sites i set f before =
    sites_more sites i f.site (site_name f.site) set set f.at refl before
    (λ q. there_already (set q) (begins q (lower (site_name f.site)))
    (λ h. before q ∙ or_left _ _ (subst (λ (k : ℕ). list_any (λ n. begins q (lower n)) (map site_name (take k sites)) ≡ true) (sym f.next) (held q h))))
  where
    held : (q : List ℕ) → begins q (lower (site_name f.site)) ≡ true → list_any (λ n. begins q (lower n)) (map site_name (take (f.j + 1) sites)) ≡ true
    held q h =
        ap (λ (t : List Site). list_any (λ n. begins q (lower n)) (map site_name t)) (take_more sites f.j f.other (slice_get_within sites f.j f.other f.before))
        ∙ ap (list_any (λ n. begins q (lower n))) (map-append site_name (take f.j sites) (get_or sites f.j f.other ∷ []))
        ∙ list_any-append (λ n. begins q (lower n)) (map site_name (take f.j sites)) (site_name (get_or sites f.j f.other) ∷ [])
        ∙ or_right (list_any (λ n. begins q (lower n)) (map site_name (take f.j sites))) _
        (or_left _ false (ap (λ (z : Site). begins q (lower (site_name z))) (get_there sites f.j f.other f.other f.before) ∙ sym (f.same q) ∙ h))

pub sites_end : (sites : List Site) (i : ℕ) (set : List ℕ → Bool) → i ≡ length sites → SpacesTo sites i set → (q : List ℕ) → set q ≡ list_any (λ n. begins q (lower n)) (all_names sites)
sites_end sites i set l before q =
    before q ∙ ap (λ (t : List Site). list_any (λ n. begins q (lower n)) (map site_name t) || begins q (codes "windows.foundation.")) (take_all i sites (omega (arith, l)))
    ∙ ap (λ t. list_any (λ n. begins q (lower n)) (map site_name sites) || t) (sym (found_begins q))
    ∙ sym (list_any-append (λ n. begins q (lower n)) (map site_name sites) (map found_name table))
