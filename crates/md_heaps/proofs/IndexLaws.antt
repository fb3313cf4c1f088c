-- An index of several tables finds what the table for a content has.
use Rattle.std.proofs.Common.{◌≡◌, ◌≢◌, ℕ, zero, suc, ◌+◌, ◌<◌, Bool, true, false, cond, nat_eq, List, [], ◌∷◌, ◌++◌, length, map, Option, Some, None, Result, Ok, Err, OnErr, refl, sym, ap, ◌∙◌, arith, get_or, set}
use Rattle.std.specs.Prelude.{bytes_eq}
use Rattle.std.specs.Map.{lookup}
use Rattle.std.specs.Ordering.{nat_cmp, eq_by_cmp}
use Rattle.std.specs.Cmp.Lexicographic.{slice_cmp, nat_list_cmp_total, texts_ties}
use Rattle.std.specs.FinMap.{get, find, insert, empty, get-from_entries, get-insert, get-empty, same_map, slice_cmp-IsAntisymmetric, nat_cmp-IsAntisymmetric}
use Rattle.std.proofs.lemmas.Bool.{eqb-true, eq-eqb}
use Rattle.std.proofs.lemmas.Slice.Eq.{bytes_eq-Decides}
use Rattle.md_heaps.specs.Index.{Entries, table_of, looked_for, all_from, indices_of}

pub eq_by_cmp-bytes_eq : (x y : List ℕ) → eq_by_cmp (slice_cmp nat_cmp) x y ≡ bytes_eq x y
eq_by_cmp-bytes_eq x y = sym (texts_ties x y)

-- the entries of one of the tables
abbrev pub entries_of : List Entries → ℕ → Entries
entries_of [] at = []
entries_of (table ∷ tables) zero = table
entries_of (table ∷ tables) (suc at) = entries_of tables at

-- the first of two that is there
abbrev pub first : Option ℕ → Option ℕ → Option ℕ
first (Some x) y = Some x
first None y = y

pub first-None : (x : Option ℕ) → first x None ≡ x
first-None (Some x) = refl
first-None None = refl

module _ {K : Type 0} (test : K → Bool) where
  pub lookup-append : (xs ys : List (K × ℕ)) → lookup test (xs ++ ys) ≡ first (lookup test xs) (lookup test ys)
  lookup-append [] ys = refl
  lookup-append (e ∷ xs) ys = by (test e.0) (lookup-append xs ys)
    where
      by : (b : Bool) → lookup test (xs ++ ys) ≡ first (lookup test xs) (lookup test ys)
          → cond b (Some e.1) (lookup test (xs ++ ys)) ≡ first (cond b (Some e.1) (lookup test xs)) (lookup test ys)
      by true rest = refl
      by false rest = rest

pub OnErr-any : {X E : Type 0} {P : Type 0} (r : Result X E) → P → OnErr r P
OnErr-any (Ok x) p = tt
OnErr-any (Err e) p = p

-- a look-up after the keys are seen as something else
pub lookup-map : {K L X : Type 0} (see : K → L) (test : L → Bool) (entries : List (K × X)) → lookup test (map (λ e. (see e.0, e.1)) entries) ≡ lookup (λ k. test (see k)) entries
lookup-map see test [] = refl
lookup-map see test (e ∷ entries) = ap (λ o. cond (test (see e.0)) (Some e.1) o) (lookup-map see test entries)

module _ (content : List ℕ) where
  find-lookup : (entries : Entries) → find (slice_cmp nat_cmp) content entries ≡ lookup (bytes_eq content) entries
  find-lookup [] = refl
  find-lookup (e ∷ entries) =
      ap (λ b. cond b (Some e.1) (find (slice_cmp nat_cmp) content entries)) (eq_by_cmp-bytes_eq content e.0) ∙ ap (λ o. cond (bytes_eq content e.0) (Some e.1) o) (find-lookup entries)

  looked_for-here : (number : ℕ) → table_of content ≡ number → (entries : Entries) → lookup (bytes_eq content) (looked_for number entries) ≡ lookup (bytes_eq content) entries
  looked_for-here number here [] = refl
  looked_for-here number here (e ∷ entries) = by (looked_for-here number here entries) (bytes_eq content e.0) refl (nat_eq (table_of e.0) number) refl
    where
      by : lookup (bytes_eq content) (looked_for number entries) ≡ lookup (bytes_eq content) entries → (b : Bool) → bytes_eq content e.0 ≡ b → (d : Bool) → nat_eq (table_of e.0) number ≡ d
          → lookup (bytes_eq content) (cond d (e ∷ looked_for number entries) (looked_for number entries)) ≡ cond b (Some e.1) (lookup (bytes_eq content) entries)
      by rest true t true u = ap (λ x. cond x (Some e.1) (lookup (bytes_eq content) (looked_for number entries))) t
      by rest true t false u =
          absurd (let is = eq-eqb (table_of e.0) number (ap (λ (k : List ℕ). table_of k) (sym ((bytes_eq-Decides content e.0).0 t)) ∙ here) in let never = sym u ∙ is in cc)
      by rest false t true u = ap (λ x. cond x (Some e.1) (lookup (bytes_eq content) (looked_for number entries))) t ∙ rest
      by rest false t false u = rest

  looked_for-elsewhere : (number : ℕ) → table_of content ≢ number → (entries : Entries) → lookup (bytes_eq content) (looked_for number entries) ≡ None
  looked_for-elsewhere number other [] = refl
  looked_for-elsewhere number other (e ∷ entries) = by (looked_for-elsewhere number other entries) (bytes_eq content e.0) refl (nat_eq (table_of e.0) number) refl
    where
      by : lookup (bytes_eq content) (looked_for number entries) ≡ None → (b : Bool) → bytes_eq content e.0 ≡ b → (d : Bool) → nat_eq (table_of e.0) number ≡ d
          → lookup (bytes_eq content) (cond d (e ∷ looked_for number entries) (looked_for number entries)) ≡ None
      by rest true t true u = absurd (other (ap (λ (k : List ℕ). table_of k) ((bytes_eq-Decides content e.0).0 t) ∙ eqb-true (table_of e.0) number u))
      by rest false t true u = ap (λ x. cond x (Some e.1) (lookup (bytes_eq content) (looked_for number entries))) t ∙ rest
      by rest true t false u = rest
      by rest false t false u = rest

  all_from-later : (number : ℕ) (tables : List Entries) → table_of content < number → lookup (bytes_eq content) (all_from number tables) ≡ None
  all_from-later number [] before = refl
  all_from-later number (table ∷ tables) before =
      lookup-append (bytes_eq content) (looked_for number table) (all_from (number + 1) tables)
      ∙ ap (λ o. first o (lookup (bytes_eq content) (all_from (number + 1) tables))) (looked_for-elsewhere number (λ e. omega arith) table)
      ∙ all_from-later (number + 1) tables (omega arith)

  all_from-at : (tables : List Entries) (number at : ℕ) → table_of content ≡ number + at → lookup (bytes_eq content) (all_from number tables) ≡ lookup (bytes_eq content) (entries_of tables at)
  all_from-at [] number at is = refl
  all_from-at (table ∷ tables) number zero is =
      lookup-append (bytes_eq content) (looked_for number table) (all_from (number + 1) tables)
      ∙ ap (first (lookup (bytes_eq content) (looked_for number table))) (all_from-later (number + 1) tables (omega arith))
      ∙ first-None (lookup (bytes_eq content) (looked_for number table)) ∙ looked_for-here number (omega arith) table
  all_from-at (table ∷ tables) number (suc at) is =
      lookup-append (bytes_eq content) (looked_for number table) (all_from (number + 1) tables)
      ∙ ap (λ o. first o (lookup (bytes_eq content) (all_from (number + 1) tables))) (looked_for-elsewhere number (λ e. omega arith) table)
      ∙ all_from-at tables (number + 1) at (omega arith)

  -- what an index has for a content is what the table for it has
  pub get-indices_of : (tables : List Entries) → get (indices_of tables) content ≡ lookup (bytes_eq content) (entries_of tables (table_of content))
  get-indices_of tables = get-from_entries nat_list_cmp_total (all_from 0 tables) content ∙ find-lookup (all_from 0 tables) ∙ all_from-at tables 0 (table_of content) (omega arith)

module _ {X : Type 0} (see : X → Entries) where
  entries_of-map : (tables : List X) (at : ℕ) (default : X) → at < length tables → entries_of (map see tables) at ≡ see (get_or tables at default)
  entries_of-map [] at default within = absurd (omega arith)
  entries_of-map (x ∷ tables) zero default within = refl
  entries_of-map (x ∷ tables) (suc at) default within = entries_of-map tables at default (omega arith)

  entries_of-set : (tables : List X) (at : ℕ) (new : X) → at < length tables → entries_of (map see (set tables at new)) at ≡ see new
  entries_of-set [] at new within = absurd (omega arith)
  entries_of-set (x ∷ tables) zero new within = refl
  entries_of-set (x ∷ tables) (suc at) new within = entries_of-set tables at new (omega arith)

  entries_of-others : (tables : List X) (at : ℕ) (new : X) (k : ℕ) → k ≢ at → entries_of (map see (set tables at new)) k ≡ entries_of (map see tables) k
  entries_of-others [] at new k other = refl
  entries_of-others (x ∷ tables) zero new zero other = absurd (other refl)
  entries_of-others (x ∷ tables) zero new (suc k) other = refl
  entries_of-others (x ∷ tables) (suc at) new zero other = refl
  entries_of-others (x ∷ tables) (suc at) new (suc k) other = entries_of-others tables at new k (λ e. other (ap suc e))

  -- a content is looked for in its table alone
  pub get-indices_of-map : (tables : List X) (content : List ℕ) (at : ℕ) (default : X) → at ≡ table_of content → at < length tables
      → get (indices_of (map see tables)) content ≡ lookup (bytes_eq content) (see (get_or tables at default))
  get-indices_of-map tables content at default number within =
      get-indices_of content (map see tables) ∙ ap (λ n. lookup (bytes_eq content) (entries_of (map see tables) n)) (sym number)
      ∙ ap (lookup (bytes_eq content)) (entries_of-map tables at default within)

  module _ (tables : List X) (content : List ℕ) (number at : ℕ) (default : X) (new : X) (here : at ≡ table_of content) (within : at < length tables)
      (absent : lookup (bytes_eq content) (see (get_or tables at default)) ≡ None) (added : see new ≡ see (get_or tables at default) ++ (content, number) ∷ []) where
    -- what the table had
    abbrev old : Entries
    old = see (get_or tables at default)

    in_new : (sought : List ℕ) (b : Bool) → bytes_eq sought content ≡ b → lookup (bytes_eq sought) (see new) ≡ cond b (Some number) (lookup (bytes_eq sought) old)
    in_new sought b e = ap (lookup (bytes_eq sought)) added ∙ lookup-append (bytes_eq sought) old ((content, number) ∷ []) ∙ by b e
      where
        by : (b : Bool) → bytes_eq sought content ≡ b
            → first (lookup (bytes_eq sought) old) (cond (bytes_eq sought content) (Some number) None) ≡ cond b (Some number) (lookup (bytes_eq sought) old)
        by true t =
            let none : lookup (bytes_eq sought) old ≡ None = ap (λ (c : List ℕ). lookup (bytes_eq c) old) ((bytes_eq-Decides sought content).0 t) ∙ absent in
            ap (λ o. first o (cond (bytes_eq sought content) (Some number) None)) none ∙ ap (λ b. cond b (Some number) None) t
        by false t = ap (λ b. first (lookup (bytes_eq sought) old) (cond b (Some number) None)) t ∙ first-None (lookup (bytes_eq sought) old)

    each : (sought : List ℕ) → get (indices_of (map see (set tables at new))) sought ≡ get (insert (indices_of (map see tables)) content number) sought
    each sought =
        get-indices_of sought (map see (set tables at new)) ∙ by (bytes_eq sought content) refl (nat_eq (table_of sought) at) refl
        ∙ sym (get-insert nat_list_cmp_total (indices_of (map see tables)) content number sought ∙ ap (λ b. cond b (Some number) (get (indices_of (map see tables)) sought)) (eq_by_cmp-bytes_eq sought content)
        ∙ ap (λ o. cond (bytes_eq sought content) (Some number) o) (get-indices_of sought (map see tables)))
      where
        there : table_of sought ≡ at → lookup (bytes_eq sought) (entries_of (map see (set tables at new)) (table_of sought)) ≡ lookup (bytes_eq sought) (see new)
        there e = ap (λ n. lookup (bytes_eq sought) (entries_of (map see (set tables at new)) n)) e ∙ ap (lookup (bytes_eq sought)) (entries_of-set tables at new within)

        before : table_of sought ≡ at → lookup (bytes_eq sought) (entries_of (map see tables) (table_of sought)) ≡ lookup (bytes_eq sought) old
        before e = ap (λ n. lookup (bytes_eq sought) (entries_of (map see tables) n)) e ∙ ap (lookup (bytes_eq sought)) (entries_of-map tables at default within)

        by : (b : Bool) → bytes_eq sought content ≡ b → (d : Bool) → nat_eq (table_of sought) at ≡ d
            → lookup (bytes_eq sought) (entries_of (map see (set tables at new)) (table_of sought)) ≡ cond (bytes_eq sought content) (Some number) (lookup (bytes_eq sought) (entries_of (map see tables) (table_of sought)))
        by true t true u = there (eqb-true (table_of sought) at u) ∙ in_new sought true t ∙ sym (ap (λ b. cond b (Some number) (lookup (bytes_eq sought) (entries_of (map see tables) (table_of sought)))) t)
        by true t false u =
            absurd (let e = eq-eqb (table_of sought) at (ap (λ (c : List ℕ). table_of c) ((bytes_eq-Decides sought content).0 t) ∙ sym here) in let never = sym u ∙ e in cc)
        by false t true u =
            let e = eqb-true (table_of sought) at u in
            there e ∙ in_new sought false t ∙ sym (before e) ∙ sym (ap (λ b. cond b (Some number) (lookup (bytes_eq sought) (entries_of (map see tables) (table_of sought)))) t)
        by false t false u =
            ap (lookup (bytes_eq sought)) (entries_of-others tables at new (table_of sought) (λ e. absurd (let e1 = eq-eqb (table_of sought) at e in let never = sym u ∙ e1 in cc)))
            ∙ sym (ap (λ b. cond b (Some number) (lookup (bytes_eq sought) (entries_of (map see tables) (table_of sought)))) t)

    -- what is put at the end of its table is in the index, and all else stays
    pub indices_of-set : indices_of (map see (set tables at new)) ≡ insert (indices_of (map see tables)) content number
    indices_of-set = same_map nat_list_cmp_total (slice_cmp-IsAntisymmetric nat_cmp-IsAntisymmetric) _ _ each

  map-set_same : (tables : List X) (at : ℕ) (default : X) (new : X) → see new ≡ see (get_or tables at default) → map see (set tables at new) ≡ map see tables
  map-set_same [] at default new same = refl
  map-set_same (x ∷ tables) zero default new same = ap (λ t. t ∷ map see tables) same
  map-set_same (x ∷ tables) (suc at) default new same = ap (λ ts. see x ∷ ts) (map-set_same tables at default new same)

  -- a table of the same entries changes nothing
  pub indices_of-set_same : (tables : List X) (at : ℕ) (default : X) (new : X) → see new ≡ see (get_or tables at default)
      → indices_of (map see (set tables at new)) ≡ indices_of (map see tables)
  indices_of-set_same tables at default new same = ap (λ ts. indices_of ts) (map-set_same tables at default new same)

  none_of : (tables : List X) → ((at : ℕ) (table : X) → at < length tables → see (get_or tables at table) ≡ []) → (k : ℕ) → entries_of (map see tables) k ≡ []
  none_of [] all k = refl
  none_of (x ∷ tables) all zero = all 0 x (omega arith)
  none_of (x ∷ tables) all (suc k) = none_of tables (λ at table within. all (suc at) table (omega arith)) k

  -- tables of nothing are an index of nothing
  pub indices_of-none : (tables : List X) → ((at : ℕ) (table : X) → at < length tables → see (get_or tables at table) ≡ []) → indices_of (map see tables) ≡ empty
  indices_of-none tables all = same_map nat_list_cmp_total (slice_cmp-IsAntisymmetric nat_cmp-IsAntisymmetric) _ _
      (λ sought. get-indices_of sought (map see tables) ∙ ap (lookup (bytes_eq sought)) (none_of tables all (table_of sought)) ∙ sym (get-empty (slice_cmp nat_cmp) sought))
