-- What a parse by a form comes to.
use Rattle.std.proofs.Common.{◌≡◌, ◌∙◌, ℕ, List, [], ◌∷◌, Option, None, Some, Result, Ok, Err, IfOk, IsErr, is_some, option_map, option_and_then, codes, true, false, refl, sym, ap, subst, inl, inr}
use Rattle.clap.specs.Words.{App, Kinds, IsAmong, HasKind, HasMatchesOf, kind_of, is_simple, fault_of, is_simple_and_free, matches_of, rows_of, found_of, first_value, matched_of, raw_values, first_of, all_of}
use Rattle.clap.proofs.WalkLemmas.{first_value-rows, raw_values-rows}
use Rattle.clap.specs.declared.error.Error.{Error}
use Rattle.clap.specs.declared.error.kind.ErrorKind.{ErrorKind}
use Rattle.clap.specs.declared.error.kind.ErrorKind.TheVariants.{OutOfMemory}
use Rattle.clap.specs.declared.parser.matches.ArgMatches.{ArgMatches}
use Rattle.clap.specs.declared.parser.matches.Found.{Found}
use Rattle.clap.specs.declared.parser.matches.MatchedArg.{MatchedArg}
use Rattle.winrt_words.specs.Forms.{files_form, takes}
use Rattle.winrt_words.specs.Words.{Names, names_by, names_in}

-- the form is one of which `clap` says all
files_simple : (name : List ℕ) → is_simple (files_form name) ≡ true
unfolding files_form
files_simple name = refl

files_free : (name : List ℕ) → is_simple_and_free (files_form name) ≡ true
unfolding files_form
files_free name = refl

-- words of which no step fails are taken
taken : (form : App) (words : List (List ℕ)) → fault_of form words ≡ [] → takes form words ≡ true
unfolding takes
taken form words none = rw none refl

names_taken : (form : App) (words : List (List ℕ)) → fault_of form words ≡ [] → names_by form words ≡ names_in (matches_of form words)
unfolding names_by takes
names_taken form words none = rw none refl

-- words of which a step fails aren't
untaken : (form : App) (words : List (List ℕ)) (kind : ErrorKind) → IsAmong kind (fault_of form words) → takes form words ≡ false
unfolding takes
untaken form words kind among = go (fault_of form words) refl among
  where
    go : (kinds : Kinds) → fault_of form words ≡ kinds → IsAmong kind kinds → takes form words ≡ false
    go [] is none = absurd none
    go (k ∷ ks) is one = rw is refl

names_untaken : (form : App) (words : List (List ℕ)) → takes form words ≡ false → names_by form words ≡ None
unfolding names_by
names_untaken form words none = rw none refl

pub ok_as : {X E : Type 0} {P Q : X → Type 0} (r : Result X E) → ((x : X) → P x → Q x) → IfOk r P → IfOk r Q
ok_as (Ok x) f h = f x h
ok_as (Err e) f h = tt

-- what shows as something is something
seen_some : {X Y : Type 0} (f : X → Y) (o : Option X) (v : Option Y) → option_map f o ≡ v → is_some v ≡ true → is_some o ≡ true
seen_some f None None e has = has
seen_some f None (Some y) e has = let bad : None ≡ Some y = e in cc
seen_some f (Some x) v e has = refl

abbrev pairs : {X Y : Type 0} → Option Y → X → Option (X × Y)
pairs files x = option_map (λ y. (x, y)) files

-- rows that have both name something
both_named : {X Y : Type 0} (out : Option X) (files : Option Y) → is_some out ≡ true → is_some files ≡ true → is_some (option_and_then (pairs files) out) ≡ true
both_named None files h g = h
both_named (Some x) None h g = g
both_named (Some x) (Some y) h g = refl

-- what a parse found, of the options one by one
pub no_out : (found : Found) → None ≡ first_value found (codes "out") → None ≡ names_in (rows_of found)
no_out found e = ap (option_and_then (pairs (all_of (codes "files") (rows_of found)))) (e ∙ first_value-rows found (codes "out"))

pub some_out : (found : Found) (out : List ℕ) → Some out ≡ first_value found (codes "out")
    → pairs (option_map raw_values (matched_of found (codes "files"))) out ≡ names_in (rows_of found)
some_out found out e =
    ap (λ (files : Option (List (List ℕ))). pairs files out) (raw_values-rows found (codes "files"))
    ∙ ap (option_and_then (pairs (all_of (codes "files") (rows_of found)))) (e ∙ first_value-rows found (codes "out"))

module _ (name : List ℕ) (app : App) (words : List (List ℕ)) (is : app ≡ files_form name) where
  -- a parse that succeeds
  pub parsed : (matches : ArgMatches) (names : Option Names) → (is_simple_and_free app ≡ true → fault_of app words ≡ []) → HasMatchesOf app words matches
      → names ≡ names_in (rows_of (found_of matches)) → names ≡ names_by (files_form name) words
  parsed matches names kinds found same =
      let none : fault_of (files_form name) words ≡ [] = subst (λ (a : App). is_simple_and_free a ≡ true → fault_of a words ≡ []) is kinds (files_free name) in
      let rows = subst (λ (a : App). HasMatchesOf a words matches) is found (files_simple name) in
      same ∙ ap names_in rows.0 ∙ sym (names_taken (files_form name) words none)

  -- and finds what the form requires
  pub parsed_taken : {G : Type 0} (seen : G → Names) (matches : ArgMatches) (given : Option G) → (is_simple_and_free app ≡ true → fault_of app words ≡ [])
      → (is_some (first_value (found_of matches) (codes "out")) ≡ true) × (is_some (matched_of (found_of matches) (codes "files")) ≡ true)
      → option_map seen given ≡ names_in (rows_of (found_of matches)) → is_some given ≡ takes (files_form name) words
  parsed_taken seen matches given kinds both same =
      let none : fault_of (files_form name) words ≡ [] = subst (λ (a : App). is_simple_and_free a ≡ true → fault_of a words ≡ []) is kinds (files_free name) in
      let found = found_of matches in
      let out : is_some (first_of (codes "out") (rows_of found)) ≡ true = subst (λ (o : Option (List ℕ)). is_some o ≡ true) (first_value-rows found (codes "out")) both.0 in
      let files : is_some (all_of (codes "files") (rows_of found)) ≡ true =
      subst (λ (o : Option (List (List ℕ))). is_some o ≡ true) (raw_values-rows found (codes "files")) (mapped (matched_of found (codes "files")) both.1) in
      seen_some seen given (names_in (rows_of found)) same (both_named (first_of (codes "out") (rows_of found)) (all_of (codes "files") (rows_of found)) out files)
      ∙ sym (taken (files_form name) words none)
    where
      mapped : (o : Option MatchedArg) → is_some o ≡ true → is_some (option_map raw_values o) ≡ true
      mapped None h = h
      mapped (Some x) h = refl

  -- a parse that fails
  fails : {G E : Type 0} (error : Error) (r : Result (Option G) E) → (is_simple_and_free app ≡ true → HasKind (fault_of app words) error)
      → (kind_of error ≡ OutOfMemory → IsErr r) → IfOk r (λ g. takes (files_form name) words ≡ false)
  fails {G} {E} error r kinds memory =
      go r (subst (λ (a : App). is_simple_and_free a ≡ true → HasKind (fault_of a words) error) is kinds (files_free name)) memory
    where
      go : (r : Result (Option G) E) → HasKind (fault_of (files_form name) words) error → (kind_of error ≡ OutOfMemory → IsErr r) → IfOk r (λ g. takes (files_form name) words ≡ false)
      go (Ok g) (inl out) memory = let bad : false ≡ true = memory out in cc
      go (Ok g) (inr among) memory = untaken (files_form name) words (kind_of error) among
      go (Err e) kind memory = tt

  pub failed : {G E : Type 0} (seen : G → Names) (error : Error) (r : Result (Option G) E) → (is_simple_and_free app ≡ true → HasKind (fault_of app words) error)
      → IfOk r (λ g. g ≡ None) → (kind_of error ≡ OutOfMemory → IsErr r) → IfOk r (λ g. option_map seen g ≡ names_by (files_form name) words)
  failed {G} {E} seen error r kinds none memory = go r none (fails error r kinds memory)
    where
      go : (r : Result (Option G) E) → IfOk r (λ g. g ≡ None) → IfOk r (λ g. takes (files_form name) words ≡ false) → IfOk r (λ g. option_map seen g ≡ names_by (files_form name) words)
      go (Ok g) none not_taken = ap (option_map seen) none ∙ sym (names_untaken (files_form name) words not_taken)
      go (Err e) none not_taken = tt

  pub failed_taken : {G E : Type 0} (error : Error) (r : Result (Option G) E) → (is_simple_and_free app ≡ true → HasKind (fault_of app words) error)
      → IfOk r (λ g. g ≡ None) → (kind_of error ≡ OutOfMemory → IsErr r) → IfOk r (λ g. is_some g ≡ takes (files_form name) words)
  failed_taken {G} {E} error r kinds none memory = go r none (fails error r kinds memory)
    where
      go : (r : Result (Option G) E) → IfOk r (λ g. g ≡ None) → IfOk r (λ g. takes (files_form name) words ≡ false) → IfOk r (λ g. is_some g ≡ takes (files_form name) words)
      go (Ok g) none not_taken = ap is_some none ∙ sym not_taken
      go (Err e) none not_taken = tt
