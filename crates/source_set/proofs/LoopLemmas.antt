-- Where reading a set stands between two files.
use Rattle.std.proofs.Common.{◌≡◌, ℕ, zero, suc, ◌+◌, ◌-◌, ◌<◌, ◌≤◌, min, List, [], ◌∷◌, ◌++◌, length, take, map, Option, Some, None, Ok, string_bytes, slice_get, refl, sym, ap, subst, ◌∙◌, arith, zero-add}
use Rattle.std.proofs.lemmas.List.{length-map, length-append, map-append}
use Rattle.std.proofs.lemmas.List.Sums.{sum_by-append}
use Rattle.std.specs.FinMap as finite
use Rattle.wr_outside.specs.Files.{Files}
use Rattle.midl_tree.specs.Views.{source_view}
use Rattle.source_set.specs.declared.source.Source.{Source}
use Rattle.source_set.specs.Events.{IsNext, Follows, Begins, Holds}
use Rattle.source_set.specs.Found.{Read, with_names, once, found, first_names, size_of, room, imports_in}
use Rattle.source_set.specs.Imports.{imported}
use Rattle.source_set.specs.Reads.{read_of, AreNumbered, MayHold}
use Rattle.source_set.specs.Stops.{Complete}
use Rattle.source_set.specs.Turns.{Turn}
use Rattle.source_set.proofs.NameLemmas.{first_all}
use Rattle.source_set.proofs.SetLemmas.{Settled, found_more, found_none, each_more, no_element, begins_none, begins_more, holds_more}
use Rattle.source_set.proofs.TurnLemmas.{Before, settle}

-- these sources were read, these names are known, and so many bytes are left
pub record State (words : List (List ℕ)) (held : Option Files) (names : List (List ℕ)) (sources : List Source) (left : ℕ) : Type 0 where
  pub files : Files
  pub may_hold : MayHold held files
  pub begins : Begins words (map read_of sources)
  pub holds : Holds files (map read_of sources)
  pub names_are : names ≡ first_names (found words (map read_of sources))
  pub few : length sources ≤ 256
  pub left_is : left + size_of (map read_of sources) ≡ 16777216
  pub numbered : AreNumbered sources

held_files : (held : Option Files) → (files : Files) × MayHold held files
held_files None = (finite.empty, tt)
held_files (Some files) = (files, refl)

pub start : (words : List (List ℕ)) (held : Option Files) (names : List (List ℕ)) → names ≡ first_names (once words) → State words held names [] 16777216
start words held names e = record {
  files = (held_files held).0;
  may_hold = (held_files held).1;
  begins = begins_none words;
  holds = record { each = λ k r at. absurd (no_element k r at) };
  names_are = e ∙ ap first_names (sym (found_none words));
  few = omega arith;
  left_is = refl;
  numbered = record { each = λ k s at. absurd (no_element k s at) };
}

get_take : {X : Type 0} (n k : ℕ) (xs : List X) → k < n → slice_get (take n xs) k ≡ slice_get xs k
get_take zero k xs l = absurd (omega arith)
get_take (suc n) k [] l = refl
get_take (suc n) zero (x ∷ xs) l = refl
get_take (suc n) (suc k) (x ∷ xs) l = get_take n k xs (omega arith)

-- the name that a copy was made of stands at this place
pub at_place : (names : List (List ℕ)) (place n : ℕ) (given name : List ℕ) → ◌≡◌ {A = Option (List ℕ)} (Some given) (slice_get names place) → place ≡ n
    → name ≡ given → slice_get names n ≡ Some name
at_place names place n given name at same copy = sym (at ∙ ap (slice_get names) same) ∙ ap (λ t. Some t) (sym copy)

module _ (words : List (List ℕ)) (held : Option Files) (names : List (List ℕ)) (sources : List Source) (left : ℕ) (state : State words held names sources left) where
  -- what stands in the kept names at this place stands in all names
  found_here : slice_get (found words (map read_of sources)) (length (map read_of sources)) ≡ slice_get names (length sources)
  found_here =
      ap (slice_get (found words (map read_of sources))) (length-map sources read_of)
      ∙ sym (get_take 257 (length sources) (found words (map read_of sources)) (omega (arith, state.few)))
      ∙ ap (λ t. slice_get t (length sources)) (sym state.names_are)

  pub comes : (name : List ℕ) → slice_get names (length sources) ≡ Some name → Before words held (map read_of sources) name
  comes name e = record { files = state.files; may_hold = state.may_hold; begins = state.begins; holds = state.holds; next = found_here ∙ e }

  none_past : {X : Type 0} (xs : List X) (k : ℕ) → slice_get xs k ≡ None → length xs ≤ k
  none_past [] k e = omega arith
  none_past {X = X} (x ∷ xs) zero e = let bad : ◌≡◌ {A = Option X} (Some x) None = e in cc
  none_past (x ∷ xs) (suc k) e = omega (arith, none_past xs k e)

  pub complete : slice_get names (length sources) ≡ None → Complete words held sources
  complete e = record {
    files = state.files;
    may_hold = state.may_hold;
    none = record {
      begins = state.begins;
      holds = state.holds;
      all = none_past (found words (map read_of sources)) (length (map read_of sources)) (found_here ∙ e);
    };
    numbered = state.numbered;
  }

  pub limit_is : min 4194304 left ≡ room (map read_of sources)
  limit_is = ap (min 4194304) (let is : left ≡ 16777216 - size_of (map read_of sources) = omega (arith, state.left_is) in is)

  pub fits : (s : Source) (number limit : ℕ) (name : List ℕ) → limit ≡ min 4194304 left → Turn held number limit name (Ok s) → length s.text.bytes.items ≤ left
  fits s number limit name e turn = omega (arith, turn.is.2, e)

  pub more : (names' : List (List ℕ)) (s : Source) (number limit : ℕ) (name : List ℕ) → slice_get names (length sources) ≡ Some name → length sources < 256
      → number ≡ length sources → limit ≡ min 4194304 left → Turn held number limit name (Ok s)
      → names' ≡ first_names (with_names names (imported (string_bytes s.text.name) (source_view s.file)))
      → State words held names' (sources ++ s ∷ []) (left - length s.text.bytes.items)
  more names' s number limit name at few n l turn e =
      let reads : List Read = map read_of sources in
      let r : Read = read_of s in
      let snoc : map read_of (sources ++ s ∷ []) ≡ reads ++ r ∷ [] = map-append read_of sources (s ∷ []) in
      let here : Before words held reads name = comes name at in
      let set : Settled held reads name (Some s.text.bytes.items) = subst (Settled held reads name) turn.is.1 (settle words held reads name turn.content here turn.told) in
      let follows : Follows words reads r = record {
        few = omega (arith, length-map sources read_of);
        next = subst (IsNext words reads) (sym turn.is.0) here.next;
        short = subst (λ m. length s.text.bytes.items ≤ m) (l ∙ limit_is) turn.is.2;
        tree = turn.is.3;
      } in
      let low : length s.text.bytes.items ≤ left = fits s number limit name l turn in
      let grown : size_of (reads ++ r ∷ []) ≡ size_of reads + length s.text.bytes.items = sum_by-append (λ x. length x.bytes) reads (r ∷ []) ∙ ap (λ t. size_of reads + t) (zero-add (length s.text.bytes.items)) in
      record {
        files = set.files;
        may_hold = set.may_hold;
        begins = subst (Begins words) (sym snoc) (begins_more words reads r here.begins follows);
        holds = subst (Holds set.files) (sym snoc) (holds_more set.files reads r set.holds (subst (λ m. finite.get set.files m ≡ Some s.text.bytes.items) (sym turn.is.0) set.content_is));
        names_are =
            e ∙ ap (λ t. first_names (with_names t (imports_in r))) state.names_are
            ∙ first_all 257 (found words reads) (imports_in r)
            ∙ ap first_names (sym (found_more words reads r) ∙ ap (found words) (sym snoc));
        few = omega (arith, length-append sources (s ∷ []));
        left_is = omega (arith, state.left_is, grown, ap size_of snoc, low);
        numbered = record {
          each = each_more (λ k xs x. x.file.number ≡ k) sources s state.numbered.each (turn.is.4 ∙ n);
        };
      }
