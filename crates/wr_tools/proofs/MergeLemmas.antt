-- What is owed for images, and what merges nothing is refused of.
use Rattle.std.proofs.Common.{◌≡◌, ◌≢◌, ℕ, zero, suc, ◌+◌, ◌<◌, ◌≤◌, List, [], ◌∷◌, ◌++◌, map, length, Option, None, Some, Ok, Err, refl, ap, subst, inl, inr, arith}
use Rattle.std.specs.List.{All}
use Rattle.ranked.specs.declared.stop.Stop.TheVariants.{Refused}
use Rattle.winmd_strict.specs.Reading.{TypesOf}
use Rattle.winmd_write.specs.Writable.{Writable}
use Rattle.winmd_writer.specs.Finished.{StrictFor}
use Rattle.writable_sets.specs.Stated.{IsStated, NoGuid}
use Rattle.writable_sets.proofs.Writing.{each_fits, few_accepted, small_accepted}
use Rattle.wr_base.specs.Trees.{decl_tree}
use Rattle.wr_base.specs.declared.declaration.Declaration.{Declaration}
use Rattle.wr_outside.specs.Files.{Files}
use Rattle.image_set.specs.Images.{AreTaken, Awaits, TakenBy, TakenFrom, FirstEvent, Event, too_many, missing, too_long, faulty}
use Rattle.image_set.proofs.OutcomeLaws.{same_sets, none_stops}
use Rattle.md_merge.specs.Merged.{IsMerged, IsRefusalOf}
use Rattle.md_merge.specs.declared.refusal.MergeRefusal.{MergeRefusal}
use Rattle.md_merge.proofs.MergeLaws.{gives}
use Rattle.read_sets.specs.Images.{IsImageSet}
use Rattle.winrt_words.specs.Words.{mdmerge}
use Rattle.wr_tools.specs.Command.{Owes}
use Rattle.wr_tools.specs.Lines.{read_fault}
use Rattle.wr_tools.specs.Merge.{IsMergeLine, event_line, status_of, merge_command}
use Rattle.wr_tools.specs.Outcomes.{RefusalOwed, ReadFaultOwed}
use Rattle.wr_tools.specs.Reply.{refusal, done}
use Rattle.wr_tools.specs.Words.{command_for}
use Rattle.wr_tools.proofs.EndLemmas.{IsSettled}

-- ---- an image that stops

low : (event : Event) → 1 ≤ status_of event
low too_many = omega arith
low missing = omega arith
low too_long = omega arith
low (faulty fault) = omega arith

high : (event : Event) → status_of event ≤ 3
high too_many = omega arith
high missing = omega arith
high too_long = omega arith
high (faulty fault) = omega arith

matched : (event : Event) → status_of event ≢ 2
matched too_many = λ e. absurd (omega (arith, e))
matched missing = λ e. absurd (omega (arith, e))
matched too_long = λ e. absurd (omega (arith, e))
matched (faulty fault) = λ e. absurd (omega (arith, e))

module _ (out : List ℕ) (words : List (List ℕ)) (held : Option Files) where
  pub image_refused : (name line : List ℕ) (event : Event) → FirstEvent held words name event → line ≡ event_line name event
      → RefusalOwed (mdmerge (out, words)) held (status_of event) line
  image_refused name line event first e = record {
    low = low event;
    high = high event;
    matched = matched event;
    owed = inl (record { name = name; event = event; first = first; is = ap (refusal (status_of event)) e });
  }

  pub image_unread : (name line : List ℕ) → Awaits held words name → line ≡ name ++ read_fault → ReadFaultOwed (mdmerge (out, words)) held line
  image_unread name line awaits e = record { name = name; awaited = awaits; is = e }

  -- ---- sets that are refused together, or merged

  pub union_refused : (sets : List (List Declaration)) (cause : MergeRefusal) (line : List ℕ) → AreTaken held words sets → IsRefusalOf sets cause → IsMergeLine out cause line
      → RefusalOwed (mdmerge (out, words)) held 1 line
  union_refused sets cause line taken refuses said = record {
    low = omega arith;
    high = omega arith;
    matched = λ e. absurd (omega (arith, e));
    owed = inr (inl (record { sets = sets; taken = taken; cause = cause; refuses = refuses; line = line; said = said; is = refl }));
  }

  pub union_owed : (sets : List (List Declaration)) (types : List Declaration) (bytes : List ℕ) → AreTaken held words sets → IsMerged sets types → StrictFor (map decl_tree types) bytes
      → TypesOf bytes ≡ Ok (map decl_tree types) → Owes (command_for (mdmerge (out, words))) held (done out bytes)
  union_owed sets types bytes taken merged strict states =
      inr (inr (record { sets = sets; taken = taken; types = types; merged = merged; bytes = bytes; image = record { strict = strict; states = states }; is = refl }))

-- ---- the sets of images

module _ (held : Option Files) where
  stated_by : (n : ℕ) (content : Option (List ℕ)) (types : List Declaration) → TakenBy n content types → IsImageSet types
  stated_by n None types is = absurd is.1
  stated_by n (Some bytes) types is = (bytes, is.1.1)

  -- each is what an image states
  pub all_stated : (n : ℕ) (names : List (List ℕ)) (sets : List (List Declaration)) → TakenFrom held n names sets → All IsImageSet sets
  all_stated n [] [] taken k d l = absurd (omega (arith, l))
  all_stated n [] (t ∷ ts) taken k d l = absurd taken
  all_stated n (name ∷ names) [] taken k d l = absurd taken
  all_stated n (name ∷ names) (t ∷ ts) taken zero d l = stated_by n taken.0.content t taken.0.is
  all_stated n (name ∷ names) (t ∷ ts) taken (suc k) d l = all_stated (suc n) names ts taken.1 k d (omega (arith, l))

  -- and there are few
  few_from : (n : ℕ) (names : List (List ℕ)) (sets : List (List Declaration)) → n ≤ 256 → TakenFrom held n names sets → n + length sets ≤ 256
  few_from n [] [] low taken = omega (arith, low)
  few_from n [] (t ∷ ts) low taken = absurd taken
  few_from n (name ∷ names) [] low taken = absurd taken
  few_from n (name ∷ names) (t ∷ ts) low taken =
      let here : n < 256 = taken.0.is.0 in
      let more = few_from (suc n) names ts (omega (arith, here)) taken.1 in
      omega (arith, more)

  pub few : (names : List (List ℕ)) (sets : List (List Declaration)) → AreTaken held names sets → length sets ≤ 256
  few names sets taken = let most = few_from 0 names sets (omega arith) taken in omega (arith, most)

-- the union of what images state can be stated, where it is accepted
pub union_writable : (sets : List (List Declaration)) (types : List Declaration) → IsMerged sets types → All (IsStated types) types → NoGuid types → Writable types
union_writable sets types merged stated free = record {
  each = each_fits types merged.accepted stated free;
  few = few_accepted types merged.accepted;
  small = small_accepted types merged.accepted;
}

-- images that are right are merged
pub merge_settled : (out : List ℕ) (words : List (List ℕ)) → IsSettled (merge_command out words)
merge_settled out words files reply ok (inl r) = absurd (none_stops files words ok.sets r.name r.event ok.taken r.first)
merge_settled out words files reply ok (inr (inl r)) =
    let same = same_sets files 0 words ok.sets r.sets ok.taken r.taken in
    absurd (gives r.sets ok.types (Err (Refused r.cause)) tt r.refuses (subst (λ (s : List (List Declaration)). IsMerged s ok.types) same ok.merged))
merge_settled out words files reply ok (inr (inr u)) = ap (λ r. r.status) u.is
