-- Which reply is owed, by what reading and resolving a set answered.
use Rattle.std.proofs.Common.{◌≡◌, ◌≢◌, ℕ, suc, ◌+◌, ◌≤◌, List, [], ◌∷◌, ◌++◌, map, slice_get, Option, Some, refl, sym, ap, subst, ◌∙◌, inl, inr, arith}
use Rattle.ranked.specs.Entries.{Entry}
use Rattle.wr_outside.specs.Files.{Files}
use Rattle.midl_tree.specs.declared.nodes.File.{File}
use Rattle.midl_tree.specs.Views.{source_view}
use Rattle.midl_names.specs.Items.{Source as Tree}
use Rattle.midl_names.specs.Views as views
use Rattle.source_set.specs.declared.source.Source.{Source}
use Rattle.source_set.specs.Events.{Event, too_many, missing, too_long, refused}
use Rattle.source_set.specs.Lines.{IsRefusalLine}
use Rattle.source_set.specs.Texts.{text_of, text_in}
use Rattle.source_set.specs.Reads.{read_of, text_view, AreNumbered}
use Rattle.source_set.specs.Stops.{Complete, Stopped, Faulted, Reached}
use Rattle.wr_tools.specs.Command.{Owes}
use Rattle.wr_tools.specs.Lines.{read_fault}
use Rattle.wr_tools.specs.Made.{Made}
use Rattle.wr_tools.proofs.SourceLaws.{writable}
use Rattle.wr_tools.specs.Midl.{EventLine, status_of}
use Rattle.wr_tools.specs.Words.{command_for}
use Rattle.winrt_words.specs.Words.{midl}
use Rattle.wr_tools.specs.Outcomes.{RefusalOwed, ReadFaultOwed}
use Rattle.wr_tools.specs.Reply.{done}
use Rattle.wr_tools.specs.Sets.{sources_from, sources_of, FirstFault}

-- ---- a set that isn't read whole

low : (event : Event) → 1 ≤ status_of event
low too_many = omega arith
low missing = omega arith
low too_long = omega arith
low (refused e) = omega arith

high : (event : Event) → status_of event ≤ 3
high too_many = omega arith
high missing = omega arith
high too_long = omega arith
high (refused e) = omega arith

matched : (event : Event) → status_of event ≢ 2
matched too_many = λ e. absurd (omega (arith, e))
matched missing = λ e. absurd (omega (arith, e))
matched too_long = λ e. absurd (omega (arith, e))
matched (refused x) = λ e. absurd (omega (arith, e))

pub event_owed : (out : List ℕ) (words : List (List ℕ)) (held : Option Files) (name line : List ℕ) (event : Event) → Stopped words held name event
    → ((files : Files) → EventLine files name event line) → RefusalOwed (midl (out, words)) held (status_of event) line
event_owed out words held name line event s said = record {
  low = low event;
  high = high event;
  matched = matched event;
  owed = record {
    files = s.files;
    may_hold = s.may_hold;
    holds = inl (record { name = name; event = event; first = s.first; line = line; said = said s.files; is = refl });
  };
}

pub faulted_owed : (out : List ℕ) (words : List (List ℕ)) (held : Option Files) (name bytes line : List ℕ) (e : Entry) → Faulted words held name bytes (refused e)
    → IsRefusalLine name bytes e line → RefusalOwed (midl (out, words)) held 1 line
faulted_owed out words held name bytes line e f said = record {
  low = omega arith;
  high = omega arith;
  matched = λ e. absurd (omega (arith, e));
  owed = record {
    files = f.files;
    may_hold = f.may_hold;
    holds = inl (record { name = name; event = refused e; first = f.first; line = line; said = (bytes, f.bytes_are, said); is = refl });
  };
}

pub read_owed : (out : List ℕ) (words : List (List ℕ)) (held : Option Files) (name line : List ℕ) → Reached words held name → line ≡ name ++ read_fault
    → ReadFaultOwed (midl (out, words)) held line
read_owed out words held name line r e = record {
  name = name;
  awaited = record { files = r.files; may_hold = r.may_hold; holds = r.awaits };
  is = e;
}

-- ---- a set whose files have trees

map-map : {X Y Z : Type 0} (f : Y → Z) (g : X → Y) (xs : List X) → map f (map g xs) ≡ map (λ x. f (g x)) xs
map-map f g [] = refl
map-map f g (x ∷ xs) = ap (λ ys. f (g x) ∷ ys) (map-map f g xs)

numbered_from : (n : ℕ) (sources : List Source) → ((k : ℕ) (s : Source) → slice_get sources k ≡ Some s → s.file.number ≡ n + k)
    → map (λ s. views.source_of s.file) sources ≡ sources_from n (map read_of sources)
numbered_from n [] each = refl
numbered_from n (s ∷ ss) each =
    let here : s.file.number ≡ n = each 0 s refl ∙ omega arith in
    let later : map (λ s. views.source_of s.file) ss ≡ sources_from (n + 1) (map read_of ss) =
    numbered_from (n + 1) ss (λ k t at. each (suc k) t at ∙ omega arith) in
    ap (λ m. record { file = m; tree = source_view s.file } ∷ map (λ s. views.source_of s.file) ss) here
    ∙ ap (λ rest. record { file = n; tree = source_view s.file } ∷ rest) later

-- the files' trees are those of the set
pub same_trees : (sources : List Source) (files : List File) → AreNumbered sources → files ≡ map (λ t. t.file) sources
    → views.sources_of files ≡ sources_of (map read_of sources)
same_trees sources files n e =
    ap views.sources_of e ∙ map-map views.source_of (λ (t : Source). t.file) sources
    ∙ numbered_from 0 sources (λ k s at. n.each k s at ∙ omega arith)

same_texts : (sources : List Source) → map text_of (map read_of sources) ≡ map (λ (s : Source). text_view s.text) sources
same_texts sources = map-map text_of read_of sources

module _ (out : List ℕ) (words : List (List ℕ)) (held : Option Files) (sources : List Source) (files : List File) (complete : Complete words held sources)
    (are : files ≡ map (λ t. t.file) sources) where
  trees : views.sources_of files ≡ sources_of (map read_of sources)
  trees = same_trees sources files complete.numbered are

  -- a fault of the set
  pub fault_owed : (texts : List (List ℕ × List ℕ)) (e : Entry) (line : List ℕ) → texts ≡ map (λ (s : Source). text_view s.text) sources
      → FirstFault (views.sources_of files) e → IsRefusalLine (text_in texts e.file).0 (text_in texts e.file).1 e line
      → RefusalOwed (midl (out, words)) held 1 line
  fault_owed texts e line same first said = record {
    low = omega arith;
    high = omega arith;
    matched = λ e. absurd (omega (arith, e));
    owed = record {
      files = complete.files;
      may_hold = complete.may_hold;
      holds = inr (inl (record {
        reads = map read_of sources;
        read = complete.none;
        fault = e;
        first = subst (λ (ts : List Tree). FirstFault ts e) trees first;
        line = line;
        said = subst (λ (ts : List (List ℕ × List ℕ)). IsRefusalLine (text_in ts e.file).0 (text_in ts e.file).1 e line) (same ∙ sym (same_texts sources)) said;
        is = refl;
      }));
    };
  }

  -- an image is written
  pub image_owed : (bytes : List ℕ) → Made (views.sources_of files) bytes → Owes (command_for (midl (out, words))) held (done out bytes)
  image_owed bytes made =
      let here : Made (sources_of (map read_of sources)) bytes = subst (λ (ts : List Tree). Made ts bytes) trees made in
      record {
        files = complete.files;
        may_hold = complete.may_hold;
        holds = inr (inr (record {
          reads = map read_of sources;
          read = complete.none;
          types = here.made.types;
          resolved = here.resolved;
          sound = here.made.sound;
          bytes = bytes;
          image = record {
            strict = here.made.strict;
            states = here.made.states (writable words (map read_of sources) complete.none.begins bytes here);
          };
          is = refl;
        }));
      }
