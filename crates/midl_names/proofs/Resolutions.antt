-- From what a pass over the items finds to the answer.
use Rattle.std.proofs.Common.{◌≡◌, ℕ, List, Option, Some, None, Result, Ok, Err, IfOk, IfErr, IsTrue, get_or, map, ap, sym, subst, ◌∙◌}
use Rattle.std.proofs.lemmas.List.Elements.{All-map}
use Rattle.std.proofs.lemmas.Option.{none-some, same_Some}
use Rattle.ranked.specs.Entries.{Entry}
use Rattle.ranked.specs.declared.stop.Stop.{Stop}
use Rattle.ranked.specs.declared.stop.Stop.TheVariants.{Refused, Memory}
use Rattle.ranked.specs.First.{IsFirst, Clear}
use Rattle.ranked.proofs.FirstLaws.{unique}
use Rattle.midl_names.specs.declared.sort.Sort.{Sort}
use Rattle.placed_items.specs.declared.placed.PlacedItem.{PlacedItem}
use Rattle.midl_names.specs.Items.{Item, Source, items_of, full_name}
use Rattle.midl_names.specs.Lookup.{declared_sort}
use Rattle.midl_names.specs.Names.{Broken, Names}
use Rattle.midl_names.specs.Declares.{placed_of, declares, Declares}
use Rattle.midl_names.specs.Answers.{BrokenFirst, RefusedFirst, Resolves, Refuses}
use Rattle.midl_names.specs.Views.{item_of}
use Rattle.midl_names.specs.declared.scoped.Scoped.{Scoped}
use Rattle.wr_base.specs.Paths.{is_path}
use Rattle.placed_items.specs.Applied.{AreApplied}
use Rattle.midl_names.proofs.AppliedLaws.{uses_applied}
use Rattle.placed_items.specs.Items.{HasPlaces, NamesApart}
use Rattle.placed_items.specs.Named.{ArePathed}
use Rattle.midl_names.proofs.PlaceCounts.{places_fit}
use Rattle.midl_names.proofs.PathLaws.{paths_fit}
use Rattle.midl_names.proofs.ApartLaws.{names_apart}

-- functions that agree everywhere are one
pub agreed : (f g : List ℕ → Option Sort) → ((name : List ℕ) → f name ≡ g name) → f ≡ g
agreed f g h = λ i name. h name i

module _ (sources : List Source) (items : List Item) (is : items ≡ items_of sources) where
  pub of_sources : (a : Option Entry) → IsFirst (Broken items) a → IsFirst (Names sources) a
  of_sources a h = subst (λ (us : List Item). IsFirst (Broken us) a) is h

  pub cleared : IsFirst (Broken items) None → Clear (Names sources)
  unfolding IsFirst Clear
  cleared h = of_sources None h

  pub none_first : (e : Entry) → IsFirst (Broken items) None → IsFirst (Names sources) (Some e) → ⊥
  none_first e h f = none-some e (unique (Names sources) None (Some e) (of_sources None h) f)

  pub one_first : (e x : Entry) → IsFirst (Broken items) (Some x) → IsFirst (Names sources) (Some e) → x ≡ e
  one_first e x h f = same_Some x e (unique (Names sources) (Some x) (Some e) (of_sources (Some x) h) f)

  pub not_clear : (x : Entry) → IsFirst (Broken items) (Some x) → Clear (Names sources) → ⊥
  unfolding IsFirst Clear
  not_clear x h clear = clear x (of_sources (Some x) h).stands

  pub clear_of : (r : Result (List PlacedItem) (Stop Entry)) → IfOk r (λ _. IsFirst (Broken items) None) → IfOk r (λ _. Clear (Names sources))
  clear_of (Ok placed) h = cleared h
  clear_of (Err stop) h = tt

  pub declares_of : (r : Result (List PlacedItem) (Stop Entry)) → IfOk r (λ placed. placed ≡ declares items) → IfOk r (λ placed. placed ≡ Declares sources)
  declares_of (Ok placed) h = h ∙ ap declares is
  declares_of (Err stop) h = tt

  pub places_of : (r : Result (List PlacedItem) (Stop Entry)) → IfOk r (λ placed. placed ≡ declares items) → IfOk r HasPlaces
  places_of (Ok placed) h = subst HasPlaces (sym h) (places_fit (declared_sort items) items)
  places_of (Err stop) h = tt

  pub apart_of : (r : Result (List PlacedItem) (Stop Entry)) → IfOk r (λ _. IsFirst (Broken items) None) → IfOk r (λ placed. placed ≡ declares items) → IfOk r NamesApart
  unfolding IsFirst Clear
  apart_of (Ok placed) h e = subst NamesApart (sym e) (names_apart (declared_sort items) items h)
  apart_of (Err stop) h e = tt

  pub applied_of : (r : Result (List PlacedItem) (Stop Entry)) → IfOk r (λ _. IsFirst (Broken items) None) → IfOk r (λ placed. placed ≡ declares items) → IfOk r AreApplied
  unfolding IsFirst Clear
  applied_of (Ok placed) h e = subst AreApplied (sym e) (uses_applied items h)
  applied_of (Err stop) h e = tt

  pub only_of : (r : Result (List PlacedItem) (Stop Entry)) → IfOk r (λ placed. placed ≡ declares items) → IfErr r (BrokenFirst items) → Clear (Names sources) → Resolves (Declares sources) r
  only_of (Ok placed) h f clear = h ∙ ap declares is
  only_of (Err Memory) h f clear = tt
  only_of (Err (Refused x)) h f clear = not_clear x f clear

  pub refused_of : (r : Result (List PlacedItem) (Stop Entry)) → IfErr r (BrokenFirst items) → IfErr r (λ stop. RefusedFirst sources stop)
  refused_of (Ok placed) f = tt
  refused_of (Err Memory) f = tt
  refused_of (Err (Refused x)) f = of_sources (Some x) f

  pub first_of : (r : Result (List PlacedItem) (Stop Entry)) → IfOk r (λ _. IsFirst (Broken items) None) → IfErr r (BrokenFirst items) → (e : Entry) → IsFirst (Names sources) (Some e) → Refuses e r
  first_of (Ok placed) h f e g = none_first e h g
  first_of (Err Memory) h f e g = tt
  first_of (Err (Refused x)) h f e g = one_first e x f g

module _ (known : List ℕ → Option Sort) (scoped : List Scoped) (placed : List PlacedItem) (is : placed ≡ map (placed_of known) (map item_of scoped)) where
  scoped_path : (s : Scoped) → IsTrue (is_path (full_name (item_of s)))
  scoped_path s = subst (λ (n : List ℕ). IsTrue (is_path n)) s.named s.path

  pub all_pathed : ArePathed placed
  all_pathed = subst ArePathed (sym is) (paths_fit known (map item_of scoped) (All-map (λ (i : Item). IsTrue (is_path (full_name i))) item_of scoped (λ k d l. scoped_path (get_or scoped k d))))
