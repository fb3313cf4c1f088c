-- What is made of what is declared, and what sets nothing is refused of.
use Rattle.std.proofs.Common.{◌≡◌, ◌<◌, ◌+◌, ℕ, List, [], ◌∷◌, get_or, slice_get, map, sym, ◌∙◌, arith, ⊎_elim, eq-or-lt_of_le, Option, None, Some, Result, Ok, Err, IfOk, IfErr, OnOk, Vec, ap, subst, inl, inr}
use Rattle.std.specs.List.{All}
use Rattle.std.proofs.lemmas.Option.{get_or_from_slice_get}
use Rattle.std.specs.declared.alloc.Global.{Global}
use Rattle.ranked.specs.Entries.{Entry}
use Rattle.ranked.specs.First.{IsFirst, Clear}
use Rattle.ranked.specs.declared.stop.Stop.{Stop}
use Rattle.ranked.specs.declared.stop.Stop.TheVariants.{Refused, Memory}
use Rattle.wr_base.specs.declared.declaration.Declaration.{Declaration}
use Rattle.wr_base.specs.declared.places.DeclPlaces.{DeclPlaces}
use Rattle.placed_items.specs.Applied.{AreApplied}
use Rattle.placed_items.specs.Named.{AreNamed, ArePathed}
use Rattle.placed_items.specs.declared.placed.PlacedItem.{PlacedItem}
use Rattle.midl_names.specs.Declares.{Declares}
use Rattle.midl_names.specs.Items.{Source}
use Rattle.midl_names.specs.Names.{Names}
use Rattle.midl_names.specs.Answers as names
use Rattle.class_synthesis.specs.Answers as clashes
use Rattle.class_synthesis.specs.Clashes.{IsClash}
use Rattle.type_rules.specs.Answers as rules
use Rattle.source_set.specs.Found.{Read}
use Rattle.source_set.proofs.LawLemmas.{one_set, no_first}
use Rattle.wr_rules.specs.Accepted.{Broken}
use Rattle.wr_base.specs.Trees.{decl_tree}
use Rattle.place_laws.specs.Shapes.{FitPlaces}
use Rattle.winmd_strict.specs.Reading.{TypesOf}
use Rattle.winmd_write.specs.Writable.{Writable}
use Rattle.winmd_writer.specs.Finished.{StrictFor}
use Rattle.writable_sets.specs.Stated.{HasWidths}
use Rattle.wr_tools.specs.Made.{Made, MadeOf, RefusedFirst, RefusedOfTypes}
use Rattle.wr_outside.specs.Files.{Files}
use Rattle.wr_tools.specs.Reply.{Reply}
use Rattle.wr_tools.specs.Midl.{MidlReplies, IsRight, midl_command}
use Rattle.wr_tools.specs.Sets.{sources_of, HasTypes, FirstFault, Unbroken}
use Rattle.wr_tools.proofs.EndLemmas.{IsSettled}

abbrev Answer : Type 0
Answer = Result (Vec ℕ Global) (Stop Entry)

-- ---- widths

-- one more declaration whose numbers have their widths
pub widths_more : (types : List Declaration) (i : ℕ) (x : Declaration) → slice_get types i ≡ Some x → All HasWidths (x ∷ [])
    → ((k : ℕ) (d : Declaration) → k < i → HasWidths (get_or types k d)) → (k : ℕ) (d : Declaration) → k < i + 1 → HasWidths (get_or types k d)
widths_more types i x at here so_far k d l =
    ⊎_elim
    (λ (e : k ≡ i). subst HasWidths (sym (ap (λ j. get_or types j d) e ∙ get_or_from_slice_get types i x d at)) (here 0 x (omega arith)))
    (λ (lt : k < i). so_far k d lt)
    (eq-or-lt_of_le (omega (arith, l)))

-- ---- what is declared

pub nothing_broken : (types : List Declaration) (places : List DeclPlaces) (first : Option Entry) → first ≡ None → IsFirst (Broken types places) first → Clear (Broken types places)
unfolding IsFirst Clear
nothing_broken types places first none is = subst (IsFirst (Broken types places)) none is

rule_refused : (items : List PlacedItem) (types : List Declaration) (places : List DeclPlaces) (stop : Stop Entry) → HasTypes items types places
    → rules.RefusedFirst types places stop → RefusedOfTypes items stop
rule_refused items types places Memory has first = tt
rule_refused items types places (Refused e) has first = inr (record { types = types; places = places; has = has; first = first })

-- a taken name is the first fault of what is declared
pub clash_refused : (items : List PlacedItem) (stop : Stop Entry) → clashes.RefusedFirst items stop → RefusedOfTypes items stop
clash_refused items Memory first = tt
clash_refused items (Refused e) first = inl first

module _ (items : List PlacedItem) (types : List Declaration) (places : List DeclPlaces) (has : HasTypes items types places) where
  -- the image of full types
  pub made_of : (r : Answer) → FitPlaces types places → IfOk r (λ b. Clear (Broken types places)) → OnOk r (All HasWidths types)
      → IfOk r (λ b. StrictFor (map decl_tree types) b.items) → IfOk r (λ b. Writable types → TypesOf b.items ≡ Ok (map decl_tree types)) → IfOk r (λ b. MadeOf items b.items)
  made_of (Ok b) fits kept widths strict states =
      record { types = types; sound = record { places = places; has = has; kept = kept }; fits = fits; widths = widths; strict = strict; states = states }
  made_of (Err e) fits kept widths strict states = tt

  -- a rule or a limit is the first fault of what is declared
  pub rules_refused : (r : Answer) → IfErr r (rules.RefusedFirst types places) → IfErr r (RefusedOfTypes items)
  rules_refused (Ok b) first = tt
  rules_refused (Err stop) first = rule_refused items types places stop has first

-- ---- the set

-- a broken name is the first fault of the set
pub name_refused : (sources : List Source) (stop : Stop Entry) → names.RefusedFirst sources stop → RefusedFirst sources stop
name_refused sources Memory first = tt
name_refused sources (Refused e) first = inl first

types_refused : (sources : List Source) (items : List PlacedItem) (stop : Stop Entry) → items ≡ Declares sources → Clear (Names sources) → RefusedOfTypes items stop
    → RefusedFirst sources stop
types_refused sources items Memory e resolved first = tt
types_refused sources items (Refused x) e resolved first = inr (resolved, subst (λ is. RefusedOfTypes is (Refused x)) e first)

module _ (sources : List Source) (items : List PlacedItem) (declares : items ≡ Declares sources) (resolved : Clear (Names sources)) where
  -- the image of what the sources declare
  pub made_set : (r : Answer) → AreNamed items → ArePathed items → AreApplied items → IfOk r (λ b. MadeOf items b.items) → IfOk r (λ b. Made sources b.items)
  made_set (Ok b) named pathed applied made = record {
    resolved = resolved;
    named = subst AreNamed declares named;
    pathed = subst ArePathed declares pathed;
    applied = subst AreApplied declares applied;
    made = subst (λ is. MadeOf is b.items) declares made;
  }
  made_set (Err e) named pathed applied made = tt

  -- where no name is broken, the first fault of what is declared is that of the set
  pub set_refused : (r : Answer) → IfErr r (RefusedOfTypes items) → IfErr r (RefusedFirst sources)
  set_refused (Ok b) first = tt
  set_refused (Err stop) first = types_refused sources items stop declares resolved first

-- ---- a set of which nothing is broken

none_first : (broken : Entry → Type 0) (e : Entry) → Clear broken → IsFirst broken (Some e) → ⊥
unfolding Clear IsFirst
none_first broken e clear first = clear e first.stands

no_fault : (sources : List Source) (e : Entry) → Unbroken sources → FirstFault sources e → ⊥
no_fault sources e u (inl first) = none_first (Names sources) e u.resolved first
no_fault sources e u (inr (resolved, inl first)) = none_first (IsClash (Declares sources)) e u.made first
no_fault sources e u (inr (resolved, inr b)) = none_first _ e (u.kept b.types b.places b.has.full) b.first

-- a set that is right is compiled
settled_at : (out : List ℕ) (words : List (List ℕ)) (files : Files) (reply : Reply) → IsRight words files → MidlReplies out words files reply → reply.status ≡ 0
settled_at out words files reply ok (inl f) = absurd (no_first words files ok.reads f.name f.event ok.read f.first)
settled_at out words files reply ok (inr (inl r)) =
    absurd (no_fault (sources_of r.reads) r.fault (subst (λ (rs : List Read). Unbroken (sources_of rs)) (one_set words files ok.reads r.reads ok.read r.read) ok.unbroken) r.first)
settled_at out words files reply ok (inr (inr c)) = ap (λ r. r.status) c.is

pub midl_settled : (out : List ℕ) (words : List (List ℕ)) → IsSettled (midl_command out words)
midl_settled out words told reply ok owed = settled_at out words owed.files reply (subst (IsRight words) owed.may_hold ok) owed.holds
