-- Each part of an item has a place.
use Rattle.std.proofs.Common.{◌≡◌, ◌+◌, ℕ, ℤ, pos, ◌+ℤ◌, true, false, List, [], ◌∷◌, ◌++◌, Option, map, length, get_or, refl, sym, ◌∙◌, arith}
use Rattle.std.specs.List.{flat_map}
use Rattle.std.proofs.lemmas.List.{length-map, length-append}
use Rattle.std.proofs.lemmas.List.Elements.{All-map}
use Rattle.wr_base.specs.declared.declaration.Member.{Member}
use Rattle.wr_base.specs.declared.declaration.Member.TheVariants.{Property}
use Rattle.midl_tree.specs.declared.nodes.CaseNode.{CaseNode}
use Rattle.midl_tree.specs.Trees.{FieldsTree, MemberTree, method, event, properties, property, ClassMemberTree, member, constructor, DeclTree, enumeration, structure, delegate, interface, class}
use Rattle.placed_items.specs.declared.placed.PlacedItem.{PlacedItem}
use Rattle.placed_items.specs.Items.{parts_in, HasPlaces}
use Rattle.midl_names.specs.declared.sort.Sort.{Sort}
use Rattle.midl_names.specs.Items.{Item}
use Rattle.midl_names.specs.Members.{value_or, cases_from, fields_of, members_of, named_from}
use Rattle.midl_names.specs.Resolved.{resolved}
use Rattle.midl_names.specs.Declares.{members_on, names_of, constructor_name, part_names, place_at, constructors_of, written_by, placed_of}

-- lists of equal lengths for each element make lists of equal lengths
flat_lengths : {X Y Z : Type 0} (f : X → List Y) (g : X → List Z) → ((x : X) → length (f x) ≡ length (g x)) → (xs : List X) → length (flat_map f xs) ≡ length (flat_map g xs)
flat_lengths f g h [] = refl
flat_lengths f g h (x ∷ xs) = omega (arith, length-append (f x) (flat_map f xs), length-append (g x) (flat_map g xs), h x, flat_lengths f g h xs)

case_count : (next : ℤ) (cs : List CaseNode) → length (cases_from next cs) ≡ length cs
case_count next [] = refl
case_count next (c ∷ cs) = omega (arith, case_count (value_or next c.value +ℤ pos 1) cs)

named_count : (before ms : List Member) → length (named_from before ms) ≡ length ms
named_count before [] = refl
named_count before (m ∷ ms) = omega (arith, named_count (before ++ m ∷ []) ms)

module _ (known : List ℕ → Option Sort) (space : List (List ℕ)) where
  field_count : (f : FieldsTree) → length f.names ≡ length (fields_of known space f)
  field_count f = sym (length-map f.names (λ n. record { name = n.text; ty = resolved known space f.kind }))

  member_count : (m : MemberTree) → length (names_of m) ≡ length (members_of known space m)
  member_count (method result name params) = refl
  member_count (event kind name) = refl
  member_count (properties kind names) = sym (length-map names (λ n. Property n.text (resolved known space kind) true))
  member_count (property kind name put) = refl

  members_count : (ms : List MemberTree) → length (flat_map names_of ms) ≡ length (named_from [] (flat_map (members_of known space) ms))
  members_count ms = flat_lengths names_of (members_of known space) member_count ms ∙ sym (named_count [] (flat_map (members_of known space) ms))

  constructor_count : (m : ClassMemberTree) → length (constructor_name m) ≡ length (constructors_of known space m)
  constructor_count (member fixed m) = refl
  constructor_count (constructor name params) = refl

  class_count : (ms : List ClassMemberTree)
      → length (flat_map names_of (flat_map (members_on false) ms) ++ flat_map names_of (flat_map (members_on true) ms) ++ flat_map constructor_name ms)
      ≡ length (named_from [] (flat_map (members_of known space) (flat_map (members_on false) ms)))
      + length (named_from [] (flat_map (members_of known space) (flat_map (members_on true) ms)))
      + length (flat_map (constructors_of known space) ms)
  class_count ms =
      omega (
        arith,
        length-append (flat_map names_of (flat_map (members_on false) ms) ++ flat_map names_of (flat_map (members_on true) ms)) (flat_map constructor_name ms),
        length-append (flat_map names_of (flat_map (members_on false) ms)) (flat_map names_of (flat_map (members_on true) ms)),
        members_count (flat_map (members_on false) ms),
        members_count (flat_map (members_on true) ms),
        flat_lengths constructor_name (constructors_of known space) constructor_count ms,
      )

part_counts : (known : List ℕ → Option Sort) (i : Item) (t : DeclTree) → length (part_names t) ≡ parts_in (written_by known i t)
part_counts known i (enumeration e) = length-map e.cases (λ c. c.name) ∙ sym (case_count (pos 0) e.cases)
part_counts known i (structure s) = flat_lengths (λ f. f.names) (fields_of known i.space) (field_count known i.space) s.fields
part_counts known i (delegate d) = refl
part_counts known i (interface t) = members_count known i.space t.members
part_counts known i (class c) = class_count known i.space c.members

pub places_fit : (known : List ℕ → Option Sort) (items : List Item) → HasPlaces (map (placed_of known) items)
places_fit known items =
    All-map (λ (p : PlacedItem). length p.places.parts ≡ parts_in p.item) (placed_of known) items (λ k d l. fit (get_or items k d))
  where
    fit : (i : Item) → length (placed_of known i).places.parts ≡ parts_in (placed_of known i).item
    fit i = length-map (part_names i.tree) (place_at i.file) ∙ part_counts known i i.tree
