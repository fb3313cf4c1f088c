-- Each full declaration has a place for each of its parts, where each item has.
use Rattle.std.proofs.Common.{◌≡◌, ℕ, zero, suc, ◌+◌, ◌-◌, ◌≤◌, Bool, true, false, cond, List, [], ◌∷◌, ◌++◌, Option, length, map, take, drop, refl, sym, ap, ◌∙◌, arith, inl, inr}
use Rattle.std.specs.Prelude.{⊤}
use Rattle.std.specs.List.{All, AllZip, filter}
use Rattle.std.proofs.lemmas.List.{length-take, length-drop}
use Rattle.std.proofs.lemmas.List.Sorted.{All-permutation}
use Rattle.ranked.specs.declared.place.Place.{Place}
use Rattle.wr_base.specs.Normal.{normal}
use Rattle.wr_base.specs.Places.{part_count}
use Rattle.wr_base.specs.declared.declaration.Declaration.{Declaration}
use Rattle.wr_base.specs.declared.declaration.Declaration.TheVariants.{Enum, Struct, Delegate, Interface, Class}
use Rattle.wr_base.specs.declared.declaration.Signature.{Signature}
use Rattle.wr_base.specs.declared.places.DeclPlaces.{DeclPlaces}
use Rattle.wr_base.specs.declared.type_use.TypeUse.{TypeUse}
use Rattle.wr_base.proofs.PartLaws.{either}
use Rattle.wr_rules.specs.Sites.{Site, sites_of}
use Rattle.placed_items.specs.declared.placed.WrittenClass.{WrittenClass}
use Rattle.placed_items.specs.declared.placed.Written.{Written}
use Rattle.placed_items.specs.declared.placed.Written.TheVariants as written
use Rattle.placed_items.specs.declared.placed.PlacedItem.{PlacedItem}
use Rattle.placed_items.specs.Items.{parts_in, HasPlaces}
use Rattle.closed_lists.specs.Closures.{IsClosing, with_list}
use Rattle.made_interfaces.specs.Made.{where_, with_id, made_sites, makes_default, makes_statics, makes_factory, default_site, statics_site, factory_site, sites_by, item_sites, raw, chosen, takes_some}
use Rattle.made_interfaces.proofs.Building.{methods_length}
use Rattle.place_laws.specs.Shapes.{FitPlaces}
use Rattle.class_synthesis.specs.Full.{in_order, IsFull}

-- a declaration has a place for each of its members, cases or fields
abbrev HasPart : Site → Type 0
HasPart s = length s.places.parts ≡ part_count s.decl

-- of all sites of a list
abbrev Fit : List Site → Type 0
Fit [] = ⊤
Fit (s ∷ ss) = HasPart s × Fit ss

fit_append : (xs ys : List Site) → Fit xs → Fit ys → Fit (xs ++ ys)
fit_append [] ys p q = q
fit_append (x ∷ xs) ys p q = (p.0, fit_append xs ys p.1 q)

fit_where : (b : Bool) (s : Site) → HasPart s → Fit (where_ b s)
fit_where true s h = (h, tt)
fit_where false s h = tt

fit_all : (xs : List Site) → Fit xs → All HasPart xs
fit_all [] h k d l = absurd (omega (arith, l))
fit_all (x ∷ xs) h zero d l = h.0
fit_all (x ∷ xs) h (suc k) d l = fit_all xs h.1 k d (omega (arith, l))

-- an id, another list and the order of lists change no number of parts
id_count : (id : Option ℕ) (d : Declaration) → part_count (with_id id d) ≡ part_count d
id_count id (Enum name version flags cases) = refl
id_count id (Struct name version fields) = refl
id_count id (Delegate name version own invoke) = refl
id_count id (Interface name version own owner requires_ members) = refl
id_count id (Class name version fixed default has direct factories statics) = refl

list_count : (whole : List TypeUse) (d : Declaration) → part_count (with_list whole d) ≡ part_count d
list_count whole (Enum name version flags cases) = refl
list_count whole (Struct name version fields) = refl
list_count whole (Delegate name version own invoke) = refl
list_count whole (Interface name version own owner requires_ members) = refl
list_count whole (Class name version fixed default has direct factories statics) = refl

normal_count : (d : Declaration) → part_count (normal d) ≡ part_count d
normal_count (Enum name version flags cases) = refl
normal_count (Struct name version fields) = refl
normal_count (Delegate name version own invoke) = refl
normal_count (Interface name version own owner requires_ members) = refl
normal_count (Class name version fixed default has direct factories statics) = refl

-- a place for each constructor with parameters
chosen_count : (ss : List Signature) (ps : List Place) → length ss ≤ length ps → length (chosen ss ps) ≡ length (filter takes_some ss)
chosen_count [] ps l = refl
chosen_count (s ∷ ss) [] l = absurd (omega (arith, l))
chosen_count (s ∷ ss) (p ∷ ps) l = elim (either (takes_some s)) [
  | inl e ↦
      ap (λ b. length (cond b (p ∷ chosen ss ps) (chosen ss ps))) e ∙ ap suc (chosen_count ss ps (omega (arith, l)))
      ∙ sym (ap (λ b. length (cond b (s ∷ filter takes_some ss) (filter takes_some ss))) e)
  | inr e ↦
      ap (λ b. length (cond b (p ∷ chosen ss ps) (chosen ss ps))) e ∙ chosen_count ss ps (omega (arith, l))
      ∙ sym (ap (λ b. length (cond b (s ∷ filter takes_some ss) (filter takes_some ss))) e)
]

first_count : (ps : List Place) (n : ℕ) → n ≤ length ps → length (take n ps) ≡ n
first_count ps n l = omega (arith, l, length-take n ps)

class_fits : (c : WrittenClass) (p : DeclPlaces) → length p.parts ≡ length c.members + length c.statics + length c.constructors → Fit (made_sites c p)
class_fits c p e =
    let m : ℕ = length c.members in
    let s : ℕ = length c.statics in
    let behind : length (drop m p.parts) ≡ length p.parts - m = length-drop m p.parts in
    let last : length (drop s (drop m p.parts)) ≡ length (drop m p.parts) - s = length-drop s (drop m p.parts) in
    fit_append (where_ (makes_default c) (default_site c p) ++ where_ (makes_statics c) (statics_site c p)) (where_ (makes_factory c) (factory_site c p))
    (fit_append (where_ (makes_default c) (default_site c p)) (where_ (makes_statics c) (statics_site c p))
    (fit_where (makes_default c) (default_site c p) (first_count p.parts m (omega (arith, e))))
    (fit_where (makes_statics c) (statics_site c p) (first_count (drop m p.parts) s (omega (arith, e, behind)))))
    (fit_where (makes_factory c) (factory_site c p)
    (chosen_count c.constructors (drop s (drop m p.parts)) (omega (arith, e, behind, last)) ∙ sym (methods_length c.name 0 (filter takes_some c.constructors))))

kind_fits : (i : PlacedItem) (w : Written) → length i.places.parts ≡ parts_in w → Fit (sites_by i w)
kind_fits i (written.Done d) e = (e ∙ sym (id_count i.id d), tt)
kind_fits i (written.Class c) e = (refl, class_fits c i.places e)

raw_fits : (items : List PlacedItem) → HasPlaces items → Fit (raw items)
raw_fits [] h = tt
raw_fits (x ∷ xs) h = fit_append (item_sites x) (raw xs) (kind_fits x x.item (h 0 x (omega arith))) (raw_fits xs (λ k d l. h (suc k) d (omega (arith, l))))

closed_fit : (types : List Declaration) (sites closed : List Site) → AllZip (IsClosing types) sites closed → Fit sites → Fit closed
closed_fit types [] [] h f = tt
closed_fit types [] (y ∷ ys) h f = absurd h
closed_fit types (x ∷ xs) [] h f = absurd h
closed_fit types (x ∷ xs) (y ∷ ys) h f =
    (ap (λ (p : DeclPlaces). length p.parts) h.0.places ∙ f.0 ∙ sym (ap part_count h.0.decl.2 ∙ list_count h.0.decl.0 x.decl), closed_fit types xs ys h.1 f.1)

ordered_fit : (sites : List Site) → Fit sites → Fit (map in_order sites)
ordered_fit [] f = tt
ordered_fit (s ∷ ss) f = (f.0 ∙ sym (normal_count s.decl), ordered_fit ss f.1)

fit_places : (types : List Declaration) (places : List DeclPlaces) → length places ≡ length types → All HasPart (sites_of types places) → FitPlaces types places
fit_places [] [] n h = refl
fit_places [] (p ∷ ps) n h = absurd (omega (arith, n))
fit_places (d ∷ ds) [] n h = absurd (omega (arith, n))
fit_places (d ∷ ds) (p ∷ ps) n h =
    ap (λ k. k ∷ map (λ (q : DeclPlaces). length q.parts) ps) (h 0 (record { decl = d; places = p }) (omega arith))
    ∙ ap (λ ks. part_count d ∷ ks) (fit_places ds ps (omega (arith, n)) (λ k s l. h (suc k) s (omega (arith, l))))

pub full_parts : (items : List PlacedItem) (types : List Declaration) (places : List DeclPlaces) → IsFull items types places → HasPlaces items → FitPlaces types places
full_parts items types places full has =
    fit_places types places full.size
    (All-permutation HasPart (map in_order full.closed) (sites_of types places) full.sites
    (fit_all (map in_order full.closed) (ordered_fit full.closed (closed_fit (map (λ (s : Site). s.decl) (raw items)) (raw items) full.closed full.each (raw_fits items has)))))
