-- Names of made interfaces that are taken: of a declared type in other letters, of a found one, and of an interface of an earlier class.
use Rattle.std.proofs.Common.{◌≡◌, ℕ, ◌<◌, true, false, List, [], ◌∷◌, None, refl, arith, inl, inr}
use Rattle.std.specs.Prelude.{codes}
use Rattle.ranked.specs.declared.place.Place.{Place}
use Rattle.ranked.specs.Entries.{Entry}
use Rattle.ranked.specs.First.{Below, At, Only}
use Rattle.wr_base.specs.Codes.{rank_of}
use Rattle.wr_base.specs.declared.code.Code.TheVariants.{SynthesisClash}
use Rattle.wr_base.specs.declared.type_use.Base.TheVariants.{I32}
use Rattle.wr_base.specs.declared.type_use.TypeUse.TheVariants.{Plain}
use Rattle.wr_base.specs.declared.declaration.Member.{Member}
use Rattle.wr_base.specs.declared.declaration.Member.TheVariants.{Property}
use Rattle.wr_base.specs.declared.declaration.Declaration.TheVariants.{Interface}
use Rattle.placed_items.specs.declared.placed.WrittenClass.{WrittenClass}
use Rattle.placed_items.specs.declared.placed.Written.TheVariants as written
use Rattle.placed_items.specs.declared.placed.PlacedItem.{PlacedItem}
use Rattle.class_synthesis.specs.Clashes.{IsClash, IsTaken, MadeBefore, has_lower}

abbrev at : ℕ → Place
at offset = record { file = 0; offset = offset }

abbrev interface_item : List ℕ → ℕ → PlacedItem
interface_item name offset = record { item = written.Done (Interface name 1 0 None [] []); id = None; places = record { at = at offset; parts = [] } }

abbrev count : Member
count = Property (codes "Count") (Plain I32) false

-- a class of these members and static members
abbrev class_of : List ℕ → List Member → List Member → WrittenClass
class_of name members statics = record { name = name; version = 1; fixed = false; marked = false; listed = []; constructors = []; members = members; statics = statics }

abbrev class_item : WrittenClass → ℕ → PlacedItem
class_item c offset = record { item = written.Class c; id = None; places = record { at = at offset; parts = [] } }

abbrev clash_at : ℕ → List ℕ → Entry
clash_at offset word = record { file = 0; offset = offset; code = rank_of SynthesisClash; word = word }

-- at the class, with the made name as word
declared_before : IsClash (interface_item (codes "Shop.icart") 17 ∷ class_item (class_of (codes "Shop.Cart") (count ∷ []) []) 49 ∷ []) (clash_at 49 (codes "Shop.ICart"))
unfolding Below At Only
declared_before = (1, omega arith, (class_item (class_of (codes "Shop.Cart") (count ∷ []) []) 49, refl, (0, omega arith, (codes "Shop.ICart", refl, (inl refl, refl)))))

-- also where the type is declared behind it
declared_behind : IsClash (class_item (class_of (codes "Shop.Cart") (count ∷ []) []) 17 ∷ interface_item (codes "Shop.ICart") 49 ∷ []) (clash_at 17 (codes "Shop.ICart"))
unfolding Below At Only
declared_behind = (0, omega arith, (class_item (class_of (codes "Shop.Cart") (count ∷ []) []) 17, refl, (0, omega arith, (codes "Shop.ICart", refl, (inl refl, refl)))))

-- a found type has the name
found : IsClash (class_item (class_of (codes "Windows.Foundation.closable") (count ∷ []) []) 17 ∷ []) (clash_at 17 (codes "Windows.Foundation.Iclosable"))
unfolding Below At Only
found = (0, omega arith, (class_item (class_of (codes "Windows.Foundation.closable") (count ∷ []) []) 17, refl, (0, omega arith, (codes "Windows.Foundation.Iclosable", refl, (inr (inl refl), refl)))))

-- a class with statics, and one that is named as its statics
abbrev two : List PlacedItem
two = class_item (class_of (codes "S.C") [] (count ∷ [])) 17 ∷ class_item (class_of (codes "S.CStatics") (count ∷ []) []) 49 ∷ []

-- of two classes the later
later : IsClash two (clash_at 49 (codes "S.ICStatics"))
unfolding Below At Only
later =
    let before : MadeBefore two 1 (codes "S.ICStatics") = record { j = 0; earlier = class_item (class_of (codes "S.C") [] (count ∷ [])) 17; at = refl; before = omega arith; same = refl } in
    (1, omega arith, (class_item (class_of (codes "S.CStatics") (count ∷ []) []) 49, refl, (0, omega arith, (codes "S.ICStatics", refl, (inr (inr before), refl)))))

never : (k : ℕ) → k < 0 → ⊥
never k l = absurd (omega (arith, l))

-- and not the earlier
not_earlier : IsTaken two 0 (codes "S.ICStatics") → ⊥
not_earlier (inl h) = absurd cc
not_earlier (inr (inl h)) = absurd cc
not_earlier (inr (inr m)) = never m.j m.before

-- a name that is longer by a letter is another
apart : (has_lower (codes "S.IC" ∷ []) (codes "S.ICs") ≡ false) × (has_lower (codes "S.ICs" ∷ []) (codes "S.IC") ≡ false)
apart = (refl, refl)

-- the same but for case, and by a letter less
in_other_letters : (has_lower (codes "Shop.icart" ∷ []) (codes "Shop.ICart") ≡ true) × (has_lower (codes "Shop.ICar" ∷ []) (codes "Shop.ICart") ≡ false)
in_other_letters = (refl, refl)
