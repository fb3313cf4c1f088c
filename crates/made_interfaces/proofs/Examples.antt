-- What classes get: a cart of members and an event, a box with statics that lists an interface, a bell that lists one and has a constructor with parameters.
use Rattle.std.proofs.Common.{◌≡◌, ℕ, Bool, true, false, List, [], ◌∷◌, ◌++◌, Some, None, refl, ap, arith}
use Rattle.std.specs.Prelude.{codes}
use Rattle.std.specs.List.{filter}
use Rattle.std.specs.Fmt.{decimal}
use Rattle.std.proofs.lemmas.Fmt.{decimal-digits_of}
use Rattle.ranked.specs.declared.place.Place.{Place}
use Rattle.wr_base.specs.declared.type_use.Base.TheVariants.{I32, Text, Object}
use Rattle.wr_base.specs.declared.type_use.TypeUse.{TypeUse}
use Rattle.wr_base.specs.declared.type_use.TypeUse.TheVariants.{Plain, Reference}
use Rattle.wr_base.specs.declared.declaration.Signature.{Signature}
use Rattle.wr_base.specs.declared.declaration.Member.{Member}
use Rattle.wr_base.specs.declared.declaration.Member.TheVariants.{Method, Property, Event}
use Rattle.wr_base.specs.declared.declaration.Declaration.TheVariants.{Delegate, Interface, Class}
use Rattle.placed_items.specs.declared.placed.WrittenClass.{WrittenClass}
use Rattle.wr_rules.specs.Signatures.{named_id}
use Rattle.made_interfaces.specs.Made.{made_name, class_sites, factory_name, factory_method, factory_methods, takes_some, makes_default, with_id, names_made}

abbrev at : ℕ → Place
at offset = record { file = 0; offset = offset }

abbrev bare : Signature
bare = record { params = []; result = None }

abbrev taking : List ℕ → TypeUse → Signature
taking name ty = record { params = record { name = name; ty = ty; out = false } ∷ []; result = None }

-- names: I in front, in the class's namespace
names : (made_name (codes "Shop.Cart") [] ≡ codes "Shop.ICart") × (made_name (codes "A.B.Cart") (codes "Statics") ≡ codes "A.B.ICartStatics") × (made_name (codes "Shop.Cart") (codes "Factory") ≡ codes "Shop.ICartFactory")
names = (refl, refl, refl)

abbrev count : Member
count = Property (codes "Count") (Plain I32) false

abbrev add : Member
add = Method (codes "Add") (codes "Add") (taking (codes "n") (Plain I32))

abbrev grown : Member
grown = Event (codes "Grown") (Reference (codes "Shop.Added"))

abbrev cart : WrittenClass
cart = record { name = codes "Shop.Cart"; version = 1; fixed = false; marked = false; listed = []; constructors = bare ∷ []; members = count ∷ add ∷ grown ∷ []; statics = [] }

-- a cart: its members in their order, in an interface of its own, which stands at the first of them; it is made without parameters
cart_sites :
    class_sites cart (record { at = at 100; parts = at 120 ∷ at 140 ∷ at 160 ∷ at 110 ∷ [] })
    ≡ record { decl = Class (codes "Shop.Cart") 1 false (Some (Reference (codes "Shop.ICart"))) (Reference (codes "Shop.ICart") ∷ []) true [] []; places = record { at = at 100; parts = [] } }
    ∷ record { decl = Interface (codes "Shop.ICart") 1 (named_id (codes "Shop.ICart")) (Some (codes "Shop.Cart")) [] (count ∷ add ∷ grown ∷ []); places = record { at = at 120; parts = at 120 ∷ at 140 ∷ at 160 ∷ [] } }
    ∷ []
cart_sites = refl

abbrev held : Member
held = Property (codes "Held") (Plain Object) true

abbrev last : Member
last = Property (codes "Last") (Reference (codes "Shop.Box")) true

abbrev box : WrittenClass
box = record { name = codes "Shop.Box"; version = 3; fixed = false; marked = false; listed = Reference (codes "Shop.IBell") ∷ []; constructors = bare ∷ []; members = held ∷ []; statics = last ∷ [] }

-- a box: its own interface stands first, and is the default; its statics have one too, and the class's version is theirs
box_sites :
    class_sites box (record { at = at 200; parts = at 220 ∷ at 240 ∷ at 210 ∷ [] })
    ≡ record { decl = Class (codes "Shop.Box") 3 false (Some (Reference (codes "Shop.IBox"))) (Reference (codes "Shop.IBox") ∷ Reference (codes "Shop.IBell") ∷ []) true [] (codes "Shop.IBoxStatics" ∷ []); places = record { at = at 200; parts = [] } }
    ∷ record { decl = Interface (codes "Shop.IBox") 3 (named_id (codes "Shop.IBox")) (Some (codes "Shop.Box")) [] (held ∷ []); places = record { at = at 220; parts = at 220 ∷ [] } }
    ∷ record { decl = Interface (codes "Shop.IBoxStatics") 3 (named_id (codes "Shop.IBoxStatics")) (Some (codes "Shop.Box")) [] (last ∷ []); places = record { at = at 240; parts = at 240 ∷ [] } }
    ∷ []
box_sites = refl

abbrev why : Signature
why = taking (codes "why") (Plain Text)

abbrev bell : WrittenClass
bell = record { name = codes "Shop.Bell"; version = 1; fixed = false; marked = false; listed = Reference (codes "Shop.IBell") ∷ []; constructors = bare ∷ why ∷ []; members = []; statics = [] }

-- a bell: what it lists is its default, and its factory stands at the constructor with parameters
bell_sites :
    class_sites bell (record { at = at 300; parts = at 310 ∷ at 320 ∷ [] })
    ≡ record { decl = Class (codes "Shop.Bell") 1 false (Some (Reference (codes "Shop.IBell"))) (Reference (codes "Shop.IBell") ∷ []) true (codes "Shop.IBellFactory" ∷ []) []; places = record { at = at 300; parts = [] } }
    ∷ record {
      decl = Interface (codes "Shop.IBellFactory") 1 (named_id (codes "Shop.IBellFactory")) (Some (codes "Shop.Bell")) [] (Method (codes "CreateInstance") (codes "CreateInstance") (record { params = record { name = codes "why"; ty = Plain Text; out = false } ∷ []; result = Some (Reference (codes "Shop.Bell")) }) ∷ []);
      places = record { at = at 320; parts = at 320 ∷ [] };
    }
    ∷ []
bell_sites = refl

two : decimal 2 ≡ codes "2"
two = decimal-digits_of 2 (omega arith) (omega arith)

three : decimal 3 ≡ codes "3"
three = decimal-digits_of 3 (omega arith) (omega arith)

-- the second constructor with parameters, and the third, have a numeral
numerals : (factory_name 0 ≡ codes "CreateInstance") × (factory_name 1 ≡ codes "CreateInstance2") × (factory_name 2 ≡ codes "CreateInstance3")
numerals = (refl, ap (λ n. codes "CreateInstance" ++ n) two, ap (λ n. codes "CreateInstance" ++ n) three)

-- each is counted among those with parameters
counted : factory_methods (codes "S.C") 0 (filter takes_some (why ∷ bare ∷ why ∷ [])) ≡ factory_method (codes "S.C") 0 why ∷ factory_method (codes "S.C") 1 why ∷ []
counted = refl

-- a class with no more than its name
abbrev nothing : Bool → Bool → List TypeUse → List Signature → List Member → List Member → WrittenClass
nothing fixed marked listed constructors members statics = record { name = codes "S.C"; version = 1; fixed = fixed; marked = marked; listed = listed; constructors = constructors; members = members; statics = statics }

abbrev other : List TypeUse
other = Reference (codes "S.I") ∷ []

-- an interface of its own: of members; by the attribute; where it lists nothing and has a constructor, or no statics
own :
    (makes_default (nothing false false other [] (count ∷ []) []) ≡ true)
    × (makes_default (nothing false true other [] [] []) ≡ true)
    × (makes_default (nothing false false [] (bare ∷ []) [] (last ∷ [])) ≡ true)
    × (makes_default (nothing false false [] [] [] []) ≡ true)
    × (makes_default (nothing true false [] [] (count ∷ []) []) ≡ true)
own = (refl, refl, refl, refl, refl)

-- none: where it lists another, where it has statics alone, and a static class without members, with the attribute too
none_of_its_own :
    (makes_default (nothing false false other (bare ∷ []) [] []) ≡ false)
    × (makes_default (nothing false false [] [] [] (last ∷ [])) ≡ false)
    × (makes_default (nothing true false [] [] [] (last ∷ [])) ≡ false)
    × (makes_default (nothing true true [] [] [] []) ≡ false)
    × (makes_default (nothing true false [] [] [] []) ≡ false)
none_of_its_own = (refl, refl, refl, refl, refl)

-- what its interfaces are called, in this order
all_three : names_made (nothing false false other (why ∷ []) (count ∷ []) (last ∷ [])) ≡ codes "S.IC" ∷ codes "S.ICStatics" ∷ codes "S.ICFactory" ∷ []
all_three = refl

-- an id that is written stays, and where none is written it is the one of the name
ids :
    (with_id (Some 7) (Interface (codes "S.I") 1 0 None [] []) ≡ Interface (codes "S.I") 1 7 None [] [])
    × (with_id None (Interface (codes "S.I") 1 0 None [] []) ≡ Interface (codes "S.I") 1 (named_id (codes "S.I")) None [] [])
    × (with_id None (Delegate (codes "S.D") 1 0 bare) ≡ Delegate (codes "S.D") 1 (named_id (codes "S.D")) bare)
ids = (refl, refl, refl)
