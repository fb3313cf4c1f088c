-- Names that are declared, one after the other.
use Rattle.std.proofs.Common.{◌≡◌, ℕ, ◌+◌, ◌<◌, ◌≤◌, List, [], ◌∷◌, ◌++◌, map, take, get_or, length, Some, slice_get, sym, ap, ◌∙◌}
use Rattle.std.proofs.lemmas.List.{take_more, take_all, map-append}
use Rattle.std.proofs.lemmas.Option.{slice_get_within, same_Some, slice_get-get_or}
use Rattle.wr_base.specs.declared.declaration.Declaration.{Declaration}
use Rattle.wr_base.specs.Declarations.{name_of}

pub names_turn : (types : List Declaration) (i : ℕ) (d : Declaration) (n : List ℕ) (old new : List (List ℕ)) → slice_get types i ≡ Some d → n ≡ name_of d → old ≡ map name_of (take i types) → new ≡ old ++ n ∷ [] → new ≡ map name_of (take (i + 1) types)
names_turn types i d n old new at e o w =
    let l : i < length types = slice_get_within types i d at in
    let is : get_or types i d ≡ d = sym (same_Some d (get_or types i d) (sym at ∙ slice_get-get_or types i d l)) in
    w ∙ ap (λ (ns : List (List ℕ)). ns ++ n ∷ []) o ∙ ap (λ (m : List ℕ). map name_of (take i types) ++ m ∷ []) e
    ∙ sym (ap (map name_of) (take_more types i d l ∙ ap (λ (y : Declaration). take i types ++ y ∷ []) is) ∙ map-append name_of (take i types) (d ∷ []))

pub names_all : (types : List Declaration) (i : ℕ) (names : List (List ℕ)) → length types ≤ i → names ≡ map name_of (take i types) → names ≡ map name_of types
names_all types i names all e = e ∙ ap (map name_of) (take_all i types all)
