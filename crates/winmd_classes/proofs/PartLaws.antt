-- Interfaces and classes by their parts.
use Rattle.std.proofs.Common.{◌≡◌, ℕ, Bool, List, Option, codes, Result, Ok, Err, refl, sym, ◌∙◌}
use Rattle.winmd_rows.specs.Faults.{Fault, ◌>>=◌, each}
use Rattle.winmd_lines.specs.Cells.{Tables, has_flag}
use Rattle.winmd_sets.specs.Attributes.{Attribute, of_word, type_name_of, version_of}
use Rattle.winmd_sets.specs.Classes.{class_from, class_of, default_of, is_direct, making_of, throughs}
use Rattle.winmd_sets.specs.Interfaces.{interface_from, interfaces_of, members_in, uses_in}
use Rattle.wr_base.specs.Trees.{UseTree, MemberTree, DeclTree}
use Rattle.winmd_classes.specs.Parts.{has_in, interface_with, parts_in, types_in}
use Rattle.winmd_classes.specs.Ways.{class_with, ways_in}

-- two steps, and what follows them
two_steps : {A B C : Type 0} (one : Result A Fault) (f : A → Result B Fault) (g : B → Result C Fault) → ((one >>= f) >>= g) ≡ (one >>= λ x. (f x >>= g))
two_steps (Ok x) f g = refl
two_steps (Err e) f g = refl

pub interface_by_parts : (t : Tables) (n : ℕ) (full : List ℕ) (version id : ℕ) (owner : Option (List ℕ))
    → interface_from t n full version id owner ≡ (parts_in t n >>= λ parts. Ok (interface_with full version id owner parts))
interface_by_parts t n full version id owner =
    let build : List UseTree × List MemberTree → Result DeclTree Fault = λ parts. Ok (interface_with full version id owner parts) in
    sym (two_steps (interfaces_of t n) (λ interfaces. members_in t n >>= λ members. Ok (types_in interfaces, members)) build
    ∙ (λ i. interfaces_of t n >>= λ interfaces. two_steps (members_in t n) (λ members. Ok (types_in interfaces, members)) build i))

class_by_ways : (t : Tables) (full : List ℕ) (version : ℕ) (fixed : Bool) (default : Option UseTree) (interfaces : List (ℕ × UseTree)) (attributes : List Attribute)
    → class_from t full version fixed default (uses_in interfaces) attributes ≡ (ways_in t attributes >>= λ ways. Ok (class_with full version fixed (default, types_in interfaces) ways))
class_by_ways t full version fixed default interfaces attributes =
    let build : Bool × List (List ℕ) × List (List ℕ) → Result DeclTree Fault = λ ways. Ok (class_with full version fixed (default, types_in interfaces) ways) in
    sym (two_steps (each (making_of t) (of_word (codes "Activatable") attributes)) (λ makings. each (type_name_of t) (of_word (codes "Static") attributes) >>= λ names. Ok (is_direct makings, throughs makings, names)) build
    ∙ (λ i. each (making_of t) (of_word (codes "Activatable") attributes) >>= λ makings. two_steps (each (type_name_of t) (of_word (codes "Static") attributes)) (λ names. Ok (is_direct makings, throughs makings, names)) build i))

has_then : (t : Tables) (n : ℕ) (build : Option UseTree × List UseTree → Result DeclTree Fault)
    → (has_in t n >>= build) ≡ (interfaces_of t n >>= λ interfaces. default_of t n interfaces >>= λ default. build (default, types_in interfaces))
has_then t n build =
    two_steps (interfaces_of t n) (λ interfaces. default_of t n interfaces >>= λ default. Ok (default, types_in interfaces)) build
    ∙ (λ i. interfaces_of t n >>= λ interfaces. two_steps (default_of t n interfaces) (λ default. Ok (default, types_in interfaces)) build i)

class_by_has : (t : Tables) (n : ℕ) (full : List ℕ) (version : ℕ) (fixed : Bool) (attributes : List Attribute)
    → (interfaces_of t n >>= λ interfaces. default_of t n interfaces >>= λ default. class_from t full version fixed default (uses_in interfaces) attributes)
    ≡ (has_in t n >>= λ has. ways_in t attributes >>= λ ways. Ok (class_with full version fixed has ways))
class_by_has t n full version fixed attributes =
    (λ i. interfaces_of t n >>= λ interfaces. default_of t n interfaces >>= λ default. class_by_ways t full version fixed default interfaces attributes i)
    ∙ sym (has_then t n (λ has. ways_in t attributes >>= λ ways. Ok (class_with full version fixed has ways)))

pub class_by_parts : (t : Tables) (n : ℕ) (full : List ℕ) (flags : ℕ) (attributes : List Attribute)
    → class_of t n full flags attributes ≡ (version_of t n attributes >>= λ version. has_in t n >>= λ has. ways_in t attributes >>= λ ways. Ok (class_with full version (has_flag flags 0x80) has ways))
class_by_parts t n full flags attributes = λ i. version_of t n attributes >>= λ version. class_by_has t n full version (has_flag flags 0x80) attributes i
