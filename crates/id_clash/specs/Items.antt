-- Texts with their ids, and which of the ids were had already.
use Rattle.std.specs.Prelude.{◌≡◌, ◌≢◌, ◌⊎◌, ◌↔◌, ◌||◌, ℕ, Bool, IsTrue, List, ◌++◌, Option, Some, None, Contains, String, map, nat_eq, string_bytes, if◌then◌else◌}
use Rattle.std.specs.List.{list_any}
use Rattle.std.specs.Option.{is_some, option_flatten}
use Rattle.std.specs.Str.{bytes_eq}
use Rattle.std.specs.HashSet.{HashSet, contains}
use Rattle.std.specs.declared.hash.FoldHasher.{FoldHasher}
use Rattle.std.specs.declared.hash.BuildHasherDefault.{BuildHasherDefault}
use Rattle.std.specs.declared.alloc.Global.{Global}
use Rattle.wr_base.specs.Trees.{UseTree, text_of_tree}
use Rattle.wr_rules.specs.Kinds.{declared}
use Rattle.wr_rules.specs.Sites.{Site, site_name}
use Rattle.wr_rules.specs.Signatures.{own_id}
use Rattle.wr_rules.specs.NameRules.{instances_at}
use Rattle.id_table.specs.Taken.{Owners, owner}

-- ids that were met
abbrev pub Ids : Type 0
Ids = HashSet ℕ (BuildHasherDefault FoldHasher)

-- the id is reserved, or was met
abbrev pub is_had : Owners → Ids → ℕ → Bool
is_had reserved met id = is_some (owner reserved id) || contains nat_eq met id

-- the ids of these texts were met, and told is whether one of them was had before or is another one's of these texts too
pub record Meets (items : List ℕ → ℕ → Type 0) (old : ℕ → Bool) (new : ℕ → Bool) (told : Bool) : Type 0 where
  pub grown : (id : ℕ) → IsTrue (new id) ↔ (IsTrue (old id) ⊎ ((text : List ℕ) × items text id))
  pub tells : IsTrue told ↔ ((text : List ℕ) × (id : ℕ) × items text id × (IsTrue (old id) ⊎ ((other : List ℕ) × items other id × (other ≢ text))))

-- this text, where it has an id
abbrev pub One : List ℕ → Option ℕ → List ℕ → ℕ → Type 0
One text id t i = (t ≡ text) × (id ≡ Some i)

-- the id of a text that wasn't met, where it has one
abbrev pub new_id : (List ℕ → Bool) → (List ℕ → Option (Option ℕ)) → List ℕ → Option ℕ
new_id met ids text = if met text then None else option_flatten (ids text)

-- those of a list of texts that weren't met
abbrev pub Fresh : (List ℕ → Bool) → (List ℕ → Option (Option ℕ)) → List (List ℕ) → List ℕ → ℕ → Type 0
Fresh met ids texts t i = Contains texts t × (new_id met ids t ≡ Some i)

-- these texts were met
abbrev pub AddsTexts : List (List ℕ) → (List ℕ → Bool) → (List ℕ → Bool) → Type 0
AddsTexts texts old new = (text : List ℕ) → new text ≡ (old text || list_any (λ t. bytes_eq t text) texts)

-- the bytes of texts
abbrev pub texts_in : List (String Global) → List (List ℕ)
texts_in texts = map (λ t. string_bytes t) texts

-- the texts of these uses stand behind the others
abbrev pub Puts : List UseTree → List (List ℕ) → List (List ℕ) → Type 0
Puts uses old new = new ≡ old ++ map text_of_tree uses

-- the texts of the instances that a declaration uses
abbrev pub texts_at : Site → List (List ℕ)
texts_at s = map text_of_tree (instances_at s)

-- what a declaration has: its own id under its name, and the ids of the instances that weren't met
abbrev pub OfSite : (List ℕ → Bool) → (List ℕ → Option (Option ℕ)) → Site → List ℕ → ℕ → Type 0
OfSite met ids s t i = One (site_name s) (own_id (Some (declared s.decl))) t i ⊎ Fresh met ids (texts_at s) t i
