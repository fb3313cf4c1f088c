-- Sets of names in lower case, asked for namespaces, and of names that were met.
use Rattle.std.specs.Prelude.{◌≡◌, ◌||◌, ◌+◌, ℕ, Bool, List, Some, String, codes, map, slice_get, string_bytes, take}
use Rattle.std.specs.List.{list_any}
use Rattle.std.specs.Str.{bytes_eq}
use Rattle.std.specs.BTreeSet.{BTreeSet}
use Rattle.std.specs.HashSet.{HashSet, contains_text}
use Rattle.std.specs.declared.hash.FoldHasher.{FoldHasher}
use Rattle.std.specs.declared.hash.BuildHasherDefault.{BuildHasherDefault}
use Rattle.std.specs.declared.alloc.Global.{Global}
use Rattle.wr_base.specs.Lower.{lower}
use Rattle.wr_rules.specs.Sites.{Site, site_name}
use Rattle.wr_rules.specs.NameRules.{begins}
use Rattle.found_table.specs.Table.{is_found}

-- texts that are asked for one by one
abbrev pub Texts : Type 0
Texts = HashSet (String Global) (BuildHasherDefault FoldHasher)

-- a name of the set begins with this text, with a dot behind it
abbrev pub holds_in : BTreeSet (String Global) → List ℕ → Bool
holds_in set text = list_any (λ k. begins text (string_bytes k)) set.keys

-- this text came to the set
abbrev pub AddsText : List ℕ → Texts → Texts → Type 0
AddsText name old new = (text : List ℕ) → contains_text new text ≡ (contains_text old text || bytes_eq name text)

-- the set's names hold what they held, and what this one holds
abbrev pub AddsName : List ℕ → BTreeSet (String Global) → BTreeSet (String Global) → Type 0
AddsName name old new = (text : List ℕ) → holds_in new text ≡ (holds_in old text || begins text name)

-- the set's names hold what these do, in lower case
abbrev pub HasSpaces : List (List ℕ) → BTreeSet (String Global) → Type 0
HasSpaces names set = (text : List ℕ) → holds_in set text ≡ list_any (λ n. begins text (lower n)) names

-- the namespaces of found types and of the first declared ones
abbrev pub SpacesTo : List Site → ℕ → (List ℕ → Bool) → Type 0
SpacesTo sites i set = (q : List ℕ) → set q ≡ (list_any (λ n. begins q (lower n)) (map site_name (take i sites)) || begins q (codes "windows.foundation."))

-- what holds one of the two names holds the other
abbrev pub SameSpaces : List ℕ → List ℕ → Type 0
SameSpaces name other = (q : List ℕ) → begins q (lower name) ≡ begins q (lower other)

-- what holds the declaration of this number holds the one before it
pub record Follows (sites : List Site) (i : ℕ) : Type 0 where
  pub j : ℕ
  pub next : i ≡ j + 1
  pub other : Site
  pub site : Site
  pub before : slice_get sites j ≡ Some other
  pub at : slice_get sites i ≡ Some site
  pub same : SameSpaces (site_name site) (site_name other)

-- the name is that of a namespace, of a found type, or was met
abbrev pub is_told : BTreeSet (String Global) → Texts → List ℕ → Bool
is_told spaces met name = holds_in spaces (lower name) || (is_found name || contains_text met (lower name))
