-- What blobs spell, in any form that is read, and the one form of each that is canonical: the shortest integers and no modifiers.
use Rattle.std.specs.Prelude.{◌≡◌, ℕ, zero, suc, ◌^◌, ◌<◌, ⊤, IsTrue, List, length, map, Option, Some, None, Ok, bytes_eq, false, []}
use Rattle.std.specs.List.{AllByRecursion}
use Rattle.wr_base.specs.Paths.{is_path}
use Rattle.wr_base.specs.declared.type_use.Base.{Base}
use Rattle.wr_base.specs.declared.type_use.Base.TheVariants.{Guid}
use Rattle.sig_blobs.specs.Elements.{system_guid}
use Rattle.sig_blobs.specs.Signatures.{field_of, property_of, spec_of, method_of}
use Rattle.sig_blobs.specs.Templates.{template}
use Rattle.wr_base.specs.Trees.{UseTree, plain, value, reference, instance, UseTrees, no_uses, use_and, count_of, ParamTree, SignatureTree}
use Rattle.sig_blobs.specs.Uses.{Meanings}
use Rattle.sig_blobs.specs.Writing.{Numbers, field_bytes, property_bytes, spec_bytes, method_bytes}

-- ---- what has a blob that is read as it

-- the name's number can be compressed, and leads to the name
abbrev pub Leads : Numbers → Meanings → List ℕ → Type 0
Leads token names name = (token name < 2 ^ 29) × (names (token name) ≡ Ok name)

-- of the base types, Guid alone has a name
abbrev pub BaseFits : Numbers → Meanings → Base → Type 0
BaseFits token names Guid = Leads token names system_guid
BaseFits token names _ = ⊤

abbrev mutual
  -- a use that is at most so deep, of names that lead there and back; no value is `System.Guid`, and instances have arguments
  pub UseFits : Numbers → Meanings → ℕ → UseTree → Type 0
  UseFits token names zero u = ⊥
  UseFits token names (suc depth) (plain base) = BaseFits token names base
  UseFits token names (suc depth) (value name) = Leads token names name × IsTrue (is_path name) × (bytes_eq name system_guid ≡ false)
  UseFits token names (suc depth) (reference name) = Leads token names name × IsTrue (is_path name)
  UseFits token names (suc depth) (instance name arguments) =
      Leads token names (template name (count_of arguments)) × IsTrue (is_path name) × (0 < count_of arguments) × (count_of arguments < 2 ^ 29) × UsesFit token names depth arguments

  pub UsesFit : Numbers → Meanings → ℕ → UseTrees → Type 0
  UsesFit token names depth no_uses = ⊤
  UsesFit token names depth (use_and u us) = UseFits token names depth u × UsesFit token names depth us

abbrev pub ResultFits : Numbers → Meanings → Option UseTree → Type 0
ResultFits token names None = ⊤
ResultFits token names (Some u) = UseFits token names 16 u

pub record SignatureFits (token : Numbers) (names : Meanings) (sig : SignatureTree) : Type 0 where
  pub result : ResultFits token names sig.result
  pub params : AllByRecursion (λ p. UseFits token names 16 p.kind) sig.params
  pub few : length sig.params < 2 ^ 29

-- a signature has no names of parameters
abbrev pub without_name : ParamTree → ParamTree
without_name p = record { name = []; out = p.out; kind = p.kind }

abbrev pub without_names : SignatureTree → SignatureTree
without_names sig = record { params = map without_name sig.params; result = sig.result }

-- ---- a blob and what it spells

abbrev pub SpellsField : Meanings → List ℕ → UseTree → Type 0
SpellsField names blob u = field_of names blob ≡ Ok u

abbrev pub SpellsProperty : Meanings → List ℕ → UseTree → Type 0
SpellsProperty names blob u = property_of names blob ≡ Ok u

abbrev pub SpellsSpec : Meanings → List ℕ → UseTree → Type 0
SpellsSpec names blob u = spec_of names blob ≡ Ok u

abbrev pub SpellsMethod : Meanings → List ℕ → SignatureTree → Type 0
SpellsMethod names blob sig = method_of names blob ≡ Ok sig

-- ---- the canonical blob

abbrev pub CanonicalField : Numbers → List ℕ → UseTree → Type 0
CanonicalField token blob u = blob ≡ field_bytes token u

abbrev pub CanonicalProperty : Numbers → List ℕ → UseTree → Type 0
CanonicalProperty token blob u = blob ≡ property_bytes token u

abbrev pub CanonicalSpec : Numbers → List ℕ → UseTree → Type 0
CanonicalSpec token blob u = blob ≡ spec_bytes token u

abbrev pub CanonicalMethod : Numbers → List ℕ → SignatureTree → Type 0
CanonicalMethod token blob sig = blob ≡ method_bytes token sig
