-- What a blob is written for is read from it, in the tables of an image.
use Rattle.std.proofs.Common.{◌≡◌, ℕ, ap, map, true, List, [], ◌∷◌, ◌++◌, Ok, refl, ◌∙◌}
use Rattle.std.specs.List.{list_all, flat_map}
use Rattle.wr_base.specs.Paths.{is_short_name}
use Rattle.sig_blobs.specs.Canonical.{Leads, UseFits, SignatureFits, without_name, without_names}
use Rattle.sig_blobs.specs.Writing.{use_bytes, field_bytes, property_bytes, method_bytes}
use Rattle.wr_base.specs.Trees.{UseTree, ParamTree, SignatureTree}
use Rattle.sig_blobs.proofs.SignatureLaws as canonical
use Rattle.winmd_lines.specs.Cells.{Tables, path_of}
use Rattle.winmd_lines.specs.Names.{Names, token_of}
use Rattle.winmd_lines.proofs.IntegerLaws.{shortest_read}
use Rattle.winmd_sets.specs.Blobs.{meanings, paths_in, paths_of_result, paths_of, field_of, property_of, spec_of, method_of}

-- the token of a name leads to it
abbrev pub Knows : Tables → Names → List ℕ → Type 0
Knows t names full = Leads (token_of names) (meanings t) full

abbrev pub IsPath : List ℕ → Type 0
IsPath name = (offset : ℕ) → path_of offset name ≡ Ok name

-- a use of at most this depth, of names that are known and short
pub record UseOk (t : Tables) (names : Names) (depth : ℕ) (u : UseTree) : Type 0 where
  pub fits : UseFits (token_of names) (meanings t) depth u
  pub short : list_all is_short_name (paths_in u) ≡ true

pub record SignatureOk (t : Tables) (names : Names) (sig : SignatureTree) : Type 0 where
  pub fits : SignatureFits (token_of names) (meanings t) sig
  pub short : list_all is_short_name (paths_of sig) ≡ true

-- names of parameters are no names of types
params_without : (ps : List ParamTree) → flat_map (λ p. paths_in p.kind) (map without_name ps) ≡ flat_map (λ p. paths_in p.kind) ps
params_without [] = refl
params_without (p ∷ ps) = ap (λ (x : List (List ℕ)). paths_in p.kind ++ x) (params_without ps)

paths_without : (sig : SignatureTree) → list_all is_short_name (paths_of (without_names sig)) ≡ list_all is_short_name (paths_of sig)
paths_without sig = ap (λ (x : List (List ℕ)). list_all is_short_name (paths_of_result sig.result ++ x)) (params_without sig.params)

pub field_again : (t : Tables) (names : Names) (offset : ℕ) (u : UseTree) → UseOk t names 16 u → field_of t offset (field_bytes (token_of names) u) ≡ Ok u
field_again t names offset u h = rw (canonical.field_again shortest_read (token_of names) (meanings t) u h.fits, h.short) refl

pub property_again : (t : Tables) (names : Names) (offset : ℕ) (u : UseTree) → UseOk t names 16 u → property_of t offset (property_bytes (token_of names) u) ≡ Ok u
property_again t names offset u h = rw (canonical.property_again shortest_read (token_of names) (meanings t) u h.fits, h.short) refl

pub spec_again : (t : Tables) (names : Names) (offset : ℕ) (u : UseTree) → UseOk t names 16 u → spec_of t offset (use_bytes (token_of names) u) ≡ Ok u
spec_again t names offset u h = rw (canonical.spec_again shortest_read (token_of names) (meanings t) u h.fits, h.short) refl

pub method_again : (t : Tables) (names : Names) (offset : ℕ) (sig : SignatureTree) → SignatureOk t names sig → method_of t offset (method_bytes (token_of names) sig) ≡ Ok (without_names sig)
method_again t names offset sig h = rw (canonical.method_again shortest_read (token_of names) (meanings t) sig h.fits, paths_without sig ∙ h.short) refl
