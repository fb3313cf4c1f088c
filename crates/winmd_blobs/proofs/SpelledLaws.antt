-- A fault of a blob stands where it does, whatever would have been read.
use Rattle.std.proofs.Common.{◌≡◌, ℕ, true, false, List, drop, Result, Ok, Err, cond, refl, ap, sym, subst, ◌∙◌}
use Rattle.md_heaps.specs.Integers.{compressed_of}
use Rattle.md_schema.specs.declared.faults.ImageFault.{ImageFault}
use Rattle.md_schema.specs.declared.faults.ImageKind.{ImageKind}
use Rattle.ranked.specs.declared.stop.Stop.{Stop}
use Rattle.ranked.specs.declared.stop.Stop.TheVariants as stops
use Rattle.sig_blobs.specs.Given as blobs
use Rattle.winmd_rows.specs.Faults.{Fault, Faulty, fault, ◌>>=◌}
use Rattle.winmd_lines.specs.Cells.{Tables}
use Rattle.winmd_sets.specs.Blobs.{spelled, at_name, token_name, is_of_text}
use Rattle.winmd_cells.specs.Given.{Fails}
use Rattle.winmd_blobs.specs.Moved.{IsMoved}

-- answers that aren't found have one fault
abbrev SameFault : (A B : Type 0) → Result A Fault → Result B Fault → Type 0
SameFault A B (Ok x) answer = ⊥
SameFault A B (Err e) answer = answer ≡ Err e

named_fault : (A B : Type 0) (kind : ImageKind) (offset : ℕ) (name : Result (List ℕ) Fault) → SameFault A B (name >>= λ found. fault kind offset) (name >>= λ found. fault kind offset)
named_fault A B kind offset (Ok name) = refl
named_fault A B kind offset (Err e) = refl

name_fault : (A B : Type 0) (t : Tables) (offset : ℕ) (kind : ImageKind) (found : Result (ℕ × ℕ) ImageFault) → SameFault A B (at_name {A = A} t offset kind found) (at_name {A = B} t offset kind found)
name_fault A B t offset kind (Ok (token, size)) = named_fault A B kind offset (token_name t offset token)
name_fault A B t offset kind (Err e) = refl

blob_fault : (A B : Type 0) (t : Tables) (offset : ℕ) (blob : List ℕ) (e : ImageFault) → SameFault A B (spelled {A = A} t offset blob (Err e)) (spelled {A = B} t offset blob (Err e))
blob_fault A B t offset blob e =
    elim (is_of_text e.kind) as (λ b. SameFault A B (cond b (at_name {A = A} t offset e.kind (compressed_of (drop e.offset blob))) (fault {A = A} e.kind offset)) (cond b (at_name {A = B} t offset e.kind (compressed_of (drop e.offset blob))) (fault {A = B} e.kind offset))) [
      | true ↦ name_fault A B t offset e.kind (compressed_of (drop e.offset blob))
      | false ↦ refl
    ]

same_fails : (A B : Type 0) (stop : Stop ImageFault) (one : Result A Fault) (other : Result B Fault) → SameFault A B one other → Fails stop one → Fails stop other
same_fails A B stops.Memory one other same h = tt
same_fails A B (stops.Refused e) (Ok x) other same h = absurd same
same_fails A B (stops.Refused e) (Err f) other same h = let is : f ≡ Faulty e = cc in same ∙ ap (λ (x : Fault). Err x) is

spelled_fails : (A : Type 0) (t : Tables) (offset : ℕ) (blob : List ℕ) (stop moved : Stop ImageFault) (answer : Result A ImageFault) → IsMoved t offset blob stop moved → blobs.Fails stop answer → Fails moved (spelled t offset blob answer)
spelled_fails A t offset blob stops.Memory moved answer is h = subst (λ (x : Stop ImageFault). Fails x (spelled t offset blob answer)) (sym is) tt
spelled_fails A t offset blob (stops.Refused e) moved answer is h =
    subst (λ (x : Result A ImageFault). Fails moved (spelled t offset blob x)) (sym h) (same_fails ℕ A moved (spelled {A = ℕ} t offset blob (Err e)) (spelled {A = A} t offset blob (Err e)) (blob_fault ℕ A t offset blob e) is)

-- what stops a step stops all
pub fails_on : {A B : Type 0} (stop : Stop ImageFault) (answer : Result A Fault) (next : A → Result B Fault) → Fails stop answer → Fails stop (answer >>= next)
fails_on stops.Memory answer next h = tt
fails_on (stops.Refused e) answer next h = rw h refl

pub blob_fails : {A B : Type 0} (t : Tables) (offset : ℕ) (blob : List ℕ) (stop moved : Stop ImageFault) (answer : Result A ImageFault) (next : A → Result B Fault)
    → IsMoved t offset blob stop moved → blobs.Fails stop answer → Fails moved (spelled t offset blob answer >>= next)
blob_fails {A = A} t offset blob stop moved answer next is h = fails_on moved (spelled t offset blob answer) next (spelled_fails A t offset blob stop moved answer is h)
