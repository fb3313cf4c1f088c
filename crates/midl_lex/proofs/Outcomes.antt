-- Bytes are all cut, or have a first fault.
use Rattle.std.proofs.Common.{◌≡◌, ℕ, zero, suc, ◌+◌, ◌<◌, ◌≤◌, Bool, true, false, cond, ◌&&◌, eqb, List, [], ◌∷◌, ◌++◌, length, take, drop, Result, Ok, Err, refl, sym, arith, inl, inr, ◌⊎◌}
use Rattle.std.specs.Str.{IsUtf8}
use Rattle.midl_lex.specs.declared.fault.Fault.{Fault}
use Rattle.midl_lex.specs.declared.fault.Fault.TheVariants.{NotUtf8}
use Rattle.midl_lex.specs.declared.token.LexemeKind.{LexemeKind}
use Rattle.midl_lex.specs.Pieces.{Piece}
use Rattle.midl_lex.specs.Tokens.{token_if, mark_len, Lexes}
use Rattle.midl_lex.specs.Faults.{IsFault, FirstFault}
use Rattle.midl_lex.specs.Next.{next}
use Rattle.midl_lex.specs.Laws.{IsOnly}
use Rattle.midl_lex.proofs.Steps.{next_fits}
use Rattle.midl_lex.proofs.Cutting.{SoFar, start, goes_on, one_list}
use Rattle.midl_lex.proofs.Firsts.{first_here, at_end, first_is, lexes_no_fault}
use Rattle.midl_lex.proofs.Valid.{valid_or}

abbrev Outcome : List ℕ → Type 0
Outcome bytes = ((pieces : List Piece) × Lexes bytes pieces) ⊎ ((offset : ℕ) × (fault : Fault) × FirstFault bytes offset fault)

at_or_before : (a b : ℕ) → (b ≤ a) ⊎ (a < b)
at_or_before a b = grind arith

walk : (n : ℕ) (bytes : List ℕ) (found : List Piece) (offset : ℕ) → IsUtf8 bytes → SoFar bytes found offset → length bytes ≤ offset + n → Outcome bytes
walk zero bytes found offset utf8 s le = inl (found, at_end bytes found offset utf8 s (omega (arith, le)))
walk (suc n) bytes found offset utf8 s le =
    elim (at_or_before offset (length bytes)) [
      | inl a ↦ inl (found, at_end bytes found offset utf8 s a)
      | inr lt ↦ go (λ found offset s le. walk n bytes found offset utf8 s le) lt (next (drop offset bytes)) refl
    ]
  where
    go : ((found : List Piece) (offset : ℕ) → SoFar bytes found offset → length bytes ≤ offset + n → Outcome bytes) → offset < length bytes → (r : Result (LexemeKind × ℕ) Fault) → next (drop offset bytes) ≡ r → Outcome bytes
    go further lt (Err fault) e = inr (offset, fault, first_here bytes found offset fault utf8 s lt (sym e))
    go further lt (Ok (kind, len)) e =
        let f = next_fits (drop offset bytes) kind len (sym e) in
        further (found ++ token_if offset kind (take len (drop offset bytes))) (offset + len) (goes_on bytes found offset kind len s (sym e)) (omega (arith, le, f.some))

outcome : (bytes : List ℕ) → mark_len bytes ≤ length bytes → Outcome bytes
outcome bytes h =
    elim (valid_or bytes) [
      | inl utf8 ↦ walk (length bytes) bytes [] (mark_len bytes) utf8 (start bytes h) (omega arith)
      | inr v ↦ inr (v.0, NotUtf8, v.1)
    ]

within_case : (v : Bool) (n : ℕ) → cond v 3 0 ≤ suc (suc (suc n))
within_case true n = omega arith
within_case false n = omega arith

mark_within : (bytes : List ℕ) → mark_len bytes ≤ length bytes
mark_within [] = omega arith
mark_within (a ∷ []) = omega arith
mark_within (a ∷ b ∷ []) = omega arith
mark_within (a ∷ b ∷ c ∷ rest) = within_case (eqb a 0xEF && (eqb b 0xBB && eqb c 0xBF)) (length rest)

pub one_without_fault : (bytes : List ℕ) → ((offset : ℕ) (fault : Fault) → ¬ (IsFault bytes offset fault)) → (pieces : List Piece) × IsOnly bytes pieces
one_without_fault bytes none =
    elim (outcome bytes (mark_within bytes)) [
      | inl l ↦ (l.0, record { is = l.1; only = λ other h. one_list bytes other l.0 h l.1 })
      | inr f ↦ absurd (none f.0 f.1 (first_is bytes f.0 f.1 f.2))
    ]

pub first_of_faults : (bytes : List ℕ) (offset : ℕ) (fault : Fault) → IsFault bytes offset fault → (place : ℕ) × (first : Fault) × FirstFault bytes place first
first_of_faults bytes offset fault h =
    elim (outcome bytes (mark_within bytes)) [
      | inl l ↦ absurd (lexes_no_fault bytes l.0 offset fault l.1 h)
      | inr f ↦ (f.0, f.1, f.2)
    ]
