-- The first fault is the first entry of the lexical phase.
use Rattle.std.proofs.Common.{◌≡◌, ℕ, ◌<◌, ◌≤◌, false, List, Some, None, refl, sym, ap, subst, ◌∙◌, arith, inl, inr, ◌⊎◌, is_gt}
use Rattle.std.specs.declared.cmp.Ordering.{Ordering}
use Rattle.std.specs.declared.cmp.Ordering.TheVariants.{Less, Equal}
use Rattle.std.specs.Ordering.{nat_cmp, ordering_then}
use Rattle.std.specs.Cmp.{nat_cmp_is}
use Rattle.ranked.specs.Entries.{Entry, UpTo}
use Rattle.ranked.specs.First.{IsFirst, Or, Where, Clear}
use Rattle.ranked.proofs.FirstLaws.{itself}
use Rattle.midl_lex.specs.declared.fault.Fault.{Fault}
use Rattle.midl_lex.specs.declared.fault.Fault.TheVariants.{NotUtf8}
use Rattle.midl_lex.specs.Pieces.{Piece}
use Rattle.midl_lex.specs.Tokens.{Lexes}
use Rattle.midl_lex.specs.Faults.{FirstFault, entry}
use Rattle.midl_lex.specs.Entries.{NotText, NotCut, Lexical}
use Rattle.midl_lex.proofs.Firsts.{which, of_first, valid_end, first_is, one_fault, lexes_no_fault}
use Rattle.midl_lex.proofs.Valid.{not_valid, one_end}

then_less : (r s t : Ordering) → r ≡ Equal → s ≡ Less → is_gt (ordering_then r (ordering_then s t)) ≡ false
then_less r s t p q = rw (p, q) refl

less : (file a b : ℕ) (f g : Fault) → a < b → UpTo (entry file a f) (entry file b g)
less file a b f g lt = then_less (nat_cmp file file) (nat_cmp a b) _ (sym (nat_cmp_is file file Equal refl)) (sym (nat_cmp_is a b Less lt))

less_or_same : (a b : ℕ) → a ≤ b → (a < b) ⊎ (a ≡ b)
less_or_same a b le = grind arith

up_to : (file a b : ℕ) (f g : Fault) → a ≤ b → (a ≡ b → f ≡ g) → UpTo (entry file a f) (entry file b g)
up_to file a b f g le same =
    elim (less_or_same a b le) [
      | inl lt ↦ less file a b f g lt
      | inr e ↦ subst (λ (x : Entry). UpTo (entry file a f) x) (ap (λ (o : ℕ). entry file o f) e ∙ ap (entry file b) (same e)) (itself (entry file a f))
    ]

pub entered : (file : ℕ) (bytes : List ℕ) (offset : ℕ) (fault : Fault) → FirstFault bytes offset fault → IsFirst (Lexical file bytes) (Some (entry file offset fault))
unfolding IsFirst Or Where Clear NotText NotCut
entered file bytes offset fault h =
    elim (which fault) [
      | inl e ↦
          let valid = valid_end bytes offset fault e (first_is bytes offset fault h) in
          record {
            stands = inl (offset, valid, ap (entry file offset) e);
            least = λ other o. elim o [
              | inl t ↦ subst (λ (x : Entry). UpTo (entry file offset fault) x) (sym t.2) (up_to file offset t.0 fault NotUtf8 (let same : offset ≡ t.0 = one_end bytes offset t.0 valid t.1 in omega arith) (λ _. e))
              | inr t ↦ absurd (t.0 (entry file offset NotUtf8) (offset, valid, refl))
            ];
          }
      | inr d ↦
          let p = of_first bytes offset fault d h in
          record {
            stands = inr (λ x t. not_valid bytes t.0 t.1 p.utf8, (offset, fault, d, p.is, refl));
            least = λ other o. elim o [
              | inl t ↦ absurd (not_valid bytes t.0 t.1 p.utf8)
              | inr t ↦
                  let c = t.1 in
                  subst (λ (x : Entry). UpTo (entry file offset fault) x) (sym c.4) (up_to file offset c.0 fault c.1 (p.least c.0 c.1 c.3) (λ same. one_fault bytes offset c.0 fault c.1 d c.2 p.is c.3 same))
            ];
          }
    ]

pub nothing_entered : (file : ℕ) (bytes : List ℕ) (pieces : List Piece) → Lexes bytes pieces → IsFirst (Lexical file bytes) None
unfolding IsFirst Or Where Clear NotText NotCut
nothing_entered file bytes pieces l = λ e o. elim o [
  | inl t ↦ lexes_no_fault bytes pieces t.0 NotUtf8 l t.1
  | inr t ↦ let c = t.1 in lexes_no_fault bytes pieces c.0 c.1 l c.3
]
