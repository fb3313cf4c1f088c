-- A production under a limit and under a higher one, with all that holds of both.
use Rattle.std.proofs.Common.{◌≡◌, ℕ, Bool, true, false, cond, ◌&&◌, List, [], ◌++◌, Some, None, refl}
use Rattle.grammar.specs.Productions.{Done, Then, Optional, Many, Either}
use Rattle.grammar.specs.Readers.{Read, done_at, follow, optional_at, either_at, many_at}
use Rattle.grammar.proofs.KindSets.{apart, within}
use Rattle.grammar.proofs.ReaderLaws.{Reads, productive, then_first, then_next, done_reads}
use Rattle.grammar.proofs.Choices.{same_reads, wider_reads, either_next, andthen, orelse, present, missing}
use Rattle.grammar.proofs.Repeats.{repeated}
use Rattle.grammar.proofs.Algebra.{Same}
use Rattle.grammar.proofs.Depths.{Never, Deepens, unlimited, never_done, deeper_then, deeper_either, deeper_many, opens_in}

pub record Limited {E T A : Type 0} (c : E) (kind : T → ℕ) (P P' : List T → A → Type 0) (r r' : List T → Read E T A) (first : List ℕ) (empty : Bool) (next : List ℕ) : Type 0 where
  pub low : Reads kind P r first empty next
  pub high : Reads kind P' r' first empty next
  pub deeper : Deepens c P P' r r'

-- what has no limit
pub fixed : {E T A : Type 0} {c : E} {kind : T → ℕ} {P : List T → A → Type 0} {r : List T → Read E T A} {f : List ℕ} {e : Bool} {n : List ℕ} → Reads kind P r f e n → Never c r → Limited c kind P P r r f e n
fixed {P = P} reads never = record { low = reads; high = reads; deeper = unlimited P never }

pub both_then : {E T A B : Type 0} {c : E} {kind : T → ℕ} {P P' : List T → A → Type 0} {Q Q' : A → List T → B → Type 0} {r r' : List T → Read E T A} {k k' : A → List T → Read E T B}
    {fP : List ℕ} {eP : Bool} {nP : List ℕ} {fQ : List ℕ} {eQ : Bool} {nQ : List ℕ}
    → Limited c kind P P' r r' fP eP nP → ((x : A) → Limited c kind (Q x) (Q' x) (k x) (k' x) fQ eQ nQ) → apart fQ nP ≡ true
    → Limited c kind (Then P Q) (Then P' Q') (λ ts. follow (r ts) k) (λ ts. follow (r' ts) k') (then_first fP eP fQ) (eP && eQ) (then_next nP nQ eQ)
both_then first second clear = record {
  low = andthen first.low (λ x. (second x).low) clear;
  high = andthen first.high (λ x. (second x).high) clear;
  deeper = deeper_then first.low (λ x. productive (second x).high) first.deeper (λ x. (second x).deeper);
}

pub both_done : {E T A : Type 0} {c : E} (kind : T → ℕ) (x : A) → Limited c kind (Done x) (Done x) (done_at x) (done_at x) [] true []
both_done kind x = fixed (done_reads kind x) (never_done x)

pub both_either : {E T A : Type 0} {c : E} {kind : T → ℕ} {P P' Q Q' : List T → A → Type 0} {r r' s s' : List T → Read E T A} {fP nP fQ : List ℕ} {eQ : Bool} {nQ : List ℕ}
    → Limited c kind P P' r r' fP false nP → Limited c kind Q Q' s s' fQ eQ nQ → apart fQ fP ≡ true
    → Limited c kind (Either P Q) (Either P' Q') (either_at kind fP r s) (either_at kind fP r' s') (fP ++ fQ) eQ (either_next nP nQ fP eQ)
both_either {kind = kind} {fP = fP} left right clear = record { low = orelse left.low right.low clear; high = orelse left.high right.high clear; deeper = deeper_either kind fP left.deeper right.deeper }

pub both_same : {E T A : Type 0} {c : E} {kind : T → ℕ} {P P' Q Q' : List T → A → Type 0} {r r' : List T → Read E T A} {f : List ℕ} {e : Bool} {n : List ℕ}
    → Same P Q → Same P' Q' → Limited c kind P P' r r' f e n → Limited c kind Q Q' r r' f e n
both_same s t b = record {
  low = same_reads s.there s.back b.low;
  high = same_reads t.there t.back b.high;
  deeper = record { grows = λ ts x h. t.there ts x (b.deeper.grows ts x (s.back ts x h)); okay = b.deeper.okay; plain = b.deeper.plain; opens = λ ts n e. opens_in t.there (b.deeper.opens ts n e) };
}

pub both_perhaps : {E T A : Type 0} {c : E} {kind : T → ℕ} {P P' : List T → A → Type 0} {r r' : List T → Read E T A} {f n : List ℕ} → Limited c kind P P' r r' f false n
    → Limited c kind (Optional P) (Optional P') (optional_at kind f r) (optional_at kind f r') (f ++ []) true (f ++ (n ++ []))
both_perhaps {c = c} {kind = kind} {P = P} {P' = P'} item =
    both_same (record { there = present P; back = missing P }) (record { there = present P'; back = missing P' })
    (both_either (both_then item (λ x. both_done kind (Some x)) refl) (both_done kind None) refl)

pub both_many : {E T A : Type 0} {c : E} {kind : T → ℕ} {P P' : List T → A → Type 0} {r r' : List T → Read E T A} {f n : List ℕ} → Limited c kind P P' r r' f false n → apart f n ≡ true
    → Limited c kind (Many P) (Many P') (many_at kind f r) (many_at kind f r') f true (n ++ f)
both_many {c = c} {kind = kind} {P = P} {P' = P'} {r = r} {r' = r'} {f = f} {n = n} item clear =
    record { low = repeated item.low clear; high = repeated item.high clear; deeper = deeper_many c kind f n n P P' r r' item.low item.high clear clear item.deeper }

pub both_wider : {E T A : Type 0} {c : E} {kind : T → ℕ} {P P' : List T → A → Type 0} {r r' : List T → Read E T A} {first : List ℕ} {empty : Bool} {next : List ℕ}
    (first' : List ℕ) (empty' : Bool) (next' : List ℕ) → within first first' ≡ true → cond empty empty' true ≡ true → within next next' ≡ true
    → Limited c kind P P' r r' first empty next → Limited c kind P P' r r' first' empty' next'
both_wider first' empty' next' f e n b = record { low = wider_reads first' empty' next' f e n b.low; high = wider_reads first' empty' next' f e n b.high; deeper = b.deeper }
