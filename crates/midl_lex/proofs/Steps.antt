-- What stands at the front: a lexeme, or a fault.
use Rattle.std.proofs.Common.{◌≡◌, ℕ, ◌+◌, ◌<◌, ◌≤◌, List, length, take, drop, Option, Some, None, Ok, Err, refl, sym, ap, subst, ◌∙◌, arith}
use Rattle.std.proofs.lemmas.List.{take_at, length-take-le, length-drop}
use Rattle.midl_lex.specs.declared.fault.Fault.{Fault}
use Rattle.midl_lex.specs.declared.token.LexemeKind.{LexemeKind}
use Rattle.midl_lex.specs.Scan.{scan}
use Rattle.midl_lex.specs.Lexemes.{IsLexeme, Lexeme, IsLongest}
use Rattle.midl_lex.specs.Tokens.{excess}
use Rattle.midl_lex.specs.Next.{fault_of, unless_excess, checked, next}
use Rattle.midl_lex.proofs.Scans.{found, one_kind, scan_longest}

pub scan_fits : (rest : List ℕ) (kind : LexemeKind) (len : ℕ) → Some (kind, len) ≡ scan rest → len ≤ length rest
scan_fits rest kind len e = (scan_longest rest kind len (sym e)).0

pub next_none : (rest : List ℕ) (fault : Fault) → None ≡ scan rest → fault ≡ fault_of rest → Err fault ≡ next rest
unfolding next
next_none rest fault e f = ap (λ (x : Fault). Err x) f ∙ ap (checked rest) e

pub next_some : (rest : List ℕ) (kind : LexemeKind) (len : ℕ) (x : Option Fault) → Some (kind, len) ≡ scan rest → x ≡ excess kind (take len rest) → unless_excess kind len x ≡ next rest
unfolding next
next_some rest kind len x e f = ap (unless_excess kind len) f ∙ ap (checked rest) e

-- ---- a lexeme at an offset

pub record Fits (rest : List ℕ) (kind : LexemeKind) (len : ℕ) : Type 0 where
  pub scanned : scan rest ≡ Some (kind, len)
  pub fine : excess kind (take len rest) ≡ None
  pub some : 0 < len
  pub within : len ≤ length rest

fits_case : (rest : List ℕ) (kind : LexemeKind) (len : ℕ) (k : LexemeKind) (n : ℕ) (x : Option Fault) → scan rest ≡ Some (k, n) → excess k (take n rest) ≡ x → Ok (kind, len) ≡ unless_excess k n x → Fits rest kind len
fits_case rest kind len k n (Some f) s e o = absurd cc
fits_case rest kind len k n None s e o =
    let h = scan_longest rest k n s in
    let same : ◌≡◌ {A = LexemeKind × ℕ} (k, n) (kind, len) = cc in
    let ks : k ≡ kind = ap (λ (q : LexemeKind × ℕ). q.0) same in
    let ns : n ≡ len = ap (λ (q : LexemeKind × ℕ). q.1) same in
    record {
      scanned = s ∙ ap (λ (q : LexemeKind × ℕ). Some q) same;
      fine = ap (λ (a : LexemeKind). excess a (take len rest)) (sym ks) ∙ ap (λ (m : ℕ). excess k (take m rest)) (sym ns) ∙ e;
      some = omega (arith, h.1, ns);
      within = omega (arith, h.0, ns);
    }

next_fits_case : (rest : List ℕ) (kind : LexemeKind) (len : ℕ) (o : Option (LexemeKind × ℕ)) → scan rest ≡ o → Ok (kind, len) ≡ checked rest o → Fits rest kind len
next_fits_case rest kind len None s e = absurd cc
next_fits_case rest kind len (Some (k, n)) s e = fits_case rest kind len k n (excess k (take n rest)) s refl e

pub next_fits : (rest : List ℕ) (kind : LexemeKind) (len : ℕ) → Ok (kind, len) ≡ next rest → Fits rest kind len
unfolding next
next_fits rest kind len e = next_fits_case rest kind len (scan rest) refl e

-- the lexeme that stands at the front is one, and fits
pub front_is : (rest front : List ℕ) (kind : LexemeKind) (len : ℕ) → Ok (kind, len) ≡ next rest → front ≡ take len rest → IsLexeme kind front
front_is rest front kind len e same =
    let h = (scan_longest rest kind len (next_fits rest kind len e).scanned).2 in
    subst (λ (u : List ℕ). IsLexeme kind u) (sym same) h.is

pub front_fits : (rest front : List ℕ) (kind : LexemeKind) (len : ℕ) → Ok (kind, len) ≡ next rest → front ≡ take len rest → excess kind front ≡ None
front_fits rest front kind len e same = ap (excess kind) same ∙ (next_fits rest kind len e).fine

pub here : (bytes : List ℕ) (offset : ℕ) (kind : LexemeKind) (len : ℕ) → scan (drop offset bytes) ≡ Some (kind, len) → IsLongest bytes (record { offset = offset; kind = kind; text = take len (drop offset bytes) })
here bytes offset kind len e =
    let h = (scan_longest (drop offset bytes) kind len e).2 in
    record { stands = (drop len (drop offset bytes), h.parts); is = h.is; longest = λ other text stands is. h.longest other text stands.0 stands.1 is }

-- the lexeme at an offset is the scan's
pub record Scanned (bytes : List ℕ) (l : Lexeme) : Type 0 where
  pub is : scan (drop l.offset bytes) ≡ Some (l.kind, length l.text)
  pub text : l.text ≡ take (length l.text) (drop l.offset bytes)
  pub some : 0 < length l.text
  pub within : l.offset + length l.text ≤ length bytes

pub is_scan : (bytes : List ℕ) (l : Lexeme) → IsLongest bytes l → Scanned bytes l
is_scan bytes l h =
    let rest = drop l.offset bytes in
    let back = h.stands.0 in
    let f = found l.kind l.text back h.is in
    let e : scan rest ≡ Some (f.kind, f.len) = ap scan h.stands.1 ∙ f.is in
    let g = scan_longest rest f.kind f.len e in
    let less = h.longest f.kind (take f.len rest) (drop f.len rest, g.2.parts) g.2.is in
    let same : f.len ≡ length l.text = omega (arith, less, f.within, length-take-le f.len rest g.0) in
    let cut : l.text ≡ take (length l.text) rest = sym (take_at l.text back (length l.text) refl) ∙ ap (take (length l.text)) (sym h.stands.1) in
    let there : take f.len rest ≡ l.text = ap (λ (k : ℕ). take k rest) same ∙ sym cut in
    let kinds-are : f.kind ≡ l.kind = one_kind f.kind l.kind l.text (subst (λ (u : List ℕ). IsLexeme f.kind u) there g.2.is) h.is in
    record {
      is = e ∙ ap (λ (k : ℕ). Some (f.kind, k)) same ∙ ap (λ (k : LexemeKind). Some (k, length l.text)) kinds-are;
      text = cut;
      some = omega (arith, g.1, same);
      within = omega (arith, g.0, g.1, same, length-drop l.offset bytes);
    }

-- at one offset stands one longest lexeme
pub one_way : (bytes : List ℕ) (l m : Lexeme) → IsLongest bytes l → IsLongest bytes m → l.offset ≡ m.offset → l ≡ m
one_way bytes l m h g e =
    let a = is_scan bytes l h in
    let b = is_scan bytes m g in
    let both : ◌≡◌ {A = Option (LexemeKind × ℕ)} (Some (l.kind, length l.text)) (Some (m.kind, length m.text)) = sym a.is ∙ ap (λ (o : ℕ). scan (drop o bytes)) e ∙ b.is in
    let same : ◌≡◌ {A = LexemeKind × ℕ} (l.kind, length l.text) (m.kind, length m.text) = cc in
    let ks : l.kind ≡ m.kind = ap (λ (q : LexemeKind × ℕ). q.0) same in
    let ns : length l.text ≡ length m.text = ap (λ (q : LexemeKind × ℕ). q.1) same in
    let ts : l.text ≡ m.text = a.text ∙ ap (λ (k : ℕ). take k (drop l.offset bytes)) ns ∙ ap (λ (o : ℕ). take (length m.text) (drop o bytes)) e ∙ sym b.text in
    ap (λ (o : ℕ). record { offset = o; kind = l.kind; text = l.text }) e ∙ ap (λ (k : LexemeKind). record { offset = m.offset; kind = k; text = l.text }) ks ∙ ap (λ (t : List ℕ). record { offset = m.offset; kind = m.kind; text = t }) ts
