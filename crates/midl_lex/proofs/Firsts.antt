-- Faults and where nothing goes on: the first fault is there exactly where the bytes aren't all cut.
use Rattle.std.proofs.Common.{◌≡◌, ℕ, zero, suc, ◌+◌, ◌<◌, ◌≤◌, Bool, true, false, cond, ◌&&◌, eqb, ltb, List, [], ◌∷◌, ◌++◌, length, take, drop, Option, Some, None, Result, Ok, Err, refl, sym, ap, subst, ◌∙◌, arith, inl, inr, ◌⊎◌}
use Rattle.std.specs.Prelude.{IfOk, IfErr}
use Rattle.std.specs.Global.{Vec}
use Rattle.std.specs.Str.{IsUtf8, IsValidUpTo}
use Rattle.std.proofs.lemmas.List.{length-drop, drop-drop}
use Rattle.std.proofs.lemmas.Bool.{eqb-true}
use Rattle.ranked.specs.Entries.{Entry}
use Rattle.ranked.specs.declared.stop.Stop.{Stop}
use Rattle.ranked.specs.declared.stop.Stop.TheVariants.{Refused, Memory}
use Rattle.midl_lex.specs.declared.fault.Fault.{Fault}
use Rattle.midl_lex.specs.declared.fault.Fault.TheVariants.{NotUtf8, BadChar, OpenComment, OpenText, WideNumber, LongName}
use Rattle.midl_lex.specs.declared.token.TokenKind.TheVariants as tokens
use Rattle.midl_lex.specs.declared.token.LexemeKind.{LexemeKind}
use Rattle.midl_lex.specs.declared.token.LexemeKind.TheVariants as kinds
use Rattle.midl_lex.specs.Numbers.{value_of}
use Rattle.midl_lex.specs.Scan.{scan}
use Rattle.midl_lex.specs.Lexemes.{Stands, Lexeme, IsLongest, NoLexeme}
use Rattle.midl_lex.specs.Pieces.{Piece}
use Rattle.midl_lex.specs.Tokens.{token_if, Cuts, excess, Lexes, mark_len}
use Rattle.midl_lex.specs.Faults.{Reached, Exceeds, IsFault, NoneBefore, FirstFault, entry, RefusedFirst, Reads, Refuses}
use Rattle.midl_lex.specs.Next.{fault_of, is_star, unless_excess, checked, next}
use Rattle.midl_lex.proofs.Classes.{and_parts, not_true}
use Rattle.midl_lex.proofs.Scans.{scan_none}
use Rattle.midl_lex.proofs.Steps.{next_fits, next_none, next_some, here, is_scan}
use Rattle.midl_lex.proofs.Cutting.{SoFar, goes_on, one_list, Stuck, cut_not_stuck, least_stuck}
use Rattle.midl_lex.proofs.Valid.{not_valid, one_end}

-- ---- a fault, and what stands at the front there

pub record Found (bytes : List ℕ) (offset : ℕ) (fault : Fault) : Type 0 where
  pub before : List Lexeme
  pub cut : Cuts bytes (mark_len bytes) before offset
  pub stuck : Stuck bytes offset fault

scan_nothing : (bytes : List ℕ) (offset : ℕ) → NoLexeme bytes offset → scan (drop offset bytes) ≡ None
scan_nothing bytes offset none = go (scan (drop offset bytes)) refl
  where
    go : (o : Option (LexemeKind × ℕ)) → scan (drop offset bytes) ≡ o → scan (drop offset bytes) ≡ None
    go None e = e
    go (Some (kind, len)) e = let h = here bytes offset kind len e in absurd (none kind (take len (drop offset bytes)) h.stands h.is)

nothing_next : (bytes : List ℕ) (offset : ℕ) (fault : Fault) → NoLexeme bytes offset → fault ≡ fault_of (drop offset bytes) → next (drop offset bytes) ≡ Err fault
nothing_next bytes offset fault none e = sym (next_none (drop offset bytes) fault (sym (scan_nothing bytes offset none)) e)

stands_before : (bytes : List ℕ) (offset b : ℕ) (bs : List ℕ) → drop offset bytes ≡ b ∷ bs → offset < length bytes
stands_before bytes offset b bs e = omega (arith, ap length e, length-drop offset bytes)

star_is : (bs : List ℕ) → is_star bs ≡ true → (rest : List ℕ) × (bs ≡ 42 ∷ rest)
star_is [] e = absurd cc
star_is (b ∷ bs) e = (bs, ap (λ (x : ℕ). x ∷ bs) (eqb-true b 42 e))

bad_char : (rest : List ℕ) → ((back : List ℕ) → rest ≡ 47 ∷ 42 ∷ back → ⊥) → ((back : List ℕ) → rest ≡ 34 ∷ back → ⊥) → BadChar ≡ fault_of rest
bad_char [] p q = refl
bad_char (b ∷ bs) p q =
    let quote : eqb b 34 ≡ false = not_true (eqb b 34) (λ h. q bs (ap (λ (x : ℕ). x ∷ bs) (eqb-true b 34 h))) in
    let open_ : (eqb b 47 && is_star bs) ≡ false = not_true (eqb b 47 && is_star bs) (λ h.
    let parts = and_parts (eqb b 47) (is_star bs) h in
    let star = star_is bs parts.1 in
    p star.0 (ap (λ (x : ℕ). x ∷ bs) (eqb-true b 47 parts.0) ∙ ap (λ (u : List ℕ). 47 ∷ u) star.1))
    in
    rw (quote, open_) refl

exceeding : (bytes : List ℕ) (offset : ℕ) (fault : Fault) → Exceeds bytes offset fault → Stuck bytes offset fault
exceeding bytes offset fault (l, at, h, e) =
    let s = is_scan bytes l h in
    let n : Err fault ≡ next (drop l.offset bytes) = next_some (drop l.offset bytes) l.kind (length l.text) (Some fault) (sym s.is) (sym e ∙ ap (excess l.kind) s.text) in
    record { before = omega (arith, s.some, s.within, at); is = sym (n ∙ ap (λ (o : ℕ). next (drop o bytes)) at) }

pub is_found : (bytes : List ℕ) (offset : ℕ) (fault : Fault) → IsFault bytes offset fault → (fault ≡ NotUtf8 → ⊥) → Found bytes offset fault
is_found bytes offset NotUtf8 h other = absurd (other refl)
is_found bytes offset BadChar (reached, lt, none, slash, quote) other =
    record {
      before = reached.0;
      cut = reached.1;
      stuck = record { before = lt; is = nothing_next bytes offset BadChar none (bad_char (drop offset bytes) (λ back e. slash (back, e)) (λ back e. quote (back, e))) };
    }
is_found bytes offset OpenComment (reached, none, stands) other =
    record { before = reached.0; cut = reached.1; stuck = record { before = stands_before bytes offset 47 (42 ∷ stands.0) stands.1; is = nothing_next bytes offset OpenComment none (sym (ap fault_of stands.1)) } }
is_found bytes offset OpenText (reached, none, stands) other =
    record { before = reached.0; cut = reached.1; stuck = record { before = stands_before bytes offset 34 stands.0 stands.1; is = nothing_next bytes offset OpenText none (sym (ap fault_of stands.1)) } }
is_found bytes offset WideNumber (reached, exceeds) other = record { before = reached.0; cut = reached.1; stuck = exceeding bytes offset WideNumber exceeds }
is_found bytes offset LongName (reached, exceeds) other = record { before = reached.0; cut = reached.1; stuck = exceeding bytes offset LongName exceeds }

-- ---- and back

record Fault_ (bytes : List ℕ) (offset : ℕ) (fault : Fault) : Type 0 where
  is : IsFault bytes offset fault
  other : fault ≡ NotUtf8 → ⊥

nothing_there : (bytes : List ℕ) (offset : ℕ) (fault : Fault) (rest : List ℕ) → Reached bytes offset → offset < length bytes → NoLexeme bytes offset → drop offset bytes ≡ rest → fault ≡ fault_of rest → Fault_ bytes offset fault
nothing_there bytes offset fault [] reached lt none at e = absurd (omega (arith, ap length at, length-drop offset bytes, lt))
nothing_there bytes offset fault (b ∷ bs) reached lt none at e = quoted (eqb b 34) refl e
  where
    stand : (f : Fault) → fault ≡ f → (f ≡ NotUtf8 → ⊥) → IsFault bytes offset f → Fault_ bytes offset fault
    stand f e other h = record { is = subst (λ (g : Fault). IsFault bytes offset g) (sym e) h; other = λ g. other (sym e ∙ g) }

    not_quote : eqb b 34 ≡ false → ¬ (Stands bytes offset (34 ∷ []))
    not_quote v = λ (back, s). let same : ◌≡◌ {A = List ℕ} (b ∷ bs) (34 ∷ back) = sym at ∙ s in let first : b ≡ 34 = cc in let test : eqb 34 34 ≡ false = rw first at v in cc

    not_open : (eqb b 47 && is_star bs) ≡ false → ¬ (Stands bytes offset (47 ∷ 42 ∷ []))
    not_open v = λ (back, s).
        let same : ◌≡◌ {A = List ℕ} (b ∷ bs) (47 ∷ 42 ∷ back) = sym at ∙ s in
        let first : b ≡ 47 = cc in
        let tail : bs ≡ 42 ∷ back = cc in
        let test : (eqb 47 47 && is_star (42 ∷ back)) ≡ false = rw (first, tail) at v in
        cc

    opened : (v : Bool) → (eqb b 47 && is_star bs) ≡ v → eqb b 34 ≡ false → fault ≡ cond v OpenComment BadChar → Fault_ bytes offset fault
    opened true v q e =
        let parts = and_parts (eqb b 47) (is_star bs) v in
        let star = star_is bs parts.1 in
        let stands : drop offset bytes ≡ 47 ∷ 42 ∷ star.0 = at ∙ ap (λ (x : ℕ). x ∷ bs) (eqb-true b 47 parts.0) ∙ ap (λ (u : List ℕ). 47 ∷ u) star.1 in
        stand OpenComment e (λ g. cc) (reached, none, (star.0, stands))
    opened false v q e = stand BadChar e (λ g. cc) (reached, lt, none, not_open v, not_quote q)

    quoted : (v : Bool) → eqb b 34 ≡ v → fault ≡ cond v OpenText (cond (eqb b 47 && is_star bs) OpenComment BadChar) → Fault_ bytes offset fault
    quoted true v e = stand OpenText e (λ g. cc) (reached, none, (bs, at ∙ ap (λ (x : ℕ). x ∷ bs) (eqb-true b 34 v)))
    quoted false v e = opened (eqb b 47 && is_star bs) refl v e

some_cond : (v : Bool) (a b : Fault) → cond {A = Option Fault} v (Some a) None ≡ Some b → b ≡ a
some_cond true a b e = cc
some_cond false a b e = absurd cc

none_cond : (v : Bool) (a b : Fault) → cond {A = Option Fault} v None (Some a) ≡ Some b → b ≡ a
none_cond true a b e = absurd cc
none_cond false a b e = cc

excess_is : (kind : LexemeKind) (text : List ℕ) (fault : Fault) → excess kind text ≡ Some fault → (fault ≡ LongName) ⊎ (fault ≡ WideNumber)
excess_is kinds.White text fault e = absurd cc
excess_is kinds.LineComment text fault e = absurd cc
excess_is kinds.BlockComment text fault e = absurd cc
excess_is (kinds.Token tokens.Word) text fault e = inl (some_cond (ltb 255 (length text)) LongName fault e)
excess_is (kinds.Token tokens.Number) text fault e = inr (none_cond (ltb (value_of text) 18446744073709551616) WideNumber fault e)
excess_is (kinds.Token tokens.Guid) text fault e = absurd cc
excess_is (kinds.Token tokens.Text) text fault e = absurd cc
excess_is (kinds.Token tokens.Mark) text fault e = absurd cc

exceeds_there : (bytes : List ℕ) (offset : ℕ) (fault : Fault) (l : Lexeme) → Reached bytes offset → l.offset ≡ offset → IsLongest bytes l → excess l.kind l.text ≡ Some fault → Fault_ bytes offset fault
exceeds_there bytes offset fault l reached at h e =
    elim (excess_is l.kind l.text fault e) [
      | inl f ↦ record { is = subst (λ (g : Fault). IsFault bytes offset g) (sym f) (reached, (l, at, h, e ∙ ap (λ (g : Fault). Some g) f)); other = λ g. let both : LongName ≡ NotUtf8 = sym f ∙ g in cc }
      | inr f ↦ record { is = subst (λ (g : Fault). IsFault bytes offset g) (sym f) (reached, (l, at, h, e ∙ ap (λ (g : Fault). Some g) f)); other = λ g. let both : WideNumber ≡ NotUtf8 = sym f ∙ g in cc }
    ]

no_front : (bytes : List ℕ) (offset : ℕ) → scan (drop offset bytes) ≡ None → NoLexeme bytes offset
no_front bytes offset e = λ kind text stands is. scan_none (drop offset bytes) e kind text stands.0 stands.1 is

stuck_fault : (bytes : List ℕ) (offset : ℕ) (fault : Fault) → Reached bytes offset → Stuck bytes offset fault → Fault_ bytes offset fault
unfolding next
stuck_fault bytes offset fault reached stuck = go (scan (drop offset bytes)) refl stuck.is
  where
    too_much : (kind : LexemeKind) (len : ℕ) (x : Option Fault) → scan (drop offset bytes) ≡ Some (kind, len) → excess kind (take len (drop offset bytes)) ≡ x → unless_excess kind len x ≡ Err fault → Fault_ bytes offset fault
    too_much kind len None s x e = absurd cc
    too_much kind len (Some f) s x e =
        let same : f ≡ fault = cc in
        exceeds_there bytes offset fault (record { offset = offset; kind = kind; text = take len (drop offset bytes) }) reached refl (here bytes offset kind len s) (x ∙ ap (λ (g : Fault). Some g) same)

    go : (o : Option (LexemeKind × ℕ)) → scan (drop offset bytes) ≡ o → checked (drop offset bytes) o ≡ Err fault → Fault_ bytes offset fault
    go None s e =
        let same : fault ≡ fault_of (drop offset bytes) = cc in
        nothing_there bytes offset fault (drop offset bytes) reached stuck.before (no_front bytes offset s) refl same
    go (Some (kind, len)) s e = too_much kind len (excess kind (take len (drop offset bytes))) s refl e

-- ---- the first

pub which : (fault : Fault) → (fault ≡ NotUtf8) ⊎ (fault ≡ NotUtf8 → ⊥)
which NotUtf8 = inl refl
which BadChar = inr (λ e. cc)
which OpenComment = inr (λ e. cc)
which OpenText = inr (λ e. cc)
which WideNumber = inr (λ e. cc)
which LongName = inr (λ e. cc)

pub valid_end : (bytes : List ℕ) (offset : ℕ) (fault : Fault) → fault ≡ NotUtf8 → IsFault bytes offset fault → IsValidUpTo bytes offset
valid_end bytes offset fault e h = subst (λ (f : Fault). IsFault bytes offset f) e h

pub record Other (bytes : List ℕ) (offset : ℕ) (fault : Fault) : Type 0 where
  pub utf8 : IsUtf8 bytes
  pub is : IsFault bytes offset fault
  pub least : NoneBefore bytes offset

first_of : (bytes : List ℕ) (offset : ℕ) (fault : Fault) → (fault ≡ NotUtf8 → ⊥) → Other bytes offset fault → FirstFault bytes offset fault
first_of bytes offset NotUtf8 other o = absurd (other refl)
first_of bytes offset BadChar other o = (o.utf8, o.is, o.least)
first_of bytes offset OpenComment other o = (o.utf8, o.is, o.least)
first_of bytes offset OpenText other o = (o.utf8, o.is, o.least)
first_of bytes offset WideNumber other o = (o.utf8, o.is, o.least)
first_of bytes offset LongName other o = (o.utf8, o.is, o.least)

pub of_first : (bytes : List ℕ) (offset : ℕ) (fault : Fault) → (fault ≡ NotUtf8 → ⊥) → FirstFault bytes offset fault → Other bytes offset fault
of_first bytes offset NotUtf8 other h = absurd (other refl)
of_first bytes offset BadChar other h = record { utf8 = h.0; is = h.1; least = h.2 }
of_first bytes offset OpenComment other h = record { utf8 = h.0; is = h.1; least = h.2 }
of_first bytes offset OpenText other h = record { utf8 = h.0; is = h.1; least = h.2 }
of_first bytes offset WideNumber other h = record { utf8 = h.0; is = h.1; least = h.2 }
of_first bytes offset LongName other h = record { utf8 = h.0; is = h.1; least = h.2 }

pub first_is : (bytes : List ℕ) (offset : ℕ) (fault : Fault) → FirstFault bytes offset fault → IsFault bytes offset fault
first_is bytes offset NotUtf8 h = h
first_is bytes offset BadChar h = h.1
first_is bytes offset OpenComment h = h.1
first_is bytes offset OpenText h = h.1
first_is bytes offset WideNumber h = h.1
first_is bytes offset LongName h = h.1

pub first_here : (bytes : List ℕ) (found : List Piece) (offset : ℕ) (fault : Fault) → IsUtf8 bytes → SoFar bytes found offset → offset < length bytes → Err fault ≡ next (drop offset bytes) → FirstFault bytes offset fault
first_here bytes found offset fault utf8 s lt e =
    let f = stuck_fault bytes offset fault (s.lexemes, s.cut) (record { before = lt; is = sym e }) in
    first_of bytes offset fault f.other (
    record {
      utf8 = utf8;
      is = f.is;
      least = λ place other h. elim (which other) [
        | inl g ↦ absurd (not_valid bytes place (valid_end bytes place other g h) utf8)
        | inr g ↦ let w = is_found bytes place other h g in least_stuck bytes found offset place other w.before s w.cut w.stuck
      ];
    }
    )

-- bytes that are cut have no fault
pub lexes_no_fault : (bytes : List ℕ) (pieces : List Piece) (offset : ℕ) (fault : Fault) → Lexes bytes pieces → IsFault bytes offset fault → ⊥
lexes_no_fault bytes pieces offset fault l h =
    elim (which fault) [
      | inl e ↦ not_valid bytes offset (valid_end bytes offset fault e h) l.utf8
      | inr other ↦ let w = is_found bytes offset fault h other in cut_not_stuck bytes pieces w.before offset fault l w.cut w.stuck
    ]

-- at one offset stands one fault
pub one_fault : (bytes : List ℕ) (a b : ℕ) (f g : Fault) → (f ≡ NotUtf8 → ⊥) → (g ≡ NotUtf8 → ⊥) → IsFault bytes a f → IsFault bytes b g → a ≡ b → f ≡ g
one_fault bytes a b f g e d h k at =
    let x = (is_found bytes a f h e).stuck.is in
    let y = (is_found bytes b g k d).stuck.is in
    let one : ◌≡◌ {A = Result (LexemeKind × ℕ) Fault} (Err f) (Err g) = sym x ∙ ap (λ (o : ℕ). next (drop o bytes)) at ∙ y in
    cc

-- there is one first fault
pub one_first : (bytes : List ℕ) (a b : ℕ) (f g : Fault) → FirstFault bytes a f → FirstFault bytes b g → (a ≡ b) × (f ≡ g)
one_first bytes a b f g h k =
    elim (which f) [
      | inl e ↦ elim (which g) [
        | inl d ↦ (one_end bytes a b (valid_end bytes a f e (first_is bytes a f h)) (valid_end bytes b g d (first_is bytes b g k)), e ∙ sym d)
        | inr d ↦ absurd (not_valid bytes a (valid_end bytes a f e (first_is bytes a f h)) (of_first bytes b g d k).utf8)
      ]
      | inr e ↦ elim (which g) [
        | inl d ↦ absurd (not_valid bytes b (valid_end bytes b g d (first_is bytes b g k)) (of_first bytes a f e h).utf8)
        | inr d ↦ both e d
      ]
    ]
  where
    both : (f ≡ NotUtf8 → ⊥) → (g ≡ NotUtf8 → ⊥) → (a ≡ b) × (f ≡ g)
    both e d =
        let p = of_first bytes a f e h in
        let q = of_first bytes b g d k in
        let le = p.least b g q.is in
        let ge = q.least a f p.is in
        let at : a ≡ b = omega (arith, le, ge) in
        (at, one_fault bytes a b f g e d p.is q.is at)

-- ---- all cut, or a first fault

pub at_end : (bytes : List ℕ) (found : List Piece) (offset : ℕ) → IsUtf8 bytes → SoFar bytes found offset → length bytes ≤ offset → Lexes bytes found
at_end bytes found offset utf8 s le =
    let at : offset ≡ length bytes = omega (arith, s.within, le) in
    record { utf8 = utf8; lexemes = s.lexemes; cut = subst (λ (o : ℕ). Cuts bytes (mark_len bytes) s.lexemes o) at s.cut; fit = s.fit; are = s.tokens }

-- ---- the loop over the lexemes

pub record Step (bytes rest : List ℕ) (found : List Piece) (offset : ℕ) (kind : LexemeKind) (len : ℕ) : Type 0 where
  pub so_far : SoFar bytes (found ++ token_if offset kind (take len rest)) (offset + len)
  pub rest_is : drop len rest ≡ drop (offset + len) bytes
  pub total : offset + len + length (drop len rest) ≡ length bytes
  pub some : 0 < len
  pub within : len ≤ length rest

pub step : (bytes rest : List ℕ) (found : List Piece) (offset : ℕ) (kind : LexemeKind) (len : ℕ) → SoFar bytes found offset → rest ≡ drop offset bytes → offset + length rest ≡ length bytes → Ok (kind, len) ≡ next rest → Step bytes rest found offset kind len
step bytes rest found offset kind len s at total e =
    let there : Ok (kind, len) ≡ next (drop offset bytes) = e ∙ ap next at in
    let f = next_fits rest kind len e in
    record {
      so_far = subst (λ (u : List ℕ). SoFar bytes (found ++ token_if offset kind (take len u)) (offset + len)) (sym at) (goes_on bytes found offset kind len s there);
      rest_is = ap (drop len) at ∙ drop-drop len offset bytes;
      total = omega (arith, total, length-drop len rest, f.within);
      some = f.some;
      within = f.within;
    }

pub some_left : (n : ℕ) → eqb n 0 ≡ false → 0 < n
some_left zero e = absurd cc
some_left (suc n) e = omega arith

pub refused_here : (bytes rest : List ℕ) (found : List Piece) (offset : ℕ) (fault : Fault) → IsUtf8 bytes → SoFar bytes found offset → rest ≡ drop offset bytes → offset + length rest ≡ length bytes → 0 < length rest → Err fault ≡ next rest → FirstFault bytes offset fault
refused_here bytes rest found offset fault utf8 s at total some e = first_here bytes found offset fault utf8 s (omega (arith, total, some)) (e ∙ ap next at)

-- ---- a result is determined

pub is_only : (file : ℕ) (bytes : List ℕ) (result : Result (Vec Piece) (Stop Entry)) → IfOk result (λ v. Lexes bytes v.items) → IfErr result (λ stop. RefusedFirst file bytes stop) → (pieces : List Piece) → Lexes bytes pieces → Reads pieces result
is_only file bytes (Ok v) ok err pieces l = one_list bytes v.items pieces ok l
is_only file bytes (Err Memory) ok err pieces l = tt
is_only file bytes (Err (Refused e)) ok err pieces l = lexes_no_fault bytes pieces err.0 err.1 l (first_is bytes err.0 err.1 err.3)

pub is_first : (file : ℕ) (bytes : List ℕ) (result : Result (Vec Piece) (Stop Entry)) → IfOk result (λ v. Lexes bytes v.items) → IfErr result (λ stop. RefusedFirst file bytes stop) → (offset : ℕ) (fault : Fault) → FirstFault bytes offset fault → Refuses (entry file offset fault) result
is_first file bytes (Ok v) ok err offset fault h = lexes_no_fault bytes v.items offset fault ok (first_is bytes offset fault h)
is_first file bytes (Err Memory) ok err offset fault h = tt
is_first file bytes (Err (Refused e)) ok err offset fault h =
    let one = one_first bytes err.0 offset err.1 fault err.3 h in
    err.2 ∙ ap (λ (o : ℕ). entry file o err.1) one.0 ∙ ap (entry file offset) one.1
