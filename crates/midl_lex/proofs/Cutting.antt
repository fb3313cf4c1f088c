-- Files that were cut so far, and that they are cut in one way.
use Rattle.std.proofs.Common.{◌≡◌, ℕ, ◌+◌, ◌<◌, ◌≤◌, List, [], ◌∷◌, ◌++◌, length, take, drop, None, Result, Ok, Err, refl, sym, ap, subst, ◌∙◌, append_assoc, arith}
use Rattle.std.proofs.lemmas.List.{append-nil, length-take-le, length-drop}
use Rattle.midl_lex.specs.declared.fault.Fault.{Fault}
use Rattle.midl_lex.specs.declared.token.LexemeKind.{LexemeKind}
use Rattle.midl_lex.specs.Lexemes.{Lexeme, IsLongest}
use Rattle.midl_lex.specs.Pieces.{Piece}
use Rattle.midl_lex.specs.Tokens.{Cuts, token_if, tokens_of, excess, AllFit, Lexes, mark_len}
use Rattle.midl_lex.specs.Next.{next}
use Rattle.midl_lex.proofs.Steps.{next_fits, next_some, here, is_scan, one_way}

-- ---- one more lexeme

cut_more : (bytes : List ℕ) (from : ℕ) (ls : List Lexeme) (l : Lexeme) → Cuts bytes from ls l.offset → IsLongest bytes l → Cuts bytes from (ls ++ l ∷ []) (l.offset + length l.text)
cut_more bytes from [] l c h = (sym c, h, ap (λ (k : ℕ). k + length l.text) c)
cut_more bytes from (m ∷ ls) l c h = (c.0, c.1, cut_more bytes (from + length m.text) ls l c.2 h)

fit_more : (ls : List Lexeme) (l : Lexeme) → AllFit ls → excess l.kind l.text ≡ None → AllFit (ls ++ l ∷ [])
fit_more [] l f e = (e, tt)
fit_more (m ∷ ls) l f e = (f.0, fit_more ls l f.1 e)

tokens_more : (ls : List Lexeme) (l : Lexeme) → tokens_of (ls ++ l ∷ []) ≡ tokens_of ls ++ token_if l.offset l.kind l.text
tokens_more [] l = simp append-nil
tokens_more (m ∷ ls) l = ap (λ (u : List Piece). token_if m.offset m.kind m.text ++ u) (tokens_more ls l) ∙ sym (append_assoc (token_if m.offset m.kind m.text) (tokens_of ls) (token_if l.offset l.kind l.text))

-- the bytes up to the offset are lexemes that may be, and these are the tokens among them
pub record SoFar (bytes : List ℕ) (found : List Piece) (offset : ℕ) : Type 0 where
  pub lexemes : List Lexeme
  pub cut : Cuts bytes (mark_len bytes) lexemes offset
  pub fit : AllFit lexemes
  pub tokens : found ≡ tokens_of lexemes
  pub within : offset ≤ length bytes

pub start : (bytes : List ℕ) → mark_len bytes ≤ length bytes → SoFar bytes [] (mark_len bytes)
start bytes h = record { lexemes = []; cut = refl; fit = tt; tokens = refl; within = h }

pub goes_on : (bytes : List ℕ) (found : List Piece) (offset : ℕ) (kind : LexemeKind) (len : ℕ) → SoFar bytes found offset → Ok (kind, len) ≡ next (drop offset bytes)
    → SoFar bytes (found ++ token_if offset kind (take len (drop offset bytes))) (offset + len)
goes_on bytes found offset kind len s e =
    let f = next_fits (drop offset bytes) kind len e in
    let size : length (take len (drop offset bytes)) ≡ len = length-take-le len (drop offset bytes) f.within in
    let l : Lexeme = record { offset = offset; kind = kind; text = take len (drop offset bytes) } in
    record {
      lexemes = s.lexemes ++ l ∷ [];
      cut = subst (λ (k : ℕ). Cuts bytes (mark_len bytes) (s.lexemes ++ l ∷ []) (offset + k)) size (cut_more bytes (mark_len bytes) s.lexemes l s.cut (here bytes offset kind len f.scanned));
      fit = fit_more s.lexemes l s.fit f.fine;
      tokens = ap (λ (u : List Piece). u ++ token_if offset kind (take len (drop offset bytes))) s.tokens ∙ sym (tokens_more s.lexemes l);
      within = omega (arith, s.within, f.within, f.some, length-drop offset bytes);
    }

-- ---- one way

pub grows : (bytes : List ℕ) (from to : ℕ) (ls : List Lexeme) → Cuts bytes from ls to → from ≤ to
grows bytes from to [] c = omega arith
grows bytes from to (l ∷ ls) c = omega (arith, grows bytes (from + length l.text) to ls c.2)

-- no lexeme stands at the end
none_at_end : (bytes : List ℕ) (l : Lexeme) → IsLongest bytes l → l.offset ≡ length bytes → ⊥
none_at_end bytes l h e = let s = is_scan bytes l h in omega (arith, s.some, s.within)

unique : (bytes : List ℕ) (from : ℕ) (ls ms : List Lexeme) → Cuts bytes from ls (length bytes) → Cuts bytes from ms (length bytes) → ls ≡ ms
unique bytes from [] [] c d = refl
unique bytes from [] (m ∷ ms) c d = absurd (none_at_end bytes m d.1 (d.0 ∙ c))
unique bytes from (l ∷ ls) [] c d = absurd (none_at_end bytes l c.1 (c.0 ∙ d))
unique bytes from (l ∷ ls) (m ∷ ms) c d =
    let head = one_way bytes l m c.1 d.1 (c.0 ∙ sym d.0) in
    let tail : ls ≡ ms = unique bytes (from + length l.text) ls ms c.2 (subst (λ (u : Lexeme). Cuts bytes (from + length u.text) ms (length bytes)) (sym head) d.2) in
    cc (head, tail)

-- bytes have one list of tokens
pub one_list : (bytes : List ℕ) (ps qs : List Piece) → Lexes bytes ps → Lexes bytes qs → ps ≡ qs
one_list bytes ps qs a b = a.are ∙ ap tokens_of (unique bytes (mark_len bytes) a.lexemes b.lexemes a.cut b.cut) ∙ sym b.are

-- ---- where it doesn't go on

-- no lexeme that may be stands at the offset, and it isn't the end
pub record Stuck (bytes : List ℕ) (offset : ℕ) (fault : Fault) : Type 0 where
  pub before : offset < length bytes
  pub is : next (drop offset bytes) ≡ Err fault

nothing_fits : (bytes : List ℕ) (offset : ℕ) (fault : Fault) (l : Lexeme) → Stuck bytes offset fault → l.offset ≡ offset → IsLongest bytes l → excess l.kind l.text ≡ None → ⊥
nothing_fits bytes offset fault l s at h e =
    let a = is_scan bytes l h in
    let n = next_some (drop l.offset bytes) l.kind (length l.text) None (sym a.is) (sym e ∙ ap (excess l.kind) a.text) in
    let m : next (drop l.offset bytes) ≡ Err fault = ap (λ (o : ℕ). next (drop o bytes)) at ∙ s.is in
    let both : ◌≡◌ {A = Result (LexemeKind × ℕ) Fault} (Ok (l.kind, length l.text)) (Err fault) = n ∙ m in
    cc

-- a file that is all cut has no such place
never_stuck : (bytes : List ℕ) (from offset : ℕ) (fault : Fault) (ls before : List Lexeme) → Cuts bytes from ls (length bytes) → AllFit ls → Cuts bytes from before offset → Stuck bytes offset fault → ⊥
never_stuck bytes from offset fault [] [] c f d s = omega (arith, s.before)
never_stuck bytes from offset fault [] (m ∷ before) c f d s = none_at_end bytes m d.1 (d.0 ∙ c)
never_stuck bytes from offset fault (l ∷ ls) [] c f d s = nothing_fits bytes offset fault l s (c.0 ∙ d) c.1 f.0
never_stuck bytes from offset fault (l ∷ ls) (m ∷ before) c f d s =
    let head = one_way bytes l m c.1 d.1 (c.0 ∙ sym d.0) in
    never_stuck bytes (from + length l.text) offset fault ls before c.2 f.1 (subst (λ (u : Lexeme). Cuts bytes (from + length u.text) before offset) (sym head) d.2) s

pub cut_not_stuck : (bytes : List ℕ) (pieces : List Piece) (before : List Lexeme) (offset : ℕ) (fault : Fault) → Lexes bytes pieces → Cuts bytes (mark_len bytes) before offset → Stuck bytes offset fault → ⊥
cut_not_stuck bytes pieces before offset fault h d s = never_stuck bytes (mark_len bytes) offset fault h.lexemes before h.cut h.fit d s

-- where all that stands before an offset may be, no such place comes before it
least : (bytes : List ℕ) (from offset other : ℕ) (fault : Fault) (ls before : List Lexeme) → Cuts bytes from ls offset → AllFit ls → Cuts bytes from before other → Stuck bytes other fault → offset ≤ other
least bytes from offset other fault [] before c f d s = omega (arith, grows bytes from other before d)
least bytes from offset other fault (l ∷ ls) [] c f d s = absurd (nothing_fits bytes other fault l s (c.0 ∙ d) c.1 f.0)
least bytes from offset other fault (l ∷ ls) (m ∷ before) c f d s =
    let head = one_way bytes l m c.1 d.1 (c.0 ∙ sym d.0) in
    least bytes (from + length l.text) offset other fault ls before c.2 f.1 (subst (λ (u : Lexeme). Cuts bytes (from + length u.text) before other) (sym head) d.2) s

pub least_stuck : (bytes : List ℕ) (found : List Piece) (offset other : ℕ) (fault : Fault) (before : List Lexeme) → SoFar bytes found offset → Cuts bytes (mark_len bytes) before other → Stuck bytes other fault → offset ≤ other
least_stuck bytes found offset other fault before s d t = least bytes (mark_len bytes) offset other fault s.lexemes before s.cut s.fit d t
