-- What lexing says of tokens, and of the tokens as the grammar sees them.
use Rattle.std.proofs.Common.{◌≡◌, ℕ, zero, suc, ◌+◌, ◌<◌, ◌≤◌, ◌^◌, Bool, true, false, cond, ◌&&◌, ◌||◌, nat_le, ◌==◌, List, [], ◌∷◌, ◌++◌, length, None, IsTrue, refl, sym, subst, ◌∙◌, arith, lit<, inl, inr}
use Rattle.std.specs.List.{list_all}
use Rattle.std.specs.Str.{IsAscii}
use Rattle.grammar.specs.Productions.{has}
use Rattle.wr_base.specs.Paths.{is_identifier, is_start, is_rest}
use Rattle.midl_lex.specs.declared.token.TokenKind.{TokenKind}
use Rattle.midl_lex.specs.declared.token.TokenKind.TheVariants as tokens
use Rattle.midl_lex.specs.declared.token.LexemeKind.TheVariants as lexemes
use Rattle.midl_lex.specs.Bytes.{is_letter, is_word, is_digit, is_hex, is_x, is_plain, all_pass}
use Rattle.midl_lex.specs.Guids.{guid_from, guid_test}
use Rattle.midl_lex.specs.Scan.{is_mark}
use Rattle.midl_lex.specs.Numbers.{value_of}
use Rattle.midl_lex.specs.Lexemes.{IsLexeme}
use Rattle.midl_lex.specs.Pieces.{Piece, excess_of, Fits}
use Rattle.midl_tree.specs.declared.kind.Kind.{Kind}
use Rattle.midl_tree.specs.declared.kind.Kind.TheVariants as kinds
use Rattle.midl_tree.specs.declared.terminal.Terminal.{Terminal}
use Rattle.midl_tree.specs.Kinds.{number_of, names}
use Rattle.midl_words.specs.Words.{kind_of_name, kind_within, kind_of_word, kind_of_byte, kind_of_mark, kind_by, text_by, terminal_of}
use Rattle.midl_tree.specs.Terminals.{IsLexed}

-- ---- a token that fits is ASCII

abbrev Small : List ℕ → Type 0
Small [] = Unit {0}
Small (b ∷ bs) = (b < 128) × Small bs

ascii_of : (bs : List ℕ) → Small bs → IsAscii bs
ascii_of [] s i = lit< tt
ascii_of (b ∷ bs) s zero = s.0
ascii_of (b ∷ bs) s (suc i) = ascii_of bs s.1 i

both_true : (b x : Bool) → cond b x false ≡ true → (b ≡ true) × (x ≡ true)
both_true true x h = (refl, h)
both_true false x h = absurd cc

small_word : (b : ℕ) → is_word b ≡ true → b < 128
small_word b h = grind arith

small_hex : (b : ℕ) → is_hex b ≡ true → b < 128
small_hex b h = grind arith

small_digit : (b : ℕ) → is_digit b ≡ true → b < 128
small_digit b h = grind arith

small_letter : (b : ℕ) → is_letter b ≡ true → b < 128
small_letter b h = grind arith

small_plain : (b : ℕ) → is_plain b ≡ true → b < 128
small_plain b h = grind arith

small_x : (b : ℕ) → is_x b ≡ true → b < 128
small_x b h = grind arith

small_mark : (b : ℕ) → is_mark b ≡ true → b < 128
small_mark b h = grind arith

small_guid : (i b : ℕ) → guid_test i b ≡ true → b < 128
small_guid i b h = grind (arith, small_hex)

small_run : (p : ℕ → Bool) → ((b : ℕ) → p b ≡ true → b < 128) → (bs : List ℕ) → all_pass p bs ≡ true → Small bs
small_run p each [] h = tt
small_run p each (b ∷ bs) h = let s = both_true (p b) (all_pass p bs) h in (each b s.0, small_run p each bs s.1)

small_append : (xs ys : List ℕ) → Small xs → Small ys → Small (xs ++ ys)
small_append [] ys s t = t
small_append (x ∷ xs) ys s t = (s.0, small_append xs ys s.1 t)

small_guids : (n i : ℕ) (bs : List ℕ) → length bs ≡ n → guid_from n i bs ≡ true → Small bs
small_guids zero i [] l h = tt
small_guids zero i (b ∷ bs) l h = absurd (omega (arith, l))
small_guids (suc n) i [] l h = tt
small_guids (suc n) i (b ∷ bs) l h = let s = both_true (guid_test i b) (guid_from n (i + 1) bs) h in (small_guid i b s.0, small_guids n (i + 1) bs (omega (arith, l)) s.1)

small_by : (bs cs : List ℕ) → bs ≡ cs → Small cs → Small bs
small_by bs cs e s = let P : List ℕ → Type 0 = Small in subst P (sym e) s

small_lexeme : (kind : TokenKind) (text : List ℕ) → IsLexeme (lexemes.Token kind) text → Small text
small_lexeme tokens.Word text h = small_by text (h.0 ∷ h.1) h.2 (small_letter h.0 h.3, small_run is_word small_word h.1 h.4)
small_lexeme tokens.Number text (inl h) = small_by text (h.0 ∷ h.1) h.2 (small_digit h.0 h.3, small_run is_digit small_digit h.1 h.4)
small_lexeme tokens.Number text (inr h) = small_by text (48 ∷ h.0 ∷ h.1 ∷ h.2) h.3 (lit< tt, (small_x h.0 h.4, (small_hex h.1 h.5, small_run is_hex small_hex h.2 h.6)))
small_lexeme tokens.Guid text h = small_guids 36 0 text h.0 h.1
small_lexeme tokens.Text text h = small_by text (34 ∷ (h.0 ++ 34 ∷ [])) h.1 (lit< tt, small_append h.0 (34 ∷ []) (small_run is_plain small_plain h.0 h.2) (lit< tt, tt))
small_lexeme tokens.Mark text h = small_by text (h.0 ∷ []) h.1 (small_mark h.0 h.2, tt)

pub piece_ascii : (p : Piece) → Fits p → IsAscii p.text
piece_ascii p h = ascii_of p.text (small_lexeme p.kind p.text h.is)

-- ---- names are identifiers, and numbers numbers

orders : (x y z : Bool) → (y || (x || z)) ≡ true → ((x || y) || z) ≡ true
orders true true true h = refl
orders true true false h = refl
orders true false true h = refl
orders true false false h = refl
orders false true true h = refl
orders false true false h = refl
orders false false true h = refl
orders false false false h = h

starts_so : (b : ℕ) → is_letter b ≡ true → is_start b ≡ true
starts_so b h = orders (nat_le 65 b && nat_le b 90) (nat_le 97 b && nat_le b 122) (b == 95) h

either_so : (x y z : Bool) → (x ≡ true → y ≡ true) → (x || z) ≡ true → (y || z) ≡ true
either_so true y z f h = rw (f refl) refl
either_so false true z f h = refl
either_so false false z f h = h

rests_so : (b : ℕ) → is_word b ≡ true → is_rest b ≡ true
rests_so b h = either_so (is_letter b) (is_start b) (is_digit b) (starts_so b) h

all_rest : (bs : List ℕ) → all_pass is_word bs ≡ true → list_all is_rest bs ≡ true
all_rest [] h = refl
all_rest (b ∷ bs) h = let s = both_true (is_word b) (all_pass is_word bs) h in rw (rests_so b s.0, all_rest bs s.1) refl

word_identifier : (text : List ℕ) → IsLexeme (lexemes.Token tokens.Word) text → IsTrue (is_identifier text)
word_identifier text h = rw h.2 (rw (starts_so h.0 h.3, all_rest h.1 h.4) refl)

not_long : (text : List ℕ) → excess_of tokens.Word text ≡ None → length text ≤ 255
not_long text h = grind arith

not_wide : (text : List ℕ) → excess_of tokens.Number text ≡ None → value_of text < 2 ^ 64
not_wide text h = grind arith

choose : (Q : Kind → Type 0) (b : Bool) (x y : Kind) → Q x → Q y → Q (cond b x y)
choose Q true x y p q = p
choose Q false x y p q = q

-- a mark is no name and no number
abbrev no_name : Kind → Type 0
no_name k = has names (number_of k) ≡ false

abbrev no_number : Kind → Type 0
no_number k = has (number_of kinds.Number ∷ []) (number_of k) ≡ false

mark_byte : (Q : Kind → Type 0) → Q kinds.Other → Q kinds.OpenBrace → Q kinds.CloseBrace → Q kinds.OpenParen → Q kinds.CloseParen → Q kinds.OpenBracket → Q kinds.CloseBracket → Q kinds.Less → Q kinds.Greater → Q kinds.Comma → Q kinds.Semicolon → Q kinds.Colon → Q kinds.Dot → Q kinds.Equals → Q kinds.Minus → (b : ℕ) → Q (kind_of_byte b)
mark_byte Q other h0 h1 h2 h3 h4 h5 h6 h7 h8 h9 h10 h11 h12 h13 b = choose Q _ _ _ h0 (choose Q _ _ _ h1 (choose Q _ _ _ h2 (choose Q _ _ _ h3 (choose Q _ _ _ h4 (choose Q _ _ _ h5 (choose Q _ _ _ h6 (choose Q _ _ _ h7 (choose Q _ _ _ h8 (choose Q _ _ _ h9 (choose Q _ _ _ h10 (choose Q _ _ _ h11 (choose Q _ _ _ h12 (choose Q _ _ _ h13 (other))))))))))))))

mark_no_name : (text : List ℕ) → no_name (kind_of_mark text)
mark_no_name [] = refl
mark_no_name (b ∷ []) = mark_byte no_name refl refl refl refl refl refl refl refl refl refl refl refl refl refl refl b
mark_no_name (b ∷ c ∷ bs) = refl

mark_no_number : (text : List ℕ) → no_number (kind_of_mark text)
mark_no_number [] = refl
mark_no_number (b ∷ []) = mark_byte no_number refl refl refl refl refl refl refl refl refl refl refl refl refl refl refl b
mark_no_number (b ∷ c ∷ bs) = refl

-- a word is no number
name_kind : (Q : Kind → Type 0) (text : List ℕ) → Q kinds.Name → Q kinds.Uuid → Q kinds.Version → Q kinds.Flags → Q kinds.DefaultInterface → Q kinds.Get → Q kinds.Set → Q kinds.Base → Q kinds.Float → Q (kind_of_name text)
name_kind Q text last h0 h1 h2 h3 h4 h5 h6 h7 = choose Q _ _ _ h0 (choose Q _ _ _ h1 (choose Q _ _ _ h2 (choose Q _ _ _ h3 (choose Q _ _ _ h4 (choose Q _ _ _ h5 (choose Q _ _ _ h6 (choose Q _ _ _ h7 (last))))))))

within_kind : (Q : Kind → Type 0) (text : List ℕ) → Q (kind_of_name text) → Q kinds.Requires → Q kinds.Event → Q kinds.Static → Q kinds.Out → Q kinds.Void → Q (kind_within text)
within_kind Q text last h0 h1 h2 h3 h4 = choose Q _ _ _ h0 (choose Q _ _ _ h1 (choose Q _ _ _ h2 (choose Q _ _ _ h3 (choose Q _ _ _ h4 last))))

word_kind : (Q : Kind → Type 0) (text : List ℕ) → Q (kind_within text) → Q kinds.Import → Q kinds.Namespace → Q kinds.Enum → Q kinds.Struct → Q kinds.Delegate → Q kinds.Interface → Q kinds.Runtimeclass → Q (kind_of_word text)
word_kind Q text last h0 h1 h2 h3 h4 h5 h6 = choose Q _ _ _ h0 (choose Q _ _ _ h1 (choose Q _ _ _ h2 (choose Q _ _ _ h3 (choose Q _ _ _ h4 (choose Q _ _ _ h5 (choose Q _ _ _ h6 last))))))

word_no_number : (text : List ℕ) → no_number (kind_of_word text)
word_no_number text = word_kind no_number text (within_kind no_number text (name_kind no_number text refl refl refl refl refl refl refl refl refl) refl refl refl refl refl) refl refl refl refl refl refl refl

not_so : (x : Bool) {A : Type 0} → x ≡ false → x ≡ true → A
not_so x f t = absurd (let no : false ≡ true = sym f ∙ t in cc)

lexed_by : (offset : ℕ) (kind : TokenKind) (text : List ℕ) → IsAscii (text_by kind text) → IsLexeme (lexemes.Token kind) text → excess_of kind text ≡ None → IsLexed (record { offset = offset; kind = kind_by kind text; text = text_by kind text })
lexed_by offset tokens.Word text ascii is fits = record {
  ascii = ascii;
  name = λ h. record { identifier = word_identifier text is; short = not_long text fits };
  number = λ h. not_so _ (word_no_number text) h;
}
lexed_by offset tokens.Number text ascii is fits = record {
  ascii = ascii;
  name = λ h. absurd cc;
  number = λ h. record { number = is; fits = not_wide text fits };
}
lexed_by offset tokens.Guid text ascii is fits = record { ascii = ascii; name = λ h. absurd cc; number = λ h. absurd cc }
lexed_by offset tokens.Text text ascii is fits = record { ascii = ascii; name = λ h. absurd cc; number = λ h. absurd cc }
lexed_by offset tokens.Mark text ascii is fits = record { ascii = ascii; name = λ h. not_so _ (mark_no_name text) h; number = λ h. not_so _ (mark_no_number text) h }

ascii_by : (kind : TokenKind) (text : List ℕ) → IsAscii text → IsAscii (text_by kind text)
ascii_by tokens.Word text h = h
ascii_by tokens.Number text h = h
ascii_by tokens.Guid text h = h
ascii_by tokens.Text text h = h
ascii_by tokens.Mark text h = ascii_of [] tt

pub piece_lexed : (p : Piece) → Fits p → IsLexed (terminal_of p)
piece_lexed p h = lexed_by p.offset p.kind p.text (ascii_by p.kind p.text (piece_ascii p h)) h.is h.fits

pub lexed_as : (p : Piece) (offset : ℕ) (kind : Kind) (text : List ℕ) → Fits p → offset ≡ p.offset → kind ≡ kind_by p.kind p.text → text ≡ text_by p.kind p.text → IsLexed (record { offset = offset; kind = kind; text = text })
lexed_as p offset kind text h at is spelled =
    let this : Terminal = record { offset = offset; kind = kind; text = text } in
    let same : this ≡ terminal_of p = cc in
    subst IsLexed (sym same) (piece_lexed p h)
