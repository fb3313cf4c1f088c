-- The longest lexeme at the front: its kind and its length.
use Rattle.std.specs.Prelude.{ℕ, ◌+◌, Bool, false, ◌||◌, ◌==◌, if◌then◌else◌, List, [], ◌∷◌, drop, Option, Some, None}
use Rattle.midl_lex.specs.declared.scan.ByteClass.{ByteClass}
use Rattle.midl_lex.specs.declared.scan.ByteClass.TheVariants as classes
use Rattle.midl_lex.specs.declared.token.TokenKind.TheVariants.{Word, Number, Guid, Text, Mark}
use Rattle.midl_lex.specs.declared.token.LexemeKind.{LexemeKind}
use Rattle.midl_lex.specs.declared.token.LexemeKind.TheVariants.{White, Token}
use Rattle.midl_lex.specs.Bytes.{is_white, is_letter, is_digit, is_word, is_plain, run}
use Rattle.midl_lex.specs.Comments.{scan_slash}
use Rattle.midl_lex.specs.Numbers.{number_len}
use Rattle.midl_lex.specs.Guids.{guid_from}

-- { } ( ) [ ] < > , ; : . = -
abbrev pub is_mark : ℕ → Bool
is_mark b = (b == 123) || ((b == 125) || ((b == 40) || ((b == 41) || ((b == 91) || ((b == 93) || ((b == 60) || ((b == 62) || ((b == 44) || ((b == 59) || ((b == 58) || ((b == 46) || ((b == 61) || (b == 45)))))))))))))

-- what a byte begins
abbrev pub class_of : ℕ → ByteClass
class_of b =
    if is_white b then classes.White
    else if b == 47 then classes.Slash
    else if is_letter b then classes.Letter
    else if is_digit b then classes.Digit
    else if b == 34 then classes.Quote
    else if is_mark b then classes.Mark
    else classes.Other

abbrev pub is_quote : List ℕ → Bool
is_quote [] = false
is_quote (b ∷ bs) = b == 34

-- the text that a quotation mark and these bytes begin, and its length
abbrev pub scan_text : List ℕ → Option (LexemeKind × ℕ)
scan_text bs = if is_quote (drop (run is_plain bs) bs) then Some (Token Text, run is_plain bs + 2) else None

abbrev pub scan_class : ByteClass → ℕ → List ℕ → Option (LexemeKind × ℕ)
scan_class classes.White b bs = Some (White, 1)
scan_class classes.Slash b bs = scan_slash bs
scan_class classes.Letter b bs = Some (Token Word, run is_word bs + 1)
scan_class classes.Digit b bs = Some (Token Number, number_len (b ∷ bs))
scan_class classes.Quote b bs = scan_text bs
scan_class classes.Mark b bs = Some (Token Mark, 1)
scan_class classes.Other b bs = None

-- any lexeme but a guid
abbrev pub scan_plain : List ℕ → Option (LexemeKind × ℕ)
scan_plain [] = None
scan_plain (b ∷ bs) = scan_class (class_of b) b bs

-- a guid begins as a word or a number, and is longer
unfoldable pub scan : List ℕ → Option (LexemeKind × ℕ)
scan bs = if guid_from 36 0 bs then Some (Token Guid, 36) else scan_plain bs
