-- Whole files, with each of the three codes that stand for more than a wrong token.
use Rattle.std.proofs.Common.{◌≡◌, ℕ, zero, suc, Bool, true, false, List, [], ◌∷◌, Err, refl, length, ap, cond}
use Rattle.grammar.specs.Productions.{One, Done, Then, Many}
use Rattle.grammar.specs.Readers.{Read, follow, done_at, many_at, bar_at, refusing_at, starts}
use Rattle.grammar.proofs.ReaderLaws.{Reads, productive, one_reads, done_reads}
use Rattle.grammar.proofs.Choices.{andthen, orelse, wider_reads, bar_reads, same_reads}
use Rattle.grammar.proofs.Repeats.{repeated}
use Rattle.grammar.proofs.Algebra.{then_done}
use Rattle.grammar.proofs.Depths.{Never, never_one, never_done, never_then, never_either, deeper_bar, one_opens}
use Rattle.grammar.proofs.Refusals.{refusing_reads, deeper_refusing}
use Rattle.grammar.proofs.Bars.{deeper_barred}
use Rattle.grammar.proofs.Limits.{fixed, both_then, both_either, both_same, both_many, both_wider}
use Rattle.midl_tree.specs.declared.kind.Kind.TheVariants.{Namespace, Base, Float, Uuid, Version, Flags, DefaultInterface, Name, Number, OpenBrace, CloseBrace, OpenParen, CloseParen, Greater, Semicolon, Import, Get, Set, Guid, Text, Less}
use Rattle.midl_tree.specs.declared.terminal.Terminal.{Terminal}
use Rattle.midl_words.specs.declared.stop.Code.{Code}
use Rattle.midl_words.specs.declared.stop.Code.TheVariants.{Syntax, FloatType, UnknownAttribute, TooDeep}
use Rattle.midl_tree.specs.Kinds.{number_of, no_attributes, declared_first}
use Rattle.midl_tree.specs.Symbols.{kind_of}
use Rattle.midl_tree.specs.Trees.{TypeTree, base, uuid, version, flags, default_interface, ItemTree, space, items_of, SourceTree}
use Rattle.midl_words.specs.Words.{base_by}
use Rattle.midl_words.specs.Tokens.{Is, IsThere, IsDotted}
use Rattle.midl_parse.specs.Lists.{Listed}
use Rattle.midl_parse.specs.Imports.{IsImport}
use Rattle.midl_parse.specs.Types.{IsBase, IsBaseOrFloat, IsType, IsArguments}
use Rattle.midl_parse.specs.Attributes.{IsAttribute, IsAttributeOrName}
use Rattle.midl_parse.specs.Items.{SpaceWith, IsItems}
use Rattle.midl_parse.specs.Files.{IsSourceWith}
use Rattle.midl_parse.specs.ReadImports.{import_at}
use Rattle.midl_parse.specs.ReadTypes.{base_word_at, float_at, base_at, base_or_float_at, arguments_at}
use Rattle.midl_parse.specs.ReadAttributes.{uuid_at, version_at, flags_at, default_at, known_at, other_at, attribute_at, attribute_or_name_at}
use Rattle.midl_parse.specs.ReadItems.{space_with, items_at}
use Rattle.midl_parse.specs.ReadFiles.{source_with}
use Rattle.midl_words.proofs.Laws.{is_reads, is_there_reads, dotted_reads, sample}
use Rattle.midl_parse.proofs.ProductionLaws.{Both, never_is, is, done, listed, imports, base_word, known, types, bracketed, declares, spaces}

pub no_float : Syntax ≡ FloatType → ⊥
no_float e = cc

pub no_unknown : Syntax ≡ UnknownAttribute → ⊥
no_unknown e = cc

pub no_deep : Syntax ≡ TooDeep → ⊥
no_deep e = cc

-- ---- readers that never answer a code

never_refusing : {A : Type 0} {c : Code} (kinds : List ℕ) (code : Code) (r : List Terminal → Read Code Terminal A) → (code ≡ c → ⊥) → Never c r → Never c (refusing_at kind_of kinds code r)
never_refusing {A = A} {c = c} kinds code r other n = record { never = λ ts m e. go (starts kind_of kinds ts) ts m e }
  where
    go : (b : Bool) (ts : List Terminal) (m : ℕ) → cond b (Err (code, length ts)) (r ts) ≡ Err (c, m) → ⊥
    go true ts m e = other (let same : ◌≡◌ {A = Code × ℕ} (code, length ts) (c, m) = cc in ap (λ (q : Code × ℕ). q.0) same)
    go false ts m e = n.never ts m e

never_bar : {A : Type 0} {c : Code} (kinds : List ℕ) (code : Code) (x : A) → (code ≡ c → ⊥) → Never c (bar_at kind_of kinds code x)
never_bar kinds code x other = never_refusing kinds code (done_at x) other (never_done x)

never_base : {c : Code} → (Syntax ≡ c → ⊥) → (FloatType ≡ c → ⊥) → Never c base_at
unfolding base_at base_word_at
never_base other float = never_refusing (number_of Float ∷ []) FloatType base_word_at float (never_then (never_is other Base) (λ word. never_done (base (base_by word.text))))

never_attribute : {c : Code} → (Syntax ≡ c → ⊥) → (UnknownAttribute ≡ c → ⊥) → Never c attribute_at
unfolding attribute_at known_at uuid_at version_at flags_at default_at
never_attribute other unknown = never_refusing no_attributes UnknownAttribute known_at unknown
    (never_either kind_of (number_of Uuid ∷ []) (never_then (never_is other Uuid) (λ word. never_then (never_is other OpenParen) (λ begin. never_then (never_one kind_of (number_of Guid ∷ number_of Text ∷ []) Syntax other) (λ id. never_then (never_is other CloseParen) (λ close. never_done (uuid word id))))))
    (never_either kind_of (number_of Version ∷ []) (never_then (never_is other Version) (λ word. never_then (never_is other OpenParen) (λ begin. never_then (never_is other Number) (λ number. never_then (never_is other CloseParen) (λ close. never_done (version word number))))))
    (never_either kind_of (number_of Flags ∷ []) (never_then (never_is other Flags) (λ word. never_done (flags word))) (never_then (never_is other DefaultInterface) (λ word. never_done (default_interface word))))))

-- ---- base words and attributes

float_word : Both FloatType (Then (Is Float) (λ word. Done (base (base_by word.text)))) (Then (Is Float) (λ word. Done (base (base_by word.text)))) float_at float_at (number_of Float ∷ []) false []
unfolding float_at
float_word = both_then (is no_float Float) (λ word. done no_float (base (base_by word.text))) refl

pub float_base : Both FloatType IsBase IsBaseOrFloat base_at base_or_float_at (number_of Base ∷ number_of Float ∷ []) false []
unfolding base_at base_or_float_at
float_base = record {
  low = wider_reads (number_of Base ∷ number_of Float ∷ []) false [] refl refl refl (refusing_reads kind_of IsBase base_word_at (number_of Base ∷ []) [] (number_of Float ∷ []) FloatType (base_word no_float).low refl);
  high = wider_reads (number_of Base ∷ number_of Float ∷ []) false [] refl refl refl (orelse float_word.low (base_word no_float).low refl);
  deeper = deeper_refusing kind_of (number_of Float ∷ []) (one_opens kind_of (number_of Float ∷ []) (λ word. Done (base (base_by word.text))) (λ word. record { tokens = []; value = base (base_by word.text); whole = record { nothing = refl; value = refl } })) (base_word no_float).deeper;
}

other_names : Both UnknownAttribute (Then (One kind_of no_attributes) (λ word. Done (flags word))) (Then (One kind_of no_attributes) (λ word. Done (flags word))) other_at other_at no_attributes false []
unfolding other_at sample
other_names = both_then (fixed (one_reads kind_of no_attributes Syntax (sample Name) refl) (never_one kind_of no_attributes Syntax no_unknown)) (λ word. done no_unknown (flags word)) refl

pub unknown_attribute : Both UnknownAttribute IsAttribute IsAttributeOrName attribute_at attribute_or_name_at (number_of Base ∷ number_of Float ∷ number_of Get ∷ number_of Set ∷ number_of Name ∷ number_of Uuid ∷ number_of Version ∷ number_of Flags ∷ number_of DefaultInterface ∷ []) false []
unfolding attribute_at attribute_or_name_at
unknown_attribute = record {
  low = wider_reads (number_of Base ∷ number_of Float ∷ number_of Get ∷ number_of Set ∷ number_of Name ∷ number_of Uuid ∷ number_of Version ∷ number_of Flags ∷ number_of DefaultInterface ∷ []) false [] refl refl refl (refusing_reads kind_of IsAttribute known_at (number_of Uuid ∷ number_of Version ∷ number_of Flags ∷ number_of DefaultInterface ∷ []) [] no_attributes UnknownAttribute (known no_unknown).low refl);
  high = orelse other_names.low (known no_unknown).low refl;
  deeper = deeper_refusing kind_of no_attributes (one_opens kind_of no_attributes (λ word. Done (flags word)) (λ word. record { tokens = []; value = flags word; whole = record { nothing = refl; value = refl } })) (known no_unknown).deeper;
}

-- a base word and an attribute where the code is another
pub same_base : {c : Code} → (Syntax ≡ c → ⊥) → (FloatType ≡ c → ⊥) → Both c IsBase IsBase base_at base_at (number_of Base ∷ number_of Float ∷ []) false []
same_base other float = fixed float_base.low (never_base other float)

pub same_attribute : {c : Code} → (Syntax ≡ c → ⊥) → (UnknownAttribute ≡ c → ⊥) → Both c IsAttribute IsAttribute attribute_at attribute_at (number_of Base ∷ number_of Float ∷ number_of Get ∷ number_of Set ∷ number_of Name ∷ number_of Uuid ∷ number_of Version ∷ number_of Flags ∷ number_of DefaultInterface ∷ []) false []
same_attribute other unknown = fixed unknown_attribute.low (never_attribute other unknown)

-- ---- arguments

pub arguments : {c : Code} {B B' : List Terminal → TypeTree → Type 0} {b b' : List Terminal → Read Code Terminal TypeTree} → (Syntax ≡ c → ⊥) → (TooDeep ≡ c → ⊥) → Both c B B' b b' (number_of Base ∷ number_of Float ∷ []) false []
    → (n : ℕ) → Both c (IsArguments B n) (IsArguments B' n) (arguments_at b n) (arguments_at b' n) (number_of Less ∷ []) true (number_of Less ∷ [])
unfolding arguments_at
arguments other deep leaf zero = both_wider (number_of Less ∷ []) true (number_of Less ∷ []) refl refl refl (fixed (bar_reads kind_of (number_of Less ∷ []) TooDeep []) (never_bar (number_of Less ∷ []) TooDeep [] deep))
arguments other deep leaf (suc n) = both_either (bracketed other (types other leaf (arguments other deep leaf n))) (done other []) refl

-- all that holds of the grammar alone
arguments_reads : (n : ℕ) → Reads kind_of (IsArguments IsBase n) (arguments_at base_at n) (number_of Less ∷ []) true (number_of Less ∷ [])
arguments_reads n = (arguments no_float (λ e. cc) float_base n).low

deeper_arguments : (n : ℕ) → Both TooDeep (IsArguments IsBase n) (IsArguments IsBase (suc n)) (arguments_at base_at n) (arguments_at base_at (suc n)) (number_of Less ∷ []) true (number_of Less ∷ [])
unfolding arguments_at
deeper_arguments zero = record {
  low = arguments_reads zero;
  high = arguments_reads (suc zero);
  deeper = deeper_bar kind_of (number_of Less ∷ []) [] (one_opens kind_of (number_of Less ∷ []) (λ less. Then (Listed (IsType IsBase (IsArguments IsBase zero))) (λ types. Then (Is Greater) (λ greater. Done types)))
      (λ less. productive (andthen (listed no_float (types no_float float_base (arguments no_float (λ e. cc) float_base zero)) refl).low (λ types. andthen (is_reads Greater) (λ greater. done_reads kind_of types) refl) refl)));
}
deeper_arguments (suc n) = both_either (bracketed no_deep (types no_deep (same_base no_deep (λ e. cc)) (deeper_arguments n))) (done no_deep []) refl

-- ---- namespaces

pub space_reads : {P : List Terminal → List ItemTree → Type 0} {r : List Terminal → Read Code Terminal (List ItemTree)} → Reads kind_of P r (number_of Namespace ∷ declared_first) true (number_of Semicolon ∷ number_of Namespace ∷ declared_first) → Reads kind_of (SpaceWith P) (space_with r) (number_of Namespace ∷ []) false (number_of Semicolon ∷ [])
unfolding space_with
space_reads reads = andthen (is_reads Namespace) (λ word. andthen dotted_reads (λ name. andthen (is_reads OpenBrace) (λ begin. andthen reads (λ inside.
    andthen (is_reads CloseBrace) (λ close. andthen (is_there_reads Semicolon) (λ end. done_reads kind_of (space name (items_of inside))) refl) refl) refl) refl) refl) refl

pub items_reads : {D : List Terminal → ItemTree → Type 0} {r : List Terminal → Read Code Terminal ItemTree} → Reads kind_of D r declared_first false (number_of Semicolon ∷ []) → (d : ℕ) → Reads kind_of (IsItems D d) (items_at r d) (number_of Namespace ∷ declared_first) true (number_of Semicolon ∷ number_of Namespace ∷ declared_first)
unfolding items_at
items_reads {D = D} item zero = wider_reads (number_of Namespace ∷ declared_first) true (number_of Semicolon ∷ number_of Namespace ∷ declared_first) refl refl refl
    (same_reads (then_done (Many D)).there (then_done (Many D)).back (andthen (repeated item refl) (λ items. bar_reads kind_of (number_of Namespace ∷ []) TooDeep items) refl))
items_reads item (suc d) = wider_reads (number_of Namespace ∷ declared_first) true (number_of Semicolon ∷ number_of Namespace ∷ declared_first) refl refl refl (repeated (orelse (space_reads (items_reads item d)) item refl) refl)

items : {c : Code} {D D' : List Terminal → ItemTree → Type 0} {r r' : List Terminal → Read Code Terminal ItemTree} → (Syntax ≡ c → ⊥) → (TooDeep ≡ c → ⊥) → Both c D D' r r' declared_first false (number_of Semicolon ∷ [])
    → (d : ℕ) → Both c (IsItems D d) (IsItems D' d) (items_at r d) (items_at r' d) (number_of Namespace ∷ declared_first) true (number_of Semicolon ∷ number_of Namespace ∷ declared_first)
unfolding items_at
items {D = D} {D' = D'} other deep item zero = both_wider (number_of Namespace ∷ declared_first) true (number_of Semicolon ∷ number_of Namespace ∷ declared_first) refl refl refl
    (both_same (then_done (Many D)) (then_done (Many D')) (both_then (both_many item refl) (λ items. fixed (bar_reads kind_of (number_of Namespace ∷ []) TooDeep items) (never_bar (number_of Namespace ∷ []) TooDeep items deep)) refl))
items other deep item (suc d) = both_wider (number_of Namespace ∷ declared_first) true (number_of Semicolon ∷ number_of Namespace ∷ declared_first) refl refl refl (both_many (both_either (spaces other (items other deep item d)) item refl) refl)

deeper_items : {D D' : List Terminal → ItemTree → Type 0} {r r' : List Terminal → Read Code Terminal ItemTree} → Both TooDeep D D' r r' declared_first false (number_of Semicolon ∷ [])
    → (d : ℕ) → Both TooDeep (IsItems D d) (IsItems D' (suc d)) (items_at r d) (items_at r' (suc d)) (number_of Namespace ∷ declared_first) true (number_of Semicolon ∷ number_of Namespace ∷ declared_first)
unfolding items_at
deeper_items {D = D} {D' = D'} {r = r} {r' = r'} item zero = record {
  low = items_reads item.low zero;
  high = items_reads item.high (suc zero);
  deeper = deeper_barred TooDeep kind_of declared_first (number_of Namespace ∷ []) (number_of Semicolon ∷ []) (number_of Semicolon ∷ number_of Semicolon ∷ []) D D' (SpaceWith (IsItems D' zero)) r r' (space_with (items_at r' zero))
      item.low refl (orelse (space_reads (items_reads item.high zero)) item.high refl) refl item.deeper refl
      (one_opens kind_of (number_of Namespace ∷ []) (λ word. Then IsDotted (λ name. Then (Is OpenBrace) (λ begin. Then (IsItems D' zero) (λ inside. Then (Is CloseBrace) (λ close. Then (IsThere Semicolon) (λ end. Done (space name (items_of inside))))))))
      (λ word. productive (andthen dotted_reads (λ name. andthen (is_reads OpenBrace) (λ begin. andthen (items_reads item.high zero) (λ inside. andthen (is_reads CloseBrace) (λ close. andthen (is_there_reads Semicolon) (λ end. done_reads kind_of (space name (items_of inside))) refl) refl) refl) refl) refl)));
}
deeper_items item (suc d) = both_wider (number_of Namespace ∷ declared_first) true (number_of Semicolon ∷ number_of Namespace ∷ declared_first) refl refl refl (both_many (both_either (spaces no_deep (deeper_items item d)) item refl) refl)

-- ---- whole files

abbrev SourceOf : (List Terminal → List ItemTree → Type 0) → List Terminal → SourceTree → Type 0
SourceOf P = Then (Many IsImport) (λ imports. Then (Many (SpaceWith P)) (λ spaces. Done (record { imports = imports; spaces = spaces })))

abbrev source_of : (List Terminal → Read Code Terminal (List ItemTree)) → List Terminal → Read Code Terminal SourceTree
source_of r ts = follow (many_at kind_of (number_of Import ∷ []) import_at ts) (λ imports us. follow (many_at kind_of (number_of Namespace ∷ []) (space_with r) us) (λ spaces. done_at (record { imports = imports; spaces = spaces })))

source : {c : Code} {P P' : List Terminal → List ItemTree → Type 0} {r r' : List Terminal → Read Code Terminal (List ItemTree)} → (Syntax ≡ c → ⊥) → Both c P P' r r' (number_of Namespace ∷ declared_first) true (number_of Semicolon ∷ number_of Namespace ∷ declared_first)
    → Both c (SourceOf P) (SourceOf P') (source_of r) (source_of r') (number_of Import ∷ number_of Namespace ∷ []) true (number_of Semicolon ∷ number_of Namespace ∷ number_of Import ∷ [])
source other item = both_then (both_many (imports other) refl) (λ imports. both_then (both_many (spaces other item) refl) (λ spaces. done other _) refl) refl

pub too_deep : (d n : ℕ) → Both TooDeep (IsSourceWith d n IsAttribute IsBase) (IsSourceWith (suc d) (suc n) IsAttribute IsBase) (source_with d n attribute_at base_at) (source_with (suc d) (suc n) attribute_at base_at) (number_of Import ∷ number_of Namespace ∷ []) true (number_of Semicolon ∷ number_of Namespace ∷ number_of Import ∷ [])
unfolding source_with
too_deep d n = source no_deep (deeper_items (declares no_deep (same_base no_deep (λ e. cc)) (deeper_arguments n) (same_attribute no_deep (λ e. cc))) d)

pub float_type : (d n : ℕ) → Both FloatType (IsSourceWith d n IsAttribute IsBase) (IsSourceWith d n IsAttribute IsBaseOrFloat) (source_with d n attribute_at base_at) (source_with d n attribute_at base_or_float_at) (number_of Import ∷ number_of Namespace ∷ []) true (number_of Semicolon ∷ number_of Namespace ∷ number_of Import ∷ [])
unfolding source_with
float_type d n = source no_float (items no_float (λ e. cc) (declares no_float float_base (arguments no_float (λ e. cc) float_base n) (same_attribute no_float (λ e. cc))) d)

pub unknown : (d n : ℕ) → Both UnknownAttribute (IsSourceWith d n IsAttribute IsBase) (IsSourceWith d n IsAttributeOrName IsBase) (source_with d n attribute_at base_at) (source_with d n attribute_or_name_at base_at) (number_of Import ∷ number_of Namespace ∷ []) true (number_of Semicolon ∷ number_of Namespace ∷ number_of Import ∷ [])
unfolding source_with
unknown d n = source no_unknown (items no_unknown (λ e. cc) (declares no_unknown (same_base no_unknown (λ e. cc)) (arguments no_unknown (λ e. cc) (same_base no_unknown (λ e. cc)) n) unknown_attribute) d)
