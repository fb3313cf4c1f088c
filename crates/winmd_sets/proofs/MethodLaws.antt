-- Reading the rows of a method gives it.
use Rattle.std.proofs.Common.{◌≡◌, ℕ, suc, ◌^◌, ◌<◌, ◌≤◌, Bool, true, false, cond, eqb, leb, List, [], ◌∷◌, ◌++◌, length, get_or, map, Ok, refl, sym, ap, ◌∙◌, arith, inl, inr}
use Rattle.std.specs.Prelude.{◌||◌, not, bytes_eq}
use Rattle.std.specs.List.{list_any, AllByRecursion}
use Rattle.std.proofs.lemmas.Bool.{eq-eqb, ne_eqb, le-leb}
use Rattle.std.proofs.lemmas.List.{append-nil, length-map}
use Rattle.std.proofs.lemmas.Slice.Eq.{bytes_eq-Decides}
use Rattle.md_schema.specs.declared.table.Table.{Table}
use Rattle.md_schema.specs.declared.table.Table.TheVariants as tables
use Rattle.wr_base.specs.Paths.{is_identifier}
use Rattle.winmd_rows.specs.Faults.{each}
use Rattle.winmd_rows.specs.Values.{Value, Offsets, stated_row}
use Rattle.winmd_lines.specs.Lines.{Number, Words, Next, OfMethod, Line, line}
use Rattle.winmd_lines.specs.Makers.{Maker}
use Rattle.winmd_sets.specs.Members.{when, attribute, param_lines}
use Rattle.winmd_lines.specs.Names.{Names, Counts, none, behind, value_of, written}
use Rattle.winmd_lines.specs.Positions.{behind_all, NoneIn, Carries, Apart, AllOwned, owned}
use Rattle.winmd_lines.specs.Cells.{Numbered, Tables, at, numbered}
use Rattle.winmd_sets.specs.Attributes.{attributes_of, words_of}
use Rattle.winmd_sets.specs.Methods.{sequenced, of_sequence, params_from, signature_of}
use Rattle.winmd_sets.specs.Interfaces.{OfMethod as OfMethodRow, member_of, times}
use Rattle.winmd_sets.specs.Rows.{all_lines}
use Rattle.wr_base.specs.Trees.{DeclTree, ParamTree, SignatureTree, method}
use Rattle.winmd_sets.proofs.AttributeLaws.{tables_of, MakerOk, Made, made, attribute_is, attributes_are}
use Rattle.winmd_lines.proofs.LineLaws.{either, row_of, written-append, list_is}
use Rattle.winmd_sets.proofs.ShapeLaws.{none_params, none_join, none_when}
use Rattle.winmd_sets.proofs.BlobLaws.{SignatureOk, method_again}
use Rattle.sig_blobs.specs.Canonical.{without_name}
use Rattle.winmd_sets.proofs.TypeLaws.{none_written}
use Rattle.winmd_sets.specs.Values.{words_argument}
use Rattle.winmd_sets.proofs.ArgumentLaws.{words_read, identifier_utf8}
use Rattle.std.specs.Str.{is_utf8}

-- ---- parameters

abbrev pub param_values : ℕ → ParamTree → List Value
param_values k p = Value.Number (cond p.out 2 1) ∷ Value.Number k ∷ Value.Text p.name ∷ []

abbrev pub all_params : ℕ → List ParamTree → List (List Value)
all_params k [] = []
all_params k (p ∷ ps) = param_values k p ∷ all_params (suc k) ps

pub params_written : (names : Names) (before : Counts) (k : ℕ) (ps : List ParamTree) → written names before (param_lines k ps) tables.Param ≡ all_params k ps
params_written names before k [] = refl
params_written names before k (p ∷ ps) = ap (λ (x : List (List Value)). param_values k p ∷ x) (params_written names (behind before (line tables.Param [])) (suc k) ps)

-- parameters with their sequence numbers, from a row on
abbrev in_sequence : ℕ → ℕ → List ParamTree → List (ℕ × Numbered)
in_sequence k j [] = []
in_sequence k j (p ∷ ps) = (k, (j, stated_row (param_values k p))) ∷ in_sequence (suc k) (suc j) ps

sequence_read : (t : Tables) (k j : ℕ) (ps : List ParamTree) → each (sequenced t) (numbered j (map stated_row (all_params k ps))) ≡ Ok (in_sequence k j ps)
sequence_read t k j [] = refl
sequence_read t k j (p ∷ ps) = rw (sequence_read t (suc k) (suc j) ps) refl

-- no parameter before
lower : (m k j : ℕ) (ps : List ParamTree) → m < k → of_sequence m (in_sequence k j ps) ≡ []
lower m k j [] lt = refl
lower m k j (p ∷ ps) lt =
    let e : eqb m k ≡ false = ne_eqb m k (λ same. omega arith) in
    rw e (lower m (suc k) (suc j) ps (omega arith))

abbrev AreFrom : ℕ → ℕ → List ParamTree → List (ℕ × Numbered) → Type 0
AreFrom k j ps rows = (m : ℕ) → k ≤ m → of_sequence m rows ≡ of_sequence m (in_sequence k j ps)

further : (k j : ℕ) (p : ParamTree) (ps : List ParamTree) (rows : List (ℕ × Numbered)) → AreFrom k j (p ∷ ps) rows → AreFrom (suc k) (suc j) ps rows
further k j p ps rows h m le =
    let e : eqb m k ≡ false = ne_eqb m k (λ same. omega arith) in
    h m (omega arith) ∙ rw e refl

found_one : (k j : ℕ) (p : ParamTree) (ps : List ParamTree) (rows : List (ℕ × Numbered)) → AreFrom k j (p ∷ ps) rows → of_sequence k rows ≡ (j, stated_row (param_values k p)) ∷ []
found_one k j p ps rows h =
    let e : eqb k k ≡ true = eq-eqb k k refl in
    let none_ = lower k (suc k) (suc j) ps (omega arith) in
    h k (omega arith) ∙ rw (e, none_) refl

pub record ParamOk (p : ParamTree) : Type 0 where
  pub named : is_identifier p.name ≡ true
  pub short : length p.name ≤ 255

params_read : (t : Tables) (offset k j : ℕ) (ps : List ParamTree) (rows : List (ℕ × Numbered)) → AllByRecursion ParamOk ps → AreFrom k j ps rows → params_from t offset rows k (map without_name ps) ≡ Ok ps
params_read t offset k j [] rows ok h = refl
params_read t offset k j (p ∷ ps) rows ok h =
    let one = found_one k j p ps rows h in
    let short : leb (length p.name) 255 ≡ true = le-leb _ _ ok.0.short in
    let rest = params_read t offset (suc k) (suc j) ps rows ok.1 (further k j p ps rows h) in
    rw (one, ok.0.named, short, rest) refl

-- ---- a text in an attribute

pub words_again : (t : Tables) (names : Names) (before : Counts) (table : Table) (words : List ℕ) (k : ℕ) (m : Maker) (c : Made t names m) → is_utf8 words ≡ true → length words < 2 ^ 29
    → words_of t (record { made = c.it; row = (k, row_of names before (attribute table m (words_argument words))) }) ≡ Ok words
words_again t names before table words k m c utf8 lt = words_read (at t tables.CustomAttribute k 2) words [] utf8 lt

-- ---- a method

abbrev pub method_line : List ℕ → SignatureTree → Line
method_line name sig = line tables.MethodDef (Number 0 ∷ Number 0 ∷ Number 0x05C6 ∷ Words name ∷ OfMethod sig ∷ Next tables.Param ∷ [])

abbrev pub is_overload : List (List ℕ) → List ℕ → List ℕ → Bool
is_overload earlier name abi = not (bytes_eq abi name) || list_any (bytes_eq name) earlier

abbrev pub overload_line : List ℕ → Line
overload_line abi = attribute tables.MethodDef Maker.Overload (words_argument abi)

abbrev pub method_own : List (List ℕ) → List ℕ → List ℕ → SignatureTree → List Line
method_own earlier name abi sig = param_lines 1 sig.params ++ when (is_overload earlier name abi) (overload_line abi ∷ [])

pub record MethodOk (t : Tables) (names : Names) (earlier : List (List ℕ)) (name abi : List ℕ) (sig : SignatureTree) : Type 0 where
  pub named : is_identifier name ≡ true
  pub short : length name ≤ 255
  pub abi_named : is_identifier abi ≡ true
  pub abi_short : length abi ≤ 511
  pub sig_ok : SignatureOk t names sig
  pub params_ok : AllByRecursion ParamOk sig.params
  pub few : length sig.params ≤ 64
  pub overload_made : is_overload earlier name abi ≡ true → MakerOk names Maker.Overload

pub own_none : (earlier : List (List ℕ)) (name abi : List ℕ) (sig : SignatureTree) → NoneIn tables.MethodDef (method_own earlier name abi sig)
own_none earlier name abi sig = none_join tables.MethodDef (param_lines 1 sig.params) _ (none_params tables.MethodDef refl 1 sig.params) (none_when tables.MethodDef (is_overload earlier name abi) (overload_line abi ∷ []) (refl, tt))

own_params : (names : Names) (before : Counts) (earlier : List (List ℕ)) (name abi : List ℕ) (sig : SignatureTree) → written names before (method_own earlier name abi sig) tables.Param ≡ all_params 1 sig.params
own_params names before earlier name abi sig =
    let over : List Line = when (is_overload earlier name abi) (overload_line abi ∷ []) in
    let none_ : written names (behind_all before (param_lines 1 sig.params)) over tables.Param ≡ [] = none_written names (behind_all before (param_lines 1 sig.params)) over tables.Param (none_when tables.Param (is_overload earlier name abi) (overload_line abi ∷ []) (refl, tt)) in
    written-append names before (param_lines 1 sig.params) over tables.Param ∙ rw (params_written names before 1 sig.params, none_) (append-nil (all_params 1 sig.params))

-- the line of any method
abbrev pub any_method : ℕ → ℕ → List ℕ → SignatureTree → Line
any_method flags impl_flags name sig = line tables.MethodDef (Number 0 ∷ Number impl_flags ∷ Number flags ∷ Words name ∷ OfMethod sig ∷ Next tables.Param ∷ [])

pub record SignatureAtOk (t : Tables) (names : Names) (sig : SignatureTree) : Type 0 where
  pub sig_ok : SignatureOk t names sig
  pub params_ok : AllByRecursion ParamOk sig.params
  pub few : length sig.params ≤ 64

-- a method's signature is read wherever its parameters are what is written for it
pub signature_at : (names : Names) (ds : List DeclTree) (offset : Offsets) (pre : List Line) (flags impl_flags : ℕ) (name : List ℕ) (sig : SignatureTree) (own post : List Line) → SignatureAtOk (tables_of names ds offset) names sig
    → all_lines names ds ≡ pre ++ any_method flags impl_flags name sig ∷ (own ++ post) → NoneIn tables.MethodDef own → ((before : Counts) → written names before own tables.Param ≡ all_params 1 sig.params) → Carries tables.MethodDef 5 tables.Param post
    → signature_of (tables_of names ds offset) (suc (behind_all none pre tables.MethodDef), row_of names (behind_all none pre) (any_method flags impl_flags name sig)) ≡ Ok sig
signature_at names ds offset pre flags impl_flags name sig own post h e none_ params_ c =
    let t : Tables = tables_of names ds offset in
    let before : Counts = behind_all none pre in
    let n : ℕ = suc (before tables.MethodDef) in
    let l : Line = any_method flags impl_flags name sig in
    let after : Counts = behind before l in
    let blob = method_again t names (at t tables.MethodDef n 4) sig h.sig_ok in
    let list = list_is t names (all_lines names ds) pre l own post tables.MethodDef 5 tables.Param (record { is = refl }) (record { is = refl }) e refl refl refl none_ c in
    let count : length (map without_name sig.params) ≡ length sig.params = length-map sig.params without_name in
    let few : leb (length sig.params) 64 ≡ true = le-leb _ _ h.few in
    let j : ℕ = suc (before tables.Param) in
    let rows = sequence_read t 1 j sig.params in
    let params = params_read t (at t tables.MethodDef n 5) 1 j sig.params (in_sequence 1 j sig.params) h.params_ok (λ m le. refl) in
    rw (blob, count, few, list, params_ after, rows, params) refl

signature_read : (names : Names) (ds : List DeclTree) (offset : Offsets) (pre : List Line) (earlier : List (List ℕ)) (name abi : List ℕ) (sig : SignatureTree) (post : List Line) → MethodOk (tables_of names ds offset) names earlier name abi sig
    → all_lines names ds ≡ pre ++ method_line name sig ∷ (method_own earlier name abi sig ++ post) → Carries tables.MethodDef 5 tables.Param post
    → signature_of (tables_of names ds offset) (suc (behind_all none pre tables.MethodDef), row_of names (behind_all none pre) (method_line name sig)) ≡ Ok sig
signature_read names ds offset pre earlier name abi sig post h e c =
    signature_at names ds offset pre 0x05C6 0 name sig (method_own earlier name abi sig) post (record { sig_ok = h.sig_ok; params_ok = h.params_ok; few = h.few }) e (own_none earlier name abi sig) (λ before. own_params names before earlier name abi sig) c

owned_params : (names : Names) (before : Counts) (k : ℕ) (ps : List ParamTree) (rest : List Line)
    → owned names before tables.CustomAttribute 0 tables.MethodDef (param_lines k ps ++ rest) ≡ owned names (behind_all before (param_lines k ps)) tables.CustomAttribute 0 tables.MethodDef rest
owned_params names before k [] rest = refl
owned_params names before k (p ∷ ps) rest = owned_params names (behind before (line tables.Param [])) (suc k) ps rest

or_none : (a b : Bool) → (not a || b) ≡ false → (a ≡ true) × (b ≡ false)
or_none true b h = (refl, h)
or_none false b h = absurd cc

no_times : (name : List ℕ) (names : List (List ℕ)) → list_any (bytes_eq name) names ≡ false → times name names ≡ 0
no_times name [] h = refl
no_times name (x ∷ xs) h =
    elim (either (bytes_eq name x)) [
      | inl e ↦ absurd (let r = rw e at h in cc)
      | inr e ↦ rw e (no_times name xs (rw e at h))
    ]

pub member_read : (names : Names) (ds : List DeclTree) (offset : Offsets) (pre : List Line) (earlier : List (List ℕ)) (name abi : List ℕ) (sig : SignatureTree) (post : List Line) → MethodOk (tables_of names ds offset) names earlier name abi sig
    → all_lines names ds ≡ pre ++ method_line name sig ∷ (method_own earlier name abi sig ++ post) → Carries tables.MethodDef 5 tables.Param post
    → AllOwned tables.CustomAttribute 0 (all_lines names ds) → Apart tables.CustomAttribute 0 tables.MethodDef post
    → member_of (tables_of names ds offset) earlier (OfMethodRow (suc (behind_all none pre tables.MethodDef), row_of names (behind_all none pre) (method_line name sig))) ≡ Ok (method name abi sig)
member_read names ds offset pre earlier name abi sig post h e c o a =
    let t : Tables = tables_of names ds offset in
    let before : Counts = behind_all none pre in
    let n : ℕ = suc (before tables.MethodDef) in
    let after : Counts = behind before (method_line name sig) in
    let then_ : Counts = behind_all after (param_lines 1 sig.params) in
    let found = attributes_are names ds offset pre (method_line name sig) (method_own earlier name abi sig) post tables.MethodDef (record { is = refl }) e refl refl o (own_none earlier name abi sig) a in
    let sig_is = signature_read names ds offset pre earlier name abi sig post h e c in
    let short : leb (length name) 255 ≡ true = le-leb _ _ h.short in
    let abi_short : leb (length abi) 511 ≡ true = le-leb _ _ h.abi_short in
    let own_is = owned_params names after 1 sig.params (when (is_overload earlier name abi) (overload_line abi ∷ [])) in
    elim (either (is_overload earlier name abi)) [
      | inl over ↦
          let m = made names ds offset Maker.Overload (h.overload_made over) in
          let k : ℕ = get_or found.0 0 0 in
          let attribute_read = attribute_is t names then_ tables.MethodDef Maker.Overload (words_argument abi) k m in
          let words = words_again t names then_ tables.MethodDef abi k Maker.Overload m (identifier_utf8 abi h.abi_named) (let l = h.abi_short in omega (arith, l)) in
          let own_over : owned names after tables.CustomAttribute 0 tables.MethodDef (method_own earlier name abi sig) ≡ map (value_of names then_) (overload_line abi).cells ∷ [] = own_is ∙ rw over refl in
          let attributes : attributes_of t tables.MethodDef n ≡ Ok ((record { made = m.it; row = (k, row_of names then_ (overload_line abi)) }) ∷ []) = rw (found.1, own_over, attribute_read) refl in
          rw (h.named, short, attributes, m.typed, words, h.abi_named, abi_short, sig_is) refl
      | inr plain_ ↦
          let both = or_none (bytes_eq abi name) (list_any (bytes_eq name) earlier) plain_ in
          let same : abi ≡ name = (bytes_eq-Decides abi name).0 both.0 in
          let own_none_ : owned names after tables.CustomAttribute 0 tables.MethodDef (method_own earlier name abi sig) ≡ [] = own_is ∙ rw plain_ refl in
          let attributes : attributes_of t tables.MethodDef n ≡ Ok [] = rw (found.1, own_none_) refl in
          let as_name : leb (length name) 511 ≡ true = le-leb _ _ (let l = h.short in omega (arith, l)) in
          rw (h.named, short, attributes, no_times name earlier both.1, h.named, as_name, sig_is) (ap (λ (x : List ℕ). Ok (method name x sig)) (sym same))
    ]
