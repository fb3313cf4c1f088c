-- A signature that is written in a blob is read as that signature, its parameters without names.
use Rattle.std.proofs.Common.{◌≡◌, ℕ, Bool, true, false, cond, List, [], ◌∷◌, ◌++◌, length, map, Option, Some, None, Ok, refl, sym, ap, subst, ◌∙◌, append_assoc}
use Rattle.std.specs.Prelude.{◌==◌}
use Rattle.std.specs.List.{flat_map, AllByRecursion}
use Rattle.std.proofs.lemmas.List.{append-nil}
use Rattle.std.proofs.lemmas.List.Concat.{flat_map-cons}
use Rattle.wr_base.specs.declared.type_use.Base.TheVariants.{Boolean, Char, U8, I16, U16, I32, U32, I64, U64, Text, Guid, Object}
use Rattle.md_heaps.specs.Integers.{shortest}
use Rattle.sig_blobs.specs.Canonical.{UseFits, ResultFits, SignatureFits, without_name, without_names}
use Rattle.sig_blobs.specs.Elements.{by_ref}
use Rattle.sig_blobs.specs.Reading.{◌>>=◌, several, integer, whole}
use Rattle.sig_blobs.specs.Signatures.{use_alone, field_of, property_of, spec_of, method_of, signature_in, param_in, params_alone, result_in}
use Rattle.wr_base.specs.Trees.{UseTree, plain, value, reference, instance, ParamTree, SignatureTree}
use Rattle.sig_blobs.specs.Uses.{Meanings, behind_modifiers, use_within}
use Rattle.sig_blobs.specs.Writing.{Numbers, use_bytes, field_bytes, property_bytes, spec_bytes, method_bytes, param_bytes, result_bytes}
use Rattle.sig_blobs.proofs.UseLaws.{ReadsShortest, use_again, integer_again}

-- The first byte of a type: no modifier, and neither VOID nor BYREF.
record Head (bytes : List ℕ) : Type 0 where
  first : ℕ
  rest : List ℕ
  is : bytes ≡ first ∷ rest
  required : (first == 0x1F) ≡ false
  optional : (first == 0x20) ≡ false
  some : (first == 0x01) ≡ false
  in_ : (first == 0x10) ≡ false

head_of : (token : Numbers) (u : UseTree) → Head (use_bytes token u)
head_of token (plain Boolean) = record { first = 0x02; rest = []; is = refl; required = refl; optional = refl; some = refl; in_ = refl }
head_of token (plain Char) = record { first = 0x03; rest = []; is = refl; required = refl; optional = refl; some = refl; in_ = refl }
head_of token (plain U8) = record { first = 0x05; rest = []; is = refl; required = refl; optional = refl; some = refl; in_ = refl }
head_of token (plain I16) = record { first = 0x06; rest = []; is = refl; required = refl; optional = refl; some = refl; in_ = refl }
head_of token (plain U16) = record { first = 0x07; rest = []; is = refl; required = refl; optional = refl; some = refl; in_ = refl }
head_of token (plain I32) = record { first = 0x08; rest = []; is = refl; required = refl; optional = refl; some = refl; in_ = refl }
head_of token (plain U32) = record { first = 0x09; rest = []; is = refl; required = refl; optional = refl; some = refl; in_ = refl }
head_of token (plain I64) = record { first = 0x0A; rest = []; is = refl; required = refl; optional = refl; some = refl; in_ = refl }
head_of token (plain U64) = record { first = 0x0B; rest = []; is = refl; required = refl; optional = refl; some = refl; in_ = refl }
head_of token (plain Text) = record { first = 0x0E; rest = []; is = refl; required = refl; optional = refl; some = refl; in_ = refl }
head_of token (plain Guid) = record { first = 0x11; rest = _; is = refl; required = refl; optional = refl; some = refl; in_ = refl }
head_of token (plain Object) = record { first = 0x1C; rest = []; is = refl; required = refl; optional = refl; some = refl; in_ = refl }
head_of token (value name) = record { first = 0x11; rest = _; is = refl; required = refl; optional = refl; some = refl; in_ = refl }
head_of token (reference name) = record { first = 0x12; rest = _; is = refl; required = refl; optional = refl; some = refl; in_ = refl }
head_of token (instance name arguments) = record { first = 0x15; rest = _; is = refl; required = refl; optional = refl; some = refl; in_ = refl }

-- ---- where nothing but a type stands

alone_again : ReadsShortest → (token : Numbers) (names : Meanings) (u : UseTree) → UseFits token names 16 u → use_alone names (use_bytes token u) ≡ Ok u
alone_again law token names u h =
    let e : use_bytes token u ++ [] ≡ use_bytes token u = append-nil (use_bytes token u) in
    let s : use_within 16 names (use_bytes token u) ≡ Ok (u, []) = ap (use_within 16 names) (sym e) ∙ use_again law token names 16 u [] h in
    rw s refl

pub field_again : ReadsShortest → (token : Numbers) (names : Meanings) (u : UseTree) → UseFits token names 16 u → field_of names (field_bytes token u) ≡ Ok u
field_again law token names u h = rw (alone_again law token names u h) refl

pub property_again : ReadsShortest → (token : Numbers) (names : Meanings) (u : UseTree) → UseFits token names 16 u → property_of names (property_bytes token u) ≡ Ok u
property_again law token names u h = rw (alone_again law token names u h) refl

pub spec_again : ReadsShortest → (token : Numbers) (names : Meanings) (u : UseTree) → UseFits token names 16 u → spec_of names (spec_bytes token u) ≡ Ok u
spec_again law token names u h = rw (alone_again law token names u h) refl

-- ---- methods

param_again : ReadsShortest → (token : Numbers) (names : Meanings) (out : Bool) (u : UseTree) (rest : List ℕ) → UseFits token names 16 u
    → param_in names ((cond out (by_ref ∷ []) [] ++ use_bytes token u) ++ rest) ≡ Ok (record { name = []; out = out; kind = u }, rest)
unfolding behind_modifiers
param_again law token names true u rest h = rw (use_again law token names 16 u rest h) refl
param_again law token names false u rest h =
    let head = head_of token u in
    let r : use_within 16 names (head.first ∷ (head.rest ++ rest)) ≡ Ok (u, rest) = subst (λ (x : List ℕ). use_within 16 names (x ++ rest) ≡ Ok (u, rest)) head.is (use_again law token names 16 u rest h) in
    rw (head.is, head.required, head.optional, head.in_, r) refl

params_again : ReadsShortest → (token : Numbers) (names : Meanings) (params : List ParamTree) → AllByRecursion (λ p. UseFits token names 16 p.kind) params
    → several (param_in names) (length params) (flat_map (param_bytes token) params) ≡ Ok (map without_name params, [])
params_again law token names [] h = refl
params_again law token names (p ∷ ps) h =
    let first = param_again law token names p.out p.kind (flat_map (param_bytes token) ps) h.0 in
    let rest = params_again law token names ps h.1 in
    rw (flat_map-cons (param_bytes token) p ps, first, rest) refl

result_again : ReadsShortest → (token : Numbers) (names : Meanings) (result : Option UseTree) (rest : List ℕ) → ResultFits token names result → result_in names (result_bytes token result ++ rest) ≡ Ok (result, rest)
unfolding behind_modifiers
result_again law token names None rest h = refl
result_again law token names (Some u) rest h =
    let head = head_of token u in
    let r : use_within 16 names (head.first ∷ (head.rest ++ rest)) ≡ Ok (u, rest) = subst (λ (x : List ℕ). use_within 16 names (x ++ rest) ≡ Ok (u, rest)) head.is (use_again law token names 16 u rest h) in
    rw (head.is, head.required, head.optional, head.some, r) refl

read_again : (names : Meanings) (bytes behind rest : List ℕ) (count : ℕ) (result : Option UseTree) (params : List ParamTree) → integer bytes ≡ Ok (count, behind)
    → result_in names behind ≡ Ok (result, rest) → several (param_in names) count rest ≡ Ok (params, []) → method_of names (0x20 ∷ bytes) ≡ Ok (record { params = params; result = result })
read_again names bytes behind rest count result params c r p =
    let all : params_alone names count rest ≡ Ok params = ap (λ read. read >>= λ x. whole x) p in
    let sig : signature_in names count behind ≡ Ok (record { params = params; result = result }) = ap (λ x. x >>= λ y. params_alone names count y.1 >>= λ z. Ok (record { params = z; result = y.0 })) r ∙ ap (λ x. x >>= λ z. Ok (record { params = z; result = result })) all in
    rw (c, sig) refl

pub method_again : ReadsShortest → (token : Numbers) (names : Meanings) (sig : SignatureTree) → SignatureFits token names sig → method_of names (method_bytes token sig) ≡ Ok (without_names sig)
method_again law token names sig h =
    let c : List ℕ = shortest (length sig.params) in
    let r : List ℕ = result_bytes token sig.result in
    let p : List ℕ = flat_map (param_bytes token) sig.params in
    let e : (c ++ r) ++ p ≡ c ++ (r ++ p) = append_assoc c r p in
    let count : integer (c ++ (r ++ p)) ≡ Ok (length sig.params, r ++ p) = integer_again law (length sig.params) (r ++ p) h.few in
    let result = result_again law token names sig.result p h.result in
    let params = params_again law token names sig.params h.params in
    subst (λ (x : List ℕ). method_of names (0x20 ∷ x) ≡ Ok (without_names sig)) (sym e) (read_again names (c ++ (r ++ p)) (r ++ p) p (length sig.params) sig.result (map without_name sig.params) count result params)
