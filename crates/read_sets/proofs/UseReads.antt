-- A blob spells uses whose names are paths, at most 16 deep.
use Rattle.std.proofs.Common.{◌≡◌, ℕ, zero, suc, ◌<◌, Bool, true, false, cond, List, [], ◌∷◌, Option, Some, None, Result, Ok, Err, IfOk, refl, sym, ap, subst, ◌∙◌}
use Rattle.std.specs.Prelude.{◌==◌, nat_lt, bytes_eq, length}
use Rattle.std.specs.List.{AllByRecursion}
use Rattle.std.proofs.lemmas.Bool.{ltb-true}
use Rattle.md_schema.specs.declared.faults.ImageKind.TheVariants.{BadShape, SigElement}
use Rattle.sig_blobs.specs.declared.flaw.Flaw.{Flaw}
use Rattle.sig_blobs.specs.Elements.{void, by_ref, system_guid, value_type, class, generic_inst, base_of}
use Rattle.sig_blobs.specs.Reading.{Reads, flaw, ◌>>=◌, placed, integer, byte, several, whole}
use Rattle.sig_blobs.specs.Templates.{suffix}
use Rattle.sig_blobs.specs.Uses.{Meanings, unmodified, token_name, path_of, value_of, stripped, template_of, without_count, Front, alone, applied, value_in, reference_in, counted_in, template_in, other_front, front_behind, front_at, completed, use_within, use_at}
use Rattle.sig_blobs.specs.Signatures.{use_alone, field_in, field_of, property_in, property_of, spec_of, type_or_void, result_in, param_of_type, param_behind, param_in, params_alone, signature_in, method_in, method_of}
use Rattle.wr_base.specs.Paths.{is_path}
use Rattle.wr_base.specs.declared.type_use.Base.{Base}
use Rattle.wr_base.specs.declared.type_use.Base.TheVariants as bases
use Rattle.wr_base.specs.Trees.{UseTree, plain, value, reference, instance, no_uses, use_and, uses_of, count_of, ParamTree, SignatureTree}
use Rattle.read_sets.proofs.Read.{UseOf, UsesOf, IsPath}

-- ---- steps that may find a flaw

bind : {A B : Type 0} (P : A → Type 0) (Q : B → Type 0) (a : Result A Flaw) (f : A → Result B Flaw) → IfOk a P → ((x : A) → P x → IfOk (f x) Q) → IfOk (a >>= f) Q
bind P Q (Ok x) f h g = g x h
bind P Q (Err e) f h g = tt

next : {A B : Type 0} (Q : B → Type 0) (a : Result A Flaw) (f : A → Result B Flaw) → ((x : A) → IfOk (f x) Q) → IfOk (a >>= f) Q
next Q (Ok x) f g = g x
next Q (Err e) f g = tt

choice : {A : Type 0} (P : A → Type 0) (b : Bool) (x y : Result A Flaw) → IfOk x P → IfOk y P → IfOk (cond b x y) P
choice P true x y h g = h
choice P false x y h g = g

-- ---- names

path_so : (bytes name : List ℕ) → IfOk (path_of bytes name) IsPath
path_so bytes name = elim (is_path name) as (λ b. is_path name ≡ b → IfOk (cond b (Ok name) (flaw BadShape bytes)) IsPath) [
  | true ↦ λ e. e
  | false ↦ λ e. tt
] refl

template_so : (bytes : List ℕ) (o : Option (List ℕ)) → IfOk (template_of bytes o) IsPath
template_so bytes None = tt
template_so bytes (Some name) = path_so bytes name

abbrev Counted : ℕ → List ℕ → Type 0
Counted count name = IsPath name × (0 < count)

with_count : (count : ℕ) (r : Result (List ℕ) Flaw) → 0 < count → IfOk r IsPath → IfOk r (Counted count)
with_count count (Ok x) l h = (h, l)
with_count count (Err e) l h = tt

counted_so : (bytes : List ℕ) (count : ℕ) (name : List ℕ) → IfOk (without_count bytes count name) (Counted count)
counted_so bytes count name = elim (nat_lt 0 count) as (λ b. nat_lt 0 count ≡ b → IfOk (cond b (template_of bytes (stripped (suffix count) name)) (flaw SigElement bytes)) (Counted count)) [
  | true ↦ λ e. with_count count (template_of bytes (stripped (suffix count) name)) (ltb-true 0 count e) (template_so bytes (stripped (suffix count) name))
  | false ↦ λ e. tt
] refl

-- ---- fronts

abbrev Leaf : UseTree → Type 0
Leaf u = UseOf IsPath 1 u

abbrev FrontSo : Front → Type 0
FrontSo (alone u) = Leaf u
FrontSo (applied name count) = Counted count name

abbrev ReadFront : Front × List ℕ → Type 0
ReadFront r = FrontSo r.0

value_so : (bytes name : List ℕ) → IfOk (value_of bytes name) Leaf
value_so bytes name = elim (bytes_eq name system_guid) as (λ b. bytes_eq name system_guid ≡ b → IfOk (cond b (Ok (plain bases.Guid)) (path_of bytes name >>= λ path. Ok (value path))) Leaf) [
  | true ↦ λ e. tt
  | false ↦ λ e. bind (λ path. IsPath path × (path ≡ name)) Leaf (path_of bytes name) (λ path. Ok (value path)) (itself name) (λ path h. (h.0, ap (λ n. bytes_eq n system_guid) h.1 ∙ e))
] refl
  where
    itself : (name : List ℕ) → IfOk (path_of bytes name) (λ path. IsPath path × (path ≡ name))
    itself name = elim (is_path name) as (λ b. is_path name ≡ b → IfOk (cond b (Ok name) (flaw BadShape bytes)) (λ path. IsPath path × (path ≡ name))) [
      | true ↦ λ e. (e, refl)
      | false ↦ λ e. tt
    ] refl

value_front : (names : Meanings) (bytes : List ℕ) → IfOk (value_in names bytes) ReadFront
value_front names bytes = next ReadFront (token_name names bytes) (λ name. value_of bytes name.0 >>= λ use_. Ok (alone use_, name.1))
    (λ name. bind Leaf ReadFront (value_of bytes name.0) (λ use_. Ok (alone use_, name.1)) (value_so bytes name.0) (λ u h. h))

reference_front : (names : Meanings) (bytes : List ℕ) → IfOk (reference_in names bytes) ReadFront
reference_front names bytes = next ReadFront (token_name names bytes) (λ name. path_of bytes name.0 >>= λ path. Ok (alone (reference path), name.1))
    (λ name. bind IsPath ReadFront (path_of bytes name.0) (λ path. Ok (alone (reference path), name.1)) (path_so bytes name.0) (λ path h. h))

template_front : (names : Meanings) (bytes : List ℕ) → IfOk (template_in names bytes) ReadFront
template_front names bytes = next ReadFront (byte class bytes) (λ rest. counted_in names rest)
    (λ rest. next ReadFront (token_name names rest) (λ name. integer name.1 >>= λ count. without_count rest count.0 name.0 >>= λ path. Ok (applied path count.0, count.1))
    (λ name. next ReadFront (integer name.1) (λ count. without_count rest count.0 name.0 >>= λ path. Ok (applied path count.0, count.1))
    (λ count. bind (Counted count.0) ReadFront (without_count rest count.0 name.0) (λ path. Ok (applied path count.0, count.1)) (counted_so rest count.0 name.0) (λ path h. h))))

other_so : (names : Meanings) (b : ℕ) (bytes : List ℕ) → IfOk (other_front names b bytes) ReadFront
other_so names b bytes =
    choice ReadFront (b == value_type) _ _ (value_front names bytes)
    (choice ReadFront (b == class) _ _ (reference_front names bytes)
    (choice ReadFront (b == generic_inst) _ _ (template_front names bytes) tt))

behind_so : (names : Meanings) (o : Option Base) (b : ℕ) (bytes : List ℕ) → IfOk (front_behind names o b bytes) ReadFront
behind_so names None b bytes = other_so names b bytes
behind_so names (Some base) b bytes = tt

front_so : (names : Meanings) (bytes : List ℕ) → IfOk (front_at names bytes) ReadFront
front_so names [] = tt
front_so names (b ∷ bytes) = behind_so names (base_of b) b bytes

-- ---- so many of something

abbrev ManySo : {A : Type 0} → (A → Type 0) → ℕ → List A × List ℕ → Type 0
ManySo P count r = AllByRecursion P r.0 × (length r.0 ≡ count)

several_so : {A : Type 0} (P : A → Type 0) (one : Reads A) → ((bytes : List ℕ) → IfOk (one bytes) (λ r. P r.0)) → (count : ℕ) (bytes : List ℕ) → IfOk (several one count bytes) (ManySo P count)
several_so P one h zero bytes = (tt, refl)
several_so P one h (suc count) bytes =
    bind (λ r. P r.0) (ManySo P (suc count)) (one bytes) (λ first. several one count first.1 >>= λ others. Ok (first.0 ∷ others.0, others.1)) (h bytes)
    (λ first p. bind (ManySo P count) (ManySo P (suc count)) (several one count first.1) (λ others. Ok (first.0 ∷ others.0, others.1)) (several_so P one h count first.1)
    (λ others q. ((p, q.0), ap suc q.1)))

-- ---- uses

abbrev UseSo : ℕ → UseTree × List ℕ → Type 0
UseSo depth r = UseOf IsPath depth r.0

all_uses : (depth : ℕ) (us : List UseTree) → AllByRecursion (UseOf IsPath depth) us → UsesOf IsPath depth (uses_of us)
all_uses depth [] h = tt
all_uses depth (u ∷ us) h = (h.0, all_uses depth us h.1)

count_is : (us : List UseTree) → count_of (uses_of us) ≡ length us
count_is [] = refl
count_is (u ∷ us) = ap suc (count_is us)

leaf_deeper : (depth : ℕ) (u : UseTree) → Leaf u → UseOf IsPath (suc depth) u
leaf_deeper depth (plain base) h = tt
leaf_deeper depth (value name) h = h
leaf_deeper depth (reference name) h = h
leaf_deeper depth (instance name no_uses) h = (h.0, h.1, tt)
leaf_deeper depth (instance name (use_and u us)) h = absurd h.2.0

completed_so : (depth : ℕ) (argument : Reads UseTree) → ((bytes : List ℕ) → IfOk (argument bytes) (UseSo depth)) → (front : Front) (bytes : List ℕ) → FrontSo front → IfOk (completed argument front bytes) (UseSo (suc depth))
completed_so depth argument h (alone u) bytes f = leaf_deeper depth u f
completed_so depth argument h (applied name count) bytes f =
    bind (ManySo (UseOf IsPath depth) count) (UseSo (suc depth)) (several argument count bytes) (λ arguments. Ok (instance name (uses_of arguments.0), arguments.1)) (several_so (UseOf IsPath depth) argument h count bytes)
    (λ arguments q. (f.0, subst (λ n. 0 < n) (sym (count_is arguments.0 ∙ q.1)) f.1, all_uses depth arguments.0 q.0))

use_so : (depth : ℕ) (names : Meanings) (bytes : List ℕ) → IfOk (use_within depth names bytes) (UseSo depth)
unfolding use_within
use_so zero names bytes = tt
use_so (suc depth) names bytes =
    next (UseSo (suc depth)) (unmodified bytes) (λ rest. front_at names rest >>= λ front. completed (use_within depth names) front.0 front.1)
    (λ rest. bind ReadFront (UseSo (suc depth)) (front_at names rest) (λ front. completed (use_within depth names) front.0 front.1) (front_so names rest)
    (λ front f. completed_so depth (use_within depth names) (use_so depth names) front.0 front.1 f))

-- ---- signatures

abbrev UsePath : UseTree → Type 0
UsePath u = UseOf IsPath 16 u

whole_so : {A : Type 0} (P : A → Type 0) (x : A) (rest : List ℕ) → P x → IfOk (whole (x, rest)) P
whole_so P x [] h = h
whole_so P x (b ∷ bytes) h = tt

alone_so : (names : Meanings) (bytes : List ℕ) → IfOk (use_alone names bytes) UsePath
alone_so names bytes = bind (UseSo 16) UsePath (use_at names bytes) (λ read. whole read) (use_so 16 names bytes) (λ read h. whole_so UsePath read.0 read.1 h)

placed_so : {A : Type 0} (P : A → Type 0) (blob : List ℕ) (r : Result A Flaw) → IfOk r P → IfOk (placed blob r) P
placed_so P blob (Ok x) h = h
placed_so P blob (Err e) h = tt

pub field_so : (names : Meanings) (blob : List ℕ) → IfOk (field_of names blob) UsePath
field_so names blob = placed_so UsePath blob (field_in names blob) (next UsePath (byte 0x06 blob) (λ rest. use_alone names rest) (λ rest. alone_so names rest))

pub property_so : (names : Meanings) (blob : List ℕ) → IfOk (property_of names blob) UsePath
property_so names blob =
    placed_so UsePath blob (property_in names blob)
    (next UsePath (byte 0x28 blob) (λ rest. byte 0 rest >>= λ behind. use_alone names behind) (λ rest. next UsePath (byte 0 rest) (λ behind. use_alone names behind) (λ behind. alone_so names behind)))

pub spec_so : (names : Meanings) (blob : List ℕ) → IfOk (spec_of names blob) UsePath
spec_so names blob = placed_so UsePath blob (use_alone names blob) (alone_so names blob)

abbrev pub OptionPath : Option UseTree → Type 0
OptionPath None = Unit {0}
OptionPath (Some u) = UsePath u

abbrev pub ParamPath : ParamTree → Type 0
ParamPath p = UsePath p.kind

pub record SignaturePath (sig : SignatureTree) : Type 0 where
  pub result : OptionPath sig.result
  pub params : AllByRecursion ParamPath sig.params

void_so : (names : Meanings) (bytes : List ℕ) → IfOk (type_or_void names bytes) (λ r. OptionPath r.0)
void_so names [] = tt
void_so names (b ∷ bytes) = choice (λ r. OptionPath r.0) (b == void) (Ok (None, bytes)) (use_at names (b ∷ bytes) >>= λ read. Ok (Some read.0, read.1)) tt
    (bind (UseSo 16) (λ r. OptionPath r.0) (use_at names (b ∷ bytes)) (λ read. Ok (Some read.0, read.1)) (use_so 16 names (b ∷ bytes)) (λ read h. h))

typed_so : (names : Meanings) (out : Bool) (bytes : List ℕ) → IfOk (param_of_type names out bytes) (λ r. ParamPath r.0)
typed_so names out bytes = bind (UseSo 16) (λ r. ParamPath r.0) (use_at names bytes) (λ read. Ok (record { name = []; out = out; kind = read.0 }, read.1)) (use_so 16 names bytes) (λ read h. h)

param_behind_so : (names : Meanings) (bytes : List ℕ) → IfOk (param_behind names bytes) (λ r. ParamPath r.0)
param_behind_so names [] = tt
param_behind_so names (b ∷ bytes) = choice (λ r. ParamPath r.0) (b == by_ref) (param_of_type names true bytes) (param_of_type names false (b ∷ bytes)) (typed_so names true bytes) (typed_so names false (b ∷ bytes))

param_so : (names : Meanings) (bytes : List ℕ) → IfOk (param_in names bytes) (λ r. ParamPath r.0)
param_so names bytes = next (λ r. ParamPath r.0) (unmodified bytes) (λ rest. param_behind names rest) (λ rest. param_behind_so names rest)

params_so : (names : Meanings) (count : ℕ) (bytes : List ℕ) → IfOk (params_alone names count bytes) (AllByRecursion ParamPath)
params_so names count bytes =
    bind (ManySo ParamPath count) (AllByRecursion ParamPath) (several (param_in names) count bytes) (λ read. whole read) (several_so ParamPath (param_in names) (param_so names) count bytes)
    (λ read h. whole_so (AllByRecursion ParamPath) read.0 read.1 h.0)

signature_so : (names : Meanings) (count : ℕ) (bytes : List ℕ) → IfOk (signature_in names count bytes) SignaturePath
signature_so names count bytes =
    bind (λ r. OptionPath r.0) SignaturePath (result_in names bytes) (λ result. params_alone names count result.1 >>= λ params. Ok (record { params = params; result = result.0 }))
    (next (λ r. OptionPath r.0) (unmodified bytes) (λ rest. type_or_void names rest) (λ rest. void_so names rest))
    (λ result h. bind (AllByRecursion ParamPath) SignaturePath (params_alone names count result.1) (λ params. Ok (record { params = params; result = result.0 })) (params_so names count result.1)
    (λ params q. record { result = h; params = q }))

pub method_so : (names : Meanings) (blob : List ℕ) → IfOk (method_of names blob) SignaturePath
method_so names blob =
    placed_so SignaturePath blob (method_in names blob)
    (next SignaturePath (byte 0x20 blob) (λ rest. integer rest >>= λ count. signature_in names count.0 count.1)
    (λ rest. next SignaturePath (integer rest) (λ count. signature_in names count.0 count.1) (λ count. signature_so names count.0 count.1)))
