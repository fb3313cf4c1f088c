-- What the members of an interface use.
use Rattle.std.proofs.Common.{◌≡◌, ℕ, suc, ◌+◌, ◌<◌, ◌≤◌, Bool, true, false, List, [], ◌∷◌, ◌++◌, map, take, get_or, length, codes, string_bytes, refl, sym, ap, subst, ◌∙◌, append_assoc, append-nil}
use Rattle.std.specs.Prelude.{◌||◌, not, String}
use Rattle.std.specs.List.{list_any}
use Rattle.std.specs.Str.{bytes_eq}
use Rattle.std.specs.Ordering.{nat_cmp, is_eq}
use Rattle.std.specs.Cmp.Lexicographic.{slice_cmp}
use Rattle.std.specs.declared.alloc.Global.{Global}
use Rattle.std.specs.BTreeSet.{BTreeSet, contains_text}
use Rattle.std.proofs.lemmas.List.{take_more, take_all, map-append}
use Rattle.std.proofs.lemmas.List.Folds.{list_any-append}
use Rattle.std.proofs.lemmas.Map.Text.{is_eq-slice_cmp}
use Rattle.md_schema.specs.declared.table.Table.{Table}
use Rattle.md_schema.specs.declared.table.Table.TheVariants as tables
use Rattle.std.specs.Prelude.{Result, Ok, Err, OnOk}
use Rattle.std.specs.BTreeSet.{Updates}
use Rattle.std.specs.String.{string_cmp}
use Rattle.wr_base.specs.declared.declaration.Signature.{Signature}
use Rattle.wr_base.specs.declared.declaration.Member.{Member}
use Rattle.wr_base.specs.declared.declaration.Member.TheVariants.{Method, Property, Event}
use Rattle.wr_base.specs.declared.type_use.TypeUse.{TypeUse}
use Rattle.wr_base.specs.Trees.{UseTree, ParamTree, SignatureTree, MemberTree, method, property, event, member_tree, signature_tree, tree_of}
use Rattle.sig_blobs.specs.declared.argument.Argument.{Argument}
use Rattle.winmd_lines.specs.Lines.{Line, line, Number, Words, Last, OfProperty, MadeBy, Type_}
use Rattle.winmd_lines.specs.Makers.{Maker}
use Rattle.winmd_lines.specs.Names.{is_maker, used, makers_in_cell, specs_in_cell}
use Rattle.winmd_lines.specs.UsedNames.{names_in_signature, names_in_use}
use Rattle.winmd_sets.specs.Members.{when, attribute, param_lines, signature_lines, accessor, getter, setter, adder, remover, member_lines, members_lines, method_names}
use Rattle.winmd_sets.specs.Values.{words_argument}
use Rattle.winmd_uses.specs.Earlier.{event_says, is_repeat, member_lines_if, method_lines_if, names_after, texts_in}
use Rattle.winmd_uses.specs.Kinds.{made_if, nothing}
use Rattle.winmd_uses.specs.Takes.{Says, Takes, both, cell_says, lines_say, named_by, names_alone}
use Rattle.winmd_uses.specs.declared.used.Used.{Used}
use Rattle.winmd_uses.proofs.TakeLaws.{Same, same_again, same_back, same_both, same_lists, same_none, same_refl, same_trans, lines_both, or_false, takes_as, takes_none, takes_only, takes_then}
use Rattle.winmd_uses.proofs.TextLaws.{text_put}

-- ---- methods

param_names : (n : ℕ) (ps : List ParamTree) → used named_by (param_lines n ps) ≡ []
param_names n [] = refl
param_names n (p ∷ ps) = param_names (suc n) ps

param_makers : (n : ℕ) (ps : List ParamTree) → used makers_in_cell (param_lines n ps) ≡ []
param_makers n [] = refl
param_makers n (p ∷ ps) = param_makers (suc n) ps

param_specs : (n : ℕ) (ps : List ParamTree) → used specs_in_cell (param_lines n ps) ≡ []
param_specs n [] = refl
param_specs n (p ∷ ps) = param_specs (suc n) ps

thrice : (xs rest : List (List ℕ)) → rest ≡ [] → ((xs ++ []) ++ []) ++ rest ≡ xs
thrice xs rest e = ap (λ (r : List (List ℕ)). ((xs ++ []) ++ []) ++ r) e ∙ append-nil ((xs ++ []) ++ []) ∙ append-nil (xs ++ []) ∙ append-nil xs

pub signature_say : (flags impl : ℕ) (name : List ℕ) (sig : SignatureTree) → Same (lines_say (signature_lines flags impl name sig)) (names_alone (names_in_signature sig))
signature_say flags impl name sig =
    same_lists (lines_say (signature_lines flags impl name sig)) (names_alone (names_in_signature sig)) (thrice (names_in_signature sig) (used named_by (param_lines 1 sig.params)) (param_names 1 sig.params)) (param_makers 1 sig.params) (param_specs 1 sig.params)

-- an attribute says what its constructor says
pub attribute_says : (table : Table) (maker : Maker) (arguments : List Argument) → Same (lines_say (attribute table maker arguments ∷ [])) (cell_says (MadeBy maker))
attribute_says table maker arguments =
    same_lists (lines_say (attribute table maker arguments ∷ [])) (cell_says (MadeBy maker)) (append-nil (named_by (MadeBy maker) ++ []) ∙ append-nil (named_by (MadeBy maker))) refl refl

pub when_says : (test : Bool) (table : Table) (maker : Maker) (arguments : List Argument) → Same (made_if test maker) (lines_say (when test (attribute table maker arguments ∷ [])))
when_says true table maker arguments = same_back (lines_say (attribute table maker arguments ∷ [])) (cell_says (MadeBy maker)) (attribute_says table maker arguments)
when_says false table maker arguments = same_refl nothing

pub method_says : (repeated : Bool) (name abi : List ℕ) (sig : SignatureTree) → Same (both (names_alone (names_in_signature sig)) (made_if (not (bytes_eq abi name) || repeated) Maker.Overload)) (lines_say (method_lines_if repeated name abi sig))
method_says repeated name abi sig =
    let test : Bool = not (bytes_eq abi name) || repeated in
    let xs : List Line = signature_lines 0x05C6 0 name sig in
    let ys : List Line = when test (attribute tables.MethodDef Maker.Overload (words_argument abi) ∷ []) in
    same_trans (both (names_alone (names_in_signature sig)) (made_if test Maker.Overload)) (both (lines_say xs) (lines_say ys)) (lines_say (xs ++ ys))
    (same_both (names_alone (names_in_signature sig)) (made_if test Maker.Overload) (lines_say xs) (lines_say ys) (same_back (lines_say xs) (names_alone (names_in_signature sig)) (signature_say 0x05C6 0 name sig)) (when_says test tables.MethodDef Maker.Overload (words_argument abi)))
    (lines_both xs ys)

-- ---- accessors

accessor_says : (table : Table) (meaning : ℕ) (name : List ℕ) (sig : SignatureTree) (names : List (List ℕ)) → names_in_signature sig ≡ names → Same (lines_say (accessor table meaning name sig)) (names_alone names)
accessor_says table meaning name sig names e =
    let xs : List Line = signature_lines 0x0DC6 0 name sig in
    let ys : List Line = line tables.MethodSemantics (Number meaning ∷ Last tables.MethodDef ∷ Last table ∷ []) ∷ [] in
    let said : Same (lines_say xs) (names_alone names) = subst (λ (ns : List (List ℕ)). Same (lines_say xs) (names_alone ns)) e (signature_say 0x0DC6 0 name sig) in
    same_trans (lines_say (xs ++ ys)) (both (lines_say xs) (lines_say ys)) (names_alone names) (same_back (both (lines_say xs) (lines_say ys)) (lines_say (xs ++ ys)) (lines_both xs ys))
    (same_trans (both (lines_say xs) (lines_say ys)) (both (names_alone names) nothing) (names_alone names) (same_both (lines_say xs) (lines_say ys) (names_alone names) nothing said (same_refl nothing)) (same_none (names_alone names)))

pub property_says : (earlier : List (List ℕ)) (name : List ℕ) (u : UseTree) (put : Bool) → Same (names_alone (names_in_use u)) (lines_say (member_lines earlier (property name u put)))
property_says earlier name u put =
    let p : Says = names_alone (names_in_use u) in
    let own : List Line = line tables.Property (Number 0 ∷ Words name ∷ OfProperty u ∷ []) ∷ [] in
    let get : List Line = accessor tables.Property 2 (codes "get_" ++ name) (getter u) in
    let set : List Line = when put (accessor tables.Property 1 (codes "put_" ++ name) (setter u)) in
    let own_is : Same (lines_say own) p = same_lists (lines_say own) p (thrice (names_in_use u) [] refl) refl refl in
    let get_is : Same (lines_say get) p = accessor_says tables.Property 2 (codes "get_" ++ name) (getter u) (names_in_use u) (append-nil (names_in_use u)) in
    let two_are : Same (lines_say (get ++ set)) p = same_trans (lines_say (get ++ set)) (both (lines_say get) (lines_say set)) p (same_back (both (lines_say get) (lines_say set)) (lines_say (get ++ set)) (lines_both get set)) (set_is put get get_is) in
    same_back (lines_say (own ++ (get ++ set))) p
    (same_trans (lines_say (own ++ (get ++ set))) (both (lines_say own) (lines_say (get ++ set))) p (same_back (both (lines_say own) (lines_say (get ++ set))) (lines_say (own ++ (get ++ set))) (lines_both own (get ++ set)))
    (same_trans (both (lines_say own) (lines_say (get ++ set))) (both p p) p (same_both (lines_say own) (lines_say (get ++ set)) p p own_is two_are) (same_again p p refl (same_refl p))))
  where
    set_is : (test : Bool) (get : List Line) → Same (lines_say get) (names_alone (names_in_use u)) → Same (both (lines_say get) (lines_say (when test (accessor tables.Property 1 (codes "put_" ++ name) (setter u))))) (names_alone (names_in_use u))
    set_is false get g = same_trans (both (lines_say get) nothing) (both (names_alone (names_in_use u)) nothing) (names_alone (names_in_use u)) (same_both (lines_say get) nothing (names_alone (names_in_use u)) nothing g (same_refl nothing)) (same_none (names_alone (names_in_use u)))
    set_is true get g =
        let p : Says = names_alone (names_in_use u) in
        let s : Says = lines_say (accessor tables.Property 1 (codes "put_" ++ name) (setter u)) in
        same_trans (both (lines_say get) s) (both p p) p (same_both (lines_say get) s p p g (accessor_says tables.Property 1 (codes "put_" ++ name) (setter u) (names_in_use u) (append-nil (names_in_use u)))) (same_again p p refl (same_refl p))

shuffled : (c p t : Bool) → (c || (p || t)) ≡ (c || ((t || p) || t))
shuffled true p t = refl
shuffled false true true = refl
shuffled false true false = refl
shuffled false false true = refl
shuffled false false false = refl

same_shuffled : (c p t : Says) → p.specs ≡ [] → t.specs ≡ [] → Same (both c (both p t)) (both c (both (both t p) t))
same_shuffled c p t e f = record {
  names = λ n. any_three (bytes_eq n) c.names p.names t.names ∙ shuffled (list_any (bytes_eq n) c.names) (list_any (bytes_eq n) p.names) (list_any (bytes_eq n) t.names) ∙ sym (any_four (bytes_eq n) c.names t.names p.names t.names);
  makers = λ m. any_three (is_maker m) c.makers p.makers t.makers ∙ shuffled (list_any (is_maker m) c.makers) (list_any (is_maker m) p.makers) (list_any (is_maker m) t.makers) ∙ sym (any_four (is_maker m) c.makers t.makers p.makers t.makers);
  specs = ap (λ (us : List UseTree). c.specs ++ us) (ap (λ (us : List UseTree). us ++ t.specs) e ∙ f ∙ sym (ap (λ (us : List UseTree). (us ++ p.specs) ++ us) f ∙ append-nil p.specs ∙ e));
}
  where
    any_three : {A : Type 0} (q : A → Bool) (xs ys zs : List A) → list_any q (xs ++ (ys ++ zs)) ≡ (list_any q xs || (list_any q ys || list_any q zs))
    any_three q xs ys zs = list_any-append q xs (ys ++ zs) ∙ ap (λ (b : Bool). list_any q xs || b) (list_any-append q ys zs)

    any_four : {A : Type 0} (q : A → Bool) (xs ys zs us : List A) → list_any q (xs ++ ((ys ++ zs) ++ us)) ≡ (list_any q xs || ((list_any q ys || list_any q zs) || list_any q us))
    any_four q xs ys zs us = any_three q xs (ys ++ zs) us ∙ ap (λ (b : Bool). list_any q xs || (b || list_any q us)) (list_any-append q ys zs)

pub event_is : (earlier : List (List ℕ)) (name : List ℕ) (u : UseTree) → Same (event_says u) (lines_say (member_lines earlier (event name u)))
event_is earlier name u =
    let c : Says = cell_says (Type_ u) in
    let p : Says = names_alone (names_in_use u) in
    let t : Says = names_alone (codes "Windows.Foundation.EventRegistrationToken" ∷ []) in
    let own : List Line = line tables.Event (Number 0 ∷ Words name ∷ Type_ u ∷ []) ∷ [] in
    let add : List Line = accessor tables.Event 8 (codes "add_" ++ name) (adder u) in
    let remove : List Line = accessor tables.Event 0x10 (codes "remove_" ++ name) remover in
    let own_is : Same (lines_say own) c = same_lists (lines_say own) c (append-nil (named_by (Type_ u) ++ []) ∙ append-nil (named_by (Type_ u))) refl (append-nil (specs_in_cell (Type_ u) ++ []) ∙ append-nil (specs_in_cell (Type_ u))) in
    let add_is : Same (lines_say add) (both t p) = accessor_says tables.Event 8 (codes "add_" ++ name) (adder u) (codes "Windows.Foundation.EventRegistrationToken" ∷ names_in_use u) (ap (λ (ns : List (List ℕ)). codes "Windows.Foundation.EventRegistrationToken" ∷ ns) (append-nil (names_in_use u))) in
    let remove_is : Same (lines_say remove) t = accessor_says tables.Event 0x10 (codes "remove_" ++ name) remover (codes "Windows.Foundation.EventRegistrationToken" ∷ []) refl in
    let rest : Same (lines_say (add ++ remove)) (both (both t p) t) = same_trans (lines_say (add ++ remove)) (both (lines_say add) (lines_say remove)) (both (both t p) t) (same_back (both (lines_say add) (lines_say remove)) (lines_say (add ++ remove)) (lines_both add remove)) (same_both (lines_say add) (lines_say remove) (both t p) t add_is remove_is) in
    same_trans (both c (both p t)) (both c (both (both t p) t)) (lines_say (own ++ (add ++ remove))) (same_shuffled c p t refl refl)
    (same_back (lines_say (own ++ (add ++ remove))) (both c (both (both t p) t))
    (same_trans (lines_say (own ++ (add ++ remove))) (both (lines_say own) (lines_say (add ++ remove))) (both c (both (both t p) t)) (same_back (both (lines_say own) (lines_say (add ++ remove))) (lines_say (own ++ (add ++ remove))) (lines_both own (add ++ remove)))
    (same_both (lines_say own) (lines_say (add ++ remove)) c (both (both t p) t) own_is rest)))

-- ---- one member more

pub contains_texts : (s : BTreeSet (String Global)) (name : List ℕ) → contains_text s name ≡ list_any (bytes_eq name) (texts_in s)
contains_texts s name = go s.keys
  where
    go : (ks : List (String Global)) → list_any (λ k. is_eq (slice_cmp nat_cmp name (string_bytes k))) ks ≡ list_any (bytes_eq name) (map string_bytes ks)
    go [] = refl
    go (k ∷ ks) = ap (λ (b : Bool). b || list_any (λ k. is_eq (slice_cmp nat_cmp name (string_bytes k))) ks) (is_eq-slice_cmp name (string_bytes k)) ∙ ap (λ (b : Bool). bytes_eq name (string_bytes k) || b) (go ks)

member_same : (m : MemberTree) (a b : List (List ℕ)) → ((name : List ℕ) → list_any (bytes_eq name) a ≡ list_any (bytes_eq name) b) → member_lines a m ≡ member_lines b m
member_same (method name abi sig) a b h = ap (λ (t : Bool). method_lines_if t name abi sig) (h name)
member_same (property name u put) a b h = refl
member_same (event name u) a b h = refl

members_more : (earlier : List (List ℕ)) (ms : List MemberTree) (m : MemberTree) → members_lines earlier (ms ++ m ∷ []) ≡ members_lines earlier ms ++ member_lines (names_after earlier ms) m
members_more earlier [] m = append-nil (member_lines earlier m)
members_more earlier (x ∷ xs) m =
    ap (λ (ls : List Line). member_lines earlier x ++ ls) (members_more (method_names x ++ earlier) xs m)
    ∙ sym (append_assoc (member_lines earlier x) (members_lines (method_names x ++ earlier) xs) (member_lines (names_after (method_names x ++ earlier) xs) m))

after_more : (earlier : List (List ℕ)) (ms : List MemberTree) (m : MemberTree) → names_after earlier (ms ++ m ∷ []) ≡ method_names m ++ names_after earlier ms
after_more earlier [] m = refl
after_more earlier (x ∷ xs) m = after_more (method_names x ++ earlier) xs m

pub lines_if : (earlier : List (List ℕ)) (m : MemberTree) (repeated : Bool) → repeated ≡ is_repeat earlier m → member_lines_if repeated m ≡ member_lines earlier m
lines_if earlier (method name abi sig) repeated e = ap (λ (t : Bool). method_lines_if t name abi sig) e
lines_if earlier (property name u put) repeated e = refl
lines_if earlier (event name u) repeated e = refl

-- one of the members is a method of this name
pub names_any : (name : List ℕ) (ms : List Member) → list_any (λ (m : Member). list_any (bytes_eq name) (method_names (member_tree m))) ms ≡ list_any (bytes_eq name) (names_after [] (map member_tree ms))
names_any name ms = sym (or_false (list_any (λ (m : Member). list_any (bytes_eq name) (method_names (member_tree m))) ms)) ∙ sym (go [] ms)
  where
    moved : (l m a : Bool) → (l || (m || a)) ≡ ((m || l) || a)
    moved true true a = refl
    moved true false a = refl
    moved false true a = refl
    moved false false a = refl

    go : (earlier : List (List ℕ)) (ms : List Member)
        → list_any (bytes_eq name) (names_after earlier (map member_tree ms)) ≡ (list_any (λ (m : Member). list_any (bytes_eq name) (method_names (member_tree m))) ms || list_any (bytes_eq name) earlier)
    go earlier [] = refl
    go earlier (m ∷ ms) =
        go (method_names (member_tree m) ++ earlier) ms
        ∙ ap (λ (b : Bool). list_any (λ (x : Member). list_any (bytes_eq name) (method_names (member_tree x))) ms || b) (list_any-append (bytes_eq name) (method_names (member_tree m)) earlier)
        ∙ moved (list_any (λ (x : Member). list_any (bytes_eq name) (method_names (member_tree x))) ms) (list_any (bytes_eq name) (method_names (member_tree m))) (list_any (bytes_eq name) earlier)

-- one member more is taken
pub few_more : (ms : List Member) (i : ℕ) (m : Member) (g h k : Used) → i < length ms → m ≡ get_or ms i m → Takes (lines_say (members_lines [] (map member_tree (take i ms)))) g h
    → Takes (lines_say (member_lines (names_after [] (map member_tree (take i ms))) (member_tree m))) h k → Takes (lines_say (members_lines [] (map member_tree (take (i + 1) ms)))) g k
few_more ms i m g h k l e p x =
    let so_far : List MemberTree = map member_tree (take i ms) in
    let more : map member_tree (take (i + 1) ms) ≡ so_far ++ member_tree m ∷ [] = ap (map member_tree) (take_more ms i m l ∙ ap (λ y. take i ms ++ y ∷ []) (sym e)) ∙ map-append member_tree (take i ms) (m ∷ []) in
    let all : Takes (lines_say (members_lines [] so_far ++ member_lines (names_after [] so_far) (member_tree m))) g k =
    takes_as (both (lines_say (members_lines [] so_far)) (lines_say (member_lines (names_after [] so_far) (member_tree m)))) (lines_say (members_lines [] so_far ++ member_lines (names_after [] so_far) (member_tree m))) g k
    (lines_both (members_lines [] so_far) (member_lines (names_after [] so_far) (member_tree m)))
    (takes_then (lines_say (members_lines [] so_far)) (lines_say (member_lines (names_after [] so_far) (member_tree m))) g h k p x) in
    subst (λ (mt : List MemberTree). Takes (lines_say (members_lines [] mt)) g k) (sym more) (subst (λ (ls : List Line). Takes (lines_say ls) g k) (sym (members_more [] so_far (member_tree m))) all)

-- the same, as the member was taken
pub few_turn : (ms : List Member) (i : ℕ) (m : Member) (repeated : Bool) (g h k : Used) → i < length ms → m ≡ get_or ms i m → repeated ≡ is_repeat (names_after [] (map member_tree (take i ms))) (member_tree m)
    → Takes (lines_say (members_lines [] (map member_tree (take i ms)))) g h → Takes (lines_say (member_lines_if repeated (member_tree m))) h k → Takes (lines_say (members_lines [] (map member_tree (take (i + 1) ms)))) g k
few_turn ms i m repeated g h k l e r p x = few_more ms i m g h k l e p (subst (λ (ls : List Line). Takes (lines_say ls) h k) (lines_if (names_after [] (map member_tree (take i ms))) (member_tree m) repeated r) x)

pub few_all : (ms : List Member) (i : ℕ) (g h : Used) → length ms ≤ i → Takes (lines_say (members_lines [] (map member_tree (take i ms)))) g h → Takes (lines_say (members_lines [] (map member_tree ms))) g h
few_all ms i g h all t = subst (λ (xs : List Member). Takes (lines_say (members_lines [] (map member_tree xs))) g h) (take_all i ms all) t

-- what a loop over members has taken
pub record Passed (ms : List Member) (i : ℕ) (g h : Used) (earlier : BTreeSet (String Global)) : Type 0 where
  pub takes : Takes (lines_say (members_lines [] (map member_tree (take i ms)))) g h
  pub names : (name : List ℕ) → contains_text earlier name ≡ list_any (bytes_eq name) (names_after [] (map member_tree (take i ms)))

pub passed_more : (ms : List Member) (i : ℕ) (m : Member) (g h k : Used) (s t : BTreeSet (String Global)) → i < length ms → m ≡ get_or ms i m → Passed ms i g h s
    → Takes (lines_say (member_lines (texts_in s) (member_tree m))) h k
    → ((name : List ℕ) → contains_text t name ≡ (list_any (bytes_eq name) (method_names (member_tree m)) || contains_text s name)) → Passed ms (i + 1) g k t
passed_more ms i m g h k s t l e p x n =
    let so_far : List MemberTree = map member_tree (take i ms) in
    let more : map member_tree (take (i + 1) ms) ≡ so_far ++ member_tree m ∷ [] = ap (map member_tree) (take_more ms i m l ∙ ap (λ y. take i ms ++ y ∷ []) (sym e)) ∙ map-append member_tree (take i ms) (m ∷ []) in
    let lines : member_lines (texts_in s) (member_tree m) ≡ member_lines (names_after [] so_far) (member_tree m) = member_same (member_tree m) (texts_in s) (names_after [] so_far) (λ name. sym (contains_texts s name) ∙ p.names name) in
    let last : Takes (lines_say (member_lines (names_after [] so_far) (member_tree m))) h k = subst (λ (ls : List Line). Takes (lines_say ls) h k) lines x in
    record {
      takes = few_more ms i m g h k l e p.takes last;
      names = λ name.
          n name ∙ ap (λ (b : Bool). list_any (bytes_eq name) (method_names (member_tree m)) || b) (p.names name) ∙ sym (list_any-append (bytes_eq name) (method_names (member_tree m)) (names_after [] so_far))
          ∙ ap (list_any (bytes_eq name)) (sym (after_more [] so_far (member_tree m))) ∙ ap (λ (mt : List MemberTree). list_any (bytes_eq name) (names_after [] mt)) (sym more);
    }

-- the name of a method is put in
pub noted : {X : Type 0} (r : Result Unit X) (m : Member) (name abi : List ℕ) (sig : Signature) (text : String Global) (s n : BTreeSet (String Global)) → m ≡ Method name abi sig → string_bytes text ≡ name → OnOk r (Updates string_cmp s n text true)
    → OnOk r ((other : List ℕ) → contains_text n other ≡ (list_any (bytes_eq other) (method_names (member_tree m)) || contains_text s other))
noted (Ok x) m name abi sig text s n is e u = λ other.
    text_put s n text u other ∙ ap (λ (t : List ℕ). bytes_eq other t || contains_text s other) e ∙ ap (λ (b : Bool). b || contains_text s other) (sym (or_false (bytes_eq other name)))
    ∙ sym (ap (λ (w : Member). list_any (bytes_eq other) (method_names (member_tree w)) || contains_text s other) is)
noted (Err z) m name abi sig text s n is e u = tt

pub passed_none : (ms : List Member) (g : Used) (s : BTreeSet (String Global)) → s.keys ≡ [] → Passed ms 0 g g s
passed_none ms g s e = record { takes = takes_none g; names = λ name. contains_texts s name ∙ ap (λ (ks : List (String Global)). list_any (bytes_eq name) (map string_bytes ks)) e }

pub passed_all : (ms : List Member) (i : ℕ) (g h : Used) (s : BTreeSet (String Global)) → length ms ≤ i → Passed ms i g h s → Takes (lines_say (members_lines [] (map member_tree ms))) g h
passed_all ms i g h s all p = few_all ms i g h all p.takes

-- a member of each kind, as it was taken
pub method_taken : {X : Type 0} (r : Result Unit X) (m : Member) (name abi : List ℕ) (sig : Signature) (repeated : Bool) (g h : Used) → m ≡ Method name abi sig
    → OnOk r (Takes (lines_say (method_lines_if repeated name abi (signature_tree sig))) g h) → OnOk r (Takes (lines_say (member_lines_if repeated (member_tree m))) g h)
method_taken (Ok x) m name abi sig repeated g h is t = subst (λ (w : Member). Takes (lines_say (member_lines_if repeated (member_tree w))) g h) (sym is) t
method_taken (Err z) m name abi sig repeated g h is t = tt

pub property_taken : {X : Type 0} (r : Result Unit X) (m : Member) (name : List ℕ) (ty : TypeUse) (put repeated : Bool) (g h : Used) → m ≡ Property name ty put
    → OnOk r (Takes (names_alone (names_in_use (tree_of ty))) g h) → OnOk r (Takes (lines_say (member_lines_if repeated (member_tree m))) g h)
property_taken r m name ty put repeated g h is t =
    takes_only r (names_alone (names_in_use (tree_of ty))) (lines_say (member_lines_if repeated (member_tree m))) g h
    (subst (λ (w : Member). Same (names_alone (names_in_use (tree_of ty))) (lines_say (member_lines_if repeated (member_tree w)))) (sym is) (property_says [] name (tree_of ty) put)) t

pub event_taken : {X : Type 0} (r : Result Unit X) (m : Member) (name : List ℕ) (ty : TypeUse) (repeated : Bool) (g h : Used) → m ≡ Event name ty
    → OnOk r (Takes (event_says (tree_of ty)) g h) → OnOk r (Takes (lines_say (member_lines_if repeated (member_tree m))) g h)
event_taken r m name ty repeated g h is t =
    takes_only r (event_says (tree_of ty)) (lines_say (member_lines_if repeated (member_tree m))) g h
    (subst (λ (w : Member). Same (event_says (tree_of ty)) (lines_say (member_lines_if repeated (member_tree w)))) (sym is) (event_is [] name (tree_of ty))) t
