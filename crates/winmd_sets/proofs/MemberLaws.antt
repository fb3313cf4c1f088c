-- The members of an interface, from its methods.
use Rattle.std.proofs.Common.{◌≡◌, ℕ, suc, ◌≤◌, Bool, true, false, leb, List, [], ◌∷◌, ◌++◌, length, map, Ok, refl, sym, ap, subst, ◌∙◌, append_assoc}
use Rattle.std.specs.Prelude.{◌==◌, ⊤, codes}
use Rattle.std.proofs.lemmas.Bool.{eq-eqb, le-leb}
use Rattle.md_schema.specs.declared.table.Table.TheVariants as tables
use Rattle.wr_base.specs.Paths.{is_identifier}
use Rattle.winmd_rows.specs.Faults.{each, ◌>>=◌}
use Rattle.winmd_rows.specs.Values.{Offsets, stated_row}
use Rattle.winmd_lines.specs.Lines.{Line, line}
use Rattle.winmd_sets.specs.Members.{when, param_lines, getter, setter, adder, remover, member_lines, members_lines}
use Rattle.winmd_lines.specs.Names.{Names, Counts, none, is_in, behind, written, type_value}
use Rattle.winmd_lines.specs.Positions.{behind_all, Carries, Apart, AllOwned, owned}
use Rattle.winmd_lines.specs.Cells.{Numbered, Tables, at, numbered, row_at}
use Rattle.winmd_sets.specs.Interfaces.{Role, Method, Getter, Setter, Adder, Remover, role_of, Item, OfMethod, OfProperty, OfEvent, items_of, members_of}
use Rattle.winmd_sets.specs.Uses.{use_of_cell}
use Rattle.winmd_sets.specs.Rows.{all_lines}
use Rattle.wr_base.specs.Trees.{DeclTree, UseTree, MemberTree, method, property, event, SignatureTree}
use Rattle.winmd_sets.proofs.AttributeLaws.{tables_of}
use Rattle.winmd_lines.proofs.LineLaws.{row_of, row_is, written-append, behind_all-append, behind-none}
use Rattle.winmd_sets.proofs.MethodLaws.{MethodOk, method_line, method_own, is_overload, overload_line, own_none, any_method, member_read}
use Rattle.winmd_sets.proofs.RoleLaws.{plain_role, accessor_role, meaning_line, owned_params}
use Rattle.winmd_sets.proofs.ShapeLaws.{property_line, event_line, apart_join, carries_join, of_members, overloads_apart, params_carried, semantics_apart}
use Rattle.winmd_sets.proofs.BlobLaws.{property_again}
use Rattle.winmd_sets.proofs.TypeLaws.{none_written}
use Rattle.winmd_sets.proofs.BlobLaws.{UseOk}

abbrev get_line : List ℕ → UseTree → Line
get_line name u = any_method 0x0DC6 0 (codes "get_" ++ name) (getter u)

abbrev put_line : List ℕ → UseTree → Line
put_line name u = any_method 0x0DC6 0 (codes "put_" ++ name) (setter u)

abbrev add_line : List ℕ → UseTree → Line
add_line name u = any_method 0x0DC6 0 (codes "add_" ++ name) (adder u)

abbrev remove_line : List ℕ → Line
remove_line name = any_method 0x0DC6 0 (codes "remove_" ++ name) remover

-- ---- what the methods of members are, with their rows

roles_list : Names → Counts → List (List ℕ) → List MemberTree → List (Role × Numbered)
roles_list names b earlier [] = []
roles_list names b earlier (method name abi sig ∷ ms) =
    (Method, (suc (b tables.MethodDef), row_of names b (method_line name sig))) ∷ roles_list names (behind_all b (member_lines earlier (method name abi sig))) (name ∷ earlier) ms
roles_list names b earlier (property name u false ∷ ms) =
    (Getter (suc (b tables.Property), row_of names b (property_line name u)), (suc (b tables.MethodDef), row_of names (behind b (property_line name u)) (get_line name u)))
    ∷ roles_list names (behind_all b (member_lines earlier (property name u false))) earlier ms
roles_list names b earlier (property name u true ∷ ms) =
    (Getter (suc (b tables.Property), row_of names b (property_line name u)), (suc (b tables.MethodDef), row_of names (behind b (property_line name u)) (get_line name u)))
    ∷ (Setter (suc (b tables.Property), row_of names b (property_line name u)), (suc (suc (b tables.MethodDef)), row_of names (behind_all b (property_line name u ∷ get_line name u ∷ meaning_line tables.Property 2 ∷ [])) (put_line name u)))
    ∷ roles_list names (behind_all b (member_lines earlier (property name u true))) earlier ms
roles_list names b earlier (event name u ∷ ms) =
    (Adder (suc (b tables.Event), row_of names b (event_line name u)), (suc (b tables.MethodDef), row_of names (behind b (event_line name u)) (add_line name u)))
    ∷ (Remover (suc (b tables.Event), row_of names b (event_line name u)), (suc (suc (b tables.MethodDef)), row_of names (behind_all b (event_line name u ∷ add_line name u ∷ line tables.Param [] ∷ meaning_line tables.Event 8 ∷ [])) (remove_line name)))
    ∷ roles_list names (behind_all b (member_lines earlier (event name u))) earlier ms

items_list : Names → Counts → List (List ℕ) → List MemberTree → List Item
items_list names b earlier [] = []
items_list names b earlier (method name abi sig ∷ ms) = OfMethod (suc (b tables.MethodDef), row_of names b (method_line name sig)) ∷ items_list names (behind_all b (member_lines earlier (method name abi sig))) (name ∷ earlier) ms
items_list names b earlier (property name u put ∷ ms) = OfProperty (suc (b tables.Property), row_of names b (property_line name u)) put ∷ items_list names (behind_all b (member_lines earlier (property name u put))) earlier ms
items_list names b earlier (event name u ∷ ms) = OfEvent (suc (b tables.Event), row_of names b (event_line name u)) ∷ items_list names (behind_all b (member_lines earlier (event name u))) earlier ms

-- put together: a getter alone stands before no setter, since no member begins with one
items_read : (t : Tables) (names : Names) (b : Counts) (earlier : List (List ℕ)) (ms : List MemberTree) → items_of t (roles_list names b earlier ms) ≡ Ok (items_list names b earlier ms)
unfolding roles_list items_list
items_read t names b earlier [] = refl
items_read t names b earlier (method name abi sig ∷ ms) = rw (items_read t names (behind_all b (member_lines earlier (method name abi sig))) (name ∷ earlier) ms) refl
items_read t names b earlier (property name u true ∷ ms) =
    let same : (suc (b tables.Property) == suc (b tables.Property)) ≡ true = eq-eqb _ _ refl in
    rw (same, items_read t names (behind_all b (member_lines earlier (property name u true))) earlier ms) refl
items_read t names b earlier (event name u ∷ ms) =
    let same : (suc (b tables.Event) == suc (b tables.Event)) ≡ true = eq-eqb _ _ refl in
    rw (same, items_read t names (behind_all b (member_lines earlier (event name u))) earlier ms) refl
items_read t names b earlier (property name u false ∷ []) = refl
items_read t names b earlier (property name u false ∷ method other abi sig ∷ ms) = rw (items_read t names (behind_all b (member_lines earlier (property name u false))) earlier (method other abi sig ∷ ms)) refl
items_read t names b earlier (property name u false ∷ property other w true ∷ ms) = rw (items_read t names (behind_all b (member_lines earlier (property name u false))) earlier (property other w true ∷ ms)) refl
items_read t names b earlier (property name u false ∷ property other w false ∷ ms) = rw (items_read t names (behind_all b (member_lines earlier (property name u false))) earlier (property other w false ∷ ms)) refl
items_read t names b earlier (property name u false ∷ event other w ∷ ms) = rw (items_read t names (behind_all b (member_lines earlier (property name u false))) earlier (event other w ∷ ms)) refl

-- ---- what each method is

-- the row of a line right behind a position, and how many rows stand there then
line_row : (names : Names) (ds : List DeclTree) (offset : Offsets) (pre : List Line) (l : Line) (post : List Line) (o : ℕ) → all_lines names ds ≡ pre ++ l ∷ post → is_in tables.Property l ≡ true
    → row_at (tables_of names ds offset) tables.Property (suc (behind_all none pre tables.Property)) o ≡ Ok (row_of names (behind_all none pre) l)
line_row names ds offset pre l post o e g = row_is (tables_of names ds offset) names (all_lines names ds) pre l post tables.Property o (record { is = refl }) e g

event_row : (names : Names) (ds : List DeclTree) (offset : Offsets) (pre : List Line) (l : Line) (post : List Line) (o : ℕ) → all_lines names ds ≡ pre ++ l ∷ post → is_in tables.Event l ≡ true
    → row_at (tables_of names ds offset) tables.Event (suc (behind_all none pre tables.Event)) o ≡ Ok (row_of names (behind_all none pre) l)
event_row names ds offset pre l post o e g = row_is (tables_of names ds offset) names (all_lines names ds) pre l post tables.Event o (record { is = refl }) e g

own_plain : (names : Names) (before : Counts) (earlier : List (List ℕ)) (name abi : List ℕ) (sig : SignatureTree) → owned names before tables.MethodSemantics 1 tables.MethodDef (method_own earlier name abi sig) ≡ []
own_plain names before earlier name abi sig = owned_params names before 1 sig.params (when (is_overload earlier name abi) (overload_line abi ∷ [])) ∙ over (is_overload earlier name abi)
  where
    over : (b : Bool) → owned names (behind_all before (param_lines 1 sig.params)) tables.MethodSemantics 1 tables.MethodDef (when b (overload_line abi ∷ [])) ≡ []
    over true = refl
    over false = refl

roles_read : (names : Names) (ds : List DeclTree) (offset : Offsets) (pre : List Line) (earlier : List (List ℕ)) (ms : List MemberTree) (post : List Line) → all_lines names ds ≡ pre ++ (members_lines earlier ms ++ post)
    → AllOwned tables.MethodSemantics 1 (all_lines names ds) → Apart tables.MethodSemantics 1 tables.MethodDef post
    → each (role_of (tables_of names ds offset)) (numbered (suc (behind_all none pre tables.MethodDef)) (map stated_row (written names (behind_all none pre) (members_lines earlier ms) tables.MethodDef))) ≡ Ok (roles_list names (behind_all none pre) earlier ms)
unfolding roles_list
roles_read names ds offset pre earlier [] post e o a = refl
roles_read names ds offset pre earlier (method name abi sig ∷ ms) post e o a =
    let t : Tables = tables_of names ds offset in
    let before : Counts = behind_all none pre in
    let l : Line = method_line name sig in
    let after : Counts = behind before l in
    let own : List Line = method_own earlier name abi sig in
    let rest : List Line = members_lines (name ∷ earlier) ms in
    let split : all_lines names ds ≡ pre ++ l ∷ (own ++ (rest ++ post)) = e ∙ ap (λ (x : List Line). pre ++ l ∷ x) (append_assoc own rest post) in
    let next : all_lines names ds ≡ (pre ++ l ∷ own) ++ (rest ++ post) = split ∙ sym (append_assoc pre (l ∷ own) (rest ++ post)) in
    let apart : Apart tables.MethodSemantics 1 tables.MethodDef (rest ++ post) = apart_join tables.MethodSemantics 1 tables.MethodDef rest post (of_members (Apart tables.MethodSemantics 1 tables.MethodDef) semantics_apart (name ∷ earlier) ms) a in
    let this = plain_role names ds offset pre l own (rest ++ post) (row_of names before l) split refl o (own_none earlier name abi sig) apart (own_plain names after earlier name abi sig) in
    let later0 = roles_read names ds offset (pre ++ l ∷ own) (name ∷ earlier) ms post next o a in
    let counts : behind_all none (pre ++ l ∷ own) ≡ behind_all after own = behind_all-append none pre (l ∷ own) in
    let later1 = subst (λ (b : Counts). each (role_of t) (numbered (suc (b tables.MethodDef)) (map stated_row (written names b rest tables.MethodDef))) ≡ Ok (roles_list names b (name ∷ earlier) ms)) counts later0 in
    let number_is : behind_all after own tables.MethodDef ≡ suc (before tables.MethodDef) = behind-none after own tables.MethodDef (own_none earlier name abi sig) in
    let later : each (role_of t) (numbered (suc (suc (before tables.MethodDef))) (map stated_row (written names (behind_all after own) rest tables.MethodDef))) ≡ Ok (roles_list names (behind_all after own) (name ∷ earlier) ms) =
    subst (λ (k : ℕ). each (role_of t) (numbered (suc k) (map stated_row (written names (behind_all after own) rest tables.MethodDef))) ≡ Ok (roles_list names (behind_all after own) (name ∷ earlier) ms)) number_is later1 in
    let rows : written names after (own ++ rest) tables.MethodDef ≡ written names (behind_all after own) rest tables.MethodDef = written-append names after own rest tables.MethodDef ∙ rw (none_written names after own tables.MethodDef (own_none earlier name abi sig)) refl in
    rw (rows, this, later) refl
roles_read names ds offset pre earlier (property name u false ∷ ms) post e o a =
    let t : Tables = tables_of names ds offset in
    let before : Counts = behind_all none pre in
    let p : Line = property_line name u in
    let g : Line = get_line name u in
    let m : Line = meaning_line tables.Property 2 in
    let rest : List Line = members_lines earlier ms in
    let at_get : behind_all none (pre ++ p ∷ []) ≡ behind before p = behind_all-append none pre (p ∷ []) in
    let split : all_lines names ds ≡ (pre ++ p ∷ []) ++ g ∷ ((m ∷ []) ++ (rest ++ post)) = e ∙ sym (append_assoc pre (p ∷ []) (g ∷ m ∷ (rest ++ post))) in
    let apart : Apart tables.MethodSemantics 1 tables.MethodDef (rest ++ post) = apart_join tables.MethodSemantics 1 tables.MethodDef rest post (of_members (Apart tables.MethodSemantics 1 tables.MethodDef) semantics_apart earlier ms) a in
    let there = λ (k : ℕ). ap (λ (b : Counts). row_at t tables.Property (b tables.Property) k) at_get ∙ line_row names ds offset pre p (g ∷ m ∷ (rest ++ post)) k e refl in
    let get0 = accessor_role names ds offset (pre ++ p ∷ []) tables.Property 2 (codes "get_" ++ name) (getter u) (rest ++ post) (row_of names (behind before p) g) (row_of names before p) (Getter (behind_all none (pre ++ p ∷ []) tables.Property, row_of names before p)) split o apart refl refl there (λ k. refl) in
    let get = rw at_get at get0 in
    let whole : List Line = p ∷ g ∷ m ∷ [] in
    let next : all_lines names ds ≡ (pre ++ whole) ++ (rest ++ post) = e ∙ sym (append_assoc pre whole (rest ++ post)) in
    let later0 = roles_read names ds offset (pre ++ whole) earlier ms post next o a in
    let later = rw (behind_all-append none pre whole) at later0 in
    rw (get, later) refl
roles_read names ds offset pre earlier (property name u true ∷ ms) post e o a =
    let t : Tables = tables_of names ds offset in
    let before : Counts = behind_all none pre in
    let p : Line = property_line name u in
    let g : Line = get_line name u in
    let m : Line = meaning_line tables.Property 2 in
    let s : Line = put_line name u in
    let setting : List Line = param_lines 1 (setter u).params ++ meaning_line tables.Property 1 ∷ [] in
    let rest : List Line = members_lines earlier ms in
    let at_get : behind_all none (pre ++ p ∷ []) ≡ behind before p = behind_all-append none pre (p ∷ []) in
    let split : all_lines names ds ≡ (pre ++ p ∷ []) ++ g ∷ ((m ∷ []) ++ (s ∷ (setting ++ (rest ++ post)))) = e ∙ sym (append_assoc pre (p ∷ []) (g ∷ m ∷ s ∷ (setting ++ (rest ++ post)))) in
    let there = λ (k : ℕ). ap (λ (b : Counts). row_at t tables.Property (b tables.Property) k) at_get ∙ line_row names ds offset pre p (g ∷ m ∷ s ∷ (setting ++ (rest ++ post))) k e refl in
    let get0 = accessor_role names ds offset (pre ++ p ∷ []) tables.Property 2 (codes "get_" ++ name) (getter u) (s ∷ (setting ++ (rest ++ post))) (row_of names (behind before p) g) (row_of names before p) (Getter (behind_all none (pre ++ p ∷ []) tables.Property, row_of names before p)) split o tt refl refl there (λ k. refl) in
    let get = rw at_get at get0 in
    let pre2 : List Line = pre ++ p ∷ g ∷ m ∷ [] in
    let at_put : behind_all none pre2 ≡ behind_all before (p ∷ g ∷ m ∷ []) = behind_all-append none pre (p ∷ g ∷ m ∷ []) in
    let split2 : all_lines names ds ≡ pre2 ++ s ∷ (setting ++ (rest ++ post)) = e ∙ sym (append_assoc pre (p ∷ g ∷ m ∷ []) (s ∷ (setting ++ (rest ++ post)))) in
    let apart : Apart tables.MethodSemantics 1 tables.MethodDef (rest ++ post) = apart_join tables.MethodSemantics 1 tables.MethodDef rest post (of_members (Apart tables.MethodSemantics 1 tables.MethodDef) semantics_apart earlier ms) a in
    let there2 = λ (k : ℕ). ap (λ (b : Counts). row_at t tables.Property (b tables.Property) k) at_put ∙ line_row names ds offset pre p (g ∷ m ∷ s ∷ (setting ++ (rest ++ post))) k e refl in
    let put0 = accessor_role names ds offset pre2 tables.Property 1 (codes "put_" ++ name) (setter u) (rest ++ post) (row_of names (behind_all before (p ∷ g ∷ m ∷ [])) s) (row_of names before p) (Setter (behind_all none pre2 tables.Property, row_of names before p)) split2 o apart refl refl there2 (λ k. refl) in
    let put_ = rw at_put at put0 in
    let whole : List Line = p ∷ g ∷ m ∷ s ∷ setting in
    let next : all_lines names ds ≡ (pre ++ whole) ++ (rest ++ post) = e ∙ sym (append_assoc pre whole (rest ++ post)) in
    let later0 = roles_read names ds offset (pre ++ whole) earlier ms post next o a in
    let later = rw (behind_all-append none pre whole) at later0 in
    rw (get, put_, later) refl
roles_read names ds offset pre earlier (event name u ∷ ms) post e o a =
    let t : Tables = tables_of names ds offset in
    let before : Counts = behind_all none pre in
    let p : Line = event_line name u in
    let g : Line = add_line name u in
    let adding : List Line = param_lines 1 (adder u).params ++ meaning_line tables.Event 8 ∷ [] in
    let s : Line = remove_line name in
    let removing : List Line = param_lines 1 remover.params ++ meaning_line tables.Event 0x10 ∷ [] in
    let rest : List Line = members_lines earlier ms in
    let at_get : behind_all none (pre ++ p ∷ []) ≡ behind before p = behind_all-append none pre (p ∷ []) in
    let split : all_lines names ds ≡ (pre ++ p ∷ []) ++ g ∷ (adding ++ (s ∷ (removing ++ (rest ++ post)))) = e ∙ sym (append_assoc pre (p ∷ []) (g ∷ (adding ++ (s ∷ (removing ++ (rest ++ post)))))) in
    let there = λ (k : ℕ). ap (λ (b : Counts). row_at t tables.Event (b tables.Event) k) at_get ∙ event_row names ds offset pre p (g ∷ (adding ++ (s ∷ (removing ++ (rest ++ post))))) k e refl in
    let get0 = accessor_role names ds offset (pre ++ p ∷ []) tables.Event 8 (codes "add_" ++ name) (adder u) (s ∷ (removing ++ (rest ++ post))) (row_of names (behind before p) g) (row_of names before p) (Adder (behind_all none (pre ++ p ∷ []) tables.Event, row_of names before p)) split o tt refl refl there (λ k. refl) in
    let get = rw at_get at get0 in
    let front : List Line = p ∷ g ∷ adding in
    let pre2 : List Line = pre ++ front in
    let at_put : behind_all none pre2 ≡ behind_all before front = behind_all-append none pre front in
    let split2 : all_lines names ds ≡ pre2 ++ s ∷ (removing ++ (rest ++ post)) = e ∙ sym (append_assoc pre front (s ∷ (removing ++ (rest ++ post)))) in
    let apart : Apart tables.MethodSemantics 1 tables.MethodDef (rest ++ post) = apart_join tables.MethodSemantics 1 tables.MethodDef rest post (of_members (Apart tables.MethodSemantics 1 tables.MethodDef) semantics_apart earlier ms) a in
    let there2 = λ (k : ℕ). ap (λ (b : Counts). row_at t tables.Event (b tables.Event) k) at_put ∙ event_row names ds offset pre p (g ∷ (adding ++ (s ∷ (removing ++ (rest ++ post))))) k e refl in
    let put0 = accessor_role names ds offset pre2 tables.Event 0x10 (codes "remove_" ++ name) remover (rest ++ post) (row_of names (behind_all before front) s) (row_of names before p) (Remover (behind_all none pre2 tables.Event, row_of names before p)) split2 o apart refl refl there2 (λ k. refl) in
    let put_ = rw at_put at put0 in
    let whole : List Line = p ∷ g ∷ (adding ++ s ∷ removing) in
    let next : all_lines names ds ≡ (pre ++ whole) ++ (rest ++ post) = e ∙ sym (append_assoc pre whole (rest ++ post)) in
    let later0 = roles_read names ds offset (pre ++ whole) earlier ms post next o a in
    let later = rw (behind_all-append none pre whole) at later0 in
    rw (get, put_, later) refl

-- ---- what each member says

pub record PropertyOk (t : Tables) (names : Names) (name : List ℕ) (u : UseTree) : Type 0 where
  pub named : is_identifier name ≡ true
  pub short : length name ≤ 255
  pub type_ok : UseOk t names 16 u

-- a cell that names this type
abbrev pub CellOk : Tables → Names → UseTree → Type 0
CellOk t names u = (o : ℕ) → use_of_cell t o (type_value names u) ≡ Ok u

pub record EventOk (t : Tables) (names : Names) (name : List ℕ) (u : UseTree) : Type 0 where
  pub named : is_identifier name ≡ true
  pub short : length name ≤ 255
  pub type_ok : CellOk t names u

abbrev pub MembersOk : Tables → Names → List (List ℕ) → List MemberTree → Type 0
MembersOk t names earlier [] = ⊤
MembersOk t names earlier (method name abi sig ∷ ms) = MethodOk t names earlier name abi sig × MembersOk t names (name ∷ earlier) ms
MembersOk t names earlier (property name u put ∷ ms) = PropertyOk t names name u × MembersOk t names earlier ms
MembersOk t names earlier (event name u ∷ ms) = EventOk t names name u × MembersOk t names earlier ms

items_said : (names : Names) (ds : List DeclTree) (offset : Offsets) (pre : List Line) (earlier : List (List ℕ)) (ms : List MemberTree) (post : List Line) → MembersOk (tables_of names ds offset) names earlier ms
    → all_lines names ds ≡ pre ++ (members_lines earlier ms ++ post) → Carries tables.MethodDef 5 tables.Param post → AllOwned tables.CustomAttribute 0 (all_lines names ds) → Apart tables.CustomAttribute 0 tables.MethodDef post
    → members_of (tables_of names ds offset) earlier (items_list names (behind_all none pre) earlier ms) ≡ Ok ms
unfolding items_list
items_said names ds offset pre earlier [] post ok e c o a = refl
items_said names ds offset pre earlier (method name abi sig ∷ ms) post ok e c o a =
    let l : Line = method_line name sig in
    let own : List Line = method_own earlier name abi sig in
    let rest : List Line = members_lines (name ∷ earlier) ms in
    let split : all_lines names ds ≡ pre ++ l ∷ (own ++ (rest ++ post)) = e ∙ ap (λ (x : List Line). pre ++ l ∷ x) (append_assoc own rest post) in
    let next : all_lines names ds ≡ (pre ++ l ∷ own) ++ (rest ++ post) = split ∙ sym (append_assoc pre (l ∷ own) (rest ++ post)) in
    let carries : Carries tables.MethodDef 5 tables.Param (rest ++ post) = carries_join tables.MethodDef 5 tables.Param rest post (of_members (Carries tables.MethodDef 5 tables.Param) params_carried (name ∷ earlier) ms) c in
    let apart : Apart tables.CustomAttribute 0 tables.MethodDef (rest ++ post) = apart_join tables.CustomAttribute 0 tables.MethodDef rest post (of_members (Apart tables.CustomAttribute 0 tables.MethodDef) overloads_apart (name ∷ earlier) ms) a in
    let this = member_read names ds offset pre earlier name abi sig (rest ++ post) ok.0 split carries o apart in
    let later0 = items_said names ds offset (pre ++ l ∷ own) (name ∷ earlier) ms post ok.1 next c o a in
    let later = rw (behind_all-append none pre (l ∷ own)) at later0 in
    rw (this, later) refl
items_said names ds offset pre earlier (property name u put ∷ ms) post ok e c o a =
    let t : Tables = tables_of names ds offset in
    let rest : List Line = members_lines earlier ms in
    let own : List Line = member_lines earlier (property name u put) in
    let next : all_lines names ds ≡ (pre ++ own) ++ (rest ++ post) = e ∙ ap (λ (x : List Line). pre ++ x) (append_assoc own rest post) ∙ sym (append_assoc pre own (rest ++ post)) in
    let later0 = items_said names ds offset (pre ++ own) earlier ms post ok.1 next c o a in
    let later = rw (behind_all-append none pre own) at later0 in
    let short : leb (length name) 255 ≡ true = le-leb _ _ ok.0.short in
    let kind = property_again t names (at t tables.Property (suc (behind_all none pre tables.Property)) 2) u ok.0.type_ok in
    rw (ok.0.named, short, kind, later) refl
items_said names ds offset pre earlier (event name u ∷ ms) post ok e c o a =
    let t : Tables = tables_of names ds offset in
    let rest : List Line = members_lines earlier ms in
    let own : List Line = member_lines earlier (event name u) in
    let next : all_lines names ds ≡ (pre ++ own) ++ (rest ++ post) = e ∙ ap (λ (x : List Line). pre ++ x) (append_assoc own rest post) ∙ sym (append_assoc pre own (rest ++ post)) in
    let later0 = items_said names ds offset (pre ++ own) earlier ms post ok.1 next c o a in
    let later = rw (behind_all-append none pre own) at later0 in
    let short : leb (length name) 255 ≡ true = le-leb _ _ ok.0.short in
    let kind = ok.0.type_ok (at t tables.Event (suc (behind_all none pre tables.Event)) 2) in
    rw (ok.0.named, short, kind, later) refl

-- from the rows of methods to the members
pub all_members : (names : Names) (ds : List DeclTree) (offset : Offsets) (pre : List Line) (ms : List MemberTree) (post : List Line) → MembersOk (tables_of names ds offset) names [] ms
    → all_lines names ds ≡ pre ++ (members_lines [] ms ++ post) → Carries tables.MethodDef 5 tables.Param post → AllOwned tables.CustomAttribute 0 (all_lines names ds) → Apart tables.CustomAttribute 0 tables.MethodDef post
    → AllOwned tables.MethodSemantics 1 (all_lines names ds) → Apart tables.MethodSemantics 1 tables.MethodDef post
    → (each (role_of (tables_of names ds offset)) (numbered (suc (behind_all none pre tables.MethodDef)) (map stated_row (written names (behind_all none pre) (members_lines [] ms) tables.MethodDef))) >>= λ roles. items_of (tables_of names ds offset) roles >>= λ items. members_of (tables_of names ds offset) [] items) ≡ Ok ms
all_members names ds offset pre ms post ok e c o a so sa =
    rw (roles_read names ds offset pre [] ms post e so sa, items_read (tables_of names ds offset) names (behind_all none pre) [] ms, items_said names ds offset pre [] ms post ok e c o a) refl
