-- Members behind methods of given names, one by one.
use Rattle.std.proofs.Common.{◌≡◌, ℕ, ◌+◌, ◌<◌, Bool, List, [], ◌∷◌, ◌++◌, length, drop, get_or, map, refl, sym, ap, ◌∙◌}
use Rattle.std.specs.Prelude.{◌||◌, String}
use Rattle.std.specs.List.{list_any}
use Rattle.std.specs.Str.{bytes_eq}
use Rattle.std.specs.declared.alloc.Global.{Global}
use Rattle.std.specs.BTreeSet.{BTreeSet, contains_text}
use Rattle.std.proofs.lemmas.List.{drop_more}
use Rattle.std.proofs.lemmas.List.Folds.{list_any-append}
use Rattle.row_writer.specs.Known.{Values}
use Rattle.winmd_lines.specs.Lines.{Line}
use Rattle.winmd_lines.specs.Names.{Names}
use Rattle.winmd_sets.specs.Members.{member_lines, members_lines, method_names}
use Rattle.wr_base.specs.declared.declaration.Member.{Member}
use Rattle.wr_base.specs.Trees.{MemberTree, method, property, event, member_tree}
use Rattle.part_rows.specs.Grown.{with_lines}
use Rattle.part_rows.proofs.GrownLaws.{with_both}
use Rattle.winmd_uses.specs.Earlier.{method_lines_if, texts_in}
use Rattle.winmd_uses.proofs.MemberLaws.{contains_texts}

-- one set of names is as good as another of the same names
member_same : (m : MemberTree) (a b : List (List ℕ)) → ((name : List ℕ) → list_any (bytes_eq name) a ≡ list_any (bytes_eq name) b) → member_lines a m ≡ member_lines b m
member_same (method name abi sig) a b h = ap (λ (t : Bool). method_lines_if t name abi sig) (h name)
member_same (property name u put) a b h = refl
member_same (event name u) a b h = refl

members_same : (ms : List MemberTree) (a b : List (List ℕ)) → ((name : List ℕ) → list_any (bytes_eq name) a ≡ list_any (bytes_eq name) b) → members_lines a ms ≡ members_lines b ms
members_same [] a b h = refl
members_same (m ∷ ms) a b h =
    ap (λ (ls : List Line). ls ++ members_lines (method_names m ++ a) ms) (member_same m a b h)
    ∙ ap (λ (ls : List Line). member_lines b m ++ ls) (members_same ms (method_names m ++ a) (method_names m ++ b)
    (λ name. list_any-append (bytes_eq name) (method_names m) a ∙ ap (λ (t : Bool). list_any (bytes_eq name) (method_names m) || t) (h name) ∙ sym (list_any-append (bytes_eq name) (method_names m) b)))

-- one member more, whose name is put in
pub members_step : (names : Names) (all : List Member) (i : ℕ) (x : Member) (s n : BTreeSet (String Global)) (old new : Values) → i < length all → get_or all i x ≡ x
    → new ≡ with_lines names (member_lines (texts_in s) (member_tree x)) old
    → ((other : List ℕ) → contains_text n other ≡ (list_any (bytes_eq other) (method_names (member_tree x)) || contains_text s other))
    → with_lines names (members_lines (texts_in n) (map member_tree (drop (i + 1) all))) new ≡ with_lines names (members_lines (texts_in s) (map member_tree (drop i all))) old
members_step names all i x s n old new lt here e h =
    let rest : List Member = drop (i + 1) all in
    let m : MemberTree = member_tree x in
    let more : List (List ℕ) = method_names m ++ texts_in s in
    let split : drop i all ≡ x ∷ rest = drop_more all i x lt ∙ ap (λ (y : Member). y ∷ rest) here in
    let same : members_lines (texts_in n) (map member_tree rest) ≡ members_lines more (map member_tree rest) =
    members_same (map member_tree rest) (texts_in n) more
    (λ o. sym (contains_texts n o) ∙ h o ∙ ap (λ (t : Bool). list_any (bytes_eq o) (method_names m) || t) (contains_texts s o) ∙ sym (list_any-append (bytes_eq o) (method_names m) (texts_in s))) in
    ap (λ (ls : List Line). with_lines names ls new) same
    ∙ ap (λ (rows : Values). with_lines names (members_lines more (map member_tree rest)) rows) e
    ∙ sym (with_both names (member_lines (texts_in s) m) (members_lines more (map member_tree rest)) old)
    ∙ ap (λ (ms : List Member). with_lines names (members_lines (texts_in s) (map member_tree ms)) old) (sym split)

-- a test on the trees of members
pub any_mapped : (p : MemberTree → Bool) (ms : List Member) → list_any (λ m. p (member_tree m)) ms ≡ list_any p (map member_tree ms)
any_mapped p [] = refl
any_mapped p (m ∷ ms) = ap (λ (b : Bool). p (member_tree m) || b) (any_mapped p ms)
