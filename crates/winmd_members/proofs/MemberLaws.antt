-- Members, one at a time.
use Rattle.std.proofs.Common.{◌≡◌, ℕ, Bool, List, [], ◌∷◌, ◌++◌, map, Result, Ok, Err, refl, sym, ap, ◌∙◌, append_assoc}
use Rattle.std.proofs.lemmas.List.{map-append}
use Rattle.md_schema.specs.declared.faults.ImageFault.{ImageFault}
use Rattle.md_schema.specs.declared.table.Table.TheVariants as tables
use Rattle.ranked.specs.declared.stop.Stop.{Stop}
use Rattle.ranked.specs.declared.stop.Stop.TheVariants.{Memory, Refused}
use Rattle.winmd_rows.specs.Faults.{Fault, Faulty, ◌>>=◌}
use Rattle.winmd_lines.specs.Cells.{Numbered, Tables, at, bytes_in, name_in}
use Rattle.winmd_sets.specs.Blobs.{property_of}
use Rattle.winmd_sets.specs.Interfaces.{Item, OfMethod, OfProperty, OfEvent, abi_of, member_of, members_of, numbered_name, times}
use Rattle.winmd_sets.specs.Members.{method_names}
use Rattle.winmd_sets.specs.Methods.{signature_of}
use Rattle.wr_base.specs.Trees.{MemberTree, member_tree, method, property}
use Rattle.wr_base.specs.declared.declaration.Member.{Member}
use Rattle.winmd_source.specs.Behind.{behind}
use Rattle.winmd_cells.specs.declared.image.Image.{Image}
use Rattle.winmd_members.specs.declared.items.Item.{Item as CodeItem}
use Rattle.winmd_cells.specs.Given.{Fails}
use Rattle.winmd_members.specs.Earlier.{member_by, property_type}
use Rattle.winmd_members.specs.Seen.{item_seen}

-- the members behind one
abbrev after : Tables → List (List ℕ) → List Item → Result MemberTree Fault → Result (List MemberTree) Fault
after t earlier xs o = o >>= λ member. members_of t (method_names member ++ earlier) xs >>= λ others. Ok (member ∷ others)

regroup : (front : List MemberTree) (y : MemberTree) (o : Result (List MemberTree) Fault) → ((o >>= λ ys. Ok (y ∷ ys)) >>= λ xs. Ok (front ++ xs)) ≡ behind (front ++ y ∷ []) o
regroup front y (Ok ys) = ap (λ xs. Ok xs) (sym (append_assoc front (y ∷ []) ys))
regroup front y (Err e) = refl

goes_on : (t : Tables) (earlier : List (List ℕ)) (front : List MemberTree) (a : Item) (b : MemberTree) (more : List Item) (whole : Result (List MemberTree) Fault)
    → member_of t earlier a ≡ Ok b → behind front (members_of t earlier (a ∷ more)) ≡ whole → behind (front ++ b ∷ []) (members_of t (method_names b ++ earlier) more) ≡ whole
goes_on t earlier front a b more whole was so_far =
    sym (regroup front b (members_of t (method_names b ++ earlier) more)) ∙ ap (λ o. behind front (after t earlier more o)) (sym was) ∙ so_far

member_stops : (t : Tables) (earlier : List (List ℕ)) (front : List MemberTree) (x : Item) (xs : List Item) (e : Fault) (whole : Result (List MemberTree) Fault)
    → member_of t earlier x ≡ Err e → behind front (members_of t earlier (x ∷ xs)) ≡ whole → whole ≡ Err e
member_stops t earlier front x xs e whole is so_far = sym so_far ∙ ap (λ o. behind front (after t earlier xs o)) is

-- ---- by counts

method_same : (t : Tables) (row : Numbered) (count : List ℕ → ℕ) (earlier : List (List ℕ)) → ((text : List ℕ) → count text ≡ times text earlier) → (named : Result (List ℕ) Fault)
    → (named >>= λ name. abi_of t row (numbered_name name (count name)) >>= λ abi. signature_of t row >>= λ sig. Ok (method name abi sig))
    ≡ (named >>= λ name. abi_of t row (numbered_name name (times name earlier)) >>= λ abi. signature_of t row >>= λ sig. Ok (method name abi sig))
method_same t row count earlier same (Ok name) = ap (λ (n : ℕ). abi_of t row (numbered_name name n) >>= λ abi. signature_of t row >>= λ sig. Ok (method name abi sig)) (same name)
method_same t row count earlier same (Err e) = refl

-- two steps, and what follows them
two_steps : {A B C : Type 0} (one : Result A Fault) (f : A → Result B Fault) (g : B → Result C Fault) → ((one >>= f) >>= g) ≡ (one >>= λ x. (f x >>= g))
two_steps (Ok x) f g = refl
two_steps (Err e) f g = refl

property_same : (t : Tables) (row : Numbered) (put : Bool) (named : Result (List ℕ) Fault)
    → (named >>= λ name. property_type t row >>= λ kind. Ok (property name kind put))
    ≡ (named >>= λ name. bytes_in row.1 2 >>= λ blob. property_of t (at t tables.Property row.0 2) blob >>= λ kind. Ok (property name kind put))
property_same t row put (Ok name) = two_steps (bytes_in row.1 2) (λ blob. property_of t (at t tables.Property row.0 2) blob) (λ kind. Ok (property name kind put))
property_same t row put (Err e) = refl

same_member : (t : Tables) (count : List ℕ → ℕ) (earlier : List (List ℕ)) → ((text : List ℕ) → count text ≡ times text earlier) → (x : Item) → member_by t count x ≡ member_of t earlier x
same_member t count earlier same (OfMethod row) = method_same t row count earlier same (name_in t tables.MethodDef row 3)
same_member t count earlier same (OfProperty row put) = property_same t row put (name_in t tables.Property row 1)
same_member t count earlier same (OfEvent row) = refl

-- one member more
pub member_turn : (image : Image) (t : Tables) (count : List ℕ → ℕ) (earlier : List (List ℕ)) (members new : List Member) (x : Member) (first : CodeItem) (more rest : List CodeItem) (whole : Result (List MemberTree) Fault)
    → ((text : List ℕ) → count text ≡ times text earlier) → rest ≡ first ∷ more → member_by t count (item_seen image first) ≡ Ok (member_tree x) → new ≡ members ++ x ∷ []
    → behind (map member_tree members) (members_of t earlier (map (item_seen image) rest)) ≡ whole
    → behind (map member_tree new) (members_of t (method_names (member_tree x) ++ earlier) (map (item_seen image) more)) ≡ whole
member_turn image t count earlier members new x first more rest whole same here was pushed so_far =
    ap (λ xs. behind xs (members_of t (method_names (member_tree x) ++ earlier) (map (item_seen image) more))) (ap (map member_tree) pushed ∙ map-append member_tree members (x ∷ []))
    ∙ goes_on t earlier (map member_tree members) (item_seen image first) (member_tree x) (map (item_seen image) more) whole (sym (same_member t count earlier same (item_seen image first)) ∙ was)
    (ap (λ xs. behind (map member_tree members) (members_of t earlier (map (item_seen image) xs))) (sym here) ∙ so_far)

-- a member that can't be read
pub member_fails : (image : Image) (t : Tables) (count : List ℕ → ℕ) (earlier : List (List ℕ)) (members : List Member) (first : CodeItem) (more rest : List CodeItem) (e : Stop ImageFault) (whole : Result (List MemberTree) Fault)
    → ((text : List ℕ) → count text ≡ times text earlier) → rest ≡ first ∷ more → Fails e (member_by t count (item_seen image first))
    → behind (map member_tree members) (members_of t earlier (map (item_seen image) rest)) ≡ whole → Fails e whole
member_fails image t count earlier members first more rest Memory whole same here was so_far = tt
member_fails image t count earlier members first more rest (Refused f) whole same here was so_far =
    member_stops t earlier (map member_tree members) (item_seen image first) (map (item_seen image) more) (Faulty f) whole (sym (same_member t count earlier same (item_seen image first)) ∙ was)
    (ap (λ xs. behind (map member_tree members) (members_of t earlier (map (item_seen image) xs))) (sym here) ∙ so_far)
