-- Items, one at a time.
use Rattle.std.proofs.Common.{◌≡◌, ◌==◌, ℕ, Bool, true, false, cond, List, [], ◌∷◌, ◌++◌, map, Result, Ok, Err, refl, sym, ap, ◌∙◌, append_assoc}
use Rattle.md_schema.specs.declared.table.Table.TheVariants as tables
use Rattle.md_schema.specs.declared.faults.ImageKind.TheVariants.{BadShape}
use Rattle.md_schema.specs.declared.faults.ImageFault.{ImageFault}
use Rattle.ranked.specs.declared.stop.Stop.{Stop}
use Rattle.ranked.specs.declared.stop.Stop.TheVariants.{Memory, Refused}
use Rattle.winmd_cells.specs.Given.{Fails}
use Rattle.winmd_rows.specs.Faults.{Fault, Faulty, fault, ◌>>=◌}
use Rattle.winmd_lines.specs.Cells.{Numbered, Tables, at}
use Rattle.winmd_sets.specs.Interfaces.{Role, Method, Getter, Setter, Adder, Remover, Item, OfProperty, OfEvent, items_of, with_item}
use Rattle.winmd_source.specs.Behind.{behind}
use Rattle.std.proofs.lemmas.List.{map-append}
use Rattle.winmd_cells.specs.declared.image.Image.{Image}
use Rattle.winmd_members.specs.declared.items.Item.{Item as CodeItem}
use Rattle.winmd_members.specs.declared.roles.Played.{Played}
use Rattle.winmd_members.specs.Seen.{item_seen, played_seen}
use Rattle.winmd_members.specs.Next.{Next, next_of}

abbrev after : Tables → Next → Result (List Item) Fault
after t next = next >>= λ found. with_item found.0 (items_of t found.1)

if_same : (t : Tables) (b : Bool) (item : Item) (rest : List (Role × Numbered)) (offset : ℕ) → cond b (with_item item (items_of t rest)) (fault BadShape offset) ≡ after t (cond b (Ok (item, rest)) (fault BadShape offset))
if_same t true item rest offset = refl
if_same t false item rest offset = refl

one_by_one : (t : Tables) (x : Role × Numbered) (xs : List (Role × Numbered)) → items_of t (x ∷ xs) ≡ after t (next_of t x xs)
one_by_one t (Method, m) xs = refl
one_by_one t (Getter p, m) [] = refl
one_by_one t (Getter p, m) ((Method, n) ∷ xs) = refl
one_by_one t (Getter p, m) ((Getter q, n) ∷ xs) = refl
one_by_one t (Getter p, m) ((Setter q, n) ∷ xs) = if_same t (p.0 == q.0) (OfProperty p true) xs (at t tables.MethodDef n.0 0)
one_by_one t (Getter p, m) ((Adder q, n) ∷ xs) = refl
one_by_one t (Getter p, m) ((Remover q, n) ∷ xs) = refl
one_by_one t (Adder p, m) [] = refl
one_by_one t (Adder p, m) ((Method, n) ∷ xs) = refl
one_by_one t (Adder p, m) ((Getter q, n) ∷ xs) = refl
one_by_one t (Adder p, m) ((Setter q, n) ∷ xs) = refl
one_by_one t (Adder p, m) ((Adder q, n) ∷ xs) = refl
one_by_one t (Adder p, m) ((Remover q, n) ∷ xs) = if_same t (p.0 == q.0) (OfEvent p) xs (at t tables.MethodDef m.0 0)
one_by_one t (Setter p, m) xs = refl
one_by_one t (Remover p, m) xs = refl

regroup : (front : List Item) (y : Item) (o : Result (List Item) Fault) → ((o >>= λ ys. Ok (y ∷ ys)) >>= λ xs. Ok (front ++ xs)) ≡ behind (front ++ y ∷ []) o
regroup front y (Ok ys) = ap (λ xs. Ok xs) (sym (append_assoc front (y ∷ []) ys))
regroup front y (Err e) = refl

pub item_on : (t : Tables) (front : List Item) (x : Role × Numbered) (xs : List (Role × Numbered)) (item : Item) (rest : List (Role × Numbered)) (whole : Result (List Item) Fault)
    → next_of t x xs ≡ Ok (item, rest) → behind front (items_of t (x ∷ xs)) ≡ whole → behind (front ++ item ∷ []) (items_of t rest) ≡ whole
item_on t front x xs item rest whole is so_far =
    sym (regroup front item (items_of t rest)) ∙ ap (behind front) (sym (one_by_one t x xs ∙ ap (after t) is)) ∙ so_far

pub item_stops : (t : Tables) (front : List Item) (x : Role × Numbered) (xs : List (Role × Numbered)) (e : Fault) (whole : Result (List Item) Fault)
    → next_of t x xs ≡ Err e → behind front (items_of t (x ∷ xs)) ≡ whole → whole ≡ Err e
item_stops t front x xs e whole is so_far = sym so_far ∙ ap (behind front) (one_by_one t x xs ∙ ap (after t) is)

-- one item more
pub item_turn : (image : Image) (t : Tables) (items new : List CodeItem) (x : CodeItem) (first : Played) (more others rest : List Played) (whole : Result (List Item) Fault)
    → rest ≡ first ∷ more → next_of t (played_seen image first) (map (played_seen image) more) ≡ Ok (item_seen image x, map (played_seen image) others) → new ≡ items ++ x ∷ []
    → behind (map (item_seen image) items) (items_of t (map (played_seen image) rest)) ≡ whole → behind (map (item_seen image) new) (items_of t (map (played_seen image) others)) ≡ whole
item_turn image t items new x first more others rest whole here is pushed so_far =
    ap (λ xs. behind xs (items_of t (map (played_seen image) others))) (ap (map (item_seen image)) pushed ∙ map-append (item_seen image) items (x ∷ []))
    ∙ item_on t (map (item_seen image) items) (played_seen image first) (map (played_seen image) more) (item_seen image x) (map (played_seen image) others) whole is
    (ap (λ xs. behind (map (item_seen image) items) (items_of t (map (played_seen image) xs))) (sym here) ∙ so_far)

-- an item that isn't there
pub item_fails : (image : Image) (t : Tables) (items : List CodeItem) (first : Played) (more rest : List Played) (e : Stop ImageFault) (whole : Result (List Item) Fault)
    → rest ≡ first ∷ more → Fails e (next_of t (played_seen image first) (map (played_seen image) more))
    → behind (map (item_seen image) items) (items_of t (map (played_seen image) rest)) ≡ whole → Fails e whole
item_fails image t items first more rest Memory whole here is so_far = tt
item_fails image t items first more rest (Refused f) whole here is so_far =
    item_stops t (map (item_seen image) items) (played_seen image first) (map (played_seen image) more) (Faulty f) whole is
    (ap (λ xs. behind (map (item_seen image) items) (items_of t (map (played_seen image) xs))) (sym here) ∙ so_far)
