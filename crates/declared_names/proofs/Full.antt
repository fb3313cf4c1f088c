-- No full type of what files declare is called System.Guid.
use Rattle.std.proofs.Common.{◌≡◌, ◌≢◌, ◌⊎◌, ℕ, Bool, true, false, List, [], ◌∷◌, ◌++◌, Option, None, map, inl, inr, length, codes, get_or, refl, sym, ap, subst, ◌∙◌, arith}
use Rattle.std.specs.List.{All, AllZip, flat_map}
use Rattle.std.proofs.lemmas.List.{append-nil, append_assoc}
use Rattle.std.proofs.lemmas.List.Sorted.{All-permutation}
use Rattle.std.proofs.lemmas.List.Elements.{All-nil, All-cons, All-head, All-tail, All-append, All-map, All-weaker, All-contains}
use Rattle.sig_blobs.specs.Elements.{system_guid}
use Rattle.wr_base.proofs.OrderLaws.{finds_none}
use Rattle.wr_base.specs.Declarations.{name_of, declared_as}
use Rattle.wr_base.specs.Normal.{normal}
use Rattle.wr_base.specs.Parts.{before_last, behind_last}
use Rattle.wr_base.specs.declared.declaration.Declaration.{Declaration}
use Rattle.wr_base.specs.declared.declaration.Declaration.TheVariants.{Enum, Struct, Delegate, Interface, Class}
use Rattle.wr_base.specs.declared.places.DeclPlaces.{DeclPlaces}
use Rattle.wr_base.specs.declared.type_use.TypeUse.{TypeUse}
use Rattle.wr_rules.specs.Sites.{Site, sites_of, site_name}
use Rattle.midl_tree.specs.Trees.{AttributeTree, DeclTree, enumeration, structure, delegate, interface, class, ItemTree, space, declared, ItemTrees, no_items, item_and}
use Rattle.midl_names.specs.Declares.{written_by, placed_of, Declares}
use Rattle.midl_names.specs.Items.{Item, Source, own_name, texts, prefix, full_name, item_at, items_in, items_among, items_of_source, items_of}
use Rattle.midl_names.specs.Lookup.{declared_sort}
use Rattle.placed_items.specs.Items.{written_name}
use Rattle.placed_items.specs.declared.placed.PlacedItem.{PlacedItem}
use Rattle.placed_items.specs.declared.placed.Written.{Written}
use Rattle.placed_items.specs.declared.placed.Written.TheVariants as written
use Rattle.closed_lists.specs.Closures.{IsClosing, with_list}
use Rattle.made_interfaces.specs.Made.{where_, makes_default, makes_statics, makes_factory, made_name, default_site, statics_site, factory_site, made_sites, class_site, with_id, sites_by, item_sites, raw}
use Rattle.class_synthesis.specs.Full.{in_order, IsFull}
use Rattle.declared_names.specs.Worded.{IsWorded, AreWorded}
use Rattle.declared_names.proofs.Own.{OwnDecl, OwnItem, OwnItems, worded_own}

-- ---- lists

flat_within : {X Y : Type 0} (P : Y → Type 0) (f : X → List Y) (xs : List X) → All (λ x. All P (f x)) xs → All P (flat_map f xs)
flat_within P f [] h = All-nil P
flat_within P f (x ∷ xs) h = All-append P (f x) (flat_map f xs) (All-head (λ y. All P (f y)) x xs h) (flat_within P f xs (All-tail (λ y. All P (f y)) x xs h))

where_within : {X : Type 0} (P : X → Type 0) (b : Bool) (x : X) → P x → All P (where_ b x)
where_within P true x h = All-cons P x [] h (All-nil P)
where_within P false x h = All-nil P

-- ---- what stands behind a dot

abbrev Behind : List ℕ → List ℕ → Type 0
Behind rest [] = ⊥
Behind rest (b ∷ bs) = ((b ≡ 46) × (rest ≡ bs)) ⊎ Behind rest bs

behind_more : (front rest text : List ℕ) → Behind rest text → Behind rest (front ++ text)
behind_more [] rest text h = h
behind_more (b ∷ bs) rest text h = inr (behind_more bs rest text h)

behind_dot : (front rest : List ℕ) → Behind rest (front ++ 46 ∷ rest)
behind_dot front rest = behind_more front rest (46 ∷ rest) (inl (refl, refl))

guid_behind : (rest : List ℕ) → Behind rest system_guid → rest ≡ codes "Guid"
guid_behind rest (inl h) = absurd (omega (arith, h.0))
guid_behind rest (inr (inl h)) = absurd (omega (arith, h.0))
guid_behind rest (inr (inr (inl h))) = absurd (omega (arith, h.0))
guid_behind rest (inr (inr (inr (inl h)))) = absurd (omega (arith, h.0))
guid_behind rest (inr (inr (inr (inr (inl h))))) = absurd (omega (arith, h.0))
guid_behind rest (inr (inr (inr (inr (inr (inl h)))))) = absurd (omega (arith, h.0))
guid_behind rest (inr (inr (inr (inr (inr (inr (inl h))))))) = h.1
guid_behind rest (inr (inr (inr (inr (inr (inr (inr (inl h)))))))) = absurd (omega (arith, h.0))
guid_behind rest (inr (inr (inr (inr (inr (inr (inr (inr (inl h))))))))) = absurd (omega (arith, h.0))
guid_behind rest (inr (inr (inr (inr (inr (inr (inr (inr (inr (inl h)))))))))) = absurd (omega (arith, h.0))
guid_behind rest (inr (inr (inr (inr (inr (inr (inr (inr (inr (inr (inl h))))))))))) = absurd (omega (arith, h.0))
guid_behind rest (inr (inr (inr (inr (inr (inr (inr (inr (inr (inr (inr h))))))))))) = absurd h

abbrev IsFree : List ℕ → Type 0
IsFree name = name ≢ system_guid

behind_free : (rest name : List ℕ) → Behind rest name → rest ≢ codes "Guid" → IsFree name
behind_free rest name h n = λ e. n (guid_behind rest (subst (Behind rest) e h))

-- ---- the items of files

prefix_behind : (part : List ℕ) (parts : List (List ℕ)) (own : List ℕ) → Behind own (prefix (part ∷ parts) ++ own)
prefix_behind part [] own =
    subst (Behind own) (sym (ap (λ xs. xs ++ own) (append-nil (part ++ 46 ∷ [])) ∙ append_assoc part (46 ∷ []) own)) (behind_dot part own)
prefix_behind part (p ∷ ps) own =
    subst (Behind own) (sym (append_assoc (part ++ 46 ∷ []) (prefix (p ∷ ps)) own)) (behind_more (part ++ 46 ∷ []) own (prefix (p ∷ ps) ++ own) (prefix_behind p ps own))

abbrev FreeItem : Item → Type 0
FreeItem i = IsFree (full_name i)

at_free : (file : ℕ) (around : List (List ℕ)) (groups : List (List AttributeTree)) (t : DeclTree) → OwnDecl t → All FreeItem (item_at file around groups t)
at_free file [] groups t h = All-nil FreeItem
at_free file (part ∷ parts) groups t h =
    All-cons FreeItem (record { file = file; space = part ∷ parts; attributes = flat_map (λ g. g) groups; tree = t }) []
    (behind_free (own_name t).text (prefix (part ∷ parts) ++ (own_name t).text) (prefix_behind part parts (own_name t).text) h) (All-nil FreeItem)

mutual
  in_free : (file : ℕ) (around : List (List ℕ)) (t : ItemTree) → OwnItem t → All FreeItem (items_in file around t)
  in_free file around (space name items) h = among_free file (around ++ texts name) items h
  in_free file around (declared groups tree) h = at_free file around groups tree h

  among_free : (file : ℕ) (around : List (List ℕ)) (ts : ItemTrees) → OwnItems ts → All FreeItem (items_among file around ts)
  among_free file around no_items h = All-nil FreeItem
  among_free file around (item_and t ts) h = All-append FreeItem (items_in file around t) (items_among file around ts) (in_free file around t h.0) (among_free file around ts h.1)

items_free : (sources : List Source) → AreWorded sources → All FreeItem (items_of sources)
items_free sources h = flat_within FreeItem items_of_source sources (All-weaker (λ (s : Source). IsWorded s.tree) (λ s. All FreeItem (items_of_source s)) each sources h)
  where
    each : (s : Source) → IsWorded s.tree → All FreeItem (items_of_source s)
    each s h = flat_within FreeItem (items_in s.file []) s.tree.spaces (All-weaker OwnItem (λ t. All FreeItem (items_in s.file [] t)) (in_free s.file []) s.tree.spaces (worded_own s.tree h))

item_name : (given : List Item) (i : Item) (t : DeclTree) → written_name (written_by (declared_sort given) i t) ≡ full_name i
item_name given i (enumeration e) = refl
item_name given i (structure s) = refl
item_name given i (delegate d) = refl
item_name given i (interface t) = refl
item_name given i (class c) = refl

abbrev FreeWritten : PlacedItem → Type 0
FreeWritten p = IsFree (written_name p.item)

declared_free : (sources : List Source) → AreWorded sources → All FreeWritten (Declares sources)
declared_free sources h =
    All-map FreeWritten (placed_of (declared_sort (items_of sources))) (items_of sources)
    (All-weaker FreeItem (λ i. FreeWritten (placed_of (declared_sort (items_of sources)) i)) (λ i g. subst IsFree (sym (item_name (items_of sources) i i.tree)) g) (items_of sources) (items_free sources h))

-- ---- with the interfaces that are made of classes

abbrev FreeSite : Site → Type 0
FreeSite s = IsFree (site_name s)

made_free : (owner word : List ℕ) → IsFree (made_name owner word)
made_free owner word =
    behind_free (73 ∷ (behind_last 46 owner ++ word)) (made_name owner word) (behind_dot (before_last 46 owner) (73 ∷ (behind_last 46 owner ++ word)))
    (λ e. absurd (omega (arith, ap (λ xs. get_or xs 0 0) e)))

id_name : (id : Option ℕ) (d : Declaration) → name_of (with_id id d) ≡ name_of d
id_name id (Enum name version flags cases) = refl
id_name id (Struct name version fields) = refl
id_name id (Delegate name version own invoke) = refl
id_name id (Interface name version own owner requires_ members) = refl
id_name id (Class name version fixed default has direct factories statics) = refl

kind_free : (i : PlacedItem) (w : Written) → IsFree (written_name w) → All FreeSite (sites_by i w)
kind_free i (written.Done d) h = All-cons FreeSite (record { decl = with_id i.id d; places = i.places }) [] (subst IsFree (sym (id_name i.id d)) h) (All-nil FreeSite)
kind_free i (written.Class c) h =
    All-cons FreeSite (class_site c i.places) (made_sites c i.places) h
    (All-append FreeSite (where_ (makes_default c) (default_site c i.places) ++ where_ (makes_statics c) (statics_site c i.places)) (where_ (makes_factory c) (factory_site c i.places))
    (All-append FreeSite (where_ (makes_default c) (default_site c i.places)) (where_ (makes_statics c) (statics_site c i.places))
    (where_within FreeSite (makes_default c) (default_site c i.places) (made_free c.name []))
    (where_within FreeSite (makes_statics c) (statics_site c i.places) (made_free c.name (codes "Statics"))))
    (where_within FreeSite (makes_factory c) (factory_site c i.places) (made_free c.name (codes "Factory"))))

raw_free : (items : List PlacedItem) → All FreeWritten items → All FreeSite (raw items)
raw_free items h = flat_within FreeSite item_sites items (λ k d l. kind_free (get_or items k d) (get_or items k d).item (h k d l))

-- ---- closed and in order

list_name : (whole : List TypeUse) (d : Declaration) → name_of (with_list whole d) ≡ name_of d
list_name whole (Enum name version flags cases) = refl
list_name whole (Struct name version fields) = refl
list_name whole (Delegate name version id invoke) = refl
list_name whole (Interface name version id owner requires_ members) = refl
list_name whole (Class name version fixed default has direct factories statics) = refl

normal_name : (d : Declaration) → name_of (normal d) ≡ name_of d
normal_name (Enum name version flags cases) = refl
normal_name (Struct name version fields) = refl
normal_name (Delegate name version id invoke) = refl
normal_name (Interface name version id owner requires_ members) = refl
normal_name (Class name version fixed default has direct factories statics) = refl

closed_free : (types : List Declaration) (sites closed : List Site) → AllZip (IsClosing types) sites closed → All FreeSite sites → All FreeSite closed
closed_free types [] [] h p = All-nil FreeSite
closed_free types [] (y ∷ ys) h p = absurd h
closed_free types (x ∷ xs) [] h p = absurd h
closed_free types (x ∷ xs) (y ∷ ys) h p =
    All-cons FreeSite y ys (subst IsFree (sym (ap name_of h.0.decl.2 ∙ list_name h.0.decl.0 x.decl)) (All-head FreeSite x xs p)) (closed_free types xs ys h.1 (All-tail FreeSite x xs p))

-- ---- the set

decls_free : (types : List Declaration) (places : List DeclPlaces) → length places ≡ length types → All FreeSite (sites_of types places) → All (λ d. IsFree (name_of d)) types
decls_free [] ps n h = All-nil (λ d. IsFree (name_of d))
decls_free (d ∷ ds) [] n h = absurd (omega (arith, n))
decls_free (d ∷ ds) (p ∷ ps) n h =
    let s : Site = record { decl = d; places = p } in
    All-cons (λ d. IsFree (name_of d)) d ds (All-head FreeSite s (sites_of ds ps) h) (decls_free ds ps (omega (arith, n)) (All-tail FreeSite s (sites_of ds ps) h))

pub none_declared : (sources : List Source) (types : List Declaration) (places : List DeclPlaces) → AreWorded sources → IsFull (Declares sources) types places → declared_as types system_guid ≡ None
none_declared sources types places worded full =
    finds_none types system_guid (λ c. All-contains IsFree (map name_of types) system_guid (All-map IsFree name_of types free) c refl)
  where
    items : List PlacedItem
    items = Declares sources

    closed : All FreeSite full.closed
    closed = closed_free (map (λ (s : Site). s.decl) (raw items)) (raw items) full.closed full.each (raw_free items (declared_free sources worded))

    free : All (λ d. IsFree (name_of d)) types
    free =
        decls_free types places full.size
        (All-permutation FreeSite (map in_order full.closed) (sites_of types places) full.sites
        (All-map FreeSite in_order full.closed (All-weaker FreeSite (λ s. FreeSite (in_order s)) (λ s g. subst IsFree (sym (normal_name s.decl)) g) full.closed closed)))
