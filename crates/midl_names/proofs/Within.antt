-- Which levels of a namespace look-up may leave out: no full name there is short enough.
use Rattle.std.proofs.Common.{◌≡◌, ℕ, zero, suc, ◌+◌, ◌-◌, ◌<◌, ◌≤◌, Bool, true, false, ◌||◌, ◌&&◌, cond, eqb, List, [], ◌∷◌, ◌++◌, length, take, get_or, Option, Some, None, refl, sym, ap, subst, ◌∙◌, arith, append_assoc, eq-eqb}
use Rattle.std.specs.Option.{option_or, option_map, unwrap_or}
use Rattle.std.specs.Map.{update}
use Rattle.std.specs.Str.{bytes_eq}
use Rattle.std.proofs.Math.Bool.{or-true}
use Rattle.std.specs.List.{list_all}
use Rattle.std.proofs.Math.Dec.{leb}
use Rattle.std.proofs.lemmas.Bool.{leb-true}
use Rattle.std.proofs.lemmas.Grind.{flat_map-append}
use Rattle.std.proofs.lemmas.List.{length-append, length-map, take_more, take-map, map-append, append-nil}
use denote.Ref.{Bor}
use Rattle.found_table.specs.Found.{FoundRow}
use Rattle.found_table.specs.Table.{table, name_of, row_of, builtin}
use Rattle.midl_tree.specs.declared.terminal.Terminal.{Terminal}
use Rattle.midl_names.specs.Views.{parts_of}
use Rattle.std.proofs.lemmas.Option.{none-some}
use Rattle.std.proofs.lemmas.Slice.Eq.{bytes_eq-Decides}
use Rattle.wr_base.specs.Paths.{is_path}
use Rattle.wr_base.specs.Parts.{has, behind_last}
use Rattle.midl_names.specs.declared.sort.Sort.{Sort}
use Rattle.midl_names.specs.declared.hit.Hit.{Hit}
use Rattle.midl_names.specs.Items.{prefix}
use Rattle.midl_names.specs.Lookup.{found_sort, named, hit, look_from, look_up}
use Rattle.midl_names.specs.Within.{IsWithin}

-- ---- lengths by the name behind the last dot, one more noted

same_key : (key : List ℕ) → bytes_eq key key ≡ true
same_key key = (bytes_eq-Decides key key).1 refl

at_key : (key : List ℕ) (n : ℕ) (had has_ : List ℕ → Option ℕ) → ((name : List ℕ) → has_ name ≡ update bytes_eq had key (Some n) name) → has_ key ≡ Some n
at_key key n had has_ step = step key ∙ ap (λ (b : Bool). cond b (Some n) (had key)) (same_key key)

pub noted_holds : (key : List ℕ) (n : ℕ) (had has_ : List ℕ → Option ℕ) → ((name : List ℕ) → has_ name ≡ update bytes_eq had key (Some n) name) → n ≤ unwrap_or (has_ key) 0
noted_holds key n had has_ step = let e : unwrap_or (has_ key) 0 ≡ n = ap (λ o. unwrap_or o 0) (at_key key n had has_ step) in omega (arith, e)

pub noted_grows : (key : List ℕ) (n : ℕ) (had has_ : List ℕ → Option ℕ) → ((name : List ℕ) → has_ name ≡ update bytes_eq had key (Some n) name) → unwrap_or (had key) 0 ≤ n
    → (other : List ℕ) → unwrap_or (had other) 0 ≤ unwrap_or (has_ other) 0
noted_grows key n had has_ step low other = go (bytes_eq key other) refl
  where
    go : (b : Bool) → bytes_eq key other ≡ b → unwrap_or (had other) 0 ≤ unwrap_or (has_ other) 0
    go true h =
        let same : key ≡ other = (bytes_eq-Decides key other).0 h in
        subst (λ (k : List ℕ). unwrap_or (had k) 0 ≤ unwrap_or (has_ k) 0) same
        (let e : unwrap_or (has_ key) 0 ≡ n = ap (λ o. unwrap_or o 0) (at_key key n had has_ step) in omega (arith, e, low))
    go false h =
        let e : unwrap_or (has_ other) 0 ≡ unwrap_or (had other) 0 = ap (λ o. unwrap_or o 0) (step other ∙ ap (λ (b : Bool). cond b (Some n) (had other)) h) in
        omega (arith, e)

-- one more declared type
pub within_more : (key : List ℕ) (sort : Sort) (had has_ : List ℕ → Option Sort) (old new : List ℕ → ℕ) → ((name : List ℕ) → has_ name ≡ update bytes_eq had key (Some sort) name)
    → length key ≤ new (behind_last 46 key) → ((other : List ℕ) → old other ≤ new other) → IsWithin had old → IsWithin has_ new
within_more key sort had has_ old new step holds grows within name s is = go (bytes_eq key name) refl
  where
    go : (b : Bool) → bytes_eq key name ≡ b → length name ≤ new (behind_last 46 name)
    go true h = subst (λ (k : List ℕ). length k ≤ new (behind_last 46 k)) ((bytes_eq-Decides key name).0 h) holds
    go false h =
        let e : had name ≡ Some s = sym (step name ∙ ap (λ (b : Bool). cond b (Some sort) (had name)) h) ∙ is in
        omega (arith, within name s e, grows (behind_last 46 name))

-- ---- the name behind the last dot of a namespace's prefix and a path

has_at : (mark : ℕ) (xs ys : List ℕ) → has mark (xs ++ mark ∷ ys) ≡ true
has_at mark [] ys = ap (λ t. t || has mark ys) (eq-eqb mark mark refl)
has_at mark (x ∷ xs) ys = ap (λ t. eqb x mark || t) (has_at mark xs ys) ∙ or-true (eqb x mark)

pub behind_mark : (mark : ℕ) (xs ys : List ℕ) → behind_last mark (xs ++ mark ∷ ys) ≡ behind_last mark ys
behind_mark mark [] ys = ap (λ t. cond t (behind_last mark ys) (mark ∷ ys)) (has_at mark [] ys)
behind_mark mark (x ∷ xs) ys =
    ap (λ t. cond t (behind_last mark (xs ++ mark ∷ ys)) (x ∷ (xs ++ mark ∷ ys))) (has_at mark (x ∷ xs) ys) ∙ behind_mark mark xs ys

joined : (part : List ℕ) (space : List (List ℕ)) (path : List ℕ) → prefix (part ∷ space) ++ path ≡ part ++ 46 ∷ (prefix space ++ path)
joined part space path = simp append_assoc

pub behind_prefix : (space : List (List ℕ)) (path : List ℕ) → behind_last 46 (prefix space ++ path) ≡ behind_last 46 path
behind_prefix [] path = refl
behind_prefix (part ∷ space) path = ap (behind_last 46) (joined part space path) ∙ behind_mark 46 part (prefix space ++ path) ∙ behind_prefix space path

-- ---- prefixes grow

part_length : (part : List ℕ) (space : List (List ℕ)) → length (prefix (part ∷ space)) ≡ length part + 1 + length (prefix space)
part_length part space =
    let a = length-append (part ++ 46 ∷ []) (prefix space) in
    let b = length-append part (46 ∷ []) in
    omega (arith, a, b)

pub prefix_longer : (space : List (List ℕ)) (i j : ℕ) → i ≤ j → length (prefix (take i space)) ≤ length (prefix (take j space))
prefix_longer [] zero j l = omega arith
prefix_longer [] (suc i) zero l = absurd (omega arith)
prefix_longer [] (suc i) (suc j) l = omega arith
prefix_longer (part ∷ space) zero j l = omega arith
prefix_longer (part ∷ space) (suc i) zero l = absurd (omega arith)
prefix_longer (part ∷ space) (suc i) (suc j) l =
    let a = part_length part (take i space) in
    let b = part_length part (take j space) in
    omega (arith, a, b, prefix_longer space i j (omega arith))

-- ---- levels that are left out

no_hit : (known : List ℕ → Option Sort) (name : List ℕ) → named known name ≡ None → hit known name ≡ None
unfolding hit
no_hit known name h = go (is_path name)
  where
    go : (b : Bool) → ◌≡◌ {A = Option Hit} (cond b (option_map (λ s. record { name = name; sort = s }) (named known name)) None) None
    go true = ap (option_map (λ s. record { name = name; sort = s })) h
    go false = refl

-- every full name that means a type and ends with the path's last name has at most so many bytes
abbrev pub Limits : (List ℕ → Option Sort) → List ℕ → ℕ → Type 0
Limits known path limit = (name : List ℕ) (sort : Sort) → named known name ≡ Some sort → behind_last 46 name ≡ behind_last 46 path → length name ≤ limit

far : (known : List ℕ → Option Sort) (path name : List ℕ) (limit : ℕ) → Limits known path limit → behind_last 46 name ≡ behind_last 46 path → limit < length name → hit known name ≡ None
far known path name limit limits ends long = no_hit known name (go (named known name) refl)
  where
    go : (o : Option Sort) → named known name ≡ o → o ≡ None
    go None h = refl
    go (Some s) h = absurd (let l = limits name s h ends in omega (arith, l, long))

step_out : (known : List ℕ → Option Sort) (space : List (List ℕ)) (path : List ℕ) (limit left : ℕ) → Limits known path limit
    → (left < length space → limit < length (prefix (take (left + 1) space)) + length path)
    → (d : ℕ) → left + d ≤ length space → look_from known space path (left + d) ≡ look_from known space path left
unfolding look_from
step_out known space path limit left limits full zero m = let e : left + zero ≡ left = omega arith in rw e refl
step_out known space path limit left limits full (suc d) m =
    let e : left + suc d ≡ suc (left + d) = omega arith in
    let longer = prefix_longer space (left + 1) (suc (left + d)) (omega arith) in
    let long = full (omega (arith, m)) in
    let whole = length-append (prefix (take (suc (left + d)) space)) path in
    let none : hit known (prefix (take (suc (left + d)) space) ++ path) ≡ None =
    far known path (prefix (take (suc (left + d)) space) ++ path) limit limits (behind_prefix (take (suc (left + d)) space) path) (omega (arith, longer, long, whole)) in
    ap (look_from known space path) e
    ∙ ap (λ o. option_or o (look_from known space path (left + d))) none
    ∙ step_out known space path limit left limits full d (omega (arith, m))

pub left_out : (known : List ℕ → Option Sort) (space : List (List ℕ)) (path : List ℕ) (limit left : ℕ) → Limits known path limit
    → (left < length space → limit < length (prefix (take (left + 1) space)) + length path)
    → left ≤ length space → look_from known space path left ≡ look_from known space path (length space)
left_out known space path limit left limits full l =
    let e : left + (length space - left) ≡ length space = omega (arith, l) in
    sym (step_out known space path limit left limits full (length space - left) (omega (arith, l))) ∙ ap (look_from known space path) e

-- ---- what a found name has at most

both_so : (a b : Bool) → (a && b) ≡ true → (a ≡ true) × (b ≡ true)
both_so true b h = (refl, h)
both_so false b h = absurd cc

found_within : (rows : List FoundRow) (name : List ℕ) (row : FoundRow) → list_all (λ r. leb (length (name_of r)) 41) rows ≡ true → row_of rows name ≡ Some row → length name ≤ 41
found_within [] name row all is = absurd (none-some row is)
found_within (r ∷ rows) name row all is =
    let s = both_so (leb (length (name_of r)) 41) (list_all (λ s. leb (length (name_of s)) 41) rows) all in
    go (bytes_eq name (name_of r)) refl s.0 (λ h. found_within rows name row s.1 h)
  where
    go : (b : Bool) → bytes_eq name (name_of r) ≡ b → leb (length (name_of r)) 41 ≡ true → (row_of rows name ≡ Some row → length name ≤ 41) → length name ≤ 41
    go true h small later =
        let same : name ≡ name_of r = (bytes_eq-Decides name (name_of r)).0 h in
        subst (λ (n : List ℕ). length n ≤ 41) (sym same) (leb-true (length (name_of r)) 41 small)
    go false h small later = later (sym (ap (λ (b : Bool). cond b (Some r) (row_of rows name)) h) ∙ is)

found_short : (name : List ℕ) (sort : Sort) → option_map found_sort (builtin name) ≡ Some sort → length name ≤ 41
found_short name sort is = go (builtin name) refl
  where
    go : (o : Option FoundRow) → builtin name ≡ o → length name ≤ 41
    go None h = absurd (none-some sort (sym (ap (option_map found_sort) h) ∙ is))
    go (Some row) h = found_within table name row refl h

-- the most bytes of a declared name, and of a found one
pub limits : (known : List ℕ → Option Sort) (longest : List ℕ → ℕ) (path : List ℕ) (limit : ℕ) → IsWithin known longest → 41 ≤ limit → longest (behind_last 46 path) ≤ limit → Limits known path limit
unfolding named
limits known longest path limit within low enough name sort is ends = go (known name) refl
  where
    go : (o : Option Sort) → known name ≡ o → length name ≤ limit
    go (Some s) h = let e : longest (behind_last 46 name) ≡ longest (behind_last 46 path) = ap longest ends in omega (arith, within name s h, e, enough)
    go None h =
        let found : option_map found_sort (builtin name) ≡ Some sort = sym (ap (λ o. option_or o (option_map found_sort (builtin name))) h) ∙ is in
        omega (arith, found_short name sort found, low)

-- ---- from the level where look-up begins to the last one

pub all_levels : (known : List ℕ → Option Sort) (space : List (Bor Terminal)) (path : List ℕ) (limit room left : ℕ) → Limits known path limit → limit ≤ room + length path
    → (left < length space → room < length (prefix (parts_of (take (left + 1) space)))) → left ≤ length space → look_from known (parts_of space) path left ≡ look_up known (parts_of space) path
all_levels known space path limit room left limits fits full short =
    let e : length (parts_of space) ≡ length space = length-map space (λ t. t.now.text) in
    left_out known (parts_of space) path limit left limits
    (λ l. let same = ap (λ (ps : List (List ℕ)). length (prefix ps)) (take-map (λ t. t.now.text) (left + 1) space) in omega (arith, full (omega (arith, l, e)), same, fits))
    (omega (arith, short, e))

pub last_level : (known : List ℕ → Option Sort) (space : List (List ℕ)) (path : List ℕ) (n : ℕ) → n ≡ 0 → look_from known space path n ≡ hit known path
unfolding look_from
last_level known space path zero e = refl
last_level known space path (suc n) e = absurd (omega (arith, e))

prefix_next : (space : List (Bor Terminal)) (n : ℕ) (x : Bor Terminal) → n < length space → x ≡ get_or space n x
    → prefix (parts_of (take (n + 1) space)) ≡ prefix (parts_of (take n space)) ++ (x.now.text ++ 46 ∷ [])
prefix_next space n x l e =
    ap (λ (ts : List (Bor Terminal)). prefix (parts_of ts)) (take_more space n x l ∙ ap (λ (y : Bor Terminal). take n space ++ y ∷ []) (sym e))
    ∙ ap prefix (map-append (λ t. t.now.text) (take n space) (x ∷ []))
    ∙ flat_map-append (λ part. part ++ 46 ∷ []) (parts_of (take n space)) (x.now.text ∷ [])
    ∙ ap (λ (bs : List ℕ). prefix (parts_of (take n space)) ++ bs) (append-nil (x.now.text ++ 46 ∷ []))

regrouped : (front part path : List ℕ) → (front ++ (part ++ 46 ∷ [])) ++ path ≡ front ++ (part ++ 46 ∷ path)
regrouped front part path = simp append_assoc

-- the text of a level, with the level's last part seen
pub cut_form : (space : List (Bor Terminal)) (n : ℕ) (x : Bor Terminal) (bytes path : List ℕ) → 0 < n → n ≤ length space → x ≡ get_or space (n - 1) x
    → bytes ≡ prefix (parts_of (take n space)) ++ path → bytes ≡ prefix (parts_of (take (n - 1) space)) ++ (x.now.text ++ 46 ∷ path)
cut_form space n x bytes path l m e is =
    let next : n - 1 + 1 ≡ n = omega (arith, l) in
    is
    ∙ ap (λ k. prefix (parts_of (take k space)) ++ path) (sym next)
    ∙ ap (λ (bs : List ℕ). bs ++ path) (prefix_next space (n - 1) x (omega (arith, l, m)) e)
    ∙ regrouped (prefix (parts_of (take (n - 1) space))) x.now.text path
