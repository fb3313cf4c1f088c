-- Look-up, step by step.
use Rattle.std.proofs.Common.{◌≡◌, ℕ, zero, suc, ◌+◌, ◌-◌, ◌<◌, List, ◌∷◌, ◌++◌, Option, Some, map, take, drop, get_or, length, refl, sym, ap, ◌∙◌, cond, arith, add-one, drop-cons}
use Rattle.std.specs.Option.{option_or}
use Rattle.std.specs.Map.{update}
use Rattle.std.specs.Str.{bytes_eq}
use Rattle.std.proofs.lemmas.List.{take-map}
use denote.Ref.{Bor}
use Rattle.midl_tree.specs.declared.terminal.Terminal.{Terminal}
use Rattle.midl_names.specs.declared.sort.Sort.{Sort}
use Rattle.midl_names.specs.declared.hit.Hit.{Hit}
use Rattle.midl_names.specs.declared.scoped.Scoped.{Scoped}
use Rattle.midl_names.specs.Items.{prefix, full_name}
use Rattle.midl_names.specs.Lookup.{sort_of, declared_sort, hit, look_from}
use Rattle.midl_names.specs.Views.{item_of, parts_of}

look_step : (known : List ℕ → Option Sort) (space : List (List ℕ)) (path : List ℕ) (n : ℕ) → 0 < n
    → look_from known space path n ≡ option_or (hit known (prefix (take n space) ++ path)) (look_from known space path (n - 1))
unfolding look_from
look_step known space path zero l = absurd (omega arith)
look_step known space path (suc n) l = let e : suc n - 1 ≡ n = omega arith in rw e refl

pub looked : (known : List ℕ → Option Sort) (space : List (Bor Terminal)) (path text : List ℕ) (n : ℕ) (found : Option Hit) → 0 < n
    → text ≡ prefix (parts_of (take n space)) ++ path → found ≡ hit known text
    → look_from known (parts_of space) path n ≡ option_or found (look_from known (parts_of space) path (n - 1))
looked known space path text n found l e h =
    let e2 : found ≡ hit known (prefix (take n (parts_of space)) ++ path) =
    h ∙ ap (hit known) (e ∙ ap (λ (ps : List (List ℕ)). prefix ps ++ path) (sym (take-map (λ t. t.now.text) n space))) in
    look_step known (parts_of space) path n l ∙ ap (λ o. option_or o (look_from known (parts_of space) path (n - 1))) (sym e2)

pub told_more : (items : List Scoped) (n : ℕ) (x : Scoped) (had has : List ℕ → Option Sort) (bs : List ℕ) (sort : Sort) → n < length items → x ≡ get_or items n x
    → bs ≡ full_name (item_of x) → sort ≡ sort_of (item_of x).tree → ((name : List ℕ) → has name ≡ update bytes_eq had bs (Some sort) name)
    → ((name : List ℕ) → had name ≡ declared_sort (map item_of (drop (n + 1) items)) name) → (name : List ℕ) → has name ≡ declared_sort (map item_of (drop n items)) name
told_more items n x had has bs sort l e b s step told name =
    let whole : drop n items ≡ x ∷ drop (n + 1) items = drop-cons items n x l ∙ ap (λ (y : Scoped). y ∷ drop (suc n) items) (sym e) ∙ ap (λ k. x ∷ drop k items) (sym (add-one n)) in
    step name
    ∙ ap (λ o. cond (bytes_eq bs name) (Some sort) o) (told name)
    ∙ ap (λ (cs : List ℕ). cond (bytes_eq cs name) (Some sort) (declared_sort (map item_of (drop (n + 1) items)) name)) b
    ∙ ap (λ (t : Sort). cond (bytes_eq (full_name (item_of x)) name) (Some t) (declared_sort (map item_of (drop (n + 1) items)) name)) s
    ∙ ap (λ (ds : List Scoped). declared_sort (map item_of ds) name) (sym whole)
