-- What is wrong with a use.
use Rattle.std.proofs.Common.{◌≡◌, ℕ, List, [], ◌∷◌, Option, Some, None, ◌⊎◌, inl, inr, length, refl, sym, ap, ◌∙◌, arith}
use Rattle.std.proofs.lemmas.Option.{none-some}
use Rattle.ranked.specs.Entries.{Entry}
use Rattle.midl_tree.specs.declared.terminal.Terminal.{Terminal}
use Rattle.midl_tree.specs.Trees.{TypeTree, base, named, types_of}
use Rattle.midl_names.specs.declared.sort.Sort.{Sort}
use Rattle.midl_names.specs.declared.hit.Hit.{Hit}
use Rattle.midl_names.specs.Faults.{Gives}
use Rattle.midl_names.specs.Items.{Item}
use Rattle.midl_names.specs.Lookup.{look_up}
use Rattle.midl_names.specs.Uses.{dotted, count_types, unknown_at, arity_at, path_fault, use_fault, unknown_use, wrong_use}

pub count_flat : (ts : List TypeTree) → count_types (types_of ts) ≡ length ts
count_flat [] = refl
count_flat (t ∷ ts) = omega (arith, count_flat ts)

pub fault_named : (known : List ℕ → Option Sort) (item : Item) (path path2 : List Terminal) (ts : List TypeTree) (t : TypeTree) (n : ℕ)
    → t ≡ named path (types_of ts) → path2 ≡ path → n ≡ length ts → path_fault item path2 n (look_up known item.space (dotted path2)) ≡ use_fault known item t
fault_named known item path path2 ts t n e p l =
    ap (λ (us : List Terminal). path_fault item us n (look_up known item.space (dotted us))) p
    ∙ ap (λ k. path_fault item path k (look_up known item.space (dotted path))) (l ∙ sym (count_flat ts))
    ∙ ap (use_fault known item) (sym e)

split_path : (item : Item) (path : List Terminal) (count : ℕ) (f : Option Hit) (e : Entry) → path_fault item path count f ≡ Some e → (unknown_at item path f ≡ Some e) ⊎ (arity_at item path count f ≡ Some e)
split_path item path count None e h = inl h
split_path item path count (Some x) e h = inr h

join_unknown : (item : Item) (path : List Terminal) (count : ℕ) (f : Option Hit) (e : Entry) → unknown_at item path f ≡ Some e → path_fault item path count f ≡ Some e
join_unknown item path count None e h = h
join_unknown item path count (Some x) e h = absurd (none-some e h)

join_wrong : (item : Item) (path : List Terminal) (count : ℕ) (f : Option Hit) (e : Entry) → arity_at item path count f ≡ Some e → path_fault item path count f ≡ Some e
join_wrong item path count None e h = absurd (none-some e h)
join_wrong item path count (Some x) e h = h

pub split_use : (known : List ℕ → Option Sort) (item : Item) (u : TypeTree) (e : Entry) → Gives (use_fault known item u) e → Gives (unknown_use known item u) e ⊎ Gives (wrong_use known item u) e
unfolding Gives
split_use known item (base b) e h = absurd (none-some e h)
split_use known item (named path arguments) e h = split_path item path (count_types arguments) (look_up known item.space (dotted path)) e h

pub use_from_unknown : (known : List ℕ → Option Sort) (item : Item) (u : TypeTree) (e : Entry) → Gives (unknown_use known item u) e → Gives (use_fault known item u) e
unfolding Gives
use_from_unknown known item (base b) e h = absurd (none-some e h)
use_from_unknown known item (named path arguments) e h = join_unknown item path (count_types arguments) (look_up known item.space (dotted path)) e h

pub use_from_wrong : (known : List ℕ → Option Sort) (item : Item) (u : TypeTree) (e : Entry) → Gives (wrong_use known item u) e → Gives (use_fault known item u) e
unfolding Gives
use_from_wrong known item (base b) e h = absurd (none-some e h)
use_from_wrong known item (named path arguments) e h = join_wrong item path (count_types arguments) (look_up known item.space (dotted path)) e h
