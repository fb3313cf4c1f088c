-- Rules item by item are the rules over all items.
use Rattle.std.proofs.Common.{List, Option, ◌⊎◌, inl, inr, ⊎_elim}
use Rattle.ranked.specs.Entries.{Entry}
use Rattle.ranked.specs.First.{IsFirst, Or, Below, At, Among}
use Rattle.ranked.proofs.FirstLaws.{same}
use Rattle.midl_names.specs.Items.{Item}
use Rattle.midl_names.specs.Lookup.{declared_sort}
use Rattle.midl_names.specs.Faults.{Gives}
use Rattle.midl_names.specs.Names.{Broken, ByItem}
use Rattle.midl_names.specs.Uses.{uses_of, use_fault, unknown_use, wrong_use}
use Rattle.midl_names.proofs.UseLaws.{split_use, use_from_unknown, use_from_wrong}

-- one rule in place of another at the same element
swap : {X : Type 0} (xs : List X) (A B : X → Entry → Type 0) (e : Entry) → ((x : X) → A x e → B x e) → Among xs A e → Among xs B e
unfolding Below At
swap xs A B e f h = (h.0, h.1, (h.2.0, h.2.1, f h.2.0 h.2.2))

-- a union of rules over elements, apart
split : {X : Type 0} (xs : List X) (A B : X → Entry → Type 0) (e : Entry) → Among xs (λ x. Or (A x) (B x)) e → Among xs A e ⊎ Among xs B e
unfolding Below At Or
split xs A B e h = ⊎_elim (λ a. inl (h.0, h.1, (h.2.0, h.2.1, a))) (λ b. inr (h.0, h.1, (h.2.0, h.2.1, b))) h.2.2

module _ (items : List Item) where
  uses_apart : (e : Entry) → Among items (λ i. Among (uses_of i.tree) (λ u. Gives (use_fault (declared_sort items) i u))) e
      → Or (Among items (λ i. Among (uses_of i.tree) (λ u. Gives (unknown_use (declared_sort items) i u)))) (Among items (λ i. Among (uses_of i.tree) (λ u. Gives (wrong_use (declared_sort items) i u)))) e
  unfolding Or
  uses_apart e h =
      split items (λ i. Among (uses_of i.tree) (λ u. Gives (unknown_use (declared_sort items) i u))) (λ i. Among (uses_of i.tree) (λ u. Gives (wrong_use (declared_sort items) i u))) e
      (swap items _ _ e (λ i us. split (uses_of i.tree) (λ u. Gives (unknown_use (declared_sort items) i u)) (λ u. Gives (wrong_use (declared_sort items) i u)) e
      (swap (uses_of i.tree) _ _ e (λ u g. split_use (declared_sort items) i u e g) us)) h)

  pub to : (e : Entry) → ByItem (declared_sort items) items e → Broken items e
  unfolding Or Below At
  to e h =
      ⊎_elim (λ r. inr (inr (inr (inl (inl r)))))
      (λ b.
      ⊎_elim (λ r. inl (b.0, b.1, (b.2.0, b.2.1, inl r)))
      (⊎_elim (λ r. inl (b.0, b.1, (b.2.0, b.2.1, inr r)))
      (⊎_elim (λ r. inr (inl (b.0, b.1, (b.2.0, b.2.1, r))))
      (⊎_elim (λ r. inr (inr (inl (b.0, b.1, (b.2.0, b.2.1, r)))))
      (⊎_elim (λ r. inr (inr (inr (inl (inr (b.0, b.1, (b.2.0, b.2.1, r)))))))
      (λ r. inr (inr (inr (inr (uses_apart e (b.0, b.1, (b.2.0, b.2.1, r))))))))))) b.2.2)
      h

  from : (e : Entry) → Broken items e → ByItem (declared_sort items) items e
  unfolding Or Below At
  from e h =
      ⊎_elim (λ b. inr (b.0, b.1, (b.2.0, b.2.1, ⊎_elim (λ r. inl r) (λ r. inr (inl r)) b.2.2)))
      (⊎_elim (λ b. inr (b.0, b.1, (b.2.0, b.2.1, inr (inr (inl b.2.2)))))
      (⊎_elim (λ b. inr (b.0, b.1, (b.2.0, b.2.1, inr (inr (inr (inl b.2.2))))))
      (⊎_elim (⊎_elim (λ r. inl r) (λ b. inr (b.0, b.1, (b.2.0, b.2.1, inr (inr (inr (inr (inl b.2.2))))))))
      (⊎_elim
      (λ b. inr (b.0, b.1, (b.2.0, b.2.1, inr (inr (inr (inr (inr (swap (uses_of b.2.0.tree) (λ u. Gives (unknown_use (declared_sort items) b.2.0 u)) (λ u. Gives (use_fault (declared_sort items) b.2.0 u)) e (λ u g. use_from_unknown (declared_sort items) b.2.0 u e g) b.2.2))))))))
      (λ b. inr (b.0, b.1, (b.2.0, b.2.1, inr (inr (inr (inr (inr (swap (uses_of b.2.0.tree) (λ u. Gives (wrong_use (declared_sort items) b.2.0 u)) (λ u. Gives (use_fault (declared_sort items) b.2.0 u)) e (λ u g. use_from_wrong (declared_sort items) b.2.0 u e g) b.2.2)))))))))))) h

  pub spread : (a : Option Entry) → IsFirst (ByItem (declared_sort items) items) a → IsFirst (Broken items) a
  spread a h = same (ByItem (declared_sort items) items) (Broken items) a to from h
