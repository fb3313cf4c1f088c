-- Joining the last groups, one at a time.
use Rattle.std.proofs.Common.{◌≡◌, ◌<◌, ◌≤◌, ◌+◌, ℕ, List, [], ◌∷◌, ◌++◌, ⊎_elim, refl, ap, subst, ◌∙◌, arith, map, reverse, length, length-append, append-nil, Option, Some, None, option_to_list}
use Rattle.std.proofs.lemmas.List.{map-append, reverse-append}
use Rattle.chains.specs.declared.group.Mark.{Mark}
use Rattle.chains.specs.declared.group.Group.{Group}
use Rattle.chains.specs.Graphs.{In}
use Rattle.chains.specs.Groups.{GroupView, Joined, IsEither, view_of, views_of, as_cycle}
use Rattle.chains.specs.Merging.{size_of, Meets, Merged}
use Rattle.chains.specs.Search.{nodes_in}
use Rattle.chains.proofs.Members.{In-left, In-right, In-append, either_left, either_right}
use Rattle.chains.proofs.SearchLaws.{merged, turned, same_number}

pub either_length : (c a b : List ℕ) → IsEither c a b → length c ≡ length a + length b
either_length c a b e = ⊎_elim (λ p. ap length p ∙ length-append a b) (λ p. omega (arith, ap length p ∙ length-append b a)) e

-- what joining so far keeps
pub record SoFar (number : ℕ) (g : GroupView) (below : List GroupView) (h : GroupView) (rest : List GroupView) : Type 0 where
  pub meets : (graph : List (List ℕ)) (mark : ℕ → Mark) (w u : ℕ) → Meets graph mark w u number g below → Meets graph mark w u number h rest
  pub nodes : (a : ℕ) → In a (nodes_in (g ∷ below)) → In a (nodes_in (h ∷ rest))
  pub size : size_of (h ∷ rest) ≤ size_of (g ∷ below)

pub so_far_none : (number : ℕ) (g : GroupView) (below : List GroupView) → SoFar number g below g below
so_far_none number g below = record { meets = λ graph mark w u h. h; nodes = λ a h. h; size = omega arith }

-- where the last group's visits are all later, the number stands below
lower_down : (graph : List (List ℕ)) (mark : ℕ → Mark) (w u number : ℕ) (g : GroupView) (below : List GroupView) → number < g.first → Meets graph mark w u number g below → In w (nodes_in below)
lower_down graph mark w u number g below l h =
    ⊎_elim
    (λ i. (let k = h.stack.0.numbered w i in let e : k.0 ≡ number = same_number graph mark w k.0 number k.1 h.open_ in absurd (omega (arith, k.2, e, l))))
    (λ i. i) (In-append w g.nodes (nodes_in below) h.to)

pub so_far_more : (number : ℕ) (g : GroupView) (below : List GroupView) (g1 g2 h : GroupView) (rest rest2 : List GroupView) → number < g1.first → rest ≡ g2 ∷ rest2 → Joined g2 g1 h
    → SoFar number g below g1 rest → SoFar number g below h rest2
so_far_more number g below g1 g2 h rest rest2 later is j s = record {
  meets = λ graph mark w u m.
      let n : Meets graph mark w u number g1 (g2 ∷ rest2) = subst (Meets graph mark w u number g1) is (s.meets graph mark w u m) in
      let to : In w (nodes_in (g2 ∷ rest2)) = lower_down graph mark w u number g1 (g2 ∷ rest2) later n in
      record {
        from = either_right u h.nodes g2.nodes g1.nodes j.nodes n.from;
        step = n.step;
        to = ⊎_elim (λ i. In-left w h.nodes (nodes_in rest2) (either_left w h.nodes g2.nodes g1.nodes j.nodes i)) (λ i. In-right w h.nodes (nodes_in rest2) i) (In-append w g2.nodes (nodes_in rest2) to);
        open_ = n.open_;
        stack = merged graph mark w u g2 g1 h rest2 j n.from n.step to n.stack;
      };
  nodes = λ a i. ⊎_elim
      (λ x. In-left a h.nodes (nodes_in rest2) (either_right a h.nodes g2.nodes g1.nodes j.nodes x))
      (λ x. ⊎_elim (λ y. In-left a h.nodes (nodes_in rest2) (either_left a h.nodes g2.nodes g1.nodes j.nodes y)) (λ y. In-right a h.nodes (nodes_in rest2) y)
      (In-append a g2.nodes (nodes_in rest2) (subst (λ r. In a (nodes_in r)) is x)))
      (In-append a g1.nodes (nodes_in rest) (s.nodes a i));
  size =
      let e : length h.pending ≡ length g2.pending + length g1.pending = either_length h.pending g2.pending g1.pending j.pending in
      let f : size_of rest ≡ length g2.pending + 1 + size_of rest2 = ap size_of is in
      omega (arith, s.size, e, f);
}

pub merge_ends : (number : ℕ) (g : GroupView) (below : List GroupView) (g1 : GroupView) (rest : List GroupView) → g1.first ≤ number → SoFar number g below g1 rest → Merged number g below (as_cycle g1) rest
merge_ends number g below g1 rest l s = record {
  stack = λ graph mark w u m.
      let n = s.meets graph mark w u m in
      turned graph mark w u g1 rest n.from n.step
      (⊎_elim (λ i. i) (λ i. (let k = n.stack.0.under w i in let e : k.0 ≡ number = same_number graph mark w k.0 number k.1 n.open_ in absurd (omega (arith, k.2, e, l)))) (In-append w g1.nodes (nodes_in rest) n.to))
      n.stack;
  nodes = s.nodes;
  size = s.size;
}

-- there is always a group below
pub merge_fails : (number : ℕ) (g : GroupView) (below : List GroupView) (g1 : GroupView) (rest : List GroupView) → number < g1.first → rest ≡ [] → SoFar number g below g1 rest → Merged number g below g1 rest
merge_fails number g below g1 rest l e s = record {
  stack = λ graph mark w u m. absurd (subst (λ r. In w (nodes_in r)) e (lower_down graph mark w u number g1 rest l (s.meets graph mark w u m)));
  nodes = s.nodes;
  size = s.size;
}

-- one group more on top
pub segs_push : (gs : List Group) (g : Group) → views_of (gs ++ g ∷ []) ≡ view_of g ∷ views_of gs
segs_push gs g = ap reverse (map-append view_of gs (g ∷ [])) ∙ reverse-append (map view_of gs) (view_of g ∷ [])

pub segs_popped : (old new : List Group) (o : Option Group) (g : Group) → old ≡ new ++ option_to_list o → o ≡ Some g → views_of old ≡ view_of g ∷ views_of new
segs_popped old new o g e s = ap views_of (e ∙ ap (λ x. new ++ option_to_list x) s) ∙ segs_push new g

pub segs_empty : (old new : List Group) (o : Option Group) → old ≡ new ++ option_to_list o → o ≡ None → old ≡ new
segs_empty old new o e s = e ∙ ap (λ x. new ++ option_to_list x) s ∙ append-nil new

pub no_groups : (gs : List Group) → length gs ≡ 0 → views_of gs ≡ []
no_groups [] e = refl
no_groups (g ∷ gs) e = absurd (omega (arith, e))
