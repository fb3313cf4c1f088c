-- Each step of the search keeps what holds of it.
use Rattle.std.proofs.Common.{◌≡◌, ◌≢◌, ◌<◌, ◌≤◌, ℕ, Bool, true, false, IsTrue, List, [], ◌∷◌, ◌++◌, ◌⊎◌, inl, inr, ⊎_elim, refl, sym, ap, subst, ◌∙◌, arith}
use Rattle.chains.specs.declared.group.Mark.{Mark}
use Rattle.chains.specs.declared.group.Mark.TheVariants.{New, Open, Done}
use Rattle.chains.specs.Graphs.{In, Step, Chain, one, further, Reach, steps_of}
use Rattle.chains.specs.Groups.{GroupView, Joined, as_cycle}
use Rattle.chains.specs.Search.{nodes_in, IsDone, Stack, Left, OnPath}
use Rattle.chains.proofs.Members.{is_in, In-left, In-right, In-append, In-either, either_left, either_right}

module _ (graph : List (List ℕ)) where
  pub joined_chain : (a b c : ℕ) → Chain graph a b → Chain graph b c → Chain graph a c
  joined_chain a b c p (one s) = further p s
  joined_chain a b c p (further q s) = further (joined_chain a b _ p q) s

  -- no step or more, and then one step or more
  pub onward : (a b c : ℕ) → Reach graph a b → Chain graph b c → Chain graph a c
  onward a b c r q = ⊎_elim (λ e. subst (λ x. Chain graph x c) (sym e) q) (λ p. joined_chain a b c p q) r

  pub stepped : (a b c : ℕ) → Reach graph a b → Step graph b c → Chain graph a c
  stepped a b c r s = onward a b c r (one s)

  pub and_back : (a b c : ℕ) → Chain graph a b → Reach graph b c → Chain graph a c
  and_back a b c p r = ⊎_elim (λ e. subst (Chain graph a) e p) (λ q. joined_chain a b c p q) r

  -- other marks and other numbers above, where what is on the path stays open and what is left stays left
  pub restack : (m n : ℕ → Mark) (above over : List ℕ) (gs : List GroupView) → ((a k : ℕ) → In a (nodes_in gs) → m a ≡ Open k → n a ≡ Open k)
      → ((a : ℕ) → IsDone graph m a → IsDone graph n a) → ((w : ℕ) → In w above → In w over ⊎ IsDone graph n w) → Stack graph m above gs → Stack graph n over gs
  restack m n above over [] open_ done more s = tt
  restack m n above over (g ∷ below) open_ done more s = (
    record {
      some = s.0.some;
      reach = s.0.reach;
      turns = s.0.turns;
      waiting = s.0.waiting;
      followed = λ a w h t.
          ⊎_elim (λ d. inl (done w d))
          (⊎_elim (λ p. inr (inl p))
          (⊎_elim (λ c. inr (inr (inl c)))
          (λ o. ⊎_elim (λ i. inr (inr (inr i))) (λ d. inl d) (more w o)))) (s.0.followed a w h t);
      numbered = λ a h. (let k = s.0.numbered a h in (k.0, open_ a k.0 (In-left a g.nodes (nodes_in below) h) k.1, k.2));
      under = λ a h. (let k = s.0.under a h in (k.0, open_ a k.0 (In-right a g.nodes (nodes_in below) h) k.1, k.2));
    },
    restack m n (g.nodes ++ above) (g.nodes ++ over) below
        (λ a k h. open_ a k (In-right a g.nodes (nodes_in below) h))
        done
        (λ w h. ⊎_elim (λ i. inl (In-left w g.nodes over i)) (λ i. ⊎_elim (λ o. inl (In-right w g.nodes over o)) (λ d. inr d) (more w i)) (In-append w g.nodes above h))
        s.1,
  )

  -- the last group with other steps that wait
  abbrev pub waits : GroupView → List ℕ → GroupView
  waits g pending = record { nodes = g.nodes; pending = pending; first = g.first; cyclic = g.cyclic }

  -- a step is taken from the last group
  pub taken : (m : ℕ → Mark) (g : GroupView) (below : List GroupView) (rest : List ℕ) (w : ℕ) → g.pending ≡ rest ++ w ∷ [] → Stack graph m [] (g ∷ below)
      → Stack graph m (w ∷ []) (waits g rest ∷ below)
  taken m g below rest w e s = (
    record {
      some = s.0.some;
      reach = s.0.reach;
      turns = s.0.turns;
      waiting = λ x h. s.0.waiting x (subst (In x) (sym e) (In-left x rest (w ∷ []) h));
      followed = λ a x h t.
          ⊎_elim (λ d. inl d)
          (⊎_elim (λ p. ⊎_elim (λ r. inr (inl r)) (λ i. inr (inr (inr i))) (In-append x rest (w ∷ []) (subst (In x) e p)))
          (⊎_elim (λ c. inr (inr (inl c)))
          (λ o. absurd o))) (s.0.followed a x h t);
      numbered = s.0.numbered;
      under = s.0.under;
    },
    restack m m (g.nodes ++ []) (g.nodes ++ w ∷ []) below (λ a k h o. o) (λ a d. d)
        (λ x h. ⊎_elim (λ i. inl (In-left x g.nodes (w ∷ []) i)) (λ i. absurd i) (In-append x g.nodes [] h)) s.1,
  )

  -- where it leads from
  pub origin : (m : ℕ → Mark) (g : GroupView) (below : List GroupView) (rest : List ℕ) (w : ℕ) → g.pending ≡ rest ++ w ∷ [] → Stack graph m [] (g ∷ below)
      → (a : ℕ) × In a g.nodes × Step graph a w
  origin m g below rest w e s = s.0.waiting w (subst (In w) (sym e) (In-right w rest (w ∷ []) (inl refl)))

  -- it leads to what is left
  pub left_already : (m : ℕ → Mark) (w : ℕ) (gs : List GroupView) → IsDone graph m w → Stack graph m (w ∷ []) gs → Stack graph m [] gs
  left_already m w gs d s = restack m m (w ∷ []) [] gs (λ a k h o. o) (λ a x. x) (λ x h. ⊎_elim (λ e. inr (subst (IsDone graph m) e d)) (λ i. absurd i) h) s

  -- it leads to something new, which becomes a group of its own
  pub entered : (m n : ℕ → Mark) (u v number : ℕ) (g s : GroupView) (below : List GroupView) → In u g.nodes → Step graph u v → m v ≡ New → n v ≡ Open number
      → ((a : ℕ) → a ≢ v → n a ≡ m a) → s ≡ record { nodes = v ∷ []; pending = steps_of graph v; first = number; cyclic = false }
      → ((a k : ℕ) → m a ≡ Open k → k < number) → Stack graph m (v ∷ []) (g ∷ below) → Stack graph n [] (s ∷ g ∷ below)
  entered m n u v number g s below from step new_ open_ others is fresh stack =
      subst (λ t. Stack graph n [] (t ∷ g ∷ below)) (sym is) (
        record {
          some = (v, inl refl);
          reach = λ a b h t. ⊎_elim
              (λ e. ⊎_elim (λ x. inl (sym x ∙ e)) (λ i. inr (subst (Chain graph a) e (to_new a i))) h)
              (λ i. absurd i) t;
          turns = λ c. absurd (no_turn c);
          waiting = λ w h. (v, inl refl, h);
          followed = λ a w h t. ⊎_elim (λ e. inr (inl (subst (λ x. In w (steps_of graph x)) (sym e) t))) (λ i. absurd i) h;
          numbered = λ a h. ⊎_elim (λ e. (number, subst (λ x. n x ≡ Open number) e open_, omega arith)) (λ i. absurd i) h;
          under = λ a h. below_one a h;
        },
        restack m n (v ∷ []) (v ∷ []) (g ∷ below) kept_open kept_done (λ w h. inl h) stack,
      )
    where
      no_turn : IsTrue false → ⊥
      no_turn c = cc

      to_new : (a : ℕ) → In a (nodes_in (g ∷ below)) → Chain graph a v
      to_new a i = stepped a u v (stack.0.reach a u i from) step

      apart : (a k : ℕ) → m a ≡ Open k → a ≢ v
      apart a k o e = let same : m a ≡ New = ap m e ∙ new_ in cc

      kept_open : (a k : ℕ) → In a (nodes_in (g ∷ below)) → m a ≡ Open k → n a ≡ Open k
      kept_open a k h o = others a (apart a k o) ∙ o

      kept_done : (a : ℕ) → IsDone graph m a → IsDone graph n a
      kept_done a d = (d.0, others a (λ e. (let same : m a ≡ New = ap m e ∙ new_ in let d1 : m a ≡ Done d.0 = d.1 in cc)) ∙ d.1)

      opened : (a k : ℕ) → m a ≡ Open k → (k : ℕ) × (n a ≡ Open k) × (k < number)
      opened a k o = (k, others a (apart a k o) ∙ o, fresh a k o)

      below_one : (a : ℕ) → In a (nodes_in (g ∷ below)) → (k : ℕ) × (n a ≡ Open k) × (k < number)
      below_one a h = ⊎_elim (λ i. (let k = stack.0.numbered a i in opened a k.0 k.1)) (λ i. (let k = stack.0.under a i in opened a k.0 k.1)) (In-append a g.nodes (nodes_in below) h)

  module _ (m : ℕ → Mark) where
    pub same_number : (a j k : ℕ) → m a ≡ Open j → m a ≡ Open k → j ≡ k
    same_number a j k p q = let e : Open j ≡ Open k = sym p ∙ q in cc

    -- a step that leads back into the groups below joins the last two
    pub merged : (w u : ℕ) (g2 g1 g : GroupView) (below : List GroupView) → Joined g2 g1 g → In u g1.nodes → Step graph u w → In w (nodes_in (g2 ∷ below))
        → Stack graph m (w ∷ []) (g1 ∷ g2 ∷ below) → Stack graph m (w ∷ []) (g ∷ below)
    merged w u g2 g1 g below j from step to s = (
      record {
        some = (u, either_right u g.nodes g2.nodes g1.nodes j.nodes from);
        reach = reaches;
        turns = λ c a h. and_back a w a (stepped a u w (s.0.reach a u (all_in a h) from) step) (reaches w a (wide w to) h);
        waiting = λ x h. ⊎_elim
            (λ i. (let r = s.1.0.waiting x i in (r.0, either_left r.0 g.nodes g2.nodes g1.nodes j.nodes r.1, r.2)))
            (λ i. (let r = s.0.waiting x i in (r.0, either_right r.0 g.nodes g2.nodes g1.nodes j.nodes r.1, r.2)))
            (In-either x g.pending g2.pending g1.pending j.pending h);
        followed = λ a x h t. ⊎_elim (lower_followed a x t) (upper_followed a x t) (In-either a g.nodes g2.nodes g1.nodes j.nodes h);
        numbered = λ a h. ⊎_elim
            (λ i. (let k = s.1.0.numbered a i in (k.0, k.1, omega (arith, k.2, j.first))))
            (λ i. (let k = s.0.numbered a i in (k.0, k.1, omega (arith, k.2, j.first, rises))))
            (In-either a g.nodes g2.nodes g1.nodes j.nodes h);
        under = λ a h. (let k = s.1.0.under a h in (k.0, k.1, omega (arith, k.2, j.first)));
      },
      restack m m (g2.nodes ++ (g1.nodes ++ w ∷ [])) (g.nodes ++ w ∷ []) below (λ a k h o. o) (λ a d. d)
          (λ x h. inl (⊎_elim
          (λ i. In-left x g.nodes (w ∷ []) (either_left x g.nodes g2.nodes g1.nodes j.nodes i))
          (λ i. ⊎_elim (λ b. In-left x g.nodes (w ∷ []) (either_right x g.nodes g2.nodes g1.nodes j.nodes b)) (λ b. In-right x g.nodes (w ∷ []) b) (In-append x g1.nodes (w ∷ []) i))
          (In-append x g2.nodes (g1.nodes ++ w ∷ []) h))) s.1.1,
    )
      where
        wide : (a : ℕ) → In a (nodes_in (g2 ∷ below)) → In a (g.nodes ++ nodes_in below)
        wide a h = ⊎_elim
            (λ i. In-left a g.nodes (nodes_in below) (either_left a g.nodes g2.nodes g1.nodes j.nodes i))
            (λ i. In-right a g.nodes (nodes_in below) i) (In-append a g2.nodes (nodes_in below) h)

        -- of the new group or below: of the upper one, or of the lower one and below
        parted : (a : ℕ) → In a (g.nodes ++ nodes_in below) → In a g1.nodes ⊎ In a (nodes_in (g2 ∷ below))
        parted a h = ⊎_elim
            (λ i. ⊎_elim (λ b. inr (In-left a g2.nodes (nodes_in below) b)) (λ b. inl b) (In-either a g.nodes g2.nodes g1.nodes j.nodes i))
            (λ i. inr (In-right a g2.nodes (nodes_in below) i)) (In-append a g.nodes (nodes_in below) h)

        whole : (a : ℕ) → In a (g.nodes ++ nodes_in below) → In a (g1.nodes ++ nodes_in (g2 ∷ below))
        whole a h = ⊎_elim (λ i. In-left a g1.nodes (nodes_in (g2 ∷ below)) i) (λ i. In-right a g1.nodes (nodes_in (g2 ∷ below)) i) (parted a h)

        all_in : (a : ℕ) → In a g.nodes → In a (g1.nodes ++ nodes_in (g2 ∷ below))
        all_in a h = whole a (In-left a g.nodes (nodes_in below) h)

        through : (a b : ℕ) → In a g1.nodes → In b g2.nodes → Chain graph a b
        through a b h t = and_back a w b (stepped a u w (s.0.reach a u (In-left a g1.nodes (nodes_in (g2 ∷ below)) h) from) step) (s.1.0.reach w b to t)

        reaches : (a b : ℕ) → In a (g.nodes ++ nodes_in below) → In b g.nodes → Reach graph a b
        reaches a b h t = ⊎_elim
            (λ i. ⊎_elim (λ x. inr (through a b x i)) (λ x. s.1.0.reach a b x i) (parted a h))
            (λ i. s.0.reach a b (whole a h) i)
            (In-either b g.nodes g2.nodes g1.nodes j.nodes t)

        upper_followed : (a x : ℕ) → Step graph a x → In a g1.nodes → IsDone graph m x ⊎ In x g.pending ⊎ (IsTrue g.cyclic × In x g.nodes) ⊎ In x (w ∷ [])
        upper_followed a x t h = ⊎_elim (λ d. inl d)
            (⊎_elim (λ p. inr (inl (either_right x g.pending g2.pending g1.pending j.pending p)))
            (⊎_elim (λ c. inr (inr (inl (j.cyclic, either_right x g.nodes g2.nodes g1.nodes j.nodes c.1))))
            (λ o. inr (inr (inr o))))) (s.0.followed a x h t)

        lower_followed : (a x : ℕ) → Step graph a x → In a g2.nodes → IsDone graph m x ⊎ In x g.pending ⊎ (IsTrue g.cyclic × In x g.nodes) ⊎ In x (w ∷ [])
        lower_followed a x t h = ⊎_elim (λ d. inl d)
            (⊎_elim (λ p. inr (inl (either_left x g.pending g2.pending g1.pending j.pending p)))
            (⊎_elim (λ c. inr (inr (inl (j.cyclic, either_left x g.nodes g2.nodes g1.nodes j.nodes c.1))))
            (λ o. ⊎_elim (λ i. inr (inr (inl (j.cyclic, either_right x g.nodes g2.nodes g1.nodes j.nodes i)))) (λ i. inr (inr (inr i))) (In-append x g1.nodes (w ∷ []) o)))) (s.1.0.followed a x h t)

        rises : g2.first ≤ g1.first
        rises =
            let low = s.1.0.numbered s.1.0.some.0 s.1.0.some.1 in
            let high = s.0.under s.1.0.some.0 (In-left s.1.0.some.0 g2.nodes (nodes_in below) s.1.0.some.1) in
            let e : low.0 ≡ high.0 = same_number s.1.0.some.0 low.0 high.0 low.1 high.1 in
            omega (arith, low.2, high.2, e)

    -- a step that leads into the last group itself
    pub turned : (w u : ℕ) (g : GroupView) (below : List GroupView) → In u g.nodes → Step graph u w → In w g.nodes → Stack graph m (w ∷ []) (g ∷ below) → Stack graph m [] (as_cycle g ∷ below)
    turned w u g below from step to s = (
      record {
        some = s.0.some;
        reach = s.0.reach;
        turns = λ c a h. and_back a w a (stepped a u w (s.0.reach a u (In-left a g.nodes (nodes_in below) h) from) step) (s.0.reach w a (In-left w g.nodes (nodes_in below) to) h);
        waiting = s.0.waiting;
        followed = λ a x h t. ⊎_elim (λ d. inl d)
            (⊎_elim (λ p. inr (inl p))
            (⊎_elim (λ c. inr (inr (inl (refl, c.1))))
            (λ o. ⊎_elim (λ e. inr (inr (inl (refl, subst (λ y. In y g.nodes) e to)))) (λ i. absurd i) o))) (s.0.followed a x h t);
        numbered = s.0.numbered;
        under = s.0.under;
      },
      restack m m (g.nodes ++ w ∷ []) (g.nodes ++ []) below (λ a k h o. o) (λ a d. d)
          (λ x h. inl (⊎_elim (λ i. In-left x g.nodes [] i) (λ i. ⊎_elim (λ e. In-left x g.nodes [] (subst (λ y. In y g.nodes) e to)) (λ b. absurd b) i) (In-append x g.nodes (w ∷ []) h))) s.1,
    )

  -- what is left leads to what is left
  pub leads : (m : ℕ → Mark) (a b : ℕ) → ((x y : ℕ) → IsDone graph m x → Step graph x y → IsDone graph m y) → IsDone graph m a → Chain graph a b → IsDone graph m b
  leads m a b closed d (one s) = closed a b d s
  leads m a b closed d (further p s) = closed _ b (leads m a _ closed d p) s

  -- the first step of a chain
  pub first_step : (a c : ℕ) → Chain graph a c → (b : ℕ) × Step graph a b × Reach graph b c
  first_step a c (one s) = (c, s, inl refl)
  first_step a c (further p s) = let f = first_step a _ p in (f.0, f.1, inr (stepped f.0 _ c f.2 s))

  module _ (m n : ℕ → Mark) (g : GroupView) (below : List GroupView) (s : Stack graph m [] (g ∷ below)) (none_waits : g.pending ≡ []) (left : Left graph m)
      (here : (a : ℕ) → In a g.nodes → n a ≡ Done g.cyclic) (there : (a : ℕ) → (In a g.nodes → ⊥) → n a ≡ m a) where
    done_kept : (a : ℕ) → IsDone graph m a → IsDone graph n a
    done_kept a d = ⊎_elim (λ i. (g.cyclic, here a i)) (λ o. (d.0, there a o ∙ d.1)) (is_in a g.nodes)

    not_done : (a : ℕ) → In a g.nodes → IsDone graph m a → ⊥
    not_done a h d = let k = s.0.numbered a h in let e : Open k.0 ≡ Done d.0 = sym k.1 ∙ d.1 in cc

    after : (a w : ℕ) → In a g.nodes → Step graph a w → IsDone graph m w ⊎ (IsTrue g.cyclic × In w g.nodes)
    after a w h t = ⊎_elim (λ d. inl d)
        (⊎_elim (λ p. absurd (subst (In w) none_waits p)) (⊎_elim (λ c. inr c) (λ o. absurd o))) (s.0.followed a w h t)

    apart_below : (a : ℕ) → In a (nodes_in below) → In a g.nodes → ⊥
    apart_below a b h =
        let low = s.0.under a b in
        let high = s.0.numbered a h in
        let e : low.0 ≡ high.0 = same_number m a low.0 high.0 low.1 high.1 in
        omega (arith, low.2, high.2, e)

    pub stack_left : Stack graph n [] below
    stack_left =
        restack m n (g.nodes ++ []) [] below
        (λ a k h o. there a (apart_below a h) ∙ o)
        done_kept
        (λ w h. ⊎_elim (λ i. inr (g.cyclic, here w i)) (λ i. absurd i) (In-append w g.nodes [] h)) s.1

    comes_back : (c : Bool) → g.cyclic ≡ c → (a : ℕ) → In a g.nodes → Chain graph a a → IsTrue c
    comes_back true e a h p = refl
    comes_back false e a h p =
        let f = first_step a a p in
        absurd (⊎_elim
        (λ d. not_done a h (⊎_elim (λ q. subst (IsDone graph m) q d) (λ q. leads m f.0 a left.closed d q) f.2))
        (λ c. (let c0 : IsTrue false = subst IsTrue e c.0 in (cc)))
        (after a f.0 h f.1))

    pub left_after : Left graph n
    left_after = record {
      closed = λ a w d t. ⊎_elim
          (λ i. ⊎_elim (λ x. done_kept w x) (λ c. (g.cyclic, here w c.1)) (after a w i t))
          (λ o. done_kept w (left.closed a w (d.0, sym (there a o) ∙ d.1) t))
          (is_in a g.nodes);
      right = λ a b d. ⊎_elim
          (λ i.
          let e0 : Done g.cyclic ≡ Done b = sym (here a i) ∙ d in
          let e : g.cyclic ≡ b = cc in
          (λ t. s.0.turns (subst IsTrue (sym e) t) a i, λ p. comes_back b e a i p))
          (λ o. left.right a b (sym (there a o) ∙ d))
          (is_in a g.nodes);
    }

    pub on_path_after : OnPath graph m (g ∷ below) → OnPath graph n below
    on_path_after on a k o = ⊎_elim
        (λ i. (let e : Done g.cyclic ≡ Open k = sym (here a i) ∙ o in absurd (clash e)))
        (λ x. ⊎_elim (λ i. absurd (x i)) (λ b. b) (In-append a g.nodes (nodes_in below) (on a k (sym (there a x) ∙ o))))
        (is_in a g.nodes)
      where
        clash : Done g.cyclic ≡ Open k → ⊥
        clash e = cc
