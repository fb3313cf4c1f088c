-- Each step of the search, from state to state.
use Rattle.std.proofs.Common.{◌≡◌, ◌≢◌, ◌<◌, ◌≤◌, ◌+◌, ◌*◌, ◌↔◌, Bool, false, Result, Ok, Err, IfOk, IsTrue, ℕ, zero, suc, List, [], ◌∷◌, ◌++◌, inl, inr, ⊎_elim, refl, sym, ap, subst, ◌∙◌, arith, length, map, set, get_or, length-append}
use Rattle.std.proofs.Math.Nat.{mul-le-mul_right}
use Rattle.std.proofs.lemmas.List.{length-set, get_or-map}
use Rattle.chains.specs.declared.group.Mark.{Mark}
use Rattle.chains.specs.declared.group.Mark.TheVariants.{New, Open, Done}
use Rattle.chains.specs.Graphs.{In, Chain, IsClosed, steps_of}
use Rattle.chains.specs.Groups.{GroupView}
use Rattle.chains.specs.Merging.{Merged}
use Rattle.chains.specs.Marks.{mark_in, new_at, news, told, State, Taken, total_steps, weight, Known, Stepped}
use Rattle.chains.specs.Search.{nodes_in, IsDone}
use Rattle.chains.proofs.Members.{is_in, In-right}
use Rattle.chains.proofs.Marking.{set_here, set_there, fewer_news_by, same_or_not}
use Rattle.chains.proofs.SearchLaws.{taken, origin, waits, left_already, entered, stack_left, left_after, on_path_after}

pub degree_fits : (graph : List (List ℕ)) (a : ℕ) → length (steps_of graph a) ≤ total_steps graph
degree_fits [] a = omega arith
degree_fits (s ∷ ss) zero = omega arith
degree_fits (s ∷ ss) (suc a) = let h : length (steps_of ss a) ≤ total_steps ss = degree_fits ss a in omega (arith, h)

product : (n k t : ℕ) → n + 1 ≡ k → n * (t + 2) + (t + 2) ≡ k * (t + 2)
product n k t e = let h : (n + 1) * (t + 2) ≡ n * (t + 2) + (t + 2) = omega arith in sym h ∙ ap (λ x. x * (t + 2)) e

module _ (graph : List (List ℕ)) (marks : List Mark) (g : GroupView) (below : List GroupView) (w number : ℕ) (t : Taken graph marks g below w number) where
  pub follows_done : (views : List GroupView) (b : _) → views ≡ g ∷ below → mark_in marks w ≡ Done b → Stepped graph marks (weight graph marks (g ∷ below) + 1) marks views number
  follows_done views b e d = subst (λ s. Stepped graph marks (weight graph marks (g ∷ below) + 1) marks s number) (sym e) (record {
    state = record {
      stack = left_already graph (mark_in marks) w (g ∷ below) (b, d) t.stack;
      left = t.left;
      on_path = t.on_path;
      visits = t.visits;
      room = t.room;
      whole = t.whole;
    };
    known = λ a n. n;
    smaller = omega arith;
  })

  pub follows_open : (views rest : List GroupView) (h : GroupView) (k : ℕ) → views ≡ h ∷ rest → mark_in marks w ≡ Open k → Merged k g below h rest
      → Stepped graph marks (weight graph marks (g ∷ below) + 1) marks views number
  follows_open views rest h k e o m = subst (λ s. Stepped graph marks (weight graph marks (g ∷ below) + 1) marks s number) (sym e) (record {
    state = record {
      stack = m.stack graph (mark_in marks) w t.u (record { from = t.from; step = t.step; to = t.on_path w k o; open_ = o; stack = t.stack });
      left = t.left;
      on_path = λ a j x. m.nodes a (t.on_path a j x);
      visits = t.visits;
      room = t.room;
      whole = t.whole;
    };
    known = λ a n. n;
    smaller = let s = m.size in omega (arith, s);
  })

  pub follows_new : (after : List Mark) (views : List GroupView) (s : GroupView) → views ≡ s ∷ g ∷ below → mark_in marks w ≡ New → w < length marks → after ≡ set marks w (Open number)
      → s ≡ record { nodes = w ∷ []; pending = steps_of graph w; first = number; cyclic = false }
      → Stepped graph marks (weight graph marks (g ∷ below) + 1) after views (number + 1)
  follows_new after views s e n l is so = subst (λ x. Stepped graph marks (weight graph marks (g ∷ below) + 1) after x (number + 1)) (sym e) (record {
    state = record {
      stack = entered graph (mark_in marks) (mark_in after) t.u w number g s below t.from t.step n here there so t.visits t.stack;
      left = record {
        closed = λ a x d p. kept_done x (t.left.closed a x (back_done a d) p);
        right = λ a b d. t.left.right a b (sym (there a (λ q. not_both b (sym here ∙ sym (ap (mark_in after) q) ∙ d))) ∙ d);
      };
      on_path = λ a k o. ⊎_elim
          (λ q. subst (λ x. In x (nodes_in (s ∷ g ∷ below))) q (subst (λ x. In w (x.nodes ++ nodes_in (g ∷ below))) (sym so) (inl refl)))
          (λ q. In-right a s.nodes (nodes_in (g ∷ below)) (t.on_path a k (sym (there a (λ p. q (sym p))) ∙ o))) (same_or_not w a);
      visits = λ a k o. ⊎_elim
          (λ q. (let f : Open number ≡ Open k = sym here ∙ ap (mark_in after) q ∙ o in let f2 : number ≡ k = cc in omega (arith, f2)))
          (λ q. (let f : k < number = t.visits a k (sym (there a (λ p. q (sym p))) ∙ o) in omega (arith, f))) (same_or_not w a);
      room = let r = t.room in omega (arith, r, one_less, same_length);
      whole = same_length ∙ t.whole;
    };
    known = λ a k. ⊎_elim
        (λ q f. (let x : Open number ≡ New = sym here ∙ ap (mark_in after) q ∙ f in cc))
        (λ q f. k (sym (there a (λ p. q (sym p))) ∙ f)) (same_or_not w a);
    smaller =
        let p = product (news after) (news marks) (total_steps graph) one_less in
        let d = degree_fits graph w in
        let f : length s.pending ≡ length (steps_of graph w) = ap (λ x. length x.pending) so in
        omega (arith, p, d, f);
  })
    where
      here : mark_in after w ≡ Open number
      here = ap (λ ms. mark_in ms w) is ∙ set_here marks w (Open number) l

      there : (a : ℕ) → a ≢ w → mark_in after a ≡ mark_in marks a
      there a q = ap (λ ms. mark_in ms a) is ∙ set_there marks w a (Open number) q

      not_both : (b : _) → Open number ≡ Done b → ⊥
      not_both b f = cc

      kept_done : (a : ℕ) → IsDone graph (mark_in marks) a → IsDone graph (mark_in after) a
      kept_done a d = (d.0, there a (λ q. (let x : New ≡ Done d.0 = sym n ∙ sym (ap (mark_in marks) q) ∙ d.1 in cc)) ∙ d.1)

      back_done : (a : ℕ) → IsDone graph (mark_in after) a → IsDone graph (mark_in marks) a
      back_done a d = (d.0, sym (there a (λ q. not_both d.0 (sym here ∙ sym (ap (mark_in after) q) ∙ d.1))) ∙ d.1)

      one_less : news after + 1 ≡ news marks
      one_less = let f = fewer_news_by marks w (Open number) l in omega (arith, f, ap news is, ap new_at n)

      same_length : length after ≡ length marks
      same_length = ap length is ∙ length-set marks w (Open number)

module _ (graph : List (List ℕ)) (marks : List Mark) (g : GroupView) (below : List GroupView) (number : ℕ) (st : State graph marks (g ∷ below) number) where
  -- the last group has no step left
  pub leaves : (after : List Mark) → g.pending ≡ [] → ((a : ℕ) → In a g.nodes → mark_in after a ≡ Done g.cyclic) → ((a : ℕ) → (In a g.nodes → ⊥) → mark_in after a ≡ mark_in marks a)
      → news after ≤ news marks → length after ≡ length marks → Stepped graph marks (weight graph marks (g ∷ below)) after below number
  leaves after e here there fewer same = record {
    state = record {
      stack = stack_left graph (mark_in marks) (mark_in after) g below st.stack e st.left here there;
      left = left_after graph (mark_in marks) (mark_in after) g below st.stack e st.left here there;
      on_path = on_path_after graph (mark_in marks) (mark_in after) g below st.stack e st.left here there st.on_path;
      visits = λ a k o. ⊎_elim
          (λ i. absurd (clash k (sym (here a i) ∙ o)))
          (λ x. st.visits a k (sym (there a x) ∙ o)) (is_in a g.nodes);
      room = let r = st.room in omega (arith, r, fewer, same);
      whole = same ∙ st.whole;
    };
    known = λ a n. ⊎_elim (λ i f. (let x : Done g.cyclic ≡ New = sym (here a i) ∙ f in cc)) (λ i f. n (sym (there a i) ∙ f)) (is_in a g.nodes);
    smaller = let p = mul-le-mul_right (total_steps graph + 2) fewer in omega (arith, p);
  }
    where
      clash : (k : ℕ) → Done g.cyclic ≡ Open k → ⊥
      clash k f = cc

  -- it has one more step
  pub takes : (rest : List ℕ) (w : ℕ) → g.pending ≡ rest ++ w ∷ [] → Taken graph marks (waits graph g rest) below w number
  takes rest w e =
      let o = origin graph (mark_in marks) g below rest w e st.stack in
      record {
        u = o.0;
        from = o.1;
        step = o.2;
        stack = taken graph (mark_in marks) g below rest w e st.stack;
        left = st.left;
        on_path = st.on_path;
        visits = st.visits;
        room = st.room;
        whole = st.whole;
      }

  pub less_to_do : (rest : List ℕ) (w : ℕ) → g.pending ≡ rest ++ w ∷ [] → weight graph marks (waits graph g rest ∷ below) + 1 ≡ weight graph marks (g ∷ below)
  less_to_do rest w e = omega (arith, ap length e ∙ length-append rest (w ∷ []))

  pub leads_within : (n w : ℕ) (rest : List ℕ) → IsClosed graph n → g.pending ≡ rest ++ w ∷ [] → w < n
  leads_within n w rest closed e = let o = origin graph (mark_in marks) g below rest w e st.stack in closed o.0 w o.2

-- a search begins at a number that is new
module _ (graph : List (List ℕ)) (marks after : List Mark) (s : GroupView) (w number : ℕ) (idle : State graph marks [] number) (n : mark_in marks w ≡ New) (l : w < length marks)
    (is : after ≡ set marks w (Open number)) (so : s ≡ record { nodes = w ∷ []; pending = steps_of graph w; first = number; cyclic = false }) where
  begun : mark_in after w ≡ Open number
  begun = ap (λ ms. mark_in ms w) is ∙ set_here marks w (Open number) l

  as_before : (a : ℕ) → a ≢ w → mark_in after a ≡ mark_in marks a
  as_before a q = ap (λ ms. mark_in ms a) is ∙ set_there marks w a (Open number) q

  -- what is left isn't the new one
  apart : (a : ℕ) (b : _) → mark_in after a ≡ Done b → a ≢ w
  apart a b d q = let x : Open number ≡ Done b = sym begun ∙ sym (ap (mark_in after) q) ∙ d in cc

  to_old : (a : ℕ) → IsDone graph (mark_in after) a → IsDone graph (mark_in marks) a
  to_old a d = (d.0, sym (as_before a (apart a d.0 d.1)) ∙ d.1)

  to_new : (a : ℕ) → IsDone graph (mark_in marks) a → IsDone graph (mark_in after) a
  to_new a d = (d.0, as_before a (λ q. (let x : New ≡ Done d.0 = sym n ∙ sym (ap (mark_in marks) q) ∙ d.1 in cc)) ∙ d.1)

  pub begins : State graph after (s ∷ []) (number + 1)
  begins = subst (λ t. State graph after (t ∷ []) (number + 1)) (sym so) (record {
    stack = (
      record {
        some = (w, inl refl);
        reach = λ a b h t. ⊎_elim (λ e. ⊎_elim (λ x. inl (sym x ∙ e)) (λ i. absurd i) h) (λ i. absurd i) t;
        turns = λ c. absurd (no_turn c);
        waiting = λ x h. (w, inl refl, h);
        followed = λ a x h t. ⊎_elim (λ e. inr (inl (subst (λ y. In x (steps_of graph y)) (sym e) t))) (λ i. absurd i) h;
        numbered = λ a h. ⊎_elim (λ e. (number, subst (λ x. mark_in after x ≡ Open number) e begun, omega arith)) (λ i. absurd i) h;
        under = λ a h. absurd h;
      },
      tt,
    );
    left = record {
      closed = λ a x d p. to_new x (idle.left.closed a x (to_old a d) p);
      right = λ a b d. idle.left.right a b (sym (as_before a (apart a b d)) ∙ d);
    };
    on_path = λ a k o. ⊎_elim (λ q. inl q) (λ q. inr (idle.on_path a k (sym (as_before a (λ p. q (sym p))) ∙ o))) (same_or_not w a);
    visits = λ a k o. ⊎_elim
        (λ q. (let f : Open number ≡ Open k = sym begun ∙ ap (mark_in after) q ∙ o in let f2 : number ≡ k = cc in omega (arith, f2)))
        (λ q. (let f : k < number = idle.visits a k (sym (as_before a (λ p. q (sym p))) ∙ o) in omega (arith, f))) (same_or_not w a);
    room = let r = idle.room in let f = fewer_news_by marks w (Open number) l in omega (arith, r, f, ap news is, ap new_at n, ap length is ∙ length-set marks w (Open number));
    whole = ap length is ∙ length-set marks w (Open number) ∙ idle.whole;
  })
    where
      no_turn : IsTrue false → ⊥
      no_turn c = cc

  pub begins_known : Known marks after
  begins_known a k = ⊎_elim
      (λ q f. (let x : Open number ≡ New = sym begun ∙ ap (mark_in after) q ∙ f in cc))
      (λ q f. k (sym (as_before a (λ p. q (sym p))) ∙ f)) (same_or_not w a)

  pub begins_done : mark_in after w ≢ New
  begins_done f = let x : Open number ≡ New = sym begun ∙ f in cc

  pub begins_room : number + 1 ≤ length marks
  begins_room = let r = idle.room in let f = fewer_news_by marks w (Open number) l in omega (arith, r, f, ap new_at n)

-- at the end each number is left
module _ (graph : List (List ℕ)) (marks : List Mark) (number : ℕ) (idle : State graph marks [] number) where
  told_right : (a : ℕ) (m : Mark) → mark_in marks a ≡ m → mark_in marks a ≢ New → IsTrue (told (mark_in marks a)) ↔ Chain graph a a
  told_right a New e n = absurd (n e)
  told_right a (Open k) e n = absurd (idle.on_path a k e)
  told_right a (Done b) e n = subst (λ (m : Mark). IsTrue (told m) ↔ Chain graph a a) (sym e) (idle.left.right a b e)

  pub tells : (on : List Bool) (n : ℕ) → on ≡ map told marks → n ≡ length marks → ((a : ℕ) → a < n → mark_in marks a ≢ New) → (a : ℕ) → a < n → IsTrue (get_or on a false) ↔ Chain graph a a
  tells on n e l met a below =
      let is : get_or on a false ≡ told (mark_in marks a) = ap (λ xs. get_or xs a false) e ∙ get_or-map told marks a New false (omega (arith, l)) in
      subst (λ t. IsTrue t ↔ Chain graph a a) (sym is) (told_right a (mark_in marks a) refl (met a below))

pub if_ok_then : {X E : Type 0} (r : Result X E) (P Q : X → Type 0) → ((x : X) → P x → Q x) → IfOk r P → IfOk r Q
if_ok_then (Ok x) P Q f h = f x h
if_ok_then (Err e) P Q f h = tt
