-- Pieces that are written, and pieces that become work.
use Rattle.std.proofs.Common.{◌≡◌, ◌≢◌, true≢false, cond, ◌<◌, ◌≤◌, ◌||◌, ℕ, zero, suc, Bool, true, false, List, [], ◌∷◌, ◌++◌, ◌⊎◌, ⊎_elim, inl, inr, Some, length, map, slice_get, set, get_or, refl, sym, ap, subst, ◌∙◌, arith, append_assoc, length-append}
use Rattle.std.specs.List.{flat_map}
use Rattle.std.specs.Str.{bytes_eq}
use Rattle.std.specs.Cmp.Lexicographic.{bytes_decides}
use Rattle.std.proofs.lemmas.Option.{same_Some, none-some}
use Rattle.std.proofs.lemmas.List.{get_or-set_same, get_or-set_other, length-set}
use Rattle.std.proofs.lemmas.List.Sums.{sum_by-set}
use Rattle.std.proofs.lemmas.Bool.Decides.{eqb_tells}
use Rattle.wr_base.specs.Declarations.{name_of, IsInOrder, times}
use Rattle.wr_base.specs.declared.declaration.Declaration.{Declaration}
use Rattle.wr_base.proofs.TwiceLemmas.{rises_once}
use Rattle.wr_base.specs.Trees.{UseTree, tree_of}
use Rattle.wr_rules.specs.Signatures.{Piece, closing, is_open, joined, pieces_of, part as piece_part, nested, grouped}
use Rattle.pinterface_id.specs.Stack.{Opens, IsNamed, Item, part, leave, put, name_in, name_at, names_open, rest, Opened, Moved, closed_at, deeper}
use Rattle.pinterface_id.proofs.Times.{one_more, no_more, there}
use Rattle.pinterface_id.proofs.PieceLaws.{two_put, rest_parts, opened_parts, nested_is}
use Rattle.wr_base.specs.declared.type_use.TypeUse.{TypeUse}

there_two : (ds : List Declaration) (i j : ℕ) (name : List ℕ) → i < j → slice_get (map name_of ds) i ≡ Some name → slice_get (map name_of ds) j ≡ Some name → 2 ≤ times ds name
there_two [] i j name l e f = absurd (none-some name e)
there_two (d ∷ ds) i zero name l e f = absurd (omega (arith, l))
there_two (d ∷ ds) zero (suc j) name l e f =
    let o = one_more d ds name ((bytes_decides (name_of d) name).1 (same_Some (name_of d) name e)) in let t = there ds j name f in omega (arith, o, t)
there_two (d ∷ ds) (suc i) (suc j) name l e f =
    let t = there_two ds i j name (omega (arith, l)) e f in
    elim (bytes_eq (name_of d) name) as (λ b. bytes_eq (name_of d) name ≡ b → 2 ≤ times (d ∷ ds) name) [
      | true ↦ λ h. (let o = one_more d ds name h in omega (arith, o, t))
      | false ↦ λ h. (let o = no_more d ds name h in omega (arith, o, t))
    ] refl

module _ (types : List Declaration) where
  name_there : (i : ℕ) → i < length types → slice_get (map name_of types) i ≡ Some (name_at types i)
  name_there i l = named types i l
    where
      named : (ds : List Declaration) (k : ℕ) → k < length ds → slice_get (map name_of ds) k ≡ Some (name_in (slice_get ds k))
      named [] k l = absurd (omega (arith, l))
      named (d ∷ ds) zero l = refl
      named (d ∷ ds) (suc k) l = named ds k (omega (arith, l))

  -- names at two places differ
  pub names_differ : (i j : ℕ) → IsInOrder types → i < length types → j < length types → i ≢ j → bytes_eq (name_at types i) (name_at types j) ≡ false
  names_differ i j o l m n = elim (bytes_eq (name_at types i) (name_at types j)) as (λ b. bytes_eq (name_at types i) (name_at types j) ≡ b → b ≡ false) [
    | true ↦ λ h. absurd (both ((bytes_decides (name_at types i) (name_at types j)).0 h))
    | false ↦ λ h. refl
  ] refl
    where
      at_j : name_at types i ≡ name_at types j → slice_get (map name_of types) j ≡ Some (name_at types i)
      at_j e = name_there j m ∙ ap (λ x. Some x) (sym e)

      below : (a b : ℕ) → a ≢ b → (a < b) ⊎ (b < a)
      below a b q = grind (arith, q)

      both : name_at types i ≡ name_at types j → ⊥
      both e =
          let one = rises_once name_of types o.rises (name_at types i) in
          ⊎_elim
          (λ q. (let t = there_two types i j (name_at types i) q (name_there i l) (at_j e) in omega (arith, one, t)))
          (λ q. (let t = there_two types j i (name_at types i) q (at_j e) (name_there i l) in omega (arith, one, t))) (below i j n)

  open_more : (x name : List ℕ) (names : List (List ℕ)) → is_open (x ∷ names) name ≡ (bytes_eq x name || is_open names name)
  open_more x name names = refl

  -- only text is written
  pub only_text : (ps : List Piece) (open_ : List Bool) (st : List Item) (old new text : List ℕ) → Opened types open_ st → new ≡ old ++ text
      → ((r : List Piece) → joined (ps ++ r) ≡ put text (joined r)) → 0 < length ps → Moved types (ps ++ rest types st) open_ st old new
  only_text ps open_ st old new text o e same l = record {
    opened = o;
    written = text;
    text = e;
    same = same (rest types st);
    less = omega (arith, l, length-append ps (rest types st));
  }

  same_or_not : (a b : ℕ) → (a ≡ b) ⊎ (a ≢ b)
  same_or_not a b = ⊎_elim (λ t. inl t.1) (λ t. inr t.1) (eqb_tells a b)

  -- a struct or a class is entered
  pub opened_one : (open_ now : List Bool) (st : List Item) (i : ℕ) → IsInOrder types → i < length types → Opened types open_ st → get_or open_ i false ≡ false → now ≡ set open_ i true
      → Opened types now (leave i ∷ st)
  opened_one open_ now st i order l o shut is = subst (λ ns. Opened types ns (leave i ∷ st)) (sym is) (record {
    apart = (sym (o.flags i l) ∙ shut, l, o.apart);
    flags = λ j m. ⊎_elim
        (λ e. subst (λ k. get_or (set open_ i true) k false ≡ is_open (name_at types i ∷ names_open types st) (name_at types k)) e
        (get_or-set_same open_ i true false (omega (arith, l, o.size))
        ∙ sym (ap (λ b. b || is_open (names_open types st) (name_at types i)) ((bytes_decides (name_at types i) (name_at types i)).1 refl))))
        (λ n. get_or-set_other open_ i j true false (λ e. n (sym e)) ∙ o.flags j m
        ∙ sym (ap (λ b. b || is_open (names_open types st) (name_at types j)) (names_differ i j order l m n)))
        (same_or_not i j);
    size = length-set open_ i true ∙ o.size;
    depth =
        let s = sum_by-set closed_at open_ i true false (omega (arith, l, o.size)) in
        let d = o.depth in
        omega (arith, s, d, ap closed_at shut);
  })

  -- and left
  pub closed_one : (open_ now : List Bool) (st : List Item) (i : ℕ) → IsInOrder types → Opened types open_ (leave i ∷ st) → now ≡ set open_ i false → Opened types now st
  closed_one open_ now st i order o is = subst (λ ns. Opened types ns st) (sym is) (record {
    apart = o.apart.2;
    flags = λ j m. ⊎_elim
        (λ e. subst (λ k. get_or (set open_ i false) k false ≡ is_open (names_open types st) (name_at types k)) e
        (get_or-set_same open_ i false false (omega (arith, o.apart.1, o.size)) ∙ sym o.apart.0))
        (λ n. get_or-set_other open_ i j false false (λ e. n (sym e)) ∙ o.flags j m
        ∙ ap (λ b. b || is_open (names_open types st) (name_at types j)) (names_differ i j order o.apart.1 m n))
        (same_or_not i j);
    size = length-set open_ i false ∙ o.size;
    depth =
        let was : get_or open_ i false ≡ true = o.flags i o.apart.1 ∙ ap (λ b. b || is_open (names_open types st) (name_at types i)) ((bytes_decides (name_at types i) (name_at types i)).1 refl) in
        let s = sum_by-set closed_at open_ i false false (omega (arith, o.apart.1, o.size)) in
        let d = o.depth in
        omega (arith, s, d, ap closed_at was);
  })

  -- a group whose parts become work, and behind them what closes it
  pub parts_move : (head : List ℕ) (us : List UseTree) (open_ : List Bool) (st st1 : List Item) (now : List Item) (old new : List ℕ) → Opened types open_ st1 → now ≡ map part us ++ st1
      → rest types st1 ≡ closing ∷ rest types st → new ≡ old ++ head
      → Moved types ((Some head ∷ flat_map piece_part (map (λ u. pieces_of types (names_open types st1) u) us) ++ closing ∷ []) ++ rest types st) open_ now old new
  parts_move head us open_ st st1 now old new o e r t =
      let parts : List Piece = flat_map piece_part (map (λ u. pieces_of types (names_open types st1) u) us) in
      let whole : rest types now ≡ (parts ++ closing ∷ []) ++ rest types st =
      ap (rest types) e ∙ rest_parts types us st1 ∙ ap (λ ps. parts ++ ps) r ∙ sym (append_assoc parts (closing ∷ []) (rest types st)) in
      record {
        opened = subst (Opened types open_) (sym e) (opened_parts types open_ us st1 o);
        written = head;
        text = t;
        same = ap (λ ps. put head (joined ps)) (sym whole);
        less = omega (arith, ap length whole);
      }

  pub name_here : (i : ℕ) (d : Declaration) → slice_get types i ≡ Some d → name_at types i ≡ name_of d
  name_here i d e = ap name_in e

  -- a struct or a class that isn't open yet
  pub enters : (word name : List ℕ) (i : ℕ) (uses : List TypeUse) (open_ now : List Bool) (st ahead : List Item) (old new : List ℕ) → IsInOrder types → i < length types
      → name_at types i ≡ name → Opened types open_ st → get_or open_ i false ≡ false → now ≡ set open_ i true → ahead ≡ map part (map tree_of uses) ++ leave i ∷ st
      → new ≡ old ++ (word ++ 40 ∷ name) → Moved types (nested types (deeper types (names_open types st)) (names_open types st) word name uses ++ rest types st) now ahead old new
  enters word name i uses open_ now st ahead old new order l e o shut is so text =
      subst (λ (ps : List Piece). Moved types (ps ++ rest types st) now ahead old new)
      (sym (nested_is types word name i uses st e (ap (is_open (names_open types st)) (sym e) ∙ sym (o.flags i l) ∙ shut)))
      (parts_move (word ++ 40 ∷ name) (map tree_of uses) now st (leave i ∷ st) ahead old new (opened_one open_ now st i order l o shut is) so refl text)

  -- a struct or a class that is open already
  pub again : (word name : List ℕ) (i : ℕ) (uses : List TypeUse) (open_ : List Bool) (st : List Item) (old new : List ℕ) → IsNamed types i name → Opened types open_ st → get_or open_ i false ≡ true
      → new ≡ old ++ ((word ++ 40 ∷ name) ++ 41 ∷ []) → Moved types (nested types (deeper types (names_open types st)) (names_open types st) word name uses ++ rest types st) open_ st old new
  again word name i uses open_ st old new n o met text =
      subst (λ (b : Bool). Moved types (grouped word name (cond b [] (map (λ u. deeper types (names_open types st) (name ∷ names_open types st) (tree_of u)) uses)) ++ rest types st) open_ st old new)
      (sym (ap (is_open (names_open types st)) (sym n.named) ∙ sym (o.flags i n.within) ∙ met))
      (only_text (Some (word ++ 40 ∷ name) ∷ closing ∷ []) open_ st old new ((word ++ 40 ∷ name) ++ 41 ∷ []) o text (λ r. two_put (word ++ 40 ∷ name) (41 ∷ []) ((word ++ 40 ∷ name) ++ 41 ∷ []) r refl) (omega arith))

  -- either way, where the parts are put in front of what is left
  pub entered : (word name : List ℕ) (i : ℕ) (uses : List TypeUse) (open_ now : List Bool) (st mid ahead : List Item) (old new : List ℕ) → IsInOrder types → IsNamed types i name → Opened types open_ st
      → Opens true i (word ++ 40 ∷ name) open_ st old now mid new → ahead ≡ map part (map tree_of uses) ++ mid
      → Moved types (nested types (deeper types (names_open types st)) (names_open types st) word name uses ++ rest types st) now ahead old new
  entered word name i uses open_ now st mid ahead old new order n o p a =
      enters word name i uses open_ now st ahead old new order n.within n.named o p.0 p.1 (a ∙ ap (λ (s : List Item). map part (map tree_of uses) ++ s) p.2) p.3

  pub met_again : (word name : List ℕ) (i : ℕ) (uses : List TypeUse) (open_ now : List Bool) (st ahead : List Item) (old new : List ℕ) (fresh : Bool) → fresh ≡ false → IsNamed types i name → Opened types open_ st
      → Opens fresh i (word ++ 40 ∷ name) open_ st old now ahead new
      → Moved types (nested types (deeper types (names_open types st)) (names_open types st) word name uses ++ rest types st) now ahead old new
  met_again word name i uses open_ now st ahead old new true f n o p = absurd (true≢false f)
  met_again word name i uses open_ now st ahead old new false f n o p =
      subst (λ (flags : List Bool). Moved types (nested types (deeper types (names_open types st)) (names_open types st) word name uses ++ rest types st) flags ahead old new) (sym p.1)
      (subst (λ (s : List Item). Moved types (nested types (deeper types (names_open types st)) (names_open types st) word name uses ++ rest types st) open_ s old new) (sym p.2)
      (again word name i uses open_ st old new n o p.0 p.3))

  pub fresh_one : (i : ℕ) (head : List ℕ) (open_ now : List Bool) (st ahead : List Item) (old new : List ℕ) (fresh : Bool) → fresh ≡ true → Opens fresh i head open_ st old now ahead new → Opens true i head open_ st old now ahead new
  fresh_one i head open_ now st ahead old new true f p = p
  fresh_one i head open_ now st ahead old new false f p = absurd (true≢false (sym f))
