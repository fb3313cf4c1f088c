-- Instances, and the ends of the walk.
use Rattle.std.proofs.Common.{◌≡◌, ◌<◌, ◌≤◌, ℕ, Bool, true, false, List, [], ◌∷◌, ◌++◌, Option, Some, None, length, map, refl, sym, ap, subst, ◌∙◌, arith, append-nil, append_assoc, set, Result, Ok, Err, IfOk}
use Rattle.std.specs.Prelude.{codes}
use Rattle.std.proofs.lemmas.List.{length-map}
use Rattle.wr_base.specs.declared.declaration.Declaration.{Declaration}
use Rattle.wr_base.specs.declared.type_use.TypeUse.{TypeUse}
use Rattle.wr_base.specs.declared.type_use.TypeUse.TheViews.{Inst}
use Rattle.wr_base.specs.Declarations.{IsInOrder}
use Rattle.found_table.specs.Found.{FoundRow}
use Rattle.wr_rules.specs.Kinds as kinds
use Rattle.wr_rules.specs.Kinds.{named}
use Rattle.wr_base.specs.Trees.{UseTree, uses_of, list_of, tree_of}
use Rattle.wr_rules.specs.Signatures.{Piece, joined, grouped, braced, instance_pieces, level_pieces, pieces_among, pieces_of, signature_text}
use Rattle.wr_base.proofs.TreeLaws.{tree_Inst}
use Rattle.pinterface_id.specs.Stack.{Item, part, close, leave, put, names_open, rest, Opened, Moved, Entered, deeper, template_id}
use Rattle.pinterface_id.specs.Progress.{SoFar, Advanced}
use Rattle.pinterface_id.proofs.PieceLaws.{one_level}
use Rattle.pinterface_id.proofs.Moves.{parts_move, closed_one}

listed_back : (us : List UseTree) → list_of (uses_of us) ≡ us
listed_back [] = refl
listed_back (u ∷ us) = ap (λ (xs : List UseTree). u ∷ xs) (listed_back us)

template_some : (m : Option kinds.Meaning) (id : ℕ) (parts : List (List Piece)) → template_id m ≡ Some id → instance_pieces m parts ≡ grouped (codes "pinterface") (braced id) parts
template_some None id parts e = cc
template_some (Some (kinds.declared d)) id parts e = cc
template_some (Some (kinds.found (FoundRow.Struct name fields))) id parts e = cc
template_some (Some (kinds.found (FoundRow.Interface name arguments i members))) id parts e = let q : i ≡ id = cc in ap (λ k. grouped (codes "pinterface") (braced k) parts) q
template_some (Some (kinds.found (FoundRow.Delegate name arguments i params))) id parts e = let q : i ≡ id = cc in ap (λ k. grouped (codes "pinterface") (braced k) parts) q

template_none : (m : Option kinds.Meaning) (parts : List (List Piece)) → template_id m ≡ None → instance_pieces m parts ≡ None ∷ []
template_none None parts e = refl
template_none (Some (kinds.declared d)) parts e = refl
template_none (Some (kinds.found (FoundRow.Struct name fields))) parts e = refl
template_none (Some (kinds.found (FoundRow.Interface name arguments i members))) parts e = cc
template_none (Some (kinds.found (FoundRow.Delegate name arguments i params))) parts e = cc

module _ (types : List Declaration) where
  among_is : (inside : List (List ℕ)) (us : List UseTree) → pieces_among types (deeper types inside) inside (uses_of us) ≡ map (λ u. level_pieces types (deeper types inside) inside u) us
  among_is inside [] = refl
  among_is inside (u ∷ us) = ap (λ (ps : List (List Piece)). level_pieces types (deeper types inside) inside u ∷ ps) (among_is inside us)

  pub fits : (flags : List Bool) (st : List Item) → Opened types flags st → length (names_open types st) ≤ length types
  fits flags st o = let d = o.depth in omega (arith, d)

  -- the pieces of an instance
  pub instance_is : (st : List Item) (flags : List Bool) (use_ : TypeUse) (name : List ℕ) (arguments : List TypeUse) → use_ ≡ Inst name arguments → Opened types flags st
      → level_pieces types (deeper types (names_open types st)) (names_open types st) (tree_of use_)
      ≡ instance_pieces (named types name (length arguments)) (map (λ u. pieces_of types (names_open types st) u) (map tree_of arguments))
  instance_is st flags use_ name arguments e o =
      ap (λ u. level_pieces types (deeper types (names_open types st)) (names_open types st) (tree_of u)) e
      ∙ ap (level_pieces types (deeper types (names_open types st)) (names_open types st)) (tree_Inst name arguments)
      ∙ ap (λ us. instance_pieces (named types name (length us)) (pieces_among types (deeper types (names_open types st)) (names_open types st) (uses_of (map tree_of arguments)))) (listed_back (map tree_of arguments))
      ∙ ap (λ n. instance_pieces (named types name n) (pieces_among types (deeper types (names_open types st)) (names_open types st) (uses_of (map tree_of arguments)))) (length-map arguments tree_of)
      ∙ ap (instance_pieces (named types name (length arguments))) (among_is (names_open types st) (map tree_of arguments))
      ∙ ap (λ (f : UseTree → List Piece). instance_pieces (named types name (length arguments)) (map f (map tree_of arguments)))
      (λ i u. sym (one_level types (names_open types st) u (fits flags st o)) i)

  pub instance_moves : (st ahead : List Item) (flags : List Bool) (use_ : TypeUse) (name : List ℕ) (arguments : List TypeUse) (id : ℕ) (old new : List ℕ) → use_ ≡ Inst name arguments → Opened types flags st
      → template_id (named types name (length arguments)) ≡ Some id → ahead ≡ map part (map tree_of arguments) ++ close ∷ st → new ≡ old ++ (codes "pinterface" ++ 40 ∷ braced id)
      → Moved types (level_pieces types (deeper types (names_open types st)) (names_open types st) (tree_of use_) ++ rest types st) flags ahead old new
  instance_moves st ahead flags use_ name arguments id old new e o t a text =
      subst (λ (ps : List Piece). Moved types (ps ++ rest types st) flags ahead old new)
      (sym (instance_is st flags use_ name arguments e o ∙ template_some (named types name (length arguments)) id (map (λ u. pieces_of types (names_open types st) u) (map tree_of arguments)) t))
      (parts_move types (codes "pinterface" ++ 40 ∷ braced id) (map tree_of arguments) flags st (close ∷ st) ahead old new
      (record { apart = o.apart; flags = o.flags; size = o.size; depth = o.depth }) a refl text)

  pub instance_fails : (st : List Item) (flags : List Bool) (use_ : TypeUse) (name : List ℕ) (arguments : List TypeUse) → use_ ≡ Inst name arguments → Opened types flags st
      → template_id (named types name (length arguments)) ≡ None → joined (level_pieces types (deeper types (names_open types st)) (names_open types st) (tree_of use_) ++ rest types st) ≡ None
  instance_fails st flags use_ name arguments e o t =
      ap (λ (ps : List Piece). joined (ps ++ rest types st)) (instance_is st flags use_ name arguments e o ∙ template_none (named types name (length arguments)) (map (λ u. pieces_of types (names_open types st) u) (map tree_of arguments)) t)

  put_twice : (a b : List ℕ) (o : Option (List ℕ)) → put a (put b o) ≡ put (a ++ b) o
  put_twice a b None = refl
  put_twice a b (Some r) = ap (λ t. Some t) (sym (append_assoc a b r))

  module _ (whole : Option (List ℕ)) (flags : List Bool) (st : List Item) (text : List ℕ) where
    -- a part is entered
    pub part_more : (u : UseTree) (now : List Bool) (ahead : List Item) (mid new : List ℕ) → SoFar types whole flags (part u ∷ st) text → mid ≡ text ++ 59 ∷ []
        → Moved types (level_pieces types (deeper types (names_open types st)) (names_open types st) u ++ rest types st) now ahead mid new → SoFar types whole now ahead new
    part_more u now ahead mid new s e m = record {
      opened = m.opened;
      same =
          s.same
          ∙ put_twice text (59 ∷ []) (joined (pieces_of types (names_open types st) u ++ rest types st))
          ∙ ap (λ (ps : List Piece). put (text ++ 59 ∷ []) (joined (ps ++ rest types st))) (one_level types (names_open types st) u (fits flags (part u ∷ st) s.opened))
          ∙ ap (put (text ++ 59 ∷ [])) m.same
          ∙ put_twice (text ++ 59 ∷ []) m.written (joined (rest types ahead))
          ∙ ap (λ t. put t (joined (rest types ahead))) (sym (m.text ∙ ap (λ x. x ++ m.written) e));
    }

    pub part_less : (u : UseTree) (now : List Bool) (ahead : List Item) (mid new : List ℕ) → Opened types flags (part u ∷ st)
        → Moved types (level_pieces types (deeper types (names_open types st)) (names_open types st) u ++ rest types st) now ahead mid new → length (rest types ahead) < length (rest types (part u ∷ st))
    part_less u now ahead mid new s m =
        let e = ap (λ (ps : List Piece). length (ps ++ rest types st)) (one_level types (names_open types st) u (fits flags (part u ∷ st) s)) in
        let l = m.less in
        omega (arith, e, l)

    pub part_fails : (u : UseTree) → SoFar types whole flags (part u ∷ st) text
        → joined (level_pieces types (deeper types (names_open types st)) (names_open types st) u ++ rest types st) ≡ None → whole ≡ None
    part_fails u s n =
        s.same
        ∙ ap (λ (ps : List Piece). put text (put (59 ∷ []) (joined (ps ++ rest types st)))) (one_level types (names_open types st) u (fits flags (part u ∷ st) s.opened))
        ∙ ap (λ o. put text (put (59 ∷ []) o)) n

    pub close_more : (new : List ℕ) → SoFar types whole flags (close ∷ st) text → new ≡ text ++ 41 ∷ [] → SoFar types whole flags st new
    close_more new s e = record {
      opened = record { apart = s.opened.apart; flags = s.opened.flags; size = s.opened.size; depth = s.opened.depth };
      same = s.same ∙ put_twice text (41 ∷ []) (joined (rest types st)) ∙ ap (λ t. put t (joined (rest types st))) (sym e);
    }

    pub leave_more : (i : ℕ) (now : List Bool) (new : List ℕ) → IsInOrder types → SoFar types whole flags (leave i ∷ st) text → now ≡ set flags i false → new ≡ text ++ 41 ∷ [] → SoFar types whole now st new
    leave_more i now new order s is e = record {
      opened = closed_one types flags now st i order s.opened is;
      same = s.same ∙ put_twice text (41 ∷ []) (joined (rest types st)) ∙ ap (λ t. put t (joined (rest types st))) (sym e);
    }

  -- the walk begins
  pub starts : (flags now : List Bool) (ahead : List Item) (u : UseTree) (text : List ℕ) → Opened types flags []
      → Moved types (level_pieces types (deeper types []) [] u ++ []) now ahead [] text → SoFar types (signature_text types u) now ahead text
  unfolding signature_text
  starts flags now ahead u text o m = record {
    opened = m.opened;
    same =
        ap joined (one_level types [] u (fits flags [] o)) ∙ ap joined (sym (append-nil (level_pieces types (deeper types []) [] u)))
        ∙ m.same ∙ ap (λ t. put t (joined (rest types ahead))) (sym m.text);
  }

  pub starts_not : (flags : List Bool) (u : UseTree) → Opened types flags [] → joined (level_pieces types (deeper types []) [] u ++ []) ≡ None → signature_text types u ≡ None
  unfolding signature_text
  starts_not flags u o n = ap joined (one_level types [] u (fits flags [] o)) ∙ ap joined (sym (append-nil (level_pieces types (deeper types []) [] u))) ∙ n

  -- and ends
  pub ended : (whole : Option (List ℕ)) (flags : List Bool) (st : List Item) (text : List ℕ) → st ≡ [] → SoFar types whole flags st text → Some text ≡ whole
  ended whole flags st text e s = sym (s.same ∙ ap (λ x. put text (joined (rest types x))) e ∙ ap (λ t. Some t) (append-nil text))

  pub part_advances : (fine : Bool) (flags : List Bool) (st : List Item) (text : List ℕ) (u : UseTree) (now : List Bool) (ahead : List Item) (mid new : List ℕ) → Opened types flags (part u ∷ st) → mid ≡ text ++ 59 ∷ []
      → Entered types fine (level_pieces types (deeper types (names_open types st)) (names_open types st) u ++ rest types st) now ahead mid new → Advanced types fine flags (part u) st text now ahead new
  part_advances true flags st text u now ahead mid new o e m = (λ whole s. part_more whole flags st text u now ahead mid new s e m, part_less None flags st text u now ahead mid new o m)
  part_advances false flags st text u now ahead mid new o e n = λ whole s. part_fails whole flags st text u s n

  pub starts_from : (fine : Bool) (flags now : List Bool) (st ahead : List Item) (u : UseTree) (old text : List ℕ) → Opened types flags [] → st ≡ [] → old ≡ [] → fine ≡ true
      → Entered types fine (level_pieces types (deeper types (names_open types st)) (names_open types st) u ++ rest types st) now ahead old text → SoFar types (signature_text types u) now ahead text
  starts_from fine flags now st ahead u old text o e f g h =
      starts flags now ahead u text o
      (subst (λ x. Moved types (level_pieces types (deeper types []) [] u ++ []) now ahead x text) f
      (subst (λ (s : List Item). Moved types (level_pieces types (deeper types (names_open types s)) (names_open types s) u ++ rest types s) now ahead old text) e
      (subst (λ (b : Bool). Entered types b (level_pieces types (deeper types (names_open types st)) (names_open types st) u ++ rest types st) now ahead old text) g h)))

  pub fails_from : (fine : Bool) (flags now : List Bool) (st ahead : List Item) (u : UseTree) (old text : List ℕ) → Opened types flags [] → st ≡ [] → fine ≡ false
      → Entered types fine (level_pieces types (deeper types (names_open types st)) (names_open types st) u ++ rest types st) now ahead old text → signature_text types u ≡ None
  fails_from fine flags now st ahead u old text o e g h =
      starts_not flags u o
      (subst (λ (s : List Item). joined (level_pieces types (deeper types (names_open types s)) (names_open types s) u ++ rest types s) ≡ None) e
      (subst (λ (b : Bool). Entered types b (level_pieces types (deeper types (names_open types st)) (names_open types st) u ++ rest types st) now ahead old text) g h))

  module _ (fine : Bool) (whole : Option (List ℕ)) (flags : List Bool) (all_ st : List Item) (item : Item) (text : List ℕ) (now : List Bool) (ahead : List Item) (new : List ℕ)
      (is : all_ ≡ item ∷ st) (h : Advanced types fine flags item st text now ahead new) where
    pub advances : fine ≡ true → SoFar types whole flags all_ text → SoFar types whole now ahead new
    advances g s = (subst (λ (b : Bool). Advanced types b flags item st text now ahead new) g h).0 whole (subst (λ (x : List Item). SoFar types whole flags x text) is s)

    pub lessens : fine ≡ true → length (rest types ahead) < length (rest types all_)
    lessens g = subst (λ (x : List Item). length (rest types ahead) < length (rest types x)) (sym is) (subst (λ (b : Bool). Advanced types b flags item st text now ahead new) g h).1

    pub gives_up : fine ≡ false → SoFar types whole flags all_ text → whole ≡ None
    gives_up g s = (subst (λ (b : Bool). Advanced types b flags item st text now ahead new) g h) whole (subst (λ (x : List Item). SoFar types whole flags x text) is s)

pub if_ok_then : {X E : Type 0} (r : Result X E) (P Q : X → Type 0) → ((x : X) → P x → Q x) → IfOk r P → IfOk r Q
if_ok_then (Ok x) P Q f h = f x h
if_ok_then (Err e) P Q f h = tt
