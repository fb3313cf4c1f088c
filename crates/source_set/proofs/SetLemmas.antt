-- The files of a set, one more at a time.
use Rattle.std.proofs.Common.{◌≡◌, ℕ, ◌+◌, ◌<◌, Bool, true, false, cond, List, [], ◌∷◌, ◌++◌, length, take, drop, Option, Some, None, IfSome, slice_get, refl, sym, ap, subst, ◌∙◌, arith, inl, inr, append-nil, append_assoc}
use Rattle.std.proofs.lemmas.Bool.{cases_lt}
use Rattle.std.proofs.lemmas.List.{take-append-le, take-append-drop, length-append, length-take-le}
use Rattle.std.proofs.lemmas.List.Sums.{fold-append}
use Rattle.std.proofs.lemmas.Grind.{flat_map-append}
use Rattle.std.proofs.lemmas.Map.Text.{is_eq-slice_cmp}
use Rattle.std.proofs.lemmas.Option.{slice_get_within}
use Rattle.std.proofs.lemmas.Slice.Eq.{bytes_eq-Decides}
use Rattle.std.proofs.Math.Seq.{take-append_seam}
use Rattle.std.specs.Cmp.{eq_by_cmp_equiv}
use Rattle.std.specs.Cmp.Lexicographic.{slice_cmp, nat_list_cmp_total}
use Rattle.std.specs.FinMap as map
use Rattle.std.specs.List.{flat_map}
use Rattle.std.specs.Ordering.{nat_cmp, eq_by_cmp}
use Rattle.std.specs.Str.{bytes_eq}
use Rattle.wr_outside.specs.Files.{Files}
use Rattle.source_set.specs.Events.{IsNext, Follows, Begins, Holds}
use Rattle.source_set.specs.Found.{Read, with_name, with_names, once, found, imports_in}
use Rattle.source_set.specs.Reads.{MayHold}
use Rattle.source_set.proofs.NameLemmas.{Apart, apart_all, none_apart, stays, get_front, get_seam}

-- ---- the names that are found

found_all : (words : List (List ℕ)) (xs ys : List Read) → found words (xs ++ ys) ≡ with_names (found words xs) (flat_map imports_in ys)
unfolding found
found_all words xs ys =
    ap (λ t. once (words ++ t)) (flat_map-append imports_in xs ys)
    ∙ ap once (sym (append_assoc words (flat_map imports_in xs) (flat_map imports_in ys)))
    ∙ fold-append with_name [] (words ++ flat_map imports_in xs) (flat_map imports_in ys)

pub found_more : (words : List (List ℕ)) (reads : List Read) (r : Read) → found words (reads ++ r ∷ []) ≡ with_names (found words reads) (imports_in r)
found_more words reads r = found_all words reads (r ∷ []) ∙ ap (with_names (found words reads)) (append-nil (imports_in r))

pub found_none : (words : List (List ℕ)) → found words [] ≡ once words
unfolding found
found_none words = ap once (append-nil words)

pub found_stays : (words : List (List ℕ)) (reads : List Read) (n k : ℕ) (name : List ℕ) → slice_get (found words (take n reads)) k ≡ Some name → slice_get (found words reads) k ≡ Some name
found_stays words reads n k name e =
    ap (λ t. slice_get (found words t) k) (sym (take-append-drop n reads))
    ∙ ap (λ t. slice_get t k) (found_all words (take n reads) (drop n reads))
    ∙ stays (found words (take n reads)) (flat_map imports_in (drop n reads)) k name e

found_apart : (words : List (List ℕ)) (reads : List Read) → Apart (found words reads)
unfolding found
found_apart words reads = apart_all [] (words ++ flat_map imports_in reads) none_apart

-- ---- one element more

module _ {X : Type 0} (P : ℕ → List X → X → Type 0) where
  pub each_more : (xs : List X) (last : X) → ((k : ℕ) (x : X) → slice_get xs k ≡ Some x → P k (take k xs) x) → P (length xs) xs last
      → (k : ℕ) (x : X) → slice_get (xs ++ last ∷ []) k ≡ Some x → P k (take k (xs ++ last ∷ [])) x
  each_more xs last each here k x e =
      let within : k < length (xs ++ last ∷ []) = slice_get_within (xs ++ last ∷ []) k x e in
      let some : k < length xs + 1 = omega (arith, within, length-append xs (last ∷ [])) in
      elim (cases_lt k (length xs)) [
        | inl low ↦
            subst (λ t. P k t x) (sym (take-append-le k xs (last ∷ []) (omega arith))) (each k x (sym (get_front xs (last ∷ []) k low) ∙ e))
        | inr high ↦
            let end : length xs ≡ k = omega arith in
            let seam : ◌≡◌ {A = Option X} (Some last) (Some x) = sym (get_seam xs last) ∙ ap (slice_get (xs ++ last ∷ [])) end ∙ e in
            let same : last ≡ x = cc in
            subst (λ n. P n (take n (xs ++ last ∷ [])) x) end
            (subst (λ t. P (length xs) t x) (sym (take-append_seam xs (last ∷ []))) (subst (P (length xs) xs) same here))
      ]

pub no_element : {X : Type 0} (k : ℕ) (x : X) → ◌≡◌ {A = Option X} (slice_get [] k) (Some x) → ⊥
no_element {X = X} k x e = let bad : ◌≡◌ {A = Option X} None (Some x) = e in cc

pub begins_none : (words : List (List ℕ)) → Begins words []
begins_none words = record { each = λ k r e. absurd (no_element k r e) }

pub begins_more : (words : List (List ℕ)) (reads : List Read) (r : Read) → Begins words reads → Follows words reads r → Begins words (reads ++ r ∷ [])
begins_more words reads r h f = record { each = each_more (λ k xs x. Follows words xs x) reads r h.each f }

pub holds_more : (files : Files) (reads : List Read) (r : Read) → Holds files reads → map.get files r.name ≡ Some r.bytes → Holds files (reads ++ r ∷ [])
holds_more files reads r h f = record { each = each_more (λ k xs x. map.get files x.name ≡ Some x.bytes) reads r h.each f }

-- ---- a name that comes next is that of no file so far

pub fresh : (words : List (List ℕ)) (reads : List Read) (name : List ℕ) → Begins words reads → IsNext words reads name
    → (k : ℕ) (r : Read) → slice_get reads k ≡ Some r → r.name ≡ name → ⊥
fresh words reads name h next k r e same =
    let within : k < length reads = slice_get_within reads k r e in
    let len : length (take k reads) ≡ k = length-take-le k reads (omega arith) in
    let at : slice_get (found words (take k reads)) k ≡ Some r.name = sym (ap (slice_get (found words (take k reads))) len) ∙ (h.each k r e).next in
    (found_apart words reads).apart k (length reads) r.name name within (found_stays words reads k k r.name at) next same

-- ---- files that a store may hold

abbrev same_name : List ℕ → List ℕ → Bool
same_name a b = eq_by_cmp (slice_cmp nat_cmp) a b

same_itself : (name : List ℕ) → same_name name name ≡ true
same_itself name = (eq_by_cmp_equiv nat_list_cmp_total).refl name

is_false : (b : Bool) → (b ≡ true → ⊥) → b ≡ false
is_false true h = absurd (h refl)
is_false false h = refl

other_name : (a b : List ℕ) → (a ≡ b → ⊥) → same_name a b ≡ false
other_name a b ne = is_eq-slice_cmp a b ∙ is_false (bytes_eq a b) (λ t. ne ((bytes_eq-Decides a b).0 t))

-- these files may be held, the files so far are among them, and this is what is held under the name
pub record Settled (held : Option Files) (reads : List Read) (name : List ℕ) (content : Option (List ℕ)) : Type 0 where
  pub files : Files
  pub may_hold : MayHold held files
  pub holds : Holds files reads
  pub content_is : map.get files name ≡ content

pub settled : (held : Option Files) (files : Files) (reads : List Read) (name : List ℕ) (content : Option (List ℕ)) → MayHold held files → Holds files reads
    → ((k : ℕ) (r : Read) → slice_get reads k ≡ Some r → r.name ≡ name → ⊥) → IfSome held (λ told. map.get told name ≡ content)
    → Settled held reads name content
settled (Some told) files reads name content may holds new is = record {
  files = files;
  may_hold = may;
  holds = holds;
  content_is = ap (λ m. map.get m name) (sym may) ∙ is;
}
settled None files reads name None may holds new is = record {
  files = map.remove files name;
  may_hold = tt;
  holds = record {
    each = λ k r e.
        map.get-remove nat_list_cmp_total files name r.name ∙ ap (λ b. cond b None (map.get files r.name)) (other_name r.name name (new k r e)) ∙ holds.each k r e;
  };
  content_is = map.get-remove nat_list_cmp_total files name name ∙ ap (λ b. cond b None (map.get files name)) (same_itself name);
}
settled None files reads name (Some bytes) may holds new is = record {
  files = map.insert files name bytes;
  may_hold = tt;
  holds = record {
    each = λ k r e.
        map.get-insert nat_list_cmp_total files name bytes r.name ∙ ap (λ b. cond b (Some bytes) (map.get files r.name)) (other_name r.name name (new k r e))
        ∙ holds.each k r e;
  };
  content_is = map.get-insert nat_list_cmp_total files name bytes name ∙ ap (λ b. cond b (Some bytes) (map.get files name)) (same_itself name);
}
