-- ABI names, one member after another.
use Rattle.std.proofs.Common.{◌≡◌, ℕ, ◌+◌, ◌-◌, ◌<◌, ◌≤◌, Bool, true, false, cond, List, [], ◌∷◌, ◌++◌, Option, Some, take, drop, get_or, set, length, count_by, refl, sym, ap, ◌∙◌, arith, append_assoc, true≢false, add-one, drop-cons, length-take-le}
use Rattle.std.specs.Option.{unwrap_or}
use Rattle.std.specs.Map.{update}
use Rattle.std.specs.Str.{bytes_eq}
use Rattle.std.specs.Cmp.Lexicographic.{bytes_decides}
use Rattle.std.proofs.lemmas.List.{take_more, append-nil, set_at, get_or-append_right}
use Rattle.std.proofs.lemmas.List.Sums.{count_by_more_yes, count_by_more_no, count_by-le-length}
use Rattle.wr_base.specs.declared.declaration.Member.{Member}
use Rattle.wr_base.specs.declared.declaration.Member.TheVariants.{Method, Property, Event}
use Rattle.midl_names.specs.Members.{is_method, told_count, noted, count_before, with_abi, named_from}

length-named_from : (before ms : List Member) → length (named_from before ms) ≡ length ms
length-named_from before [] = refl
length-named_from before (m ∷ ms) = omega (arith, length-named_from (before ++ m ∷ []) ms)

named_push : (before ms : List Member) (m : Member) → named_from before (ms ++ m ∷ []) ≡ named_from before ms ++ with_abi (count_before (before ++ ms) m) m ∷ []
named_push before [] m = ap (λ (ns : List Member). with_abi (count_before ns m) m ∷ []) (sym (append-nil before))
named_push before (n ∷ ns) m =
    ap (λ (r : List Member). with_abi (count_before before n) n ∷ r) (named_push (before ++ n ∷ []) ns m)
    ∙ ap (λ (r : List Member). with_abi (count_before before n) n ∷ (named_from (before ++ n ∷ []) ns ++ with_abi (count_before r m) m ∷ [])) (append_assoc before (n ∷ []) ns)

module _ (raw now : List Member) (i : ℕ) (l : i < length raw) (is : now ≡ named_from [] (take i raw) ++ drop i raw) where
  done : length (named_from [] (take i raw)) ≡ i
  done = length-named_from [] (take i raw) ∙ length-take-le i raw (omega (arith, l))

  rest : (d : Member) → drop i raw ≡ get_or raw i d ∷ drop (i + 1) raw
  rest d = drop-cons raw i d l ∙ ap (λ k. get_or raw i d ∷ drop k raw) (sym (add-one i))

  -- the next one is still as it was
  pub untouched : (d : Member) → get_or now i d ≡ get_or raw i d
  untouched d =
      ap (λ (ms : List Member). get_or ms i d) (is ∙ ap (λ (ms : List Member). named_from [] (take i raw) ++ ms) (rest d))
      ∙ get_or-append_right (named_from [] (take i raw)) (get_or raw i d ∷ drop (i + 1) raw) i i d done (omega arith)
      ∙ head
    where
      head : get_or (get_or raw i d ∷ drop (i + 1) raw) (i - i) d ≡ get_or raw i d
      head = let e : i - i ≡ 0 = omega arith in rw e refl

  pub named_more : (x : Member) (count : ℕ) → x ≡ get_or raw i x → count ≡ count_before (take i raw) x → set now i (with_abi count x) ≡ named_from [] (take (i + 1) raw) ++ drop (i + 1) raw
  named_more x count e c =
      ap (λ (ms : List Member). set ms i (with_abi count x)) (is ∙ ap (λ (ms : List Member). named_from [] (take i raw) ++ ms) (rest x))
      ∙ set_at (named_from [] (take i raw)) (get_or raw i x) (drop (i + 1) raw) (with_abi count x) i done
      ∙ ap (λ k. named_from [] (take i raw) ++ with_abi k x ∷ drop (i + 1) raw) c
      ∙ sym (append_assoc (named_from [] (take i raw)) (with_abi (count_before (take i raw) x) x ∷ []) (drop (i + 1) raw))
      ∙ ap (λ (ms : List Member). ms ++ drop (i + 1) raw) (sym (named_push [] (take i raw) x))
      ∙ ap (λ (ms : List Member). named_from [] ms ++ drop (i + 1) raw) (ap (λ (y : Member). take i raw ++ y ∷ []) e ∙ sym (take_more raw i x l))

told_at : (told : List ℕ → ℕ) (name : List ℕ) (m : Member) → is_method name m ≡ true → told_count told m ≡ told name
told_at told name (Method own abi sig) t = ap told ((bytes_decides own name).0 t)
told_at told name (Property own ty put) t = absurd (true≢false (sym t))
told_at told name (Event own ty) t = absurd (true≢false (sym t))

pub told_same : (f g : List ℕ → ℕ) (m : Member) → ((name : List ℕ) → f name ≡ g name) → told_count f m ≡ told_count g m
told_same f g (Method own abi sig) h = h own
told_same f g (Property own ty put) h = refl
told_same f g (Event own ty) h = refl

pub told_more : (raw : List Member) (i : ℕ) (x : Member) (count : ℕ) (old new : List ℕ → ℕ) → i < length raw → x ≡ get_or raw i x → count ≡ told_count old x
    → ((name : List ℕ) → new name ≡ noted count x old name) → ((name : List ℕ) → old name ≡ count_by (is_method name) (take i raw))
    → (name : List ℕ) → new name ≡ count_by (is_method name) (take (i + 1) raw)
told_more raw i x count old new l e c step told name =
    elim (is_method name x) as (λ b. is_method name x ≡ b → new name ≡ count_by (is_method name) (take (i + 1) raw)) [
      | true ↦ λ t.
          step name ∙ ap (λ b. cond b (count + 1) (old name)) t
          ∙ ap (λ k. k + 1) (c ∙ told_at old name x t ∙ told name)
          ∙ sym (count_by_more_yes (is_method name) raw i x l (ap (is_method name) (sym e) ∙ t))
      | false ↦ λ f.
          step name ∙ ap (λ b. cond b (count + 1) (old name)) f
          ∙ told name
          ∙ sym (count_by_more_no (is_method name) raw i x l (ap (is_method name) (sym e) ∙ f))
    ] refl

-- a count is at most the number of those before
pub few : (raw : List Member) (i : ℕ) (x : Member) (count : ℕ) → i ≤ length raw → count ≡ count_before (take i raw) x → count ≤ i
few raw i (Method own abi sig) count l c = omega (arith, count_by-le-length (is_method own) (take i raw), length-take-le i raw l, c)
few raw i (Property own ty put) count l c = omega (arith, c)
few raw i (Event own ty) count l c = omega (arith, c)

unwrapped : (b : Bool) (n : ℕ) (o : Option ℕ) → unwrap_or (cond b (Some n) o) 0 ≡ cond b n (unwrap_or o 0)
unwrapped true n o = refl
unwrapped false n o = refl

pub noted_by : (own : List ℕ) (n : ℕ) (old new : List ℕ → Option ℕ) → ((name : List ℕ) → new name ≡ update bytes_eq old own (Some n) name)
    → (name : List ℕ) → unwrap_or (new name) 0 ≡ cond (bytes_eq own name) n (unwrap_or (old name) 0)
noted_by own n old new step name = ap (λ o. unwrap_or o 0) (step name) ∙ unwrapped (bytes_eq own name) n (old name)
