-- The scan finds the longest lexeme.
use Rattle.std.proofs.Common.{◌≡◌, ℕ, zero, suc, ◌+◌, ◌<◌, ◌≤◌, Bool, true, false, cond, ◌&&◌, eqb, List, [], ◌∷◌, ◌++◌, length, take, drop, Option, Some, None, refl, sym, ap, subst, ◌∙◌, append_assoc, arith, inl, inr, ◌⊎◌}
use Rattle.std.proofs.lemmas.List.{length-append, take-append-drop, length-take-le, take_at, drop_at}
use Rattle.std.proofs.lemmas.Bool.{eqb-true}
use Rattle.midl_lex.specs.declared.scan.ByteClass.{ByteClass}
use Rattle.midl_lex.specs.declared.scan.ByteClass.TheVariants as classes
use Rattle.midl_lex.specs.declared.token.TokenKind.TheVariants.{Word, Number, Guid, Text, Mark}
use Rattle.midl_lex.specs.declared.token.LexemeKind.{LexemeKind}
use Rattle.midl_lex.specs.declared.token.LexemeKind.TheVariants.{White, LineComment, BlockComment, Token}
use Rattle.midl_lex.specs.Bytes.{is_word, is_digit, is_hex, is_x, is_plain, not_line_feed, all_pass, run}
use Rattle.midl_lex.specs.Comments.{ends_comment, one_more, find_end, block, scan_slash}
use Rattle.midl_lex.specs.Numbers.{begins_hex, number_len}
use Rattle.midl_lex.specs.Guids.{guid_test, guid_from}
use Rattle.midl_lex.specs.Scan.{class_of, is_quote, scan_text, scan_class, scan_plain, scan}
use Rattle.midl_lex.specs.Lexemes.{IsLexeme}
use Rattle.midl_lex.proofs.Classes.{and_parts, not_true, no_digit_x, no_hex_x, from_white, from_slash, from_letter, from_digit, from_quote, from_mark, to_white, to_letter, to_digit, to_mark}

-- the longest lexeme at the front of the bytes
pub record Longest (bytes : List ℕ) (kind : LexemeKind) (text rest : List ℕ) : Type 0 where
  pub parts : bytes ≡ text ++ rest
  pub is : IsLexeme kind text
  pub longest : (other : LexemeKind) (front back : List ℕ) → bytes ≡ front ++ back → IsLexeme other front → length front ≤ length text

-- no lexeme stands at the front
abbrev pub NoFront : List ℕ → Type 0
NoFront bytes = (kind : LexemeKind) (front back : List ℕ) → bytes ≡ front ++ back → IsLexeme kind front → ⊥

cond_true : (b c : Bool) → cond b c false ≡ true → (b ≡ true) × (c ≡ true)
cond_true true c e = (refl, e)
cond_true false c e = absurd cc

pub run_bound : (p : ℕ → Bool) (front rest : List ℕ) → all_pass p front ≡ true → length front ≤ run p (front ++ rest)
run_bound p [] rest e = omega arith
run_bound p (b ∷ front) rest e =
    let c = cond_true (p b) (all_pass p front) e in
    rw c.0 (omega (arith, run_bound p front rest c.1))

pub run_stops : (p : ℕ → Bool) (front : List ℕ) (b : ℕ) (rest : List ℕ) → all_pass p front ≡ true → p b ≡ false → run p (front ++ b ∷ rest) ≡ length front
run_stops p [] b rest e f = rw f refl
run_stops p (c ∷ front) b rest e f =
    let h = cond_true (p c) (all_pass p front) e in
    rw h.0 (ap suc (run_stops p front b rest h.1 f))

pass_case : (p : ℕ → Bool) (b : ℕ) (bs : List ℕ) (n : ℕ) (v : Bool) → p b ≡ v → all_pass p (take n bs) ≡ true → all_pass p (take (cond v (suc n) 0) (b ∷ bs)) ≡ true
pass_case p b bs n true e h = rw e h
pass_case p b bs n false e h = refl

pub run_pass : (p : ℕ → Bool) (bs : List ℕ) → all_pass p (take (run p bs) bs) ≡ true
run_pass p [] = refl
run_pass p (b ∷ bs) = pass_case p b bs (run p bs) (p b) refl (run_pass p bs)

within_case : (v : Bool) (n m : ℕ) → n ≤ m → cond v (suc n) 0 ≤ suc m
within_case true n m h = omega arith
within_case false n m h = omega arith

pub run_within : (p : ℕ → Bool) (bs : List ℕ) → run p bs ≤ length bs
run_within p [] = omega arith
run_within p (b ∷ bs) = within_case (p b) (run p bs) (length bs) (run_within p bs)

-- ---- an end of a comment that is there stays the first

some_more : (o q : Option ℕ) (n : ℕ) → ((m : ℕ) → o ≡ Some m → q ≡ Some m) → one_more o ≡ Some n → one_more q ≡ Some n
some_more None q n h e = absurd cc
some_more (Some m) q n h e = rw (h m refl) e

end_case : (v : Bool) (o q : Option ℕ) (n : ℕ) → ((m : ℕ) → o ≡ Some m → q ≡ Some m) → cond v (Some 2) (one_more o) ≡ Some n → cond v (Some 2) (one_more q) ≡ Some n
end_case true o q n h e = e
end_case false o q n h e = some_more o q n h e

end_more : (bs rest : List ℕ) (n : ℕ) → find_end bs ≡ Some n → find_end (bs ++ rest) ≡ Some n
unfolding find_end
end_more [] rest n e = absurd cc
end_more (b ∷ []) rest n e = absurd cc
end_more (b ∷ c ∷ bs) rest n e = end_case (ends_comment (b ∷ c ∷ bs)) (find_end (c ∷ bs)) (find_end ((c ∷ bs) ++ rest)) n (λ m f. end_more (c ∷ bs) rest m f) e

-- the bytes up to the end have it at their end
end_takes_case : (v : Bool) (o : Option ℕ) (n : ℕ) → cond v (Some 2) (one_more o) ≡ Some n → ((v ≡ true) × (n ≡ 2)) ⊎ ((v ≡ false) × (m : ℕ) × (o ≡ Some m) × (n ≡ suc m))
end_takes_case true o n e = inl (refl, cc)
end_takes_case false None n e = absurd cc
end_takes_case false (Some m) n e = inr (refl, m, refl, cc)

-- ---- each lexeme is found, in its length or a greater one

record Plain (bytes : List ℕ) (kind : LexemeKind) (front : List ℕ) : Type 0 where
  len : ℕ
  is : scan_plain bytes ≡ Some (kind, len)
  within : length front ≤ len

and_true : (a b : Bool) → a ≡ true → b ≡ true → (a && b) ≡ true
and_true true true e f = refl
and_true true false e f = absurd cc
and_true false b e f = absurd cc

one_least : (v w : Bool) (n m : ℕ) → w ≡ true → 1 ≤ cond v (n + 2) (cond w (suc m) 0)
one_least true w n m e = omega arith
one_least false true n m e = omega arith
one_least false false n m e = absurd cc

begins_x : (b c : ℕ) (ds : List ℕ) → begins_hex (b ∷ c ∷ ds) ≡ true → is_x c ≡ true
begins_x b c [] e = absurd cc
begins_x b c (d ∷ ds) e = (and_parts (is_x c) (is_hex d) (and_parts (eqb b 48) (is_x c && is_hex d) e).1).0

number_long : (b : ℕ) (body rest : List ℕ) → is_digit b ≡ true → all_pass is_digit body ≡ true → suc (length body) ≤ number_len (b ∷ (body ++ rest))
number_long b [] rest d e = one_least (begins_hex (b ∷ rest)) (is_digit b) (run is_hex (drop 1 rest)) (run is_digit rest) d
number_long b (c ∷ body) rest d e =
    let digit : is_digit c ≡ true = (cond_true (is_digit c) (all_pass is_digit body) e).0 in
    let plain : begins_hex (b ∷ c ∷ (body ++ rest)) ≡ false = not_true (begins_hex (b ∷ c ∷ (body ++ rest))) (λ h. no_digit_x c (begins_x b c (body ++ rest) h) digit) in
    let long = run_bound is_digit (c ∷ body) rest e in
    rw (plain, d) (omega arith)

plain : (kind : LexemeKind) (front back : List ℕ) → (kind ≡ (Token Guid) → ⊥) → IsLexeme kind front → Plain (front ++ back) kind front
plain White front back other (b, is, class) = rw is (record { len = 1; is = rw (to_white b class) refl; within = omega arith })
plain (Token Mark) front back other (b, is, class) = rw is (record { len = 1; is = rw (to_mark b class) refl; within = omega arith })
plain LineComment front back other (body, is, pass) = rw is (record { len = run not_line_feed (body ++ back) + 2; is = refl; within = omega (arith, run_bound not_line_feed body back pass) })
plain BlockComment front back other (body, is, end) = rw is (record { len = length body + 2; is = ap block (end_more body back (length body) end); within = omega arith })
plain (Token Word) front back other (b, body, is, class, pass) = rw is (record { len = run is_word (body ++ back) + 1; is = rw (to_letter b class) refl; within = omega (arith, run_bound is_word body back pass) })
plain (Token Number) front back other (inl (b, body, is, class, pass)) = rw is (record { len = number_len (b ∷ (body ++ back)); is = rw (to_digit b class) refl; within = number_long b body back class pass })
plain (Token Number) front back other (inr (x, d, body, is, ex, hex, pass)) =
    rw is (record { len = run is_hex (d ∷ (body ++ back)) + 2; is = rw (and_true (is_x x) (is_hex d) ex hex) refl; within = rw hex (omega (arith, run_bound is_hex body back pass)) })
plain (Token Text) front back other (body, is, pass) =
    let all : (body ++ 34 ∷ []) ++ back ≡ body ++ 34 ∷ back = append_assoc body (34 ∷ []) back in
    let long : run is_plain (body ++ 34 ∷ back) ≡ length body = run_stops is_plain body 34 back pass refl in
    let made : scan_plain (34 ∷ ((body ++ 34 ∷ []) ++ back)) ≡ Some ((Token Text), length body + 2) = ap scan_text all ∙ rw (long, drop_at body (34 ∷ back) (length body) refl) refl in
    rw is (record { len = length body + 2; is = made; within = omega (arith, length-append body (34 ∷ [])) })
plain (Token Guid) front back other h = absurd (other refl)

-- ---- what is found is a lexeme

record Sound (bytes : List ℕ) (kind : LexemeKind) (len : ℕ) : Type 0 where
  fits : len ≤ length bytes
  some : 0 < len
  is : IsLexeme kind (take len bytes)

sound_at : {bytes : List ℕ} {kind kind' : LexemeKind} {len len' : ℕ} → ◌≡◌ {A = Option (LexemeKind × ℕ)} (Some (kind, len)) (Some (kind', len')) → Sound bytes kind len → Sound bytes kind' len'
sound_at {bytes = bytes} {kind = kind} {kind' = kind'} {len = len} {len' = len'} e h =
    let same : ◌≡◌ {A = LexemeKind × ℕ} (kind, len) (kind', len') = cc in
    subst (λ (q : LexemeKind × ℕ). Sound bytes q.0 q.1) same h

plus_two : (n : ℕ) (b c : ℕ) (bs : List ℕ) → take (n + 2) (b ∷ c ∷ bs) ≡ b ∷ c ∷ take n bs
plus_two n b c bs = ap (λ (k : ℕ). take k (b ∷ c ∷ bs)) (let e : n + 2 ≡ suc (suc n) = omega arith in e)

plus_one : (n : ℕ) (b : ℕ) (bs : List ℕ) → take (n + 1) (b ∷ bs) ≡ b ∷ take n bs
plus_one n b bs = ap (λ (k : ℕ). take k (b ∷ bs)) (let e : n + 1 ≡ suc n = omega arith in e)

record Taken (bs : List ℕ) (n : ℕ) : Type 0 where
  fits : n ≤ length bs
  some : 0 < n
  is : find_end (take n bs) ≡ Some n

end_later : (b c : ℕ) (bs : List ℕ) (m : ℕ) → ends_comment (b ∷ c ∷ bs) ≡ false → Taken (c ∷ bs) m → Taken (b ∷ c ∷ bs) (suc m)
unfolding find_end
end_later b c bs zero e t = absurd (omega (arith, t.some))
end_later b c bs (suc m) e t = record { fits = omega (arith, t.fits); some = omega arith; is = rw (e, t.is) refl }

end_taken : (bs : List ℕ) (n : ℕ) → find_end bs ≡ Some n → Taken bs n
unfolding find_end
end_taken [] n e = absurd cc
end_taken (b ∷ []) n e = absurd cc
end_taken (b ∷ c ∷ bs) n e =
    elim (end_takes_case (ends_comment (b ∷ c ∷ bs)) (find_end (c ∷ bs)) n e) [
      | inl h ↦ rw h.1 (record { fits = omega arith; some = omega arith; is = rw h.0 refl })
      | inr h ↦ rw h.3 (end_later b c bs h.1 h.0 (end_taken (c ∷ bs) h.1 h.2))
    ]

slash_sound : (b : ℕ) (bs : List ℕ) (kind : LexemeKind) (len : ℕ) → b ≡ 47 → scan_slash bs ≡ Some (kind, len) → Sound (b ∷ bs) kind len
slash_sound b [] kind len at e = absurd cc
slash_sound b (c ∷ cs) kind len at e = line (eqb c 47) refl e
  where
    opened : (o : Option ℕ) → find_end cs ≡ o → eqb c 42 ≡ true → block o ≡ Some (kind, len) → Sound (b ∷ c ∷ cs) kind len
    opened None was star e = absurd cc
    opened (Some n) was star e =
        let t = end_taken cs n was in
        let whole : length (take n cs) ≡ n = length-take-le n cs t.fits in
        sound_at e (record { fits = omega (arith, t.fits); some = omega arith; is = rw plus_two (take n cs, rw (at, eqb-true c 42 star) refl, t.is ∙ ap (λ (k : ℕ). Some k) (sym whole)) })

    other : (v : Bool) → eqb c 42 ≡ v → cond v (block (find_end cs)) None ≡ Some (kind, len) → Sound (b ∷ c ∷ cs) kind len
    other true star e = opened (find_end cs) refl star e
    other false star e = absurd cc

    line : (v : Bool) → eqb c 47 ≡ v → cond v (Some (LineComment, run not_line_feed cs + 2)) (cond (eqb c 42) (block (find_end cs)) None) ≡ Some (kind, len) → Sound (b ∷ c ∷ cs) kind len
    line true slash e =
        let n = run not_line_feed cs in
        sound_at e (record { fits = omega (arith, run_within not_line_feed cs); some = omega arith; is = rw plus_two (take n cs, rw (at, eqb-true c 47 slash) refl, run_pass not_line_feed cs) })
    line false slash e = other (eqb c 42) refl e

text_sound : (b : ℕ) (bs : List ℕ) (kind : LexemeKind) (len : ℕ) → b ≡ 34 → scan_text bs ≡ Some (kind, len) → Sound (b ∷ bs) kind len
text_sound b bs kind len at e = go (drop (run is_plain bs) bs) refl e
  where
    n : ℕ
    n = run is_plain bs

    go : (us : List ℕ) → drop (run is_plain bs) bs ≡ us → cond {A = Option (LexemeKind × ℕ)} (is_quote us) (Some ((Token Text), run is_plain bs + 2)) None ≡ Some (kind, len) → Sound (b ∷ bs) kind len
    go [] was e = absurd cc
    go (q ∷ us) was e = closed (eqb q 34) refl e
      where
        closed : (v : Bool) → eqb q 34 ≡ v → cond {A = Option (LexemeKind × ℕ)} v (Some ((Token Text), run is_plain bs + 2)) None ≡ Some (kind, len) → Sound (b ∷ bs) kind len
        closed false quote e = absurd cc
        closed true quote e =
            let r = run is_plain bs in
            let body = take r bs in
            let parts : bs ≡ body ++ q ∷ us = sym (take-append-drop r bs) ∙ ap (λ (u : List ℕ). body ++ u) was in
            let long : length body ≡ r = length-take-le r bs (run_within is_plain bs) in
            let cut : take (r + 1) bs ≡ body ++ q ∷ [] = ap (take (r + 1)) (parts ∙ sym (append_assoc body (q ∷ []) us)) ∙ take_at (body ++ q ∷ []) us (r + 1) (omega (arith, length-append body (q ∷ []), long)) in
            let all : take (r + 2) (b ∷ bs) ≡ b ∷ (body ++ q ∷ []) = ap (λ (k : ℕ). take k (b ∷ bs)) (let f : r + 2 ≡ suc (r + 1) = omega arith in f) ∙ ap (λ (u : List ℕ). b ∷ u) cut in
            sound_at e (record { fits = omega (arith, ap length parts, length-append body (q ∷ us), long); some = omega arith; is = rw all (body, rw (at, eqb-true q 34 quote) refl, run_pass is_plain bs) })

hex_sound : (b : ℕ) (bs : List ℕ) → begins_hex (b ∷ bs) ≡ true → Sound (b ∷ bs) (Token Number) (run is_hex (drop 2 (b ∷ bs)) + 2)
hex_sound b [] h = absurd cc
hex_sound b (x ∷ []) h = absurd cc
hex_sound b (x ∷ d ∷ ds) h =
    let p = and_parts (eqb b 48) (is_x x && is_hex d) h in
    let q = and_parts (is_x x) (is_hex d) p.1 in
    let len : run is_hex (d ∷ ds) + 2 ≡ suc (suc (suc (run is_hex ds))) = rw q.1 (let e : suc (run is_hex ds) + 2 ≡ suc (suc (suc (run is_hex ds))) = omega arith in e) in
    rw len (record { fits = omega (arith, run_within is_hex ds); some = omega arith; is = inr (x, d, take (run is_hex ds) ds, rw (eqb-true b 48 p.0) refl, q.0, q.1, run_pass is_hex ds) })

number_sound : (b : ℕ) (bs : List ℕ) → class_of b ≡ classes.Digit → Sound (b ∷ bs) (Token Number) (number_len (b ∷ bs))
number_sound b bs class = go (begins_hex (b ∷ bs)) refl
  where
    decimal : Sound (b ∷ bs) (Token Number) (suc (run is_digit bs))
    decimal = record { fits = omega (arith, run_within is_digit bs); some = omega arith; is = inl (b, take (run is_digit bs) bs, refl, from_digit b class, run_pass is_digit bs) }

    go : (v : Bool) → begins_hex (b ∷ bs) ≡ v → Sound (b ∷ bs) (Token Number) (cond v (run is_hex (drop 2 (b ∷ bs)) + 2) (cond (is_digit b) (suc (run is_digit bs)) 0))
    go true h = hex_sound b bs h
    go false h = rw (from_digit b class) decimal

class_sound : (class : ByteClass) (b : ℕ) (bs : List ℕ) (kind : LexemeKind) (len : ℕ) → class_of b ≡ class → scan_class class b bs ≡ Some (kind, len) → Sound (b ∷ bs) kind len
class_sound classes.White b bs kind len class e = sound_at e (record { fits = omega arith; some = omega arith; is = (b, refl, from_white b class) })
class_sound classes.Slash b bs kind len class e = slash_sound b bs kind len (from_slash b class) e
class_sound classes.Letter b bs kind len class e =
    sound_at e (record { fits = omega (arith, run_within is_word bs); some = omega arith; is = rw plus_one (b, take (run is_word bs) bs, refl, from_letter b class, run_pass is_word bs) })
class_sound classes.Digit b bs kind len class e = sound_at e (number_sound b bs class)
class_sound classes.Quote b bs kind len class e = text_sound b bs kind len (from_quote b class) e
class_sound classes.Mark b bs kind len class e = sound_at e (record { fits = omega arith; some = omega arith; is = (b, refl, from_mark b class) })
class_sound classes.Other b bs kind len class e = absurd cc

-- ---- guids

guid_more : (n i : ℕ) (front back : List ℕ) → guid_from n i front ≡ true → guid_from n i (front ++ back) ≡ true
guid_more zero i front back e = refl
guid_more (suc n) i [] back e = absurd cc
guid_more (suc n) i (b ∷ front) back e =
    let c = cond_true (guid_test i b) (guid_from n (i + 1) front) e in
    rw c.0 (guid_more n (i + 1) front back c.1)

guid_take : (n i : ℕ) (bs : List ℕ) → guid_from n i bs ≡ true → (n ≤ length bs) × (guid_from n i (take n bs) ≡ true)
guid_take zero i bs e = (omega arith, refl)
guid_take (suc n) i [] e = absurd cc
guid_take (suc n) i (b ∷ bs) e =
    let c = cond_true (guid_test i b) (guid_from n (i + 1) bs) e in
    let t = guid_take n (i + 1) bs c.1 in
    (omega (arith, t.0), rw c.0 t.1)

-- bytes that pass a test end before a place whose byte fails it
guid_block : (p : ℕ → Bool) (n i j : ℕ) (front back : List ℕ) → j < n → ((b : ℕ) → guid_test (i + j) b ≡ true → p b ≡ false) → guid_from n i (front ++ back) ≡ true → all_pass p front ≡ true → length front ≤ j
guid_block p zero i j front back lt fails e pass = absurd (omega arith)
guid_block p (suc n) i j [] back lt fails e pass = omega arith
guid_block p (suc n) i zero (b ∷ front) back lt fails e pass =
    let c = cond_true (guid_test i b) (guid_from n (i + 1) (front ++ back)) e in
    let d = cond_true (p b) (all_pass p front) pass in
    let at : i + 0 ≡ i = omega arith in
    let no_pass : p b ≡ false = fails b (ap (λ (k : ℕ). guid_test k b) at ∙ c.0) in
    absurd (let yes_pass = d.0 in cc)
guid_block p (suc n) i (suc j) (b ∷ front) back lt fails e pass =
    let c = cond_true (guid_test i b) (guid_from n (i + 1) (front ++ back)) e in
    let d = cond_true (p b) (all_pass p front) pass in
    let at : i + suc j ≡ i + 1 + j = omega arith in
    let less = guid_block p n (i + 1) j front back (omega arith) (λ x h. fails x (ap (λ (k : ℕ). guid_test k x) at ∙ h)) c.1 d.1 in
    omega (arith, less)

dash_is : (p : ℕ → Bool) → p 45 ≡ false → (b : ℕ) → eqb b 45 ≡ true → p b ≡ false
dash_is p e b h = ap p (eqb-true b 45 h) ∙ e

-- another lexeme at the front of a guid is short
short : (kind : LexemeKind) (front back : List ℕ) → (kind ≡ (Token Guid) → ⊥) → IsLexeme kind front → guid_from 36 0 (front ++ back) ≡ true → length front ≤ 8
short White front back other (b, is, class) e = rw is (omega arith)
short (Token Mark) front back other (b, is, class) e = rw is (omega arith)
short LineComment front back other (body, is, pass) e = absurd (let g = subst (λ (u : List ℕ). guid_from 36 0 (u ++ back) ≡ true) is e in cc)
short BlockComment front back other (body, is, end) e = absurd (let g = subst (λ (u : List ℕ). guid_from 36 0 (u ++ back) ≡ true) is e in cc)
short (Token Text) front back other (body, is, pass) e = absurd (let g = subst (λ (u : List ℕ). guid_from 36 0 (u ++ back) ≡ true) is e in cc)
short (Token Word) front back other (b, body, is, class, pass) e =
    let g = subst (λ (u : List ℕ). guid_from 36 0 (u ++ back) ≡ true) is e in
    let c = cond_true (guid_test 0 b) (guid_from 35 1 (body ++ back)) g in
    rw is (omega (arith, guid_block is_word 35 1 7 body back (omega arith) (dash_is is_word refl) c.1 pass))
short (Token Number) front back other (inl (b, body, is, class, pass)) e =
    let g = subst (λ (u : List ℕ). guid_from 36 0 (u ++ back) ≡ true) is e in
    let c = cond_true (guid_test 0 b) (guid_from 35 1 (body ++ back)) g in
    rw is (omega (arith, guid_block is_digit 35 1 7 body back (omega arith) (dash_is is_digit refl) c.1 pass))
short (Token Number) front back other (inr (x, d, body, is, ex, hex, pass)) e =
    let g = subst (λ (u : List ℕ). guid_from 36 0 (u ++ back) ≡ true) is e in
    absurd (no_hex_x x ex (cond_true (is_hex x) (guid_from 34 2 (d ∷ (body ++ back))) g).0)
short (Token Guid) front back other h e = absurd (other refl)

-- ---- bytes are one lexeme only
one_plain : (kind other : LexemeKind) (text : List ℕ) → (kind ≡ (Token Guid) → ⊥) → (other ≡ (Token Guid) → ⊥) → IsLexeme kind text → IsLexeme other text → kind ≡ other
one_plain kind other text p q h g =
    let a = plain kind text [] p h in
    let b = plain other text [] q g in
    let both : ◌≡◌ {A = Option (LexemeKind × ℕ)} (Some (kind, a.len)) (Some (other, b.len)) = sym a.is ∙ b.is in
    let same : ◌≡◌ {A = LexemeKind × ℕ} (kind, a.len) (other, b.len) = cc in
    ap (λ (q : LexemeKind × ℕ). q.0) same

-- ---- any lexeme at the front is found, or a longer one

pub record Found (bytes : List ℕ) (front : List ℕ) : Type 0 where
  pub kind : LexemeKind
  pub len : ℕ
  pub is : scan bytes ≡ Some (kind, len)
  pub within : length front ≤ len

is_guid : (kind : LexemeKind) → (kind ≡ (Token Guid)) ⊎ (kind ≡ (Token Guid) → ⊥)
is_guid (Token Guid) = inl refl
is_guid White = inr (λ e. cc)
is_guid LineComment = inr (λ e. cc)
is_guid BlockComment = inr (λ e. cc)
is_guid (Token Word) = inr (λ e. cc)
is_guid (Token Number) = inr (λ e. cc)
is_guid (Token Text) = inr (λ e. cc)
is_guid (Token Mark) = inr (λ e. cc)

guid_front : (kind : LexemeKind) (front : List ℕ) → kind ≡ (Token Guid) → IsLexeme kind front → (length front ≡ 36) × (guid_from 36 0 front ≡ true)
guid_front kind front e h = subst (λ (k : LexemeKind). IsLexeme k front) e h

pub found : (kind : LexemeKind) (front back : List ℕ) → IsLexeme kind front → Found (front ++ back) front
unfolding scan
found kind front back h = go (guid_from 36 0 (front ++ back)) refl
  where
    go : (v : Bool) → guid_from 36 0 (front ++ back) ≡ v → Found (front ++ back) front
    go true e = record { kind = (Token Guid); len = 36; is = rw e refl; within = elim (is_guid kind) [ inl g ↦ (let l = (guid_front kind front g h).0 in omega arith) | inr other ↦ omega (arith, short kind front back other h e) ] }
    go false e = elim (is_guid kind) [
      | inl g ↦ absurd (let more = guid_more 36 0 front back (guid_front kind front g h).1 in cc)
      | inr other ↦ let p = plain kind front back other h in record { kind = kind; len = p.len; is = rw e p.is; within = p.within }
    ]

not_both : (kind other : LexemeKind) (text : List ℕ) → kind ≡ (Token Guid) → (other ≡ (Token Guid) → ⊥) → IsLexeme kind text → IsLexeme other text → ⊥
not_both kind other text p q h g =
    let f = guid_front kind text p h in
    let less = short other text [] q g (guid_more 36 0 text [] f.1) in
    omega (arith, f.0, less)

pub one_kind : (kind other : LexemeKind) (text : List ℕ) → IsLexeme kind text → IsLexeme other text → kind ≡ other
one_kind kind other text h g =
    elim (is_guid kind) [
      | inl p ↦ elim (is_guid other) [ inl q ↦ p ∙ sym q | inr q ↦ absurd (not_both kind other text p q h g) ]
      | inr p ↦ elim (is_guid other) [ inl q ↦ absurd (not_both other kind text q p g h) | inr q ↦ one_plain kind other text p q h g ]
    ]

scan_sound : (bytes : List ℕ) (kind : LexemeKind) (len : ℕ) → scan bytes ≡ Some (kind, len) → Sound bytes kind len
unfolding scan
scan_sound bytes kind len e = go (guid_from 36 0 bytes) refl e
  where
    plain_sound : (bs : List ℕ) → scan_plain bs ≡ Some (kind, len) → Sound bs kind len
    plain_sound [] e = absurd cc
    plain_sound (b ∷ bs) e = class_sound (class_of b) b bs kind len refl e

    go : (v : Bool) → guid_from 36 0 bytes ≡ v → cond v (Some ((Token Guid), 36)) (scan_plain bytes) ≡ Some (kind, len) → Sound bytes kind len
    go true g e = let t = guid_take 36 0 bytes g in sound_at e (record { fits = t.0; some = omega arith; is = (length-take-le 36 bytes t.0, t.1) })
    go false g e = plain_sound bytes e

pub scan_longest : (bytes : List ℕ) (kind : LexemeKind) (len : ℕ) → scan bytes ≡ Some (kind, len) → (len ≤ length bytes) × (0 < len) × Longest bytes kind (take len bytes) (drop len bytes)
unfolding scan
scan_longest bytes kind len e =
    let s = scan_sound bytes kind len e in (
      s.fits,
      s.some,
      record {
        parts = sym (take-append-drop len bytes);
        is = s.is;
        longest = λ other front back parts is.
            let f = found other front back is in
            let both : ◌≡◌ {A = Option (LexemeKind × ℕ)} (Some (kind, len)) (Some (f.kind, f.len)) = sym e ∙ ap scan parts ∙ f.is in
            let same : ◌≡◌ {A = LexemeKind × ℕ} (kind, len) (f.kind, f.len) = cc in
            omega (arith, ap (λ (q : LexemeKind × ℕ). q.1) same, f.within, length-take-le len bytes s.fits);
      },
    )

pub scan_none : (bytes : List ℕ) → scan bytes ≡ None → NoFront bytes
scan_none bytes e = λ kind front back parts is. let f = found kind front back is in let no_one : ◌≡◌ {A = Option (LexemeKind × ℕ)} None (Some (f.kind, f.len)) = sym e ∙ ap scan parts ∙ f.is in cc
