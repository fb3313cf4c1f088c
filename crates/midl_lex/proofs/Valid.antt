-- Bytes are UTF-8, or their longest prefix that is has an end.
use Rattle.std.proofs.Common.{◌≡◌, ℕ, zero, suc, ◌<◌, ◌≤◌, Bool, true, false, List, length, take, refl, sym, subst, ◌∙◌, arith, inl, inr, ◌⊎◌}
use Rattle.std.proofs.lemmas.List.{take_all}
use Rattle.std.proofs.lemmas.Str.{IsUtf8-nil, IsUtf8-from_is_utf8, is_utf8-from_IsUtf8, utf8_valid_len-IsValidUpTo}
use Rattle.std.specs.Str.{IsUtf8, IsValidUpTo, is_utf8}

-- the longest prefix of at most n bytes
record Longest (bytes : List ℕ) (n : ℕ) : Type 0 where
  len : ℕ
  le : len ≤ n
  front : IsUtf8 (take len bytes)
  longest : (m : ℕ) → len < m → m ≤ n → ¬ (IsUtf8 (take m bytes))

not_utf8 : (bytes : List ℕ) → is_utf8 bytes ≡ false → ¬ (IsUtf8 bytes)
not_utf8 bytes e = λ h. let f = is_utf8-from_IsUtf8 bytes h in cc

longest_step : (bytes : List ℕ) (n : ℕ) (v : Bool) → is_utf8 (take (suc n) bytes) ≡ v → Longest bytes n → Longest bytes (suc n)
longest_step bytes n true e l = record { len = suc n; le = omega arith; front = IsUtf8-from_is_utf8 (take (suc n) bytes) e; longest = λ m lt le h. omega (arith, lt, le) }
longest_step bytes n false e l =
    record { len = l.len; le = omega (arith, l.le); front = l.front; longest = λ m lt le h. elim (last m n le) [ inl a ↦ l.longest m lt a h | inr a ↦ not_utf8 (take (suc n) bytes) e (subst (λ (k : ℕ). IsUtf8 (take k bytes)) a h) ] }
  where
    last : (m n : ℕ) → m ≤ suc n → (m ≤ n) ⊎ (m ≡ suc n)
    last m n le = grind arith

longest_of : (bytes : List ℕ) (n : ℕ) → Longest bytes n
longest_of bytes zero = record { len = 0; le = omega arith; front = IsUtf8-nil; longest = λ m lt le h. omega (arith, lt, le) }
longest_of bytes (suc n) = longest_step bytes n (is_utf8 (take (suc n) bytes)) refl (longest_of bytes n)

pub valid_or : (bytes : List ℕ) → IsUtf8 bytes ⊎ ((n : ℕ) × IsValidUpTo bytes n)
valid_or bytes = go (is_utf8 bytes) refl
  where
    not_all : (n : ℕ) → length bytes ≤ n → is_utf8 bytes ≡ false → ¬ (IsUtf8 (take n bytes))
    not_all n le e = λ h. not_utf8 bytes e (subst IsUtf8 (take_all n bytes le) h)

    go : (v : Bool) → is_utf8 bytes ≡ v → IsUtf8 bytes ⊎ ((n : ℕ) × IsValidUpTo bytes n)
    go true e = inl (IsUtf8-from_is_utf8 bytes e)
    go false e =
        let l = longest_of bytes (length bytes) in
        inr (
          l.len,
          record {
            short = elim (below l.len (length bytes) l.le) [ inl a ↦ a | inr a ↦ absurd (not_all l.len (omega (arith, a)) e l.front) ];
            front = l.front;
            longest = λ m lt h. elim (either m (length bytes)) [ inl a ↦ l.longest m lt a h | inr a ↦ not_all m a e h ];
          },
        )
      where
        below : (a b : ℕ) → a ≤ b → (a < b) ⊎ (b ≤ a)
        below a b le = grind arith

        either : (a b : ℕ) → (a ≤ b) ⊎ (b ≤ a)
        either a b = grind arith

pub not_valid : (bytes : List ℕ) (n : ℕ) → IsValidUpTo bytes n → IsUtf8 bytes → ⊥
not_valid bytes n v h = v.longest (length bytes) v.short (subst IsUtf8 (sym (take_all (length bytes) bytes (omega arith))) h)

pub one_end : (bytes : List ℕ) (n m : ℕ) → IsValidUpTo bytes n → IsValidUpTo bytes m → n ≡ m
one_end bytes n m a b = sym (utf8_valid_len-IsValidUpTo bytes n a) ∙ utf8_valid_len-IsValidUpTo bytes m b
