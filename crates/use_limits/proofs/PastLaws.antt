-- What the pass asks is what the limit asks.
use Rattle.std.proofs.Common.{◌≡◌, ◌<◌, ◌+◌, ◌-◌, ◌^◌, ◌&&◌, ◌||◌, nat_le, nat_lt, ℕ, Bool, List, Option, map, sum, sum_by, take, sym, ap, subst, ◌∙◌, arith}
use Rattle.ranked.specs.Entries.{Entry}
use Rattle.ranked.specs.First.{IsFirst}
use Rattle.wr_base.specs.declared.code.Code.TheVariants.{ManyUses}
use Rattle.wr_rules.specs.Sites.{Site, spot_of, If}
use Rattle.wr_rules.specs.Limits.{before, words_in, bytes_in, IsManyUses}
use Rattle.place_order.specs.declared.stands.Stand.{Stand}
use Rattle.place_order.specs.Stands.{IsPlaceOrder, count_at}
use Rattle.place_order.proofs.EarlierLaws.{earlier_sum}
use Rattle.set_limits.specs.Counts.{capped}
use Rattle.set_limits.specs.Pass.{IsStep, AtOrder}
use Rattle.set_limits.proofs.CapLaws.{cap_le, cap_lt}
use Rattle.set_limits.proofs.PassLaws.{in_order}
use Rattle.use_limits.specs.Past.{either_past, PastUses}

capped_le : (total n L : ℕ) → total ≡ capped n → L < 2 ^ 64 - 1 → nat_le total L ≡ nat_le n L
capped_le total n L e l = ap (λ (x : ℕ). nat_le x L) e ∙ cap_le (2 ^ 64 - 1) n L l

capped_lt : (total n L : ℕ) → total ≡ capped n → L < 2 ^ 64 - 1 → nat_lt L total ≡ nat_lt L n
capped_lt total n L e l = ap (λ (x : ℕ). nat_lt L x) e ∙ cap_lt (2 ^ 64 - 1) n L l

either_capped : (S T c d words bytes next_words next_bytes : ℕ) → words ≡ capped S → bytes ≡ capped T → next_words ≡ capped (S + c) → next_bytes ≡ capped (T + d) → either_past words bytes next_words next_bytes ≡ either_past S T (S + c) (T + d)
either_capped S T c d words bytes next_words next_bytes e f g h =
    ap (λ (b : Bool). b && nat_le bytes 67108864 && (nat_lt 4000000 next_words || nat_lt 67108864 next_bytes)) (capped_le words S 4000000 e (omega arith))
    ∙ ap (λ (b : Bool). nat_le S 4000000 && b && (nat_lt 4000000 next_words || nat_lt 67108864 next_bytes)) (capped_le bytes T 67108864 f (omega arith))
    ∙ ap (λ (b : Bool). nat_le S 4000000 && nat_le T 67108864 && (b || nat_lt 67108864 next_bytes)) (capped_lt next_words (S + c) 4000000 g (omega arith))
    ∙ ap (λ (b : Bool). nat_le S 4000000 && nat_le T 67108864 && (nat_lt 4000000 (S + c) || b)) (capped_lt next_bytes (T + d) 67108864 h (omega arith))

module _ (sites : List Site) (stands : List Stand) (o : IsPlaceOrder sites stands) (i : ℕ) (s : Site) (t : IsStep sites stands i s) where
  pub step_past : (words bytes next_words next_bytes : ℕ) (r : Option Entry)
      → words ≡ capped (sum_by (count_at words_in sites) (take i stands)) → bytes ≡ capped (sum_by (count_at bytes_in sites) (take i stands))
      → next_words ≡ capped (sum_by (count_at words_in sites) (take i stands) + words_in s) → next_bytes ≡ capped (sum_by (count_at bytes_in sites) (take i stands) + bytes_in s)
      → IsFirst (PastUses words bytes next_words next_bytes s) r → IsFirst (AtOrder sites stands IsManyUses i) r
  step_past words bytes next_words next_bytes r e f g h p =
      in_order sites stands o i s t IsManyUses r
      (subst (λ (b : Bool). IsFirst (If b ManyUses (spot_of s)) r)
      (either_capped (sum_by (count_at words_in sites) (take i stands)) (sum_by (count_at bytes_in sites) (take i stands)) (words_in s) (bytes_in s) words bytes next_words next_bytes e f g h
      ∙ ap (λ (k : ℕ). either_past k (sum_by (count_at bytes_in sites) (take i stands)) (k + words_in s) (sum_by (count_at bytes_in sites) (take i stands) + bytes_in s)) (sym (earlier_sum sites stands o words_in i t.stand s t.there t.at))
      ∙ ap (λ (k : ℕ). either_past (sum (map words_in (before t.stand.number s.places.at sites))) k (sum (map words_in (before t.stand.number s.places.at sites)) + words_in s) (k + bytes_in s)) (sym (earlier_sum sites stands o bytes_in i t.stand s t.there t.at))) p)
