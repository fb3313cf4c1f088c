-- A type that is written in a blob is read as that type.
use Rattle.std.proofs.Common.{◌≡◌, ℕ, zero, suc, ◌-◌, ◌^◌, ◌<◌, true, ltb, List, ◌∷◌, ◌++◌, length, take, drop, Ok, refl, sym, ap, subst, ◌∙◌, append_assoc, arith, length-append}
use Rattle.std.specs.Prelude.{bytes_eq}
use Rattle.std.proofs.lemmas.Bool.{lt-ltb}
use Rattle.std.proofs.lemmas.List.{take_at, drop_at}
use Rattle.std.proofs.lemmas.Slice.Eq.{bytes_eq-Decides}
use Rattle.wr_base.specs.declared.type_use.Base.TheVariants.{Boolean, Char, U8, I16, U16, I32, U32, I64, U64, Text, Guid, Object}
use Rattle.wr_base.specs.Paths.{is_path}
use Rattle.wr_base.proofs.TreeLaws.{uses_of-list_of}
use Rattle.md_heaps.specs.Integers.{compressed_of, shortest}
use Rattle.sig_blobs.specs.Canonical.{Leads, UseFits, UsesFit}
use Rattle.sig_blobs.specs.Reading.{Reads, ◌>>=◌, integer, several}
use Rattle.sig_blobs.specs.Templates.{suffix, template}
use Rattle.wr_base.specs.Trees.{UseTree, plain, value, reference, instance, UseTrees, no_uses, use_and, list_of, count_of}
use Rattle.sig_blobs.specs.Uses.{Meanings, behind_modifiers, applied, token_name, without_count, counted_in, front_at, completed, use_within}
use Rattle.sig_blobs.specs.Writing.{Numbers, use_bytes, uses_bytes}

-- what is known of integers: the shortest form is read as its value
abbrev pub ReadsShortest : Type 0
ReadsShortest = (n : ℕ) (rest : List ℕ) → n < 2 ^ 29 → compressed_of (shortest n ++ rest) ≡ Ok (n, length (shortest n))

pub integer_again : ReadsShortest → (n : ℕ) (rest : List ℕ) → n < 2 ^ 29 → integer (shortest n ++ rest) ≡ Ok (n, rest)
unfolding integer
integer_again law n rest lt = rw (law n rest lt, drop_at (shortest n) rest (length (shortest n)) refl) refl

token_again : ReadsShortest → (token : Numbers) (names : Meanings) (name rest : List ℕ) → Leads token names name → token_name names (shortest (token name) ++ rest) ≡ Ok (name, rest)
token_again law token names name rest leads = rw (integer_again law (token name) rest leads.0, leads.1) refl

counted : (bytes : List ℕ) (name : List ℕ) (count : ℕ) → 0 < count → is_path name ≡ true → without_count bytes count (template name count) ≡ Ok name
counted bytes name count some path =
    let tail : List ℕ = suffix count in
    let size : length (name ++ tail) - length tail ≡ length name = omega (arith, length-append name tail) in
    let cut : take (length (name ++ tail) - length tail) (name ++ tail) ≡ name = ap (λ (k : ℕ). take k (name ++ tail)) size ∙ take_at name tail (length name) refl in
    let end : drop (length (name ++ tail) - length tail) (name ++ tail) ≡ tail = ap (λ (k : ℕ). drop k (name ++ tail)) size ∙ drop_at name tail (length name) refl in
    let positive : ltb 0 count ≡ true = lt-ltb _ _ some in
    let same : bytes_eq (suffix count) (suffix count) ≡ true = (bytes_eq-Decides (suffix count) (suffix count)).1 refl in
    rw (positive, end, same, cut, path) refl

counted_from : (names : Meanings) (bytes full name : List ℕ) (count : ℕ) (behind rest : List ℕ) → token_name names bytes ≡ Ok (full, behind) → integer behind ≡ Ok (count, rest) → without_count bytes count full ≡ Ok name
    → counted_in names bytes ≡ Ok (applied name count, rest)
counted_from names bytes full name count behind rest named number path = rw (named, number, path) refl

front_again : ReadsShortest → (token : Numbers) (names : Meanings) (name : List ℕ) (count : ℕ) (rest : List ℕ) → Leads token names (template name count) → is_path name ≡ true → 0 < count → count < 2 ^ 29
    → counted_in names (shortest (token (template name count)) ++ (shortest count ++ rest)) ≡ Ok (applied name count, rest)
front_again law token names name count rest leads path some few =
    let a : List ℕ = shortest (token (template name count)) in
    counted_from names (a ++ (shortest count ++ rest)) (template name count) name count (shortest count ++ rest) rest
    (token_again law token names (template name count) (shortest count ++ rest) leads) (integer_again law count rest few) (counted (a ++ (shortest count ++ rest)) name count some path)

inst_again : (names : Meanings) (argument : Reads UseTree) (name : List ℕ) (arguments : UseTrees) (bytes behind rest : List ℕ) → counted_in names bytes ≡ Ok (applied name (count_of arguments), behind)
    → several argument (count_of arguments) behind ≡ Ok (list_of arguments, rest)
    → (front_at names (0x15 ∷ 0x12 ∷ bytes) >>= λ front. completed argument front.0 front.1) ≡ Ok (instance name arguments, rest)
inst_again names argument name arguments bytes behind rest front all = rw (front, all, uses_of-list_of arguments) refl

mutual
  unfolding use_within behind_modifiers

  pub use_again : ReadsShortest → (token : Numbers) (names : Meanings) (depth : ℕ) (u : UseTree) (rest : List ℕ) → UseFits token names depth u → use_within depth names (use_bytes token u ++ rest) ≡ Ok (u, rest)
  use_again law token names zero u rest h = absurd h
  use_again law token names (suc depth) (plain Boolean) rest h = refl
  use_again law token names (suc depth) (plain Char) rest h = refl
  use_again law token names (suc depth) (plain U8) rest h = refl
  use_again law token names (suc depth) (plain I16) rest h = refl
  use_again law token names (suc depth) (plain U16) rest h = refl
  use_again law token names (suc depth) (plain I32) rest h = refl
  use_again law token names (suc depth) (plain U32) rest h = refl
  use_again law token names (suc depth) (plain I64) rest h = refl
  use_again law token names (suc depth) (plain U64) rest h = refl
  use_again law token names (suc depth) (plain Text) rest h = refl
  use_again law token names (suc depth) (plain Guid) rest h = rw (token_again law token names _ rest h) refl
  use_again law token names (suc depth) (plain Object) rest h = refl
  use_again law token names (suc depth) (value name) rest h = rw (token_again law token names name rest h.0, h.2, h.1) refl
  use_again law token names (suc depth) (reference name) rest h = rw (token_again law token names name rest h.0, h.1) refl
  use_again law token names (suc depth) (instance name arguments) rest h =
      let count : ℕ = count_of arguments in
      let a : List ℕ = shortest (token (template name count)) in
      let b : List ℕ = shortest count in
      let c : List ℕ = uses_bytes token arguments in
      let e : ((a ++ b) ++ c) ++ rest ≡ a ++ (b ++ (c ++ rest)) = append_assoc (a ++ b) c rest ∙ append_assoc a b (c ++ rest) in
      let front = front_again law token names name count (c ++ rest) h.0 h.1 h.2 h.3 in
      let all = uses_again law token names depth arguments rest h.4 in
      subst (λ (x : List ℕ). use_within (suc depth) names (0x15 ∷ 0x12 ∷ x) ≡ Ok (instance name arguments, rest)) (sym e)
      (inst_again names (use_within depth names) name arguments (a ++ (b ++ (c ++ rest))) (c ++ rest) rest front all)

  pub uses_again : ReadsShortest → (token : Numbers) (names : Meanings) (depth : ℕ) (us : UseTrees) (rest : List ℕ) → UsesFit token names depth us
      → several (use_within depth names) (count_of us) (uses_bytes token us ++ rest) ≡ Ok (list_of us, rest)
  uses_again law token names depth no_uses rest h = refl
  uses_again law token names depth (use_and u us) rest h =
      let e : (use_bytes token u ++ uses_bytes token us) ++ rest ≡ use_bytes token u ++ (uses_bytes token us ++ rest) = append_assoc (use_bytes token u) (uses_bytes token us) rest in
      let first = use_again law token names depth u (uses_bytes token us ++ rest) h.0 in
      let others = uses_again law token names depth us rest h.1 in
      rw (e, first, others) refl
