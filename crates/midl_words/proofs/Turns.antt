-- The turns of a loop that reads one item at each.
use Rattle.std.proofs.Common.{◌≡◌, ℕ, ◌<◌, true, false, List, [], ◌∷◌, ◌++◌, length, map, Ok, Err, refl, ap, ◌∙◌}
use Rattle.std.proofs.lemmas.List.{map_push}
use Rattle.grammar.specs.Readers.{Read, starts, follow, done_at, many_at, after_front}
use Rattle.grammar.proofs.KindSets.{apart}
use Rattle.grammar.proofs.ReaderLaws.{Reads}
use Rattle.grammar.proofs.Repeats.{shorter}
use Rattle.grammar.proofs.Loops.{loop_goes_on, loop_fails, loop_ends}
use Rattle.midl_tree.specs.Symbols.{kind_of}
use Rattle.midl_tree.specs.declared.terminal.Terminal.{Terminal}
use Rattle.midl_words.specs.declared.stop.Code.{Code}
use Rattle.midl_words.specs.declared.stop.Stop.{Stop}
use Rattle.midl_words.specs.declared.stop.Stop.TheVariants as stops
use Rattle.midl_words.specs.Reading.{Fails}

-- what a loop may repeat
pub record Item {A : Type 0} (P : List Terminal → A → Type 0) (r : List Terminal → Read Code Terminal A) (f n : List ℕ) : Type 0 where
  pub reads : Reads kind_of P r f false n
  pub clear : apart f n ≡ true

module _ {A : Type 0} {P : List Terminal → A → Type 0} {r : List Terminal → Read Code Terminal A} {f n : List ℕ} (item : Item P r f n) where
  pub goes_on : (front : List A) (ts rest : List Terminal) (x : A) (whole : Read Code Terminal (List A)) → starts kind_of f ts ≡ true → r ts ≡ Ok (x, rest)
      → after_front front (many_at kind_of f r) ts ≡ whole → after_front (front ++ x ∷ []) (many_at kind_of f r) rest ≡ whole
  goes_on front ts rest x whole begun was so_far = loop_goes_on kind_of P r f n item.reads item.clear front ts rest x whole begun was so_far

  pub fails : (e : Stop) (front : List A) (ts : List Terminal) (whole : Read Code Terminal (List A)) → starts kind_of f ts ≡ true → Fails e (r ts)
      → after_front front (many_at kind_of f r) ts ≡ whole → Fails e whole
  fails stops.Memory front ts whole begun was so_far = tt
  fails (stops.Fault c k) front ts whole begun was so_far = loop_fails kind_of P r f n item.reads item.clear front ts (c, k) whole begun was so_far

  pub ends : (front : List A) (ts : List Terminal) (whole : Read Code Terminal (List A)) → starts kind_of f ts ≡ false
      → after_front front (many_at kind_of f r) ts ≡ whole → whole ≡ Ok (front, ts)
  ends front ts whole ended so_far = loop_ends kind_of P r f n item.reads item.clear front ts whole ended so_far

  pub turn_shorter : (ts rest : List Terminal) (x : A) → r ts ≡ Ok (x, rest) → length rest < length ts
  turn_shorter ts rest x was = shorter kind_of P r f n item.reads item.clear ts rest x was

  -- the same where the items are seen by a view
  pub goes_on_by : {X : Type 0} (view : X → A) (xs pushed : List X) (x : X) (ts rest : List Terminal) (whole : Read Code Terminal (List A)) → starts kind_of f ts ≡ true → r ts ≡ Ok (view x, rest)
      → pushed ≡ xs ++ x ∷ [] → after_front (map view xs) (many_at kind_of f r) ts ≡ whole → after_front (map view pushed) (many_at kind_of f r) rest ≡ whole
  goes_on_by view xs pushed x ts rest whole begun was more so_far =
      let e : map view pushed ≡ map view xs ++ view x ∷ [] = ap (map view) more ∙ map_push view xs x in
      rw e (goes_on (map view xs) ts rest (view x) whole begun was so_far)

  -- before the first turn
  pub begun : (ts : List Terminal) → after_front [] (many_at kind_of f r) ts ≡ many_at kind_of f r ts
  begun ts = go (many_at kind_of f r ts)
    where
      go : (o : Read Code Terminal (List A)) → follow o (λ xs. done_at xs) ≡ o
      go (Ok x) = refl
      go (Err e) = refl
