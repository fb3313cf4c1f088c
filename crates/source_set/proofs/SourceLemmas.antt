-- The sources of a set, and its texts and trees.
use Rattle.std.proofs.Common.{◌≡◌, ℕ, List, [], ◌∷◌, ◌++◌, length, map, refl, ap, arith}
use Rattle.midl_tree.specs.declared.nodes.File.{File}
use Rattle.source_set.specs.declared.source.Source.{Source}
use Rattle.source_set.specs.declared.source.Text.{Text}
use Rattle.source_set.specs.Reads.{sources_of, text_view}

pub length-sources_of : (ts : List Text) (fs : List File) → length ts ≡ length fs → length (sources_of ts fs) ≡ length fs
length-sources_of [] [] e = refl
length-sources_of [] (f ∷ fs) e = e
length-sources_of (t ∷ ts) [] e = absurd (omega (arith, e))
length-sources_of (t ∷ ts) (f ∷ fs) e = let rest = length-sources_of ts fs (omega (arith, e)) in omega (arith, rest)

-- one more
pub sources_of-snoc : (ts : List Text) (fs : List File) (s : Source) → length ts ≡ length fs → sources_of (ts ++ s.text ∷ []) (fs ++ s.file ∷ []) ≡ sources_of ts fs ++ s ∷ []
sources_of-snoc [] [] s e = refl
sources_of-snoc [] (f ∷ fs) s e = absurd (omega (arith, e))
sources_of-snoc (t ∷ ts) [] s e = absurd (omega (arith, e))
sources_of-snoc (t ∷ ts) (f ∷ fs) s e = ap (λ (x : List Source). record { text = t; file = f } ∷ x) (sources_of-snoc ts fs s (omega (arith, e)))

-- the trees of the sources are those of the set
pub trees_again : (ts : List Text) (fs : List File) → length ts ≡ length fs → fs ≡ map (λ (s : Source). s.file) (sources_of ts fs)
trees_again [] [] e = refl
trees_again [] (f ∷ fs) e = absurd (omega (arith, e))
trees_again (t ∷ ts) [] e = absurd (omega (arith, e))
trees_again (t ∷ ts) (f ∷ fs) e = ap (λ (x : List File). f ∷ x) (trees_again ts fs (omega (arith, e)))

-- and so are their texts
pub texts_again : (ts : List Text) (fs : List File) → length ts ≡ length fs → map text_view ts ≡ map (λ (s : Source). text_view s.text) (sources_of ts fs)
texts_again [] [] e = refl
texts_again [] (f ∷ fs) e = absurd (omega (arith, e))
texts_again (t ∷ ts) [] e = absurd (omega (arith, e))
texts_again (t ∷ ts) (f ∷ fs) e = ap (λ (x : List (List ℕ × List ℕ)). text_view t ∷ x) (texts_again ts fs (omega (arith, e)))
