-- Examples of words that are taken, with what they name, and of words that aren't.
use Rattle.std.specs.Prelude.{◌≡◌, ℕ, Option, None, Some, List, [], ◌∷◌, codes, map}
use Rattle.winrt_words.specs.Words.{Named, midl, mdmerge, named_in}

abbrev pub Words : Type 0
Words = List (List ℕ)

abbrev pub one : Words
one = codes "a.idl" ∷ []

abbrev pub two : Words
two = codes "a.idl" ∷ codes "b.idl" ∷ []

-- the option before, between and behind the files, and its value behind it at once or behind `=`
abbrev pub orders : List Words
orders =
    (codes "midl" ∷ codes "-o" ∷ codes "x" ∷ two)
    ∷ (codes "midl" ∷ codes "a.idl" ∷ codes "-o" ∷ codes "x" ∷ codes "b.idl" ∷ [])
    ∷ (codes "midl" ∷ codes "a.idl" ∷ codes "b.idl" ∷ codes "-o" ∷ codes "x" ∷ [])
    ∷ (codes "midl" ∷ codes "-ox" ∷ two)
    ∷ (codes "midl" ∷ codes "a.idl" ∷ codes "b.idl" ∷ codes "-o=x" ∷ [])
    ∷ (codes "midl" ∷ codes "-o" ∷ codes "x" ∷ codes "--" ∷ two)
    ∷ []

-- behind `--` each word is a file; `-` alone is one, and a file may stand twice
abbrev pub odd_files : Words
odd_files = codes "-" ∷ codes "a.idl" ∷ codes "a.idl" ∷ codes "-o" ∷ codes "--" ∷ []

abbrev pub odd_words : Words
odd_words = codes "mdmerge" ∷ codes "-o" ∷ codes "x" ∷ codes "-" ∷ codes "a.idl" ∷ codes "--" ∷ codes "a.idl" ∷ codes "-o" ∷ codes "--" ∷ []

-- no command, or another one's name
abbrev pub nameless : List Words
nameless =
    []
    ∷ (codes "-o" ∷ codes "x" ∷ two)
    ∷ (codes "MIDL" ∷ codes "-o" ∷ codes "x" ∷ two)
    ∷ (codes "midl.exe" ∷ codes "-o" ∷ codes "x" ∷ two)
    ∷ (codes "help" ∷ [])
    ∷ (codes "--help" ∷ [])
    ∷ []

-- no OUT, no file, OUT twice, an option that isn't known, a request for help
abbrev pub untaken : List Words
untaken =
    (codes "midl" ∷ [])
    ∷ (codes "midl" ∷ one)
    ∷ (codes "midl" ∷ codes "-o" ∷ [])
    ∷ (codes "midl" ∷ codes "-o" ∷ codes "x" ∷ [])
    ∷ (codes "midl" ∷ codes "-o" ∷ codes "-x" ∷ one)
    ∷ (codes "midl" ∷ codes "-o" ∷ codes "x" ∷ codes "-o" ∷ codes "x" ∷ one)
    ∷ (codes "midl" ∷ codes "-o" ∷ codes "x" ∷ codes "-x" ∷ one)
    ∷ (codes "midl" ∷ codes "--out" ∷ codes "x" ∷ one)
    ∷ (codes "midl" ∷ codes "-o" ∷ codes "x" ∷ codes "-h" ∷ one)
    ∷ (codes "midl" ∷ codes "-o" ∷ codes "x" ∷ codes "a.idl" ∷ codes "--help" ∷ [])
    ∷ (codes "mdmerge" ∷ codes "--help" ∷ [])
    ∷ (codes "mdmerge" ∷ codes "-h" ∷ [])
    ∷ []

-- all of them name the same
abbrev pub AllName : List Words → Option Named → Type 0
AllName all named = map named_in all ≡ map (λ _. named) all

pub record Examples : Type 0 where
  pub in_any_order : AllName orders (Some (midl (codes "x", two)))
  pub as_files : named_in odd_words ≡ Some (mdmerge (codes "x", odd_files))
  pub no_command : AllName nameless None
  pub not_taken : AllName untaken None
