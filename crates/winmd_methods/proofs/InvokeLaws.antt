-- The signature of the one method named Invoke.
use Rattle.std.proofs.Common.{◌≡◌, ◌+◌, ◌<◌, ℕ, Bool, true, false, cond, List, [], ◌∷◌, ◌++◌, map, take, get_or, length, bytes_eq, codes, Result, Ok, Err, refl, sym, ap, ◌∙◌}
use Rattle.std.proofs.lemmas.List.{map-append, take_more}
use Rattle.md_schema.specs.declared.faults.ImageKind.TheVariants.{BadShape}
use Rattle.md_schema.specs.declared.table.Table.TheVariants as tables
use Rattle.winmd_rows.specs.Faults.{Fault, ◌>>=◌, each, the_one}
use Rattle.winmd_lines.specs.Cells.{Numbered, Tables, at, list_of}
use Rattle.winmd_sets.specs.Methods.{invoke_of, invokes, named_method, signature_of}
use Rattle.winmd_cells.specs.declared.image.Image.{Image}
use Rattle.winmd_cells.specs.Seen.{seen}
use Rattle.winmd_methods.specs.declared.delegates.NamedMethod.{NamedMethod}
use Rattle.winmd_methods.specs.Seen.{method_seen, one_invoke}

named_too : (t : Tables) (offset : ℕ) (names : Result (List (List ℕ × Numbered)) Fault)
    → (names >>= λ found. (the_one BadShape offset (invokes found) >>= λ row. signature_of t row)) ≡ ((names >>= λ found. the_one BadShape offset (invokes found)) >>= λ row. signature_of t row)
named_too t offset (Ok names) = refl
named_too t offset (Err e) = refl

pub by_one : (t : Tables) (n : ℕ) → invoke_of t n ≡ (list_of t tables.TypeDef 5 tables.MethodDef n >>= λ rows. (one_invoke t (at t tables.TypeDef n 5) rows >>= λ row. signature_of t row))
by_one t n = elim (list_of t tables.TypeDef 5 tables.MethodDef n) as (λ (list : Result (List Numbered) Fault).
    (list >>= λ rows. (each (named_method t) rows >>= λ names. (the_one BadShape (at t tables.TypeDef n 5) (invokes names) >>= λ row. signature_of t row)))
    ≡ (list >>= λ rows. (one_invoke t (at t tables.TypeDef n 5) rows >>= λ row. signature_of t row))) [
      | Ok list ↦ named_too t (at t tables.TypeDef n 5) (each (named_method t) list)
      | Err e ↦ refl
    ]

-- ---- the methods of this name, one method more at each turn

invokes_push : (ms : List (List ℕ × Numbered)) (m : List ℕ × Numbered) → invokes (ms ++ m ∷ []) ≡ invokes ms ++ cond (bytes_eq m.0 (codes "Invoke")) (m.1 ∷ []) []
invokes_push [] m = refl
invokes_push ((name, row) ∷ ms) m =
    rw (invokes_push ms m) (elim (bytes_eq name (codes "Invoke")) as (λ b. cond b (row ∷ (invokes ms ++ cond (bytes_eq m.0 (codes "Invoke")) (m.1 ∷ []) [])) (invokes ms ++ cond (bytes_eq m.0 (codes "Invoke")) (m.1 ∷ []) [])
    ≡ cond b (row ∷ invokes ms) (invokes ms) ++ cond (bytes_eq m.0 (codes "Invoke")) (m.1 ∷ []) []) [ true ↦ refl | false ↦ refl ])

put_rows : (image : Image) (items new : List ℕ) (row : ℕ) (b : Bool) → new ≡ items ++ cond b (row ∷ []) [] → map (seen image tables.MethodDef) new ≡ map (seen image tables.MethodDef) items ++ cond b (seen image tables.MethodDef row ∷ []) []
put_rows image items new row true e = ap (map (seen image tables.MethodDef)) e ∙ map-append (seen image tables.MethodDef) items (row ∷ [])
put_rows image items new row false e = ap (map (seen image tables.MethodDef)) e ∙ map-append (seen image tables.MethodDef) items []

pub invoke_more : (image : Image) (xs : List NamedMethod) (i : ℕ) (d : NamedMethod) → i < length xs → (items new : List ℕ) (b : Bool) → map (seen image tables.MethodDef) items ≡ invokes (map (method_seen image) (take i xs))
    → b ≡ bytes_eq (get_or xs i d).name.now (codes "Invoke") → new ≡ items ++ cond b ((get_or xs i d).row ∷ []) [] → map (seen image tables.MethodDef) new ≡ invokes (map (method_seen image) (take (i + 1) xs))
invoke_more image xs i d within items new b so_far is e =
    put_rows image items new (get_or xs i d).row b e ∙ ap (λ front. front ++ cond b (seen image tables.MethodDef (get_or xs i d).row ∷ []) []) so_far
    ∙ ap (λ a. invokes (map (method_seen image) (take i xs)) ++ cond a (seen image tables.MethodDef (get_or xs i d).row ∷ []) []) is
    ∙ sym (ap invokes (ap (map (method_seen image)) (take_more xs i d within) ∙ map-append (method_seen image) (take i xs) (get_or xs i d ∷ [])) ∙ invokes_push (map (method_seen image) (take i xs)) (method_seen image (get_or xs i d)))
