-- Cases, one more at each turn.
use Rattle.std.proofs.Common.{◌≡◌, List, [], ◌∷◌, ◌++◌, Result, Ok, Err, refl, sym, ap, ◌∙◌, append_assoc}
use Rattle.winmd_rows.specs.Faults.{Fault, ◌>>=◌, each}
use Rattle.md_schema.specs.declared.table.Table.TheVariants as tables
use Rattle.winmd_lines.specs.Cells.{Numbered, Tables, at, bytes_in}
use Rattle.winmd_sets.specs.Fields.{field_type, flags_of, holder_flags}
use Rattle.winmd_source.specs.Behind.{behind}
use Rattle.winmd_fields.specs.Seen.{named_flags, value_named}

regroup : {A : Type 0} (front : List A) (y : A) (o : Result (List A) Fault) → ((o >>= λ ys. Ok (y ∷ ys)) >>= λ xs. Ok (front ++ xs)) ≡ behind (front ++ y ∷ []) o
regroup front y (Ok ys) = ap (λ xs. Ok xs) (sym (append_assoc front (y ∷ []) ys))
regroup front y (Err e) = refl

goes_on : {A B : Type 0} (f : A → Result B Fault) (front : List B) (a : A) (b : B) (more : List A) (whole : Result (List B) Fault) → f a ≡ Ok b → behind front (each f (a ∷ more)) ≡ whole → behind (front ++ b ∷ []) (each f more) ≡ whole
goes_on f front a b more whole was so_far = sym (regroup front b (each f more)) ∙ rw was at so_far

pub case_turn : {A B : Type 0} (f : A → Result B Fault) (items new : List B) (b : B) (a : A) (more rest : List A) (whole : Result (List B) Fault)
    → rest ≡ a ∷ more → f a ≡ Ok b → new ≡ items ++ b ∷ [] → behind items (each f rest) ≡ whole → behind new (each f more) ≡ whole
case_turn f items new b a more rest whole here was pushed so_far =
    ap (λ xs. behind xs (each f more)) pushed ∙ goes_on f items a b more whole was (ap (λ xs. behind items (each f xs)) (sym here) ∙ so_far)

-- two steps, and what follows them
two_steps : {A B C : Type 0} (one : Result A Fault) (f : A → Result B Fault) (g : B → Result C Fault) → (one >>= λ x. (f x >>= g)) ≡ ((one >>= f) >>= g)
two_steps (Ok x) f g = refl
two_steps (Err e) f g = refl

pub same_flags : (t : Tables) (holder : Numbered) → holder_flags t holder ≡ named_flags t holder
same_flags t holder = two_steps (field_type t holder) (λ kind. flags_of (at t tables.Field holder.0 2) kind) (λ flags. (bytes_in holder.1 1 >>= λ name. value_named (at t tables.Field holder.0 1) flags name))
