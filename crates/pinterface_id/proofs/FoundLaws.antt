-- What is written of a found struct.
use Rattle.std.proofs.Common.{◌≡◌, ◌<◌, ℕ, zero, suc, Bool, true, false, List, [], ◌∷◌, ◌++◌, Some, None, length, map, get_or, refl, sym, ap, subst, ◌∙◌, arith, append_assoc}
use Rattle.std.specs.Prelude.{codes}
use Rattle.found_table.specs.declared.found.FoundPart.{FoundPart}
use Rattle.found_table.specs.Found.{FoundRow}
use Rattle.found_table.specs.Views.{part_view}
use Rattle.wr_rules.specs.Signatures.{Piece, semicolon, closing, joined, grouped, found_piece, found_pieces}
use Rattle.pinterface_id.specs.Stack.{put}
use Rattle.pinterface_id.specs.Found.{parts_of, Flows, FoundWritten, PartWritten}
use Rattle.pinterface_id.proofs.PieceLaws.{map_twice, put_put}

struct_is : (name : List ℕ) (fs : List FoundPart) → found_pieces [] (λ inside u. []) [] (FoundRow.Struct name (map part_view fs)) ≡ (Some (codes "struct" ++ 40 ∷ name) ∷ parts_of fs ++ closing ∷ [])
struct_is name fs = ap (grouped (codes "struct") name) (map_twice (λ p. found_piece p.type_ ∷ []) part_view fs)

joined_none : (ps qs : List Piece) → joined (ps ++ None ∷ qs) ≡ None
joined_none [] qs = refl
joined_none (None ∷ ps) qs = refl
joined_none (Some t ∷ ps) qs = ap (put t) (joined_none ps qs)

has_none : (fs : List FoundPart) (i : ℕ) (d : FoundPart) → i < length fs → found_piece (part_view (get_or fs i d)).type_ ≡ None → (ps : List Piece) × (qs : List Piece) × (parts_of fs ≡ ps ++ None ∷ qs)
has_none [] i d l e = absurd (omega (arith, l))
has_none (f ∷ fs) zero d l e = (semicolon ∷ [], parts_of fs, ap (λ (p : Piece). semicolon ∷ p ∷ parts_of fs) e)
has_none (f ∷ fs) (suc i) d l e =
    let h = has_none fs i d (omega (arith, l)) e in
    (semicolon ∷ found_piece (part_view f).type_ ∷ h.0, h.1, ap (λ (ps : List Piece). semicolon ∷ found_piece (part_view f).type_ ∷ ps) h.2)

pub struct_fails : (name : List ℕ) (fs : List FoundPart) (i : ℕ) (d : FoundPart) → i < length fs → found_piece (part_view (get_or fs i d)).type_ ≡ None → (r : List Piece)
    → joined (found_pieces [] (λ inside u. []) [] (FoundRow.Struct name (map part_view fs)) ++ r) ≡ None
struct_fails name fs i d l e r =
    let h = has_none fs i d l e in
    let head : Piece = Some (codes "struct" ++ 40 ∷ name) in
    ap (λ (ps : List Piece). joined (ps ++ r)) (struct_is name fs ∙ ap (λ (ps : List Piece). head ∷ ps ++ closing ∷ []) h.2)
    ∙ ap joined (ap (λ (ps : List Piece). (head ∷ ps) ++ r) (append_assoc h.0 (None ∷ h.1) (closing ∷ [])) ∙ append_assoc (head ∷ h.0) (None ∷ h.1 ++ closing ∷ []) r)
    ∙ joined_none (head ∷ h.0) ((h.1 ++ closing ∷ []) ++ r)

pub struct_written : (name : List ℕ) (fs : List FoundPart) (old mid last new : List ℕ) → mid ≡ old ++ (codes "struct" ++ 40 ∷ name) → Flows (parts_of fs) mid last → new ≡ last ++ 41 ∷ []
    → FoundWritten true (found_pieces [] (λ inside u. []) [] (FoundRow.Struct name (map part_view fs))) old new
struct_written name fs old mid last new m f n =
    let head : List ℕ = codes "struct" ++ 40 ∷ name in
    subst (λ (ps : List Piece). FoundWritten true ps old new) (sym (struct_is name fs)) (
      head ++ (f.0 ++ 41 ∷ []),
      n ∙ ap (λ t. t ++ 41 ∷ []) (f.1 ∙ ap (λ t. t ++ f.0) m) ∙ append_assoc (old ++ head) f.0 (41 ∷ []) ∙ append_assoc old head (f.0 ++ 41 ∷ []),
      omega arith,
      λ r.
          ap (λ ps. put head (joined ps)) (append_assoc (parts_of fs) (closing ∷ []) r)
          ∙ ap (put head) (f.2 (closing ∷ r))
          ∙ ap (put head) (put_put f.0 (41 ∷ []) (joined r))
          ∙ put_put head (f.0 ++ 41 ∷ []) (joined r),
    )

pub part_stops : (name : List ℕ) (fs : List FoundPart) (i : ℕ) (d : FoundPart) (b : Bool) (old new : List ℕ) → i < length fs → b ≡ false → PartWritten b (found_piece (part_view (get_or fs i d)).type_) old new
    → (r : List Piece) → joined (found_pieces [] (λ inside u. []) [] (FoundRow.Struct name (map part_view fs)) ++ r) ≡ None
part_stops name fs i d b old new l e w r = struct_fails name fs i d l (subst (λ (x : Bool). PartWritten x (found_piece (part_view (get_or fs i d)).type_) old new) e w) r
