use Rattle.std.proofs.Common.{◌++◌, ◌∷◌, List, [], Some, map, refl, append_assoc, sym, ap, subst, ◌∙◌, string_bytes, arith}
use Rattle.std.specs.Prelude.{codes}
use Rattle.std.proofs.lemmas.Option.{slice_get_within}
use Rattle.wr_base.specs.Declarations.{name_of}
use Rattle.wr_base.specs.declared.declaration.Field.{Field}
use Rattle.wr_rules.specs.Signatures.{Piece, declared_pieces, braced, flags_text, nested}
use Rattle.pinterface_id.specs.Stack.{items_of, names_open, rest, Moved, deeper}
use Rattle.pinterface_id.proofs.PieceLaws.{on_ok_then, two_put, four_put}
use Rattle.pinterface_id.proofs.Moves.{only_text, name_here}
use Rattle.pinterface_id.proofs.walk.enter_declared.Goals as goal

pub returns-in-Interface : goal.returns-in-Interface
returns-in-Interface c =
    on_ok_then c.push_braced.result _ _ (λ e. subst (λ (ps : List Piece). Moved c.args.types.now (ps ++ rest c.args.types.now (items_of c.args.stack.now.items)) c.args.flags.now (items_of c.args.stack.now.items) (string_bytes c.args.text.now) (string_bytes c.push_braced.new.text)) (sym (ap (declared_pieces c.args.types.now (deeper c.args.types.now (names_open c.args.types.now (items_of c.args.stack.now.items))) (names_open c.args.types.now (items_of c.args.stack.now.items))) c.in-Interface.is))
    (only_text c.args.types.now (Some (braced c.in-Interface.id) ∷ []) c.args.flags.now (items_of c.args.stack.now.items) (string_bytes c.args.text.now) (string_bytes c.push_braced.new.text) (braced c.in-Interface.id) c.requires.opened e (λ r. refl) (omega arith))) c.push_braced.ensures

pub returns-in-Delegate : goal.returns-in-Delegate
returns-in-Delegate c =
    on_ok_then c.push_delegate.result _ _ (λ e. subst (λ (ps : List Piece). Moved c.args.types.now (ps ++ rest c.args.types.now (items_of c.args.stack.now.items)) c.args.flags.now (items_of c.args.stack.now.items) (string_bytes c.args.text.now) (string_bytes c.push_delegate.new.text)) (sym (ap (declared_pieces c.args.types.now (deeper c.args.types.now (names_open c.args.types.now (items_of c.args.stack.now.items))) (names_open c.args.types.now (items_of c.args.stack.now.items))) c.in-Delegate.is))
    (only_text c.args.types.now (Some (codes "delegate" ++ 40 ∷ braced c.in-Delegate.id) ∷ Some (41 ∷ []) ∷ []) c.args.flags.now (items_of c.args.stack.now.items) (string_bytes c.args.text.now) (string_bytes c.push_delegate.new.text)
    ((codes "delegate" ++ 40 ∷ braced c.in-Delegate.id) ++ 41 ∷ []) c.requires.opened e
    (λ r. two_put (codes "delegate" ++ 40 ∷ braced c.in-Delegate.id) (41 ∷ []) _ r refl) (omega arith))) c.push_delegate.ensures

pub returns-in-Enum : goal.returns-in-Enum
returns-in-Enum c =
    on_ok_then c.push_enum.result _ _ (λ e. subst (λ (ps : List Piece). Moved c.args.types.now (ps ++ rest c.args.types.now (items_of c.args.stack.now.items)) c.args.flags.now (items_of c.args.stack.now.items) (string_bytes c.args.text.now) (string_bytes c.push_enum.new.text)) (sym (ap (declared_pieces c.args.types.now (deeper c.args.types.now (names_open c.args.types.now (items_of c.args.stack.now.items))) (names_open c.args.types.now (items_of c.args.stack.now.items))) c.in-Enum.is))
    (only_text c.args.types.now (Some (codes "enum" ++ 40 ∷ c.in-Enum.name) ∷ Some (59 ∷ []) ∷ Some (flags_text c.in-Enum.is_flags) ∷ Some (41 ∷ []) ∷ []) c.args.flags.now (items_of c.args.stack.now.items) (string_bytes c.args.text.now) (string_bytes c.push_enum.new.text)
    ((codes "enum" ++ 40 ∷ c.in-Enum.name) ++ 59 ∷ flags_text c.in-Enum.is_flags ++ 41 ∷ []) c.requires.opened e
    (λ r. four_put (codes "enum" ++ 40 ∷ c.in-Enum.name) (59 ∷ []) (flags_text c.in-Enum.is_flags) (41 ∷ []) _ r (append_assoc (codes "enum" ++ 40 ∷ c.in-Enum.name) (59 ∷ flags_text c.in-Enum.is_flags) (41 ∷ []))) (omega arith))) c.push_enum.ensures

pub returns-in-Struct : goal.returns-in-Struct
returns-in-Struct c =
    on_ok_then c.enter_struct.result _ _ (λ e. subst (λ (ps : List Piece). Moved c.args.types.now (ps ++ rest c.args.types.now (items_of c.args.stack.now.items)) c.enter_struct.new.flags (items_of c.enter_struct.new.stack.items) (string_bytes c.args.text.now) (string_bytes c.enter_struct.new.text)) (sym (ap (declared_pieces c.args.types.now (deeper c.args.types.now (names_open c.args.types.now (items_of c.args.stack.now.items))) (names_open c.args.types.now (items_of c.args.stack.now.items))) c.in-Struct.is)) (subst (λ (fs : List Field). Moved c.args.types.now (nested c.args.types.now (deeper c.args.types.now (names_open c.args.types.now (items_of c.args.stack.now.items))) (names_open c.args.types.now (items_of c.args.stack.now.items)) (codes "struct") c.in-Struct.name (map (λ (f : Field). f.ty) fs) ++ rest c.args.types.now (items_of c.args.stack.now.items)) c.enter_struct.new.flags (items_of c.enter_struct.new.stack.items) (string_bytes c.args.text.now) (string_bytes c.enter_struct.new.text)) c.as_slice.ensures e)) c.enter_struct.ensures

pub returns-in-Class : goal.returns-in-Class
returns-in-Class c =
    on_ok_then c.enter_class.result _ _ (λ e. subst (λ (ps : List Piece). Moved c.args.types.now (ps ++ rest c.args.types.now (items_of c.args.stack.now.items)) c.enter_class.new.flags (items_of c.enter_class.new.stack.items) (string_bytes c.args.text.now) (string_bytes c.enter_class.new.text)) (sym (ap (declared_pieces c.args.types.now (deeper c.args.types.now (names_open c.args.types.now (items_of c.args.stack.now.items))) (names_open c.args.types.now (items_of c.args.stack.now.items))) c.in-Class.is)) e) c.enter_class.ensures

pub enter_struct-requires-clause-at : goal.enter_struct-requires-clause-at
enter_struct-requires-clause-at c = record {
  within = slice_get_within c.args.types.now c.args.i c.args.declaration.now c.requires.at;
  named = name_here c.args.types.now c.args.i c.args.declaration.now c.requires.at ∙ ap name_of c.in-Struct.is;
}

pub enter_class-requires-clause-at : goal.enter_class-requires-clause-at
enter_class-requires-clause-at c = record {
  within = slice_get_within c.args.types.now c.args.i c.args.declaration.now c.requires.at;
  named = name_here c.args.types.now c.args.i c.args.declaration.now c.requires.at ∙ ap name_of c.in-Class.is;
}
