use Rattle.std.proofs.Common.{◌++◌, ◌∷◌, [], true, refl, sym, subst, string_bytes, arith}
use Rattle.std.specs.Prelude.{codes}
use Rattle.found_table.specs.declared.found.Found.{Found}
use Rattle.found_table.specs.Views.{found_view}
use Rattle.wr_rules.specs.Signatures.{braced, found_pieces}
use Rattle.pinterface_id.specs.Found.{FoundWritten}
use Rattle.pinterface_id.proofs.PieceLaws.{two_put}
use Rattle.pinterface_id.proofs.Instances.{if_ok_then}
use Rattle.pinterface_id.proofs.walk.push_found.Goals as goal

pub returns-in_ok-push_braced-in-Interface : goal.returns-in_ok-push_braced-in-Interface
returns-in_ok-push_braced-in-Interface c =
    subst (λ (f : Found). FoundWritten true (found_pieces [] (λ inside u. []) [] (found_view f)) (string_bytes c.args.text.now) (string_bytes c.push_braced.new.text)) (sym c.in-Interface.is)
    (braced c.in-Interface.id, c.in_ok-push_braced-in-Interface.ensures, omega arith, λ r. refl)

pub returns-in_ok-push_delegate-in-Delegate : goal.returns-in_ok-push_delegate-in-Delegate
returns-in_ok-push_delegate-in-Delegate c =
    subst (λ (f : Found). FoundWritten true (found_pieces [] (λ inside u. []) [] (found_view f)) (string_bytes c.args.text.now) (string_bytes c.push_delegate.new.text)) (sym c.in-Delegate.is) (
      (codes "delegate" ++ 40 ∷ braced c.in-Delegate.id) ++ 41 ∷ [],
      c.in_ok-push_delegate-in-Delegate.ensures,
      omega arith,
      λ r. two_put (codes "delegate" ++ 40 ∷ braced c.in-Delegate.id) (41 ∷ []) _ r refl,
    )

pub returns-in-Struct : goal.returns-in-Struct
returns-in-Struct c =
    if_ok_then c.push_found_struct.result _ _
    (λ fine w. subst (λ (f : Found). FoundWritten fine (found_pieces [] (λ inside u. []) [] (found_view f)) (string_bytes c.args.text.now) (string_bytes c.push_found_struct.new.text)) (sym c.in-Struct.is) w) c.push_found_struct.ensures
