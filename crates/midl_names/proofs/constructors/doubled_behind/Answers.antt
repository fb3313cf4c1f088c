use Rattle.std.proofs.Common.{◌≡◌, ◌<◌, List, [], ◌∷◌, map, length, drop, None, arith, ap, ◌∙◌, subst}
use Rattle.ranked.specs.Entries.{Entry}
use Rattle.ranked.specs.First.{IsFirst, Among}
use Rattle.ranked.proofs.FirstLaws.{none_in}
use Rattle.midl_tree.specs.Views.{class_member_view}
use Rattle.midl_names.specs.Constructors.{doubled}
use Rattle.midl_names.specs.Faults.{Gives}
use Rattle.midl_names.specs.Views.{item_of}
use Rattle.midl_names.proofs.constructors.doubled_behind.Goals as goal

none_behind : {X Y : Type 0} (f : X → Y) (raw : List X) (xs : List Y) (broken : Y → Entry → Type 0) → map f raw ≡ xs → length raw < 1 → IsFirst (Among (drop 1 xs) broken) None
none_behind f [] xs broken e l = subst (λ ys. IsFirst (Among (drop 1 ys) broken) None) e (none_in broken)
none_behind f (x ∷ raw) xs broken e l = absurd (omega (arith, l))

pub returns-in-empty : goal.returns-in-empty
returns-in-empty c =
    none_behind (λ m. class_member_view m.now) c.as_slice.result.now _ (λ m. Gives (doubled (item_of c.args.item.now) m))
    (ap (map (λ m. class_member_view m.now)) c.as_slice.ensures.value ∙ c.in_ok-plain.ensures) (omega arith)
