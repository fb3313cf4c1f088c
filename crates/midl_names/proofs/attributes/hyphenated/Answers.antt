use Rattle.std.proofs.Common.{◌≡◌, ◌==◌, Bool, true, false, cond, Option, Some, None, refl, sym, true≢false, length}
use Rattle.uuid.specs.Text.{parsed}
use Rattle.midl_names.specs.Attributes.{hyphenated}
use Rattle.midl_names.proofs.attributes.hyphenated.Goals as goal

none_of : {A : Type 0} (o : Option A) → ((x : A) × (o ≡ Some x) → ⊥) → None ≡ o
none_of None n = refl
none_of (Some x) n = absurd (n (x, refl))

none_if : {A : Type 0} (b : Bool) (o : Option A) → None ≡ o → None ≡ cond b o None
none_if true o e = e
none_if false o e = refl

pub returns-in-Err : goal.returns-in-Err
unfolding hyphenated
returns-in-Err c = none_if (length c.args.text.now == 36) (parsed c.args.text.now) (none_of (parsed c.args.text.now) (λ s. true≢false (sym (c.in-Err.ensures.ok.1 s))))
