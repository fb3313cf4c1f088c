use Rattle.std.proofs.Common.{◌≡◌, ℕ, List, [], ◌∷◌, length, ap, subst, sym, ◌∙◌, ◌++◌}
use Rattle.md_heaps.specs.Heaps.{Heap, EachStands, Keeps, index_of, with_entry}
use Rattle.md_heaps.specs.Texts.{TextAt, HasNoZero, text_bytes}
use Rattle.md_heaps.proofs.HeapLaws.{keeps_same, keeps_new, stands_with, found_new}
use Rattle.md_heaps.proofs.TextLaws.{text_grows, text_new}
use Rattle.md_heaps.proofs.texts.TextHeap.intern.Goals as goal

-- the heap with the text at its end has each text where it stands
put : (heap new : Heap) (text : List ℕ) (at : ℕ) → EachStands TextAt heap → at ≡ length heap.bytes → HasNoZero text → new ≡ with_entry heap text (text_bytes text) at → EachStands TextAt new
put heap new text at each end ends added =
    subst (λ (h : Heap). EachStands TextAt h) (sym added)
    (stands_with TextAt text_grows heap text (text_bytes text) at each (subst (λ (n : ℕ). TextAt (heap.bytes ++ text_bytes text) n text) (sym end) (text_new heap.bytes text ends)))

pub returns-in-Some-clause-standing : goal.returns-in-Some-clause-standing
returns-in-Some-clause-standing c = subst (λ (h : Heap). EachStands TextAt h) c.self.view_is c.self.invariant

pub returns-in-Some-clause-keeps : goal.returns-in-Some-clause-keeps
returns-in-Some-clause-keeps c = keeps_same c.args.self.now

pub invariant_of-self : goal.invariant_of-self
invariant_of-self c = subst (λ (h : Heap). EachStands TextAt h) (sym c.in_err-add-in-Ok.ensures.unchanged) c.self.invariant

pub returns-in_err-add-in-Ok-clause-standing : goal.returns-in_err-add-in-Ok-clause-standing
returns-in_err-add-in-Ok-clause-standing c = subst (λ (h : Heap). EachStands TextAt h) (sym c.in_err-add-in-Ok.ensures.unchanged) c.self.invariant

pub returns-in_err-add-in-Ok-clause-keeps : goal.returns-in_err-add-in-Ok-clause-keeps
returns-in_err-add-in-Ok-clause-keeps c = subst (λ (h : Heap). Keeps c.args.self.now h) (sym (c.in_err-add-in-Ok.ensures.unchanged ∙ c.self.view_is)) (keeps_same c.args.self.now)

pub invariant_of-self-in-Ok : goal.invariant_of-self-in-Ok
invariant_of-self-in-Ok c = put c.self.inside.store c.add.new.self c.args.text.now c.in-Ok.at c.self.invariant c.in-Ok.ensures.length c.requires c.in_ok-add-in-Ok.ensures.added

pub returns-in_ok-add-in-Ok-clause-standing : goal.returns-in_ok-add-in-Ok-clause-standing
returns-in_ok-add-in-Ok-clause-standing c = put c.self.inside.store c.add.new.self c.args.text.now c.in-Ok.at c.self.invariant c.in-Ok.ensures.length c.requires c.in_ok-add-in-Ok.ensures.added

pub returns-in_ok-add-in-Ok-clause-found : goal.returns-in_ok-add-in-Ok-clause-found
returns-in_ok-add-in-Ok-clause-found c =
    ap (λ (h : Heap). index_of h c.args.text.now) c.in_ok-add-in-Ok.ensures.added ∙ found_new c.self.inside.store c.args.text.now (c.args.text.now ++ 0 ∷ []) c.in-Ok.at

pub returns-in_ok-add-in-Ok-clause-keeps : goal.returns-in_ok-add-in-Ok-clause-keeps
returns-in_ok-add-in-Ok-clause-keeps c =
    subst (λ (h : Heap). Keeps h c.add.new.self) c.self.view_is
    (subst (λ (h : Heap). Keeps c.self.inside.store h) (sym c.in_ok-add-in-Ok.ensures.added)
    (keeps_new c.self.inside.store c.args.text.now (c.args.text.now ++ 0 ∷ []) c.in-Ok.at (sym c.find.ensures ∙ c.in_default.is)))

pub returns-in-Err-clause-standing : goal.returns-in-Err-clause-standing
returns-in-Err-clause-standing c = subst (λ (h : Heap). EachStands TextAt h) c.self.view_is c.self.invariant

pub returns-in-Err-clause-keeps : goal.returns-in-Err-clause-keeps
returns-in-Err-clause-keeps c = keeps_same c.args.self.now
