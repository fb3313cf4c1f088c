use Rattle.std.proofs.Common.{◌≡◌, ℕ, ◌+◌, ◌/◌, ◌%◌, List, [], length, ap, subst, sym, ◌∙◌, ◌++◌, arith, length-append}
use Rattle.std.proofs.lemmas.List.{append-nil}
use Rattle.md_heaps.specs.Heaps.{Heap, EachStands, Keeps, index_of, with_entry}
use Rattle.md_heaps.specs.Guids.{GuidAt}
use Rattle.md_heaps.proofs.HeapLaws.{keeps_same, keeps_new, stands_with, found_new}
use Rattle.md_heaps.proofs.GuidLaws.{guid_grows, guid_new}
use Rattle.md_heaps.proofs.guids.GuidHeap.intern.Goals as goal

-- the heap with the GUID at its end has each GUID where it stands, and is whole
put : (heap new : Heap) (guid : List ℕ) (index : ℕ) → EachStands GuidAt heap → length heap.bytes % 16 ≡ 0 → index ≡ length heap.bytes / 16 + 1
    → length guid ≡ 16 → new ≡ with_entry heap guid (guid ++ []) index → (length new.bytes % 16 ≡ 0) × EachStands GuidAt new
put heap new guid index each whole end sixteen added =
    let same : new ≡ with_entry heap guid guid index = added ∙ ap (λ (l : List ℕ). with_entry heap guid l index) (append-nil guid) in
    let stands : GuidAt (heap.bytes ++ guid) index guid = subst (λ (n : ℕ). GuidAt (heap.bytes ++ guid) n guid) (sym end) (guid_new heap.bytes guid whole sixteen) in
    let long : length (heap.bytes ++ guid) % 16 ≡ 0 = omega (arith, length-append heap.bytes guid) in (
      subst (λ (h : Heap). length h.bytes % 16 ≡ 0) (sym same) long,
      subst (λ (h : Heap). EachStands GuidAt h) (sym same) (stands_with GuidAt guid_grows heap guid guid index each stands),
    )

pub returns-in-Some-clause-stands : goal.returns-in-Some-clause-stands
returns-in-Some-clause-stands c = subst (λ (h : Heap). GuidAt h.bytes c.in-Some.index c.args.guid.now) c.self.view_is
    (c.self.invariant.1 c.args.guid.now c.in-Some.index (sym c.find.ensures ∙ c.in-Some.is))

pub returns-in-Some-clause-standing : goal.returns-in-Some-clause-standing
returns-in-Some-clause-standing c = subst (λ (h : Heap). EachStands GuidAt h) c.self.view_is c.self.invariant.1

pub returns-in-Some-clause-keeps : goal.returns-in-Some-clause-keeps
returns-in-Some-clause-keeps c = keeps_same c.args.self.now

pub invariant_of-self : goal.invariant_of-self
invariant_of-self c =
    subst (λ (h : Heap). (length h.bytes % 16 ≡ 0) × EachStands GuidAt h) (sym c.in_err-add-in-Ok.ensures.unchanged) c.self.invariant

pub returns-in_err-add-in-Ok-clause-standing : goal.returns-in_err-add-in-Ok-clause-standing
returns-in_err-add-in-Ok-clause-standing c = subst (λ (h : Heap). EachStands GuidAt h) (sym c.in_err-add-in-Ok.ensures.unchanged) c.self.invariant.1

pub returns-in_err-add-in-Ok-clause-keeps : goal.returns-in_err-add-in-Ok-clause-keeps
returns-in_err-add-in-Ok-clause-keeps c = subst (λ (h : Heap). Keeps c.args.self.now h) (sym (c.in_err-add-in-Ok.ensures.unchanged ∙ c.self.view_is)) (keeps_same c.args.self.now)

pub invariant_of-self-in-Ok : goal.invariant_of-self-in-Ok
invariant_of-self-in-Ok c =
    put c.self.inside.store c.add.new.self c.args.guid.now (c.in-Ok.end / 16 + 1) c.self.invariant.1 c.self.invariant.0 (ap (λ (n : ℕ). n / 16 + 1) c.in-Ok.ensures.length) c.requires c.in_ok-add-in-Ok.ensures.added

pub returns-in_ok-add-in-Ok-clause-standing : goal.returns-in_ok-add-in-Ok-clause-standing
returns-in_ok-add-in-Ok-clause-standing c =
    (put c.self.inside.store c.add.new.self c.args.guid.now (c.in-Ok.end / 16 + 1) c.self.invariant.1 c.self.invariant.0 (ap (λ (n : ℕ). n / 16 + 1) c.in-Ok.ensures.length) c.requires c.in_ok-add-in-Ok.ensures.added).1

pub returns-in_ok-add-in-Ok-clause-found : goal.returns-in_ok-add-in-Ok-clause-found
returns-in_ok-add-in-Ok-clause-found c =
    ap (λ (h : Heap). index_of h c.args.guid.now) c.in_ok-add-in-Ok.ensures.added ∙ found_new c.self.inside.store c.args.guid.now (c.args.guid.now ++ []) (c.in-Ok.end / 16 + 1)

pub returns-in_ok-add-in-Ok-clause-keeps : goal.returns-in_ok-add-in-Ok-clause-keeps
returns-in_ok-add-in-Ok-clause-keeps c =
    subst (λ (h : Heap). Keeps h c.add.new.self) c.self.view_is
    (subst (λ (h : Heap). Keeps c.self.inside.store h) (sym c.in_ok-add-in-Ok.ensures.added)
    (keeps_new c.self.inside.store c.args.guid.now (c.args.guid.now ++ []) (c.in-Ok.end / 16 + 1) (sym c.find.ensures ∙ c.in_default.is)))

pub returns-in-Err-clause-standing : goal.returns-in-Err-clause-standing
returns-in-Err-clause-standing c = subst (λ (h : Heap). EachStands GuidAt h) c.self.view_is c.self.invariant.1

pub returns-in-Err-clause-keeps : goal.returns-in-Err-clause-keeps
returns-in-Err-clause-keeps c = keeps_same c.args.self.now
