use Rattle.std.proofs.Common.{◌≡◌, ◌<◌, ◌≤◌, ◌+◌, ℕ, List, arith, ap, sym, ◌∙◌, refl, get_or, set, take, length, count_by, rules}
use Rattle.std.proofs.lemmas.Option.{slice_get_read, same_Some}
use Rattle.wr_base.specs.declared.declaration.Member.{Member}
use Rattle.midl_names.specs.Counts.{count_at}
use Rattle.midl_names.specs.Members.{is_method, told_count, count_before, noted, with_abi}
use Rattle.midl_names.proofs.AbiNames.{untouched, named_more, told_same, told_more, few}
use Rattle.midl_names.proofs.NamedLaws.{named_all, named_done}
use Rattle.midl_names.proofs.abi.name_methods.Goals as goal

-- two reads of one place
same_read : (xs : List Member) (i : ℕ) (x y : Member) → i < length xs → x ≡ get_or xs i x → y ≡ get_or xs i y → x ≡ y
same_read xs i x y l e f = same_Some x y (sym (slice_get_read xs (length xs) i x refl l e) ∙ slice_get_read xs (length xs) i y refl l f)

fits : (count : ℕ) (x : Member) (raw : List Member) (i : ℕ) → count ≡ count_before (take i raw) x → i < length raw → length raw < 18446744073709551616 → count + 1 < 18446744073709551616
fits count x raw i e l short = let f : count ≤ i = few raw i x count (omega arith) e in omega arith

pub note-requires : goal.note-requires
note-requires c =
    fits c.count_of-count.result c.index-members-i.result c.args.members.now c.loop-i.i
    (c.count_of-count.ensures ∙ ap (told_count (count_at c.loop-i.counts)) (sym c.index-members-i.is) ∙ told_same (count_at c.loop-i.counts) (λ name. count_by (is_method name) (take c.loop-i.i c.args.members.now)) c.index-members-i.result c.loop-i.invariant.told)
    (search rules) (search rules)

pub set_abi-requires : goal.set_abi-requires
set_abi-requires c =
    fits c.count_of-count.result c.index-members-i.result c.args.members.now c.loop-i.i
    (c.count_of-count.ensures ∙ ap (told_count (count_at c.loop-i.counts)) (sym c.index-members-i.is) ∙ told_same (count_at c.loop-i.counts) (λ name. count_by (is_method name) (take c.loop-i.i c.args.members.now)) c.index-members-i.result c.loop-i.invariant.told)
    (search rules) (search rules)

pub loop-i-preserved : goal.loop-i-preserved
loop-i-preserved c =
    let l : c.loop-i.i < length c.args.members.now = search rules in
    let l2 : c.loop-i.i < length c.loop-i.members = search rules in
    let e2 : c.index-members-i-in-loop-i.result ≡ get_or c.args.members.now c.loop-i.i c.index-members-i-in-loop-i.result =
    c.index-members-i-in-loop-i.is ∙ untouched c.args.members.now c.loop-i.members c.loop-i.i l c.loop-i.invariant.named c.index-members-i-in-loop-i.result in
    let e3 : c.index-members-i-in-loop-i-2.result ≡ get_or c.args.members.now c.loop-i.i c.index-members-i-in-loop-i-2.result =
    c.index-members-i-in-loop-i-2.is ∙ untouched c.args.members.now c.loop-i.members c.loop-i.i l c.loop-i.invariant.named c.index-members-i-in-loop-i-2.result in
    let k2 : c.count_of-count.result ≡ told_count (count_at c.loop-i.counts) c.index-members-i-in-loop-i.result =
    c.count_of-count.ensures ∙ ap (told_count (count_at c.loop-i.counts)) (sym c.index-members-i.is)
    ∙ ap (told_count (count_at c.loop-i.counts)) (same_read c.loop-i.members c.loop-i.i c.index-members-i.result c.index-members-i-in-loop-i.result l2 c.index-members-i.is c.index-members-i-in-loop-i.is) in
    let k3 : c.count_of-count.result ≡ count_before (take c.loop-i.i c.args.members.now) c.index-members-i-in-loop-i-2.result =
    c.count_of-count.ensures ∙ ap (told_count (count_at c.loop-i.counts)) (sym c.index-members-i.is)
    ∙ ap (told_count (count_at c.loop-i.counts)) (same_read c.loop-i.members c.loop-i.i c.index-members-i.result c.index-members-i-in-loop-i-2.result l2 c.index-members-i.is c.index-members-i-in-loop-i-2.is)
    ∙ told_same (count_at c.loop-i.counts) (λ name. count_by (is_method name) (take c.loop-i.i c.args.members.now)) c.index-members-i-in-loop-i-2.result c.loop-i.invariant.told in
    record {
      named = ap (λ (m : Member). set c.loop-i.members c.loop-i.i m) (c.in_ok-set_abi.ensures ∙ ap (with_abi c.count_of-count.result) (sym c.index-members-i-in-loop-i-2.is))
          ∙ named_more c.args.members.now c.loop-i.members c.loop-i.i l c.loop-i.invariant.named c.index-members-i-in-loop-i-2.result c.count_of-count.result e3 k3;
      told = told_more c.args.members.now c.loop-i.i c.index-members-i-in-loop-i.result c.count_of-count.result (count_at c.loop-i.counts)
          (count_at c.note.new.counts) l e2 k2 (λ name. c.in_ok-note.ensures name ∙ ap (λ (m : Member). noted c.count_of-count.result m (count_at c.loop-i.counts) name) (sym c.index-members-i-in-loop-i.is)) c.loop-i.invariant.told;
    }

pub returns-clause-named : goal.returns-clause-named
returns-clause-named c = named_all c.args.members.now c.loop-i.members (search rules) (named_done c.args.members.now c.loop-i.members c.loop-i.i (search rules) c.loop-i.invariant.named)
