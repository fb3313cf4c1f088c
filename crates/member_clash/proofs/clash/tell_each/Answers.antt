use Rattle.std.proofs.Common.{◌≡◌, ◌<◌, ◌↔◌, IsTrue, List, ℕ, length, map, ap, refl, sym, subst, ◌∙◌, arith, get_or}
use Rattle.std.specs.Global.{Vec}
use Rattle.std.proofs.lemmas.List.{length-map, take_all}
use Rattle.std.proofs.lemmas.Option.{slice_get_read}
use Rattle.chains.specs.Graphs.{In, steps_of}
use Rattle.chains.specs.Groups.{graph_of}
use Rattle.chains.proofs.ClosureLaws.{steps_at}
use Rattle.stamps.specs.Shared.{Shared}
use Rattle.numbered.specs.Numbers.{number_in}
use Rattle.member_clash.specs.Tables.{clash_at, texts_listed}
use Rattle.member_clash.proofs.Sharing.{knows_length, set_within_at, things_within, told_turn, clash_is}
use Rattle.member_clash.proofs.clash.tell_each.Goals as goal

set_read : (sets : List (Vec ℕ)) (i : ℕ) (v : Vec ℕ) (s : List ℕ) → i < length sets → v ≡ get_or sets i v → s ≡ v.items → steps_of (graph_of sets) i ≡ s
set_read sets i v s l e f = steps_at sets i v (slice_get_read sets (length sets) i v refl l e) ∙ sym f

pub share_two-told-requires-clause-owners : goal.share_two-told-requires-clause-owners
share_two-told-requires-clause-owners c = λ a h.
    let own = set_read c.args.sets.now c.loop-i.i c.index-sets-i.result c.as_slice-in-loop-i.result.now (omega arith) c.index-sets-i.is c.as_slice-in-loop-i.ensures.value in
    let w = set_within_at c.args.types.now (number_in c.args.table.now.texts) c.args.table.now.texts.count (number_in c.args.table.now.names) c.args.table.now.names.count (graph_of c.args.table.now.owned.items) c.requires.known
    c.args.types.now (graph_of c.args.sets.now) c.loop-i.i (let m = length-map c.args.sets.now (λ (v : Vec ℕ). v.items) in omega (arith, m)) c.requires.sets a (subst (In a) (sym own) h) in
    let m = length-map c.args.table.now.owned.items (λ (v : Vec ℕ). v.items) in
    omega (arith, w, m, ap length c.as_slice.ensures.value)

pub share_two-told-requires-clause-things : goal.share_two-told-requires-clause-things
share_two-told-requires-clause-things c = λ a x h.
    let w = things_within c.args.types.now (number_in c.args.table.now.texts) c.args.table.now.texts.count (number_in c.args.table.now.names) c.args.table.now.names.count (graph_of c.args.table.now.owned.items) c.requires.known
    a x (subst (λ vs. In x (steps_of (graph_of vs) a)) c.as_slice.ensures.value h) in
    let s = c.requires.size in
    omega (arith, w, s)

pub loop-i-preserved : goal.loop-i-preserved
loop-i-preserved c =
    let own = set_read c.args.sets.now c.loop-i.i c.index-sets-i.result c.as_slice-in-loop-i.result.now (omega arith) c.index-sets-i.is c.as_slice-in-loop-i.ensures.value in
    record {
      on = told_turn (clash_at c.args.types.now) (number_in c.args.table.now.texts) c.args.types.now (graph_of c.args.sets.now) c.loop-i.i c.loop-i.on.items c.push.new.self.items c.share_two-told.result
          (let m = length-map c.args.sets.now (λ (v : Vec ℕ). v.items) in omega (arith, m)) c.requires.sets c.loop-i.invariant.on c.in_ok-push.ensures.items
          (λ d e. clash_is c.args.types.now (number_in c.args.table.now.texts) c.args.table.now.texts.count (number_in c.args.table.now.names) c.args.table.now.names.count (graph_of c.args.table.now.owned.items) c.requires.known
          (texts_listed d) (steps_of (graph_of c.args.sets.now) c.loop-i.i) e c.share_two-told.result
          (subst (λ (vs : List (Vec ℕ)). IsTrue c.share_two-told.result ↔ Shared (graph_of vs) (steps_of (graph_of c.args.sets.now) c.loop-i.i)) c.as_slice.ensures.value
          (subst (λ (s : List ℕ). IsTrue c.share_two-told.result ↔ Shared (graph_of c.as_slice.result.now) s) (sym own) c.share_two-told.ensures.shared)));
      floor = c.share_two-told.ensures.floor;
    }

pub returns : goal.returns
returns c =
    let k = knows_length (number_in c.args.table.now.texts) c.args.types.now (graph_of c.args.sets.now) c.requires.sets in
    let m = length-map c.args.sets.now (λ (v : Vec ℕ). v.items) in
    c.loop-i.invariant.on ∙ ap (map (clash_at c.args.types.now)) (take_all c.loop-i.i c.args.types.now (omega (arith, k, m)))
