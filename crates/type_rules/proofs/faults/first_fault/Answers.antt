use Rattle.std.proofs.Common.{subst, Option, Result, Ok, Err, IfOk, None}
use Rattle.ranked.specs.Entries.{Entry}
use Rattle.ranked.specs.First.{IsFirst, Then}
use Rattle.ranked.proofs.FirstLaws.{phase_stops, phase_goes_on}
use Rattle.wr_rules.specs.Sites.{sites_of}
use Rattle.wr_rules.specs.Accepted.{Rules}
use Rattle.wr_rules.specs.Limits.{Limits}
use Rattle.type_rules.proofs.faults.first_fault.Goals as goal

goes_on : {X : Type 0} (A B : Entry → Type 0) (r : Result (Option Entry) X) → IsFirst A None → IfOk r (IsFirst B) → IfOk r (IsFirst (Then A B))
goes_on A B (Err x) none f = tt
goes_on A B (Ok o) none f = phase_goes_on A B o none f

pub returns-in-Some : goal.returns-in-Some
returns-in-Some c =
    let types = c.args.types.now.types in
    let sites = sites_of types c.args.types.now.places in
    phase_stops (Rules types sites) (Limits sites) c.in-Some.refusal (subst (IsFirst (Rules types sites)) c.in-Some.is c.in_ok-refusal.ensures)

pub returns-in-None : goal.returns-in-None
returns-in-None c =
    let types = c.args.types.now.types in
    let sites = sites_of types c.args.types.now.places in
    goes_on (Rules types sites) (Limits sites) c.first_limit.result (subst (IsFirst (Rules types sites)) c.in-None.is c.in_ok-refusal.ensures) c.first_limit.ensures
