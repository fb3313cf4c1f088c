use Rattle.std.proofs.Common.{◌≡◌, List, ℕ, Some, OnOk, subst, sym, ap, ◌∙◌}
use Rattle.std.specs.List.{flat_map}
use Rattle.found_table.specs.declared.found.FoundMember.{FoundMember}
use Rattle.found_table.specs.declared.found.Found.{Found}
use Rattle.found_table.specs.Views.{member_view, found_view}
use Rattle.wr_rules.specs.Kinds.{found}
use Rattle.wr_rules.specs.Members.{found_names, names_within}
use Rattle.numbered.specs.Numbers.{number_in}
use Rattle.member_clash.specs.Names.{Put}
use Rattle.numbered.proofs.Puts.{flat_over}
use Rattle.member_clash.proofs.names.put_found.Goals as goal

pub returns-in-Interface : goal.returns-in-Interface
returns-in-Interface c =
    let same : flat_map (λ (m : FoundMember). found_names (member_view m)) c.in-Interface.members.now ≡ names_within (Some (found (found_view c.args.row.now))) =
    flat_over found_names member_view c.in-Interface.members.now ∙ ap (λ (f : Found). names_within (Some (found (found_view f)))) (sym c.in-Interface.is) in
    subst (λ (A : List (List ℕ)). OnOk c.put_found_members.result (Put (number_in c.args.numbers.now) (number_in c.put_found_members.new.numbers) c.put_found_members.new.numbers.count A c.args.list.now.items c.put_found_members.new.list.items)) same c.put_found_members.ensures
