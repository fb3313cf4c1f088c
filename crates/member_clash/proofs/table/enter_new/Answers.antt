use Rattle.std.proofs.Common.{◌≡◌, ◌+◌, ◌++◌, ◌∷◌, [], ℕ, List, Some, Result, Ok, Err, OnOk, IfOk, sym, ap, subst, ◌∙◌, ◌⊎◌}
use Rattle.std.specs.Global.{Vec}
use Rattle.chains.specs.Groups.{graph_of}
use Rattle.wr_base.specs.declared.declaration.Declaration.{Declaration}
use Rattle.wr_rules.specs.ListRules.{names_at}
use Rattle.numbered.specs.Numbers.{number_in, IsNumbering}
use Rattle.member_clash.specs.Names.{Put}
use Rattle.numbered.specs.Tables.{Known}
use Rattle.numbered.specs.declared.numbers.Numbers.{Numbers}
use Rattle.numbered.proofs.Puts.{map_both}
use Rattle.numbered.proofs.Tables.{known_more}
use Rattle.wr_base.specs.Lower.{lower}
use Rattle.member_clash.proofs.table.enter_new.Goals as goal

-- where a number was given
given : {E : Type 0} (r : Result ℕ E) (types : List Declaration) (old texts names : Numbers) (before after : List (Vec ℕ)) (v : Vec ℕ) (text : List ℕ) (mid : Numbers)
    → Known (names_at types) lower (number_in old) old.count (number_in mid) mid.count (graph_of before)
    → Put (number_in mid) (number_in names) names.count (names_at types text) [] v.items → after ≡ before ++ v ∷ []
    → OnOk r (IsNumbering (number_in texts) texts.count) → IfOk r (λ k. number_in texts text ≡ Some k) → IfOk r (λ k. k ≡ old.count)
    → OnOk r (texts.count ≡ old.count + 1) → OnOk r ((q : List ℕ) → (k : ℕ) → number_in texts q ≡ Some k → (text ≡ q) ⊎ (number_in old q ≡ Some k))
    → OnOk r (Known (names_at types) lower (number_in texts) texts.count (number_in names) names.count (graph_of after))
given (Ok k) types old texts names before after v text mid known p is numbering here next count only =
    subst (λ (vs : List (List ℕ)). Known (names_at types) lower (number_in texts) texts.count (number_in names) names.count vs) (sym (ap graph_of is ∙ map_both (λ (w : Vec ℕ). w.items) before (v ∷ [])))
    (known_more (names_at types) lower (number_in old) (number_in texts) old.count texts.count (number_in mid) (number_in names) mid.count names.count (graph_of before) text v.items
    known p numbering (here ∙ ap (λ (n : ℕ). Some n) next) count only)
given (Err e) types old texts names before after v text mid known p is numbering here next count only = tt

pub returns-clause-known : goal.returns-clause-known
returns-clause-known c =
    given c.add.result c.args.types.now c.put_head.new.table.texts c.add.new.numbers c.put_head.new.table.names c.put_head.new.table.owned.items c.push.new.self.items c.put_head.new.list c.args.text.now c.args.table.now.names
    (subst (λ (v : Vec (Vec ℕ)). Known (names_at c.args.types.now) lower (number_in c.put_head.new.table.texts) c.put_head.new.table.texts.count (number_in c.args.table.now.names) c.args.table.now.names.count (graph_of v.items)) (sym c.in_ok-put_head.ensures.owned)
    (subst (λ (n : Numbers). Known (names_at c.args.types.now) lower (number_in n) n.count (number_in c.args.table.now.names) c.args.table.now.names.count (graph_of c.args.table.now.owned.items)) (sym c.in_ok-put_head.ensures.texts) c.requires.known))
    (subst (λ (old : List ℕ). Put (number_in c.args.table.now.names) (number_in c.put_head.new.table.names) c.put_head.new.table.names.count (names_at c.args.types.now c.args.text.now) old c.put_head.new.list.items) c.new-list.ensures.items
    (subst (λ (names : List (List ℕ)). Put (number_in c.args.table.now.names) (number_in c.put_head.new.table.names) c.put_head.new.table.names.count names c.new-list.result.items c.put_head.new.list.items) (sym c.requires.head) c.in_ok-put_head.ensures.put))
    c.in_ok-push.ensures.items c.add.ensures.numbering c.add.ensures.here c.add.ensures.next c.add.ensures.count c.add.ensures.only
