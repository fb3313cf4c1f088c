use Rattle.std.proofs.Common.{◌≡◌, ◌⊎◌, ◌+◌, ℕ, List, Some, sym, ap, subst, ◌∙◌}
use Rattle.wr_base.specs.Declarations.{name_of}
use Rattle.numbered.specs.Numbers.{number_in}
use Rattle.list_rules.proofs.NameLaws.{prefix_new, names_more}
use Rattle.list_rules.proofs.names.add_name.Goals as goal

pub add-requires : goal.add-requires
add-requires c = record {
  numbering = c.requires.named.numbering;
  new = ap (number_in c.args.numbers.now) (c.as_str.ensures.value ∙ c.name-name.ensures) ∙ c.requires.named.names (name_of c.at.result.now) ∙ prefix_new c.args.types.now c.args.i c.at.result.now c.at.ensures.order c.at.ensures.value;
}

pub returns : goal.returns
returns c = record {
  numbering = c.in_ok-add.ensures.numbering;
  count = c.in_ok-add.ensures.count ∙ ap (λ (n : ℕ). n + 1) c.requires.named.count;
  names = names_more c.args.types.now c.args.i c.at.result.now c.requires.within c.at.ensures.value (number_in c.args.numbers.now) (number_in c.add.new.numbers) c.requires.named.names c.in_ok-add.ensures.kept
      (ap (number_in c.add.new.numbers) (sym (c.as_str.ensures.value ∙ c.name-name.ensures)) ∙ c.in_ok-add.ensures.here ∙ ap (λ (n : ℕ). Some n) (c.in_ok-add.ensures.next ∙ c.requires.named.count))
      (subst (λ (name : List ℕ). (q : List ℕ) (k : ℕ) → number_in c.add.new.numbers q ≡ Some k → (name ≡ q) ⊎ (number_in c.args.numbers.now q ≡ Some k)) (c.as_str.ensures.value ∙ c.name-name.ensures) c.in_ok-add.ensures.only);
}
