use Rattle.std.proofs.Common.{◌++◌, ◌∷◌, map, string_bytes}
use Rattle.std.specs.Prelude.{codes}
use Rattle.wr_base.specs.declared.declaration.Field.{Field}
use Rattle.pinterface_id.specs.Stack.{items_of}
use Rattle.pinterface_id.proofs.PieceLaws.{on_ok_then}
use Rattle.pinterface_id.proofs.Moves.{entered, met_again, fresh_one}
use Rattle.pinterface_id.proofs.walk.enter_struct.Goals as goal

pub returns-then-not-branch : goal.returns-then-not-branch
returns-then-not-branch c =
    met_again c.args.types.now (codes "struct") c.args.name.now c.args.i (map (λ (f : Field). f.ty) c.args.fields.now) c.args.flags.now c.open.new.flags (items_of c.args.stack.now.items) (items_of c.open.new.stack.items) (string_bytes c.args.text.now) (string_bytes c.open.new.text)
    c.in_ok-open.field-0 c.if-not-branch.true c.requires.at c.requires.opened c.in_ok-open.ensures

pub returns : goal.returns
returns c =
    on_ok_then c.push_fields.result _ _ (λ e. entered c.args.types.now (codes "struct") c.args.name.now c.args.i (map (λ (f : Field). f.ty) c.args.fields.now) c.args.flags.now c.open.new.flags (items_of c.args.stack.now.items) (items_of c.open.new.stack.items) (items_of c.push_fields.new.stack.items)
    (string_bytes c.args.text.now) (string_bytes c.open.new.text) c.requires.order c.requires.at c.requires.opened
    (fresh_one c.args.types.now c.args.i (codes "struct" ++ 40 ∷ c.args.name.now) c.args.flags.now c.open.new.flags (items_of c.args.stack.now.items) (items_of c.open.new.stack.items) (string_bytes c.args.text.now) (string_bytes c.open.new.text) c.in_ok-open.field-0 c.if-not-branch.false c.in_ok-open.ensures) e) c.push_fields.ensures
