use Rattle.std.proofs.Common.{◌≡◌, ◌∷◌, ◌++◌, [], List, ℕ, map, ap, sym, ◌∙◌, append_assoc}
use Rattle.std.specs.List.{join_with_byte}
use Rattle.wr_base.specs.Uses.{text_of, text_at}
use Rattle.wr_base.specs.declared.type_use.TypeUse.TheVariants.{Value, Reference, rolls-Value, rolls-Reference}
use Rattle.wr_base.specs.declared.type_use.TypeUse.TheFolds.{fold-roll-TypeUse}
use Rattle.wr_base.specs.declared.type_use.TypeUse.TheOpen.{TypeUse-F}
use Rattle.wr_rules.specs.ListRules.{names_at}
use Rattle.wr_base.proofs.UseLemmas.{text_of-Inst}
use Rattle.member_clash.specs.Tables.{names_of_name}
use Rattle.member_clash.proofs.Heads.{of_name, of_instance}
use Rattle.member_clash.proofs.table.head_of.Goals as goal

text_of-Value : (name : List ℕ) → text_of (Value name) ≡ name
text_of-Value name = ap text_of (sym (rolls-Value name)) ∙ fold-roll-TypeUse (List ℕ) text_at (TypeUse-F.Value name)

text_of-Reference : (name : List ℕ) → text_of (Reference name) ≡ name
text_of-Reference name = ap text_of (sym (rolls-Reference name)) ∙ fold-roll-TypeUse (List ℕ) text_at (TypeUse-F.Reference name)

pub returns-in-Value : goal.returns-in-Value
returns-in-Value c = λ types.
    ap (names_at types) (ap text_of c.in-Value.is ∙ text_of-Value c.in-Value.name) ∙ of_name types c.in-Value.name c.head.ensures.path ∙ ap (names_of_name types) (sym c.head.ensures.some)

pub returns-in-Reference : goal.returns-in-Reference
returns-in-Reference c = λ types.
    ap (names_at types) (ap text_of c.in-Reference.is ∙ text_of-Reference c.in-Reference.name) ∙ of_name types c.in-Reference.name c.head-in-Reference.ensures.path ∙ ap (names_of_name types) (sym c.head-in-Reference.ensures.some)

pub returns-in-Inst : goal.returns-in-Inst
returns-in-Inst c = λ types.
    ap (names_at types) (ap text_of c.in-Inst.is ∙ text_of-Inst c.in-Inst.name c.in-Inst.field-1 ∙ append_assoc c.in-Inst.name (60 ∷ join_with_byte 44 (map text_of c.in-Inst.field-1)) (62 ∷ []))
    ∙ of_instance types c.in-Inst.name c.head-in-Inst.ensures.path (join_with_byte 44 (map text_of c.in-Inst.field-1) ++ 62 ∷ []) ∙ ap (names_of_name types) (sym c.head-in-Inst.ensures.some)
