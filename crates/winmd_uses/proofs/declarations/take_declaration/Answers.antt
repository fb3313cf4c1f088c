use Rattle.std.proofs.Common.{List, map, ap, sym, subst}
use Rattle.std.specs.Option.{option_map}
use Rattle.wr_base.specs.declared.declaration.Field.{Field}
use Rattle.wr_base.specs.declared.declaration.Member.{Member}
use Rattle.wr_base.specs.declared.type_use.TypeUse.{TypeUse}
use Rattle.wr_base.specs.Trees.{DeclTree, class, decl_tree, delegate, enum, field_tree, interface, member_tree, signature_tree, struct, tree_of}
use Rattle.winmd_sets.specs.Declared.{lines_of}
use Rattle.winmd_uses.specs.Kinds.{class_says, delegate_says, enum_says, interface_says, struct_says}
use Rattle.winmd_uses.specs.Takes.{lines_say}
use Rattle.winmd_uses.proofs.KindLaws.{class_is, delegate_is, enum_is, interface_is, struct_is}
use Rattle.winmd_uses.proofs.TakeLaws.{Same, taken_kind}
use Rattle.winmd_uses.proofs.declarations.take_declaration.Goals as goal

pub returns-in-Enum : goal.returns-in-Enum
returns-in-Enum c =
    let e = c.in-Enum in
    taken_kind c.take_enum.result (enum_says e.name e.flags e.cases) (decl_tree c.args.declaration.now) (enum e.name e.version e.flags e.cases) c.args.used.now c.take_enum.new.self (ap decl_tree e.is) (enum_is e.name e.version e.flags e.cases) c.take_enum.ensures

pub returns-in-Struct : goal.returns-in-Struct
returns-in-Struct c =
    let e = c.in-Struct in
    let tree : DeclTree = struct e.name e.version (map field_tree e.fields) in
    taken_kind c.take_struct.result (struct_says (map field_tree c.as_slice.result.now)) (decl_tree c.args.declaration.now) tree c.args.used.now c.take_struct.new.self (ap decl_tree e.is)
    (subst (λ (fs : List Field). Same (struct_says (map field_tree fs)) (lines_say (lines_of tree))) (sym c.as_slice.ensures) (struct_is e.name e.version (map field_tree e.fields))) c.take_struct.ensures

pub returns-in-Delegate : goal.returns-in-Delegate
returns-in-Delegate c =
    let e = c.in-Delegate in
    taken_kind c.take_delegate.result (delegate_says (signature_tree e.invoke)) (decl_tree c.args.declaration.now) (delegate e.name e.version e.id (signature_tree e.invoke)) c.args.used.now c.take_delegate.new.self (ap decl_tree e.is)
    (delegate_is e.name e.version e.id (signature_tree e.invoke)) c.take_delegate.ensures

pub returns-in-Interface : goal.returns-in-Interface
returns-in-Interface c =
    let e = c.in-Interface in
    let tree : DeclTree = interface e.name e.version e.id e.owner (map tree_of e.requires_) (map member_tree e.members) in
    taken_kind c.take_interface.result (interface_says e.owner (map tree_of c.as_slice-in-Interface.result.now) (map member_tree c.as_slice-in-Interface-2.result.now)) (decl_tree c.args.declaration.now) tree c.args.used.now c.take_interface.new.self (ap decl_tree e.is)
    (subst (λ (us : List TypeUse). Same (interface_says e.owner (map tree_of us) (map member_tree c.as_slice-in-Interface-2.result.now)) (lines_say (lines_of tree))) (sym c.as_slice-in-Interface.ensures)
    (subst (λ (ms : List Member). Same (interface_says e.owner (map tree_of e.requires_) (map member_tree ms)) (lines_say (lines_of tree))) (sym c.as_slice-in-Interface-2.ensures)
    (interface_is e.name e.version e.id e.owner (map tree_of e.requires_) (map member_tree e.members)))) c.take_interface.ensures

pub returns-in-Class : goal.returns-in-Class
returns-in-Class c =
    let e = c.in-Class in
    let tree : DeclTree = class e.name e.version e.fixed (option_map tree_of e.default) (map tree_of e.has) e.direct e.factories e.statics in
    taken_kind c.take_class.result (class_says (option_map tree_of e.default) (map tree_of c.as_slice-in-Class.result.now) e.direct e.factories e.statics) (decl_tree c.args.declaration.now) tree c.args.used.now c.take_class.new.self (ap decl_tree e.is)
    (subst (λ (us : List TypeUse). Same (class_says (option_map tree_of e.default) (map tree_of us) e.direct e.factories e.statics) (lines_say (lines_of tree))) (sym c.as_slice-in-Class.ensures)
    (class_is e.name e.version e.fixed (option_map tree_of e.default) (map tree_of e.has) e.direct e.factories e.statics)) c.take_class.ensures
