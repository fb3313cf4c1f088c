use Rattle.std.proofs.Common.{◌≡◌, ◌++◌, ◌<◌, IsTrue, ℕ, List, length, sym, subst, string_bytes, true≢false, arith}
use Rattle.std.proofs.lemmas.List.{length-map}
use Rattle.wr_base.specs.Paths.{is_path}
use Rattle.midl_names.specs.Items.{prefix}
use Rattle.midl_names.specs.Views.{parts_of}
use Rattle.midl_names.proofs.FullNames.{path_of}
use Rattle.midl_names.proofs.paths.full_name.Goals as goal

pub unreachable-requires : goal.unreachable-requires
unreachable-requires c =
    let e : string_bytes c.push_str.new.self ≡ prefix (parts_of c.args.space.now) ++ c.args.name.now.text = grind arith in
    let some : 0 < length (parts_of c.args.space.now) = subst (λ n. 0 < n) (sym (length-map c.args.space.now (λ t. t.now.text))) c.requires in
    let path : IsTrue (is_path (string_bytes c.push_str.new.self)) = subst (λ (u : List ℕ). IsTrue (is_path u)) (sym e) (path_of (parts_of c.args.space.now) c.args.name.now.text some c.in_ok-push_prefix.ensures.identifiers c.as_str-last.ensures.identifier) in
    true≢false (sym (c.in-None.ensures.some.1 path))
