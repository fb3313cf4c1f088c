use Rattle.std.proofs.Common.{List, length, refl, ap, subst, ◌∙◌}
use Rattle.std.proofs.lemmas.Option.{slice_get_read}
use Rattle.wr_base.specs.declared.type_use.TypeUse.{TypeUse}
use Rattle.wr_rules.specs.Closures.{required_at}
use Rattle.closed_lists.specs.Views.{decls_in}
use Rattle.closed_lists.specs.Closing.{Meets}
use Rattle.closed_lists.proofs.Meetings.{on_ok_then}
use Rattle.closed_lists.proofs.closing.follow.Goals as goal

pub returns : goal.returns
returns c =
    on_ok_then c.meet_all.result _ _ (λ m. (
      c.index.result.now,
      slice_get_read c.args.gathered.now.uses.items (length c.args.gathered.now.uses.items) c.args.at c.index.result.now refl c.requires.within c.index.ensures,
      subst (λ (us : List TypeUse). Meets us c.args.gathered.now c.meet_all.new.gathered) (c.required.ensures ∙ ap (required_at (decls_in c.args.sites.now)) (c.as_str.ensures.value ∙ c.in_ok-text.ensures)) m,
    )) c.meet_all.ensures
