use Rattle.std.proofs.Common.{sym, ◌∙◌}
use Rattle.midl_lex.proofs.Ends.{end_goes_on, end_length, end_found, end_missing}
use Rattle.midl_lex.proofs.comments.end_of.Goals as goal

pub returns-then-ends_comment-clause-exact : goal.returns-then-ends_comment-clause-exact
returns-then-ends_comment-clause-exact c = end_found c.more.count c.more.rest.now _ (sym c.ends_comment.ensures ∙ c.if-ends_comment.true) c.more.invariant.0

pub more-preserved : goal.more-preserved
more-preserved c = (end_goes_on c.more.count c.more.rest.now _ c.in-len1-up.len_at_least (sym c.ends_comment.ensures ∙ c.if-ends_comment.false) c.more.invariant.0, end_length c.more.count c.more.rest.now _ c.in-len1-up.len_at_least c.more.invariant.1)

pub returns-clause-exact : goal.returns-clause-exact
returns-clause-exact c = end_missing c.more.count c.more.rest.now _ c.in_default.len_below c.more.invariant.0
