use Rattle.std.proofs.Common.{◌∙◌, ap, map, sum_by}
use Rattle.placed_sites.specs.Views.{site_view}
use Rattle.site_uses.specs.Views.{used_view}
use Rattle.wr_rules.specs.Limits.{words_in, bytes_in}
use Rattle.set_limits.specs.Counts.{capped}
use Rattle.set_limits.proofs.CapLaws.{one_more_capped}
use Rattle.use_limits.specs.Weights.{one_word, name_bytes, weight_at}
use Rattle.use_limits.proofs.WeightLaws.{words_weigh, bytes_weigh}
use Rattle.use_limits.proofs.pass.with_site.Goals as goal

pub returns : goal.returns
returns c = record {
  words = λ S e. one_more_capped c.args.totals.words c.add.result S c.weigh_used-words.result (words_in (site_view c.args.site.now)) e
      (c.weigh_used-words.ensures ∙ ap capped (ap (λ xs. sum_by (weight_at one_word) (map used_view xs)) c.as_slice.ensures.value ∙ ap (sum_by (weight_at one_word)) c.in_ok-used.ensures ∙ words_weigh (site_view c.args.site.now)))
      c.add.ensures;
  bytes = λ S e. one_more_capped c.args.totals.bytes c.add-2.result S c.weigh_used-bytes.result (bytes_in (site_view c.args.site.now)) e
      (c.weigh_used-bytes.ensures ∙ ap capped (ap (λ xs. sum_by (weight_at name_bytes) (map used_view xs)) c.as_slice-2.ensures.value ∙ ap (sum_by (weight_at name_bytes)) c.in_ok-used.ensures ∙ bytes_weigh (site_view c.args.site.now)))
      c.add-2.ensures;
}
