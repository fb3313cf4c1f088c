use Rattle.std.proofs.Common.{Option, List, ℕ, Some, ap, subst, ◌∙◌}
use Rattle.std.specs.HashMap.{get_by_text}
use Rattle.std.specs.HashSet.{contains_text}
use Rattle.wr_rules.specs.Kinds.{declared}
use Rattle.wr_rules.specs.Sites.{site_name}
use Rattle.wr_rules.specs.Signatures.{own_id}
use Rattle.placed_sites.specs.Views.{site_view}
use Rattle.id_clash.specs.Items.{Meets, One, Fresh, AddsTexts, is_had, texts_in, texts_at}
use Rattle.id_clash.proofs.ItemLaws.{meets_then}
use Rattle.id_clash.proofs.PassLaws.{own_apart}
use Rattle.id_clash.proofs.items.meet.Goals as goal

pub returns : goal.returns
returns c =
    let s = site_view c.args.site.now in
    record {
      told = meets_then (One (site_name s) (own_id (Some (declared s.decl)))) (Fresh (contains_text c.args.met.now.texts) (get_by_text c.args.table.now) (texts_at s)) (is_had c.args.reserved.now c.args.met.now.ids) (is_had c.args.reserved.now c.meet_optional.new.ids)
          (is_had c.args.reserved.now c.meet_texts.new.met.ids) c.in_ok-own.own c.in_ok-used.used c.either.result (own_apart (contains_text c.args.met.now.texts) (get_by_text c.args.table.now) s (own_id (Some (declared s.decl))) c.requires.path)
          (subst (λ (id : Option ℕ). Meets (One (site_name s) id) (is_had c.args.reserved.now c.args.met.now.ids) (is_had c.args.reserved.now c.meet_optional.new.ids) c.in_ok-own.own) c.own_id.ensures (c.in_ok-own.ensures (site_name s)))
          (subst (λ (xs : List (List ℕ)). Meets (Fresh (contains_text c.args.met.now.texts) (get_by_text c.args.table.now) xs) (is_had c.args.reserved.now c.meet_optional.new.ids) (is_had c.args.reserved.now c.meet_texts.new.met.ids) c.in_ok-used.used)
          (ap texts_in c.as_slice.ensures.value ∙ c.in_ok-texts.ensures) c.in_ok-used.ensures.told)
          c.either.ensures;
      texts = subst (λ (xs : List (List ℕ)). AddsTexts xs (contains_text c.args.met.now.texts) (contains_text c.meet_texts.new.met.texts)) (ap texts_in c.as_slice.ensures.value ∙ c.in_ok-texts.ensures) c.in_ok-used.ensures.texts;
    }
