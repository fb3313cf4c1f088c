use Rattle.std.proofs.Common.{ℕ, List, Some, ap, ◌∙◌, string_bytes}
use Rattle.std.specs.Map.{update}
use Rattle.std.specs.Str.{bytes_eq}
use Rattle.std.specs.HashMap.{get_by_text}
use Rattle.std.proofs.lemmas.Map.Text.{hash_map_updates_text}
use Rattle.numbered.specs.Numbers.{number_in}
use Rattle.numbered.proofs.Puts.{text_here, text_kept, text_more, text_only}
use Rattle.numbered.proofs.numbers.add.Goals as goal

pub returns-clause-numbering : goal.returns-clause-numbering
returns-clause-numbering c = text_more (number_in c.args.numbers.now) (get_by_text c.put.new.map) c.args.numbers.now.count c.args.text.now c.requires.new c.requires.numbering
    (λ q. hash_map_updates_text (string_bytes c.in_ok-key.key) c.args.numbers.now.map c.put.new.map (Some c.args.numbers.now.count) c.in_ok-put.ensures q
    ∙ ap (λ (t : List ℕ). update bytes_eq (get_by_text c.args.numbers.now.map) t (Some c.args.numbers.now.count) q) c.in_ok-key.ensures.ok)

pub returns-clause-here : goal.returns-clause-here
returns-clause-here c = text_here (number_in c.args.numbers.now) (get_by_text c.put.new.map) c.args.numbers.now.count c.args.text.now c.requires.new c.requires.numbering
    (λ q. hash_map_updates_text (string_bytes c.in_ok-key.key) c.args.numbers.now.map c.put.new.map (Some c.args.numbers.now.count) c.in_ok-put.ensures q
    ∙ ap (λ (t : List ℕ). update bytes_eq (get_by_text c.args.numbers.now.map) t (Some c.args.numbers.now.count) q) c.in_ok-key.ensures.ok)

pub returns-clause-kept : goal.returns-clause-kept
returns-clause-kept c = text_kept (number_in c.args.numbers.now) (get_by_text c.put.new.map) c.args.numbers.now.count c.args.text.now c.requires.new c.requires.numbering
    (λ q. hash_map_updates_text (string_bytes c.in_ok-key.key) c.args.numbers.now.map c.put.new.map (Some c.args.numbers.now.count) c.in_ok-put.ensures q
    ∙ ap (λ (t : List ℕ). update bytes_eq (get_by_text c.args.numbers.now.map) t (Some c.args.numbers.now.count) q) c.in_ok-key.ensures.ok)

pub returns-clause-only : goal.returns-clause-only
returns-clause-only c = text_only (number_in c.args.numbers.now) (get_by_text c.put.new.map) c.args.numbers.now.count c.args.text.now c.requires.new c.requires.numbering
    (λ q. hash_map_updates_text (string_bytes c.in_ok-key.key) c.args.numbers.now.map c.put.new.map (Some c.args.numbers.now.count) c.in_ok-put.ensures q
    ∙ ap (λ (t : List ℕ). update bytes_eq (get_by_text c.args.numbers.now.map) t (Some c.args.numbers.now.count) q) c.in_ok-key.ensures.ok)
