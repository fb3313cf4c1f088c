use Rattle.std.proofs.Common.{ℕ, ◌-◌, ◌∙◌, Ok, List, take, drop, ap, sym, subst, arith}
use Rattle.std.specs.Str.{IsUtf8}
use Rattle.md_heaps.specs.Reading.{text_at}
use Rattle.strings_heap.proofs.ReadLaws.{text_at-some}
use Rattle.strings_heap.proofs.heap.StringsHeap.at.Goals as goal

pub text_between-requires-clause-within : goal.text_between-requires-clause-within
text_between-requires-clause-within c =
    let text = text_at-some c.self.inside.bytes.now c.args.index (omega arith) (sym c.is_text.ensures ∙ c.if-not-is_text.false) in
    omega (arith, c.end_of-end.ensures, text.within)

pub text_between-requires-clause-utf8 : goal.text_between-requires-clause-utf8
text_between-requires-clause-utf8 c =
    let text = text_at-some c.self.inside.bytes.now c.args.index (omega arith) (sym c.is_text.ensures ∙ c.if-not-is_text.false) in
    subst (λ (n : ℕ). IsUtf8 (take (n - c.args.index) (drop c.args.index c.self.inside.bytes.now))) (sym c.end_of-end.ensures) text.utf8

pub returns : goal.returns
returns c =
    let text = text_at-some c.self.inside.bytes.now c.args.index (omega arith) (sym c.is_text.ensures ∙ c.if-not-is_text.false) in
    record {
      exact = ap (λ (x : List ℕ). text_at x c.args.index) (sym c.self.view_is)
          ∙ text.is
          ∙ ap (λ (x : List ℕ). Ok x) (ap (λ (n : ℕ). take (n - c.args.index) (drop c.args.index c.self.inside.bytes.now)) (sym c.end_of-end.ensures) ∙ sym c.text_between.ensures);
    }
