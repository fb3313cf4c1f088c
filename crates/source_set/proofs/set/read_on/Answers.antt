use Rattle.std.proofs.Common.{◌≡◌, ◌∙◌, ◌-◌, ◌<◌, ◌≤◌, List, ℕ, [], ◌∷◌, ◌++◌, Some, Ok, Err, refl, sym, ap, subst, map, string_bytes, length, slice_get, arith}
use Rattle.std.proofs.lemmas.List.{length-map, length-append}
use Rattle.std.proofs.lemmas.Result.{err_from_is_err_and}
use Rattle.midl_tree.specs.Views.{source_view}
use Rattle.source_set.specs.declared.source.Source.{Source}
use Rattle.source_set.specs.Found.{with_names, first_names, once}
use Rattle.source_set.specs.Imports.{imported}
use Rattle.source_set.specs.Reads.{read_of, sources_of, sources_in}
use Rattle.source_set.specs.Stops.{StopIs}
use Rattle.source_set.specs.Turns.{Turn}
use Rattle.source_set.proofs.LoopLemmas.{State, start, complete, more, comes, limit_is, at_place}
use Rattle.source_set.proofs.SourceLemmas.{length-sources_of, sources_of-snoc}
use Rattle.source_set.proofs.TurnLemmas.{one_too_many, stops}
use Rattle.source_set.proofs.set.read_on.Goals as goal

pub more-init : goal.more-init
more-init g c =
    let none : sources_in c.args.set.now ≡ [] = ap (λ ts. sources_of ts c.args.set.now.files.items) c.requires.texts ∙ ap (sources_of []) c.requires.files in
    record {
      state = λ words first.
          subst (λ t. State words (g.S.Store.held c.args.store.now) c.args.names.now t 16777216) (sym none) (start words (g.S.Store.held c.args.store.now) c.args.names.now first);
      paired = ap length c.requires.texts ∙ sym (ap length c.requires.files);
      kept = refl;
      later = omega arith;
    }

pub returns-then-number-ge-MOST_FILES-clause-stopped : goal.returns-then-number-ge-MOST_FILES-clause-stopped
returns-then-number-ge-MOST_FILES-clause-stopped g c = λ words first.
    let sources : List Source = sources_in c.more.set in
    let size : length sources ≡ length c.more.set.files.items = length-sources_of c.more.set.texts.items c.more.set.files.items c.more.invariant.paired in
    let name : List ℕ = string_bytes c.in_ok-name.name in
    let at : slice_get c.more.names (length sources) ≡ Some name =
    at_place c.more.names c.len.result (length sources) c.in-Some.name.now name c.in-Some.ensures (c.len.ensures ∙ c.more.set.files.ok.0 ∙ sym size)
    c.in_ok-name.ensures.ok in
    let many : 256 ≤ length (map read_of sources) =
    omega (arith, c.if-number-ge-MOST_FILES.true, c.len-number.ensures, c.more.set.files.ok.0, size, length-map sources read_of) in
    one_too_many words (g.S.Store.held c.args.store.now) (map read_of sources) name
    (comes words (g.S.Store.held c.args.store.now) c.more.names sources c.more.left (c.more.invariant.state words first) name at)
    many

pub returns-in_err-source-clause-stopped : goal.returns-in_err-source-clause-stopped
returns-in_err-source-clause-stopped g c =
    let p = err_from_is_err_and c.from_residual-in_err-source.result c.from_residual-in_err-source.ensures.1 in
    let sources : List Source = sources_in c.more.set in
    let size : length sources ≡ length c.more.set.files.items = length-sources_of c.more.set.texts.items c.more.set.files.items c.more.invariant.paired in
    let name : List ℕ = string_bytes c.in_ok-name.name in
    let at : slice_get c.more.names (length sources) ≡ Some name =
    at_place c.more.names c.len.result (length sources) c.in-Some.name.now name c.in-Some.ensures (c.len.ensures ∙ c.more.set.files.ok.0 ∙ sym size)
    c.in_ok-name.ensures.ok in
    let few : length (map read_of sources) < 256 =
    omega (arith, c.if-number-ge-MOST_FILES.false, c.len-number.ensures, c.more.set.files.ok.0, size, length-map sources read_of) in
    let turn : Turn (g.S.Store.held c.args.store.now) c.len-number.result c.min.result name (Err c.in_err-source.field-0.0) =
    subst (λ h. Turn h c.len-number.result c.min.result name (Err c.in_err-source.field-0.0)) c.more.invariant.kept c.in_err-source.ensures.turn in
    let is : (words : List (List ℕ)) → c.args.names.now ≡ first_names (once words) → StopIs words (g.S.Store.held c.args.store.now) c.in_err-source.field-0.0 =
    λ words first.
    stops words (g.S.Store.held c.args.store.now) (map read_of sources) name c.len-number.result c.min.result
    c.in_err-source.field-0.0
    (comes words (g.S.Store.held c.args.store.now) c.more.names sources c.more.left (c.more.invariant.state words first) name at)
    few (c.len-number.ensures ∙ c.more.set.files.ok.0 ∙ sym size ∙ sym (length-map sources read_of))
    (c.min.ensures ∙ limit_is words (g.S.Store.held c.args.store.now) c.more.names sources c.more.left (c.more.invariant.state words first))
    turn in
    rw (p.1, p.2) is

pub more-preserved : goal.more-preserved
more-preserved g c =
    let sources : List Source = sources_in c.more.set in
    let size : length sources ≡ length c.more.set.files.items = length-sources_of c.more.set.texts.items c.more.set.files.items c.more.invariant.paired in
    let name : List ℕ = string_bytes c.in_ok-name.name in
    let at : slice_get c.more.names (length sources) ≡ Some name =
    at_place c.more.names c.len.result (length sources) c.in-Some.name.now name c.in-Some.ensures (c.len.ensures ∙ c.more.set.files.ok.0 ∙ sym size)
    c.in_ok-name.ensures.ok in
    let few : length sources < 256 = omega (arith, c.if-number-ge-MOST_FILES.false, c.len-number.ensures, c.more.set.files.ok.0, size) in
    let turn : Turn (g.S.Store.held c.args.store.now) c.len-number.result c.min.result name (Ok c.in_ok-source.source) =
    subst (λ h. Turn h c.len-number.result c.min.result name (Ok c.in_ok-source.source)) c.more.invariant.kept c.in_ok-source.ensures.turn in
    let added : c.add_imports.new.names ≡ first_names (with_names c.more.names (imported (string_bytes c.in_ok-source.source.text.name) (source_view c.in_ok-source.source.file))) =
    c.in_ok-add_imports.ensures
    ∙ ap (λ m. first_names (with_names c.more.names (imported m (source_view c.in_ok-source.source.file)))) c.as_str.ensures.value in
    let grown : sources_in c.add.new.self ≡ sources ++ c.in_ok-source.source ∷ [] =
    ap (λ ts. sources_of ts c.add.new.self.files.items) c.in_ok-add.ensures.texts
    ∙ ap (sources_of (c.more.set.texts.items ++ c.in_ok-source.source.text ∷ [])) c.in_ok-add.ensures.files
    ∙ sources_of-snoc c.more.set.texts.items c.more.set.files.items c.in_ok-source.source c.more.invariant.paired in
    record {
      state = λ words first.
          let next = more words (g.S.Store.held c.args.store.now) c.more.names sources c.more.left (c.more.invariant.state words first)
          c.add_imports.new.names c.in_ok-source.source c.len-number.result c.min.result name at few (c.len-number.ensures ∙ c.more.set.files.ok.0 ∙ sym size) c.min.ensures turn added in
          subst (λ n. State words (g.S.Store.held c.args.store.now) c.add_imports.new.names (sources_in c.add.new.self) (c.more.left - n))
          (sym (c.len-in-Some.ensures ∙ c.in_ok-source.source.text.bytes.ok.0))
          (subst (λ t. State words (g.S.Store.held c.args.store.now) c.add_imports.new.names t (c.more.left - length c.in_ok-source.source.text.bytes.items))
          (sym grown) next);
      paired = omega (
        arith,
        c.more.invariant.paired,
        ap length c.in_ok-add.ensures.texts,
        length-append c.more.set.texts.items (c.in_ok-source.source.text ∷ []),
        ap length c.in_ok-add.ensures.files,
        length-append c.more.set.files.items (c.in_ok-source.source.file ∷ []),
      );
      kept = c.in_ok-source.ensures.kept ∙ c.more.invariant.kept;
      later = omega (arith, c.in_ok-source.ensures.later, c.more.invariant.later);
    }

pub returns-clause-ok : goal.returns-clause-ok
returns-clause-ok g c = λ words first.
    let sources : List Source = sources_in c.more.set in
    let size : length sources ≡ length c.more.set.files.items = length-sources_of c.more.set.texts.items c.more.set.files.items c.more.invariant.paired in
    complete words (g.S.Store.held c.args.store.now) c.more.names sources c.more.left (c.more.invariant.state words first)
    (sym (c.in_default.ensures ∙ ap (slice_get c.more.names) (c.len.ensures ∙ c.more.set.files.ok.0 ∙ sym size)))
