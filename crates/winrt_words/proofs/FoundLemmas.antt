-- What a parse by a form finds.
use Rattle.std.proofs.Common.{◌≡◌, ◌∙◌, ◌<◌, ◌≤◌, ◌++◌, ℕ, zero, suc, List, [], ◌∷◌, Option, None, Some, is_some, true, false, length, codes, refl, sym, ap, subst, inl, inr, arith, slice_index, slice_index_or}
use Rattle.std.specs.List.{All}
use Rattle.std.specs.Str.{bytes_eq}
use Rattle.std.specs.Cmp.Lexicographic.{bytes_decides}
use Rattle.std.proofs.lemmas.List.Elements.{All-nil, All-cons}
use Rattle.clap.specs.Words.{AddsArg, IsParsedFrom, IsPlain, IsPlainArg, Rule, args_of, groups_of, rule_of, first_value, found_of, matched_of}
use Rattle.clap.specs.Built.{FitsChain, HasDistinctIds, TakesValue}
use Rattle.clap.specs.Facts.{unwrap_or_range}
use Rattle.clap.specs.declared.builder.arg.Arg.{Arg}
use Rattle.clap.specs.declared.builder.command.Command.{Command}
use Rattle.clap.specs.declared.builder.command.Command.TheViews.{out-Command}
use Rattle.clap.specs.declared.builder.range.ValueRange.{ValueRange}
use Rattle.clap.specs.declared.parser.matches.ArgMatches.{ArgMatches}
use Rattle.clap.proofs.CallerLemmas.{added_plain, required_in_chain, required_present, present_has_entry}
use Rattle.winrt_words.specs.Forms.{FindsBoth, files_rule, out_rule}

-- texts that begin otherwise differ
begins : (text other : List ℕ) (n m : ℕ) → slice_index text 0 ≡ n → slice_index other 0 ≡ m → text ≡ other → n ≡ m
begins text other n m a b e = sym a ∙ (ap (λ (t : List ℕ). slice_index t 0) e ∙ b)

least : (range : Option ValueRange) → range ≡ None → 1 ≤ (unwrap_or_range range).start_inclusive
least None e = omega arith
least (Some r) e = let bad : Some r ≡ None = e in cc

module _ (start writes reads : Command) (out files : Arg) (first : AddsArg start out writes) (second : AddsArg writes files reads)
    (args : args_of start ≡ []) (groups : groups_of start ≡ []) (globals : (out-Command start).has_globals ≡ false) (negates : (out-Command start).subcommand_negates_reqs ≡ false)
    (out_plain : IsPlainArg out) (out_local : out.global ≡ false) (out_is : rule_of out ≡ out_rule) (out_whole : out.val_delim ≡ None)
    (files_plain : IsPlainArg files) (files_local : files.global ≡ false) (files_is : rule_of files ≡ files_rule)
  where
    out_id : out.id.now ≡ codes "out"
    out_id = ap (λ (r : Rule). r.id) out_is

    files_id : files.id.now ≡ codes "files"
    files_id = ap (λ (r : Rule). r.id) files_is

    out_first : slice_index out.id.now 0 ≡ 111
    out_first = ap (λ (t : List ℕ). slice_index t 0) out_id

    files_first : slice_index files.id.now 0 ≡ 102
    files_first = ap (λ (t : List ℕ). slice_index t 0) files_id

    out_fits : FitsChain out
    out_fits = (
      out_plain,
      out_local,
      (λ e. let bad : 111 ≡ 0 = begins out.id.now [] 111 0 out_first refl e in absurd (omega (arith, bad))),
      (λ auto. elim auto [
        | inl h ↦ (let bad : 111 ≡ 104 = begins out.id.now (codes "help") 111 104 out_first refl h in absurd (omega (arith, bad)))
        | inr h ↦ (let bad : 111 ≡ 118 = begins out.id.now (codes "version") 111 118 out_first refl h in absurd (omega (arith, bad)))
      ]),
    )

    files_fit : FitsChain files
    files_fit = (
      files_plain,
      files_local,
      (λ e. let bad : 102 ≡ 0 = begins files.id.now [] 102 0 files_first refl e in absurd (omega (arith, bad))),
      (λ auto. elim auto [
        | inl h ↦ (let bad : 102 ≡ 104 = begins files.id.now (codes "help") 102 104 files_first refl h in absurd (omega (arith, bad)))
        | inr h ↦ (let bad : 102 ≡ 118 = begins files.id.now (codes "version") 102 118 files_first refl h in absurd (omega (arith, bad)))
      ]),
    )

    all_fit : All FitsChain (out ∷ files ∷ [])
    all_fit = All-cons FitsChain out (files ∷ []) out_fits (All-cons FitsChain files [] files_fit (All-nil FitsChain))

    apart : bytes_eq out.id.now files.id.now ≡ true → ⊥
    apart e = let bad : 111 ≡ 102 = begins out.id.now files.id.now 111 102 out_first files_first ((bytes_decides out.id.now files.id.now).0 e) in absurd (omega (arith, bad))

    apart_too : bytes_eq files.id.now out.id.now ≡ true → ⊥
    apart_too e = let bad : 102 ≡ 111 = begins files.id.now out.id.now 102 111 files_first out_first ((bytes_decides files.id.now out.id.now).0 e) in absurd (omega (arith, bad))

    distinct : HasDistinctIds (out ∷ files ∷ [])
    distinct zero zero d e j k same = refl
    distinct zero (suc zero) d e j k same = absurd (apart same)
    distinct (suc zero) zero d e j k same = absurd (apart_too same)
    distinct (suc zero) (suc zero) d e j k same = refl
    distinct (suc (suc n)) k d e low high same = absurd (omega (arith, low))
    distinct zero (suc (suc n)) d e low high same = absurd (omega (arith, high))
    distinct (suc zero) (suc (suc n)) d e low high same = absurd (omega (arith, high))

    takes_value : TakesValue out
    takes_value = (
      ap (λ (r : Rule). r.required) out_is,
      ap (λ (r : Rule). r.action) out_is,
      out_whole,
      least out.num_vals (ap (λ (r : Rule). r.range) out_is),
    )

    finds_out : (m : ArgMatches) → IsParsedFrom reads m → is_some (first_value (found_of m) (codes "out")) ≡ true
    finds_out m p = subst (λ (t : List ℕ). is_some (first_value (found_of m) t) ≡ true) out_id
        (required_in_chain start reads (out ∷ files ∷ []) 0 out m (writes, first, (reads, second, refl)) args groups globals negates all_fit distinct (omega arith) takes_value p)

    list : args_of reads ≡ first.arg ∷ second.arg ∷ []
    list = second.args ∙ ap (λ (l : List Arg). l ++ second.arg ∷ []) (first.args ∙ ap (λ (l : List Arg). l ++ first.arg ∷ []) args)

    plain_start : IsPlain start
    plain_start = (subst (All IsPlainArg) (sym args) (All-nil IsPlainArg), groups)

    plain : IsPlain reads
    plain = added_plain writes reads files second (added_plain start writes out first plain_start out_plain) files_plain

    none_global : (out-Command reads).has_globals ≡ false
    none_global = let one : (out-Command writes).has_globals ≡ false = rw (first.globals, globals, out_local) refl in rw (second.globals, one, files_local) refl

    finds_files : (m : ArgMatches) → IsParsedFrom reads m → is_some (matched_of (found_of m) (codes "files")) ≡ true
    finds_files m p =
        let elem : slice_index_or (args_of reads) 1 files ≡ second.arg = ap (λ (l : List Arg). slice_index_or l 1 files) list in
        let low : 1 < length (args_of reads) = subst (λ (l : List Arg). 1 < length l) (sym list) (omega arith) in
        let wanted : (slice_index_or (args_of reads) 1 files).required ≡ true = ap (λ (a : Arg). a.required) elem ∙ (second.rules.required ∙ ap (λ (r : Rule). r.required) files_is) in
        let id : (slice_index_or (args_of reads) 1 files).id.now ≡ codes "files" = ap (λ (a : Arg). a.id.now) elem ∙ (ap (λ x. x.now) second.rules.id ∙ files_id) in
        let present = required_present reads m p plain none_global (second.negates ∙ (first.negates ∙ negates)) 1 files low wanted in
        subst (λ (t : List ℕ). is_some (matched_of (found_of m) t) ≡ true) id (present_has_entry (found_of m) _ present)

    pub finds_both : FindsBoth reads
    finds_both m p = (finds_out m p, finds_files m p)
