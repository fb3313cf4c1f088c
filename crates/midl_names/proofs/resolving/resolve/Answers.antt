use Rattle.std.proofs.Common.{refl}
use Rattle.midl_names.specs.Items.{items_of}
use Rattle.midl_names.specs.Views.{sources_of}
use Rattle.midl_names.proofs.Resolutions.{clear_of, places_of, apart_of, applied_of, only_of, refused_of, first_of}
use Rattle.midl_names.proofs.resolving.resolve.Goals as goal

pub returns-clause-clear : goal.returns-clause-clear
returns-clause-clear c =
    clear_of (sources_of c.args.files.items) (items_of (sources_of c.args.files.items)) refl c.answer_of.result
    c.answer_of.ensures.clear

pub returns-clause-places : goal.returns-clause-places
returns-clause-places c =
    places_of (sources_of c.args.files.items) (items_of (sources_of c.args.files.items)) refl c.answer_of.result
    c.answer_of.ensures.value

pub returns-clause-apart : goal.returns-clause-apart
returns-clause-apart c =
    apart_of (sources_of c.args.files.items) (items_of (sources_of c.args.files.items)) refl c.answer_of.result
    c.answer_of.ensures.clear c.answer_of.ensures.value

pub returns-clause-only : goal.returns-clause-only
returns-clause-only c =
    only_of (sources_of c.args.files.items) (items_of (sources_of c.args.files.items)) refl c.answer_of.result
    c.answer_of.ensures.value c.answer_of.ensures.refused

pub returns-clause-refused : goal.returns-clause-refused
returns-clause-refused c =
    refused_of (sources_of c.args.files.items) (items_of (sources_of c.args.files.items)) refl c.answer_of.result
    c.answer_of.ensures.refused

pub returns-clause-first : goal.returns-clause-first
returns-clause-first c =
    first_of (sources_of c.args.files.items) (items_of (sources_of c.args.files.items)) refl c.answer_of.result
    c.answer_of.ensures.clear c.answer_of.ensures.refused

pub returns-clause-applied : goal.returns-clause-applied
returns-clause-applied c =
    applied_of (sources_of c.args.files.items) (items_of (sources_of c.args.files.items)) refl c.answer_of.result
    c.answer_of.ensures.clear c.answer_of.ensures.value
