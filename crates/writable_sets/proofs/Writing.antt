-- An accepted set is one that rows can state.
use Rattle.std.proofs.Common.{◌≡◌, ℕ, ◌<◌, ◌≤◌, false, true≢false, inl, inr, ◌∙◌, List, Option, Some, None, map, length, get_or, sym, ap, subst, arith}
use Rattle.std.specs.List.{All, AllByRecursion}
use Rattle.std.specs.Option.{option_or, option_map, option_and_then, is_none}
use Rattle.std.specs.Str.{bytes_eq}
use Rattle.std.specs.Cmp.Lexicographic.{bytes_decides}
use Rattle.wr_base.proofs.PartLaws.{either}
use Rattle.std.proofs.lemmas.List.Elements.{All-map, All-contains}
use Rattle.ranked.specs.First.{Clear}
use Rattle.found_table.specs.Table.{builtin}
use Rattle.sig_blobs.specs.Elements.{system_guid}
use Rattle.winmd_sets.specs.Fits.{IsName, OwnerFits, DeclFits}
use Rattle.winmd_sets.specs.Types.{sum_of, all_parts_of}
use Rattle.wr_base.specs.Declarations.{name_of, declared_as}
use Rattle.wr_base.specs.Places.{placed, plain_from}
use Rattle.wr_base.specs.Trees.{UseTree, plain, value, reference, instance, within, decl_tree}
use Rattle.wr_base.specs.declared.declaration.Declaration.{Declaration}
use Rattle.wr_rules.specs.Accepted.{IsProper, Accepted, Rules}
use Rattle.wr_rules.specs.Kinds.{declared, found, meaning_of, applied}
use Rattle.wr_rules.specs.Limits.{Limits}
use Rattle.wr_rules.specs.UseRules.{unresolved}
use Rattle.wr_rules.specs.MemberRules.{signatures_at}
use Rattle.wr_rules.specs.Sites.{Site}
use Rattle.wr_rules.specs.Uses.{Used, uses_at}
use Rattle.writable_sets.specs.Stated.{NotGuid, NoGuid, owner_of, IsOwned, IsStated}
use Rattle.writable_sets.proofs.Counts.{plain_sites, plain_site, plain_length, plain_parts, site_is, few_types, small_types}
use Rattle.writable_sets.proofs.Defaults.{has_one}
use Rattle.writable_sets.proofs.Facts.{RuleFacts, LimitFacts, rule_facts, limit_facts, broken_parts}
use Rattle.writable_sets.proofs.Fitting.{Known, not_more, by_rec, used_fit, decl_fits}
use Rattle.writable_sets.proofs.UseFits.{OwnName, short_name}

module _ (types : List Declaration) (accepted : Accepted types) (stated : All (IsStated types) types) (no_guid : NoGuid types) where
  rules : Clear (Rules types (plain_sites 0 types))
  rules = (broken_parts types (plain_from 0 types) accepted.clear).0

  limits : Clear (Limits (plain_sites 0 types))
  limits = (broken_parts types (plain_from 0 types) accepted.clear).1

  abbrev any_places : Declaration → Site
  any_places d = record { decl = d; places = placed 0 d }

  within_sites : (k : ℕ) → k < length types → k < length (plain_sites 0 types)
  within_sites k l = omega (arith, l, plain_length 0 types)

  moved : (P : Site → Type 0) (k : ℕ) (d : Declaration) (l : k < length types) → All P (plain_sites 0 types) → P (plain_site types k d)
  moved P k d l h = subst P (site_is types k (any_places d) d l) (h k (any_places d) (within_sites k l))

  rule_at : (k : ℕ) (d : Declaration) → k < length types → RuleFacts types (plain_site types k d)
  rule_at k d l = moved (RuleFacts types) k d l (rule_facts types (plain_sites 0 types) rules)

  limit_at : (k : ℕ) (d : Declaration) → k < length types → LimitFacts (plain_sites 0 types) k (plain_site types k d)
  limit_at k d l = subst (LimitFacts (plain_sites 0 types) k) (site_is types k (any_places d) d l) (limit_facts (plain_sites 0 types) limits k (any_places d) (within_sites k l))

  proper_at : (k : ℕ) (d : Declaration) → k < length types → IsProper (plain_site types k d)
  proper_at k d l = moved IsProper k d l accepted.proper

  guid_at : (k : ℕ) (d : Declaration) → k < length types → All (λ (u : Used). All NotGuid (within u.use_)) (uses_at (plain_site types k d))
  guid_at k d l = moved (λ s. All (λ (u : Used). All NotGuid (within u.use_)) (uses_at s)) k d l no_guid

  own : All OwnName types
  own k d l = record { path = (stated k d l).path; short = short_name (name_of (get_or types k d)) (limit_at k d l).short }

  owner_fits : (o : Option (List ℕ)) → IsOwned types o → OwnerFits o
  owner_fits None h = tt
  owner_fits (Some owner) (inl h) = All-contains IsName (map name_of types) owner (All-map IsName name_of types own) h
  owner_fits (Some owner) (inr h) = h

  known : (k : ℕ) (d : Declaration) → k < length types → Known (get_or types k d) (plain_site types k d).places
  known k d l = record {
    own = own k d l;
    widths = (stated k d l).widths;
    order = (stated k d l).order;
    owner = owner_fits (owner_of (get_or types k d)) (stated k d l).owner;
    places = plain_parts types k d;
    proper = proper_at k d l;
    uses = used_fit types (plain_site types k d) own (rule_at k d l) (proper_at k d l).uses (guid_at k d l);
    range = (rule_at k d l).range;
    few = (limit_at k d l).members;
    params = (λ i g m. record { named = (proper_at k d l).params i g m; few = not_more 64 (length (get_or (signatures_at (plain_site types k d)) i g).part.params) ((limit_at k d l).params i g m) });
    one = has_one types own (get_or types k d) (plain_site types k d).places (rule_at k d l) (proper_at k d l).uses (stated k d l).order;
  }

  pub each_fits : AllByRecursion DeclFits (map decl_tree types)
  each_fits = by_rec DeclFits decl_tree types (λ k d l. decl_fits (get_or types k d) (plain_site types k d).places (known k d l))

pub few_accepted : (types : List Declaration) → Accepted types → length types ≤ 20000
few_accepted types accepted = few_types types (broken_parts types (plain_from 0 types) accepted.clear).1

pub small_accepted : (types : List Declaration) → Accepted types → sum_of all_parts_of (map decl_tree types) ≤ 500000
small_accepted types accepted = small_types types (broken_parts types (plain_from 0 types) accepted.clear).1

-- ---- System.Guid

is_guid : (types : List Declaration) → declared_as types system_guid ≡ None → (v : UseTree) → unresolved types v ≡ false → NotGuid v
is_guid types none (plain base) h = tt
is_guid types none (reference name) h = tt
is_guid types none (instance name arguments) h = tt
is_guid types none (value name) h = elim (either (bytes_eq name system_guid)) [
  | inl e ↦
      (let same : name ≡ system_guid = (bytes_decides name system_guid).0 e in
      let means : meaning_of types name ≡ None = ap (meaning_of types) same ∙ ap (λ o. option_or (option_map declared o) (option_map found (builtin system_guid))) none in
      absurd (true≢false (sym (ap (λ o. is_none (option_and_then (applied 0) o)) means) ∙ h)))
  | inr e ↦ e
]

-- where no declaration is called System.Guid no use is a value of it
pub guid_free : (types : List Declaration) → Accepted types → declared_as types system_guid ≡ None → NoGuid types
guid_free types accepted none k s l i u m j v q =
    is_guid types none (get_or (within (get_or (uses_at (get_or (plain_sites 0 types) k s)) i u).use_) j v)
    ((rule_facts types (plain_sites 0 types) (broken_parts types (plain_from 0 types) accepted.clear).0 k s l).resolved i u m j v q)
