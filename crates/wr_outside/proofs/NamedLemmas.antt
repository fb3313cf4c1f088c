-- Look-up and change of named files, in an ordered map and in a finite map.
use Rattle.std.proofs.Common.{◌≡◌, ℕ, List, [], ◌∷◌, ◌++◌, Option, Some, None, Bool, true, false, cond, unwrap_or, Vec, String, BTreeMap, string_bytes, refl, sym, ap, ◌∙◌, option_map, Result, Ok, Err, OnErr}
use Rattle.std.proofs.lemmas.Map.Text.{is_eq-slice_cmp, btree_map_updates_text}
use Rattle.std.specs.declared.alloc.Global.{Global}
use Rattle.std.specs.declared.cmp.Ordering.{Ordering}
use Rattle.std.specs.declared.cmp.Ordering.TheVariants.{Less, Equal, Greater}
use Rattle.std.specs.BTreeMap.{UpdatesBy, is_at, get_by_text}
use Rattle.std.specs.Map.{lookup}
use Rattle.std.specs.Str.{bytes_eq}
use Rattle.std.specs.String.{string_cmp}
use Rattle.std.specs.Ordering.{nat_cmp, is_eq, eq_by_cmp}
use Rattle.std.specs.Cmp.Lexicographic.{slice_cmp, nat_list_cmp_total, nat_list_eq_equiv}
use Rattle.std.specs.FinMap as map
use Rattle.std.specs.FinMap.{nat_cmp-IsAntisymmetric, slice_cmp-IsAntisymmetric}
use Rattle.wr_outside.specs.Files.{Files, content_of}
use Rattle.wr_outside.specs.Named.{entries_of, files_of}

pub on_err : {T E P : Type 0} (r : Result T E) → P → OnErr r P
on_err (Ok x) p = tt
on_err (Err e) p = p

-- a name, compared to a key
abbrev name_cmp : List ℕ → String Global → Ordering
name_cmp name k = slice_cmp nat_cmp name (string_bytes k)

abbrev content_items : Option (Vec ℕ Global) → Option (List ℕ)
content_items = option_map (λ v. v.items)

find-entries_of : (name : List ℕ) (es : List (String Global × Vec ℕ Global))
    → map.find (slice_cmp nat_cmp) name (entries_of es) ≡ content_items (lookup (is_at (name_cmp name)) es)
find-entries_of name [] = refl
find-entries_of name (e ∷ es) =
    elim (is_eq (name_cmp name e.0)) as (λ b. cond b (Some e.1.items) (map.find (slice_cmp nat_cmp) name (entries_of es))
    ≡ content_items (cond b (Some e.1) (lookup (is_at (name_cmp name)) es))) [ true ↦ refl | false ↦ find-entries_of name es ]

-- a name has the same bytes in both maps
pub get-files_of : (name : List ℕ) (m : BTreeMap (String Global) (Vec ℕ Global))
    → map.get (files_of m) name ≡ content_items (get_by_text m name)
get-files_of name m = map.get-from_entries nat_list_cmp_total (entries_of m.entries) name ∙ find-entries_of name m.entries

-- what was found, as its bytes
pub get-seen : (name : List ℕ) (files : Files) (m : BTreeMap (String Global) (Vec ℕ Global)) (found : Option (Vec ℕ Global))
    → files_of m ≡ files → found ≡ get_by_text m name → content_items found ≡ map.get files name
get-seen name files m found seen is = ap content_items is ∙ sym (get-files_of name m) ∙ ap (λ f. map.get f name) seen

taken : (b : Bool) (w : Vec ℕ Global) (o : Option (Vec ℕ Global)) → content_items (cond b (Some w) o) ≡ cond b (Some w.items) (content_items o)
taken true w o = refl
taken false w o = refl

-- a new content of one name
pub files_of-updates : (name : List ℕ) (m n : BTreeMap (String Global) (Vec ℕ Global)) (w : Vec ℕ Global)
    → UpdatesBy string_cmp (name_cmp name) m n (Some w) → files_of n ≡ map.insert (files_of m) name w.items
files_of-updates name m n w h =
    map.same_map nat_list_cmp_total (slice_cmp-IsAntisymmetric nat_cmp-IsAntisymmetric) _ _
    (λ q. get-files_of q n
    ∙ ap content_items (btree_map_updates_text name m n (Some w) h q)
    ∙ taken (bytes_eq name q) w (get_by_text m q)
    ∙ ap (λ b. cond b (Some w.items) (content_items (get_by_text m q))) (nat_list_eq_equiv.symm name q ∙ sym (is_eq-slice_cmp q name))
    ∙ ap (cond (eq_by_cmp (slice_cmp nat_cmp) q name) (Some w.items)) (sym (get-files_of q m))
    ∙ sym (map.get-insert nat_list_cmp_total (files_of m) name w.items q))

equal : (r : Ordering) → is_eq r ≡ true → r ≡ Equal
equal Less e = cc
equal Equal e = refl
equal Greater e = cc

-- a file that is put where it stands
insert-held : (files : Files) (name bytes : List ℕ) → map.get files name ≡ Some bytes → map.insert files name bytes ≡ files
insert-held files name bytes held =
    map.same_map nat_list_cmp_total (slice_cmp-IsAntisymmetric nat_cmp-IsAntisymmetric) _ _
    (λ q. map.get-insert nat_list_cmp_total files name bytes q ∙ at q (eq_by_cmp (slice_cmp nat_cmp) q name) refl)
  where
    at : (q : List ℕ) (b : Bool) → eq_by_cmp (slice_cmp nat_cmp) q name ≡ b → cond b (Some bytes) (map.get files q) ≡ map.get files q
    at q true e = sym held ∙ map.get_tied nat_list_cmp_total files q name (equal _ e)
    at q false e = refl

-- a content that was written through a loan
module _ (name : List ℕ) (files : Files) (m n : BTreeMap (String Global) (Vec ℕ Global)) (old new : Vec ℕ Global) where
  pub files_of-appended : (bytes : List ℕ) → files_of m ≡ files → Some old ≡ get_by_text m name → new.items ≡ old.items ++ bytes
      → UpdatesBy string_cmp (name_cmp name) m n (Some new) → files_of n ≡ map.insert files name (content_of files name ++ bytes)
  files_of-appended bytes seen found more h =
      files_of-updates name m n new h
      ∙ ap (λ f. map.insert f name new.items) seen
      ∙ ap (map.insert files name) (more ∙ ap (λ o. unwrap_or o [] ++ bytes) (get-seen name files m (Some old) seen found))

  pub files_of-kept : files_of m ≡ files → Some old ≡ get_by_text m name → new.items ≡ old.items
      → UpdatesBy string_cmp (name_cmp name) m n (Some new) → files_of n ≡ files
  files_of-kept seen found same h =
      files_of-updates name m n new h
      ∙ ap (λ f. map.insert f name new.items) seen
      ∙ ap (map.insert files name) same
      ∙ insert-held files name old.items (sym (get-seen name files m (Some old) seen found))

-- a file that wasn't there
pub files_of-made : (name : List ℕ) (files : Files) (m n : BTreeMap (String Global) (Vec ℕ Global)) (bytes content : List ℕ)
    → files_of m ≡ files → None ≡ get_by_text m name → n ≡ m → content ≡ bytes
    → map.insert (files_of n) name content ≡ map.insert files name (content_of files name ++ bytes)
files_of-made name files m n bytes content seen found same given =
    ap (λ f. map.insert f name content) (ap files_of same ∙ seen)
    ∙ ap (map.insert files name) (given ∙ ap (λ o. unwrap_or o [] ++ bytes) (get-seen name files m None seen found))
