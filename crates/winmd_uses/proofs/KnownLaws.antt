-- Names in a set that are also known by their hashes.
use Rattle.std.proofs.Common.{◌≡◌, ℕ, Bool, true, false, cond, List, Result, Ok, Err, OnOk, Some, refl, sym, ap, ◌∙◌, inl, inr}
use Rattle.std.specs.Prelude.{◌||◌, ◌⊎◌, OnErr, String, string_bytes}
use Rattle.std.specs.List.{list_any}
use Rattle.std.specs.Str.{bytes_eq}
use Rattle.std.specs.Cmp.Lexicographic.{bytes_decides}
use Rattle.std.specs.String.{string_cmp, string_eq}
use Rattle.std.specs.BTreeSet.{BTreeSet, Updates, contains_text}
use Rattle.std.specs.HashMap as map
use Rattle.std.specs.HashMap.{HashMap}
use Rattle.std.specs.HashSet as hash
use Rattle.std.specs.Map.{lookup}
use Rattle.std.specs.declared.alloc.Global.{Global}
use Rattle.std.specs.declared.hash.BuildHasherDefault.{BuildHasherDefault}
use Rattle.std.specs.declared.hash.FoldHasher.{FoldHasher}
use Rattle.std.proofs.lemmas.Map.Text.{hash_map_updates_text}
use Rattle.std.proofs.lemmas.Option.{same_Some}
use Rattle.sig_blobs.specs.Templates.{template}
use Rattle.winmd_uses.specs.Known.{AllFormed, AllThere, Hashed}
use Rattle.winmd_uses.proofs.TakeLaws.{either}
use Rattle.winmd_uses.proofs.TextLaws.{text_marked, text_put}

abbrev Texts : Type 0
Texts = BTreeSet (String Global)

or_true : (a : Bool) → (a || true) ≡ true
or_true true = refl
or_true false = refl

-- they stay in a set that has more
pub there_still : (old new : Texts) (text : String Global) (known : Hashed (String Global)) → Updates string_cmp old new text true → AllThere old known → AllThere new known
there_still old new text known u all = λ name e. text_put old new text u name ∙ ap (λ (b : Bool). bytes_eq name (string_bytes text) || b) (all name e) ∙ or_true (bytes_eq name (string_bytes text))

-- one that is in the set is marked
marked_there : (set : Texts) (old new : Hashed (String Global)) (text again : String Global) → string_bytes again ≡ string_bytes text → contains_text set (string_bytes text) ≡ true → hash.Updates string_eq old new again true → AllThere set old → AllThere set new
marked_there set old new text again same there u all = λ name e. go name e (either (bytes_eq name (string_bytes again)))
  where
    go : (name : List ℕ) → hash.contains_text new name ≡ true → (bytes_eq name (string_bytes again) ≡ true) ⊎ (bytes_eq name (string_bytes again) ≡ false) → contains_text set name ≡ true
    go name e (inl t) = ap (contains_text set) ((bytes_decides name (string_bytes again)).0 t ∙ same) ∙ there
    go name e (inr t) = all name (sym (text_marked old new again u name ∙ ap (λ (b : Bool). b || hash.contains_text old name) t) ∙ e)

pub there_marked : {X : Type 0} (r : Result Unit X) (set : Texts) (old new : Hashed (String Global)) (text again : String Global) → string_bytes again ≡ string_bytes text → contains_text set (string_bytes text) ≡ true → OnOk r (hash.Updates string_eq old new again true) → OnErr r (hash.IsUnchanged old new) → AllThere set old → AllThere set new
there_marked (Ok x) set old new text again same there u n all = marked_there set old new text again same there u all
there_marked (Err x) set old new text again same there u n all = λ name e. all name (sym (ap (λ (ks : List (String Global)). list_any (λ k. bytes_eq name (string_bytes k)) ks) n) ∙ e)

-- ---- templates by their parts

abbrev Counts : Type 0
Counts = HashMap (String Global) ℕ (BuildHasherDefault FoldHasher)

-- they stay in a set that has more
pub formed_still : (old new : Texts) (text : String Global) (counts : Counts) → Updates string_cmp old new text true → AllFormed old counts → AllFormed new counts
formed_still old new text counts u all = λ name number e.
    text_put old new text u (template name number) ∙ ap (λ (b : Bool). bytes_eq (template name number) (string_bytes text) || b) (all name number e) ∙ or_true (bytes_eq (template name number) (string_bytes text))

-- one that is in the set is counted
counted : (set : Texts) (old new : Counts) (text : String Global) (number : ℕ) → contains_text set (template (string_bytes text) number) ≡ true → map.Updates string_eq old new text (Some number) → AllFormed set old → AllFormed set new
counted set old new text number there u all = λ name n e. go name n (sym (hash_map_updates_text (string_bytes text) old new (Some number) u name) ∙ e) (either (bytes_eq (string_bytes text) name))
  where
    go : (name : List ℕ) (n : ℕ) → cond (bytes_eq (string_bytes text) name) (Some number) (map.get_by_text old name) ≡ Some n → (bytes_eq (string_bytes text) name ≡ true) ⊎ (bytes_eq (string_bytes text) name ≡ false) → contains_text set (template name n) ≡ true
    go name n e (inl t) =
        let same : number ≡ n = same_Some number n (rw t at e) in
        ap (λ (x : List ℕ). contains_text set (template x n)) (sym ((bytes_decides (string_bytes text) name).0 t)) ∙ ap (λ (k : ℕ). contains_text set (template (string_bytes text) k)) (sym same) ∙ there
    go name n e (inr t) = all name n (rw t at e)

pub formed_counted : {X : Type 0} (r : Result Unit X) (set : Texts) (old new : Counts) (text : String Global) (name : List ℕ) (number : ℕ) → string_bytes text ≡ name → contains_text set (template name number) ≡ true
    → OnOk r (map.Updates string_eq old new text (Some number)) → OnErr r (map.IsUnchanged old new) → AllFormed set old → AllFormed set new
formed_counted (Ok x) set old new text name number is there u n all = counted set old new text number (ap (λ (w : List ℕ). contains_text set (template w number)) is ∙ there) u all
formed_counted (Err x) set old new text name number is there u n all = λ other k e. all other k (ap (λ (es : List (String Global × ℕ)). lookup (λ key. bytes_eq other (string_bytes key)) es) (sym n) ∙ e)

pub on_ok : {X : Type 0} (r : Result Unit X) (P : Type 0) → P → OnOk r P
on_ok (Ok x) P p = p
on_ok (Err e) P p = tt

-- a text that was put is there
pub put_there : (old new : Texts) (text : String Global) → Updates string_cmp old new text true → contains_text new (string_bytes text) ≡ true
put_there old new text u = u.1
