-- No declaration in the tree of a file has the word Guid as its name.
use Rattle.std.proofs.Common.{◌≡◌, ◌≢◌, ℕ, zero, suc, true, false, List, [], ◌∷◌, ◌++◌, map, inl, inr, length, codes, get_or, refl, sym, ap, subst, ◌∙◌, arith}
use Rattle.std.specs.List.{All}
use Rattle.std.proofs.lemmas.List.Elements.{All-nil, All-cons, All-head, All-tail, All-map}
use Rattle.grammar.specs.Productions.{has, Then, Many, Either}
use Rattle.wr_base.specs.Words.{base_of_word}
use Rattle.midl_lex.specs.Pieces.{Piece}
use Rattle.midl_lex.specs.declared.token.TokenKind.{TokenKind}
use Rattle.midl_lex.specs.declared.token.TokenKind.TheVariants.{Word, Number, Guid, Text, Mark}
use Rattle.midl_tree.specs.Kinds.{number_of, own_names}
use Rattle.midl_tree.specs.Symbols.{kind_of}
use Rattle.midl_tree.specs.Trees.{TypeTree, EnumTree, StructTree, DelegateTree, InterfaceTree, ClassTree, DeclTree, ItemTree, space, declared, ItemTrees, no_items, item_and, items_of, SourceTree}
use Rattle.midl_tree.specs.declared.terminal.Terminal.{Terminal}
use Rattle.midl_words.specs.Tokens.{IsOwnName}
use Rattle.midl_words.specs.Words.{kind_of_word, kind_by, text_by, terminal_of}
use Rattle.midl_parse.specs.Attributes.{IsAttribute}
use Rattle.midl_parse.specs.Classes.{IsClass}
use Rattle.midl_parse.specs.Enums.{IsEnum}
use Rattle.midl_parse.specs.Files.{IsSource}
use Rattle.midl_parse.specs.Items.{IsDecl, IsDeclared, SpaceWith, IsItems}
use Rattle.midl_parse.specs.Members.{IsInterface}
use Rattle.midl_parse.specs.Signatures.{IsDelegate}
use Rattle.midl_parse.specs.Structs.{IsStruct}
use Rattle.midl_parse.specs.Types.{IsBase, IsArguments}
use Rattle.midl_names.specs.Items.{own_name}
use Rattle.declared_names.specs.Worded.{IsWorded}

-- ---- lists

split_all : {X : Type 0} (P : X → Type 0) (xs ys : List X) → All P (xs ++ ys) → All P xs × All P ys
split_all P [] ys h = (All-nil P, h)
split_all P (x ∷ xs) ys h = let s = split_all P xs ys (All-tail P x (xs ++ ys) h) in (All-cons P x xs (All-head P x (xs ++ ys) h) s.0, s.1)

-- ---- tokens

-- where the token may be the name of a declared type its text isn't Guid
abbrev Free : Terminal → Type 0
Free t = has own_names (kind_of t) ≡ true → t.text ≢ codes "Guid"

word_kind : has own_names (number_of (kind_of_word (codes "Guid"))) ≡ false
unfolding base_of_word
word_kind = refl

kind_free : (kind : TokenKind) (text : List ℕ) → has own_names (number_of (kind_by kind text)) ≡ true → text_by kind text ≢ codes "Guid"
kind_free Word text h = λ e. absurd (clash (sym (ap (λ t. has own_names (number_of (kind_of_word t))) e ∙ word_kind) ∙ h))
  where
    clash : false ≡ true → ⊥
    clash e = cc
kind_free Number text h = absurd cc
kind_free Guid text h = absurd cc
kind_free Text text h = absurd cc
kind_free Mark text h = λ e. absurd (omega (arith, ap length e))

pieces_free : (pieces : List Piece) → All Free (map terminal_of pieces)
pieces_free pieces = All-map Free terminal_of pieces (λ k d l. kind_free (get_or pieces k d).kind (get_or pieces k d).text)

front_free : {A B : Type 0} (P : List Terminal → A → Type 0) (Q : A → List Terminal → B → Type 0) (ts : List Terminal) (y : B) → All Free ts → (h : Then P Q ts y) → All Free h.front
front_free P Q ts y f h = (split_all Free h.front h.back (subst (All Free) h.parts f)).0

back_free : {A B : Type 0} (P : List Terminal → A → Type 0) (Q : A → List Terminal → B → Type 0) (ts : List Terminal) (y : B) → All Free ts → (h : Then P Q ts y) → All Free h.back
back_free P Q ts y f h = (split_all Free h.front h.back (subst (All Free) h.parts f)).1

own_free : (ts : List Terminal) (t : Terminal) → All Free ts → IsOwnName ts t → t.text ≢ codes "Guid"
own_free ts t f h = All-head Free t [] (subst (All Free) h.alone f) h.fits

-- each of many
each_free : {A : Type 0} (Q : A → Type 0) (P : List Terminal → A → Type 0) → ((ts : List Terminal) (x : A) → All Free ts → P ts x → Q x) → (ts : List Terminal) (xs : List A) → All Free ts → Many P ts xs → All Q xs
each_free Q P each ts [] f h = All-nil Q
each_free Q P each ts (x ∷ xs) f h =
    let parts = split_all Free h.front h.back (subst (All Free) h.parts f) in
    All-cons Q x xs (each h.front x parts.0 h.first) (each_free Q P each h.back xs parts.1 h.second)

-- ---- declarations

abbrev pub OwnDecl : DeclTree → Type 0
OwnDecl t = (own_name t).text ≢ codes "Guid"

enum_own : (ts : List Terminal) (e : EnumTree) → All Free ts → IsEnum ts e → e.name.text ≢ codes "Guid"
enum_own ts e f h =
    let n = h.second in
    subst (λ (e : EnumTree). e.name.text ≢ codes "Guid") (sym n.second.second.second.second.second.value) (own_free n.front n.value (front_free _ _ h.back e (back_free _ _ ts e f h) n) n.first)

module _ (G : List Terminal → List TypeTree → Type 0) where
  struct_own : (ts : List Terminal) (s : StructTree) → All Free ts → IsStruct IsBase G ts s → s.name.text ≢ codes "Guid"
  struct_own ts s f h =
      let n = h.second in
      subst (λ (s : StructTree). s.name.text ≢ codes "Guid") (sym n.second.second.second.second.second.value) (own_free n.front n.value (front_free _ _ h.back s (back_free _ _ ts s f h) n) n.first)

  delegate_own : (ts : List Terminal) (d : DelegateTree) → All Free ts → IsDelegate IsBase G ts d → d.name.text ≢ codes "Guid"
  delegate_own ts d f h =
      let n = h.second.second in
      subst (λ (d : DelegateTree). d.name.text ≢ codes "Guid") (sym n.second.second.value)
      (own_free n.front n.value (front_free _ _ h.second.back d (back_free _ _ h.back d (back_free _ _ ts d f h) h.second) n) n.first)

  interface_own : (ts : List Terminal) (i : InterfaceTree) → All Free ts → IsInterface IsBase G ts i → i.name.text ≢ codes "Guid"
  interface_own ts i f h =
      let n = h.second in
      subst (λ (i : InterfaceTree). i.name.text ≢ codes "Guid") (sym n.second.second.second.value) (own_free n.front n.value (front_free _ _ h.back i (back_free _ _ ts i f h) n) n.first)

  class_own : (ts : List Terminal) (c : ClassTree) → All Free ts → IsClass IsBase G ts c → c.name.text ≢ codes "Guid"
  class_own ts c f h =
      let n = h.second.second in
      subst (λ (c : ClassTree). c.name.text ≢ codes "Guid") (sym n.second.second.second.value)
      (own_free n.front n.value (front_free _ _ h.second.back c (back_free _ _ h.back c (back_free _ _ ts c f h) h.second) n) n.first)

  decl_own : (ts : List Terminal) (t : DeclTree) → All Free ts → IsDecl IsBase G ts t → OwnDecl t
  decl_own ts t f (inl h) = subst OwnDecl (sym h.second.value) (enum_own h.front h.value (front_free _ _ ts t f h) h.first)
  decl_own ts t f (inr (inl h)) = subst OwnDecl (sym h.second.value) (struct_own h.front h.value (front_free _ _ ts t f h) h.first)
  decl_own ts t f (inr (inr (inl h))) = subst OwnDecl (sym h.second.value) (delegate_own h.front h.value (front_free _ _ ts t f h) h.first)
  decl_own ts t f (inr (inr (inr (inl h)))) = subst OwnDecl (sym h.second.value) (interface_own h.front h.value (front_free _ _ ts t f h) h.first)
  decl_own ts t f (inr (inr (inr (inr h)))) = subst OwnDecl (sym h.second.value) (class_own h.front h.value (front_free _ _ ts t f h) h.first)

-- ---- namespaces and files

abbrev mutual
  pub OwnItem : ItemTree → Type 0
  OwnItem (space name items) = OwnItems items
  OwnItem (declared groups tree) = OwnDecl tree

  pub OwnItems : ItemTrees → Type 0
  OwnItems no_items = Unit {0}
  OwnItems (item_and i is) = OwnItem i × OwnItems is

declared_own : (G : List Terminal → List TypeTree → Type 0) (ts : List Terminal) (t : ItemTree) → All Free ts → IsDeclared IsAttribute IsBase G ts t → OwnItem t
declared_own G ts t f h =
    let d = h.second in
    subst OwnItem (sym d.second.value) (decl_own G d.front d.value (front_free _ _ h.back t (back_free _ _ ts t f h) d) d.first)

list_own : (is : List ItemTree) → All OwnItem is → OwnItems (items_of is)
list_own [] h = tt
list_own (i ∷ is) h = (All-head OwnItem i is h, list_own is (All-tail OwnItem i is h))

space_own : (P : List Terminal → List ItemTree → Type 0) → ((ts : List Terminal) (is : List ItemTree) → All Free ts → P ts is → All OwnItem is)
    → (ts : List Terminal) (t : ItemTree) → All Free ts → SpaceWith P ts t → OwnItem t
space_own P each ts t f h =
    let i = h.second.second.second in
    let free : All Free i.front = front_free _ _ h.second.second.back t (back_free _ _ h.second.back t (back_free _ _ h.back t (back_free _ _ ts t f h) h.second) h.second.second) i in
    subst OwnItem (sym i.second.second.second.value) (list_own i.value (each i.front i.value free i.first))

either_own : (S D : List Terminal → ItemTree → Type 0) → ((ts : List Terminal) (t : ItemTree) → All Free ts → S ts t → OwnItem t) → ((ts : List Terminal) (t : ItemTree) → All Free ts → D ts t → OwnItem t)
    → (ts : List Terminal) (t : ItemTree) → All Free ts → Either S D ts t → OwnItem t
either_own S D one other ts t f (inl h) = one ts t f h
either_own S D one other ts t f (inr h) = other ts t f h

items_own : (D : List Terminal → ItemTree → Type 0) → ((ts : List Terminal) (t : ItemTree) → All Free ts → D ts t → OwnItem t)
    → (d : ℕ) (ts : List Terminal) (is : List ItemTree) → All Free ts → IsItems D d ts is → All OwnItem is
items_own D each zero ts is f h = each_free OwnItem D each ts is f h
items_own D each (suc d) ts is f h =
    each_free OwnItem (Either (SpaceWith (IsItems D d)) D) (either_own (SpaceWith (IsItems D d)) D (space_own (IsItems D d) (items_own D each d)) each) ts is f h

abbrev OwnSource : SourceTree → Type 0
OwnSource s = All OwnItem s.spaces

abbrev Declared : List Terminal → ItemTree → Type 0
Declared = IsDeclared IsAttribute IsBase (IsArguments IsBase 15)

source_own : (ts : List Terminal) (s : SourceTree) → All Free ts → IsSource ts s → OwnSource s
source_own ts s f h =
    let m = h.second in
    subst OwnSource (sym m.second.value)
    (each_free OwnItem (SpaceWith (IsItems Declared 15)) (space_own (IsItems Declared 15) (items_own Declared (declared_own (IsArguments IsBase 15)) 15)) m.front m.value
    (front_free _ _ h.back s (back_free _ _ ts s f h) m) m.first)

pub worded_own : (s : SourceTree) → IsWorded s → All OwnItem s.spaces
worded_own s h = source_own (map terminal_of h.pieces) s (pieces_free h.pieces) h.spells
