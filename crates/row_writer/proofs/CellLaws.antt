-- Numbers say what their cells said, also once the heaps have grown.
use Rattle.std.proofs.Common.{◌≡◌, ℕ, zero, suc, ◌+◌, ◌*◌, ◌^◌, ◌<◌, ◌≤◌, true, ltb, List, [], ◌∷◌, ◌++◌, length, take, map, get_or, Option, Some, None, Result, Ok, Err, refl, sym, ap, ◌∙◌, arith, lit≤}
use Rattle.std.specs.Prelude.{◌==◌, is_some, option_map, unwrap_or, position, IfSome}
use Rattle.std.specs.List.{list_all}
use Rattle.std.proofs.lemmas.Bool.{and_parts, eqb-true, eq-eqb, ltb-true, lt-ltb}
use Rattle.md_heaps.specs.Blobs.{BlobHere}
use Rattle.md_heaps.specs.Heaps.{Heap, index_of, EachStands, Keeps}
use Rattle.md_heaps.specs.Reading.{text_at, blob_at}
use Rattle.md_heaps.proofs.ReadLaws.{text_reads, text_stands, blob_here_reads}
use Rattle.md_heaps.proofs.TextLaws.{text_grows}
use Rattle.md_schema.specs.declared.table.Table.{Table}
use Rattle.md_schema.specs.declared.table.Table.TheVariants as tables
use Rattle.md_schema.specs.declared.column.Column.{Column}
use Rattle.md_schema.specs.declared.column.Column.TheVariants.{One, Two, Four, Texts, Guids, Blobs, Index, Coded}
use Rattle.md_schema.specs.declared.column.CodedIndex.{CodedIndex}
use Rattle.md_schema.specs.declared.column.CodedIndex.TheVariants as coded
use Rattle.md_schema.specs.declared.faults.ImageFault.{ImageFault}
use Rattle.md_schema.specs.Codes.{target_of, is_table}
use Rattle.md_schema.specs.Schema.{all_tables, place_of, choices_of, bits_of, columns_of}
use Rattle.md_schema.proofs.CodesLemmas.{encoded}
use Rattle.md_schema.proofs.TablesLemmas.{place_is}
use Rattle.winmd_rows.specs.Indices as indices
use Rattle.winmd_rows.specs.Values.{Value}
use Rattle.winmd_rows.specs.Values as values
use Rattle.row_writer.specs.declared.cell.Cell.{Cell}
use Rattle.row_writer.specs.Known.{found, target, value_at, values_at, is_at, text_known, blob_known, cell_known, row_known, all_known, rows_seen, Says}
use Rattle.row_writer.specs.Lines.{cells_fit, takes_texts, takes_blobs, takes_rows, cell_fits, value_of}
use Rattle.row_writer.proofs.HeapLaws.{more, bytes_go_on}

-- ---- an index to a row

choices_low : (c : CodedIndex) → length (choices_of c) ≤ 2 ^ bits_of c
choices_low coded.TypeDefOrRef = lit≤ tt
choices_low coded.HasConstant = lit≤ tt
choices_low coded.HasCustomAttribute = lit≤ tt
choices_low coded.HasFieldMarshal = lit≤ tt
choices_low coded.HasDeclSecurity = lit≤ tt
choices_low coded.MemberRefParent = lit≤ tt
choices_low coded.HasSemantics = lit≤ tt
choices_low coded.MethodDefOrRef = lit≤ tt
choices_low coded.MemberForwarded = lit≤ tt
choices_low coded.Implementation = lit≤ tt
choices_low coded.CustomAttributeType = lit≤ tt
choices_low coded.ResolutionScope = lit≤ tt
choices_low coded.TypeOrMethodDef = lit≤ tt

pub same_place : (t u : Table) → (place_of t == place_of u) ≡ true → t ≡ u
same_place t u h = sym (place_is t) ∙ ap (λ (n : ℕ). get_or all_tables n tables.Module) (eqb-true (place_of t) (place_of u) h) ∙ place_is u

pub is_index : (o : Option ℕ) (n : ℕ) → is_at o n ≡ true → o ≡ Some n
is_index None n h = absurd cc
is_index (Some m) n h = ap (λ (k : ℕ). Some k) (eqb-true m n h)

is_there : (o : Option ℕ) (n : ℕ) → o ≡ Some n → is_at o n ≡ true
is_there o n e = ap (λ (x : Option ℕ). is_at x n) e ∙ eq-eqb n n refl

code_says : (c : CodedIndex) (table : Table) (n : ℕ) (p : Option ℕ) → is_some (option_map (λ tag. 0 * 2 ^ bits_of c + tag) p) ≡ true
    → IfSome (option_map (λ tag. n * 2 ^ bits_of c + tag) p) (λ raw. target_of (bits_of c) (choices_of c) raw ≡ Some (table, n))
    → (target (target_of (bits_of c) (choices_of c) (unwrap_or (option_map (λ tag. n * 2 ^ bits_of c + tag) p) 0)) ≡ values.To table n)
    × (is_some (target_of (bits_of c) (choices_of c) (unwrap_or (option_map (λ tag. n * 2 ^ bits_of c + tag) p) 0)) ≡ true)
code_says c table n None h e = absurd cc
code_says c table n (Some tag) h e = (ap target e, ap (λ (o : Option (Table × ℕ)). is_some o) e)

row_says : (texts blobs : Heap) (column : Column) (table : Table) (n : ℕ) → takes_rows table column ≡ true
    → (value_at texts blobs column (indices.index_of column table n) ≡ values.To table n) × (cell_known texts blobs column (indices.index_of column table n) ≡ true)
row_says texts blobs (Index other) table n h = (ap (λ (t : Table). values.To t n) (same_place other table h), refl)
row_says texts blobs (Coded c) table n h = code_says c table n (position (is_table table) (choices_of c)) h (encoded (bits_of c) (choices_of c) table n (choices_low c))
row_says texts blobs _ table n h = absurd cc

-- the number of a cell that leads to a row says so
pub row_case : (texts blobs : Heap) (column : Column) (before : Table → ℕ) (cell said : Cell) (table : Table) (n number : ℕ) → cell ≡ said → cell_fits column cell ≡ true
    → cell_fits column said ≡ takes_rows table column → value_of before said ≡ values.To table n → number ≡ indices.index_of column table n
    → (value_at texts blobs column number ≡ value_of before cell) × (cell_known texts blobs column number ≡ true)
row_case texts blobs column before cell said table n number is fits kind says e =
    let fit : takes_rows table column ≡ true = sym kind ∙ sym (ap (λ (x : Cell). cell_fits column x) is) ∙ fits in
    let r = row_says texts blobs column table n fit in
    (ap (value_at texts blobs column) e ∙ r.0 ∙ sym (ap (λ (x : Cell). value_of before x) is ∙ says), ap (cell_known texts blobs column) e ∙ r.1)

-- the number of a text, and that of a blob
pub text_case : (texts blobs : Heap) (column : Column) (text : List ℕ) (n : ℕ) → takes_texts column ≡ true → text_at texts.bytes n ≡ Ok text → index_of texts text ≡ Some n
    → (value_at texts blobs column n ≡ values.Text text) × (cell_known texts blobs column n ≡ true)
text_case texts blobs Texts text n h read known = (ap (λ (x : Result (List ℕ) ImageFault). values.Text (found x)) read, ap (text_known texts n) read ∙ is_there (index_of texts text) n known)
text_case texts blobs _ text n h read known = absurd cc

pub blob_case : (texts blobs : Heap) (column : Column) (blob : List ℕ) (n : ℕ) → takes_blobs column ≡ true → length blob < 2 ^ 29 → blob_at blobs.bytes n ≡ Ok blob → index_of blobs blob ≡ Some n
    → (value_at texts blobs column n ≡ values.Blob blob) × (cell_known texts blobs column n ≡ true)
blob_case texts blobs Blobs blob n h small read known =
    (ap (λ (x : Result (List ℕ) ImageFault). values.Blob (found x)) read, ap (blob_known blobs n) read ∙ rw (is_there (index_of blobs blob) n known) (lt-ltb (length blob) (2 ^ 29) small))
blob_case texts blobs _ blob n h small read known = absurd cc

-- ---- heaps that grow

text_grown : (old new : Heap) (n : ℕ) (r : Result (List ℕ) ImageFault) → Keeps old new → text_at old.bytes n ≡ r → text_known old n r ≡ true → (text_at new.bytes n ≡ r) × (text_known new n r ≡ true)
text_grown old new n (Err fault) g e h = absurd cc
text_grown old new n (Ok text) g e h =
    let s = text_stands old.bytes n text e in (
      ap (λ (b : List ℕ). text_at b n) (bytes_go_on old new g) ∙ text_reads (old.bytes ++ more old new) n text (text_grows old.bytes (more old new) text n s.0) s.1,
      is_there (index_of new text) n (g.entries text n (is_index (index_of old text) n h)),
    )

blob_grown : (old new : Heap) (n : ℕ) (r : Result (List ℕ) ImageFault) → Keeps old new → EachStands BlobHere new → blob_at old.bytes n ≡ r → blob_known old n r ≡ true → (blob_at new.bytes n ≡ r) × (blob_known new n r ≡ true)
blob_grown old new n (Err fault) g each e h = absurd cc
blob_grown old new n (Ok blob) g each e h =
    let both = and_parts (is_at (index_of old blob) n) (ltb (length blob) (2 ^ 29)) h in
    let here = g.entries blob n (is_index (index_of old blob) n both.0) in
    (blob_here_reads new.bytes n blob (ltb-true _ _ both.1) (each blob n here), rw (is_there (index_of new blob) n here) both.1)

pub cell_grown : (texts blobs texts2 blobs2 : Heap) (column : Column) (n : ℕ) → Keeps texts texts2 → Keeps blobs blobs2 → EachStands BlobHere blobs2 → cell_known texts blobs column n ≡ true
    → (value_at texts2 blobs2 column n ≡ value_at texts blobs column n) × (cell_known texts2 blobs2 column n ≡ true)
cell_grown texts blobs texts2 blobs2 Texts n gt gb each h =
    let r = text_grown texts texts2 n (text_at texts.bytes n) gt refl h in
    (ap (λ (x : Result (List ℕ) ImageFault). values.Text (found x)) r.0, ap (text_known texts2 n) r.0 ∙ r.1)
cell_grown texts blobs texts2 blobs2 Blobs n gt gb each h =
    let r = blob_grown blobs blobs2 n (blob_at blobs.bytes n) gb each refl h in
    (ap (λ (x : Result (List ℕ) ImageFault). values.Blob (found x)) r.0, ap (blob_known blobs2 n) r.0 ∙ r.1)
cell_grown texts blobs texts2 blobs2 One n gt gb each h = (refl, refl)
cell_grown texts blobs texts2 blobs2 Two n gt gb each h = (refl, refl)
cell_grown texts blobs texts2 blobs2 Four n gt gb each h = (refl, refl)
cell_grown texts blobs texts2 blobs2 Guids n gt gb each h = (refl, refl)
cell_grown texts blobs texts2 blobs2 (Index t) n gt gb each h = (refl, refl)
cell_grown texts blobs texts2 blobs2 (Coded c) n gt gb each h = (refl, h)

module _ (texts blobs texts2 blobs2 : Heap) (gt : Keeps texts texts2) (gb : Keeps blobs blobs2) (each : EachStands BlobHere blobs2) where
  pub says_grown : (columns : List Column) (ns : List ℕ) (vs : List Value) → Says texts blobs columns ns vs → Says texts2 blobs2 columns ns vs
  says_grown [] [] [] h = tt
  says_grown (c ∷ cs) (n ∷ ns) (v ∷ vs) h =
      let r = cell_grown texts blobs texts2 blobs2 c n gt gb each h.1 in
      (r.0 ∙ h.0, r.1, says_grown cs ns vs h.2)
  says_grown _ _ _ h = absurd h

  row_grown : (columns : List Column) (ns : List ℕ) → row_known texts blobs columns ns ≡ true → (values_at texts2 blobs2 columns ns ≡ values_at texts blobs columns ns) × (row_known texts2 blobs2 columns ns ≡ true)
  row_grown [] [] h = (refl, refl)
  row_grown (c ∷ cs) (n ∷ ns) h =
      let both = and_parts (cell_known texts blobs c n) (row_known texts blobs cs ns) h in
      let r = cell_grown texts blobs texts2 blobs2 c n gt gb each both.0 in
      let rest = row_grown cs ns both.1 in
      ((λ i. r.0 i ∷ rest.0 i), rw (r.1, rest.1) refl)
  row_grown _ _ h = absurd cc

  rows_grown : (columns : List Column) (rows : List (List ℕ)) → list_all (row_known texts blobs columns) rows ≡ true
      → (map (values_at texts2 blobs2 columns) rows ≡ map (values_at texts blobs columns) rows) × (list_all (row_known texts2 blobs2 columns) rows ≡ true)
  rows_grown columns [] h = (refl, refl)
  rows_grown columns (row ∷ rows) h =
      let both = and_parts (row_known texts blobs columns row) (list_all (row_known texts blobs columns) rows) h in
      let r = row_grown columns row both.0 in
      let rest = rows_grown columns rows both.1 in
      ((λ i. r.0 i ∷ rest.0 i), rw (r.1, rest.1) refl)

  -- the rows so far say what they said
  pub seen_grown : (raws : Table → List (List ℕ)) → ((t : Table) → all_known texts blobs raws t ≡ true) → (t : Table) → (rows_seen texts2 blobs2 raws t ≡ rows_seen texts blobs raws t) × (all_known texts2 blobs2 raws t ≡ true)
  seen_grown raws h t = rows_grown (columns_of t) (raws t) (h t)

-- ---- a line, cell by cell

says_more : (texts blobs : Heap) (columns : List Column) (ns : List ℕ) (vs : List Value) (i n : ℕ) (d : Column) (e : Value) → Says texts blobs (take i columns) ns (take i vs) → i < length columns → i < length vs
    → value_at texts blobs (get_or columns i d) n ≡ get_or vs i e → cell_known texts blobs (get_or columns i d) n ≡ true → Says texts blobs (take (suc i) columns) (ns ++ n ∷ []) (take (suc i) vs)
says_more texts blobs [] ns vs i n d e h lc lv says known = absurd (omega (arith, lc))
says_more texts blobs (c ∷ cs) ns [] i n d e h lc lv says known = absurd (omega (arith, lv))
says_more texts blobs (c ∷ cs) [] (v ∷ vs) zero n d e h lc lv says known = (says, known, tt)
says_more texts blobs (c ∷ cs) (x ∷ ns) (v ∷ vs) zero n d e h lc lv says known = absurd h
says_more texts blobs (c ∷ cs) [] (v ∷ vs) (suc i) n d e h lc lv says known = absurd h
says_more texts blobs (c ∷ cs) (x ∷ ns) (v ∷ vs) (suc i) n d e h lc lv says known = (h.0, h.1, says_more texts blobs cs ns vs i n d e h.2 (omega (arith, lc)) (omega (arith, lv)) says known)

pub fits_length : (columns : List Column) (cells : List Cell) → cells_fit columns cells ≡ true → length columns ≡ length cells
fits_length [] [] h = refl
fits_length (c ∷ cs) (x ∷ xs) h = ap suc (fits_length cs xs (and_parts (cell_fits c x) (cells_fit cs xs) h).1)
fits_length _ _ h = absurd cc

pub fits_at : (columns : List Column) (cells : List Cell) (i : ℕ) (d : Column) (e : Cell) → cells_fit columns cells ≡ true → i < length cells → cell_fits (get_or columns i d) (get_or cells i e) ≡ true
fits_at columns [] i d e h lt = absurd (omega (arith, lt))
fits_at [] (x ∷ xs) i d e h lt = absurd cc
fits_at (c ∷ cs) (x ∷ xs) zero d e h lt = (and_parts (cell_fits c x) (cells_fit cs xs) h).0
fits_at (c ∷ cs) (x ∷ xs) (suc i) d e h lt = fits_at cs xs i d e (and_parts (cell_fits c x) (cells_fit cs xs) h).1 (omega (arith, lt))

value_there : (f : Cell → Value) (cells : List Cell) (i : ℕ) (d : Cell) (e : Value) → i < length cells → get_or (map f cells) i e ≡ f (get_or cells i d)
value_there f [] i d e lt = absurd (omega (arith, lt))
value_there f (x ∷ xs) zero d e lt = refl
value_there f (x ∷ xs) (suc i) d e lt = value_there f xs i d e (omega (arith, lt))

length_values : (f : Cell → Value) (cells : List Cell) → length (map f cells) ≡ length cells
length_values f [] = refl
length_values f (x ∷ xs) = ap suc (length_values f xs)

-- one cell more
pub says_next : (texts blobs texts2 blobs2 : Heap) (gt : Keeps texts texts2) (gb : Keeps blobs blobs2) (each : EachStands BlobHere blobs2) (f : Cell → Value) (columns : List Column) (cells : List Cell) (ns : List ℕ) (i n : ℕ) (d : Column) (e : Cell)
    → cells_fit columns cells ≡ true → i < length cells → Says texts blobs (take i columns) ns (take i (map f cells)) → (value_at texts2 blobs2 (get_or columns i d) n ≡ f (get_or cells i e)) × (cell_known texts2 blobs2 (get_or columns i d) n ≡ true)
    → Says texts2 blobs2 (take (suc i) columns) (ns ++ n ∷ []) (take (suc i) (map f cells))
says_next texts blobs texts2 blobs2 gt gb each f columns cells ns i n d e fits lt h said =
    let many = fits_length columns cells fits in
    says_more texts2 blobs2 columns ns (map f cells) i n d (f e) (says_grown texts blobs texts2 blobs2 gt gb each (take i columns) ns (take i (map f cells)) h) (omega (arith, lt, many)) (omega (arith, lt, length_values f cells))
    (said.0 ∙ sym (value_there f cells i e (f e) lt)) said.1

-- a line that is said is seen and known
pub said_row : (texts blobs : Heap) (columns : List Column) (ns : List ℕ) (vs : List Value) → Says texts blobs columns ns vs → (values_at texts blobs columns ns ≡ vs) × (row_known texts blobs columns ns ≡ true) × (length ns ≡ length columns)
said_row texts blobs [] [] [] h = (refl, refl, refl)
said_row texts blobs (c ∷ cs) (n ∷ ns) (v ∷ vs) h =
    let rest = said_row texts blobs cs ns vs h.2 in
    ((λ i. h.0 i ∷ rest.0 i), rw (h.1, rest.1) refl, ap suc rest.2)
said_row texts blobs _ _ _ h = absurd h
