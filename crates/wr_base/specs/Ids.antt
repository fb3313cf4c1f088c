-- Ids by the texts of what has them.
use Rattle.std.specs.Prelude.{◌≡◌, ℕ, List, length}
use Rattle.std.specs.List.{AllAdjacentBelow}
use Rattle.std.specs.Ordering.{nat_cmp}
use Rattle.std.specs.Cmp.Lexicographic.{slice_cmp}
use Rattle.std.specs.declared.cmp.Ordering.TheVariants.{Less}
use Rattle.wr_base.specs.declared.ids.UseId.{UseId}

-- the text of what has the id
abbrev pub id_text : UseId → List ℕ
id_text use_ = use_.text

-- one text stands before another by bytes
abbrev pub IdPrecedes : UseId → UseId → Type 0
IdPrecedes a b = slice_cmp nat_cmp (id_text a) (id_text b) ≡ Less

-- in the order of texts by bytes, each text once
abbrev pub IsListing : List UseId → Type 0
IsListing ids = AllAdjacentBelow IdPrecedes ids (length ids)
