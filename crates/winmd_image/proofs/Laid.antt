-- The parts of an image that are written one after the other are the image.
use Rattle.std.proofs.Common.{◌≡◌, ◌∙◌, ℕ, ◌+◌, ◌-◌, List, ◌++◌, length, Result, Ok, Err, ap, append_assoc, arith}
use Rattle.std.specs.Prelude.{OnOk}
use Rattle.md_bytes.specs.Padding.{zeros, up}
use Rattle.winmd_image.specs.Parts.{Parts}
use Rattle.winmd_image.specs.Spelled.{dos_header, file_header, optional_header, section_header, cli_header, metadata_head, metadata, image_bytes, root_head, stream_heads}
use Rattle.winmd_image.proofs.Headers.{length-metadata}

-- what stands before so many bytes of metadata
abbrev pub before_metadata : ℕ → List ℕ
before_metadata n = dos_header ++ file_header ++ optional_header (72 + n) ++ section_header (72 + n) ++ zeros 0x60 ++ cli_header n

abbrev pub streams : Parts → List ℕ
streams p = p.tables ++ p.texts ++ p.users ++ p.guids ++ p.blobs

abbrev pub section_end : ℕ → List ℕ
section_end n = zeros (up (72 + n) 0x200 - (72 + n))

all_of : (p : Parts) (out : List ℕ) → (((out ++ before_metadata (length (metadata p))) ++ metadata_head p) ++ streams p) ++ section_end (length (metadata p)) ≡ out ++ image_bytes p
unfolding metadata
all_of p out = simp append_assoc

joined : (p : Parts) (out a b c d : List ℕ) (n : ℕ) → n ≡ length (metadata p) → a ≡ out ++ before_metadata n → b ≡ a ++ metadata_head p → c ≡ b ++ streams p → d ≡ c ++ section_end n → d ≡ out ++ image_bytes p
joined p out a b c d n long ea eb ec ed =
    let e1 : a ≡ out ++ before_metadata (length (metadata p)) = ea ∙ ap (λ (k : ℕ). out ++ before_metadata k) long in
    ed ∙ ap (λ (k : ℕ). c ++ section_end k) long
    ∙ ap (λ (x : List ℕ). x ++ section_end (length (metadata p))) (ec ∙ ap (λ (x : List ℕ). x ++ streams p) (eb ∙ ap (λ (x : List ℕ). x ++ metadata_head p) e1))
    ∙ all_of p out

on_ok : {A E : Type 0} (r : Result A E) (P Q : Type 0) → (P → Q) → OnOk r P → OnOk r Q
on_ok (Ok x) P Q f h = f h
on_ok (Err e) P Q f h = tt

-- the parts, by how many bytes the streams have
pub image_by : {A E : Type 0} (p : Parts) (out a b c d : List ℕ) (t x u g l : ℕ) → t ≡ length p.tables → x ≡ length p.texts → u ≡ length p.users → g ≡ length p.guids → l ≡ length p.blobs
    → a ≡ out ++ before_metadata (116 + t + x + u + g + l) → b ≡ a ++ (root_head ++ stream_heads t x u g l) → c ≡ b ++ streams p
    → (r : Result A E) → OnOk r (d ≡ c ++ section_end (116 + t + x + u + g + l)) → OnOk r (d ≡ out ++ image_bytes p)
image_by p out a b c d t x u g l et ex eu eg el ea eb ec r h =
    let long : 116 + t + x + u + g + l ≡ length (metadata p) = omega (arith, length-metadata p, et, ex, eu, eg, el) in
    let head : root_head ++ stream_heads t x u g l ≡ metadata_head p = λ i. root_head ++ stream_heads (et i) (ex i) (eu i) (eg i) (el i) in
    on_ok r _ _ (λ ed. joined p out a b c d (116 + t + x + u + g + l) long ea (eb ∙ ap (λ (y : List ℕ). a ++ y) head) ec ed) h
