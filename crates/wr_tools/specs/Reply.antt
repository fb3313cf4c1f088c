-- What a call of the tool replies where nothing fails.
use Rattle.std.specs.Prelude.{◌≡◌, ℕ, Bool, ◌||◌, ◌==◌, Option, List, [], ◌∷◌, ◌++◌, take}
use Rattle.wr_outside.specs.Files.{Files, with_file, with_put}
use Rattle.wr_tools.specs.Outside.{Outside}

-- the status, what is put on each sink, and the names and bytes of the files that are written, in order
pub record Reply : Type 0 where
  pub status : ℕ
  pub out : List ℕ
  pub err : List ℕ
  pub written : List (List ℕ × List ℕ)

-- A refusal puts one line on err, and writes nothing.
abbrev pub refusal : ℕ → List ℕ → Reply
refusal status line = record { status = status; out = []; err = line; written = [] }

-- one file is written, and nothing is said
abbrev pub done : List ℕ → List ℕ → Reply
done name bytes = record { status = 0; out = []; err = []; written = (name, bytes) ∷ [] }

-- the content is refused, the words, or a file
abbrev pub is_refusal : ℕ → Bool
is_refusal status = status == 1 || status == 2 || status == 3

-- a read failed, a write failed, want of memory
abbrev pub is_fault : ℕ → Bool
is_fault status = status == 4 || status == 5 || status == 6

-- what the store holds once the files are written, one after the other
abbrev pub with_files : Option Files → List (List ℕ × List ℕ) → Option Files
with_files held [] = held
with_files held (file ∷ files) = with_files (with_file held file.0 file.1) files

-- the status is the reply's, and the outside is what it was with all that the reply says
pub record Shows (reply : Reply) (before after : Outside) (status : ℕ) : Type 0 where
  pub status_is : status ≡ reply.status
  pub held : after.held ≡ with_files before.held reply.written
  pub out : after.out ≡ with_put before.out reply.out
  pub err : after.err ≡ with_put before.err reply.err

-- the files were written up to one of them, which holds a prefix of its bytes
pub record StopsAt (held held' : Option Files) (written : List (List ℕ × List ℕ)) : Type 0 where
  pub finished : List (List ℕ × List ℕ)
  pub rest : List (List ℕ × List ℕ)
  pub name : List ℕ
  pub bytes : List ℕ
  pub n : ℕ
  pub parts : written ≡ finished ++ (name, bytes) ∷ rest
  pub is : held' ≡ with_file (with_files held finished) name (take n bytes)
