-- The files that the store holds at first.
use Rattle.std.specs.Prelude.{ℕ, ◌≡◌, ◌≤◌, List, ◌++◌, codes, length}
use Rattle.world.specs.NetTypes.HexText.{hex_text}
use Rattle.world.specs.NetTypes.Marks.{AreBytes}
use Rattle.world.specs.FileLists.{StoreFile}
use Rattle.world.specs.FileNames.{IsFileName}

abbrev pub file_text : StoreFile → List ℕ
file_text file = codes "file " ++ file.name ++ codes " " ++ hex_text file.bytes

-- a name has at most so many bytes
abbrev pub name_room : ℕ
name_room = 64

pub record FitsFile (file : StoreFile) : Type 0 where
  pub name : IsFileName file.name
  pub some : 1 ≤ length file.name
  pub short : length file.name ≤ name_room
  pub octets : AreBytes file.bytes

abbrev pub UnlikeNames : StoreFile → StoreFile → Type 0
UnlikeNames a b = a.name ≡ b.name → ⊥
