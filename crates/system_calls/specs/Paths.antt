-- Where the files of a folder lie.
use Rattle.std.specs.Prelude.{ℕ, List, ◌++◌, codes}

-- the folder, a slash, and the name of the file as it is
abbrev pub file_path : List ℕ → List ℕ → List ℕ
file_path dir name = dir ++ codes "/" ++ name
