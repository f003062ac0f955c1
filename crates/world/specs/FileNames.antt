-- The names of a store's files.
use Rattle.std.specs.Prelude.{ℕ, Bool, ◌||◌, ◌&&◌, ◌==◌, nat_le, List, ◌++◌, codes, IsTrue}
use Rattle.std.specs.declared.cmp.Ordering.{Ordering}
use Rattle.std.specs.Ordering.{nat_cmp, is_eq}
use Rattle.std.specs.Cmp.Lexicographic.{slice_cmp}
use Rattle.std.specs.List.{list_all}

-- a letter, a digit, `.`, `_` or `-`
abbrev pub is_file_byte : ℕ → Bool
is_file_byte b =
    (nat_le 97 b && nat_le b 122) || (nat_le 65 b && nat_le b 90) || (nat_le 48 b && nat_le b 57) || (b == 46)
    || (b == 95) || (b == 45)

abbrev pub IsFileName : List ℕ → Type 0
IsFileName name = IsTrue (list_all is_file_byte name)

-- what a file is written as before it takes its place
abbrev pub aside_of : List ℕ → List ℕ
aside_of name = name ++ codes ".new"

-- names stand in byte order
abbrev pub name_cmp : List ℕ → List ℕ → Ordering
name_cmp = slice_cmp nat_cmp

abbrev pub is_name : List ℕ → List ℕ → Bool
is_name a b = is_eq (name_cmp a b)
