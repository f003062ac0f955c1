-- The names of asides, each after a blank.
use Rattle.std.specs.Prelude.{ℕ, Bool, ◌&&◌, nat_le, List, [], length, Option, Some, None, unwrap_or, if◌then◌else◌}
use Rattle.std.specs.List.{list_all}
use Rattle.net_types.specs.Cutting.{guarded}
use Rattle.world.specs.FileNames.{is_file_byte}
use Rattle.transcript_text.specs.LineFields.{names_at}
use Rattle.transcript_lines.specs.declared.fields.ListedName.{ListedName}

-- a byte or more
abbrev pub is_word : List ℕ → Bool
is_word name = nat_le 1 (length name)

abbrev pub name_at : List ℕ → Option ListedName
name_at text = if is_word text && list_all is_file_byte text then Some (record {}) else None

abbrev pub listed_at : List ℕ → Option (List (List ℕ))
listed_at text = guarded (list_all is_word) (names_at text)

-- the names that a text lists
abbrev pub names_in : List ℕ → List (List ℕ)
names_in text = unwrap_or (listed_at text) []
