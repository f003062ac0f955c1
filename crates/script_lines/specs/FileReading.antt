-- How the words of the line `file` are read: a name, and bytes as pairs of digits.
use Rattle.std.specs.Prelude.{ℕ, Bool, ◌&&◌, nat_le, List, length, Option, Some, option_map}
use Rattle.std.specs.List.{list_all}
use Rattle.net_types.specs.Cutting.{pair_at, guarded}
use Rattle.net_types.specs.HexText.{hex_at}
use Rattle.world.specs.FileLists.{StoreFile}
use Rattle.world.specs.FileNames.{is_file_byte}
use Rattle.script_model.specs.FirstFiles.{name_room}

abbrev pub is_file_name : List ℕ → Bool
is_file_name text = nat_le 1 (length text) && (nat_le (length text) name_room && list_all is_file_byte text)

unfoldable pub file_name_at : List ℕ → Option (List ℕ)
file_name_at text = guarded is_file_name (Some text)

unfoldable pub file_at : List ℕ → Option StoreFile
file_at text = option_map (λ p. record { name = p.0; bytes = p.1 }) (pair_at 32 file_name_at hex_at text)
