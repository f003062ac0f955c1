-- Names of interfaces: 1 to 15 letters, digits, `.`, `_` and `-`, the first a letter or a digit.
use Rattle.std.specs.Prelude.{◌≡◌, ℕ, ◌-◌, ◌≤◌, Bool, false, ◌&&◌, ◌||◌, List, ◌++◌, length, take, drop, replicate, Option, Some, None, ◌==◌, nat_lt, slice_index, IsTrue, if◌then◌else◌}
use Rattle.std.specs.Char.{is_ascii_alphanumeric}
use Rattle.std.specs.List.{list_all}
use Rattle.net_types.specs.declared.interface.Name.{Name}

abbrev pub is_name_byte : ℕ → Bool
is_name_byte b = is_ascii_alphanumeric b || b == 46 || b == 95 || b == 45

unfoldable pub is_name : List ℕ → Bool
is_name text =
    if is_ascii_alphanumeric (slice_index text 0)
    then nat_lt (length text) 16 && list_all is_name_byte text
    else false

unfoldable pub name_text : Name → List ℕ
name_text name = take name.len name.bytes

-- its text is a name, and of the 15 bytes those past it are 0
pub record FitsName (name : Name) : Type 0 where
  pub spelled : IsTrue (is_name (name_text name))
  pub within : name.len ≤ 15
  pub fifteen : length name.bytes ≡ 15
  pub padded : drop name.len name.bytes ≡ replicate (15 - name.len) 0

unfoldable pub name_at : List ℕ → Option Name
name_at text =
    if is_name text
    then Some (record { bytes = text ++ replicate (15 - length text) 0; len = length text })
    else None
