-- Decimal numbers without leading zeros or sign.
use Rattle.std.specs.Prelude.{ℕ, Bool, ◌&&◌, List, length, Option, Some, None, ◌==◌, nat_lt, slice_index, if◌then◌else◌}
use Rattle.std.specs.Char.{is_ascii_digit}
use Rattle.std.specs.List.{list_all}
use Rattle.std.specs.Str.Parse.{digits_value}

-- `0`, or 1 to 20 digits that don't begin with 0
unfoldable pub is_numeral : List ℕ → Bool
is_numeral text =
    if slice_index text 0 == 48 then length text == 1
    else nat_lt 0 (length text) && nat_lt (length text) 21 && list_all is_ascii_digit text

-- a number below the limit; the law is that its text is the one `decimal` of it
unfoldable pub number_at : ℕ → List ℕ → Option ℕ
number_at limit text =
    if is_numeral text && nat_lt (digits_value 10 text) limit then Some (digits_value 10 text)
    else None
