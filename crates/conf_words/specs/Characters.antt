-- Which lines are text: UTF-8 (RFC 3629) without control characters, those of Unicode's category Cc, but for tabs.
use Rattle.std.specs.Prelude.{ℕ, Bool, not, ◌||◌, ◌&&◌, ◌==◌, List}
use Rattle.std.specs.List.{list_all}
use Rattle.std.specs.Char.{is_control}
use Rattle.std.specs.Str.{is_utf8, chars}
use Rattle.conf_words.specs.Marks.{tab}

abbrev pub may_stand : ℕ → Bool
may_stand character = character == tab || not (is_control character)

abbrev pub is_text : List ℕ → Bool
is_text line = is_utf8 line && list_all may_stand (chars line)
