-- Where a line may stand after others.
use Rattle.std.specs.Prelude.{ℕ, ◌<◌, ◌==◌, nat_le, Bool, List, ◌++◌, length, filter, Option, Some, None, IsTrue}
use Rattle.std.specs.List.{list_all}
use Rattle.net_types.specs.TextLines.{Line, lines_text}
use Rattle.net_types.specs.FirstBadLine.{Begins}
use Rattle.script_lines.specs.declared.words.Word.{Word}
use Rattle.script_lines.specs.declared.words.Word.TheVariants.{Head, Conf, Interface, Row, File, Fail, Hook, Start, Turn, Crash}
use Rattle.replay_text.specs.LinesInOrder.{SpellsScript}
use Rattle.replay_text.specs.NextWords.{interface_room}
use Rattle.script_lines.specs.Words.{Known, word_text, word_at}

-- before the lives lines stand in the order of their kinds
abbrev pub rank : Word → ℕ
rank Head = 0
rank Conf = 1
rank Interface = 2
rank Row = 3
rank File = 4
rank Fail = 5
rank Hook = 6
rank Start = 7
rank Turn = 7
rank Crash = 7

abbrev pub rank_of : Option Known → ℕ
rank_of None = 0
rank_of (Some known) = rank known.0

-- no line of a later kind is among the lines
abbrev pub is_in_order : Word → List Line → Bool
is_in_order word lines = list_all (λ line. nat_le (rank_of (word_at line)) (rank word)) lines

-- how many of the lines are those of interfaces
abbrev pub interfaces_in : List Line → ℕ
interfaces_in lines = length (filter (λ line. rank_of (word_at line) == rank Interface) lines)

-- A line of the word may stand after the lines: before the lives in the order of the kinds, and in a life where some
-- script goes on with it.
abbrev pub IsInPlace : List Line → Word → Type 0
IsInPlace lines Head = ⊥
IsInPlace lines Conf = IsTrue (is_in_order Conf lines)
IsInPlace lines Interface = IsTrue (is_in_order Interface lines) × (interfaces_in lines < interface_room)
IsInPlace lines Row = IsTrue (is_in_order Row lines)
IsInPlace lines File = IsTrue (is_in_order File lines)
IsInPlace lines Fail = IsTrue (is_in_order Fail lines)
IsInPlace lines Hook = IsTrue (is_in_order Hook lines)
IsInPlace lines Start = Begins SpellsScript (lines_text lines ++ word_text Start)
IsInPlace lines Turn = Begins SpellsScript (lines_text lines ++ word_text Turn)
IsInPlace lines Crash = Begins SpellsScript (lines_text lines ++ word_text Crash)
