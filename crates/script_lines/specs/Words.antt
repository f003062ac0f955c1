-- The words that lines of scripts begin with.
use Rattle.std.specs.Prelude.{ℕ, Bool, true, not, ◌==◌, List, [], ◌∷◌, codes, Option, Some, None, is_some, if◌then◌else◌}
use Rattle.std.specs.List.{list_all}
use Rattle.net_types.specs.Cutting.{Choices, choose_at, strip_word}
use Rattle.net_types.specs.Marks.{is_printable}
use Rattle.net_types.specs.TextLines.{Line}
use Rattle.script_lines.specs.declared.words.Word.{Word}
use Rattle.script_lines.specs.declared.words.Word.TheVariants.{Head, Conf, Interface, Row, File, Fail, Hook, Start, Turn, Crash}

abbrev pub word_text : Word → List ℕ
word_text Head = codes "dhcpcd-script"
word_text Conf = codes "c:"
word_text Interface = codes "if"
word_text Row = codes "row"
word_text File = codes "file"
word_text Fail = codes "fail"
word_text Hook = codes "hook"
word_text Start = codes "start"
word_text Turn = codes "turn"
word_text Crash = codes "crash"

-- the word of a line, and what follows it
abbrev pub Known : Type 0
Known = Word × List ℕ

-- a word ends at a blank or with its line
abbrev pub is_word_end : List ℕ → Bool
is_word_end [] = true
is_word_end (b ∷ rest) = b == 32

abbrev pub whole_word : Word → List ℕ → Option Known
whole_word word rest = if is_word_end rest then Some (word, rest) else None

abbrev pub words : Choices Known
words =
    (word_text Turn, whole_word Turn)
    ∷ (word_text Conf, λ rest. Some (Conf, rest))
    ∷ (word_text Interface, whole_word Interface)
    ∷ (word_text Row, whole_word Row)
    ∷ (word_text File, whole_word File)
    ∷ (word_text Fail, whole_word Fail)
    ∷ (word_text Hook, whole_word Hook)
    ∷ (word_text Start, whole_word Start)
    ∷ (word_text Crash, whole_word Crash)
    ∷ (word_text Head, whole_word Head)
    ∷ []

-- the first word of a line, where lines begin with it
unfoldable pub word_at : Line → Option Known
word_at line = choose_at words line

-- A line of the configuration has any bytes but a line feed; any other one is printable ASCII.
unfoldable pub is_text : Line → Bool
is_text line =
    if is_some (strip_word (codes "c:") line) then list_all (λ b. not (b == 10)) line else list_all is_printable line
