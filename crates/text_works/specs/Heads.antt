-- The lines of a transcript before its first life.
use Rattle.std.specs.Prelude.{ℕ, List, [], ◌∷◌, ◌++◌, map}
use Rattle.net_types.specs.declared.interface.IfSpec.{IfSpec}
use Rattle.script_model.specs.ScriptTexts.{ScriptLines}
use Rattle.script_model.specs.Lines.{Line}
use Rattle.script_model.specs.Lines as lines
use Rattle.replay_text.specs.Blocks.{parts_of}
use Rattle.replay_text.specs.ScriptContent.{conf_lines}
use Rattle.conf_text.specs.Configurations.{NoticeContent}

-- a word of the configuration that does nothing
abbrev pub notice_line : NoticeContent → Line
notice_line notice = lines.Notice notice.line notice.word

-- what precedes lives: the lines of the configuration, those of it that do nothing, and the interfaces
abbrev pub heading : (conf : List (List ℕ)) → List NoticeContent → List IfSpec → List Line
heading conf notices specs =
    lines.Head ∷ (map lines.Conf conf ++ (map notice_line notices ++ map lines.Interface specs))

unfoldable pub head_lines : ScriptLines → List NoticeContent → List Line
head_lines script notices = heading script.conf notices script.ifaces

-- ---- of the one life of `live`

-- what stands after the last line feed
abbrev pub last_part : List (List ℕ) → List ℕ
last_part [] = []
last_part (part ∷ []) = part
last_part (part ∷ next ∷ parts) = last_part (next ∷ parts)

unfoldable pub unended : List ℕ → List ℕ
unended text = last_part (parts_of text)

abbrev pub unless_empty : List ℕ → List (List ℕ)
unless_empty [] = []
unless_empty (byte ∷ bytes) = (byte ∷ bytes) ∷ []

-- the lines of a text, of which the last one may lack its line feed
abbrev pub text_lines : List ℕ → List (List ℕ)
text_lines text = conf_lines text ++ unless_empty (unended text)

-- the configuration that was read, what of it does nothing, the interfaces, and the number of the one life
unfoldable pub live_head : (conf : List ℕ) → List NoticeContent → List IfSpec → List Line
live_head conf notices specs = heading (text_lines conf) notices specs ++ lines.Life 1 ∷ []
