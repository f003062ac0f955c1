-- The texts of all lines, one after another, are a transcript.
use Rattle.std.proofs.Common.{◌≡◌, ℕ, List, [], ◌∷◌, ◌++◌, map, Ok, refl, ap, ◌∙◌}
use Rattle.std.specs.List.{AllByRecursion}
use Rattle.std.proofs.lemmas.List.{map-append}
use Rattle.net_types.specs.Marks.{IsPrintable, Lacks, is_printable}
use Rattle.net_types.specs.TextLines as texts
use Rattle.net_types.specs.TextLines.{AreLines}
use Rattle.net_types.proofs.AllLaws.{all_join, all_map}
use Rattle.net_types.proofs.MarkLaws.{lacks_from}
use Rattle.conf_text.specs.Configurations.{Configuration, IsConfOf, NoticeContent}
use Rattle.script_model.specs.Lines.{Line, line_text, line_words, lines_text}
use Rattle.script_model.specs.Lines as Model
use Rattle.script_model.specs.Spellings.{AreSpelled}
use Rattle.transcript_lines.specs.Bounds.{FitsTold}
use Rattle.transcript_lines.specs.LineSpellings.{IsTold}
use Rattle.transcript_model.specs.Told.{body_lines, head_lines, notice_line}
use Rattle.told_texts.specs.Laws.{IsPlain, ToldIsSpelled}
use Rattle.told_texts.proofs.NoticeTexts.{StandsInLine, notices_stand}
use Rattle.told_texts.proofs.PlainLines.{line_plain}
use Rattle.told_texts.proofs.SpelledLines.{line_told}

-- the text of lines is that of their words
in_words : (lines : List Line) → lines_text lines ≡ texts.lines_text (map line_words lines)
in_words [] = refl
in_words (line ∷ lines) = ap (λ text. line_text line ++ text) (in_words lines)

-- ---- the body

lines_told : (lines : List Line) → AllByRecursion FitsTold lines → AreSpelled IsTold (map line_words lines) lines
lines_told [] fit = tt
lines_told (line ∷ lines) fit = (line_told line fit.0, lines_told lines fit.1)

lines_plain : (lines : List Line) → AllByRecursion FitsTold lines → AllByRecursion IsPlain lines → AllByRecursion IsPrintable (map line_words lines)
lines_plain [] fit plain = tt
lines_plain (line ∷ lines) fit plain = (line_plain line fit.0 plain.0, lines_plain lines fit.1 plain.1)

no_feed : (text : List ℕ) → IsPrintable text → Lacks 10 text
no_feed text plain = lacks_from is_printable 10 text refl plain

-- ---- the head

conf_are : (conf : List (List ℕ)) (more : List Line) → AreLines conf → AreLines (map line_words more)
    → AreLines (map line_words (map Model.Conf conf ++ more))
unfolding line_words
conf_are [] more are later = later
conf_are (text ∷ conf) more are later = (are.0, conf_are conf more are.1 later)

noticed : (notices : List NoticeContent) → AllByRecursion StandsInLine notices → AreLines (map line_words (map notice_line notices))
noticed [] are = tt
noticed (notice ∷ notices) are = (are.0, noticed notices are.1)

first_line : Lacks 10 (line_words Model.Head)
unfolding line_words
first_line = refl

head_are : (conf : List (List ℕ)) (configuration : Configuration) → AreLines conf → IsConfOf (texts.lines_text conf) (Ok configuration)
    → AreLines (map line_words (head_lines conf configuration))
head_are conf configuration are is = (
  first_line,
  conf_are conf (map notice_line configuration.notices) are
      (noticed configuration.notices (notices_stand (texts.lines_text conf) configuration is)),
)

-- ---- all lines

pub told_is_spelled : ToldIsSpelled
told_is_spelled told well =
    let head = head_lines told.conf told.configuration in
    let body = body_lines told.body in
    let plain = lines_plain body well.fit well.plain in
    record {
      lines = map line_words head ++ map line_words body;
      spells = record {
        others = map line_words body;
        are = refl;
        each =
            all_join (Lacks 10) (map line_words head) (map line_words body) (head_are told.conf told.configuration well.conf well.configured)
            (all_map IsPrintable (Lacks 10) no_feed (map line_words body) plain);
        configured = well.configured;
        spells = record { printable = plain; spelled = lines_told body well.fit; fits = well.body };
      };
      text_is = in_words (head ++ body) ∙ ap texts.lines_text (map-append line_words head body);
    }
