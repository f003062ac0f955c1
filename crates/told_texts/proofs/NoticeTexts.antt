-- Each notice of a configuration stands in one line, since what it shows is a part of one.
use Rattle.std.proofs.Common.{◌≡◌, ℕ, ◌+◌, List, [], ◌∷◌, ◌++◌, map, flat_map, codes, decimal, Ok, refl, sym, subst}
use Rattle.std.specs.List.{AllByRecursion, enumerate_from, filter_map}
use Rattle.std.specs.Str.Lossy.{utf8_lossy}
use Rattle.net_types.proofs.AllLaws.{all_join}
use Rattle.net_types.proofs.MarkLaws.{decimal_lacks, lacks-append}
use Rattle.conf_words.specs.Directives.{directive_in}
use Rattle.conf_words.specs.Parts.{Leads}
use Rattle.conf_words.specs.Readings.{IsReadAs, Read}
use Rattle.conf_words.specs.TextLines.{BeginsWithLine}
use Rattle.conf_text.specs.Configurations.{Configuration, IsConfOf, NoticeContent, configured, notice_of, notices_of}
use Rattle.conf_text.specs.Numbering.{line_number}
use Rattle.conf_text.specs.Places.{Global}
use Rattle.conf_text.specs.Sayings.{said_of}
use Rattle.conf_text.specs.Standings.{Standing}
use Rattle.script_model.specs.Lines.{line_words}
use Rattle.transcript_model.specs.Told.{notice_line}
use Rattle.transcript_read.proofs.NoticeLaws.{InOneLine, IsOneLine, NotedStanding, Words, cons_lines, front_noted, lossy_lacks, number_small, one_line}

-- ---- the lines that are read

found_lines : (number : ℕ) (lines : List (List ℕ)) → Words lines
    → AllByRecursion IsOneLine (filter_map (λ line. directive_in line.0 line.1) (enumerate_from number lines))
found_lines number [] each = tt
found_lines number (line ∷ lines) each =
    cons_lines (directive_in number line) (filter_map (λ other. directive_in other.0 other.1) (enumerate_from (number + 1) lines))
    (one_line number line each.0) (found_lines (number + 1) lines each.1)

lines_lack : (lines : List (List ℕ)) (text rest : List ℕ) → Leads BeginsWithLine lines text rest → Words lines
lines_lack [] text rest leads = tt
lines_lack (line ∷ lines) text rest leads = (leads.1.lacks, lines_lack lines leads.0 rest leads.2)

read_lines : (text : List ℕ) (read : Read) → IsReadAs text read → AllByRecursion IsOneLine read.found
read_lines text read is =
    subst (AllByRecursion IsOneLine) (sym is.has) (found_lines 1 is.lines (lines_lack is.lines text is.rest is.leads))

-- ---- notices

abbrev pub StandsInLine : NoticeContent → Type 0
StandsInLine notice = InOneLine (line_words (notice_line notice))

notice_lacks : (number : ℕ) (word : List ℕ) → InOneLine word → StandsInLine (notice_of (line_number number) word)
unfolding line_words
notice_lacks number word lacks =
    let digits = decimal (line_number number) in
    lacks-append 10 (codes "notice " ++ digits ++ codes " ") (utf8_lossy word)
    (lacks-append 10 (codes "notice " ++ digits) (codes " ")
    (lacks-append 10 (codes "notice ") digits refl (decimal_lacks (line_number number) 10 (number_small number) refl)) refl)
    (lossy_lacks word lacks)

words_noticed : (number : ℕ) (words : List (List ℕ)) → Words words
    → AllByRecursion StandsInLine (map (notice_of (line_number number)) words)
words_noticed number [] each = tt
words_noticed number (word ∷ words) each = (notice_lacks number word each.0, words_noticed number words each.1)

front_noticed : (front : List Standing) → AllByRecursion NotedStanding front → AllByRecursion StandsInLine (flat_map notices_of front)
front_noticed [] each = tt
front_noticed (stands ∷ front) each =
    all_join StandsInLine (notices_of stands) (flat_map notices_of front) (words_noticed stands.number (said_of stands).notices each.0)
    (front_noticed front each.1)

pub notices_stand : (text : List ℕ) (configuration : Configuration) → IsConfOf text (Ok configuration)
    → AllByRecursion StandsInLine configuration.notices
unfolding configured
notices_stand text configuration is =
    let noted = front_noted Global is.read.found is.front is.rest (read_lines text is.read is.is_read) is.stand in
    subst (λ (c : Configuration). AllByRecursion StandsInLine c.notices) (sym is.tells.3) (front_noticed is.front noted)
