-- What one line more says, by its word and what follows it.
use Rattle.std.specs.Prelude.{ℕ, Bool, not, List, [], ◌∷◌, ◌++◌, length, map, codes, Option, Some, None, option_map}
use Rattle.std.specs.Set.{is_member}
use Rattle.net_types.specs.declared.interface.IfSpec.{IfSpec}
use Rattle.net_types.specs.Cutting.{after_word, guarded}
use Rattle.net_types.specs.TextLines.{ended}
use Rattle.world.specs.declared.rows.HostRow.{HostRow}
use Rattle.world.specs.declared.wakes.Begin.{Begin}
use Rattle.world.specs.FileLists.{StoreFile, file_name}
use Rattle.world.specs.FileNames.{is_name}
use Rattle.world.specs.LinkCalls.{Given}
use Rattle.world.specs.RowOrder.{has_row}
use Rattle.script_model.specs.Crashes.{CrashScript}
use Rattle.script_lines.specs.declared.words.Word.{Word}
use Rattle.script_lines.specs.declared.words.Word.TheVariants.{Head, Conf, Interface, Row, File, Fail, Hook, Start, Turn, Crash}
use Rattle.script_lines.specs.Carriers.{begin_at}
use Rattle.script_lines.specs.Clocks.{clock_at, clock_after}
use Rattle.script_lines.specs.CrashReading.{crash_at}
use Rattle.script_lines.specs.FileReading.{file_at}
use Rattle.script_lines.specs.KindTests.{interfaces_fit, is_listed}
use Rattle.script_lines.specs.LineReading.{spec_at, fail_at}
use Rattle.replay_text.specs.LinesRead.{LifeRead, LinesRead, lives_in}
use Rattle.script_lines.specs.PollReading.{poll_at}
use Rattle.row_texts.specs.RowReading.{row_at}
use Rattle.script_lines.specs.TurnReading.{turn_at}

abbrev pub after_blank : {X : Type 0} → (List ℕ → Option X) → List ℕ → Option X
after_blank found rest = after_word (codes " ") found rest

-- the next number, and unlike the others
abbrev pub fits_next : List IfSpec → IfSpec → Bool
fits_next ifaces spec = interfaces_fit (ifaces ++ spec ∷ [])

abbrev pub is_new_row : List HostRow → HostRow → Bool
is_new_row rows row = not (has_row rows row)

abbrev pub is_new_file : List StoreFile → StoreFile → Bool
is_new_file files file = not (is_member is_name (map file_name files) file.name)

abbrev pub begun : Begin → LifeRead
begun begin = record { life = record { begin = begin; turns = []; crash = None }; clock = clock_at begin.at }

abbrev pub with_turn : Given → LifeRead → LifeRead
with_turn given read = record {
  life = record read.life { turns = read.life.turns ++ given ∷ [] };
  clock = clock_after read.clock given.wake;
}

abbrev pub with_crash : CrashScript → LifeRead → LifeRead
with_crash crash read = record read { life = record read.life { crash = Some crash } }

abbrev pub with_start : LinesRead → Begin → LinesRead
with_start read begin = record read { past = lives_in read; last = Some (begun begin) }

abbrev pub with_last : LinesRead → (LifeRead → LifeRead) → LinesRead
with_last read change = record read { last = option_map change read.last }

unfoldable pub with_line : LinesRead → Word → List ℕ → Option LinesRead
with_line read Head rest = None
with_line read Conf rest = Some (record read { conf = read.conf ++ ended rest })
with_line read Interface rest =
    option_map (λ spec. record read { ifaces = read.ifaces ++ spec ∷ [] })
    (guarded (fits_next read.ifaces) (after_blank spec_at rest))
with_line read Row rest =
    option_map (λ row. record read { rows = read.rows ++ row ∷ [] })
    (guarded (is_new_row read.rows) (after_blank row_at rest))
with_line read File rest =
    option_map (λ file. record read { files = read.files ++ file ∷ [] })
    (guarded (is_new_file read.files) (after_blank file_at rest))
with_line read Fail rest =
    option_map (λ fail. record read { fails = read.fails ++ fail ∷ [] }) (after_blank fail_at rest)
with_line read Hook rest =
    option_map (λ answer. record read { polls = read.polls ++ answer ∷ [] }) (after_blank poll_at rest)
with_line read Start rest = option_map (with_start read) (after_blank (begin_at (length read.ifaces)) rest)
with_line read Turn rest =
    option_map (λ given. with_last read (with_turn given))
    (guarded (λ given. is_listed (length read.ifaces) given.wake.event) (after_blank turn_at rest))
with_line read Crash rest = option_map (λ crash. with_last read (with_crash crash)) (after_blank crash_at rest)
