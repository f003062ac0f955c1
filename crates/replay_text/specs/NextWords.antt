-- Which word the next line may begin with, by what was read.
use Rattle.std.specs.Prelude.{ℕ, Bool, true, false, not, ◌&&◌, nat_lt, List, [], ◌∷◌, length, Option, Some, None, is_some}
use Rattle.script_lines.specs.declared.words.Word.{Word}
use Rattle.script_lines.specs.declared.words.Word.TheVariants.{Head, Conf, Interface, Row, File, Fail, Hook, Start, Turn, Crash}
use Rattle.script_lines.specs.Clocks.{is_over}
use Rattle.replay_text.specs.LinesRead.{LifeRead, LinesRead}

abbrev pub none_of : {X : Type 0} → List X → Bool
none_of [] = true
none_of (x ∷ xs) = false

-- nothing stands that comes after lines of the kind
abbrev pub before_lives : LinesRead → Bool
before_lives read = not (is_some read.last)

abbrev pub before_polls : LinesRead → Bool
before_polls read = none_of read.polls && before_lives read

abbrev pub before_fails : LinesRead → Bool
before_fails read = none_of read.fails && before_polls read

abbrev pub before_files : LinesRead → Bool
before_files read = none_of read.files && before_fails read

abbrev pub before_rows : LinesRead → Bool
before_rows read = none_of read.rows && before_files read

abbrev pub before_interfaces : LinesRead → Bool
before_interfaces read = none_of read.ifaces && before_rows read

-- a life begins as the first one, or after a crash
abbrev pub may_begin : Option LifeRead → Bool
may_begin None = true
may_begin (Some read) = is_some read.life.crash

abbrev pub has_begun : Option LifeRead → Bool
has_begun None = false
has_begun (Some read) = not (is_some read.life.crash)

abbrev pub is_going_on : Option LifeRead → Bool
is_going_on None = false
is_going_on (Some read) = not (is_some read.life.crash) && not (is_over read.clock)

-- the most interfaces
abbrev pub interface_room : ℕ
interface_room = 64

abbrev pub may_come : LinesRead → Word → Bool
may_come read Head = false
may_come read Conf = before_interfaces read
may_come read Interface = nat_lt (length read.ifaces) interface_room && before_rows read
may_come read Row = before_files read
may_come read File = before_fails read
may_come read Fail = before_polls read
may_come read Hook = before_lives read
may_come read Start = may_begin read.last
may_come read Turn = is_going_on read.last
may_come read Crash = has_begun read.last
