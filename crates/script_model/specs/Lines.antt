-- The lines of a transcript, and their texts.
use Rattle.std.specs.Prelude.{ℕ, zero, suc, Bool, true, false, List, [], ◌∷◌, ◌++◌, map, filter, flat_map, codes, decimal, Option, Some, None}
use Rattle.std.specs.List.{join_with_byte}
use Rattle.world.specs.NetTypes.declared.interface.IfIndex.{IfIndex}
use Rattle.world.specs.NetTypes.declared.interface.IfSpec.{IfSpec}
use Rattle.world.specs.NetTypes.declared.address.Net.{Net}
use Rattle.world.specs.NetTypes.AddressText.{ip6_text, net_text, mac_text}
use Rattle.world.specs.NetTypes.NameText.{name_text}
use Rattle.world.specs.NetTypes.HexText.{hex_text}
use Rattle.world.specs.declared.wakes.Begin.{Begin}
use Rattle.world.specs.declared.wakes.Event.{Event}
use Rattle.world.specs.declared.wakes.Event.TheVariants.{Frame, Carrier, Duplicate, Release, Rebind, Stop, Quiet, End}
use Rattle.world.specs.declared.rows.HostRow.{HostRow}
use Rattle.world.specs.declared.hooking.Poll.{Poll}
use Rattle.world.specs.declared.hooking.Poll.TheVariants.{Running, Ended}
use Rattle.world.specs.declared.reasons.Reason.{Reason}
use Rattle.world.specs.Reasons.{reason_word}
use Rattle.world.specs.StoreCalls.{Reading, Found, Missing, Unread}
use Rattle.world.specs.RowText.{row_text}
use Rattle.script_model.specs.IfaceSets.{is_up}

pub data Line : Type 0 where
  Head : Line
  Conf : (text : List ℕ) → Line
  Notice : (line : ℕ) → (word : List ℕ) → Line
  Interface : (spec : IfSpec) → Line
  Life : (number : ℕ) → Line
  Start : (begin : Begin) → Line
  Asides : (names : List (List ℕ)) → Line
  AsidesFailed : Line
  Wrote : (name bytes : List ℕ) → (done : Bool) → Line
  Synced : (name : List ℕ) → (done : Bool) → Line
  Renamed : (name : List ℕ) → (done : Bool) → Line
  Removed : (name : List ℕ) → (done : Bool) → Line
  Settled : (done : Bool) → Line
  Read : (name : List ℕ) → (reading : Reading) → Line
  Turn : (at salt : ℕ) → (event : Event) → (bytes : List ℕ) → Line
  -- what a poll of a job's child said, nothing where it failed
  HookPolled : (number : ℕ) → (answer : Option Poll) → Line
  HookAbandoned : (number : ℕ) → Line
  HookDropped : (number : ℕ) → (reason : Reason) → (name : List ℕ) → Line
  HookStarted : (number : ℕ) → (reason : Reason) → (name : List ℕ) → (done : Bool) → Line
  -- a variable of the job that was started
  Variable : (name value : List ℕ) → Line
  Send : (iface : IfIndex) → (bytes : List ℕ) → (taken : Bool) → Line
  HostListed : (count : ℕ) → Line
  Row : (row : HostRow) → Line
  HostListFailed : Line
  HostDel : (row : HostRow) → (done : Bool) → Line
  HostAdd : (row : HostRow) → (done : Bool) → Line
  Until : (moment : Option ℕ) → Line
  Hold : (iface : IfIndex) → (net : Net) → Line
  EndOfLife : Line

-- the numbers from one on, so many of them
abbrev pub numbers_from : ℕ → ℕ → List ℕ
numbers_from first zero = []
numbers_from first (suc n) = first ∷ numbers_from (suc first) n

-- the interfaces with carrier, rising
abbrev pub up_list : ℕ → List ℕ
up_list up = filter (is_up up) (numbers_from 1 64)

abbrev pub list_text : List ℕ → List ℕ
list_text [] = codes "-"
list_text (i ∷ rest) = join_with_byte 44 (map decimal (i ∷ rest))

unfoldable pub up_text : ℕ → List ℕ
up_text up = list_text (up_list up)

abbrev pub carrier_text : Bool → List ℕ
carrier_text true = codes "up"
carrier_text false = codes "down"

-- what came, with the bytes of a frame
abbrev pub event_text : Event → List ℕ → List ℕ
event_text (Frame iface len) bytes = codes "frame " ++ decimal iface ++ codes " " ++ hex_text bytes
event_text (Carrier iface up) bytes = codes "carrier " ++ decimal iface ++ codes " " ++ carrier_text up
event_text (Duplicate iface addr) bytes = codes "dup " ++ decimal iface ++ codes " " ++ ip6_text addr
event_text (Release iface) bytes = codes "release " ++ decimal iface
event_text (Rebind iface) bytes = codes "rebind " ++ decimal iface
event_text Stop bytes = codes "stop"
event_text Quiet bytes = codes "quiet"
event_text End bytes = codes "end"

abbrev pub start_text : Begin → List ℕ
start_text begin =
    codes "start " ++ decimal begin.at ++ codes " " ++ decimal begin.salt ++ codes " up " ++ up_text begin.up

abbrev pub turn_text : ℕ → ℕ → Event → List ℕ → List ℕ
turn_text at salt event bytes =
    codes "turn " ++ decimal at ++ codes " " ++ decimal salt ++ codes " " ++ event_text event bytes

abbrev pub interface_text : IfSpec → List ℕ
interface_text spec =
    codes "if " ++ decimal spec.index.number ++ codes " " ++ name_text spec.name ++ codes " " ++ mac_text spec.mac

abbrev pub outcome_text : Bool → List ℕ
outcome_text true = codes "ok"
outcome_text false = codes "failed"

abbrev pub reading_text : Reading → List ℕ
reading_text (Found bytes) = hex_text bytes
reading_text Missing = codes "none"
reading_text Unread = codes "failed"

abbrev pub moment_text : Option ℕ → List ℕ
moment_text None = codes "none"
moment_text (Some at) = decimal at

abbrev pub poll_text : Option Poll → List ℕ
poll_text (Some Running) = codes "run"
poll_text (Some (Ended status)) = codes "ended " ++ decimal status
poll_text None = codes "failed"

-- which job, why it runs and on which interface
abbrev pub job_text : ℕ → Reason → List ℕ → List ℕ
job_text number reason name = decimal number ++ codes " " ++ reason_word reason ++ codes " " ++ name

-- a line without its line feed
unfoldable pub line_words : Line → List ℕ
line_words Head = codes "dhcpcd-transcript 1"
line_words (Conf text) = codes "c:" ++ text
line_words (Notice line word) = codes "notice " ++ decimal line ++ codes " " ++ word
line_words (Interface spec) = interface_text spec
line_words (Life number) = codes "life " ++ decimal number
line_words (Start begin) = start_text begin
line_words (Asides names) = codes "store list ok" ++ flat_map (λ name. codes " " ++ name) names
line_words AsidesFailed = codes "store list failed"
line_words (Wrote name bytes done) =
    codes "store write " ++ name ++ codes " " ++ hex_text bytes ++ codes " " ++ outcome_text done
line_words (Synced name done) = codes "store sync " ++ name ++ codes " " ++ outcome_text done
line_words (Renamed name done) = codes "store rename " ++ name ++ codes " " ++ outcome_text done
line_words (Removed name done) = codes "store remove " ++ name ++ codes " " ++ outcome_text done
line_words (Settled done) = codes "store settle " ++ outcome_text done
line_words (Read name reading) = codes "store read " ++ name ++ codes " " ++ reading_text reading
line_words (Turn at salt event bytes) = turn_text at salt event bytes
line_words (HookPolled number answer) = codes "hook poll " ++ decimal number ++ codes " " ++ poll_text answer
line_words (HookAbandoned number) = codes "hook abandon " ++ decimal number
line_words (HookDropped number reason name) = codes "hook drop " ++ job_text number reason name
line_words (HookStarted number reason name done) =
    codes "hook start " ++ job_text number reason name ++ codes " " ++ outcome_text done
line_words (Variable name value) = codes "var " ++ name ++ codes "=" ++ value
line_words (Send iface bytes taken) =
    codes "send " ++ decimal iface.number ++ codes " " ++ hex_text bytes ++ codes " " ++ outcome_text taken
line_words (HostListed count) = codes "host list ok " ++ decimal count
line_words (Row row) = codes "row " ++ row_text row
line_words HostListFailed = codes "host list failed"
line_words (HostDel row done) = codes "host del " ++ row_text row ++ codes " " ++ outcome_text done
line_words (HostAdd row done) = codes "host add " ++ row_text row ++ codes " " ++ outcome_text done
line_words (Until moment) = codes "until " ++ moment_text moment
line_words (Hold iface net) = codes "hold addr " ++ decimal iface.number ++ codes " " ++ net_text net
line_words EndOfLife = codes "end"

abbrev pub line_text : Line → List ℕ
line_text line = line_words line ++ 10 ∷ []

abbrev pub lines_text : List Line → List ℕ
lines_text lines = flat_map line_text lines
