-- The text of a line that may stand after the head is printable ASCII, where variables are.
use Rattle.std.proofs.Common.{◌≡◌, ℕ, ◌^◌, ◌<◌, Bool, true, false, cond, List, [], ◌∷◌, ◌++◌, flat_map, length, replicate, ◌-◌, codes, decimal, Option, Some, None, refl, sym, ap, subst, arith, IsTrue}
use Rattle.std.specs.List.{AllByRecursion}
use Rattle.std.proofs.lemmas.Bool.{false≢true, ltb-true}
use Rattle.std.proofs.lemmas.Bool.Decides.{nat_tests}
use Rattle.net_types.specs.AddressText.{ip6_text, mac_text, net_text}
use Rattle.net_types.specs.declared.interface.Name.{Name}
use Rattle.net_types.specs.HexText.{hex_text}
use Rattle.net_types.specs.Marks.{IsPrintable, is_printable}
use Rattle.net_types.specs.NameText.{is_name, name_at, name_text}
use Rattle.net_types.proofs.Ip6Laws.{ip6_printed}
use Rattle.net_types.proofs.Ip6Marks.{net_printable}
use Rattle.net_types.proofs.MarkLaws.{decimal_printable, hex_printable, mac_printable, only_weaker}
use Rattle.net_types.proofs.NameLaws.{name_printable, name_reads}
use Rattle.world.specs.declared.hooking.Poll.{Poll}
use Rattle.world.specs.declared.hooking.Poll.TheVariants.{Running, Ended}
use Rattle.world.specs.declared.reasons.Reason.{Reason}
use Rattle.world.specs.declared.reasons.Reason.TheVariants as reasons
use Rattle.world.specs.declared.rows.HostRow.{HostRow}
use Rattle.world.specs.declared.wakes.Begin.{Begin}
use Rattle.world.specs.declared.wakes.Event.{Event}
use Rattle.world.specs.declared.wakes.Event.TheVariants.{Frame, Carrier, Duplicate, Release, Rebind, Stop, Quiet, End}
use Rattle.world.specs.FileNames.{IsFileName, is_file_byte}
use Rattle.world.specs.Reasons.{reason_word}
use Rattle.world.specs.RowText.{row_text}
use Rattle.world.specs.Rows.{IsRow}
use Rattle.world.specs.StoreCalls.{Reading, Found, Missing, Unread}
use Rattle.script_model.specs.Lines.{Line, carrier_text, event_text, job_text, line_words, moment_text, outcome_text, poll_text, reading_text, start_text}
use Rattle.script_model.specs.Lines as Model
use Rattle.script_model.proofs.SpelledRows.{ip6_printable, printable_word, row_printed, spelled_printable}
use Rattle.replay_text.proofs.CarrierLaws.{begin_printable, begin_spelled, begin_words}
use Rattle.transcript_text.specs.Fits.{FitsEvent, FitsMoment, FitsPoll, FitsReading}
use Rattle.transcript_lines.specs.Bounds.{FitsTold}
use Rattle.told_texts.specs.Laws.{IsPlain}

-- ---- parts of a line

-- two parts with a blank between them
spaced : (one other : List ℕ) → IsPrintable one → IsPrintable other → IsPrintable (one ++ codes " " ++ other)
spaced one other first second = printable_word (one ++ codes " ") other (printable_word one (codes " ") first refl) second

small_plain : (number : ℕ) → number < 2 ^ 32 → IsPrintable (decimal number)
small_plain number small = decimal_printable number (omega (arith, small))

file_byte_plain : (b : ℕ) → is_file_byte b ≡ true → is_printable b ≡ true
file_byte_plain b h = grind (arith, nat_tests)

file_plain : (name : List ℕ) → IsFileName name → IsPrintable name
file_plain name fits = only_weaker is_file_byte is_printable name file_byte_plain fits

files_plain : (names : List (List ℕ)) → AllByRecursion IsFileName names → IsPrintable (flat_map (λ name. codes " " ++ name) names)
files_plain [] fit = refl
files_plain (name ∷ names) fit =
    printable_word (codes " " ++ name) (flat_map (λ n. codes " " ++ n) names) (printable_word (codes " ") name refl (file_plain name fit.0))
    (files_plain names fit.1)

-- the name of an interface
name_plain : (name : List ℕ) → IsTrue (is_name name) → IsPrintable name
unfolding name_at
name_plain name is =
    let made : Name = record { bytes = name ++ replicate (15 - length name) 0; len = length name } in
    let read = name_reads.sound name made (ap (λ b. cond b (Some made) None) is) in
    subst IsPrintable (sym read.0) (name_printable made read.1)

outcome_plain : (done : Bool) → IsPrintable (outcome_text done)
outcome_plain true = refl
outcome_plain false = refl

carrier_plain : (up : Bool) → IsPrintable (carrier_text up)
carrier_plain true = refl
carrier_plain false = refl

reading_plain : (reading : Reading) → FitsReading reading → IsPrintable (reading_text reading)
reading_plain (Found bytes) fits = hex_printable bytes fits
reading_plain Missing fits = refl
reading_plain Unread fits = refl

moment_plain : (moment : Option ℕ) → FitsMoment moment → IsPrintable (moment_text moment)
moment_plain None fits = refl
moment_plain (Some at) fits = decimal_printable at fits

poll_plain : (answer : Option Poll) → FitsPoll answer → IsPrintable (poll_text answer)
poll_plain (Some Running) fits = refl
poll_plain (Some (Ended status)) fits = printable_word (codes "ended ") (decimal status) refl (small_plain status fits)
poll_plain None fits = refl

reason_plain : (reason : Reason) → IsPrintable (reason_word reason)
reason_plain reasons.Preinit = refl
reason_plain _ = refl

job_plain : (number : ℕ) (reason : Reason) (name : List ℕ) → number < 2 ^ 64 → IsTrue (is_name name) → IsPrintable (job_text number reason name)
job_plain number reason name small is =
    spaced (decimal number ++ codes " " ++ reason_word reason) name
    (spaced (decimal number) (reason_word reason) (decimal_printable number small) (reason_plain reason)) (name_plain name is)

row_plain : (row : HostRow) → IsRow row → IsPrintable (row_text row)
row_plain row is = spelled_printable (row_text row) row is (row_printed row is)

event_plain : (event : Event) (bytes : List ℕ) → FitsEvent event bytes → IsPrintable (event_text event bytes)
event_plain (Frame iface len) bytes fits =
    spaced (codes "frame " ++ decimal iface) (hex_text bytes) (printable_word (codes "frame ") (decimal iface) refl (small_plain iface fits.0))
    (hex_printable bytes fits.2)
event_plain (Carrier iface up) bytes fits =
    spaced (codes "carrier " ++ decimal iface) (carrier_text up) (printable_word (codes "carrier ") (decimal iface) refl (small_plain iface fits.0))
    (carrier_plain up)
event_plain (Duplicate iface addr) bytes fits =
    spaced (codes "dup " ++ decimal iface) (ip6_text addr) (printable_word (codes "dup ") (decimal iface) refl (small_plain iface fits.0))
    (ip6_printable (ip6_text addr) addr (ip6_printed addr fits.1))
event_plain (Release iface) bytes fits = printable_word (codes "release ") (decimal iface) refl (small_plain iface fits.0)
event_plain (Rebind iface) bytes fits = printable_word (codes "rebind ") (decimal iface) refl (small_plain iface fits.0)
event_plain Stop bytes fits = refl
event_plain Quiet bytes fits = refl
event_plain End bytes fits = absurd fits

-- ---- lines

start_plain : (begin : Begin) → FitsTold (Model.Start begin) → IsPrintable (start_text begin)
start_plain begin told =
    subst IsPrintable (sym (begin_spelled begin))
    (printable_word (codes "start ") (begin_words begin) refl
    (begin_printable 64 begin (omega arith)
    (record { at = ltb-true begin.at (10 ^ 15) told.told; salt = told.fits.1; up = told.fits.2 })))

-- a word, a row, and whether the call was done
change_plain : (word : List ℕ) (row : HostRow) (done : Bool) → IsPrintable word → IsRow row
    → IsPrintable (word ++ row_text row ++ codes " " ++ outcome_text done)
change_plain word row done plain is =
    spaced (word ++ row_text row) (outcome_text done) (printable_word word (row_text row) plain (row_plain row is)) (outcome_plain done)

-- a word, a file, and whether the call was done
filed_plain : (word name : List ℕ) (done : Bool) → IsPrintable word → IsFileName name
    → IsPrintable (word ++ name ++ codes " " ++ outcome_text done)
filed_plain word name done plain fits =
    spaced (word ++ name) (outcome_text done) (printable_word word name plain (file_plain name fits)) (outcome_plain done)

pub line_plain : (line : Line) → FitsTold line → IsPlain line → IsPrintable (line_words line)
unfolding line_words
line_plain Model.Head told plain = absurd (false≢true told.told)
line_plain (Model.Conf text) told plain = absurd (false≢true told.told)
line_plain (Model.Notice line word) told plain = absurd (false≢true told.told)
line_plain (Model.Interface spec) told plain =
    let named = codes "if " ++ decimal spec.index.number ++ codes " " ++ name_text spec.name in
    spaced named (mac_text spec.mac)
    (spaced (codes "if " ++ decimal spec.index.number) (name_text spec.name)
    (printable_word (codes "if ") (decimal spec.index.number) refl (small_plain spec.index.number told.fits.0)) (name_printable spec.name told.fits.1))
    (mac_printable spec.mac told.fits.2)
line_plain (Model.Life number) told plain = printable_word (codes "life ") (decimal number) refl (decimal_printable number told.fits)
line_plain (Model.Start begin) told plain = start_plain begin told
line_plain (Model.Asides names) told plain =
    printable_word (codes "store list ok") (flat_map (λ name. codes " " ++ name) names) refl (files_plain names told.fits)
line_plain Model.AsidesFailed told plain = refl
line_plain (Model.Wrote name bytes done) told plain =
    spaced (codes "store write " ++ name ++ codes " " ++ hex_text bytes) (outcome_text done)
    (spaced (codes "store write " ++ name) (hex_text bytes) (printable_word (codes "store write ") name refl (file_plain name told.fits.0))
    (hex_printable bytes told.fits.1)) (outcome_plain done)
line_plain (Model.Synced name done) told plain = filed_plain (codes "store sync ") name done refl told.fits
line_plain (Model.Renamed name done) told plain = filed_plain (codes "store rename ") name done refl told.fits
line_plain (Model.Removed name done) told plain = filed_plain (codes "store remove ") name done refl told.fits
line_plain (Model.Settled done) told plain = printable_word (codes "store settle ") (outcome_text done) refl (outcome_plain done)
line_plain (Model.Read name reading) told plain =
    spaced (codes "store read " ++ name) (reading_text reading) (printable_word (codes "store read ") name refl (file_plain name told.fits.0))
    (reading_plain reading told.fits.1)
line_plain (Model.Turn at salt event bytes) told plain =
    spaced (codes "turn " ++ decimal at ++ codes " " ++ decimal salt) (event_text event bytes)
    (spaced (codes "turn " ++ decimal at) (decimal salt) (printable_word (codes "turn ") (decimal at) refl (decimal_printable at told.fits.0))
    (decimal_printable salt told.fits.1)) (event_plain event bytes told.fits.2)
line_plain (Model.HookPolled number answer) told plain =
    spaced (codes "hook poll " ++ decimal number) (poll_text answer)
    (printable_word (codes "hook poll ") (decimal number) refl (decimal_printable number told.fits.0)) (poll_plain answer told.fits.1)
line_plain (Model.HookAbandoned number) told plain = printable_word (codes "hook abandon ") (decimal number) refl (decimal_printable number told.fits)
line_plain (Model.HookDropped number reason name) told plain =
    printable_word (codes "hook drop ") (job_text number reason name) refl (job_plain number reason name told.fits.0 told.fits.1)
line_plain (Model.HookStarted number reason name done) told plain =
    spaced (codes "hook start " ++ job_text number reason name) (outcome_text done)
    (printable_word (codes "hook start ") (job_text number reason name) refl (job_plain number reason name told.fits.0 told.fits.1)) (outcome_plain done)
line_plain (Model.Variable name value) told plain =
    printable_word (codes "var " ++ name ++ codes "=") value
    (printable_word (codes "var " ++ name) (codes "=") (printable_word (codes "var ") name refl plain.0) refl) plain.1
line_plain (Model.Send iface bytes taken) told plain =
    spaced (codes "send " ++ decimal iface.number ++ codes " " ++ hex_text bytes) (outcome_text taken)
    (spaced (codes "send " ++ decimal iface.number) (hex_text bytes)
    (printable_word (codes "send ") (decimal iface.number) refl (small_plain iface.number told.fits.0)) (hex_printable bytes told.fits.1)) (outcome_plain taken)
line_plain (Model.HostListed count) told plain = printable_word (codes "host list ok ") (decimal count) refl (decimal_printable count told.fits)
line_plain (Model.Row row) told plain = printable_word (codes "row ") (row_text row) refl (row_plain row told.fits)
line_plain Model.HostListFailed told plain = refl
line_plain (Model.HostDel row done) told plain = change_plain (codes "host del ") row done refl told.fits
line_plain (Model.HostAdd row done) told plain = change_plain (codes "host add ") row done refl told.fits
line_plain (Model.Until moment) told plain = printable_word (codes "until ") (moment_text moment) refl (moment_plain moment told.fits)
line_plain (Model.Hold iface net) told plain =
    spaced (codes "hold addr " ++ decimal iface.number) (net_text net)
    (printable_word (codes "hold addr ") (decimal iface.number) refl (small_plain iface.number told.fits.0)) (net_printable net told.fits.1)
line_plain Model.EndOfLife told plain = refl
