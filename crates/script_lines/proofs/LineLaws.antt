-- The lines `if`, `fail` and `turn`: what is read is spelled so, and what is spelled so is read.
use Rattle.std.proofs.Common.{◌≡◌, ℕ, ◌^◌, ◌<◌, Bool, true, false, cond, List, [], ◌∷◌, ◌++◌, Some, None, refl, sym, ap, ◌∙◌, subst, arith, codes, inl, inr, bytes_eq, leb, length, IsTrue}
use Rattle.std.specs.Fmt.{decimal}
use Rattle.std.specs.List.{AllByRecursion}
use Rattle.std.proofs.lemmas.Bool.{leb-true, le-leb}
use Rattle.std.proofs.lemmas.List.{append_assoc}
use Rattle.std.proofs.lemmas.Slice.Eq.{bytes_eq-Decides}
use Rattle.net_types.specs.declared.interface.IfIndex.{IfIndex}
use Rattle.net_types.specs.declared.interface.IfSpec.{IfSpec}
use Rattle.net_types.specs.declared.interface.Name.{Name}
use Rattle.net_types.specs.declared.address.Ip6.{Ip6}
use Rattle.net_types.specs.declared.address.Mac.{Mac}
use Rattle.net_types.specs.Reads.{Reads}
use Rattle.net_types.specs.Marks.{Lacks, AreBytes, IsPrintable, is_printable}
use Rattle.net_types.specs.AddressText.{mac_text, FitsMac}
use Rattle.net_types.specs.NameText.{name_text, FitsName}
use Rattle.net_types.specs.HexText.{hex_text}
use Rattle.net_types.specs.Cutting.{strip_word, pair_at}
use Rattle.net_types.specs.Ip6Text.{SpellsIp6}
use Rattle.net_types.proofs.ReadsLaws.{some_same, pair_reads, map_reads, guard_reads, end_reads}
use Rattle.net_types.proofs.ChoiceLaws.{ChoiceSound, Chosen, part_sound, part_chosen, choose_reads}
use Rattle.net_types.proofs.NumberLaws.{number_reads}
use Rattle.net_types.proofs.NameLaws.{name_reads, name_lacks, name_printable}
use Rattle.net_types.proofs.AddressLaws.{mac_reads}
use Rattle.net_types.proofs.HexLaws.{hex_reads}
use Rattle.net_types.proofs.Ip6Laws.{ip6_found, ip6_whole}
use Rattle.net_types.proofs.MarkLaws.{decimal_lacks, decimal_printable, hex_printable, mac_printable, only-append}
use Rattle.world.specs.declared.wakes.Event.{Event}
use Rattle.world.specs.declared.wakes.Event.TheVariants.{Frame, Carrier, Duplicate, Release, Rebind, Stop, Quiet, End}
use Rattle.world.specs.LinkCalls.{Given}
use Rattle.script_model.specs.declared.failing.FailDevice.{FailDevice}
use Rattle.script_model.specs.declared.failing.FailDevice.TheVariants.{Link, Store, Host, Hooks}
use Rattle.script_model.specs.declared.failing.FailLine.{FailLine}
use Rattle.script_model.specs.Lines.{carrier_text, event_text, interface_text}
use Rattle.script_model.specs.FailingCalls.{device_text, fail_text, FitsFail}
use Rattle.script_model.specs.Scripts.{FitsEvent, frame_room, FitsBytes, FitsGiven}
use Rattle.script_model.specs.TurnSpellings.{SpellsEvent, SpellsGiven}
use Rattle.script_model.proofs.SpelledRows.{ip6_printable}
use Rattle.row_texts.specs.RowReading.{iface_at}
use Rattle.script_lines.specs.LineReading.{spec_at, call_at, failing, devices, fail_at}
use Rattle.script_lines.specs.TurnReading.{moment_at, salt_at, switch_at, Came, without_bytes, frame_bytes_at, frame_at, inputs, input_at, duplicate_at, came_at, turn_at}
use Rattle.row_texts.proofs.RowLaws.{FitsIface, iface_text, iface_reads, iface_lacks, SpellsIface, iface_finds, iface_apart}
use Rattle.row_texts.proofs.SpellingLaws.{Finds, OneText, one_text, same_finds, Made, map_finds, After, Parted, pair_finds, OneOf, choice_finds}
use Rattle.script_lines.proofs.Printables.{joined_printable, iface_printable}

-- ---- interfaces

abbrev Parts : Type 0
Parts = IfIndex × (Name × Mac)

abbrev pub spec_text : IfSpec → List ℕ
spec_text spec = iface_text spec.index ++ 32 ∷ (name_text spec.name ++ 32 ∷ mac_text spec.mac)

pub record FitsSpec (spec : IfSpec) : Type 0 where
  pub index : FitsIface spec.index
  pub name : FitsName spec.name
  pub mac : FitsMac spec.mac

pub spec_reads : Reads spec_text FitsSpec spec_at
unfolding spec_at
spec_reads =
    map_reads (λ (p : Parts). record { index = p.0; name = p.1.0; mac = p.1.1 }) (λ spec. (spec.index, (spec.name, spec.mac)))
    (pair_reads 32 iface_reads (pair_reads 32 name_reads mac_reads (λ name fits. name_lacks name 32 fits refl)) iface_lacks)
    (λ p fits. refl)
    (λ spec fits. refl)
    (λ p fits. record { index = fits.0; name = fits.1.0; mac = fits.1.1 })
    (λ spec fits. (fits.index, (fits.name, fits.mac)))

pub spec_spelled : (spec : IfSpec) → interface_text spec ≡ codes "if " ++ spec_text spec
spec_spelled spec = simp append_assoc

pub spec_printable : (spec : IfSpec) → FitsSpec spec → IsPrintable (spec_text spec)
spec_printable spec fits =
    joined_printable (iface_text spec.index) (name_text spec.name ++ 32 ∷ mac_text spec.mac) (iface_printable spec.index fits.index)
    (joined_printable (name_text spec.name) (mac_text spec.mac) (name_printable spec.name fits.name) (mac_printable spec.mac fits.mac))

-- ---- calls that fail

abbrev IsCall : ℕ → Type 0
IsCall n = (n < 2 ^ 64) × IsTrue (leb 1 n)

call_reads : Reads decimal IsCall call_at
unfolding call_at
call_reads = guard_reads (λ n. leb 1 n) (number_reads (2 ^ 64) (omega arith))

abbrev pub fail_words : FailLine → List ℕ
fail_words fail = device_text fail.device ++ 32 ∷ decimal fail.number

fail_fits : (device : FailDevice) (n : ℕ) → IsCall n → FitsFail (failing device n)
fail_fits device n fits = record { first = leb-true _ _ fits.1; bits = fits.0 }

fail_chosen : (device : FailDevice) (n : ℕ) → FitsFail (failing device n) → Chosen devices fail_words (failing device n)
fail_chosen Link n fits = part_chosen devices fail_words 0 (codes "link ") (failing Link) n call_reads refl refl (fits.bits, le-leb _ _ fits.first)
fail_chosen Store n fits = part_chosen devices fail_words 1 (codes "store ") (failing Store) n call_reads refl refl (fits.bits, le-leb _ _ fits.first)
fail_chosen Host n fits = part_chosen devices fail_words 2 (codes "host ") (failing Host) n call_reads refl refl (fits.bits, le-leb _ _ fits.first)
fail_chosen Hooks n fits = part_chosen devices fail_words 3 (codes "hooks ") (failing Hooks) n call_reads refl refl (fits.bits, le-leb _ _ fits.first)

pub fail_reads : Reads fail_words FitsFail fail_at
unfolding fail_at
fail_reads = choose_reads devices refl sounds (λ fail fits. fail_chosen fail.device fail.number fits)
  where
    sounds : AllByRecursion (ChoiceSound fail_words FitsFail) devices
    sounds = (
      part_sound fail_words FitsFail (codes "link ") (failing Link) call_reads (λ n. refl) (λ n fits. fail_fits Link n fits),
      (
        part_sound fail_words FitsFail (codes "store ") (failing Store) call_reads (λ n. refl) (λ n fits. fail_fits Store n fits),
        (
          part_sound fail_words FitsFail (codes "host ") (failing Host) call_reads (λ n. refl) (λ n fits. fail_fits Host n fits),
          (part_sound fail_words FitsFail (codes "hooks ") (failing Hooks) call_reads (λ n. refl) (λ n fits. fail_fits Hooks n fits), tt),
        ),
      ),
    )

pub fail_spelled : (fail : FailLine) → fail_text fail ≡ codes "fail " ++ fail_words fail
fail_spelled fail = simp append_assoc

device_printable : (device : FailDevice) → IsPrintable (device_text device)
device_printable Link = refl
device_printable Store = refl
device_printable Host = refl
device_printable Hooks = refl

pub fail_printable : (fail : FailLine) → FitsFail fail → IsPrintable (fail_words fail)
fail_printable fail fits =
    joined_printable (device_text fail.device) (decimal fail.number) (device_printable fail.device) (decimal_printable fail.number fits.bits)

-- ---- moments and random words

pub moment_reads : Reads decimal (λ n. n < 10 ^ 15) moment_at
unfolding moment_at
moment_reads = number_reads (10 ^ 15) (omega arith)

pub moment_lacks : (n : ℕ) → n < 10 ^ 15 → Lacks 32 (decimal n)
moment_lacks n small = decimal_lacks n 32 (omega arith) refl

pub salt_reads : Reads decimal (λ n. n < 2 ^ 64) salt_at
unfolding salt_at
salt_reads = number_reads (2 ^ 64) (omega arith)

pub salt_lacks : (n : ℕ) → n < 2 ^ 64 → Lacks 32 (decimal n)
salt_lacks n small = decimal_lacks n 32 small refl

-- ---- what came

down_sound : (text : List ℕ) (x : Bool) → cond (bytes_eq text (codes "down")) (Some false) None ≡ Some x → text ≡ carrier_text x
down_sound text x e =
    elim (bytes_eq text (codes "down")) as (λ b. bytes_eq text (codes "down") ≡ b → cond b (Some false) None ≡ Some x → text ≡ carrier_text x) [
      | true ↦ λ t q. (bytes_eq-Decides _ _).0 t ∙ ap carrier_text (some_same q)
      | false ↦ λ t q. let never : ⊥ = cc in absurd never
    ] refl e

switch_sound : (text : List ℕ) (x : Bool) → switch_at text ≡ Some x → text ≡ carrier_text x
unfolding switch_at
switch_sound text x e =
    elim (bytes_eq text (codes "up")) as
    (λ b. bytes_eq text (codes "up") ≡ b → cond b (Some true) (cond (bytes_eq text (codes "down")) (Some false) None) ≡ Some x → text ≡ carrier_text x) [
      | true ↦ λ t q. (bytes_eq-Decides _ _).0 t ∙ ap carrier_text (some_same q)
      | false ↦ λ t q. down_sound text x q
    ] refl e

switch_whole : (x : Bool) → switch_at (carrier_text x) ≡ Some x
unfolding switch_at
switch_whole true = refl
switch_whole false = refl

pub switch_reads : Reads carrier_text (λ up. Unit {0}) switch_at
switch_reads = record { sound = λ text x e. (switch_sound text x e, tt); whole = λ x fits. switch_whole x }

abbrev Switch : Type 0
Switch = IfIndex × Bool

switches_reads : Reads (λ (p : Switch). iface_text p.0 ++ 32 ∷ carrier_text p.1) (λ p. FitsIface p.0 × Unit {0}) (pair_at 32 iface_at switch_at)
switches_reads = pair_reads 32 iface_reads switch_reads iface_lacks

abbrev came_words : Came → List ℕ
came_words came = event_text came.0 came.1

abbrev FitsCame : Came → Type 0
FitsCame came = FitsEvent 64 came.0 × FitsBytes came.0 came.1

abbrev HasOneText : Event → Type 0
HasOneText (Duplicate iface addr) = ⊥
HasOneText event = Unit {0}

abbrev FitsInput : Came → Type 0
FitsInput came = FitsCame came × HasOneText came.0

abbrev carried : Switch → Came
carried p = without_bytes (Carrier p.0.number p.1)

carrier_spelled : (p : Switch) → came_words (carried p) ≡ codes "carrier " ++ (iface_text p.0 ++ 32 ∷ carrier_text p.1)
carrier_spelled p = simp append_assoc

abbrev released : IfIndex → Came
released iface = without_bytes (Release iface.number)

abbrev rebound : IfIndex → Came
rebound iface = without_bytes (Rebind iface.number)

-- an interface and bytes that its frame has room for
abbrev Framed : Type 0
Framed = IfIndex × List ℕ

abbrev framed : Framed → Came
framed p = (Frame p.0.number (length p.1), p.1)

abbrev has_room : List ℕ → Bool
has_room bytes = leb (length bytes) frame_room

abbrev FitsRoom : List ℕ → Type 0
FitsRoom bytes = AreBytes bytes × IsTrue (has_room bytes)

frame_bytes_reads : Reads hex_text FitsRoom frame_bytes_at
unfolding frame_bytes_at
frame_bytes_reads = guard_reads has_room hex_reads

framed_reads : Reads (λ (p : Framed). iface_text p.0 ++ 32 ∷ hex_text p.1) (λ p. FitsIface p.0 × FitsRoom p.1) (pair_at 32 iface_at frame_bytes_at)
framed_reads = pair_reads 32 iface_reads frame_bytes_reads iface_lacks

frame_spelled : (p : Framed) → came_words (framed p) ≡ codes "frame " ++ (iface_text p.0 ++ 32 ∷ hex_text p.1)
frame_spelled p = simp append_assoc

frame_fits : (p : Framed) → FitsIface p.0 × FitsRoom p.1 → FitsInput (framed p)
frame_fits p fits = ((fits.0, record { whole = refl; room = leb-true _ _ fits.1.1; octets = fits.1.0 }), tt)

inputs_sound : AllByRecursion (ChoiceSound came_words FitsInput) inputs
unfolding frame_at
inputs_sound = (
  part_sound came_words FitsInput (codes "frame ") framed framed_reads frame_spelled frame_fits,
  (
    part_sound came_words FitsInput (codes "quiet") (λ none. without_bytes Quiet) end_reads (λ none. refl) (λ none fits. ((tt, refl), tt)),
    (
      part_sound came_words FitsInput (codes "stop") (λ none. without_bytes Stop) end_reads (λ none. refl) (λ none fits. ((tt, refl), tt)),
      (
        part_sound came_words FitsInput (codes "carrier ") carried switches_reads carrier_spelled (λ p fits. ((fits.0, refl), tt)),
        (
          part_sound came_words FitsInput (codes "release ") released iface_reads (λ iface. refl) (λ iface fits. ((fits, refl), tt)),
          (part_sound came_words FitsInput (codes "rebind ") rebound iface_reads (λ iface. refl) (λ iface fits. ((fits, refl), tt)), tt),
        ),
      ),
    ),
  ),
)

abbrev HasInput : Came → Type 0
HasInput came = Chosen inputs came_words came

plain_input : (event : Event) (bytes : List ℕ) → bytes ≡ [] → HasInput (without_bytes event) → HasInput (event, bytes)
plain_input event bytes none chosen = subst (λ b. HasInput (event, b)) (sym none) chosen

input_chosen : (event : Event) (bytes : List ℕ) → FitsCame (event, bytes) → HasOneText event → HasInput (event, bytes)
unfolding frame_at
input_chosen (Frame iface len) bytes fits one =
    let frame = fits.1 in
    let p : Framed = (record { number = iface }, bytes) in
    subst (λ n. HasInput (Frame iface n, bytes)) (sym frame.whole)
    (part_chosen inputs came_words 0 (codes "frame ") framed p framed_reads refl (frame_spelled p) (fits.0, (frame.octets, le-leb _ _ frame.room)))
input_chosen (Carrier iface up) bytes fits one =
    let p : Switch = (record { number = iface }, up) in
    plain_input (Carrier iface up) bytes fits.1
    (part_chosen inputs came_words 3 (codes "carrier ") carried p switches_reads refl (carrier_spelled p) (fits.0, tt))
input_chosen (Duplicate iface addr) bytes fits one = absurd one
input_chosen (Release iface) bytes fits one =
    plain_input (Release iface) bytes fits.1
    (part_chosen inputs came_words 4 (codes "release ") released (record { number = iface }) iface_reads refl refl fits.0)
input_chosen (Rebind iface) bytes fits one =
    plain_input (Rebind iface) bytes fits.1 (part_chosen inputs came_words 5 (codes "rebind ") rebound (record { number = iface }) iface_reads refl refl fits.0)
input_chosen Stop bytes fits one =
    plain_input Stop bytes fits.1 (part_chosen inputs came_words 2 (codes "stop") (λ none. without_bytes Stop) tt end_reads refl refl tt)
input_chosen Quiet bytes fits one =
    plain_input Quiet bytes fits.1 (part_chosen inputs came_words 1 (codes "quiet") (λ none. without_bytes Quiet) tt end_reads refl refl tt)
input_chosen End bytes fits one = absurd fits.0

input_reads : Reads came_words FitsInput input_at
unfolding input_at
input_reads = choose_reads inputs refl inputs_sound (λ came fits. input_chosen came.0 came.1 fits.0 fits.1)

-- ---- duplicates, whose address has any spelling

abbrev Duplicated : Type 0
Duplicated = IfIndex × Ip6

abbrev duplicated : Duplicated → Came
duplicated p = without_bytes (Duplicate p.0.number p.1)

abbrev DuplicateWords : List ℕ → Duplicated → Type 0
DuplicateWords = Parted 32 SpellsIface SpellsIp6

duplicate_finds : Finds (Made duplicated DuplicateWords) duplicate_at
duplicate_finds = map_finds duplicated (pair_finds 32 iface_finds (record { sound = ip6_found; whole = ip6_whole }) iface_apart)

duplicate_grouped : (iface address : List ℕ) → codes "dup " ++ iface ++ codes " " ++ address ≡ codes "dup " ++ (iface ++ 32 ∷ address)
duplicate_grouped iface address = simp append_assoc

-- the text is one of what came
abbrev IsCame : List ℕ → Came → Type 0
IsCame text came = SpellsEvent text came.0 came.1 × FitsCame came

abbrev AnyCame : List ℕ → Came → Type 0
AnyCame = OneOf (After (codes "dup ") (Made duplicated DuplicateWords)) (OneText came_words FitsInput)

duplicate_to : (text words : List ℕ) (p : Duplicated) → text ≡ codes "dup " ++ words → DuplicateWords words p → IsCame text (duplicated p)
duplicate_to text words p spelled parts =
    let whole : text ≡ codes "dup " ++ (decimal p.0.number ++ 32 ∷ parts.back) =
    spelled ∙ ap (λ w. codes "dup " ++ w) (parts.spelled ∙ ap (λ f. f ++ 32 ∷ parts.back) parts.first.0) in
    let address = parts.second in (
      record { address = parts.back; spelled = whole ∙ sym (duplicate_grouped (decimal p.0.number) parts.back); spells = address },
      ((parts.first.1, address.range), refl),
    )

input_to : (text : List ℕ) (event : Event) (bytes : List ℕ) → OneText came_words FitsInput text (event, bytes) → IsCame text (event, bytes)
input_to text (Frame iface len) bytes one = (one.0, one.1.0)
input_to text (Carrier iface up) bytes one = (one.0, one.1.0)
input_to text (Duplicate iface addr) bytes one = absurd one.1.1
input_to text (Release iface) bytes one = (one.0, one.1.0)
input_to text (Rebind iface) bytes one = (one.0, one.1.0)
input_to text Stop bytes one = (one.0, one.1.0)
input_to text Quiet bytes one = (one.0, one.1.0)
input_to text End bytes one = (one.0, one.1.0)

came_to : (text : List ℕ) (came : Came) → AnyCame text came → IsCame text came
came_to text came (inl after) =
    let made = after.spells in
    subst (IsCame text) made.makes (duplicate_to text after.words made.value after.spelled made.spells)
came_to text came (inr one) = input_to text came.0 came.1 one

came_from : (text : List ℕ) (event : Event) (bytes : List ℕ) → IsCame text (event, bytes) → AnyCame text (event, bytes)
came_from text (Frame iface len) bytes is = inr (is.0, (is.1, tt))
came_from text (Carrier iface up) bytes is = inr (is.0, (is.1, tt))
came_from text (Duplicate iface addr) bytes is =
    let spells = is.0 in
    let words : DuplicateWords (decimal iface ++ 32 ∷ spells.address) (record { number = iface }, addr) = record {
      front = decimal iface;
      back = spells.address;
      spelled = refl;
      first = (refl, is.1.0.0);
      second = spells.spells;
    } in
    inl (record {
      words = decimal iface ++ 32 ∷ spells.address;
      spelled = spells.spelled ∙ duplicate_grouped (decimal iface) spells.address;
      spells = record { value = (record { number = iface }, addr); makes = ap (λ b. (Duplicate iface addr, b)) (sym is.1.1); spells = words };
    })
came_from text (Release iface) bytes is = inr (is.0, (is.1, tt))
came_from text (Rebind iface) bytes is = inr (is.0, (is.1, tt))
came_from text Stop bytes is = inr (is.0, (is.1, tt))
came_from text Quiet bytes is = inr (is.0, (is.1, tt))
came_from text End bytes is = inr (is.0, (is.1, tt))

event_apart : (event : Event) (bytes : List ℕ) → HasOneText event → strip_word (codes "dup ") (event_text event bytes) ≡ None
unfolding strip_word
event_apart (Frame iface len) bytes one = refl
event_apart (Carrier iface up) bytes one = refl
event_apart (Duplicate iface addr) bytes one = absurd one
event_apart (Release iface) bytes one = refl
event_apart (Rebind iface) bytes one = refl
event_apart Stop bytes one = refl
event_apart Quiet bytes one = refl
event_apart End bytes one = refl

input_apart : (text : List ℕ) (came : Came) → OneText came_words FitsInput text came → strip_word (codes "dup ") text ≡ None
input_apart text came one = ap (strip_word (codes "dup ")) one.0 ∙ event_apart came.0 came.1 one.1.1

came_finds : Finds IsCame came_at
unfolding came_at
came_finds =
    same_finds IsCame came_to (λ text came is. came_from text came.0 came.1 is) (choice_finds (codes "dup ") duplicate_finds (one_text input_reads) input_apart)

up_printable : (up : Bool) → IsPrintable (carrier_text up)
up_printable true = refl
up_printable false = refl

came_printable : (text : List ℕ) (event : Event) (bytes : List ℕ) → IsCame text (event, bytes) → IsPrintable text
came_printable text (Frame iface len) bytes is =
    subst IsPrintable (sym (is.0 ∙ frame_spelled (record { number = iface }, bytes)))
    (only-append is_printable (codes "frame ") (decimal iface ++ 32 ∷ hex_text bytes) refl
    (joined_printable (decimal iface) (hex_text bytes) (iface_printable (record { number = iface }) is.1.0)
    (let frame = is.1.1 in hex_printable bytes frame.octets)))
came_printable text (Carrier iface up) bytes is =
    subst IsPrintable (sym (is.0 ∙ carrier_spelled (record { number = iface }, up)))
    (only-append is_printable (codes "carrier ") (decimal iface ++ 32 ∷ carrier_text up) refl
    (joined_printable (decimal iface) (carrier_text up) (iface_printable (record { number = iface }) is.1.0) (up_printable up)))
came_printable text (Duplicate iface addr) bytes is =
    let spells = is.0 in
    subst IsPrintable (sym (spells.spelled ∙ duplicate_grouped (decimal iface) spells.address))
    (only-append is_printable (codes "dup ") (decimal iface ++ 32 ∷ spells.address) refl
    (joined_printable (decimal iface) spells.address (iface_printable (record { number = iface }) is.1.0.0) (ip6_printable spells.address addr spells.spells)))
came_printable text (Release iface) bytes is =
    subst IsPrintable (sym is.0) (only-append is_printable (codes "release ") (decimal iface) refl (iface_printable (record { number = iface }) is.1.0))
came_printable text (Rebind iface) bytes is =
    subst IsPrintable (sym is.0) (only-append is_printable (codes "rebind ") (decimal iface) refl (iface_printable (record { number = iface }) is.1.0))
came_printable text Stop bytes is = subst IsPrintable (sym is.0) refl
came_printable text Quiet bytes is = subst IsPrintable (sym is.0) refl
came_printable text End bytes is = absurd is.1.0

-- ---- turns

abbrev Turn : Type 0
Turn = ℕ × (ℕ × Came)

abbrev turn_given : Turn → Given
turn_given p = record { wake = record { at = p.0; salt = p.1.0; event = p.1.1.0 }; bytes = p.1.1.1 }

abbrev given_turn : Given → Turn
given_turn given = (given.wake.at, (given.wake.salt, (given.wake.event, given.bytes)))

abbrev pub turn_words : Given → List ℕ → List ℕ
turn_words given event = decimal given.wake.at ++ 32 ∷ (decimal given.wake.salt ++ 32 ∷ event)

-- the words after the first one
pub record SpellsTurn (text : List ℕ) (given : Given) : Type 0 where
  pub event : List ℕ
  pub spelled : text ≡ turn_words given event
  pub spells : SpellsEvent event given.wake.event given.bytes
  pub fits : FitsGiven 64 given

abbrev SpellsMoment : List ℕ → ℕ → Type 0
SpellsMoment = OneText decimal (λ n. n < 10 ^ 15)

abbrev SpellsSalt : List ℕ → ℕ → Type 0
SpellsSalt = OneText decimal (λ n. n < 2 ^ 64)

moment_apart : (text : List ℕ) (n : ℕ) → SpellsMoment text n → Lacks 32 text
moment_apart text n spells = subst (Lacks 32) (sym spells.0) (moment_lacks n spells.1)

salt_apart : (text : List ℕ) (n : ℕ) → SpellsSalt text n → Lacks 32 text
salt_apart text n spells = subst (Lacks 32) (sym spells.0) (salt_lacks n spells.1)

abbrev TurnWords : List ℕ → Turn → Type 0
TurnWords = Parted 32 SpellsMoment (Parted 32 SpellsSalt IsCame)

turn_to : (text : List ℕ) (given : Given) → Made turn_given TurnWords text given → SpellsTurn text given
turn_to text given made =
    let parts = made.spells in
    let others = parts.second in
    subst (SpellsTurn text) made.makes (record {
      event = others.back;
      spelled =
          parts.spelled
          ∙ ap (λ f. f ++ 32 ∷ parts.back) parts.first.0
          ∙ ap (λ b. decimal made.value.0 ++ 32 ∷ b) (others.spelled ∙ ap (λ f. f ++ 32 ∷ others.back) others.first.0);
      spells = others.second.0;
      fits = record { at = parts.first.1; salt = others.first.1; event = others.second.1.0; bytes = others.second.1.1 };
    })

turn_from : (text : List ℕ) (given : Given) → SpellsTurn text given → Made turn_given TurnWords text given
turn_from text given spells =
    let fits = spells.fits in
    record {
      value = given_turn given;
      makes = refl;
      spells = record {
        front = decimal given.wake.at;
        back = decimal given.wake.salt ++ 32 ∷ spells.event;
        spelled = spells.spelled;
        first = (refl, fits.at);
        second = record {
          front = decimal given.wake.salt;
          back = spells.event;
          spelled = refl;
          first = (refl, fits.salt);
          second = (spells.spells, (fits.event, fits.bytes));
        };
      };
    }

pub turn_finds : Finds SpellsTurn turn_at
unfolding turn_at
turn_finds =
    same_finds SpellsTurn turn_to turn_from
    (map_finds turn_given (pair_finds 32 (one_text moment_reads) (pair_finds 32 (one_text salt_reads) came_finds salt_apart) moment_apart))

turn_grouped : (at salt event : List ℕ) → codes "turn " ++ at ++ codes " " ++ salt ++ codes " " ++ event ≡ codes "turn " ++ (at ++ 32 ∷ (salt ++ 32 ∷ event))
turn_grouped at salt event = simp append_assoc

-- a line is the first word and these
pub turn_spelled : (line : List ℕ) (given : Given) (spells : SpellsGiven line given) → line ≡ codes "turn " ++ turn_words given spells.event
turn_spelled line given spells = spells.spelled ∙ turn_grouped (decimal given.wake.at) (decimal given.wake.salt) spells.event

pub turn_line : (text : List ℕ) (given : Given) → SpellsTurn text given → SpellsGiven (codes "turn " ++ text) given
turn_line text given spells = record {
  event = spells.event;
  spelled = ap (λ t. codes "turn " ++ t) spells.spelled ∙ sym (turn_grouped (decimal given.wake.at) (decimal given.wake.salt) spells.event);
  spells = spells.spells;
}

pub turn_printable : (text : List ℕ) (given : Given) → SpellsTurn text given → IsPrintable text
turn_printable text given spells =
    let fits = spells.fits in
    let small : given.wake.at < 10 ^ 15 = fits.at in
    subst IsPrintable (sym spells.spelled)
    (joined_printable (decimal given.wake.at) (decimal given.wake.salt ++ 32 ∷ spells.event) (decimal_printable given.wake.at (omega arith))
    (joined_printable (decimal given.wake.salt) spells.event (decimal_printable given.wake.salt fits.salt)
    (came_printable spells.event given.wake.event given.bytes (spells.spells, (fits.event, fits.bytes)))))
