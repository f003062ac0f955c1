-- The script that a capture means: one interface with carrier, and a turn for each frame that came to it.
use Rattle.std.specs.Prelude.{ℕ, ◌≡◌, Bool, not, ◌&&◌, nat_le, bytes_eq, List, [], ◌∷◌, ◌++◌, length, map, filter, None, Ok, Err}
use Rattle.net_types.specs.declared.address.Mac.{Mac}
use Rattle.net_types.specs.declared.interface.IfSpec.{IfSpec}
use Rattle.net_types.specs.declared.interface.Name.{Name}
use Rattle.net_types.specs.FirstBadLine.{IsSpelled}
use Rattle.net_types.specs.AddressText.{FitsMac}
use Rattle.net_types.specs.Fields.{field}
use Rattle.net_types.specs.NameText.{FitsName}
use Rattle.net_types.specs.TextLines.{Line, lines_text}
use Rattle.world.specs.declared.wakes.Event.TheVariants.{Frame}
use Rattle.world.specs.declared.wakes.Begin.{Begin}
use Rattle.world.specs.LinkCalls.{Given}
use Rattle.script_model.specs.Lines.{interface_text, start_text}
use Rattle.script_model.specs.ScriptTexts.{ScriptLines, LifeScript, given_text}
use Rattle.replay_text.specs.LinesInOrder.{SpellsScript, head_line}
use Rattle.capture_script.specs.declared.forms.Form.{Form}
use Rattle.capture_script.specs.declared.packets.TheConstants.{FRAME_ROOM}
use Rattle.capture_script.specs.declared.script.ImportAnswer.{ImportAnswer}
use Rattle.capture_script.specs.declared.script.ImportAnswer.TheVariants as answers
use Rattle.capture_script.specs.Captures.{Packet, capture_form, captured_in}

-- the interface of the script
abbrev pub spec_of : Name → Mac → IfSpec
spec_of name mac = record { index = record { number = 1 }; name = name; mac = mac }

-- whether a frame of at least a header's 14 bytes was sent from this hardware address
abbrev pub is_own : List ℕ → List ℕ → Bool
is_own own bytes = nat_le 14 (length bytes) && bytes_eq (field 6 6 bytes) own

-- a script has room for it, and it came from another
abbrev pub is_used : List ℕ → Packet → Bool
is_used own packet = nat_le (length packet.bytes) FRAME_ROOM && not (is_own own packet.bytes)

abbrev pub used_of : Mac → List Packet → List Packet
used_of own packets = filter (is_used own.bytes) packets

-- the moment of the first one
abbrev pub first_moment : List Packet → ℕ
first_moment [] = 0
first_moment (packet ∷ packets) = packet.at

-- it comes in on the one interface
abbrev pub packet_given : Packet → Given
packet_given packet = record {
  wake = record { at = packet.at; salt = 0; event = Frame 1 (length packet.bytes) };
  bytes = packet.bytes;
}

abbrev pub begin_at : ℕ → Begin
begin_at at = record { at = at; salt = 0; up = 1 }

abbrev pub captured_life : List Packet → LifeScript
captured_life packets =
    record { begin = begin_at (first_moment packets); turns = map packet_given packets; crash = None }

-- the script of the packets that are used
unfoldable pub captured_script : IfSpec → List Packet → ScriptLines
captured_script spec packets = record {
  conf = [];
  ifaces = spec ∷ [];
  rows = [];
  files = [];
  fails = [];
  polls = [];
  lives = captured_life packets ∷ [];
}

abbrev pub turn_lines : List Packet → List Line
turn_lines packets = map (λ packet. given_text (packet_given packet)) packets

-- the lines before the turns
abbrev pub head_lines : IfSpec → ℕ → List Line
head_lines spec at = head_line ∷ interface_text spec ∷ start_text (begin_at at) ∷ []

abbrev pub captured_lines : IfSpec → List Packet → List Line
captured_lines spec packets = head_lines spec (first_moment packets) ++ turn_lines packets

-- the text is that of the script which the capture means, and spells it where the interface has a name and a hardware
-- address
pub record IsImported (bytes : List ℕ) (spec : IfSpec) (text : List ℕ) : Type 0 where
  pub form : Form
  pub formed : capture_form bytes ≡ Ok form
  pub text_is : text ≡ lines_text (captured_lines spec (used_of spec.mac (captured_in form bytes)))
  pub spelled : FitsName spec.name → FitsMac spec.mac
      → IsSpelled SpellsScript text (captured_script spec (used_of spec.mac (captured_in form bytes)))

-- why there is none; want of memory is free
abbrev pub IsRefused : List ℕ → ImportAnswer → Type 0
IsRefused bytes (answers.Bad cause) = capture_form bytes ≡ Err cause
IsRefused bytes answers.NoMemory = Unit {0}
