-- The printed text of what a turn is given spells it.
use Rattle.std.proofs.Common.{ℕ, List, refl}
use Rattle.world.specs.NetTypes.AddressText.{ip6_text}
use Rattle.world.proofs.NetTypes.Ip6Laws.{ip6_printed}
use Rattle.world.specs.declared.wakes.Event.{Event}
use Rattle.world.specs.declared.wakes.Event.TheVariants.{Frame, Carrier, Duplicate, Release, Rebind, Stop, Quiet, End}
use Rattle.world.specs.LinkCalls.{Given}
use Rattle.script_model.specs.Lines.{event_text}
use Rattle.script_model.specs.ScriptTexts.{given_text}
use Rattle.script_model.specs.Scripts.{FitsEvent, FitsGiven}
use Rattle.script_model.specs.TurnSpellings.{SpellsEvent, SpellsGiven}

event_printed : (count : ℕ) (event : Event) (bytes : List ℕ) → FitsEvent count event → SpellsEvent (event_text event bytes) event bytes
event_printed count (Frame iface len) bytes fits = refl
event_printed count (Carrier iface up) bytes fits = refl
event_printed count (Duplicate iface addr) bytes fits = record { address = ip6_text addr; spelled = refl; spells = ip6_printed addr fits.1 }
event_printed count (Release iface) bytes fits = refl
event_printed count (Rebind iface) bytes fits = refl
event_printed count Stop bytes fits = refl
event_printed count Quiet bytes fits = refl
event_printed count End bytes fits = refl

pub given_printed : (count : ℕ) (given : Given) → FitsGiven count given → SpellsGiven (given_text given) given
given_printed count given fits = record {
  event = event_text given.wake.event given.bytes;
  spelled = refl;
  spells = event_printed count given.wake.event given.bytes fits.event;
}
