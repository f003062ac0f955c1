-- Which texts spell what a turn is given: its words in order. An IPv6 address may have any spelling (RFC 4291, section
-- 2.2), all else is as printed.
use Rattle.std.specs.Prelude.{◌≡◌, ℕ, List, ◌++◌, codes, decimal}
use Rattle.world.specs.NetTypes.declared.address.Ip6.{Ip6}
use Rattle.world.specs.NetTypes.Ip6Text.{SpellsIp6}
use Rattle.world.specs.declared.wakes.Event.{Event}
use Rattle.world.specs.declared.wakes.Event.TheVariants.{Duplicate}
use Rattle.world.specs.LinkCalls.{Given}
use Rattle.script_model.specs.Lines.{event_text}

pub record SpellsDuplicate (text : List ℕ) (iface : ℕ) (addr : Ip6) : Type 0 where
  pub address : List ℕ
  pub spelled : text ≡ codes "dup " ++ decimal iface ++ codes " " ++ address
  pub spells : SpellsIp6 address addr

-- what came, with the bytes of a frame
abbrev pub SpellsEvent : List ℕ → Event → List ℕ → Type 0
SpellsEvent text (Duplicate iface addr) bytes = SpellsDuplicate text iface addr
SpellsEvent text event bytes = text ≡ event_text event bytes

pub record SpellsGiven (text : List ℕ) (given : Given) : Type 0 where
  pub event : List ℕ
  pub spelled : text
      ≡ codes "turn " ++ decimal given.wake.at ++ codes " " ++ decimal given.wake.salt ++ codes " " ++ event
  pub spells : SpellsEvent event given.wake.event given.bytes
