-- What a socket and clocks in memory show.
use Rattle.std.specs.Prelude.{List, Option}
use Rattle.std.specs.Prelude.{ℕ}
use Rattle.world.specs.LinkCalls.{LinkCall}
use Rattle.loop_link.specs.WireCalls as Wire
use Rattle.loop_link.specs.WireCalls.{WireCall}
use Rattle.telling_machines.specs.declared.lines.Datagram.{Datagram}

abbrev pub datagram_of : Datagram → Wire.Datagram
datagram_of datagram = record { bytes = datagram.bytes.items; sender = datagram.sender }

pub record LineState : Type 0 where
  -- the calls of the system so far, the last one first
  pub calls : List WireCall
  -- what a link noted
  pub noted : List LinkCall
  -- what is still to be received, in order
  pub coming : List Wire.Datagram
  -- the port that it has, where it has one
  pub port : Option ℕ
  -- what the clocks read last, in nanoseconds
  pub wall : ℕ
  pub steady : ℕ
