-- An example: eth0 is delegated 2001:db8:0:100::/56, as in the life of its four messages, and eth1 has its subnet 1 of
-- 64 bits.
use Rattle.std.specs.Prelude.{ℕ, true, List, [], ◌∷◌}
use Rattle.net_types.specs.declared.address.Mac.{Mac}
use Rattle.net_types.specs.declared.address.Net.{Net}
use Rattle.net_types.specs.declared.address.Net.TheVariants.{V6}
use Rattle.net_types.specs.declared.interface.IfSpec.{IfSpec}
use Rattle.world.specs.declared.wakes.Event.{Event}
use Rattle.world.specs.declared.wakes.Event.TheVariants.{Frame, Quiet}
use Rattle.world.specs.LinkCalls.{Given}
use Rattle.world.specs.StoreCalls.{store_holding}
use Rattle.world.specs.StoreFails.{never_fails}
use Rattle.settings.specs.declared.interfaces.Managed.{Managed}
use Rattle.settings.specs.Flags.{no_flags}
use Rattle.device_calls.specs.Worlds.{World}
use Rattle.turn_model.specs.Lives.{OpeningMet, Met}
use Rattle.turn_model.specs.Foretold.{opening_of}
use Rattle.turn_model.specs.HostInLife.{running_opened}
use Rattle.lease_evidence.specs.PlainIface.{plain_eth0}
use Rattle.evidence.specs.Lease6Evidence.FourMessages.{advertise, downstream, from_server, interface, reply, share}
use Rattle.evidence.specs.HeldAddresses.{mets_of}

abbrev pub second_mac : Mac
second_mac = record { bytes = 2 ∷ 0 ∷ 0 ∷ 0 ∷ 0 ∷ 2 ∷ [] }

-- eth1, which asks no server and chooses no address by itself
abbrev pub second : Managed
second = record plain_eth0 {
  spec = record { index = downstream; name = share.share.name; mac = second_mac };
  conf = record plain_eth0.conf { flags = record no_flags { nodhcp = true; noipv4ll = true } };
}

abbrev pub managed : List Managed
managed = interface ∷ second ∷ []

abbrev pub specs : List IfSpec
specs = interface.spec ∷ second.spec ∷ []

-- 2001:db8:0:101::1/64
abbrev pub shared : Net
shared = V6 (record { ip = record { number = 0x2001_0db8_0000_0101_0000_0000_0000_0001 }; len = 64 })

abbrev given : ℕ → Event → List ℕ → Given
given at event bytes = record { wake = record { at = at; salt = 0; event = event }; bytes = bytes }

-- a quiet turn, in which eth0 solicits; the Advertise; the Reply
abbrev pub coming : List Given
coming =
    given 1001 Quiet []
    ∷ given 1500 (Frame 1 188) (from_server 134 0xd3 0x02 advertise)
    ∷ given 2000 (Frame 1 183) (from_server 129 0x98 0x49 reply)
    ∷ []

-- a link that takes every frame, an empty store, a host without rows of which no call fails, and hooks that are never
-- asked
abbrev pub devices : World
devices = record {
  link =
      record {
        told = record {
          begin = record { at = 1000; salt = 0; up = 3 };
          coming = coming;
          waits = 0;
          sends = 0;
          calls = [];
        };
        failing = [];
      };
  host = record { told = record { rows = []; calls = [] }; failing = [] };
  store = record { told = store_holding []; failing = never_fails };
  hooks = record { told = record { polls = []; calls = [] }; failing = [] };
}

abbrev pub opens : OpeningMet
opens = opening_of managed specs devices

abbrev pub turns : List Met
turns = mets_of managed (running_opened managed specs devices) coming
