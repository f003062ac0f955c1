-- An example: an interface without static address chooses 169.254.1.1 by itself, and another host uses the address
-- later.
use Rattle.std.specs.Prelude.{ℕ, true, List, [], ◌∷◌}
use Rattle.net_types.specs.declared.address.Ip4.{Ip4}
use Rattle.net_types.specs.declared.address.Mac.{Mac}
use Rattle.net_types.specs.declared.address.Net.{Net}
use Rattle.net_types.specs.declared.address.Net.TheVariants.{V4}
use Rattle.frame_link.specs.Packets.{probe_text, announcement_text}
use Rattle.world.specs.declared.wakes.Event.{Event}
use Rattle.world.specs.declared.wakes.Event.TheVariants.{Frame, Quiet}
use Rattle.settings.specs.declared.interfaces.Managed.{Managed}
use Rattle.settings.specs.Flags.{no_flags}
use Rattle.world.specs.LinkCalls.{Given}
use Rattle.world.specs.StoreCalls.{store_holding}
use Rattle.world.specs.StoreFails.{never_fails}
use Rattle.device_calls.specs.Worlds.{World}
use Rattle.evidence_words.specs.TurnModel.Lives.{OpeningMet, Met}
use Rattle.evidence_words.specs.TurnModel.Foretold.{opening_of}
use Rattle.evidence_words.specs.TurnModel.HostInLife.{running_opened}
use Rattle.evidence.specs.HeldAddresses.{mets_of}
use Rattle.client_model.specs.WantedRows.{local_net}
use Rattle.evidence_words.specs.Entries.{Entry}
use Rattle.lease6_evidence.specs.LeaseEvidence.PlainIface.{client_mac, plain_eth0}

abbrev pub other_mac : Mac
other_mac = record { bytes = 2 ∷ 0 ∷ 0 ∷ 0 ∷ 0 ∷ 9 ∷ [] }

abbrev pub chosen : Ip4
chosen = record { number = 0xa9fe_0101 }

abbrev pub chosen_net : Net
chosen_net = V4 (local_net chosen)

-- eth0, with `nodhcp`
abbrev pub interface : Managed
interface = record plain_eth0 { conf = record plain_eth0.conf { flags = record no_flags { nodhcp = true } } }

abbrev given : ℕ → Event → List ℕ → Given
given at event bytes = record { wake = record { at = at; salt = 0; event = event }; bytes = bytes }

-- The choice; three probes; two announcements; a use by another host, which a third announcement answers.
abbrev pub seven_given : List Given
seven_given =
    given 1000 Quiet []
    ∷ given 1001 Quiet []
    ∷ given 2002 Quiet []
    ∷ given 3003 Quiet []
    ∷ given 5003 Quiet []
    ∷ given 7003 Quiet []
    ∷ given 8000 (Frame 1 42) (announcement_text other_mac chosen)
    ∷ []

-- a link that takes every frame, an empty store, a host that never tells its rows, and hooks that are never asked
abbrev pub devices : World
devices = record {
  link =
      record {
        told = record {
          begin = record { at = 1000; salt = 0; up = 1 };
          coming = seven_given;
          waits = 0;
          sends = 0;
          calls = [];
        };
        failing = [];
      };
  host = record { told = record { rows = []; calls = [] }; failing = 1 ∷ 2 ∷ 3 ∷ 4 ∷ 5 ∷ 6 ∷ 7 ∷ 8 ∷ [] };
  store = record { told = store_holding []; failing = never_fails };
  hooks = record { told = record { polls = []; calls = [] }; failing = [] };
}

abbrev pub opens : OpeningMet
opens = opening_of (interface ∷ []) (interface.spec ∷ []) devices

abbrev pub seven_turns : List Met
seven_turns = mets_of (interface ∷ []) (running_opened (interface ∷ []) (interface.spec ∷ []) devices) seven_given

abbrev shows : ℕ → Event → List ℕ → List ℕ → Entry
shows at event bytes frame =
    record {
      moment = at;
      event = event;
      bytes = bytes;
      offers = record { iface = 1; bytes = frame; taken = true } ∷ [];
    }

-- what they show
abbrev pub seven_shown : List Entry
seven_shown =
    shows 8000 (Frame 1 42) (announcement_text other_mac chosen) (announcement_text client_mac chosen)
    ∷ shows 7003 Quiet [] (announcement_text client_mac chosen)
    ∷ shows 5003 Quiet [] (announcement_text client_mac chosen)
    ∷ shows 3003 Quiet [] (probe_text client_mac chosen)
    ∷ shows 2002 Quiet [] (probe_text client_mac chosen)
    ∷ shows 1001 Quiet [] (probe_text client_mac chosen)
    ∷ record { moment = 1000; event = Quiet; bytes = []; offers = [] }
    ∷ record { moment = 1000; event = Quiet; bytes = []; offers = [] }
    ∷ []
