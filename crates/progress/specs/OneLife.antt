-- One life of a link-local machine for which all goes well, written out.
use Rattle.std.specs.Prelude.{◌≡◌, ◌+◌, ◌<◌, true, List, [], ◌∷◌, ◌++◌}
use Rattle.net_types.specs.declared.address.Mac.{Mac}
use Rattle.net_types.specs.declared.interface.IfIndex.{IfIndex}
use Rattle.frame_link.specs.declared.arp.ArpView.{ArpView}
use Rattle.ipv4ll.specs.declared.link_local.Fallback.TheVariants.{Choose}
use Rattle.ipv4ll.specs.declared.link_local.Waits.TheVariants.{ForNothing}
use Rattle.ipv4ll.specs.History.{LlEvent, Arm, Tick, Heard, ll_after, arms_at}
use Rattle.progress.specs.GoingWell.{moment_in, Prompt, Fair}
use Rattle.progress.specs.LocalHeld.{longest_probing}

abbrev pub second_interface : IfIndex
second_interface = record { number = 2 }

abbrev pub own_macs : List Mac
own_macs = record { bytes = 2 ∷ 0 ∷ 0 ∷ 0 ∷ 0 ∷ 1 ∷ [] } ∷ []

-- another host asks who has 169.254.7.7
abbrev pub other_request : ArpView
other_request = record {
  op = 1;
  sender_mac = record { bytes = 2 ∷ 0 ∷ 0 ∷ 0 ∷ 0 ∷ 9 ∷ [] };
  sender = record { number = 0xa9fe_0909 };
  target = record { number = 0xa9fe_0707 };
}

-- armed for the moment 1000
abbrev pub arming : List LlEvent
arming = Arm 1000 1000 ForNothing Choose ∷ []

-- The choice; three probes, with a packet of another host between; the gain, and the announcements; and a minute later.
abbrev pub one_life : List LlEvent
one_life =
    Tick 65000 0 ∷ Tick 7006 0 ∷ Tick 5006 0 ∷ Tick 3006 0 ∷ Heard other_request 2500 0 ∷ Tick 2004 0 ∷ Tick 1002 0
    ∷ Tick 1000 0 ∷ []

pub record GoesWell (own : List Mac) (iface : IfIndex) (later : List LlEvent) : Type 0 where
  pub arms : arms_at (ll_after own iface []).state (Arm 1000 1000 ForNothing Choose) ≡ true
  pub prompt : Prompt own iface later arming
  pub fair : Fair own iface later arming
  pub past_end : 1000 + longest_probing < moment_in (later ++ arming)

abbrev pub OneLifeGoesWell : Type 0
OneLifeGoesWell = GoesWell own_macs second_interface one_life
