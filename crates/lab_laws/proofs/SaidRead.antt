-- What a client says is read by the peer as it is.
use Rattle.std.proofs.Common.{◌≡◌, ℕ, List, IfSome}
use Rattle.std.specs.List.{AllByRecursion}
use Rattle.net_types.proofs.AllLaws.{all_both}
use Rattle.settings.specs.declared.interfaces.Managed.{Managed}
use Rattle.client_model.specs.ClientSettings.{ask_of}
use Rattle.client_model.specs.Clients.{frame_of}
use Rattle.client_model.specs.IfaceTurns.{Turn}
use Rattle.client_model.specs.KeptLeases.{Beginning}
use Rattle.client_model.specs.Messages.{Said, Dhcp4, Arp, Dhcp6}
use Rattle.lease_evidence.proofs.Spoken.{message_said, FitsSaid}
use Rattle.lab_peer.specs.ClientFrames.{client_sent}
use Rattle.lab_laws.specs.LabClients.{FitsStart, FitsTurn}
use Rattle.lab_laws.specs.Messages.{Start, step_after}
use Rattle.lab_laws.specs.Reading.{IsReadFrom}
use Rattle.lab_laws.proofs.SaidTurns.{FairSaid, life_fair}
use Rattle.lab_laws.proofs.SaidFrames.{each_message_is_read}
pub use Rattle.lab_laws.proofs.SaidMessages.{unlike_each}

-- one message of an interface
pub record IsRead (one : Managed) (duid : List ℕ) (say : Said) : Type 0 where
  pub heard : client_sent (frame_of one.spec (ask_of duid one) say) ≡ message_said say
  pub from : IfSome (message_said say) (λ sent. sent.said.mac ≡ one.spec.mac)
  pub fits : FitsSaid say

module _ (beginning : Beginning) where
  read_so : (say : Said) → FairSaid beginning.managed.spec.mac say → IsReadFrom beginning say → IsRead beginning.managed beginning.duid say
  read_so (Dhcp4 say) fair read = record { heard = read.0; from = read.1; fits = fair.fits }
  read_so (Arp say) fair read = record { heard = read; from = tt; fits = tt }
  read_so (Dhcp6 sent) fair read = record { heard = read; from = tt; fits = fair }

pub each_is_read : (start : Start) (turns : List Turn) → FitsStart start → AllByRecursion FitsTurn turns
    → AllByRecursion (IsRead start.beginning.managed start.beginning.duid) (step_after start turns).said
each_is_read start turns fits all =
    all_both (FairSaid start.beginning.managed.spec.mac) (IsReadFrom start.beginning) (IsRead start.beginning.managed start.beginning.duid)
    (read_so start.beginning)
    (step_after start turns).said (life_fair start turns fits all) (each_message_is_read start turns fits all)
