-- When a client acts next.
use Rattle.std.specs.Prelude.{ℕ, Option, Some, None}
use Rattle.arp_acd.specs.declared.detection.Acd.{Acd}
use Rattle.arp_acd.specs.Table as detection
use Rattle.v4_client.specs.declared.states.State4.{State4}
use Rattle.v4_client.specs.declared.states.State4.TheVariants.{Off, Init, Selecting, Requesting, Rebooting, Checking, Waiting, Bound, Renewing, Rebinding}
use Rattle.v4_client.specs.Moments.{expiry, renewal_at, standing_until, earlier}

abbrev pub acd_due : Option Acd → Option ℕ
acd_due None = None
acd_due (Some acd) = detection.due_of acd.phase

-- the moment at which a client acts next
abbrev pub due_of : State4 → Option ℕ
due_of Off = None
due_of (Init due) = Some due
due_of (Selecting xid began secs backoff due) = Some due
due_of (Requesting exchange secs backoff due) = Some due
due_of (Rebooting exchange backoff end due stands) = earlier (Some due) (standing_until stands)
due_of (Checking xid terms origin acd stands) =
    earlier (earlier (detection.due_of acd.phase) (expiry terms)) (standing_until stands)
due_of (Waiting due) = Some due
due_of (Bound xid terms acd) = earlier (renewal_at terms) (acd_due acd)
due_of (Renewing exchange terms acd due) = earlier (Some due) (acd_due acd)
due_of (Rebinding exchange terms acd due) = earlier (Some due) (acd_due acd)
