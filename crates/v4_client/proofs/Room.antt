-- No step that a message leads to copies the lease that was held.
use Rattle.std.proofs.Common.{◌≡◌, ℕ, Bool, false, Option, None, refl}
use Rattle.net_types.proofs.CaseLaws.{gated}
use Rattle.arp_acd.specs.declared.detection.Acd.{Acd}
use Rattle.lease_text.specs.declared.lease.Terms4.{Terms4}
use Rattle.v4_client.specs.declared.states.Answer4.{Answer4}
use Rattle.v4_client.specs.declared.states.Answer4.TheVariants as answer
use Rattle.v4_client.specs.declared.states.News4.{News4}
use Rattle.v4_client.specs.declared.states.News4.TheVariants as news
use Rattle.v4_client.specs.declared.states.Origin4.{Origin4}
use Rattle.v4_client.specs.declared.states.Origin4.TheVariants.{Offered, Rebooted}
use Rattle.v4_client.specs.declared.states.State4.{State4}
use Rattle.v4_client.specs.declared.states.State4.TheVariants.{Off, Init, Selecting, Requesting, Rebooting, Checking, Waiting, Bound, Renewing, Rebinding}
use Rattle.v4_client.specs.declared.states.Step4.{Step4}
use Rattle.v4_client.specs.declared.states.Turn4.{Turn4}
use Rattle.v4_client.specs.Hearing.{answered, heard_row, offered, renewed}
use Rattle.v4_client.specs.Moves.{is_copied}

offered_room : (turn : Turn4) (xid secs : ℕ) (state : State4) (said : Answer4) (held : Bool)
    → is_copied (offered turn xid secs state said) held ≡ false
offered_room turn xid secs state answer.Nothing held = refl
offered_room turn xid secs state (answer.Offer address server) held = refl
offered_room turn xid secs state (answer.Ack terms) held = refl
offered_room turn xid secs state answer.Nak held = refl

answered_room : (turn : Turn4) (xid : ℕ) (origin : Origin4) (stands : Option Terms4) (state : State4) (said : Answer4) (held : Bool)
    → is_copied (answered turn xid origin stands state said) held ≡ false
answered_room turn xid origin stands state answer.Nothing held = refl
answered_room turn xid origin stands state (answer.Offer address server) held = refl
answered_room turn xid origin stands state (answer.Ack terms) held =
    gated (λ (step : Step4). is_copied step held ≡ false) turn.site.flags.noarp _ _ refl refl
answered_room turn xid origin stands state answer.Nak held = refl

renewed_room : (turn : Turn4) (xid : ℕ) (news : News4) (acd : Option Acd) (state : State4) (said : Answer4) (held : Bool)
    → is_copied (renewed turn xid news acd state said) held ≡ false
renewed_room turn xid news acd state answer.Nothing held = refl
renewed_room turn xid news acd state (answer.Offer address server) held = refl
renewed_room turn xid news acd state (answer.Ack terms) held = refl
renewed_room turn xid news acd state answer.Nak held = refl

pub heard_room : (turn : Turn4) (said : Answer4) (state : State4) (held : Bool) → is_copied (heard_row turn said state) held ≡ false
heard_room turn said Off held = refl
heard_room turn said (Init due) held = refl
heard_room turn said (Selecting xid began secs backoff due) held =
    offered_room turn xid secs (Selecting xid began secs backoff due) said held
heard_room turn said (Requesting exchange secs backoff due) held =
    answered_room turn exchange.xid Offered None (Requesting exchange secs backoff due) said held
heard_room turn said (Rebooting exchange backoff end due stands) held =
    answered_room turn exchange.xid Rebooted stands (Rebooting exchange backoff end due stands) said held
heard_room turn said (Checking xid terms origin acd stands) held = refl
heard_room turn said (Waiting due) held = refl
heard_room turn said (Bound xid terms acd) held = refl
heard_room turn said (Renewing exchange terms acd due) held =
    renewed_room turn exchange.xid news.Renew acd (Renewing exchange terms acd due) said held
heard_room turn said (Rebinding exchange terms acd due) held =
    renewed_room turn exchange.xid news.Rebind acd (Rebinding exchange terms acd due) said held
