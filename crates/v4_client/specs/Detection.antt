-- What conflict detection says of an address that is checked or held, and what follows (RFC 5227; RFC 2131, section
-- 4.4.1).
use Rattle.std.specs.Prelude.{ℕ, Option, Some}
use Rattle.arp_acd.specs.declared.detection.Acd.{Acd}
use Rattle.arp_acd.specs.declared.detection.AcdSays.{AcdSays}
use Rattle.arp_acd.specs.declared.detection.AcdSays.TheVariants.{Quiet, SayProbe, SayAnnounce, Passed, Conflict, GivenUp}
use Rattle.arp_acd.specs.declared.detection.ArpSay.TheVariants.{Probe, Announce}
use Rattle.lease_text.specs.declared.lease.Terms4.{Terms4}
use Rattle.v4_client.specs.declared.states.Origin4.{Origin4}
use Rattle.v4_client.specs.declared.states.State4.{State4}
use Rattle.v4_client.specs.declared.states.State4.TheVariants.{Off, Init, Selecting, Requesting, Rebooting, Checking, Waiting, Bound, Renewing, Rebinding}
use Rattle.v4_client.specs.declared.states.Step4.{Step4}
use Rattle.v4_client.specs.declared.states.Turn4.{Turn4}
use Rattle.v4_client.specs.Steps.{rests, standing_news, bound_news, binds, declines, gives_up}

-- An address that is checked: a probe is said; it has passed, and is bound and announced; a conflict, and it is
-- declined, and the kept lease isn't held any more on which the client stood.
abbrev pub checked : Turn4 → (xid : ℕ) → Terms4 → Origin4 → Acd → (stands : Option Terms4) → AcdSays → Step4
checked turn xid terms origin acd stands SayProbe =
    record (rests turn (Checking xid terms origin acd stands)) { arp = Some (Probe terms.net.ip) }
checked turn xid terms origin acd stands Passed =
    record (binds turn xid terms (bound_news origin) (Some acd)) { arp = Some (Announce terms.net.ip) }
checked turn xid terms origin acd stands Conflict = declines turn xid terms (standing_news stands)
checked turn xid terms origin acd stands Quiet = rests turn (Checking xid terms origin acd stands)
checked turn xid terms origin acd stands SayAnnounce = rests turn (Checking xid terms origin acd stands)
checked turn xid terms origin acd stands GivenUp = rests turn (Checking xid terms origin acd stands)

-- the conflict detection of a held address
abbrev pub with_acd : State4 → Acd → State4
with_acd (Bound xid terms before) acd = Bound xid terms (Some acd)
with_acd (Renewing exchange terms before due) acd = Renewing exchange terms (Some acd) due
with_acd (Rebinding exchange terms before due) acd = Rebinding exchange terms (Some acd) due
with_acd Off acd = Off
with_acd (Init due) acd = Init due
with_acd (Selecting xid began secs backoff due) acd = Selecting xid began secs backoff due
with_acd (Requesting exchange secs backoff due) acd = Requesting exchange secs backoff due
with_acd (Rebooting exchange backoff end due stands) acd = Rebooting exchange backoff end due stands
with_acd (Checking xid terms origin before stands) acd = Checking xid terms origin before stands
with_acd (Waiting due) acd = Waiting due

-- An address that is held: it is announced, or given up.
abbrev pub defended : Turn4 → (xid : ℕ) → Terms4 → State4 → AcdSays → Step4
defended turn xid terms state SayAnnounce = record (rests turn state) { arp = Some (Announce terms.net.ip) }
defended turn xid terms state GivenUp = gives_up turn xid terms
defended turn xid terms state Quiet = rests turn state
defended turn xid terms state SayProbe = rests turn state
defended turn xid terms state Passed = rests turn state
defended turn xid terms state Conflict = rests turn state
