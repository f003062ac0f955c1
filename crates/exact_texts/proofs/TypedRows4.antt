-- The lease that a step of a DHCPv4 client takes has numbers and addresses within the types that hold them, where what is checked and
-- what is granted have such.
use Rattle.std.proofs.Common.{ℕ, ◌≤◌, Bool, true, ◌||◌, List, Option, Some, None, IfSome, nat_le, eqb}
use Rattle.machine.specs.Moment.{is_due}
use Rattle.net_types.proofs.CaseLaws.{gated}
use Rattle.net_types.specs.AddressText.{FitsIp4, FitsMac}
use Rattle.net_types.specs.declared.address.Mac.{Mac}
use Rattle.frame_link.specs.declared.arp.ArpView.{ArpView}
use Rattle.arp_acd.specs.declared.detection.Acd.{Acd}
use Rattle.arp_acd.specs.declared.detection.AcdSays.{AcdSays}
use Rattle.arp_acd.specs.declared.detection.AcdSays.TheVariants.{Quiet, SayProbe, SayAnnounce, Passed, Conflict, GivenUp}
use Rattle.arp_acd.specs.Table as detection
use Rattle.lease_text.specs.declared.lease.Terms4.{Terms4}
use Rattle.lease_text.specs.declared.lease.TheConstants.{INFINITE_LEASE}
use Rattle.v4_client.specs.declared.states.Answer4.{Answer4}
use Rattle.v4_client.specs.declared.states.Answer4.TheVariants as answer
use Rattle.v4_client.specs.declared.states.Keep4.{Keep4}
use Rattle.v4_client.specs.declared.states.Keep4.TheVariants.{Stays, Clears, Takes}
use Rattle.v4_client.specs.declared.states.News4.{News4}
use Rattle.v4_client.specs.declared.states.News4.TheVariants as news
use Rattle.v4_client.specs.declared.states.Origin4.{Origin4}
use Rattle.v4_client.specs.declared.states.Origin4.TheVariants.{Offered, Rebooted}
use Rattle.v4_client.specs.declared.states.State4.{State4}
use Rattle.v4_client.specs.declared.states.State4.TheVariants.{Off, Init, Selecting, Requesting, Rebooting, Checking, Waiting, Bound, Renewing, Rebinding}
use Rattle.v4_client.specs.declared.states.Step4.{Step4}
use Rattle.v4_client.specs.declared.states.Tell.{Tell}
use Rattle.v4_client.specs.declared.states.Tell.TheVariants.{Server, Nobody}
use Rattle.v4_client.specs.declared.states.Turn4.{Turn4}
use Rattle.v4_client.specs.Detection.{checked, defended, with_acd}
use Rattle.v4_client.specs.Hearing.{answered, arp_row, contested, granted, heard_row, offered, renewed}
use Rattle.v4_client.specs.Inputs.{begin_row, begins, off_row, rebind_row, release_row, released, released_standing, unsent_row}
use Rattle.v4_client.specs.Moments.{expiry, rebinding_at, renewal_at, standing_until}
use Rattle.v4_client.specs.Steps.{binds, bound_news, rests}
use Rattle.v4_client.specs.Ticks.{detects, is_longest, tick_row}

-- the terms of a lease, apart from its bounds
pub record TypedTerms (terms : Terms4) : Type 0 where
  pub origin : IfSome terms.origin (λ origin. FitsMac origin.mac)
  pub server : FitsIp4 terms.server
  pub server_mac : FitsMac terms.server_mac
  pub time : terms.lease ≤ INFINITE_LEASE

-- a lease that is checked is to be taken
abbrev pub TypedState : State4 → Type 0
TypedState Off = Unit {0}
TypedState (Init due) = Unit {0}
TypedState (Selecting xid began secs backoff due) = Unit {0}
TypedState (Requesting exchange secs backoff due) = Unit {0}
TypedState (Rebooting exchange backoff end due stands) = Unit {0}
TypedState (Checking xid terms origin acd stands) = TypedTerms terms
TypedState (Waiting due) = Unit {0}
TypedState (Bound xid terms acd) = Unit {0}
TypedState (Renewing exchange terms acd due) = Unit {0}
TypedState (Rebinding exchange terms acd due) = Unit {0}

abbrev pub TypedKeep : Keep4 → Type 0
TypedKeep Stays = Unit {0}
TypedKeep Clears = Unit {0}
TypedKeep (Takes terms) = TypedTerms terms

pub record TypedStep (step : Step4) : Type 0 where
  pub state : TypedState step.state
  pub keep : TypedKeep step.keep

abbrev pub TypedAnswer : Answer4 → Type 0
TypedAnswer answer.Nothing = Unit {0}
TypedAnswer (answer.Offer address server) = Unit {0}
TypedAnswer (answer.Ack terms) = TypedTerms terms
TypedAnswer answer.Nak = Unit {0}

module _ (turn : Turn4) where
  -- ---- steps

  pub rests_typed : (state : State4) → TypedState state → TypedStep (rests turn state)
  rests_typed state typed = record { state = typed; keep = tt }

  binds_typed : (xid : ℕ) (terms : Terms4) (news : News4) (acd : Option Acd) → TypedTerms terms → TypedStep (binds turn xid terms news acd)
  binds_typed xid terms news acd typed = record { state = tt; keep = typed }

  defended_typed : (xid : ℕ) (terms : Terms4) (state : State4) (says : AcdSays) → TypedState state → TypedStep (defended turn xid terms state says)
  defended_typed xid terms state Quiet typed = record { state = typed; keep = tt }
  defended_typed xid terms state SayProbe typed = record { state = typed; keep = tt }
  defended_typed xid terms state SayAnnounce typed = record { state = typed; keep = tt }
  defended_typed xid terms state Passed typed = record { state = typed; keep = tt }
  defended_typed xid terms state Conflict typed = record { state = typed; keep = tt }
  defended_typed xid terms state GivenUp typed = record { state = tt; keep = tt }

  checked_typed : (xid : ℕ) (terms : Terms4) (origin : Origin4) (acd : Acd) (stands : Option Terms4) (says : AcdSays) → TypedTerms terms
      → TypedStep (checked turn xid terms origin acd stands says)
  checked_typed xid terms origin acd stands Quiet typed = record { state = typed; keep = tt }
  checked_typed xid terms origin acd stands SayProbe typed = record { state = typed; keep = tt }
  checked_typed xid terms origin acd stands SayAnnounce typed = record { state = typed; keep = tt }
  checked_typed xid terms origin acd stands Passed typed = record { state = tt; keep = typed }
  checked_typed xid terms origin acd stands Conflict typed = record { state = tt; keep = tt }
  checked_typed xid terms origin acd stands GivenUp typed = record { state = typed; keep = tt }

  -- conflict detection of a held address
  detects_typed : (xid : ℕ) (terms : Terms4) (state : State4) (acd : Option Acd) → ((acd : Acd) → TypedState (with_acd state acd)) → TypedState state
      → TypedStep (detects turn xid terms state acd)
  detects_typed xid terms state None with_on typed = rests_typed state typed
  detects_typed xid terms state (Some acd) with_on typed =
      defended_typed xid terms (with_acd state (detection.acd_tick acd turn.at turn.salt).acd) (detection.acd_tick acd turn.at turn.salt).says
      (with_on (detection.acd_tick acd turn.at turn.salt).acd)

  contested_typed : (own : List Mac) (arp : ArpView) (xid : ℕ) (terms : Terms4) (state : State4) (acd : Option Acd)
      → ((acd : Acd) → TypedState (with_acd state acd)) → TypedState state → TypedStep (contested own turn arp xid terms state acd)
  contested_typed own arp xid terms state None with_on typed = rests_typed state typed
  contested_typed own arp xid terms state (Some acd) with_on typed =
      defended_typed xid terms (with_acd state (detection.acd_hears own acd arp turn.at).acd) (detection.acd_hears own acd arp turn.at).says
      (with_on (detection.acd_hears own acd arp turn.at).acd)

  -- ---- ticks

  pub tick_typed : (state : State4) → TypedState state → TypedStep (tick_row turn state)
  tick_typed Off typed = record { state = tt; keep = tt }
  tick_typed (Init due) typed = record { state = tt; keep = tt }
  tick_typed (Selecting xid began secs backoff due) typed = record { state = tt; keep = tt }
  tick_typed (Requesting exchange secs backoff due) typed =
      gated TypedStep (is_longest backoff) _ _ (record { state = tt; keep = tt }) (record { state = tt; keep = tt })
  tick_typed (Rebooting exchange backoff end due stands) typed =
      gated TypedStep (is_due (standing_until stands) turn.at) _ _ (record { state = tt; keep = tt })
      (gated TypedStep (nat_le end turn.at) _ _ (record { state = tt; keep = tt }) (record { state = tt; keep = tt }))
  tick_typed (Checking xid terms origin acd stands) typed =
      gated TypedStep (is_due (standing_until stands) turn.at) _ _ (record { state = typed; keep = tt })
      (gated TypedStep (is_due (expiry terms) turn.at) _ _ (record { state = tt; keep = tt })
      (checked_typed xid terms origin (detection.acd_tick acd turn.at turn.salt).acd stands (detection.acd_tick acd turn.at turn.salt).says typed))
  tick_typed (Waiting due) typed = record { state = tt; keep = tt }
  tick_typed (Bound xid terms acd) typed =
      gated TypedStep (is_due (expiry terms) turn.at) _ _ (record { state = tt; keep = tt })
      (gated TypedStep (is_due (rebinding_at terms) turn.at) _ _ (record { state = tt; keep = tt })
      (gated TypedStep (is_due (renewal_at terms) turn.at) _ _ (record { state = tt; keep = tt })
      (detects_typed xid terms (Bound xid terms acd) acd (λ other. tt) tt)))
  tick_typed (Renewing exchange terms acd due) typed =
      gated TypedStep (is_due (expiry terms) turn.at) _ _ (record { state = tt; keep = tt })
      (gated TypedStep (is_due (rebinding_at terms) turn.at) _ _ (record { state = tt; keep = tt })
      (gated TypedStep (nat_le due turn.at) _ _ (record { state = tt; keep = tt })
      (detects_typed exchange.xid terms (Renewing exchange terms acd due) acd (λ other. tt) tt)))
  tick_typed (Rebinding exchange terms acd due) typed =
      gated TypedStep (is_due (expiry terms) turn.at) _ _ (record { state = tt; keep = tt })
      (gated TypedStep (nat_le due turn.at) _ _ (record { state = tt; keep = tt })
      (detects_typed exchange.xid terms (Rebinding exchange terms acd due) acd (λ other. tt) tt))

  -- ---- messages

  offered_typed : (xid secs : ℕ) (state : State4) (answer : Answer4) → TypedState state → TypedStep (offered turn xid secs state answer)
  offered_typed xid secs state answer.Nothing typed = rests_typed state typed
  offered_typed xid secs state (answer.Offer address server) typed = record { state = tt; keep = tt }
  offered_typed xid secs state (answer.Ack terms) typed = rests_typed state typed
  offered_typed xid secs state answer.Nak typed = rests_typed state typed

  granted_typed : (xid : ℕ) (terms : Terms4) (origin : Origin4) (stands : Option Terms4) → TypedTerms terms → TypedStep (granted turn xid terms origin stands)
  granted_typed xid terms origin stands typed =
      gated TypedStep turn.site.flags.noarp _ _ (binds_typed xid terms (bound_news origin) None typed) (record { state = typed; keep = tt })

  answered_typed : (xid : ℕ) (origin : Origin4) (stands : Option Terms4) (state : State4) (answer : Answer4) → TypedState state → TypedAnswer answer
      → TypedStep (answered turn xid origin stands state answer)
  answered_typed xid origin stands state answer.Nothing typed good = rests_typed state typed
  answered_typed xid origin stands state (answer.Offer address server) typed good = rests_typed state typed
  answered_typed xid origin stands state (answer.Ack terms) typed good = granted_typed xid terms origin stands good
  answered_typed xid origin stands state answer.Nak typed good = record { state = tt; keep = tt }

  renewed_typed : (xid : ℕ) (news : News4) (acd : Option Acd) (state : State4) (answer : Answer4) → TypedState state → TypedAnswer answer
      → TypedStep (renewed turn xid news acd state answer)
  renewed_typed xid news acd state answer.Nothing typed good = rests_typed state typed
  renewed_typed xid news acd state (answer.Offer address server) typed good = rests_typed state typed
  renewed_typed xid news acd state (answer.Ack terms) typed good = binds_typed xid terms news acd good
  renewed_typed xid news acd state answer.Nak typed good = record { state = tt; keep = tt }

  pub heard_typed : (answer : Answer4) (state : State4) → TypedState state → TypedAnswer answer → TypedStep (heard_row turn answer state)
  heard_typed answer Off typed good = rests_typed Off typed
  heard_typed answer (Init due) typed good = rests_typed (Init due) typed
  heard_typed answer (Selecting xid began secs backoff due) typed good = offered_typed xid secs (Selecting xid began secs backoff due) answer typed
  heard_typed answer (Requesting exchange secs backoff due) typed good =
      answered_typed exchange.xid Offered None (Requesting exchange secs backoff due) answer typed good
  heard_typed answer (Rebooting exchange backoff end due stands) typed good =
      answered_typed exchange.xid Rebooted stands (Rebooting exchange backoff end due stands) answer typed good
  heard_typed answer (Checking xid terms origin acd stands) typed good = rests_typed (Checking xid terms origin acd stands) typed
  heard_typed answer (Waiting due) typed good = rests_typed (Waiting due) typed
  heard_typed answer (Bound xid terms acd) typed good = rests_typed (Bound xid terms acd) typed
  heard_typed answer (Renewing exchange terms acd due) typed good =
      renewed_typed exchange.xid news.Renew acd (Renewing exchange terms acd due) answer typed good
  heard_typed answer (Rebinding exchange terms acd due) typed good =
      renewed_typed exchange.xid news.Rebind acd (Rebinding exchange terms acd due) answer typed good

  pub arp_typed : (own : List Mac) (arp : ArpView) (state : State4) → TypedState state → TypedStep (arp_row own turn arp state)
  arp_typed own arp Off typed = rests_typed Off typed
  arp_typed own arp (Init due) typed = rests_typed (Init due) typed
  arp_typed own arp (Selecting xid began secs backoff due) typed = rests_typed (Selecting xid began secs backoff due) typed
  arp_typed own arp (Requesting exchange secs backoff due) typed = rests_typed (Requesting exchange secs backoff due) typed
  arp_typed own arp (Rebooting exchange backoff end due stands) typed = rests_typed (Rebooting exchange backoff end due stands) typed
  arp_typed own arp (Checking xid terms origin acd stands) typed =
      checked_typed xid terms origin (detection.acd_hears own acd arp turn.at).acd stands (detection.acd_hears own acd arp turn.at).says typed
  arp_typed own arp (Waiting due) typed = rests_typed (Waiting due) typed
  arp_typed own arp (Bound xid terms acd) typed = contested_typed own arp xid terms (Bound xid terms acd) acd (λ other. tt) tt
  arp_typed own arp (Renewing exchange terms acd due) typed =
      contested_typed own arp exchange.xid terms (Renewing exchange terms acd due) acd (λ other. tt) tt
  arp_typed own arp (Rebinding exchange terms acd due) typed =
      contested_typed own arp exchange.xid terms (Rebinding exchange terms acd due) acd (λ other. tt) tt

  -- ---- the other inputs

  abbrev Spent : Step4 → Type 0
  Spent step = TypedStep (record step { spends = true })

  begins_typed : (may_stand : Bool) (kept : Option Terms4) → TypedStep (begins turn may_stand kept)
  begins_typed may_stand None = record { state = tt; keep = tt }
  begins_typed may_stand (Some terms) =
      gated Spent (is_due (expiry terms) turn.at || eqb turn.site.times.reboot 0) _ _ (record { state = tt; keep = tt }) (record { state = tt; keep = tt })

  pub begin_typed : (may_stand : Bool) (kept : Option Terms4) (state : State4) → TypedState state → TypedStep (begin_row turn may_stand kept state)
  begin_typed may_stand kept Off typed = begins_typed may_stand kept
  begin_typed may_stand kept (Init due) typed = rests_typed (Init due) typed
  begin_typed may_stand kept (Selecting xid began secs backoff due) typed = rests_typed (Selecting xid began secs backoff due) typed
  begin_typed may_stand kept (Requesting exchange secs backoff due) typed = rests_typed (Requesting exchange secs backoff due) typed
  begin_typed may_stand kept (Rebooting exchange backoff end due stands) typed = rests_typed (Rebooting exchange backoff end due stands) typed
  begin_typed may_stand kept (Checking xid terms origin acd stands) typed = rests_typed (Checking xid terms origin acd stands) typed
  begin_typed may_stand kept (Waiting due) typed = rests_typed (Waiting due) typed
  begin_typed may_stand kept (Bound xid terms acd) typed = rests_typed (Bound xid terms acd) typed
  begin_typed may_stand kept (Renewing exchange terms acd due) typed = rests_typed (Renewing exchange terms acd due) typed
  begin_typed may_stand kept (Rebinding exchange terms acd due) typed = rests_typed (Rebinding exchange terms acd due) typed

  pub off_typed : TypedStep (off_row turn)
  off_typed = record { state = tt; keep = tt }

  released_typed : (tell : Tell) (terms : Terms4) → TypedStep (released turn tell terms)
  released_typed Server terms = record { state = tt; keep = tt }
  released_typed Nobody terms = record { state = tt; keep = tt }

  standing_typed : (tell : Tell) (stands : Option Terms4) → TypedStep (released_standing turn tell stands)
  standing_typed tell None = off_typed
  standing_typed tell (Some terms) = released_typed tell terms

  pub release_typed : (tell : Tell) (state : State4) → TypedStep (release_row turn tell state)
  release_typed tell Off = off_typed
  release_typed tell (Init due) = off_typed
  release_typed tell (Selecting xid began secs backoff due) = off_typed
  release_typed tell (Requesting exchange secs backoff due) = off_typed
  release_typed tell (Rebooting exchange backoff end due stands) = standing_typed tell stands
  release_typed tell (Checking xid terms origin acd stands) = standing_typed tell stands
  release_typed tell (Waiting due) = off_typed
  release_typed tell (Bound xid terms acd) = released_typed tell terms
  release_typed tell (Renewing exchange terms acd due) = released_typed tell terms
  release_typed tell (Rebinding exchange terms acd due) = released_typed tell terms

  pub rebind_typed : (kept : Option Terms4) (state : State4) → TypedState state → TypedStep (rebind_row turn kept state)
  rebind_typed kept Off typed = begins_typed _ kept
  rebind_typed kept (Init due) typed = rests_typed (Init due) typed
  rebind_typed kept (Selecting xid began secs backoff due) typed = rests_typed (Selecting xid began secs backoff due) typed
  rebind_typed kept (Requesting exchange secs backoff due) typed = rests_typed (Requesting exchange secs backoff due) typed
  rebind_typed kept (Rebooting exchange backoff end due stands) typed = rests_typed (Rebooting exchange backoff end due stands) typed
  rebind_typed kept (Checking xid terms origin acd stands) typed = rests_typed (Checking xid terms origin acd stands) typed
  rebind_typed kept (Waiting due) typed = rests_typed (Waiting due) typed
  rebind_typed kept (Bound xid terms acd) typed = record { state = tt; keep = tt }
  rebind_typed kept (Renewing exchange terms acd due) typed = record { state = tt; keep = tt }
  rebind_typed kept (Rebinding exchange terms acd due) typed = rests_typed (Rebinding exchange terms acd due) typed

  pub unsent_typed : (state : State4) → TypedState state → TypedState (unsent_row turn state)
  unsent_typed Off typed = typed
  unsent_typed (Init due) typed = typed
  unsent_typed (Selecting xid began secs backoff due) typed = typed
  unsent_typed (Requesting exchange secs backoff due) typed = typed
  unsent_typed (Rebooting exchange backoff end due stands) typed = typed
  unsent_typed (Checking xid terms origin acd stands) typed = typed
  unsent_typed (Waiting due) typed = typed
  unsent_typed (Bound xid terms acd) typed = typed
  unsent_typed (Renewing exchange terms acd due) typed = typed
  unsent_typed (Rebinding exchange terms acd due) typed = typed
