-- Each row of the table keeps what holds of every client.
use Rattle.std.proofs.Common.{◌≡◌, ℕ, inl, inr, ◌+◌, ◌*◌, ◌≤◌, Bool, true, false, ◌&&◌, ◌||◌, List, Option, Some, None, IfSome, refl, sym, nat_le, eqb, arith}
use Rattle.std.specs.Option.{is_some}
use Rattle.net_types.specs.Moments.{IsMoment}
use Rattle.machine.specs.Moment.{is_due}
use Rattle.net_types.proofs.CaseLaws.{gated}
use Rattle.net_types.specs.declared.address.Mac.{Mac}
use Rattle.frame_link.specs.declared.arp.ArpView.{ArpView}
use Rattle.arp_acd.specs.declared.detection.Acd.{Acd}
use Rattle.arp_acd.specs.declared.detection.AcdSays.{AcdSays}
use Rattle.arp_acd.specs.declared.detection.AcdSays.TheVariants.{Quiet, SayProbe, SayAnnounce, Passed, Conflict, GivenUp}
use Rattle.arp_acd.specs.Table as detection
use Rattle.lease_text.specs.declared.lease.Terms4.{Terms4}
use Rattle.lease_text.specs.Bounds.{FitsTerms}
use Rattle.v4_client.specs.declared.moments.Backoff.TheVariants.{Four, Eight, Sixteen, ThirtyTwo, SixtyFour}
use Rattle.v4_client.specs.declared.states.Answer4.{Answer4}
use Rattle.v4_client.specs.declared.states.Answer4.TheVariants as answer
use Rattle.v4_client.specs.declared.states.Exchange4.{Exchange4}
use Rattle.v4_client.specs.declared.states.News4.{News4}
use Rattle.v4_client.specs.declared.states.News4.TheVariants as news
use Rattle.v4_client.specs.declared.states.Origin4.{Origin4}
use Rattle.v4_client.specs.declared.states.Origin4.TheVariants.{Offered, Rebooted}
use Rattle.v4_client.specs.declared.states.State4.{State4}
use Rattle.v4_client.specs.declared.states.State4.TheVariants.{Off, Init, Selecting, Requesting, Rebooting, Checking, Waiting, Bound, Renewing, Rebinding}
use Rattle.v4_client.specs.declared.states.Step4.{Step4}
use Rattle.v4_client.specs.declared.states.Tell.{Tell}
use Rattle.v4_client.specs.declared.states.Tell.TheVariants.{Server, Nobody}
use Rattle.v4_client.specs.declared.states.Turn4.{Turn4}
use Rattle.v4_client.specs.Clients.{held_terms}
use Rattle.v4_client.specs.Detection.{checked, defended, with_acd}
use Rattle.v4_client.specs.Hearing.{offered, granted, answered, renewed, heard_row, contested, arp_row}
use Rattle.v4_client.specs.Inputs.{entered, begins, begin_row, off_row, released, released_standing, release_row, rebind_row, unsent_row}
use Rattle.v4_client.specs.declared.moments.TheConstants.{SECOND}
use Rattle.v4_client.specs.Moments.{again_at, doubled, expiry, renewal_at, rebinding_at, standing_until}
use Rattle.v4_client.specs.Sound.{FitsExchange, FitsRenewal, FitsRenewing, FitsChecking, FitsState, FitsAnswer, FitsBegin, StaysHeld, IsSoundStep}
use Rattle.v4_client.specs.Steps.{rests, stops, to_init, discovers, requesting, rebooting, new_exchange, renewing, rebinding, binds, bound_news, expires, refused, declines, gives_up, standing_news}
use Rattle.v4_client.specs.Ticks.{detects, bound_tick, renewing_tick, rebinding_tick, tick_row}

-- ---- what doesn't look at the kept lease

-- a REQUEST that renews is said again before the lease is over
again_by : (end : Option ℕ) (at : ℕ) → IfSome end (λ last. again_at end at ≤ last)
again_by None at = tt
again_by (Some end) at = omega arith

-- a new exchange for the address of a lease
anew : (turn : Turn4) (terms : Terms4) → IsMoment turn.at → FitsTerms terms → FitsRenewal (new_exchange turn terms.net.ip) terms
anew turn terms at fits =
    record { asks = record { address = fits.address; first = at }; holds = fits; same = refl }

-- conflict detection changes neither what is held nor that it fits
with_acd_fits : (state : State4) (acd : Acd) → FitsState state → FitsState (with_acd state acd)
with_acd_fits Off acd fits = fits
with_acd_fits (Init due) acd fits = fits
with_acd_fits (Selecting xid began secs backoff due) acd fits = fits
with_acd_fits (Requesting exchange secs backoff due) acd fits = fits
with_acd_fits (Rebooting exchange backoff end due stands) acd fits = fits
with_acd_fits (Checking xid terms origin before stands) acd fits = fits
with_acd_fits (Waiting due) acd fits = fits
with_acd_fits (Bound xid terms before) acd fits = fits
with_acd_fits (Renewing exchange terms before due) acd fits = fits
with_acd_fits (Rebinding exchange terms before due) acd fits = fits

with_acd_held : (state : State4) (acd : Acd) → held_terms state ≡ held_terms (with_acd state acd)
with_acd_held Off acd = refl
with_acd_held (Init due) acd = refl
with_acd_held (Selecting xid began secs backoff due) acd = refl
with_acd_held (Requesting exchange secs backoff due) acd = refl
with_acd_held (Rebooting exchange backoff end due stands) acd = refl
with_acd_held (Checking xid terms origin before stands) acd = refl
with_acd_held (Waiting due) acd = refl
with_acd_held (Bound xid terms before) acd = refl
with_acd_held (Renewing exchange terms before due) acd = refl
with_acd_held (Rebinding exchange terms before due) acd = refl

-- a failed send changes neither what is held nor that it fits
pub unsent_fits : (turn : Turn4) (state : State4) → FitsState state → FitsState (unsent_row turn state)
unsent_fits turn Off fits = fits
unsent_fits turn (Init due) fits = fits
unsent_fits turn (Selecting xid began secs backoff due) fits = fits
unsent_fits turn (Requesting exchange secs backoff due) fits = fits
unsent_fits turn (Rebooting exchange backoff end due stands) fits = fits
unsent_fits turn (Checking xid terms origin acd stands) fits = fits
unsent_fits turn (Waiting due) fits = fits
unsent_fits turn (Bound xid terms acd) fits = fits
unsent_fits turn (Renewing exchange terms acd due) fits = fits
unsent_fits turn (Rebinding exchange terms acd due) fits = fits

pub unsent_held : (turn : Turn4) (state : State4) → held_terms (unsent_row turn state) ≡ held_terms state
unsent_held turn Off = refl
unsent_held turn (Init due) = refl
unsent_held turn (Selecting xid began secs backoff due) = refl
unsent_held turn (Requesting exchange secs backoff due) = refl
unsent_held turn (Rebooting exchange backoff end due stands) = refl
unsent_held turn (Checking xid terms origin acd stands) = refl
unsent_held turn (Waiting due) = refl
unsent_held turn (Bound xid terms acd) = refl
unsent_held turn (Renewing exchange terms acd due) = refl
unsent_held turn (Rebinding exchange terms acd due) = refl

-- ---- steps of a client that keeps a lease on these terms

module _ (kept : Option Terms4) where
  -- ---- steps that hold nothing

  keeps_same : (before after : Option Terms4) → before ≡ after → StaysHeld kept before after
  keeps_same before None e = tt
  keeps_same before (Some terms) e = inl e

  pub rests_sound : (turn : Turn4) (state : State4) → FitsState state → IsSoundStep kept state (rests turn state)
  rests_sound turn state fits = record { state = fits; keep = tt; held = keeps_same (held_terms state) (held_terms state) refl }

  to_init_sound : (turn : Turn4) (before : State4) → IsSoundStep kept before (to_init turn)
  to_init_sound turn before = record { state = tt; keep = tt; held = tt }

  discovers_sound : (turn : Turn4) (before : State4) → IsSoundStep kept before (discovers turn)
  discovers_sound turn before = record { state = tt; keep = tt; held = tt }

  stops_sound : (turn : Turn4) (before : State4) → IsSoundStep kept before (stops turn)
  stops_sound turn before = record { state = tt; keep = tt; held = tt }

  expires_sound : (turn : Turn4) (before : State4) → IsSoundStep kept before (expires turn)
  expires_sound turn before = record { state = tt; keep = tt; held = refl }

  refused_sound : (turn : Turn4) (before : State4) → IsSoundStep kept before (refused turn)
  refused_sound turn before = record { state = tt; keep = tt; held = refl }

  declines_sound : (turn : Turn4) (before : State4) (xid : ℕ) (terms : Terms4) (news : News4)
      → IsSoundStep kept before (declines turn xid terms news)
  declines_sound turn before xid terms news = record { state = tt; keep = tt; held = refl }

  gives_up_sound : (turn : Turn4) (before : State4) (xid : ℕ) (terms : Terms4) → IsSoundStep kept before (gives_up turn xid terms)
  gives_up_sound turn before xid terms = declines_sound turn before xid terms news.Expire

  -- ---- steps that hold a lease

  binds_sound : (turn : Turn4) (before : State4) (xid : ℕ) (terms : Terms4) (news : News4) (acd : Option Acd) → FitsTerms terms
      → IsSoundStep kept before (binds turn xid terms news acd)
  binds_sound turn before xid terms news acd fits = record { state = fits; keep = fits; held = refl }

  renewing_sound : (turn : Turn4) (before : State4) (exchange : Exchange4) (terms : Terms4) (acd : Option Acd)
      → held_terms before ≡ Some terms → FitsRenewal exchange terms → IsSoundStep kept before (renewing turn exchange terms acd)
  renewing_sound turn before exchange terms acd held fits =
      record { state = record { renewal = fits; wakes = again_by (rebinding_at terms) turn.at }; keep = tt; held = inl held }

  rebinding_sound : (turn : Turn4) (before : State4) (exchange : Exchange4) (terms : Terms4) (acd : Option Acd)
      → held_terms before ≡ Some terms → FitsRenewal exchange terms → IsSoundStep kept before (rebinding turn exchange terms acd)
  rebinding_sound turn before exchange terms acd held fits =
      record { state = record { renewal = fits; wakes = again_by (expiry terms) turn.at }; keep = tt; held = inl held }

  defended_sound : (turn : Turn4) (before : State4) (xid : ℕ) (terms : Terms4) (state : State4) (says : AcdSays)
      → FitsState state → held_terms before ≡ held_terms state → IsSoundStep kept before (defended turn xid terms state says)
  defended_sound turn before xid terms state Quiet fits held =
      record { state = fits; keep = tt; held = keeps_same (held_terms before) (held_terms state) held }
  defended_sound turn before xid terms state SayProbe fits held =
      record { state = fits; keep = tt; held = keeps_same (held_terms before) (held_terms state) held }
  defended_sound turn before xid terms state SayAnnounce fits held =
      record { state = fits; keep = tt; held = keeps_same (held_terms before) (held_terms state) held }
  defended_sound turn before xid terms state Passed fits held =
      record { state = fits; keep = tt; held = keeps_same (held_terms before) (held_terms state) held }
  defended_sound turn before xid terms state Conflict fits held =
      record { state = fits; keep = tt; held = keeps_same (held_terms before) (held_terms state) held }
  defended_sound turn before xid terms state GivenUp fits held = gives_up_sound turn before xid terms

  detects_sound : (turn : Turn4) (xid : ℕ) (terms : Terms4) (state : State4) (acd : Option Acd) → FitsState state
      → IsSoundStep kept state (detects turn xid terms state acd)
  detects_sound turn xid terms state None fits = rests_sound turn state fits
  detects_sound turn xid terms state (Some acd) fits =
      defended_sound turn state xid terms (with_acd state (detection.acd_tick acd turn.at turn.salt).acd)
      (detection.acd_tick acd turn.at turn.salt).says (with_acd_fits state (detection.acd_tick acd turn.at turn.salt).acd fits)
      (with_acd_held state (detection.acd_tick acd turn.at turn.salt).acd)

  contested_sound : (own : List Mac) (turn : Turn4) (arp : ArpView) (xid : ℕ) (terms : Terms4) (state : State4) (acd : Option Acd)
      → FitsState state → IsSoundStep kept state (contested own turn arp xid terms state acd)
  contested_sound own turn arp xid terms state None fits = rests_sound turn state fits
  contested_sound own turn arp xid terms state (Some acd) fits =
      defended_sound turn state xid terms (with_acd state (detection.acd_hears own acd arp turn.at).acd)
      (detection.acd_hears own acd arp turn.at).says (with_acd_fits state (detection.acd_hears own acd arp turn.at).acd fits)
      (with_acd_held state (detection.acd_hears own acd arp turn.at).acd)

  checked_sound : (turn : Turn4) (before : State4) (xid : ℕ) (terms : Terms4) (origin : Origin4) (acd : Acd) (stands : Option Terms4)
      (says : AcdSays) → held_terms before ≡ stands → FitsChecking terms stands
      → IsSoundStep kept before (checked turn xid terms origin acd stands says)
  checked_sound turn before xid terms origin acd stands Quiet held fits =
      record { state = fits; keep = tt; held = keeps_same (held_terms before) stands held }
  checked_sound turn before xid terms origin acd stands SayProbe held fits =
      record { state = fits; keep = tt; held = keeps_same (held_terms before) stands held }
  checked_sound turn before xid terms origin acd stands SayAnnounce held fits =
      record { state = fits; keep = tt; held = keeps_same (held_terms before) stands held }
  checked_sound turn before xid terms origin acd stands Passed held fits = record { state = fits.checks; keep = fits.checks; held = refl }
  checked_sound turn before xid terms origin acd stands Conflict held fits = declines_sound turn before xid terms (standing_news stands)
  checked_sound turn before xid terms origin acd stands GivenUp held fits =
      record { state = fits; keep = tt; held = keeps_same (held_terms before) stands held }

  -- ---- ticks

  bound_sound : (turn : Turn4) (xid : ℕ) (terms : Terms4) (acd : Option Acd) → IsMoment turn.at → FitsTerms terms
      → IsSoundStep kept (Bound xid terms acd) (bound_tick turn xid terms acd)
  bound_sound turn xid terms acd at fits =
      let here : State4 = Bound xid terms acd in
      gated (IsSoundStep kept here) (is_due (expiry terms) turn.at) _ _ (expires_sound turn here)
      (gated (IsSoundStep kept here) (is_due (rebinding_at terms) turn.at) _ _
      (rebinding_sound turn here (new_exchange turn terms.net.ip) terms acd refl (anew turn terms at fits))
      (gated (IsSoundStep kept here) (is_due (renewal_at terms) turn.at) _ _
      (renewing_sound turn here (new_exchange turn terms.net.ip) terms acd refl (anew turn terms at fits))
      (detects_sound turn xid terms here acd fits)))

  renewing_tick_sound : (turn : Turn4) (exchange : Exchange4) (terms : Terms4) (acd : Option Acd) (due : ℕ) → IsMoment turn.at
      → FitsRenewing exchange terms (rebinding_at terms) due
      → IsSoundStep kept (Renewing exchange terms acd due) (renewing_tick turn exchange terms acd due)
  renewing_tick_sound turn exchange terms acd due at fits =
      let here : State4 = Renewing exchange terms acd due in
      gated (IsSoundStep kept here) (is_due (expiry terms) turn.at) _ _ (expires_sound turn here)
      (gated (IsSoundStep kept here) (is_due (rebinding_at terms) turn.at) _ _
      (rebinding_sound turn here (new_exchange turn terms.net.ip) terms acd refl (anew turn terms at fits.renewal.holds))
      (gated (IsSoundStep kept here) (nat_le due turn.at) _ _ (renewing_sound turn here exchange terms acd refl fits.renewal)
      (detects_sound turn exchange.xid terms here acd fits)))

  rebinding_tick_sound : (turn : Turn4) (exchange : Exchange4) (terms : Terms4) (acd : Option Acd) (due : ℕ) → IsMoment turn.at
      → FitsRenewing exchange terms (expiry terms) due → IsSoundStep kept (Rebinding exchange terms acd due) (rebinding_tick turn exchange terms acd due)
  rebinding_tick_sound turn exchange terms acd due at fits =
      let here : State4 = Rebinding exchange terms acd due in
      gated (IsSoundStep kept here) (is_due (expiry terms) turn.at) _ _ (expires_sound turn here)
      (gated (IsSoundStep kept here) (nat_le due turn.at) _ _ (rebinding_sound turn here exchange terms acd refl fits.renewal)
      (detects_sound turn exchange.xid terms here acd fits))

  requesting_sound : (turn : Turn4) (before : State4) (exchange : Exchange4) (secs : ℕ) (backoff : _) → FitsExchange exchange
      → IsSoundStep kept before (requesting turn exchange secs backoff)
  requesting_sound turn before exchange secs backoff fits = record { state = fits; keep = tt; held = tt }

  pub tick_sound : (turn : Turn4) (state : State4) → IsMoment turn.at → FitsState state → IsSoundStep kept state (tick_row turn state)
  tick_sound turn Off at fits = rests_sound turn Off tt
  tick_sound turn (Init due) at fits = discovers_sound turn (Init due)
  tick_sound turn (Waiting due) at fits = discovers_sound turn (Waiting due)
  tick_sound turn (Selecting xid began secs backoff due) at fits = record { state = tt; keep = tt; held = tt }
  tick_sound turn (Requesting exchange secs Four due) at fits = record { state = fits; keep = tt; held = tt }
  tick_sound turn (Requesting exchange secs Eight due) at fits = record { state = fits; keep = tt; held = tt }
  tick_sound turn (Requesting exchange secs Sixteen due) at fits = record { state = fits; keep = tt; held = tt }
  tick_sound turn (Requesting exchange secs ThirtyTwo due) at fits = record { state = fits; keep = tt; held = tt }
  tick_sound turn (Requesting exchange secs SixtyFour due) at fits = record { state = tt; keep = tt; held = tt }
  tick_sound turn (Rebooting exchange backoff end due stands) at fits =
      let here : State4 = Rebooting exchange backoff end due stands in
      gated (IsSoundStep kept here) (is_due (standing_until stands) turn.at) _ _ (expires_sound turn here)
      (gated (IsSoundStep kept here) (nat_le end turn.at) _ (rebooting turn exchange (doubled backoff) end stands)
      (record { state = tt; keep = tt; held = tt })
      (record {
        state = record { asks = fits.asks; wakes = omega arith; holds = fits.holds };
        keep = tt;
        held = keeps_same stands stands refl;
      }))
  tick_sound turn (Checking xid terms origin acd stands) at fits =
      let here : State4 = Checking xid terms origin acd stands in
      gated (IsSoundStep kept here) (is_due (standing_until stands) turn.at) _ _
      (record { state = record { checks = fits.checks; holds = tt }; keep = tt; held = refl })
      (gated (IsSoundStep kept here) (is_due (expiry terms) turn.at) _ _ (record { state = tt; keep = tt; held = tt })
      (checked_sound turn here xid terms origin (detection.acd_tick acd turn.at turn.salt).acd stands
      (detection.acd_tick acd turn.at turn.salt).says refl fits))
  tick_sound turn (Bound xid terms acd) at fits = bound_sound turn xid terms acd at fits
  tick_sound turn (Renewing exchange terms acd due) at fits = renewing_tick_sound turn exchange terms acd due at fits
  tick_sound turn (Rebinding exchange terms acd due) at fits = rebinding_tick_sound turn exchange terms acd due at fits

  -- ---- messages

  granted_sound : (turn : Turn4) (before : State4) (xid : ℕ) (terms : Terms4) (origin : Origin4) (stands : Option Terms4)
      → held_terms before ≡ stands → FitsTerms terms → IfSome stands FitsTerms → IsSoundStep kept before (granted turn xid terms origin stands)
  granted_sound turn before xid terms origin stands held fits holds =
      gated (IsSoundStep kept before) turn.site.flags.noarp _ _ (binds_sound turn before xid terms (bound_news origin) None fits)
      (record { state = record { checks = fits; holds = holds }; keep = tt; held = keeps_same (held_terms before) stands held })

  offered_sound : (turn : Turn4) (xid secs : ℕ) (state : State4) (answer : Answer4) → IsMoment turn.at → FitsState state
      → FitsAnswer answer → IsSoundStep kept state (offered turn xid secs state answer)
  offered_sound turn xid secs state answer.Nothing at fits good = rests_sound turn state fits
  offered_sound turn xid secs state (answer.Offer address server) at fits good =
      record { state = record { address = good; first = at }; keep = tt; held = tt }
  offered_sound turn xid secs state (answer.Ack terms) at fits good = rests_sound turn state fits
  offered_sound turn xid secs state answer.Nak at fits good = rests_sound turn state fits

  answered_sound : (turn : Turn4) (xid : ℕ) (origin : Origin4) (stands : Option Terms4) (state : State4) (answer : Answer4)
      → held_terms state ≡ stands → IfSome stands FitsTerms → FitsState state → FitsAnswer answer
      → IsSoundStep kept state (answered turn xid origin stands state answer)
  answered_sound turn xid origin stands state answer.Nothing held holds fits good = rests_sound turn state fits
  answered_sound turn xid origin stands state (answer.Offer address server) held holds fits good = rests_sound turn state fits
  answered_sound turn xid origin stands state (answer.Ack terms) held holds fits good =
      granted_sound turn state xid terms origin stands held good holds
  answered_sound turn xid origin stands state answer.Nak held holds fits good = refused_sound turn state

  renewed_sound : (turn : Turn4) (xid : ℕ) (news : News4) (acd : Option Acd) (state : State4) (answer : Answer4) → FitsState state
      → FitsAnswer answer → IsSoundStep kept state (renewed turn xid news acd state answer)
  renewed_sound turn xid news acd state answer.Nothing fits good = rests_sound turn state fits
  renewed_sound turn xid news acd state (answer.Offer address server) fits good = rests_sound turn state fits
  renewed_sound turn xid news acd state (answer.Ack terms) fits good = binds_sound turn state xid terms news acd good
  renewed_sound turn xid news acd state answer.Nak fits good = refused_sound turn state

  pub heard_sound : (turn : Turn4) (answer : Answer4) (state : State4) → IsMoment turn.at → FitsState state → FitsAnswer answer
      → IsSoundStep kept state (heard_row turn answer state)
  heard_sound turn answer Off at fits good = rests_sound turn Off tt
  heard_sound turn answer (Init due) at fits good = rests_sound turn (Init due) tt
  heard_sound turn answer (Selecting xid began secs backoff due) at fits good =
      offered_sound turn xid secs (Selecting xid began secs backoff due) answer at fits good
  heard_sound turn answer (Requesting exchange secs backoff due) at fits good =
      answered_sound turn exchange.xid Offered None (Requesting exchange secs backoff due) answer refl tt fits good
  heard_sound turn answer (Rebooting exchange backoff end due stands) at fits good =
      answered_sound turn exchange.xid Rebooted stands (Rebooting exchange backoff end due stands) answer refl fits.holds fits good
  heard_sound turn answer (Checking xid terms origin acd stands) at fits good = rests_sound turn (Checking xid terms origin acd stands) fits
  heard_sound turn answer (Waiting due) at fits good = rests_sound turn (Waiting due) tt
  heard_sound turn answer (Bound xid terms acd) at fits good = rests_sound turn (Bound xid terms acd) fits
  heard_sound turn answer (Renewing exchange terms acd due) at fits good =
      renewed_sound turn exchange.xid news.Renew acd (Renewing exchange terms acd due) answer fits good
  heard_sound turn answer (Rebinding exchange terms acd due) at fits good =
      renewed_sound turn exchange.xid news.Rebind acd (Rebinding exchange terms acd due) answer fits good

  pub arp_sound : (own : List Mac) (turn : Turn4) (arp : ArpView) (state : State4) → FitsState state
      → IsSoundStep kept state (arp_row own turn arp state)
  arp_sound own turn arp Off fits = rests_sound turn Off tt
  arp_sound own turn arp (Init due) fits = rests_sound turn (Init due) tt
  arp_sound own turn arp (Selecting xid began secs backoff due) fits =
      rests_sound turn (Selecting xid began secs backoff due) tt
  arp_sound own turn arp (Requesting exchange secs backoff due) fits =
      rests_sound turn (Requesting exchange secs backoff due) fits
  arp_sound own turn arp (Rebooting exchange backoff end due stands) fits = rests_sound turn (Rebooting exchange backoff end due stands) fits
  arp_sound own turn arp (Checking xid terms origin acd stands) fits =
      checked_sound turn (Checking xid terms origin acd stands) xid terms origin (detection.acd_hears own acd arp turn.at).acd stands
      (detection.acd_hears own acd arp turn.at).says refl fits
  arp_sound own turn arp (Waiting due) fits = rests_sound turn (Waiting due) tt
  arp_sound own turn arp (Bound xid terms acd) fits = contested_sound own turn arp xid terms (Bound xid terms acd) acd fits
  arp_sound own turn arp (Renewing exchange terms acd due) fits =
      contested_sound own turn arp exchange.xid terms (Renewing exchange terms acd due) acd fits
  arp_sound own turn arp (Rebinding exchange terms acd due) fits =
      contested_sound own turn arp exchange.xid terms (Rebinding exchange terms acd due) acd fits

  -- ---- the other inputs

  -- the step of a begin
  abbrev IsSoundBegin : (before : State4) → Step4 → Type 0
  IsSoundBegin before step = IsSoundStep kept before (record step { spends = true })

  begins_sound : (turn : Turn4) (may_stand : Bool) (before : State4) → IsMoment turn.at → FitsBegin kept
      → IsSoundStep kept before (begins turn may_stand kept)
  begins_sound turn may_stand before at fits = from kept refl fits
    where
      asks : (terms : Terms4) → kept ≡ Some terms → FitsTerms terms → (stands : Option Terms4) → IfSome stands FitsTerms
          → StaysHeld kept (held_terms before) stands
          → IsSoundBegin before (rebooting turn (new_exchange turn terms.net.ip) Four (turn.at + SECOND * turn.site.times.reboot) stands)
      asks terms is good stands holds held = record {
        state = record { asks = record { address = good.address; first = at }; wakes = omega arith; holds = holds };
        keep = tt;
        held = held;
      }

      from : (known : Option Terms4) → kept ≡ known → FitsBegin known → IsSoundBegin before (entered turn may_stand known)
      from None is good = record { state = tt; keep = tt; held = tt }
      from (Some terms) is good =
          gated (IsSoundBegin before) (is_due (expiry terms) turn.at || eqb turn.site.times.reboot 0) _ _ (record { state = tt; keep = tt; held = tt })
          (gated
          (λ (stands : Option Terms4). IsSoundBegin before
          (rebooting turn (new_exchange turn terms.net.ip) Four (turn.at + SECOND * turn.site.times.reboot) stands))
          (turn.site.flags.persistent && may_stand && is_some terms.origin) (Some terms) None (asks terms is good (Some terms) good (inr is))
          (asks terms is good None tt tt))

  pub begin_sound : (turn : Turn4) (may_stand : Bool) (state : State4) → IsMoment turn.at → FitsBegin kept → FitsState state
      → IsSoundStep kept state (begin_row turn may_stand kept state)
  begin_sound turn may_stand Off at begin fits = begins_sound turn may_stand Off at begin
  begin_sound turn may_stand (Init due) at begin fits = rests_sound turn (Init due) fits
  begin_sound turn may_stand (Selecting xid began secs backoff due) at begin fits =
      rests_sound turn (Selecting xid began secs backoff due) fits
  begin_sound turn may_stand (Requesting exchange secs backoff due) at begin fits =
      rests_sound turn (Requesting exchange secs backoff due) fits
  begin_sound turn may_stand (Rebooting exchange backoff end due stands) at begin fits =
      rests_sound turn (Rebooting exchange backoff end due stands) fits
  begin_sound turn may_stand (Checking xid terms origin acd stands) at begin fits = rests_sound turn (Checking xid terms origin acd stands) fits
  begin_sound turn may_stand (Waiting due) at begin fits = rests_sound turn (Waiting due) fits
  begin_sound turn may_stand (Bound xid terms acd) at begin fits = rests_sound turn (Bound xid terms acd) fits
  begin_sound turn may_stand (Renewing exchange terms acd due) at begin fits = rests_sound turn (Renewing exchange terms acd due) fits
  begin_sound turn may_stand (Rebinding exchange terms acd due) at begin fits = rests_sound turn (Rebinding exchange terms acd due) fits

  pub off_sound : (turn : Turn4) (state : State4) → IsSoundStep kept state (off_row turn)
  off_sound turn state = stops_sound turn state

  released_sound : (turn : Turn4) (tell : Tell) (terms : Terms4) (before : State4) → IsSoundStep kept before (released turn tell terms)
  released_sound turn Server terms before = record { state = tt; keep = tt; held = refl }
  released_sound turn Nobody terms before = record { state = tt; keep = tt; held = tt }

  standing_sound : (turn : Turn4) (tell : Tell) (stands : Option Terms4) (before : State4)
      → IsSoundStep kept before (released_standing turn tell stands)
  standing_sound turn tell None before = stops_sound turn before
  standing_sound turn tell (Some terms) before = released_sound turn tell terms before

  pub release_sound : (turn : Turn4) (tell : Tell) (state : State4) → IsSoundStep kept state (release_row turn tell state)
  release_sound turn tell Off = off_sound turn Off
  release_sound turn tell (Init due) = off_sound turn (Init due)
  release_sound turn tell (Selecting xid began secs backoff due) = off_sound turn (Selecting xid began secs backoff due)
  release_sound turn tell (Requesting exchange secs backoff due) = off_sound turn (Requesting exchange secs backoff due)
  release_sound turn tell (Rebooting exchange backoff end due stands) = standing_sound turn tell stands (Rebooting exchange backoff end due stands)
  release_sound turn tell (Checking xid terms origin acd stands) = standing_sound turn tell stands (Checking xid terms origin acd stands)
  release_sound turn tell (Waiting due) = off_sound turn (Waiting due)
  release_sound turn tell (Bound xid terms acd) = released_sound turn tell terms (Bound xid terms acd)
  release_sound turn tell (Renewing exchange terms acd due) = released_sound turn tell terms (Renewing exchange terms acd due)
  release_sound turn tell (Rebinding exchange terms acd due) = released_sound turn tell terms (Rebinding exchange terms acd due)

  pub rebind_sound : (turn : Turn4) (state : State4) → IsMoment turn.at → FitsBegin kept → FitsState state
      → IsSoundStep kept state (rebind_row turn kept state)
  rebind_sound turn Off at begin fits = begins_sound turn false Off at begin
  rebind_sound turn (Init due) at begin fits = rests_sound turn (Init due) fits
  rebind_sound turn (Selecting xid began secs backoff due) at begin fits =
      rests_sound turn (Selecting xid began secs backoff due) fits
  rebind_sound turn (Requesting exchange secs backoff due) at begin fits =
      rests_sound turn (Requesting exchange secs backoff due) fits
  rebind_sound turn (Rebooting exchange backoff end due stands) at begin fits =
      rests_sound turn (Rebooting exchange backoff end due stands) fits
  rebind_sound turn (Checking xid terms origin acd stands) at begin fits = rests_sound turn (Checking xid terms origin acd stands) fits
  rebind_sound turn (Waiting due) at begin fits = rests_sound turn (Waiting due) fits
  rebind_sound turn (Bound xid terms acd) at begin fits =
      rebinding_sound turn (Bound xid terms acd) (new_exchange turn terms.net.ip) terms acd refl (anew turn terms at fits)
  rebind_sound turn (Renewing exchange terms acd due) at begin fits =
      rebinding_sound turn (Renewing exchange terms acd due) (new_exchange turn terms.net.ip) terms acd refl
      (anew turn terms at fits.renewal.holds)
  rebind_sound turn (Rebinding exchange terms acd due) at begin fits =
      rests_sound turn (Rebinding exchange terms acd due) fits

pub unsent_sound : (kept : Option Terms4) (turn : Turn4) (state : State4) → FitsState state → IsSoundStep kept state (rests turn (unsent_row turn state))
unsent_sound kept turn state fits =
    record {
      state = unsent_fits turn state fits;
      keep = tt;
      held = keeps_same kept (held_terms state) (held_terms (unsent_row turn state)) (sym (unsent_held turn state));
    }
