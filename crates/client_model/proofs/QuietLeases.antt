-- A step of a client without news leaves the lease that it holds.
use Rattle.std.proofs.Common.{ℕ, ◌≡◌, ◌+◌, ◌*◌, ◌||◌, ◌&&◌, Bool, true, false, cond, List, Option, Some, None, nat_le, nat_eq, is_some, refl, sym, ap}
use Rattle.net_types.proofs.CaseLaws.{gated}
use Rattle.net_types.specs.declared.address.Mac.{Mac}
use Rattle.net_types.specs.declared.interface.Name.{Name}
use Rattle.frame_link.specs.declared.arp.ArpView.{ArpView}
use Rattle.v4_client.specs.Machine.Moment.{is_due}
use Rattle.v4_client.specs.ArpAcd.declared.detection.Acd.{Acd}
use Rattle.v4_client.specs.ArpAcd.declared.detection.AcdSays.{AcdSays}
use Rattle.v4_client.specs.ArpAcd.declared.detection.AcdSays.TheVariants.{Quiet, SayProbe, SayAnnounce, Passed, Conflict, GivenUp}
use Rattle.v4_client.specs.ArpAcd.Table as detection
use Rattle.v4_client.specs.LeaseText.declared.lease.Terms4.{Terms4}
use Rattle.v4_client.specs.LeaseText.Leases.{LeaseContent, ValueContent}
use Rattle.v4_client.specs.declared.moments.Backoff.{Backoff}
use Rattle.v4_client.specs.declared.moments.Backoff.TheVariants.{Four}
use Rattle.v4_client.specs.declared.states.Answer4.{Answer4}
use Rattle.v4_client.specs.declared.states.Answer4.TheVariants as answer
use Rattle.v4_client.specs.declared.states.Exchange4.{Exchange4}
use Rattle.v4_client.specs.declared.states.News4.TheVariants as news
use Rattle.v4_client.specs.declared.states.Origin4.{Origin4}
use Rattle.v4_client.specs.declared.states.Origin4.TheVariants.{Offered, Rebooted}
use Rattle.v4_client.specs.declared.states.State4.{State4}
use Rattle.v4_client.specs.declared.states.State4.TheVariants.{Off, Init, Selecting, Requesting, Rebooting, Checking, Waiting, Bound, Renewing, Rebinding}
use Rattle.v4_client.specs.declared.states.Step4.{Step4}
use Rattle.v4_client.specs.declared.states.Turn4.{Turn4}
use Rattle.v4_client.specs.Calls.{answer_to, arp_step, brought, heard_step, rebind_step, unsent_step}
use Rattle.v4_client.specs.Clients.{ClientContent, held_of, is_held, kept_terms, turn_of}
use Rattle.v4_client.specs.Detection.{checked, defended, with_acd}
use Rattle.v4_client.specs.Due.{due_of}
use Rattle.v4_client.specs.Hearing.{offered, granted, answered, renewed, heard_row, contested, arp_row}
use Rattle.v4_client.specs.History.{tick_step}
use Rattle.v4_client.specs.Inputs.{begins, rebind_row, stood, unsent_row}
use Rattle.v4_client.specs.Messages.{Arrival}
use Rattle.v4_client.specs.Moments.{doubled, expiry, rebinding_at, renewal_at, standing_until}
use Rattle.v4_client.specs.Moves.{kept_after, moved}
use Rattle.v4_client.specs.Steps.{binds, discovers, expires, new_exchange, rebinding, rebooting, renewing, requesting, rests, standing_news, to_init}
use Rattle.v4_client.specs.Ticks.{detects, falls, is_longest, tick_row}
use Rattle.v4_client.specs.declared.moments.TheConstants.{SECOND}

module _ (name : Name) (fresh : List ValueContent) (kept : Option LeaseContent) where
  abbrev held_in : State4 → Option LeaseContent
  held_in state = cond (is_held state) kept None

  abbrev held_after : Step4 → Option LeaseContent
  held_after step = cond (is_held step.state) (kept_after step.keep name fresh kept) None

  abbrev KeepsHeld : State4 → Step4 → Type 0
  KeepsHeld old step = step.news ≡ news.Nothing → held_after step ≡ held_in old

  -- ---- conflict detection

  checked_keeps : (turn : Turn4) (xid : ℕ) (terms : Terms4) (origin : Origin4) (before acd : Acd) (stands : Option Terms4) (says : AcdSays)
      → KeepsHeld (Checking xid terms origin before stands) (checked turn xid terms origin acd stands says)
  checked_keeps turn xid terms origin before acd stands SayProbe e = refl
  checked_keeps turn xid terms Offered before acd stands Passed e = cc
  checked_keeps turn xid terms Rebooted before acd stands Passed e = cc
  checked_keeps turn xid terms origin before acd None Conflict e = refl
  checked_keeps turn xid terms origin before acd (Some stood) Conflict e = cc
  checked_keeps turn xid terms origin before acd stands Quiet e = refl
  checked_keeps turn xid terms origin before acd stands SayAnnounce e = refl
  checked_keeps turn xid terms origin before acd stands GivenUp e = refl

  defended_keeps : (turn : Turn4) (xid : ℕ) (terms : Terms4) (old state : State4) (says : AcdSays) → is_held state ≡ is_held old
      → KeepsHeld old (defended turn xid terms state says)
  defended_keeps turn xid terms old state SayAnnounce same e = ap (λ (b : Bool). cond b kept None) same
  defended_keeps turn xid terms old state GivenUp same e = cc
  defended_keeps turn xid terms old state Quiet same e = ap (λ (b : Bool). cond b kept None) same
  defended_keeps turn xid terms old state SayProbe same e = ap (λ (b : Bool). cond b kept None) same
  defended_keeps turn xid terms old state Passed same e = ap (λ (b : Bool). cond b kept None) same
  defended_keeps turn xid terms old state Conflict same e = ap (λ (b : Bool). cond b kept None) same

  with_acd_held : (state : State4) (acd : Acd) → is_held (with_acd state acd) ≡ is_held state
  with_acd_held Off acd = refl
  with_acd_held (Init due) acd = refl
  with_acd_held (Selecting xid began secs backoff due) acd = refl
  with_acd_held (Requesting exchange secs backoff due) acd = refl
  with_acd_held (Rebooting exchange backoff end due stands) acd = refl
  with_acd_held (Checking xid terms origin before stands) acd = refl
  with_acd_held (Waiting due) acd = refl
  with_acd_held (Bound xid terms before) acd = refl
  with_acd_held (Renewing exchange terms before due) acd = refl
  with_acd_held (Rebinding exchange terms before due) acd = refl

  detects_keeps : (turn : Turn4) (xid : ℕ) (terms : Terms4) (state : State4) (acd : Option Acd) → KeepsHeld state (detects turn xid terms state acd)
  detects_keeps turn xid terms state None e = refl
  detects_keeps turn xid terms state (Some acd) e =
      defended_keeps turn xid terms state (with_acd state (detection.acd_tick acd turn.at turn.salt).acd) (detection.acd_tick acd turn.at turn.salt).says
      (with_acd_held state (detection.acd_tick acd turn.at turn.salt).acd) e

  contested_keeps : (own : List Mac) (turn : Turn4) (arp : ArpView) (xid : ℕ) (terms : Terms4) (state : State4) (acd : Option Acd)
      → KeepsHeld state (contested own turn arp xid terms state acd)
  contested_keeps own turn arp xid terms state None e = refl
  contested_keeps own turn arp xid terms state (Some acd) e =
      defended_keeps turn xid terms state (with_acd state (detection.acd_hears own acd arp turn.at).acd) (detection.acd_hears own acd arp turn.at).says
      (with_acd_held state (detection.acd_hears own acd arp turn.at).acd) e

  -- ---- ticks

  -- where the client stood no longer, that is told
  unanswered_keeps : (turn : Turn4) (exchange : Exchange4) (backoff : Backoff) (end due : ℕ) (stands : Option Terms4)
      → KeepsHeld (Rebooting exchange backoff end due stands) (record (discovers turn) { news = standing_news stands })
  unanswered_keeps turn exchange backoff end due None = λ e. refl
  unanswered_keeps turn exchange backoff end due (Some stood) = λ e. cc

  unchecked_keeps : (turn : Turn4) (xid : ℕ) (terms : Terms4) (origin : Origin4) (acd : Acd) (stands : Option Terms4)
      → KeepsHeld (Checking xid terms origin acd stands) (record (to_init turn) { news = standing_news stands })
  unchecked_keeps turn xid terms origin acd None = λ e. refl
  unchecked_keeps turn xid terms origin acd (Some stood) = λ e. cc

  tick_keeps : (turn : Turn4) (state : State4) → KeepsHeld state (tick_row turn state)
  tick_keeps turn Off = λ e. refl
  tick_keeps turn (Init due) = λ e. refl
  tick_keeps turn (Waiting due) = λ e. refl
  tick_keeps turn (Selecting xid began secs backoff due) = λ e. refl
  tick_keeps turn (Requesting exchange secs backoff due) =
      gated (KeepsHeld (Requesting exchange secs backoff due)) (is_longest backoff) (to_init turn) (requesting turn exchange secs (doubled backoff))
      (λ e. refl) (λ e. refl)
  tick_keeps turn (Rebooting exchange backoff end due stands) =
      gated (KeepsHeld (Rebooting exchange backoff end due stands)) (is_due (standing_until stands) turn.at) (expires turn) _ (λ e. cc)
      (gated (KeepsHeld (Rebooting exchange backoff end due stands)) (nat_le end turn.at) (record (discovers turn) { news = standing_news stands })
      (rebooting turn exchange (doubled backoff) end stands) (unanswered_keeps turn exchange backoff end due stands) (λ e. refl))
  tick_keeps turn (Checking xid terms origin acd stands) =
      gated (KeepsHeld (Checking xid terms origin acd stands)) (is_due (standing_until stands) turn.at) (falls turn (Checking xid terms origin acd None)) _
      (λ e. cc)
      (gated (KeepsHeld (Checking xid terms origin acd stands)) (is_due (expiry terms) turn.at) (record (to_init turn) { news = standing_news stands })
      (checked turn xid terms origin (detection.acd_tick acd turn.at turn.salt).acd stands (detection.acd_tick acd turn.at turn.salt).says)
      (unchecked_keeps turn xid terms origin acd stands)
      (checked_keeps turn xid terms origin acd (detection.acd_tick acd turn.at turn.salt).acd stands (detection.acd_tick acd turn.at turn.salt).says))
  tick_keeps turn (Bound xid terms acd) =
      gated (KeepsHeld (Bound xid terms acd)) (is_due (expiry terms) turn.at) (expires turn) _ (λ e. cc)
      (gated (KeepsHeld (Bound xid terms acd)) (is_due (rebinding_at terms) turn.at) (rebinding turn (new_exchange turn terms.net.ip) terms acd) _ (λ e. refl)
      (gated (KeepsHeld (Bound xid terms acd)) (is_due (renewal_at terms) turn.at) (renewing turn (new_exchange turn terms.net.ip) terms acd) _ (λ e. refl)
      (detects_keeps turn xid terms (Bound xid terms acd) acd)))
  tick_keeps turn (Renewing exchange terms acd due) =
      gated (KeepsHeld (Renewing exchange terms acd due)) (is_due (expiry terms) turn.at) (expires turn) _ (λ e. cc)
      (gated (KeepsHeld (Renewing exchange terms acd due)) (is_due (rebinding_at terms) turn.at) (rebinding turn (new_exchange turn terms.net.ip) terms acd) _
      (λ e. refl)
      (gated (KeepsHeld (Renewing exchange terms acd due)) (nat_le due turn.at) (renewing turn exchange terms acd) _ (λ e. refl)
      (detects_keeps turn exchange.xid terms (Renewing exchange terms acd due) acd)))
  tick_keeps turn (Rebinding exchange terms acd due) =
      gated (KeepsHeld (Rebinding exchange terms acd due)) (is_due (expiry terms) turn.at) (expires turn) _ (λ e. cc)
      (gated (KeepsHeld (Rebinding exchange terms acd due)) (nat_le due turn.at) (rebinding turn exchange terms acd) _ (λ e. refl)
      (detects_keeps turn exchange.xid terms (Rebinding exchange terms acd due) acd))

  -- ---- messages and packets

  -- the kept lease is held where the client stands on it
  abbrev held_by : (stands : Option Terms4) → Option LeaseContent
  held_by stands = cond (is_some stands) kept None

  granted_keeps : (turn : Turn4) (xid : ℕ) (terms : Terms4) (origin : Origin4) (stands : Option Terms4) (old : State4) → held_in old ≡ held_by stands
      → KeepsHeld old (granted turn xid terms origin stands)
  granted_keeps turn xid terms Offered stands old same =
      gated (KeepsHeld old) turn.site.flags.noarp (binds turn xid terms news.Bound None) _ (λ e. cc) (λ e. sym same)
  granted_keeps turn xid terms Rebooted stands old same =
      gated (KeepsHeld old) turn.site.flags.noarp (binds turn xid terms news.Reboot None) _ (λ e. cc) (λ e. sym same)

  offered_keeps : (turn : Turn4) (xid secs : ℕ) (state : State4) (said : Answer4) → held_in state ≡ None → KeepsHeld state (offered turn xid secs state said)
  offered_keeps turn xid secs state (answer.Offer address server) none e = sym none
  offered_keeps turn xid secs state answer.Nothing none e = refl
  offered_keeps turn xid secs state (answer.Ack terms) none e = refl
  offered_keeps turn xid secs state answer.Nak none e = refl

  answered_keeps : (turn : Turn4) (xid : ℕ) (origin : Origin4) (stands : Option Terms4) (state : State4) (said : Answer4) → held_in state ≡ held_by stands
      → KeepsHeld state (answered turn xid origin stands state said)
  answered_keeps turn xid origin stands state (answer.Ack terms) same = granted_keeps turn xid terms origin stands state same
  answered_keeps turn xid origin stands state answer.Nak same = λ e. cc
  answered_keeps turn xid origin stands state answer.Nothing same = λ e. refl
  answered_keeps turn xid origin stands state (answer.Offer address server) same = λ e. refl

  renewed_keeps : (turn : Turn4) (xid : ℕ) (acd : Option Acd) (state : State4) (said : Answer4) → KeepsHeld state (renewed turn xid news.Renew acd state said)
  renewed_keeps turn xid acd state (answer.Ack terms) e = cc
  renewed_keeps turn xid acd state answer.Nak e = cc
  renewed_keeps turn xid acd state answer.Nothing e = refl
  renewed_keeps turn xid acd state (answer.Offer address server) e = refl

  rebound_keeps : (turn : Turn4) (xid : ℕ) (acd : Option Acd) (state : State4) (said : Answer4) → KeepsHeld state (renewed turn xid news.Rebind acd state said)
  rebound_keeps turn xid acd state (answer.Ack terms) e = cc
  rebound_keeps turn xid acd state answer.Nak e = cc
  rebound_keeps turn xid acd state answer.Nothing e = refl
  rebound_keeps turn xid acd state (answer.Offer address server) e = refl

  heard_keeps : (turn : Turn4) (said : Answer4) (state : State4) → KeepsHeld state (heard_row turn said state)
  heard_keeps turn said Off = λ e. refl
  heard_keeps turn said (Init due) = λ e. refl
  heard_keeps turn said (Selecting xid began secs backoff due) = offered_keeps turn xid secs (Selecting xid began secs backoff due) said refl
  heard_keeps turn said (Requesting exchange secs backoff due) = answered_keeps turn exchange.xid Offered None (Requesting exchange secs backoff due) said refl
  heard_keeps turn said (Rebooting exchange backoff end due stands) =
      answered_keeps turn exchange.xid Rebooted stands (Rebooting exchange backoff end due stands) said refl
  heard_keeps turn said (Checking xid terms origin acd stands) = λ e. refl
  heard_keeps turn said (Waiting due) = λ e. refl
  heard_keeps turn said (Bound xid terms acd) = λ e. refl
  heard_keeps turn said (Renewing exchange terms acd due) = renewed_keeps turn exchange.xid acd (Renewing exchange terms acd due) said
  heard_keeps turn said (Rebinding exchange terms acd due) = rebound_keeps turn exchange.xid acd (Rebinding exchange terms acd due) said

  arp_keeps : (own : List Mac) (turn : Turn4) (arp : ArpView) (state : State4) → KeepsHeld state (arp_row own turn arp state)
  arp_keeps own turn arp Off = λ e. refl
  arp_keeps own turn arp (Init due) = λ e. refl
  arp_keeps own turn arp (Selecting xid began secs backoff due) = λ e. refl
  arp_keeps own turn arp (Requesting exchange secs backoff due) = λ e. refl
  arp_keeps own turn arp (Rebooting exchange backoff end due stands) = λ e. refl
  arp_keeps own turn arp (Checking xid terms origin acd stands) =
      checked_keeps turn xid terms origin acd (detection.acd_hears own acd arp turn.at).acd stands (detection.acd_hears own acd arp turn.at).says
  arp_keeps own turn arp (Waiting due) = λ e. refl
  arp_keeps own turn arp (Bound xid terms acd) = contested_keeps own turn arp xid terms (Bound xid terms acd) acd
  arp_keeps own turn arp (Renewing exchange terms acd due) = contested_keeps own turn arp exchange.xid terms (Renewing exchange terms acd due) acd
  arp_keeps own turn arp (Rebinding exchange terms acd due) = contested_keeps own turn arp exchange.xid terms (Rebinding exchange terms acd due) acd

  -- ---- the other inputs

  -- a client that may stand on no lease holds none as it begins
  stands_on_none : (turn : Turn4) (terms : Terms4) → stood turn false terms ≡ None
  stands_on_none turn terms = never turn.site.flags.persistent (is_some terms.origin)
    where
      never : (persistent known : Bool) → cond (persistent && false && known) (Some terms) None ≡ None
      never true known = refl
      never false known = refl

  begins_keeps : (turn : Turn4) (lease : Option Terms4) → KeepsHeld Off (begins turn false lease)
  begins_keeps turn None = λ e. refl
  begins_keeps turn (Some terms) =
      gated (λ (step : Step4). KeepsHeld Off (record step { spends = true })) (is_due (expiry terms) turn.at || nat_eq turn.site.times.reboot 0) (to_init turn)
      (rebooting turn (new_exchange turn terms.net.ip) Four (turn.at + SECOND * turn.site.times.reboot) (stood turn false terms)) (λ e. refl)
      (λ e. ap held_by (stands_on_none turn terms))

  rebind_keeps : (turn : Turn4) (lease : Option Terms4) (state : State4) → KeepsHeld state (rebind_row turn lease state)
  rebind_keeps turn lease Off = begins_keeps turn lease
  rebind_keeps turn lease (Init due) = λ e. refl
  rebind_keeps turn lease (Selecting xid began secs backoff due) = λ e. refl
  rebind_keeps turn lease (Requesting exchange secs backoff due) = λ e. refl
  rebind_keeps turn lease (Rebooting exchange backoff end due stands) = λ e. refl
  rebind_keeps turn lease (Checking xid terms origin acd stands) = λ e. refl
  rebind_keeps turn lease (Waiting due) = λ e. refl
  rebind_keeps turn lease (Bound xid terms acd) = λ e. refl
  rebind_keeps turn lease (Renewing exchange terms acd due) = λ e. refl
  rebind_keeps turn lease (Rebinding exchange terms acd due) = λ e. refl

  unsent_keeps : (turn : Turn4) (state : State4) → held_in (unsent_row turn state) ≡ held_in state
  unsent_keeps turn Off = refl
  unsent_keeps turn (Init due) = refl
  unsent_keeps turn (Selecting xid began secs backoff due) = refl
  unsent_keeps turn (Requesting exchange secs backoff due) = refl
  unsent_keeps turn (Rebooting exchange backoff end due stands) = refl
  unsent_keeps turn (Checking xid terms origin acd stands) = refl
  unsent_keeps turn (Waiting due) = refl
  unsent_keeps turn (Bound xid terms acd) = refl
  unsent_keeps turn (Renewing exchange terms acd due) = refl
  unsent_keeps turn (Rebinding exchange terms acd due) = refl

-- ---- the client

abbrev pub Quietly : ClientContent → Step4 → Type 0
Quietly c step = step.news ≡ news.Nothing → held_of (moved step c) ≡ held_of c

abbrev of_name : ClientContent → Name
of_name c = c.settings.site.iface.name

pub tick_quiet : (at salt : ℕ) (c : ClientContent) → Quietly c (tick_step at salt c)
tick_quiet at salt c =
    gated (Quietly c) (is_due (due_of c.state) at) (tick_row (turn_of at salt c) c.state) (rests (turn_of at salt c) c.state)
    (tick_keeps (of_name c) c.fresh c.kept (turn_of at salt c) c.state) (λ e. refl)

pub heard_quiet : (salt : ℕ) (arrival : Arrival) (c : ClientContent) → (heard_step salt arrival c).news ≡ news.Nothing
    → held_of (moved (heard_step salt arrival c) (brought arrival c)) ≡ held_of c
heard_quiet salt arrival c = heard_keeps (of_name c) (brought arrival c).fresh c.kept (turn_of arrival.at salt c) (answer_to arrival c) c.state

pub arp_quiet : (own : List Mac) (at salt : ℕ) (arp : ArpView) (c : ClientContent) → Quietly c (arp_step own at salt arp c)
arp_quiet own at salt arp c = arp_keeps (of_name c) c.fresh c.kept own (turn_of at salt c) arp c.state

pub rebind_quiet : (at salt : ℕ) (c : ClientContent) → Quietly c (rebind_step at salt c)
rebind_quiet at salt c = rebind_keeps (of_name c) c.fresh c.kept (turn_of at salt c) (kept_terms c) c.state

pub unsent_quiet : (at salt : ℕ) (c : ClientContent) → held_of (unsent_step at salt c) ≡ held_of c
unsent_quiet at salt c = unsent_keeps (of_name c) c.fresh c.kept (turn_of at salt c) c.state
