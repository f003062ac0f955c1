-- A client that holds a lease to which it isn't bound stands on the one with which it was made.
use Rattle.std.proofs.Common.{◌≡◌, ℕ, ◌⊎◌, inl, inr, Bool, true, false, ◌&&◌, ◌||◌, List, [], ◌∷◌, Option, Some, None, option_map, refl, sym, ◌∙◌, ap, subst, nat_le, eqb, if◌then◌else◌}
use Rattle.std.specs.Option.{is_some}
use Rattle.machine.specs.Moment.{is_due, moment_of}
use Rattle.machine.specs.Since.{Always}
use Rattle.net_types.proofs.CaseLaws.{gated}
use Rattle.net_types.specs.declared.address.Mac.{Mac}
use Rattle.net_types.specs.declared.interface.Name.{Name}
use Rattle.frame_link.specs.declared.arp.ArpView.{ArpView}
use Rattle.arp_acd.specs.declared.detection.Acd.{Acd}
use Rattle.arp_acd.specs.declared.detection.AcdSays.{AcdSays}
use Rattle.arp_acd.specs.declared.detection.AcdSays.TheVariants.{Quiet, SayProbe, SayAnnounce, Passed, Conflict, GivenUp}
use Rattle.arp_acd.specs.Table as detection
use Rattle.lease_text.specs.declared.lease.Terms4.{Terms4}
use Rattle.lease_text.specs.Leases.{ValueContent, LeaseContent, terms_of}
use Rattle.v4_client.specs.declared.moments.Backoff.TheVariants.{Four, Eight, Sixteen, ThirtyTwo, SixtyFour}
use Rattle.v4_client.specs.declared.states.Answer4.{Answer4}
use Rattle.v4_client.specs.declared.states.Answer4.TheVariants as answer
use Rattle.v4_client.specs.declared.states.Carrier.TheVariants.{Up, Down}
use Rattle.v4_client.specs.declared.states.Keep4.{Keep4}
use Rattle.v4_client.specs.declared.states.Keep4.TheVariants.{Stays}
use Rattle.v4_client.specs.declared.states.News4.{News4}
use Rattle.v4_client.specs.declared.states.News4.TheVariants as news
use Rattle.v4_client.specs.declared.states.Origin4.{Origin4}
use Rattle.v4_client.specs.declared.states.Origin4.TheVariants.{Offered, Rebooted}
use Rattle.v4_client.specs.declared.states.State4.{State4}
use Rattle.v4_client.specs.declared.states.State4.TheVariants.{Off, Init, Selecting, Requesting, Rebooting, Checking, Waiting, Bound, Renewing, Rebinding}
use Rattle.v4_client.specs.declared.states.Step4.{Step4}
use Rattle.v4_client.specs.declared.states.Tell.{Tell}
use Rattle.v4_client.specs.declared.states.Tell.TheVariants.{Server, Nobody}
use Rattle.v4_client.specs.declared.states.Turn4.{Turn4}
use Rattle.v4_client.specs.Calls.{answer_to}
use Rattle.v4_client.specs.Clients.{ClientContent, bound_terms, held_terms, kept_terms, turn_of}
use Rattle.v4_client.specs.Detection.{checked, defended, with_acd}
use Rattle.v4_client.specs.Due.{due_of}
use Rattle.v4_client.specs.Hearing.{offered, answered, renewed, heard_row, contested, arp_row}
use Rattle.v4_client.specs.History.{Event4, Tick, Heard, HeardArp, Unsent, Carries, Release, Rebind, brought_in, client_after, step_of}
use Rattle.v4_client.specs.Inputs.{stood, begins, begin_row, released, released_standing, release_row, rebind_row, unsent_row}
use Rattle.v4_client.specs.Laws.{GoesOn, Stands, StandsAlone, StandsOnKept}
use Rattle.v4_client.specs.Moments.{expiry, renewal_at, rebinding_at, standing_until}
use Rattle.v4_client.specs.Moves.{kept_after}
use Rattle.v4_client.specs.Settings.{SettingsContent}
use Rattle.v4_client.specs.Steps.{rests}
use Rattle.v4_client.specs.Ticks.{detects, tick_row}
use Rattle.v4_client.proofs.Origins.{brought_kept, its_settings}

-- the lease on which a client stands
abbrev stands_in : State4 → Option Terms4
stands_in Off = None
stands_in (Init due) = None
stands_in (Selecting xid began secs backoff due) = None
stands_in (Requesting exchange secs backoff due) = None
stands_in (Rebooting exchange backoff end due stands) = stands
stands_in (Checking xid terms origin acd stands) = stands
stands_in (Waiting due) = None
stands_in (Bound xid terms acd) = None
stands_in (Renewing exchange terms acd due) = None
stands_in (Rebinding exchange terms acd due) = None

-- a client that stands stood on the same lease before, and that stays kept
abbrev Keeps : (before : Option Terms4) → Keep4 → (after : Option Terms4) → Type 0
Keeps before keep None = Unit {0}
Keeps before keep (Some terms) = (before ≡ Some terms) × (keep ≡ Stays)

abbrev StepKeeps : (before : Option Terms4) → Step4 → Type 0
StepKeeps before step = Keeps before step.keep (stands_in step.state)

same : (stands : Option Terms4) → Keeps stands Stays stands
same None = tt
same (Some terms) = (refl, refl)

stays : (turn : Turn4) (state : State4) → StepKeeps (stands_in state) (rests turn state)
stays turn state = same (stands_in state)

-- ---- conflict detection

defends : (turn : Turn4) (before : Option Terms4) (xid : ℕ) (terms : Terms4) (state : State4) (says : AcdSays) → stands_in state ≡ None
    → StepKeeps before (defended turn xid terms state says)
defends turn before xid terms state Quiet none = rw none tt
defends turn before xid terms state SayProbe none = rw none tt
defends turn before xid terms state SayAnnounce none = rw none tt
defends turn before xid terms state Passed none = rw none tt
defends turn before xid terms state Conflict none = rw none tt
defends turn before xid terms state GivenUp none = tt

detecting : (turn : Turn4) (xid : ℕ) (terms : Terms4) (state : State4) (acd : Option Acd)
    → ((next : Acd) → stands_in (with_acd state next) ≡ None) → StepKeeps (stands_in state) (detects turn xid terms state acd)
detecting turn xid terms state None none = stays turn state
detecting turn xid terms state (Some acd) none =
    defends turn (stands_in state) xid terms _ (detection.acd_tick acd turn.at turn.salt).says (none (detection.acd_tick acd turn.at turn.salt).acd)

contesting : (own : List Mac) (turn : Turn4) (arp : ArpView) (xid : ℕ) (terms : Terms4) (state : State4) (acd : Option Acd)
    → ((next : Acd) → stands_in (with_acd state next) ≡ None) → StepKeeps (stands_in state) (contested own turn arp xid terms state acd)
contesting own turn arp xid terms state None none = stays turn state
contesting own turn arp xid terms state (Some acd) none =
    defends turn (stands_in state) xid terms _ (detection.acd_hears own acd arp turn.at).says (none (detection.acd_hears own acd arp turn.at).acd)

checks : (turn : Turn4) (xid : ℕ) (terms : Terms4) (origin : Origin4) (acd : Acd) (stands : Option Terms4) (says : AcdSays)
    → StepKeeps stands (checked turn xid terms origin acd stands says)
checks turn xid terms origin acd stands Quiet = same stands
checks turn xid terms origin acd stands SayProbe = same stands
checks turn xid terms origin acd stands SayAnnounce = same stands
checks turn xid terms origin acd stands Passed = tt
checks turn xid terms origin acd stands Conflict = tt
checks turn xid terms origin acd stands GivenUp = same stands

-- ---- ticks

ticks : (turn : Turn4) (state : State4) → StepKeeps (stands_in state) (tick_row turn state)
ticks turn Off = tt
ticks turn (Init due) = tt
ticks turn (Waiting due) = tt
ticks turn (Selecting xid began secs backoff due) = tt
ticks turn (Requesting exchange secs Four due) = tt
ticks turn (Requesting exchange secs Eight due) = tt
ticks turn (Requesting exchange secs Sixteen due) = tt
ticks turn (Requesting exchange secs ThirtyTwo due) = tt
ticks turn (Requesting exchange secs SixtyFour due) = tt
ticks turn (Rebooting exchange backoff end due stands) =
    let P : Step4 → Type 0 = λ (step : Step4). StepKeeps stands step in
    gated P (is_due (standing_until stands) turn.at) _ _ tt (gated P (nat_le end turn.at) _ _ tt (same stands))
ticks turn (Checking xid terms origin acd stands) =
    let P : Step4 → Type 0 = λ (step : Step4). StepKeeps stands step in
    gated P (is_due (standing_until stands) turn.at) _ _ tt
    (gated P (is_due (expiry terms) turn.at) _ _ tt
    (checks turn xid terms origin _ stands (detection.acd_tick acd turn.at turn.salt).says))
ticks turn (Bound xid terms acd) =
    let P : Step4 → Type 0 = λ (step : Step4). StepKeeps None step in
    gated P (is_due (expiry terms) turn.at) _ _ tt
    (gated P (is_due (rebinding_at terms) turn.at) _ _ tt
    (gated P (is_due (renewal_at terms) turn.at) _ _ tt (detecting turn xid terms (Bound xid terms acd) acd (λ next. refl))))
ticks turn (Renewing exchange terms acd due) =
    let P : Step4 → Type 0 = λ (step : Step4). StepKeeps None step in
    gated P (is_due (expiry terms) turn.at) _ _ tt
    (gated P (is_due (rebinding_at terms) turn.at) _ _ tt
    (gated P (nat_le due turn.at) _ _ tt (detecting turn exchange.xid terms (Renewing exchange terms acd due) acd (λ next. refl))))
ticks turn (Rebinding exchange terms acd due) =
    let P : Step4 → Type 0 = λ (step : Step4). StepKeeps None step in
    gated P (is_due (expiry terms) turn.at) _ _ tt
    (gated P (nat_le due turn.at) _ _ tt (detecting turn exchange.xid terms (Rebinding exchange terms acd due) acd (λ next. refl)))

-- ---- messages

offering : (turn : Turn4) (xid secs : ℕ) (state : State4) (said : Answer4) → stands_in state ≡ None
    → StepKeeps None (offered turn xid secs state said)
offering turn xid secs state answer.Nothing none = rw none tt
offering turn xid secs state (answer.Offer address server) none = tt
offering turn xid secs state (answer.Ack terms) none = rw none tt
offering turn xid secs state answer.Nak none = rw none tt

answering : (turn : Turn4) (xid : ℕ) (origin : Origin4) (stands : Option Terms4) (state : State4) (said : Answer4) → stands_in state ≡ stands
    → StepKeeps stands (answered turn xid origin stands state said)
answering turn xid origin stands state answer.Nothing is = rw is (same stands)
answering turn xid origin stands state (answer.Offer address server) is = rw is (same stands)
answering turn xid origin stands state (answer.Ack terms) is = gated (StepKeeps stands) turn.site.flags.noarp _ _ tt (same stands)
answering turn xid origin stands state answer.Nak is = tt

renewing_said : (turn : Turn4) (xid : ℕ) (news : News4) (acd : Option Acd) (state : State4) (said : Answer4) → stands_in state ≡ None
    → StepKeeps None (renewed turn xid news acd state said)
renewing_said turn xid news acd state answer.Nothing none = rw none tt
renewing_said turn xid news acd state (answer.Offer address server) none = rw none tt
renewing_said turn xid news acd state (answer.Ack terms) none = tt
renewing_said turn xid news acd state answer.Nak none = tt

hears : (turn : Turn4) (said : Answer4) (state : State4) → StepKeeps (stands_in state) (heard_row turn said state)
hears turn said Off = tt
hears turn said (Init due) = tt
hears turn said (Selecting xid began secs backoff due) = offering turn xid secs (Selecting xid began secs backoff due) said refl
hears turn said (Requesting exchange secs backoff due) =
    answering turn exchange.xid Offered None (Requesting exchange secs backoff due) said refl
hears turn said (Rebooting exchange backoff end due stands) =
    answering turn exchange.xid Rebooted stands (Rebooting exchange backoff end due stands) said refl
hears turn said (Checking xid terms origin acd stands) = same stands
hears turn said (Waiting due) = tt
hears turn said (Bound xid terms acd) = tt
hears turn said (Renewing exchange terms acd due) =
    renewing_said turn exchange.xid news.Renew acd (Renewing exchange terms acd due) said refl
hears turn said (Rebinding exchange terms acd due) =
    renewing_said turn exchange.xid news.Rebind acd (Rebinding exchange terms acd due) said refl

hears_arp : (own : List Mac) (turn : Turn4) (arp : ArpView) (state : State4) → StepKeeps (stands_in state) (arp_row own turn arp state)
hears_arp own turn arp Off = tt
hears_arp own turn arp (Init due) = tt
hears_arp own turn arp (Selecting xid began secs backoff due) = tt
hears_arp own turn arp (Requesting exchange secs backoff due) = tt
hears_arp own turn arp (Rebooting exchange backoff end due stands) = same stands
hears_arp own turn arp (Checking xid terms origin acd stands) =
    checks turn xid terms origin _ stands (detection.acd_hears own acd arp turn.at).says
hears_arp own turn arp (Waiting due) = tt
hears_arp own turn arp (Bound xid terms acd) = contesting own turn arp xid terms (Bound xid terms acd) acd (λ next. refl)
hears_arp own turn arp (Renewing exchange terms acd due) =
    contesting own turn arp exchange.xid terms (Renewing exchange terms acd due) acd (λ next. refl)
hears_arp own turn arp (Rebinding exchange terms acd due) =
    contesting own turn arp exchange.xid terms (Rebinding exchange terms acd due) acd (λ next. refl)

-- ---- the other inputs

-- the lease on which a client may stand from its begin on
abbrev chance : Turn4 → (may_stand : Bool) → (kept : Option Terms4) → Option Terms4
chance turn may_stand None = None
chance turn may_stand (Some terms) = stood turn may_stand terms

begun : (turn : Turn4) (may_stand : Bool) (kept : Option Terms4) → StepKeeps (chance turn may_stand kept) (begins turn may_stand kept)
begun turn may_stand None = tt
begun turn may_stand (Some terms) =
    gated (λ (step : Step4). StepKeeps (stood turn may_stand terms) (record step { spends = true }))
    (is_due (expiry terms) turn.at || eqb turn.site.times.reboot 0) _ _ tt (same (stood turn may_stand terms))

-- without the chance it stands on none
unstood : (turn : Turn4) (persistent confirmed : Bool) (terms : Terms4)
    → (if persistent && false && confirmed then Some terms else None) ≡ None
unstood turn true confirmed terms = refl
unstood turn false confirmed terms = refl

anew : (turn : Turn4) (kept : Option Terms4) → StepKeeps None (begins turn false kept)
anew turn None = tt
anew turn (Some terms) =
    let none : stood turn false terms ≡ None = unstood turn turn.site.flags.persistent (is_some terms.origin) terms in
    subst (λ (stands : Option Terms4). StepKeeps stands (begins turn false (Some terms))) none (begun turn false (Some terms))

abbrev stood_before : Turn4 → (may_stand : Bool) → (kept : Option Terms4) → State4 → Option Terms4
stood_before turn may_stand kept Off = chance turn may_stand kept
stood_before turn may_stand kept state = stands_in state

carries : (turn : Turn4) (may_stand : Bool) (kept : Option Terms4) (state : State4)
    → StepKeeps (stood_before turn may_stand kept state) (begin_row turn may_stand kept state)
carries turn may_stand kept Off = begun turn may_stand kept
carries turn may_stand kept (Init due) = tt
carries turn may_stand kept (Selecting xid began secs backoff due) = tt
carries turn may_stand kept (Requesting exchange secs backoff due) = tt
carries turn may_stand kept (Rebooting exchange backoff end due stands) = same stands
carries turn may_stand kept (Checking xid terms origin acd stands) = same stands
carries turn may_stand kept (Waiting due) = tt
carries turn may_stand kept (Bound xid terms acd) = tt
carries turn may_stand kept (Renewing exchange terms acd due) = tt
carries turn may_stand kept (Rebinding exchange terms acd due) = tt

let_go : (turn : Turn4) (tell : Tell) (terms : Terms4) → (released turn tell terms).state ≡ Off
let_go turn Server terms = refl
let_go turn Nobody terms = refl

let_stand : (turn : Turn4) (tell : Tell) (stands : Option Terms4) → (released_standing turn tell stands).state ≡ Off
let_stand turn tell None = refl
let_stand turn tell (Some terms) = let_go turn tell terms

releases : (turn : Turn4) (tell : Tell) (state : State4) → (release_row turn tell state).state ≡ Off
releases turn tell Off = refl
releases turn tell (Init due) = refl
releases turn tell (Selecting xid began secs backoff due) = refl
releases turn tell (Requesting exchange secs backoff due) = refl
releases turn tell (Rebooting exchange backoff end due stands) = let_stand turn tell stands
releases turn tell (Checking xid terms origin acd stands) = let_stand turn tell stands
releases turn tell (Waiting due) = refl
releases turn tell (Bound xid terms acd) = let_go turn tell terms
releases turn tell (Renewing exchange terms acd due) = let_go turn tell terms
releases turn tell (Rebinding exchange terms acd due) = let_go turn tell terms

rebinds : (turn : Turn4) (kept : Option Terms4) (state : State4) → StepKeeps (stands_in state) (rebind_row turn kept state)
rebinds turn kept Off = anew turn kept
rebinds turn kept (Init due) = tt
rebinds turn kept (Selecting xid began secs backoff due) = tt
rebinds turn kept (Requesting exchange secs backoff due) = tt
rebinds turn kept (Rebooting exchange backoff end due stands) = same stands
rebinds turn kept (Checking xid terms origin acd stands) = same stands
rebinds turn kept (Waiting due) = tt
rebinds turn kept (Bound xid terms acd) = tt
rebinds turn kept (Renewing exchange terms acd due) = tt
rebinds turn kept (Rebinding exchange terms acd due) = tt

unsends : (turn : Turn4) (state : State4) → StepKeeps (stands_in state) (rests turn (unsent_row turn state))
unsends turn Off = tt
unsends turn (Init due) = tt
unsends turn (Selecting xid began secs backoff due) = tt
unsends turn (Requesting exchange secs backoff due) = tt
unsends turn (Rebooting exchange backoff end due stands) = same stands
unsends turn (Checking xid terms origin acd stands) = same stands
unsends turn (Waiting due) = tt
unsends turn (Bound xid terms acd) = tt
unsends turn (Renewing exchange terms acd due) = tt
unsends turn (Rebinding exchange terms acd due) = tt

-- ---- events

abbrev before_event : Event4 → ClientContent → Option Terms4
before_event (Carries Up at salt) c = stood_before (turn_of (moment_of at) salt c) c.may_stand (kept_terms c) c.state
before_event event c = stands_in c.state

event_keeps : (event : Event4) (c : ClientContent) → StepKeeps (before_event event c) (step_of event c)
event_keeps (Tick at salt) c =
    gated (StepKeeps (stands_in c.state)) (is_due (due_of c.state) (moment_of at)) _ _
    (ticks (turn_of (moment_of at) salt c) c.state) (stays (turn_of (moment_of at) salt c) c.state)
event_keeps (Heard arrival salt) c = hears (turn_of arrival.at salt c) (answer_to arrival c) c.state
event_keeps (HeardArp own arp at salt) c = hears_arp own (turn_of (moment_of at) salt c) arp c.state
event_keeps (Unsent at salt) c = unsends (turn_of (moment_of at) salt c) c.state
event_keeps (Carries Up at salt) c = carries (turn_of (moment_of at) salt c) c.may_stand (kept_terms c) c.state
event_keeps (Carries Down at salt) c = tt
event_keeps (Release tell at salt) c = rw (releases (turn_of (moment_of at) salt c) tell c.state) tt
event_keeps (Rebind at salt) c = rebinds (turn_of (moment_of at) salt c) (kept_terms c) c.state

kept_since : (before : Option Terms4) (keep : Keep4) (after : Option Terms4) (terms : Terms4) → Keeps before keep after → after ≡ Some terms
    → (before ≡ Some terms) × (keep ≡ Stays)
kept_since before keep after terms keeps e = rw e at keeps

some_of : (terms : Terms4) → None ≡ Some terms → ⊥
some_of terms e = cc

-- neither the carrier went nor was the lease released
goes_on : (event : Event4) (c : ClientContent) (terms : Terms4) → stands_in (step_of event c).state ≡ Some terms → GoesOn event
goes_on (Tick at salt) c terms e = tt
goes_on (Heard arrival salt) c terms e = tt
goes_on (HeardArp own arp at salt) c terms e = tt
goes_on (Unsent at salt) c terms e = tt
goes_on (Carries Up at salt) c terms e = tt
goes_on (Carries Down at salt) c terms e = some_of terms e
goes_on (Release tell at salt) c terms e = some_of terms (rw (releases (turn_of (moment_of at) salt c) tell c.state) at e)
goes_on (Rebind at salt) c terms e = tt

unbound : (state : State4) (terms : Terms4) → stands_in state ≡ Some terms → bound_terms state ≡ None
unbound Off terms e = refl
unbound (Init due) terms e = refl
unbound (Selecting xid began secs backoff due) terms e = refl
unbound (Requesting exchange secs backoff due) terms e = refl
unbound (Rebooting exchange backoff end due stands) terms e = refl
unbound (Checking xid other origin acd stands) terms e = refl
unbound (Waiting due) terms e = refl
unbound (Bound xid other acd) terms e = absurd (some_of terms e)
unbound (Renewing exchange other acd due) terms e = absurd (some_of terms e)
unbound (Rebinding exchange other acd due) terms e = absurd (some_of terms e)

-- what doesn't spend the chance leaves a client that is off as it is
record Spares (event : Event4) (step : Step4) : Type 0 where
  off : step.state ≡ Off
  keeps : step.keep ≡ Stays
  goes_on : GoesOn event

not_spent : true ≡ false → ⊥
not_spent e = cc

spares : (event : Event4) (c : ClientContent) → c.state ≡ Off → (step_of event c).spends ≡ false → Spares event (step_of event c)
spares (Tick at salt) c off e = rw off (record { off = refl; keeps = refl; goes_on = tt })
spares (Heard arrival salt) c off e = rw off (record { off = refl; keeps = refl; goes_on = tt })
spares (HeardArp own arp at salt) c off e = rw off (record { off = refl; keeps = refl; goes_on = tt })
spares (Unsent at salt) c off e = rw off (record { off = refl; keeps = refl; goes_on = tt })
spares (Carries Up at salt) c off e = absurd (not_spent (rw off at e))
spares (Carries Down at salt) c off e = absurd (not_spent e)
spares (Release tell at salt) c off e = absurd (not_spent (rw off at e))
spares (Rebind at salt) c off e = absurd (not_spent (rw off at e))

-- ---- where a client stands

chosen : (turn : Turn4) (may_stand : Bool) (kept : Option Terms4) (state : State4) (terms : Terms4)
    → stood_before turn may_stand kept state ≡ Some terms
    → ((state ≡ Off) × (chance turn may_stand kept ≡ Some terms)) ⊎ (stands_in state ≡ Some terms)
chosen turn may_stand kept Off terms e = inl (refl, e)
chosen turn may_stand kept (Init due) terms e = inr e
chosen turn may_stand kept (Selecting xid began secs backoff due) terms e = inr e
chosen turn may_stand kept (Requesting exchange secs backoff due) terms e = inr e
chosen turn may_stand kept (Rebooting exchange backoff end due stands) terms e = inr e
chosen turn may_stand kept (Checking xid other origin acd stands) terms e = inr e
chosen turn may_stand kept (Waiting due) terms e = inr e
chosen turn may_stand kept (Bound xid other acd) terms e = inr e
chosen turn may_stand kept (Renewing exchange other acd due) terms e = inr e
chosen turn may_stand kept (Rebinding exchange other acd due) terms e = inr e

-- all of it holds where the chance is taken
record Chances (persistent may_stand : Bool) (kept : Option Terms4) (terms : Terms4) : Type 0 where
  wished : persistent ≡ true
  may : may_stand ≡ true
  takes : kept ≡ Some terms
  confirmed : is_some terms.origin ≡ true

abbrev IsConfirmed : Option Terms4 → Type 0
IsConfirmed None = Unit {0}
IsConfirmed (Some terms) = is_some terms.origin ≡ true

chances : (turn : Turn4) (may_stand : Bool) (kept : Option Terms4) (terms : Terms4) → chance turn may_stand kept ≡ Some terms
    → Chances turn.site.flags.persistent may_stand kept terms
chances turn may_stand None terms e = absurd (some_of terms e)
chances turn may_stand (Some other) terms e = by turn.site.flags.persistent may_stand (is_some other.origin) refl e
  where
    by : (persistent may confirmed : Bool) → is_some other.origin ≡ confirmed
        → (if persistent && may && confirmed then Some other else None) ≡ Some terms → Chances persistent may (Some other) terms
    by true true true is f =
        record { wished = refl; may = refl; takes = f; confirmed = subst (λ (t : Option Terms4). IsConfirmed t) f is }
    by true true false is f = absurd (some_of terms f)
    by true false confirmed is f = absurd (some_of terms f)
    by false may confirmed is f = absurd (some_of terms f)

-- ---- over all events

record IsFresh (start : ClientContent) (past : List Event4) : Type 0 where
  off : (client_after start past).state ≡ Off
  kept : (client_after start past).kept ≡ start.kept
  stands : Always (Stands start) past

record Knows (start : ClientContent) (past : List Event4) : Type 0 where
  fresh : (client_after start past).may_stand ≡ true → IsFresh start past
  stands : (terms : Terms4) → stands_in (client_after start past).state ≡ Some terms → StandsOnKept start past terms

brought_may : (event : Event4) (c : ClientContent) → (brought_in event c).may_stand ≡ c.may_stand
brought_may (Tick at salt) c = refl
brought_may (Heard arrival salt) c = refl
brought_may (HeardArp own arp at salt) c = refl
brought_may (Unsent at salt) c = refl
brought_may (Carries carrier at salt) c = refl
brought_may (Release tell at salt) c = refl
brought_may (Rebind at salt) c = refl

unspent : (spends may : Bool) → (if spends then false else may) ≡ true → (spends ≡ false) × (may ≡ true)
unspent true may e = absurd (not_spent (sym e))
unspent false may e = (refl, e)

still_kept : (keep : Keep4) (name : Name) (fresh : List ValueContent) (kept : Option LeaseContent) → keep ≡ Stays
    → kept_after keep name fresh kept ≡ kept
still_kept keep name fresh kept e = rw e refl

after_kept : (start : ClientContent) (event : Event4) (past : List Event4) → (step_of event (client_after start past)).keep ≡ Stays
    → (client_after start past).kept ≡ start.kept → (client_after start (event ∷ past)).kept ≡ start.kept
after_kept start event past keeps kept =
    let c = client_after start past in
    still_kept (step_of event c).keep (brought_in event c).settings.site.iface.name (brought_in event c).fresh (brought_in event c).kept keeps
    ∙ (brought_kept event c ∙ kept)

module _ (start : ClientContent) (event : Event4) (past : List Event4) (knows : Knows start past) where
  abbrev c : ClientContent
  c = client_after start past

  -- nothing was done yet
  spared : (client_after start (event ∷ past)).may_stand ≡ true → IsFresh start (event ∷ past)
  spared e =
      let may = unspent (step_of event c).spends (brought_in event c).may_stand e in
      let was = knows.fresh (sym (brought_may event c) ∙ may.1) in
      let spare = spares event c was.off may.0 in
      record {
        off = spare.off;
        kept = after_kept start event past spare.keeps was.kept;
        stands = (record { goes_on = spare.goes_on; unbound = ap bound_terms spare.off }, was.stands);
      }

  module _ (terms : Terms4) (e : stands_in (step_of event c).state ≡ Some terms) where
    now : Stands start event past
    now = record { goes_on = goes_on event c terms e; unbound = unbound (step_of event c).state terms e }

    -- it stood before
    stood_on : stands_in c.state ≡ Some terms → (step_of event c).keep ≡ Stays → StandsOnKept start (event ∷ past) terms
    stood_on before keeps =
        let was = knows.stands terms before in
        record {
          persistent = was.persistent;
          kept = was.kept;
          confirmed = was.confirmed;
          still_kept = after_kept start event past keeps was.still_kept;
          stands = (now, was.stands);
        }

    -- it begins
    stands_now : (turn : Turn4) → turn.site ≡ c.settings.site → chance turn c.may_stand (kept_terms c) ≡ Some terms
        → (step_of event c).keep ≡ Stays → StandsOnKept start (event ∷ past) terms
    stands_now turn site takes keeps =
        let good = chances turn c.may_stand (kept_terms c) terms takes in
        let was = knows.fresh good.may in
        record {
          persistent =
              ap (λ (s : SettingsContent). s.site.flags.persistent) (sym (its_settings start past))
              ∙ (ap (λ s. s.flags.persistent) (sym site) ∙ good.wished);
          kept = ap (λ (k : Option LeaseContent). option_map terms_of k) (sym was.kept) ∙ good.takes;
          confirmed = good.confirmed;
          still_kept = after_kept start event past keeps was.kept;
          stands = (now, was.stands);
        }

stands_after : (start : ClientContent) (event : Event4) (past : List Event4) → Knows start past → (terms : Terms4)
    → stands_in (step_of event (client_after start past)).state ≡ Some terms → StandsOnKept start (event ∷ past) terms
stands_after start (Carries Up at salt) past knows terms e =
    let c = client_after start past in
    let turn = turn_of (moment_of at) salt c in
    let step = step_of (Carries Up at salt) c in
    let was = kept_since (stood_before turn c.may_stand (kept_terms c) c.state) step.keep (stands_in step.state) terms
    (event_keeps (Carries Up at salt) c) e in
    elim (chosen turn c.may_stand (kept_terms c) c.state terms was.0) [
      | inl begins ↦ stands_now start (Carries Up at salt) past knows terms e turn refl begins.1 was.1
      | inr stood ↦ stood_on start (Carries Up at salt) past knows terms e stood was.1
    ]
stands_after start (Carries Down at salt) past knows terms e = absurd (some_of terms e)
stands_after start (Tick at salt) past knows terms e =
    let was = kept_since _ _ _ terms (event_keeps (Tick at salt) (client_after start past)) e in
    stood_on start (Tick at salt) past knows terms e was.0 was.1
stands_after start (Heard arrival salt) past knows terms e =
    let was = kept_since _ _ _ terms (event_keeps (Heard arrival salt) (client_after start past)) e in
    stood_on start (Heard arrival salt) past knows terms e was.0 was.1
stands_after start (HeardArp own arp at salt) past knows terms e =
    let was = kept_since _ _ _ terms (event_keeps (HeardArp own arp at salt) (client_after start past)) e in
    stood_on start (HeardArp own arp at salt) past knows terms e was.0 was.1
stands_after start (Unsent at salt) past knows terms e =
    let was = kept_since _ _ _ terms (event_keeps (Unsent at salt) (client_after start past)) e in
    stood_on start (Unsent at salt) past knows terms e was.0 was.1
stands_after start (Release tell at salt) past knows terms e =
    let was = kept_since _ _ _ terms (event_keeps (Release tell at salt) (client_after start past)) e in
    stood_on start (Release tell at salt) past knows terms e was.0 was.1
stands_after start (Rebind at salt) past knows terms e =
    let was = kept_since _ _ _ terms (event_keeps (Rebind at salt) (client_after start past)) e in
    stood_on start (Rebind at salt) past knows terms e was.0 was.1

known : (start : ClientContent) (past : List Event4) → start.state ≡ Off → Knows start past
known start [] off = record {
  fresh = λ may. record { off = off; kept = refl; stands = tt };
  stands = λ terms e. absurd (some_of terms (rw off at e));
}
known start (event ∷ past) off =
    let before = known start past off in
    record { fresh = spared start event past before; stands = λ terms e. stands_after start event past before terms e }

alone : (state : State4) (terms : Terms4) → held_terms state ≡ Some terms → bound_terms state ≡ None → stands_in state ≡ Some terms
alone Off terms held none = held
alone (Init due) terms held none = held
alone (Selecting xid began secs backoff due) terms held none = held
alone (Requesting exchange secs backoff due) terms held none = held
alone (Rebooting exchange backoff end due stands) terms held none = held
alone (Checking xid other origin acd stands) terms held none = held
alone (Waiting due) terms held none = held
alone (Bound xid other acd) terms held none = absurd (some_of other (sym none))
alone (Renewing exchange other acd due) terms held none = absurd (some_of other (sym none))
alone (Rebinding exchange other acd due) terms held none = absurd (some_of other (sym none))

pub stands_alone : StandsAlone
stands_alone start past terms off held none =
    (known start past off).stands terms (alone (client_after start past).state terms held none)
