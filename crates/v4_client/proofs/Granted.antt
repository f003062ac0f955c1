-- A lease that is checked or bound was granted by an acceptable ACK.
use Rattle.std.proofs.Common.{◌≡◌, ℕ, ◌⊎◌, inl, inr, Bool, true, false, ◌||◌, List, [], ◌∷◌, Option, Some, None, refl, sym, subst, nat_le, eqb}
use Rattle.machine.specs.Moment.{is_due, moment_of}
use Rattle.machine.specs.Since.{Since}
use Rattle.net_types.proofs.CaseLaws.{gated}
use Rattle.net_types.specs.declared.address.Mac.{Mac}
use Rattle.frame_link.specs.declared.arp.ArpView.{ArpView}
use Rattle.arp_acd.specs.declared.detection.Acd.{Acd}
use Rattle.arp_acd.specs.declared.detection.AcdSays.{AcdSays}
use Rattle.arp_acd.specs.declared.detection.AcdSays.TheVariants.{Quiet, SayProbe, SayAnnounce, Passed, Conflict, GivenUp}
use Rattle.arp_acd.specs.Table as detection
use Rattle.lease_text.specs.declared.lease.Terms4.{Terms4}
use Rattle.v4_client.specs.declared.moments.Backoff.TheVariants.{Four, Eight, Sixteen, ThirtyTwo, SixtyFour}
use Rattle.v4_client.specs.declared.states.Answer4.{Answer4}
use Rattle.v4_client.specs.declared.states.Answer4.TheVariants as answer
use Rattle.v4_client.specs.declared.states.Carrier.TheVariants.{Up, Down}
use Rattle.v4_client.specs.declared.states.News4.{News4}
use Rattle.v4_client.specs.declared.states.News4.TheVariants as news
use Rattle.v4_client.specs.declared.states.Origin4.{Origin4}
use Rattle.v4_client.specs.declared.states.Origin4.TheVariants.{Offered, Rebooted}
use Rattle.v4_client.specs.declared.states.State4.{State4}
use Rattle.v4_client.specs.declared.states.State4.TheVariants.{Off, Init, Selecting, Requesting, Rebooting, Checking, Waiting, Bound, Renewing, Rebinding}
use Rattle.v4_client.specs.declared.states.Step4.{Step4}
use Rattle.v4_client.specs.declared.states.Tell.{Tell}
use Rattle.v4_client.specs.declared.states.Tell.TheVariants.{Server, Nobody}
use Rattle.v4_client.specs.declared.states.Turn4.{Turn4}
use Rattle.v4_client.specs.Calls.{answer_to}
use Rattle.v4_client.specs.Clients.{ClientContent, bound_terms, kept_terms, turn_of}
use Rattle.v4_client.specs.Detection.{checked, defended, with_acd}
use Rattle.v4_client.specs.Hearing.{offered, granted, answered, renewed, heard_row, contested, arp_row}
use Rattle.v4_client.specs.History.{Event4, Tick, Heard, HeardArp, Unsent, Carries, Release, Rebind, step_of, answer_in, client_after}
use Rattle.v4_client.specs.Inputs.{begins, begin_row, released, released_standing, release_row, rebind_row, unsent_row}
use Rattle.v4_client.specs.Laws.{Grants, HoldsGranted}
use Rattle.v4_client.specs.Moments.{expiry, renewal_at, rebinding_at, standing_until}
use Rattle.v4_client.specs.Steps.{rests}
use Rattle.v4_client.specs.Ticks.{detects, tick_row}
use Rattle.v4_client.specs.Due.{due_of}

-- the lease that is checked or bound
abbrev lease_of : State4 → Option Terms4
lease_of Off = None
lease_of (Init due) = None
lease_of (Selecting xid began secs backoff due) = None
lease_of (Requesting exchange secs backoff due) = None
lease_of (Rebooting exchange backoff end due stands) = None
lease_of (Checking xid terms origin acd stands) = Some terms
lease_of (Waiting due) = None
lease_of (Bound xid terms acd) = Some terms
lease_of (Renewing exchange terms acd due) = Some terms
lease_of (Rebinding exchange terms acd due) = Some terms

-- what is checked or bound was so before, or is granted now
abbrev Follows : (before : Option Terms4) → (said : Answer4) → (after : Option Terms4) → Type 0
Follows before said None = Unit {0}
Follows before said (Some terms) = (before ≡ Some terms) ⊎ (said ≡ answer.Ack terms)

abbrev StepFollows : State4 → Answer4 → Step4 → Type 0
StepFollows before said step = Follows (lease_of before) said (lease_of step.state)

same : (before after : Option Terms4) (said : Answer4) → before ≡ after → Follows before said after
same before None said e = tt
same before (Some terms) said e = inl e

stays : (turn : Turn4) (state : State4) (said : Answer4) → StepFollows state said (rests turn state)
stays turn state said = same (lease_of state) (lease_of state) said refl

-- ---- conflict detection

with_acd_lease : (state : State4) (acd : Acd) → lease_of state ≡ lease_of (with_acd state acd)
with_acd_lease Off acd = refl
with_acd_lease (Init due) acd = refl
with_acd_lease (Selecting xid began secs backoff due) acd = refl
with_acd_lease (Requesting exchange secs backoff due) acd = refl
with_acd_lease (Rebooting exchange backoff end due stands) acd = refl
with_acd_lease (Checking xid terms origin before stands) acd = refl
with_acd_lease (Waiting due) acd = refl
with_acd_lease (Bound xid terms before) acd = refl
with_acd_lease (Renewing exchange terms before due) acd = refl
with_acd_lease (Rebinding exchange terms before due) acd = refl

defends : (turn : Turn4) (before : State4) (xid : ℕ) (terms : Terms4) (state : State4) (says : AcdSays) (said : Answer4)
    → lease_of before ≡ lease_of state → StepFollows before said (defended turn xid terms state says)
defends turn before xid terms state Quiet said e = same (lease_of before) (lease_of state) said e
defends turn before xid terms state SayProbe said e = same (lease_of before) (lease_of state) said e
defends turn before xid terms state SayAnnounce said e = same (lease_of before) (lease_of state) said e
defends turn before xid terms state Passed said e = same (lease_of before) (lease_of state) said e
defends turn before xid terms state Conflict said e = same (lease_of before) (lease_of state) said e
defends turn before xid terms state GivenUp said e = tt

detecting : (turn : Turn4) (xid : ℕ) (terms : Terms4) (state : State4) (acd : Option Acd) (said : Answer4)
    → StepFollows state said (detects turn xid terms state acd)
detecting turn xid terms state None said = stays turn state said
detecting turn xid terms state (Some acd) said =
    defends turn state xid terms _ (detection.acd_tick acd turn.at turn.salt).says said
    (with_acd_lease state (detection.acd_tick acd turn.at turn.salt).acd)

contesting : (own : List Mac) (turn : Turn4) (arp : ArpView) (xid : ℕ) (terms : Terms4) (state : State4) (acd : Option Acd)
    (said : Answer4) → StepFollows state said (contested own turn arp xid terms state acd)
contesting own turn arp xid terms state None said = stays turn state said
contesting own turn arp xid terms state (Some acd) said =
    defends turn state xid terms _ (detection.acd_hears own acd arp turn.at).says said
    (with_acd_lease state (detection.acd_hears own acd arp turn.at).acd)

checks : (turn : Turn4) (xid : ℕ) (terms : Terms4) (origin : Origin4) (before acd : Acd) (stands : Option Terms4) (says : AcdSays) (said : Answer4)
    → StepFollows (Checking xid terms origin before stands) said (checked turn xid terms origin acd stands says)
checks turn xid terms origin before acd stands Quiet said = inl refl
checks turn xid terms origin before acd stands SayProbe said = inl refl
checks turn xid terms origin before acd stands SayAnnounce said = inl refl
checks turn xid terms origin before acd stands Passed said = inl refl
checks turn xid terms origin before acd stands Conflict said = tt
checks turn xid terms origin before acd stands GivenUp said = inl refl

-- ---- ticks

ticks : (turn : Turn4) (state : State4) (said : Answer4) → StepFollows state said (tick_row turn state)
ticks turn Off said = tt
ticks turn (Init due) said = tt
ticks turn (Waiting due) said = tt
ticks turn (Selecting xid began secs backoff due) said = tt
ticks turn (Requesting exchange secs Four due) said = tt
ticks turn (Requesting exchange secs Eight due) said = tt
ticks turn (Requesting exchange secs Sixteen due) said = tt
ticks turn (Requesting exchange secs ThirtyTwo due) said = tt
ticks turn (Requesting exchange secs SixtyFour due) said = tt
ticks turn (Rebooting exchange backoff end due stands) said =
    let P : Step4 → Type 0 = λ (step : Step4). StepFollows (Rebooting exchange backoff end due stands) said step in
    gated P (is_due (standing_until stands) turn.at) _ _ tt (gated P (nat_le end turn.at) _ _ tt tt)
ticks turn (Checking xid terms origin acd stands) said =
    let P : Step4 → Type 0 = λ (step : Step4). StepFollows (Checking xid terms origin acd stands) said step in
    gated P (is_due (standing_until stands) turn.at) _ _ (inl refl)
    (gated P (is_due (expiry terms) turn.at) _ _ tt
    (checks turn xid terms origin acd _ stands (detection.acd_tick acd turn.at turn.salt).says said))
ticks turn (Bound xid terms acd) said =
    let P : Step4 → Type 0 = λ (step : Step4). StepFollows (Bound xid terms acd) said step in
    gated P (is_due (expiry terms) turn.at) _ _ tt
    (gated P (is_due (rebinding_at terms) turn.at) _ _ (inl refl)
    (gated P (is_due (renewal_at terms) turn.at) _ _ (inl refl) (detecting turn xid terms (Bound xid terms acd) acd said)))
ticks turn (Renewing exchange terms acd due) said =
    let P : Step4 → Type 0 = λ (step : Step4). StepFollows (Renewing exchange terms acd due) said step in
    gated P (is_due (expiry terms) turn.at) _ _ tt
    (gated P (is_due (rebinding_at terms) turn.at) _ _ (inl refl)
    (gated P (nat_le due turn.at) _ _ (inl refl)
    (detecting turn exchange.xid terms (Renewing exchange terms acd due) acd said)))
ticks turn (Rebinding exchange terms acd due) said =
    let P : Step4 → Type 0 = λ (step : Step4). StepFollows (Rebinding exchange terms acd due) said step in
    gated P (is_due (expiry terms) turn.at) _ _ tt
    (gated P (nat_le due turn.at) _ _ (inl refl)
    (detecting turn exchange.xid terms (Rebinding exchange terms acd due) acd said))

-- ---- messages

offering : (turn : Turn4) (xid secs : ℕ) (state : State4) (said : Answer4) → lease_of state ≡ None
    → StepFollows state said (offered turn xid secs state said)
offering turn xid secs state answer.Nothing none = stays turn state answer.Nothing
offering turn xid secs state (answer.Offer address server) none = tt
offering turn xid secs state (answer.Ack terms) none = stays turn state (answer.Ack terms)
offering turn xid secs state answer.Nak none = stays turn state answer.Nak

answering : (turn : Turn4) (xid : ℕ) (origin : Origin4) (stands : Option Terms4) (state : State4) (said : Answer4)
    → StepFollows state said (answered turn xid origin stands state said)
answering turn xid origin stands state answer.Nothing = stays turn state answer.Nothing
answering turn xid origin stands state (answer.Offer address server) = stays turn state (answer.Offer address server)
answering turn xid origin stands state (answer.Ack terms) =
    gated (StepFollows state (answer.Ack terms)) turn.site.flags.noarp _ _ (inr refl) (inr refl)
answering turn xid origin stands state answer.Nak = tt

renewing_said : (turn : Turn4) (xid : ℕ) (news : News4) (acd : Option Acd) (state : State4) (said : Answer4)
    → StepFollows state said (renewed turn xid news acd state said)
renewing_said turn xid news acd state answer.Nothing = stays turn state answer.Nothing
renewing_said turn xid news acd state (answer.Offer address server) = stays turn state (answer.Offer address server)
renewing_said turn xid news acd state (answer.Ack terms) = inr refl
renewing_said turn xid news acd state answer.Nak = tt

hears : (turn : Turn4) (said : Answer4) (state : State4) → StepFollows state said (heard_row turn said state)
hears turn said Off = tt
hears turn said (Init due) = tt
hears turn said (Selecting xid began secs backoff due) =
    offering turn xid secs (Selecting xid began secs backoff due) said refl
hears turn said (Requesting exchange secs backoff due) =
    answering turn exchange.xid Offered None (Requesting exchange secs backoff due) said
hears turn said (Rebooting exchange backoff end due stands) = answering turn exchange.xid Rebooted stands (Rebooting exchange backoff end due stands) said
hears turn said (Checking xid terms origin acd stands) = inl refl
hears turn said (Waiting due) = tt
hears turn said (Bound xid terms acd) = inl refl
hears turn said (Renewing exchange terms acd due) =
    renewing_said turn exchange.xid news.Renew acd (Renewing exchange terms acd due) said
hears turn said (Rebinding exchange terms acd due) =
    renewing_said turn exchange.xid news.Rebind acd (Rebinding exchange terms acd due) said

hears_arp : (own : List Mac) (turn : Turn4) (arp : ArpView) (state : State4) (said : Answer4)
    → StepFollows state said (arp_row own turn arp state)
hears_arp own turn arp Off said = tt
hears_arp own turn arp (Init due) said = tt
hears_arp own turn arp (Selecting xid began secs backoff due) said = tt
hears_arp own turn arp (Requesting exchange secs backoff due) said = tt
hears_arp own turn arp (Rebooting exchange backoff end due stands) said = tt
hears_arp own turn arp (Checking xid terms origin acd stands) said =
    checks turn xid terms origin acd _ stands (detection.acd_hears own acd arp turn.at).says said
hears_arp own turn arp (Waiting due) said = tt
hears_arp own turn arp (Bound xid terms acd) said = contesting own turn arp xid terms (Bound xid terms acd) acd said
hears_arp own turn arp (Renewing exchange terms acd due) said =
    contesting own turn arp exchange.xid terms (Renewing exchange terms acd due) acd said
hears_arp own turn arp (Rebinding exchange terms acd due) said =
    contesting own turn arp exchange.xid terms (Rebinding exchange terms acd due) acd said

-- ---- the other inputs

begun : (turn : Turn4) (may_stand : Bool) (kept : Option Terms4) (before : State4) (said : Answer4)
    → StepFollows before said (begins turn may_stand kept)
begun turn may_stand None before said = tt
begun turn may_stand (Some terms) before said =
    gated (λ (step : Step4). StepFollows before said (record step { spends = true })) (is_due (expiry terms) turn.at || eqb turn.site.times.reboot 0) _ _
    tt tt

carries : (turn : Turn4) (may_stand : Bool) (kept : Option Terms4) (state : State4) (said : Answer4)
    → StepFollows state said (begin_row turn may_stand kept state)
carries turn may_stand kept Off said = begun turn may_stand kept Off said
carries turn may_stand kept (Init due) said = tt
carries turn may_stand kept (Selecting xid began secs backoff due) said = tt
carries turn may_stand kept (Requesting exchange secs backoff due) said = tt
carries turn may_stand kept (Rebooting exchange backoff end due stands) said = tt
carries turn may_stand kept (Checking xid terms origin acd stands) said = inl refl
carries turn may_stand kept (Waiting due) said = tt
carries turn may_stand kept (Bound xid terms acd) said = inl refl
carries turn may_stand kept (Renewing exchange terms acd due) said = inl refl
carries turn may_stand kept (Rebinding exchange terms acd due) said = inl refl

let_go : (turn : Turn4) (tell : Tell) (terms : Terms4) (before : State4) (said : Answer4)
    → StepFollows before said (released turn tell terms)
let_go turn Server terms before said = tt
let_go turn Nobody terms before said = tt

let_stand : (turn : Turn4) (tell : Tell) (stands : Option Terms4) (before : State4) (said : Answer4)
    → StepFollows before said (released_standing turn tell stands)
let_stand turn tell None before said = tt
let_stand turn tell (Some terms) before said = let_go turn tell terms before said

releases : (turn : Turn4) (tell : Tell) (state : State4) (said : Answer4) → StepFollows state said (release_row turn tell state)
releases turn tell Off said = tt
releases turn tell (Init due) said = tt
releases turn tell (Selecting xid began secs backoff due) said = tt
releases turn tell (Requesting exchange secs backoff due) said = tt
releases turn tell (Rebooting exchange backoff end due stands) said =
    let_stand turn tell stands (Rebooting exchange backoff end due stands) said
releases turn tell (Checking xid terms origin acd stands) said = let_stand turn tell stands (Checking xid terms origin acd stands) said
releases turn tell (Waiting due) said = tt
releases turn tell (Bound xid terms acd) said = let_go turn tell terms (Bound xid terms acd) said
releases turn tell (Renewing exchange terms acd due) said = let_go turn tell terms (Renewing exchange terms acd due) said
releases turn tell (Rebinding exchange terms acd due) said = let_go turn tell terms (Rebinding exchange terms acd due) said

rebinds : (turn : Turn4) (kept : Option Terms4) (state : State4) (said : Answer4)
    → StepFollows state said (rebind_row turn kept state)
rebinds turn kept Off said = begun turn false kept Off said
rebinds turn kept (Init due) said = tt
rebinds turn kept (Selecting xid began secs backoff due) said = tt
rebinds turn kept (Requesting exchange secs backoff due) said = tt
rebinds turn kept (Rebooting exchange backoff end due stands) said = tt
rebinds turn kept (Checking xid terms origin acd stands) said = inl refl
rebinds turn kept (Waiting due) said = tt
rebinds turn kept (Bound xid terms acd) said = inl refl
rebinds turn kept (Renewing exchange terms acd due) said = inl refl
rebinds turn kept (Rebinding exchange terms acd due) said = inl refl

unsends : (turn : Turn4) (state : State4) (said : Answer4) → StepFollows state said (rests turn (unsent_row turn state))
unsends turn Off said = tt
unsends turn (Init due) said = tt
unsends turn (Selecting xid began secs backoff due) said = tt
unsends turn (Requesting exchange secs backoff due) said = tt
unsends turn (Rebooting exchange backoff end due stands) said = tt
unsends turn (Checking xid terms origin acd stands) said = inl refl
unsends turn (Waiting due) said = tt
unsends turn (Bound xid terms acd) said = inl refl
unsends turn (Renewing exchange terms acd due) said = inl refl
unsends turn (Rebinding exchange terms acd due) said = inl refl

-- ---- events

event_follows : (event : Event4) (c : ClientContent) → StepFollows c.state (answer_in event c) (step_of event c)
event_follows (Tick at salt) c =
    gated (StepFollows c.state answer.Nothing) (is_due (due_of c.state) (moment_of at)) _ _
    (ticks (turn_of (moment_of at) salt c) c.state answer.Nothing) (stays (turn_of (moment_of at) salt c) c.state answer.Nothing)
event_follows (Heard arrival salt) c = hears (turn_of arrival.at salt c) (answer_to arrival c) c.state
event_follows (HeardArp own arp at salt) c = hears_arp own (turn_of (moment_of at) salt c) arp c.state answer.Nothing
event_follows (Unsent at salt) c = unsends (turn_of (moment_of at) salt c) c.state answer.Nothing
event_follows (Carries Up at salt) c = carries (turn_of (moment_of at) salt c) c.may_stand (kept_terms c) c.state answer.Nothing
event_follows (Carries Down at salt) c = tt
event_follows (Release tell at salt) c = releases (turn_of (moment_of at) salt c) tell c.state answer.Nothing
event_follows (Rebind at salt) c = rebinds (turn_of (moment_of at) salt c) (kept_terms c) c.state answer.Nothing

abbrev IsGranted : (start : ClientContent) → List Event4 → Option Terms4 → Type 0
IsGranted start past None = Unit {0}
IsGranted start past (Some terms) = Since (λ event earlier. Unit {0}) (Grants start terms) past

follow : (start : ClientContent) (event : Event4) (past : List Event4) (before after : Option Terms4)
    → Follows before (answer_in event (client_after start past)) after → IsGranted start past before
    → IsGranted start (event ∷ past) after
follow start event past before None follows granted = tt
follow start event past before (Some terms) (inl e) granted =
    inr (tt, subst (λ (t : Option Terms4). IsGranted start past t) e granted)
follow start event past before (Some terms) (inr now) granted = inl now

all_granted : (start : ClientContent) (past : List Event4) → start.state ≡ Off
    → IsGranted start past (lease_of (client_after start past).state)
all_granted start [] off = subst (λ (s : State4). IsGranted start [] (lease_of s)) (sym off) tt
all_granted start (event ∷ past) off =
    follow start event past (lease_of (client_after start past).state) (lease_of (step_of event (client_after start past)).state)
    (event_follows event (client_after start past)) (all_granted start past off)

bound_lease : (state : State4) (terms : Terms4) → bound_terms state ≡ Some terms → lease_of state ≡ Some terms
bound_lease Off terms e = absurd cc
bound_lease (Init due) terms e = absurd cc
bound_lease (Selecting xid began secs backoff due) terms e = absurd cc
bound_lease (Requesting exchange secs backoff due) terms e = absurd cc
bound_lease (Rebooting exchange backoff end due stands) terms e = absurd cc
bound_lease (Checking xid other origin acd stands) terms e = absurd cc
bound_lease (Waiting due) terms e = absurd cc
bound_lease (Bound xid other acd) terms e = e
bound_lease (Renewing exchange other acd due) terms e = e
bound_lease (Rebinding exchange other acd due) terms e = e

pub holds_granted : HoldsGranted
holds_granted start past terms off held =
    subst (λ (t : Option Terms4). IsGranted start past t) (bound_lease (client_after start past).state terms held)
    (all_granted start past off)
