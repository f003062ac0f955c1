-- Where addresses are probed, three probes come before a client is bound to a lease.
use Rattle.std.proofs.Common.{◌≡◌, ℕ, ◌+◌, ◌≤◌, Bool, true, false, ◌||◌, List, [], ◌∷◌, Option, Some, None, refl, sym, ◌∙◌, ap, subst, nat_le, nat_lt, eqb, arith}
use Rattle.std.proofs.lemmas.Bool.Decides.{nat_tests}
use Rattle.machine.specs.Moment.{is_due, moment_of}
use Rattle.net_types.proofs.CaseLaws.{gated, split}
use Rattle.net_types.specs.declared.address.Ip4.{Ip4}
use Rattle.net_types.specs.declared.address.Mac.{Mac}
use Rattle.frame_link.specs.declared.arp.ArpView.{ArpView}
use Rattle.arp_acd.specs.declared.detection.Acd.{Acd}
use Rattle.arp_acd.specs.declared.detection.AcdSays.{AcdSays}
use Rattle.arp_acd.specs.declared.detection.AcdSays.TheVariants.{Quiet, SayProbe, SayAnnounce, Passed, Conflict, GivenUp}
use Rattle.arp_acd.specs.declared.detection.Phase.{Phase}
use Rattle.arp_acd.specs.declared.detection.Phase.TheVariants.{Probing, Announcing, Held, Over}
use Rattle.arp_acd.specs.Conflict.{is_contested}
use Rattle.arp_acd.specs.Table as detection
use Rattle.lease_text.specs.declared.lease.Terms4.{Terms4}
use Rattle.v4_client.specs.declared.moments.Backoff.TheVariants.{Four, Eight, Sixteen, ThirtyTwo, SixtyFour}
use Rattle.v4_client.specs.declared.states.Answer4.{Answer4}
use Rattle.v4_client.specs.declared.states.Answer4.TheVariants as answer
use Rattle.v4_client.specs.declared.states.Carrier.TheVariants.{Up, Down}
use Rattle.v4_client.specs.declared.states.News4.{News4}
use Rattle.v4_client.specs.declared.states.News4.TheVariants as news
use Rattle.v4_client.specs.declared.states.Origin4.{Origin4}
use Rattle.v4_client.specs.declared.states.Origin4.TheVariants.{Offered, Rebooted}
use Rattle.v4_client.specs.declared.states.State4.{State4}
use Rattle.v4_client.specs.declared.states.State4.TheVariants.{Off, Init, Selecting, Requesting, Rebooting, Checking, Waiting, Bound, Renewing, Rebinding}
use Rattle.v4_client.specs.declared.states.Step4.{Step4}
use Rattle.v4_client.specs.declared.states.Tell.{Tell}
use Rattle.v4_client.specs.declared.states.Tell.TheVariants.{Server, Nobody}
use Rattle.v4_client.specs.declared.states.Turn4.{Turn4}
use Rattle.v4_client.specs.Answers.{answer_of}
use Rattle.v4_client.specs.Clients.{ClientContent, bound_terms, kept_terms, turn_of}
use Rattle.v4_client.specs.Moves.{is_grant}
use Rattle.v4_client.specs.Detection.{checked, defended, with_acd}
use Rattle.v4_client.specs.Hearing.{offered, answered, renewed, heard_row, contested, arp_row}
use Rattle.v4_client.specs.History.{Event4, Tick, Heard, HeardArp, Unsent, Carries, Release, Rebind, step_of, answer_in, after_event, client_after}
use Rattle.v4_client.specs.Inputs.{begins, begin_row, released, released_standing, release_row, rebind_row, unsent_row}
use Rattle.v4_client.specs.Probes.{ProbesFirst, counted, is_anew, is_probe_for, probes_since}
use Rattle.v4_client.specs.Messages.{Arrival}
use Rattle.v4_client.specs.Moments.{expiry, renewal_at, rebinding_at, standing_until}
use Rattle.v4_client.specs.Settings.{SettingsContent}
use Rattle.v4_client.specs.Steps.{rests}
use Rattle.v4_client.specs.Ticks.{detects, tick_row}
use Rattle.v4_client.specs.Due.{due_of}

-- as many probes are counted as conflict detection has said
abbrev PhaseProbed : Phase → ℕ → Type 0
PhaseProbed (Probing sent due) probes = (probes ≡ sent) × (sent ≤ 3)
PhaseProbed (Announcing due last) probes = ⊥
PhaseProbed (Held last) probes = ⊥
PhaseProbed Over probes = ⊥

abbrev IsProbed : State4 → (Ip4 → ℕ) → Type 0
IsProbed Off probes = Unit {0}
IsProbed (Init due) probes = Unit {0}
IsProbed (Selecting xid began secs backoff due) probes = Unit {0}
IsProbed (Requesting exchange secs backoff due) probes = Unit {0}
IsProbed (Rebooting exchange backoff end due stands) probes = Unit {0}
IsProbed (Checking xid terms origin acd stands) probes = PhaseProbed acd.phase (probes terms.net.ip)
IsProbed (Waiting due) probes = Unit {0}
IsProbed (Bound xid terms acd) probes = Unit {0}
IsProbed (Renewing exchange terms acd due) probes = Unit {0}
IsProbed (Rebinding exchange terms acd due) probes = Unit {0}

-- a lease to which the client is bound from now on was probed three times
abbrev Binds : (before after : Option Terms4) → (Ip4 → ℕ) → Type 0
Binds before None probes = Unit {0}
Binds None (Some terms) probes = probes terms.net.ip ≡ 3
Binds (Some held) (Some terms) probes = Unit {0}

record StepProbed (before : State4) (anew : Bool) (probes : Ip4 → ℕ) (step : Step4) : Type 0 where
  after : IsProbed step.state (λ (a : Ip4). counted anew (is_probe_for a step.arp) (probes a))
  binds : Binds (bound_terms before) (bound_terms step.state) probes

same_held : (held : Option Terms4) (probes : Ip4 → ℕ) → Binds held held probes
same_held None probes = tt
same_held (Some terms) probes = tt

was_held : (terms : Terms4) (after : Option Terms4) (probes : Ip4 → ℕ) → Binds (Some terms) after probes
was_held terms None probes = tt
was_held terms (Some now) probes = tt

stays : (turn : Turn4) (state : State4) (probes : Ip4 → ℕ) → IsProbed state probes → StepProbed state false probes (rests turn state)
stays turn state probes probed = record { after = probed; binds = same_held (bound_terms state) probes }

-- ---- a checked address

same_number : (n : ℕ) → eqb n n ≡ true
same_number n = grind (arith, nat_tests)

module _ (turn : Turn4) (xid : ℕ) (terms : Terms4) (origin : Origin4) (before acd : Acd) (stands : Option Terms4) (probes : Ip4 → ℕ) where
  abbrev CheckProbed : detection.AcdStep → Type 0
  CheckProbed step = StepProbed (Checking xid terms origin before stands) false probes (checked turn xid terms origin step.acd stands step.says)

  said_probe : (next : Acd) → PhaseProbed next.phase (probes terms.net.ip + 1)
      → CheckProbed (record { acd = next; says = SayProbe })
  said_probe next probed =
      let once : counted false (eqb terms.net.ip.number terms.net.ip.number) (probes terms.net.ip) ≡ probes terms.net.ip + 1 =
      ap (λ (b : Bool). counted false b (probes terms.net.ip)) (same_number terms.net.ip.number) in
      record { after = subst (PhaseProbed next.phase) (sym once) probed; binds = tt }

  tick_probed : (at salt : ℕ) (phase : Phase) → PhaseProbed phase (probes terms.net.ip) → CheckProbed (detection.tick_row acd phase at salt)
  tick_probed at salt (Probing sent due) probed =
      split (nat_lt sent 3)
      (λ e. rw e (said_probe _ (more e))) (λ e. rw e (record { after = tt; binds = three e }))
    where
      more : nat_lt sent 3 ≡ true → (probes terms.net.ip + 1 ≡ sent + 1) × (sent + 1 ≤ 3)
      more e = let same : probes terms.net.ip ≡ sent = probed.0 in (ap (λ (n : ℕ). n + 1) same, grind (arith, nat_tests))

      three : nat_lt sent 3 ≡ false → probes terms.net.ip ≡ 3
      three e =
          let same : probes terms.net.ip ≡ sent = probed.0 in
          let most : sent ≤ 3 = probed.1 in
          let least : 3 ≤ sent = grind (arith, nat_tests) in omega arith
  tick_probed at salt (Announcing due last) probed = absurd probed
  tick_probed at salt (Held last) probed = absurd probed
  tick_probed at salt Over probed = absurd probed

  arp_probed : (own : List Mac) (arp : ArpView) (at : ℕ) (phase : Phase) → acd.phase ≡ phase → PhaseProbed phase (probes terms.net.ip)
      → CheckProbed (detection.heard_row own acd phase arp at)
  arp_probed own arp at (Probing sent due) is probed =
      gated CheckProbed (is_contested own acd.addr arp) _ _ (record { after = tt; binds = tt })
      (record { after = subst (λ (p : Phase). PhaseProbed p (probes terms.net.ip)) (sym is) probed; binds = tt })
  arp_probed own arp at (Announcing due last) is probed = absurd probed
  arp_probed own arp at (Held last) is probed = absurd probed
  arp_probed own arp at Over is probed = absurd probed

-- a send that failed: none is counted
unsent_probed : (acd : Acd) (at salt n : ℕ) (phase : Phase) → PhaseProbed phase n
    → PhaseProbed (detection.unsent_row acd.iface phase at salt) 0
unsent_probed acd at salt n (Probing sent due) probed =
    split (nat_lt 0 sent) (λ e. rw e (refl, omega arith)) (λ e. rw e (let none : 0 ≡ sent = grind (arith, nat_tests) in (none, probed.1)))
unsent_probed acd at salt n (Announcing due last) probed = absurd probed
unsent_probed acd at salt n (Held last) probed = absurd probed
unsent_probed acd at salt n Over probed = absurd probed

-- ---- a held address

defends : (turn : Turn4) (before : State4) (held : Terms4) (xid : ℕ) (terms : Terms4) (state : State4) (says : AcdSays)
    (probes : Ip4 → ℕ) → bound_terms before ≡ Some held
    → ((counts : Ip4 → ℕ) → IsProbed state counts) → StepProbed before false probes (defended turn xid terms state says)
defends turn before held xid terms state Quiet probes is free = record { after = free _; binds = rw is (was_held held _ probes) }
defends turn before held xid terms state SayProbe probes is free = record { after = free _; binds = rw is (was_held held _ probes) }
defends turn before held xid terms state SayAnnounce probes is free = record { after = free _; binds = rw is (was_held held _ probes) }
defends turn before held xid terms state Passed probes is free = record { after = free _; binds = rw is (was_held held _ probes) }
defends turn before held xid terms state Conflict probes is free = record { after = free _; binds = rw is (was_held held _ probes) }
defends turn before held xid terms state GivenUp probes is free = record { after = tt; binds = tt }

detecting : (turn : Turn4) (held : Terms4) (xid : ℕ) (terms : Terms4) (state : State4) (acd : Option Acd) (probes : Ip4 → ℕ)
    → bound_terms state ≡ Some held → ((next : Acd) (counts : Ip4 → ℕ) → IsProbed (with_acd state next) counts)
    → IsProbed state probes → StepProbed state false probes (detects turn xid terms state acd)
detecting turn held xid terms state None probes is free probed = stays turn state probes probed
detecting turn held xid terms state (Some acd) probes is free probed =
    defends turn state held xid terms (with_acd state (detection.acd_tick acd turn.at turn.salt).acd)
    (detection.acd_tick acd turn.at turn.salt).says probes is (free (detection.acd_tick acd turn.at turn.salt).acd)

contesting : (own : List Mac) (turn : Turn4) (arp : ArpView) (held : Terms4) (xid : ℕ) (terms : Terms4) (state : State4)
    (acd : Option Acd) (probes : Ip4 → ℕ) → bound_terms state ≡ Some held
    → ((next : Acd) (counts : Ip4 → ℕ) → IsProbed (with_acd state next) counts)
    → IsProbed state probes → StepProbed state false probes (contested own turn arp xid terms state acd)
contesting own turn arp held xid terms state None probes is free probed = stays turn state probes probed
contesting own turn arp held xid terms state (Some acd) probes is free probed =
    defends turn state held xid terms (with_acd state (detection.acd_hears own acd arp turn.at).acd)
    (detection.acd_hears own acd arp turn.at).says probes is (free (detection.acd_hears own acd arp turn.at).acd)

-- ---- ticks

ticks : (turn : Turn4) (state : State4) (probes : Ip4 → ℕ) → IsProbed state probes → StepProbed state false probes (tick_row turn state)
ticks turn Off probes probed = stays turn Off probes tt
ticks turn (Init due) probes probed = record { after = tt; binds = tt }
ticks turn (Waiting due) probes probed = record { after = tt; binds = tt }
ticks turn (Selecting xid began secs backoff due) probes probed = record { after = tt; binds = tt }
ticks turn (Requesting exchange secs Four due) probes probed = record { after = tt; binds = tt }
ticks turn (Requesting exchange secs Eight due) probes probed = record { after = tt; binds = tt }
ticks turn (Requesting exchange secs Sixteen due) probes probed = record { after = tt; binds = tt }
ticks turn (Requesting exchange secs ThirtyTwo due) probes probed = record { after = tt; binds = tt }
ticks turn (Requesting exchange secs SixtyFour due) probes probed = record { after = tt; binds = tt }
ticks turn (Rebooting exchange backoff end due stands) probes probed =
    let P : Step4 → Type 0 = λ (step : Step4). StepProbed (Rebooting exchange backoff end due stands) false probes step in
    gated P (is_due (standing_until stands) turn.at) _ _ (record { after = tt; binds = tt })
    (gated P (nat_le end turn.at) _ _ (record { after = tt; binds = tt }) (record { after = tt; binds = tt }))
ticks turn (Checking xid terms origin acd stands) probes probed =
    let P : Step4 → Type 0 = λ (step : Step4). StepProbed (Checking xid terms origin acd stands) false probes step in
    gated P (is_due (standing_until stands) turn.at) _ _ (record { after = probed; binds = tt })
    (gated P (is_due (expiry terms) turn.at) _ _ (record { after = tt; binds = tt })
    (gated (CheckProbed turn xid terms origin acd acd stands probes) (is_due (detection.due_of acd.phase) turn.at) _ _
    (tick_probed turn xid terms origin acd acd stands probes turn.at turn.salt acd.phase probed) (record { after = probed; binds = tt })))
ticks turn (Bound xid terms acd) probes probed =
    let P : Step4 → Type 0 = λ (step : Step4). StepProbed (Bound xid terms acd) false probes step in
    gated P (is_due (expiry terms) turn.at) _ _ (record { after = tt; binds = tt })
    (gated P (is_due (rebinding_at terms) turn.at) _ _ (record { after = tt; binds = tt })
    (gated P (is_due (renewal_at terms) turn.at) _ _ (record { after = tt; binds = tt })
    (detecting turn terms xid terms (Bound xid terms acd) acd probes refl (λ next counts. tt) tt)))
ticks turn (Renewing exchange terms acd due) probes probed =
    let P : Step4 → Type 0 = λ (step : Step4). StepProbed (Renewing exchange terms acd due) false probes step in
    gated P (is_due (expiry terms) turn.at) _ _ (record { after = tt; binds = tt })
    (gated P (is_due (rebinding_at terms) turn.at) _ _ (record { after = tt; binds = tt })
    (gated P (nat_le due turn.at) _ _ (record { after = tt; binds = tt })
    (detecting turn terms exchange.xid terms (Renewing exchange terms acd due) acd probes refl (λ next counts. tt) tt)))
ticks turn (Rebinding exchange terms acd due) probes probed =
    let P : Step4 → Type 0 = λ (step : Step4). StepProbed (Rebinding exchange terms acd due) false probes step in
    gated P (is_due (expiry terms) turn.at) _ _ (record { after = tt; binds = tt })
    (gated P (nat_le due turn.at) _ _ (record { after = tt; binds = tt })
    (detecting turn terms exchange.xid terms (Rebinding exchange terms acd due) acd probes refl (λ next counts. tt) tt))

-- ---- messages

offering : (turn : Turn4) (xid began secs : ℕ) (backoff : _) (due : ℕ) (said : Answer4) (anew : Bool) (probes : Ip4 → ℕ)
    → StepProbed (Selecting xid began secs backoff due) anew probes (offered turn xid secs (Selecting xid began secs backoff due) said)
offering turn xid began secs backoff due answer.Nothing anew probes = record { after = tt; binds = tt }
offering turn xid began secs backoff due (answer.Offer address server) anew probes = record { after = tt; binds = tt }
offering turn xid began secs backoff due (answer.Ack terms) anew probes = record { after = tt; binds = tt }
offering turn xid began secs backoff due answer.Nak anew probes = record { after = tt; binds = tt }

answering_said : (turn : Turn4) (xid : ℕ) (origin : Origin4) (stands : Option Terms4) (state : State4) (said : Answer4) (probes : Ip4 → ℕ)
    → turn.site.flags.noarp ≡ false → bound_terms state ≡ None → ((counts : Ip4 → ℕ) → IsProbed state counts)
    → StepProbed state (is_grant said) probes (answered turn xid origin stands state said)
answering_said turn xid origin stands state answer.Nothing probes noarp none free =
    record { after = free _; binds = same_held (bound_terms state) probes }
answering_said turn xid origin stands state (answer.Offer address server) probes noarp none free =
    record { after = free _; binds = same_held (bound_terms state) probes }
answering_said turn xid origin stands state (answer.Ack terms) probes noarp none free =
    rw noarp (record { after = (refl, omega arith); binds = tt })
answering_said turn xid origin stands state answer.Nak probes noarp none free = record { after = tt; binds = tt }

renewing_said : (turn : Turn4) (held : Terms4) (xid : ℕ) (news : News4) (acd : Option Acd) (state : State4) (said : Answer4)
    (probes : Ip4 → ℕ) → bound_terms state ≡ Some held → ((counts : Ip4 → ℕ) → IsProbed state counts)
    → StepProbed state (is_grant said) probes (renewed turn xid news acd state said)
renewing_said turn held xid news acd state answer.Nothing probes is free =
    record { after = free _; binds = same_held (bound_terms state) probes }
renewing_said turn held xid news acd state (answer.Offer address server) probes is free =
    record { after = free _; binds = same_held (bound_terms state) probes }
renewing_said turn held xid news acd state (answer.Ack terms) probes is free =
    record { after = tt; binds = rw is tt }
renewing_said turn held xid news acd state answer.Nak probes is free = record { after = tt; binds = tt }

hears : (settings : SettingsContent) (arrival : Arrival) (turn : Turn4) (state : State4) (probes : Ip4 → ℕ)
    → turn.site.flags.noarp ≡ false → IsProbed state probes
    → StepProbed state (is_grant (answer_of settings arrival state)) probes (heard_row turn (answer_of settings arrival state) state)
hears settings arrival turn Off probes noarp probed = stays turn Off probes tt
hears settings arrival turn (Init due) probes noarp probed = stays turn (Init due) probes tt
hears settings arrival turn (Selecting xid began secs backoff due) probes noarp probed =
    offering turn xid began secs backoff due (answer_of settings arrival (Selecting xid began secs backoff due)) _ probes
hears settings arrival turn (Requesting exchange secs backoff due) probes noarp probed =
    answering_said turn exchange.xid Offered None (Requesting exchange secs backoff due)
    (answer_of settings arrival (Requesting exchange secs backoff due)) probes noarp refl (λ counts. tt)
hears settings arrival turn (Rebooting exchange backoff end due stands) probes noarp probed =
    answering_said turn exchange.xid Rebooted stands (Rebooting exchange backoff end due stands)
    (answer_of settings arrival (Rebooting exchange backoff end due stands)) probes noarp refl (λ counts. tt)
hears settings arrival turn (Checking xid terms origin acd stands) probes noarp probed =
    stays turn (Checking xid terms origin acd stands) probes probed
hears settings arrival turn (Waiting due) probes noarp probed = stays turn (Waiting due) probes tt
hears settings arrival turn (Bound xid terms acd) probes noarp probed = stays turn (Bound xid terms acd) probes tt
hears settings arrival turn (Renewing exchange terms acd due) probes noarp probed =
    renewing_said turn terms exchange.xid news.Renew acd (Renewing exchange terms acd due)
    (answer_of settings arrival (Renewing exchange terms acd due)) probes refl (λ counts. tt)
hears settings arrival turn (Rebinding exchange terms acd due) probes noarp probed =
    renewing_said turn terms exchange.xid news.Rebind acd (Rebinding exchange terms acd due)
    (answer_of settings arrival (Rebinding exchange terms acd due)) probes refl (λ counts. tt)

hears_arp : (own : List Mac) (turn : Turn4) (arp : ArpView) (state : State4) (probes : Ip4 → ℕ) → IsProbed state probes
    → StepProbed state false probes (arp_row own turn arp state)
hears_arp own turn arp Off probes probed = stays turn Off probes tt
hears_arp own turn arp (Init due) probes probed = stays turn (Init due) probes tt
hears_arp own turn arp (Selecting xid began secs backoff due) probes probed =
    stays turn (Selecting xid began secs backoff due) probes tt
hears_arp own turn arp (Requesting exchange secs backoff due) probes probed =
    stays turn (Requesting exchange secs backoff due) probes tt
hears_arp own turn arp (Rebooting exchange backoff end due stands) probes probed =
    stays turn (Rebooting exchange backoff end due stands) probes tt
hears_arp own turn arp (Checking xid terms origin acd stands) probes probed =
    arp_probed turn xid terms origin acd acd stands probes own arp turn.at acd.phase refl probed
hears_arp own turn arp (Waiting due) probes probed = stays turn (Waiting due) probes tt
hears_arp own turn arp (Bound xid terms acd) probes probed =
    contesting own turn arp terms xid terms (Bound xid terms acd) acd probes refl (λ next counts. tt) tt
hears_arp own turn arp (Renewing exchange terms acd due) probes probed =
    contesting own turn arp terms exchange.xid terms (Renewing exchange terms acd due) acd probes refl (λ next counts. tt) tt
hears_arp own turn arp (Rebinding exchange terms acd due) probes probed =
    contesting own turn arp terms exchange.xid terms (Rebinding exchange terms acd due) acd probes refl (λ next counts. tt) tt

-- ---- the other inputs

begun : (turn : Turn4) (may_stand : Bool) (kept : Option Terms4) (probes : Ip4 → ℕ) → StepProbed Off false probes (begins turn may_stand kept)
begun turn may_stand None probes = record { after = tt; binds = tt }
begun turn may_stand (Some terms) probes =
    gated (λ (step : Step4). StepProbed Off false probes (record step { spends = true })) (is_due (expiry terms) turn.at || eqb turn.site.times.reboot 0) _ _
    (record { after = tt; binds = tt }) (record { after = tt; binds = tt })

carries : (turn : Turn4) (may_stand : Bool) (kept : Option Terms4) (state : State4) (probes : Ip4 → ℕ) → IsProbed state probes
    → StepProbed state false probes (begin_row turn may_stand kept state)
carries turn may_stand kept Off probes probed = begun turn may_stand kept probes
carries turn may_stand kept (Init due) probes probed = stays turn (Init due) probes tt
carries turn may_stand kept (Selecting xid began secs backoff due) probes probed = stays turn (Selecting xid began secs backoff due) probes tt
carries turn may_stand kept (Requesting exchange secs backoff due) probes probed = stays turn (Requesting exchange secs backoff due) probes tt
carries turn may_stand kept (Rebooting exchange backoff end due stands) probes probed = stays turn (Rebooting exchange backoff end due stands) probes tt
carries turn may_stand kept (Checking xid terms origin acd stands) probes probed = stays turn (Checking xid terms origin acd stands) probes probed
carries turn may_stand kept (Waiting due) probes probed = stays turn (Waiting due) probes tt
carries turn may_stand kept (Bound xid terms acd) probes probed = stays turn (Bound xid terms acd) probes tt
carries turn may_stand kept (Renewing exchange terms acd due) probes probed = stays turn (Renewing exchange terms acd due) probes tt
carries turn may_stand kept (Rebinding exchange terms acd due) probes probed = stays turn (Rebinding exchange terms acd due) probes tt

let_go : (turn : Turn4) (tell : Tell) (terms : Terms4) (before : State4) (probes : Ip4 → ℕ)
    → StepProbed before false probes (released turn tell terms)
let_go turn Server terms before probes = record { after = tt; binds = tt }
let_go turn Nobody terms before probes = record { after = tt; binds = tt }

let_stand : (turn : Turn4) (tell : Tell) (stands : Option Terms4) (before : State4) (probes : Ip4 → ℕ)
    → StepProbed before false probes (released_standing turn tell stands)
let_stand turn tell None before probes = record { after = tt; binds = tt }
let_stand turn tell (Some terms) before probes = let_go turn tell terms before probes

releases : (turn : Turn4) (tell : Tell) (state : State4) (probes : Ip4 → ℕ) → StepProbed state false probes (release_row turn tell state)
releases turn tell Off probes = record { after = tt; binds = tt }
releases turn tell (Init due) probes = record { after = tt; binds = tt }
releases turn tell (Selecting xid began secs backoff due) probes = record { after = tt; binds = tt }
releases turn tell (Requesting exchange secs backoff due) probes = record { after = tt; binds = tt }
releases turn tell (Rebooting exchange backoff end due stands) probes =
    let_stand turn tell stands (Rebooting exchange backoff end due stands) probes
releases turn tell (Checking xid terms origin acd stands) probes =
    let_stand turn tell stands (Checking xid terms origin acd stands) probes
releases turn tell (Waiting due) probes = record { after = tt; binds = tt }
releases turn tell (Bound xid terms acd) probes = let_go turn tell terms (Bound xid terms acd) probes
releases turn tell (Renewing exchange terms acd due) probes = let_go turn tell terms (Renewing exchange terms acd due) probes
releases turn tell (Rebinding exchange terms acd due) probes = let_go turn tell terms (Rebinding exchange terms acd due) probes

rebinds : (turn : Turn4) (kept : Option Terms4) (state : State4) (probes : Ip4 → ℕ) → IsProbed state probes
    → StepProbed state false probes (rebind_row turn kept state)
rebinds turn kept Off probes probed = begun turn false kept probes
rebinds turn kept (Init due) probes probed = stays turn (Init due) probes tt
rebinds turn kept (Selecting xid began secs backoff due) probes probed = stays turn (Selecting xid began secs backoff due) probes tt
rebinds turn kept (Requesting exchange secs backoff due) probes probed = stays turn (Requesting exchange secs backoff due) probes tt
rebinds turn kept (Rebooting exchange backoff end due stands) probes probed = stays turn (Rebooting exchange backoff end due stands) probes tt
rebinds turn kept (Checking xid terms origin acd stands) probes probed = stays turn (Checking xid terms origin acd stands) probes probed
rebinds turn kept (Waiting due) probes probed = stays turn (Waiting due) probes tt
rebinds turn kept (Bound xid terms acd) probes probed = record { after = tt; binds = tt }
rebinds turn kept (Renewing exchange terms acd due) probes probed = record { after = tt; binds = tt }
rebinds turn kept (Rebinding exchange terms acd due) probes probed = stays turn (Rebinding exchange terms acd due) probes tt

unsends : (turn : Turn4) (state : State4) (probes : Ip4 → ℕ) → IsProbed state probes
    → StepProbed state true probes (rests turn (unsent_row turn state))
unsends turn Off probes probed = record { after = tt; binds = tt }
unsends turn (Init due) probes probed = record { after = tt; binds = tt }
unsends turn (Selecting xid began secs backoff due) probes probed = record { after = tt; binds = tt }
unsends turn (Requesting exchange secs backoff due) probes probed = record { after = tt; binds = tt }
unsends turn (Rebooting exchange backoff end due stands) probes probed = record { after = tt; binds = tt }
unsends turn (Checking xid terms origin acd stands) probes probed =
    record { after = unsent_probed acd turn.at turn.salt (probes terms.net.ip) acd.phase probed; binds = tt }
unsends turn (Waiting due) probes probed = record { after = tt; binds = tt }
unsends turn (Bound xid terms acd) probes probed = record { after = tt; binds = tt }
unsends turn (Renewing exchange terms acd due) probes probed = record { after = tt; binds = tt }
unsends turn (Rebinding exchange terms acd due) probes probed = record { after = tt; binds = tt }

-- ---- events

event_probed : (event : Event4) (c : ClientContent) (probes : Ip4 → ℕ) → c.settings.site.flags.noarp ≡ false → IsProbed c.state probes
    → StepProbed c.state (is_anew event (answer_in event c)) probes (step_of event c)
event_probed (Tick at salt) c probes noarp probed =
    gated (StepProbed c.state false probes) (is_due (due_of c.state) (moment_of at)) _ _
    (ticks (turn_of (moment_of at) salt c) c.state probes probed) (stays (turn_of (moment_of at) salt c) c.state probes probed)
event_probed (Heard arrival salt) c probes noarp probed = hears c.settings arrival (turn_of arrival.at salt c) c.state probes noarp probed
event_probed (HeardArp own arp at salt) c probes noarp probed = hears_arp own (turn_of (moment_of at) salt c) arp c.state probes probed
event_probed (Unsent at salt) c probes noarp probed = unsends (turn_of (moment_of at) salt c) c.state probes probed
event_probed (Carries Up at salt) c probes noarp probed = carries (turn_of (moment_of at) salt c) c.may_stand (kept_terms c) c.state probes probed
event_probed (Carries Down at salt) c probes noarp probed = record { after = tt; binds = tt }
event_probed (Release tell at salt) c probes noarp probed = releases (turn_of (moment_of at) salt c) tell c.state probes
event_probed (Rebind at salt) c probes noarp probed = rebinds (turn_of (moment_of at) salt c) (kept_terms c) c.state probes probed

settings_stay : (event : Event4) (c : ClientContent) → (after_event event c).settings ≡ c.settings
settings_stay (Tick at salt) c = refl
settings_stay (Heard arrival salt) c = refl
settings_stay (HeardArp own arp at salt) c = refl
settings_stay (Unsent at salt) c = refl
settings_stay (Carries carrier at salt) c = refl
settings_stay (Release tell at salt) c = refl
settings_stay (Rebind at salt) c = refl

still : (start : ClientContent) (past : List Event4) → start.settings.site.flags.noarp ≡ false
    → (client_after start past).settings.site.flags.noarp ≡ false
still start [] noarp = noarp
still start (event ∷ past) noarp =
    ap (λ (s : SettingsContent). s.site.flags.noarp) (settings_stay event (client_after start past)) ∙ still start past noarp

all_probed : (start : ClientContent) (past : List Event4) → start.state ≡ Off → start.settings.site.flags.noarp ≡ false
    → IsProbed (client_after start past).state (λ (a : Ip4). probes_since start a past)
all_probed start [] off noarp = subst (λ (s : State4). IsProbed s (λ (a : Ip4). 0)) (sym off) tt
all_probed start (event ∷ past) off noarp =
    (event_probed event (client_after start past) (λ (a : Ip4). probes_since start a past) (still start past noarp)
    (all_probed start past off noarp)).after

pub probes_first : ProbesFirst
probes_first start past event terms off noarp none held =
    let bound : Binds (bound_terms (client_after start past).state) (bound_terms (step_of event (client_after start past)).state)
    (λ (a : Ip4). probes_since start a past) =
    (event_probed event (client_after start past) (λ (a : Ip4). probes_since start a past) (still start past noarp)
    (all_probed start past off noarp)).binds in
    rw (none, held) at bound
