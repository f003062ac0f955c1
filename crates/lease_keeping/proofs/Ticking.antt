-- A tick in time keeps what a client carries.
use Rattle.std.proofs.Common.{◌≡◌, ℕ, ◌+◌, ◌*◌, ◌<◌, ◌≤◌, ◌&&◌, ◌==◌, inl, inr, Bool, true, false, List, Option, Some, None, IfSome, eqb, nat_le, nat_lt, refl, sym, ◌∙◌, subst, arith, if◌then◌else◌}
use Rattle.std.proofs.lemmas.Bool.Decides.{nat_tests}
use Rattle.machine.specs.Moment.{is_due}
use Rattle.net_types.proofs.CaseLaws.{split, gated}
use Rattle.net_types.specs.declared.address.Ip4.{Ip4}
use Rattle.net_types.specs.declared.interface.IfIndex.{IfIndex}
use Rattle.arp_acd.specs.declared.detection.Acd.{Acd}
use Rattle.arp_acd.specs.declared.detection.AcdSays.{AcdSays}
use Rattle.arp_acd.specs.declared.detection.AcdSays.TheVariants.{Quiet, SayProbe, SayAnnounce, Passed, Conflict, GivenUp}
use Rattle.arp_acd.specs.declared.detection.Phase.{Phase}
use Rattle.arp_acd.specs.declared.detection.Phase.TheVariants.{Probing, Announcing, Held, Over}
use Rattle.arp_acd.specs.Table as detection
use Rattle.arp_acd.proofs.Standing.{mk}
use Rattle.lease_text.specs.Bounds.{FitsTerms}
use Rattle.lease_text.specs.declared.lease.TheConstants.{INFINITE_LEASE}
use Rattle.lease_text.specs.declared.lease.Terms4.{Terms4}
use Rattle.v4_message.specs.declared.writing.Kind4.{Kind4}
use Rattle.v4_message.specs.declared.writing.Kind4.TheVariants.{Request}
use Rattle.v4_frames.specs.declared.sent.Sent4.{Sent4}
use Rattle.v4_client.specs.declared.moments.TheConstants.{SECOND}
use Rattle.v4_client.specs.declared.states.Exchange4.{Exchange4}
use Rattle.v4_client.specs.declared.states.Origin4.{Origin4}
use Rattle.v4_client.specs.declared.states.State4.{State4}
use Rattle.v4_client.specs.declared.states.State4.TheVariants.{Off, Init, Selecting, Requesting, Rebooting, Checking, Waiting, Bound, Renewing, Rebinding}
use Rattle.v4_client.specs.declared.states.Step4.{Step4}
use Rattle.v4_client.specs.declared.states.Turn4.{Turn4}
use Rattle.v4_client.specs.Detection.{checked, defended, with_acd}
use Rattle.v4_client.specs.Due.{acd_due, due_of}
use Rattle.v4_client.specs.Moments.{earlier, expiry, renewal_at, rebinding_at, standing_until}
use Rattle.v4_client.specs.Saying.{rebinding_request, renewing_request, sent_of}
use Rattle.v4_client.specs.Sound.{FitsState}
use Rattle.v4_client.specs.Steps.{rests, new_xid}
use Rattle.v4_client.specs.Ticks.{bound_tick, checking_tick, detects, rebinding_tick, renewing_tick, is_longest, tick_row}
use Rattle.evidence_words.specs.Entries.{Entry}
use Rattle.evidence_words.specs.Inputs.{Site}
use Rattle.lease_evidence.proofs.Watching.{message_in}
use Rattle.lease_progress.specs.LeaseStays.{IsBefore, asked_at, needed_by}
use Rattle.lease_progress.specs.Prompt.{NotAfter}
use Rattle.lease_progress.specs.Serving.{Answered, EachRequest, BroadcastAlone, asks, is_answered, is_request}
use Rattle.lease_keeping.proofs.Asking.{AskedIn}
use Rattle.lease_keeping.proofs.Carrying.{Probed, Pends, DetectsIp, Ahead, WhileRenewing, Keeps, Amid}
use Rattle.lease_keeping.proofs.Moments.{sooner, before_it, RenewsNow, renews_now, RebindsNow, rebinds_now, renews_first, finite, AwaitsNow, awaits_now, next, fewer, probe_more, over}

-- ---- conflict detection

-- a tick detects the same address, and gives it up never
record Detects (ip : Ip4) (step : detection.AcdStep) : Type 0 where
  addr : step.acd.addr ≡ ip
  goes_on : step.says ≡ GivenUp → ⊥

row_detects : (acd : Acd) (phase : Phase) (at salt : ℕ) → Detects acd.addr (detection.tick_row acd phase at salt)
row_detects acd (Probing n due) at salt =
    gated (Detects acd.addr) (nat_lt n 3) _ _ (record { addr = refl; goes_on = λ e. cc }) (record { addr = refl; goes_on = λ e. cc })
row_detects acd (Announcing due last) at salt = record { addr = refl; goes_on = λ e. cc }
row_detects acd (Held last) at salt = record { addr = refl; goes_on = λ e. cc }
row_detects acd Over at salt = record { addr = refl; goes_on = λ e. cc }

tick_detects : (acd : Acd) (at salt : ℕ) → Detects acd.addr (detection.acd_tick acd at salt)
tick_detects acd at salt =
    gated (Detects acd.addr) (is_due (detection.due_of acd.phase) at) (detection.tick_row acd acd.phase at salt) (detection.stays acd)
    (row_detects acd acd.phase at salt) (record { addr = refl; goes_on = λ e. cc })

-- what is so once a probed address passes by `end`, or goes on being probed
abbrev AfterProbe : (end : Option ℕ) → (at : ℕ) → Phase → AcdSays → Type 0
AfterProbe end at phase Passed = IfSome end (λ due. at ≤ due)
AfterProbe end at phase Quiet = Pends end at phase
AfterProbe end at phase SayProbe = Pends end at phase
AfterProbe end at phase SayAnnounce = Pends end at phase
AfterProbe end at phase Conflict = Pends end at phase
AfterProbe end at phase GivenUp = Pends end at phase

endless_probe : (at : ℕ) (phase : Phase) (says : AcdSays) → AfterProbe None at phase says
endless_probe at phase Passed = tt
endless_probe at phase Quiet = tt
endless_probe at phase SayProbe = tt
endless_probe at phase SayAnnounce = tt
endless_probe at phase Conflict = tt
endless_probe at phase GivenUp = tt

abbrev StepProbes : (end : Option ℕ) → (at : ℕ) → detection.AcdStep → Type 0
StepProbes end at step = AfterProbe end at step.acd.phase step.says

probing_on : (i : IfIndex) (a : Ip4) (end n due at salt : ℕ) → Probed end at n due
    → StepProbes (Some end) at (detection.acd_tick (mk i a (Probing n due)) at salt)
probing_on i a end n due at salt p =
    gated (StepProbes (Some end) at) (nat_le due at) (detection.tick_row (mk i a (Probing n due)) (Probing n due) at salt)
    (detection.stays (mk i a (Probing n due))) come p
  where
    come : StepProbes (Some end) at (detection.tick_row (mk i a (Probing n due)) (Probing n due) at salt)
    come =
        split (nat_lt n 3)
        (λ few. rw few (
          fewer n few,
          (next i (n + 1) at salt).0,
          probe_more end at n due (detection.due_after i (n + 1) at salt) p.1 p.2 (next i (n + 1) at salt).1,
        ))
        (λ all. rw all (over end at n due p.0 p.1 p.2))

-- it ends no later than before where the turn comes in time
pends_on : (end : Option ℕ) (last at : ℕ) (phase : Phase) → NotAfter (detection.due_of phase) last at → Pends end last phase → Pends end at phase
pends_on None last at phase prompt h = tt
pends_on (Some end) last at (Probing n due) prompt h = (h.0, before_it due last at prompt h.1, h.2)
pends_on (Some end) last at (Announcing due conflict) prompt h = absurd h
pends_on (Some end) last at (Held conflict) prompt h = absurd h
pends_on (Some end) last at Over prompt h = absurd h

tick_probes : (i : IfIndex) (a : Ip4) (phase : Phase) (end : Option ℕ) (last at salt : ℕ) → NotAfter (detection.due_of phase) last at → Pends end last phase
    → StepProbes end at (detection.acd_tick (mk i a phase) at salt)
tick_probes i a phase None last at salt prompt h =
    endless_probe at (detection.acd_tick (mk i a phase) at salt).acd.phase (detection.acd_tick (mk i a phase) at salt).says
tick_probes i a (Probing n due) (Some end) last at salt prompt h =
    probing_on i a end n due at salt (pends_on (Some end) last at (Probing n due) prompt h)
tick_probes i a (Announcing due conflict) (Some end) last at salt prompt h = absurd h
tick_probes i a (Held conflict) (Some end) last at salt prompt h = absurd h
tick_probes i a Over (Some end) last at salt prompt h = absurd h

-- ---- the rows

-- a REQUEST asks in its own exchange
asks_itself : (which : Answered) (xid : ℕ) (sent : Sent4) → sent.said.kind ≡ Request → sent.said.xid ≡ xid → is_answered which sent ≡ true
    → asks which xid (Some sent) ≡ true
asks_itself which xid sent kind same answers =
    subst (λ (k : Kind4). (is_request k && (sent.said.xid == xid) && is_answered which sent) ≡ true) (sym kind)
    (subst (λ (b : Bool). (b && is_answered which sent) ≡ true) (sym (equal sent.said.xid xid same)) answers)
  where
    equal : (a b : ℕ) → a ≡ b → (a == b) ≡ true
    equal a b e = grind (arith, nat_tests)

module _ (site : Site) (answered : Answered) (wait : ℕ) (free : Type 0) (past : List Entry) (last : ℕ) (turn : Turn4)
    (then_by : (exchange : Exchange4) → AskedIn site answered exchange past → turn.at ≤ exchange.first + wait) where
  abbrev pub After : Step4 → Type 0
  After step = Amid site answered wait free past turn.at (message_in step) step.state

  abbrev AtRest : State4 → Type 0
  AtRest state = Amid site answered wait free past turn.at None state

  -- ---- the conflict detection of an address that is held

  defends : (xid : ℕ) (terms : Terms4) (state : State4) (says : AcdSays) → (says ≡ GivenUp → ⊥) → AtRest state → After (defended turn xid terms state says)
  defends xid terms state Quiet never on = on
  defends xid terms state SayProbe never on = on
  defends xid terms state SayAnnounce never on = on
  defends xid terms state Passed never on = on
  defends xid terms state Conflict never on = on
  defends xid terms state GivenUp never on = absurd (never refl)

  detecting : (xid : ℕ) (terms : Terms4) (state : State4) (acd : Option Acd) → DetectsIp terms.net.ip acd
      → ((next : Acd) → next.addr ≡ terms.net.ip → AtRest (with_acd state next)) → AtRest state → After (detects turn xid terms state acd)
  detecting xid terms state None detected with_on on = on
  detecting xid terms state (Some acd) detected with_on on =
      let d = tick_detects acd turn.at turn.salt in
      defends xid terms (with_acd state (detection.acd_tick acd turn.at turn.salt).acd) (detection.acd_tick acd turn.at turn.salt).says d.goes_on
      (with_on (detection.acd_tick acd turn.at turn.salt).acd (d.addr ∙ detected))

  -- ---- an address that is checked

  checks : (xid : ℕ) (terms : Terms4) (from : Origin4) (acd : Acd) (stands : Option Terms4) (says : AcdSays) → free → acd.addr ≡ terms.net.ip
      → IsBefore wait (asked_at answered terms) (needed_by answered terms) → AfterProbe (asked_at answered terms) turn.at acd.phase says
      → After (checked turn xid terms from acd stands says)
  checks xid terms from acd stands Quiet it addr enough h = (it, addr, enough, h)
  checks xid terms from acd stands SayProbe it addr enough h = (it, addr, enough, h)
  checks xid terms from acd stands SayAnnounce it addr enough h = (it, addr, enough, h)
  checks xid terms from acd stands Passed it addr enough h = (addr, record { ahead = h; enough = enough })
  checks xid terms from acd stands Conflict it addr enough h = it
  checks xid terms from acd stands GivenUp it addr enough h = (it, addr, enough, h)

  checking_row : (xid : ℕ) (terms : Terms4) (from : Origin4) (i : IfIndex) (a : Ip4) (phase : Phase) (stands : Option Terms4)
      → NotAfter (detection.due_of phase) last turn.at → Keeps site answered wait free past last (Checking xid terms from (mk i a phase) stands)
      → After (checking_tick turn xid terms from (mk i a phase) stands)
  checking_row xid terms from i a phase stands prompt h =
      gated After (is_due (standing_until stands) turn.at) _ _ (h.0, h.1, h.2, pends_on (asked_at answered terms) last turn.at phase prompt h.3)
      (gated After (is_due (expiry terms) turn.at) _ _ h.0
      (checks xid terms from (detection.acd_tick (mk i a phase) turn.at turn.salt).acd stands (detection.acd_tick (mk i a phase) turn.at turn.salt).says h.0
      ((tick_detects (mk i a phase) turn.at turn.salt).addr ∙ h.1) h.2
      (tick_probes i a phase (asked_at answered terms) last turn.at turn.salt prompt h.3)))

-- ---- a lease that is held, by which REQUESTs are answered

module _ (terms : Terms4) (fits : FitsTerms terms) (last at wait : ℕ) where
  abbrev endless : Bool
  endless = eqb terms.lease INFINITE_LEASE

  abbrev renews : ℕ
  renews = terms.first + SECOND * terms.t1

  abbrev rebinds : ℕ
  rebinds = terms.first + SECOND * terms.t2

  abbrev ends : ℕ
  ends = terms.first + SECOND * terms.lease

  rebinds_before : rebinds ≤ ends
  rebinds_before = let le : terms.t2 ≤ terms.lease = fits.rebinds in omega arith

  renews_before : renews ≤ rebinds
  renews_before = let le : terms.t1 ≤ terms.t2 = fits.renews in omega arith

  pub bound_each : (site : Site) → Ahead site EachRequest wait last terms → NotAfter (renewal_at terms) last at
      → RenewsNow endless renews rebinds ends at wait
  bound_each site h prompt = renews_now endless renews rebinds ends last at wait rebinds_before h.ahead h.enough prompt

  pub bound_broadcast : (site : Site) → Ahead site BroadcastAlone wait last terms → NotAfter (renewal_at terms) last at
      → RebindsNow endless rebinds ends at wait
  bound_broadcast site h prompt =
      rebinds_now endless renews rebinds ends last at wait (renews_first endless renews rebinds renews_before) h.ahead h.enough
      (finite endless renews last at prompt)

  pub renewing_broadcast : (site : Site) (due : ℕ) → Ahead site BroadcastAlone wait last terms → IfSome (rebinding_at terms) (λ end. due ≤ end)
      → NotAfter (Some due) last at → RebindsNow endless rebinds ends at wait
  renewing_broadcast site due h wakes prompt = rebinds_now endless due rebinds ends last at wait wakes h.ahead h.enough (λ e. prompt)

  pub renewing_each : (exchange : Exchange4) → IfSome (rebinding_at terms) (λ end. exchange.first + wait < end) → at ≤ exchange.first + wait
      → AwaitsNow endless rebinds ends at
  renewing_each exchange enough h = awaits_now endless (exchange.first + wait) rebinds ends at rebinds_before enough h

  pub rebinding_broadcast : (exchange : Exchange4) → IfSome (expiry terms) (λ end. exchange.first + wait < end) → at ≤ exchange.first + wait
      → AwaitsNow endless ends ends at
  rebinding_broadcast exchange enough h = awaits_now endless (exchange.first + wait) ends ends at (same ends) enough h
    where
      same : (n : ℕ) → n ≤ n
      same n = omega arith

module _ (site : Site) (wait : ℕ) (free : Type 0) (past : List Entry) (last : ℕ) (turn : Turn4) where
  abbrev ThenBy : Answered → Type 0
  ThenBy answered = (exchange : Exchange4) → AskedIn site answered exchange past → turn.at ≤ exchange.first + wait

  abbrev AfterFor : Answered → Step4 → Type 0
  AfterFor answered step = Amid site answered wait free past turn.at (message_in step) step.state

  abbrev Kept : Answered → State4 → Type 0
  Kept answered state = Keeps site answered wait free past last state

  -- the REQUESTs that are said now
  renewal_asks : (terms : Terms4) → asks EachRequest (new_xid turn) (Some (sent_of (renewing_request turn.site terms (new_xid turn)))) ≡ true
  renewal_asks terms = asks_itself EachRequest (new_xid turn) (sent_of (renewing_request turn.site terms (new_xid turn))) refl refl refl

  rebinding_asks : (terms : Terms4) → asks BroadcastAlone (new_xid turn) (Some (sent_of (rebinding_request turn.site terms (new_xid turn)))) ≡ true
  rebinding_asks terms = asks_itself BroadcastAlone (new_xid turn) (sent_of (rebinding_request turn.site terms (new_xid turn))) refl refl refl

  -- ---- Bound

  bound_row : (answered : Answered) → ThenBy answered → (xid : ℕ) (terms : Terms4) (acd : Option Acd) → FitsTerms terms
      → NotAfter (renewal_at terms) last turn.at → Kept answered (Bound xid terms acd) → AfterFor answered (bound_tick turn xid terms acd)
  bound_row EachRequest then_by xid terms acd fits prompt h =
      let n = bound_each terms fits last turn.at wait site h.1 prompt in
      let lasts : is_due (expiry terms) turn.at ≡ false = n.lasts in
      let early : is_due (rebinding_at terms) turn.at ≡ false = n.early in
      let on : Ahead site EachRequest wait turn.at terms = record { ahead = n.ahead; enough = h.1.enough } in
      rw lasts (rw early (gated (AfterFor EachRequest) (is_due (renewal_at terms) turn.at) _ _
      (h.0, refl, record { asked = inr (renewal_asks terms, refl); enough = n.enough })
      (detecting site EachRequest wait free past last turn then_by xid terms (Bound xid terms acd) acd h.0 (λ next addr. (addr, on)) (h.0, on))))
  bound_row BroadcastAlone then_by xid terms acd fits prompt h =
      let n = bound_broadcast terms fits last turn.at wait site h.1 prompt in
      let lasts : is_due (expiry terms) turn.at ≡ false = n.lasts in
      let on : Ahead site BroadcastAlone wait turn.at terms = record { ahead = n.ahead; enough = h.1.enough } in
      rw lasts (gated (AfterFor BroadcastAlone) (is_due (rebinding_at terms) turn.at) _ _
      (h.0, refl, record { asked = inr (rebinding_asks terms, refl); enough = n.enough })
      (gated (AfterFor BroadcastAlone) (is_due (renewal_at terms) turn.at) _ _ (h.0, refl, on)
      (detecting site BroadcastAlone wait free past last turn then_by xid terms (Bound xid terms acd) acd h.0 (λ next addr. (addr, on)) (h.0, on))))

  bound_rests : (answered : Answered) → (xid : ℕ) (terms : Terms4) (acd : Option Acd) → FitsTerms terms
      → NotAfter (renewal_at terms) last turn.at → Kept answered (Bound xid terms acd) → AfterFor answered (rests turn (Bound xid terms acd))
  bound_rests EachRequest xid terms acd fits prompt h =
      let n = bound_each terms fits last turn.at wait site h.1 prompt in (h.0, record { ahead = n.ahead; enough = h.1.enough })
  bound_rests BroadcastAlone xid terms acd fits prompt h =
      let n = bound_broadcast terms fits last turn.at wait site h.1 prompt in (h.0, record { ahead = n.ahead; enough = h.1.enough })

  -- ---- Renewing

  renewing_row : (answered : Answered) → ThenBy answered → (exchange : Exchange4) (terms : Terms4) (acd : Option Acd) (due : ℕ) → FitsTerms terms
      → IfSome (rebinding_at terms) (λ end. due ≤ end) → NotAfter (Some due) last turn.at → Kept answered (Renewing exchange terms acd due)
      → AfterFor answered (renewing_tick turn exchange terms acd due)
  renewing_row EachRequest then_by exchange terms acd due fits wakes prompt h =
      let n = renewing_each terms fits last turn.at wait exchange h.2.enough (then_by exchange h.2.asked) in
      let lasts : is_due (expiry terms) turn.at ≡ false = n.lasts in
      let early : is_due (rebinding_at terms) turn.at ≡ false = n.early in
      let on : WhileRenewing site EachRequest wait EachRequest turn.at _ exchange terms = record { asked = inl h.2.asked; enough = h.2.enough } in
      rw lasts (rw early (gated (AfterFor EachRequest) (nat_le due turn.at) _ _ (h.0, h.1, record { asked = inl h.2.asked; enough = h.2.enough })
      (detecting site EachRequest wait free past last turn then_by exchange.xid terms (Renewing exchange terms acd due) acd h.0
      (λ next addr. (addr, h.1, on)) (h.0, h.1, on))))
  renewing_row BroadcastAlone then_by exchange terms acd due fits wakes prompt h =
      let n = renewing_broadcast terms fits last turn.at wait site due h.2 wakes prompt in
      let lasts : is_due (expiry terms) turn.at ≡ false = n.lasts in
      let on : Ahead site BroadcastAlone wait turn.at terms = record { ahead = n.ahead; enough = h.2.enough } in
      rw lasts (gated (AfterFor BroadcastAlone) (is_due (rebinding_at terms) turn.at) _ _
      (h.0, refl, record { asked = inr (rebinding_asks terms, refl); enough = n.enough })
      (gated (AfterFor BroadcastAlone) (nat_le due turn.at) _ _ (h.0, h.1, on)
      (detecting site BroadcastAlone wait free past last turn then_by exchange.xid terms (Renewing exchange terms acd due) acd h.0
      (λ next addr. (addr, h.1, on)) (h.0, h.1, on))))

  renewing_rests : (answered : Answered) → (exchange : Exchange4) (terms : Terms4) (acd : Option Acd) (due : ℕ) → FitsTerms terms
      → IfSome (rebinding_at terms) (λ end. due ≤ end) → NotAfter (Some due) last turn.at → Kept answered (Renewing exchange terms acd due)
      → AfterFor answered (rests turn (Renewing exchange terms acd due))
  renewing_rests EachRequest exchange terms acd due fits wakes prompt h = (h.0, h.1, record { asked = inl h.2.asked; enough = h.2.enough })
  renewing_rests BroadcastAlone exchange terms acd due fits wakes prompt h =
      let n = renewing_broadcast terms fits last turn.at wait site due h.2 wakes prompt in
      (h.0, h.1, record { ahead = n.ahead; enough = h.2.enough })

  -- ---- Rebinding

  rebinding_row : (answered : Answered) → ThenBy answered → (exchange : Exchange4) (terms : Terms4) (acd : Option Acd) (due : ℕ) → FitsTerms terms
      → Kept answered (Rebinding exchange terms acd due) → AfterFor answered (rebinding_tick turn exchange terms acd due)
  rebinding_row EachRequest then_by exchange terms acd due fits h = absurd h.2
  rebinding_row BroadcastAlone then_by exchange terms acd due fits h =
      let n = rebinding_broadcast terms fits last turn.at wait exchange h.2.enough (then_by exchange h.2.asked) in
      let lasts : is_due (expiry terms) turn.at ≡ false = n.lasts in
      rw lasts (gated (AfterFor BroadcastAlone) (nat_le due turn.at) _ _ (h.0, h.1, record { asked = inl h.2.asked; enough = h.2.enough })
      (detecting site BroadcastAlone wait free past last turn then_by exchange.xid terms (Rebinding exchange terms acd due) acd h.0
      (λ next addr. (addr, h.1, record { asked = inl h.2.asked; enough = h.2.enough })) (h.0, h.1, record { asked = inl h.2.asked; enough = h.2.enough })))

  rebinding_rests : (answered : Answered) → (exchange : Exchange4) (terms : Terms4) (acd : Option Acd) (due : ℕ)
      → Kept answered (Rebinding exchange terms acd due) → AfterFor answered (rests turn (Rebinding exchange terms acd due))
  rebinding_rests EachRequest exchange terms acd due h = absurd h.2
  rebinding_rests BroadcastAlone exchange terms acd due h = (h.0, h.1, record { asked = inl h.2.asked; enough = h.2.enough })

  -- ---- each state

  module _ (answered : Answered) (then_by : ThenBy answered) where
    checking_prompt : (xid : ℕ) (terms : Terms4) (acd : Acd) (stands : Option Terms4)
        → NotAfter (earlier (earlier (detection.due_of acd.phase) (expiry terms)) (standing_until stands)) last turn.at
        → NotAfter (detection.due_of acd.phase) last turn.at
    checking_prompt xid terms acd stands prompt =
        sooner (detection.due_of acd.phase) (expiry terms) last turn.at
        (sooner (earlier (detection.due_of acd.phase) (expiry terms)) (standing_until stands) last turn.at prompt)

    ticks : (state : State4) → FitsState state → NotAfter (due_of state) last turn.at → Kept answered state → AfterFor answered (tick_row turn state)
    ticks Off fits prompt h = h
    ticks (Init due) fits prompt h = h
    ticks (Selecting xid began secs backoff due) fits prompt h = h
    ticks (Requesting exchange secs backoff due) fits prompt h = gated (AfterFor answered) (is_longest backoff) _ _ h h
    ticks (Rebooting exchange backoff end due stands) fits prompt h =
        gated (AfterFor answered) (is_due (standing_until stands) turn.at) _ _ h (gated (AfterFor answered) (nat_le end turn.at) _ _ h h)
    ticks (Checking xid terms from acd stands) fits prompt h =
        checking_row site answered wait free past last turn then_by xid terms from acd.iface acd.addr acd.phase stands
        (checking_prompt xid terms acd stands prompt) h
    ticks (Waiting due) fits prompt h = h
    ticks (Bound xid terms acd) fits prompt h =
        bound_row answered then_by xid terms acd fits (sooner (renewal_at terms) (acd_due acd) last turn.at prompt) h
    ticks (Renewing exchange terms acd due) fits prompt h =
        renewing_row answered then_by exchange terms acd due fits.renewal.holds fits.wakes (sooner (Some due) (acd_due acd) last turn.at prompt) h
    ticks (Rebinding exchange terms acd due) fits prompt h = rebinding_row answered then_by exchange terms acd due fits.renewal.holds h

    waits : (state : State4) → FitsState state → NotAfter (due_of state) last turn.at → Kept answered state → AfterFor answered (rests turn state)
    waits Off fits prompt h = h
    waits (Init due) fits prompt h = h
    waits (Selecting xid began secs backoff due) fits prompt h = h
    waits (Requesting exchange secs backoff due) fits prompt h = h
    waits (Rebooting exchange backoff end due stands) fits prompt h = h
    waits (Checking xid terms from acd stands) fits prompt h =
        (h.0, h.1, h.2, pends_on (asked_at answered terms) last turn.at acd.phase (checking_prompt xid terms acd stands prompt) h.3)
    waits (Waiting due) fits prompt h = h
    waits (Bound xid terms acd) fits prompt h = bound_rests answered xid terms acd fits (sooner (renewal_at terms) (acd_due acd) last turn.at prompt) h
    waits (Renewing exchange terms acd due) fits prompt h =
        renewing_rests answered exchange terms acd due fits.renewal.holds fits.wakes (sooner (Some due) (acd_due acd) last turn.at prompt) h
    waits (Rebinding exchange terms acd due) fits prompt h = rebinding_rests answered exchange terms acd due h

    -- a tick, due or not
    pub tick_keeps : (state : State4) → FitsState state → NotAfter (due_of state) last turn.at → Kept answered state
        → AfterFor answered (if is_due (due_of state) turn.at then tick_row turn state else rests turn state)
    tick_keeps state fits prompt h =
        gated (AfterFor answered) (is_due (due_of state) turn.at) (tick_row turn state) (rests turn state) (ticks state fits prompt h)
        (waits state fits prompt h)
