-- Over a whole life: a lease is still pending, or it was held in time.
use Rattle.std.proofs.Common.{◌≡◌, ℕ, ◌+◌, ◌<◌, ◌≤◌, ◌⊎◌, inl, inr, Bool, true, false, List, [], ◌∷◌, map, Option, Some, None, refl, sym, ap, subst, ◌∙◌, arith, if◌then◌else◌}
use Rattle.std.specs.Option.{is_some}
use Rattle.std.specs.List.{list_any}
use Rattle.machine.specs.Since.{Always}
use Rattle.net_types.specs.declared.address.Mac.{Mac}
use Rattle.lease_text.specs.Leases.{LeaseContent}
use Rattle.v4_message.specs.Requests.{AskFits}
use Rattle.arp_acd.specs.declared.detection.Phase.{Phase}
use Rattle.arp_acd.specs.declared.detection.Phase.TheVariants.{Probing, Announcing, Held, Over}
use Rattle.v4_client.specs.declared.states.Exchange4.{Exchange4}
use Rattle.v4_client.specs.declared.states.State4.{State4}
use Rattle.v4_client.specs.declared.states.State4.TheVariants.{Off, Init, Selecting, Requesting, Rebooting, Checking, Waiting, Bound, Renewing, Rebinding}
use Rattle.v4_client.specs.declared.states.Step4.{Step4}
use Rattle.v4_client.specs.Clients.{ClientContent, held_of, is_bound, is_held, kept_terms}
use Rattle.v4_client.specs.Due.{due_of}
use Rattle.v4_client.specs.History.{tick_step}
use Rattle.v4_client.specs.Moments.{earlier}
use Rattle.v4_client.specs.Moves.{kept_after, moved}
use Rattle.v4_client.specs.Settings.{SettingsContent}
use Rattle.client_model.specs.Messages.{Said}
use Rattle.client_model.specs.ClientSettings.{ask_of, runs_dhcp4, settings_of}
use Rattle.client_model.specs.Fitting.{FitsBeginning}
use Rattle.client_model.specs.declared.machines.TimedMachine.TheVariants.{Dhcp4, Dhcp6, LinkLocal}
use Rattle.client_model.specs.Interfaces.{machine_due}
use Rattle.client_model.specs.IfaceTurns.{iface_turned}
use Rattle.client_model.specs.KeptLeases.{Beginning}
use Rattle.evidence_words.specs.Entries.{Entry}
use Rattle.evidence_words.specs.Inputs.{Site, GoesOn, index_at}
use Rattle.evidence_words.specs.IfaceLives.{Opening, Met, site_of, entry_of, shown, iface_after, IsLived, now_in}
use Rattle.lease_evidence.specs.Exchanges.{messages_at, seen_in, shows}
use Rattle.lease_evidence.specs.HeldLeases.{KeepsTyped}
use Rattle.lease_evidence.specs.Replies.{message_on}
use Rattle.lease_evidence.proofs.Carrying as carrying
use Rattle.lease_evidence.proofs.Carrying.{Carries, tick_carries}
use Rattle.lease_evidence.proofs.Observer.{kept_in}
use Rattle.lease_evidence.proofs.Spoken.{message_said}
use Rattle.lease_evidence.proofs.Watching.{AnyTerms, Lasts, On, ended_by, message_in}
use Rattle.lease_progress.specs.FairTurns.{Fair, probing}
use Rattle.lease_progress.specs.LeaseHeld.{HeldBy}
use Rattle.lease_progress.specs.Prompt.{IsPrompt, NotAfter}
use Rattle.lease_progress.specs.Serving.{Answered, AnsweredBy, Serves, asks, grants, offers}
use Rattle.lease_progress.proofs.ClientTurns.{Input, Message, Packet, Confirm, Nothing, IsTold, TurnGoes, client_for, step_for, taking, turn_goes}
use Rattle.lease_progress.proofs.Lived.{Known, carried, known, none_failed}
use Rattle.lease_progress.proofs.Pending.{Amid, Asked, InPhase, Pending, left_after, left_in, none_did}
use Rattle.lease_progress.proofs.PendingInputs.{Out, confirm_pending, message_pending, packet_pending, rests_pending}
use Rattle.lease_progress.proofs.PendingTicks.{sooner, tick_pending}
use Rattle.lease_progress.proofs.Shown.{Shows, both_shown, messages_so}

-- ---- a turn of the client

-- a lease is held that was granted in this life, since a turn that came in time
pub record Holds (end now : ℕ) (c : ClientContent) : Type 0 where
  pub in_time : now ≤ end
  pub bound : is_bound c.state ≡ true
  pub keeps : is_some c.kept ≡ true

module _ (site : Site) (answered : Answered) (wait end : ℕ) (f : Entry) (past : List Entry) (fair : Fair site answered wait f past) (salt : ℕ) where
  abbrev Goes : ClientContent → Type 0
  Goes c = Pending site answered wait end f.moment (f ∷ past) c.state ⊎ Holds end f.moment c

  nothing_offered : message_on site f.event f.bytes ≡ None → (xid : ℕ) → offers site xid f ≡ false
  nothing_offered none xid = rw none refl

  nothing_granted : message_on site f.event f.bytes ≡ None → (exchange : Exchange4) → grants site exchange f ≡ false
  nothing_granted none exchange = rw none refl

  module _ (one : Step4) (input : Input) (told : IsTold site f.event f.bytes input) where
    -- what a step makes of the client
    moves : (t before : ClientContent) (step : Step4) → before.kept ≡ t.kept → Out site answered wait end f past fair t.last salt t.kept one step
        → Goes (moved step before)
    moves t before step kept (inl pending) = inl pending
    moves t before step kept (inr binds) = inr (record {
      in_time = binds.in_time;
      bound = binds.bound;
      keeps = subst (λ (k : Option LeaseContent). is_some (kept_after step.keep before.settings.site.iface.name before.fresh k) ≡ true) (sym kept)
          (binds.keeps before.settings.site.iface.name before.fresh);
    })

    -- a client that stands so after the tick, and what it carries then and after its input
    abbrev Steps : ClientContent → Type 0
    Steps t =
        Amid site answered wait end f past t.kept t.state
        → On (Lasts f.moment) t.state (shows f.moment (message_in one) (seen_in site past)).current (kept_in site past).answered
        (ended_by one (kept_in site past)).grant
        → Shows site f past one (step_for site.own f.moment salt input t)
        → On AnyTerms (client_for site.own f.moment salt input t).state (seen_in site (f ∷ past)).current (kept_in site (f ∷ past)).answered
        (kept_in site (f ∷ past)).grant
        → Goes (client_for site.own f.moment salt input t)

  abbrev settled : ClientContent → ClientContent
  settled t = record t { settings = settings_of site.duid site.managed }

  steps_settled : (one : Step4) (input : Input) (told : IsTold site f.event f.bytes input) (t : ClientContent) → Steps one input told (settled t)
  steps_settled one (Message heard) told t amid on shown after =
      moves one (Message heard) told t (taking f.moment (Message heard) (settled t)) _ refl
      (message_pending site answered wait end f past fair t.last salt t.kept one heard told (Lasts f.moment) AnyTerms (ended_by one (kept_in site past)).grant
      (kept_in site (f ∷ past)).grant (kept_in site (f ∷ past)).answered t.state on after shown amid)
  steps_settled one (Packet arp) told t amid on shown after =
      moves one (Packet arp) told t (settled t) _ refl
      (packet_pending site answered wait end f past fair t.last salt t.kept one (nothing_offered told.0) (nothing_granted told.0) (Lasts f.moment) arp told.1
      (kept_in site past).answered (shows f.moment (message_in one) (seen_in site past)).current t.state on amid)
  steps_settled one Confirm told t amid on shown after =
      moves one Confirm told t (settled t) _ refl
      (confirm_pending site answered wait end f past fair t.last salt t.kept one (nothing_offered told) (nothing_granted told) (kept_terms t) t.state amid)
  steps_settled one Nothing told t amid on shown after =
      moves one Nothing told t (settled t) _ refl
      (rests_pending site answered wait end f past fair t.last salt t.kept one (nothing_offered told) (nothing_granted told) t.state amid)

  pub steps_on : (one : Step4) (input : Input) (told : IsTold site f.event f.bytes input) (t : ClientContent) → t.settings ≡ settings_of site.duid site.managed
      → Steps one input told t
  steps_on one input told t same =
      subst (λ (s : ClientContent). Steps one input told s) (λ i. record t { settings = sym same i }) (steps_settled one input told t)

-- ---- a turn of the interface

module _ (own : List Mac) (b : Beginning) (o : Opening) (answered : Answered) (wait end : ℕ) (runs : runs_dhcp4 b.managed.conf ≡ true)
    (up : (site_of own b o).up ≡ true)
    (fits : FitsBeginning b) (typed : KeepsTyped b) where
  abbrev site : Site
  site = site_of own b o

  abbrev client : List Met → ClientContent
  client mets = (iface_after own b o mets).dhcp4

  abbrev Stands : List Met → Type 0
  Stands mets = Pending site answered wait end (now_in (shown o mets)) (shown o mets) (client mets).state

  ask_fits_so : (mets : List Met) → Known own b o mets → AskFits (ask_of b.duid b.managed)
  ask_fits_so mets k = subst (λ (s : SettingsContent). AskFits s.ask) k.client.settings k.client.sound.ask

  module _ (met : Met) (mets : List Met) (lived : IsLived own b o (met ∷ mets)) (fair : Always (Fair site answered wait) (shown o (met ∷ mets))) where
    abbrev f : Entry
    f = entry_of met

    abbrev past : List Entry
    past = shown o mets

    before : Known own b o mets
    before = known own b o fits typed answered wait mets up lived.4 fair.1

    now : Known own b o (met ∷ mets)
    now = known own b o fits typed answered wait (met ∷ mets) up lived fair

    abbrev one : Step4
    one = tick_step met.turn.at met.turn.salt (client mets)

    turn_so : TurnGoes site met.turn (client mets) (iface_turned own met.turn (iface_after own b o mets))
    turn_so =
        turn_goes site fits.managed.mac.six runs met.turn (lived.2 ∙ none_failed site answered wait past fair.1)
        (subst (λ (u : Bool). GoesOn u (index_at site) met.turn.event) (carried site answered wait up past fair.1) fair.0.stays)
        (iface_after own b o mets) before.managed before.up before.running

    goes_on : IsPrompt own b o (met ∷ mets) → Stands mets
        → Pending site answered wait end f.moment (f ∷ past) (client (met ∷ mets)).state ⊎ Holds end f.moment (client (met ∷ mets))
    goes_on prompt pending =
        let t : TurnGoes site met.turn (client mets) (iface_turned own met.turn (iface_after own b o mets)) = turn_so in
        let ticked : ClientContent = moved one (client mets) in
        let two : Step4 = step_for own met.turn.at met.turn.salt t.input ticked in
        let shown_so : Shows site f past one two =
        both_shown site (ask_fits_so mets before) fits.managed.mac.six f past one two t.between t.after t.others t.more_others
        (messages_so site (ask_fits_so mets before) fits.managed.mac.six f (iface_turned own met.turn (iface_after own b o mets)).said lived.3 now.fit now.ours
        ∙ ap (λ (said : List Said). map message_said said) t.said) in
        let amid : carrying.Amid site (Unit {0}) f past one ticked = tick_carries site (Unit {0}) f past met.turn.salt
        (client mets) fits.managed.mac.six lived.0 before.client in
        let after : On AnyTerms (client_for own met.turn.at met.turn.salt t.input ticked).state (seen_in site (f ∷ past)).current
        (kept_in site (f ∷ past)).answered
        (kept_in site (f ∷ past)).grant =
        subst (λ (c : ClientContent). On AnyTerms c.state (seen_in site (f ∷ past)).current (kept_in site (f ∷ past)).answered
        (kept_in site (f ∷ past)).grant) t.client
        now.client.watched.on in
        let soon : NotAfter (due_of (client mets).state) (now_in past) met.turn.at =
        sooner (machine_due Dhcp4 (iface_after own b o mets)) (machine_due LinkLocal (iface_after own b o mets)) (now_in past) met.turn.at
        (sooner (earlier (machine_due Dhcp4 (iface_after own b o mets)) (machine_due LinkLocal (iface_after own b o mets)))
        (machine_due Dhcp6 (iface_after own b o mets))
        (now_in past) met.turn.at prompt.1) in
        let ticks : Amid site answered wait end f past ticked.kept ticked.state =
        tick_pending site answered wait end f past (now_in past) fair.0.served (client mets).settings.site (client mets).last met.turn.salt
        (client mets).settings.site.iface.name (client mets).fresh (client mets).kept (client mets).state pending soon shown_so.first in
        subst (λ (c : ClientContent). Pending site answered wait end f.moment (f ∷ past) c.state ⊎ Holds end f.moment c) (sym t.client)
        (steps_on site answered wait end f past fair.0 met.turn.salt one t.input t.told ticked before.client.settings ticks amid.watched.on shown_so after)

  -- ---- a life

  record IsHeld (c : ClientContent) : Type 0 where
    lease : LeaseContent
    held : held_of c ≡ Some lease

  held_so : (c : ClientContent) → is_bound c.state ≡ true → is_some c.kept ≡ true → IsHeld c
  held_so c bound keeps = by c.state c.kept bound keeps refl
    where
      held : (state : State4) → is_bound state ≡ true → is_held state ≡ true
      held Off h = absurd cc
      held (Init due) h = absurd cc
      held (Selecting xid began secs backoff due) h = absurd cc
      held (Requesting exchange secs backoff due) h = absurd cc
      held (Rebooting exchange backoff stop due stands) h = absurd cc
      held (Checking xid terms origin acd stands) h = absurd cc
      held (Waiting due) h = absurd cc
      held (Bound xid terms acd) h = refl
      held (Renewing exchange terms acd due) h = refl
      held (Rebinding exchange terms acd due) h = refl

      by : (state : State4) (kept : Option LeaseContent) → is_bound state ≡ true → is_some kept ≡ true
          → held_of c ≡ (if is_held state then kept else None) → IsHeld c
      by state None bound some is = absurd cc
      by state (Some lease) bound some is = record { lease = lease; held = is ∙ rw (held state bound) refl }

  gained : (met : Met) (mets : List Met) → Holds end (entry_of met).moment (client (met ∷ mets)) → HeldBy own b o (met ∷ mets) end
  gained met mets h =
      let held : IsHeld (client (met ∷ mets)) = held_so (client (met ∷ mets)) h.bound h.keeps in
      record { later = []; earlier = met ∷ mets; cut = refl; in_time = h.in_time; granted = h.bound; lease = held.lease; held = held.held }

  all_go : (mets : List Met) → IsLived own b o mets → IsPrompt own b o mets → Always (Fair site answered wait) (shown o mets) → Stands []
      → Stands mets ⊎ HeldBy own b o mets end
  all_go [] lived prompt fair first = inl first
  all_go (met ∷ mets) lived prompt fair first = elim (all_go mets lived.4 prompt.2 fair.1 first) [
    | inl pending ↦ by (goes_on met mets lived fair prompt pending)
    | inr h ↦ inr (record {
      later = met ∷ h.later;
      earlier = h.earlier;
      cut = ap (λ (ms : List Met). met ∷ ms) h.cut;
      in_time = h.in_time;
      granted = h.granted;
      lease = h.lease;
      held = h.held;
    })
  ]
    where
      by : Stands (met ∷ mets) ⊎ Holds end (entry_of met).moment (client (met ∷ mets)) → Stands (met ∷ mets) ⊎ HeldBy own b o (met ∷ mets) end
      by (inl pending) = inl pending
      by (inr holds) = inr (gained met mets holds)

  -- ---- its end

  late : (now : ℕ) (past : List Entry) → now_in past ≡ now → Serves site answered wait past → end < now → (state : State4)
      → Pending site answered wait end now past state → ⊥
  late now past is served over = by
    where
      unlike : true ≡ false → ⊥
      unlike h = cc

      due_by : (at more : ℕ) → at + (wait + more) ≤ end → end < now → at + wait ≤ now
      due_by at more early less = omega (arith, early, less)

      asked_so : (exchange : Exchange4) (until : ℕ) → Asked site answered wait end exchange until past → ⊥
      asked_so exchange until a =
          unlike (sym (subst (λ (x : Exchange4). AnsweredBy (a.e.moment + wait) (grants site x) a.later) a.same
          (served.granted a.later a.e a.earlier a.opened a.cut
          (subst (λ n. a.e.moment + wait ≤ n) (sym is) (due_by a.e.moment (probing site.managed.conf) a.early over)) a.is_open
          (subst (λ (x : Exchange4). list_any (asks answered x.xid) (messages_at site a.e) ≡ true) (sym a.same) a.said)))
          ∙ none_did (a.e.moment + wait) (grants site exchange) a.e a.later a.none)

      by : (state : State4) → Pending site answered wait end now past state → ⊥
      by Off h = h
      by (Init due) h = too_late now (wait + (wait + probing site.managed.conf)) end over h.now_soon
        where
          too_late : (now more end : ℕ) → end < now → now + more ≤ end → ⊥
          too_late now more end less most = omega (arith, less, most)
      by (Selecting xid began secs backoff due) h =
          unlike (sym (served.offered h.1.later h.1.e h.1.earlier xid h.1.cut
          (subst (λ n. h.1.e.moment + wait ≤ n) (sym is) (due_by h.1.e.moment (wait + probing site.managed.conf) h.1.early over)) h.1.said)
          ∙ none_did (h.1.e.moment + wait) (offers site xid) h.1.e h.1.later h.1.none)
      by (Requesting exchange secs backoff due) h = asked_so exchange (due + left_after backoff) h
      by (Rebooting exchange backoff stop due stands) h = asked_so exchange h.limit h.asked
      by (Checking xid terms origin acd stands) h = checked acd.phase h.phase
        where
          past_it : (now more limit end : ℕ) → end < now → now + more ≤ limit → limit ≤ end → ⊥
          past_it now more limit end less most within = omega (arith, less, most, within)

          checked : (phase : Phase) → InPhase h.limit now phase → ⊥
          checked (Probing sent due) p = past_it now (left_in sent) h.limit end over p.2 h.within
          checked (Announcing due last) p = p
          checked (Held last) p = p
          checked Over p = p
      by (Waiting due) h = h
      by (Bound xid terms acd) h = h
      by (Renewing exchange terms acd due) h = h
      by (Rebinding exchange terms acd due) h = h

  pub held_in_time : (mets : List Met) → IsLived own b o mets → IsPrompt own b o mets → Always (Fair site answered wait) (shown o mets) → Stands []
      → end < now_in (shown o mets) → HeldBy own b o mets end
  held_in_time mets lived prompt fair first over = by (all_go mets lived prompt fair first)
    where
      served : (turns : List Entry) → Always (Fair site answered wait) turns → end < now_in turns → Serves site answered wait turns
      served [] fair never = absurd (nothing end never)
        where
          nothing : (n : ℕ) → n < 0 → ⊥
          nothing n h = omega (arith, h)
      served (e ∷ turns) fair over = fair.0.served

      by : Stands mets ⊎ HeldBy own b o mets end → HeldBy own b o mets end
      by (inl pending) = absurd (late (now_in (shown o mets)) (shown o mets) refl (served (shown o mets) fair over) over (client mets).state pending)
      by (inr h) = h
