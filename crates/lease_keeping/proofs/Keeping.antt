-- Over every life that goes well: a lease that was granted stays held, and isn't over before the next turn.
use Rattle.std.proofs.Common.{◌≡◌, ℕ, ◌+◌, ◌*◌, ◌≤◌, ◌||◌, Bool, true, false, List, [], ◌∷◌, ◌++◌, map, Option, Some, None, IfSome, eqb, nat_lt, option_map, refl, sym, ap, subst, ◌∙◌, arith, if◌then◌else◌}
use Rattle.std.proofs.lemmas.Bool.Decides.{nat_tests}
use Rattle.std.specs.List.{list_any}
use Rattle.std.specs.Prelude.{◌==◌}
use Rattle.machine.specs.Moment.{is_due}
use Rattle.machine.specs.Since.{Always}
use Rattle.net_types.proofs.CaseLaws.{gated}
use Rattle.net_types.specs.declared.address.Mac.{Mac}
use Rattle.frame_link.specs.declared.arp.ArpView.{ArpView}
use Rattle.lease_text.specs.Bounds.{FitsTerms}
use Rattle.lease_text.specs.Leases.{LeaseContent, terms_of}
use Rattle.lease_text.specs.declared.lease.TheConstants.{INFINITE_LEASE}
use Rattle.lease_text.specs.declared.lease.Terms4.{Terms4}
use Rattle.v4_frames.specs.Heard.{HeardMessage, heard4_in}
use Rattle.v4_client.specs.declared.moments.TheConstants.{SECOND}
use Rattle.v4_client.specs.declared.states.Carrier.TheVariants.{Up}
use Rattle.v4_client.specs.declared.states.Exchange4.{Exchange4}
use Rattle.v4_client.specs.declared.states.State4.{State4}
use Rattle.v4_client.specs.declared.states.State4.TheVariants.{Off, Init, Selecting, Requesting, Rebooting, Checking, Waiting, Bound, Renewing, Rebinding}
use Rattle.v4_client.specs.declared.states.Step4.{Step4}
use Rattle.v4_client.specs.declared.states.Turn4.{Turn4}
use Rattle.v4_client.specs.Answers.{is_unexpired}
use Rattle.v4_client.specs.Calls.{carrier_step}
use Rattle.v4_client.specs.Clients.{ClientContent, bound_terms, held_of, held_terms, is_bound, is_held, kept_terms, turn_of}
use Rattle.v4_client.specs.Due.{acd_due, due_of}
use Rattle.v4_client.specs.History.{tick_step}
use Rattle.v4_client.specs.Inputs.{begins}
use Rattle.v4_client.specs.Moments.{earlier, expiry, rebinding_at, renewal_at}
use Rattle.v4_client.specs.Moves.{moved}
use Rattle.v4_client.specs.Sound.{FitsState, IsKept}
use Rattle.v6_client.specs.Calls as lease6
use Rattle.ipv4ll.specs.Table as local
use Rattle.world.specs.declared.wakes.Event.{Event}
use Rattle.world.specs.declared.wakes.Event.TheVariants.{Frame, Carrier, Duplicate, Release, Rebind, Stop, Quiet, End}
use Rattle.settings.specs.declared.interfaces.Managed.{Managed}
use Rattle.script_model.specs.IfaceSets.{is_in, is_up}
use Rattle.client_model.specs.declared.interfaces.Iface.{Iface}
use Rattle.client_model.specs.ClientSettings.{runs_dhcp4}
use Rattle.client_model.specs.ClientSettings6.{runs_dhcp6}
use Rattle.client_model.specs.Dhcp4Steps.{begin_dhcp4, begin_local, dhcp4_step, said_in}
use Rattle.client_model.specs.IfaceSteps.{IfaceStep, index_of, silent, then_step}
use Rattle.client_model.specs.IfaceTurns.{arp_heard, input_step, iface_turned}
use Rattle.client_model.specs.Interfaces.{begins as machines_begin, carrier_at_opening, opening_told, resting, restarted, ticked}
use Rattle.client_model.specs.KeptLeases.{Beginning}
use Rattle.evidence_words.specs.Entries.{Entry}
use Rattle.evidence_words.specs.Inputs.{Site, GoesOn, arp_on, index_at}
use Rattle.evidence_words.specs.IfaceLives.{Opening, Met, site_of, entry_of, shown, opens, iface_after, now_in}
use Rattle.lease_evidence.specs.Exchanges.{messages_at, seen_in, show, shows}
use Rattle.lease_evidence.specs.Replies.{message_on}
use Rattle.lease_evidence.proofs.Carrying as evidence
use Rattle.lease_evidence.proofs.LeasedInputs.{packet_no_message}
use Rattle.lease_evidence.proofs.Spoken.{message_said, said_all, shows_all}
use Rattle.lease_evidence.proofs.Watching.{AnyTerms, message_in}
use Rattle.lease_progress.proofs.Lived.{Known, carried, known, none_failed}
use Rattle.lease_progress.specs.FairTurns.{GoesWell}
use Rattle.lease_progress.specs.LeaseStays.{Renewable, StaysHeld}
use Rattle.lease_progress.specs.Prompt.{NotAfter}
use Rattle.lease_progress.specs.Serving.{Answered, EachRequest, BroadcastAlone, asks}
use Rattle.lease_keeping.specs.LeaseKept.{HoldsAt, HoldsMeanwhile}
use Rattle.lease_keeping.proofs.Asking.{AskedIn, by_then}
use Rattle.lease_keeping.proofs.Carrying.{Ahead, Keeps, WhileRebinding, WhileRenewing, is_bound_so, none_free}
use Rattle.lease_keeping.proofs.Lives.{messages}
use Rattle.lease_keeping.proofs.Moments.{sooner}
use Rattle.lease_keeping.proofs.Ticking.{bound_broadcast, bound_each, rebinding_broadcast, renewing_broadcast, renewing_each, tick_keeps}
use Rattle.lease_keeping.proofs.TurnParts.{TurnParts, hearing, parts_of}
use Rattle.lease_keeping.proofs.Turning.{said_first, turn_keeps}

-- an ARP packet is no message
one_kind_of : (site : Site) (event : Event) (bytes : List ℕ) (packet : ArpView) → arp_on (index_at site) event bytes ≡ Some packet
    → message_on site event bytes ≡ None
one_kind_of site (Frame other len) bytes packet h = by (index_at site == other) h
  where
    by : (here : Bool) → (if here then arp_heard bytes else None) ≡ Some packet → (if here then heard4_in site.managed.spec.mac bytes else None) ≡ None
    by true h = packet_no_message site.managed.spec.mac bytes packet h
    by false h = refl
one_kind_of site (Carrier other now) bytes packet h = refl
one_kind_of site (Duplicate other addr) bytes packet h = refl
one_kind_of site (Release other) bytes packet h = refl
one_kind_of site (Rebind other) bytes packet h = refl
one_kind_of site Stop bytes packet h = refl
one_kind_of site Quiet bytes packet h = refl
one_kind_of site End bytes packet h = refl

-- ---- the opening

begun : (turn : Turn4) (may_stand : Bool) (kept : Option Terms4) (site : Site) (answered : Answered) (wait now : ℕ) (past : List Entry)
    → Keeps site answered wait (Unit {0}) past now (begins turn may_stand kept).state
begun turn may_stand None site answered wait now past = tt
begun turn may_stand (Some terms) site answered wait now past =
    gated (λ (step : Step4). Keeps site answered wait (Unit {0}) past now step.state) (is_due (expiry terms) turn.at || (turn.site.times.reboot == 0)) _ _ tt tt

module _ (b : Beginning) (o : Opening) (site : Site) (answered : Answered) (wait now : ℕ) (past : List Entry) where
  abbrev FreeSo : IfaceStep → Type 0
  FreeSo step = Keeps site answered wait (Unit {0}) past now step.iface.dhcp4.state

  abbrev came : Iface
  came = record (resting b) { up = true }

  begins_free : FreeSo (machines_begin o.at o.salt came)
  begins_free =
      let first : IfaceStep = then_step (begin_dhcp4 o.at o.salt came) (begin_local o.at) in
      let four : FreeSo (begin_dhcp4 o.at o.salt came) =
      gated FreeSo (runs_dhcp4 b.managed.conf) (dhcp4_step o.at came (carrier_step Up o.at o.salt came.dhcp4)) (silent came)
      (begun (turn_of o.at o.salt came.dhcp4) came.dhcp4.may_stand (kept_terms came.dhcp4) site answered wait now past) tt in
      gated FreeSo (runs_dhcp6 first.iface.managed.conf) _ (silent first.iface) four four

  opened_free : FreeSo (opens b o)
  opened_free = by (is_up o.up b.managed.spec.index.number)
    where
      by : (has : Bool) → FreeSo (then_step (opening_told has (resting b)) (carrier_at_opening has o.at o.salt))
      by true = begins_free
      by false = tt

-- ---- a turn

module _ (own : List Mac) (b : Beginning) (o : Opening) (answered : Answered) (wait : ℕ) (met : Met) (mets : List Met)
    (well : GoesWell own b o (met ∷ mets) answered wait) where
  abbrev site : Site
  site = site_of own b o

  abbrev before : Iface
  before = iface_after own b o mets

  abbrev c : ClientContent
  c = before.dhcp4

  abbrev past : List Entry
  past = shown o mets

  abbrev e : Entry
  e = entry_of met

  abbrev one : Step4
  one = tick_step met.turn.at met.turn.salt c

  k : Known own b o mets
  k = known own b o well.fits well.typed answered wait mets well.up well.lived.4 well.fair.1

  carries : evidence.Carries AnyTerms site (Unit {0}) c past
  carries = k.client

  -- what it was due
  prompt : NotAfter (due_of c.state) (now_in past) met.turn.at
  prompt =
      sooner (due_of c.state) (local.due_of before.local.state) (now_in past) met.turn.at
      (sooner (earlier (due_of c.state) (local.due_of before.local.state)) (lease6.due_of before.dhcp6) (now_in past) met.turn.at well.prompt.1)

  then_by : (exchange : Exchange4) → AskedIn site answered exchange past → met.turn.at ≤ exchange.first + wait
  then_by exchange asked = by_then site answered wait exchange past asked e well.fair.0.served

  -- no send failed in the turn before
  not_failed : is_in met.turn.unsent (index_of before) ≡ false
  not_failed =
      ap (λ (n : ℕ). is_in met.turn.unsent n) (ap (λ (m : Managed). m.spec.index.number) k.managed) ∙ well.lived.2
      ∙ none_failed site answered wait past well.fair.1

  abbrev turned : Iface → IfaceStep
  turned g = then_step (ticked met.turn.at met.turn.salt g) (input_step own met.turn.at met.turn.salt met.turn.event met.turn.bytes)

  turned_so : iface_turned own met.turn before ≡ turned before
  turned_so = ap (λ (failed : Bool). turned (if failed then restarted met.turn.at met.turn.salt before else before)) not_failed

  -- the lease that is held isn't over when the turn comes
  abbrev LastsSo : Terms4 → Type 0
  LastsSo terms = is_due (expiry terms) met.turn.at ≡ false

  bound_lasts : (which : Answered) (terms : Terms4) → FitsTerms terms → NotAfter (renewal_at terms) (now_in past) met.turn.at
      → Ahead site which wait (now_in past) terms → LastsSo terms
  bound_lasts EachRequest terms fits due h = (bound_each terms fits (now_in past) met.turn.at wait site h due).lasts
  bound_lasts BroadcastAlone terms fits due h = (bound_broadcast terms fits (now_in past) met.turn.at wait site h due).lasts

  renewing_lasts : (which : Answered) (exchange : Exchange4) (terms : Terms4) (again : ℕ) → FitsTerms terms → IfSome (rebinding_at terms) (λ end. again ≤ end)
      → NotAfter (Some again) (now_in past) met.turn.at
      → WhileRenewing site which wait which (now_in past) (AskedIn site answered exchange past) exchange terms → LastsSo terms
  renewing_lasts EachRequest exchange terms again fits wakes due h =
      (renewing_each terms fits (now_in past) met.turn.at wait exchange h.enough (then_by exchange h.asked)).lasts
  renewing_lasts BroadcastAlone exchange terms again fits wakes due h =
      (renewing_broadcast terms fits (now_in past) met.turn.at wait site again h wakes due).lasts

  rebinding_lasts : (which : Answered) (exchange : Exchange4) (terms : Terms4) → FitsTerms terms
      → WhileRebinding site which wait which (AskedIn site answered exchange past) exchange terms → LastsSo terms
  rebinding_lasts EachRequest exchange terms fits h = absurd h
  rebinding_lasts BroadcastAlone exchange terms fits h =
      (rebinding_broadcast terms fits (now_in past) met.turn.at wait exchange h.enough (then_by exchange h.asked)).lasts

  lasts_so : (state : State4) → FitsState state → NotAfter (due_of state) (now_in past) met.turn.at → Keeps site answered wait ⊥ past (now_in past) state
      → IfSome (bound_terms state) LastsSo
  lasts_so Off fits due h = tt
  lasts_so (Init at) fits due h = tt
  lasts_so (Selecting xid began secs backoff at) fits due h = tt
  lasts_so (Requesting exchange secs backoff at) fits due h = tt
  lasts_so (Rebooting exchange backoff end at stands) fits due h = tt
  lasts_so (Checking xid terms from acd stands) fits due h = tt
  lasts_so (Waiting at) fits due h = tt
  lasts_so (Bound xid terms acd) fits due h =
      bound_lasts answered terms fits (sooner (renewal_at terms) (acd_due acd) (now_in past) met.turn.at due) h.1
  lasts_so (Renewing exchange terms acd again) fits due h =
      renewing_lasts answered exchange terms again fits.renewal.holds fits.wakes (sooner (Some again) (acd_due acd) (now_in past) met.turn.at due) h.2
  lasts_so (Rebinding exchange terms acd again) fits due h = rebinding_lasts answered exchange terms fits.renewal.holds h.2

  -- ---- what it carries then

  abbrev arp : Option ArpView
  arp = arp_on (index_at site) met.turn.event met.turn.bytes

  abbrev message : Option HeardMessage
  message = message_on site met.turn.event met.turn.bytes

  abbrev two : Step4
  two = hearing own met.turn.at met.turn.salt arp message (moved one c)

  parts : Renewable site answered wait e past → TurnParts own met.turn.at met.turn.salt arp message c (turned before)
  parts renewable =
      parts_of site well.fits.managed.mac.six met.turn.at met.turn.salt met.turn.bytes met.turn.event
      (subst (λ (up : Bool). GoesOn up (index_at site) met.turn.event) (carried site answered wait well.up past well.fair.1) well.fair.0.stays)
      renewable.undisturbed before
      k.managed k.up k.running

  abbrev KeptBy : Type 0 → ClientContent → Type 0
  KeptBy free client = Keeps site answered wait free (e ∷ past) met.turn.at client.state

  module _ (p : TurnParts own met.turn.at met.turn.salt arp message c (turned before)) where
    messages_so : messages_at site e ≡ map message_said (said_all one p.between two p.after)
    messages_so =
        messages own b well.fits well.typed o met mets well.lived ∙ ap (λ (step : IfaceStep). map message_said step.said) turned_so
        ∙ ap (map message_said) p.said

    seen_so : message_in two ≡ None → seen_in site (e ∷ past) ≡ shows met.turn.at (message_in one) (seen_in site past)
    seen_so none =
        ap (λ ms. show met.turn.at ms (seen_in site past)) messages_so
        ∙ shows_all met.turn.at one two p.between p.after p.others p.more_others (seen_in site past)
        ∙ ap (λ m. shows met.turn.at m (shows met.turn.at (message_in one) (seen_in site past))) none

    said_so : (xid : ℕ) → asks answered xid (message_in one) ≡ true → list_any (asks answered xid) (messages_at site e) ≡ true
    said_so xid h = ap (list_any (asks answered xid)) messages_so ∙ said_first (asks answered xid) refl one p.between (said_in two ++ p.after) h

    keeps_by : (free : Type 0) → Renewable site answered wait e past → Keeps site answered wait free past (now_in past) c.state
        → KeptBy free (turned before).iface.dhcp4
    keeps_by free renewable kept =
        subst (KeptBy free) (sym p.client)
        (turn_keeps site answered wait free e past met.turn.salt c (Unit {0})
        (evidence.tick_carries site (Unit {0}) e past met.turn.salt c well.fits.managed.mac.six well.lived.0 carries) well.fair.0 renewable
        (tick_keeps site wait free past (now_in past) (turn_of met.turn.at met.turn.salt c) answered then_by c.state carries.sound.state prompt kept)
        arp message refl refl (λ packet h. one_kind_of site met.turn.event met.turn.bytes packet h) seen_so said_so)

  pub keeps_on : (free : Type 0) → Renewable site answered wait e past → Keeps site answered wait free past (now_in past) c.state
      → KeptBy free (iface_after own b o (met ∷ mets)).dhcp4
  keeps_on free renewable kept =
      subst (λ (step : IfaceStep). KeptBy free step.iface.dhcp4) (sym turned_so) (keeps_by (parts renewable) free renewable kept)

  -- ---- the lease

  unexpired : (first lease : ℕ) → is_due (if eqb lease INFINITE_LEASE then None else Some (first + SECOND * lease)) met.turn.at ≡ false
      → is_unexpired first lease met.turn.at ≡ true
  unexpired first lease h = by_end (eqb lease INFINITE_LEASE) (first + SECOND * lease) h
    where
      by_end : (endless : Bool) (end : ℕ) → is_due (if endless then None else Some end) met.turn.at ≡ false → (endless || nat_lt met.turn.at end) ≡ true
      by_end true end h = refl
      by_end false end h = grind (arith, nat_tests)

  record Held (lease : Option LeaseContent) : Type 0 where
    content : LeaseContent
    is : lease ≡ Some content
    lasts : is_unexpired content.first content.lease met.turn.at ≡ true

  kept_so : (terms : Terms4) (kept : Option LeaseContent) → option_map terms_of kept ≡ Some terms → LastsSo terms → Held kept
  kept_so terms None same lasts = absurd cc
  kept_so terms (Some lease) same lasts =
      let is : terms_of lease ≡ terms = one_of (terms_of lease) terms same in
      record { content = lease; is = refl; lasts = unexpired lease.first lease.lease (subst LastsSo (sym is) lasts) }
    where
      one_of : (a b : Terms4) → Some a ≡ Some b → a ≡ b
      one_of a b e = cc

  held_so : (state : State4) (kept : Option LeaseContent) → is_bound state ≡ true → IsKept (held_terms state) kept → IfSome (bound_terms state) LastsSo
      → Held (if is_held state then kept else None)
  held_so Off kept bound held lasts = absurd cc
  held_so (Init at) kept bound held lasts = absurd cc
  held_so (Selecting xid began secs backoff at) kept bound held lasts = absurd cc
  held_so (Requesting exchange secs backoff at) kept bound held lasts = absurd cc
  held_so (Rebooting exchange backoff end at stands) kept bound held lasts = absurd cc
  held_so (Checking xid terms from acd stands) kept bound held lasts = absurd cc
  held_so (Waiting at) kept bound held lasts = absurd cc
  held_so (Bound xid terms acd) kept bound held lasts = kept_so terms kept held lasts
  held_so (Renewing exchange terms acd again) kept bound held lasts = kept_so terms kept held lasts
  held_so (Rebinding exchange terms acd again) kept bound held lasts = kept_so terms kept held lasts

  pub holds_at : Keeps site answered wait ⊥ past (now_in past) c.state → HoldsAt own b o mets met.turn.at
  holds_at h =
      let held : Held (held_of c) =
      held_so c.state c.kept (is_bound_so site answered wait past (now_in past) c.state h) carries.sound.held (lasts_so c.state carries.sound.state prompt h) in
      record { lease = held.content; held = held.is; unexpired = held.lasts }

-- ---- all turns

shorter : (own : List Mac) (b : Beginning) (o : Opening) (met : Met) (mets : List Met) (answered : Answered) (wait : ℕ)
    → GoesWell own b o (met ∷ mets) answered wait → GoesWell own b o mets answered wait
shorter own b o met mets answered wait well = record {
  fits = well.fits;
  typed = well.typed;
  runs = well.runs;
  up = well.up;
  lived = well.lived.4;
  prompt = well.prompt.2;
  fair = well.fair.1;
}

module _ (own : List Mac) (b : Beginning) (o : Opening) (answered : Answered) (wait : ℕ) where
  abbrev Well : List Met → Type 0
  Well mets = GoesWell own b o mets answered wait

  abbrev Renewables : List Met → Type 0
  Renewables mets = Always (Renewable (site_of own b o) answered wait) (shown o mets)

  abbrev KeepsSo : Type 0 → List Met → Type 0
  KeepsSo free mets = Keeps (site_of own b o) answered wait free (shown o mets) (now_in (shown o mets)) (iface_after own b o mets).dhcp4.state

  keeps : (mets : List Met) → Well mets → Renewables mets → KeepsSo (Unit {0}) mets
  keeps [] well renewables = opened_free b o (site_of own b o) answered wait o.at (shown o [])
  keeps (met ∷ mets) well renewables =
      keeps_on own b o answered wait met mets well (Unit {0}) renewables.0 (keeps mets (shorter own b o met mets answered wait well) renewables.1)

  keeps_bound : (later earlier : List Met) → Well (later ++ earlier) → Renewables (later ++ earlier) → is_bound (iface_after own b o earlier).dhcp4.state ≡ true
      → KeepsSo ⊥ (later ++ earlier)
  keeps_bound [] earlier well renewables bound =
      none_free (site_of own b o) answered wait (shown o earlier) (now_in (shown o earlier)) (iface_after own b o earlier).dhcp4.state bound
      (keeps earlier well renewables)
  keeps_bound (met ∷ later) earlier well renewables bound =
      keeps_on own b o answered wait met (later ++ earlier) well ⊥ renewables.0
      (keeps_bound later earlier (shorter own b o met (later ++ earlier) answered wait well) renewables.1 bound)

  bound_on : (mets later earlier : List Met) → Well mets → Renewables mets → mets ≡ later ++ earlier → is_bound (iface_after own b o earlier).dhcp4.state ≡ true
      → KeepsSo ⊥ mets
  bound_on mets later earlier well renewables cut bound =
      subst (KeepsSo ⊥) (sym cut) (keeps_bound later earlier (subst Well cut well) (subst Renewables cut renewables) bound)

pub stays_held : StaysHeld
stays_held own b o mets later earlier answered wait well renewables cut bound =
    is_bound_so (site_of own b o) answered wait (shown o mets) (now_in (shown o mets)) (iface_after own b o mets).dhcp4.state
    (bound_on own b o answered wait mets later earlier well renewables cut bound)

pub holds_meanwhile : HoldsMeanwhile
holds_meanwhile own b o met mets later earlier answered wait well renewables cut bound =
    holds_at own b o answered wait met mets well
    (bound_on own b o answered wait mets later earlier (shorter own b o met mets answered wait well) renewables.1 cut bound)
