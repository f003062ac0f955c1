-- A turn leaves an interface its configuration, and its address one that a host may choose.
use Rattle.std.proofs.Common.{ℕ, ◌≡◌, ◌+◌, ◌*◌, Bool, true, false, List, [], Option, Some, None, nat_eq, refl, sym, ap, subst, ◌∙◌, if◌then◌else◌}
use Rattle.std.specs.Prelude.{is_some}
use Rattle.net_types.specs.declared.address.Mac.{Mac}
use Rattle.frame_link.specs.declared.arp.ArpView.{ArpView}
use Rattle.ipv4ll.specs.declared.link_local.LinkLocal.{LinkLocal}
use Rattle.ipv4ll.specs.declared.link_local.Waits.{Waits}
use Rattle.ipv4ll.specs.declared.link_local.Waits.TheVariants.{ForLease, ForNothing}
use Rattle.ipv4ll.specs.declared.link_local.Fallback.{Fallback}
use Rattle.ipv4ll.specs.declared.link_local.Fallback.TheVariants.{Choose}
use Rattle.v4_frames.specs.Heard.{HeardMessage, heard4_in}
use Rattle.v6_frames.specs.Heard.{HeardMessage6, heard6_in}
use Rattle.v6_client.specs.declared.states.Carrier6.TheVariants as carrier6
use Rattle.v6_client.specs.Runs.{Turned6, carrier_turned, contested_turned, hears_turned, rebind_turned, tick_turned}
use Rattle.v4_client.specs.declared.moments.TheConstants.{SECOND}
use Rattle.v4_client.specs.declared.states.Carrier.TheVariants.{Up}
use Rattle.v4_client.specs.declared.states.News4.{News4}
use Rattle.v4_client.specs.declared.states.News4.TheVariants as news
use Rattle.v4_client.specs.declared.states.Step4.{Step4}
use Rattle.v4_client.specs.Calls.{arp_step, brought, carrier_step, heard_step, rebind_step}
use Rattle.v4_client.specs.Clients.{ClientContent, held_of}
use Rattle.v4_client.specs.History.{tick_step}
use Rattle.settings.specs.declared.interfaces.IfConf.{IfConf}
use Rattle.ipv4ll.specs.Table.{ll_armed}
use Rattle.ipv4ll.specs.History.{Arm, Tick, Heard, Unsent}
use Rattle.ipv4ll.proofs.Chosen.{step_in, InState}
use Rattle.net_types.proofs.CaseLaws.{gated}
use Rattle.world.specs.declared.wakes.Event.{Event}
use Rattle.world.specs.declared.wakes.Event.TheVariants.{Frame, Carrier, Duplicate, Release, Rebind, Stop, Quiet, End}
use Rattle.settings.specs.Fitting.{FitsManaged}
use Rattle.script_model.specs.IfaceSets.{is_up, is_in}
use Rattle.client_model.specs.declared.interfaces.Iface.{Iface}
use Rattle.client_model.specs.ClientSettings.{runs_dhcp4}
use Rattle.client_model.specs.ClientSettings6.{runs_dhcp6}
use Rattle.client_model.specs.IfaceSteps.{IfaceStep, index_of, silent, then_step}
use Rattle.client_model.specs.LocalSteps.{armed, armed_for_lease, chooses_local, fallback_of, local_hears, tick_local}
use Rattle.client_model.specs.Dhcp4Steps.{arms, arrival_at, begin_dhcp4, begin_local, dhcp4_packet, dhcp4_step, followed, holds_lease, rebind_dhcp4, tick_dhcp4}
use Rattle.client_model.specs.Dhcp6Steps.{begin_dhcp6, contested, dhcp6_step, rebind_dhcp6, tick_dhcp6}
use Rattle.client_model.specs.Interfaces.{resting, begins, machines_rebind, carrier_at_opening, carrier_comes, carrier_goes, opened, restarted, unsent_in, ticked, carried, released, rebound, halted}
use Rattle.client_model.specs.IfaceTurns.{Turn, hears, hears_either, hears_message, hears_message6, hears_packet, arp_heard, taken, input_step, iface_turned}
use Rattle.client_model.specs.Fitting.{FitsBeginning, FitsIface}
use Rattle.client_model.specs.KeptLeases.{Beginning}
use Rattle.iface_machines.specs.Outcomes.{Asked, Goes}

pub record Stays (old new : Iface) : Type 0 where
  pub managed : new.managed ≡ old.managed
  pub local : InState old.local.state → InState new.local.state

itself : (iface : Iface) → Stays iface iface
itself iface = record { managed = refl; local = λ h. h }

in_turn : (a b c : Iface) → Stays a b → Stays b c → Stays a c
in_turn a b c first next = record { managed = next.managed ∙ first.managed; local = λ h. next.local (first.local h) }

abbrev StepStays : Iface → IfaceStep → Type 0
StepStays iface step = Stays iface step.iface

restarted_stays : (at salt : ℕ) (iface : Iface) → Stays iface (restarted at salt iface)
restarted_stays at salt iface = record { managed = refl; local = λ h. (step_in [] iface.local.iface iface.local.state (Unsent at salt) h).chosen }

unsent_stays : (set at salt : ℕ) (iface : Iface) → Stays iface (unsent_in set at salt iface)
unsent_stays set at salt iface = gated (Stays iface) (is_in set (index_of iface)) (restarted at salt iface) iface (restarted_stays at salt iface) (itself iface)

both_stays : (iface : Iface) (first : IfaceStep) (next : Iface → IfaceStep) → StepStays iface first → StepStays first.iface (next first.iface)
    → StepStays iface (then_step first next)
both_stays iface first next one two = in_turn iface first.iface (next first.iface).iface one two

-- ---- link-local

arm_in : (local : LinkLocal) (due : ℕ) (waits : Waits) (fallback : Fallback) → InState local.state → InState (ll_armed local due waits fallback).state
arm_in local due waits fallback h = (step_in [] local.iface local.state (Arm due due waits fallback) h).chosen

armed_in : (conf : IfConf) (at : ℕ) (local : LinkLocal) → InState local.state → InState (armed conf at local).state
armed_in conf at local h =
    gated (λ (l : LinkLocal). InState l.state) (runs_dhcp4 conf) (armed_for_lease conf at local) _
    (gated (λ (l : LinkLocal). InState l.state) (nat_eq conf.times.timeout 0) local
    (ll_armed local (at + SECOND * conf.times.timeout) ForLease (fallback_of (chooses_local conf))) h
    (arm_in local (at + SECOND * conf.times.timeout) ForLease (fallback_of (chooses_local conf)) h))
    (gated (λ (l : LinkLocal). InState l.state) (chooses_local conf) (ll_armed local at ForNothing Choose) local (arm_in local at ForNothing Choose h) h)

followed_in : (conf : IfConf) (at : ℕ) (held : Bool) (said : News4) (local : LinkLocal) → InState local.state → InState (followed conf at held said local).state
followed_in conf at held news.Nothing local h = h
followed_in conf at held news.Bound local h = tt
followed_in conf at held news.Reboot local h = tt
followed_in conf at held news.Renew local h = h
followed_in conf at held news.Rebind local h = h
followed_in conf at held news.Nak local h = gated (λ (l : LinkLocal). InState l.state) held (armed conf at local) local (armed_in conf at local h) h
followed_in conf at held news.Expire local h = gated (λ (l : LinkLocal). InState l.state) held (armed conf at local) local (armed_in conf at local h) h
followed_in conf at held news.Stop local h = h

tick_local_stays : (at salt : ℕ) (iface : Iface) → StepStays iface (tick_local at salt iface)
tick_local_stays at salt iface = record { managed = refl; local = λ h. (step_in [] iface.local.iface iface.local.state (Tick at salt) h).chosen }

begin_local_stays : (at : ℕ) (iface : Iface) → StepStays iface (begin_local at iface)
begin_local_stays at iface = record { managed = refl; local = armed_in iface.managed.conf at iface.local }

arms_stays : (at : ℕ) (iface : Iface) → StepStays iface (arms at iface)
arms_stays at iface =
    gated (StepStays iface) (holds_lease iface) (silent iface) (begin_local at iface) (itself iface) (begin_local_stays at iface)

-- ---- DHCPv4

dhcp4_stays_from : (at : ℕ) (iface : Iface) (c : ClientContent) (step : Step4) → StepStays iface (dhcp4_step at (record iface { dhcp4 = c }) step)
dhcp4_stays_from at iface c step = record { managed = refl; local = followed_in iface.managed.conf at (is_some (held_of c)) step.news iface.local }

dhcp4_stays : (at : ℕ) (iface : Iface) (step : Step4) → StepStays iface (dhcp4_step at iface step)
dhcp4_stays at iface step = dhcp4_stays_from at iface iface.dhcp4 step

begin_stays : (at salt : ℕ) (iface : Iface) → StepStays iface (begin_dhcp4 at salt iface)
begin_stays at salt iface =
    gated (StepStays iface) (runs_dhcp4 iface.managed.conf) (dhcp4_step at iface (carrier_step Up at salt iface.dhcp4)) (silent iface)
    (dhcp4_stays at iface (carrier_step Up at salt iface.dhcp4)) (itself iface)

rebind_stays : (at salt : ℕ) (iface : Iface) → StepStays iface (rebind_dhcp4 at salt iface)
rebind_stays at salt iface =
    gated (StepStays iface) (runs_dhcp4 iface.managed.conf) (dhcp4_step at iface (rebind_step at salt iface.dhcp4)) (silent iface)
    (dhcp4_stays at iface (rebind_step at salt iface.dhcp4)) (itself iface)

-- ---- DHCPv6

dhcp6_stays : (iface : Iface) (does : Turned6) → StepStays iface (dhcp6_step iface does)
dhcp6_stays iface does = record { managed = refl; local = λ h. h }

begin6_stays : (at salt : ℕ) (iface : Iface) → StepStays iface (begin_dhcp6 at salt iface)
begin6_stays at salt iface =
    gated (StepStays iface) (runs_dhcp6 iface.managed.conf) (dhcp6_step iface (carrier_turned carrier6.Up at salt iface.dhcp6)) (silent iface)
    (dhcp6_stays iface (carrier_turned carrier6.Up at salt iface.dhcp6)) (itself iface)

rebind6_stays : (at salt : ℕ) (iface : Iface) → StepStays iface (rebind_dhcp6 at salt iface)
rebind6_stays at salt iface =
    gated (StepStays iface) (runs_dhcp6 iface.managed.conf) (dhcp6_step iface (rebind_turned at salt iface.dhcp6)) (silent iface)
    (dhcp6_stays iface (rebind_turned at salt iface.dhcp6)) (itself iface)

-- ---- the interface

ticked_stays : (at salt : ℕ) (iface : Iface) → StepStays iface (ticked at salt iface)
ticked_stays at salt iface =
    let first : IfaceStep = tick_dhcp4 at salt iface in
    let both : IfaceStep = then_step first (tick_local at salt) in
    both_stays iface both (tick_dhcp6 at salt)
    (both_stays iface first (tick_local at salt) (dhcp4_stays at iface (tick_step at salt iface.dhcp4)) (tick_local_stays at salt first.iface))
    (dhcp6_stays both.iface (tick_turned at salt both.iface.dhcp6))

pub begins_stays : (at salt : ℕ) (iface : Iface) → StepStays iface (begins at salt iface)
begins_stays at salt iface =
    let both : IfaceStep = then_step (begin_dhcp4 at salt iface) (begin_local at) in
    both_stays iface both (begin_dhcp6 at salt)
    (both_stays iface (begin_dhcp4 at salt iface) (begin_local at) (begin_stays at salt iface) (begin_local_stays at (begin_dhcp4 at salt iface).iface))
    (begin6_stays at salt both.iface)

comes_stays : (at salt : ℕ) (iface : Iface) → StepStays iface (carrier_comes at salt iface)
comes_stays at salt iface =
    let stays : StepStays (record iface { up = true }) (begins at salt (record iface { up = true })) = begins_stays at salt (record iface { up = true }) in
    record { managed = stays.managed; local = stays.local }

goes_stays : (at salt : ℕ) (iface : Iface) → StepStays iface (carrier_goes at salt iface)
goes_stays at salt iface = record { managed = refl; local = λ h. tt }

carried_stays : (at salt : ℕ) (up : Bool) (iface : Iface) → StepStays iface (carried at salt up iface)
carried_stays at salt true iface = gated (StepStays iface) iface.up (silent iface) (carrier_comes at salt iface) (itself iface) (comes_stays at salt iface)
carried_stays at salt false iface = gated (StepStays iface) iface.up (carrier_goes at salt iface) (silent iface) (goes_stays at salt iface) (itself iface)

released_stays : (at salt : ℕ) (iface : Iface) → StepStays iface (released at salt iface)
released_stays at salt iface = record { managed = refl; local = λ h. tt }

rebinds_stays : (at salt : ℕ) (iface : Iface) → StepStays iface (machines_rebind at salt iface)
rebinds_stays at salt iface =
    let both : IfaceStep = then_step (rebind_dhcp4 at salt iface) (arms at) in
    both_stays iface both (rebind_dhcp6 at salt)
    (both_stays iface (rebind_dhcp4 at salt iface) (arms at) (rebind_stays at salt iface) (arms_stays at (rebind_dhcp4 at salt iface).iface))
    (rebind6_stays at salt both.iface)

rebound_stays : (at salt : ℕ) (iface : Iface) → StepStays iface (rebound at salt iface)
rebound_stays at salt iface =
    gated (StepStays iface) iface.up (machines_rebind at salt iface) (silent iface) (rebinds_stays at salt iface) (itself iface)

halted_stays : (at salt : ℕ) (iface : Iface) → StepStays iface (halted at salt iface)
halted_stays at salt iface = record { managed = refl; local = λ h. tt }

module _ (own : List Mac) (at salt : ℕ) (bytes : List ℕ) where
  packet_stays : (arp : ArpView) (iface : Iface) → StepStays iface (hears_packet own at salt arp iface)
  packet_stays arp iface =
      let first : IfaceStep = dhcp4_packet own at salt arp iface in
      both_stays iface first (local_hears own at salt arp) (dhcp4_stays at iface (arp_step own at salt arp iface.dhcp4))
      (record { managed = refl; local = λ h. (step_in own first.iface.local.iface first.iface.local.state (Heard arp at salt) h).chosen })

  message6_stays : (message : Option HeardMessage6) (iface : Iface) → StepStays iface (hears_message6 at salt message iface)
  message6_stays None iface = itself iface
  message6_stays (Some heard) iface = dhcp6_stays iface (hears_turned at salt heard.message iface.dhcp6)

  message_stays : (message : Option HeardMessage) (message6 : Option HeardMessage6) (iface : Iface)
      → StepStays iface (hears_message at salt message message6 iface)
  message_stays None message6 iface = message6_stays message6 iface
  message_stays (Some heard) message6 iface =
      dhcp4_stays_from at iface (brought (arrival_at at heard) iface.dhcp4) (heard_step salt (arrival_at at heard) iface.dhcp4)

  either_stays : (arp : Option ArpView) (message : Option HeardMessage) (message6 : Option HeardMessage6) (iface : Iface)
      → StepStays iface (hears_either own at salt arp message message6 iface)
  either_stays (Some arp) message message6 iface = packet_stays arp iface
  either_stays None message message6 iface = message_stays message message6 iface

  -- of an input that names an interface
  named_stays : (index : ℕ) (iface : Iface) (step : IfaceStep) → StepStays iface step
      → StepStays iface (if nat_eq (index_of iface) index then step else silent iface)
  named_stays index iface step stays = gated (StepStays iface) (nat_eq (index_of iface) index) step (silent iface) stays (itself iface)

  taken_stays : (event : Event) (iface : Iface) → StepStays iface (taken own at salt event bytes iface)
  taken_stays (Frame index len) iface =
      named_stays index iface (hears own at salt bytes iface)
      (either_stays (arp_heard bytes) (heard4_in iface.managed.spec.mac bytes) (heard6_in iface.managed.spec.mac bytes) iface)
  taken_stays (Carrier index up) iface = named_stays index iface (carried at salt up iface) (carried_stays at salt up iface)
  taken_stays (Duplicate index addr) iface =
      named_stays index iface (contested at salt addr iface) (dhcp6_stays iface (contested_turned addr at salt iface.dhcp6))
  taken_stays (Release index) iface = named_stays index iface (released at salt iface) (released_stays at salt iface)
  taken_stays (Rebind index) iface = named_stays index iface (rebound at salt iface) (rebound_stays at salt iface)
  taken_stays Stop iface = halted_stays at salt iface
  taken_stays Quiet iface = itself iface
  taken_stays End iface = itself iface

  pub input_stays : (event : Event) (iface : Iface) → StepStays iface (input_step own at salt event bytes iface)
  input_stays event iface =
      gated (StepStays iface) iface.stopped (silent iface) (taken own at salt event bytes iface) (itself iface) (taken_stays event iface)

pub input_fits : (own : List Mac) (at salt : ℕ) (event : Event) (bytes : List ℕ) (iface new : Iface) (none some : Asked)
    → Goes (input_step own at salt event bytes iface) new none some → FitsManaged iface.managed → FitsManaged new.managed
input_fits own at salt event bytes iface new none some goes fits =
    subst FitsManaged (sym (ap (λ (i : Iface). i.managed) goes.goes_on ∙ (input_stays own at salt bytes event iface).managed)) fits

pub turn_stays : (own : List Mac) (turn : Turn) (iface : Iface) → StepStays iface (iface_turned own turn iface)
turn_stays own turn iface =
    let before : Iface = unsent_in turn.unsent turn.at turn.salt iface in
    let after : Iface = (ticked turn.at turn.salt before).iface in
    in_turn iface after (input_step own turn.at turn.salt turn.event turn.bytes after).iface
    (in_turn iface before after (unsent_stays turn.unsent turn.at turn.salt iface) (ticked_stays turn.at turn.salt before))
    (input_stays own turn.at turn.salt turn.bytes turn.event after)

pub stays_fit : (old new : Iface) → Stays old new → FitsIface old → FitsIface new
stays_fit old new stays fits = record { managed = subst FitsManaged (sym stays.managed) fits.managed; local = stays.local fits.local }

at_opening_stays : (up : Bool) (at salt : ℕ) (iface : Iface) → StepStays iface (carrier_at_opening up at salt iface)
at_opening_stays true at salt iface = comes_stays at salt iface
at_opening_stays false at salt iface = itself iface

pub opened_fits : (up at salt : ℕ) (beginning : Beginning) → FitsBeginning beginning → FitsIface (opened up at salt beginning).iface
opened_fits up at salt beginning fits =
    stays_fit (resting beginning) (opened up at salt beginning).iface
    (at_opening_stays (is_up up beginning.managed.spec.index.number) at salt (resting beginning))
    (record { managed = fits.managed; local = tt })
