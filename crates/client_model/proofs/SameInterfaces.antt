-- An interface stays the one that it is, and its client keeps its settings.
use Rattle.std.proofs.Common.{ℕ, ◌≡◌, Bool, true, false, List, [], ◌∷◌, map, Option, Some, None, refl, ap₂, ◌∙◌}
use Rattle.net_types.proofs.CaseLaws.{gated}
use Rattle.net_types.specs.declared.address.Mac.{Mac}
use Rattle.frame_link.specs.declared.arp.ArpView.{ArpView}
use Rattle.net_types.specs.declared.address.Ip6.{Ip6}
use Rattle.v4_client.specs.V4Frames.Heard.{HeardMessage, heard4_in}
use Rattle.v6_frames.specs.Heard.{HeardMessage6, heard6_in}
use Rattle.v4_client.specs.Calls.{carrier_step, rebind_step}
use Rattle.v4_client.specs.declared.states.Carrier.TheVariants.{Up}
use Rattle.v4_client.specs.declared.states.Tell.{Tell}
use Rattle.v4_client.specs.declared.states.Tell.TheVariants.{Server}
use Rattle.v6_client.specs.declared.states.Carrier6.TheVariants as carrier6
use Rattle.v6_client.specs.Runs.{Turned6, carrier_turned, rebind_turned}
use Rattle.v6_client.proofs.SettingsStay.{settings_stay}
use Rattle.world.specs.declared.wakes.Event.{Event}
use Rattle.world.specs.declared.wakes.Event.TheVariants.{Frame, Carrier, Duplicate, Release, Rebind, Stop, Quiet, End}
use Rattle.settings.specs.declared.interfaces.Managed.{Managed}
use Rattle.script_model.specs.IfaceSets.{is_in, is_up}
use Rattle.client_model.specs.declared.interfaces.Iface.{Iface}
use Rattle.client_model.specs.ClientSettings.{runs_dhcp4}
use Rattle.client_model.specs.ClientSettings6.{runs_dhcp6}
use Rattle.client_model.specs.Dhcp4Steps.{arms, begin_dhcp4, begin_local, dhcp4_step, rebind_dhcp4}
use Rattle.client_model.specs.Dhcp6Steps.{begin_dhcp6, contested, dhcp6_step, rebind_dhcp6, tell6_of}
use Rattle.client_model.specs.IfaceSteps.{IfaceStep, index_of, silent, then_step}
use Rattle.client_model.specs.LocalSteps.{armed}
use Rattle.client_model.specs.KeptLeases.{Beginning}
use Rattle.client_model.specs.Interfaces.{begins, machines_drop, machines_rebind, machines_stop, resting, carrier_at_opening, carrier_comes, carrier_goes, opened, restarted, unsent_in, ticked, carried, halted, released, rebound, told_at_stop}
use Rattle.client_model.specs.IfaceTurns.{Turn, arp_heard, hears, hears_either, hears_message, hears_message6, hears_packet, taken, input_step, iface_turned}
use Rattle.client_model.specs.Runs.{iface_run}

pub record IsSame (old new : Iface) : Type 0 where
  pub managed : new.managed ≡ old.managed
  pub settings : new.dhcp4.settings ≡ old.dhcp4.settings
  pub settings6 : new.dhcp6.settings ≡ old.dhcp6.settings

pub itself : (iface : Iface) → IsSame iface iface
itself iface = record { managed = refl; settings = refl; settings6 = refl }

pub in_turn : (a b c : Iface) → IsSame a b → IsSame b c → IsSame a c
in_turn a b c first next = record {
  managed = next.managed ∙ first.managed;
  settings = next.settings ∙ first.settings;
  settings6 = next.settings6 ∙ first.settings6;
}

abbrev pub StepSame : Iface → IfaceStep → Type 0
StepSame iface step = IsSame iface step.iface

pub both_same : (iface : Iface) (first : IfaceStep) (next : Iface → IfaceStep) → StepSame iface first → StepSame first.iface (next first.iface)
    → StepSame iface (then_step first next)
both_same iface first next one two = in_turn iface first.iface (next first.iface).iface one two

-- ---- the machines

pub begin_same : (at salt : ℕ) (iface : Iface) → StepSame iface (begin_dhcp4 at salt iface)
begin_same at salt iface =
    gated (StepSame iface) (runs_dhcp4 iface.managed.conf) (dhcp4_step at iface (carrier_step Up at salt iface.dhcp4)) (silent iface)
    (record { managed = refl; settings = refl; settings6 = refl }) (itself iface)

pub rebind_same : (at salt : ℕ) (iface : Iface) → StepSame iface (rebind_dhcp4 at salt iface)
rebind_same at salt iface =
    gated (StepSame iface) (runs_dhcp4 iface.managed.conf) (dhcp4_step at iface (rebind_step at salt iface.dhcp4)) (silent iface)
    (record { managed = refl; settings = refl; settings6 = refl }) (itself iface)

pub begin_local_same : (at : ℕ) (iface : Iface) → StepSame iface (begin_local at iface)
begin_local_same at iface = record { managed = refl; settings = refl; settings6 = refl }

pub arms_same : (at : ℕ) (iface : Iface) → StepSame iface (arms at iface)
arms_same at iface = gated (StepSame iface) _ (silent iface) (begin_local at iface) (itself iface) (begin_local_same at iface)

pub dhcp6_same : (iface : Iface) (turned : Turned6) → turned.client.settings ≡ iface.dhcp6.settings → StepSame iface (dhcp6_step iface turned)
dhcp6_same iface turned same = record { managed = refl; settings = refl; settings6 = same }

pub begin6_same : (at salt : ℕ) (iface : Iface) → StepSame iface (begin_dhcp6 at salt iface)
begin6_same at salt iface =
    gated (StepSame iface) (runs_dhcp6 iface.managed.conf) (dhcp6_step iface (carrier_turned carrier6.Up at salt iface.dhcp6)) (silent iface)
    (dhcp6_same iface (carrier_turned carrier6.Up at salt iface.dhcp6) ((settings_stay iface.dhcp6 at salt).carrier carrier6.Up)) (itself iface)

pub rebind6_same : (at salt : ℕ) (iface : Iface) → StepSame iface (rebind_dhcp6 at salt iface)
rebind6_same at salt iface =
    gated (StepSame iface) (runs_dhcp6 iface.managed.conf) (dhcp6_step iface (rebind_turned at salt iface.dhcp6)) (silent iface)
    (dhcp6_same iface (rebind_turned at salt iface.dhcp6) (settings_stay iface.dhcp6 at salt).rebind) (itself iface)

begins_same : (at salt : ℕ) (iface : Iface) → StepSame iface (begins at salt iface)
begins_same at salt iface =
    let first : IfaceStep = begin_dhcp4 at salt iface in
    let local : IfaceStep = then_step first (begin_local at) in
    both_same iface local (begin_dhcp6 at salt) (both_same iface first (begin_local at) (begin_same at salt iface) (begin_local_same at first.iface))
    (begin6_same at salt local.iface)

rebinds_same : (at salt : ℕ) (iface : Iface) → StepSame iface (machines_rebind at salt iface)
rebinds_same at salt iface =
    let first : IfaceStep = rebind_dhcp4 at salt iface in
    let local : IfaceStep = then_step first (arms at) in
    both_same iface local (rebind_dhcp6 at salt) (both_same iface first (arms at) (rebind_same at salt iface) (arms_same at first.iface))
    (rebind6_same at salt local.iface)

drops_same : (at salt : ℕ) (iface : Iface) → StepSame iface (machines_drop at salt iface)
drops_same at salt iface = record { managed = refl; settings = refl; settings6 = (settings_stay iface.dhcp6 at salt).carrier carrier6.Down }

stops_same : (tell : Tell) (at salt : ℕ) (iface : Iface) → StepSame iface (machines_stop tell at salt iface)
stops_same tell at salt iface = record { managed = refl; settings = refl; settings6 = (settings_stay iface.dhcp6 at salt).release (tell6_of tell) }

-- ---- inputs

comes_same : (at salt : ℕ) (iface : Iface) → StepSame iface (carrier_comes at salt iface)
comes_same at salt iface =
    let same : StepSame (record iface { up = true }) (begins at salt (record iface { up = true })) = begins_same at salt (record iface { up = true }) in
    record { managed = same.managed; settings = same.settings; settings6 = same.settings6 }

goes_same : (at salt : ℕ) (iface : Iface) → StepSame iface (carrier_goes at salt iface)
goes_same at salt iface =
    let same : StepSame (record iface { up = false }) (machines_drop at salt (record iface { up = false })) =
    drops_same at salt (record iface { up = false }) in
    record { managed = same.managed; settings = same.settings; settings6 = same.settings6 }

carried_same : (at salt : ℕ) (up : Bool) (iface : Iface) → StepSame iface (carried at salt up iface)
carried_same at salt true iface = gated (StepSame iface) iface.up (silent iface) (carrier_comes at salt iface) (itself iface) (comes_same at salt iface)
carried_same at salt false iface = gated (StepSame iface) iface.up (carrier_goes at salt iface) (silent iface) (goes_same at salt iface) (itself iface)

rebound_same : (at salt : ℕ) (iface : Iface) → StepSame iface (rebound at salt iface)
rebound_same at salt iface = gated (StepSame iface) iface.up (machines_rebind at salt iface) (silent iface) (rebinds_same at salt iface) (itself iface)

halted_same : (at salt : ℕ) (iface : Iface) → StepSame iface (halted at salt iface)
halted_same at salt iface =
    let stopped : Iface = record iface { stopped = true } in
    let same : StepSame stopped (machines_stop (told_at_stop iface.managed.conf) at salt stopped) =
    stops_same (told_at_stop iface.managed.conf) at salt stopped in
    record { managed = same.managed; settings = same.settings; settings6 = same.settings6 }

contested_same : (at salt : ℕ) (address : Ip6) (iface : Iface) → StepSame iface (contested at salt address iface)
contested_same at salt address iface = record { managed = refl; settings = refl; settings6 = (settings_stay iface.dhcp6 at salt).duplicate address }

module _ (own : List Mac) (at salt : ℕ) where
  packet_same : (arp : ArpView) (iface : Iface) → StepSame iface (hears_packet own at salt arp iface)
  packet_same arp iface = record { managed = refl; settings = refl; settings6 = refl }

  message6_same : (message : Option HeardMessage6) (iface : Iface) → StepSame iface (hears_message6 at salt message iface)
  message6_same None iface = itself iface
  message6_same (Some heard) iface = record { managed = refl; settings = refl; settings6 = (settings_stay iface.dhcp6 at salt).message heard.message tt }

  message_same : (message : Option HeardMessage) (message6 : Option HeardMessage6) (iface : Iface)
      → StepSame iface (hears_message at salt message message6 iface)
  message_same None message6 iface = message6_same message6 iface
  message_same (Some heard) message6 iface = record { managed = refl; settings = refl; settings6 = refl }

  either_same : (arp : Option ArpView) (message : Option HeardMessage) (message6 : Option HeardMessage6) (iface : Iface)
      → StepSame iface (hears_either own at salt arp message message6 iface)
  either_same (Some arp) message message6 iface = packet_same arp iface
  either_same None message message6 iface = message_same message message6 iface

  hears_same : (bytes : List ℕ) (iface : Iface) → StepSame iface (hears own at salt bytes iface)
  hears_same bytes iface = either_same (arp_heard bytes) (heard4_in iface.managed.spec.mac bytes) (heard6_in iface.managed.spec.mac bytes) iface

  taken_same : (event : Event) (bytes : List ℕ) (iface : Iface) → StepSame iface (taken own at salt event bytes iface)
  taken_same (Frame index len) bytes iface = gated (StepSame iface) _ (hears own at salt bytes iface) (silent iface) (hears_same bytes iface) (itself iface)
  taken_same (Carrier index up) bytes iface = gated (StepSame iface) _ (carried at salt up iface) (silent iface) (carried_same at salt up iface) (itself iface)
  taken_same (Duplicate index addr) bytes iface =
      gated (StepSame iface) _ (contested at salt addr iface) (silent iface) (contested_same at salt addr iface) (itself iface)
  taken_same (Release index) bytes iface =
      gated (StepSame iface) _ (released at salt iface) (silent iface) (stops_same Server at salt iface) (itself iface)
  taken_same (Rebind index) bytes iface = gated (StepSame iface) _ (rebound at salt iface) (silent iface) (rebound_same at salt iface) (itself iface)
  taken_same Stop bytes iface = halted_same at salt iface
  taken_same Quiet bytes iface = itself iface
  taken_same End bytes iface = itself iface

  pub input_same : (event : Event) (bytes : List ℕ) (iface : Iface) → StepSame iface (input_step own at salt event bytes iface)
  input_same event bytes iface =
      gated (StepSame iface) iface.stopped (silent iface) (taken own at salt event bytes iface) (itself iface) (taken_same event bytes iface)

-- ---- turns

pub ticked_same : (at salt : ℕ) (iface : Iface) → StepSame iface (ticked at salt iface)
ticked_same at salt iface = record { managed = refl; settings = refl; settings6 = (settings_stay iface.dhcp6 at salt).tick }

pub unsent_same : (set at salt : ℕ) (iface : Iface) → IsSame iface (unsent_in set at salt iface)
unsent_same set at salt iface =
    gated (IsSame iface) (is_in set (index_of iface)) (restarted at salt iface) iface (record { managed = refl; settings = refl; settings6 = refl })
    (itself iface)

pub turned_is_same : (own : List Mac) (turn : Turn) (iface : Iface) → StepSame iface (iface_turned own turn iface)
turned_is_same own turn iface =
    let anew : Iface = unsent_in turn.unsent turn.at turn.salt iface in
    let first : IfaceStep = ticked turn.at turn.salt anew in
    in_turn iface anew _ (unsent_same turn.unsent turn.at turn.salt iface)
    (in_turn anew first.iface _ (ticked_same turn.at turn.salt anew) (input_same own turn.at turn.salt turn.event turn.bytes first.iface))

at_opening_same : (up : Bool) (at salt : ℕ) (iface : Iface) → StepSame iface (carrier_at_opening up at salt iface)
at_opening_same true at salt iface = comes_same at salt iface
at_opening_same false at salt iface = itself iface

pub opened_is_same : (up at salt : ℕ) (beginning : Beginning) → StepSame (resting beginning) (opened up at salt beginning)
opened_is_same up at salt beginning = at_opening_same (is_up up beginning.managed.spec.index.number) at salt (resting beginning)

pub turned_same : (own : List Mac) (turn : Turn) (iface : Iface) → (iface_turned own turn iface).iface.managed ≡ iface.managed
turned_same own turn iface = (turned_is_same own turn iface).managed

pub run_same : (own : List Mac) (iface : Iface) (turns : List Turn) → (iface_run own iface turns).managed ≡ iface.managed
run_same own iface [] = refl
run_same own iface (turn ∷ before) = turned_same own turn (iface_run own iface before) ∙ run_same own iface before

-- the interfaces that are managed
abbrev pub managed_in : List Iface → List Managed
managed_in ifaces = map (λ (iface : Iface). iface.managed) ifaces

pub opened_same : (up at salt : ℕ) (beginning : Beginning) → (opened up at salt beginning).iface.managed ≡ beginning.managed
opened_same up at salt beginning = (opened_is_same up at salt beginning).managed

pub all_opened : (up at salt : ℕ) (beginnings : List Beginning)
    → managed_in (map (λ (step : IfaceStep). step.iface) (map (opened up at salt) beginnings)) ≡ map (λ (b : Beginning). b.managed) beginnings
all_opened up at salt [] = refl
all_opened up at salt (b ∷ beginnings) = ap₂ (λ (m : Managed) (more : List Managed). m ∷ more) (opened_same up at salt b) (all_opened up at salt beginnings)

pub all_turned : (own : List Mac) (turn : Turn) (ifaces : List Iface)
    → managed_in (map (λ (step : IfaceStep). step.iface) (map (iface_turned own turn) ifaces)) ≡ managed_in ifaces
all_turned own turn [] = refl
all_turned own turn (iface ∷ ifaces) = ap₂ (λ (m : Managed) (more : List Managed). m ∷ more) (turned_same own turn iface) (all_turned own turn ifaces)
