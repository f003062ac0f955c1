-- The turns of an interface as events of its DHCPv4 client.
use Rattle.std.proofs.Common.{◌≡◌, ℕ, Bool, true, false, List, ◌∷◌, Option, Some, None, refl, ap, ◌∙◌}
use Rattle.std.specs.Prelude.{◌==◌}
use Rattle.machine.specs.Moment.{moment_of}
use Rattle.machine.specs.Since.{Always}
use Rattle.net_types.proofs.CaseLaws.{gated, split}
use Rattle.net_types.specs.declared.address.Mac.{Mac}
use Rattle.frame_link.specs.declared.arp.ArpView.{ArpView}
use Rattle.v4_frames.specs.Heard.{HeardMessage, heard4_in}
use Rattle.v6_frames.specs.Heard.{HeardMessage6, heard6_in}
use Rattle.v4_client.specs.declared.states.Carrier.{Carrier}
use Rattle.v4_client.specs.declared.states.Carrier.TheVariants.{Up, Down}
use Rattle.v4_client.specs.declared.states.Tell.{Tell}
use Rattle.v4_client.specs.declared.states.Tell.TheVariants.{Server}
use Rattle.v4_client.specs.Calls.{arp_step, carrier_step, rebind_step, release_step, unsent_step}
use Rattle.v4_client.specs.Clients.{ClientContent}
use Rattle.v4_client.specs.History.{Event4, Tick, Heard, HeardArp, Unsent, Carries, Release, Rebind, after_event, client_after, tick_step}
use Rattle.v4_client.specs.Messages.{Arrival}
use Rattle.v4_client.specs.Moves.{moved}
use Rattle.world.specs.declared.wakes.Event.{Event}
use Rattle.world.specs.declared.wakes.Event.TheVariants as input
use Rattle.script_model.specs.IfaceSets.{is_in}
use Rattle.client_model.specs.declared.interfaces.Iface.{Iface}
use Rattle.client_model.specs.ClientSettings.{runs_dhcp4}
use Rattle.client_model.specs.ClientSettings6.{runs_dhcp6}
use Rattle.client_model.specs.Dhcp4Steps.{arms, arrival_at, begin_dhcp4, begin_local, dhcp4_takes, holds_lease, rebind_dhcp4}
use Rattle.client_model.specs.Dhcp6Steps.{begin_dhcp6, rebind_dhcp6}
use Rattle.client_model.specs.IfaceSteps.{IfaceStep, index_of}
use Rattle.client_model.specs.IfaceTurns.{arp_heard, hears_either, input_step, taken}
use Rattle.client_model.specs.Interfaces.{begins, carried, carrier_at_opening, machines_drop, machines_rebind, machines_stop, told_at_stop, ticked, unsent_in}

-- what is known of an event and of those before it: where a message was heard, which it was, and how the client stood
abbrev pub Known : (Came : Arrival → List Event4 → Type 0) → Event4 → List Event4 → Type 0
Known Came (Heard arrival salt) earlier = Came arrival earlier
Known Came _ earlier = Unit {0}

module _ (start : ClientContent) (Came : Arrival → List Event4 → Type 0) where
  -- a client stands as some events make it
  pub record Lived (c : ClientContent) : Type 0 where
    pub events : List Event4
    pub is : c ≡ client_after start events
    pub known : Always (Known Came) events

  abbrev pub LivedIn : Iface → Type 0
  LivedIn f = Lived f.dhcp4

  -- one more event
  more : (event : Event4) (c d : ClientContent) → d ≡ after_event event c → (l : Lived c) → Known Came event l.events → Lived d
  more event c d is l known = record {
    events = event ∷ l.events;
    is = is ∙ ap (after_event event) l.is;
    known = (known, l.known);
  }

  module _ (at salt : ℕ) (told : at ≡ moment_of at) where
    told_now : (call : (at : ℕ) → ClientContent) → call at ≡ call (moment_of at)
    told_now call = ap call told

    ticks : (f : Iface) → LivedIn f → Lived (moved (tick_step at salt f.dhcp4) f.dhcp4)
    ticks f l = more (Tick at salt) f.dhcp4 _ (told_now (λ now. moved (tick_step now salt f.dhcp4) f.dhcp4)) l tt

    pub all_tick : (f : Iface) → LivedIn f → LivedIn (ticked at salt f).iface
    all_tick f l = ticks f l

    pub undone : (set : ℕ) (f : Iface) → LivedIn f → LivedIn (unsent_in set at salt f)
    undone set f l =
        gated LivedIn (is_in set (index_of f)) _ _
        (more (Unsent at salt) f.dhcp4 _ (told_now (λ now. unsent_step now salt f.dhcp4)) l tt) l

    carries : (carrier : Carrier) (c : ClientContent) → Lived c → Lived (moved (carrier_step carrier at salt c) c)
    carries carrier c l = more (Carries carrier at salt) c _ (told_now (λ now. moved (carrier_step carrier now salt c) c)) l tt

    releases : (tell : Tell) (c : ClientContent) → Lived c → Lived (moved (release_step tell at salt c) c)
    releases tell c l = more (Release tell at salt) c _ (told_now (λ now. moved (release_step tell now salt c) c)) l tt

    hears_arp : (own : List Mac) (arp : ArpView) (c : ClientContent) → Lived c → Lived (moved (arp_step own at salt arp c) c)
    hears_arp own arp c l = more (HeardArp own arp at salt) c _ (told_now (λ now. moved (arp_step own now salt arp c) c)) l tt

    -- ---- steps of the interface

    -- what only DHCPv6 and link-local do besides
    begun4 : (f : Iface) → LivedIn f → LivedIn (begin_dhcp4 at salt f).iface
    begun4 f l = gated (λ (step : IfaceStep). LivedIn step.iface) (runs_dhcp4 f.managed.conf) _ _ (carries Up f.dhcp4 l) l

    rebinds4 : (f : Iface) → LivedIn f → LivedIn (rebind_dhcp4 at salt f).iface
    rebinds4 f l =
        gated (λ (step : IfaceStep). LivedIn step.iface) (runs_dhcp4 f.managed.conf) _ _
        (more (Rebind at salt) f.dhcp4 _ (told_now (λ now. moved (rebind_step now salt f.dhcp4) f.dhcp4)) l tt) l

    begins6 : (f : Iface) → LivedIn f → LivedIn (begin_dhcp6 at salt f).iface
    begins6 f l = gated (λ (step : IfaceStep). LivedIn step.iface) (runs_dhcp6 f.managed.conf) _ _ l l

    rebinds6 : (f : Iface) → LivedIn f → LivedIn (rebind_dhcp6 at salt f).iface
    rebinds6 f l = gated (λ (step : IfaceStep). LivedIn step.iface) (runs_dhcp6 f.managed.conf) _ _ l l

    arming : (f : Iface) → LivedIn f → LivedIn (arms at f).iface
    arming f l = gated (λ (step : IfaceStep). LivedIn step.iface) (holds_lease f) _ _ l l

    all_begin : (f : Iface) → LivedIn f → LivedIn (begins at salt f).iface
    all_begin f l = begins6 (begin_local at (begin_dhcp4 at salt f).iface).iface (begun4 f l)

    all_rebind : (f : Iface) → LivedIn f → LivedIn (machines_rebind at salt f).iface
    all_rebind f l =
        rebinds6 (arms at (rebind_dhcp4 at salt f).iface).iface (arming (rebind_dhcp4 at salt f).iface (rebinds4 f l))

    all_drop : (f : Iface) → LivedIn f → LivedIn (machines_drop at salt f).iface
    all_drop f l = carries Down f.dhcp4 l

    all_stop : (tell : Tell) (f : Iface) → LivedIn f → LivedIn (machines_stop tell at salt f).iface
    all_stop tell f l = releases tell f.dhcp4 l

    pub opens_lived : (up : Bool) (f : Iface) → LivedIn f → LivedIn (carrier_at_opening up at salt f).iface
    opens_lived true f l = all_begin (record f { up = true }) l
    opens_lived false f l = l

    carrier_lived : (up : Bool) (f : Iface) → LivedIn f → LivedIn (carried at salt up f).iface
    carrier_lived true f l = gated (λ (step : IfaceStep). LivedIn step.iface) f.up _ _ l (all_begin (record f { up = true }) l)
    carrier_lived false f l = gated (λ (step : IfaceStep). LivedIn step.iface) f.up _ _ (all_drop (record f { up = false }) l) l

    module _ (own : List Mac) (bytes : List ℕ) where
      takes : (heard : HeardMessage) (f : Iface) (l : LivedIn f) → Came (arrival_at at heard) l.events
          → LivedIn (dhcp4_takes at salt (arrival_at at heard) f).iface
      takes heard f l came = more (Heard (arrival_at at heard) salt) f.dhcp4 _ refl l came

      hears_lived : (arp : Option ArpView) (message : Option HeardMessage) (message6 : Option HeardMessage6) (f : Iface) (l : LivedIn f)
          → ((heard : HeardMessage) → message ≡ Some heard → Came (arrival_at at heard) l.events)
          → LivedIn (hears_either own at salt arp message message6 f).iface
      hears_lived (Some arp) message message6 f l came = hears_arp own arp f.dhcp4 l
      hears_lived None (Some heard) message6 f l came = takes heard f l (came heard refl)
      hears_lived None None (Some heard) f l came = l
      hears_lived None None None f l came = l

      -- the messages of a frame on the interface
      abbrev pub CameHere : Event → Iface → List Event4 → Type 0
      CameHere (input.Frame index len) f events =
          (index_of f == index) ≡ true → (heard : HeardMessage) → heard4_in f.managed.spec.mac bytes ≡ Some heard → Came (arrival_at at heard) events
      CameHere _ f events = Unit {0}

      taken_lived : (event : Event) (f : Iface) (l : LivedIn f) → CameHere event f l.events → LivedIn (taken own at salt event bytes f).iface
      taken_lived (input.Frame index len) f l came =
          split (index_of f == index)
          (λ here. rw here (hears_lived (arp_heard bytes) (heard4_in f.managed.spec.mac bytes) (heard6_in f.managed.spec.mac bytes) f l (came here)))
          (λ other. rw other l)
      taken_lived (input.Carrier index up) f l came = gated (λ (step : IfaceStep). LivedIn step.iface) (index_of f == index) _ _ (carrier_lived up f l) l
      taken_lived (input.Duplicate index addr) f l came = gated (λ (step : IfaceStep). LivedIn step.iface) (index_of f == index) _ _ l l
      taken_lived (input.Release index) f l came = gated (λ (step : IfaceStep). LivedIn step.iface) (index_of f == index) _ _ (all_stop Server f l) l
      taken_lived (input.Rebind index) f l came =
          gated (λ (step : IfaceStep). LivedIn step.iface) (index_of f == index) _ _
          (gated (λ (step : IfaceStep). LivedIn step.iface) f.up _ _ (all_rebind f l) l) l
      taken_lived input.Stop f l came = all_stop (told_at_stop f.managed.conf) (record f { stopped = true }) l
      taken_lived input.Quiet f l came = l
      taken_lived input.End f l came = l

      pub input_lived : (event : Event) (f : Iface) (l : LivedIn f) → CameHere event f l.events → LivedIn (input_step own at salt event bytes f).iface
      input_lived event f l came =
          gated (λ (step : IfaceStep). LivedIn step.iface) f.stopped _ _ l (taken_lived event f l came)
