use Rattle.std.proofs.Common.{◌≡◌, ℕ, ◌==◌, ◌≤◌, max, min, true, false, List, [], Option, Some, None, refl, sym, ap, subst, arith, if◌then◌else◌}
use Rattle.net_types.proofs.CaseLaws.{split, gated}
use Rattle.net_types.specs.declared.address.Mac.{Mac}
use Rattle.frame_link.specs.declared.arp.ArpView.{ArpView}
use Rattle.lease_text.specs.Leases.{ValueContent, LeaseContent}
use Rattle.v4_frames.specs.Heard.{HeardMessage, heard4_in}
use Rattle.v6_frames.specs.Heard.{HeardMessage6, heard6_in}
use Rattle.v4_client.specs.Settings.{SettingsContent}
use Rattle.v4_client.specs.Calls.{brought, carrier_step, rebind_step}
use Rattle.v4_client.specs.declared.states.Carrier.TheVariants as carrier4
use Rattle.v4_client.specs.Moments.{earlier}
use Rattle.v4_client.specs.declared.states.State4.TheVariants as state4
use Rattle.v6_client.specs.Clients as clients6
use Rattle.v6_client.specs.Runs.{tick_turned, hears_turned, contested_turned, rebind_turned, carrier_turned}
use Rattle.v6_client.specs.declared.states.Carrier6.TheVariants as carrier6
use Rattle.v6_client.specs.Calls as lease6
use Rattle.ipv4ll.specs.declared.link_local.LinkLocal.{LinkLocal}
use Rattle.ipv4ll.specs.declared.link_local.Fallback.TheVariants.{Choose}
use Rattle.ipv4ll.specs.declared.link_local.Waits.TheVariants.{ForNothing}
use Rattle.ipv4ll.specs.declared.link_local.State.TheVariants as local
use Rattle.ipv4ll.specs.Table.{due_of, ll_tick, ll_hears, ll_armed, off}
use Rattle.world.specs.declared.wakes.Event.{Event}
use Rattle.world.specs.declared.wakes.Event.TheVariants.{Frame, Carrier, Duplicate, Release, Rebind, Stop, Quiet, End}
use Rattle.settings.specs.declared.interfaces.Managed.{Managed}
use Rattle.script_model.specs.IfaceSets.{is_in}
use Rattle.client_model.specs.declared.interfaces.Iface.{Iface}
use Rattle.client_model.specs.ClientSettings.{runs_dhcp4, settings_of}
use Rattle.client_model.specs.ClientSettings6.{runs_dhcp6, settings6_of}
use Rattle.client_model.specs.Dhcp4Steps.{arms, arrival_at, begin_dhcp4, begin_local, dhcp4_step, rebind_dhcp4}
use Rattle.client_model.specs.Dhcp6Steps.{begin_dhcp6, dhcp6_step, rebind_dhcp6}
use Rattle.client_model.specs.IfaceSteps.{IfaceStep, silent, then_step}
use Rattle.client_model.specs.Interfaces.{begins, carrier_at_opening, iface_due, machines_rebind, opening_told, resting}
use Rattle.client_model.specs.IfaceTurns.{Turn, arp_heard, hears_either, input_step, iface_turned}
use Rattle.client_model.specs.KeptLeases.{Beginning}
use Rattle.client_model.specs.LocalSteps.{armed, chooses_local}
use Rattle.progress.specs.GoingWell.{NotAfter}
use Rattle.progress.specs.InterfaceHeld.{begun, ChoosesAtOnce}
use Rattle.progress.specs.TurnsGoingWell.{GoesOn, packet_for}

-- An interface on which DHCPv4 is off goes on so, and what a turn makes of its link-local machine.

abbrev shaped : Managed → SettingsContent → Option ℕ → Option LeaseContent → List ValueContent → LinkLocal → clients6.ClientContent → Iface
shaped managed settings last kept fresh ll dhcp6 = record {
  managed = managed;
  up = true;
  stopped = false;
  dhcp4 = record { settings = settings; last = last; state = state4.Off; may_stand = true; kept = kept; fresh = fresh };
  local = ll;
  dhcp6 = dhcp6;
}

pub record Stands (managed : Managed) (ll : LinkLocal) (iface : Iface) : Type 0 where
  pub settings : SettingsContent
  pub last : Option ℕ
  pub kept : Option LeaseContent
  pub fresh : List ValueContent
  pub dhcp6 : clients6.ClientContent
  pub is : iface ≡ shaped managed settings last kept fresh ll dhcp6

pub record Chooses (managed : Managed) : Type 0 where
  pub no_dhcp4 : runs_dhcp4 managed.conf ≡ false
  pub chooses : chooses_local managed.conf ≡ true

-- what the machine hears in a turn
abbrev pub hearing : List Mac → (at salt : ℕ) → Option ArpView → LinkLocal → LinkLocal
hearing own at salt None ll = ll
hearing own at salt (Some arp) ll = (ll_hears own ll arp at salt).ll

-- a command to rebind arms it anew, where it is off
abbrev pub rearmed : (index at : ℕ) → Event → LinkLocal → LinkLocal
rearmed index at (Rebind other) ll = if index == other then ll_armed ll at ForNothing Choose else ll
rearmed index at _ ll = ll

abbrev pub machine_after : List Mac → (index : ℕ) → Turn → LinkLocal → LinkLocal
machine_after own index turn ll =
    rearmed index turn.at turn.event (hearing own turn.at turn.salt (packet_for index turn.event turn.bytes) (ll_tick ll turn.at turn.salt).ll)

module _ (managed : Managed) (choosing : Chooses managed) (own : List Mac) (at salt : ℕ) where
  index : ℕ
  index = managed.spec.index.number

  module _ (settings : SettingsContent) (last : Option ℕ) (kept : Option LeaseContent) (fresh : List ValueContent) (ll : LinkLocal)
      (dhcp6 : clients6.ClientContent) where
    abbrev here : Iface
    here = shaped managed settings last kept fresh ll dhcp6

    itself : Stands managed ll here
    itself = record { settings = settings; last = last; kept = kept; fresh = fresh; dhcp6 = dhcp6; is = refl }

    either : (arp : Option ArpView) (message : Option HeardMessage) (message6 : Option HeardMessage6)
        → Stands managed (hearing own at salt arp ll) (hears_either own at salt arp message message6 here).iface
    either (Some arp) message message6 = record { settings = settings; last = last; kept = kept; fresh = fresh; dhcp6 = dhcp6; is = refl }
    either None (Some heard) message6 = record {
      settings = settings;
      last = last;
      kept = kept;
      fresh = (brought (arrival_at at heard) here.dhcp4).fresh;
      dhcp6 = dhcp6;
      is = refl;
    }
    either None None (Some heard) =
        record { settings = settings; last = last; kept = kept; fresh = fresh; dhcp6 = (hears_turned at salt heard.message dhcp6).client; is = refl }
    either None None None = itself

    -- what DHCPv6 makes of a command to rebind, or of the carrier
    rebind6 : (l : LinkLocal) → Stands managed l (rebind_dhcp6 at salt (shaped managed settings last kept fresh l dhcp6)).iface
    rebind6 l =
        gated (λ (step : IfaceStep). Stands managed l step.iface) (runs_dhcp6 managed.conf)
        (dhcp6_step (shaped managed settings last kept fresh l dhcp6) (rebind_turned at salt dhcp6)) (silent (shaped managed settings last kept fresh l dhcp6))
        (record { settings = settings; last = last; kept = kept; fresh = fresh; dhcp6 = (rebind_turned at salt dhcp6).client; is = refl })
        (record { settings = settings; last = last; kept = kept; fresh = fresh; dhcp6 = dhcp6; is = refl })

    begin6 : (l : LinkLocal) → Stands managed l (begin_dhcp6 at salt (shaped managed settings last kept fresh l dhcp6)).iface
    begin6 l =
        gated (λ (step : IfaceStep). Stands managed l step.iface) (runs_dhcp6 managed.conf)
        (dhcp6_step (shaped managed settings last kept fresh l dhcp6) (carrier_turned carrier6.Up at salt dhcp6))
        (silent (shaped managed settings last kept fresh l dhcp6))
        (record { settings = settings; last = last; kept = kept; fresh = fresh; dhcp6 = (carrier_turned carrier6.Up at salt dhcp6).client; is = refl })
        (record { settings = settings; last = last; kept = kept; fresh = fresh; dhcp6 = dhcp6; is = refl })

    armed_is : armed managed.conf at ll ≡ ll_armed ll at ForNothing Choose
    armed_is = rw choosing.no_dhcp4 (rw choosing.chooses refl)

    no_rebind4 : (rebind_dhcp4 at salt here).iface ≡ here
    no_rebind4 = ap (λ b. (if b then dhcp4_step at here (rebind_step at salt here.dhcp4) else silent here).iface) choosing.no_dhcp4

    no_begin4 : (begin_dhcp4 at salt here).iface ≡ here
    no_begin4 = ap (λ b. (if b then dhcp4_step at here (carrier_step carrier4.Up at salt here.dhcp4) else silent here).iface) choosing.no_dhcp4

    rebinds : Stands managed (ll_armed ll at ForNothing Choose) (machines_rebind at salt here).iface
    rebinds =
        subst (λ i. Stands managed (ll_armed ll at ForNothing Choose) (rebind_dhcp6 at salt (arms at i).iface).iface) (sym no_rebind4)
        (subst (λ l. Stands managed l (rebind_dhcp6 at salt (arms at here).iface).iface) armed_is (rebind6 (armed managed.conf at ll)))

    pub begins_stand : Stands managed (ll_armed ll at ForNothing Choose) (begins at salt here).iface
    begins_stand =
        subst (λ i. Stands managed (ll_armed ll at ForNothing Choose) (begin_dhcp6 at salt (begin_local at i).iface).iface) (sym no_begin4)
        (subst (λ l. Stands managed l (begin_dhcp6 at salt (begin_local at here).iface).iface) armed_is (begin6 (armed managed.conf at ll)))

    taken : (event : Event) (bytes : List ℕ) → GoesOn managed.spec.index.number event
        → Stands managed (rearmed managed.spec.index.number at event (hearing own at salt (packet_for managed.spec.index.number event bytes) ll))
        (input_step own at salt event bytes here).iface
    taken (Frame other len) bytes on =
        split (managed.spec.index.number == other)
        (λ mine. rw mine (either (arp_heard bytes) (heard4_in managed.spec.mac bytes) (heard6_in managed.spec.mac bytes)))
        (λ alien. rw alien itself)
    taken (Carrier other true) bytes on = split (managed.spec.index.number == other) (λ mine. rw mine itself) (λ alien. rw alien itself)
    taken (Carrier other false) bytes on = split (managed.spec.index.number == other) (λ mine. absurd (gone (on mine))) (λ alien. rw alien itself)
      where
        gone : false ≡ true → ⊥
        gone h = cc
    taken (Duplicate other addr) bytes on =
        split (managed.spec.index.number == other)
        (λ mine. rw mine
        (record { settings = settings; last = last; kept = kept; fresh = fresh; dhcp6 = (contested_turned addr at salt dhcp6).client; is = refl }))
        (λ alien. rw alien itself)
    taken (Release other) bytes on = rw on itself
    taken (Rebind other) bytes on =
        split (managed.spec.index.number == other) (λ mine. rw mine rebinds) (λ alien. rw alien itself)
    taken Stop bytes on = absurd on
    taken Quiet bytes on = itself
    taken End bytes on = itself

pub turned : (managed : Managed) → Chooses managed → (own : List Mac) (turn : Turn) (ll : LinkLocal) (iface : Iface) → Stands managed ll iface
    → is_in turn.unsent managed.spec.index.number ≡ false → GoesOn managed.spec.index.number turn.event
    → Stands managed (machine_after own managed.spec.index.number turn ll) (iface_turned own turn iface).iface
turned managed choosing own turn ll iface s sent on =
    subst (λ i. Stands managed (machine_after own managed.spec.index.number turn ll) (iface_turned own turn i).iface) (sym s.is)
    (rw sent (taken managed choosing own turn.at turn.salt s.settings s.last s.kept s.fresh (ll_tick ll turn.at turn.salt).ll
    (tick_turned turn.at turn.salt s.dhcp6).client turn.event turn.bytes on))

-- the interface at its opening
pub opened_stands : (b : Beginning) (up at salt : ℕ) → ChoosesAtOnce up b
    → Stands b.managed (record { iface = b.managed.spec.index; state = local.Armed at ForNothing Choose }) (begun up at salt b)
opened_stands b up at salt c =
    subst (λ has. Stands b.managed (record { iface = b.managed.spec.index; state = local.Armed at ForNothing Choose })
    (then_step (opening_told has (resting b)) (carrier_at_opening has at salt)).iface) (sym c.carrier)
    (begins_stand b.managed (record { no_dhcp4 = c.no_dhcp4; chooses = c.chooses }) [] at salt (settings_of b.duid b.managed) None b.kept4 []
    (off b.managed.spec.index) (clients6.client_made (settings6_of b.duid b.managed) b.kept6))

-- the interface asks for no later moment than its link-local machine
sooner : (first second : Option ℕ) (last at : ℕ) → NotAfter (earlier first second) last at → NotAfter first last at
sooner None second last at h = tt
sooner (Some a) None last at h = h
sooner (Some a) (Some b) last at h = nearer a b last at h
  where
    nearer : (a b last at : ℕ) → at ≤ max (min a b) last → at ≤ max a last
    nearer a b last at h = grind arith

pub asked : (managed : Managed) (ll : LinkLocal) (iface : Iface) (last at : ℕ) → Stands managed ll iface
    → NotAfter (iface_due iface) last at → NotAfter (due_of ll.state) last at
asked managed ll iface last at s h =
    sooner (due_of ll.state) (lease6.due_of s.dhcp6) last at (subst (λ i. NotAfter (iface_due i) last at) s.is h)
