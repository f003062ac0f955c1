-- What a turn of an interface is to its DHCPv6 client: a turn of its own.
use Rattle.std.proofs.Common.{◌≡◌, ℕ, ◌==◌, true, false, ◌||◌, List, [], Option, Some, None, refl, sym, subst, ◌∙◌, bytes_eq, arith}
use Rattle.std.proofs.lemmas.Bool.Decides.{nat_tests}
use Rattle.std.proofs.lemmas.Bool.{and_right}
use Rattle.std.specs.Option.{option_and_then}
use Rattle.net_types.proofs.CaseLaws.{gated, split}
use Rattle.net_types.specs.declared.address.Mac.{Mac}
use Rattle.frame_link.specs.declared.arp.ArpView.{ArpView}
use Rattle.frame_link.specs.Frames as ethernet
use Rattle.frame_link.specs.Packets.{arp_kind}
use Rattle.udp_frame.specs.declared.udp4.TheConstants.{KIND_IPV4}
use Rattle.udp_frame.specs.declared.udp6.TheConstants.{KIND_IPV6}
use Rattle.v4_frames.specs.Heard as dhcp4
use Rattle.v4_client.specs.Clients as four
use Rattle.v6_frames.specs.Heard.{HeardMessage6, heard6_in, message_for}
use Rattle.v6_client.specs.Clients.{ClientContent, client_made}
use Rattle.v6_client.specs.Runs.{carrier_turned, tick_turned}
use Rattle.v6_client.specs.declared.states.Carrier6.TheVariants.{Up}
use Rattle.ipv4ll.specs.declared.link_local.LinkLocal.{LinkLocal}
use Rattle.world.specs.declared.wakes.Event.{Event}
use Rattle.world.specs.declared.wakes.Event.TheVariants as event
use Rattle.settings.specs.declared.interfaces.Managed.{Managed}
use Rattle.script_model.specs.IfaceSets.{is_in}
use Rattle.client_model.specs.declared.interfaces.Iface.{Iface}
use Rattle.client_model.specs.ClientSettings.{runs_dhcp4}
use Rattle.client_model.specs.ClientSettings6.{runs_dhcp6, settings6_of}
use Rattle.client_model.specs.Dhcp4Steps.{arms, begin_dhcp4, begin_local, holds_lease, rebind_dhcp4}
use Rattle.client_model.specs.Dhcp6Steps.{begin_dhcp6, rebind_dhcp6}
use Rattle.client_model.specs.IfaceSteps.{IfaceStep, then_step}
use Rattle.client_model.specs.IfaceTurns.{Turn, arp_heard, arp_of_frame, hears_either, iface_turned, input_step}
use Rattle.client_model.specs.Interfaces.{begins, carrier_at_opening, machines_rebind, opening_told, restarted, resting, ticked, unsent_in}
use Rattle.client_model.specs.KeptLeases.{Beginning}
use Rattle.lease6_progress.specs.ClientTurns.{Input6, Quiet, Hears, IsUsed, Rebinds, Drops, Releases, takes, takes_in}
use Rattle.lease6_progress.specs.ClientTurns as client_turns
use Rattle.lease6_progress.specs.GoingWell.{CarrierStays}
use Rattle.lease6_progress.specs.InterfaceTurns.{RunsDhcp6, begun, heard_as, input_for, is_own, start_for, turn_for}

-- ---- frames of other kinds

kind_of_arp : (kind : ℕ) → (kind == arp_kind) ≡ true → (kind == KIND_IPV6) ≡ false
kind_of_arp kind h = grind (arith, nat_tests)

kind_of_ipv4 : (kind : ℕ) → (kind == KIND_IPV4) ≡ true → (kind == KIND_IPV6) ≡ false
kind_of_ipv4 kind h = grind (arith, nat_tests)

-- a frame of another kind than IPv6 has no message of DHCPv6
other_kind : (mac : Mac) (frame : ethernet.Frame) → (frame.kind == KIND_IPV6) ≡ false → message_for mac frame ≡ None
other_kind mac frame other = rw (and_right (bytes_eq frame.to.bytes mac.bytes) (frame.kind == KIND_IPV6) other) refl

packet_alone : (mac : Mac) (arp : ArpView) (frame : Option ethernet.Frame) → option_and_then arp_of_frame frame ≡ Some arp
    → option_and_then (message_for mac) frame ≡ None
packet_alone mac arp None h = refl
packet_alone mac arp (Some frame) h =
    split (frame.kind == arp_kind) (λ is. other_kind mac frame (kind_of_arp frame.kind is)) (λ other. absurd (none (rw other at h)))
  where
    none : None ≡ Some arp → ⊥
    none e = cc

message4_alone : (mac : Mac) (heard : dhcp4.HeardMessage) (frame : Option ethernet.Frame)
    → option_and_then (dhcp4.message_for mac) frame ≡ Some heard → option_and_then (message_for mac) frame ≡ None
message4_alone mac heard None h = refl
message4_alone mac heard (Some frame) h =
    split (frame.kind == KIND_IPV4) (λ is. other_kind mac frame (kind_of_ipv4 frame.kind is)) (λ other. absurd (none (sym (no_four other) ∙ h)))
  where
    none : None ≡ Some heard → ⊥
    none e = cc

    no_four : (frame.kind == KIND_IPV4) ≡ false → dhcp4.message_for mac frame ≡ None
    no_four other = rw (and_right (dhcp4.same_mac frame.to mac || dhcp4.same_mac frame.to ethernet.broadcast) (frame.kind == KIND_IPV4) other) refl

pub arp_no_six : (mac : Mac) (bytes : List ℕ) (arp : ArpView) → arp_heard bytes ≡ Some arp → heard6_in mac bytes ≡ None
unfolding heard6_in
arp_no_six mac bytes arp h = packet_alone mac arp (ethernet.frame_in bytes) h

pub four_no_six : (mac : Mac) (bytes : List ℕ) (heard : dhcp4.HeardMessage) → dhcp4.heard4_in mac bytes ≡ Some heard → heard6_in mac bytes ≡ None
unfolding heard6_in dhcp4.heard4_in
four_no_six mac bytes heard h = message4_alone mac heard (ethernet.frame_in bytes) h

-- ---- an interface with this client

abbrev pub shaped : Managed → four.ClientContent → LinkLocal → ClientContent → Iface
shaped managed c4 local c = record { managed = managed; up = true; stopped = false; dhcp4 = c4; local = local; dhcp6 = c }

pub record Stands (managed : Managed) (c : ClientContent) (iface : Iface) : Type 0 where
  pub c4 : four.ClientContent
  pub local : LinkLocal
  pub is : iface ≡ shaped managed c4 local c

module _ (managed : Managed) (runs : runs_dhcp6 managed.conf ≡ true) (own : List Mac) (at salt : ℕ) where
  module _ (c4 : four.ClientContent) (local : LinkLocal) (c : ClientContent) where
    abbrev here : Iface
    here = shaped managed c4 local c

    itself : Stands managed c here
    itself = record { c4 = c4; local = local; is = refl }

    pub unsent_stands : (set : ℕ) → Stands managed c (unsent_in set at salt here)
    unsent_stands set =
        gated (Stands managed c) (is_in set managed.spec.index.number) (restarted at salt here) here
        (record { c4 = _; local = _; is = refl }) itself

    pub ticked_stands : Stands managed (tick_turned at salt c).client (ticked at salt here).iface
    ticked_stands = record { c4 = _; local = _; is = refl }

    either : (arp : Option ArpView) (message4 : Option dhcp4.HeardMessage) (message6 : Option HeardMessage6)
        → ((packet : ArpView) → arp ≡ Some packet → message6 ≡ None)
        → ((heard : dhcp4.HeardMessage) → message4 ≡ Some heard → message6 ≡ None)
        → Stands managed (takes at salt (heard_as message6) c).client (hears_either own at salt arp message4 message6 here).iface
    either (Some packet) message4 message6 one two =
        subst (λ (m : Option HeardMessage6). Stands managed (takes at salt (heard_as m) c).client
        (hears_either own at salt (Some packet) message4 message6 here).iface) (sym (one packet refl)) (record { c4 = _; local = _; is = refl })
    either None (Some heard) message6 one two =
        subst (λ (m : Option HeardMessage6). Stands managed (takes at salt (heard_as m) c).client
        (hears_either own at salt None (Some heard) message6 here).iface) (sym (two heard refl)) (record { c4 = _; local = _; is = refl })
    either None None (Some heard) one two = record { c4 = _; local = _; is = refl }
    either None None None one two = itself

    -- what DHCPv4 and link-local make of a command to rebind, or of the carrier
    pub four_rebinds : Stands managed c (rebind_dhcp4 at salt here).iface
    four_rebinds =
        gated (λ (step : IfaceStep). Stands managed c step.iface) (runs_dhcp4 managed.conf) _ _ (record { c4 = _; local = _; is = refl }) itself

    pub arms_stand : Stands managed c (arms at here).iface
    arms_stand = gated (λ (step : IfaceStep). Stands managed c step.iface) (holds_lease here) _ _ itself (record { c4 = _; local = _; is = refl })

    six_rebinds : Stands managed (takes at salt Rebinds c).client (rebind_dhcp6 at salt here).iface
    six_rebinds = rw runs (record { c4 = _; local = _; is = refl })

    four_begins : Stands managed c (begin_dhcp4 at salt here).iface
    four_begins =
        gated (λ (step : IfaceStep). Stands managed c step.iface) (runs_dhcp4 managed.conf) _ _ (record { c4 = _; local = _; is = refl }) itself

    local_begins : Stands managed c (begin_local at here).iface
    local_begins = record { c4 = _; local = _; is = refl }

    six_begins : Stands managed (carrier_turned Up at salt c).client (begin_dhcp6 at salt here).iface
    six_begins = rw runs (record { c4 = _; local = _; is = refl })

  rebinds_stand : (c : ClientContent) (iface : Iface) → Stands managed c iface
      → Stands managed (takes at salt Rebinds c).client (machines_rebind at salt iface).iface
  rebinds_stand c iface s =
      let one : Stands managed c (rebind_dhcp4 at salt iface).iface =
      subst (λ (i : Iface). Stands managed c (rebind_dhcp4 at salt i).iface) (sym s.is) (four_rebinds s.c4 s.local c) in
      let two : Stands managed c (arms at (rebind_dhcp4 at salt iface).iface).iface =
      subst (λ (i : Iface). Stands managed c (arms at i).iface) (sym one.is) (arms_stand one.c4 one.local c) in
      subst (λ (i : Iface). Stands managed (takes at salt Rebinds c).client (rebind_dhcp6 at salt i).iface) (sym two.is)
      (six_rebinds two.c4 two.local c)

  pub begins_stand : (c : ClientContent) (iface : Iface) → Stands managed c iface
      → Stands managed (carrier_turned Up at salt c).client (begins at salt iface).iface
  begins_stand c iface s =
      let one : Stands managed c (begin_dhcp4 at salt iface).iface =
      subst (λ (i : Iface). Stands managed c (begin_dhcp4 at salt i).iface) (sym s.is) (four_begins s.c4 s.local c) in
      let two : Stands managed c (begin_local at (begin_dhcp4 at salt iface).iface).iface =
      subst (λ (i : Iface). Stands managed c (begin_local at i).iface) (sym one.is) (local_begins one.c4 one.local c) in
      subst (λ (i : Iface). Stands managed (carrier_turned Up at salt c).client (begin_dhcp6 at salt i).iface) (sym two.is)
      (six_begins two.c4 two.local c)

  -- ---- the input of a turn

  module _ (c4 : four.ClientContent) (local : LinkLocal) (c : ClientContent) where
    abbrev it : Iface
    it = shaped managed c4 local c

    taken : (e : Event) (bytes : List ℕ) → CarrierStays (input_for managed e bytes)
        → Stands managed (takes at salt (input_for managed e bytes) c).client (input_step own at salt e bytes it).iface
    taken (event.Frame index len) bytes stays =
        split (is_own managed index)
        (λ mine. rw mine (either c4 local c (arp_heard bytes) (dhcp4.heard4_in managed.spec.mac bytes) (heard6_in managed.spec.mac bytes)
        (arp_no_six managed.spec.mac bytes) (four_no_six managed.spec.mac bytes)))
        (λ alien. rw alien (itself c4 local c))
    taken (event.Carrier index true) bytes stays =
        split (is_own managed index) (λ mine. rw mine (itself c4 local c)) (λ alien. rw alien (itself c4 local c))
    taken (event.Carrier index false) bytes stays =
        split (is_own managed index) (λ mine. absurd (rw mine at stays)) (λ alien. rw alien (itself c4 local c))
    taken (event.Duplicate index address) bytes stays =
        split (is_own managed index) (λ mine. rw mine (record { c4 = _; local = _; is = refl })) (λ alien. rw alien (itself c4 local c))
    taken (event.Release index) bytes stays =
        split (is_own managed index) (λ mine. absurd (rw mine at stays)) (λ alien. rw alien (itself c4 local c))
    taken (event.Rebind index) bytes stays =
        split (is_own managed index) (λ mine. rw mine (rebinds_stand c it (itself c4 local c))) (λ alien. rw alien (itself c4 local c))
    taken event.Stop bytes stays = absurd stays
    taken event.Quiet bytes stays = itself c4 local c
    taken event.End bytes stays = itself c4 local c

pub turned_stands : (managed : Managed) → runs_dhcp6 managed.conf ≡ true → (own : List Mac) (turn : Turn) (c : ClientContent) (iface : Iface)
    → Stands managed c iface → CarrierStays (input_for managed turn.event turn.bytes)
    → Stands managed (takes_in (turn_for managed turn) c).client (iface_turned own turn iface).iface
turned_stands managed runs own turn c iface s stays =
    let sent : Stands managed c (unsent_in turn.unsent turn.at turn.salt iface) =
    subst (λ (i : Iface). Stands managed c (unsent_in turn.unsent turn.at turn.salt i)) (sym s.is)
    (unsent_stands managed runs own turn.at turn.salt s.c4 s.local c turn.unsent) in
    let tick : Stands managed (tick_turned turn.at turn.salt c).client (ticked turn.at turn.salt (unsent_in turn.unsent turn.at turn.salt iface)).iface =
    subst (λ (i : Iface). Stands managed (tick_turned turn.at turn.salt c).client (ticked turn.at turn.salt i).iface) (sym sent.is)
    (ticked_stands managed runs own turn.at turn.salt sent.c4 sent.local c) in
    subst (λ (i : Iface). Stands managed (takes_in (turn_for managed turn) c).client (input_step own turn.at turn.salt turn.event turn.bytes i).iface)
    (sym tick.is)
    (taken managed runs own turn.at turn.salt tick.c4 tick.local (tick_turned turn.at turn.salt c).client turn.event turn.bytes stays)

-- the interface at its opening
pub opened_stands : (b : Beginning) (up at salt : ℕ) → RunsDhcp6 up b
    → Stands b.managed (client_turns.begun (start_for at salt b)).client (begun up at salt b)
opened_stands b up at salt r =
    subst (λ has. Stands b.managed (client_turns.begun (start_for at salt b)).client
    (then_step (opening_told has (resting b)) (carrier_at_opening has at salt)).iface) (sym r.carrier)
    (begins_stand b.managed r.runs [] at salt (client_made (settings6_of b.duid b.managed) b.kept6) (record (resting b) { up = true })
    (record { c4 = _; local = _; is = refl }))
