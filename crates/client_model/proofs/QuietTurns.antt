-- A turn of which nothing is new leaves an interface's rows as they are, what it tells the resolver, and the DHCPv6 lease that it keeps.
use Rattle.std.proofs.Common.{ℕ, ◌≡◌, ◌+◌, ◌-◌, ◌*◌, Bool, true, false, not, ◌&&◌, ◌||◌, List, [], ◌∷◌, ◌++◌, map, Option, Some, None, nat_le, nat_lt, nat_eq, refl, ap, ◌∙◌, if◌then◌else◌}
use Rattle.std.specs.Prelude.{is_some}
use Rattle.net_types.proofs.CaseLaws.{split, gated}
use Rattle.net_types.specs.declared.address.Ip4.{Ip4}
use Rattle.net_types.specs.declared.address.Mac.{Mac}
use Rattle.net_types.specs.declared.interface.IfIndex.{IfIndex}
use Rattle.frame_link.specs.declared.arp.ArpView.{ArpView}
use Rattle.v4_client.specs.ArpAcd.declared.detection.Phase.{Phase}
use Rattle.v4_client.specs.ArpAcd.declared.detection.Phase.TheVariants.{Probing, Announcing, Held, Over}
use Rattle.v4_client.specs.ArpAcd.Conflict.{is_used, is_contested}
use Rattle.v4_client.specs.ArpAcd.Table as detection
use Rattle.v4_client.proofs.ArpAcd.Standing.{mk}
use Rattle.ipv4ll.specs.declared.link_local.LinkLocal.{LinkLocal}
use Rattle.ipv4ll.specs.declared.link_local.LlNews.{LlNews}
use Rattle.ipv4ll.specs.declared.link_local.LlNews.TheVariants.{Nothing, Timeout, Gained, Lost}
use Rattle.ipv4ll.specs.declared.link_local.State.{State}
use Rattle.ipv4ll.specs.declared.link_local.State.TheVariants.{Off, Armed, Chosen, Waiting}
use Rattle.ipv4ll.specs.declared.link_local.Waits.{Waits}
use Rattle.ipv4ll.specs.declared.link_local.Waits.TheVariants.{ForLease, ForNothing}
use Rattle.ipv4ll.specs.declared.link_local.Fallback.{Fallback}
use Rattle.ipv4ll.specs.declared.link_local.Fallback.TheVariants.{Choose}
use Rattle.ipv4ll.specs.Table.{chooses, LlStep, moves, tells, choosing, after_conflict, one_more, tick_row, ll_tick, ll_hears, ll_restarts, ll_armed, held_in}
use Rattle.net_types.specs.declared.address.Ip6.{Ip6}
use Rattle.v4_client.specs.V4Frames.Heard.{HeardMessage, heard4_in}
use Rattle.v6_frames.specs.Heard.{HeardMessage6, heard6_in}
use Rattle.v6_client.specs.declared.states.News6.{News6}
use Rattle.v6_client.specs.declared.states.News6.TheVariants as news6
use Rattle.v6_client.specs.Clients as dhcp6
use Rattle.v6_client.specs.QuietLaws.{KeepsLeases, RunTells}
use Rattle.v6_client.specs.Runs.{Turned6, contested_turned, hears_turned, rebind_turned, tick_turned}
use Rattle.v6_client.proofs.QuietSteps.{all_runs_tell}
use Rattle.v4_client.specs.declared.moments.TheConstants.{SECOND}
use Rattle.v4_client.specs.declared.states.News4.{News4}
use Rattle.v4_client.specs.declared.states.News4.TheVariants as news4
use Rattle.v4_client.specs.declared.states.Step4.{Step4}
use Rattle.v4_client.specs.declared.states.Tell.TheVariants.{Server}
use Rattle.v4_client.specs.Calls.{arp_step, brought, heard_step, rebind_step}
use Rattle.v4_client.specs.Clients.{ClientContent, held_of}
use Rattle.v4_client.specs.History.{tick_step}
use Rattle.v4_client.specs.Moves.{moved}
use Rattle.world.specs.declared.wakes.Event.{Event}
use Rattle.world.specs.declared.wakes.Event.TheVariants.{Frame, Carrier, Duplicate, Release, Rebind, Stop, Quiet, End}
use Rattle.settings.specs.declared.interfaces.IfConf.{IfConf}
use Rattle.script_model.specs.IfaceSets.{is_in}
use Rattle.client_model.specs.declared.interfaces.Iface.{Iface}
use Rattle.client_model.specs.declared.steps.News.{News}
use Rattle.client_model.specs.declared.steps.News.TheVariants.{CarrierCame, CarrierWent, Released, Stopped}
use Rattle.client_model.specs.IfaceSteps.{Report, IfaceStep, index_of, silent, then_step, with_news}
use Rattle.client_model.specs.ClientSettings.{runs_dhcp4}
use Rattle.client_model.specs.ClientSettings6.{runs_dhcp6}
use Rattle.client_model.specs.LocalSteps.{chooses_local, fallback_of, armed, armed_for_lease, local_news, local_step, tick_local, local_hears}
use Rattle.client_model.specs.Dhcp4Steps.{arms, arrival_at, dhcp4_packet, dhcp4_step, followed, holds_lease, lease_news, rebind_dhcp4, tick_dhcp4}
use Rattle.client_model.specs.Dhcp6Steps.{contested, dhcp6_step, lease6_news, rebind_dhcp6, tick_dhcp6}
use Rattle.client_model.specs.Interfaces.{begins, machines_drop, machines_rebind, machines_stop, restarted, unsent_in, ticked, carrier_comes, carrier_goes, carried, released, rebound, tells as only_tells, told_at_stop}
use Rattle.client_model.specs.IfaceTurns.{Turn, arp_heard, hears, hears_either, hears_message, hears_message6, hears_packet, taken, input_step, iface_turned}
use Rattle.client_model.specs.ResolverParts.{iface_parts, part4_with, parts4, parts6}
use Rattle.client_model.specs.WantedRows.{outlet_of, static_rows, static6_rows, lease_rows, local_rows, lease6_rows, iface_rows}
use Rattle.client_model.proofs.QuietLeases.{Quietly, arp_quiet, heard_quiet, rebind_quiet, tick_quiet, unsent_quiet}

-- ---- the link-local machine

abbrev at_state : IfIndex → State → LinkLocal
at_state iface state = record { iface = iface; state = state }

abbrev HeldStays : State → LlStep → Type 0
HeldStays old step = step.out.news ≡ Nothing → held_in step.ll.state ≡ held_in old

after_none : (iface : IfIndex) (conflicts at salt : ℕ) → held_in (after_conflict iface conflicts at salt) ≡ None
after_none iface conflicts at salt =
    gated (λ (s : State). held_in s ≡ None) (nat_lt conflicts 10) (choosing iface conflicts at salt) (Waiting conflicts _) refl refl

tick_chosen : (iface i : IfIndex) (conflicts : ℕ) (addr : Ip4) (phase : Phase) (at salt : ℕ)
    → HeldStays (Chosen conflicts (mk i addr phase)) (ll_tick (at_state iface (Chosen conflicts (mk i addr phase))) at salt)
tick_chosen iface i conflicts addr (Probing n due) at salt =
    split (nat_le due at)
    (λ come. rw come (split (nat_lt n 3) (λ few. rw few (λ none. refl)) (λ all. rw all (λ none. cc))))
    (λ early. rw early (λ none. refl))
tick_chosen iface i conflicts addr (Announcing due last) at salt =
    split (nat_le due at) (λ come. rw come (λ none. refl)) (λ early. rw early (λ none. refl))
tick_chosen iface i conflicts addr (Held last) at salt = λ none. refl
tick_chosen iface i conflicts addr Over at salt = λ none. refl

tick_stays : (iface : IfIndex) (state : State) (at salt : ℕ) → HeldStays state (ll_tick (at_state iface state) at salt)
tick_stays iface Off at salt = λ none. refl
tick_stays iface (Armed due waits fallback) at salt =
    gated (HeldStays (Armed due waits fallback)) (nat_le due at) (tick_row iface (Armed due waits fallback) at salt)
    (moves iface (Armed due waits fallback) (tells Nothing))
    (λ none. gated (λ (s : State). held_in s ≡ None) (chooses fallback) (choosing iface 0 at salt) Off refl refl) (λ none. refl)
tick_stays iface (Chosen conflicts acd) at salt = tick_chosen iface acd.iface conflicts acd.addr acd.phase at salt
tick_stays iface (Waiting conflicts due) at salt =
    gated (HeldStays (Waiting conflicts due)) (nat_le due at) (tick_row iface (Waiting conflicts due) at salt)
    (moves iface (Waiting conflicts due) (tells Nothing)) (λ none. refl) (λ none. refl)

module _ (own : List Mac) (at salt : ℕ) (arp : ArpView) where
  hears_chosen : (iface i : IfIndex) (conflicts : ℕ) (addr : Ip4) (phase : Phase)
      → HeldStays (Chosen conflicts (mk i addr phase)) (ll_hears own (at_state iface (Chosen conflicts (mk i addr phase))) arp at salt)
  hears_chosen iface i conflicts addr (Probing n due) =
      split (is_contested own addr arp) (λ taken. rw taken (λ none. after_none iface (one_more conflicts) at salt)) (λ calm. rw calm (λ none. refl))
  hears_chosen iface i conflicts addr (Announcing due None) =
      split (is_used own addr arp) (λ in_use. rw in_use (λ none. refl)) (λ other. rw other (λ none. refl))
  hears_chosen iface i conflicts addr (Announcing due (Some last)) =
      split (is_used own addr arp)
      (λ in_use. rw in_use (split (nat_le 10000 (at - last)) (λ late. rw late (λ none. refl)) (λ soon. rw soon (λ none. cc))))
      (λ other. rw other (λ none. refl))
  hears_chosen iface i conflicts addr (Held None) = split (is_used own addr arp) (λ in_use. rw in_use (λ none. refl)) (λ other. rw other (λ none. refl))
  hears_chosen iface i conflicts addr (Held (Some last)) =
      split (is_used own addr arp)
      (λ in_use. rw in_use (split (nat_le 10000 (at - last)) (λ late. rw late (λ none. refl)) (λ soon. rw soon (λ none. cc))))
      (λ other. rw other (λ none. refl))
  hears_chosen iface i conflicts addr Over = λ none. refl

  hears_stays : (iface : IfIndex) (state : State) → HeldStays state (ll_hears own (at_state iface state) arp at salt)
  hears_stays iface Off = λ none. refl
  hears_stays iface (Armed due waits fallback) = λ none. refl
  hears_stays iface (Chosen conflicts acd) = hears_chosen iface acd.iface conflicts acd.addr acd.phase
  hears_stays iface (Waiting conflicts due) = λ none. refl

phase_restarts : (i : IfIndex) (addr : Ip4) (phase : Phase) (at salt : ℕ)
    → detection.held_in addr (detection.acd_restarts (mk i addr phase) at salt).phase ≡ detection.held_in addr phase
phase_restarts i addr (Probing n due) at salt =
    gated (λ (p : Phase). detection.held_in addr p ≡ None) (nat_lt 0 n) (detection.probing_anew i at salt) (Probing n due) refl refl
phase_restarts i addr (Announcing due last) at salt = refl
phase_restarts i addr (Held last) at salt = refl
phase_restarts i addr Over at salt = refl

restart_stays : (iface : IfIndex) (state : State) (at salt : ℕ) → held_in (ll_restarts (at_state iface state) at salt).state ≡ held_in state
restart_stays iface Off at salt = refl
restart_stays iface (Armed due waits fallback) at salt = refl
restart_stays iface (Chosen conflicts acd) at salt = phase_restarts acd.iface acd.addr acd.phase at salt
restart_stays iface (Waiting conflicts due) at salt = refl

arm_stays : (iface : IfIndex) (state : State) (at : ℕ) (waits : Waits) (fallback : Fallback)
    → held_in (ll_armed (at_state iface state) at waits fallback).state ≡ held_in state
arm_stays iface Off at waits fallback = refl
arm_stays iface (Armed due before after) at waits fallback = refl
arm_stays iface (Chosen conflicts acd) at waits fallback = refl
arm_stays iface (Waiting conflicts due) at waits fallback = refl

armed_stays : (conf : IfConf) (at : ℕ) (iface : IfIndex) (state : State) → held_in (armed conf at (at_state iface state)).state ≡ held_in state
armed_stays conf at iface state =
    gated (λ (local : LinkLocal). held_in local.state ≡ held_in state) (runs_dhcp4 conf) (armed_for_lease conf at (at_state iface state)) _
    (gated (λ (local : LinkLocal). held_in local.state ≡ held_in state) (nat_eq conf.times.timeout 0) (at_state iface state)
    (ll_armed (at_state iface state) (at + SECOND * conf.times.timeout) ForLease (fallback_of (chooses_local conf))) refl
    (arm_stays iface state (at + SECOND * conf.times.timeout) ForLease (fallback_of (chooses_local conf))))
    (gated (λ (local : LinkLocal). held_in local.state ≡ held_in state) (chooses_local conf) (ll_armed (at_state iface state) at ForNothing Choose)
    (at_state iface state)
    (arm_stays iface state at ForNothing Choose) refl)

-- ---- the interface

-- what its rows and its parts of the resolver come from is the same, and so is the DHCPv6 lease that it keeps
record SameSources (old new : Iface) : Type 0 where
  managed : new.managed ≡ old.managed
  up : new.up ≡ old.up
  stopped : new.stopped ≡ old.stopped
  lease : held_of new.dhcp4 ≡ held_of old.dhcp4
  held : held_in new.local.state ≡ held_in old.local.state
  kept6 : new.dhcp6.kept ≡ old.dhcp6.kept
  lease6 : dhcp6.held_of new.dhcp6 ≡ dhcp6.held_of old.dhcp6

itself : (iface : Iface) → SameSources iface iface
itself iface = record { managed = refl; up = refl; stopped = refl; lease = refl; held = refl; kept6 = refl; lease6 = refl }

in_turn : (a b c : Iface) → SameSources a b → SameSources b c → SameSources a c
in_turn a b c first next = record {
  managed = next.managed ∙ first.managed;
  up = next.up ∙ first.up;
  stopped = next.stopped ∙ first.stopped;
  lease = next.lease ∙ first.lease;
  held = next.held ∙ first.held;
  kept6 = next.kept6 ∙ first.kept6;
  lease6 = next.lease6 ∙ first.lease6;
}

abbrev IsQuiet : Iface → IfaceStep → Type 0
IsQuiet old step = step.reports ≡ [] → SameSources old step.iface

pub none_first : {X : Type 0} (xs ys : List X) → xs ++ ys ≡ [] → xs ≡ []
none_first [] ys e = refl
none_first (x ∷ xs) ys e = cc

pub none_next : {X : Type 0} (xs ys : List X) → xs ++ ys ≡ [] → ys ≡ []
none_next [] ys e = e
none_next (x ∷ xs) ys e = cc

both_quiet : (iface : Iface) (first : IfaceStep) (next : Iface → IfaceStep) → IsQuiet iface first → IsQuiet first.iface (next first.iface)
    → IsQuiet iface (then_step first next)
both_quiet iface first next one two e =
    in_turn iface first.iface (next first.iface).iface (one (none_first first.reports (next first.iface).reports e))
    (two (none_next first.reports (next first.iface).reports e))

silent_quiet : (iface : Iface) → IsQuiet iface (silent iface)
silent_quiet iface e = itself iface

news_loud : (old before : Iface) (news : News) (step : IfaceStep) → IsQuiet old (with_news news before step)
news_loud old before news step e = cc

-- what is told last
told_last : (old : Iface) (news : News) (first : IfaceStep) → IsQuiet old (then_step first (only_tells news))
told_last old news first e = news_loud old first.iface news (silent first.iface) (none_next first.reports (only_tells news first.iface).reports e)

-- ---- DHCPv4

pub no_lease_news : (f : News → Report) (said : News4) → map f (lease_news said) ≡ [] → said ≡ news4.Nothing
no_lease_news f news4.Nothing e = refl
no_lease_news f news4.Bound e = cc
no_lease_news f news4.Reboot e = cc
no_lease_news f news4.Renew e = cc
no_lease_news f news4.Rebind e = cc
no_lease_news f news4.Nak e = cc
no_lease_news f news4.Expire e = cc
no_lease_news f news4.Stop e = cc

local_followed : (conf : IfConf) (at : ℕ) (held : Bool) (said : News4) (local : LinkLocal) → said ≡ news4.Nothing → followed conf at held said local ≡ local
local_followed conf at held said local e = ap (λ (n : News4). followed conf at held n local) e

-- of a client that may have taken values before
dhcp4_quiet_from : (at : ℕ) (iface : Iface) (c : ClientContent) (step : Step4) → (step.news ≡ news4.Nothing → held_of (moved step c) ≡ held_of iface.dhcp4)
    → IsQuiet iface (dhcp4_step at (record iface { dhcp4 = c }) step)
dhcp4_quiet_from at iface c step stays e =
    let none : step.news ≡ news4.Nothing = no_lease_news _ step.news e in
    record {
      managed = refl;
      up = refl;
      stopped = refl;
      lease = stays none;
      held = ap (λ (local : LinkLocal). held_in local.state) (local_followed iface.managed.conf at (is_some (held_of c)) step.news iface.local none);
      kept6 = refl;
      lease6 = refl;
    }

dhcp4_quiet : (at : ℕ) (iface : Iface) (step : Step4) → Quietly iface.dhcp4 step → IsQuiet iface (dhcp4_step at iface step)
dhcp4_quiet at iface step stays = dhcp4_quiet_from at iface iface.dhcp4 step stays

rebind_quietly : (at salt : ℕ) (iface : Iface) → IsQuiet iface (rebind_dhcp4 at salt iface)
rebind_quietly at salt iface =
    gated (IsQuiet iface) (runs_dhcp4 iface.managed.conf) (dhcp4_step at iface (rebind_step at salt iface.dhcp4)) (silent iface)
    (dhcp4_quiet at iface (rebind_step at salt iface.dhcp4) (rebind_quiet at salt iface.dhcp4)) (silent_quiet iface)

-- ---- link-local

no_news : (f : News → Report) (news : LlNews) → map f (local_news news) ≡ [] → news ≡ Nothing
no_news f Nothing e = refl
no_news f Timeout e = cc
no_news f Gained e = cc
no_news f (Lost addr) e = cc

local_quiet : (iface : Iface) (step : LlStep) → HeldStays iface.local.state step → IsQuiet iface (local_step iface step)
local_quiet iface step stays e = record {
  managed = refl;
  up = refl;
  stopped = refl;
  lease = refl;
  held = stays (no_news _ step.out.news e);
  kept6 = refl;
  lease6 = refl;
}

arms_quiet : (at : ℕ) (iface : Iface) → IsQuiet iface (arms at iface)
arms_quiet at iface =
    gated (IsQuiet iface) (holds_lease iface) (silent iface) (silent (record iface { local = armed iface.managed.conf at iface.local })) (silent_quiet iface)
    (λ e. record {
      managed = refl;
      up = refl;
      stopped = refl;
      lease = refl;
      held = armed_stays iface.managed.conf at iface.local.iface iface.local.state;
      kept6 = refl;
      lease6 = refl;
    })

-- ---- DHCPv6

no_lease6_news : (f : News → Report) (said : News6) → map f (lease6_news said) ≡ [] → said ≡ news6.Nothing
no_lease6_news f news6.Nothing e = refl
no_lease6_news f news6.Bound e = cc
no_lease6_news f news6.Reboot e = cc
no_lease6_news f news6.Renew e = cc
no_lease6_news f news6.Rebind e = cc
no_lease6_news f news6.Changed e = cc
no_lease6_news f news6.Expire e = cc
no_lease6_news f news6.Stop e = cc

dhcp6_quiet : (iface : Iface) (turned : Turned6) → RunTells iface.dhcp6 turned → IsQuiet iface (dhcp6_step iface turned)
dhcp6_quiet iface turned tells e =
    let stays : KeepsLeases iface.dhcp6 turned.client = tells (no_lease6_news _ turned.out.news e) in
    record { managed = refl; up = refl; stopped = refl; lease = refl; held = refl; kept6 = stays.0; lease6 = stays.1 }

rebind6_quietly : (at salt : ℕ) (iface : Iface) → IsQuiet iface (rebind_dhcp6 at salt iface)
rebind6_quietly at salt iface =
    gated (IsQuiet iface) (runs_dhcp6 iface.managed.conf) (dhcp6_step iface (rebind_turned at salt iface.dhcp6)) (silent iface)
    (dhcp6_quiet iface (rebind_turned at salt iface.dhcp6) (all_runs_tell iface.dhcp6 at salt).rebind) (silent_quiet iface)

tick6_quietly : (at salt : ℕ) (iface : Iface) → IsQuiet iface (tick_dhcp6 at salt iface)
tick6_quietly at salt iface = dhcp6_quiet iface (tick_turned at salt iface.dhcp6) (all_runs_tell iface.dhcp6 at salt).tick

contested_quietly : (at salt : ℕ) (address : Ip6) (iface : Iface) → IsQuiet iface (contested at salt address iface)
contested_quietly at salt address iface =
    dhcp6_quiet iface (contested_turned address at salt iface.dhcp6) ((all_runs_tell iface.dhcp6 at salt).duplicate address)

-- ---- the interface's turn

unsent_quietly : (set at salt : ℕ) (iface : Iface) → SameSources iface (unsent_in set at salt iface)
unsent_quietly set at salt iface =
    gated (SameSources iface) (is_in set (index_of iface)) (restarted at salt iface) iface
    (record {
      managed = refl;
      up = refl;
      stopped = refl;
      lease = unsent_quiet at salt iface.dhcp4;
      held = restart_stays iface.local.iface iface.local.state at salt;
      kept6 = refl;
      lease6 = refl;
    })
    (itself iface)

carried_quiet : (at salt : ℕ) (up : Bool) (iface : Iface) → IsQuiet iface (carried at salt up iface)
carried_quiet at salt true iface =
    gated (IsQuiet iface) iface.up (silent iface) (carrier_comes at salt iface) (silent_quiet iface)
    (news_loud iface iface CarrierCame (begins at salt (record iface { up = true })))
carried_quiet at salt false iface =
    gated (IsQuiet iface) iface.up (carrier_goes at salt iface) (silent iface)
    (news_loud iface iface CarrierWent (machines_drop at salt (record iface { up = false }))) (silent_quiet iface)

rebinds_quiet : (at salt : ℕ) (iface : Iface) → IsQuiet iface (machines_rebind at salt iface)
rebinds_quiet at salt iface =
    let first : IfaceStep = rebind_dhcp4 at salt iface in
    let local : IfaceStep = then_step first (arms at) in
    both_quiet iface local (rebind_dhcp6 at salt) (both_quiet iface first (arms at) (rebind_quietly at salt iface) (arms_quiet at first.iface))
    (rebind6_quietly at salt local.iface)

rebound_quiet : (at salt : ℕ) (iface : Iface) → IsQuiet iface (rebound at salt iface)
rebound_quiet at salt iface =
    gated (IsQuiet iface) iface.up (machines_rebind at salt iface) (silent iface) (rebinds_quiet at salt iface) (silent_quiet iface)

module _ (own : List Mac) (at salt : ℕ) (bytes : List ℕ) where
  packet_quiet : (arp : ArpView) (iface : Iface) → IsQuiet iface (hears_packet own at salt arp iface)
  packet_quiet arp iface =
      let first : IfaceStep = dhcp4_packet own at salt arp iface in
      both_quiet iface first (local_hears own at salt arp) (dhcp4_quiet at iface (arp_step own at salt arp iface.dhcp4) (arp_quiet own at salt arp iface.dhcp4))
      (local_quiet first.iface (ll_hears own first.iface.local arp at salt) (hears_stays own at salt arp first.iface.local.iface first.iface.local.state))

  message6_quiet : (message : Option HeardMessage6) (iface : Iface) → IsQuiet iface (hears_message6 at salt message iface)
  message6_quiet None iface = silent_quiet iface
  message6_quiet (Some heard) iface =
      dhcp6_quiet iface (hears_turned at salt heard.message iface.dhcp6) ((all_runs_tell iface.dhcp6 at salt).message heard.message)

  message_quiet : (message : Option HeardMessage) (message6 : Option HeardMessage6) (iface : Iface)
      → IsQuiet iface (hears_message at salt message message6 iface)
  message_quiet None message6 iface = message6_quiet message6 iface
  message_quiet (Some heard) message6 iface =
      dhcp4_quiet_from at iface (brought (arrival_at at heard) iface.dhcp4) (heard_step salt (arrival_at at heard) iface.dhcp4)
      (heard_quiet salt (arrival_at at heard) iface.dhcp4)

  either_quiet : (arp : Option ArpView) (message : Option HeardMessage) (message6 : Option HeardMessage6) (iface : Iface)
      → IsQuiet iface (hears_either own at salt arp message message6 iface)
  either_quiet (Some arp) message message6 iface = packet_quiet arp iface
  either_quiet None message message6 iface = message_quiet message message6 iface

  hears_quiet : (iface : Iface) → IsQuiet iface (hears own at salt bytes iface)
  hears_quiet iface = either_quiet (arp_heard bytes) (heard4_in iface.managed.spec.mac bytes) (heard6_in iface.managed.spec.mac bytes) iface

  named_quiet : (index : ℕ) (iface : Iface) (step : IfaceStep) → IsQuiet iface step
      → IsQuiet iface (if nat_eq (index_of iface) index then step else silent iface)
  named_quiet index iface step quiet = gated (IsQuiet iface) (nat_eq (index_of iface) index) step (silent iface) quiet (silent_quiet iface)

  taken_quiet : (event : Event) (iface : Iface) → IsQuiet iface (taken own at salt event bytes iface)
  taken_quiet (Frame index len) iface = named_quiet index iface (hears own at salt bytes iface) (hears_quiet iface)
  taken_quiet (Carrier index up) iface = named_quiet index iface (carried at salt up iface) (carried_quiet at salt up iface)
  taken_quiet (Duplicate index addr) iface = named_quiet index iface (contested at salt addr iface) (contested_quietly at salt addr iface)
  taken_quiet (Release index) iface = named_quiet index iface (released at salt iface) (news_loud iface iface Released (machines_stop Server at salt iface))
  taken_quiet (Rebind index) iface = named_quiet index iface (rebound at salt iface) (rebound_quiet at salt iface)
  taken_quiet Stop iface =
      told_last iface Stopped (machines_stop (told_at_stop iface.managed.conf) at salt (record iface { stopped = true }))
  taken_quiet Quiet iface = silent_quiet iface
  taken_quiet End iface = silent_quiet iface

  input_quiet : (event : Event) (iface : Iface) → IsQuiet iface (input_step own at salt event bytes iface)
  input_quiet event iface =
      gated (IsQuiet iface) iface.stopped (silent iface) (taken own at salt event bytes iface) (silent_quiet iface) (taken_quiet event iface)

ticked_quiet : (at salt : ℕ) (iface : Iface) → IsQuiet iface (ticked at salt iface)
ticked_quiet at salt iface =
    let first : IfaceStep = tick_dhcp4 at salt iface in
    let local : IfaceStep = then_step first (tick_local at salt) in
    both_quiet iface local (tick_dhcp6 at salt)
    (both_quiet iface first (tick_local at salt) (dhcp4_quiet at iface (tick_step at salt iface.dhcp4) (tick_quiet at salt iface.dhcp4))
    (local_quiet first.iface (ll_tick first.iface.local at salt) (tick_stays first.iface.local.iface first.iface.local.state at salt)))
    (tick6_quietly at salt local.iface)

turn_quiet : (own : List Mac) (turn : Turn) (iface : Iface) → IsQuiet iface (iface_turned own turn iface)
turn_quiet own turn iface e =
    let anew : Iface = unsent_in turn.unsent turn.at turn.salt iface in
    let first : IfaceStep = ticked turn.at turn.salt anew in
    in_turn iface anew _ (unsent_quietly turn.unsent turn.at turn.salt iface)
    (both_quiet anew first (input_step own turn.at turn.salt turn.event turn.bytes) (ticked_quiet turn.at turn.salt anew)
    (input_quiet own turn.at turn.salt turn.bytes turn.event first.iface) e)

same_rows : (old new : Iface) → SameSources old new → iface_rows new ≡ iface_rows old
same_rows old new same =
    λ i. static_rows (outlet_of (same.managed i)) (same.up i && not (same.stopped i)) (same.managed i).conf.address (same.managed i).conf.router
    ++ static6_rows (outlet_of (same.managed i)) (same.up i && not (same.stopped i)) (same.managed i).conf.address6
    ++ lease_rows (outlet_of (same.managed i)) (same.managed i).conf.router (same.lease i) ++ local_rows (outlet_of (same.managed i)) (same.held i)
    ++ lease6_rows (outlet_of (same.managed i)) (same.managed i).conf.dhcp6.shares (same.lease6 i)

same_parts4 : (old new : Iface) → SameSources old new → parts4 new ≡ parts4 old
same_parts4 old new same =
    λ i. if is_some (same.lease i) || ((same.up i && not (same.stopped i)) && is_some (same.managed i).conf.address)
    then part4_with (same.managed i) (same.lease i) ∷ []
    else []

same_parts : (old new : Iface) → SameSources old new → iface_parts new ≡ iface_parts old
same_parts old new same = λ i. same_parts4 old new same i ++ parts6 (same.managed i) (same.lease6 i)

pub quiet_rows : (own : List Mac) (turn : Turn) (iface : Iface) → (iface_turned own turn iface).reports ≡ []
    → iface_rows (iface_turned own turn iface).iface ≡ iface_rows iface
quiet_rows own turn iface none = same_rows iface (iface_turned own turn iface).iface (turn_quiet own turn iface none)

pub quiet_parts : (own : List Mac) (turn : Turn) (iface : Iface) → (iface_turned own turn iface).reports ≡ []
    → iface_parts (iface_turned own turn iface).iface ≡ iface_parts iface
quiet_parts own turn iface none = same_parts iface (iface_turned own turn iface).iface (turn_quiet own turn iface none)

pub quiet_kept6 : (own : List Mac) (turn : Turn) (iface : Iface) → (iface_turned own turn iface).reports ≡ []
    → (iface_turned own turn iface).iface.dhcp6.kept ≡ iface.dhcp6.kept
quiet_kept6 own turn iface none = (turn_quiet own turn iface none).kept6
