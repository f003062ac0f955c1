-- What holds of an interface by itself in a life, and that each of its steps keeps it.
use Rattle.std.proofs.Common.{◌≡◌, ℕ, ◌+◌, ◌*◌, ◌<◌, ◌^◌, Bool, true, false, not, ◌&&◌, List, Some, None, nat_eq, inl, inr, ◌⊎◌, refl, sym, ◌∙◌, ap, subst}
use Rattle.std.specs.Prelude.{if◌then◌else◌}
use Rattle.std.specs.List.{AllByRecursion}
use Rattle.net_types.proofs.CaseLaws.{gated}
use Rattle.net_types.specs.declared.address.Mac.{Mac}
use Rattle.net_types.specs.declared.interface.IfIndex.{IfIndex}
use Rattle.frame_link.specs.declared.arp.ArpView.{ArpView}
use Rattle.machine.specs.Moment.{is_due}
use Rattle.ipv4ll.specs.declared.link_local.LinkLocal.{LinkLocal}
use Rattle.ipv4ll.specs.declared.link_local.State.{State}
use Rattle.ipv4ll.specs.declared.link_local.State.TheVariants.{Off, Armed, Chosen, Waiting}
use Rattle.ipv4ll.specs.declared.link_local.Waits.{Waits}
use Rattle.ipv4ll.specs.declared.link_local.Waits.TheVariants.{ForLease, ForNothing}
use Rattle.ipv4ll.specs.declared.link_local.Fallback.{Fallback}
use Rattle.ipv4ll.specs.declared.link_local.Fallback.TheVariants.{Choose}
use Rattle.ipv4ll.specs.Table.{LlStep, ll_armed, ll_restarts}
use Rattle.v4_client.specs.declared.moments.TheConstants.{SECOND}
use Rattle.v4_client.specs.declared.states.Carrier.TheVariants.{Up, Down}
use Rattle.v4_client.specs.declared.states.News4.{News4}
use Rattle.v4_client.specs.declared.states.News4.TheVariants as news
use Rattle.v4_client.specs.declared.states.State4.{State4}
use Rattle.v4_client.specs.declared.states.State4.TheVariants as client
use Rattle.v4_client.specs.declared.states.Step4.{Step4}
use Rattle.v4_client.specs.declared.states.Tell.{Tell}
use Rattle.v4_client.specs.declared.states.Tell.TheVariants.{Server, Nobody}
use Rattle.v4_client.specs.declared.states.Turn4.{Turn4}
use Rattle.v4_client.specs.Calls.{answer_to, arp_step, brought, carrier_step, heard_step, rebind_step, release_step}
use Rattle.v4_client.specs.Clients.{is_bound, is_held, kept_terms, turn_of}
use Rattle.v4_client.specs.Due.{due_of}
use Rattle.v4_client.specs.History.{tick_step}
use Rattle.v4_client.specs.Inputs.{release_row, unsent_row}
use Rattle.v4_client.specs.Messages.{Arrival}
use Rattle.v4_client.specs.Sound.{IsSoundStep}
use Rattle.v6_client.specs.declared.states.State6.TheVariants as client6
use Rattle.v6_client.specs.Runs.{Turned6}
use Rattle.settings.specs.declared.interfaces.IfConf.{IfConf}
use Rattle.settings.specs.declared.interfaces.Managed.{Managed}
use Rattle.client_model.specs.declared.interfaces.Iface.{Iface}
use Rattle.client_model.specs.ClientSettings.{runs_dhcp4, site_of}
use Rattle.client_model.specs.ClientSettings6.{runs_dhcp6}
use Rattle.client_model.specs.Dhcp6Steps.{dhcp6_step, tell6_of}
use Rattle.client_model.specs.Dhcp4Steps.{arms, begin_local, dhcp4_step, followed, holds_lease, said_in}
use Rattle.client_model.specs.IfaceSteps.{silent}
use Rattle.client_model.specs.Interfaces.{machines_drop, machines_stop, restarted}
use Rattle.client_model.specs.LocalSteps.{armed, armed_for_lease, chooses_local, fallback_of, local_step}
use Rattle.local_evidence.proofs.Addresses.{HasHosts, holds_so, moved_hosts, brought_hosts, tick_steps, arp_steps, carrier_steps, release_steps, rebind_steps, unsent_hosts, heard_steps}
use Rattle.local_evidence.proofs.Announced.{AnnouncesNone}
use Rattle.local_evidence.proofs.Moves.{IsAside, IsFair, tick_fair, heard_fair, arp_fair, begin_fair, rebind_fair}
use Rattle.local_evidence.proofs.Ticks.{at_state, Unsaid}
use Rattle.evidence_words.specs.Inputs.{Site}
use Rattle.evidence.proofs.Off6.{IsOff, drop_off, release_off}

-- it has carrier, and no stop came
abbrev pub is_on : Iface → Bool
is_on f = f.up && not f.stopped

-- where it isn't on, its machines are off
pub record AreOff (f : Iface) : Type 0 where
  pub link_local : f.local.state ≡ Off
  pub dhcp4 : f.dhcp4.state ≡ client.Off

-- nothing is to be done by DHCPv4: it isn't on, or DHCPv4 doesn't run there
abbrev pub IsIdle : Iface → Type 0
IsIdle f = (is_on f ≡ false) ⊎ (runs_dhcp4 f.managed.conf ≡ false)

pub record Sane (managed : Managed) (f : Iface) : Type 0 where
  pub same : f.managed ≡ managed
  pub settings : f.dhcp4.settings.site ≡ site_of managed
  pub hosts : HasHosts f.dhcp4
  pub off : is_on f ≡ false → AreOff f
  pub without : runs_dhcp4 f.managed.conf ≡ false → f.dhcp4.state ≡ client.Off
  pub without6 : runs_dhcp6 f.managed.conf ≡ false → f.dhcp6.state ≡ client6.Off
  pub aside : IsAside (is_bound f.dhcp4.state) f.local

-- ---- what arming and the news of DHCPv4 make of link-local

-- what holds of a machine that is off or armed, and of this one, holds of it once armed
module _ (P : State → Type 0) (none : P Off) (waiting : (due : ℕ) (waits : Waits) (fallback : Fallback) → P (Armed due waits fallback)) where
  abbrev Has : LinkLocal → Type 0
  Has link_local = P link_local.state

  ll_armed_has : (iface : IfIndex) (state : State) (due : ℕ) (waits : Waits) (fallback : Fallback) → P state
      → Has (ll_armed (at_state iface state) due waits fallback)
  ll_armed_has iface Off due waits fallback h = waiting due waits fallback
  ll_armed_has iface (Armed before earlier after) due waits fallback h = h
  ll_armed_has iface (Chosen conflicts acd) due waits fallback h = h
  ll_armed_has iface (Waiting conflicts before) due waits fallback h = h

  pub armed_has : (conf : IfConf) (at : ℕ) (iface : IfIndex) (state : State) → P state → Has (armed conf at (at_state iface state))
  armed_has conf at iface state h =
      gated Has (runs_dhcp4 conf) (armed_for_lease conf at (at_state iface state)) _
      (gated Has (nat_eq conf.times.timeout 0) (at_state iface state)
      (ll_armed (at_state iface state) (at + SECOND * conf.times.timeout) ForLease (fallback_of (chooses_local conf))) h
      (ll_armed_has iface state (at + SECOND * conf.times.timeout) ForLease (fallback_of (chooses_local conf)) h))
      (gated Has (chooses_local conf) (ll_armed (at_state iface state) at ForNothing Choose) (at_state iface state)
      (ll_armed_has iface state at ForNothing Choose h) h)

  ended_has : (conf : IfConf) (at : ℕ) (held : Bool) (iface : IfIndex) (state : State) → P state
      → Has (if held then armed conf at (at_state iface state) else at_state iface state)
  ended_has conf at held iface state h =
      gated Has held (armed conf at (at_state iface state)) (at_state iface state) (armed_has conf at iface state h) h

  pub followed_has : (conf : IfConf) (at : ℕ) (held : Bool) (said : News4) (iface : IfIndex) (state : State) → P state
      → Has (followed conf at held said (at_state iface state))
  followed_has conf at held news.Bound iface state h = none
  followed_has conf at held news.Reboot iface state h = none
  followed_has conf at held news.Nak iface state h = ended_has conf at held iface state h
  followed_has conf at held news.Expire iface state h = ended_has conf at held iface state h
  followed_has conf at held news.Renew iface state h = h
  followed_has conf at held news.Rebind iface state h = h
  followed_has conf at held news.Stop iface state h = h
  followed_has conf at held news.Nothing iface state h = h

-- ---- a step of DHCPv4

-- a client that is off stays off, and has no news
pub record StaysOff (step : Step4) : Type 0 where
  pub off : step.state ≡ client.Off
  pub quiet : step.news ≡ news.Nothing

-- a step that the client of the interface may go
pub record Goes (managed : Managed) (f : Iface) (step : Step4) : Type 0 where
  pub turn : Turn4
  pub mac : turn.site.iface.mac ≡ managed.spec.mac
  pub fair : IsFair turn f.dhcp4.state step
  pub sound : IsSoundStep (kept_terms f.dhcp4) f.dhcp4.state step
  pub rests : IsIdle f → f.dhcp4.state ≡ client.Off → StaysOff step

module _ (site : Site) (at : ℕ) (f : Iface) (step : Step4) (goes : Goes site.managed f step) where
  abbrev local_then : LinkLocal
  local_then = followed f.managed.conf at (holds_lease f) step.news f.local

  quiet_local : step.news ≡ news.Nothing → f.local.state ≡ Off → local_then.state ≡ Off
  quiet_local quiet off = ap (λ (n : News4). (followed f.managed.conf at (holds_lease f) n f.local).state) quiet ∙ off

  aside_then : Sane site.managed f → IsAside (is_bound step.state) local_then
  aside_then sane held =
      ap (λ (h : Bool). (followed f.managed.conf at h step.news f.local).state) (holds_so f.dhcp4 sane.hosts)
      ∙ goes.fair.aside f.managed.conf at f.local sane.aside held

  pub step_sane : Sane site.managed f → Sane site.managed (dhcp4_step at f step).iface
  step_sane sane = record {
    same = sane.same;
    settings = sane.settings;
    hosts = moved_hosts f.dhcp4 step sane.hosts goes.sound;
    off = λ out. record {
      link_local = quiet_local (goes.rests (inl out) (sane.off out).dhcp4).quiet (sane.off out).link_local;
      dhcp4 = (goes.rests (inl out) (sane.off out).dhcp4).off;
    };
    without = λ none. (goes.rests (inr none) (sane.without none)).off;
    without6 = sane.without6;
    aside = aside_then sane;
  }

  all_unsaid : (state : State) → AllByRecursion (AnnouncesNone site.managed.spec.mac) (said_in step) → Unsaid site state (said_in step)
  all_unsaid Off all = tt
  all_unsaid (Armed due waits fallback) all = tt
  all_unsaid (Chosen conflicts acd) all = all
  all_unsaid (Waiting conflicts due) all = tt

  -- where an address is chosen after the step, it announces nothing
  pub step_unsaid : Sane site.managed f → Unsaid site local_then.state (said_in step)
  step_unsaid sane = by (is_bound f.dhcp4.state) (is_bound step.state) refl refl
    where
      by : (before after : Bool) → is_bound f.dhcp4.state ≡ before → is_bound step.state ≡ after → Unsaid site local_then.state (said_in step)
      by before true was is =
          subst (λ (s : State). Unsaid site s (said_in step)) (sym (aside_then sane is)) tt
      by true false was is =
          followed_has (λ s. Unsaid site s (said_in step)) tt (λ due waits fallback. tt) f.managed.conf at (holds_lease f) step.news
          f.local.iface f.local.state (subst (λ (s : State). Unsaid site s (said_in step)) (sym (sane.aside was)) tt)
      by false false was is =
          all_unsaid local_then.state (subst (λ (m : Mac). AllByRecursion (AnnouncesNone m) (said_in step)) goes.mac (goes.fair.says was is))

-- ---- the steps of a client

module _ (managed : Managed) (f : Iface) (sane : Sane managed f) (at salt : ℕ) (early : at < 10 ^ 15) where
  abbrev turn : Turn4
  turn = turn_of at salt f.dhcp4

  same_mac : turn.site.iface.mac ≡ managed.spec.mac
  same_mac = ap (λ s. s.iface.mac) sane.settings

  not_idle : is_on f ≡ true → runs_dhcp4 f.managed.conf ≡ true → IsIdle f → ⊥
  not_idle on runs (inl out) = let bad : true ≡ false = sym on ∙ out in cc
  not_idle on runs (inr none) = let bad : true ≡ false = sym runs ∙ none in cc

  pub tick_goes : Goes managed f (tick_step at salt f.dhcp4)
  tick_goes = record {
    turn = turn;
    mac = same_mac;
    fair = gated (IsFair turn f.dhcp4.state) (is_due (due_of f.dhcp4.state) at) _ _ (tick_fair turn f.dhcp4.state sane.hosts.state)
        (record { says = λ before after. tt; aside = λ conf now link_local off. off });
    sound = tick_steps at salt early f.dhcp4 sane.hosts;
    rests = λ idle off. rw off (record { off = refl; quiet = refl });
  }

  pub packet_goes : (own : List Mac) (arp : ArpView) → Goes managed f (arp_step own at salt arp f.dhcp4)
  packet_goes own arp = record {
    turn = turn;
    mac = same_mac;
    fair = arp_fair turn own arp f.dhcp4.state sane.hosts.state;
    sound = arp_steps at salt early f.dhcp4 sane.hosts own arp;
    rests = λ idle off. rw off (record { off = refl; quiet = refl });
  }

  pub begin_goes : is_on f ≡ true → runs_dhcp4 f.managed.conf ≡ true → Goes managed f (carrier_step Up at salt f.dhcp4)
  begin_goes on runs = record {
    turn = turn;
    mac = same_mac;
    fair = begin_fair turn f.dhcp4.may_stand (kept_terms f.dhcp4) f.dhcp4.state;
    sound = carrier_steps at salt early f.dhcp4 sane.hosts Up;
    rests = λ idle off. absurd (not_idle on runs idle);
  }

  pub rebind_goes : is_on f ≡ true → runs_dhcp4 f.managed.conf ≡ true → Goes managed f (rebind_step at salt f.dhcp4)
  rebind_goes on runs = record {
    turn = turn;
    mac = same_mac;
    fair = rebind_fair turn (kept_terms f.dhcp4) f.dhcp4.state;
    sound = rebind_steps at salt early f.dhcp4 sane.hosts;
    rests = λ idle off. absurd (not_idle on runs idle);
  }

module _ (managed : Managed) (f : Iface) (sane : Sane managed f) (salt : ℕ) (arrival : Arrival) (early : arrival.at < 10 ^ 15) where
  -- the values that a message brings are taken
  abbrev pub taking : Iface
  taking = record f { dhcp4 = brought arrival f.dhcp4 }

  pub taking_sane : Sane managed taking
  taking_sane = record {
    same = sane.same;
    settings = sane.settings;
    hosts = brought_hosts arrival f.dhcp4 sane.hosts;
    off = λ out. record { link_local = (sane.off out).link_local; dhcp4 = (sane.off out).dhcp4 };
    without = sane.without;
    without6 = sane.without6;
    aside = sane.aside;
  }

  pub message_goes : Goes managed taking (heard_step salt arrival f.dhcp4)
  message_goes = record {
    turn = turn_of arrival.at salt f.dhcp4;
    mac = ap (λ s. s.iface.mac) sane.settings;
    fair = heard_fair (turn_of arrival.at salt f.dhcp4) (answer_to arrival f.dhcp4) f.dhcp4.state;
    sound = heard_steps salt arrival f.dhcp4 early sane.hosts;
    rests = λ idle off. rw off (record { off = refl; quiet = refl });
  }

-- ---- the other steps

-- a step of link-local, which leaves it off where it is off
pub local_sane : (managed : Managed) (f : Iface) (step : LlStep) → (f.local.state ≡ Off → step.ll.state ≡ Off) → Sane managed f
    → Sane managed (local_step f step).iface
local_sane managed f step stays sane = record {
  same = sane.same;
  settings = sane.settings;
  hosts = sane.hosts;
  off = λ out. record { link_local = stays (sane.off out).link_local; dhcp4 = (sane.off out).dhcp4 };
  without = sane.without;
  without6 = sane.without6;
  aside = λ held. stays (sane.aside held);
}

-- a lease that is bound is held
bound_holds : (state : State4) → is_bound state ≡ true → is_held state ≡ true
bound_holds client.Off is = is
bound_holds (client.Init due) is = is
bound_holds (client.Selecting xid began secs backoff due) is = is
bound_holds (client.Requesting exchange secs backoff due) is = is
bound_holds (client.Rebooting exchange backoff end due stands) is = absurd cc
bound_holds (client.Checking xid terms origin acd stands) is = absurd cc
bound_holds (client.Waiting due) is = is
bound_holds (client.Bound xid terms acd) is = is
bound_holds (client.Renewing exchange terms acd due) is = is
bound_holds (client.Rebinding exchange terms acd due) is = is

-- link-local is armed beside a client that isn't bound
pub begin_local_sane : (managed : Managed) (at : ℕ) (f : Iface) → is_on f ≡ true → is_bound f.dhcp4.state ≡ false → Sane managed f
    → Sane managed (begin_local at f).iface
begin_local_sane managed at f on unbound sane = record {
  same = sane.same;
  settings = sane.settings;
  hosts = sane.hosts;
  off = λ out. absurd (let bad : true ≡ false = sym on ∙ out in cc);
  without = sane.without;
  without6 = sane.without6;
  aside = λ bound. absurd (let bad : true ≡ false = sym bound ∙ unbound in cc);
}

pub arms_sane : (managed : Managed) (at : ℕ) (f : Iface) → is_on f ≡ true → Sane managed f → Sane managed (arms at f).iface
arms_sane managed at f on sane = by (holds_lease f) refl
  where
    by : (held : Bool) → holds_lease f ≡ held
        → Sane managed (if held then silent f else silent (record f { local = armed f.managed.conf at f.local })).iface
    by true is = sane
    by false is = record {
      same = sane.same;
      settings = sane.settings;
      hosts = sane.hosts;
      off = λ out. absurd (let bad : true ≡ false = sym on ∙ out in cc);
      without = sane.without;
      without6 = sane.without6;
      aside = λ bound. absurd (let bad : true ≡ false = sym (bound_holds f.dhcp4.state bound) ∙ sym (holds_so f.dhcp4 sane.hosts) ∙ is in cc);
    }

released_off : (turn : Turn4) (tell : Tell) (state : State4) → (release_row turn tell state).state ≡ client.Off
released_off here tell client.Off = refl
released_off here tell (client.Init due) = refl
released_off here tell (client.Selecting xid began secs backoff due) = refl
released_off here tell (client.Requesting exchange secs backoff due) = refl
released_off here tell (client.Rebooting exchange backoff end due None) = refl
released_off here Server (client.Rebooting exchange backoff end due (Some terms)) = refl
released_off here Nobody (client.Rebooting exchange backoff end due (Some terms)) = refl
released_off here tell (client.Checking xid terms origin acd None) = refl
released_off here Server (client.Checking xid terms origin acd (Some old)) = refl
released_off here Nobody (client.Checking xid terms origin acd (Some old)) = refl
released_off here tell (client.Waiting due) = refl
released_off here Server (client.Bound xid terms acd) = refl
released_off here Nobody (client.Bound xid terms acd) = refl
released_off here Server (client.Renewing exchange terms acd due) = refl
released_off here Nobody (client.Renewing exchange terms acd due) = refl
released_off here Server (client.Rebinding exchange terms acd due) = refl
released_off here Nobody (client.Rebinding exchange terms acd due) = refl

-- a step of DHCPv6, which leaves its client off where it is off
pub dhcp6_sane : (managed : Managed) (f : Iface) (turned : Turned6) → (f.dhcp6.state ≡ client6.Off → IsOff turned) → Sane managed f
    → Sane managed (dhcp6_step f turned).iface
dhcp6_sane managed f turned stays sane = record {
  same = sane.same;
  settings = sane.settings;
  hosts = sane.hosts;
  off = λ out. record { link_local = (sane.off out).link_local; dhcp4 = (sane.off out).dhcp4 };
  without = sane.without;
  without6 = λ none. stays (sane.without6 none);
  aside = sane.aside;
}

-- a step of DHCPv6 where it runs
pub if_dhcp6_sane : (managed : Managed) (f : Iface) (turned : Turned6) → Sane managed f
    → Sane managed (if runs_dhcp6 f.managed.conf then dhcp6_step f turned else silent f).iface
if_dhcp6_sane managed f turned sane = by (runs_dhcp6 f.managed.conf) refl
  where
    by : (runs : Bool) → runs_dhcp6 f.managed.conf ≡ runs → Sane managed (if runs then dhcp6_step f turned else silent f).iface
    by true is = record {
      same = sane.same;
      settings = sane.settings;
      hosts = sane.hosts;
      off = λ out. record { link_local = (sane.off out).link_local; dhcp4 = (sane.off out).dhcp4 };
      without = sane.without;
      without6 = λ none. absurd (let bad : true ≡ false = sym is ∙ none in cc);
      aside = sane.aside;
    }
    by false is = sane

-- all machines are off
module _ (managed : Managed) (at salt : ℕ) (early : at < 10 ^ 15) (f : Iface) (same : f.managed ≡ managed)
    (settings : f.dhcp4.settings.site ≡ site_of managed) (hosts : HasHosts f.dhcp4) where
  pub stops_sane : (tell : Tell) → Sane managed (machines_stop tell at salt f).iface
  stops_sane tell = record {
    same = same;
    settings = settings;
    hosts = moved_hosts f.dhcp4 (release_step tell at salt f.dhcp4) hosts (release_steps at salt early f.dhcp4 hosts tell);
    off = λ out. record { link_local = refl; dhcp4 = released_off (turn_of at salt f.dhcp4) tell f.dhcp4.state };
    without = λ none. released_off (turn_of at salt f.dhcp4) tell f.dhcp4.state;
    without6 = λ none. release_off at salt f.dhcp6 (tell6_of tell);
    aside = λ held. refl;
  }

  pub drops_sane : Sane managed (machines_drop at salt f).iface
  drops_sane = record {
    same = same;
    settings = settings;
    hosts = moved_hosts f.dhcp4 (carrier_step Down at salt f.dhcp4) hosts (carrier_steps at salt early f.dhcp4 hosts Down);
    off = λ out. record { link_local = refl; dhcp4 = refl };
    without = λ none. refl;
    without6 = λ none. drop_off at salt f.dhcp6;
    aside = λ held. refl;
  }

-- what is bound stays so where a frame couldn't be sent
unsent_bound : (at_turn : Turn4) (state : State4) → is_bound (unsent_row at_turn state) ≡ is_bound state
unsent_bound here client.Off = refl
unsent_bound here (client.Init due) = refl
unsent_bound here (client.Selecting xid began secs backoff due) = refl
unsent_bound here (client.Requesting exchange secs backoff due) = refl
unsent_bound here (client.Rebooting exchange backoff end due stands) = refl
unsent_bound here (client.Checking xid terms origin acd stands) = refl
unsent_bound here (client.Waiting due) = refl
unsent_bound here (client.Bound xid terms acd) = refl
unsent_bound here (client.Renewing exchange terms acd due) = refl
unsent_bound here (client.Rebinding exchange terms acd due) = refl

-- a frame of the interface couldn't be sent in the turn before
pub restarted_sane : (managed : Managed) (at salt : ℕ) → at < 10 ^ 15 → (f : Iface) → Sane managed f → Sane managed (restarted at salt f)
restarted_sane managed at salt early f sane = record {
  same = sane.same;
  settings = sane.settings;
  hosts = unsent_hosts at salt early f.dhcp4 sane.hosts;
  off = λ out. record {
    link_local = restart_off f.local.iface f.local.state at salt (sane.off out).link_local;
    dhcp4 = ap (unsent_row (turn_of at salt f.dhcp4)) (sane.off out).dhcp4;
  };
  without = λ none. ap (unsent_row (turn_of at salt f.dhcp4)) (sane.without none);
  without6 = sane.without6;
  aside = λ held.
      restart_off f.local.iface f.local.state at salt
      (sane.aside (sym (unsent_bound (turn_of at salt f.dhcp4) f.dhcp4.state) ∙ held));
}
  where
    restart_off : (iface : IfIndex) (state : State) (at salt : ℕ) → state ≡ Off → (ll_restarts (at_state iface state) at salt).state ≡ Off
    restart_off iface state at salt off = subst (λ s. (ll_restarts (at_state iface s) at salt).state ≡ Off) (sym off) refl
