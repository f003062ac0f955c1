-- What an interface carries of the turns shown of it, and that each turn keeps it.
use Rattle.std.proofs.Common.{◌≡◌, ℕ, ◌+◌, ◌*◌, nat_eq, ◌<◌, ◌^◌, Bool, true, false, not, ◌&&◌, ◌||◌, List, [], ◌∷◌, ◌++◌, Option, Some, None, refl, sym, ◌∙◌, ap, subst, append_assoc, append-nil, arith}
use Rattle.std.proofs.lemmas.Bool.Decides.{nat_tests}
use Rattle.std.specs.Prelude.{◌≢◌, ◌==◌, if◌then◌else◌, option_map, option_to_list, map, IfSome}
use Rattle.std.specs.List.{AllByRecursion}
use Rattle.machine.specs.Moment.{is_due}
use Rattle.net_types.proofs.CaseLaws.{gated, split}
use Rattle.net_types.specs.declared.address.Mac.{Mac}
use Rattle.net_types.specs.declared.interface.IfIndex.{IfIndex}
use Rattle.frame_link.specs.declared.arp.ArpView.{ArpView}
use Rattle.ipv4ll.specs.declared.link_local.State.{State}
use Rattle.ipv4ll.specs.declared.link_local.State.TheVariants.{Off, Armed, Chosen, Waiting}
use Rattle.ipv4ll.specs.Table.{ll_tick, ll_hears}
use Rattle.v4_client.specs.V4Frames.Heard.{HeardMessage, heard4_in}
use Rattle.v6_frames.specs.Heard.{HeardMessage6, heard6_in}
use Rattle.v6_client.specs.declared.states.Carrier6.TheVariants as carrier6
use Rattle.v6_client.specs.declared.states.State6.TheVariants as client6
use Rattle.v6_client.specs.Moves.{OutContent}
use Rattle.v6_client.specs.Runs.{Turned6, carrier_turned, contested_turned, hears_turned, rebind_turned, tick_turned}
use Rattle.v6_client.specs.Saying.{SpokenContent}
use Rattle.lease_text.specs.Bounds.{HasText}
use Rattle.lease_text.specs.Leases.{LeaseContent, terms_of}
use Rattle.v4_client.specs.declared.states.Carrier.TheVariants.{Up}
use Rattle.lease_text.specs.declared.lease.Terms4.{Terms4}
use Rattle.v4_client.specs.declared.moments.Backoff.TheVariants.{Four}
use Rattle.v4_client.specs.declared.moments.TheConstants.{SECOND}
use Rattle.v4_client.specs.declared.states.News4.{News4}
use Rattle.v4_client.specs.declared.states.News4.TheVariants as news
use Rattle.v4_client.specs.declared.states.Step4.{Step4}
use Rattle.v4_client.specs.declared.states.Tell.TheVariants.{Server}
use Rattle.v4_client.specs.declared.states.Turn4.{Turn4}
use Rattle.v4_client.specs.Calls.{arp_step, carrier_step, heard_step, rebind_step}
use Rattle.v4_client.specs.declared.states.State4.{State4}
use Rattle.v4_client.specs.Clients.{is_bound, kept_terms, turn_of}
use Rattle.v4_client.specs.Inputs.{stood, begins, begin_row}
use Rattle.v4_client.specs.Moments.{expiry}
use Rattle.v4_client.specs.Steps.{to_init, new_exchange, rebooting}
use Rattle.v4_client.specs.History.{tick_step}
use Rattle.v4_client.specs.Messages.{Arrival}
use Rattle.v4_client.specs.Sound.{FitsBegin}
use Rattle.world.specs.declared.wakes.Event.{Event}
use Rattle.world.specs.declared.wakes.Event.TheVariants.{Frame, Carrier, Duplicate, Release, Rebind, Stop, Quiet, End}
use Rattle.settings.specs.declared.interfaces.Managed.{Managed}
use Rattle.client_model.specs.declared.interfaces.Iface.{Iface}
use Rattle.script_model.specs.IfaceSets.{is_in}
use Rattle.client_model.specs.Messages.{Said, Dhcp6}
use Rattle.client_model.specs.ClientSettings.{ask_of, runs_dhcp4}
use Rattle.client_model.specs.ClientSettings6.{runs_dhcp6}
use Rattle.client_model.specs.Dhcp6Steps.{dhcp6_step, said6_in, sent_by}
use Rattle.client_model.specs.Dhcp4Steps.{arms, arrival_at, begin_local, dhcp4_packet, dhcp4_step, dhcp4_takes, followed, holds_lease, said_in}
use Rattle.client_model.specs.declared.machines.TimedMachine.TheVariants.{Dhcp4, LinkLocal}
use Rattle.client_model.specs.IfaceSteps.{IfaceStep, index_of, silent, then_step}
use Rattle.client_model.specs.KeptLeases.{Beginning}
use Rattle.client_model.specs.LocalSteps.{armed, local_hears}
use Rattle.client_model.specs.Interfaces.{carried, carrier_comes, carrier_goes, carrier_at_opening, machine_ticked, machines_rebind, halted, released, resting, restarted, ticked, told_at_stop, unsent_in}
use Rattle.client_model.specs.IfaceTurns.{arp_heard, hears_either, hears_message, hears_message6, hears_packet, input_step, taken}
use Rattle.evidence_words.specs.Entries.{Entry, Offer, offers_on}
use Rattle.evidence_words.specs.Inputs.{Site, index_at, arp_on, carrier_after, has_carrier, is_stop, is_stopped}
use Rattle.local_evidence.specs.LinkLocalBasis.{Undisturbed}
use Rattle.evidence_words.proofs.Carrying.{at_site, entry}
use Rattle.evidence_words.proofs.Offers.{Offered}
use Rattle.local_evidence.proofs.Ticks.{Unsaid, Bears, BearsAmid, at_state, tick_amid, more_amid, heard_bears, quiet_bears, restarted_bears, clean_bears}
use Rattle.local_evidence.proofs.Announced.{AnnouncesNone}
use Rattle.evidence.proofs.Off6 as off6
use Rattle.evidence.proofs.Off6.{IsOff}
use Rattle.evidence.proofs.Sane.{is_on, AreOff, Sane, Goes, armed_has, followed_has, step_sane, step_unsaid, tick_goes, packet_goes, begin_goes, rebind_goes, taking, taking_sane, message_goes, local_sane, dhcp6_sane, if_dhcp6_sane, arms_sane, begin_local_sane, stops_sane, drops_sane, restarted_sane}

pub record Keeps (site : Site) (clean : Type 0) (f : Iface) (past : List Entry) : Type 0 where
  pub sane : Sane site.managed f
  pub stopped : f.stopped ≡ is_stopped past
  pub carrier : f.stopped ≡ false → f.up ≡ has_carrier site past
  pub bears : Bears (Undisturbed site) site clean f.local.state past

-- the same within a turn, after the ticks
record KeepsAmid (site : Site) (clean : Type 0) (e : Entry) (said : List Said) (f : Iface) (past : List Entry) : Type 0 where
  sane : Sane site.managed f
  stopped : f.stopped ≡ is_stopped past
  carrier : f.stopped ≡ false → f.up ≡ has_carrier site past
  bears : BearsAmid (Undisturbed site) site clean e said past f.local.state

-- ---- what DHCPv6 says announces nothing

silent6 : (mac : Mac) (f : Iface) (out : OutContent) → AllByRecursion (AnnouncesNone mac) (said6_in f out)
silent6 mac f out = by_say out.say
  where
    by_say : (say : Option SpokenContent) → AllByRecursion (AnnouncesNone mac) (map (λ spoken. Dhcp6 (sent_by f spoken)) (option_to_list say))
    by_say None = tt
    by_say (Some spoken) = (tt, tt)

unsaid6 : (site : Site) (state : State) (more : List Said) → AllByRecursion (AnnouncesNone site.managed.spec.mac) more → Unsaid site state more
unsaid6 site Off more none = tt
unsaid6 site (Armed due waits fallback) more none = tt
unsaid6 site (Chosen conflicts acd) more none = none
unsaid6 site (Waiting conflicts due) more none = tt

-- a step of DHCPv6 where it runs
abbrev if_dhcp6 : Iface → Turned6 → IfaceStep
if_dhcp6 f turned = if runs_dhcp6 f.managed.conf then dhcp6_step f turned else silent f

if_silent6 : (mac : Mac) (f : Iface) (turned : Turned6) → AllByRecursion (AnnouncesNone mac) (if_dhcp6 f turned).said
if_silent6 mac f turned =
    gated (λ (step : IfaceStep). AllByRecursion (AnnouncesNone mac) step.said) (runs_dhcp6 f.managed.conf) (dhcp6_step f turned) (silent f)
    (silent6 mac f turned.out) tt

-- its steps are nothing to what is carried
then6_keeps : (site : Site) (clean : Type 0) (turns : List Entry) (f : Iface) (turned : Turned6) → Keeps site clean f turns
    → Keeps site clean (if_dhcp6 f turned).iface turns
then6_keeps site clean turns f turned k = by (runs_dhcp6 f.managed.conf) (if_dhcp6_sane site.managed f turned k.sane)
  where
    after : Bool → Iface
    after runs = (if runs then dhcp6_step f turned else silent f).iface

    by : (runs : Bool) → Sane site.managed (after runs) → Keeps site clean (after runs) turns
    by true sane = record { sane = sane; stopped = k.stopped; carrier = k.carrier; bears = k.bears }
    by false sane = k

-- ---- machines that are off

off_bears : (site : Site) (clean : Type 0) (state : State) (past : List Entry) → state ≡ Off → Bears (Undisturbed site) site clean state past
off_bears site clean state past p = subst (λ s. Bears (Undisturbed site) site clean s past) (sym p) tt

tick_off : (iface : IfIndex) (state : State) (at salt : ℕ) → state ≡ Off → (ll_tick (at_state iface state) at salt).ll.state ≡ Off
tick_off iface state at salt p = subst (λ s. (ll_tick (at_state iface s) at salt).ll.state ≡ Off) (sym p) refl

hear_off : (own : List Mac) (iface : IfIndex) (state : State) (arp : ArpView) (at salt : ℕ) → state ≡ Off
    → (ll_hears own (at_state iface state) arp at salt).ll.state ≡ Off
hear_off own iface state arp at salt p = subst (λ s. (ll_hears own (at_state iface s) arp at salt).ll.state ≡ Off) (sym p) refl

-- it has carrier and runs
on_when : (f : Iface) → f.up ≡ true → f.stopped ≡ false → is_on f ≡ true
on_when f up runs = ap (λ u. u && not f.stopped) up ∙ ap not runs

out_when : (f : Iface) → f.up ≡ false → is_on f ≡ false
out_when f down = ap (λ u. u && not f.stopped) down

-- ---- the input of a turn

apart : (a b : ℕ) → (a == b) ≡ false → a ≢ b
apart a b h = grind (arith, nat_tests)

-- a client that begins is bound to none
begins_unbound : (turn : Turn4) (may_stand : Bool) (kept : Option Terms4) → is_bound (begins turn may_stand kept).state ≡ false
begins_unbound turn may_stand None = refl
begins_unbound turn may_stand (Some terms) =
    gated (λ (step : Step4). is_bound step.state ≡ false) (is_due (expiry terms) turn.at || nat_eq turn.site.times.reboot 0) (to_init turn)
    (rebooting turn (new_exchange turn terms.net.ip) Four (turn.at + SECOND * turn.site.times.reboot) (stood turn may_stand terms)) refl refl

module _ (site : Site) (clean : Type 0) (at salt : ℕ) (early : at < 10 ^ 15) (bytes : List ℕ) (offers : List Offer) (past : List Entry) where
  abbrev Spelled : List Said → Type 0
  Spelled said = Offered site.managed.spec (ask_of site.duid site.managed) clean said (offers_on (index_at site) offers)

  abbrev After : Event → Iface → Type 0
  After event f = Keeps site clean f (entry at event bytes offers ∷ past)

  abbrev AfterInput : Event → List Said → IfaceStep → Type 0
  AfterInput event said step = Spelled (said ++ step.said) → After event step.iface

  abbrev Before : Event → List Said → Iface → Type 0
  Before event said f = KeepsAmid site clean (entry at event bytes offers) said f past

  bracket : (said more rest : List Said) → Spelled (said ++ (more ++ rest)) → Spelled ((said ++ more) ++ rest)
  bracket said more rest h = subst Spelled (sym (append_assoc said more rest)) h

  -- after a stop
  stopped_keeps : (event : Event) (said : List Said) (f : Iface) → f.stopped ≡ true → Before event said f → AfterInput event said (silent f)
  stopped_keeps event said f over b h = record {
    sane = b.sane;
    stopped = over ∙ stays (is_stop event) (is_stopped past) (sym over ∙ b.stopped);
    carrier = λ runs. absurd (let bad : true ≡ false = sym over ∙ runs in cc);
    bears = off_bears site clean f.local.state _ (b.sane.off (ap (λ s. f.up && not s) over ∙ neither f.up)).link_local;
  }
    where
      stays : (s t : Bool) → true ≡ t → true ≡ (s || t)
      stays true t p = refl
      stays false t p = p

      neither : (up : Bool) → (up && false) ≡ false
      neither true = refl
      neither false = refl

  -- an input that takes nothing away, and is no packet
  record Passes (event : Event) (up : Bool) : Type 0 where
    runs : is_stop event ≡ false
    carries : carrier_after (index_at site) event up ≡ up
    stays : Undisturbed site (entry at event bytes offers) past
    none : arp_on (index_at site) event bytes ≡ None

  -- nothing more comes of it
  passed_keeps : (event : Event) (said : List Said) (f : Iface) → f.stopped ≡ false → Passes event f.up → Before event said f → AfterInput event said (silent f)
  passed_keeps event said f runs passes b h = record {
    sane = b.sane;
    stopped = b.stopped ∙ sym (ap (λ s. s || is_stopped past) passes.runs);
    carrier = λ _. sym passes.carries ∙ ap (carrier_after (index_at site) event) (b.carrier runs);
    bears = quiet_bears (Undisturbed site) site clean (entry at event bytes offers) past salt f.local.state said b.bears passes.stays passes.none h;
  }

  -- ---- a step of DHCPv4 amid the turn

  step_amid : (event : Event) (said : List Said) (f : Iface) (step : Step4) → Goes site.managed f step → Before event said f
      → Before event (said ++ said_in step) (dhcp4_step at f step).iface
  step_amid event said f step goes b = record {
    sane = step_sane site at f step goes b.sane;
    stopped = b.stopped;
    carrier = b.carrier;
    bears =
        more_amid (Undisturbed site) site clean (entry at event bytes offers) past salt said (said_in step) local_then (step_unsaid site at f step goes b.sane)
        (followed_has (λ s. BearsAmid (Undisturbed site) site clean (entry at event bytes offers) said past s) tt (λ due waits fallback. tt)
        f.managed.conf at (holds_lease f) step.news f.local.iface f.local.state b.bears);
  }
    where
      local_then : State
      local_then = (followed f.managed.conf at (holds_lease f) step.news f.local).state

  -- more is said that announces nothing
  more_said : (event : Event) (said more : List Said) (f : Iface) → AllByRecursion (AnnouncesNone site.managed.spec.mac) more → Before event said f
      → Before event (said ++ more) f
  more_said event said more f none b = record {
    sane = b.sane;
    stopped = b.stopped;
    carrier = b.carrier;
    bears =
        more_amid (Undisturbed site) site clean (entry at event bytes offers) past salt said more f.local.state (unsaid6 site f.local.state more none) b.bears;
  }

  -- ---- a step of DHCPv6 amid the turn

  dhcp6_amid : (event : Event) (said : List Said) (f : Iface) (turned : Turned6) → (f.dhcp6.state ≡ client6.Off → IsOff turned) → Before event said f
      → Before event (said ++ said6_in f turned.out) (dhcp6_step f turned).iface
  dhcp6_amid event said f turned stays b =
      let more : Before event (said ++ said6_in f turned.out) f =
      more_said event said (said6_in f turned.out) f (silent6 site.managed.spec.mac f turned.out) b in
      record { sane = dhcp6_sane site.managed f turned stays b.sane; stopped = b.stopped; carrier = b.carrier; bears = more.bears }

  -- nothing more comes of the input
  dhcp6_keeps : (event : Event) (said : List Said) (f : Iface) (turned : Turned6) → (f.dhcp6.state ≡ client6.Off → IsOff turned) → f.stopped ≡ false
      → Passes event f.up → Before event said f → AfterInput event said (dhcp6_step f turned)
  dhcp6_keeps event said f turned stays going passes b h =
      passed_keeps event (said ++ said6_in f turned.out) (dhcp6_step f turned).iface going passes (dhcp6_amid event said f turned stays b)
      (subst Spelled (sym (append-nil (said ++ said6_in f turned.out))) h)

  -- where DHCPv4 runs
  abbrev perhaps : Bool → Iface → Step4 → IfaceStep
  perhaps runs f step = if runs then dhcp4_step at f step else silent f

  perhaps_amid : (event : Event) (said : List Said) (runs : Bool) (f : Iface) (step : Step4) → (runs ≡ true → Goes site.managed f step) → Before event said f
      → Before event (said ++ (perhaps runs f step).said) (perhaps runs f step).iface
  perhaps_amid event said true f step goes b = step_amid event said f step (goes refl) b
  perhaps_amid event said false f step goes b = subst (λ (all : List Said). Before event all f) (sym (append-nil said)) b

  perhaps_stopped : (runs : Bool) (f : Iface) (step : Step4) → (perhaps runs f step).iface.stopped ≡ f.stopped
  perhaps_stopped true f step = refl
  perhaps_stopped false f step = refl

  perhaps_up : (runs : Bool) (f : Iface) (step : Step4) → (perhaps runs f step).iface.up ≡ f.up
  perhaps_up true f step = refl
  perhaps_up false f step = refl

  -- ---- link-local is armed where no lease is held

  arms_keeps : (turns : List Entry) (f : Iface) → is_on f ≡ true → Keeps site clean f turns → Keeps site clean (arms at f).iface turns
  arms_keeps turns f on k = by (holds_lease f) (arms_sane site.managed at f on k.sane)
    where
      armed_when : Bool → Iface
      armed_when held = (if held then silent f else silent (record f { local = armed f.managed.conf at f.local })).iface

      by : (held : Bool) → Sane site.managed (armed_when held) → Keeps site clean (armed_when held) turns
      by true sane = k
      by false sane = record {
        sane = sane;
        stopped = k.stopped;
        carrier = k.carrier;
        bears =
            armed_has (λ s. Bears (Undisturbed site) site clean s turns) tt (λ due waits fallback. tt) f.managed.conf at f.local.iface f.local.state k.bears;
      }

  -- or where a client begins, which is bound to none
  begin_local_keeps : (turns : List Entry) (f : Iface) → is_on f ≡ true → is_bound f.dhcp4.state ≡ false → Keeps site clean f turns
      → Keeps site clean (begin_local at f).iface turns
  begin_local_keeps turns f on unbound k = record {
    sane = begin_local_sane site.managed at f on unbound k.sane;
    stopped = k.stopped;
    carrier = k.carrier;
    bears = armed_has (λ s. Bears (Undisturbed site) site clean s turns) tt (λ due waits fallback. tt) f.managed.conf at f.local.iface f.local.state k.bears;
  }

  -- arming says nothing
  armed_said : (said more rest : List Said) (g : Iface) (held : Bool)
      → Spelled (said ++ ((more ++ (if held then silent g else silent (record g { local = armed g.managed.conf at g.local })).said) ++ rest))
      → Spelled (((said ++ more) ++ rest) ++ [])
  armed_said said more rest g held h = subst Spelled (in_order said more rest) (by held h)
    where
      by : (held : Bool) → Spelled (said ++ ((more ++ (if held then silent g else silent (record g { local = armed g.managed.conf at g.local })).said) ++ rest))
          → Spelled (said ++ ((more ++ []) ++ rest))
      by true spelled = spelled
      by false spelled = spelled

      in_order : (a b c : List Said) → a ++ ((b ++ []) ++ c) ≡ ((a ++ b) ++ c) ++ []
      in_order a b c = ap (λ (x : List Said). a ++ (x ++ c)) (append-nil b) ∙ sym (append_assoc a b c) ∙ sym (append-nil ((a ++ b) ++ c))

  -- DHCPv4 goes a step where it runs, then link-local is armed, and DHCPv6 goes a step where it runs
  armed_keeps : (event : Event) (said : List Said) (runs : Bool) (f : Iface) (step : Step4) (turned : Iface → Turned6) → f.stopped ≡ false → f.up ≡ true
      → Passes event true → (runs ≡ true → Goes site.managed f step) → Before event said f
      → AfterInput event said (then_step (then_step (perhaps runs f step) (arms at)) (λ g. if_dhcp6 g (turned g)))
  armed_keeps event said runs f step turned going up passes goes b h =
      let first : IfaceStep = perhaps runs f step in
      let second : Iface = (arms at first.iface).iface in
      let six : List Said = (if_dhcp6 second (turned second)).said in
      let going_then : first.iface.stopped ≡ false = perhaps_stopped runs f step ∙ going in
      let up_then : first.iface.up ≡ true = perhaps_up runs f step ∙ up in
      then6_keeps site clean (entry at event bytes offers ∷ past) second (turned second)
      (arms_keeps (entry at event bytes offers ∷ past) first.iface (on_when first.iface up_then going_then)
      (passed_keeps event ((said ++ first.said) ++ six) first.iface going_then (subst (λ (u : Bool). Passes event u) (sym up_then) passes)
      (more_said event (said ++ first.said) six first.iface (if_silent6 site.managed.spec.mac second (turned second))
      (perhaps_amid event said runs f step goes b))
      (armed_said said first.said six first.iface (holds_lease first.iface) h)))

  -- ---- frames

  local_keeps : (index len : ℕ) (said : List Said) (f : Iface) (arp : ArpView) → Before (Frame index len) said f
      → arp_on (index_at site) (Frame index len) bytes ≡ Some arp → AfterInput (Frame index len) said (local_hears site.own at salt arp f)
  local_keeps index len said f arp b heard h = record {
    sane = local_sane site.managed f (ll_hears site.own f.local arp at salt) (hear_off site.own f.local.iface f.local.state arp at salt) b.sane;
    stopped = b.stopped;
    carrier = b.carrier;
    bears =
        heard_bears (Undisturbed site) site clean (entry at (Frame index len) bytes offers) past salt f.local.iface f.local.state said arp b.bears tt heard h;
  }

  packet_keeps : (index len : ℕ) (said : List Said) (f : Iface) (arp : ArpView) → Before (Frame index len) said f
      → arp_on (index_at site) (Frame index len) bytes ≡ Some arp → AfterInput (Frame index len) said (hears_packet site.own at salt arp f)
  packet_keeps index len said f arp b heard h =
      let step : Step4 = arp_step site.own at salt arp f.dhcp4 in
      let first : IfaceStep = dhcp4_packet site.own at salt arp f in
      local_keeps index len (said ++ said_in step) first.iface arp
      (step_amid (Frame index len) said f step (packet_goes site.managed f b.sane at salt early site.own arp) b) heard
      (bracket said (said_in step) (local_hears site.own at salt arp first.iface).said h)

  no_packet : (index len : ℕ) (up : Bool) → arp_on (index_at site) (Frame index len) bytes ≡ None → Passes (Frame index len) up
  no_packet index len up none = record { runs = refl; carries = refl; stays = tt; none = none }

  message6_keeps : (index len : ℕ) (said : List Said) (f : Iface) (message : Option HeardMessage6) → f.stopped ≡ false → Before (Frame index len) said f
      → arp_on (index_at site) (Frame index len) bytes ≡ None → AfterInput (Frame index len) said (hears_message6 at salt message f)
  message6_keeps index len said f None going b none = passed_keeps (Frame index len) said f going (no_packet index len f.up none) b
  message6_keeps index len said f (Some heard) going b none =
      dhcp6_keeps (Frame index len) said f (hears_turned at salt heard.message f.dhcp6) (off6.hears_off at salt f.dhcp6 heard.message) going
      (no_packet index len f.up none) b

  message_keeps : (index len : ℕ) (said : List Said) (f : Iface) (message : Option HeardMessage) (message6 : Option HeardMessage6) → f.stopped ≡ false
      → Before (Frame index len) said f → arp_on (index_at site) (Frame index len) bytes ≡ None
      → AfterInput (Frame index len) said (hears_message at salt message message6 f)
  message_keeps index len said f None message6 going b none h = message6_keeps index len said f message6 going b none h
  message_keeps index len said f (Some heard) message6 going b none h =
      let arrival : Arrival = arrival_at at heard in
      let step : Step4 = heard_step salt arrival f.dhcp4 in
      let with_values : Iface = taking site.managed f b.sane salt arrival early in
      let taken_amid : Before (Frame index len) said with_values = record {
        sane = taking_sane site.managed f b.sane salt arrival early;
        stopped = b.stopped;
        carrier = b.carrier;
        bears = b.bears;
      } in
      passed_keeps (Frame index len) (said ++ said_in step) (dhcp4_takes at salt arrival f).iface going (no_packet index len f.up none)
      (step_amid (Frame index len) said with_values step (message_goes site.managed f b.sane salt arrival early) taken_amid)
      (subst Spelled (sym (append-nil (said ++ said_in step))) h)

  frame_keeps : (index len : ℕ) (said : List Said) (f : Iface) (arp : Option ArpView) (message : Option HeardMessage) (message6 : Option HeardMessage6)
      → f.stopped ≡ false → Before (Frame index len) said f → arp_on (index_at site) (Frame index len) bytes ≡ arp
      → AfterInput (Frame index len) said (hears_either site.own at salt arp message message6 f)
  frame_keeps index len said f (Some arp) message message6 going b heard = packet_keeps index len said f arp b heard
  frame_keeps index len said f None message message6 going b none = message_keeps index len said f message message6 going b none

  -- ---- the carrier

  -- the carrier comes to machines that are off
  comes_keeps : (index : ℕ) (said : List Said) (f : Iface) → (index_at site == index) ≡ true → f.stopped ≡ false → f.up ≡ false
      → Before (Carrier index true) said f → AfterInput (Carrier index true) said (carrier_comes at salt f)
  comes_keeps index said f here going down b h =
      then6_keeps site clean turns second (carrier_turned carrier6.Up at salt second.dhcp6)
      (begin_local_keeps turns first.iface
      (on_when first.iface (perhaps_up (runs_dhcp4 f.managed.conf) lit step) (perhaps_stopped (runs_dhcp4 f.managed.conf) lit step ∙ going))
      (unbound (runs_dhcp4 f.managed.conf)) (begun (runs_dhcp4 f.managed.conf) refl))
    where
      turns : List Entry
      turns = entry at (Carrier index true) bytes offers ∷ past

      lit : Iface
      lit = record f { up = true }

      step : Step4
      step = carrier_step Up at salt lit.dhcp4

      first : IfaceStep
      first = perhaps (runs_dhcp4 f.managed.conf) lit step

      second : Iface
      second = (begin_local at first.iface).iface

      off : AreOff f
      off = b.sane.off (out_when f down)

      unbound : (runs : Bool) → is_bound (perhaps runs lit step).iface.dhcp4.state ≡ false
      unbound true =
          subst (λ (s : State4). is_bound (begin_row (turn_of at salt lit.dhcp4) f.dhcp4.may_stand (kept_terms f.dhcp4) s).state ≡ false) (sym off.dhcp4)
          (begins_unbound (turn_of at salt lit.dhcp4) f.dhcp4.may_stand (kept_terms f.dhcp4))
      unbound false = ap is_bound off.dhcp4

      lit_sane : Sane site.managed lit
      lit_sane = record {
        same = b.sane.same;
        settings = b.sane.settings;
        hosts = b.sane.hosts;
        off = λ out. absurd (let bad : true ≡ false = sym (on_when lit refl going) ∙ out in cc);
        without = b.sane.without;
        without6 = b.sane.without6;
        aside = b.sane.aside;
      }

      goes : runs_dhcp4 f.managed.conf ≡ true → Goes site.managed lit step
      goes runs = begin_goes site.managed lit lit_sane at salt early (on_when lit refl going) runs

      begun : (runs : Bool) → runs_dhcp4 f.managed.conf ≡ runs → Keeps site clean (perhaps runs lit step).iface turns
      begun true runs = record {
        sane = step_sane site at lit step (goes runs) lit_sane;
        stopped = b.stopped;
        carrier = λ _. rw here refl;
        bears = followed_has (λ s. Bears (Undisturbed site) site clean s turns) tt (λ due waits fallback. tt) f.managed.conf at (holds_lease f) step.news
            f.local.iface f.local.state (off_bears site clean f.local.state turns off.link_local);
      }
      begun false runs = record {
        sane = lit_sane;
        stopped = b.stopped;
        carrier = λ _. rw here refl;
        bears = off_bears site clean f.local.state turns off.link_local;
      }

  -- what comes of a carrier, by the one before
  abbrev carried_from : (to before : Bool) → Iface → IfaceStep
  carried_from true before f = if before then silent f else carrier_comes at salt f
  carried_from false before f = if before then carrier_goes at salt f else silent f

  carrier_keeps : (index : ℕ) (to up : Bool) (said : List Said) (f : Iface) → (index_at site == index) ≡ true → f.stopped ≡ false → f.up ≡ up
      → Before (Carrier index to) said f → AfterInput (Carrier index to) said (carried_from to up f)
  carrier_keeps index true true said f here going up b =
      passed_keeps (Carrier index true) said f going (record { runs = refl; carries = rw here (sym up); stays = λ _ _. refl; none = refl }) b
  carrier_keeps index true false said f here going down b = comes_keeps index said f here going down b
  carrier_keeps index false true said f here going up b = λ h. record {
    sane = drops_sane site.managed at salt early (record f { up = false }) b.sane.same b.sane.settings b.sane.hosts;
    stopped = b.stopped;
    carrier = λ _. rw here refl;
    bears = tt;
  }
  carrier_keeps index false false said f here going down b = λ h. record {
    sane = b.sane;
    stopped = b.stopped;
    carrier = λ _. rw here down;
    bears = off_bears site clean f.local.state _ (b.sane.off (out_when f down)).link_local;
  }

  carried_keeps : (index : ℕ) (to : Bool) (said : List Said) (f : Iface) → (index_at site == index) ≡ true → f.stopped ≡ false
      → Before (Carrier index to) said f → AfterInput (Carrier index to) said (carried at salt to f)
  carried_keeps index true said f here going b = carrier_keeps index true f.up said f here going refl b
  carried_keeps index false said f here going b = carrier_keeps index false f.up said f here going refl b

  -- ---- the other inputs

  quietly : (event : Event) (up : Bool) → is_stop event ≡ false → carrier_after (index_at site) event up ≡ up
      → Undisturbed site (entry at event bytes offers) past → arp_on (index_at site) event bytes ≡ None → Passes event up
  quietly event up runs carries stays none = record { runs = runs; carries = carries; stays = stays; none = none }

  rebind_keeps : (index : ℕ) (up : Bool) (said : List Said) (f : Iface) → f.stopped ≡ false → f.up ≡ up → Before (Rebind index) said f
      → AfterInput (Rebind index) said (if up then machines_rebind at salt f else silent f)
  rebind_keeps index true said f going up b =
      armed_keeps (Rebind index) said (runs_dhcp4 f.managed.conf) f (rebind_step at salt f.dhcp4) (λ g. rebind_turned at salt g.dhcp6) going up
      (quietly (Rebind index) true refl refl tt refl)
      (rebind_goes site.managed f b.sane at salt early (on_when f up going)) b
  rebind_keeps index false said f going down b = passed_keeps (Rebind index) said f going (quietly (Rebind index) f.up refl refl tt refl) b

  release_keeps : (index : ℕ) (said : List Said) (f : Iface) → Before (Release index) said f → AfterInput (Release index) said (released at salt f)
  release_keeps index said f b h = record {
    sane = stops_sane site.managed at salt early f b.sane.same b.sane.settings b.sane.hosts Server;
    stopped = b.stopped;
    carrier = b.carrier;
    bears = tt;
  }

  stop_keeps : (said : List Said) (f : Iface) → Before Stop said f → AfterInput Stop said (halted at salt f)
  stop_keeps said f b h = record {
    sane = stops_sane site.managed at salt early (record f { stopped = true }) b.sane.same b.sane.settings b.sane.hosts (told_at_stop f.managed.conf);
    stopped = refl;
    carrier = λ runs. cc;
    bears = tt;
  }

  mine : (f : Iface) (index : ℕ) {v : Bool} → f.managed ≡ site.managed → (index_of f == index) ≡ v → (index_at site == index) ≡ v
  mine f index same h = sym (ap (λ (m : Managed). m.spec.index.number == index) same) ∙ h

  running_keeps : (event : Event) (said : List Said) (f : Iface) → f.stopped ≡ false → Before event said f
      → AfterInput event said (taken site.own at salt event bytes f)
  running_keeps (Frame index len) said f going b =
      split (index_of f == index)
      (λ here. rw here
      (frame_keeps index len said f (arp_heard bytes) (heard4_in f.managed.spec.mac bytes) (heard6_in f.managed.spec.mac bytes) going b
      (rw (mine f index b.sane.same here) refl)))
      (λ elsewhere. rw elsewhere (passed_keeps (Frame index len) said f going (no_packet index len f.up (rw (mine f index b.sane.same elsewhere) refl)) b))
  running_keeps (Carrier index to) said f going b =
      split (index_of f == index)
      (λ here. rw here (carried_keeps index to said f (mine f index b.sane.same here) going b))
      (λ elsewhere. rw elsewhere
      (passed_keeps (Carrier index to) said f going (quietly (Carrier index to) f.up refl (rw (mine f index b.sane.same elsewhere) refl)
      (λ same up. absurd (apart _ _ (mine f index b.sane.same elsewhere) same)) refl) b))
  running_keeps (Duplicate index addr) said f going b =
      split (index_of f == index)
      (λ here. rw here (dhcp6_keeps (Duplicate index addr) said f (contested_turned addr at salt f.dhcp6) (off6.contested_off at salt f.dhcp6 addr) going
      (quietly (Duplicate index addr) f.up refl refl tt refl) b))
      (λ elsewhere. rw elsewhere (passed_keeps (Duplicate index addr) said f going (quietly (Duplicate index addr) f.up refl refl tt refl) b))
  running_keeps (Release index) said f going b =
      split (index_of f == index)
      (λ here. rw here (release_keeps index said f b))
      (λ elsewhere. rw elsewhere (passed_keeps (Release index) said f going (quietly (Release index) f.up refl refl
      (apart _ _ (mine f index b.sane.same elsewhere)) refl) b))
  running_keeps (Rebind index) said f going b =
      split (index_of f == index)
      (λ here. rw here (rebind_keeps index f.up said f going refl b))
      (λ elsewhere. rw elsewhere (passed_keeps (Rebind index) said f going (quietly (Rebind index) f.up refl refl tt refl) b))
  running_keeps Stop said f going b = stop_keeps said f b
  running_keeps Quiet said f going b = passed_keeps Quiet said f going (quietly Quiet f.up refl refl tt refl) b
  running_keeps End said f going b = passed_keeps End said f going (quietly End f.up refl refl tt refl) b

  input_by : (stopped : Bool) (event : Event) (said : List Said) (f : Iface) → f.stopped ≡ stopped → Before event said f
      → AfterInput event said (if stopped then silent f else taken site.own at salt event bytes f)
  input_by true event said f over b = stopped_keeps event said f over b
  input_by false event said f going b = running_keeps event said f going b

  input_keeps : (event : Event) (said : List Said) (f : Iface) → Before event said f → AfterInput event said (input_step site.own at salt event bytes f)
  input_keeps event said f b = input_by f.stopped event said f refl b

-- ---- a turn

module _ (site : Site) (clean : Type 0) (salt : ℕ) (e : Entry) (early : e.moment < 10 ^ 15) (past : List Entry) where
  abbrev from_tick : Iface → IfaceStep
  from_tick f = then_step (ticked e.moment salt f) (input_step site.own e.moment salt e.event e.bytes)

  abbrev AfterTurn : IfaceStep → Type 0
  AfterTurn step =
      Offered site.managed.spec (ask_of site.duid site.managed) clean step.said (offers_on (index_at site) e.offers) → Keeps site clean step.iface (e ∷ past)

  -- after the ticks of DHCPv4 and of link-local
  abbrev two_ticked : Iface → IfaceStep
  two_ticked f = then_step (machine_ticked Dhcp4 e.moment salt f) (machine_ticked LinkLocal e.moment salt)

  two_amid : (f : Iface) → Keeps site (Unit {0}) f past → KeepsAmid site clean e (two_ticked f).said (two_ticked f).iface past
  two_amid f k =
      let step : Step4 = tick_step e.moment salt f.dhcp4 in
      let goes : Goes site.managed f step = tick_goes site.managed f k.sane e.moment salt early in
      let first : Iface = (dhcp4_step e.moment f step).iface in
      record {
        sane = local_sane site.managed first (ll_tick first.local e.moment salt) (tick_off first.local.iface first.local.state e.moment salt)
            (step_sane site e.moment f step goes k.sane);
        stopped = k.stopped;
        carrier = k.carrier;
        bears = tick_amid (Undisturbed site) site clean e past salt (said_in step) first.local.iface first.local.state
            (step_unsaid site e.moment f step goes k.sane)
            (followed_has (λ s. Bears (Undisturbed site) site (Unit {0}) s past) tt (λ due waits fallback. tt)
            f.managed.conf e.moment (holds_lease f) step.news f.local.iface f.local.state k.bears);
      }

  -- and of DHCPv6
  ticks_amid : (f : Iface) → Keeps site (Unit {0}) f past → KeepsAmid site clean e (ticked e.moment salt f).said (ticked e.moment salt f).iface past
  ticks_amid f k =
      let two : IfaceStep = two_ticked f in
      dhcp6_amid site clean e.moment salt early e.bytes e.offers past e.event two.said two.iface (tick_turned e.moment salt two.iface.dhcp6)
      (off6.tick_off e.moment salt two.iface.dhcp6) (two_amid f k)

  tick_keeps : (f : Iface) → Keeps site (Unit {0}) f past → AfterTurn (from_tick f)
  tick_keeps f k =
      input_keeps site clean e.moment salt early e.bytes e.offers past e.event (ticked e.moment salt f).said (ticked e.moment salt f).iface (ticks_amid f k)

  choice : {A : Type 0} (P : A → Type 0) (b : Bool) (x y : A) → (b ≡ true → P x) → (b ≡ false → P y) → P (if b then x else y)
  choice P true x y p q = p refl
  choice P false x y p q = q refl

  pub turn_keeps : (unsent : ℕ) (f : Iface) → Keeps site (is_in unsent (index_of f) ≡ false) f past
      → AfterTurn (from_tick (unsent_in unsent e.moment salt f))
  turn_keeps unsent f k =
      choice (λ g. AfterTurn (from_tick g)) (is_in unsent (index_of f)) (restarted e.moment salt f) f
      (λ failed. tick_keeps (restarted e.moment salt f) (record {
        sane = restarted_sane site.managed e.moment salt early f k.sane;
        stopped = k.stopped;
        carrier = k.carrier;
        bears = restarted_bears (Undisturbed site) site _ past f.local.iface f.local.state e.moment salt k.bears;
      }))
      (λ fine. tick_keeps f (record {
        sane = k.sane;
        stopped = k.stopped;
        carrier = k.carrier;
        bears = clean_bears (Undisturbed site) site _ past f.local.state fine k.bears;
      }))

-- ---- the opening

-- the lease that was kept has an address that a host may have
kept_begins : (kept : Option LeaseContent) → IfSome kept HasText → FitsBegin (option_map terms_of kept)
kept_begins None within = tt
kept_begins (Some lease) within = within.fits.terms

rests_sane : (b : Beginning) → IfSome b.kept4 HasText → (up : Bool) → Sane b.managed (record (resting b) { up = up })
rests_sane b within up = record {
  same = refl;
  settings = refl;
  hosts = record { state = tt; kept = kept_begins b.kept4 within; held = tt };
  off = λ out. record { link_local = refl; dhcp4 = refl };
  without = λ none. refl;
  without6 = λ none. refl;
  aside = λ held. refl;
}

-- a client that begins has no news, whatever was kept
begins_quiet : (turn : Turn4) (may_stand : Bool) (kept : Option Terms4) → (begins turn may_stand kept).news ≡ news.Nothing
begins_quiet turn may_stand None = refl
begins_quiet turn may_stand (Some terms) =
    gated (λ (step : Step4). step.news ≡ news.Nothing) (is_due (expiry terms) turn.at || nat_eq turn.site.times.reboot 0) (to_init turn)
    (rebooting turn (new_exchange turn terms.net.ip) Four (turn.at + SECOND * turn.site.times.reboot) (stood turn may_stand terms)) refl refl

-- after what an opening shows, which is a turn without input
pub opens_keeps : (own : List Mac) (clean : Type 0) (at salt : ℕ) → at < 10 ^ 15 → (offers : List Offer) (b : Beginning) → IfSome b.kept4 HasText → (up : Bool)
    → Keeps (at_site own up b) clean (carrier_at_opening up at salt (resting b)).iface (entry at Quiet [] offers ∷ [])
opens_keeps own clean at salt early offers b within true =
    then6_keeps site clean turns second (carrier_turned carrier6.Up at salt second.dhcp6)
    (begin_local_keeps site clean at salt early [] offers [] turns first.iface (on_first (runs_dhcp4 m.conf)) (unbound (runs_dhcp4 m.conf))
    (begun (runs_dhcp4 m.conf) refl))
  where
    m : Managed
    m = b.managed

    site : Site
    site = at_site own true b

    turns : List Entry
    turns = entry at Quiet [] offers ∷ []

    lit : Iface
    lit = record (resting b) { up = true }

    step : Step4
    step = carrier_step Up at salt lit.dhcp4

    first_when : Bool → IfaceStep
    first_when runs = if runs then dhcp4_step at lit step else silent lit

    first : IfaceStep
    first = first_when (runs_dhcp4 m.conf)

    second : Iface
    second = (begin_local at first.iface).iface

    unbound : (runs : Bool) → is_bound (first_when runs).iface.dhcp4.state ≡ false
    unbound true = begins_unbound (turn_of at salt lit.dhcp4) true (kept_terms lit.dhcp4)
    unbound false = refl

    on_first : (runs : Bool) → is_on (first_when runs).iface ≡ true
    on_first true = refl
    on_first false = refl

    begun : (runs : Bool) → runs_dhcp4 m.conf ≡ runs → Keeps site clean (first_when runs).iface turns
    begun true runs = record {
      sane = step_sane site at lit step (begin_goes m lit (rests_sane b within true) at salt early refl runs) (rests_sane b within true);
      stopped = refl;
      carrier = λ _. refl;
      bears = off_bears site clean (followed m.conf at (holds_lease lit) step.news lit.local).state turns
          (ap (λ (n : News4). (followed m.conf at (holds_lease lit) n lit.local).state) (begins_quiet (turn_of at salt lit.dhcp4) true (kept_terms lit.dhcp4)));
    }
    begun false runs = record { sane = rests_sane b within true; stopped = refl; carrier = λ _. refl; bears = tt }
opens_keeps own clean at salt early offers b within false =
    record { sane = rests_sane b within false; stopped = refl; carrier = λ _. refl; bears = tt }
