-- What the input of a turn is to the DHCPv6 client of an interface: one of its calls.
use Rattle.std.proofs.Common.{◌≡◌, ◌≢◌, ℕ, Bool, true, false, ◌&&◌, ◌||◌, List, [], ◌∷◌, Option, Some, None, refl, sym, ap, subst, ◌∙◌, append-nil, arith, bytes_eq}
use Rattle.std.proofs.lemmas.Bool.{both_ways}
use Rattle.std.proofs.lemmas.Bool.Decides.{nat_tests}
use Rattle.std.specs.Option.{option_and_then, option_map}
use Rattle.std.specs.Prelude.{◌==◌, if◌then◌else◌, option_to_list}
use Rattle.net_types.proofs.CaseLaws.{gated, split}
use Rattle.net_types.specs.declared.address.Ip6.{Ip6}
use Rattle.net_types.specs.declared.address.Mac.{Mac}
use Rattle.frame_link.specs.declared.arp.ArpView.{ArpView}
use Rattle.frame_link.specs.Frames as ethernet
use Rattle.frame_link.specs.Packets.{arp_kind}
use Rattle.udp_frame.specs.Udp6Frames.{udp6_in}
use Rattle.udp_frame.specs.declared.udp4.TheConstants.{KIND_IPV4}
use Rattle.udp_frame.specs.declared.udp6.TheConstants.{KIND_IPV6}
use Rattle.v4_frames.specs.Heard as dhcp4
use Rattle.lease_evidence.specs.Ipv4ll.declared.link_local.LinkLocal.{LinkLocal}
use Rattle.lease_evidence.specs.V4Client.declared.states.Carrier.TheVariants as carrier4
use Rattle.lease_evidence.specs.V4Client.Calls.{carrier_step}
use Rattle.lease_evidence.specs.V4Client.Clients as four
use Rattle.lease_evidence.specs.V4Client.declared.states.Tell.{Tell}
use Rattle.lease_evidence.specs.V4Client.declared.states.Tell.TheVariants as told
use Rattle.v6_options.specs.declared.ia.IaKind.{IaKind}
use Rattle.v6_options.specs.declared.ia.IaKind.TheVariants.{Na, Pd}
use Rattle.v6_message.specs.Replies.{Content6}
use Rattle.v6_frames.specs.Heard.{HeardMessage6, heard6_in, message_for, message_to}
use Rattle.v6_frames.specs.Spelled.{Sent6}
use Rattle.v6_client.specs.declared.states.Carrier6.TheVariants.{Up, Down}
use Rattle.v6_client.specs.declared.states.Tell6.{Tell6}
use Rattle.v6_client.specs.declared.states.Tell6.TheVariants.{Server}
use Rattle.v6_client.specs.Clients.{ClientContent}
use Rattle.v6_client.specs.Runs.{Turned6, carrier_turned, contested_turned, hears_turned, rebind_turned, release_turned, rested, tick_turned}
use Rattle.world.specs.declared.wakes.Event.{Event}
use Rattle.world.specs.declared.wakes.Event.TheVariants.{Frame, Carrier, Duplicate, Release, Rebind, Stop, Quiet, End}
use Rattle.settings.specs.declared.interfaces.Managed.{Managed}
use Rattle.lease_evidence.specs.ClientModel.declared.interfaces.Iface.{Iface}
use Rattle.lease_evidence.specs.ClientModel.declared.steps.News.{News}
use Rattle.lease_evidence.specs.ClientModel.declared.steps.News.TheVariants as news
use Rattle.lease_evidence.specs.ClientModel.ClientSettings6.{runs_dhcp6}
use Rattle.lease_evidence.specs.ClientModel.Dhcp4Steps.{arms, arrival_at, begin_dhcp4, begin_local, dhcp4_packet, dhcp4_takes, drop_dhcp4, rebind_dhcp4, stop_dhcp4, tick_dhcp4}
use Rattle.lease_evidence.specs.ClientModel.ClientSettings.{runs_dhcp4}
use Rattle.lease_evidence.specs.ClientModel.Dhcp6Steps.{begin_dhcp6, contested, dhcp6_step, drop_dhcp6, rebind_dhcp6, stop_dhcp6, tell6_of, tick_dhcp6}
use Rattle.lease_evidence.specs.ClientModel.IfaceSteps.{IfaceStep, silent, then_step, with_news}
use Rattle.lease_evidence.specs.ClientModel.IfaceTurns.{arp_heard, arp_of_frame, hears_either, input_step, taken}
use Rattle.lease_evidence.specs.ClientModel.Interfaces.{begins, carried, carrier_goes, halted, machines_drop, machines_rebind, machines_stop, rebound, released, tells, ticked, told_at_stop}
use Rattle.lease_evidence.specs.ClientModel.LocalSteps.{local_hears, local_off, tick_local}
use Rattle.lease_evidence.specs.EvidenceWords.Entries.{Entry, Offer}
use Rattle.lease_evidence.specs.EvidenceWords.Inputs.{Site, GoesOn, StaysOn, carrier_after, has_carrier, index_at, is_stop}
use Rattle.lease6_evidence.specs.ItemBasis.{NotContested}
use Rattle.lease6_evidence.specs.Replies6.{message6_at, message6_on}
use Rattle.lease6_evidence.proofs.Steps6.{Does, Skips, arms_skips, begin_local_skips, dhcp4_skips, dhcp6_does, local_skips, message_in, off_skips, silent_skips, sixes, then_does, then_skips}

-- ---- the calls of a client

pub data Call6 : Type 0 where
  -- the interface was told to stop
  Ignores : Call6
  Rests : Call6
  Hears : Content6 → Call6
  Begins : Call6
  Drops : Call6
  Contests : Ip6 → Call6
  Releases : Tell6 → Call6
  Rebinds : Call6

abbrev pub run6 : Call6 → (at salt : ℕ) → ClientContent → Turned6
run6 Ignores at salt c = rested c
run6 Rests at salt c = rested c
run6 (Hears message) at salt c = hears_turned at salt message c
run6 Begins at salt c = carrier_turned Up at salt c
run6 Drops at salt c = carrier_turned Down at salt c
run6 (Contests address) at salt c = contested_turned address at salt c
run6 (Releases tell) at salt c = release_turned tell at salt c
run6 Rebinds at salt c = rebind_turned at salt c

-- the carrier stays, nothing is given back, no stop comes, and nobody is reported to use an address
pub record Goes6 (site : Site) (e : Entry) (past : List Entry) : Type 0 where
  pub stays : StaysOn site e past
  pub own : (kind : IaKind) (ip : Ip6) → NotContested (index_at site) kind ip e.event

-- the address alone may be used by others
pub record GoesBut (site : Site) (e : Entry) (past : List Entry) (address : Ip6) : Type 0 where
  pub stays : StaysOn site e past
  pub own : (ip : Ip6) → ip.number ≢ address.number → NotContested (index_at site) Na ip e.event

-- what a turn has for such a call
abbrev pub FitsCall6 : Site → Entry → List Entry → Call6 → Type 0
FitsCall6 site e past Ignores = Unit {0}
FitsCall6 site e past Rests = Goes6 site e past × (message6_at site e ≡ None)
FitsCall6 site e past (Hears message) = Goes6 site e past × (message6_at site e ≡ Some message)
FitsCall6 site e past Begins = Goes6 site e past × (message6_at site e ≡ None) × (has_carrier site (e ∷ past) ≡ true)
FitsCall6 site e past Drops = message6_at site e ≡ None
FitsCall6 site e past (Contests address) = GoesBut site e past address × (message6_at site e ≡ None)
FitsCall6 site e past (Releases tell) = message6_at site e ≡ None
FitsCall6 site e past Rebinds = Goes6 site e past × (message6_at site e ≡ None)

-- ---- steps of an interface as calls

abbrev pub says_of : Iface → Turned6 → List Sent6
says_of f turned = option_to_list (message_in f.managed.spec.mac f.dhcp6.settings.duid turned.out)

-- the interface's client goes on by this call
abbrev pub Runs : Iface → Turned6 → IfaceStep → Type 0
Runs f turned step = Does f turned.client (says_of f turned) step

call_runs : (call : ClientContent → Turned6) (f g : Iface) → g.managed ≡ f.managed → g.dhcp6 ≡ f.dhcp6
    → Does g (call f.dhcp6).client (says_of f (call f.dhcp6)) (dhcp6_step g (call g.dhcp6))
call_runs call f g same client_is =
    subst (λ (m : Managed). Does g (call f.dhcp6).client
    (option_to_list (message_in m.spec.mac f.dhcp6.settings.duid (call f.dhcp6).out)) (dhcp6_step g (call g.dhcp6))) same
    (subst (λ (c : ClientContent). Does g (call c).client
    (option_to_list (message_in g.managed.spec.mac c.settings.duid (call c).out)) (dhcp6_step g (call g.dhcp6))) client_is
    (dhcp6_does g (call g.dhcp6)))

-- after a step that does nothing for the client
then_runs : (call : ClientContent → Turned6) (f : Iface) (first : IfaceStep) (next : Iface → IfaceStep) → Skips f first
    → ((g : Iface) → g.managed ≡ f.managed → g.dhcp6 ≡ f.dhcp6 → Does g (call f.dhcp6).client (says_of f (call f.dhcp6))
    (next g))
    → Runs f (call f.dhcp6) (then_step first next)
then_runs call f first next one two = then_does f f.dhcp6 (call f.dhcp6).client [] (says_of f (call f.dhcp6)) first next one two

module _ (at salt : ℕ) where
  begin4_skips : (f : Iface) → Skips f (begin_dhcp4 at salt f)
  begin4_skips f = gated (λ (step : IfaceStep). Skips f step) (runs_dhcp4 f.managed.conf) _ _ (dhcp4_skips at f _)
      (silent_skips f)

  rebind4_skips : (f : Iface) → Skips f (rebind_dhcp4 at salt f)
  rebind4_skips f = gated (λ (step : IfaceStep). Skips f step) (runs_dhcp4 f.managed.conf) _ _ (dhcp4_skips at f _)
      (silent_skips f)

  pub ticks_run : (f : Iface) → Runs f (tick_turned at salt f.dhcp6) (ticked at salt f)
  ticks_run f =
      then_runs (tick_turned at salt) f _ (tick_dhcp6 at salt)
      (then_skips f f.dhcp6 [] (tick_dhcp4 at salt f) (tick_local at salt) (dhcp4_skips at f _) (λ g. local_skips g _))
      (λ g same client_is. call_runs (tick_turned at salt) f g same client_is)

  drops_run : (f : Iface) → Runs f (carrier_turned Down at salt f.dhcp6) (machines_drop at salt f)
  drops_run f =
      then_runs (carrier_turned Down at salt) f _ (drop_dhcp6 at salt)
      (then_skips f f.dhcp6 [] (drop_dhcp4 at salt f) local_off (dhcp4_skips at f (carrier_step carrier4.Down at salt f.dhcp4))
      off_skips)
      (λ g same client_is. call_runs (carrier_turned Down at salt) f g same client_is)

  stops_run : (tell : Tell) (f : Iface) → Runs f (release_turned (tell6_of tell) at salt f.dhcp6) (machines_stop tell at salt f)
  stops_run tell f =
      then_runs (release_turned (tell6_of tell) at salt) f _ (stop_dhcp6 tell at salt)
      (then_skips f f.dhcp6 [] (stop_dhcp4 tell at salt f) local_off (dhcp4_skips at f _) off_skips)
      (λ g same client_is. call_runs (release_turned (tell6_of tell) at salt) f g same client_is)

  -- the client begins, where DHCPv6 runs
  abbrev pub begins_or_rests : (runs : Bool) → ClientContent → Turned6
  begins_or_rests runs c = if runs then carrier_turned Up at salt c else rested c

  abbrev rebinds_or_rests : (runs : Bool) → ClientContent → Turned6
  rebinds_or_rests runs c = if runs then rebind_turned at salt c else rested c

  either_runs : (call : ClientContent → Turned6) (runs : Bool) (f g : Iface) → g.managed ≡ f.managed → g.dhcp6 ≡ f.dhcp6
      → Does g (if runs then call f.dhcp6 else rested f.dhcp6).client
      (says_of f (if runs then call f.dhcp6 else rested f.dhcp6))
      (if runs then dhcp6_step g (call g.dhcp6) else silent g)
  either_runs call true f g same client_is = call_runs call f g same client_is
  either_runs call false f g same client_is =
      record { managed = refl; up = refl; stopped = refl; client_is = client_is; says_are = refl }

  pub begins_run : (f : Iface) → Runs f (begins_or_rests (runs_dhcp6 f.managed.conf) f.dhcp6) (begins at salt f)
  begins_run f =
      then_runs (begins_or_rests (runs_dhcp6 f.managed.conf)) f _ (begin_dhcp6 at salt)
      (then_skips f f.dhcp6 [] (begin_dhcp4 at salt f) (begin_local at) (begin4_skips f) (begin_local_skips at))
      (λ g same client_is.
      subst (λ (m : Managed). Does g (begins_or_rests (runs_dhcp6 f.managed.conf) f.dhcp6).client
      (says_of f (begins_or_rests (runs_dhcp6 f.managed.conf) f.dhcp6))
      (if runs_dhcp6 m.conf then dhcp6_step g (carrier_turned Up at salt g.dhcp6) else silent g)) (sym same)
      (either_runs (carrier_turned Up at salt) (runs_dhcp6 f.managed.conf) f g same client_is))

  rebinds_run : (f : Iface) → Runs f (rebinds_or_rests (runs_dhcp6 f.managed.conf) f.dhcp6) (machines_rebind at salt f)
  rebinds_run f =
      then_runs (rebinds_or_rests (runs_dhcp6 f.managed.conf)) f _ (rebind_dhcp6 at salt)
      (then_skips f f.dhcp6 [] (rebind_dhcp4 at salt f) (arms at) (rebind4_skips f) (arms_skips at))
      (λ g same client_is.
      subst (λ (m : Managed). Does g (rebinds_or_rests (runs_dhcp6 f.managed.conf) f.dhcp6).client
      (says_of f (rebinds_or_rests (runs_dhcp6 f.managed.conf) f.dhcp6))
      (if runs_dhcp6 m.conf then dhcp6_step g (rebind_turned at salt g.dhcp6) else silent g)) (sym same)
      (either_runs (rebind_turned at salt) (runs_dhcp6 f.managed.conf) f g same client_is))

  pub rests_run : (f : Iface) → Runs f (rested f.dhcp6) (silent f)
  rests_run f = record { managed = refl; up = refl; stopped = refl; client_is = refl; says_are = refl }

  skips_run : (f : Iface) (step : IfaceStep) → Skips f step → Runs f (rested f.dhcp6) step
  skips_run f step h = h

-- with something new
pub news_runs : (f : Iface) (turned : Turned6) (told : News) (before : Iface) (step : IfaceStep) → Runs f turned step
    → Runs f turned (with_news told before step)
news_runs f turned told before step h = record {
  managed = h.managed;
  up = h.up;
  stopped = h.stopped;
  client_is = h.client_is;
  says_are = h.says_are;
}

-- the same, told last
told_last : (f : Iface) (turned : Turned6) (told : News) (step : IfaceStep) → Runs f turned step → Runs f turned (then_step step (tells told))
told_last f turned told step h = record {
  managed = h.managed;
  up = h.up;
  stopped = h.stopped;
  client_is = h.client_is;
  says_are = ap sixes (append-nil step.said) ∙ h.says_are;
}

-- ---- frames of other kinds

kind_of_arp : (kind : ℕ) → (kind == arp_kind) ≡ true → (kind == KIND_IPV6) ≡ false
kind_of_arp kind h = grind (arith, nat_tests)

kind_of_ipv4 : (kind : ℕ) → (kind == KIND_IPV4) ≡ true → (kind == KIND_IPV6) ≡ false
kind_of_ipv4 kind h = grind (arith, nat_tests)

not_for : (mac : Mac) (frame : ethernet.Frame) → (frame.kind == KIND_IPV6) ≡ false → message_for mac frame ≡ None
not_for mac frame other = rw other (by_test (bytes_eq frame.to.bytes mac.bytes))
  where
    by_test : (b : Bool) → (if b && false then option_and_then (message_to mac frame.from) (udp6_in frame.body) else None)
        ≡ None
    by_test true = refl
    by_test false = refl

arp_no_six : (mac : Mac) (arp : ArpView) (frame : Option ethernet.Frame) → option_and_then arp_of_frame frame ≡ Some arp
    → option_and_then (message_for mac) frame ≡ None
arp_no_six mac arp None h = refl
arp_no_six mac arp (Some frame) h =
    split (frame.kind == arp_kind) (λ is. not_for mac frame (kind_of_arp frame.kind is))
    (λ other. absurd (none (rw other at h)))
  where
    none : None ≡ Some arp → ⊥
    none e = cc

four_no_six : (mac : Mac) (heard : dhcp4.HeardMessage) (frame : Option ethernet.Frame)
    → option_and_then (dhcp4.message_for mac) frame ≡ Some heard
    → option_and_then (message_for mac) frame ≡ None
four_no_six mac heard None h = refl
four_no_six mac heard (Some frame) h =
    split (frame.kind == KIND_IPV4) (λ is. not_for mac frame (kind_of_ipv4 frame.kind is))
    (λ other. absurd (none (sym (not_four other) ∙ h)))
  where
    none : None ≡ Some heard → ⊥
    none e = cc

    and_false : (a b : Bool) → b ≡ false → (a && b) ≡ false
    and_false true b h = h
    and_false false b h = refl

    not_four : (frame.kind == KIND_IPV4) ≡ false → dhcp4.message_for mac frame ≡ None
    not_four other = rw (and_false (dhcp4.same_mac frame.to mac || dhcp4.same_mac frame.to ethernet.broadcast)
        (frame.kind == KIND_IPV4) other) refl

packet_no_six : (mac : Mac) (bytes : List ℕ) (arp : ArpView) → arp_heard bytes ≡ Some arp → heard6_in mac bytes ≡ None
unfolding heard6_in
packet_no_six mac bytes arp h = arp_no_six mac arp (ethernet.frame_in bytes) h

message4_no_six : (mac : Mac) (bytes : List ℕ) (heard : dhcp4.HeardMessage) → dhcp4.heard4_in mac bytes ≡ Some heard
    → heard6_in mac bytes ≡ None
unfolding heard6_in dhcp4.heard4_in
message4_no_six mac bytes heard h = four_no_six mac heard (ethernet.frame_in bytes) h

-- ---- the input of a turn

-- after such a call the client is off
abbrev pub IsHalt : Call6 → Type 0
IsHalt Ignores = Unit {0}
IsHalt (Releases tell) = Unit {0}
IsHalt _ = ⊥

goes_on_not : (stopped : Bool) → stopped ≡ false → stopped ≡ true → ⊥
goes_on_not stopped f t = cc

module _ (site : Site) (at salt : ℕ) (bytes : List ℕ) (offers : List Offer) (past : List Entry) where
  abbrev pub turn_entry : Event → Entry
  turn_entry event = record { moment = at; event = event; bytes = bytes; offers = offers }

  -- what an input makes of an interface
  pub record InputRuns (event : Event) (f : Iface) (step : IfaceStep) : Type 0 where
    pub call : Call6
    pub fits : FitsCall6 site (turn_entry event) past call
    pub managed : step.iface.managed ≡ f.managed
    pub client_is : step.iface.dhcp6 ≡ (run6 call at salt f.dhcp6).client
    pub says_are : sixes step.said ≡ says_of f (run6 call at salt f.dhcp6)
    pub up : f.stopped ≡ false → step.iface.up ≡ carrier_after (index_at site) event f.up
    pub stopped : step.iface.stopped ≡ (is_stop event || f.stopped)
    pub ignores : call ≡ Ignores → f.stopped ≡ true
    pub halts : step.iface.stopped ≡ true → IsHalt call

  module _ (up : Bool) (carrier : up ≡ has_carrier site past) (c4 : four.ClientContent) (local : LinkLocal)
      (c6 : ClientContent) where
    abbrev pub faced : (up stopped : Bool) → Iface
    faced up stopped = record { managed = site.managed; up = up; stopped = stopped; dhcp4 = c4; local = local; dhcp6 = c6 }

    abbrev f : Iface
    f = faced up false

    not_ignored : (call : Call6) → (call ≡ Ignores → ⊥) → call ≡ Ignores → f.stopped ≡ true
    not_ignored call never is = absurd (never is)

    -- an input by which the interface stays as it is
    by_call : (event : Event) (call : Call6) (step : IfaceStep) → FitsCall6 site (turn_entry event) past call
        → Runs f (run6 call at salt c6) step
        → carrier_after (index_at site) event up ≡ up → is_stop event ≡ false → (call ≡ Ignores → ⊥) → InputRuns event f step
    by_call event call step fits does same_carrier runs never = record {
      call = call;
      fits = fits;
      managed = does.managed;
      client_is = does.client_is;
      says_are = does.says_are;
      up = λ k. does.up ∙ sym same_carrier;
      stopped = does.stopped ∙ ap (λ (b : Bool). b || false) (sym runs);
      ignores = not_ignored call never;
      halts = λ k. absurd (goes_on_not step.iface.stopped does.stopped k);
    }

    rests_by : (event : Event) (step : IfaceStep) → Goes6 site (turn_entry event) past
        → message6_at site (turn_entry event) ≡ None → Skips f step
        → carrier_after (index_at site) event up ≡ up → is_stop event ≡ false → InputRuns event f step
    rests_by event step goes none does same_carrier runs = by_call event Rests step (goes, none) does same_carrier runs
        (λ h. cc)

    plain_goes : (event : Event) → GoesOn (has_carrier site past) (index_at site) event
        → ((ip : Ip6) → NotContested (index_at site) Na ip event)
        → Goes6 site (turn_entry event) past
    plain_goes event stays own = record { stays = stays; own = by_kind }
      where
        by_kind : (kind : IaKind) (ip : Ip6) → NotContested (index_at site) kind ip event
        by_kind Na ip = own ip
        by_kind Pd ip = tt

    -- ---- frames

    frame_goes : (index len : ℕ) → Goes6 site (turn_entry (Frame index len)) past
    frame_goes index len = plain_goes (Frame index len) tt (λ ip. tt)

    no_message : (event : Event) → message6_on site event bytes ≡ None → message6_at site (turn_entry event) ≡ None
    no_message event none = ap (λ (m : Option HeardMessage6). option_map (λ heard. heard.message) m) none

    as_faced : (g : Iface) (step : IfaceStep) → g.managed ≡ f.managed → g.up ≡ f.up → g.stopped ≡ f.stopped → g.dhcp6 ≡ f.dhcp6
        → Skips g step → Skips f step
    as_faced g step managed up stopped client_is does = record {
      managed = does.managed ∙ managed;
      up = does.up ∙ up;
      stopped = does.stopped ∙ stopped;
      client_is = does.client_is ∙ client_is;
      says_are = does.says_are;
    }

    heard_input : (index len : ℕ) (arp : Option ArpView) (message4 : Option dhcp4.HeardMessage)
        (message6 : Option HeardMessage6)
        → ((packet : ArpView) → arp ≡ Some packet → message6 ≡ None) → ((heard : dhcp4.HeardMessage) → message4 ≡ Some heard
        → message6 ≡ None)
        → message6_on site (Frame index len) bytes ≡ message6
        → InputRuns (Frame index len) f (hears_either site.own at salt arp message4 message6 f)
    heard_input index len (Some arp) message4 message6 one two is =
        rests_by (Frame index len) _ (frame_goes index len) (no_message (Frame index len) (is ∙ one arp refl))
        (then_skips f f.dhcp6 [] (dhcp4_packet site.own at salt arp f) (local_hears site.own at salt arp) (dhcp4_skips at f _)
        (λ g. local_skips g _)) refl refl
    heard_input index len None (Some heard) message6 one two is =
        rests_by (Frame index len) _ (frame_goes index len) (no_message (Frame index len) (is ∙ two heard refl))
        (as_faced _ (dhcp4_takes at salt (arrival_at at heard) f) refl refl refl refl (dhcp4_skips at _ _)) refl refl
    heard_input index len None None None one two is =
        rests_by (Frame index len) (silent f) (frame_goes index len) (no_message (Frame index len) is) (silent_skips f) refl
        refl
    heard_input index len None None (Some heard) one two is =
        by_call (Frame index len) (Hears heard.message) _
        (frame_goes index len, ap (λ (m : Option HeardMessage6). option_map (λ heard. heard.message) m) is)
        (dhcp6_does f (hears_turned at salt heard.message c6)) refl refl (λ h. cc)

    frame_input : (index len : ℕ) → InputRuns (Frame index len) f (taken site.own at salt (Frame index len) bytes f)
    frame_input index len =
        split (index_at site == index)
        (λ here. rw here (heard_input index len (arp_heard bytes) (dhcp4.heard4_in site.managed.spec.mac bytes)
        (heard6_in site.managed.spec.mac bytes)
        (packet_no_six site.managed.spec.mac bytes) (message4_no_six site.managed.spec.mac bytes) (rw here refl)))
        (λ elsewhere. rw elsewhere (rests_by (Frame index len) (silent f) (frame_goes index len)
        (no_message (Frame index len) (rw elsewhere refl)) (silent_skips f) refl refl))

    -- ---- the carrier

    equal_index : (a b : ℕ) → a ≡ b → (a == b) ≡ true
    equal_index a b h = grind (arith, nat_tests)

    elsewhere_not : (index : ℕ) → (index_at site == index) ≡ false → index_at site ≡ index → ⊥
    elsewhere_not index other same = both_ways (index_at site == index) other (equal_index (index_at site) index same)

    begin_by : (event : Event) (runs : Bool) (step : IfaceStep) → Goes6 site (turn_entry event) past
        → message6_at site (turn_entry event) ≡ None
        → Runs (faced true false) (begins_or_rests at salt runs c6) step → carrier_after (index_at site) event up ≡ true
        → is_stop event ≡ false
        → InputRuns event f step
    begin_by event true step goes none does comes runs = record {
      call = Begins;
      fits = (goes, none, ap (carrier_after (index_at site) event) (sym carrier) ∙ comes);
      managed = does.managed;
      client_is = does.client_is;
      says_are = does.says_are;
      up = λ k. does.up ∙ sym comes;
      stopped = does.stopped ∙ ap (λ (b : Bool). b || false) (sym runs);
      ignores = not_ignored Begins (λ h. cc);
      halts = λ k. absurd (goes_on_not step.iface.stopped does.stopped k);
    }
    begin_by event false step goes none does comes runs = record {
      call = Rests;
      fits = (goes, none);
      managed = does.managed;
      client_is = does.client_is;
      says_are = does.says_are;
      up = λ k. does.up ∙ sym comes;
      stopped = does.stopped ∙ ap (λ (b : Bool). b || false) (sym runs);
      ignores = not_ignored Rests (λ h. cc);
      halts = λ k. absurd (goes_on_not step.iface.stopped does.stopped k);
    }

    rebind_by : (index : ℕ) (runs : Bool) (step : IfaceStep) → Goes6 site (turn_entry (Rebind index)) past
        → Runs f (rebinds_or_rests at salt runs c6) step → InputRuns (Rebind index) f step
    rebind_by index true step goes does = by_call (Rebind index) Rebinds step (goes, refl) does refl refl (λ h. cc)
    rebind_by index false step goes does = by_call (Rebind index) Rests step (goes, refl) does refl refl (λ h. cc)

  -- a carrier that is lost
  drop_input : (index : ℕ) (up : Bool) (c4 : four.ClientContent) (local : LinkLocal) (c6 : ClientContent)
      → carrier_after (index_at site) (Carrier index false) up ≡ false
      → InputRuns (Carrier index false) (record {
        managed = site.managed;
        up = up;
        stopped = false;
        dhcp4 = c4;
        local =
            local;
        dhcp6 = c6;
      })
      (carrier_goes at salt (record {
        managed = site.managed;
        up = up;
        stopped = false;
        dhcp4 = c4;
        local = local;
        dhcp6 =
            c6;
      }))
  drop_input index up c4 local c6 goes =
      let does = drops_run at salt (record {
        managed = site.managed;
        up = false;
        stopped = false;
        dhcp4 = c4;
        local =
            local;
        dhcp6 = c6;
      }) in
      record {
        call = Drops;
        fits = refl;
        managed = does.managed;
        client_is = does.client_is;
        says_are = does.says_are;
        up = λ k. does.up ∙ sym goes;
        stopped = does.stopped;
        ignores = λ h. cc;
        halts = λ k. absurd (goes_on_not _ does.stopped k);
      }

  module _ (c4 : four.ClientContent) (local : LinkLocal) (c6 : ClientContent) where
    abbrev face : (up stopped : Bool) → Iface
    face up stopped = record { managed = site.managed; up = up; stopped = stopped; dhcp4 = c4; local = local; dhcp6 = c6 }

    carrier_goes_on : (index : ℕ) (now : Bool) → (has_carrier site past ≡ true → now ≡ true)
        → Goes6 site (turn_entry (Carrier index now)) past
    carrier_goes_on index now h = record { stays = λ same was. h was; own = λ kind ip. by_kind kind ip }
      where
        by_kind : (kind : IaKind) (ip : Ip6) → NotContested (index_at site) kind ip (Carrier index now)
        by_kind Na ip = tt
        by_kind Pd ip = tt

    carrier_input : (index : ℕ) (now up : Bool) → up ≡ has_carrier site past
        → InputRuns (Carrier index now) (face up false) (taken site.own at salt (Carrier index now) bytes (face up false))
    carrier_input index now up carrier =
        split (index_at site == index)
        (λ here. rw here (by_carrier now up carrier here))
        (λ elsewhere. rw elsewhere (rests_by up carrier c4 local c6 (Carrier index now) (silent (face up false))
        (record {
          stays = λ same was. absurd (elsewhere_not up carrier c4 local c6 index elsewhere same);
          own = λ kind ip.
              no_one kind ip;
        }) refl
        (silent_skips (face up false)) (rw elsewhere refl) refl))
      where
        no_one : (kind : IaKind) (ip : Ip6) → NotContested (index_at site) kind ip (Carrier index now)
        no_one Na ip = tt
        no_one Pd ip = tt

        never_lost : (was : Bool) → false ≡ was → was ≡ true → false ≡ true
        never_lost was is yet = is ∙ yet

        by_carrier : (now up : Bool) → up ≡ has_carrier site past → (index_at site == index) ≡ true
            → InputRuns (Carrier index now) (face up false) (carried at salt now (face up false))
        by_carrier true true carrier here =
            rests_by true carrier c4 local c6 (Carrier index true) (silent (face true false))
            (carrier_goes_on index true (λ was. refl)) refl
            (silent_skips (face true false)) (rw here refl) refl
        by_carrier true false carrier here =
            begin_by false carrier c4 local c6 (Carrier index true) (runs_dhcp6 site.managed.conf) _
            (carrier_goes_on index true (λ was. refl)) refl
            (news_runs (face true false) (begins_or_rests at salt (runs_dhcp6 site.managed.conf) c6) news.CarrierCame
            (face false false) (begins at salt (face true false))
            (begins_run at salt (face true false))) (rw here refl) refl
        by_carrier false true carrier here = drop_input index true c4 local c6 (rw here refl)
        by_carrier false false carrier here =
            rests_by false carrier c4 local c6 (Carrier index false) (silent (face false false))
            (carrier_goes_on index false (never_lost (has_carrier site past) carrier)) refl
            (silent_skips (face false false)) (rw here refl) refl

    -- ---- the other inputs

    duplicate_input : (index : ℕ) (address : Ip6) (up : Bool) → up ≡ has_carrier site past
        → InputRuns (Duplicate index address) (face up false) (taken site.own at salt (Duplicate index address) bytes
        (face up false))
    duplicate_input index address up carrier =
        split (index_at site == index)
        (λ here. rw here (by_call up carrier c4 local c6 (Duplicate index address) (Contests address)
        (contested at salt address (face up false))
        (record { stays = tt; own = λ ip other same is. other (ap (λ (a : Ip6). a.number) (sym is)) }, refl)
        (dhcp6_does (face up false) (contested_turned address at salt c6)) refl refl (λ h. cc)))
        (λ elsewhere. rw elsewhere (rests_by up carrier c4 local c6 (Duplicate index address) (silent (face up false))
        (record { stays = tt; own = λ kind ip. no_one kind ip elsewhere }) refl (silent_skips (face up false)) refl refl))
      where
        no_one : (kind : IaKind) (ip : Ip6) → (index_at site == index) ≡ false
            → NotContested (index_at site) kind ip (Duplicate index address)
        no_one Na ip elsewhere = λ same. absurd (elsewhere_not up carrier c4 local c6 index elsewhere same)
        no_one Pd ip elsewhere = tt

    release_input : (index : ℕ) (up : Bool) → up ≡ has_carrier site past
        → InputRuns (Release index) (face up false) (taken site.own at salt (Release index) bytes (face up false))
    release_input index up carrier =
        split (index_at site == index)
        (λ here. rw here (by_call up carrier c4 local c6 (Release index) (Releases Server) (released at salt (face up false))
        refl
        (news_runs (face up false) (release_turned Server at salt c6) news.Released (face up false)
        (machines_stop told.Server at salt (face up false))
        (stops_run at salt told.Server (face up false))) refl refl (λ h. cc)))
        (λ elsewhere. rw elsewhere (rests_by up carrier c4 local c6 (Release index) (silent (face up false))
        (record { stays = elsewhere_not up carrier c4 local c6 index elsewhere; own = λ kind ip. no_one kind ip }) refl
        (silent_skips (face up false)) refl refl))
      where
        no_one : (kind : IaKind) (ip : Ip6) → NotContested (index_at site) kind ip (Release index)
        no_one Na ip = tt
        no_one Pd ip = tt

    rebind_goes : (index : ℕ) → Goes6 site (turn_entry (Rebind index)) past
    rebind_goes index = record { stays = tt; own = λ kind ip. no_one kind ip }
      where
        no_one : (kind : IaKind) (ip : Ip6) → NotContested (index_at site) kind ip (Rebind index)
        no_one Na ip = tt
        no_one Pd ip = tt

    rebind_input : (index : ℕ) (up : Bool) → up ≡ has_carrier site past
        → InputRuns (Rebind index) (face up false) (taken site.own at salt (Rebind index) bytes (face up false))
    rebind_input index up carrier =
        split (index_at site == index)
        (λ here. rw here (by_up up carrier))
        (λ elsewhere. rw elsewhere (rests_by up carrier c4 local c6 (Rebind index) (silent (face up false)) (rebind_goes index)
        refl (silent_skips (face up false)) refl refl))
      where
        by_up : (up : Bool) → up ≡ has_carrier site past
            → InputRuns (Rebind index) (face up false) (rebound at salt (face up false))
        by_up true carrier = rebind_by true carrier c4 local c6 index (runs_dhcp6 site.managed.conf) _ (rebind_goes index)
            (rebinds_run at salt (face true false))
        by_up false carrier = rests_by false carrier c4 local c6 (Rebind index) (silent (face false false)) (rebind_goes index)
            refl (silent_skips (face false false)) refl refl

    stop_input : (up : Bool) → InputRuns Stop (face up false) (halted at salt (face up false))
    stop_input up =
        let tell : Tell = told_at_stop site.managed.conf in
        let turned : Turned6 = release_turned (tell6_of tell) at salt c6 in
        let does = told_last (face up true) turned news.Stopped (machines_stop tell at salt (face up true)) (stops_run at salt tell (face up true)) in
        record {
          call = Releases (tell6_of tell);
          fits = refl;
          managed = does.managed;
          client_is = does.client_is;
          says_are = does.says_are;
          up = λ k. does.up;
          stopped = does.stopped;
          ignores = λ h. cc;
          halts = λ k. tt;
        }

    quiet_goes : (event : Event) → GoesOn (has_carrier site past) (index_at site) event
        → ((kind : IaKind) (ip : Ip6) → NotContested (index_at site) kind ip event)
        → Goes6 site (turn_entry event) past
    quiet_goes event stays own = record { stays = stays; own = own }

    no_quiet : (kind : IaKind) (ip : Ip6) → NotContested (index_at site) kind ip Quiet
    no_quiet Na ip = tt
    no_quiet Pd ip = tt

    no_end : (kind : IaKind) (ip : Ip6) → NotContested (index_at site) kind ip End
    no_end Na ip = tt
    no_end Pd ip = tt

    -- while it wasn't stopped
    running_input : (event : Event) (up : Bool) → up ≡ has_carrier site past
        → InputRuns event (face up false) (taken site.own at salt event bytes (face up false))
    running_input (Frame index len) up carrier = frame_input up carrier c4 local c6 index len
    running_input (Carrier index now) up carrier = carrier_input index now up carrier
    running_input (Duplicate index address) up carrier = duplicate_input index address up carrier
    running_input (Release index) up carrier = release_input index up carrier
    running_input (Rebind index) up carrier = rebind_input index up carrier
    running_input Stop up carrier = stop_input up
    running_input Quiet up carrier =
        rests_by up carrier c4 local c6 Quiet (silent (face up false)) (quiet_goes Quiet tt no_quiet) refl
        (silent_skips (face up false)) refl refl
    running_input End up carrier =
        rests_by up carrier c4 local c6 End (silent (face up false)) (quiet_goes End tt no_end) refl
        (silent_skips (face up false)) refl refl

    or_stopped : (b : Bool) → true ≡ (b || true)
    or_stopped true = refl
    or_stopped false = refl

    -- what an input makes of an interface
    pub input_runs : (event : Event) (up stopped : Bool) → (stopped ≡ false → up ≡ has_carrier site past)
        → InputRuns event (face up stopped) (input_step site.own at salt event bytes (face up stopped))
    input_runs event up true carrier = record {
      call = Ignores;
      fits = tt;
      managed = refl;
      client_is = refl;
      says_are = refl;
      up = λ k. cc;
      stopped = or_stopped (is_stop event);
      ignores = λ h. refl;
      halts = λ k. tt;
    }
    input_runs event up false carrier = running_input event up (carrier refl)
