-- What an interface carries of the turns shown for its lease, and that its inputs keep it.
use Rattle.std.proofs.Common.{◌≡◌, ℕ, ◌<◌, ◌≤◌, ◌^◌, Bool, true, false, ◌&&◌, ◌||◌, List, [], ◌∷◌, ◌++◌, map, Option, Some, None, IfSome, refl, sym, ap, subst, ◌∙◌, arith, append_assoc, append-nil, if◌then◌else◌}
use Rattle.std.proofs.lemmas.Bool.Decides.{nat_tests}
use Rattle.std.specs.Prelude.{◌==◌, option_map, option_and_then, option_to_list}
use Rattle.std.specs.List.{AllByRecursion}
use Rattle.net_types.proofs.CaseLaws.{split, gated}
use Rattle.net_types.specs.Marks.{AreBytes}
use Rattle.net_types.specs.declared.address.Ip6.{Ip6}
use Rattle.net_types.specs.declared.address.Mac.{Mac}
use Rattle.frame_link.specs.declared.arp.ArpView.{ArpView}
use Rattle.frame_link.specs.Frames as ethernet
use Rattle.frame_link.specs.Packets.{arp_kind}
use Rattle.evidence_words.specs.Ipv4ll.Table.{ll_hears}
use Rattle.lease_text.specs.Bounds.{FitsLease, IsTyped}
use Rattle.lease_text.specs.Leases.{LeaseContent, terms_of}
use Rattle.udp_frame.specs.declared.udp4.TheConstants.{KIND_IPV4}
use Rattle.v4_frames.specs.Heard.{HeardMessage, same_mac, message_for, heard4_in}
use Rattle.v4_frames.specs.InRange as sent
use Rattle.evidence_words.specs.V6Frames.Heard.{HeardMessage6, heard6_in}
use Rattle.evidence_words.specs.V6Client.declared.states.Carrier6.TheVariants as carrier6
use Rattle.evidence_words.specs.V6Client.Runs.{Turned6, hears_turned, carrier_turned, contested_turned, release_turned, rebind_turned}
use Rattle.v4_client.specs.declared.states.Answer4.TheVariants as answer
use Rattle.v4_client.specs.declared.states.Carrier.TheVariants.{Up, Down}
use Rattle.v4_client.specs.declared.states.Exchange4.{Exchange4}
use Rattle.v4_client.specs.declared.states.State4.{State4}
use Rattle.v4_client.specs.declared.states.State4.TheVariants.{Off}
use Rattle.v4_client.specs.declared.states.Step4.{Step4}
use Rattle.v4_client.specs.declared.states.Tell.{Tell}
use Rattle.v4_client.specs.declared.states.Tell.TheVariants.{Server}
use Rattle.v4_client.specs.declared.states.Turn4.{Turn4}
use Rattle.v4_client.specs.Answers.{reply_in, answer_of}
use Rattle.v4_client.specs.Calls.{answer_to, arp_step, brought, carrier_step, heard_step, rebind_step, release_step}
use Rattle.v4_client.specs.Clients.{ClientContent, kept_terms, turn_of}
use Rattle.v4_client.specs.Granting.{kept_values}
use Rattle.v4_client.specs.Messages.{Arrival}
use Rattle.v4_client.specs.Hearing.{arp_row, heard_row}
use Rattle.v4_client.specs.Inputs.{begin_row, rebind_row}
use Rattle.v4_client.specs.Moves.{kept_after, moved}
use Rattle.v4_client.specs.Settings.{SettingsContent}
use Rattle.v4_client.specs.Steps.{rests}
use Rattle.v4_client.proofs.SoundAnswers.{answer_fits}
use Rattle.v4_client.proofs.SoundClients.{moved_sound, brought_sound, values_fit, begin_fits}
use Rattle.v4_client.proofs.SoundSteps.{heard_sound, arp_sound, begin_sound, off_sound, release_sound, rebind_sound}
use Rattle.settings.specs.declared.interfaces.Managed.{Managed}
use Rattle.world.specs.declared.wakes.Event.{Event}
use Rattle.world.specs.declared.wakes.Event.TheVariants.{Frame, Carrier, Duplicate, Release, Rebind, Stop, Quiet, End}
use Rattle.evidence_words.specs.ClientModel.declared.interfaces.Iface.{Iface}
use Rattle.evidence_words.specs.ClientModel.Messages.{Said, Arp}
use Rattle.evidence_words.specs.ClientModel.ClientSettings.{ask_of, settings_of, runs_dhcp4}
use Rattle.evidence_words.specs.ClientModel.ClientSettings6.{runs_dhcp6}
use Rattle.evidence_words.specs.ClientModel.Dhcp4Steps.{holds_lease, said_in, dhcp4_step, arrival_at, begin_dhcp4, begin_local, rebind_dhcp4, drop_dhcp4, stop_dhcp4, arms}
use Rattle.evidence_words.specs.ClientModel.Dhcp6Steps.{contested, said6_in, dhcp6_step, tell6_of}
use Rattle.evidence_words.specs.ClientModel.IfaceSteps.{IfaceStep, silent, then_step}
use Rattle.evidence_words.specs.ClientModel.IfaceTurns.{arp_of_frame, arp_heard, hears_message6, hears_either, hears, input_step}
use Rattle.evidence_words.specs.ClientModel.Interfaces.{begins, carried, released, halted, machines_rebind, machines_drop, machines_stop, told_at_stop}
use Rattle.evidence_words.specs.ClientModel.LocalSteps.{local_off}
use Rattle.evidence_words.specs.Entries.{Entry, Offer, offers_on}
use Rattle.evidence_words.specs.Inputs.{Site, index_at, arp_on, carrier_after, has_carrier, is_stop, is_stopped}
use Rattle.evidence_words.proofs.Offers.{Offered}
use Rattle.lease_evidence.specs.Exchanges.{Numbered, Seen}
use Rattle.evidence_words.specs.IfaceLives.{now_in}
use Rattle.lease_evidence.specs.LeaseBasis.{GoodNak, tells_end}
use Rattle.lease_evidence.specs.OwnMessages.{speaker_of}
use Rattle.lease_evidence.specs.Replies.{message_on, reply_by, reply_at}
use Rattle.lease_evidence.proofs.ArrivalFits as heard
use Rattle.lease_evidence.proofs.Carrying.{Carries, Ended, Amid, turn_mac, turn_noarp, turn_flag, seen_amid, kept_amid, within_amid, silent_heard, calm_finish, off_finish}
use Rattle.lease_evidence.proofs.Observer.{Kept, stays_on, stays_at}
use Rattle.lease_evidence.proofs.OwnRows.{rests_own, heard_own, arp_own, begin_own, rebind_own, off_own, release_own}
use Rattle.lease_evidence.proofs.ProbeInputs as probes
use Rattle.lease_evidence.proofs.SayFits as fields
use Rattle.lease_evidence.proofs.SayFits.{FitsGrant, FitsStep}
use Rattle.lease_evidence.proofs.Spoken.{FitsSaid, OwnSaid, AreOther, are_arp, are_dhcp6}
use Rattle.lease_evidence.proofs.Standing as standing
use Rattle.lease_evidence.proofs.Standing.{ShowsBoth, StandsIn, StandsSo, stopped_stands}
use Rattle.lease_evidence.proofs.Watching.{Lasts, message_in}
use Rattle.lease_evidence.proofs.WatchInputs.{HeardAfter, heard_watched, arp_watched, begin_watched, rebind_watched, off_watched, release_watched}

pub record Leased (site : Site) (clean : Type 0) (f : Iface) (past : List Entry) : Type 0 where
  pub stopped : f.stopped ≡ is_stopped past
  pub carrier : f.stopped ≡ false → f.up ≡ has_carrier site past
  pub off : f.stopped ≡ true → f.dhcp4.state ≡ Off
  pub client : Carries (Lasts (now_in past)) site clean f.dhcp4 past

-- so after a turn, with what was said in it
pub record Turned (site : Site) (clean : Type 0) (f : Iface) (said : List Said) (past : List Entry) : Type 0 where
  pub leased : Leased site clean f past
  pub fit : AllByRecursion FitsSaid said
  pub own : AllByRecursion (OwnSaid (speaker_of site.managed)) said

-- ---- a frame is an ARP packet or a message

both_kinds : (kind : ℕ) → (kind == arp_kind) ≡ true → (kind == KIND_IPV4) ≡ false
both_kinds kind h = grind (arith, nat_tests)

and_false : (a b : Bool) → b ≡ false → (a && b) ≡ false
and_false true b h = h
and_false false b h = refl

arp_not_message : (mac : Mac) (arp : ArpView) (frame : Option ethernet.Frame) → option_and_then arp_of_frame frame ≡ Some arp
    → option_and_then (message_for mac) frame ≡ None
arp_not_message mac arp None h = refl
arp_not_message mac arp (Some frame) h =
    split (frame.kind == arp_kind)
    (λ is. rw (and_false (same_mac frame.to mac || same_mac frame.to ethernet.broadcast) (frame.kind == KIND_IPV4) (both_kinds frame.kind is)) refl)
    (λ other. absurd (none (rw other at h)))
  where
    none : None ≡ Some arp → ⊥
    none e = cc

pub packet_no_message : (mac : Mac) (bytes : List ℕ) (arp : ArpView) → arp_heard bytes ≡ Some arp → heard4_in mac bytes ≡ None
unfolding heard4_in
packet_no_message mac bytes arp h = arp_not_message mac arp (ethernet.frame_in bytes) h

-- ---- the kept lease

kept_fits : (may : Bool) (kept : Option LeaseContent) → IfSome kept FitsLease → (may ≡ true → IfSome kept IsTyped)
    → IfSome (option_map terms_of kept) (λ terms. sent.FitsIp4 terms.net.ip × (may ≡ true → FitsGrant terms))
kept_fits may None h typed = tt
kept_fits may (Some lease) h typed =
    let address : sent.FitsIp4 lease.net.ip = fields.host_fits lease.net.ip h.terms.address in
    (address, λ is. record { address = address; server = (typed is).server; server_mac = (typed is).server_mac.six })

-- an interface's settings, its carrier, and whether it was stopped
pub record IsFaced (settings : Managed) (has_carrier_now was_stopped : Bool) (g : Iface) : Type 0 where
  pub managed : g.managed ≡ settings
  pub up : g.up ≡ has_carrier_now
  pub stopped : g.stopped ≡ was_stopped

-- ---- the input of a turn

module _ (site : Site) (mac : sent.FitsMac site.managed.spec.mac) (clean : Type 0) (at salt : ℕ) (early : at < 10 ^ 15) (bytes : List ℕ)
    (octets : AreBytes bytes)
    (offers : List Offer) (past : List Entry) where
  abbrev pub entry : Event → Entry
  entry event = record { moment = at; event = event; bytes = bytes; offers = offers }

  -- whatever its other machines are
  abbrev pub face : (up stopped : Bool) → ClientContent → (rest : Iface) → Iface
  face up stopped c rest = record rest { managed = site.managed; up = up; stopped = stopped; dhcp4 = c }

  abbrev Spelled : List Said → Type 0
  Spelled said = Offered site.managed.spec (ask_of site.duid site.managed) clean said (offers_on (index_at site) offers)

  -- ---- the interface

  arms_faced : (up stopped : Bool) (g : Iface) → IsFaced site.managed up stopped g → IsFaced site.managed up stopped (arms at g).iface
  arms_faced up stopped g h =
      gated (λ (step : IfaceStep). IsFaced site.managed up stopped step.iface) (holds_lease g) (silent g) _ h
      (record { managed = h.managed; up = h.up; stopped = h.stopped })

  -- where DHCPv4 alone made a step
  perhaps_faced : (up stopped : Bool) (c : ClientContent) (rest : Iface) (step : Step4)
      → IsFaced site.managed up stopped
      (if runs_dhcp4 site.managed.conf then dhcp4_step at (face up stopped c rest) step else silent (face up stopped c rest)).iface
  perhaps_faced up stopped c rest step =
      gated (λ (step : IfaceStep). IsFaced site.managed up stopped step.iface) (runs_dhcp4 site.managed.conf) (dhcp4_step at (face up stopped c rest) step)
      (silent (face up stopped c rest)) (record { managed = refl; up = refl; stopped = refl }) (record { managed = refl; up = refl; stopped = refl })

  begins4_faced : (up stopped : Bool) (c : ClientContent) (rest : Iface)
      → IsFaced site.managed up stopped (then_step (begin_dhcp4 at salt (face up stopped c rest)) (begin_local at)).iface
  begins4_faced up stopped c rest =
      let h = perhaps_faced up stopped c rest (carrier_step Up at salt c) in record { managed = h.managed; up = h.up; stopped = h.stopped }

  rebinds4_faced : (up stopped : Bool) (c : ClientContent) (rest : Iface)
      → IsFaced site.managed up stopped (then_step (rebind_dhcp4 at salt (face up stopped c rest)) (arms at)).iface
  rebinds4_faced up stopped c rest =
      arms_faced up stopped (rebind_dhcp4 at salt (face up stopped c rest)).iface (perhaps_faced up stopped c rest (rebind_step at salt c))

  -- and where DHCPv6 made one too
  dhcp6_faced : (up stopped : Bool) (g : Iface) (turned : Turned6) → IsFaced site.managed up stopped g
      → IsFaced site.managed up stopped (if runs_dhcp6 g.managed.conf then dhcp6_step g turned else silent g).iface
  dhcp6_faced up stopped g turned h =
      gated (λ (step : IfaceStep). IsFaced site.managed up stopped step.iface) (runs_dhcp6 g.managed.conf) (dhcp6_step g turned) (silent g)
      (record { managed = h.managed; up = h.up; stopped = h.stopped }) h

  -- ---- the client

  module _ (event : Event) (one : Step4) (between : List Said) (others : AreOther between) (c : ClientContent)
      (amid : Amid site clean (entry event) past one c) where
    abbrev said : List Said
    said = said_in one ++ between

    abbrev e : Entry
    e = entry event

    abbrev turn : Turn4
    turn = turn_of at salt c

    abbrev seen_so : Seen
    seen_so = seen_amid site clean e past one c amid mac between others

    abbrev kept_so : Kept
    kept_so = kept_amid site clean e past one c amid mac between others

    within_so : kept_so.answered ≤ seen_so.count
    within_so = within_amid site clean e past one c amid mac between others

    -- what the client carries where this is said too
    abbrev Goes : List Said → ClientContent → Type 0
    Goes more client = Spelled (said ++ more) → Ended site clean at (said ++ more) client (e ∷ past)

    -- and after a step of the interface
    abbrev Carried : IfaceStep → Type 0
    Carried step = Goes step.said step.iface.dhcp4

    bracket : (rest : List Said) → Spelled (said ++ rest) → Spelled (said_in one ++ (between ++ rest))
    bracket rest h = subst Spelled (append_assoc (said_in one) between rest) h

    abbrev Silent : Type 0
    Silent = message_on site event bytes ≡ None

    silent_reply : Silent → (exchange : Exchange4) → reply_at site exchange e ≡ answer.Nothing
    silent_reply none exchange = ap (λ (m : Option HeardMessage). reply_by (settings_of site.duid site.managed) exchange (option_map (arrival_at at) m)) none

    -- nothing of a NAK either
    no_nak : Silent → (o : Numbered) → GoodNak site o e past → ⊥
    no_nak none o nak = unlike (sym (silent_reply none o.exchange) ∙ nak.refuses)
      where
        unlike : answer.Nothing ≡ answer.Nak → ⊥
        unlike bad = cc

    -- the states after an input: `row` is what comes of a state
    stands_by : (row : State4 → Step4) → row Off ≡ rests turn Off
        → standing.AfterInput site e past (message_in one) c.settings.site.iface.name c.fresh c.kept (row c.state)
        → ShowsBoth site e past (message_in one) (message_in (row c.state)) → StandsSo site (e ∷ past) (moved (row c.state) c)
    stands_by row quiet on =
        standing.input_stands site e past (message_in one) c.settings.site.iface.name c.fresh c.kept turn row quiet c.may_stand c.state amid.stands on

    -- ---- steps of the client

    -- an input that is nothing to the client
    pub passed : (after : List Said) → AreOther after → stays_at site e past ≡ true → Silent → arp_on (index_at site) event bytes ≡ None → Goes after c
    passed after more_others stays none no_arp h =
        calm_finish site clean e past one c amid mac between others (rests turn c.state) c after more_others amid.settings amid.sound
        (record { state = amid.fields; say = tt }) (rests_own turn c.state amid.names) h stays
        (silent_heard site clean e past one c amid mac between others (rests turn c.state) (silent_reply none) amid.watched)
        (probes.rests_bears site (ask_of site.duid site.managed) clean e past (said_in one) (between ++ after) (tells_end (message_in one))
        (bracket after h) turn no_arp c.state amid.bears)
        (stands_by (rests turn) refl
        (standing.rests_on site e past (message_in one) c.settings.site.iface.name c.fresh c.kept turn c.state (no_nak none) amid.stands.stands))

    -- a packet
    heard_packet : (arp : ArpView) (after : List Said) → AreOther after → stays_at site e past ≡ true → Silent → arp_on (index_at site) event bytes ≡ Some arp
        → Goes (said_in (arp_step site.own at salt arp c) ++ after) (moved (arp_step site.own at salt arp c) c)
    heard_packet arp after more_others stays none is h =
        let two : Step4 = arp_step site.own at salt arp c in
        calm_finish site clean e past one c amid mac between others two c after more_others amid.settings
        (moved_sound c two amid.sound (arp_sound (kept_terms c) site.own turn arp c.state amid.sound.state))
        (fields.arp_fits turn (turn_mac site mac c amid.settings) site.own arp c.state amid.fields) (arp_own turn site.own arp c.state amid.names) h stays
        (silent_heard site clean e past one c amid mac between others two (silent_reply none)
        (arp_watched turn seen_so.count seen_so.current kept_so within_so amid.watched.xid site.own arp c.state amid.watched.on))
        (probes.arp_bears site (ask_of site.duid site.managed) clean e past (said_in one) (between ++ (said_in two ++ after)) (tells_end (message_in one))
        (bracket (said_in two ++ after) h) turn arp is c.state amid.bears)
        (stands_by (arp_row site.own turn arp) refl
        (standing.arp_on site e past (message_in one) c.settings.site.iface.name c.fresh c.kept turn (no_nak none) site.own arp c.state amid.stands.stands))

    -- what the message says in an exchange
    replies_so : (arrival : Arrival) (message : HeardMessage) → arrival ≡ arrival_at at message → message_on site event bytes ≡ Some message
        → (exchange : Exchange4) → reply_at site exchange e ≡ reply_in c.settings arrival exchange
    replies_so arrival message same is exchange =
        ap (λ (came : Option HeardMessage). reply_by (settings_of site.duid site.managed) exchange (option_map (arrival_at at) came)) is
        ∙ (λ i. reply_in (sym amid.settings i) (sym same i) exchange)

    -- a message
    heard_listed : (message : HeardMessage) → heard.FitsHeard message → stays_at site e past ≡ true → message_on site event bytes ≡ Some message
        → arp_on (index_at site) event bytes ≡ None
        → Goes (said_in (heard_step salt (arrival_at at message) c) ++ [])
        (moved (heard_step salt (arrival_at at message) c) (brought (arrival_at at message) c))
    heard_listed message good stays is no_arp h =
        let arrival : Arrival = arrival_at at message in
        let two : Step4 = heard_step salt arrival c in
        let answers = answer_fits c.settings arrival c.state early amid.sound.state in
        calm_finish site clean e past one c amid mac between others two (brought arrival c) [] tt amid.settings
        (moved_sound (brought arrival c) two
        (brought_sound c (answer_to arrival c) (kept_values c.settings.refused arrival.message.instances) amid.sound
        (values_fit c.settings.refused arrival.message.instances))
        (heard_sound (kept_terms c) turn (answer_to arrival c) c.state early amid.sound.state answers))
        (fields.heard_fits turn (turn_mac site mac c amid.settings) c.settings arrival (good.message _) good.source c.state answers amid.fields)
        (heard_own turn (answer_to arrival c) c.state amid.names) h stays
        (subst
        (λ (came : Option HeardMessage). HeardAfter at
        (λ exchange. reply_by (settings_of site.duid site.managed) exchange (option_map (arrival_at at) came)) seen_so kept_so two)
        (sym is)
        (subst (λ (s : SettingsContent). HeardAfter at (λ exchange. reply_in s arrival exchange) seen_so kept_so two) amid.settings
        (heard_watched c.settings arrival turn refl seen_so.count kept_so within_so seen_so.current c.state amid.watched.xid amid.watched.on)))
        (probes.heard_bears site (ask_of site.duid site.managed) clean e past (said_in one) (between ++ (said_in two ++ [])) (tells_end (message_in one))
        (bracket (said_in two ++ []) h) c.settings arrival turn (turn_noarp site c amid.settings) no_arp c.state amid.bears)
        (standing.input_stands site e past (message_in one) c.settings.site.iface.name (brought arrival c).fresh c.kept turn
        (λ state. heard_row turn (answer_of c.settings arrival state) state) refl c.may_stand c.state amid.stands
        (standing.heard_on site e past (message_in one) c.settings.site.iface.name (brought arrival c).fresh c.kept c.settings arrival turn
        (replies_so arrival message refl is)
        (Lasts at) kept_so.answered kept_so.grant c.state amid.watched.on amid.stands.stands))

    heard_message : (message : HeardMessage) → heard.FitsHeard message → stays_at site e past ≡ true → message_on site event bytes ≡ Some message
        → arp_on (index_at site) event bytes ≡ None
        → Goes (said_in (heard_step salt (arrival_at at message) c)) (moved (heard_step salt (arrival_at at message) c) (brought (arrival_at at message) c))
    heard_message message good stays is no_arp =
        let two : Step4 = heard_step salt (arrival_at at message) c in
        subst (λ (more : List Said). Goes more (moved two (brought (arrival_at at message) c))) (append-nil (said_in two))
        (heard_listed message good stays is no_arp)

    -- the client begins
    begun : (after : List Said) → AreOther after → stays_at site e past ≡ true → has_carrier site (e ∷ past) ≡ true → Silent
        → arp_on (index_at site) event bytes ≡ None
        → Goes (said_in (carrier_step Up at salt c) ++ after) (moved (carrier_step Up at salt c) c)
    begun after more_others stays up_now none no_arp h =
        let two : Step4 = carrier_step Up at salt c in
        calm_finish site clean e past one c amid mac between others two c after more_others amid.settings
        (moved_sound c two amid.sound (begin_sound (kept_terms c) turn c.may_stand c.state early (begin_fits c.kept amid.sound.kept) amid.sound.state))
        (fields.begin_fits turn (turn_mac site mac c amid.settings) c.may_stand (kept_terms c) c.state
        (kept_fits c.may_stand c.kept amid.sound.kept (λ is. (amid.stands.may_stand is).0.typed)) amid.fields)
        (begin_own turn c.may_stand (kept_terms c) c.state amid.names) h stays
        (silent_heard site clean e past one c amid mac between others two (silent_reply none)
        (begin_watched turn seen_so.count seen_so.current kept_so within_so amid.watched.xid c.may_stand (kept_terms c) c.state amid.watched.on))
        (probes.begin_bears site (ask_of site.duid site.managed) clean e past (said_in one) (between ++ (said_in two ++ after)) (tells_end (message_in one))
        (bracket (said_in two ++ after) h) turn no_arp c.may_stand (kept_terms c) c.state amid.bears)
        (standing.begin_stands site e past (message_in one) c.settings.site.iface.name c.fresh c.kept turn
        (begin_row turn c.may_stand (kept_terms c)) refl c.may_stand c.state amid.stands
        (standing.begin_on site e past (message_in one) c.settings.site.iface.name c.fresh c.kept turn (no_nak none) (turn_flag site c amid.settings) up_now
        c.may_stand c.state amid.stands.stands amid.stands.may_stand))

    -- it confirms its lease anew
    confirmed : (after : List Said) → AreOther after → stays_at site e past ≡ true → has_carrier site (e ∷ past) ≡ true → Silent
        → arp_on (index_at site) event bytes ≡ None
        → Goes (said_in (rebind_step at salt c) ++ after) (moved (rebind_step at salt c) c)
    confirmed after more_others stays up_now none no_arp h =
        let two : Step4 = rebind_step at salt c in
        calm_finish site clean e past one c amid mac between others two c after more_others amid.settings
        (moved_sound c two amid.sound (rebind_sound (kept_terms c) turn c.state early (begin_fits c.kept amid.sound.kept) amid.sound.state))
        (fields.rebind_fits turn (turn_mac site mac c amid.settings) (kept_terms c) c.state (kept_fits false c.kept amid.sound.kept (λ bad. cc)) amid.fields)
        (rebind_own turn (kept_terms c) c.state amid.sound.state amid.names) h stays
        (silent_heard site clean e past one c amid mac between others two (silent_reply none)
        (rebind_watched turn seen_so.count seen_so.current kept_so within_so amid.watched.xid (kept_terms c) c.state amid.watched.on))
        (probes.rebind_bears site (ask_of site.duid site.managed) clean e past (said_in one) (between ++ (said_in two ++ after)) (tells_end (message_in one))
        (bracket (said_in two ++ after) h) turn no_arp (kept_terms c) c.state amid.bears)
        (standing.begin_stands site e past (message_in one) c.settings.site.iface.name c.fresh c.kept turn
        (rebind_row turn (kept_terms c)) refl c.may_stand c.state amid.stands
        (standing.rebind_on site e past (message_in one) c.settings.site.iface.name c.fresh c.kept turn (no_nak none)
        (turn_flag site c amid.settings) up_now c.state amid.stands.stands))

    -- it is off
    dropped : (after : List Said) → AreOther after → Goes (said_in (carrier_step Down at salt c) ++ after) (moved (carrier_step Down at salt c) c)
    dropped after more_others h =
        let two : Step4 = carrier_step Down at salt c in
        off_finish site clean e past one c amid mac between others two c after more_others amid.settings
        (moved_sound c two amid.sound (off_sound (kept_terms c) turn c.state)) (fields.off_fits turn (turn_mac site mac c amid.settings)) (off_own turn) h refl
        (off_watched turn seen_so.count seen_so.current kept_so within_so amid.watched.xid)
        (standing.spent_stands site e past (message_in one) c.settings.site.iface.name c.fresh c.kept two c.may_stand refl tt)

    stopped_by : (tell : Tell) (after : List Said) → AreOther after
        → Goes (said_in (release_step tell at salt c) ++ after) (moved (release_step tell at salt c) c)
    stopped_by tell after more_others h =
        let two : Step4 = release_step tell at salt c in
        off_finish site clean e past one c amid mac between others two c after more_others amid.settings
        (moved_sound c two amid.sound (release_sound (kept_terms c) turn tell c.state))
        (fields.release_fits turn (turn_mac site mac c amid.settings) tell c.state amid.fields)
        (release_own turn tell c.state amid.sound.state) h
        (probes.stops turn tell c.state)
        (release_watched turn seen_so.count seen_so.current kept_so within_so amid.watched.xid tell c.state)
        (standing.spent_stands site e past (message_in one) c.settings.site.iface.name c.fresh c.kept two c.may_stand (probes.stops_spend turn tell c.state)
        (subst (λ (s : State4). StandsIn site (e ∷ past) s (kept_after two.keep c.settings.site.iface.name c.fresh c.kept))
        (sym (probes.stops turn tell c.state)) tt))

    -- a client that is off hears nothing
    rests_off : c.state ≡ Off → is_stopped past ≡ true → Goes [] c
    rests_off off ended h =
        off_finish site clean e past one c amid mac between others (rests turn c.state) c [] tt amid.settings amid.sound
        (record { state = amid.fields; say = tt }) (rests_own turn c.state amid.names) h off amid.watched
        (stopped_stands site e past (message_in one) c.may_stand c.state c.kept amid.stands off ended)

    -- ---- steps of the interface

    -- whatever other messages are said after it
    abbrev Spoken : IfaceStep → Type 0
    Spoken step = (after : List Said) → AreOther after → Goes (step.said ++ after) step.iface.dhcp4

    -- a step that says nothing is nothing to the client
    then_off : (step : IfaceStep) → Spoken step → (after : List Said) → AreOther after → Goes ((step.said ++ []) ++ after) step.iface.dhcp4
    then_off step spoken after more_others =
        subst (λ (more : List Said). Goes more step.iface.dhcp4) (sym (append_assoc step.said [] after)) (spoken after more_others)

    -- so is arming
    then_arms : (step : IfaceStep) → Spoken step → Spoken (then_step step (arms at))
    then_arms step spoken =
        gated (λ (next : IfaceStep). (after : List Said) → AreOther after → Goes ((step.said ++ next.said) ++ after) next.iface.dhcp4)
        (holds_lease step.iface) (silent step.iface) _ (then_off step spoken) (then_off step spoken)

    -- and arming where a client begins
    then_begins : (step : IfaceStep) → Spoken step → Spoken (then_step step (begin_local at))
    then_begins step spoken = then_off step spoken

    -- DHCPv6 follows
    module _ (first : IfaceStep) (mac_is : sent.FitsMac first.iface.managed.spec.mac) (spoken : Spoken first) where
      abbrev pub Followed : IfaceStep → Type 0
      Followed next = Goes (first.said ++ next.said) next.iface.dhcp4

      then_dhcp6 : (turned : Turned6) → Followed (dhcp6_step first.iface turned)
      then_dhcp6 turned = spoken (said6_in first.iface turned.out) (are_dhcp6 first.iface turned.out mac_is)

      if_dhcp6 : (turned : Turned6) → Followed (if runs_dhcp6 first.iface.managed.conf then dhcp6_step first.iface turned else silent first.iface)
      if_dhcp6 turned =
          gated Followed (runs_dhcp6 first.iface.managed.conf) (dhcp6_step first.iface turned) (silent first.iface) (then_dhcp6 turned) (spoken [] tt)

    mac_so : (up stopped : Bool) (g : Iface) → IsFaced site.managed up stopped g → sent.FitsMac g.managed.spec.mac
    mac_so up stopped g faced = subst (λ (m : Managed). sent.FitsMac m.spec.mac) (sym faced.managed) mac

    pub begins_carried : (up stopped : Bool) (rest : Iface) → stays_at site e past ≡ true → has_carrier site (e ∷ past) ≡ true → Silent
        → arp_on (index_at site) event bytes ≡ None
        → Carried (begins at salt (face up stopped c rest))
    begins_carried up stopped rest stays up_now none no_arp =
        let first : IfaceStep = then_step (begin_dhcp4 at salt (face up stopped c rest)) (begin_local at) in
        if_dhcp6 first (mac_so up stopped first.iface (begins4_faced up stopped c rest))
        (then_begins (begin_dhcp4 at salt (face up stopped c rest))
        (gated Spoken (runs_dhcp4 site.managed.conf) (dhcp4_step at (face up stopped c rest) (carrier_step Up at salt c)) (silent (face up stopped c rest))
        (λ after more_others. begun after more_others stays up_now none no_arp) (λ after more_others. passed after more_others stays none no_arp)))
        (carrier_turned carrier6.Up at salt first.iface.dhcp6)

    rebinds_carried : (up stopped : Bool) (rest : Iface) → stays_at site e past ≡ true → has_carrier site (e ∷ past) ≡ true → Silent
        → arp_on (index_at site) event bytes ≡ None
        → Carried (machines_rebind at salt (face up stopped c rest))
    rebinds_carried up stopped rest stays up_now none no_arp =
        let first : IfaceStep = then_step (rebind_dhcp4 at salt (face up stopped c rest)) (arms at) in
        if_dhcp6 first (mac_so up stopped first.iface (rebinds4_faced up stopped c rest))
        (then_arms (rebind_dhcp4 at salt (face up stopped c rest))
        (gated Spoken (runs_dhcp4 site.managed.conf) (dhcp4_step at (face up stopped c rest) (rebind_step at salt c)) (silent (face up stopped c rest))
        (λ after more_others. confirmed after more_others stays up_now none no_arp) (λ after more_others. passed after more_others stays none no_arp)))
        (rebind_turned at salt first.iface.dhcp6)

    drops_carried : (up stopped : Bool) (rest : Iface) → Carried (machines_drop at salt (face up stopped c rest))
    drops_carried up stopped rest =
        let four : IfaceStep = drop_dhcp4 at salt (face up stopped c rest) in
        let first : IfaceStep = then_step four local_off in
        then_dhcp6 first mac (then_off four dropped) (carrier_turned carrier6.Down at salt first.iface.dhcp6)

    stops_carried : (tell : Tell) (up stopped : Bool) (rest : Iface) → Carried (machines_stop tell at salt (face up stopped c rest))
    stops_carried tell up stopped rest =
        let four : IfaceStep = stop_dhcp4 tell at salt (face up stopped c rest) in
        let first : IfaceStep = then_step four local_off in
        then_dhcp6 first mac (then_off four (stopped_by tell)) (release_turned (tell6_of tell) at salt first.iface.dhcp6)

    -- a stop is told last, and nothing is said then
    halted_carried : (up stopped : Bool) (rest : Iface) → Carried (halted at salt (face up stopped c rest))
    halted_carried up stopped rest =
        let step : IfaceStep = machines_stop (told_at_stop site.managed.conf) at salt (face up true c rest) in
        subst (λ (more : List Said). Goes more step.iface.dhcp4) (sym (append-nil step.said)) (stops_carried (told_at_stop site.managed.conf) up true rest)

    -- a message of DHCPv6, or none
    other_carried : (up stopped : Bool) (rest : Iface) (message : Option HeardMessage6) → stays_at site e past ≡ true → Silent
        → arp_on (index_at site) event bytes ≡ None → Carried (hears_message6 at salt message (face up stopped c rest))
    other_carried up stopped rest None stays none no_arp = passed [] tt stays none no_arp
    other_carried up stopped rest (Some message) stays none no_arp =
        let f : Iface = face up stopped c rest in
        let turned : Turned6 = hears_turned at salt message.message f.dhcp6 in
        passed (said6_in f turned.out) (are_dhcp6 f turned.out mac) stays none no_arp

    either_carried : (up stopped : Bool) (rest : Iface) (arp : Option ArpView) (message : Option HeardMessage) (message6 : Option HeardMessage6)
        → IfSome message heard.FitsHeard → stays_at site e past ≡ true → arp_on (index_at site) event bytes ≡ arp → message_on site event bytes ≡ message
        → ((packet : ArpView) → arp ≡ Some packet → message ≡ None) → Carried (hears_either site.own at salt arp message message6 (face up stopped c rest))
    either_carried up stopped rest (Some arp) message message6 good stays is came one_kind =
        heard_packet arp (map Arp (option_to_list (ll_hears site.own _ arp at salt).out.arp)) (are_arp _) stays (came ∙ one_kind arp refl) is
    either_carried up stopped rest None None message6 good stays is came one_kind = other_carried up stopped rest message6 stays came is
    either_carried up stopped rest None (Some message) message6 good stays is came one_kind = heard_message message good stays came is

    duplicate_carried : (up stopped : Bool) (rest : Iface) (addr : Ip6) → stays_at site e past ≡ true → Silent → arp_on (index_at site) event bytes ≡ None
        → Carried (contested at salt addr (face up stopped c rest))
    duplicate_carried up stopped rest addr stays none no_arp =
        let f : Iface = face up stopped c rest in
        let turned : Turned6 = contested_turned addr at salt f.dhcp6 in
        passed (said6_in f turned.out) (are_dhcp6 f turned.out mac) stays none no_arp

  pub begins_faced : (up stopped : Bool) (c : ClientContent) (rest : Iface) → IsFaced site.managed up stopped (begins at salt (face up stopped c rest)).iface
  begins_faced up stopped c rest =
      let first : Iface = (then_step (begin_dhcp4 at salt (face up stopped c rest)) (begin_local at)).iface in
      dhcp6_faced up stopped first (carrier_turned carrier6.Up at salt first.dhcp6) (begins4_faced up stopped c rest)

  rebinds_faced : (up stopped : Bool) (c : ClientContent) (rest : Iface)
      → IsFaced site.managed up stopped (machines_rebind at salt (face up stopped c rest)).iface
  rebinds_faced up stopped c rest =
      let first : Iface = (then_step (rebind_dhcp4 at salt (face up stopped c rest)) (arms at)).iface in
      dhcp6_faced up stopped first (rebind_turned at salt first.dhcp6) (rebinds4_faced up stopped c rest)

  message6_faced : (up stopped : Bool) (c : ClientContent) (rest : Iface) (message : Option HeardMessage6)
      → IsFaced site.managed up stopped (hears_message6 at salt message (face up stopped c rest)).iface
  message6_faced up stopped c rest None = record { managed = refl; up = refl; stopped = refl }
  message6_faced up stopped c rest (Some message) = record { managed = refl; up = refl; stopped = refl }

  either_faced : (up stopped : Bool) (c : ClientContent) (rest : Iface) (arp : Option ArpView) (message : Option HeardMessage) (message6 : Option HeardMessage6)
      → IsFaced site.managed up stopped (hears_either site.own at salt arp message message6 (face up stopped c rest)).iface
  either_faced up stopped c rest (Some arp) message message6 = record { managed = refl; up = refl; stopped = refl }
  either_faced up stopped c rest None None message6 = message6_faced up stopped c rest message6
  either_faced up stopped c rest None (Some message) message6 = record { managed = refl; up = refl; stopped = refl }

  pub record Before (event : Event) (one : Step4) (up stopped : Bool) (c : ClientContent) : Type 0 where
    pub stopped_so : stopped ≡ is_stopped past
    pub carrier : stopped ≡ false → up ≡ has_carrier site past
    pub off : stopped ≡ true → c.state ≡ Off
    pub amid : Amid site clean (entry event) past one c

  module _ (one : Step4) (between : List Said) (others : AreOther between) (c : ClientContent) (rest : Iface) where
    abbrev AfterInput : Event → IfaceStep → Type 0
    AfterInput event step =
        Spelled ((said_in one ++ between) ++ step.said) → Turned site clean step.iface ((said_in one ++ between) ++ step.said) (entry event ∷ past)

    -- after a stop
    stopped_leased : (event : Event) (up : Bool) → Before event one up true c → AfterInput event (silent (face up true c rest))
    stopped_leased event up b h =
        let ended = rests_off event one between others c b.amid (b.off refl) (sym b.stopped_so) h in
        record {
          leased = record {
            stopped = stays (is_stop event) (is_stopped past) b.stopped_so;
            carrier = λ k. cc;
            off = b.off;
            client = ended.carries;
          };
          fit = ended.fit;
          own = ended.own;
        }
      where
        stays : (s t : Bool) → true ≡ t → true ≡ (s || t)
        stays true t p = refl
        stays false t p = p

    -- an input that takes nothing away
    record Passes (event : Event) (up : Bool) : Type 0 where
      runs : is_stop event ≡ false
      carries : carrier_after (index_at site) event up ≡ up
      stays : stays_on up (index_at site) event ≡ true

    going : (event : Event) (up now : Bool) (step : IfaceStep) → Before event one up false c → is_stop event ≡ false
        → carrier_after (index_at site) event up ≡ now
        → IsFaced site.managed now false step.iface
        → Ended site clean at ((said_in one ++ between) ++ step.said) step.iface.dhcp4 (entry event ∷ past)
        → Turned site clean step.iface ((said_in one ++ between) ++ step.said) (entry event ∷ past)
    going event up now step b runs carried faced ended = record {
      leased = record {
        stopped = faced.stopped ∙ subst (λ s. false ≡ (s || is_stopped past)) (sym runs) b.stopped_so;
        carrier = λ k. faced.up ∙ sym carried ∙ ap (carrier_after (index_at site) event) (b.carrier refl);
        off = λ k. absurd (let bad : false ≡ true = sym faced.stopped ∙ k in cc);
        client = ended.carries;
      };
      fit = ended.fit;
      own = ended.own;
    }

    stays_so : (event : Event) (up : Bool) → Before event one up false c → stays_on up (index_at site) event ≡ true → stays_at site (entry event) past ≡ true
    stays_so event up b h = subst (λ u. stays_on u (index_at site) event ≡ true) (b.carrier refl) h

    up_so : (event : Event) (up now : Bool) → Before event one up false c → carrier_after (index_at site) event up ≡ now
        → has_carrier site (entry event ∷ past) ≡ now
    up_so event up now b carried = subst (λ u. carrier_after (index_at site) event u ≡ now) (b.carrier refl) carried

    same_leased : (event : Event) (up : Bool) → Before event one up false c → Passes event up → message_on site event bytes ≡ None
        → arp_on (index_at site) event bytes ≡ None → AfterInput event (silent (face up false c rest))
    same_leased event up b passes none no_arp h =
        going event up up (silent (face up false c rest)) b passes.runs passes.carries (record { managed = refl; up = refl; stopped = refl })
        (passed event one between others c b.amid [] tt (stays_so event up b passes.stays) none no_arp h)

    frame_leased : (index len : ℕ) (up : Bool) → (index_at site == index) ≡ true → Before (Frame index len) one up false c
        → AfterInput (Frame index len) (input_step site.own at salt (Frame index len) bytes (face up false c rest))
    frame_leased index len up here b =
        rw here
        (λ h. going (Frame index len) up up (hears site.own at salt bytes (face up false c rest)) b refl refl
        (either_faced up false c rest (arp_heard bytes) (heard4_in site.managed.spec.mac bytes) (heard6_in site.managed.spec.mac bytes))
        (either_carried (Frame index len) one between others c b.amid up false rest (arp_heard bytes) (heard4_in site.managed.spec.mac bytes)
        (heard6_in site.managed.spec.mac bytes)
        (heard.heard_fits site.managed.spec.mac bytes octets) refl (rw here refl) (rw here refl) (packet_no_message site.managed.spec.mac bytes) h))

    -- ---- the carrier

    -- it comes
    comes_leased : (event : Event) (up : Bool) → Before event one up false c → stays_on up (index_at site) event ≡ true → is_stop event ≡ false
        → carrier_after (index_at site) event up ≡ true → message_on site event bytes ≡ None → arp_on (index_at site) event bytes ≡ None
        → AfterInput event (begins at salt (face true false c rest))
    comes_leased event up b stays runs carried none no_arp h =
        going event up true (begins at salt (face true false c rest)) b runs carried (begins_faced true false c rest)
        (begins_carried event one between others c b.amid true false rest (stays_so event up b stays) (up_so event up true b carried) none no_arp h)

    carrier_leased : (index : ℕ) (to up : Bool) → (index_at site == index) ≡ true → Before (Carrier index to) one up false c
        → AfterInput (Carrier index to) (input_step site.own at salt (Carrier index to) bytes (face up false c rest))
    carrier_leased index true true here b =
        rw here (same_leased (Carrier index true) true b (record { runs = refl; carries = rw here refl; stays = rw here refl }) refl refl)
    carrier_leased index true false here b =
        rw here (comes_leased (Carrier index true) false b (rw here refl) refl (rw here refl) refl refl)
    carrier_leased index false true here b =
        rw here
        (λ h. going (Carrier index false) true false (carried at salt false (face true false c rest)) b refl (rw here refl)
        (record { managed = refl; up = refl; stopped = refl })
        (drops_carried (Carrier index false) one between others c b.amid false false rest h))
    carrier_leased index false false here b =
        rw here (same_leased (Carrier index false) false b (record { runs = refl; carries = rw here refl; stays = rw here refl }) refl refl)

    -- ---- what is given back, and what is confirmed

    release_leased : (index : ℕ) (up : Bool) → (index_at site == index) ≡ true → Before (Release index) one up false c
        → AfterInput (Release index) (input_step site.own at salt (Release index) bytes (face up false c rest))
    release_leased index up here b =
        rw here (λ h. going (Release index) up up (released at salt (face up false c rest)) b refl refl (record { managed = refl; up = refl; stopped = refl })
        (stops_carried (Release index) one between others c b.amid Server up false rest h))

    rebind_leased : (index : ℕ) (up : Bool) → (index_at site == index) ≡ true → Before (Rebind index) one up false c
        → AfterInput (Rebind index) (input_step site.own at salt (Rebind index) bytes (face up false c rest))
    rebind_leased index true here b =
        rw here (λ h. going (Rebind index) true true (machines_rebind at salt (face true false c rest)) b refl refl (rebinds_faced true false c rest)
        (rebinds_carried (Rebind index) one between others c b.amid true false rest refl (up_so (Rebind index) true true b refl) refl refl h))
    rebind_leased index false here b =
        rw here (same_leased (Rebind index) false b (record { runs = refl; carries = refl; stays = refl }) refl refl)

    stop_leased : (up : Bool) → Before Stop one up false c → AfterInput Stop (input_step site.own at salt Stop bytes (face up false c rest))
    stop_leased up b h =
        let ended = halted_carried Stop one between others c b.amid up false rest h in
        record {
          leased = record {
            stopped = refl;
            carrier = λ k. cc;
            off = λ k. probes.stops (turn_of at salt c) (told_at_stop site.managed.conf) c.state;
            client = ended.carries;
          };
          fit = ended.fit;
          own = ended.own;
        }

    duplicate_leased : (index : ℕ) (addr : Ip6) (up : Bool) → (index_at site == index) ≡ true → Before (Duplicate index addr) one up false c
        → AfterInput (Duplicate index addr) (input_step site.own at salt (Duplicate index addr) bytes (face up false c rest))
    duplicate_leased index addr up here b =
        rw here
        (λ h. going (Duplicate index addr) up up (contested at salt addr (face up false c rest)) b refl refl
        (record { managed = refl; up = refl; stopped = refl })
        (duplicate_carried (Duplicate index addr) one between others c b.amid up false rest addr (stays_so (Duplicate index addr) up b refl) refl refl h))

    -- ---- all of them

    abbrev Plain : Event → Bool → Type 0
    Plain event up = Passes event up × (message_on site event bytes ≡ None) × (arp_on (index_at site) event bytes ≡ None)

    plain : (event : Event) (up : Bool) → Before event one up false c → Plain event up → AfterInput event (silent (face up false c rest))
    plain event up b p = same_leased event up b p.0 p.1 p.2

    running_leased : (event : Event) (up : Bool) → Before event one up false c
        → AfterInput event (input_step site.own at salt event bytes (face up false c rest))
    running_leased (Frame index len) up b =
        split (index_at site == index) (λ here. frame_leased index len up here b)
        (λ elsewhere. rw elsewhere (plain (Frame index len) up b (record { runs = refl; carries = refl; stays = refl }, rw elsewhere refl, rw elsewhere refl)))
    running_leased (Carrier index to) up b =
        split (index_at site == index) (λ here. carrier_leased index to up here b)
        (λ elsewhere. rw elsewhere (plain (Carrier index to) up b (record { runs = refl; carries = rw elsewhere refl; stays = rw elsewhere refl }, refl, refl)))
    running_leased (Duplicate index addr) up b =
        split (index_at site == index) (λ here. duplicate_leased index addr up here b)
        (λ elsewhere. rw elsewhere (plain (Duplicate index addr) up b (record { runs = refl; carries = refl; stays = refl }, refl, refl)))
    running_leased (Release index) up b =
        split (index_at site == index) (λ here. release_leased index up here b)
        (λ elsewhere. rw elsewhere (plain (Release index) up b (record { runs = refl; carries = refl; stays = rw elsewhere refl }, refl, refl)))
    running_leased (Rebind index) up b =
        split (index_at site == index) (λ here. rebind_leased index up here b)
        (λ elsewhere. rw elsewhere (plain (Rebind index) up b (record { runs = refl; carries = refl; stays = refl }, refl, refl)))
    running_leased Stop up b = stop_leased up b
    running_leased Quiet up b = plain Quiet up b (record { runs = refl; carries = refl; stays = refl }, refl, refl)
    running_leased End up b = plain End up b (record { runs = refl; carries = refl; stays = refl }, refl, refl)

    pub input_leased : (event : Event) (up stopped : Bool) → Before event one up stopped c
        → AfterInput event (input_step site.own at salt event bytes (face up stopped c rest))
    input_leased event up true b = stopped_leased event up b
    input_leased event up false b = running_leased event up b
