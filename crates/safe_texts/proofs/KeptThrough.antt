-- What the parts of a step keep of an interface, the opening and every turn keep, of the interface and of all that is reported of it.
use Rattle.std.proofs.Common.{ℕ, Bool, true, false, List, [], ◌∷◌, map, Option, Some, None}
use Rattle.std.specs.Prelude.{IfSome}
use Rattle.std.specs.List.{AllByRecursion}
use Rattle.net_types.proofs.AllLaws.{all_join}
use Rattle.net_types.proofs.CaseLaws.{gated}
use Rattle.net_types.specs.declared.address.Ip6.{Ip6}
use Rattle.net_types.specs.declared.address.Mac.{Mac}
use Rattle.frame_link.specs.declared.arp.ArpView.{ArpView}
use Rattle.ipv4ll.specs.declared.link_local.LinkLocal.{LinkLocal}
use Rattle.ipv4ll.specs.Table.{LlStep, ll_hears, ll_restarts, ll_tick, off}
use Rattle.v4_frames.specs.Heard.{HeardMessage, heard4_in}
use Rattle.v4_client.specs.Calls.{arp_step, brought, carrier_step, heard_step, rebind_step, release_step, unsent_step}
use Rattle.v4_client.specs.History.{tick_step}
use Rattle.v4_client.specs.Moves.{moved}
use Rattle.v4_client.specs.declared.states.Carrier.TheVariants.{Up, Down}
use Rattle.v4_client.specs.declared.states.Step4.{Step4}
use Rattle.v4_client.specs.declared.states.Tell.{Tell}
use Rattle.v4_client.specs.declared.states.Tell.TheVariants.{Server}
use Rattle.v6_frames.specs.Heard.{HeardMessage6, heard6_in}
use Rattle.v6_client.specs.Runs.{Turned6, carrier_turned, contested_turned, hears_turned, rebind_turned, release_turned, tick_turned}
use Rattle.v6_client.specs.declared.states.Carrier6.{Carrier6}
use Rattle.v6_client.specs.declared.states.Carrier6.TheVariants as carrier6
use Rattle.v6_client.specs.declared.states.Tell6.{Tell6}
use Rattle.world.specs.declared.wakes.Event.{Event}
use Rattle.world.specs.declared.wakes.Event.TheVariants.{Frame, Carrier, Duplicate, Release, Rebind, Stop, Quiet, End}
use Rattle.script_model.specs.IfaceSets.{is_in, is_up}
use Rattle.client_model.specs.declared.interfaces.Iface.{Iface}
use Rattle.client_model.specs.declared.steps.News.{News}
use Rattle.client_model.specs.declared.steps.News.TheVariants.{CarrierCame, CarrierWent, Released, Stopped}
use Rattle.client_model.specs.ClientSettings.{runs_dhcp4}
use Rattle.client_model.specs.ClientSettings6.{runs_dhcp6}
use Rattle.client_model.specs.Dhcp4Steps.{arms, arrival_at, begin_dhcp4, begin_local, dhcp4_packet, dhcp4_step, drop_dhcp4, followed, holds_lease, lease_news, rebind_dhcp4, stop_dhcp4, tick_dhcp4}
use Rattle.client_model.specs.Dhcp6Steps.{after_dhcp6, begin_dhcp6, contested, dhcp6_step, drop_dhcp6, lease6_news, rebind_dhcp6, stop_dhcp6, tell6_of, tick_dhcp6}
use Rattle.client_model.specs.IfaceSteps.{IfaceStep, Report, index_of, silent, then_step, with_news}
use Rattle.client_model.specs.IfaceTurns.{Turn, arp_heard, hears, hears_either, hears_message, hears_message6, hears_packet, iface_turned, input_step, taken}
use Rattle.client_model.specs.Interfaces.{begins, carried, carrier_at_opening, carrier_comes, carrier_goes, halted, machines_drop, machines_rebind, machines_stop, opened, opening_told, rebound, released, resting, restarted, tells, ticked, told_at_stop, unsent_in}
use Rattle.client_model.specs.KeptLeases.{Beginning}
use Rattle.client_model.specs.LocalSteps.{armed, local_hears, local_news, local_off, local_step, tick_local}

-- what is good of a message that is heard, of DHCPv4 and of DHCPv6
pub record IsKept (Q : Iface → Type 0) (Good4 : HeardMessage → Type 0) (Good6 : HeardMessage6 → Type 0) : Type 0 where
  pub carrier : (up : Bool) (f : Iface) → Q f → Q (record f { up = up })
  pub stopped : (f : Iface) → Q f → Q (record f { stopped = true })
  pub local : (local : LinkLocal) (f : Iface) → Q f → Q (record f { local = local })
  pub step4 : (step : Step4) (f : Iface) → Q f → Q (record f { dhcp4 = moved step f.dhcp4 })
  pub unsent4 : (at salt : ℕ) (f : Iface) → Q f → Q (record f { dhcp4 = unsent_step at salt f.dhcp4 })
  pub brings4 : (at : ℕ) (heard : HeardMessage) → Good4 heard → (f : Iface) → Q f → Q (record f { dhcp4 = brought (arrival_at at heard) f.dhcp4 })
  pub tick6 : (at salt : ℕ) (f : Iface) → Q f → Q (after_dhcp6 (tick_turned at salt f.dhcp6) f)
  pub carrier6 : (carrier : Carrier6) (at salt : ℕ) (f : Iface) → Q f → Q (after_dhcp6 (carrier_turned carrier at salt f.dhcp6) f)
  pub contested6 : (address : Ip6) (at salt : ℕ) (f : Iface) → Q f → Q (after_dhcp6 (contested_turned address at salt f.dhcp6) f)
  pub release6 : (tell : Tell6) (at salt : ℕ) (f : Iface) → Q f → Q (after_dhcp6 (release_turned tell at salt f.dhcp6) f)
  pub rebind6 : (at salt : ℕ) (f : Iface) → Q f → Q (after_dhcp6 (rebind_turned at salt f.dhcp6) f)
  pub hears6 : (at salt : ℕ) (heard : HeardMessage6) → Good6 heard → (f : Iface) → Q f → Q (after_dhcp6 (hears_turned at salt heard.message f.dhcp6) f)

-- what is heard in a frame is good
pub record BringsGood (Good4 : HeardMessage → Type 0) (Good6 : HeardMessage6 → Type 0) (bytes : List ℕ) : Type 0 where
  pub heard4 : (mac : Mac) → IfSome (heard4_in mac bytes) Good4
  pub heard6 : (mac : Mac) → IfSome (heard6_in mac bytes) Good6

module _ (Q : Iface → Type 0) where
  -- of the interface after a step, and of those after what is new in it
  pub record StepHas (step : IfaceStep) : Type 0 where
    pub iface : Q step.iface
    pub reports : AllByRecursion (λ (r : Report). Q r.after) step.reports

  silent_has : (f : Iface) → Q f → StepHas (silent f)
  silent_has f q = record { iface = q; reports = tt }

  then_has : (first : IfaceStep) (next : Iface → IfaceStep) → StepHas first → ((f : Iface) → Q f → StepHas (next f)) → StepHas (then_step first next)
  then_has first next one more =
      let two : StepHas (next first.iface) = more first.iface one.iface in
      record { iface = two.iface; reports = all_join (λ (r : Report). Q r.after) first.reports (next first.iface).reports one.reports two.reports }

  news_has : (news : News) (before : Iface) (step : IfaceStep) → StepHas step → StepHas (with_news news before step)
  news_has news before step has = record { iface = has.iface; reports = (has.iface, has.reports) }

  abbrev report_of : Iface → Iface → News → Report
  report_of before after news = record { before = before; news = news; after = after }

  reports_have : (before after : Iface) → Q after → (news : List News) → AllByRecursion (λ (r : Report). Q r.after) (map (report_of before after) news)
  reports_have before after q [] = tt
  reports_have before after q (one ∷ news) = (q, reports_have before after q news)

  module _ (Good4 : HeardMessage → Type 0) (Good6 : HeardMessage6 → Type 0) (kept : IsKept Q Good4 Good6) where
    -- ---- the machines

    step4_has : (at : ℕ) (f : Iface) (step : Step4) → Q f → StepHas (dhcp4_step at f step)
    step4_has at f step q =
        let after : Q (dhcp4_step at f step).iface =
        kept.local (followed f.managed.conf at (holds_lease f) step.news f.local) (record f { dhcp4 = moved step f.dhcp4 }) (kept.step4 step f q) in
        record { iface = after; reports = reports_have f (dhcp4_step at f step).iface after (lease_news step.news) }

    step6_has : (f : Iface) (turned : Turned6) → Q (after_dhcp6 turned f) → StepHas (dhcp6_step f turned)
    step6_has f turned q = record { iface = q; reports = reports_have f (after_dhcp6 turned f) q (lease6_news turned.out.news) }

    local_has : (f : Iface) (step : LlStep) → Q f → StepHas (local_step f step)
    local_has f step q =
        let after : Q (record f { local = step.ll }) = kept.local step.ll f q in
        record { iface = after; reports = reports_have f (record f { local = step.ll }) after (local_news step.out.news) }

    begin4_has : (at salt : ℕ) (f : Iface) → Q f → StepHas (begin_dhcp4 at salt f)
    begin4_has at salt f q =
        gated StepHas (runs_dhcp4 f.managed.conf) (dhcp4_step at f (carrier_step Up at salt f.dhcp4)) (silent f)
        (step4_has at f (carrier_step Up at salt f.dhcp4) q) (silent_has f q)

    rebind4_has : (at salt : ℕ) (f : Iface) → Q f → StepHas (rebind_dhcp4 at salt f)
    rebind4_has at salt f q =
        gated StepHas (runs_dhcp4 f.managed.conf) (dhcp4_step at f (rebind_step at salt f.dhcp4)) (silent f) (step4_has at f (rebind_step at salt f.dhcp4) q)
        (silent_has f q)

    begin_local_has : (at : ℕ) (f : Iface) → Q f → StepHas (begin_local at f)
    begin_local_has at f q = silent_has (record f { local = armed f.managed.conf at f.local }) (kept.local (armed f.managed.conf at f.local) f q)

    arms_has : (at : ℕ) (f : Iface) → Q f → StepHas (arms at f)
    arms_has at f q = gated StepHas (holds_lease f) (silent f) (begin_local at f) (silent_has f q) (begin_local_has at f q)

    begin6_has : (at salt : ℕ) (f : Iface) → Q f → StepHas (begin_dhcp6 at salt f)
    begin6_has at salt f q =
        gated StepHas (runs_dhcp6 f.managed.conf) (dhcp6_step f (carrier_turned carrier6.Up at salt f.dhcp6)) (silent f)
        (step6_has f (carrier_turned carrier6.Up at salt f.dhcp6) (kept.carrier6 carrier6.Up at salt f q)) (silent_has f q)

    rebind6_has : (at salt : ℕ) (f : Iface) → Q f → StepHas (rebind_dhcp6 at salt f)
    rebind6_has at salt f q =
        gated StepHas (runs_dhcp6 f.managed.conf) (dhcp6_step f (rebind_turned at salt f.dhcp6)) (silent f)
        (step6_has f (rebind_turned at salt f.dhcp6) (kept.rebind6 at salt f q))
        (silent_has f q)

    off_has : (f : Iface) → Q f → StepHas (local_off f)
    off_has f q = silent_has (record f { local = off f.local.iface }) (kept.local (off f.local.iface) f q)

    begins_has : (at salt : ℕ) (f : Iface) → Q f → StepHas (begins at salt f)
    begins_has at salt f q =
        then_has (then_step (begin_dhcp4 at salt f) (begin_local at)) (begin_dhcp6 at salt)
        (then_has (begin_dhcp4 at salt f) (begin_local at) (begin4_has at salt f q) (begin_local_has at)) (begin6_has at salt)

    rebinds_has : (at salt : ℕ) (f : Iface) → Q f → StepHas (machines_rebind at salt f)
    rebinds_has at salt f q =
        then_has (then_step (rebind_dhcp4 at salt f) (arms at)) (rebind_dhcp6 at salt)
        (then_has (rebind_dhcp4 at salt f) (arms at) (rebind4_has at salt f q) (arms_has at)) (rebind6_has at salt)

    drops_has : (at salt : ℕ) (f : Iface) → Q f → StepHas (machines_drop at salt f)
    drops_has at salt f q =
        then_has (then_step (drop_dhcp4 at salt f) local_off) (drop_dhcp6 at salt)
        (then_has (drop_dhcp4 at salt f) local_off (step4_has at f (carrier_step Down at salt f.dhcp4) q) off_has)
        (λ g r. step6_has g (carrier_turned carrier6.Down at salt g.dhcp6) (kept.carrier6 carrier6.Down at salt g r))

    stops_has : (tell : Tell) (at salt : ℕ) (f : Iface) → Q f → StepHas (machines_stop tell at salt f)
    stops_has tell at salt f q =
        then_has (then_step (stop_dhcp4 tell at salt f) local_off) (stop_dhcp6 tell at salt)
        (then_has (stop_dhcp4 tell at salt f) local_off (step4_has at f (release_step tell at salt f.dhcp4) q) off_has)
        (λ g r. step6_has g (release_turned (tell6_of tell) at salt g.dhcp6) (kept.release6 (tell6_of tell) at salt g r))

    -- ---- inputs

    comes_has : (at salt : ℕ) (f : Iface) → Q f → StepHas (carrier_comes at salt f)
    comes_has at salt f q =
        news_has CarrierCame f (begins at salt (record f { up = true })) (begins_has at salt (record f { up = true }) (kept.carrier true f q))

    goes_has : (at salt : ℕ) (f : Iface) → Q f → StepHas (carrier_goes at salt f)
    goes_has at salt f q =
        news_has CarrierWent f (machines_drop at salt (record f { up = false })) (drops_has at salt (record f { up = false }) (kept.carrier false f q))

    carried_has : (at salt : ℕ) (up : Bool) (f : Iface) → Q f → StepHas (carried at salt up f)
    carried_has at salt true f q = gated StepHas f.up (silent f) (carrier_comes at salt f) (silent_has f q) (comes_has at salt f q)
    carried_has at salt false f q = gated StepHas f.up (carrier_goes at salt f) (silent f) (goes_has at salt f q) (silent_has f q)

    released_has : (at salt : ℕ) (f : Iface) → Q f → StepHas (released at salt f)
    released_has at salt f q = news_has Released f (machines_stop Server at salt f) (stops_has Server at salt f q)

    rebound_has : (at salt : ℕ) (f : Iface) → Q f → StepHas (rebound at salt f)
    rebound_has at salt f q = gated StepHas f.up (machines_rebind at salt f) (silent f) (rebinds_has at salt f q) (silent_has f q)

    halted_has : (at salt : ℕ) (f : Iface) → Q f → StepHas (halted at salt f)
    halted_has at salt f q =
        then_has (machines_stop (told_at_stop f.managed.conf) at salt (record f { stopped = true })) (tells Stopped)
        (stops_has (told_at_stop f.managed.conf) at salt (record f { stopped = true }) (kept.stopped f q))
        (λ g r. news_has Stopped g (silent g) (silent_has g r))

    contested_has : (at salt : ℕ) (address : Ip6) (f : Iface) → Q f → StepHas (contested at salt address f)
    contested_has at salt address f q = step6_has f (contested_turned address at salt f.dhcp6) (kept.contested6 address at salt f q)

    -- ---- turns

    ticked_has : (at salt : ℕ) (f : Iface) → Q f → StepHas (ticked at salt f)
    ticked_has at salt f q =
        then_has (then_step (tick_dhcp4 at salt f) (tick_local at salt)) (tick_dhcp6 at salt)
        (then_has (tick_dhcp4 at salt f) (tick_local at salt) (step4_has at f (tick_step at salt f.dhcp4) q) (λ g r. local_has g (ll_tick g.local at salt) r))
        (λ g r. step6_has g (tick_turned at salt g.dhcp6) (kept.tick6 at salt g r))

    unsent_has : (set at salt : ℕ) (f : Iface) → Q f → Q (unsent_in set at salt f)
    unsent_has set at salt f q =
        gated Q (is_in set (index_of f)) (restarted at salt f) f
        (kept.local (ll_restarts f.local at salt) (record f { dhcp4 = unsent_step at salt f.dhcp4 }) (kept.unsent4 at salt f q)) q

    module _ (own : List Mac) (at salt : ℕ) where
      packet_has : (arp : ArpView) (f : Iface) → Q f → StepHas (hears_packet own at salt arp f)
      packet_has arp f q =
          then_has (dhcp4_packet own at salt arp f) (local_hears own at salt arp) (step4_has at f (arp_step own at salt arp f.dhcp4) q)
          (λ g r. local_has g (ll_hears own g.local arp at salt) r)

      message6_has : (message : Option HeardMessage6) → IfSome message Good6 → (f : Iface) → Q f → StepHas (hears_message6 at salt message f)
      message6_has None good f q = silent_has f q
      message6_has (Some heard) good f q = step6_has f (hears_turned at salt heard.message f.dhcp6) (kept.hears6 at salt heard good f q)

      message_has : (message : Option HeardMessage) → IfSome message Good4 → (message6 : Option HeardMessage6) → IfSome message6 Good6 → (f : Iface) → Q f
          → StepHas (hears_message at salt message message6 f)
      message_has None good message6 good6 f q = message6_has message6 good6 f q
      message_has (Some heard) good message6 good6 f q =
          step4_has at (record f { dhcp4 = brought (arrival_at at heard) f.dhcp4 }) (heard_step salt (arrival_at at heard) f.dhcp4)
          (kept.brings4 at heard good f q)

      either_has : (arp : Option ArpView) (message : Option HeardMessage) → IfSome message Good4 → (message6 : Option HeardMessage6) → IfSome message6 Good6
          → (f : Iface) → Q f
          → StepHas (hears_either own at salt arp message message6 f)
      either_has (Some arp) message good message6 good6 f q = packet_has arp f q
      either_has None message good message6 good6 f q = message_has message good message6 good6 f q

      module _ (bytes : List ℕ) (good : BringsGood Good4 Good6 bytes) where
        hears_has : (f : Iface) → Q f → StepHas (hears own at salt bytes f)
        hears_has f q =
            either_has (arp_heard bytes) (heard4_in f.managed.spec.mac bytes) (good.heard4 f.managed.spec.mac) (heard6_in f.managed.spec.mac bytes)
            (good.heard6 f.managed.spec.mac) f q

        taken_has : (event : Event) (f : Iface) → Q f → StepHas (taken own at salt event bytes f)
        taken_has (Frame index len) f q = gated StepHas _ (hears own at salt bytes f) (silent f) (hears_has f q) (silent_has f q)
        taken_has (Carrier index up) f q = gated StepHas _ (carried at salt up f) (silent f) (carried_has at salt up f q) (silent_has f q)
        taken_has (Duplicate index address) f q = gated StepHas _ (contested at salt address f) (silent f) (contested_has at salt address f q) (silent_has f q)
        taken_has (Release index) f q = gated StepHas _ (released at salt f) (silent f) (released_has at salt f q) (silent_has f q)
        taken_has (Rebind index) f q = gated StepHas _ (rebound at salt f) (silent f) (rebound_has at salt f q) (silent_has f q)
        taken_has Stop f q = halted_has at salt f q
        taken_has Quiet f q = silent_has f q
        taken_has End f q = silent_has f q

        input_has : (event : Event) (f : Iface) → Q f → StepHas (input_step own at salt event bytes f)
        input_has event f q = gated StepHas f.stopped (silent f) (taken own at salt event bytes f) (silent_has f q) (taken_has event f q)

    pub turned_has : (own : List Mac) (turn : Turn) → BringsGood Good4 Good6 turn.bytes → (f : Iface) → Q f → StepHas (iface_turned own turn f)
    turned_has own turn good f q =
        then_has (ticked turn.at turn.salt (unsent_in turn.unsent turn.at turn.salt f)) (input_step own turn.at turn.salt turn.event turn.bytes)
        (ticked_has turn.at turn.salt (unsent_in turn.unsent turn.at turn.salt f) (unsent_has turn.unsent turn.at turn.salt f q))
        (input_has own turn.at turn.salt turn.bytes good turn.event)

    at_opening_has : (up : Bool) (at salt : ℕ) (f : Iface) → Q f → StepHas (carrier_at_opening up at salt f)
    at_opening_has true at salt f q = comes_has at salt f q
    at_opening_has false at salt f q = silent_has f q

    told_has : (up : Bool) (f : Iface) → Q f → StepHas (opening_told up f)
    told_has up f q = record { iface = q; reports = (kept.carrier up f q, tt) }

    pub opened_has : (up at salt : ℕ) (b : Beginning) → Q (resting b) → StepHas (opened up at salt b)
    opened_has up at salt b q =
        let has : Bool = is_up up b.managed.spec.index.number in
        then_has (opening_told has (resting b)) (carrier_at_opening has at salt) (told_has has (resting b) q) (at_opening_has has at salt)

    -- ---- of all interfaces

    abbrev pub AllHave : List Iface → Type 0
    AllHave ifaces = AllByRecursion Q ifaces

    pub all_turned_have : (own : List Mac) (turn : Turn) → BringsGood Good4 Good6 turn.bytes → (ifaces : List Iface) → AllHave ifaces
        → AllByRecursion StepHas (map (iface_turned own turn) ifaces)
    all_turned_have own turn good [] all = tt
    all_turned_have own turn good (f ∷ ifaces) all = (turned_has own turn good f all.0, all_turned_have own turn good ifaces all.1)

    pub all_opened_have : (up at salt : ℕ) (beginnings : List Beginning) → AllByRecursion (λ (b : Beginning). Q (resting b)) beginnings
        → AllByRecursion StepHas (map (opened up at salt) beginnings)
    all_opened_have up at salt [] all = tt
    all_opened_have up at salt (b ∷ beginnings) all = (opened_has up at salt b all.0, all_opened_have up at salt beginnings all.1)

  pub steps_have : (steps : List IfaceStep) → AllByRecursion StepHas steps → AllByRecursion Q (map (λ (step : IfaceStep). step.iface) steps)
  steps_have [] all = tt
  steps_have (step ∷ steps) all = (all.0.iface, steps_have steps all.1)
