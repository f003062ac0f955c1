-- Over the opening and each turn an interface keeps leases with texts and a link-local address in range, also in all that is reported of it.
use Rattle.std.proofs.Common.{ℕ, Bool, true, false, List, [], ◌∷◌, map, Option, Some, None, IfSome}
use Rattle.std.specs.List.{AllByRecursion, Contains}
use Rattle.net_types.proofs.AllLaws.{all_join}
use Rattle.net_types.proofs.CaseLaws.{gated}
use Rattle.net_types.specs.Marks.{AreBytes}
use Rattle.net_types.specs.Moments.{IsMoment}
use Rattle.net_types.specs.declared.address.Ip6.{Ip6}
use Rattle.net_types.specs.declared.address.Mac.{Mac}
use Rattle.frame_link.specs.declared.arp.ArpView.{ArpView}
use Rattle.ipv4ll.specs.Choice.{IsChoice}
use Rattle.ipv4ll.specs.Table.{LlStep, ll_hears, ll_restarts, ll_tick, off}
use Rattle.ipv4ll.specs.declared.link_local.LinkLocal.{LinkLocal}
use Rattle.ipv4ll.specs.declared.link_local.LlNews.{LlNews}
use Rattle.ipv4ll.specs.declared.link_local.LlNews.TheVariants as local
use Rattle.v4_frames.specs.Heard.{HeardMessage, heard4_in}
use Rattle.v4_client.specs.Calls.{arp_step, brought, carrier_step, heard_step, rebind_step, release_step, unsent_step}
use Rattle.v4_client.specs.History.{tick_step}
use Rattle.v4_client.specs.Moves.{moved}
use Rattle.v4_client.specs.declared.states.Carrier.TheVariants.{Up, Down}
use Rattle.v4_client.specs.declared.states.News4.{News4}
use Rattle.v4_client.specs.declared.states.News4.TheVariants as news4
use Rattle.v4_client.specs.declared.states.Step4.{Step4}
use Rattle.v4_client.specs.declared.states.Tell.{Tell}
use Rattle.v4_client.specs.declared.states.Tell.TheVariants.{Server}
use Rattle.v6_frames.specs.Heard.{HeardMessage6, heard6_in}
use Rattle.v6_client.specs.Runs.{Turned6, carrier_turned, contested_turned, hears_turned, rebind_turned, release_turned, tick_turned}
use Rattle.v6_client.specs.declared.states.Carrier6.TheVariants as carrier6
use Rattle.v6_client.specs.declared.states.News6.{News6}
use Rattle.v6_client.specs.declared.states.News6.TheVariants as news6
use Rattle.world.specs.declared.wakes.Event.{Event}
use Rattle.world.specs.declared.wakes.Event.TheVariants.{Frame, Carrier, Duplicate, Release, Rebind, Stop, Quiet, End}
use Rattle.script_model.specs.IfaceSets.{is_in, is_up}
use Rattle.settings.specs.Fitting.{FitsManaged}
use Rattle.settings.specs.declared.interfaces.Managed.{Managed}
use Rattle.client_model.specs.ClientSettings.{runs_dhcp4}
use Rattle.client_model.specs.ClientSettings6.{runs_dhcp6}
use Rattle.client_model.specs.Dhcp4Steps.{after_dhcp4, arms, arrival_at, begin_dhcp4, begin_local, dhcp4_packet, dhcp4_step, drop_dhcp4, followed, holds_lease, lease_news, rebind_dhcp4, stop_dhcp4, tick_dhcp4}
use Rattle.client_model.specs.Dhcp6Steps.{after_dhcp6, begin_dhcp6, contested, dhcp6_step, drop_dhcp6, lease6_news, rebind_dhcp6, stop_dhcp6, tell6_of, tick_dhcp6}
use Rattle.client_model.specs.IfaceSteps.{IfaceStep, Report, index_of, silent, then_step, with_news}
use Rattle.client_model.specs.IfaceTurns.{Turn, arp_heard, hears, hears_either, hears_message, hears_message6, hears_packet, iface_turned, input_step, taken}
use Rattle.client_model.specs.Interfaces.{begins, carried, carrier_at_opening, carrier_comes, carrier_goes, halted, machines_drop, machines_rebind, machines_stop, opened, opening_told, rebound, released, resting, restarted, tells, ticked, told_at_stop, unsent_in}
use Rattle.client_model.specs.KeptLeases.{Beginning}
use Rattle.client_model.specs.LocalSteps.{armed, local_hears, local_news, local_off, local_step, tick_local}
use Rattle.client_model.specs.declared.interfaces.Iface.{Iface}
use Rattle.client_model.specs.declared.steps.News.{News}
use Rattle.client_model.specs.declared.steps.News.TheVariants.{Opened, CarrierCame, CarrierWent, Released, Stopped, Lease4, Lease6, Timeout, LocalGained, LocalLost}
use Rattle.safe_texts.proofs.FrameOctets as octets
use Rattle.safe_texts.proofs.FrameOctets.{heard6_good}
use Rattle.safe_texts.proofs.KeptOctets.{HasOctets, octets_kept}
use Rattle.exact_texts.proofs.Clients4.{Exact4, brought4, carrier4, packet4, rebind4, release4, takes4, tick4, unsent4}
use Rattle.exact_texts.proofs.Clients6.{Exact6, carrier6 as carried6, contested6, message6, rebind6, release6, tick6}
use Rattle.exact_texts.proofs.Heard4.{Good4, heard_good}
use Rattle.exact_texts.proofs.Heard6.{HeardServer, heard_server}
use Rattle.exact_texts.proofs.LocalAddresses.{InRange, LosesChoice, armed_in_range, followed_in_range, hears_in_range, hears_loses, restarts_in_range, tick_loses, ticks_in_range}

-- ---- messages that come in a frame of bytes

pub record Good6 (heard : HeardMessage6) : Type 0 where
  pub values : octets.Good6 heard
  pub server : HeardServer heard

both_good : (found : Option HeardMessage6) → IfSome found octets.Good6 → IfSome found HeardServer → IfSome found Good6
both_good None values server = tt
both_good (Some heard) values server = record { values = values; server = server }

heard_good6 : (mac : Mac) (bytes : List ℕ) → AreBytes bytes → IfSome (heard6_in mac bytes) Good6
heard_good6 mac bytes h = both_good (heard6_in mac bytes) (heard6_good mac bytes h) (heard_server mac bytes h)

-- ---- what is new

-- a link-local address that is lost is one that a host may choose
abbrev pub FitsNews : News → Type 0
FitsNews Opened = Unit {0}
FitsNews CarrierCame = Unit {0}
FitsNews CarrierWent = Unit {0}
FitsNews Released = Unit {0}
FitsNews Stopped = Unit {0}
FitsNews (Lease4 told) = Unit {0}
FitsNews (Lease6 told) = Unit {0}
FitsNews Timeout = Unit {0}
FitsNews LocalGained = Unit {0}
FitsNews (LocalLost ip) = IsChoice ip

news4_fit : (told : News4) → AllByRecursion FitsNews (lease_news told)
news4_fit news4.Nothing = tt
news4_fit news4.Bound = (tt, tt)
news4_fit news4.Reboot = (tt, tt)
news4_fit news4.Renew = (tt, tt)
news4_fit news4.Rebind = (tt, tt)
news4_fit news4.Nak = (tt, tt)
news4_fit news4.Expire = (tt, tt)
news4_fit news4.Stop = (tt, tt)

news6_fit : (told : News6) → AllByRecursion FitsNews (lease6_news told)
news6_fit news6.Nothing = tt
news6_fit news6.Bound = (tt, tt)
news6_fit news6.Reboot = (tt, tt)
news6_fit news6.Renew = (tt, tt)
news6_fit news6.Rebind = (tt, tt)
news6_fit news6.Changed = (tt, tt)
news6_fit news6.Expire = (tt, tt)
news6_fit news6.Stop = (tt, tt)

local_fit : (told : LlNews) → LosesChoice told → AllByRecursion FitsNews (local_news told)
local_fit local.Nothing fits = tt
local_fit local.Timeout fits = (tt, tt)
local_fit local.Gained fits = (tt, tt)
local_fit (local.Lost ip) fits = (fits, tt)

module _ (managed : List Managed) where
  -- ---- an interface

  -- it is managed, its settings fit, its leases have texts, and its link-local address is in range
  pub record IsExactIface (f : Iface) : Type 0 where
    pub among : Contains managed f.managed
    pub fits : FitsManaged f.managed
    pub values : HasOctets f
    pub four : Exact4 f.dhcp4
    pub range : InRange f.local
    pub six : Exact6 f.dhcp6

  abbrev Q : Iface → Type 0
  Q f = IsExactIface f

  pub record IsExactReport (report : Report) : Type 0 where
    pub before : Q report.before
    pub after : Q report.after
    pub news : FitsNews report.news

  abbrev AreExact : List Report → Type 0
  AreExact reports = AllByRecursion IsExactReport reports

  pub record IsExactStep (step : IfaceStep) : Type 0 where
    pub iface : Q step.iface
    pub reports : AreExact step.reports

  with_up : (up : Bool) (f : Iface) → Q f → Q (record f { up = up })
  with_up up f q =
      record { among = q.among; fits = q.fits; values = octets_kept.carrier up f q.values; four = q.four; range = q.range; six = q.six }

  with_stopped : (f : Iface) → Q f → Q (record f { stopped = true })
  with_stopped f q = record { among = q.among; fits = q.fits; values = octets_kept.stopped f q.values; four = q.four; range = q.range; six = q.six }

  with_local : (local : LinkLocal) (f : Iface) → InRange local → Q f → Q (record f { local = local })
  with_local local f range q =
      record { among = q.among; fits = q.fits; values = octets_kept.local local f q.values; four = q.four; range = range; six = q.six }

  with_step4 : (step : Step4) (f : Iface) → Exact4 (moved step f.dhcp4) → Q f → Q (record f { dhcp4 = moved step f.dhcp4 })
  with_step4 step f four q =
      record { among = q.among; fits = q.fits; values = octets_kept.step4 step f q.values; four = four; range = q.range; six = q.six }

  with_six : (turned : Turned6) (f : Iface) → Exact6 turned.client → HasOctets (after_dhcp6 turned f) → Q f → Q (after_dhcp6 turned f)
  with_six turned f six values q =
      record { among = q.among; fits = q.fits; values = values; four = q.four; range = q.range; six = six }

  -- ---- steps

  silent_exact : (f : Iface) → Q f → IsExactStep (silent f)
  silent_exact f q = record { iface = q; reports = tt }

  then_exact : (first : IfaceStep) (next : Iface → IfaceStep) → IsExactStep first → ((f : Iface) → Q f → IsExactStep (next f))
      → IsExactStep (then_step first next)
  then_exact first next one more =
      let two : IsExactStep (next first.iface) = more first.iface one.iface in
      record { iface = two.iface; reports = all_join IsExactReport first.reports (next first.iface).reports one.reports two.reports }

  news_exact : (news : News) (before : Iface) (step : IfaceStep) → FitsNews news → Q before → IsExactStep step → IsExactStep (with_news news before step)
  news_exact news before step fits q exact =
      record { iface = exact.iface; reports = (record { before = q; after = exact.iface; news = fits }, exact.reports) }

  abbrev report_of : Iface → Iface → News → Report
  report_of before after news = record { before = before; news = news; after = after }

  reports_exact : (before after : Iface) → Q before → Q after → (news : List News) → AllByRecursion FitsNews news
      → AreExact (map (report_of before after) news)
  reports_exact before after p q [] fit = tt
  reports_exact before after p q (one ∷ news) fit =
      (record { before = p; after = q; news = fit.0 }, reports_exact before after p q news fit.1)

  module _ (at salt : ℕ) (early : IsMoment at) where
    -- ---- the machines

    step4_exact : (f : Iface) (step : Step4) → Exact4 (moved step f.dhcp4) → Q f → IsExactStep (dhcp4_step at f step)
    step4_exact f step four q =
        let after : Q (after_dhcp4 at step f) =
        with_local (followed f.managed.conf at (holds_lease f) step.news f.local) (record f { dhcp4 = moved step f.dhcp4 })
        (followed_in_range f.managed.conf at (holds_lease f) step.news f.local q.range) (with_step4 step f four q) in
        record { iface = after; reports = reports_exact f (after_dhcp4 at step f) q after (lease_news step.news) (news4_fit step.news) }

    step6_exact : (f : Iface) (turned : Turned6) → Exact6 turned.client → HasOctets (after_dhcp6 turned f) → Q f → IsExactStep (dhcp6_step f turned)
    step6_exact f turned six values q =
        let after : Q (after_dhcp6 turned f) = with_six turned f six values q in
        record { iface = after; reports = reports_exact f (after_dhcp6 turned f) q after (lease6_news turned.out.news) (news6_fit turned.out.news) }

    local_exact : (f : Iface) (step : LlStep) → InRange step.ll → LosesChoice step.out.news → Q f → IsExactStep (local_step f step)
    local_exact f step range loses q =
        let after : Q (record f { local = step.ll }) = with_local step.ll f range q in
        record { iface = after; reports = reports_exact f (record f { local = step.ll }) q after (local_news step.out.news) (local_fit step.out.news loses) }

    begin4_exact : (f : Iface) → Q f → IsExactStep (begin_dhcp4 at salt f)
    begin4_exact f q =
        gated IsExactStep (runs_dhcp4 f.managed.conf) (dhcp4_step at f (carrier_step Up at salt f.dhcp4)) (silent f)
        (step4_exact f (carrier_step Up at salt f.dhcp4) (carrier4 at salt early f.dhcp4 q.four Up) q) (silent_exact f q)

    rebind4_exact : (f : Iface) → Q f → IsExactStep (rebind_dhcp4 at salt f)
    rebind4_exact f q =
        gated IsExactStep (runs_dhcp4 f.managed.conf) (dhcp4_step at f (rebind_step at salt f.dhcp4)) (silent f)
        (step4_exact f (rebind_step at salt f.dhcp4) (rebind4 at salt early f.dhcp4 q.four) q) (silent_exact f q)

    drop4_exact : (f : Iface) → Q f → IsExactStep (drop_dhcp4 at salt f)
    drop4_exact f q = step4_exact f (carrier_step Down at salt f.dhcp4) (carrier4 at salt early f.dhcp4 q.four Down) q

    stop4_exact : (tell : Tell) (f : Iface) → Q f → IsExactStep (stop_dhcp4 tell at salt f)
    stop4_exact tell f q = step4_exact f (release_step tell at salt f.dhcp4) (release4 at salt early f.dhcp4 q.four tell) q

    tick4_exact : (f : Iface) → Q f → IsExactStep (tick_dhcp4 at salt f)
    tick4_exact f q = step4_exact f (tick_step at salt f.dhcp4) (tick4 at salt early f.dhcp4 q.four) q

    begin_local_exact : (f : Iface) → Q f → IsExactStep (begin_local at f)
    begin_local_exact f q =
        silent_exact (record f { local = armed f.managed.conf at f.local })
        (with_local (armed f.managed.conf at f.local) f (armed_in_range f.managed.conf at f.local q.range) q)

    arms_exact : (f : Iface) → Q f → IsExactStep (arms at f)
    arms_exact f q = gated IsExactStep (holds_lease f) (silent f) (begin_local at f) (silent_exact f q) (begin_local_exact f q)

    off_exact : (f : Iface) → Q f → IsExactStep (local_off f)
    off_exact f q = silent_exact (record f { local = off f.local.iface }) (with_local (off f.local.iface) f tt q)

    tick_local_exact : (f : Iface) → Q f → IsExactStep (tick_local at salt f)
    tick_local_exact f q =
        local_exact f (ll_tick f.local at salt) (ticks_in_range f.local at salt q.range) (tick_loses f.local at salt q.range) q

    begin6_exact : (f : Iface) → Q f → IsExactStep (begin_dhcp6 at salt f)
    begin6_exact f q =
        gated IsExactStep (runs_dhcp6 f.managed.conf) (dhcp6_step f (carrier_turned carrier6.Up at salt f.dhcp6)) (silent f)
        (step6_exact f (carrier_turned carrier6.Up at salt f.dhcp6) (carried6 at salt early f.dhcp6 q.six carrier6.Up)
        (octets_kept.carrier6 carrier6.Up at salt f q.values) q) (silent_exact f q)

    rebind6_exact : (f : Iface) → Q f → IsExactStep (rebind_dhcp6 at salt f)
    rebind6_exact f q =
        gated IsExactStep (runs_dhcp6 f.managed.conf) (dhcp6_step f (rebind_turned at salt f.dhcp6)) (silent f)
        (step6_exact f (rebind_turned at salt f.dhcp6) (rebind6 at salt early f.dhcp6 q.six) (octets_kept.rebind6 at salt f q.values) q)
        (silent_exact f q)

    drop6_exact : (f : Iface) → Q f → IsExactStep (drop_dhcp6 at salt f)
    drop6_exact f q =
        step6_exact f (carrier_turned carrier6.Down at salt f.dhcp6) (carried6 at salt early f.dhcp6 q.six carrier6.Down)
        (octets_kept.carrier6 carrier6.Down at salt f q.values) q

    stop6_exact : (tell : Tell) (f : Iface) → Q f → IsExactStep (stop_dhcp6 tell at salt f)
    stop6_exact tell f q =
        step6_exact f (release_turned (tell6_of tell) at salt f.dhcp6) (release6 at salt early f.dhcp6 q.six (tell6_of tell))
        (octets_kept.release6 (tell6_of tell) at salt f q.values) q

    tick6_exact : (f : Iface) → Q f → IsExactStep (tick_dhcp6 at salt f)
    tick6_exact f q =
        step6_exact f (tick_turned at salt f.dhcp6) (tick6 at salt early f.dhcp6 q.six) (octets_kept.tick6 at salt f q.values) q

    begins_exact : (f : Iface) → Q f → IsExactStep (begins at salt f)
    begins_exact f q =
        then_exact (then_step (begin_dhcp4 at salt f) (begin_local at)) (begin_dhcp6 at salt)
        (then_exact (begin_dhcp4 at salt f) (begin_local at) (begin4_exact f q) begin_local_exact) begin6_exact

    rebinds_exact : (f : Iface) → Q f → IsExactStep (machines_rebind at salt f)
    rebinds_exact f q =
        then_exact (then_step (rebind_dhcp4 at salt f) (arms at)) (rebind_dhcp6 at salt)
        (then_exact (rebind_dhcp4 at salt f) (arms at) (rebind4_exact f q) arms_exact) rebind6_exact

    drops_exact : (f : Iface) → Q f → IsExactStep (machines_drop at salt f)
    drops_exact f q =
        then_exact (then_step (drop_dhcp4 at salt f) local_off) (drop_dhcp6 at salt)
        (then_exact (drop_dhcp4 at salt f) local_off (drop4_exact f q) off_exact) drop6_exact

    stops_exact : (tell : Tell) (f : Iface) → Q f → IsExactStep (machines_stop tell at salt f)
    stops_exact tell f q =
        then_exact (then_step (stop_dhcp4 tell at salt f) local_off) (stop_dhcp6 tell at salt)
        (then_exact (stop_dhcp4 tell at salt f) local_off (stop4_exact tell f q) off_exact) (stop6_exact tell)

    -- ---- inputs

    comes_exact : (f : Iface) → Q f → IsExactStep (carrier_comes at salt f)
    comes_exact f q =
        news_exact CarrierCame f (begins at salt (record f { up = true })) tt q (begins_exact (record f { up = true }) (with_up true f q))

    goes_exact : (f : Iface) → Q f → IsExactStep (carrier_goes at salt f)
    goes_exact f q =
        news_exact CarrierWent f (machines_drop at salt (record f { up = false })) tt q (drops_exact (record f { up = false }) (with_up false f q))

    carried_exact : (up : Bool) (f : Iface) → Q f → IsExactStep (carried at salt up f)
    carried_exact true f q = gated IsExactStep f.up (silent f) (carrier_comes at salt f) (silent_exact f q) (comes_exact f q)
    carried_exact false f q = gated IsExactStep f.up (carrier_goes at salt f) (silent f) (goes_exact f q) (silent_exact f q)

    released_exact : (f : Iface) → Q f → IsExactStep (released at salt f)
    released_exact f q = news_exact Released f (machines_stop Server at salt f) tt q (stops_exact Server f q)

    rebound_exact : (f : Iface) → Q f → IsExactStep (rebound at salt f)
    rebound_exact f q = gated IsExactStep f.up (machines_rebind at salt f) (silent f) (rebinds_exact f q) (silent_exact f q)

    halted_exact : (f : Iface) → Q f → IsExactStep (halted at salt f)
    halted_exact f q =
        then_exact (machines_stop (told_at_stop f.managed.conf) at salt (record f { stopped = true })) (tells Stopped)
        (stops_exact (told_at_stop f.managed.conf) (record f { stopped = true }) (with_stopped f q))
        (λ g r. news_exact Stopped g (silent g) tt r (silent_exact g r))

    contested_exact : (address : Ip6) (f : Iface) → Q f → IsExactStep (contested at salt address f)
    contested_exact address f q =
        step6_exact f (contested_turned address at salt f.dhcp6) (contested6 at salt early f.dhcp6 q.six address)
        (octets_kept.contested6 address at salt f q.values) q

    -- ---- turns

    ticked_exact : (f : Iface) → Q f → IsExactStep (ticked at salt f)
    ticked_exact f q =
        then_exact (then_step (tick_dhcp4 at salt f) (tick_local at salt)) (tick_dhcp6 at salt)
        (then_exact (tick_dhcp4 at salt f) (tick_local at salt) (tick4_exact f q) tick_local_exact) tick6_exact

    with_unsent : (f : Iface) → Q f → Q (restarted at salt f)
    with_unsent f q = record {
      among = q.among;
      fits = q.fits;
      values = octets_kept.local (ll_restarts f.local at salt) (record f { dhcp4 = unsent_step at salt f.dhcp4 }) (octets_kept.unsent4 at salt f q.values);
      four = unsent4 at salt early f.dhcp4 q.four;
      range = restarts_in_range f.local at salt q.range;
      six = q.six;
    }

    unsent_exact : (set : ℕ) (f : Iface) → Q f → Q (unsent_in set at salt f)
    unsent_exact set f q = gated Q (is_in set (index_of f)) (restarted at salt f) f (with_unsent f q) q

    module _ (own : List Mac) where
      packet_exact : (arp : ArpView) (f : Iface) → Q f → IsExactStep (hears_packet own at salt arp f)
      packet_exact arp f q =
          then_exact (dhcp4_packet own at salt arp f) (local_hears own at salt arp)
          (step4_exact f (arp_step own at salt arp f.dhcp4) (packet4 at salt early f.dhcp4 q.four own arp) q)
          (λ g r. local_exact g (ll_hears own g.local arp at salt) (hears_in_range own g.local arp at salt r.range)
          (hears_loses own g.local arp at salt r.range) r)

      message6_exact : (message : Option HeardMessage6) → IfSome message Good6 → (f : Iface) → Q f → IsExactStep (hears_message6 at salt message f)
      message6_exact None good f q = silent_exact f q
      message6_exact (Some heard) good f q =
          step6_exact f (hears_turned at salt heard.message f.dhcp6) (message6 at salt early f.dhcp6 q.six heard.message good.server)
          (octets_kept.hears6 at salt heard good.values f q.values) q

      with_brought : (heard : HeardMessage) → Good4 heard → (f : Iface) → Q f → Q (record f { dhcp4 = brought (arrival_at at heard) f.dhcp4 })
      with_brought heard good f q = record {
        among = q.among;
        fits = q.fits;
        values = octets_kept.brings4 at heard good.values f q.values;
        four = brought4 at salt early f.dhcp4 q.four heard good;
        range = q.range;
        six = q.six;
      }

      message_exact : (message : Option HeardMessage) → IfSome message Good4 → (message6 : Option HeardMessage6) → IfSome message6 Good6 → (f : Iface) → Q f
          → IsExactStep (hears_message at salt message message6 f)
      message_exact None good other good6 f q = message6_exact other good6 f q
      message_exact (Some heard) good other good6 f q =
          step4_exact (record f { dhcp4 = brought (arrival_at at heard) f.dhcp4 }) (heard_step salt (arrival_at at heard) f.dhcp4)
          (takes4 at salt early f.dhcp4 q.four heard good) (with_brought heard good f q)

      either_exact : (arp : Option ArpView) (message : Option HeardMessage) → IfSome message Good4 → (message6 : Option HeardMessage6)
          → IfSome message6 Good6 → (f : Iface) → Q f → IsExactStep (hears_either own at salt arp message message6 f)
      either_exact (Some arp) message good other good6 f q = packet_exact arp f q
      either_exact None message good other good6 f q = message_exact message good other good6 f q

      module _ (bytes : List ℕ) (came : AreBytes bytes) where
        hears_exact : (f : Iface) → Q f → IsExactStep (hears own at salt bytes f)
        hears_exact f q =
            either_exact (arp_heard bytes) (heard4_in f.managed.spec.mac bytes) (heard_good f.managed.spec.mac bytes came)
            (heard6_in f.managed.spec.mac bytes) (heard_good6 f.managed.spec.mac bytes came) f q

        taken_exact : (event : Event) (f : Iface) → Q f → IsExactStep (taken own at salt event bytes f)
        taken_exact (Frame index len) f q = gated IsExactStep _ (hears own at salt bytes f) (silent f) (hears_exact f q) (silent_exact f q)
        taken_exact (Carrier index up) f q = gated IsExactStep _ (carried at salt up f) (silent f) (carried_exact up f q) (silent_exact f q)
        taken_exact (Duplicate index address) f q =
            gated IsExactStep _ (contested at salt address f) (silent f) (contested_exact address f q) (silent_exact f q)
        taken_exact (Release index) f q = gated IsExactStep _ (released at salt f) (silent f) (released_exact f q) (silent_exact f q)
        taken_exact (Rebind index) f q = gated IsExactStep _ (rebound at salt f) (silent f) (rebound_exact f q) (silent_exact f q)
        taken_exact Stop f q = halted_exact f q
        taken_exact Quiet f q = silent_exact f q
        taken_exact End f q = silent_exact f q

        input_exact : (event : Event) (f : Iface) → Q f → IsExactStep (input_step own at salt event bytes f)
        input_exact event f q = gated IsExactStep f.stopped (silent f) (taken own at salt event bytes f) (silent_exact f q) (taken_exact event f q)

    -- ---- the opening

    at_opening_exact : (up : Bool) (f : Iface) → Q f → IsExactStep (carrier_at_opening up at salt f)
    at_opening_exact true f q = comes_exact f q
    at_opening_exact false f q = silent_exact f q

    told_exact : (up : Bool) (f : Iface) → Q f → IsExactStep (opening_told up f)
    told_exact up f q = record { iface = q; reports = (record { before = q; after = with_up up f q; news = tt }, tt) }

    opened_exact : (up : ℕ) (b : Beginning) → Q (resting b) → IsExactStep (opened up at salt b)
    opened_exact up b q =
        let has : Bool = is_up up b.managed.spec.index.number in
        then_exact (opening_told has (resting b)) (carrier_at_opening has at salt) (told_exact has (resting b) q) (at_opening_exact has)

    pub all_opened : (up : ℕ) (beginnings : List Beginning) → AllByRecursion (λ (b : Beginning). Q (resting b)) beginnings
        → AllByRecursion IsExactStep (map (opened up at salt) beginnings)
    all_opened up [] all = tt
    all_opened up (b ∷ beginnings) all = (opened_exact up b all.0, all_opened up beginnings all.1)

  turned_exact : (own : List Mac) (turn : Turn) → IsMoment turn.at → AreBytes turn.bytes → (f : Iface) → Q f → IsExactStep (iface_turned own turn f)
  turned_exact own turn early came f q =
      then_exact (ticked turn.at turn.salt (unsent_in turn.unsent turn.at turn.salt f)) (input_step own turn.at turn.salt turn.event turn.bytes)
      (ticked_exact turn.at turn.salt early (unsent_in turn.unsent turn.at turn.salt f) (unsent_exact turn.at turn.salt early turn.unsent f q))
      (input_exact turn.at turn.salt early own turn.bytes came turn.event)

  pub all_turned : (own : List Mac) (turn : Turn) → IsMoment turn.at → AreBytes turn.bytes → (ifaces : List Iface)
      → AllByRecursion IsExactIface ifaces → AllByRecursion IsExactStep (map (iface_turned own turn) ifaces)
  all_turned own turn early came [] all = tt
  all_turned own turn early came (f ∷ ifaces) all = (turned_exact own turn early came f all.0, all_turned own turn early came ifaces all.1)

  pub steps_exact : (steps : List IfaceStep) → AllByRecursion IsExactStep steps
      → AllByRecursion IsExactIface (map (λ (step : IfaceStep). step.iface) steps)
  steps_exact [] all = tt
  steps_exact (step ∷ steps) all = (all.0.iface, steps_exact steps all.1)
