-- An input keeps what is pending, or a lease is bound.
use Rattle.std.proofs.Common.{◌≡◌, ℕ, ◌+◌, ◌<◌, ◌≤◌, ◌==◌, ◌%◌, ◌⊎◌, inl, inr, Bool, true, false, ◌&&◌, nat_le, nat_eq, List, [], ◌∷◌, Option, Some, None, IfSome, refl, sym, ap, subst, ◌∙◌, arith}
use Rattle.std.proofs.lemmas.Bool.Decides.{nat_tests}
use Rattle.std.specs.Prelude.{option_map}
use Rattle.std.specs.Option.{is_some}
use Rattle.machine.specs.Draw.{draw_of}
use Rattle.machine.specs.Moment.{is_due}
use Rattle.machine.specs.Since.{Since, Always}
use Rattle.net_types.specs.declared.address.Ip4.{Ip4}
use Rattle.net_types.specs.declared.interface.IfIndex.{IfIndex}
use Rattle.net_types.specs.declared.interface.Name.{Name}
use Rattle.frame_link.specs.declared.arp.ArpView.{ArpView}
use Rattle.arp_acd.specs.declared.detection.Acd.{Acd}
use Rattle.arp_acd.specs.declared.detection.ArpSay.{ArpSay}
use Rattle.arp_acd.specs.declared.detection.Phase.{Phase}
use Rattle.arp_acd.specs.declared.detection.Phase.TheVariants.{Probing, Announcing, Held, Over}
use Rattle.arp_acd.specs.Conflict.{is_contested, is_used}
use Rattle.arp_acd.specs.Table as detection
use Rattle.arp_acd.specs.Table.{AcdStep}
use Rattle.lease_text.specs.declared.lease.Terms4.{Terms4}
use Rattle.lease_text.specs.Leases.{LeaseContent, ValueContent}
use Rattle.v4_frames.specs.declared.sent.Sent4.{Sent4}
use Rattle.v4_frames.specs.Heard.{HeardMessage}
use Rattle.v4_client.specs.declared.moments.Backoff.{Backoff}
use Rattle.v4_client.specs.declared.moments.TheConstants.{WAIT_SPREAD}
use Rattle.v4_client.specs.declared.states.Answer4.{Answer4}
use Rattle.v4_client.specs.declared.states.Answer4.TheVariants as answer
use Rattle.v4_client.specs.declared.states.Exchange4.{Exchange4}
use Rattle.v4_client.specs.declared.states.Origin4.{Origin4}
use Rattle.v4_client.specs.declared.states.Origin4.TheVariants.{Offered, Rebooted}
use Rattle.v4_client.specs.declared.states.Say4.{Say4}
use Rattle.v4_client.specs.declared.states.State4.{State4}
use Rattle.v4_client.specs.declared.states.State4.TheVariants.{Off, Init, Selecting, Requesting, Rebooting, Checking, Waiting, Bound, Renewing, Rebinding}
use Rattle.v4_client.specs.declared.states.Step4.{Step4}
use Rattle.v4_client.specs.declared.states.Turn4.{Turn4}
use Rattle.v4_client.specs.Answers.{answer_of, answering, offer_by, reply_in}
use Rattle.v4_client.specs.Clients.{is_bound}
use Rattle.v4_client.specs.Detection.{checked, defended}
use Rattle.v4_client.specs.Hearing as row
use Rattle.v4_client.specs.Inputs.{rebind_row}
use Rattle.v4_client.specs.Messages.{Arrival}
use Rattle.v4_client.specs.Moments.{expiry}
use Rattle.v4_client.specs.Moves.{is_grant, kept_after}
use Rattle.v4_client.specs.Saying.{sent_of}
use Rattle.v4_client.specs.Settings.{SettingsContent}
use Rattle.v4_client.specs.Steps.{rests}
use Rattle.client_model.specs.ClientSettings.{settings_of}
use Rattle.client_model.specs.Dhcp4Steps.{arrival_at}
use Rattle.evidence_words.specs.Entries.{Entry}
use Rattle.evidence_words.specs.Inputs.{Site, arp_on, contests, index_at, tells_contest}
use Rattle.lease_evidence.specs.Exchanges.{Numbered, Seen, seen_in, shows}
use Rattle.lease_evidence.specs.KeptBasis4.{IsAcknowledged, Sometime}
use Rattle.lease_evidence.specs.LeaseBasis.{CalmFor, FirstAck, GoodAck, GrantsNothing, tells_end}
use Rattle.lease_evidence.specs.Replies as heard_in
use Rattle.lease_evidence.specs.Replies.{message_on, reply_at}
use Rattle.lease_evidence.proofs.Observed.{NoneAbove, always_map, observes}
use Rattle.lease_evidence.proofs.Observer.{Grant, Latest, Opens, kept_in, shown_opens, unless_ended}
use Rattle.lease_evidence.proofs.Watching.{AnyTerms, Asks, Holds, On, ended_by, message_in}
use Rattle.lease_progress.specs.FairTurns.{Fair, probing}
use Rattle.lease_progress.specs.LeaseHeld.{least_asking}
use Rattle.lease_progress.specs.Serving.{Answered, BroadcastAlone, EachRequest, asks, grants, is_answered, is_offer, is_offer_by, offers}
use Rattle.lease_progress.proofs.Pending.{Amid, BoundNow, Checks, Pending, SoughtNow}
use Rattle.lease_progress.proofs.PendingTicks.{choose}
use Rattle.lease_progress.proofs.Shown.{Shows}

-- ---- the exchange that is open

-- the open exchange is this one, and had no acceptable ACK
pub record OpenedAs (exchange : Exchange4) (had : ℕ) (current : Option Numbered) : Type 0 where
  pub opened : Numbered
  pub is : current ≡ Some opened
  pub same : opened.exchange ≡ exchange
  pub new : nat_eq had opened.number ≡ false

pub opened_as : (exchange : Exchange4) (had : ℕ) (current : Option Numbered) → Asks exchange had current → OpenedAs exchange had current
opened_as exchange had None h = absurd h
opened_as exchange had (Some x) h = record { opened = x; is = refl; same = h.0; new = h.1 }

not_both : (site : Site) (x : Numbered) (past : List Entry) → Always (GrantsNothing site x) past → Sometime (IsAcknowledged site x) past → ⊥
not_both site x [] none some = some
not_both site x (e ∷ past) none some = elim some [ inl here ↦ none.0 here.terms here.good | inr before ↦ not_both site x past none.1 before.1 ]

number_of : (count : ℕ) (current : Option Numbered) (x : Numbered) → Latest count current → current ≡ Some x → x.number ≡ count
number_of count current x h is = subst (λ (c : Option Numbered). IfSome c (λ y. y.number ≡ count)) is h

module _ (site : Site) (past : List Entry) (at : ℕ) (one : Step4) where
  abbrev pub amid : Seen
  amid = shows at (message_in one) (seen_in site past)

  -- before this turn the exchange that is open after its tick had no ACK
  pub granted_nothing : (exchange : Exchange4) → (o : OpenedAs exchange (kept_in site past).answered amid.current) → Always (GrantsNothing site o.opened) past
  granted_nothing exchange o =
      let opens : Opens (seen_in site past) amid = shown_opens at (message_in one) (seen_in site past) in
      let number : o.opened.number ≡ amid.count = number_of amid.count amid.current o.opened (opens.latest (observes site past).latest) o.is in
      elim (opens.since o.opened o.is) [
        | inl was ↦ (observes site past).unanswered o.opened was (less (kept_in site past).answered o.opened.number (seen_in site past).count amid.count
            (observes site past).within opens.grows number o.new)
        | inr new ↦ always_map (NoneAbove site (seen_in site past).count) (GrantsNothing site o.opened)
            (λ e earlier h terms good. let most : o.opened.number ≤ (seen_in site past).count = h o.opened good.is_open in omega (arith, most, new))
            past (observes site past).none_above
      ]
    where
      less : (had number before count : ℕ) → had ≤ before → before ≤ count → number ≡ count → nat_eq had number ≡ false → had < number
      less had number before count a b c d = grind (arith, nat_tests)

-- ---- what was granted

any_time : (site : Site) (opened : Numbered) (terms : Terms4) (past : List Entry) → Since (CalmFor site opened) (FirstAck site opened terms) past
    → Sometime (GoodAck site opened terms) past
any_time site opened terms [] h = h
any_time site opened terms (e ∷ past) h = elim h [ inl here ↦ inl here.good | inr before ↦ inr (tt, any_time site opened terms past before.1) ]

record GrantedOn (terms : Terms4) (grant : Option Grant) : Type 0 where
  found : Grant
  is : grant ≡ Some found
  same : found.terms ≡ terms

granted_on : (K : Terms4 → Type 0) (terms : Terms4) (grant : Option Grant) → Holds K terms grant → GrantedOn terms grant
granted_on K terms None h = absurd h
granted_on K terms (Some grant) h = record { found = grant; is = refl; same = h.0 }

stood : (ended : Bool) (before : Option Grant) (grant : Grant) → unless_ended ended before ≡ Some grant → before ≡ Some grant
stood true before grant h = absurd cc
stood false before grant h = h

module _ (site : Site) (answered : Answered) (wait : ℕ) (f : Entry) (past : List Entry) (fair : Fair site answered wait f past) (one : Step4) where
  -- nobody contests the address of a grant that stands
  pub uncontested : (K : Terms4 → Type 0) (terms : Terms4) → Holds K terms (ended_by one (kept_in site past)).grant → contests site terms.net.ip f ≡ false
  uncontested K terms holds =
      let g : GrantedOn terms (ended_by one (kept_in site past)).grant = granted_on K terms (ended_by one (kept_in site past)).grant holds in
      subst (λ (t : Terms4). contests site t.net.ip f ≡ false) g.same
      (fair.alone g.found.opened g.found.terms
      (any_time site g.found.opened g.found.terms past
      ((observes site past).stands g.found (stood (tells_end (message_in one)) (kept_in site past).grant g.found g.is))))

equal_number : (n : ℕ) → (n == n) ≡ true
equal_number n = grind (arith, nat_tests)

not_due : (due : Option ℕ) (at : ℕ) → IfSome due (λ end. at < end) → is_due due at ≡ false
not_due None at h = refl
not_due (Some due) at h = later due at h
  where
    later : (due at : ℕ) → at < due → nat_le due at ≡ false
    later due at h = grind (arith, nat_tests)

-- ---- an input

module _ (site : Site) (answered : Answered) (wait end : ℕ) (f : Entry) (past : List Entry) (fair : Fair site answered wait f past)
    (last : Option ℕ) (salt : ℕ) (kept : Option LeaseContent) (one : Step4) where
  abbrev settings : SettingsContent
  settings = settings_of site.duid site.managed

  abbrev turn : Turn4
  turn = record { site = settings.site; last = last; at = f.moment; salt = salt }

  -- a lease is bound in time, and kept
  pub record Binds (step : Step4) : Type 0 where
    pub in_time : f.moment ≤ end
    pub bound : is_bound step.state ≡ true
    pub keeps : (name : Name) (fresh : List ValueContent) → is_some (kept_after step.keep name fresh kept) ≡ true

  abbrev pub Out : Step4 → Type 0
  Out step = Pending site answered wait end f.moment (f ∷ past) step.state ⊎ Binds step

  abbrev AmidTurn : State4 → Type 0
  AmidTurn state = Amid site answered wait end f past kept state

  -- ---- where nothing is heard

  module _ (no_offer : (xid : ℕ) → offers site xid f ≡ false) (no_grant : (exchange : Exchange4) → grants site exchange f ≡ false) where
    pub rests_pending : (state : State4) → AmidTurn state → Out (rests turn state)
    rests_pending Off h = absurd h
    rests_pending (Init due) h = inl h
    rests_pending (Selecting xid began secs backoff due) h = inl (h.0, h.1.unanswered (no_offer xid))
    rests_pending (Requesting exchange secs backoff due) h = inl (h.unanswered (no_grant exchange))
    rests_pending (Rebooting exchange backoff stop due stands) h = inl (h.unanswered (no_grant exchange))
    rests_pending (Checking xid terms origin acd stands) h = inl h
    rests_pending (Waiting due) h = absurd h
    rests_pending (Bound xid terms acd) h = inr (record { in_time = h.in_time; bound = refl; keeps = λ name fresh. h.keeps })
    rests_pending (Renewing exchange terms acd due) h = absurd h
    rests_pending (Rebinding exchange terms acd due) h = absurd h

    pub confirm_pending : (kept_on : Option Terms4) (state : State4) → AmidTurn state → Out (rebind_row turn kept_on state)
    confirm_pending kept_on Off h = absurd h
    confirm_pending kept_on (Init due) h = rests_pending (Init due) h
    confirm_pending kept_on (Selecting xid began secs backoff due) h = rests_pending (Selecting xid began secs backoff due) h
    confirm_pending kept_on (Requesting exchange secs backoff due) h = rests_pending (Requesting exchange secs backoff due) h
    confirm_pending kept_on (Rebooting exchange backoff stop due stands) h = rests_pending (Rebooting exchange backoff stop due stands) h
    confirm_pending kept_on (Checking xid terms origin acd stands) h = rests_pending (Checking xid terms origin acd stands) h
    confirm_pending kept_on (Waiting due) h = absurd h
    confirm_pending kept_on (Bound xid terms acd) h = inr (record { in_time = h.in_time; bound = refl; keeps = λ name fresh. h.keeps })
    confirm_pending kept_on (Renewing exchange terms acd due) h = absurd h
    confirm_pending kept_on (Rebinding exchange terms acd due) h = absurd h

    module _ (arp : ArpView) (came : arp_on (index_at site) f.event f.bytes ≡ Some arp) where
      -- an address that is probed
      probed_hears : (xid : ℕ) (terms : Terms4) (origin : Origin4) (stands : Option Terms4) (iface : IfIndex) (addr : Ip4) (phase : Phase)
          → Checks site answered wait end f.moment terms (record { iface = iface; addr = addr; phase = phase }) → contests site terms.net.ip f ≡ false
          → Out (checked turn xid terms origin
          (detection.heard_row site.own (record { iface = iface; addr = addr; phase = phase }) phase arp f.moment).acd stands
          (detection.heard_row site.own (record { iface = iface; addr = addr; phase = phase }) phase arp f.moment).says)
      probed_hears xid terms origin stands iface addr (Probing sent due) c alone =
          let none : is_contested site.own terms.net.ip arp ≡ false =
          subst (λ (a : Option ArpView). tells_contest site.own terms.net.ip a ≡ false) came alone in
          let none_here : is_contested site.own addr arp ≡ false = subst (λ (a : Ip4). is_contested site.own a arp ≡ false) (sym c.same) none in
          rw none_here (inl c)
      probed_hears xid terms origin stands iface addr (Announcing due before) c alone = absurd c.phase
      probed_hears xid terms origin stands iface addr (Held before) c alone = absurd c.phase
      probed_hears xid terms origin stands iface addr Over c alone = absurd c.phase

      -- one that was bound in this turn
      bound_hears : (xid : ℕ) (terms : Terms4) (acd : Option Acd) → BoundNow site answered wait end f past acd kept
          → Out (row.contested site.own turn arp xid terms (Bound xid terms acd) acd)
      bound_hears xid terms acd h =
          subst (λ (a : Option Acd). Out (row.contested site.own turn arp xid terms (Bound xid terms a) a)) (sym h.is)
          (subst (λ (phase : Phase). Out (after (detection.heard_row site.own h.machine phase arp f.moment))) (sym h.announces)
          (choose (λ step. Out (after step)) (is_used site.own h.machine.addr arp) _ (detection.stays h.machine) (λ used. still _ _) (λ unused. still _ _)))
        where
          after : AcdStep → Step4
          after step = defended turn xid terms (Bound xid terms (Some step.acd)) step.says

          still : (acd : Acd) (arp_said : Option ArpSay) → Out (record (rests turn (Bound xid terms (Some acd))) { arp = arp_said })
          still acd arp_said = inr (record { in_time = h.in_time; bound = refl; keeps = λ name fresh. h.keeps })

    pub packet_pending : (K : Terms4 → Type 0) (arp : ArpView) → arp_on (index_at site) f.event f.bytes ≡ Some arp
        → (had : ℕ) (current : Option Numbered) (state : State4)
        → On K state current had (ended_by one (kept_in site past)).grant → AmidTurn state → Out (row.arp_row site.own turn arp state)
    packet_pending K arp came had current Off on h = absurd h
    packet_pending K arp came had current (Init due) on h = rests_pending (Init due) h
    packet_pending K arp came had current (Selecting xid began secs backoff due) on h = rests_pending (Selecting xid began secs backoff due) h
    packet_pending K arp came had current (Requesting exchange secs backoff due) on h = rests_pending (Requesting exchange secs backoff due) h
    packet_pending K arp came had current (Rebooting exchange backoff stop due stands) on h = rests_pending (Rebooting exchange backoff stop due stands) h
    packet_pending K arp came had current (Checking xid terms origin acd stands) on h =
        probed_hears arp came xid terms origin stands acd.iface acd.addr acd.phase h (uncontested site answered wait f past fair one AnyTerms terms on.1)
    packet_pending K arp came had current (Waiting due) on h = absurd h
    packet_pending K arp came had current (Bound xid terms acd) on h = bound_hears arp came xid terms acd h
    packet_pending K arp came had current (Renewing exchange terms acd due) on h = absurd h
    packet_pending K arp came had current (Rebinding exchange terms acd due) on h = absurd h

  -- ---- a message

  -- what is seen once the step is made that the message brings
  abbrev ShownBy : Step4 → Type 0
  ShownBy step = Shows site f past one step

  longest : site.managed.conf.flags.noarp ≡ false → probing site.managed.conf ≡ 7000
  longest probes = rw probes refl

  -- an acceptable ACK, while the client stands on a kept lease or not
  module _ (exchange : Exchange4) (o : OpenedAs exchange (kept_in site past).answered (amid site past f.moment one).current)
      (early : f.moment + probing site.managed.conf ≤ end) (xid : ℕ) (origin : Origin4) (stands : Option Terms4) where
    -- the exchange is still open where nothing more is said
    open_now : (step : Step4) → step.say ≡ None → ShownBy step → (seen_in site (f ∷ past)).current ≡ Some o.opened
    open_now step silent shown =
        ap (λ (s : Seen). s.current) shown.seen
        ∙ ap (λ (say : Option Say4). (shows f.moment (option_map sent_of say) (amid site past f.moment one)).current) silent ∙ o.is

    replies : (said : Answer4) → reply_at site exchange f ≡ said → reply_at site o.opened.exchange f ≡ said
    replies said is = subst (λ (x : Exchange4). reply_at site x f ≡ said) (sym o.same) is

    within : (at more end : ℕ) → at + more ≤ end → at ≤ end
    within at more end h = omega (arith, h)

    granted_out : (terms : Terms4) → reply_at site exchange f ≡ answer.Ack terms → ShownBy (row.granted turn xid terms origin stands)
        → Out (row.granted turn xid terms origin stands)
    granted_out terms is shown =
        choose Out settings.site.flags.noarp _ _
        (λ unprobed. inr (record { in_time = within f.moment (probing site.managed.conf) end early; bound = refl; keeps = λ name fresh. refl }))
        (λ probed. inl (record {
          limit = f.moment + probing site.managed.conf;
          within = early;
          phase = (omega arith, soon probed, now_soon probed);
          lasts = not_due (expiry terms) (f.moment + probing site.managed.conf)
              (fair.lasts o.opened terms
              (record { is_open = open_now (row.granted turn xid terms origin stands) silent shown; grants = replies (answer.Ack terms) is }));
          same = refl;
        }))
      where
        silent : (row.granted turn xid terms origin stands).say ≡ None
        silent = choose (λ (step : Step4). step.say ≡ None) settings.site.flags.noarp _ _ (λ unprobed. refl) (λ probed. refl)

        drawn : (at d all : ℕ) → all ≡ 7000 → at + d % 1001 + 6000 ≤ at + all
        drawn at d all is = let small : d % 1001 < 1001 = below d in omega (arith, small, is)
          where
            below : (n : ℕ) → n % 1001 < 1001
            below n = omega arith

        soon : settings.site.flags.noarp ≡ false → f.moment + draw_of salt settings.site.iface.index 1001 + 6000 ≤ f.moment + probing site.managed.conf
        soon probed = drawn f.moment (salt % 4294967296 + settings.site.iface.index.number) (probing site.managed.conf) (longest probed)

        now_soon : settings.site.flags.noarp ≡ false → f.moment + 6000 ≤ f.moment + probing site.managed.conf
        now_soon probed = let all : probing site.managed.conf ≡ 7000 = longest probed in omega (arith, all)

    answered_out : (state : State4) → (grants site exchange f ≡ false → Pending site answered wait end f.moment (f ∷ past) state) → (said : Answer4)
        → reply_at site exchange f ≡ said → ShownBy (row.answered turn xid origin stands state said) → Out (row.answered turn xid origin stands state said)
    answered_out state goes_on (answer.Ack terms) is shown = granted_out terms is shown
    answered_out state goes_on answer.Nak is shown =
        absurd (not_both site o.opened past (granted_nothing site past f.moment one exchange o)
        (fair.unrefused o.opened
        (record { is_open = open_now (row.answered turn xid origin stands state answer.Nak) refl shown; refuses = replies answer.Nak is })))
    answered_out state goes_on answer.Nothing is shown = inl (goes_on (ap is_grant is))
    answered_out state goes_on (answer.Offer address server) is shown = inl (goes_on (ap is_grant is))

  -- an acceptable OFFER
  module _ (xid began secs due : ℕ) (backoff : Backoff) (asks_long : wait < least_asking) (n : SoughtNow site answered wait end f past xid) where
    abbrev selecting_state : State4
    selecting_state = Selecting xid began secs backoff due

    broadcast : (which : Answered) (sent : Sent4) → (sent.ends.to.number == 4294967295) ≡ true → is_answered which sent ≡ true
    broadcast EachRequest sent h = refl
    broadcast BroadcastAlone sent h = h

    offered_out : (said : Answer4) → offers site xid f ≡ is_offer said → ShownBy (row.offered turn xid secs selecting_state said)
        → (K : Terms4 → Type 0) (had : ℕ) (grant : Option Grant)
        → On K (row.offered turn xid secs selecting_state said).state (seen_in site (f ∷ past)).current had grant
        → Out (row.offered turn xid secs selecting_state said)
    offered_out answer.Nothing is shown K had grant on = inl (asks_long, n.unanswered is)
    offered_out (answer.Ack terms) is shown K had grant on = inl (asks_long, n.unanswered is)
    offered_out answer.Nak is shown K had grant on = inl (asks_long, n.unanswered is)
    offered_out (answer.Offer address server) is shown K had grant on =
        let exchange : Exchange4 = record { xid = xid; address = address; server = Some server; first = f.moment } in
        let o : OpenedAs exchange had (seen_in site (f ∷ past)).current = opened_as exchange had (seen_in site (f ∷ past)).current on in
        inl (record {
          later = [];
          e = f;
          earlier = past;
          cut = refl;
          early = n.early;
          opened = o.opened;
          is_open = o.is;
          same = o.same;
          said = shown.second (asks answered xid) _ refl (both (equal_number xid) (broadcast answered _ refl));
          none = refl;
          lasts = longer f.moment (draw_of salt settings.site.iface.index WAIT_SPREAD) asks_long;
        })
      where
        both : {a b : Bool} → a ≡ true → b ≡ true → (a && b) ≡ true
        both a b = rw a b

        longer : (at d : ℕ) → wait < 119000 → at + wait < (at + (3000 + d)) + 116000
        longer at d h = omega (arith, h)

  module _ (heard : HeardMessage) (told : message_on site f.event f.bytes ≡ Some heard) where
    abbrev arrival : Arrival
    arrival = arrival_at f.moment heard

    offers_is : (xid : ℕ) → offers site xid f ≡ is_offer (offer_by settings arrival (answering settings xid arrival))
    offers_is xid = ap (λ (m : Option HeardMessage). is_offer_by settings xid (option_map (arrival_at f.moment) m)) told

    reply_is : (exchange : Exchange4) → reply_at site exchange f ≡ reply_in settings arrival exchange
    reply_is exchange = ap (λ (m : Option HeardMessage). heard_in.reply_by settings exchange (option_map (arrival_at f.moment) m)) told

    pub message_pending : (K L : Terms4 → Type 0) (grant after_grant : Option Grant) (after_had : ℕ) (state : State4)
        → On K state (amid site past f.moment one).current (kept_in site past).answered grant
        → On L (row.heard_row turn (answer_of settings arrival state) state).state (seen_in site (f ∷ past)).current after_had after_grant
        → ShownBy (row.heard_row turn (answer_of settings arrival state) state) → AmidTurn state
        → Out (row.heard_row turn (answer_of settings arrival state) state)
    message_pending K L grant after_grant after_had Off on after shown h = absurd h
    message_pending K L grant after_grant after_had (Init due) on after shown h = inl h
    message_pending K L grant after_grant after_had (Selecting xid began secs backoff due) on after shown h =
        offered_out xid began secs due backoff h.0 h.1 (offer_by settings arrival (answering settings xid arrival))
        (offers_is xid) shown L after_had after_grant after
    message_pending K L grant after_grant after_had (Requesting exchange secs backoff due) on after shown h =
        answered_out exchange (opened_as exchange (kept_in site past).answered (amid site past f.moment one).current on) h.early exchange.xid Offered None
        (Requesting exchange secs backoff due) h.unanswered (reply_in settings arrival exchange) (reply_is exchange) shown
    message_pending K L grant after_grant after_had (Rebooting exchange backoff stop due stands) on after shown h =
        answered_out exchange (opened_as exchange (kept_in site past).answered (amid site past f.moment one).current on.0) h.early exchange.xid Rebooted stands
        (Rebooting exchange backoff stop due stands) h.unanswered (reply_in settings arrival exchange) (reply_is exchange) shown
    message_pending K L grant after_grant after_had (Checking xid terms origin acd stands) on after shown h = inl h
    message_pending K L grant after_grant after_had (Waiting due) on after shown h = absurd h
    message_pending K L grant after_grant after_had (Bound xid terms acd) on after shown h =
        inr (record { in_time = h.in_time; bound = refl; keeps = λ name fresh. h.keeps })
    message_pending K L grant after_grant after_had (Renewing exchange terms acd due) on after shown h = absurd h
    message_pending K L grant after_grant after_had (Rebinding exchange terms acd due) on after shown h = absurd h
