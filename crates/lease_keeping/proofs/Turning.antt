-- A turn keeps what a client carries: its tick, and then what is heard in it.
use Rattle.std.proofs.Common.{◌≡◌, ℕ, ◌<◌, ◌≤◌, ◌||◌, inl, inr, Bool, true, false, List, [], ◌∷◌, ◌++◌, map, Option, Some, None, nat_eq, refl, sym, ap, subst, ◌∙◌, arith}
use Rattle.std.proofs.lemmas.Bool.Decides.{nat_tests}
use Rattle.std.specs.List.{list_any}
use Rattle.std.specs.Prelude.{option_map, option_to_list}
use Rattle.machine.specs.Since.{Since, Always}
use Rattle.frame_link.specs.declared.arp.ArpView.{ArpView}
use Rattle.arp_acd.specs.Conflict.{is_contested}
use Rattle.arp_acd.specs.declared.detection.ArpSay.{ArpSay}
use Rattle.lease_text.specs.declared.lease.Terms4.{Terms4}
use Rattle.v4_frames.specs.declared.sent.Sent4.{Sent4}
use Rattle.v4_frames.specs.Heard.{HeardMessage}
use Rattle.v4_client.specs.declared.states.Answer4.{Answer4}
use Rattle.v4_client.specs.declared.states.Answer4.TheVariants as answer
use Rattle.v4_client.specs.declared.states.Exchange4.{Exchange4}
use Rattle.v4_client.specs.declared.states.Say4.{Say4}
use Rattle.v4_client.specs.declared.states.State4.{State4}
use Rattle.v4_client.specs.declared.states.State4.TheVariants.{Off, Init, Selecting, Requesting, Rebooting, Checking, Waiting, Bound, Renewing, Rebinding}
use Rattle.v4_client.specs.declared.states.Step4.{Step4}
use Rattle.v4_client.specs.declared.states.Turn4.{Turn4}
use Rattle.v4_client.specs.Answers.{reply_in}
use Rattle.v4_client.specs.Calls.{arp_step, heard_step}
use Rattle.v4_client.specs.Clients.{ClientContent, turn_of}
use Rattle.v4_client.specs.History.{tick_step}
use Rattle.v4_client.specs.Messages.{Arrival}
use Rattle.v4_client.specs.Moves.{is_grant, moved}
use Rattle.v4_client.specs.Saying.{sent_of}
use Rattle.v4_client.specs.Settings.{SettingsContent}
use Rattle.v4_client.specs.Steps.{rests}
use Rattle.client_model.specs.ClientSettings.{settings_of}
use Rattle.client_model.specs.Dhcp4Steps.{arrival_at, said_in}
use Rattle.client_model.specs.Messages.{Said, Dhcp4, Arp}
use Rattle.evidence_words.specs.Entries.{Entry}
use Rattle.evidence_words.specs.Inputs.{Site, arp_on, contests, index_at, tells_contest}
use Rattle.lease_evidence.specs.Exchanges.{Numbered, Seen, messages_at, seen_in, shows}
use Rattle.lease_evidence.specs.KeptBasis4.{IsAcknowledged, Sometime}
use Rattle.lease_evidence.specs.LeaseBasis.{CalmFor, FirstAck, GoodAck, GrantsNothing, tells_end}
use Rattle.lease_evidence.specs.Replies.{message_on, reply_at, reply_by}
use Rattle.lease_evidence.proofs.Carrying as evidence
use Rattle.lease_evidence.proofs.Observed.{NoneAbove, Observes, always_map, observes}
use Rattle.lease_evidence.proofs.Observer.{Grant, Latest, Opens, kept_in, shown_opens, unless_ended}
use Rattle.lease_evidence.proofs.Spoken.{message_said}
use Rattle.lease_evidence.proofs.Watching.{AnyTerms, Asks, Holds, Lasts, On, message_in, with_terms}
use Rattle.lease_progress.specs.FairTurns.{Fair}
use Rattle.lease_progress.specs.LeaseStays.{Renewable}
use Rattle.lease_progress.specs.Serving.{Answered, asks, grants}
use Rattle.lease_keeping.proofs.Asking.{AskedIn, still_asked}
use Rattle.lease_keeping.proofs.Carrying.{Amid, Keeps}
use Rattle.lease_keeping.proofs.Hearing.{Granted, HeardWell, Settles, Unharmed, heard_so, packet_rests, settled}
use Rattle.lease_keeping.proofs.TurnParts.{hearing}

-- ---- what a turn says first is among its messages

pub said_first : (test : Option Sent4 → Bool) → test None ≡ false → (step : Step4) (between more : List Said) → test (message_in step) ≡ true
    → list_any test (map message_said ((said_in step ++ between) ++ more)) ≡ true
said_first test none step between more h = by_parts step.say step.arp h
  where
    or_left : (a b : Bool) → a ≡ true → (a || b) ≡ true
    or_left true b e = refl
    or_left false b e = absurd cc

    by_parts : (say : Option Say4) (arp : Option ArpSay) → test (option_map sent_of say) ≡ true
        → list_any test (map message_said (((map Dhcp4 (option_to_list say) ++ map Arp (option_to_list arp)) ++ between) ++ more)) ≡ true
    by_parts None arp h = absurd (let bad : false ≡ true = sym none ∙ h in cc)
    by_parts (Some say) None h = or_left (test (Some (sent_of say))) _ h
    by_parts (Some say) (Some arp) h = or_left (test (Some (sent_of say))) _ h

-- ---- an exchange that isn't answered yet

module _ (site : Site) (e : Entry) (past : List Entry) (first : Option Sent4) where
  abbrev seen_so : Seen
  seen_so = shows e.moment first (seen_in site past)

  -- no acceptable ACK came in it
  unanswered_yet : (x : Numbered) → seen_so.current ≡ Some x → nat_eq (kept_in site past).answered x.number ≡ false → Always (GrantsNothing site x) past
  unanswered_yet x is other =
      let o : Observes site past = observes site past in
      let opens : Opens (seen_in site past) seen_so = shown_opens e.moment first (seen_in site past) in
      let number : x.number ≡ seen_so.count = subst (Latest seen_so.count) is (opens.latest o.latest) in
      let less : (kept_in site past).answered < x.number = unlike (kept_in site past).answered x.number other (omega (arith, number, o.within, opens.grows)) in
      elim (opens.since x is) [
        | inl was ↦ o.unanswered x was less
        | inr new ↦ always_map (NoneAbove site (seen_in site past).count) (GrantsNothing site x)
            (λ other earlier h terms good. let most : x.number ≤ (seen_in site past).count = h x good.is_open in omega (arith, most, new)) past o.none_above
      ]
    where
      unlike : (a b : ℕ) → nat_eq a b ≡ false → a ≤ b → a < b
      unlike a b h le = grind (arith, nat_tests)

  not_both : (x : Numbered) (turns : List Entry) → Sometime (IsAcknowledged site x) turns → Always (GrantsNothing site x) turns → ⊥
  not_both x [] some none = some
  not_both x (f ∷ turns) some none = elim some [ inl q ↦ none.0 q.terms q.good | inr on ↦ not_both x turns on.1 none.1 ]

-- a grant came with an acceptable ACK
was_acknowledged : (site : Site) (opened : Numbered) (terms : Terms4) (past : List Entry) → Since (CalmFor site opened) (FirstAck site opened terms) past
    → Sometime (GoodAck site opened terms) past
was_acknowledged site opened terms [] h = h
was_acknowledged site opened terms (e ∷ past) h = elim h [ inl f ↦ inl f.good | inr on ↦ inr (tt, was_acknowledged site opened terms past on.1) ]

-- ---- the turn

module _ (site : Site) (answered : Answered) (wait : ℕ) (free : Type 0) (e : Entry) (past : List Entry) (salt : ℕ) (c : ClientContent) (clean : Type 0)
    (amid : evidence.Amid site clean e past (tick_step e.moment salt c) (moved (tick_step e.moment salt c) c)) (fair : Fair site answered wait e past)
    (renewable : Renewable site answered wait e past)
    (tick : Amid site answered wait free past e.moment (message_in (tick_step e.moment salt c)) (tick_step e.moment salt c).state) where
  abbrev one : Step4
  one = tick_step e.moment salt c

  abbrev after_tick : ClientContent
  after_tick = moved one c

  abbrev turn : Turn4
  turn = turn_of e.moment salt after_tick

  abbrev current : Option Numbered
  current = (seen_so site e past (message_in one)).current

  abbrev k : ℕ
  k = (kept_in site past).answered

  abbrev grant : Option Grant
  grant = unless_ended (tells_end (message_in one)) (kept_in site past).grant

  on : On (Lasts e.moment) one.state current k grant
  on = amid.watched.on

  -- what the turn shows, where the second step says nothing
  module _ (seen : seen_in site (e ∷ past) ≡ seen_so site e past (message_in one))
      (said : (xid : ℕ) → asks answered xid (message_in one) ≡ true → list_any (asks answered xid) (messages_at site e) ≡ true) where
    open_now : (x : Numbered) → current ≡ Some x → (seen_in site (e ∷ past)).current ≡ Some x
    open_now x is = ap (λ (s : Seen). s.current) seen ∙ is

    asked_now : (exchange : Exchange4) (opened : Option Numbered) → current ≡ opened → Asks exchange k opened
        → asks answered exchange.xid (message_in one) ≡ true
        → e.moment ≡ exchange.first → AskedIn site answered exchange (e ∷ past)
    asked_now exchange None is h says when = absurd h
    asked_now exchange (Some x) is h says when = record {
      later = [];
      e = e;
      earlier = past;
      cut = refl;
      opened = x;
      open_so = open_now x is;
      same = h.0;
      said = subst (λ (y : Exchange4). list_any (asks answered y.xid) (messages_at site e) ≡ true) (sym h.0) (said exchange.xid says);
      when = when;
      unanswered = refl;
    }

    settles : (exchange : Exchange4) → Asks exchange k current → grants site exchange e ≡ false
        → Settles site answered wait free past e (message_in one) current k exchange
    settles exchange h none (inl asked) = still_asked site answered wait exchange past asked e fair.served none
    settles exchange h none (inr new) = asked_now exchange current refl h new.0 new.1

    -- ---- an acceptable reply in the open exchange

    module _ (settings : SettingsContent) (arrival : Arrival) (now : turn.at ≡ e.moment) (noarp : turn.site.flags.noarp ≡ site.managed.conf.flags.noarp)
        (replies : (exchange : Exchange4) → reply_at site exchange e ≡ reply_in settings arrival exchange) where
      reply_so : (exchange : Exchange4) (x : Numbered) (reply : Answer4) → x.exchange ≡ exchange → reply_in settings arrival exchange ≡ reply
          → reply_at site x.exchange e ≡ reply
      reply_so exchange x reply same is = ap (λ (y : Exchange4). reply_at site y e) same ∙ replies exchange ∙ is

      granted_so : (exchange : Exchange4) (opened : Option Numbered) → current ≡ opened → Asks exchange k opened → (terms : Terms4)
          → reply_in settings arrival exchange ≡ answer.Ack terms → Granted site answered wait free past e (message_in one) current k terms
      granted_so exchange None is h terms reply = absurd h
      granted_so exchange (Some x) is h terms reply =
          let good : GoodAck site x terms e past = record { is_open = open_now x is; grants = reply_so exchange x (answer.Ack terms) h.0 reply } in
          record { probed = renewable.probed x terms good; enough = renewable.renewed x terms good }

      unrefused_so : (exchange : Exchange4) (opened : Option Numbered) → current ≡ opened → Asks exchange k opened
          → reply_in settings arrival exchange ≡ answer.Nak → ⊥
      unrefused_so exchange None is h reply = absurd h
      unrefused_so exchange (Some x) is h reply =
          not_both site e past (message_in one) x past
          (fair.unrefused x (record { is_open = open_now x is; refuses = reply_so exchange x answer.Nak h.0 reply }))
          (unanswered_yet site e past (message_in one) x is h.1)

      well : (exchange : Exchange4) → Asks exchange k current
          → HeardWell site answered wait free past e (message_in one) current k settings arrival turn now noarp exchange
      well exchange h = record {
        granted = granted_so exchange current refl h;
        unrefused = unrefused_so exchange current refl h;
        settles = λ none. settles exchange h (ap is_grant (replies exchange) ∙ none);
      }

  -- ---- a packet

  contested_not : (ended : Bool) (given : Option Grant) → (kept_in site past).grant ≡ given → (terms : Terms4) → Holds AnyTerms terms (unless_ended ended given)
      → contests site terms.net.ip e ≡ false
  contested_not true given is terms holds = absurd holds
  contested_not false None is terms holds = absurd holds
  contested_not false (Some g) is terms holds =
      subst (λ (t : Terms4). contests site t.net.ip e ≡ false) holds.0
      (fair.alone g.opened g.terms (was_acknowledged site g.opened g.terms past ((observes site past).stands g is)))

  unharmed : (arp : ArpView) → arp_on (index_at site) e.event e.bytes ≡ Some arp → (state : State4)
      → On (Lasts e.moment) state current k grant → Amid site answered wait free past e.moment (message_in one) state → Unharmed site.own arp state
  unharmed arp came state on h = by state on h
    where
      free_of : (terms : Terms4) → Holds AnyTerms terms grant → is_contested site.own terms.net.ip arp ≡ false
      free_of terms holds =
          ap (tells_contest site.own terms.net.ip) (sym came) ∙ contested_not (tells_end (message_in one)) (kept_in site past).grant refl terms holds

      by : (state : State4) → On (Lasts e.moment) state current k grant → Amid site answered wait free past e.moment (message_in one) state
          → Unharmed site.own arp state
      by Off on h = tt
      by (Init due) on h = tt
      by (Selecting xid began secs backoff due) on h = tt
      by (Requesting exchange secs backoff due) on h = tt
      by (Rebooting exchange backoff end due stands) on h = tt
      by (Checking xid terms from acd stands) on h = (h.1, free_of terms on.1)
      by (Waiting due) on h = tt
      by (Bound xid terms acd) on h = (h.0, free_of terms (with_terms (Lasts e.moment) AnyTerms terms grant tt on.1))
      by (Renewing exchange terms acd due) on h = (h.0, free_of terms (with_terms (Lasts e.moment) AnyTerms terms grant tt on.1))
      by (Rebinding exchange terms acd due) on h = (h.0, free_of terms (with_terms (Lasts e.moment) AnyTerms terms grant tt on.1))

  -- ---- whatever is heard

  abbrev KeepsAfter : Step4 → Type 0
  KeepsAfter step = Keeps site answered wait free (e ∷ past) e.moment step.state

  -- what the turn shows by its second step
  record Shown (two : Step4) : Type 0 where
    seen : message_in two ≡ None → seen_in site (e ∷ past) ≡ seen_so site e past (message_in one)
    said : (xid : ℕ) → asks answered xid (message_in one) ≡ true → list_any (asks answered xid) (messages_at site e) ≡ true

  silent_reply : (exchange : Exchange4) → message_on site e.event e.bytes ≡ None → grants site exchange e ≡ false
  silent_reply exchange none =
      ap (λ (m : Option HeardMessage). is_grant (reply_by (settings_of site.duid site.managed) exchange (option_map (arrival_at e.moment) m))) none

  unmoved : message_on site e.event e.bytes ≡ None → seen_in site (e ∷ past) ≡ seen_so site e past (message_in one)
      → ((xid : ℕ) → asks answered xid (message_in one) ≡ true → list_any (asks answered xid) (messages_at site e) ≡ true)
      → Keeps site answered wait free (e ∷ past) e.moment one.state
  unmoved none seen said =
      settled site answered wait free past e (message_in one) current k (Lasts e.moment) grant one.state on
      (λ exchange h. settles seen said exchange h (silent_reply exchange none)) tick

  packet_keeps : (arp : ArpView) → arp_on (index_at site) e.event e.bytes ≡ Some arp → message_on site e.event e.bytes ≡ None
      → Shown (arp_step site.own e.moment salt arp after_tick) → KeepsAfter (arp_step site.own e.moment salt arp after_tick)
  packet_keeps arp came none shown =
      let same : arp_step site.own e.moment salt arp after_tick ≡ rests turn one.state =
      packet_rests site.own turn arp one.state (unharmed arp came one.state on tick) in
      subst KeepsAfter (sym same) (unmoved none (shown.seen (ap message_in same)) shown.said)

  message_keeps : (heard : HeardMessage) → message_on site e.event e.bytes ≡ Some heard
      → Shown (heard_step salt (arrival_at e.moment heard) after_tick) → KeepsAfter (heard_step salt (arrival_at e.moment heard) after_tick)
  message_keeps heard came shown =
      let arrival : Arrival = arrival_at e.moment heard in
      let replies : (exchange : Exchange4) → reply_at site exchange e ≡ reply_in after_tick.settings arrival exchange =
      λ exchange. ap (λ (m : Option HeardMessage). reply_by (settings_of site.duid site.managed) exchange (option_map (arrival_at e.moment) m)) came
      ∙ ap (λ (s : SettingsContent). reply_in s arrival exchange) (sym amid.settings) in
      let noarp : turn.site.flags.noarp ≡ site.managed.conf.flags.noarp = evidence.turn_noarp site after_tick amid.settings in
      heard_so site answered wait free past e (message_in one) current k after_tick.settings arrival turn refl noarp (Lasts e.moment) grant one.state on
      (λ exchange h silent. well (shown.seen silent) shown.said after_tick.settings arrival refl noarp replies exchange h) tick

  pub turn_keeps : (arp : Option ArpView) (message : Option HeardMessage) → arp_on (index_at site) e.event e.bytes ≡ arp
      → message_on site e.event e.bytes ≡ message
      → ((packet : ArpView) → arp ≡ Some packet → message ≡ None)
      → (message_in (hearing site.own e.moment salt arp message after_tick) ≡ None → seen_in site (e ∷ past) ≡ seen_so site e past (message_in one))
      → ((xid : ℕ) → asks answered xid (message_in one) ≡ true → list_any (asks answered xid) (messages_at site e) ≡ true)
      → KeepsAfter (hearing site.own e.moment salt arp message after_tick)
  turn_keeps (Some arp) message came heard one_kind seen said =
      packet_keeps arp came (heard ∙ one_kind arp refl) (record { seen = seen; said = said })
  turn_keeps None (Some heard) came is one_kind seen said = message_keeps heard is (record { seen = seen; said = said })
  turn_keeps None None came is one_kind seen said = unmoved is (seen refl) said
