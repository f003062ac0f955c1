-- Inputs keep what a client carries of the observer.
use Rattle.std.proofs.Common.{◌≡◌, ℕ, ◌+◌, ◌-◌, ◌*◌, ◌≤◌, ◌&&◌, ◌||◌, if◌then◌else◌, IfSome, Bool, true, false, List, Option, Some, None, refl, sym, ap, subst, ◌∙◌, nat_eq, nat_le, nat_lt, eqb, arith}
use Rattle.std.proofs.lemmas.Bool.Decides.{nat_tests}
use Rattle.std.specs.Option.{is_some}
use Rattle.machine.specs.Moment.{is_due}
use Rattle.net_types.proofs.CaseLaws.{split, gated}
use Rattle.net_types.specs.declared.address.Mac.{Mac}
use Rattle.frame_link.specs.declared.arp.ArpView.{ArpView}
use Rattle.arp_acd.specs.declared.detection.Acd.{Acd}
use Rattle.arp_acd.specs.declared.detection.AcdSays.TheVariants.{Passed}
use Rattle.arp_acd.specs.declared.detection.Phase.{Phase}
use Rattle.arp_acd.specs.declared.detection.Phase.TheVariants.{Probing, Announcing, Held, Over}
use Rattle.arp_acd.specs.declared.timing.TheConstants.{DEFEND_INTERVAL}
use Rattle.arp_acd.specs.Conflict.{is_used, is_contested}
use Rattle.arp_acd.specs.Table as detection
use Rattle.arp_acd.proofs.Standing.{mk}
use Rattle.net_types.specs.declared.address.Ip4.{Ip4}
use Rattle.net_types.specs.declared.interface.IfIndex.{IfIndex}
use Rattle.lease_text.specs.declared.lease.TheConstants.{INFINITE_LEASE}
use Rattle.lease_text.specs.declared.lease.Terms4.{Terms4}
use Rattle.v4_client.specs.declared.moments.TheConstants.{SECOND}
use Rattle.v4_client.specs.declared.moments.Backoff.{Backoff}
use Rattle.v4_client.specs.declared.moments.Backoff.TheVariants.{Four}
use Rattle.v4_client.specs.declared.states.Answer4.{Answer4}
use Rattle.v4_client.specs.declared.states.Answer4.TheVariants as answer
use Rattle.v4_client.specs.declared.states.Exchange4.{Exchange4}
use Rattle.v4_client.specs.declared.states.News4.{News4}
use Rattle.v4_client.specs.declared.states.News4.TheVariants as news
use Rattle.v4_client.specs.declared.states.Origin4.{Origin4}
use Rattle.v4_client.specs.declared.states.Origin4.TheVariants.{Offered, Rebooted}
use Rattle.v4_client.specs.declared.states.State4.{State4}
use Rattle.v4_client.specs.declared.states.State4.TheVariants.{Off, Init, Selecting, Requesting, Rebooting, Checking, Waiting, Bound, Renewing, Rebinding}
use Rattle.v4_client.specs.declared.states.Step4.{Step4}
use Rattle.v4_client.specs.declared.states.Tell.{Tell}
use Rattle.v4_client.specs.declared.states.Tell.TheVariants.{Server, Nobody}
use Rattle.v4_client.specs.declared.states.Turn4.{Turn4}
use Rattle.v4_client.specs.Detection.{with_acd}
use Rattle.v4_client.specs.Moments.{expiry}
use Rattle.v4_client.specs.Saying.{sent_of, request}
use Rattle.v4_client.specs.Steps.{rests, requesting, rebooting, new_exchange}
use Rattle.v4_client.specs.Answers.{answering, is_unexpired, offer_by, reply_in, answer_of}
use Rattle.v4_client.specs.Hearing.{offered, answered, renewed, heard_row, contested, arp_row}
use Rattle.v4_client.specs.Inputs.{stood, begins, begin_row, off_row, released, released_standing, release_row, rebind_row, unsent_row}
use Rattle.v4_client.specs.Messages.{Arrival}
use Rattle.v4_client.specs.Settings.{SettingsContent}
use Rattle.lease_evidence.specs.Exchanges.{Numbered, Seen, shows}
use Rattle.lease_evidence.proofs.Observer.{Grant, Kept, kept, answered_in, hears}
use Rattle.lease_evidence.proofs.ReplyFacts.{IsGranted, is_granted, is_offered, offer_replies_nothing}
use Rattle.lease_evidence.proofs.WatchTicks.{defends, checks, freed, rebinds}
use Rattle.lease_evidence.proofs.Watching.{seen, LastXid, Asks, IsAnswered, Holds, On, Watched, Lasts, AnyTerms, WatchedAfter, with_terms, other_number, equal_number, message_in, ended_by, asks_anew, fresh}

-- ---- what is heard

-- after a step, and what the input says in the exchange that is open then
abbrev pub HeardAfter : (at : ℕ) → (Exchange4 → Answer4) → Seen → Kept → Step4 → Type 0
HeardAfter at reply s k step =
    Watched (Lasts at) step.last step.state (shows at (message_in step) s) (hears reply (shows at (message_in step) s).current (ended_by step k))

-- an answered exchange stays as it is
settled : (reply : Exchange4 → Answer4) (current : Option Numbered) (k : Kept) → IsAnswered k.answered current → hears reply current k ≡ k
settled reply None k is = absurd is
settled reply (Some x) k is = rw is refl

pub nothing_said : (x : Numbered) (known : Bool) (k : Kept) → answered_in x known answer.Nothing k ≡ k
nothing_said x true k = refl
nothing_said x false k = refl

unexpired_lasts : (first lease at : ℕ) → is_unexpired first lease at ≡ true
    → is_due (if eqb lease INFINITE_LEASE then None else Some (first + SECOND * lease)) at ≡ false
unexpired_lasts first lease at h = by_end (eqb lease INFINITE_LEASE) (first + SECOND * lease) h
  where
    by_end : (endless : Bool) (end : ℕ) → (endless || nat_lt at end) ≡ true → is_due (if endless then None else Some end) at ≡ false
    by_end true end h = refl
    by_end false end h = grind (arith, nat_tests)

granted_lasts : (settings : SettingsContent) (exchange : Exchange4) (arrival : Arrival) (terms : Terms4)
    → reply_in settings arrival exchange ≡ answer.Ack terms → Lasts arrival.at terms
granted_lasts settings exchange arrival terms h =
    let g : IsGranted settings exchange arrival terms = is_granted settings exchange arrival terms h in
    let first : terms.first ≡ exchange.first = g.first in
    subst (λ (n : ℕ). is_due (if eqb terms.lease INFINITE_LEASE then None else Some (n + SECOND * terms.lease)) arrival.at ≡ false) (sym first)
    (unexpired_lasts exchange.first terms.lease arrival.at g.unexpired)

module _ (settings : SettingsContent) (arrival : Arrival) (turn : Turn4) (now : turn.at ≡ arrival.at) (count : ℕ) (k : Kept) (within : k.answered ≤ count) where
  abbrev reply : Exchange4 → Answer4
  reply = λ exchange. reply_in settings arrival exchange

  abbrev Heard : Option Numbered → Step4 → Type 0
  Heard current step = HeardAfter turn.at reply (seen count current) k step

  -- nothing is done, and nothing that is heard counts
  unheard : (current : Option Numbered) (state : State4) → LastXid turn.last current → hears reply current k ≡ k
      → On (Lasts turn.at) state current k.answered k.grant → Heard current (rests turn state)
  unheard current state last same on =
      subst (λ (j : Kept). Watched (Lasts turn.at) turn.last state (seen count current) j) (sym same) (record { xid = last; on = on })

  -- ---- Selecting

  asks_now : (exchange : Exchange4) (secs : ℕ) (backoff : Backoff) → exchange.first ≡ turn.at → reply exchange ≡ answer.Nothing
      → Heard None (requesting turn exchange secs backoff)
  asks_now exchange secs backoff first quiet =
      let asked : Exchange4 = record { xid = exchange.xid; address = exchange.address; server = exchange.server; first = turn.at } in
      let x : Numbered = record { number = count + 1; exchange = asked } in
      let is : asked ≡ exchange = ap (λ (n : ℕ). record exchange { first = n }) (sym first) in
      let silent : reply asked ≡ answer.Nothing = ap reply is ∙ quiet in
      let same : hears reply (Some x) k ≡ k =
      ap (λ (r : Answer4). answered_in x (nat_eq k.answered (count + 1)) r k) silent ∙ nothing_said x (nat_eq k.answered (count + 1)) k in
      subst (λ (j : Kept). Watched (Lasts turn.at) (Some exchange.xid) (requesting turn exchange secs backoff).state (seen (count + 1) (Some x)) j) (sym same)
      (record { xid = refl; on = (is, other_number k.answered count within) })

  offering : (xid secs : ℕ) (state : State4) (said : Answer4) → offer_by settings arrival (answering settings xid arrival) ≡ said
      → On (Lasts turn.at) state None k.answered k.grant → Heard None (offered turn xid secs state said)
  offering xid secs state answer.Nothing is on = unheard None state tt refl on
  offering xid secs state (answer.Ack terms) is on = unheard None state tt refl on
  offering xid secs state answer.Nak is on = unheard None state tt refl on
  offering xid secs state (answer.Offer address server) is on =
      let exchange : Exchange4 = record { xid = xid; address = address; server = Some server; first = turn.at } in
      asks_now exchange secs Four refl (offer_replies_nothing settings exchange arrival (is_offered settings xid arrival address server is).sort)

  -- ---- an exchange that isn't answered yet

  module _ (x : Numbered) (exchange : Exchange4) (same : x.exchange ≡ exchange) (other : nat_eq k.answered x.number ≡ false)
      (last : LastXid turn.last (Some x)) where
    heard_as : (said : Answer4) → reply exchange ≡ said → hears reply (Some x) k ≡ answered_in x false said k
    heard_as said is =
        ap (λ (e : Exchange4). answered_in x (nat_eq k.answered x.number) (reply e) k) same
        ∙ ap (λ (b : Bool). answered_in x b (reply exchange) k) other ∙ ap (λ (r : Answer4). answered_in x false r k) is

    -- the lease that is granted
    takes : (terms : Terms4) (state : State4) → reply exchange ≡ answer.Ack terms
        → ((answered : IsAnswered x.number (Some x)) → Holds (Lasts turn.at) terms (Some (record { opened = x; terms = terms }))
        → On (Lasts turn.at) state (Some x) x.number (Some (record { opened = x; terms = terms })))
        → Watched (Lasts turn.at) turn.last state (seen count (Some x)) (hears reply (Some x) k)
    takes terms state is on =
        subst (λ (j : Kept). Watched (Lasts turn.at) turn.last state (seen count (Some x)) j) (sym (heard_as (answer.Ack terms) is))
        (record {
          xid = last;
          on = on (equal_number x.number) (refl, subst (λ (n : ℕ). Lasts n terms) (sym now) (granted_lasts settings exchange arrival terms is));
        })

    -- nothing is said in it
    waits : (state : State4) (said : Answer4) → reply exchange ≡ said → answered_in x false said k ≡ k
        → On (Lasts turn.at) state (Some x) k.answered k.grant → Heard (Some x) (rests turn state)
    waits state said is none on = unheard (Some x) state last (heard_as said is ∙ none) on

    answers : (xid : ℕ) (origin : Origin4) (stands : Option Terms4) (state : State4) (said : Answer4) → reply exchange ≡ said → IfSome stands (Lasts turn.at)
        → On (Lasts turn.at) state (Some x) k.answered k.grant → Heard (Some x) (answered turn xid origin stands state said)
    answers xid origin stands state (answer.Ack terms) is stood on =
        gated (Heard (Some x)) turn.site.flags.noarp _ _
        (takes terms (Bound xid terms None) is (λ a h. (a, h)))
        (takes terms (Checking xid terms origin (detection.acd_begun turn.site.iface.index terms.net.ip turn.at turn.salt) stands) is
        (λ a h. (a, (h.0, tt), stood)))
    answers xid origin stands state answer.Nak is stood on = record { xid = last; on = tt }
    answers xid origin stands state answer.Nothing is stood on = waits state answer.Nothing is refl on
    answers xid origin stands state (answer.Offer address server) is stood on = waits state (answer.Offer address server) is refl on

    renews : (xid : ℕ) (news : News4) (acd : Option Acd) (state : State4) (said : Answer4) → reply exchange ≡ said
        → On (Lasts turn.at) state (Some x) k.answered k.grant → Heard (Some x) (renewed turn xid news acd state said)
    renews xid news acd state (answer.Ack terms) is on = takes terms (Bound xid terms acd) is (λ a h. (a, h))
    renews xid news acd state answer.Nak is on = record { xid = last; on = tt }
    renews xid news acd state answer.Nothing is on = waits state answer.Nothing is refl on
    renews xid news acd state (answer.Offer address server) is on = waits state (answer.Offer address server) is refl on

  answering_in : (current : Option Numbered) (exchange : Exchange4) (origin : Origin4) (stands : Option Terms4) (state : State4) → LastXid turn.last current
      → Asks exchange k.answered current → IfSome stands (Lasts turn.at) → On (Lasts turn.at) state current k.answered k.grant
      → Heard current (answered turn exchange.xid origin stands state (reply exchange))
  answering_in None exchange origin stands state last asks stood on = absurd asks
  answering_in (Some x) exchange origin stands state last asks stood on =
      answers x exchange asks.0 asks.1 last exchange.xid origin stands state (reply exchange) refl stood on

  renewing_in : (current : Option Numbered) (exchange : Exchange4) (news : News4) (acd : Option Acd) (state : State4) → LastXid turn.last current
      → Asks exchange k.answered current → On (Lasts turn.at) state current k.answered k.grant
      → Heard current (renewed turn exchange.xid news acd state (reply exchange))
  renewing_in None exchange news acd state last asks on = absurd asks
  renewing_in (Some x) exchange news acd state last asks on = renews x exchange asks.0 asks.1 last exchange.xid news acd state (reply exchange) refl on

  selecting_in : (current : Option Numbered) (xid began secs : ℕ) (backoff : Backoff) (due : ℕ) → current ≡ None
      → Heard current (offered turn xid secs (Selecting xid began secs backoff due) (offer_by settings arrival (answering settings xid arrival)))
  selecting_in current xid began secs backoff due none =
      subst
      (λ (c : Option Numbered). Heard c
      (offered turn xid secs (Selecting xid began secs backoff due) (offer_by settings arrival (answering settings xid arrival))))
      (sym none)
      (offering xid secs (Selecting xid began secs backoff due) (offer_by settings arrival (answering settings xid arrival)) refl refl)

  -- where nothing is held or asked for it doesn't count what is said
  free : (current : Option Numbered) (state : State4) → LastXid turn.last current
      → ((grant : Option Grant) (answered : ℕ) → On (Lasts turn.at) state current answered grant) → Heard current (rests turn state)
  free current state last on = record { xid = last; on = on _ _ }

  pub heard_watched : (current : Option Numbered) (state : State4) → LastXid turn.last current → On (Lasts turn.at) state current k.answered k.grant
      → Heard current (heard_row turn (answer_of settings arrival state) state)
  heard_watched current Off last on = free current Off last (λ grant answered. tt)
  heard_watched current (Init due) last on = free current (Init due) last (λ grant answered. tt)
  heard_watched current (Selecting xid began secs backoff due) last on = selecting_in current xid began secs backoff due on
  heard_watched current (Requesting exchange secs backoff due) last on =
      answering_in current exchange Offered None (Requesting exchange secs backoff due) last on tt on
  heard_watched current (Rebooting exchange backoff end due stands) last on =
      answering_in current exchange Rebooted stands (Rebooting exchange backoff end due stands) last on.0 on.1 on
  heard_watched current (Checking xid terms origin acd stands) last on =
      unheard current (Checking xid terms origin acd stands) last (settled reply current k on.0) on
  heard_watched current (Waiting due) last on = free current (Waiting due) last (λ grant answered. tt)
  heard_watched current (Bound xid terms acd) last on = unheard current (Bound xid terms acd) last (settled reply current k on.0) on
  heard_watched current (Renewing exchange terms acd due) last on =
      renewing_in current exchange news.Renew acd (Renewing exchange terms acd due) last on.0 on
  heard_watched current (Rebinding exchange terms acd due) last on =
      renewing_in current exchange news.Rebind acd (Rebinding exchange terms acd due) last on.0 on

-- ---- the other inputs

contested_by : (acd : Acd) (last : Option ℕ) (at : ℕ) (next : Phase) → (detection.contested_row acd last at next).says ≡ Passed → ⊥
contested_by acd None at next = λ is. absurd cc
contested_by acd (Some before) at next =
    gated (λ (step : detection.AcdStep). step.says ≡ Passed → ⊥) (nat_le DEFEND_INTERVAL (at - before)) _ _ (λ is. absurd cc) (λ is. absurd cc)

-- a packet lets no address pass
never_passes : (own : List Mac) (iface : IfIndex) (addr : Ip4) (phase : Phase) (arp : ArpView) (at : ℕ)
    → (detection.acd_hears own (mk iface addr phase) arp at).says ≡ Passed → ⊥
never_passes own iface addr (Probing sent due) arp at =
    gated (λ (step : detection.AcdStep). step.says ≡ Passed → ⊥) (is_contested own addr arp) _ _ (λ is. absurd cc) (λ is. absurd cc)
never_passes own iface addr (Announcing due last) arp at =
    gated (λ (step : detection.AcdStep). step.says ≡ Passed → ⊥) (is_used own addr arp) _ _
    (contested_by (mk iface addr (Announcing due last)) last at (Announcing due (Some at))) (λ is. absurd cc)
never_passes own iface addr (Held last) arp at =
    gated (λ (step : detection.AcdStep). step.says ≡ Passed → ⊥) (is_used own addr arp) _ _
    (contested_by (mk iface addr (Held last)) last at (Held (Some at))) (λ is. absurd cc)
never_passes own iface addr Over arp at = λ is. absurd cc

first_false : (a b : Bool) → (a || b) ≡ false → a ≡ false
first_false true b h = absurd cc
first_false false b h = refl

module _ (turn : Turn4) (count : ℕ) (current : Option Numbered) (k : Kept) (within : k.answered ≤ count) (last : LastXid turn.last current) where
  abbrev Then : Step4 → Type 0
  Then step = WatchedAfter (Lasts turn.at) turn.at (seen count current) k step

  stays : (state : State4) → On (Lasts turn.at) state current k.answered k.grant → Then (rests turn state)
  stays state on = record { xid = last; on = on }

  contests : (own : List Mac) (arp : ArpView) (xid : ℕ) (terms : Terms4) (state : State4) (acd : Option Acd)
      → ((acd : Acd) → On (Lasts turn.at) (with_acd state acd) current k.answered k.grant)
      → On (Lasts turn.at) state current k.answered k.grant → Then (contested own turn arp xid terms state acd)
  contests own arp xid terms state None with_on on = stays state on
  contests own arp xid terms state (Some acd) with_on on =
      defends turn count current k within last xid terms (with_acd state (detection.acd_hears own acd arp turn.at).acd)
      (detection.acd_hears own acd arp turn.at).says (with_on (detection.acd_hears own acd arp turn.at).acd)

  pub arp_watched : (own : List Mac) (arp : ArpView) (state : State4) → On (Lasts turn.at) state current k.answered k.grant → Then (arp_row own turn arp state)
  arp_watched own arp Off on = stays Off on
  arp_watched own arp (Init due) on = stays (Init due) on
  arp_watched own arp (Selecting xid began secs backoff due) on = stays (Selecting xid began secs backoff due) on
  arp_watched own arp (Requesting exchange secs backoff due) on = stays (Requesting exchange secs backoff due) on
  arp_watched own arp (Rebooting exchange backoff end due stands) on = stays (Rebooting exchange backoff end due stands) on
  arp_watched own arp (Checking xid terms origin acd stands) on =
      checks turn count current k within last xid terms origin (detection.acd_hears own acd arp turn.at).acd stands
      (detection.acd_hears own acd arp turn.at).says on
      (λ passed. absurd (never_passes own acd.iface acd.addr acd.phase arp turn.at passed))
  arp_watched own arp (Waiting due) on = stays (Waiting due) on
  arp_watched own arp (Bound xid terms acd) on = contests own arp xid terms (Bound xid terms acd) acd (λ next. on) on
  arp_watched own arp (Renewing exchange terms acd due) on = contests own arp exchange.xid terms (Renewing exchange terms acd due) acd (λ next. on) on
  arp_watched own arp (Rebinding exchange terms acd due) on = contests own arp exchange.xid terms (Rebinding exchange terms acd due) acd (λ next. on) on

  -- a kept lease on which the client stands from now on isn't over
  stood_lasts : (may_stand : Bool) (terms : Terms4) → is_due (expiry terms) turn.at ≡ false → IfSome (stood turn may_stand terms) (Lasts turn.at)
  stood_lasts may_stand terms lasts =
      gated (λ (s : Option Terms4). IfSome s (Lasts turn.at)) (turn.site.flags.persistent && may_stand && is_some terms.origin) (Some terms) None lasts tt

  begun : (may_stand : Bool) (kept : Option Terms4) → Then (begins turn may_stand kept)
  begun may_stand None = record { xid = last; on = tt }
  begun may_stand (Some terms) =
      let exchange : Exchange4 = new_exchange turn terms.net.ip in
      let end : ℕ = turn.at + SECOND * turn.site.times.reboot in
      let stands : Option Terms4 = stood turn may_stand terms in
      split (is_due (expiry terms) turn.at || eqb turn.site.times.reboot 0) (λ over. rw over (record { xid = last; on = tt }))
      (λ asks. rw asks
      (asks_anew (Lasts turn.at) turn.at (sent_of (request turn.site exchange 0)).said exchange
      (rebooting turn exchange Four end stands).state count current k within
      (fresh turn current last) refl (λ x is.
      (is, stood_lasts may_stand terms (first_false (is_due (expiry terms) turn.at) (eqb turn.site.times.reboot 0) asks)))))

  pub begin_watched : (may_stand : Bool) (kept : Option Terms4) (state : State4) → On (Lasts turn.at) state current k.answered k.grant
      → Then (begin_row turn may_stand kept state)
  begin_watched may_stand kept Off on = begun may_stand kept
  begin_watched may_stand kept (Init due) on = stays (Init due) on
  begin_watched may_stand kept (Selecting xid began secs backoff due) on = stays (Selecting xid began secs backoff due) on
  begin_watched may_stand kept (Requesting exchange secs backoff due) on = stays (Requesting exchange secs backoff due) on
  begin_watched may_stand kept (Rebooting exchange backoff end due stands) on = stays (Rebooting exchange backoff end due stands) on
  begin_watched may_stand kept (Checking xid terms origin acd stands) on = stays (Checking xid terms origin acd stands) on
  begin_watched may_stand kept (Waiting due) on = stays (Waiting due) on
  begin_watched may_stand kept (Bound xid terms acd) on = stays (Bound xid terms acd) on
  begin_watched may_stand kept (Renewing exchange terms acd due) on = stays (Renewing exchange terms acd due) on
  begin_watched may_stand kept (Rebinding exchange terms acd due) on = stays (Rebinding exchange terms acd due) on

  pub rebind_watched : (kept : Option Terms4) (state : State4) → On (Lasts turn.at) state current k.answered k.grant → Then (rebind_row turn kept state)
  rebind_watched kept Off on = begun false kept
  rebind_watched kept (Init due) on = stays (Init due) on
  rebind_watched kept (Selecting xid began secs backoff due) on = stays (Selecting xid began secs backoff due) on
  rebind_watched kept (Requesting exchange secs backoff due) on = stays (Requesting exchange secs backoff due) on
  rebind_watched kept (Rebooting exchange backoff end due stands) on = stays (Rebooting exchange backoff end due stands) on
  rebind_watched kept (Checking xid terms origin acd stands) on = stays (Checking xid terms origin acd stands) on
  rebind_watched kept (Waiting due) on = stays (Waiting due) on
  rebind_watched kept (Bound xid terms acd) on = rebinds turn count current k within last terms acd on.1
  rebind_watched kept (Renewing exchange terms acd due) on = rebinds turn count current k within last terms acd on.1
  rebind_watched kept (Rebinding exchange terms acd due) on = stays (Rebinding exchange terms acd due) on

  pub off_watched : Then (off_row turn)
  off_watched = record { xid = last; on = tt }

  let_go : (tell : Tell) (terms : Terms4) → Then (released turn tell terms)
  let_go Server terms = record { xid = tt; on = tt }
  let_go Nobody terms = record { xid = last; on = tt }

  let_fall : (tell : Tell) (stands : Option Terms4) → Then (released_standing turn tell stands)
  let_fall tell None = off_watched
  let_fall tell (Some terms) = let_go tell terms

  pub release_watched : (tell : Tell) (state : State4) → Then (release_row turn tell state)
  release_watched tell Off = off_watched
  release_watched tell (Init due) = off_watched
  release_watched tell (Selecting xid began secs backoff due) = off_watched
  release_watched tell (Requesting exchange secs backoff due) = off_watched
  release_watched tell (Rebooting exchange backoff end due stands) = let_fall tell stands
  release_watched tell (Checking xid terms origin acd stands) = let_fall tell stands
  release_watched tell (Waiting due) = off_watched
  release_watched tell (Bound xid terms acd) = let_go tell terms
  release_watched tell (Renewing exchange terms acd due) = let_go tell terms
  release_watched tell (Rebinding exchange terms acd due) = let_go tell terms

-- ---- a failed send, and the turn after

module _ (K : Terms4 → Type 0) (turn : Turn4) (current : Option Numbered) (answered : ℕ) (grant : Option Grant) where
  pub unsent_watched : (state : State4) → On K state current answered grant → On K (unsent_row turn state) current answered grant
  unsent_watched Off on = on
  unsent_watched (Init due) on = on
  unsent_watched (Selecting xid began secs backoff due) on = on
  unsent_watched (Requesting exchange secs backoff due) on = on
  unsent_watched (Rebooting exchange backoff end due stands) on = on
  unsent_watched (Checking xid terms origin acd stands) on = on
  unsent_watched (Waiting due) on = on
  unsent_watched (Bound xid terms acd) on = on
  unsent_watched (Renewing exchange terms acd due) on = on
  unsent_watched (Rebinding exchange terms acd due) on = on

  any_stands : (stands : Option Terms4) → IfSome stands AnyTerms
  any_stands None = tt
  any_stands (Some terms) = tt

  pub any_terms : (state : State4) → On K state current answered grant → On AnyTerms state current answered grant
  any_terms Off on = on
  any_terms (Init due) on = on
  any_terms (Selecting xid began secs backoff due) on = on
  any_terms (Requesting exchange secs backoff due) on = on
  any_terms (Rebooting exchange backoff end due stands) on = (on.0, any_stands stands)
  any_terms (Checking xid terms origin acd stands) on = (on.0, on.1, any_stands stands)
  any_terms (Waiting due) on = on
  any_terms (Bound xid terms acd) on = (on.0, with_terms K AnyTerms terms grant tt on.1)
  any_terms (Renewing exchange terms acd due) on = (on.0, with_terms K AnyTerms terms grant tt on.1)
  any_terms (Rebinding exchange terms acd due) on = (on.0, with_terms K AnyTerms terms grant tt on.1)
