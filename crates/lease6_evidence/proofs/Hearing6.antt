-- What comes in keeps what a client carries of the exchanges shown: a Reply that it takes is a first good one, and it takes each.
use Rattle.std.proofs.Common.{◌≡◌, ℕ, Bool, true, false, not, ◌&&◌, ◌||◌, List, ◌∷◌, Option, Some, None, IfSome, refl, sym, ap, subst, ◌∙◌, arith}
use Rattle.std.proofs.lemmas.Bool.{both_ways, and_parts, and_from}
use Rattle.std.proofs.lemmas.Bool.Decides.{nat_tests}
use Rattle.std.specs.Prelude.{◌==◌, if◌then◌else◌}
use Rattle.net_types.proofs.CaseLaws.{gated}
use Rattle.v6_message.specs.declared.kind.ServerKind6.{ServerKind6}
use Rattle.v6_message.specs.declared.kind.ServerKind6.TheVariants.{Advertise, Reply}
use Rattle.v6_message.specs.Replies.{Content6}
use Rattle.lease6_text.specs.Leases.{Lease6Content}
use Rattle.v6_client.specs.declared.exchange.Exchange6.{Exchange6}
use Rattle.v6_client.specs.declared.states.Answer6.TheVariants as answer
use Rattle.v6_client.specs.declared.states.State6.{State6}
use Rattle.v6_client.specs.declared.states.State6.TheVariants.{Off, Waiting, Soliciting, Requesting, Bound, Renewing, Rebinding, Restarting, Declining}
use Rattle.v6_client.specs.declared.states.Step6.{Step6}
use Rattle.v6_client.specs.declared.turn.Turn6.{Turn6}
use Rattle.v6_client.specs.Answers as client
use Rattle.v6_client.specs.Answers.{advertise_answer, awaited, chosen, counts, has_bytes, is_awaited, is_taken, learnt, reply_answer, sol_max_with, takes_replies}
use Rattle.v6_client.specs.Calls.{fresh_in}
use Rattle.v6_client.specs.Clients.{ClientContent, PleaContent}
use Rattle.v6_client.specs.Hearing.{heard_row, is_better, is_kept_offer, is_taken_at_once, solicited}
use Rattle.v6_client.specs.Moves.{kept_after, plea_after, told}
use Rattle.v6_client.specs.V6Items.Reading.{serves}
use Rattle.v6_client.specs.Runs.{Turned6, answered, hears_turned, rested, stepped}
use Rattle.v6_client.specs.Saying.{lease_server, plea_server}
use Rattle.v6_client.specs.Steps.{rests}
use Rattle.v6_client_laws.proofs.Given.{messages_serve}
use Rattle.lease_evidence.specs.ClientModel.ClientSettings6.{site6_of}
use Rattle.lease_evidence.specs.EvidenceWords.Entries.{Entry}
use Rattle.lease_evidence.specs.EvidenceWords.Inputs.{Site}
use Rattle.lease6_evidence.specs.Exchanges6.{Numbered6, Seen6, seen6_in, shows6}
use Rattle.lease6_evidence.specs.Replies6.{GoodReply, NoReply, answers, asks_at, is_from, is_reply, message6_at}
use Rattle.lease6_evidence.proofs.ExchangeStates.{Answered6, Asking6, Asks6, Counted6, Follows6, LastXid6, On6, Solicits6, Takes6, client_with}
use Rattle.lease6_evidence.proofs.ReplyParts.{IsAnswer, answer_from, answer_parts, reply_is, same_xid}
use Rattle.lease6_evidence.proofs.Steps6.{message_in}
use Rattle.lease6_evidence.proofs.Watching6.{After6, requests_anew, seen6}

-- ---- a state that waits for a Reply in the open exchange

pub record Awaits (site : Site) (last : Option ℕ) (state : State6) (leased pleaded : Option (List ℕ)) (x : Numbered6) : Type
    0 where
  pub xid : awaited last state ≡ Some x.exchange.xid
  pub servers : (told : Option (List ℕ)) → is_from x.exchange.servers told ≡ client.is_from (chosen state leased pleaded) told
  pub takes : (rapid : Bool) → takes_replies (rapid && site.managed.conf.dhcp6.rapid) state ≡ (rapid || not x.exchange.solicits)

or_true : (b : Bool) → true ≡ (b || true)
or_true true = refl
or_true false = refl

at_once : (rapid wanted : Bool) → wanted ≡ true → (rapid && wanted) ≡ (rapid || false)
at_once true wanted h = h
at_once false wanted h = refl

module _ (site : Site) (past : List Entry) (last : Option ℕ) (leased pleaded : Option (List ℕ)) where
  -- after other messages than a SOLICIT
  pub plain_awaits : (state : State6) (xid : ℕ) (x : Numbered6) → awaited last state ≡ Some xid
      → ((rapid : Bool) → takes_replies rapid state ≡ true)
      → Asks6 site xid (chosen state leased pleaded) false x past → Awaits site last state leased pleaded x
  plain_awaits state xid x is always a = record {
    xid = is ∙ ap Some (sym a.same_xid);
    servers = a.servers;
    takes = λ rapid. always (rapid && site.managed.conf.dhcp6.rapid) ∙ or_true rapid
        ∙ ap (λ (b : Bool). rapid || not b) (sym a.kind);
  }

  pub solicit_awaits : (exchange : Exchange6) (offer : Option ℕ) (x : Numbered6) → site.managed.conf.dhcp6.rapid ≡ true
      → Asks6 site exchange.xid None true x past
      → Awaits site last (Soliciting exchange offer) leased pleaded x
  solicit_awaits exchange offer x wanted a = record {
    xid = ap Some (sym a.same_xid);
    servers = a.servers;
    takes = λ rapid. at_once rapid site.managed.conf.dhcp6.rapid wanted ∙ ap (λ (b : Bool). rapid || not b) (sym a.kind);
  }

-- ---- a further turn

module _ (site : Site) (e : Entry) (past : List Entry) (last : Option ℕ) (leased pleaded : Option (List ℕ)) where
  asks_still : (xid : ℕ) (server : Option (List ℕ)) (solicits : Bool) (x : Numbered6) → NoReply site x.number e past
      → Asks6 site xid server solicits x past
      → Asks6 site xid server solicits x (e ∷ past)
  asks_still xid server solicits x unheard a =
      record { same_xid = a.same_xid; servers = a.servers; kind = a.kind; unanswered = (unheard, a.unanswered) }

  asking_still : (state : State6) (xid : ℕ) (current : Option Numbered6) → awaited last state ≡ Some xid
      → ((rapid : Bool) → takes_replies rapid state ≡ true)
      → ((x : Numbered6) → current ≡ Some x → Awaits site last state leased pleaded x → NoReply site x.number e past)
      → Asking6 site xid (chosen state leased pleaded) current past → Asking6 site xid (chosen state leased pleaded) current
      (e ∷ past)
  asking_still state xid None is always unheard a = absurd a
  asking_still state xid (Some x) is always unheard a =
      asks_still xid (chosen state leased pleaded) false x
      (unheard x refl (plain_awaits site past last leased pleaded state xid x is always a)) a

  soliciting_still : (exchange : Exchange6) (offer : Option ℕ) (current : Option Numbered6)
      → ((x : Numbered6) → current ≡ Some x → Awaits site last (Soliciting exchange offer) leased pleaded x
      → NoReply site x.number e past)
      → Solicits6 site site.managed.conf.dhcp6.rapid exchange.xid current past → Solicits6 site site.managed.conf.dhcp6.rapid
      exchange.xid current (e ∷ past)
  soliciting_still exchange offer None unheard h = h
  soliciting_still exchange offer (Some x) unheard h = (
    h.0,
    asks_still exchange.xid None true x
        (unheard x refl (solicit_awaits site past last leased pleaded exchange offer x h.0 h.1)) h.1,
  )

  answered_still : (current : Option Numbered6) → Answered6 site current past → Answered6 site current (e ∷ past)
  answered_still None h = h
  answered_still (Some x) h = λ all. h all.1

  pub on_still : (state : State6) (current : Option Numbered6)
      → ((x : Numbered6) → current ≡ Some x → Awaits site last state leased pleaded x → NoReply site x.number e past)
      → On6 site state leased pleaded current past → On6 site state leased pleaded current (e ∷ past)
  on_still Off current unheard on = tt
  on_still (Waiting due) current unheard on = tt
  on_still (Soliciting exchange offer) current unheard on = soliciting_still exchange offer current unheard on
  on_still (Requesting exchange) current unheard on = asking_still (Requesting exchange) exchange.xid current refl
      (λ rapid. refl) unheard on
  on_still Bound current unheard on = answered_still current on
  on_still (Renewing exchange) current unheard on = asking_still (Renewing exchange) exchange.xid current refl (λ rapid. refl)
      unheard on
  on_still (Rebinding exchange) current unheard on = asking_still (Rebinding exchange) exchange.xid current refl
      (λ rapid. refl) unheard on
  on_still (Restarting exchange end since stands) current unheard on =
      asking_still (Restarting exchange end since stands) exchange.xid current refl (λ rapid. refl) unheard on
  on_still (Declining exchange) current unheard on = on

  number_of : (seen : Seen6) (x : Numbered6) → IfSome seen.current (λ y. y.number ≡ seen.count) → seen.current ≡ Some x
      → x.number ≡ seen.count
  number_of seen x latest is = subst (λ (o : Option Numbered6). IfSome o (λ y. y.number ≡ seen.count)) is latest

  counted_still : (seen : Seen6) → seen6_in site (e ∷ past) ≡ seen → Counted6 site seen past → Counted6 site seen (e ∷ past)
  counted_still seen is k = record {
    latest = k.latest;
    above = λ n less. (
      λ opened message good same.
          let number : opened.number ≡ seen.count = number_of seen opened k.latest (ap (λ (s : Seen6). s.current) (sym is)
          ∙ good.is_open) in
          omega (arith, number, same, less),
      k.above n less,
    );
  }

  -- the end of a turn
  pub finish6 : (state : State6) (seen : Seen6) → seen6_in site (e ∷ past) ≡ seen
      → Follows6 site last state leased pleaded seen past
      → ((x : Numbered6) → seen.current ≡ Some x → Awaits site last state leased pleaded x → NoReply site x.number e past)
      → Follows6 site last state leased pleaded (seen6_in site (e ∷ past)) (e ∷ past)
  finish6 state seen is f unheard =
      subst (λ (s : Seen6). Follows6 site last state leased pleaded s (e ∷ past)) (sym is) (record {
        counted = counted_still seen is f.counted;
        last_is = f.last_is;
        on = on_still state seen.current unheard f.on;
      })

-- nothing came
pub silent_no : (site : Site) (e : Entry) (past : List Entry) (number : ℕ) → message6_at site e ≡ None
    → NoReply site number e past
silent_no site e past number none opened message good same = absurd (unlike message (sym none ∙ good.came))
  where
    unlike : (message : Content6) → None ≡ Some message → ⊥
    unlike message h = cc

-- ---- a message

module _ (site : Site) (message : Content6) (unspent : Bool) (last : Option ℕ) (sol_max : ℕ) (kept : Option Lease6Content)
    (plea : Option PleaContent) where
  abbrev c : State6 → ClientContent
  c state = client_with site unspent last sol_max state kept plea

  abbrev AwaitsIn : State6 → Numbered6 → Type 0
  AwaitsIn state x = Awaits site last state (lease_server kept) (plea_server plea) x

  awaited_xid : (told : Option ℕ) (a xid : ℕ) → told ≡ Some a → a ≡ xid → is_awaited told xid ≡ true
  awaited_xid told a xid is same = ap (λ (t : Option ℕ). is_awaited t xid) is ∙ equal a xid same
    where
      equal : (a b : ℕ) → a ≡ b → (a == b) ≡ true
      equal a b h = grind (arith, nat_tests)

  xid_awaited : (told : Option ℕ) (a xid : ℕ) → told ≡ Some a → is_awaited told xid ≡ true → (xid == a) ≡ true
  xid_awaited told a xid is h = turn_round a xid (ap (λ (t : Option ℕ). is_awaited t xid) (sym is) ∙ h)
    where
      turn_round : (a b : ℕ) → (a == b) ≡ true → (b == a) ≡ true
      turn_round a b h = grind (arith, nat_tests)

  -- a good Reply is taken
  pub takes_good : (state : State6) (x : Numbered6) → AwaitsIn state x → answers site x.exchange message ≡ true
      → serves (asks_at site) message ≡ true → Takes6 (c state) message
  takes_good state x a good served =
      let parts : IsAnswer site x.exchange message = answer_parts site x.exchange message good in
      record {
        counted = and_from _ _
            (and_from _ _ (awaited_xid (awaited last state) x.exchange.xid message.xid a.xid
            (sym (same_xid message.xid x.exchange.xid parts.xid))) parts.client)
            (sym (a.servers message.server) ∙ parts.server);
        kind = reply_is message.kind parts.reply;
        taken = and_from _ _ (a.takes message.rapid ∙ parts.rapid) served;
      }

  -- and what is taken is a good Reply
  pub good_taken : (state : State6) (x : Numbered6) → AwaitsIn state x → Takes6 (c state) message
      → answers site x.exchange message ≡ true
  good_taken state x a t =
      let counting = and_parts (is_awaited (awaited last state) message.xid && has_bytes message.client site.duid)
      (client.is_from (chosen state (lease_server kept) (plea_server plea)) message.server) t.counted in
      let client_and_xid = and_parts (is_awaited (awaited last state) message.xid) (has_bytes message.client site.duid)
      counting.0 in
      let taking = and_parts (takes_replies (message.rapid && site.managed.conf.dhcp6.rapid) state)
      (serves (asks_at site) message) t.taken in
      answer_from site x.exchange message (record {
        reply = ap (λ (k : ServerKind6). is_reply k) t.kind;
        xid = xid_awaited (awaited last state) x.exchange.xid message.xid a.xid client_and_xid.0;
        client = client_and_xid.1;
        server = a.servers message.server ∙ counting.1;
        rapid = sym (a.takes message.rapid) ∙ taking.0;
      })

  pub served_taken : (state : State6) → Takes6 (c state) message → serves (asks_at site) message ≡ true
  served_taken state t =
      (and_parts (takes_replies (message.rapid && site.managed.conf.dhcp6.rapid) state) (serves (asks_at site) message) t.taken).1

module _ (site : Site) (e : Entry) (past : List Entry) (message : Content6) (came : message6_at site e ≡ Some message) where
  same_message : (other : Content6) → message6_at site e ≡ Some other → message ≡ other
  same_message other is = one_is message other (sym came ∙ is)
    where
      one_is : (x y : Content6) → Some x ≡ Some y → x ≡ y
      one_is x y h = cc

  same_exchange : (x : Numbered6) (seen : Seen6) (opened : Numbered6) → seen6_in site (e ∷ past) ≡ seen → seen.current ≡ Some x
      → (seen6_in site (e ∷ past)).current ≡ Some opened → x ≡ opened
  same_exchange x seen opened is open_one other = one_is x opened (sym open_one ∙ ap (λ (s : Seen6). s.current) (sym is)
      ∙ other)
    where
      one_is : (x y : Numbered6) → Some x ≡ Some y → x ≡ y
      one_is x y h = cc

  module _ (unspent : Bool) (last : Option ℕ) (sol_max : ℕ) (kept : Option Lease6Content) (plea : Option PleaContent) where
    -- where the client takes nothing no good Reply came
    untaken_no : (state : State6) (seen : Seen6) (x : Numbered6) → seen6_in site (e ∷ past) ≡ seen → seen.current ≡ Some x
        → Awaits site last state (lease_server kept) (plea_server plea) x
        → (Takes6 (c site message unspent last sol_max kept plea state) message → ⊥)
        → NoReply site x.number e past
    untaken_no state seen x is open_one a never opened other good same =
        let is_other : other ≡ message = sym (same_message other good.came) in
        let taken : answers site opened.exchange message ≡ true =
        subst (λ (m : Content6). answers site opened.exchange m ≡ true) is_other good.good in
        let served : serves (asks_at site) message ≡ true =
        subst (λ (m : Content6). serves (asks_at site) m ≡ true) is_other ((messages_serve (asks_at site) other).1 good.serves) in
        never (takes_good site message unspent last sol_max kept plea state x a
        (subst (λ (y : Numbered6). answers site y.exchange message ≡ true)
        (sym (same_exchange x seen opened is open_one good.is_open)) taken) served)

    -- a Reply that the client takes is a good one
    pub taken_good : (state : State6) (seen : Seen6) (x : Numbered6) → seen6_in site (e ∷ past) ≡ seen → seen.current ≡ Some x
        → Awaits site last state (lease_server kept) (plea_server plea) x
        → Takes6 (c site message unspent last sol_max kept plea state) message
        → GoodReply site x message e past
    taken_good state seen x is open_one a t = record {
      is_open = ap (λ (s : Seen6). s.current) is ∙ open_one;
      came = came;
      good = good_taken site message unspent last sol_max kept plea state x a t;
      serves = (messages_serve (asks_at site) message).0 (served_taken site message unspent last sol_max kept plea state t);
    }

    -- ---- calls

    module _ (at salt : ℕ) (count : ℕ) (current : Option Numbered6) (counted : Counted6 site (seen6 count current) past)
        (last_is : LastXid6 last current) where
      abbrev now : Seen6
      now = seen6 count current

      -- what the client carries after the turn
      abbrev Final : Turned6 → Type 0
      Final turned =
          seen6_in site (e ∷ past) ≡ shows6 (message_in site.managed.spec.mac site.duid turned.out) now
          → Follows6 site turned.client.last turned.client.state (lease_server turned.client.kept)
          (plea_server turned.client.plea) (seen6_in site (e ∷ past)) (e ∷ past)

      abbrev here : State6 → ClientContent
      here state = c site message unspent last sol_max kept plea state

      abbrev turn : Turn6
      turn = record { site = site6_of site.managed; last = last; sol_max = sol_max; at = at; salt = salt }

      abbrev OnNow : State6 → Type 0
      OnNow state = On6 site state (lease_server kept) (plea_server plea) current past

      -- the client stays as it is, and takes nothing
      stays_so : (state : State6) → OnNow state → (Takes6 (here state) message → ⊥) → seen6_in site (e ∷ past) ≡ now
          → Follows6 site last state (lease_server kept) (plea_server plea) (seen6_in site (e ∷ past)) (e ∷ past)
      stays_so state on never is =
          finish6 site e past last (lease_server kept) (plea_server plea) state now is
          (record { counted = counted; last_is = last_is; on = on })
          (λ x open_one a. untaken_no state now x is open_one a never)

      -- so without its plea, where no plea is looked at
      stays_without : (state : State6) → On6 site state (lease_server kept) None current past
          → ((x : Numbered6) → Awaits site last state (lease_server kept) None x
          → Awaits site last state (lease_server kept) (plea_server plea) x)
          → (Takes6 (here state) message → ⊥) → seen6_in site (e ∷ past) ≡ now → Follows6 site last state (lease_server kept)
          None (seen6_in site (e ∷ past)) (e ∷ past)
      stays_without state on same never is =
          finish6 site e past last (lease_server kept) None state now is
          (record { counted = counted; last_is = last_is; on = on })
          (λ x open_one a. untaken_no state now x is open_one (same x a) never)

      untaking : false ≡ true → ⊥
      untaking h = cc

      -- it waits for nothing
      rests_so : (state : State6) (leased pleaded : Option (List ℕ)) → On6 site state leased pleaded current past
          → ((x : Numbered6) → Awaits site last state leased pleaded x → ⊥) → seen6_in site (e ∷ past) ≡ now
          → Follows6 site last state leased pleaded (seen6_in site (e ∷ past)) (e ∷ past)
      rests_so state leased pleaded on none is =
          finish6 site e past last leased pleaded state now is (record { counted = counted; last_is = last_is; on = on })
          (λ x open_one a. absurd (none x a))

      waits_so : (due : ℕ) (leased pleaded : Option (List ℕ)) → seen6_in site (e ∷ past) ≡ now
          → Follows6 site last (Waiting due) leased pleaded (seen6_in site (e ∷ past)) (e ∷ past)
      waits_so due leased pleaded is = rests_so (Waiting due) leased pleaded tt (λ x a. untaking (a.takes true)) is

      -- it holds what the Reply grants: the open exchange had a good one
      binds_so : (state : State6) (leased pleaded : Option (List ℕ)) → OnNow state → Takes6 (here state) message
          → ((x : Numbered6) → current ≡ Some x → OnNow state → Awaits site last state (lease_server kept) (plea_server plea) x)
          → seen6_in site (e ∷ past) ≡ now → Follows6 site last Bound leased pleaded (seen6_in site (e ∷ past)) (e ∷ past)
      binds_so state leased pleaded on t awaits is =
          subst (λ (s : Seen6). Follows6 site last Bound leased pleaded s (e ∷ past)) (sym is) (record {
            counted = counted_still site e past last leased pleaded now is counted;
            last_is = last_is;
            on = by_open current refl;
          })
        where
          by_open : (open_one : Option Numbered6) → current ≡ open_one → Answered6 site open_one (e ∷ past)
          by_open None is_open = tt
          by_open (Some x) is_open = λ all. all.0 x message (taken_good state now x is is_open (awaits x is_open on) t) refl

      asking_awaits : (state : State6) (xid : ℕ) → awaited last state ≡ Some xid
          → ((rapid : Bool) → takes_replies rapid state ≡ true)
          → Asking6 site xid (chosen state (lease_server kept) (plea_server plea)) current past → (x : Numbered6)
          → current ≡ Some x
          → Awaits site last state (lease_server kept) (plea_server plea) x
      asking_awaits state xid is always h x open_one =
          plain_awaits site past last (lease_server kept) (plea_server plea) state xid x is always
          (subst (λ (o : Option Numbered6). Asking6 site xid (chosen state (lease_server kept) (plea_server plea)) o past)
          open_one h)

      soliciting_awaits : (exchange : Exchange6) (offer : Option ℕ) → OnNow (Soliciting exchange offer) → (x : Numbered6)
          → current ≡ Some x
          → Awaits site last (Soliciting exchange offer) (lease_server kept) (plea_server plea) x
      soliciting_awaits exchange offer h x open_one =
          let on : Solicits6 site site.managed.conf.dhcp6.rapid exchange.xid (Some x) past =
          subst (λ (o : Option Numbered6). Solicits6 site site.managed.conf.dhcp6.rapid exchange.xid o past) open_one h in
          solicit_awaits site past last (lease_server kept) (plea_server plea) exchange offer x on.0 on.1

      -- ---- a Reply

      abbrev Replied : State6 → (declining taken : Bool) → (fresh : Option Lease6Content) → Type 0
      Replied state declining taken fresh =
          Final (stepped (heard_row turn (reply_answer declining taken kept fresh) state) fresh (here state))

      untaken : (state : State6) → is_taken (here state) message ≡ false → Takes6 (here state) message → ⊥
      untaken state not t = both_ways (is_taken (here state) message) not t.taken

      module _ (state : State6) (is_counted : counts (here state) message ≡ true) (reply : message.kind ≡ Reply) where
        takes_it : is_taken (here state) message ≡ true → Takes6 (here state) message
        takes_it taken = record { counted = is_counted; kind = reply; taken = taken }

      requesting_reply : (exchange : Exchange6) → counts (here (Requesting exchange)) message ≡ true → message.kind ≡ Reply
          → OnNow (Requesting exchange)
          → (taken : Bool) → is_taken (here (Requesting exchange)) message ≡ taken → (fresh : Option Lease6Content)
          → Replied (Requesting exchange) false taken fresh
      requesting_reply exchange is_counted reply on true is None same = waits_so _ _ _ same
      requesting_reply exchange is_counted reply on true is (Some lease) same =
          binds_so (Requesting exchange) _ _ on (takes_it (Requesting exchange) is_counted reply is)
          (λ x open_one h. asking_awaits (Requesting exchange) exchange.xid refl (λ rapid. refl) h x open_one) same
      requesting_reply exchange is_counted reply on false is fresh same = stays_so (Requesting exchange) on
          (untaken (Requesting exchange) is) same

      renewing_reply : (exchange : Exchange6) → counts (here (Renewing exchange)) message ≡ true → message.kind ≡ Reply
          → OnNow (Renewing exchange)
          → (taken : Bool) → is_taken (here (Renewing exchange)) message ≡ taken → (fresh : Option Lease6Content)
          → Replied (Renewing exchange) false taken fresh
      renewing_reply exchange is_counted reply on true is None same = waits_so _ _ _ same
      renewing_reply exchange is_counted reply on true is (Some lease) same =
          binds_so (Renewing exchange) _ _ on (takes_it (Renewing exchange) is_counted reply is)
          (λ x open_one h. asking_awaits (Renewing exchange) exchange.xid refl (λ rapid. refl) h x open_one) same
      renewing_reply exchange is_counted reply on false is fresh same =
          stays_without (Renewing exchange) on (λ x a. record { xid = a.xid; servers = a.servers; takes = a.takes })
          (untaken (Renewing exchange) is) same

      rebinding_reply : (exchange : Exchange6) → counts (here (Rebinding exchange)) message ≡ true → message.kind ≡ Reply
          → OnNow (Rebinding exchange)
          → (taken : Bool) → is_taken (here (Rebinding exchange)) message ≡ taken → (fresh : Option Lease6Content)
          → Replied (Rebinding exchange) false taken fresh
      rebinding_reply exchange is_counted reply on true is None same = waits_so _ _ _ same
      rebinding_reply exchange is_counted reply on true is (Some lease) same =
          binds_so (Rebinding exchange) _ _ on (takes_it (Rebinding exchange) is_counted reply is)
          (λ x open_one h. asking_awaits (Rebinding exchange) exchange.xid refl (λ rapid. refl) h x open_one) same
      rebinding_reply exchange is_counted reply on false is fresh same =
          stays_without (Rebinding exchange) on (λ x a. record { xid = a.xid; servers = a.servers; takes = a.takes })
          (untaken (Rebinding exchange) is) same

      restarting_reply : (exchange : Exchange6) (end since : ℕ) (stands : Bool) → counts (here (Restarting exchange end since stands)) message ≡ true
          → message.kind ≡ Reply
          → OnNow (Restarting exchange end since stands) → (taken : Bool) → is_taken (here (Restarting exchange end since stands)) message
          ≡ taken
          → (fresh : Option Lease6Content) → Replied (Restarting exchange end since stands) false taken fresh
      restarting_reply exchange end since true is_counted reply on true is None same = waits_so _ _ _ same
      restarting_reply exchange end since false is_counted reply on true is None same = waits_so _ _ _ same
      restarting_reply exchange end since stands is_counted reply on true is (Some lease) same =
          binds_so (Restarting exchange end since stands) _ _ on (takes_it (Restarting exchange end since stands) is_counted reply is)
          (λ x open_one h. asking_awaits (Restarting exchange end since stands) exchange.xid refl (λ rapid. refl) h x open_one) same
      restarting_reply exchange end since stands is_counted reply on false is fresh same =
          stays_without (Restarting exchange end since stands) on (λ x a. record { xid = a.xid; servers = a.servers; takes = a.takes })
          (untaken (Restarting exchange end since stands) is) same

      soliciting_reply : (exchange : Exchange6) (offer : Option ℕ) → counts (here (Soliciting exchange offer)) message ≡ true
          → message.kind ≡ Reply
          → OnNow (Soliciting exchange offer) → (taken : Bool) → is_taken (here (Soliciting exchange offer)) message ≡ taken
          → (fresh : Option Lease6Content) → Replied (Soliciting exchange offer) false taken fresh
      soliciting_reply exchange offer is_counted reply on true is None same = waits_so _ _ _ same
      soliciting_reply exchange offer is_counted reply on true is (Some lease) same =
          binds_so (Soliciting exchange offer) _ _ on (takes_it (Soliciting exchange offer) is_counted reply is)
          (λ x open_one h. soliciting_awaits exchange offer h x open_one) same
      soliciting_reply exchange offer is_counted reply on false is fresh same =
          stays_so (Soliciting exchange offer) on (untaken (Soliciting exchange offer) is) same

      -- a Reply to a DECLINE
      declining_reply : (exchange : Exchange6) → OnNow (Declining exchange) → (taken : Bool) (fresh held : Option Lease6Content)
          → Final (stepped (heard_row turn (reply_answer true taken held fresh) (Declining exchange)) fresh
          (here (Declining exchange)))
      declining_reply exchange on taken fresh None same = waits_so _ _ _ same
      declining_reply exchange on taken fresh (Some lease) same =
          rests_so Bound _ _ (subst (λ (o : Option Numbered6). Answered6 site o past) (sym on) tt)
          (λ x a. untaking (a.takes true)) same

      pub reply_final : (state : State6) → counts (here state) message ≡ true → message.kind ≡ Reply → OnNow state
          → Final (answered at salt message Reply (here state))
      reply_final Off is_counted reply on same = rests_so Off _ _ tt (λ x a. untaking (a.takes true)) same
      reply_final (Waiting due) is_counted reply on same = waits_so due _ _ same
      reply_final (Soliciting exchange offer) is_counted reply on same = soliciting_reply exchange offer is_counted reply on _
          refl _ same
      reply_final (Requesting exchange) is_counted reply on same = requesting_reply exchange is_counted reply on _ refl _ same
      reply_final Bound is_counted reply on same = rests_so Bound _ _ on (λ x a. untaking (a.takes true)) same
      reply_final (Renewing exchange) is_counted reply on same = renewing_reply exchange is_counted reply on _ refl _ same
      reply_final (Rebinding exchange) is_counted reply on same = rebinding_reply exchange is_counted reply on _ refl _ same
      reply_final (Restarting exchange end since stands) is_counted reply on same = restarting_reply exchange end since stands is_counted
          reply on _ refl _ same
      reply_final (Declining exchange) is_counted reply on same =
          declining_reply exchange on (is_taken (here (Declining exchange)) message)
          (fresh_in at (here (Declining exchange)) message) kept same

      -- ---- an Advertise

      not_reply : message.kind ≡ Advertise → (number : ℕ) → NoReply site number e past
      not_reply is number opened other good same =
          let parts : IsAnswer site opened.exchange other = answer_parts site opened.exchange other good.good in
          absurd (advertises (ap (λ (m : Content6). m.kind) (sym (same_message other good.came)) ∙ is)
          (reply_is other.kind parts.reply))
        where
          advertises : {k : ServerKind6} → k ≡ Advertise → k ≡ Reply → ⊥
          advertises a r = cc

      -- a step after which a Reply may come yet
      goes_so : (step : Step6) (pleading : Option PleaContent) → message.kind ≡ Advertise → (state : State6)
          → After6 site past count current counted kept pleading None step
          → Final (stepped step None (client_with site unspent last sol_max state kept pleading))
      goes_so step pleading is state after same =
          finish6 site e past step.last (lease_server (kept_after step.keep None kept))
          (plea_server (plea_after step.state pleading)) step.state _ same after
          (λ x open_one a. not_reply is x.number)

      offered_so : (exchange : Exchange6) (offer : Option ℕ) (pleading : Option PleaContent) (serving : Bool) (preference : ℕ)
          → OnNow (Soliciting exchange offer)
          → After6 site past count current counted kept pleading None
          (solicited turn exchange offer (if serving then answer.Offer preference else answer.Nothing))
      offered_so exchange offer pleading true preference on =
          gated (λ (step : Step6). After6 site past count current counted kept pleading None step)
          (is_taken_at_once exchange preference) _ _
          (requests_anew site past count current counted kept pleading turn last_is)
          (gated (λ (step : Step6). After6 site past count current counted kept pleading None step)
          (is_better offer preference) _ _
          (record { counted = counted; last_is = last_is; on = on }) (record { counted = counted; last_is = last_is; on = on }))
      offered_so exchange offer pleading false preference on = record { counted = counted; last_is = last_is; on = on }

      rests_advertised : (state : State6) → message.kind ≡ Advertise
          → On6 site state (lease_server kept) (plea_server (plea_after state plea)) current past
          → Final (stepped (rests turn state) None (here state))
      rests_advertised state is on same =
          finish6 site e past last (lease_server kept) (plea_server (plea_after state plea)) state now same
          (record { counted = counted; last_is = last_is; on = on }) (λ x open_one a. not_reply is x.number)

      pub advertise_final : (state : State6) → message.kind ≡ Advertise → OnNow state
          → Final (answered at salt message Advertise (here state))
      advertise_final Off is on = rests_advertised Off is tt
      advertise_final (Waiting due) is on = rests_advertised (Waiting due) is tt
      advertise_final (Soliciting exchange offer) is on =
          let step : Step6 = heard_row turn (advertise_answer (here (Soliciting exchange offer)) message)
          (Soliciting exchange offer) in
          gated (λ (before : ClientContent). Final (stepped step None before))
          (is_kept_offer (advertise_answer (here (Soliciting exchange offer)) message) (Soliciting exchange offer)) _ _
          (goes_so step _ is (Soliciting exchange offer) (offered_so exchange offer _ (serves (asks_at site) message)
          message.preference on))
          (goes_so step plea is (Soliciting exchange offer) (offered_so exchange offer plea (serves (asks_at site) message)
          message.preference on))
      advertise_final (Requesting exchange) is on = rests_advertised (Requesting exchange) is on
      advertise_final Bound is on = rests_advertised Bound is on
      advertise_final (Renewing exchange) is on = rests_advertised (Renewing exchange) is on
      advertise_final (Rebinding exchange) is on = rests_advertised (Rebinding exchange) is on
      advertise_final (Restarting exchange end since stands) is on = rests_advertised (Restarting exchange end since stands) is on
      advertise_final (Declining exchange) is on = rests_advertised (Declining exchange) is on

      -- ---- any message

      pub ignored_final : (state : State6) → counts (here state) message ≡ false → OnNow state → Final (rested (here state))
      ignored_final state not on same = stays_so state on (λ t. uncounted (counts (here state) message) not t.counted) same
        where
          uncounted : (b : Bool) → b ≡ false → b ≡ true → ⊥
          uncounted b f t = cc

    -- of some kind
    pub answered_final : (at salt : ℕ) (count : ℕ) (current : Option Numbered6) (counted : Counted6 site (seen6 count current)
        past) (last_is : LastXid6 last current)
        (kind : ServerKind6) (state : State6) → message.kind ≡ kind → counts (c site message unspent last sol_max kept plea state)
        message ≡ true
        → On6 site state (lease_server kept) (plea_server plea) current past
        → Final at salt count current counted last_is
        (answered at salt message kind (c site message unspent last sol_max kept plea state))
    answered_final at salt count current counted last_is Advertise state is is_counted on = advertise_final at salt count
        current counted last_is state is on
    answered_final at salt count current counted last_is Reply state is is_counted on = reply_final at salt count current
        counted last_is state is_counted is on

  pub hears_final : (unspent : Bool) (last : Option ℕ) (sol_max : ℕ) (kept : Option Lease6Content) (plea : Option PleaContent)
      (at salt : ℕ) (count : ℕ) (current : Option Numbered6) (counted : Counted6 site (seen6 count current) past)
      (last_is : LastXid6 last current) (state : State6)
      → On6 site state (lease_server kept) (plea_server plea) current past
      → Final unspent last sol_max kept plea at salt count current counted last_is
      (hears_turned at salt message (client_with site unspent last sol_max state kept plea))
  unfolding hears_turned
  hears_final unspent last sol_max kept plea at salt count current counted last_is state on =
      by_count (counts (client_with site unspent last sol_max state kept plea) message) refl
    where
      by_count : (counting : Bool) → counts (client_with site unspent last sol_max state kept plea) message ≡ counting
          → Final unspent last sol_max kept plea at salt count current counted last_is
          (if counting then answered at salt message message.kind
          (learnt message.sol_max (client_with site unspent last sol_max state kept plea))
          else rested (client_with site unspent last sol_max state kept plea))
      by_count true is =
          answered_final unspent last (sol_max_with message.sol_max sol_max) kept plea at salt count current counted last_is
          message.kind state refl is on
      by_count false is = ignored_final unspent last sol_max kept plea at salt count current counted last_is state is on
