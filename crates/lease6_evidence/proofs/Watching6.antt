-- Each step of the table keeps what a client carries of the exchanges shown.
use Rattle.std.proofs.Common.{◌≡◌, ℕ, ◌+◌, ◌/◌, ◌<◌, ◌^◌, ◌%◌, Bool, true, false, ◌&&◌, ◌||◌, List, [], ◌∷◌, ◌++◌, Option, Some, None, refl, sym, ap, subst, ◌∙◌, arith, append-nil, bytes_eq, leb, max}
use Rattle.std.proofs.lemmas.Bool.Decides.{nat_tests}
use Rattle.std.proofs.lemmas.List.Folds.{list_all-append}
use Rattle.std.specs.List.{list_all}
use Rattle.std.specs.Prelude.{◌==◌, if◌then◌else◌, option_map, option_to_list}
use Rattle.machine.specs.Moment.{is_due}
use Rattle.net_types.proofs.CaseLaws.{gated, split}
use Rattle.net_types.specs.declared.interface.IfIndex.{IfIndex}
use Rattle.v6_message.specs.declared.kind.Kind6.{Kind6}
use Rattle.v6_message.specs.declared.kind.Kind6.TheVariants as kind
use Rattle.v6_message.specs.Requests.{SaidContent}
use Rattle.v6_frames.specs.Spelled.{Sent6}
use Rattle.v6_retrans.specs.Retransmission.{positive_rand_of}
use Rattle.v6_retrans.specs.declared.parameters.TheConstants.{REQUEST, RENEW, REBIND, DECLINE}
use Rattle.lease6_text.specs.Leases.{Lease6Content}
use Rattle.v6_client.specs.declared.exchange.Exchange6.{Exchange6}
use Rattle.v6_client.specs.V6Items.declared.scope.Dates6.{Dates6}
use Rattle.v6_client.specs.V6Items.declared.scope.Parting6.{Parting6}
use Rattle.v6_client.specs.declared.states.State6.{State6}
use Rattle.v6_client.specs.declared.states.State6.TheVariants.{Off, Waiting, Soliciting, Requesting, Bound, Renewing, Rebinding, Restarting, Declining}
use Rattle.v6_client.specs.declared.states.Step6.{Step6}
use Rattle.v6_client.specs.declared.states.Tell6.{Tell6}
use Rattle.v6_client.specs.declared.states.Tell6.TheVariants.{Server, Nobody}
use Rattle.v6_client.specs.declared.turn.Turn6.{Turn6}
use Rattle.v6_client.specs.Answers as answers
use Rattle.v6_client.specs.Answers.{is_duid}
use Rattle.v6_client.specs.Clients.{PleaContent}
use Rattle.v6_client.specs.declared.times.TheConstants.{RESTART_TIME}
use Rattle.v6_client.specs.declared.states.News6.TheVariants as news
use Rattle.v6_client.specs.declared.states.Keep6.{Keep6}
use Rattle.v6_client.specs.declared.states.News6.{News6}
use Rattle.v6_client.specs.Clients.{scope_of}
use Rattle.v6_client.specs.Exchanges.{again, begun, is_again_due, is_used_up, new_xid, other_than, rand_in, solicit_parameters, xid_drawn}
use Rattle.v6_client.specs.Inputs.{begin_row, begins, off_row, rebind_row, release_row, released, stops}
use Rattle.v6_client.specs.Moves.{kept_after, plea_after}
use Rattle.v6_client.specs.Saying.{lease_server, plea_server, spoken_by}
use Rattle.v6_client.specs.Steps.{declining, emptied, expires, is_last, keep_by, loses, rebinding, rebinds, renewing, renews, requesting, requests, restarting, restarts, rests, soliciting, solicits, tells_parting, to_waiting, unanswered}
use Rattle.v6_client.specs.Ticks.{restarting_tick, tick_row}
use Rattle.v6_client.specs.Times.{elapsed, first_delay}
use Rattle.lease_evidence.specs.EvidenceWords.Entries.{Entry}
use Rattle.lease_evidence.specs.EvidenceWords.Inputs.{Site}
use Rattle.lease6_evidence.specs.Exchanges6.{Numbered6, Seen6, asks, asks_reply, closes6, exchange_by, goes_on, is_solicit, joined6, opens6, shows6}
use Rattle.lease6_evidence.specs.Replies6.{asks_at, is_from}
use Rattle.lease6_evidence.proofs.ExchangeStates.{Answered6, Asking6, Asks6, Counted6, Follows6, LastXid6, On6, Solicits6}
use Rattle.lease6_evidence.proofs.Steps6.{sent_from}

-- ---- servers

and_true : (b : Bool) → (b && true) ≡ b
and_true true = refl
and_true false = refl

-- one message names the server that is chosen
one_server : (chosen told : Option (List ℕ)) → is_from (option_to_list chosen) told ≡ answers.is_from chosen told
one_server None None = refl
one_server None (Some server) = and_true (is_duid server)
one_server (Some chosen) None = refl
one_server (Some chosen) (Some server) = ap (λ (b : Bool). is_duid server && b) (and_true (bytes_eq server chosen))

once_more : (d a b : Bool) → (d && a) ≡ (d && b) → (d && (a && (b && true))) ≡ (d && b)
once_more false a b h = refl
once_more true true b h = and_true b
once_more true false true h = absurd cc
once_more true false false h = refl

-- and another one
more_servers : (servers : List (List ℕ)) (chosen told : Option (List ℕ)) → is_from servers told ≡ answers.is_from chosen told
    → is_from (servers ++ option_to_list chosen) told ≡ answers.is_from chosen told
more_servers servers None told h = ap (λ (all : List (List ℕ)). is_from all told) (append-nil servers) ∙ h
more_servers servers (Some chosen) None h = refl
more_servers servers (Some chosen) (Some server) h =
    ap (λ (b : Bool). is_duid server && b) (list_all-append (λ named. bytes_eq server named) servers (chosen ∷ []))
    ∙ once_more (is_duid server) (list_all (λ named. bytes_eq server named) servers) (bytes_eq server chosen) h

-- ---- transaction ids

-- unlike that of the open exchange
abbrev pub IsFresh6 : ℕ → Option Numbered6 → Type 0
IsFresh6 xid None = Unit {0}
IsFresh6 xid (Some x) = (xid == x.exchange.xid) ≡ false

other_xid : (xid last : ℕ) → xid < 2 ^ 24 → (other_than (Some last) xid == last) ≡ false
other_xid xid last small =
    split (last == xid)
    (λ e. rw e (next xid last small e)) (λ e. rw e (unlike xid last e))
  where
    next : (xid last : ℕ) → xid < 2 ^ 24 → (last == xid) ≡ true → ((xid + 1) % 2 ^ 24 == last) ≡ false
    next xid last small e = grind (arith, nat_tests)

    unlike : (xid last : ℕ) → (last == xid) ≡ false → (xid == last) ≡ false
    unlike xid last e = grind (arith, nat_tests)

drawn_xid : (salt : ℕ) (iface : IfIndex) (last : ℕ) → (xid_drawn salt iface (Some last) == last) ≡ false
drawn_xid salt iface last = other_xid ((salt / 2 ^ 32 + iface.number) % 2 ^ 24) last (omega arith)

pub fresh_xid : (turn : Turn6) (current : Option Numbered6) → LastXid6 turn.last current → IsFresh6 (new_xid turn) current
fresh_xid turn None l = tt
fresh_xid turn (Some x) l =
    subst (λ (last : Option ℕ). (xid_drawn turn.salt turn.site.iface.index last == x.exchange.xid) ≡ false) (sym l)
    (drawn_xid turn.salt turn.site.iface.index x.exchange.xid)

equal_xid : (a b : ℕ) → a ≡ b → (a == b) ≡ true
equal_xid a b e = grind (arith, nat_tests)

-- ---- what a message shows

abbrev pub seen6 : ℕ → Option Numbered6 → Seen6
seen6 count current = record { count = count; current = current }

module _ (site : Site) (past : List Entry) where
  opens_counted : (said : SaidContent) (seen : Seen6) → Counted6 site seen past → Counted6 site (opens6 said seen.count) past
  opens_counted said seen k = record { latest = refl; above = λ n less. k.above n (omega (arith, less)) }

  closes_counted : (seen : Seen6) → Counted6 site seen past → Counted6 site (closes6 seen) past
  closes_counted seen k = record { latest = tt; above = k.above }

  asks_counted : (said : SaidContent) (count : ℕ) (current : Option Numbered6) → Counted6 site (seen6 count current) past
      → Counted6 site (asks said (seen6 count current) current) past
  asks_counted said count None k = opens_counted said (seen6 count None) k
  asks_counted said count (Some x) k =
      gated (λ (s : Seen6). Counted6 site s past) (said.xid == x.exchange.xid) (joined6 said (seen6 count (Some x)) x)
      (opens6 said count)
      (record { latest = k.latest; above = k.above }) (opens_counted said (seen6 count (Some x)) k)

  pub shows_counted : (message : Option Sent6) (seen : Seen6) → Counted6 site seen past
      → Counted6 site (shows6 message seen) past
  shows_counted None seen k = k
  shows_counted (Some sent) seen k =
      gated (λ (s : Seen6). Counted6 site s past) (asks_reply sent.said.kind sent.said.rapid) _ _
      (asks_counted sent.said seen.count seen.current k) (closes_counted seen k)

  -- a new transaction id opens an exchange
  new_exchange : (said : SaidContent) (count : ℕ) (current : Option Numbered6) → IsFresh6 said.xid current
      → asks said (seen6 count current) current ≡ opens6 said count
  new_exchange said count None fresh = refl
  new_exchange said count (Some x) fresh = rw fresh refl

  new_asks : (said : SaidContent) (seen : Seen6) → Counted6 site seen past
      → Asks6 site said.xid said.server (is_solicit said.kind)
      (record { number = seen.count + 1; exchange = exchange_by said }) past
  new_asks said seen k = record {
    same_xid = refl;
    servers = one_server said.server;
    kind = refl;
    unanswered = k.above (seen.count + 1) (omega arith);
  }

  or_same : (b : Bool) → (b || b) ≡ b
  or_same true = refl
  or_same false = refl

  -- the message again
  again_asks : (said : SaidContent) (x : Numbered6) → Asks6 site said.xid said.server (is_solicit said.kind) x past
      → Asks6 site said.xid said.server (is_solicit said.kind)
      (record { number = x.number; exchange = goes_on said x.exchange }) past
  again_asks said x a = record {
    same_xid = a.same_xid;
    servers = λ told. more_servers x.exchange.servers said.server told (a.servers told);
    kind = ap (λ (b : Bool). b || is_solicit said.kind) a.kind ∙ or_same (is_solicit said.kind);
    unanswered = a.unanswered;
  }

  again_joins : (said : SaidContent) (count : ℕ) (x : Numbered6) → x.exchange.xid ≡ said.xid
      → asks said (seen6 count (Some x)) (Some x) ≡ joined6 said (seen6 count (Some x)) x
  again_joins said count x same = rw (equal_xid said.xid x.exchange.xid (sym same)) refl

  -- an exchange with this message is open, and had no good Reply
  abbrev Says : SaidContent → Option Numbered6 → Type 0
  Says said None = ⊥
  Says said (Some x) = (said.xid ≡ x.exchange.xid) × Asks6 site said.xid said.server (is_solicit said.kind) x past

  pub asks_anew : (said : SaidContent) (count : ℕ) (current : Option Numbered6) → Counted6 site (seen6 count current) past
      → IsFresh6 said.xid current
      → Says said (asks said (seen6 count current) current).current
  asks_anew said count current k fresh =
      subst (λ (s : Seen6). Says said s.current) (sym (new_exchange said count current fresh))
      (refl, new_asks said (seen6 count current) k)

  pub asks_again : (said : SaidContent) (count : ℕ) (x : Numbered6) → Asks6 site said.xid said.server (is_solicit said.kind) x
      past
      → Says said (asks said (seen6 count (Some x)) (Some x)).current
  asks_again said count x a =
      subst (λ (s : Seen6). Says said s.current) (sym (again_joins said count x a.same_xid))
      (sym a.same_xid, again_asks said x a)

  again_says : (said : SaidContent) (count : ℕ) (current : Option Numbered6) → is_solicit said.kind ≡ false
      → Asking6 site said.xid said.server current past
      → Says said (asks said (seen6 count current) current).current
  again_says said count None plain a = absurd a
  again_says said count (Some x) plain a =
      asks_again said count x (subst (λ (b : Bool). Asks6 site said.xid said.server b x past) (sym plain) a)

  solicit_says : (said : SaidContent) (count : ℕ) (rapid : Bool) (current : Option Numbered6) → said.server ≡ None
      → is_solicit said.kind ≡ true → rapid ≡ true
      → Solicits6 site rapid said.xid current past → Says said (asks said (seen6 count current) current).current
  solicit_says said count rapid None any solicits on off = absurd cc
  solicit_says said count rapid (Some x) any solicits on h =
      asks_again said count x
      (subst (λ (server : Option (List ℕ)). Asks6 site said.xid server (is_solicit said.kind) x past) (sym any)
      (subst (λ (b : Bool). Asks6 site said.xid None b x past) (sym solicits) h.1))

-- ---- steps

module _ (site : Site) (past : List Entry) (count : ℕ) (current : Option Numbered6)
    (counted : Counted6 site (seen6 count current) past)
    (kept : Option Lease6Content) (plea : Option PleaContent) where
  abbrev now : Seen6
  now = seen6 count current

  -- the message of a step, as it stands after it
  abbrev pub said_as : Kind6 → (xid elapsed : ℕ) → State6 → SaidContent
  said_as k xid elapsed state =
      (sent_from site.managed.spec.mac site.duid (spoken_by site.managed.conf.dhcp6.rapid (scope_of state) (asks_at site) kept
      plea (record { kind = k; xid = xid; elapsed = elapsed }))).said

  -- what is carried after a step
  abbrev pub After6 : (fresh : Option Lease6Content) → Step6 → Type 0
  After6 fresh step =
      Follows6 site step.last step.state (lease_server (kept_after step.keep fresh kept))
      (plea_server (plea_after step.state plea))
      (shows6 (option_map (sent_from site.managed.spec.mac site.duid)
      (option_map (spoken_by site.managed.conf.dhcp6.rapid (scope_of step.state) (asks_at site) kept plea) step.say)) now)
      past

  -- a message that asks for a Reply
  asked_follows : (said : SaidContent) (state : State6) (leased pleaded : Option (List ℕ)) (s : Seen6) → Counted6 site s past
      → Says site past said s.current
      → ((x : Numbered6) → Asks6 site said.xid said.server (is_solicit said.kind) x past
      → On6 site state leased pleaded (Some x) past)
      → Follows6 site (Some said.xid) state leased pleaded s past
  asked_follows said state leased pleaded s k says on = by_open s.current k says
    where
      by_open : (open_one : Option Numbered6) → Counted6 site (seen6 s.count open_one) past → Says site past said open_one
          → Follows6 site (Some said.xid) state leased pleaded (seen6 s.count open_one) past
      by_open None k says = absurd says
      by_open (Some x) k says = record { counted = k; last_is = ap Some says.0; on = on x says.1 }

  asked : (said : SaidContent) (state : State6) (leased pleaded : Option (List ℕ))
      → Says site past said (asks said now current).current
      → ((x : Numbered6) → Asks6 site said.xid said.server (is_solicit said.kind) x past
      → On6 site state leased pleaded (Some x) past)
      → Follows6 site (Some said.xid) state leased pleaded (asks said now current) past
  asked said state leased pleaded says on = asked_follows said state leased pleaded (asks said now current)
      (asks_counted site past said count current counted) says on

  solicited_by : (exchange : Exchange6) (elapsed : ℕ) (leased pleaded : Option (List ℕ)) (rapid : Bool)
      → site.managed.conf.dhcp6.rapid ≡ rapid
      → (rapid ≡ true → Says site past (said_as kind.Solicit exchange.xid elapsed (Soliciting exchange None))
      (asks (said_as kind.Solicit exchange.xid elapsed (Soliciting exchange None)) now current).current)
      → Follows6 site (Some exchange.xid) (Soliciting exchange None) leased pleaded
      (if rapid then asks (said_as kind.Solicit exchange.xid elapsed (Soliciting exchange None)) now current else closes6 now)
      past
  solicited_by exchange elapsed leased pleaded true wants says =
      asked (said_as kind.Solicit exchange.xid elapsed (Soliciting exchange None)) (Soliciting exchange None) leased pleaded
      (says refl) (λ x a. (wants, a))
  solicited_by exchange elapsed leased pleaded false wants says =
      record { counted = closes_counted site past now counted; last_is = tt; on = wants }

  -- a message that asks for none
  closed : (last : Option ℕ) (state : State6) (leased pleaded : Option (List ℕ)) → On6 site state leased pleaded None past
      → Follows6 site last state leased pleaded (closes6 now) past
  closed last state leased pleaded on = record { counted = closes_counted site past now counted; last_is = tt; on = on }

  module _ (turn : Turn6) (last_is : LastXid6 turn.last current) where
    fresh : IsFresh6 (new_xid turn) current
    fresh = fresh_xid turn current last_is

    new_says : (k : Kind6) (elapsed : ℕ) (state : State6) → Says site past (said_as k (new_xid turn) elapsed state)
        (asks (said_as k (new_xid turn) elapsed state) now current).current
    new_says k elapsed state = asks_anew site past (said_as k (new_xid turn) elapsed state) count current counted fresh

    abbrev Goes : Step6 → Type 0
    Goes step = After6 None step

    stays : (state : State6) → On6 site state (lease_server kept) (plea_server (plea_after state plea)) current past
        → Goes (rests turn state)
    stays state on = record { counted = counted; last_is = last_is; on = on }

    waits : Goes (to_waiting turn)
    waits = stays (Waiting (turn.at + first_delay turn)) tt

    loses_so : Goes (loses turn)
    loses_so = record { counted = counted; last_is = last_is; on = tt }

    expires_so : Goes (expires turn)
    expires_so = record { counted = counted; last_is = last_is; on = tt }

    solicits_anew : Goes (solicits turn)
    solicits_anew =
        let exchange : Exchange6 = begun turn (solicit_parameters turn) (positive_rand_of turn.salt turn.site.iface.index) in
        solicited_by exchange (elapsed exchange.began turn.at) (lease_server kept) (plea_server plea)
        site.managed.conf.dhcp6.rapid refl
        (λ on. new_says kind.Solicit (elapsed exchange.began turn.at) (Soliciting exchange None))

    solicits_again : (exchange : Exchange6) → Solicits6 site site.managed.conf.dhcp6.rapid exchange.xid current past
        → Goes (soliciting turn (again turn (solicit_parameters turn) exchange))
    solicits_again exchange h =
        let next : Exchange6 = again turn (solicit_parameters turn) exchange in
        solicited_by next (elapsed next.began turn.at) (lease_server kept) (plea_server plea) site.managed.conf.dhcp6.rapid refl
        (λ on. solicit_says site past (said_as kind.Solicit exchange.xid (elapsed next.began turn.at) (Soliciting next None))
        count site.managed.conf.dhcp6.rapid current refl refl on h)

    requested : (exchange : Exchange6)
        → Says site past (said_as kind.Request exchange.xid (elapsed exchange.began turn.at) (Requesting exchange))
        (asks (said_as kind.Request exchange.xid (elapsed exchange.began turn.at) (Requesting exchange)) now current).current
        → Goes (requesting turn exchange)
    requested exchange says =
        asked (said_as kind.Request exchange.xid (elapsed exchange.began turn.at) (Requesting exchange)) (Requesting exchange)
        (lease_server kept) (plea_server plea)
        says (λ x a. a)

    pub requests_anew : Goes (requests turn)
    requests_anew =
        let exchange : Exchange6 = begun turn REQUEST (rand_in turn) in
        requested exchange (new_says kind.Request (elapsed exchange.began turn.at) (Requesting exchange))

    requests_again : (exchange : Exchange6) → Asking6 site exchange.xid (plea_server plea) current past
        → Goes (requesting turn (again turn REQUEST exchange))
    requests_again exchange h =
        let next : Exchange6 = again turn REQUEST exchange in
        requested next (again_says site past (said_as kind.Request exchange.xid (elapsed next.began turn.at) (Requesting next))
        count current refl h)

    renewed : (exchange : Exchange6)
        → Says site past (said_as kind.Renew exchange.xid (elapsed exchange.began turn.at) (Renewing exchange))
        (asks (said_as kind.Renew exchange.xid (elapsed exchange.began turn.at) (Renewing exchange)) now current).current
        → Goes (renewing turn exchange)
    renewed exchange says =
        asked (said_as kind.Renew exchange.xid (elapsed exchange.began turn.at) (Renewing exchange)) (Renewing exchange)
        (lease_server kept) None
        says (λ x a. a)

    renews_anew : Goes (renews turn)
    renews_anew =
        let exchange : Exchange6 = begun turn RENEW (rand_in turn) in
        renewed exchange (new_says kind.Renew (elapsed exchange.began turn.at) (Renewing exchange))

    renews_again : (exchange : Exchange6) → Asking6 site exchange.xid (lease_server kept) current past
        → Goes (renewing turn (again turn RENEW exchange))
    renews_again exchange h =
        let next : Exchange6 = again turn RENEW exchange in
        renewed next (again_says site past (said_as kind.Renew exchange.xid (elapsed next.began turn.at) (Renewing next)) count
        current refl h)

    rebound : (exchange : Exchange6)
        → Says site past (said_as kind.Rebind exchange.xid (elapsed exchange.began turn.at) (Rebinding exchange))
        (asks (said_as kind.Rebind exchange.xid (elapsed exchange.began turn.at) (Rebinding exchange)) now current).current
        → Goes (rebinding turn exchange)
    rebound exchange says =
        asked (said_as kind.Rebind exchange.xid (elapsed exchange.began turn.at) (Rebinding exchange)) (Rebinding exchange)
        (lease_server kept) None
        says (λ x a. a)

    rebinds_anew : Goes (rebinds turn)
    rebinds_anew =
        let exchange : Exchange6 = begun turn REBIND (rand_in turn) in
        rebound exchange (new_says kind.Rebind (elapsed exchange.began turn.at) (Rebinding exchange))

    rebinds_again : (exchange : Exchange6) → Asking6 site exchange.xid None current past
        → Goes (rebinding turn (again turn REBIND exchange))
    rebinds_again exchange h =
        let next : Exchange6 = again turn REBIND exchange in
        rebound next (again_says site past (said_as kind.Rebind exchange.xid (elapsed next.began turn.at) (Rebinding next))
        count current refl h)

    restarted : (exchange : Exchange6) (end since : ℕ) (stands : Bool)
        → Says site past (said_as kind.Rebind exchange.xid (elapsed exchange.began turn.at) (Restarting exchange end since stands))
        (asks (said_as kind.Rebind exchange.xid (elapsed exchange.began turn.at) (Restarting exchange end since stands)) now
        current).current
        → Goes (restarting turn exchange end since stands)
    restarted exchange end since stands says =
        asked (said_as kind.Rebind exchange.xid (elapsed exchange.began turn.at) (Restarting exchange end since stands))
        (Restarting exchange end since stands)
        (lease_server kept) None says (λ x a. a)

    -- with news or without
    restarts_anew : (stands : Bool) → Goes (restarts turn stands)
    restarts_anew stands =
        let exchange : Exchange6 = begun turn REBIND (rand_in turn) in
        restarted exchange (turn.at + RESTART_TIME) turn.at stands
        (new_says kind.Rebind (elapsed exchange.began turn.at) (Restarting exchange (turn.at + RESTART_TIME) turn.at stands))

    restarts_again : (exchange : Exchange6) (end since : ℕ) (stands : Bool) → Asking6 site exchange.xid None current past
        → Goes (restarting turn (again turn REBIND exchange) end since stands)
    restarts_again exchange end since stands h =
        let next : Exchange6 = again turn REBIND exchange in
        restarted next end since stands
        (again_says site past (said_as kind.Rebind exchange.xid (elapsed next.began turn.at) (Restarting next end since stands)) count
        current refl h)

    pub declines_so : (exchange : Exchange6) → Goes (declining turn exchange)
    declines_so exchange = closed (Some exchange.xid) (Declining exchange) (lease_server kept) (plea_server plea) refl

    -- with another fate of the kept lease
    pub declines_keeping : (exchange : Exchange6) (keep : Keep6) (news : News6)
        → Goes (record (declining turn exchange) { keep = keep; news = news })
    declines_keeping exchange keep news =
        closed (Some exchange.xid) (Declining exchange) (lease_server (kept_after keep None kept)) (plea_server plea) refl

    -- ---- ticks

    either : (b : Bool) (one other : Step6) → Goes one → Goes other → Goes (if b then one else other)
    either b one other h k = gated Goes b one other h k

    told_parting : (parting : Parting6) (step : Step6) → Goes step → Goes (tells_parting parting step)
    told_parting parting step h = gated Goes parting.goes _ _ h h

    emptied_so : (stands : Bool) → Goes (emptied turn stands)
    emptied_so stands = gated Goes stands _ _ expires_so loses_so

    -- with news or without
    unanswered_so : (stands : Bool) → Goes (unanswered turn stands)
    unanswered_so stands = record { counted = counted; last_is = last_is; on = tt }

    restarting_after : (parting : Parting6) (exchange : Exchange6) (end since : ℕ) (stands : Bool)
        → Asking6 site exchange.xid None current past → Goes (restarting_tick turn parting exchange end since stands)
    restarting_after parting exchange end since stands on =
        either (is_last parting) _ _ (emptied_so stands) (either (leb end turn.at) _ _ (unanswered_so stands)
        (either (is_again_due turn exchange) _ _ (restarts_again exchange end (max since turn.at) stands on)
        (stays (Restarting exchange end (max since turn.at) stands) on)))

    pub tick_after : (dates : Dates6) (parting : Parting6) (state : State6)
        → On6 site state (lease_server kept) (plea_server plea) current past
        → Goes (tick_row turn dates parting state)
    tick_after dates parting Off on = stays Off tt
    tick_after dates parting (Waiting due) on = solicits_anew
    tick_after dates parting (Soliciting exchange None) on = solicits_again exchange on
    tick_after dates parting (Soliciting exchange (Some preference)) on = requests_anew
    tick_after dates parting (Requesting exchange) on = either (is_used_up REQUEST exchange) _ _ waits
        (requests_again exchange on)
    tick_after dates parting Bound on =
        told_parting parting _ (either (is_last parting) _ _ expires_so (either (is_due dates.t2 turn.at) _ _ rebinds_anew
        (either (is_due dates.t1 turn.at) _ _ renews_anew (stays Bound on))))
    tick_after dates parting (Renewing exchange) on =
        told_parting parting _ (either (is_last parting) _ _ expires_so (either (is_due dates.t2 turn.at) _ _ rebinds_anew
        (either (is_again_due turn exchange) _ _ (renews_again exchange on) (stays (Renewing exchange) on))))
    tick_after dates parting (Rebinding exchange) on =
        told_parting parting _ (either (is_last parting) _ _ expires_so
        (either (is_again_due turn exchange) _ _ (rebinds_again exchange on) (stays (Rebinding exchange) on)))
    tick_after dates parting (Restarting exchange end since true) on =
        told_parting parting _ (restarting_after parting exchange end since true on)
    tick_after dates parting (Restarting exchange end since false) on = restarting_after parting exchange end since false on
    tick_after dates parting (Declining exchange) on =
        told_parting parting _ (either (is_again_due turn exchange) _ _
        (either (is_used_up DECLINE exchange) _ _
        (either parting.stays _ _ (stays Bound (subst (λ (o : Option Numbered6). Answered6 site o past) (sym on) tt))
        expires_so)
        (declines_keeping (again turn DECLINE exchange) (keep_by parting) news.Nothing))
        (declining_rests parting exchange on))
      where
        declining_rests : (parting : Parting6) (exchange : Exchange6) → current ≡ None
            → Goes (record (rests turn (Declining exchange)) { keep = keep_by parting })
        declining_rests parting exchange none = record { counted = counted; last_is = last_is; on = none }

    -- ---- the other inputs

    -- the chance to stand on the kept lease is nothing to the exchanges
    pub begins_after : (stands : Bool) (parting : Parting6) → Goes (begins turn stands parting)
    begins_after stands parting =
        gated (λ (step : Step6). Goes (record step { spends = true })) parting.stays _ _ (restarts_anew stands) waits

    pub begin_after : (stands : Bool) (parting : Parting6) (state : State6)
        → On6 site state (lease_server kept) (plea_server (plea_after state plea)) current past
        → Goes (begin_row turn stands parting state)
    begin_after stands parting Off on = begins_after stands parting
    begin_after stands parting (Waiting due) on = stays (Waiting due) on
    begin_after stands parting (Soliciting exchange offer) on = stays (Soliciting exchange offer) on
    begin_after stands parting (Requesting exchange) on = stays (Requesting exchange) on
    begin_after stands parting Bound on = stays Bound on
    begin_after stands parting (Renewing exchange) on = stays (Renewing exchange) on
    begin_after stands parting (Rebinding exchange) on = stays (Rebinding exchange) on
    begin_after stands parting (Restarting exchange end since stood) on = stays (Restarting exchange end since stood) on
    begin_after stands parting (Declining exchange) on = stays (Declining exchange) on

    pub rebind_after : (parting : Parting6) (state : State6)
        → On6 site state (lease_server kept) (plea_server (plea_after state plea)) current past
        → Goes (rebind_row turn parting state)
    rebind_after parting Off on = begins_after false parting
    rebind_after parting (Waiting due) on = stays (Waiting due) on
    rebind_after parting (Soliciting exchange offer) on = stays (Soliciting exchange offer) on
    rebind_after parting (Requesting exchange) on = stays (Requesting exchange) on
    rebind_after parting Bound on = rebinds_anew
    rebind_after parting (Renewing exchange) on = rebinds_anew
    rebind_after parting (Rebinding exchange) on = stays (Rebinding exchange) on
    rebind_after parting (Restarting exchange end since stands) on = stays (Restarting exchange end since stands) on
    rebind_after parting (Declining exchange) on = stays (Declining exchange) on

    pub off_after : Goes (off_row turn)
    off_after = stays Off tt

    stops_after : (tell : Tell6) → Goes (stops turn tell)
    stops_after Server = closed (Some (new_xid turn)) Off None (plea_server None) tt
    stops_after Nobody = record { counted = counted; last_is = last_is; on = tt }

    released_after : (tell : Tell6) (held : Bool) → Goes (released turn tell held)
    released_after tell held = either held _ _ (stops_after tell) off_after

    pub release_after : (tell : Tell6) (held : Bool) (state : State6) → Goes (release_row turn tell held state)
    release_after tell held Off = off_after
    release_after tell held (Waiting due) = off_after
    release_after tell held (Soliciting exchange offer) = off_after
    release_after tell held (Requesting exchange) = off_after
    release_after tell held Bound = released_after tell held
    release_after tell held (Renewing exchange) = released_after tell held
    release_after tell held (Rebinding exchange) = released_after tell held
    release_after tell held (Restarting exchange end since true) = released_after tell held
    release_after tell held (Restarting exchange end since false) = off_after
    release_after tell held (Declining exchange) = released_after tell held
