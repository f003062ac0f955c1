-- The steps that the rows of the table are made of: where a client goes, and what it says on the way.
use Rattle.std.specs.Prelude.{ℕ, ◌+◌, Bool, false, not, ◌&&◌, Option, Some, None, if◌then◌else◌}
use Rattle.v6_message.specs.declared.kind.Kind6.{Kind6}
use Rattle.v6_message.specs.declared.kind.Kind6.TheVariants as kind
use Rattle.v6_retrans.specs.declared.parameters.TheConstants.{REQUEST, RENEW, REBIND, DECLINE}
use Rattle.v6_retrans.specs.Retransmission.{positive_rand_of}
use Rattle.v6_client.specs.declared.exchange.Exchange6.{Exchange6}
use Rattle.v6_client.specs.declared.states.Keep6.{Keep6}
use Rattle.v6_client.specs.declared.states.Keep6.TheVariants.{Stays, Clears, Takes}
use Rattle.v6_client.specs.declared.states.News6.{News6}
use Rattle.v6_client.specs.declared.states.News6.TheVariants as news
use Rattle.v6_items.specs.declared.scope.Parting6.{Parting6}
use Rattle.v6_client.specs.declared.states.State6.{State6}
use Rattle.v6_client.specs.declared.states.State6.TheVariants.{Waiting, Soliciting, Requesting, Bound, Renewing, Rebinding, Restarting, Declining}
use Rattle.v6_client.specs.declared.states.Step6.{Step6}
use Rattle.v6_client.specs.declared.times.TheConstants.{RESTART_TIME}
use Rattle.v6_client.specs.declared.turn.Turn6.{Turn6}
use Rattle.v6_client.specs.Exchanges.{begun, rand_in, solicit_parameters}
use Rattle.v6_client.specs.Times.{first_delay, elapsed}

-- the client stands so, and nothing is said
abbrev pub goes_to : State6 → (last : Option ℕ) → Step6
goes_to state last =
    record { state = state; last = last; keep = Stays; say = None; news = news.Nothing; spends = false }

abbrev pub rests : Turn6 → State6 → Step6
rests turn state = goes_to state turn.last

-- the message of an exchange is said
abbrev pub speaks : Turn6 → Kind6 → Exchange6 → State6 → Step6
speaks turn kind exchange state =
    record (goes_to state (Some exchange.xid)) {
      say = Some (record { kind = kind; xid = exchange.xid; elapsed = elapsed exchange.began turn.at });
    }

-- the first SOLICIT waits for the delay
abbrev pub to_waiting : Turn6 → Step6
to_waiting turn = rests turn (Waiting (turn.at + first_delay turn))

abbrev pub soliciting : Turn6 → Exchange6 → Step6
soliciting turn exchange = speaks turn kind.Solicit exchange (Soliciting exchange None)

-- SOLICIT, whose first time is above one second (RFC 8415, section 18.2.1)
abbrev pub solicits : Turn6 → Step6
solicits turn =
    soliciting turn (begun turn (solicit_parameters turn) (positive_rand_of turn.salt turn.site.iface.index))

abbrev pub requesting : Turn6 → Exchange6 → Step6
requesting turn exchange = speaks turn kind.Request exchange (Requesting exchange)

-- REQUEST
abbrev pub requests : Turn6 → Step6
requests turn = requesting turn (begun turn REQUEST (rand_in turn))

abbrev pub renewing : Turn6 → Exchange6 → Step6
renewing turn exchange = speaks turn kind.Renew exchange (Renewing exchange)

-- RENEW
abbrev pub renews : Turn6 → Step6
renews turn = renewing turn (begun turn RENEW (rand_in turn))

abbrev pub rebinding : Turn6 → Exchange6 → Step6
rebinding turn exchange = speaks turn kind.Rebind exchange (Rebinding exchange)

-- REBIND
abbrev pub rebinds : Turn6 → Step6
rebinds turn = rebinding turn (begun turn REBIND (rand_in turn))

abbrev pub restarting : Turn6 → Exchange6 → (end since : ℕ) → (stands : Bool) → Step6
restarting turn exchange end since stands = speaks turn kind.Rebind exchange (Restarting exchange end since stands)

-- REBIND for the items of the kept lease that are valid now. A client that stands holds them from now on.
abbrev pub restarts : Turn6 → (stands : Bool) → Step6
restarts turn stands =
    record (restarting turn (begun turn REBIND (rand_in turn)) (turn.at + RESTART_TIME) turn.at stands) {
      news = if stands then news.Changed else news.Nothing;
    }

abbrev pub declining : Turn6 → Exchange6 → Step6
declining turn exchange = speaks turn kind.Decline exchange (Declining exchange)

-- DECLINE
abbrev pub declines : Turn6 → Step6
declines turn = declining turn (begun turn DECLINE (rand_in turn))

-- ---- the end of items

-- the last one goes
abbrev pub is_last : Parting6 → Bool
is_last parting = parting.goes && not parting.stays

-- where the last one goes there is no kept lease any more
abbrev pub keep_by : Parting6 → Keep6
keep_by parting = if is_last parting then Clears else Stays

-- a change of the kept lease is news where there is no other
abbrev pub news_or_changed : News6 → News6
news_or_changed news.Nothing = news.Changed
news_or_changed told = told

-- where items go, a step tells it
abbrev pub tells_parting : Parting6 → Step6 → Step6
tells_parting parting step = if parting.goes then record step { news = news_or_changed step.news } else step

-- no item is left: servers are looked for anew, and none is kept
abbrev pub loses : Turn6 → Step6
loses turn = record (to_waiting turn) { keep = Clears; news = news.Changed }

-- no item is held any more
abbrev pub expires : Turn6 → Step6
expires turn = record (loses turn) { news = news.Expire }

-- no item of a restart is left
abbrev pub emptied : Turn6 → (stands : Bool) → Step6
emptied turn stands = if stands then expires turn else loses turn

-- No server answered a restart: the lease stays kept, and isn't held.
abbrev pub unanswered : Turn6 → (stands : Bool) → Step6
unanswered turn stands = record (to_waiting turn) { news = if stands then news.Expire else news.Nothing }

-- the items of a Reply are held and kept
abbrev pub binds : Turn6 → News6 → Step6
binds turn news = record (rests turn Bound) { keep = Takes; news = news }
