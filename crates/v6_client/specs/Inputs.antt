-- The rows of the other inputs: the carrier, an address that another host uses, and the host's own wishes.
use Rattle.std.specs.Prelude.{Bool, true, false, Some, if◌then◌else◌}
use Rattle.v6_message.specs.declared.kind.Kind6.TheVariants as kind
use Rattle.v6_client.specs.declared.states.Keep6.TheVariants.{Clears}
use Rattle.v6_client.specs.declared.states.News6.TheVariants as news
use Rattle.v6_items.specs.declared.scope.Parting6.{Parting6}
use Rattle.v6_client.specs.declared.states.State6.{State6}
use Rattle.v6_client.specs.declared.states.State6.TheVariants.{Off, Waiting, Soliciting, Requesting, Bound, Renewing, Rebinding, Restarting, Declining}
use Rattle.v6_client.specs.declared.states.Step6.{Step6}
use Rattle.v6_client.specs.declared.states.Tell6.{Tell6}
use Rattle.v6_client.specs.declared.states.Tell6.TheVariants.{Server, Nobody}
use Rattle.v6_client.specs.declared.turn.Turn6.{Turn6}
use Rattle.v6_client.specs.Exchanges.{new_xid}
use Rattle.v6_client.specs.Steps.{goes_to, rests, to_waiting, rebinds, restarts, declines, is_last, keep_by, tells_parting, expires}

-- The begin: where an item of the kept lease is still valid, REBIND for all such items (RFC 8415, section 18.2.12).
-- `parting` is of these items, and `stands` says whether they are held meanwhile. No later begin lets the client stand.
abbrev pub begins : Turn6 → (stands : Bool) → Parting6 → Step6
begins turn stands parting = record (if parting.stays then restarts turn stands else to_waiting turn) { spends = true }

-- The carrier comes: a client that is off begins.
abbrev pub begin_row : Turn6 → (stands : Bool) → Parting6 → State6 → Step6
begin_row turn stands parting Off = begins turn stands parting
begin_row turn stands parting (Waiting due) = rests turn (Waiting due)
begin_row turn stands parting (Soliciting exchange offer) = rests turn (Soliciting exchange offer)
begin_row turn stands parting (Requesting exchange) = rests turn (Requesting exchange)
begin_row turn stands parting Bound = rests turn Bound
begin_row turn stands parting (Renewing exchange) = rests turn (Renewing exchange)
begin_row turn stands parting (Rebinding exchange) = rests turn (Rebinding exchange)
begin_row turn stands parting (Restarting exchange end since stood) = rests turn (Restarting exchange end since stood)
begin_row turn stands parting (Declining exchange) = rests turn (Declining exchange)

-- the client is off, and doesn't stand on its lease when it begins again
abbrev pub turns_off : Turn6 → Step6
turns_off turn = record (rests turn Off) { spends = true }

-- The carrier goes: the client is off, and the kept lease stays kept.
abbrev pub off_row : Turn6 → Step6
off_row turn = turns_off turn

-- Another host uses a held address: DECLINE, in a new exchange.
abbrev pub contested : Turn6 → Parting6 → State6 → Step6
contested turn parting state =
    if parting.goes then record (declines turn) { keep = keep_by parting; news = news.Changed } else rests turn state

-- Another host uses an address of a restart whose items are held: it isn't asked for again.
abbrev pub missed : Turn6 → Parting6 → State6 → Step6
missed turn parting state = tells_parting parting (if is_last parting then expires turn else rests turn state)

abbrev pub duplicate_row : Turn6 → Parting6 → State6 → Step6
duplicate_row turn parting Off = rests turn Off
duplicate_row turn parting (Waiting due) = rests turn (Waiting due)
duplicate_row turn parting (Soliciting exchange offer) = rests turn (Soliciting exchange offer)
duplicate_row turn parting (Requesting exchange) = rests turn (Requesting exchange)
duplicate_row turn parting Bound = contested turn parting Bound
duplicate_row turn parting (Renewing exchange) = contested turn parting (Renewing exchange)
duplicate_row turn parting (Rebinding exchange) = contested turn parting (Rebinding exchange)
duplicate_row turn parting (Restarting exchange end since true) =
    missed turn parting (Restarting exchange end since true)
duplicate_row turn parting (Restarting exchange end since false) = rests turn (Restarting exchange end since false)
duplicate_row turn parting (Declining exchange) = contested turn parting (Declining exchange)

-- The items aren't held any more. The server is told by a RELEASE with a new transaction id, and then none is kept.
abbrev pub stops : Turn6 → Tell6 → Step6
stops turn Server =
    record (goes_to Off (Some (new_xid turn))) {
      keep = Clears;
      say = Some (record { kind = kind.Release; xid = new_xid turn; elapsed = 0 });
      news = news.Stop;
      spends = true;
    }
stops turn Nobody = record (turns_off turn) { news = news.Stop }

abbrev pub released : Turn6 → Tell6 → (held : Bool) → Step6
released turn tell held = if held then stops turn tell else turns_off turn

-- The client stops. Where no item is held nothing is said, and the kept lease stays kept.
abbrev pub release_row : Turn6 → Tell6 → (held : Bool) → State6 → Step6
release_row turn tell held Off = turns_off turn
release_row turn tell held (Waiting due) = turns_off turn
release_row turn tell held (Soliciting exchange offer) = turns_off turn
release_row turn tell held (Requesting exchange) = turns_off turn
release_row turn tell held Bound = released turn tell held
release_row turn tell held (Renewing exchange) = released turn tell held
release_row turn tell held (Rebinding exchange) = released turn tell held
release_row turn tell held (Restarting exchange end since true) = released turn tell held
release_row turn tell held (Restarting exchange end since false) = turns_off turn
release_row turn tell held (Declining exchange) = released turn tell held

-- Items in Bound or Renewing are rebound at once, and a client that is off begins, without a lease to stand on.
abbrev pub rebind_row : Turn6 → Parting6 → State6 → Step6
rebind_row turn parting Off = begins turn false parting
rebind_row turn parting (Waiting due) = rests turn (Waiting due)
rebind_row turn parting (Soliciting exchange offer) = rests turn (Soliciting exchange offer)
rebind_row turn parting (Requesting exchange) = rests turn (Requesting exchange)
rebind_row turn parting Bound = rebinds turn
rebind_row turn parting (Renewing exchange) = rebinds turn
rebind_row turn parting (Rebinding exchange) = rests turn (Rebinding exchange)
rebind_row turn parting (Restarting exchange end since stands) = rests turn (Restarting exchange end since stands)
rebind_row turn parting (Declining exchange) = rests turn (Declining exchange)
