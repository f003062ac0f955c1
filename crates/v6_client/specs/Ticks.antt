-- The rows of ticks (RFC 8415, section 18.2): what a client does when its moment has come. `parting` says what is over
-- of its items.
use Rattle.std.specs.Prelude.{ℕ, Bool, true, false, max, Option, Some, None, nat_le, if◌then◌else◌}
use Rattle.machine.specs.Moment.{is_due}
use Rattle.v6_retrans.specs.declared.parameters.TheConstants.{REQUEST, RENEW, REBIND, DECLINE}
use Rattle.v6_client.specs.declared.exchange.Exchange6.{Exchange6}
use Rattle.v6_items.specs.declared.scope.Dates6.{Dates6}
use Rattle.v6_items.specs.declared.scope.Parting6.{Parting6}
use Rattle.v6_client.specs.declared.states.State6.{State6}
use Rattle.v6_client.specs.declared.states.State6.TheVariants.{Off, Waiting, Soliciting, Requesting, Bound, Renewing, Rebinding, Restarting, Declining}
use Rattle.v6_client.specs.declared.states.Step6.{Step6}
use Rattle.v6_client.specs.declared.turn.Turn6.{Turn6}
use Rattle.v6_client.specs.Exchanges.{again, is_again_due, is_used_up, solicit_parameters}
use Rattle.v6_client.specs.Steps.{rests, to_waiting, soliciting, solicits, requesting, requests, renewing, renews, rebinding, rebinds, restarting, declining, is_last, keep_by, tells_parting, emptied, unanswered, expires}

-- an Advertise is kept: REQUEST; else SOLICIT again
abbrev pub soliciting_tick : Turn6 → Exchange6 → Option ℕ → Step6
soliciting_tick turn exchange None = soliciting turn (again turn (solicit_parameters turn) exchange)
soliciting_tick turn exchange (Some preference) = requests turn

-- REQUEST again, unless it was said as often as it may be
abbrev pub requesting_tick : Turn6 → Exchange6 → Step6
requesting_tick turn exchange =
    if is_used_up REQUEST exchange then to_waiting turn else requesting turn (again turn REQUEST exchange)

-- the last item is over, then T2, then T1
abbrev pub bound_tick : Turn6 → Dates6 → Parting6 → Step6
bound_tick turn dates parting =
    if is_last parting then expires turn
    else if is_due dates.t2 turn.at then rebinds turn
    else if is_due dates.t1 turn.at then renews turn
    else rests turn Bound

-- the last item is over, then T2, then RENEW again
abbrev pub renewing_tick : Turn6 → Dates6 → Parting6 → Exchange6 → Step6
renewing_tick turn dates parting exchange =
    if is_last parting then expires turn
    else if is_due dates.t2 turn.at then rebinds turn
    else if is_again_due turn exchange then renewing turn (again turn RENEW exchange)
    else rests turn (Renewing exchange)

-- the last item is over, then REBIND again
abbrev pub rebinding_tick : Turn6 → Parting6 → Exchange6 → Step6
rebinding_tick turn parting exchange =
    if is_last parting then expires turn
    else if is_again_due turn exchange then rebinding turn (again turn REBIND exchange)
    else rests turn (Rebinding exchange)

-- the last item is over, then the end, then REBIND again
abbrev pub restarting_tick : Turn6 → Parting6 → Exchange6 → (end since : ℕ) → (stands : Bool) → Step6
restarting_tick turn parting exchange end since stands =
    if is_last parting then emptied turn stands
    else if nat_le end turn.at then unanswered turn stands
    else if is_again_due turn exchange then restarting turn (again turn REBIND exchange) end (max since turn.at) stands
    else rests turn (Restarting exchange end (max since turn.at) stands)

-- what is left is held; servers are looked for anew where nothing is
abbrev pub ended : Turn6 → Parting6 → Step6
ended turn parting = if parting.stays then rests turn Bound else expires turn

-- DECLINE again, unless it was said as often as it may be
abbrev pub declining_tick : Turn6 → Parting6 → Exchange6 → Step6
declining_tick turn parting exchange =
    if is_again_due turn exchange
    then (if is_used_up DECLINE exchange
    then ended turn parting
    else record (declining turn (again turn DECLINE exchange)) { keep = keep_by parting })
    else record (rests turn (Declining exchange)) { keep = keep_by parting }

abbrev pub tick_row : Turn6 → Dates6 → Parting6 → State6 → Step6
tick_row turn dates parting Off = rests turn Off
-- SOLICIT.
tick_row turn dates parting (Waiting due) = solicits turn
-- REQUEST for what was offered; else SOLICIT again.
tick_row turn dates parting (Soliciting exchange offer) = soliciting_tick turn exchange offer
-- REQUEST again; SOLICIT anew after the last one.
tick_row turn dates parting (Requesting exchange) = requesting_tick turn exchange
-- Items are held: T2, then T1, then the message again. Items that are over go, which is told in each such state.
tick_row turn dates parting Bound = tells_parting parting (bound_tick turn dates parting)
tick_row turn dates parting (Renewing exchange) = tells_parting parting (renewing_tick turn dates parting exchange)
tick_row turn dates parting (Rebinding exchange) = tells_parting parting (rebinding_tick turn parting exchange)
-- The kept items are asked for again until the end. Where they are held, those that are over go, which is told.
tick_row turn dates parting (Restarting exchange end since true) =
    tells_parting parting (restarting_tick turn parting exchange end since true)
tick_row turn dates parting (Restarting exchange end since false) =
    restarting_tick turn parting exchange end since false
-- DECLINE again; after the last one what is left is held.
tick_row turn dates parting (Declining exchange) = tells_parting parting (declining_tick turn parting exchange)
