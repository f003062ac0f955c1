-- When a client acts next.
use Rattle.std.specs.Prelude.{ℕ, min, Option, Some, None}
use Rattle.v6_items.specs.declared.scope.Dates6.{Dates6}
use Rattle.v6_client.specs.declared.states.State6.{State6}
use Rattle.v6_client.specs.declared.states.State6.TheVariants.{Off, Waiting, Soliciting, Requesting, Bound, Renewing, Rebinding, Restarting, Declining}
use Rattle.v6_items.specs.Times.{earlier}

-- its message again, T1 where it has no exchange, T2 where its own server is asked, and the end of an item
abbrev pub due_row : Dates6 → State6 → Option ℕ
due_row dates Off = None
due_row dates (Waiting due) = Some due
due_row dates (Soliciting exchange offer) = Some exchange.due
due_row dates (Requesting exchange) = Some exchange.due
due_row dates Bound = earlier dates.t1 (earlier dates.t2 dates.lapse)
due_row dates (Renewing exchange) = earlier (Some exchange.due) (earlier dates.t2 dates.lapse)
due_row dates (Rebinding exchange) = earlier (Some exchange.due) dates.lapse
due_row dates (Restarting exchange end since stands) = earlier (Some (min exchange.due end)) dates.lapse
due_row dates (Declining exchange) = earlier (Some exchange.due) dates.lapse
