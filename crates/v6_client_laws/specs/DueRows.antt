-- At which moments a row of the table of ticks fits (RFC 8415, section 18.2), apart from when the client asks to be
-- woken.
use Rattle.std.specs.Prelude.{◌≡◌, ℕ, ◌≤◌, ◌⊎◌, true, false, List, max, Option, Some, None}
use Rattle.std.specs.List.{Contains}
use Rattle.machine.specs.Moment.{is_due}
use Rattle.lease6_text.specs.declared.lease.Item6.{Item6}
use Rattle.lease6_text.specs.Leases.{Lease6Content}
use Rattle.v6_items.specs.declared.asks.IaAsk.{IaAsk}
use Rattle.v6_items.specs.declared.scope.Cause6.TheVariants.{Lapse}
use Rattle.v6_client.specs.declared.states.Keep6.TheVariants.{Stays}
use Rattle.v6_client.specs.declared.states.News6.TheVariants as news
use Rattle.v6_items.specs.declared.scope.Scope6.{Scope6}
use Rattle.v6_items.specs.declared.scope.Scope6.TheVariants as scope
use Rattle.v6_client.specs.declared.states.State6.{State6}
use Rattle.v6_client.specs.declared.states.State6.TheVariants.{Off, Waiting, Soliciting, Requesting, Bound, Renewing, Rebinding, Restarting, Declining}
use Rattle.v6_client.specs.declared.states.Step6.{Step6}
use Rattle.v6_client.specs.Calls.{dates_in, due_of}
use Rattle.v6_client.specs.Clients.{ClientContent, turn_of}
use Rattle.v6_items.specs.Items.{asked_at, ias_of}
use Rattle.v6_client.specs.Moves.{lapsed, parting_at}
use Rattle.v6_items.specs.Taking.{t1_of, t2_of}
use Rattle.v6_client.specs.Ticks.{tick_row}
use Rattle.v6_client_laws.specs.Least.{LeastOf}

-- a moment that may be told has come
abbrev pub HasCome : (told : Option ℕ) → (at : ℕ) → Type 0
HasCome None at = ⊥
HasCome (Some moment) at = moment ≤ at

-- which items are the client's own: all, or those whose valid lifetime wasn't over at a moment
abbrev pub IsOwn : Scope6 → Item6 → Type 0
IsOwn scope.Nothing item = ⊥
IsOwn scope.All item = Unit {0}
IsOwn (scope.Since since) item = HasCome item.valid since → ⊥

-- the valid lifetime of such an item is over, of an IA that is asked for
pub record IsOver (kept : Option Lease6Content) (asks : List IaAsk) (scope : Scope6) (at : ℕ) : Type 0 where
  pub ask : IaAsk
  pub asked : Contains asks ask
  pub item : Item6
  pub among : Contains (asked_at ask (ias_of kept)) item
  pub own : IsOwn scope item
  pub over : HasCome item.valid at

-- the message of a restart; its end; the end of an item that is the client's own
abbrev pub RestartFits : Option Lease6Content → List IaAsk → Scope6 → (due end at : ℕ) → Type 0
RestartFits kept asks scope due end at = (due ≤ at) ⊎ ((end ≤ at) ⊎ IsOver kept asks scope at)

-- The first SOLICIT; the message of an exchange, or what comes after it; T1; T2; the end of an item; the end of the
-- attempt to have the kept items again.
abbrev pub RowFits : Option Lease6Content → List IaAsk → State6 → (at : ℕ) → Type 0
RowFits kept asks Off at = ⊥
RowFits kept asks (Waiting due) at = due ≤ at
RowFits kept asks (Soliciting exchange offer) at = exchange.due ≤ at
RowFits kept asks (Requesting exchange) at = exchange.due ≤ at
RowFits kept asks Bound at = HasCome (t1_of kept) at ⊎ (HasCome (t2_of kept) at ⊎ IsOver kept asks scope.All at)
RowFits kept asks (Renewing exchange) at =
    (exchange.due ≤ at) ⊎ (HasCome (t2_of kept) at ⊎ IsOver kept asks scope.All at)
RowFits kept asks (Rebinding exchange) at = (exchange.due ≤ at) ⊎ IsOver kept asks scope.All at
RowFits kept asks (Restarting exchange end since true) at = RestartFits kept asks scope.All exchange.due end at
RowFits kept asks (Restarting exchange end since false) at =
    RestartFits kept asks (scope.Since since) exchange.due end at
RowFits kept asks (Declining exchange) at = (exchange.due ≤ at) ⊎ IsOver kept asks scope.All at

abbrev pub FitsAt : ClientContent → (at : ℕ) → Type 0
FitsAt c at = RowFits c.kept c.settings.asks c.state at

-- The client asks to be woken at the first moment at which a row fits.
abbrev pub WakesInTime : Type 0
WakesInTime = (c : ClientContent) → LeastOf (FitsAt c) (due_of c)

-- ---- the table where no row fits

-- the items that were valid until now are asked for on
abbrev pub state_later : (at : ℕ) → State6 → State6
state_later at Off = Off
state_later at (Waiting due) = Waiting due
state_later at (Soliciting exchange offer) = Soliciting exchange offer
state_later at (Requesting exchange) = Requesting exchange
state_later at Bound = Bound
state_later at (Renewing exchange) = Renewing exchange
state_later at (Rebinding exchange) = Rebinding exchange
state_later at (Restarting exchange end since stands) = Restarting exchange end (max since at) stands
state_later at (Declining exchange) = Declining exchange

abbrev pub tick_step : (at salt : ℕ) → ClientContent → Step6
tick_step at salt c = tick_row (turn_of at salt c) (dates_in c) (parting_at (Lapse at) c) c.state

-- nothing is said, no item goes, and the client stands where it stood
pub record Rests (at salt : ℕ) (c : ClientContent) : Type 0 where
  pub state : (tick_step at salt c).state ≡ state_later at c.state
  pub last : (tick_step at salt c).last ≡ c.last
  pub keep : (tick_step at salt c).keep ≡ Stays
  pub say : (tick_step at salt c).say ≡ None
  pub news : (tick_step at salt c).news ≡ news.Nothing
  pub items : lapsed at (parting_at (Lapse at) c) c ≡ c

-- where the client waits for more than one thing the table itself looks at the moment; elsewhere a tick comes when it
-- is due alone
abbrev pub LooksAtMoments : State6 → Type 0
LooksAtMoments Off = Unit {0}
LooksAtMoments (Waiting due) = ⊥
LooksAtMoments (Soliciting exchange offer) = ⊥
LooksAtMoments (Requesting exchange) = ⊥
LooksAtMoments Bound = Unit {0}
LooksAtMoments (Renewing exchange) = Unit {0}
LooksAtMoments (Rebinding exchange) = Unit {0}
LooksAtMoments (Restarting exchange end since stands) = Unit {0}
LooksAtMoments (Declining exchange) = Unit {0}

abbrev pub RestsElsewhere : Type 0
RestsElsewhere = (c : ClientContent) (at salt : ℕ) → LooksAtMoments c.state → (FitsAt c at → ⊥) → Rests at salt c

-- So no row of the table fits before the client's moment.
abbrev pub RestsBefore : Type 0
RestsBefore =
    (c : ClientContent) (at salt : ℕ) → LooksAtMoments c.state → is_due (due_of c) at ≡ false → Rests at salt c
