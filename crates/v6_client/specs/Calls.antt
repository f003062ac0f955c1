-- What each call of a client is: a step of the table.
use Rattle.std.specs.Prelude.{◌≡◌, ℕ, Bool, true, false, ◌&&◌, List, Option, Some, None, is_some, option_map, if◌then◌else◌}
use Rattle.net_types.specs.declared.address.Ip6.{Ip6}
use Rattle.v6_message.specs.declared.kind.ServerKind6.{ServerKind6}
use Rattle.v6_message.specs.declared.kind.ServerKind6.TheVariants.{Advertise, Reply}
use Rattle.v6_message.specs.Replies.{Content6}
use Rattle.lease6_text.specs.Leases.{Lease6Content}
use Rattle.v6_items.specs.declared.asks.IaAsk.{IaAsk}
use Rattle.v6_client.specs.declared.states.Answer6.{Answer6}
use Rattle.v6_client.specs.declared.states.Carrier6.{Carrier6}
use Rattle.v6_client.specs.declared.states.Carrier6.TheVariants.{Up, Down}
use Rattle.v6_items.specs.declared.scope.Cause6.TheVariants.{Lapse, Duplicate}
use Rattle.v6_items.specs.declared.scope.Dates6.{Dates6}
use Rattle.v6_items.specs.declared.scope.Parting6.{Parting6}
use Rattle.v6_items.specs.declared.scope.Scope6.TheVariants as scope
use Rattle.v6_client.specs.declared.states.Step6.{Step6}
use Rattle.v6_client.specs.declared.states.Tell6.{Tell6}
use Rattle.v6_client.specs.Answers.{advertise_answer, advertised, counts, fresh_of, is_taken, learnt, reply_answer}
use Rattle.v6_client.specs.Clients.{ClientContent, is_declining, is_off, scope_of, turn_of}
use Rattle.v6_client.specs.Due.{due_row}
use Rattle.v6_client.specs.Hearing.{heard_row}
use Rattle.v6_client.specs.Inputs.{begin_row, duplicate_row, off_row, rebind_row, release_row}
use Rattle.v6_items.specs.Items.{dates_of, ias_of, parting_of, pruned_ias}
use Rattle.v6_client.specs.Moves.{IsQuiet, IsStep6, OutContent, given_up, lapsed, lease_with, parting_at}
use Rattle.v6_client.specs.Ticks.{tick_row}

-- ---- moments

abbrev pub dates_in : ClientContent → Dates6
dates_in c = dates_of (scope_of c.state) c.kept c.settings.asks

abbrev pub due_of : ClientContent → Option ℕ
due_of c = due_row (dates_in c) c.state

-- what is over goes, and the client goes a step of the table
abbrev pub IsTicked : (at salt : ℕ) → (old new : ClientContent) → OutContent → Type 0
IsTicked at salt old new out =
    IsStep6 (tick_row (turn_of at salt old) (dates_in old) (parting_at (Lapse at) old) old.state) None
    (lapsed at (parting_at (Lapse at) old) old) new out

-- ---- messages

-- an Advertise is a step of the table, with what is asked from now on
abbrev pub Advertises : (at salt : ℕ) → Content6 → (old new : ClientContent) → OutContent → Type 0
Advertises at salt message old new out =
    IsStep6 (heard_row (turn_of at salt old) (advertise_answer old message) old.state) None
    (advertised (advertise_answer old message) message old) new out

abbrev pub fresh_in : (at : ℕ) → ClientContent → Content6 → Option Lease6Content
fresh_in at c message = fresh_of at (is_taken c message) c message

abbrev pub answer_in : (at : ℕ) → ClientContent → Content6 → Answer6
answer_in at c message = reply_answer (is_declining c.state) (is_taken c message) c.kept (fresh_in at c message)

-- a Reply is a step of the table, with the lease that it grants
abbrev pub Replies : (at salt : ℕ) → Content6 → (old new : ClientContent) → OutContent → Type 0
Replies at salt message old new out =
    IsStep6 (heard_row (turn_of at salt old) (answer_in at old message) old.state) (fresh_in at old message) old new out

abbrev pub IsAnswered : (at salt : ℕ) → Content6 → ServerKind6 → (old new : ClientContent) → OutContent → Type 0
IsAnswered at salt message Advertise old new out = Advertises at salt message old new out
IsAnswered at salt message Reply old new out = Replies at salt message old new out

-- A message that counts is learnt from, and is a step of the table. Another one changes nothing.
pub record Hears (at salt : ℕ) (message : Content6) (old new : ClientContent) (out : OutContent) : Type 0 where
  pub ignores : counts old message ≡ false → (new ≡ old) × IsQuiet out
  pub goes : counts old message ≡ true
      → IsAnswered at salt message message.kind (learnt message.sol_max old) new out

-- ---- the other inputs

-- the items of the kept lease that are valid now
abbrev pub parting_begun : (at : ℕ) → ClientContent → Parting6
parting_begun at c = parting_of (Lapse at) scope.All (ias_of c.kept) c.settings.asks

abbrev pub has_origin : Option Lease6Content → Bool
has_origin None = false
has_origin (Some lease) = is_some lease.origin

-- A client that begins for the first time stands on the lease that was read, where that is wished for, the lease tells
-- its origin, and some of its items are valid. `parting` is of these.
abbrev pub stands_by : Parting6 → ClientContent → Bool
stands_by parting c =
    is_off c.state && c.fresh && c.settings.site.flags.persistent && has_origin c.kept && parting.stays

abbrev pub stands_at : (at : ℕ) → ClientContent → Bool
stands_at at c = stands_by (parting_begun at c) c

abbrev pub pruned_lease : (at : ℕ) → List IaAsk → Lease6Content → Lease6Content
pruned_lease at asks lease = lease_with (pruned_ias at lease.ias asks) lease

-- it holds the items that it asks for again, and keeps no others
abbrev pub pruned : (at : ℕ) → (stands : Bool) → ClientContent → ClientContent
pruned at stands c = if stands then record c { kept = option_map (pruned_lease at c.settings.asks) c.kept } else c

abbrev pub carrier_step : Carrier6 → (at salt : ℕ) → ClientContent → Step6
carrier_step Up at salt c = begin_row (turn_of at salt c) (stands_at at c) (parting_begun at c) c.state
carrier_step Down at salt c = off_row (turn_of at salt c)

abbrev pub carried_by : Carrier6 → (at : ℕ) → ClientContent → ClientContent
carried_by Up at c = pruned at (stands_at at c) c
carried_by Down at c = c

-- a client that stands holds what is valid, and the client goes a step of the table
abbrev pub IsCarried : Carrier6 → (at salt : ℕ) → (old new : ClientContent) → OutContent → Type 0
IsCarried carrier at salt old new out =
    IsStep6 (carrier_step carrier at salt old) None (carried_by carrier at old) new out

-- a held address goes, and the client goes a step of the table
abbrev pub IsContested : Ip6 → (at salt : ℕ) → (old new : ClientContent) → OutContent → Type 0
IsContested address at salt old new out =
    IsStep6 (duplicate_row (turn_of at salt old) (parting_at (Duplicate address) old) old.state) None
    (given_up address (parting_at (Duplicate address) old) old) new out

abbrev pub release_step : Tell6 → (at salt : ℕ) → ClientContent → Step6
release_step tell at salt c = release_row (turn_of at salt c) tell (is_some c.kept) c.state

abbrev pub rebind_step : (at salt : ℕ) → ClientContent → Step6
rebind_step at salt c = rebind_row (turn_of at salt c) (parting_begun at c) c.state
