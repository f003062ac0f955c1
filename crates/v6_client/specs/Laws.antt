-- What holds of a client at each call.
use Rattle.std.specs.Prelude.{◌≡◌, ◌≢◌, ℕ, ◌⊎◌, Bool, true, false, Option, Some, None, option_map, Ok}
use Rattle.std.specs.List.{list_any}
use Rattle.machine.specs.Moment.{moment_of}
use Rattle.v6_message.specs.declared.kind.ServerKind6.TheVariants.{Reply}
use Rattle.v6_message.specs.Replies.{Content6}
use Rattle.lease6_text.specs.Leases.{Lease6Content}
use Rattle.v6_client.specs.declared.client.Out6.{Out6}
use Rattle.v6_client.specs.declared.states.Carrier6.{Carrier6}
use Rattle.v6_items.specs.declared.scope.Cause6.{Cause6}
use Rattle.v6_items.specs.declared.scope.Cause6.TheVariants.{Lapse}
use Rattle.v6_items.specs.declared.scope.Scope6.TheVariants as scope
use Rattle.v6_client.specs.declared.states.Step6.{Step6}
use Rattle.v6_client.specs.Answers.{awaited, counts, is_taken, learnt}
use Rattle.v6_client.specs.Calls.{Hears, IsCarried, IsTicked, fresh_in, pruned_lease}
use Rattle.v6_client.specs.Clients.{ClientContent, holds}
use Rattle.v6_items.specs.Items.{goes_of, ias_of}
use Rattle.v6_client.specs.Moves.{IsQuiet, IsStep6, OutContent, thinned_lease}
use Rattle.v6_client.specs.Rests.{Ticks}

-- ---- what stays as it is

-- a message of another exchange, or to another client
abbrev pub IsForeign : ClientContent → Content6 → Type 0
IsForeign c message = (awaited c.last c.state ≢ Some message.xid) ⊎ (message.client ≢ Some c.settings.duid)

-- It changes nothing, and nothing is said.
abbrev pub IgnoresForeign : Type 0
IgnoresForeign = (c new : ClientContent) (message : Content6) (at salt : ℕ) (out : OutContent) → IsForeign c message
    → Hears at salt message c new out → (new ≡ c) × IsQuiet out

-- ---- what is kept was granted

-- the message is a Reply of the client's own exchange, to its DUID, that serves it and grants this lease
pub record IsGranting (at : ℕ) (message : Content6) (c : ClientContent) (lease : Lease6Content) : Type 0 where
  pub counted : counts c message ≡ true
  pub reply : message.kind ≡ Reply
  pub taken : is_taken (learnt message.sol_max c) message ≡ true
  pub grants : fresh_in at (learnt message.sol_max c) message ≡ Some lease

-- The lease that is kept when a message was heard was kept before, or the message granted it.
abbrev pub KeepsGranted : Type 0
KeepsGranted = (c new : ClientContent) (message : Content6) (at salt : ℕ) (out : OutContent) (lease : Lease6Content)
    → Hears at salt message c new out → new.kept ≡ Some lease → (c.kept ≡ Some lease) ⊎ IsGranting at message c lease

-- A step that no message brings about keeps no lease that wasn't kept.
abbrev pub BringsNothing : Type 0
BringsNothing =
    (step : Step6) (c new : ClientContent) (out : OutContent) (lease : Lease6Content) → IsStep6 step None c new out
    → new.kept ≡ Some lease → c.kept ≡ Some lease

-- a lease that was kept, whole or without the items that go
abbrev pub CameFrom : Cause6 → (kept : Option Lease6Content) → Lease6Content → Type 0
CameFrom cause kept lease = (kept ≡ Some lease) ⊎ (option_map (thinned_lease cause) kept ≡ Some lease)

-- After a tick there are no other items than before.
abbrev pub TicksBringNothing : Type 0
TicksBringNothing =
    (c new : ClientContent) (at salt : ℕ) (out : OutContent) (lease : Lease6Content) → IsTicked at salt c new out
    → new.kept ≡ Some lease → CameFrom (Lapse at) c.kept lease

-- A begin keeps what was kept, whole or as far as it is asked for and isn't over.
abbrev pub BeginsBringNothing : Type 0
BeginsBringNothing =
    (c new : ClientContent) (carrier : Carrier6) (at salt : ℕ) (out : OutContent) (lease : Lease6Content)
    → IsCarried carrier at salt c new out → new.kept ≡ Some lease
    → (c.kept ≡ Some lease) ⊎ (option_map (pruned_lease at c.settings.asks) c.kept ≡ Some lease)

-- ---- the end of items

-- some item of the kept lease is over, of an IA that is asked for
abbrev pub is_over_at : (at : ℕ) → ClientContent → Bool
is_over_at at c = list_any (goes_of (Lapse at) scope.All (ias_of c.kept)) c.settings.asks

-- After a tick no such item is held.
abbrev pub HoldsNothingOver : Type 0
HoldsNothingOver =
    (c new : ClientContent) (at salt : ℕ) (out : Out6) → Ticks c at salt new (Ok out) → holds new.state ≡ true
    → is_over_at (moment_of at) new ≡ false
