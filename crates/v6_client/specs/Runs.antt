-- Each call of a client as a function: the client after it, and what it says.
use Rattle.std.specs.Prelude.{ℕ, Option, None, if◌then◌else◌}
use Rattle.machine.specs.Moment.{is_due}
use Rattle.net_types.specs.declared.address.Ip6.{Ip6}
use Rattle.v6_message.specs.declared.kind.ServerKind6.{ServerKind6}
use Rattle.v6_message.specs.declared.kind.ServerKind6.TheVariants.{Advertise, Reply}
use Rattle.v6_message.specs.Replies.{Content6}
use Rattle.lease6_text.specs.Leases.{Lease6Content}
use Rattle.v6_client.specs.declared.states.Carrier6.{Carrier6}
use Rattle.v6_items.specs.declared.scope.Cause6.TheVariants.{Lapse, Duplicate}
use Rattle.v6_client.specs.declared.states.News6.TheVariants as news
use Rattle.v6_client.specs.declared.states.Step6.{Step6}
use Rattle.v6_client.specs.declared.states.Tell6.{Tell6}
use Rattle.v6_client.specs.Answers.{advertise_answer, advertised, counts, learnt}
use Rattle.v6_client.specs.Calls.{answer_in, carried_by, carrier_step, dates_in, due_of, fresh_in, rebind_step, release_step}
use Rattle.v6_client.specs.Clients.{ClientContent, turn_of}
use Rattle.v6_client.specs.Hearing.{heard_row}
use Rattle.v6_client.specs.Inputs.{duplicate_row}
use Rattle.v6_client.specs.Moves.{OutContent, given_up, lapsed, moved, parting_at, told}
use Rattle.v6_client.specs.Ticks.{tick_row}

pub record Turned6 : Type 0 where
  pub client : ClientContent
  pub out : OutContent

-- nothing changes, and nothing is said
abbrev pub rested : ClientContent → Turned6
rested c = record { client = c; out = record { say = None; news = news.Nothing; old = None } }

-- a step of the table
abbrev pub stepped : Step6 → (fresh : Option Lease6Content) → ClientContent → Turned6
stepped step fresh c = record { client = moved step fresh c; out = told step c }

-- what is over goes, and the client goes a step, where its moment has come
unfoldable pub tick_turned : (at salt : ℕ) → ClientContent → Turned6
tick_turned at salt c =
    if is_due (due_of c) at
    then stepped (tick_row (turn_of at salt c) (dates_in c) (parting_at (Lapse at) c) c.state) None
    (lapsed at (parting_at (Lapse at) c) c)
    else rested c

-- a message that counts, after what was learnt from it
abbrev pub answered : (at salt : ℕ) → Content6 → ServerKind6 → ClientContent → Turned6
answered at salt message Advertise c =
    stepped (heard_row (turn_of at salt c) (advertise_answer c message) c.state) None
    (advertised (advertise_answer c message) message c)
answered at salt message Reply c =
    stepped (heard_row (turn_of at salt c) (answer_in at c message) c.state) (fresh_in at c message) c

-- another one changes nothing
unfoldable pub hears_turned : (at salt : ℕ) → Content6 → ClientContent → Turned6
hears_turned at salt message c =
    if counts c message then answered at salt message message.kind (learnt message.sol_max c) else rested c

unfoldable pub carrier_turned : Carrier6 → (at salt : ℕ) → ClientContent → Turned6
carrier_turned carrier at salt c = stepped (carrier_step carrier at salt c) None (carried_by carrier at c)

-- an address that another host uses goes, where it is held
unfoldable pub contested_turned : Ip6 → (at salt : ℕ) → ClientContent → Turned6
contested_turned address at salt c =
    stepped (duplicate_row (turn_of at salt c) (parting_at (Duplicate address) c) c.state) None
    (given_up address (parting_at (Duplicate address) c) c)

unfoldable pub release_turned : Tell6 → (at salt : ℕ) → ClientContent → Turned6
release_turned tell at salt c = stepped (release_step tell at salt c) None c

unfoldable pub rebind_turned : (at salt : ℕ) → ClientContent → Turned6
rebind_turned at salt c = stepped (rebind_step at salt c) None c
