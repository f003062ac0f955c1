-- What the calls say by relations is what they are as functions.
use Rattle.std.specs.Prelude.{◌≡◌, ℕ, false, Option, None, Ok}
use Rattle.machine.specs.Moment.{is_due, moment_of}
use Rattle.net_types.specs.declared.address.Ip6.{Ip6}
use Rattle.v6_message.specs.Replies.{Content6}
use Rattle.lease6_text.specs.Leases.{Lease6Content}
use Rattle.v6_client.specs.declared.client.Out6.{Out6}
use Rattle.v6_client.specs.declared.states.Carrier6.{Carrier6}
use Rattle.v6_client.specs.declared.states.Step6.{Step6}
use Rattle.v6_client.specs.declared.states.Tell6.{Tell6}
use Rattle.v6_client.specs.Calls.{Hears, IsCarried, IsContested, due_of, rebind_step, release_step}
use Rattle.v6_client.specs.Clients.{ClientContent}
use Rattle.v6_client.specs.Moves.{IsStep6, OutContent, out_content}
use Rattle.v6_client.specs.Rests.{Ticks}
use Rattle.v6_client.specs.Runs.{Turned6, carrier_turned, contested_turned, hears_turned, rebind_turned, release_turned, rested, stepped, tick_turned}

-- a client after a call, and what the call said
abbrev pub turned : ClientContent → OutContent → Turned6
turned client out = record { client = client; out = out }

abbrev pub StepsRun : Type 0
StepsRun =
    (step : Step6) (fresh : Option Lease6Content) (old new : ClientContent) (out : OutContent)
    → IsStep6 step fresh old new out
    → turned new out ≡ stepped step fresh old

-- whether it is due or not
abbrev pub TicksRun : Type 0
TicksRun = (old new : ClientContent) (at salt : ℕ) (out : Out6) → Ticks old at salt new (Ok out)
    → turned new (out_content out) ≡ tick_turned (moment_of at) salt old

abbrev pub TicksWait : Type 0
TicksWait = (c : ClientContent) (at salt : ℕ) → is_due (due_of c) at ≡ false → tick_turned at salt c ≡ rested c

abbrev pub MessagesRun : Type 0
MessagesRun =
    (old new : ClientContent) (message : Content6) (at salt : ℕ) (out : OutContent) → Hears at salt message old new out
    → turned new out ≡ hears_turned at salt message old

abbrev pub CarriersRun : Type 0
CarriersRun = (old new : ClientContent) (carrier : Carrier6) (at salt : ℕ) (out : OutContent)
    → IsCarried carrier at salt old new out → turned new out ≡ carrier_turned carrier at salt old

abbrev pub DuplicatesRun : Type 0
DuplicatesRun =
    (old new : ClientContent) (address : Ip6) (at salt : ℕ) (out : OutContent) → IsContested address at salt old new out
    → turned new out ≡ contested_turned address at salt old

abbrev pub ReleasesRun : Type 0
ReleasesRun = (old new : ClientContent) (tell : Tell6) (at salt : ℕ) (out : OutContent)
    → IsStep6 (release_step tell at salt old) None old new out → turned new out ≡ release_turned tell at salt old

abbrev pub RebindsRun : Type 0
RebindsRun =
    (old new : ClientContent) (at salt : ℕ) (out : OutContent) → IsStep6 (rebind_step at salt old) None old new out
    → turned new out ≡ rebind_turned at salt old
