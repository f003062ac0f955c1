-- Which messages are waited for.
use Rattle.std.specs.Prelude.{ℕ, Bool, false, Option, Some, None}
use Rattle.std.specs.Option.{is_some}
use Rattle.v4_client.specs.declared.states.State4.{State4}
use Rattle.v4_client.specs.declared.states.State4.TheVariants.{Off, Init, Selecting, Requesting, Rebooting, Checking, Waiting, Bound, Renewing, Rebinding}
use Rattle.v4_client.specs.Messages.{Arrival}
use Rattle.v4_client.specs.Settings.{SettingsContent}
use Rattle.v4_client.specs.Answers.{answering}

-- the transaction id of the exchange whose answer is waited for
abbrev pub awaited : State4 → Option ℕ
awaited Off = None
awaited (Init due) = None
awaited (Selecting xid began secs backoff due) = Some xid
awaited (Requesting exchange secs backoff due) = Some exchange.xid
awaited (Rebooting exchange backoff end due stands) = Some exchange.xid
awaited (Checking xid terms origin acd stands) = None
awaited (Waiting due) = None
awaited (Bound xid terms acd) = None
awaited (Renewing exchange terms acd due) = Some exchange.xid
awaited (Rebinding exchange terms acd due) = Some exchange.xid

-- an answer that is waited for, by a server that is listened to: only what it must have is left to be judged
abbrev pub is_awaited_by : SettingsContent → Arrival → Option ℕ → Bool
is_awaited_by settings arrival None = false
is_awaited_by settings arrival (Some xid) = is_some (answering settings xid arrival)

abbrev pub is_awaited : SettingsContent → Arrival → State4 → Bool
is_awaited settings arrival state = is_awaited_by settings arrival (awaited state)
