-- One turn of a life: the client's step, then what it asks of the devices, part after part, and what comes of the
-- answers.
use Rattle.std.specs.Prelude.{ℕ, ◌+◌, ◌-◌, ◌^◌, Bool, true, false, max, nat_le, List, [], ◌∷◌, filter, bit_or, Option, Some, None}
use Rattle.world.specs.declared.wakes.Event.{Event}
use Rattle.world.specs.declared.wakes.Event.TheVariants.{Stop, End}
use Rattle.world.specs.declared.wakes.Wake.{Wake}
use Rattle.world.specs.declared.rows.HostRow.{HostRow}
use Rattle.world.specs.RowOrder.{in_row_order}
use Rattle.client_model.specs.IfaceSettings.declared.interfaces.Managed.{Managed}
use Rattle.client_model.specs.IfaceSettings.ManagedRows.{is_managed}
use Rattle.client_model.specs.IfaceTurns.{Turn}
use Rattle.client_model.specs.Clients.{Client, ClientStep, Sending, client_turned, client_due, earlier, rows_of}
use Rattle.machine.specs.Moment.{moment_of}
use Rattle.client_model.specs.HostModel.declared.changes.HostChange.{HostChange}
use Rattle.client_model.specs.HostModel.HostTurn.{changes, applied}
use Rattle.device_calls.specs.Calls.{Offer, ListRows, Change}
use Rattle.device_calls.specs.Programs.{Asks, Done, Then, after}
use Rattle.hook_child.specs.Supervision.{Supervision}
use Rattle.turn_model.specs.Hooking.{hooking, hooks_due, polling}
use Rattle.turn_model.specs.KeptFiles.{KeptFile, keeping, file_retry_at}

-- a life between two turns
pub record Life : Type 0 where
  pub client : Client
  -- the host's rows on managed interfaces, where they are known
  pub known : Option (List HostRow)
  -- the files that it keeps
  pub files : List KeptFile
  -- the jobs of hooks that wait, and the child that runs
  pub hooks : Supervision
  -- the moment of the last turn, in milliseconds since 1970
  pub now : ℕ
  -- the moment of the stop, once it came
  pub stop : Option ℕ
  -- the set of interfaces on which a send failed in the last turn
  pub unsent : ℕ

-- ---- moments

-- moments don't go back
abbrev pub turn_moment : Life → Wake → ℕ
turn_moment life wake = max life.now (moment_of wake.at)

-- nothing more comes
abbrev pub is_end : Event → Bool
is_end End = true
is_end event = false

-- the first stop counts
abbrev pub stop_after : Option ℕ → Event → ℕ → Option ℕ
stop_after (Some at) event now = Some at
stop_after None Stop now = Some now
stop_after None event now = None

-- an unknown table is looked at again after a second
abbrev pub retry_at : Option (List HostRow) → ℕ → Option ℕ
retry_at (Some known) now = None
retry_at None now = Some (now + 1000)

-- a life goes on for five seconds after the stop
abbrev pub end_at : Option ℕ → Option ℕ
end_at None = None
end_at (Some at) = Some (at + 5000)

-- the moment that the next wait is asked for
abbrev pub until : Life → Option ℕ
until life =
    earlier (client_due life.client.ifaces)
    (earlier (retry_at life.known life.now) (earlier (hooks_due life.hooks life.now)
    (earlier (file_retry_at life.files life.now) (end_at life.stop))))

abbrev pub is_past : Option ℕ → ℕ → Bool
is_past None now = false
is_past (Some at) now = nat_le at now

-- whether the life is over
abbrev pub is_over : Life → Bool
is_over life = is_past (end_at life.stop) life.now

-- ---- the frames, in order; a failed one stops none

-- a set of interfaces with one more
abbrev pub with_iface : ℕ → ℕ → ℕ
with_iface index set = bit_or set (2 ^ (index - 1))

abbrev pub marked : ℕ → ℕ → Bool → ℕ
marked unsent iface true = unsent
marked unsent iface false = with_iface iface unsent

abbrev pub offering : List Sending → (unsent : ℕ) → Asks ℕ
offering [] unsent = Done unsent
offering (sending ∷ sends) unsent =
    Then (Offer sending.iface.number sending.bytes) (λ taken. offering sends (marked unsent sending.iface.number taken))

-- ---- the host: a listing where its rows aren't known, then removals in the reverse of the row order, then additions
-- in row order; a failed change stops none, and makes the rows unknown

abbrev pub known_with : Bool → HostChange → Option (List HostRow) → Option (List HostRow)
known_with false change known = None
known_with true change None = None
known_with true change (Some known) = Some (applied change known)

abbrev pub changing : List HostChange → (known : Option (List HostRow)) → Asks (Option (List HostRow))
changing [] known = Done known
changing (change ∷ rest) known = Then (Change change) (λ done. changing rest (known_with done change known))

-- Rows of interfaces that aren't managed are ignored.
abbrev pub rows_on : List Managed → List HostRow → List HostRow
rows_on managed rows = in_row_order (filter (is_managed managed) rows)

-- after a listing; where it failed no more is asked
abbrev pub hosting_listed : List Managed → (wanted : List HostRow) → Option (List HostRow)
    → Asks (Option (List HostRow))
hosting_listed managed wanted None = Done None
hosting_listed managed wanted (Some rows) =
    changing (changes (rows_on managed rows) wanted) (Some (rows_on managed rows))

abbrev pub hosting : List Managed → (wanted : List HostRow) → (known : Option (List HostRow))
    → Asks (Option (List HostRow))
hosting managed wanted None = Then ListRows (hosting_listed managed wanted)
hosting managed wanted (Some known) = changing (changes known wanted) (Some known)

-- ---- the turn

-- what is known of the outside: of the host's rows, of the files, and of hooks
pub record Outlook : Type 0 where
  pub known : Option (List HostRow)
  pub files : List KeptFile
  pub hooks : Supervision

-- what a step of the client asks, by what is known of the outside, and the life then
abbrev pub acting : List Managed → Outlook → ClientStep → (moment : ℕ) → (stop : Option ℕ) → Asks Life
acting managed outlook step moment stop =
    after (offering step.sends 0) (λ unsent.
    after (hosting managed (rows_of step.client) outlook.known) (λ known.
    after (hooking moment step.jobs outlook.hooks) (λ hooks.
    after (keeping step.client.ifaces outlook.files) (λ files.
    Done
    (record {
      client = step.client;
      known = known;
      files = files;
      hooks = hooks;
      now = moment;
      stop = stop;
      unsent = unsent;
    })))))

-- the turn as the interfaces meet it
abbrev pub input_of : Life → Wake → List ℕ → Turn
input_of life wake bytes =
    record { at = turn_moment life wake; salt = wake.salt; unsent = life.unsent; event = wake.event; bytes = bytes }

abbrev pub step_of : Life → Wake → List ℕ → ClientStep
step_of life wake bytes = client_turned (input_of life wake bytes) life.client

abbrev pub outlook_with : Life → (hooks : Supervision) → Outlook
outlook_with life hooks = record { known = life.known; files = life.files; hooks = hooks }

unfoldable pub turn_asks : List Managed → Life → Wake → List ℕ → Asks Life
turn_asks managed life wake bytes =
    after (polling (turn_moment life wake) life.hooks) (λ hooks.
    acting managed (outlook_with life hooks) (step_of life wake bytes) (turn_moment life wake)
    (stop_after life.stop wake.event (turn_moment life wake)))
