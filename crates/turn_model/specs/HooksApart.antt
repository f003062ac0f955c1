-- Hooks change nothing else: what they answer, and which of their starts fail, is seen in the calls of hooks alone.
use Rattle.std.specs.Prelude.{◌≡◌, ℕ, Bool, true, false, List, filter, map, Option}
use Rattle.net_types.specs.declared.interface.IfSpec.{IfSpec}
use Rattle.world.specs.declared.rows.HostRow.{HostRow}
use Rattle.world.specs.declared.wakes.Wake.{Wake}
use Rattle.world.specs.HookCalls.{HooksTold}
use Rattle.client_model.specs.IfaceSettings.declared.interfaces.Managed.{Managed}
use Rattle.client_model.specs.Clients.{Client}
use Rattle.device_calls.specs.Calls.{Call, Link, Host, Store, Hook, Dropped}
use Rattle.device_calls.specs.Worlds.{Told, World}
use Rattle.turn_model.specs.KeptFiles.{KeptFile}
use Rattle.turn_model.specs.Hooking.{hooks_due}
use Rattle.turn_model.specs.Turns.{Life, until}
use Rattle.turn_model.specs.Lives.{Met}
use Rattle.turn_model.specs.Foretold.{ForetoldLife, foretold_life}

abbrev pub is_of_others : Call → Bool
is_of_others (Link call) = true
is_of_others (Host call) = true
is_of_others (Store call) = true
is_of_others (Hook number call) = false
is_of_others (Dropped job) = false

-- the calls of the link, the host and the store
abbrev pub calls_of_others : List Call → List Call
calls_of_others calls = filter is_of_others calls

-- a life without its hooks
pub record Remainder : Type 0 where
  pub client : Client
  pub known : Option (List HostRow)
  pub files : List KeptFile
  pub now : ℕ
  pub stop : Option ℕ
  pub unsent : ℕ

abbrev pub remainder_of : Life → Remainder
remainder_of life =
    record {
      client = life.client;
      known = life.known;
      files = life.files;
      now = life.now;
      stop = life.stop;
      unsent = life.unsent;
    }

-- what a turn shows without its hooks
pub record TurnSeen : Type 0 where
  pub wake : Wake
  pub bytes : List ℕ
  pub calls : List Call
  pub life : Remainder

abbrev pub turn_seen : Met → TurnSeen
turn_seen met =
    record { wake = met.wake; bytes = met.bytes; calls = calls_of_others met.calls; life = remainder_of met.life }

-- two lives that are the same but for their hooks
pub record SameButHooks (one other : ForetoldLife) : Type 0 where
  pub opening : calls_of_others one.opening.calls ≡ calls_of_others other.opening.calls
  pub opened : remainder_of one.opening.life ≡ remainder_of other.opening.life
  pub turns : map turn_seen one.mets ≡ map turn_seen other.mets
  pub sent : one.left.sent ≡ other.left.sent
  pub host : one.left.host ≡ other.left.host
  pub store : one.left.store ≡ other.left.store

-- So are the lives of a world and of the same with other hooks.
abbrev pub HooksChangeNothing : Type 0
HooksChangeNothing = (managed : List Managed) (specs : List IfSpec) (world : World) (hooks : Told HooksTold (List ℕ))
    → SameButHooks (foretold_life managed specs world) (foretold_life managed specs (record world { hooks = hooks }))

-- The next wait of a life is asked another moment only where its hooks want a turn at another one: a child runs, or a
-- job waits.
abbrev pub WaitsByHooks : Type 0
WaitsByHooks =
    (one other : Life) → remainder_of one ≡ remainder_of other
    → hooks_due one.hooks one.now ≡ hooks_due other.hooks other.now
    → until one ≡ until other
