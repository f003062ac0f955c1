-- The transcript of a script: its head, and its lives one after another.
use Rattle.std.specs.Prelude.{ℕ, ◌+◌, List, [], ◌∷◌, ◌++◌, length, Option, Some, None, is_some}
use Rattle.net_types.specs.declared.interface.IfSpec.{IfSpec}
use Rattle.settings.specs.declared.interfaces.Managed.{Managed}
use Rattle.world.specs.declared.hooking.Poll.{Poll}
use Rattle.world.specs.HookCalls.{HooksTold, abandoned}
use Rattle.world.specs.HostCalls.{HostTold}
use Rattle.world.specs.StoreCalls.{StoreTold}
use Rattle.world.specs.FileLists.{StoreFile}
use Rattle.world.specs.StoreFails.{StoreFails}
use Rattle.world.specs.declared.rows.HostRow.{HostRow}
use Rattle.script_model.specs.declared.failing.FailDevice.TheVariants.{Link, Host, Store, Hooks}
use Rattle.script_model.specs.declared.failing.FailLine.{FailLine}
use Rattle.script_model.specs.FailingCalls.{failing_calls}
use Rattle.script_model.specs.declared.crashing.CrashKind.{CrashKind}
use Rattle.script_model.specs.declared.crashing.CrashKind.TheVariants as kind
use Rattle.script_model.specs.Crashes.{CrashScript}
use Rattle.world_mem.specs.StoreMem.declared.crashes.Pick.{Pick}
use Rattle.world_mem.specs.StoreMem.declared.crashes.Pick.TheVariants as pick
use Rattle.world_mem.specs.StoreMem.CrashRecord.{after_crash}
use Rattle.world_mem.specs.StoreMem.Fuse.{first_stopped}
use Rattle.script_model.specs.ScriptTexts.{ScriptLines, LifeScript}
use Rattle.script_model.specs.Lines.{Line}
use Rattle.script_model.specs.Lines as lines
use Rattle.device_calls.specs.Worlds.{World}
use Rattle.turn_model.specs.Lives.{OpeningMet, Met, life_after, life_lines}
use Rattle.turn_model.specs.Foretold.{ForetoldLife, opening_of, foretold_life}
use Rattle.turn_model.specs.HostInLife.{Running, running_opened}
use Rattle.replayed_lives.specs.Memory.{link_told, first_hooks, first_host, first_store}
use Rattle.conf_text.specs.Configurations.{Configuration}
use Rattle.text_works.specs.Heads.{head_lines}
use Rattle.text_works.specs.SpelledScripts.{managed_in}

-- the calls that fail, counted over all lives
pub record Failing : Type 0 where
  pub sends : List ℕ
  pub host : List ℕ
  pub store : List ℕ
  -- starts of hooks
  pub hooks : List ℕ

abbrev pub failing_in : List FailLine → Failing
failing_in fails = record {
  sends = failing_calls Link fails;
  host = failing_calls Host fails;
  store = failing_calls Store fails;
  hooks = failing_calls Hooks fails;
}

-- ---- crashes

-- after how many calls of its store a life crashes, where its calls are cut off
abbrev pub fuse_of : Option CrashScript → Option ℕ
fuse_of None = None
fuse_of (Some crash) = crash.calls

-- the calls of the store that fail in a life, when so many were answered before it
abbrev pub store_fails : List ℕ → (answered : ℕ) → Option CrashScript → StoreFails
store_fails numbers answered crash = record { numbers = numbers; from = first_stopped answered (fuse_of crash) }

abbrev pub pick_of : CrashKind → Pick
pick_of kind.Old = pick.Old
pick_of kind.New = pick.New

-- what the next life finds of the store: without a crash the store as it is
abbrev pub store_left : Option CrashScript → StoreTold → StoreTold
store_left None told = told
store_left (Some crash) told = after_crash (pick_of crash.kind) told

-- ---- lives

-- what goes on from one life to the next: how many lives there were, how many frames were offered, the host, the store
-- and the answers of hooks
pub record Between : Type 0 where
  pub lives : ℕ
  pub sent : ℕ
  pub host : HostTold
  pub store : StoreTold
  pub hooks : HooksTold

abbrev pub at_first : List HostRow → List StoreFile → (polls : List (Option Poll)) → Between
at_first rows files polls =
    record { lives = 0; sent = 0; host = first_host rows; store = first_store files; hooks = first_hooks polls }

-- the devices of a life, as the life before left them
abbrev pub world_in : Failing → Between → LifeScript → World
world_in failing between life = record {
  link = record { told = link_told life between.sent; failing = failing.sends };
  host = record { told = between.host; failing = failing.host };
  store = record { told = between.store; failing = store_fails failing.store (length between.store.calls) life.crash };
  hooks = record { told = between.hooks; failing = failing.hooks };
}

-- the opening that the devices foretell
abbrev pub opening_in : List Managed → List IfSpec → Failing → Between → LifeScript → OpeningMet
opening_in managed specs failing between life = opening_of managed specs (world_in failing between life)

-- a life after its opening
abbrev pub opened_in : List Managed → List IfSpec → Failing → Between → LifeScript → Running
opened_in managed specs failing between life = running_opened managed specs (world_in failing between life)

-- the turns that the devices foretell
abbrev pub mets_in : List Managed → List IfSpec → Failing → Between → LifeScript → List Met
mets_in managed specs failing between life = (foretold_life managed specs (world_in failing between life)).mets

-- a child that runs at the end of a life is forgotten
abbrev pub hooks_left : ForetoldLife → HooksTold
hooks_left life = abandoned (is_some (life_after life.opening.life life.mets).hooks.child) life.left.hooks.told

-- what a life leaves to the next one
abbrev pub after_life : List Managed → List IfSpec → Failing → Between → LifeScript → Between
after_life managed specs failing between life =
    let lived = foretold_life managed specs (world_in failing between life) in
    record {
      lives = between.lives + 1;
      sent = lived.left.sent;
      host = lived.left.host.told;
      store = store_left life.crash lived.left.store.told;
      hooks = hooks_left lived;
    }

-- the life of the abstract client over these devices
unfoldable pub lines_in : List Managed → List IfSpec → Failing → Between → LifeScript → List Line
lines_in managed specs failing between life =
    life_lines (opening_in managed specs failing between life) (mets_in managed specs failing between life)

-- with its number
abbrev pub life_in : List Managed → List IfSpec → Failing → Between → LifeScript → List Line
life_in managed specs failing between life =
    lines.Life (between.lives + 1) ∷ lines_in managed specs failing between life

-- lives one after another
abbrev pub lives_lines : List Managed → List IfSpec → Failing → Between → List LifeScript → List Line
lives_lines managed specs failing between [] = []
lives_lines managed specs failing between (life ∷ lives) =
    life_in managed specs failing between life
    ++ lives_lines managed specs failing (after_life managed specs failing between life) lives

-- ---- the transcript

-- the lives with these managed interfaces; others are told of, and left alone
abbrev pub lives_of_script : List Managed → ScriptLines → List Line
lives_of_script managed script =
    lives_lines managed script.ifaces (failing_in script.fails)
    (at_first script.rows script.files script.polls) script.lives

abbrev pub transcript : ScriptLines → Configuration → List Line
transcript script conf = head_lines script conf.notices ++ lives_of_script (managed_in script conf) script
