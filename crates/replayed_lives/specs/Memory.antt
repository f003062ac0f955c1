-- What the devices of a script hold before their first call. Of the calls those fail that the script lists.
use Rattle.std.specs.Prelude.{ℕ, false, List, [], Option, None}
use Rattle.world.specs.declared.hooking.Poll.{Poll}
use Rattle.world.specs.declared.rows.HostRow.{HostRow}
use Rattle.world.specs.RowOrder.{in_row_order}
use Rattle.world.specs.HookCalls.{HooksTold, abandoned}
use Rattle.world.specs.HostCalls.{HostTold}
use Rattle.world.specs.LinkCalls.{LinkTold}
use Rattle.world.specs.StoreCalls.{StoreTold, store_holding}
use Rattle.world_mem.specs.LinkRecord.{LinkState}
use Rattle.world_mem.specs.StoreMem.StoreRecord.{StoreState, in_name_order}
use Rattle.world.specs.FileLists.{StoreFile}
use Rattle.world_mem.specs.HookRecord.{HooksState}
use Rattle.world_mem.specs.HostRecord.{HostState}
use Rattle.script_model.specs.declared.failing.FailDevice.TheVariants.{Store, Host, Hooks}
use Rattle.script_model.specs.declared.failing.FailLine.{FailLine}
use Rattle.script_model.specs.FailingCalls.{failing_calls}
use Rattle.script_model.specs.ScriptTexts.{LifeScript}

-- what the link of a life tells at first, after so many sends in lives before it
abbrev pub link_told : LifeScript → ℕ → LinkTold
link_told life sent = record { begin = life.begin; coming = life.turns; waits = 0; sends = sent; calls = [] }

-- and which of its sends fail
abbrev pub link_of : LifeScript → ℕ → List ℕ → LinkState
link_of life sent sends = record { told = link_told life sent; begins = 0; failing_waits = []; failing_sends = sends }

-- the store's files in byte order of their names
abbrev pub first_store : List StoreFile → StoreTold
first_store files = store_holding (in_name_order files)

abbrev pub store_of : List StoreFile → List FailLine → StoreState
store_of files fails =
    record { told = first_store files; failing = record { numbers = failing_calls Store fails; from = None } }

abbrev pub first_host : List HostRow → HostTold
first_host rows = record { rows = in_row_order rows; calls = [] }

abbrev pub host_of : List HostRow → List FailLine → HostState
host_of rows fails = record { told = first_host rows; failing = failing_calls Host fails }

abbrev pub first_hooks : List (Option Poll) → HooksTold
first_hooks polls = record { polls = polls; calls = [] }

abbrev pub hooks_of : List (Option Poll) → List FailLine → HooksState
hooks_of polls fails = record { told = first_hooks polls; running = false; failing = failing_calls Hooks fails }

-- no child runs any more
abbrev pub forgotten : HooksState → HooksState
forgotten hooks = record { told = abandoned hooks.running hooks.told; running = false; failing = hooks.failing }
