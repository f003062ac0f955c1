-- What devices are asked, and the calls that a question and its answer make.
use Rattle.std.specs.Prelude.{ℕ, Bool, List, [], ◌∷◌, Option}
use Rattle.world.specs.declared.rows.HostRow.{HostRow}
use Rattle.world.specs.LinkCalls.{LinkCall, Offered}
use Rattle.world.specs.HostCalls.{HostCall, Listed}
use Rattle.world.specs.StoreCalls.{StoreCall, Reading, ListedAsides, ReadFile, WroteAside, SyncedAside, RenamedAside, RemovedFile, SettledFiles}
use Rattle.world.specs.declared.hooking.Poll as said
use Rattle.world.specs.HookCalls.{HookCall, Job, Started, Polled, Abandoned}
use Rattle.host_model.specs.declared.changes.HostChange.{HostChange}
use Rattle.host_model.specs.HostTurn.{change_call}

-- a call of a device, with its answer: of hooks, with the number of the job; and a job that was dropped, of which no
-- device was told
pub data Call : Type 0 where
  Link : (call : LinkCall) → Call
  Host : (call : HostCall) → Call
  Store : (call : StoreCall) → Call
  Hook : (number : ℕ) → (call : HookCall) → Call
  Dropped : (job : Job) → Call

-- a question: to offer a frame; to list the host's rows or change one; to list asides and read a file; to write a
-- file's aside, sync it and put it in the file's place; to remove a file; to settle what was put in place or removed;
-- to start a hook's job; to poll the child of the job of a number, and to forget it; and, of no device, that a job is
-- dropped
pub data Ask : Type 0 where
  Offer : (iface : ℕ) → (frame : List ℕ) → Ask
  ListRows : Ask
  Change : (change : HostChange) → Ask
  ListAsides : Ask
  Read : (name : List ℕ) → Ask
  WriteAside : (name bytes : List ℕ) → Ask
  SyncAside : (name : List ℕ) → Ask
  RenameAside : (name : List ℕ) → Ask
  RemoveFile : (name : List ℕ) → Ask
  Settle : Ask
  Start : (job : Job) → Ask
  Poll : (number : ℕ) → Ask
  Abandon : (number : ℕ) → Ask
  Drop : (job : Job) → Ask

-- what answers a question: whether it was done, or what was found (nothing where listing, or a poll, failed)
abbrev pub AnswerTo : Ask → Type 0
AnswerTo (Offer iface frame) = Bool
AnswerTo ListRows = Option (List HostRow)
AnswerTo (Change change) = Bool
AnswerTo ListAsides = Option (List (List ℕ))
AnswerTo (Read name) = Reading
AnswerTo (WriteAside name bytes) = Bool
AnswerTo (SyncAside name) = Bool
AnswerTo (RenameAside name) = Bool
AnswerTo (RemoveFile name) = Bool
AnswerTo Settle = Bool
AnswerTo (Start job) = Bool
AnswerTo (Poll number) = Option said.Poll
AnswerTo (Abandon number) = Unit {0}
AnswerTo (Drop job) = Unit {0}

-- the call that a question and its answer make
abbrev pub made : (ask : Ask) → AnswerTo ask → Call
made (Offer iface frame) taken = Link (Offered iface frame taken)
made ListRows rows = Host (Listed rows)
made (Change change) done = Host (change_call change done)
made ListAsides names = Store (ListedAsides names)
made (Read name) reading = Store (ReadFile name reading)
made (WriteAside name bytes) done = Store (WroteAside name bytes done)
made (SyncAside name) done = Store (SyncedAside name done)
made (RenameAside name) done = Store (RenamedAside name done)
made (RemoveFile name) done = Store (RemovedFile name done)
made Settle done = Store (SettledFiles done)
made (Start job) done = Hook job.number (Started job done)
made (Poll number) answer = Hook number (Polled answer)
made (Abandon number) answer = Hook number Abandoned
made (Drop job) answer = Dropped job

-- the calls of one device
abbrev pub link_call : Call → List LinkCall
link_call (Link call) = call ∷ []
link_call other = []

abbrev pub host_call : Call → List HostCall
host_call (Host call) = call ∷ []
host_call other = []

abbrev pub store_call : Call → List StoreCall
store_call (Store call) = call ∷ []
store_call other = []

abbrev pub hook_call : Call → List HookCall
hook_call (Hook number call) = call ∷ []
hook_call other = []
