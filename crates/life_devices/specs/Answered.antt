-- What one device did at one question, in the words of the definitions.
use Rattle.std.specs.Prelude.{ℕ, ◌≡◌, Bool, true, false, not, if◌then◌else◌, List, [], ◌∷◌, map, Option, None, Some, IfSome, option_map, String}
use Rattle.std.specs.Global.{Global, Vec}
use Rattle.std.specs.String.{string_bytes}
use Rattle.world.specs.Rows.{IsRow}
use Rattle.world.specs.declared.rows.HostRow.{HostRow}
use Rattle.world.specs.RowOrder.{in_row_order}
use Rattle.world.specs.LinkCalls.{LinkTold, Offered, offered}
use Rattle.world.specs.HostCalls.{HostTold, Listed, host_answered}
use Rattle.world.specs.StoreCalls.{StoreTold, Reading, Unread, ListedAsides, ReadFile, WroteAside, SyncedAside, RenamedAside, RemovedFile, SettledFiles, reading_of, store_answered}
use Rattle.world.specs.StoreFails.{StoreFails}
use Rattle.world.specs.FileLists.{asides, file_at}
use Rattle.world.specs.declared.hooking.Poll.{Poll}
use Rattle.world.specs.declared.hooking.Poll.TheVariants.{Running, Ended}
use Rattle.world.specs.HookCalls.{HooksTold, Job, Started, Polled, Abandoned, next_answer, polled, hooks_answered}
use Rattle.host_model.specs.declared.changes.HostChange.{HostChange}
use Rattle.host_model.specs.declared.changes.HostChange.TheVariants.{Remove, Add}
use Rattle.host_model.specs.HostTurn.{change_call}
use Rattle.device_calls.specs.Worlds.{Told, told_from, fails_send, fails_host, fails_store, fails_renaming, fails_start, host_with, store_written, store_synced, store_renamed, store_without}
use Rattle.device_calls.specs.Telling.{Adds}

abbrev pub rows_in : Option (Vec HostRow) → Option (List HostRow)
rows_in rows = option_map (λ v. v.items) rows

-- the rows of a listing, in row order
abbrev pub rows_listed : Option (Vec HostRow) → Option (List HostRow)
rows_listed rows = option_map (λ v. in_row_order v.items) rows

abbrev pub names_of : Option (Vec (String Global)) → Option (List (List ℕ))
names_of names = option_map (λ v. map string_bytes v.items) names

-- only rows are added
abbrev pub FitsChange : HostChange → Type 0
FitsChange (Remove row) = Unit {0}
FitsChange (Add row) = IsRow row

-- a device tells one call more; where it tells which calls fail, its answer and what it tells then are determined
pub record By {T F C B : Type 0} (calls_in : T → List C) (call : C) (answer : B) (foretold : Told T F → B)
    (next : T → T)
    (failing : Option F) (old new : Option T) : Type 0 where
  pub adds : Adds (option_map calls_in old) (option_map calls_in new) (call ∷ [])
  pub foretold_is : IfSome (told_from old failing)
      (λ device. (answer ≡ foretold device) × (new ≡ Some (next device.told)))

abbrev pub OfferedBy : ℕ → List ℕ → Bool → Option (List ℕ) → Option LinkTold → Option LinkTold → Type 0
OfferedBy iface frame taken =
    By (λ told. told.calls) (Offered iface frame taken) taken (λ link. not (fails_send link))
    (offered iface frame taken)

abbrev pub ListedBy : Option (List HostRow) → Option (List ℕ) → Option HostTold → Option HostTold → Type 0
ListedBy rows =
    By (λ told. told.calls) (Listed rows) rows (λ host. if fails_host host then None else Some host.told.rows)
    (λ told. host_answered (Listed rows) told.rows told)

abbrev pub ChangedBy : HostChange → Bool → Option (List ℕ) → Option HostTold → Option HostTold → Type 0
ChangedBy change done =
    By (λ told. told.calls) (change_call change done) done (λ host. not (fails_host host)) (host_with change done)

abbrev pub AsidesBy : Option (List (List ℕ)) → Option StoreFails → Option StoreTold → Option StoreTold → Type 0
AsidesBy names =
    By (λ told. told.calls) (ListedAsides names) names
    (λ store. if fails_store store then None else Some (asides store.told.files))
    (λ told. store_answered (ListedAsides names) told.files told)

abbrev pub ReadBy : List ℕ → Reading → Option StoreFails → Option StoreTold → Option StoreTold → Type 0
ReadBy name reading =
    By (λ told. told.calls) (ReadFile name reading) reading
    (λ store. if fails_store store then Unread else reading_of (file_at name store.told.files))
    (λ told. store_answered (ReadFile name reading) told.files told)

abbrev pub WrittenBy : (name bytes : List ℕ) → Bool → Option StoreFails → Option StoreTold → Option StoreTold → Type 0
WrittenBy name bytes done =
    By (λ told. told.calls) (WroteAside name bytes done) done (λ store. not (fails_store store))
    (store_written name bytes done)

abbrev pub SyncedBy : List ℕ → Bool → Option StoreFails → Option StoreTold → Option StoreTold → Type 0
SyncedBy name done =
    By (λ told. told.calls) (SyncedAside name done) done (λ store. not (fails_store store)) (store_synced name done)

abbrev pub RenamedBy : List ℕ → Bool → Option StoreFails → Option StoreTold → Option StoreTold → Type 0
RenamedBy name done =
    By (λ told. told.calls) (RenamedAside name done) done (λ store. not (fails_renaming name store))
    (store_renamed name done)

abbrev pub RemovedBy : List ℕ → Bool → Option StoreFails → Option StoreTold → Option StoreTold → Type 0
RemovedBy name done =
    By (λ told. told.calls) (RemovedFile name done) done (λ store. not (fails_store store)) (store_without name done)

abbrev pub SettledBy : Bool → Option StoreFails → Option StoreTold → Option StoreTold → Type 0
SettledBy done =
    By (λ told. told.calls) (SettledFiles done) done (λ store. not (fails_store store))
    (λ told. store_answered (SettledFiles done) told.files told)

abbrev pub StartedBy : Job → Bool → Option (List ℕ) → Option HooksTold → Option HooksTold → Type 0
StartedBy job done =
    By (λ told. told.calls) (Started job done) done (λ hooks. not (fails_start hooks))
    (hooks_answered (Started job done))

abbrev pub PolledBy : Option Poll → Option (List ℕ) → Option HooksTold → Option HooksTold → Type 0
PolledBy answer = By (λ told. told.calls) (Polled answer) answer (λ hooks. next_answer hooks.told.polls) polled

abbrev pub AbandonedBy : Option (List ℕ) → Option HooksTold → Option HooksTold → Type 0
AbandonedBy = By {B = Unit {0}} (λ told. told.calls) Abandoned tt (λ hooks. tt) (hooks_answered Abandoned)

-- whether the child runs on after a poll; one that failed says no other
abbrev pub runs_on : Option Poll → Bool
runs_on None = true
runs_on (Some Running) = true
runs_on (Some (Ended status)) = false
