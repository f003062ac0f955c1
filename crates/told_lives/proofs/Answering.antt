-- Questions within their bounds, put to devices within theirs: the lines of each call stand in a transcript, and the devices stay so.
use Rattle.std.proofs.Common.{◌≡◌, ℕ, Bool, true, if◌then◌else◌, List, [], ◌∷◌, ◌++◌, map, flat_map, drop, Option, Some, None, refl, ap, arith}
use Rattle.std.specs.Prelude.{IfSome, IsTrue}
use Rattle.std.specs.List.{AllByRecursion, list_all}
use Rattle.std.proofs.lemmas.Bool.{and_from, le-leb}
use Rattle.net_types.specs.NameText.{is_name}
use Rattle.net_types.proofs.AllLaws.{all_join}
use Rattle.net_types.proofs.CaseLaws.{gated}
use Rattle.world.specs.declared.hooking.Poll.{Poll as Polled}
use Rattle.world.specs.declared.rows.HostRow.{HostRow}
use Rattle.world.specs.FileLists.{StoreFile, asides, drop_file, file_at, put_file, rename_file}
use Rattle.world.specs.FileNames.{aside_of, is_file_byte}
use Rattle.world.specs.HookCalls.{Job, Variable, next_answer}
use Rattle.world.specs.HostCalls.{HostTold}
use Rattle.world.specs.Rows.{IsInterface}
use Rattle.world.specs.StoreCalls.{Unread, StoreCall, StoreTold, ListedAsides, ReadFile, WroteAside, SyncedAside, RenamedAside, RemovedFile, SettledFiles, reading_of, store_answered}
use Rattle.script_model.specs.Lines.{Line}
use Rattle.script_model.specs.Lines as model
use Rattle.host_model.specs.declared.changes.HostChange.{HostChange}
use Rattle.host_model.specs.declared.changes.HostChange.TheVariants.{Remove, Add}
use Rattle.host_model.specs.HostTable.{InRowOrder}
use Rattle.host_model.specs.HostTurn.{applied}
use Rattle.host_model.proofs.HostTableRows.{with_in_order, without_in_order}
use Rattle.device_calls.specs.CallLines.{interface_of, lines_of, variable_line}
use Rattle.device_calls.specs.Calls.{Ask, AnswerTo, Call, Offer, ListRows, Change, ListAsides, Read, WriteAside, SyncAside, RenameAside, RemoveFile, Settle, Start, Poll, Abandon, Drop, made}
use Rattle.device_calls.specs.Programs.{Asks, Done, Then, after}
use Rattle.device_calls.specs.Worlds.{Ran, World, answer_to, fails_host, fails_store, run, world_with}
use Rattle.transcript_lines.specs.Bounds.{FitsTold}
use Rattle.transcript_lines.specs.Names.{is_word}
use Rattle.transcript_lines.specs.Roles.{role_of}
use Rattle.transcript_model.specs.LifeShapes.{AllFollow, follows}
use Rattle.transcript_text.specs.Fits.{FitsPoll, FitsReading, IsWord}
use Rattle.typed_lines.specs.TypedLines.{AreTyped}
use Rattle.typed_lines.proofs.TypedParts.{typed_parts}
use Rattle.told_lives.specs.FittingWorlds.{FitsHost, FitsStore, FitsWorld, IsStoredName}
use Rattle.told_lives.proofs.FittingLists.{AreRows, AreStored, FitsChange, HasOctets, IsHeld, NamesFit, applied_fits, aside_named, asides_named, drop_stored, file_octets, put_stored, rename_stored, undo_fits}
use Rattle.told_lives.proofs.StandingLines.{FitsBut, IsOther, Stand, listing_stands, other_stands, stand_both, stand_none}

-- ---- what is asked

-- a variable is one of a transcript
abbrev pub IsToldVariable : Variable → Type 0
IsToldVariable variable = FitsTold (variable_line variable)

-- a job, numbered or not
pub record FitsJob (job : Job) : Type 0 where
  pub name : IsTrue (is_name (interface_of job))
  pub vars : AllByRecursion IsToldVariable job.vars

-- one that has its number
pub record FitsNumbered (job : Job) : Type 0 where
  pub number : IsWord job.number
  pub fits : FitsJob job

abbrev pub FitsAsk : Ask → Type 0
FitsAsk (Offer iface frame) = IsInterface iface
FitsAsk ListRows = Unit {0}
FitsAsk (Change change) = IsHeld change
FitsAsk ListAsides = Unit {0}
FitsAsk (Read name) = IsStoredName name
FitsAsk (WriteAside name bytes) = IsStoredName name
FitsAsk (SyncAside name) = IsStoredName name
FitsAsk (RenameAside name) = IsStoredName name
FitsAsk (RemoveFile name) = IsStoredName name
FitsAsk Settle = Unit {0}
FitsAsk (Start job) = FitsNumbered job
FitsAsk (Poll number) = IsWord number
FitsAsk (Abandon number) = IsWord number
FitsAsk (Drop job) = FitsNumbered job

-- ---- what is answered

pub record FitsListed (rows : List HostRow) : Type 0 where
  pub are : AreRows rows
  pub order : InRowOrder rows

abbrev pub FitsAnswer : (ask : Ask) → AnswerTo ask → Type 0
FitsAnswer (Offer iface frame) taken = Unit {0}
FitsAnswer ListRows rows = IfSome rows FitsListed
FitsAnswer (Change change) done = Unit {0}
FitsAnswer ListAsides names = IfSome names (AllByRecursion IsStoredName)
FitsAnswer (Read name) reading = FitsReading reading
FitsAnswer (WriteAside name bytes) done = Unit {0}
FitsAnswer (SyncAside name) done = Unit {0}
FitsAnswer (RenameAside name) done = Unit {0}
FitsAnswer (RemoveFile name) done = Unit {0}
FitsAnswer Settle done = Unit {0}
FitsAnswer (Start job) done = Unit {0}
FitsAnswer (Poll number) answer = FitsPoll answer
FitsAnswer (Abandon number) answer = Unit {0}
FitsAnswer (Drop job) answer = Unit {0}

-- ---- the lines of a call

pub record FitLines (lines : List Line) : Type 0 where
  pub stand : Stand lines []
  pub follow : AllFollow lines

pub lines_both : (a b : List Line) → FitLines a → FitLines b → FitLines (a ++ b)
lines_both a b one two = record {
  stand = stand_both a b [] [] one.stand two.stand;
  follow = all_join (λ line. follows (role_of line) ≡ true) a b one.follow two.follow;
}

pub plain_line : (line : Line) → IsOther line → FitsBut line → FitLines (line ∷ [])
plain_line line other fits = record { stand = other_stands line other fits; follow = (ap follows other, tt) }

rows_follow : (rows : List HostRow) → AllFollow (map model.Row rows)
rows_follow [] = tt
rows_follow (row ∷ rows) = (refl, rows_follow rows)

variables_fit : (vars : List Variable) → AllByRecursion IsToldVariable vars → FitLines (map variable_line vars)
variables_fit [] fits = record { stand = stand_none; follow = tt }
variables_fit (v ∷ vars) fits =
    lines_both (variable_line v ∷ []) (map variable_line vars) (plain_line (variable_line v) refl fits.0) (variables_fit vars fits.1)

abbrev pub FitsCall : Call → Type 0
FitsCall call = FitLines (lines_of call)

words_true : (names : List (List ℕ)) → AllByRecursion IsStoredName names → list_all is_word names ≡ true
words_true [] named = refl
words_true (name ∷ names) named = and_from _ _ (le-leb 1 _ named.0.some) (words_true names named.1)

files_true : (names : List (List ℕ)) → AllByRecursion IsStoredName names
    → AllByRecursion (λ name. IsTrue (list_all is_file_byte name)) names
files_true [] named = tt
files_true (name ∷ names) named = (named.0.bytes, files_true names named.1)

pub call_fits : (ask : Ask) (answer : AnswerTo ask) → FitsAsk ask → FitsAnswer ask answer → AreTyped (lines_of (made ask answer)) → FitsCall (made ask answer)
call_fits (Offer iface frame) taken asked told typed =
    let high = asked.1 in
    plain_line (model.Send (record { number = iface }) frame taken) refl
    (record { fits = (omega (arith, high), typed.0); told = and_from _ _ (le-leb 1 iface asked.0) (le-leb iface 64 high) })
call_fits ListRows None asked told typed = plain_line model.HostListFailed refl (record { fits = tt; told = refl })
call_fits ListRows (Some rows) asked told typed = record { stand = listing_stands rows told.are told.order; follow = (refl, rows_follow rows) }
call_fits (Change (Remove row)) done asked told typed = plain_line (model.HostDel row done) refl (record { fits = asked; told = refl })
call_fits (Change (Add row)) done asked told typed = plain_line (model.HostAdd row done) refl (record { fits = typed.0; told = refl })
call_fits ListAsides None asked told typed = plain_line model.AsidesFailed refl (record { fits = tt; told = refl })
call_fits ListAsides (Some names) asked told typed =
    plain_line (model.Asides names) refl (record { fits = files_true names told; told = words_true names told })
call_fits (Read name) reading asked told typed =
    plain_line (model.Read name reading) refl (record { fits = (asked.bytes, told); told = le-leb 1 _ asked.some })
call_fits (WriteAside name bytes) done asked told typed =
    plain_line (model.Wrote name bytes done) refl (record { fits = (asked.bytes, typed.0); told = le-leb 1 _ asked.some })
call_fits (SyncAside name) done asked told typed = plain_line (model.Synced name done) refl (record { fits = asked.bytes; told = le-leb 1 _ asked.some })
call_fits (RenameAside name) done asked told typed =
    plain_line (model.Renamed name done) refl (record { fits = asked.bytes; told = le-leb 1 _ asked.some })
call_fits (RemoveFile name) done asked told typed =
    plain_line (model.Removed name done) refl (record { fits = asked.bytes; told = le-leb 1 _ asked.some })
call_fits Settle done asked told typed = plain_line (model.Settled done) refl (record { fits = tt; told = refl })
call_fits (Start job) done asked told typed =
    lines_both (model.HookStarted job.number job.reason (interface_of job) done ∷ []) (map variable_line job.vars)
    (plain_line (model.HookStarted job.number job.reason (interface_of job) done) refl (record { fits = (asked.number, asked.fits.name); told = refl }))
    (variables_fit job.vars asked.fits.vars)
call_fits (Poll number) answer asked told typed = plain_line (model.HookPolled number answer) refl (record { fits = (asked, told); told = refl })
call_fits (Abandon number) answer asked told typed = plain_line (model.HookAbandoned number) refl (record { fits = asked; told = refl })
call_fits (Drop job) answer asked told typed =
    plain_line (model.HookDropped job.number job.reason (interface_of job)) refl (record { fits = (asked.number, asked.fits.name); told = refl })

-- the row of a change is one that a host can hold
pub changed_row : (change : HostChange) (done : Bool) → IsHeld change → AreTyped (lines_of (made (Change change) done)) → FitsChange change
changed_row (Remove row) done held typed = held
changed_row (Add row) done held typed = typed.0

pub calls_fit : (calls : List Call) → AllByRecursion FitsCall calls → FitLines (flat_map lines_of calls)
calls_fit [] fits = record { stand = stand_none; follow = tt }
calls_fit (call ∷ calls) fits = lines_both (lines_of call) (flat_map lines_of calls) fits.0 (calls_fit calls fits.1)

-- ---- one question

-- what a question and its answer make of devices that fit
record Answered (ask : Ask) (world : World) : Type 0 where
  answer : FitsAnswer ask (answer_to ask world)
  left : FitsWorld (world_with ask (answer_to ask world) world)

-- the same but for one device
with_host_fit : (world : World) (told : HostTold) → FitsWorld world → FitsHost told
    → FitsWorld (record world { host = record world.host { told = told } })
with_host_fit world told fits host = record {
  link = fits.link;
  others = record { host = host; store = fits.others.store; hooks = fits.others.hooks };
}

with_store_fit : (world : World) (told : StoreTold) → FitsWorld world → FitsStore told → FitsWorld (record world { store = record world.store { told = told } })
with_store_fit world told fits store = record {
  link = fits.link;
  others = record { host = fits.others.host; store = store; hooks = fits.others.hooks };
}

-- a store after a call
answered_fit : (call : StoreCall) (files : List StoreFile) (told : StoreTold) → NamesFit call → FitsStore told → AreStored files
    → FitsStore (store_answered call files told)
answered_fit call files told named fits stored = record { files = stored; undo = undo_fits call told.files told.undo named fits.files fits.undo }

reading_fits : (found : Option (List ℕ)) → HasOctets found → FitsReading (reading_of found)
reading_fits None octets = tt
reading_fits (Some bytes) octets = octets

next_fits : (polls : List (Option Polled)) → AllByRecursion FitsPoll polls → FitsPoll (next_answer polls)
next_fits [] fits = omega arith
next_fits (answer ∷ polls) fits = fits.0

rest_fits : (polls : List (Option Polled)) → AllByRecursion FitsPoll polls → AllByRecursion FitsPoll (drop 1 polls)
rest_fits [] fits = tt
rest_fits (answer ∷ polls) fits = fits.1

applied_order : (change : HostChange) (rows : List HostRow) → InRowOrder rows → InRowOrder (applied change rows)
applied_order (Remove row) rows order = without_in_order row rows order
applied_order (Add row) rows order = with_in_order row rows order

module _ (world : World) (fits : FitsWorld world) where
  abbrev files : List StoreFile
  files = world.store.told.files

  abbrev stored : AreStored files
  stored = fits.others.store.files

  -- a call of the store that leaves these files where it was done
  changed : (call : Bool → StoreCall) (done : Bool) (later : List StoreFile) → NamesFit (call done) → AreStored later
      → FitsStore (store_answered (call done) (if done then later else files) world.store.told)
  changed call done later named all =
      answered_fit (call done) (if done then later else files) world.store.told named fits.others.store (gated AreStored done later files all stored)

  asked : (ask : Ask) → FitsAsk ask → AreTyped (lines_of (made ask (answer_to ask world))) → Answered ask world
  asked (Offer iface frame) ask typed = record {
    answer = tt;
    left = record { link = record { begin = fits.link.begin; coming = fits.link.coming }; others = fits.others };
  }
  asked ListRows ask typed = record {
    answer = gated (λ (rows : Option (List HostRow)). IfSome rows FitsListed) (fails_host world.host) None (Some world.host.told.rows) tt
        (record { are = fits.others.host.rows; order = fits.others.host.order });
    left = with_host_fit world _ fits (record { rows = fits.others.host.rows; order = fits.others.host.order });
  }
  asked (Change change) ask typed =
      let rows : List HostRow = world.host.told.rows in
      let done : Bool = answer_to (Change change) world in
      record {
        answer = tt;
        left = with_host_fit world _ fits (record {
          rows = gated AreRows done (applied change rows) rows (applied_fits change rows (changed_row change done ask typed) fits.others.host.rows)
              fits.others.host.rows;
          order = gated InRowOrder done (applied change rows) rows (applied_order change rows fits.others.host.order) fits.others.host.order;
        });
      }
  asked ListAsides ask typed = record {
    answer = gated (λ (names : Option (List (List ℕ))). IfSome names (AllByRecursion IsStoredName)) (fails_store world.store) None (Some (asides files)) tt
        (asides_named files stored);
    left = with_store_fit world _ fits (answered_fit (ListedAsides (answer_to ListAsides world)) files world.store.told tt fits.others.store stored);
  }
  asked (Read name) ask typed = record {
    answer = gated FitsReading (fails_store world.store) Unread (reading_of (file_at name files)) tt
        (reading_fits (file_at name files) (file_octets name files stored));
    left = with_store_fit world _ fits (answered_fit (ReadFile name (answer_to (Read name) world)) files world.store.told tt fits.others.store stored);
  }
  asked (WriteAside name bytes) ask typed = record {
    answer = tt;
    left = with_store_fit world _ fits
        (changed (WroteAside name bytes) (answer_to (WriteAside name bytes) world) (put_file (record { name = aside_of name; bytes = bytes }) files) ask
        (put_stored (aside_of name) bytes files (aside_named name ask) typed.0 stored));
  }
  asked (SyncAside name) ask typed = record {
    answer = tt;
    left = with_store_fit world _ fits (changed (SyncedAside name) (answer_to (SyncAside name) world) files ask stored);
  }
  asked (RenameAside name) ask typed = record {
    answer = tt;
    left = with_store_fit world _ fits
        (changed (RenamedAside name) (answer_to (RenameAside name) world) (rename_file name (file_at (aside_of name) files) files) ask
        (rename_stored name (file_at (aside_of name) files) files ask (file_octets (aside_of name) files stored) stored));
  }
  asked (RemoveFile name) ask typed = record {
    answer = tt;
    left = with_store_fit world _ fits
        (changed (RemovedFile name) (answer_to (RemoveFile name) world) (drop_file name files) ask (drop_stored name files stored));
  }
  asked Settle ask typed = record {
    answer = tt;
    left = with_store_fit world _ fits (answered_fit (SettledFiles (answer_to Settle world)) files world.store.told tt fits.others.store stored);
  }
  asked (Start job) ask typed = record {
    answer = tt;
    left = record {
      link = fits.link;
      others = record { host = fits.others.host; store = fits.others.store; hooks = record { polls = fits.others.hooks.polls } };
    };
  }
  asked (Poll number) ask typed = record {
    answer = next_fits world.hooks.told.polls fits.others.hooks.polls;
    left = record {
      link = fits.link;
      others = record {
        host = fits.others.host;
        store = fits.others.store;
        hooks = record { polls = rest_fits world.hooks.told.polls fits.others.hooks.polls };
      };
    };
  }
  asked (Abandon number) ask typed = record {
    answer = tt;
    left = record {
      link = fits.link;
      others = record { host = fits.others.host; store = fits.others.store; hooks = record { polls = fits.others.hooks.polls } };
    };
  }
  asked (Drop job) ask typed = record { answer = tt; left = fits }

-- ---- programs of questions

-- Whatever fits is answered, and where the lines are within their types, each question that comes up fits, and so does the result.
abbrev pub Goes : {A : Type 0} → (A → Type 0) → Asks A → Type 0
Goes R (Done x) = R x
Goes R (Then ask next) =
    FitsAsk ask × ((answer : AnswerTo ask) → FitsAnswer ask answer → AreTyped (lines_of (made ask answer)) → Goes R (next answer))

pub goes_after : {A B : Type 0} (R : A → Type 0) (S : B → Type 0) (asks : Asks A) (more : A → Asks B) → Goes R asks
    → ((x : A) → R x → Goes S (more x)) → Goes S (after asks more)
goes_after R S (Done x) more goes later = later x goes
goes_after R S (Then ask next) more goes later =
    (goes.0, λ answer fits typed. goes_after R S (next answer) more (goes.1 answer fits typed) later)

-- so it is of a run
pub record Went {A : Type 0} (R : A → Type 0) (ran : Ran A) : Type 0 where
  pub calls : AllByRecursion FitsCall ran.calls
  pub result : R ran.result
  pub left : FitsWorld ran.world

pub run_went : {A : Type 0} (R : A → Type 0) (asks : Asks A) (world : World) → Goes R asks → FitsWorld world
    → AreTyped (flat_map lines_of (run asks world).calls) → Went R (run asks world)
run_went R (Done x) world goes fits typed = record { calls = tt; result = goes; left = fits }
run_went R (Then ask next) world goes fits typed =
    let later : World = world_with ask (answer_to ask world) world in
    let parts = typed_parts (lines_of (made ask (answer_to ask world))) (flat_map lines_of (run (next (answer_to ask world)) later).calls) typed in
    let one : Answered ask world = asked world fits ask goes.0 parts.0 in
    let rest : Went R (run (next (answer_to ask world)) later) =
    run_went R (next (answer_to ask world)) later (goes.1 (answer_to ask world) one.answer parts.0) one.left parts.1 in
    record { calls = (call_fits ask (answer_to ask world) goes.0 one.answer parts.0, rest.calls); result = rest.result; left = rest.left }
