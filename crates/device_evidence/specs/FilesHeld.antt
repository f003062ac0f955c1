-- What a store that tells its files holds in a life, whatever its calls are answered, and whether or not it is told
-- which of them fail.
use Rattle.std.specs.Prelude.{ℕ, ◌≡◌, ◌⊎◌, true, List, ◌∷◌, ◌++◌, map, flat_map, Option}
use Rattle.std.specs.List.{AllByRecursion}
use Rattle.net_types.specs.declared.interface.IfSpec.{IfSpec}
use Rattle.world.specs.FileLists.{StoreFile, file_name, file_at}
use Rattle.world.specs.NamedLists.{InNameOrder}
use Rattle.world.specs.StoreCalls.{StoreTold}
use Rattle.world.specs.StoreFails.{StoreFails}
use Rattle.settings.specs.declared.interfaces.Managed.{Managed}
use Rattle.client_model.specs.declared.interfaces.Iface.{Iface}
use Rattle.device_calls.specs.Calls.{Call, store_call}
use Rattle.file_choices.specs.StoreWalks.{Goes}
use Rattle.turn_model.specs.FilesInLife.{AreNamedApart, KnownTruly, filed_as, filed_by, all_done}
use Rattle.turn_model.specs.KeptFiles.{Unread, KeptFile, wanted_in, is_left}
use Rattle.turn_model.specs.Turns.{Life}
use Rattle.turn_model.specs.Lives.{OpeningMet, IsOpening, Met, AreTurns}
use Rattle.device_evidence.specs.Stretches.{Stretch, all_calls, at_opening, at_turn}

-- what the store told before and after some calls, which it answered truly
abbrev pub StoreWent : Option StoreFails → List Call → (old new : StoreTold) → Type 0
StoreWent failing calls old new = Goes failing (flat_map store_call calls) old new

-- what is known of a file is so
abbrev pub IsKnown : List StoreFile → KeptFile → Type 0
IsKnown files file = KnownTruly file.known (file_at file.name files)

-- A file is the text of what it keeps, and there is none where it keeps nothing; or it couldn't be read, and is left
-- alone.
abbrev pub IsAsKept : List Iface → List StoreFile → KeptFile → Type 0
IsAsKept ifaces files file =
    (file_at file.name files ≡ wanted_in ifaces file.keeps)
    ⊎ ((file.known ≡ Unread) × (is_left file.keeps (wanted_in ifaces file.keeps) ≡ true))

-- What the store held at the end of an opening or a turn: the files of a life, with one DUID.
pub record FilesHeld (managed : List Managed) (failing : Option StoreFails) (life : Life) (calls : Stretch)
    (first last : StoreTold) : Type 0 where
  pub told : StoreTold
  pub went : StoreWent failing (calls.before ++ calls.own) first told
  pub goes_on : StoreWent failing calls.later told last
  pub duid : List ℕ
  pub filed : map filed_as life.files ≡ filed_by duid managed
  pub known : AllByRecursion (IsKnown told.files) life.files
  pub kept : all_done calls.own ≡ true → AllByRecursion (IsAsKept life.client.ifaces told.files) life.files

-- after the opening, and after each turn
pub record FilesHeldInLife (managed : List Managed) (failing : Option StoreFails) (opening : OpeningMet)
    (mets : List Met) (end : List Call) (first last : StoreTold) : Type 0 where
  pub opened : FilesHeld managed failing opening.life (at_opening opening mets end) first last
  pub turned : (earlier : List Met) (met : Met) (later : List Met) → mets ≡ earlier ++ met ∷ later
      → FilesHeld managed failing met.life (at_turn opening earlier met later end) first last

abbrev pub StoresHold : Type 0
StoresHold =
    (managed : List Managed) (specs : List IfSpec) (failing : Option StoreFails) (opening : OpeningMet)
    (mets : List Met) (end : List Call) (first last : StoreTold) → AreNamedApart managed
    → IsOpening managed specs opening → AreTurns managed opening.life mets → InNameOrder file_name first.files
    → StoreWent failing (all_calls opening mets end) first last
    → FilesHeldInLife managed failing opening mets end first last
