-- What a host that tells its rows, and a store that tells its files, held in a life, whether or not it is told which of
-- their calls fail.
use Rattle.std.specs.Prelude.{ℕ, ◌≡◌, List, [], Option, Some, None}
use Rattle.net_types.specs.declared.interface.IfSpec.{IfSpec}
use Rattle.world.specs.FileLists.{file_name}
use Rattle.world.specs.HostCalls.{HostTold}
use Rattle.world.specs.NamedLists.{InNameOrder}
use Rattle.world.specs.StoreCalls.{StoreTold}
use Rattle.world.specs.StoreFails.{StoreFails}
use Rattle.settings.specs.declared.interfaces.Managed.{Managed}
use Rattle.host_model.specs.HostTable.{InRowOrder}
use Rattle.device_evidence.specs.FilesHeld.{FilesHeldInLife}
use Rattle.device_evidence.specs.HostHeld.{HostHeldInLife}
use Rattle.device_calls.specs.Calls.{Call}
use Rattle.device_calls.specs.Worlds.{Seen}
use Rattle.daemon.specs.declared.serving.ServeEnd.{ServeEnd}
use Rattle.daemon.specs.Cuts.{CutOpening, CutLife}
use Rattle.turn_model.specs.Lives.{OpeningMet, Met}

-- After the opening and after each turn the host held what it shall, if it told its rows in their order at first.
abbrev pub HostHeldThrough : List Managed → List IfSpec → OpeningMet → List Met → (end : List Call)
    → (old new : Option HostTold) → Type 0
HostHeldThrough managed specs opening mets end None new = new ≡ None
HostHeldThrough managed specs opening mets end (Some first) new =
    InRowOrder first.rows
    → (last : HostTold) × (new ≡ Some last) × HostHeldInLife managed specs opening mets end first last

-- So did the store, if it told its files in their order at first.
abbrev pub FilesHeldThrough : List Managed → OpeningMet → List Met → (end : List Call) → Option StoreFails
    → (old new : Option StoreTold) → Type 0
FilesHeldThrough managed opening mets end failing None new = new ≡ None
FilesHeldThrough managed opening mets end failing (Some first) new =
    InNameOrder file_name first.files
    → (last : StoreTold) × (new ≡ Some last) × FilesHeldInLife managed failing opening mets end first last

-- Both did in a life that was cut off, after its opening and after each turn whose lines stand written whole.
pub record HeldInCut (managed : List Managed) (specs : List IfSpec) (old new : Seen) (opening : OpeningMet)
    (mets : List Met) (end : List Call) : Type 0 where
  pub host : HostHeldThrough managed specs opening mets end old.host.told new.host.told
  pub kept : FilesHeldThrough managed opening mets end old.store.failing old.store.told new.store.told

-- So it is wherever the life was cut off, in the lines of its opening or later. Where the opening wasn't over nothing is
-- said.
pub record HeldUntilCut (end : ServeEnd) (allowed : ℕ) (managed : List Managed) (specs : List IfSpec) (old new : Seen)
    (out_from out_to : Option (List ℕ)) : Type 0 where
  pub in_opening : (cut : CutOpening end managed specs old new out_from out_to)
      → HeldInCut managed specs old new cut.opening [] []
  pub in_life : (cut : CutLife end allowed managed specs old new out_from out_to)
      → HeldInCut managed specs old new cut.opening cut.mets cut.calls
