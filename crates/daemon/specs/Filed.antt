-- What a life did with its files, and how many calls failed, wherever it ended.
use Rattle.std.specs.Prelude.{List, flat_map, IfSome}
use Rattle.net_types.specs.declared.interface.IfSpec.{IfSpec}
use Rattle.settings.specs.declared.interfaces.Managed.{Managed}
use Rattle.file_choices.specs.StoreWalks.{Answered}
use Rattle.device_calls.specs.Calls.{Call, store_call}
use Rattle.device_calls.specs.Worlds.{Seen}
use Rattle.device_calls.specs.Faults.{CountsEach}
use Rattle.turn_model.specs.LifeFronts.{FrontOfLife}
use Rattle.exact_texts.specs.FileEvidence.WholeFiles.{FilesStayWhole}

-- The calls of a life up to a moment were made. The store answered its own, and no other, and left its files as it
-- answered; at each moment of them, over a sound store, each file was whole, whether or not it is told which calls
-- fail. Each device counted those of its own that failed.
pub record LeavesFiled (managed : List Managed) (specs : List IfSpec) (old new : Seen) : Type 0 where
  pub calls : List Call
  pub front : FrontOfLife managed specs calls
  pub answers : Answered old.store.failing (flat_map store_call calls) old.store.told new.store.told
  pub whole : IfSome old.store.told (λ before. FilesStayWhole old.store.failing managed calls before)
  pub counts : CountsEach old new calls
