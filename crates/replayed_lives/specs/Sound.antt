-- Devices whose telling can be relied on.
use Rattle.std.specs.List.{AllByRecursion}
use Rattle.net_types.specs.Marks.{AreBytes}
use Rattle.world.specs.FileLists.{file_name}
use Rattle.world.specs.LinkCalls.{Given}
use Rattle.world.specs.NamedLists.{InNameOrder}
use Rattle.host_model.specs.HostTable.{InRowOrder}
use Rattle.device_calls.specs.Worlds.{World}

-- what comes with a wake is bytes
abbrev pub BringsBytes : Given → Type 0
BringsBytes given = AreBytes given.bytes

-- the host's rows and the store's files are told in their order, each once, and what the link will bring is bytes
pub record IsSound (world : World) : Type 0 where
  pub rows : InRowOrder world.host.told.rows
  pub files : InNameOrder file_name world.store.told.files
  pub coming : AllByRecursion BringsBytes world.link.told.coming
