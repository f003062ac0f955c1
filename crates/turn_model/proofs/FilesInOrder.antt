-- Whatever a life asks, the files of a store that stood in name order stand in it still.
use Rattle.std.proofs.Common.{◌||◌, List, [], ◌∷◌}
use Rattle.net_types.proofs.CaseLaws.{gated}
use Rattle.world.specs.FileLists.{file_name, file_at, put_file, drop_file, rename_file}
use Rattle.world.specs.FileNames.{aside_of}
use Rattle.world.specs.LinkCalls.{Given}
use Rattle.world.specs.NamedLists.{InNameOrder}
use Rattle.client_model.specs.IfaceSettings.declared.interfaces.Managed.{Managed}
use Rattle.device_calls.specs.Calls.{Ask, AnswerTo, Offer, ListRows, Change, ListAsides, Read, WriteAside, SyncAside, RenameAside, RemoveFile, Settle, Start, Poll, Abandon, Drop}
use Rattle.device_calls.specs.Programs.{Asks, Done, Then}
use Rattle.device_calls.specs.Worlds.{World, Ran, run, answer_to, world_with}
use Rattle.turn_model.specs.Turns.{Life, turn_asks, until, is_over, is_end}
use Rattle.turn_model.specs.Opening.{opening_asks}
use Rattle.turn_model.specs.FilesInLife.{LeavesFilesInOrder}
use Rattle.turn_model.specs.Foretold.{told_wake, told_bytes, woken, ran_turn, ran_opening, told_after}
use Rattle.turn_model.proofs.Bringing.{files_in, put_aside, dropped, renamed}

abbrev InOrder : World → Type 0
InOrder world = InNameOrder file_name (files_in world)

-- one question
asked_in_order : (ask : Ask) (answer : AnswerTo ask) (world : World) → InOrder world → InOrder (world_with ask answer world)
asked_in_order (Offer iface frame) taken world order = order
asked_in_order ListRows rows world order = order
asked_in_order (Change change) done world order = order
asked_in_order ListAsides names world order = order
asked_in_order (Read name) reading world order = order
asked_in_order (WriteAside name bytes) done world order =
    let put = put_file (record { name = aside_of name; bytes = bytes }) (files_in world) in
    gated (InNameOrder file_name) done put (files_in world) ((put_aside name bytes (files_in world)).order order) order
asked_in_order (SyncAside name) done world order = gated (InNameOrder file_name) done (files_in world) (files_in world) order order
asked_in_order (RenameAside name) done world order =
    let found = file_at (aside_of name) (files_in world) in
    gated (InNameOrder file_name) done (rename_file name found (files_in world)) (files_in world) ((renamed name found (files_in world)).order order) order
asked_in_order (RemoveFile name) done world order =
    gated (InNameOrder file_name) done (drop_file name (files_in world)) (files_in world) ((dropped name (files_in world)).order order) order
asked_in_order Settle done world order = order
asked_in_order (Start job) done world order = order
asked_in_order (Poll number) answer world order = order
asked_in_order (Abandon number) answer world order = order
asked_in_order (Drop job) answer world order = order

-- a program of them
ran_in_order : {A : Type 0} (asks : Asks A) (world : World) → InOrder world → InOrder (run asks world).world
ran_in_order (Done x) world order = order
ran_in_order (Then ask next) world order =
    ran_in_order (next (answer_to ask world)) (world_with ask (answer_to ask world) world) (asked_in_order ask (answer_to ask world) world order)

module _ (managed : List Managed) where
  -- turns
  turns_in_order : (coming : List Given) (life : Life) (world : World) → InOrder world → InOrder (told_after managed life world coming)
  turns_in_order [] life world order = order
  turns_in_order (given ∷ coming) life world order =
      let ran : Ran Life = ran_turn managed life world given in
      gated InOrder (is_over life || is_end given.wake.event) world (told_after managed ran.result ran.world coming) order
      (turns_in_order coming ran.result ran.world
      (ran_in_order (turn_asks managed life (told_wake given) (told_bytes given)) (woken (until life) (told_wake given) (told_bytes given) world) order))

-- a life
pub files_left_in_order : LeavesFilesInOrder
files_left_in_order managed specs world order =
    let opened : Ran Life = ran_opening managed specs world in
    turns_in_order managed opened.world.link.told.coming opened.result opened.world
    (ran_in_order (opening_asks managed specs world.link.told.begin) world order)
