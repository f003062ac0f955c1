-- What the code asked of the devices, told by the definitions.
use Rattle.std.specs.Prelude.{ℕ, ◌≡◌, List, [], ◌∷◌, flat_map, Option, Some, IfSome}
use Rattle.device_calls.specs.Calls.{Call, Ask, AnswerTo, made}
use Rattle.device_calls.specs.CallLines.{lines_of}
use Rattle.device_calls.specs.Programs.{Asks, Makes}
use Rattle.device_calls.specs.Worlds.{Seen, World, Ran, world_of, answer_to, world_with, run}
use Rattle.device_calls.specs.Telling.{Tells}
use Rattle.device_calls.specs.Printing.{Prints}

-- one question was asked, and answered so; where all devices tell, it is the answer that they foretold
pub record One (ask : Ask) (answer : AnswerTo ask) (old new : Seen) : Type 0 where
  pub tells : Tells old new (made ask answer ∷ [])
  pub foretold : IfSome (world_of old)
      (λ world. (answer ≡ answer_to ask world) × (world_of new ≡ Some (world_with ask answer world)))

pub record IsRun {A : Type 0} (ran : Ran A) (calls : List Call) (result : A) (new : Option World) : Type 0 where
  pub calls_are : calls ≡ ran.calls
  pub result_is : result ≡ ran.result
  pub world_is : new ≡ Some ran.world

-- the calls were made, and led to the result; where all devices tell, they are those that they foretold
pub record Did {A : Type 0} (asks : Asks A) (calls : List Call) (result : A) (old new : Seen) : Type 0 where
  pub makes : Makes asks calls result
  pub tells : Tells old new calls
  pub foretold : IfSome (world_of old) (λ world. IsRun (run asks world) calls result (world_of new))

-- the calls were made, and their lines were appended
pub record Does {A : Type 0} (asks : Asks A) (result : A) (old new : Seen) (text_old text_new : List ℕ) : Type 0 where
  pub calls : List Call
  pub did : Did asks calls result old new
  pub lines : Prints text_old text_new (flat_map lines_of calls)
