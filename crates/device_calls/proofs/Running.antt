-- What a run makes, and what it leaves.
use Rattle.std.proofs.Common.{◌≡◌, refl, ◌∙◌}
use Rattle.device_calls.specs.Calls.{Ask, AnswerTo, Offer, ListRows, Change, ListAsides, Read, WriteAside, SyncAside, RenameAside, RemoveFile, Settle, Start, Poll, Abandon, Drop}
use Rattle.device_calls.specs.Programs.{Asks, Done, Then, Makes}
use Rattle.device_calls.specs.Worlds.{World, run, answer_to, world_with}
use Rattle.device_calls.proofs.Programs.{makes_done, makes_then}

-- what is foretold is made of questions and answers
pub run_makes : {A : Type 0} (asks : Asks A) (world : World) → Makes asks (run asks world).calls (run asks world).result
run_makes (Done x) world = makes_done x
run_makes (Then ask next) world =
    makes_then ask next (answer_to ask world) _ _ (run_makes (next (answer_to ask world)) (world_with ask (answer_to ask world) world))

-- no question changes what comes, nor how a life begins, nor which calls fail
coming_stays : (ask : Ask) (answer : AnswerTo ask) (world : World) → (world_with ask answer world).link.told.coming ≡ world.link.told.coming
coming_stays (Offer iface frame) taken world = refl
coming_stays ListRows rows world = refl
coming_stays (Change change) done world = refl
coming_stays ListAsides names world = refl
coming_stays (Read name) reading world = refl
coming_stays (WriteAside name bytes) done world = refl
coming_stays (SyncAside name) done world = refl
coming_stays (RenameAside name) done world = refl
coming_stays (RemoveFile name) done world = refl
coming_stays Settle done world = refl
coming_stays (Start job) done world = refl
coming_stays (Poll number) answer world = refl
coming_stays (Abandon number) answer world = refl
coming_stays (Drop job) answer world = refl

pub run_coming : {A : Type 0} (asks : Asks A) (world : World) → (run asks world).world.link.told.coming ≡ world.link.told.coming
run_coming (Done x) world = refl
run_coming (Then ask next) world =
    run_coming (next (answer_to ask world)) (world_with ask (answer_to ask world) world) ∙ coming_stays ask (answer_to ask world) world

host_failing_stays : (ask : Ask) (answer : AnswerTo ask) (world : World) → (world_with ask answer world).host.failing ≡ world.host.failing
host_failing_stays (Offer iface frame) taken world = refl
host_failing_stays ListRows rows world = refl
host_failing_stays (Change change) done world = refl
host_failing_stays ListAsides names world = refl
host_failing_stays (Read name) reading world = refl
host_failing_stays (WriteAside name bytes) done world = refl
host_failing_stays (SyncAside name) done world = refl
host_failing_stays (RenameAside name) done world = refl
host_failing_stays (RemoveFile name) done world = refl
host_failing_stays Settle done world = refl
host_failing_stays (Start job) done world = refl
host_failing_stays (Poll number) answer world = refl
host_failing_stays (Abandon number) answer world = refl
host_failing_stays (Drop job) answer world = refl

pub run_host_failing : {A : Type 0} (asks : Asks A) (world : World) → (run asks world).world.host.failing ≡ world.host.failing
run_host_failing (Done x) world = refl
run_host_failing (Then ask next) world =
    run_host_failing (next (answer_to ask world)) (world_with ask (answer_to ask world) world) ∙ host_failing_stays ask (answer_to ask world) world

store_failing_stays : (ask : Ask) (answer : AnswerTo ask) (world : World) → (world_with ask answer world).store.failing ≡ world.store.failing
store_failing_stays (Offer iface frame) taken world = refl
store_failing_stays ListRows rows world = refl
store_failing_stays (Change change) done world = refl
store_failing_stays ListAsides names world = refl
store_failing_stays (Read name) reading world = refl
store_failing_stays (WriteAside name bytes) done world = refl
store_failing_stays (SyncAside name) done world = refl
store_failing_stays (RenameAside name) done world = refl
store_failing_stays (RemoveFile name) done world = refl
store_failing_stays Settle done world = refl
store_failing_stays (Start job) done world = refl
store_failing_stays (Poll number) answer world = refl
store_failing_stays (Abandon number) answer world = refl
store_failing_stays (Drop job) answer world = refl

pub run_store_failing : {A : Type 0} (asks : Asks A) (world : World) → (run asks world).world.store.failing ≡ world.store.failing
run_store_failing (Done x) world = refl
run_store_failing (Then ask next) world =
    run_store_failing (next (answer_to ask world)) (world_with ask (answer_to ask world) world) ∙ store_failing_stays ask (answer_to ask world) world
