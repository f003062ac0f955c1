-- The life that devices foretell which tell what they hold and which of their calls fail: it is determined.
use Rattle.std.specs.Prelude.{ℕ, ◌||◌, if◌then◌else◌, List, [], ◌∷◌, take, drop, Option, Some}
use Rattle.net_types.specs.declared.interface.IfSpec.{IfSpec}
use Rattle.world.specs.declared.wakes.Wake.{Wake}
use Rattle.world.specs.HookCalls.{HooksTold}
use Rattle.world.specs.HostCalls.{HostTold}
use Rattle.world.specs.LinkCalls.{Given, frame_len, cut_wake, waited}
use Rattle.world.specs.StoreCalls.{StoreTold}
use Rattle.world.specs.StoreFails.{StoreFails}
use Rattle.client_model.specs.IfaceSettings.declared.interfaces.Managed.{Managed}
use Rattle.client_model.specs.ScriptModel.Scripts.{frame_room}
use Rattle.device_calls.specs.Worlds.{Told, World, Ran, run, with_link}
use Rattle.turn_model.specs.Turns.{Life, turn_asks, until, is_over, is_end}
use Rattle.turn_model.specs.Opening.{opening_asks}
use Rattle.turn_model.specs.Lives.{OpeningMet, Met, met_with}

-- a wake as a wait gives it: its frame is cut to the room that there is
abbrev pub told_wake : Given → Wake
told_wake given = cut_wake given frame_room

abbrev pub told_bytes : Given → List ℕ
told_bytes given = take (frame_len (told_wake given).event) given.bytes

-- the world after a wait that gave a wake
abbrev pub woken : (asked : Option ℕ) → Wake → List ℕ → World → World
woken asked wake bytes world =
    with_link
    (waited asked (Some (record { wake = wake; bytes = bytes })) (drop 1 world.link.told.coming) world.link.told)
    world

abbrev pub ran_turn : List Managed → Life → World → Given → Ran Life
ran_turn managed life world given =
    run (turn_asks managed life (told_wake given) (told_bytes given))
    (woken (until life) (told_wake given) (told_bytes given) world)

abbrev pub met_of : Given → Ran Life → Met
met_of given ran = met_with (told_wake given) (told_bytes given) ran.calls ran.result

-- the turns up to the one that ends the life
abbrev pub told_turns : List Managed → Life → World → List Given → List Met
told_turns managed life world [] = []
told_turns managed life world (given ∷ coming) =
    let ran = ran_turn managed life world given in
    if is_over life || is_end given.wake.event then []
    else met_of given ran ∷ told_turns managed ran.result ran.world coming

-- what the devices tell after these turns
abbrev pub told_after : List Managed → Life → World → List Given → World
told_after managed life world [] = world
told_after managed life world (given ∷ coming) =
    let ran = ran_turn managed life world given in
    if is_over life || is_end given.wake.event then world else told_after managed ran.result ran.world coming

abbrev pub foretold_turns : List Managed → Life → World → List Met
foretold_turns managed life world = told_turns managed life world world.link.told.coming

abbrev pub ran_opening : List Managed → List IfSpec → World → Ran Life
ran_opening managed specs world = run (opening_asks managed specs world.link.told.begin) world

abbrev pub opening_of : List Managed → List IfSpec → World → OpeningMet
opening_of managed specs world =
    let ran = ran_opening managed specs world in
    record { begin = world.link.told.begin; calls = ran.calls; life = ran.result }

-- what a life leaves to the next one: how many frames were offered, the host, the store and the hooks
pub record Left : Type 0 where
  pub sent : ℕ
  pub host : Told HostTold (List ℕ)
  pub store : Told StoreTold StoreFails
  pub hooks : Told HooksTold (List ℕ)

abbrev pub left_in : World → Left
left_in world = record { sent = world.link.told.sends; host = world.host; store = world.store; hooks = world.hooks }

-- a life that devices foretell
pub record ForetoldLife : Type 0 where
  pub opening : OpeningMet
  pub mets : List Met
  pub left : Left

abbrev pub foretold_life : List Managed → List IfSpec → World → ForetoldLife
foretold_life managed specs world =
    let opened = ran_opening managed specs world in
    record {
      opening = opening_of managed specs world;
      mets = foretold_turns managed opened.result opened.world;
      left = left_in (told_after managed opened.result opened.world opened.world.link.told.coming);
    }
