-- The opening of a life: asides are cleared, the files read, and then what the client's opening asks, by the parts of a
-- turn.
use Rattle.std.specs.Prelude.{ℕ, List, [], ◌∷◌, Option, Some, None}
use Rattle.net_types.specs.declared.interface.IfSpec.{IfSpec}
use Rattle.world.specs.declared.wakes.Begin.{Begin}
use Rattle.client_model.specs.IfaceSettings.declared.interfaces.Managed.{Managed}
use Rattle.client_model.specs.Clients.{ClientStep, opening}
use Rattle.machine.specs.Moment.{moment_of}
use Rattle.device_calls.specs.Calls.{ListAsides, RemoveFile, Settle}
use Rattle.device_calls.specs.Programs.{Asks, Done, Then, after}
use Rattle.hook_child.specs.Supervision.{idle}
use Rattle.turn_model.specs.Loading.{FilesLoaded, loading_files, files_of, beginnings_of}
use Rattle.turn_model.specs.Turns.{Life, Outlook, acting}

-- each aside is removed, a failed removal stops none; then the removals are settled
abbrev pub removing : List (List ℕ) → Asks (Unit {0})
removing [] = Then Settle (λ done. Done tt)
removing (name ∷ names) = Then (RemoveFile name) (λ done. removing names)

-- where there was none, or the listing failed, no more is asked
abbrev pub clearing_listed : Option (List (List ℕ)) → Asks (Unit {0})
clearing_listed None = Done tt
clearing_listed (Some []) = Done tt
clearing_listed (Some (name ∷ names)) = removing (name ∷ names)

abbrev pub clearing : Asks (Unit {0})
clearing = Then ListAsides clearing_listed

-- nothing is known of the host's rows yet, and no job waits
abbrev pub outlook_from : List Managed → FilesLoaded → Outlook
outlook_from managed files = record { known = None; files = files_of managed files; hooks = idle }

-- the client's opening: `specs` are all interfaces of the host
abbrev pub opening_step : List Managed → FilesLoaded → List IfSpec → Begin → ClientStep
opening_step managed files specs begin = opening (beginnings_of managed files) specs begin

unfoldable pub opening_asks : List Managed → List IfSpec → Begin → Asks Life
opening_asks managed specs begin =
    after clearing (λ _.
    after (loading_files managed) (λ files.
    acting managed (outlook_from managed files) (opening_step managed files specs begin) (moment_of begin.at) None))
