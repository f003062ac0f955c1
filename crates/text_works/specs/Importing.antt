-- What `import` writes and answers: the script that a capture of packets means.
use Rattle.std.specs.Prelude.{ℕ, ◌≡◌, List, Option, Err}
use Rattle.net_types.specs.declared.interface.IfSpec.{IfSpec}
use Rattle.capture_script.specs.Captures.{capture_form}
use Rattle.capture_script.specs.CapturedScripts.{IsImported}
use Rattle.text_works.specs.declared.status.Status.{Status}
use Rattle.text_works.specs.declared.status.Status.TheVariants as status
use Rattle.text_works.specs.Works.{Work, IsWorked, NothingFound}

-- the cause is the first that holds
abbrev pub RefusesCapture : List ℕ → Status → Type 0
RefusesCapture bytes (status.Capture cause) = capture_form bytes ≡ Err cause
RefusesCapture bytes other = ⊥

abbrev pub importing : IfSpec → Work
importing spec =
    record { Gives = λ bytes text. IsImported bytes spec text; Finds = NothingFound; Refuses = RefusesCapture }

-- what import answers, by the input and by what is written before and after
abbrev pub IsImportAnswer : IfSpec → Status → (input old new : Option (List ℕ)) → Type 0
IsImportAnswer spec answer input old new = IsWorked (importing spec) answer input old new
