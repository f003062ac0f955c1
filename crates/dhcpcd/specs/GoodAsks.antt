-- What is asked for with an input that serves for it, and devices that don't fail.
use Rattle.std.specs.Prelude.{ℕ, ◌≡◌, Bool, true, List, [], Option, Some}
use Rattle.net_types.specs.declared.address.Mac.{Mac}
use Rattle.net_types.specs.declared.interface.Name.{Name}
use Rattle.device_calls.specs.Worlds.{Seen}
use Rattle.capture_script.specs.CapturedScripts.{spec_of}
use Rattle.replayed_lives.specs.TextWorks.Checks.{TellsConfiguration}
use Rattle.replayed_lives.specs.TextWorks.Dumping.{dumping}
use Rattle.replayed_lives.specs.TextWorks.Importing.{importing}
use Rattle.replayed_lives.specs.TextWorks.Labs.{lab_work}
use Rattle.replayed_lives.specs.Replaying.{TellsScript}
use Rattle.asked_works.specs.Words.{AskReplay, AskCheck, AskDump, AskLab, AskLive, AsksImport}
use Rattle.replayed_lives.specs.TextWorks.Works.{Serves}

-- `replay` is asked for, and the input tells a script
abbrev pub AskGoodReplay : (words : List (List ℕ)) → (input : Option (List ℕ)) → Type 0
AskGoodReplay words input = AskReplay words × TellsScript input

-- `check` is asked for, and the input tells a configuration
abbrev pub AskGoodCheck : (words : List (List ℕ)) → (input : Option (List ℕ)) → Type 0
AskGoodCheck words input = AskCheck words × TellsConfiguration input

-- `dump` is asked for, and the input tells a lease
abbrev pub AskGoodDump : (words : List (List ℕ)) → (input : Option (List ℕ)) → Type 0
AskGoodDump words input = AskDump words × Serves dumping input

-- `import` is asked for, and the input tells a capture
abbrev pub AskGoodImport : (words : List (List ℕ)) → (input : Option (List ℕ)) → Type 0
AskGoodImport words input =
    (name : Name) × (mac : Mac) × AsksImport words name mac × Serves (importing (spec_of name mac)) input

-- `lab` is asked for, and the input tells a schedule
abbrev pub AskGoodLab : (words : List (List ℕ)) → (input : Option (List ℕ)) → Type 0
AskGoodLab words input = AskLab words × Serves lab_work input

-- `live` is asked for, and the input tells a configuration
abbrev pub AskGoodLive : (words : List (List ℕ)) → (input : Option (List ℕ)) → Type 0
AskGoodLive words input = AskLive words × TellsConfiguration input

-- no call of the two streams failed: their counts of faults are as before
abbrev pub StreamsHeld : (input_old input_new out_old out_new : ℕ) → Type 0
StreamsHeld input_old input_new out_old out_new = (input_new ≡ input_old) × (out_new ≡ out_old)

-- no call of the two streams ever fails
abbrev pub StreamsNeverFail : (input out : Bool) → Type 0
StreamsNeverFail input out = (input ≡ true) × (out ≡ true)

-- no beginning and no wait failed
abbrev pub WaitsHeld : (old new : Seen) → Type 0
WaitsHeld old new = new.waiting.faults ≡ old.waiting.faults

-- it is told that no wait fails
abbrev pub WaitsNeverFail : Seen → Type 0
WaitsNeverFail seen = seen.waiting.failing ≡ Some []
