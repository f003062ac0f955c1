-- What `replay` writes and answers.
use Rattle.std.specs.Prelude.{ℕ, ◌≡◌, ◌≤◌, ◌⊎◌, List, [], length, Option, Some}
use Rattle.script_model.specs.ScriptTexts.{ScriptLines}
use Rattle.replay_text.specs.FirstFaults.{IsFault}
use Rattle.conf_text.specs.Configurations.{Configuration}
use Rattle.daemon.specs.Streams.{WritesLines, WritesFront}
use Rattle.text_works.specs.declared.status.Status.{Status}
use Rattle.text_works.specs.declared.status.Status.TheVariants as status
use Rattle.text_works.specs.Input.{limit, IsInput, IsTooLong}
use Rattle.text_works.specs.Refusals.{IsConfFault, IsRefusal}
use Rattle.text_works.specs.SpelledScripts.{IsScript, managed_in}
use Rattle.replayed_lives.specs.Replays.{failing_in, at_first, transcript}
use Rattle.replayed_lives.specs.HostHeld.{AllHoldRightly}
use Rattle.replayed_lives.specs.FilesHeld.{AllKeepRightly, AllStayWhole}
use Rattle.replayed_lives.specs.ToldSafely.{AllTellSafely}

-- The input was a script, and its transcript was written. In its lives the host and the store hold what they shall,
-- files are whole, and what hooks and the resolver are told is safe to read.
pub record IsReplayed (input : Option (List ℕ)) (old new : Option (List ℕ)) : Type 0 where
  pub bytes : List ℕ
  pub script : ScriptLines
  pub conf : Configuration
  pub read : IsInput input bytes
  pub in_limit : length bytes ≤ limit
  pub is_script : IsScript bytes script conf
  pub written : WritesLines old new (transcript script conf)
  pub host : AllHoldRightly (managed_in script conf) script.ifaces (failing_in script.fails)
      (at_first script.rows script.files script.polls) script.lives
  pub files : AllKeepRightly (managed_in script conf) script.ifaces (failing_in script.fails)
      (at_first script.rows script.files script.polls) script.lives
  pub whole : AllStayWhole (managed_in script conf) script.ifaces (failing_in script.fails)
      (at_first script.rows script.files script.polls) script.lives
  pub safe : AllTellSafely (managed_in script conf) script.ifaces (failing_in script.fails)
      (at_first script.rows script.files script.polls) script.lives

-- the input was a script, and a front of the bytes of its transcript was written
pub record IsStopped (input : Option (List ℕ)) (old new : Option (List ℕ)) : Type 0 where
  pub bytes : List ℕ
  pub script : ScriptLines
  pub conf : Configuration
  pub read : IsInput input bytes
  pub in_limit : length bytes ≤ limit
  pub is_script : IsScript bytes script conf
  pub written : WritesFront old new [] (transcript script conf)

-- the input is told, and it is a script within the limit
pub record TellsScript (input : Option (List ℕ)) : Type 0 where
  pub bytes : List ℕ
  pub script : ScriptLines
  pub conf : Configuration
  pub told : input ≡ Some bytes
  pub in_limit : length bytes ≤ limit
  pub is_script : IsScript bytes script conf

-- what replay answers, by the input and by what is written before and after
abbrev pub IsAnswer : Status → Option (List ℕ) → Option (List ℕ) → Option (List ℕ) → Type 0
IsAnswer status.Done input old new = IsReplayed input old new
IsAnswer status.Usage input old new = ⊥
IsAnswer (status.Script fault) input old new = IsRefusal (λ bytes. IsFault bytes fault) input old new
IsAnswer (status.Conf fault) input old new = IsRefusal (λ bytes. IsConfFault bytes fault) input old new
IsAnswer status.ReadFault input old new = new ≡ old
IsAnswer status.WriteFault input old new = IsStopped input old new
IsAnswer status.LinkFault input old new = ⊥
IsAnswer status.TurnsOver input old new = ⊥
IsAnswer (status.Lease line) input old new = ⊥
IsAnswer (status.Capture cause) input old new = ⊥
IsAnswer (status.Schedule line) input old new = ⊥
IsAnswer (status.Transcript line) input old new = ⊥
IsAnswer status.Unjustified input old new = ⊥
IsAnswer status.TooLong input old new = IsTooLong input × (new ≡ old)
IsAnswer status.NoMemory input old new = (new ≡ old) ⊎ IsStopped input old new
