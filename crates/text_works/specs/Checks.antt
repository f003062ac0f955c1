-- What `check` writes and answers.
use Rattle.std.specs.Prelude.{ℕ, ◌≡◌, ◌≤◌, List, ◌++◌, map, length, codes, Option, Some, Ok, Err}
use Rattle.script_model.specs.Lines.{lines_text}
use Rattle.conf_text.specs.Configurations.{Configuration, IsConfOf}
use Rattle.text_works.specs.declared.status.Status.{Status}
use Rattle.text_works.specs.declared.status.Status.TheVariants as status
use Rattle.text_works.specs.Input.{limit}
use Rattle.text_works.specs.Heads.{notice_line}
use Rattle.text_works.specs.Works.{Work, IsWorked, NothingFound}

-- one line for each notice, in order, and then `ok`
abbrev pub check_text : Configuration → List ℕ
check_text conf = lines_text (map notice_line conf.notices) ++ codes "ok\n"

-- the bytes are a configuration, and this is what there is to say of it
pub record IsCheckOf (bytes text : List ℕ) : Type 0 where
  pub conf : Configuration
  pub configured : IsConfOf bytes (Ok conf)
  pub says : text ≡ check_text conf

-- the fault is the first of the configuration
abbrev pub RefusesConfiguration : List ℕ → Status → Type 0
RefusesConfiguration bytes (status.Conf fault) = IsConfOf bytes (Err fault)
RefusesConfiguration bytes other = ⊥

abbrev pub checking : Work
checking = record { Gives = IsCheckOf; Finds = NothingFound; Refuses = RefusesConfiguration }

-- what check answers, by the input and by what is written before and after
abbrev pub IsCheckAnswer : Status → Option (List ℕ) → Option (List ℕ) → Option (List ℕ) → Type 0
IsCheckAnswer answer input old new = IsWorked checking answer input old new

-- the input is told, and it is a configuration within the limit
pub record TellsConfiguration (input : Option (List ℕ)) : Type 0 where
  pub bytes : List ℕ
  pub conf : Configuration
  pub told : input ≡ Some bytes
  pub in_limit : length bytes ≤ limit
  pub configured : IsConfOf bytes (Ok conf)
