-- A text has one configuration or one first fault.
use Rattle.std.specs.Prelude.{◌≡◌, ℕ, List, [], Result, Err, Some, None}
use Rattle.conf_words.specs.Directives.{Directive}
use Rattle.conf_text.specs.declared.answers.ConfAnswer.{ConfAnswer}
use Rattle.conf_text.specs.declared.answers.ConfAnswer.TheVariants.{Bad, NoMemory}
use Rattle.conf_text.specs.declared.answers.ConfFault.{ConfFault}
use Rattle.conf_text.specs.Configurations.{Configuration, configured, IsConfOf}
use Rattle.conf_text.specs.Faults.{first_fault}
use Rattle.conf_text.specs.Standings.{Standing, Stand}

abbrev pub ConfigurationIsOne : Type 0
ConfigurationIsOne =
    (text : List ℕ) (one other : Result Configuration ConfFault) → IsConfOf text one → IsConfOf text other → one ≡ other

-- the fault named is the text's first one
abbrev pub Refuses : List ℕ → ConfAnswer → Type 0
Refuses text (Bad fault) = IsConfOf text (Err fault)
Refuses text NoMemory = Unit {0}

-- lines without a fault say this
abbrev pub AreLinesOf : List Directive → Configuration → Type 0
AreLinesOf lines conf =
    (front : List Standing) × Stand lines front [] × (first_fault front ≡ None) × (conf ≡ configured front)

pub record HasFault (lines : List Directive) (fault : ConfFault) : Type 0 where
  pub front : List Standing
  pub rest : List Directive
  pub stand : Stand lines front rest
  pub first : first_fault front ≡ Some fault

abbrev pub RefusesLines : List Directive → ConfAnswer → Type 0
RefusesLines lines (Bad fault) = HasFault lines fault
RefusesLines lines NoMemory = Unit {0}
