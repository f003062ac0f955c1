-- That each value is what its form says, where what a hook is told of is within its bounds: an address is one, and a
-- number has its limit.
use Rattle.std.specs.Prelude.{◌<◌, ◌^◌, List}
use Rattle.std.specs.List.{AllByRecursion}
use Rattle.net_types.specs.AddressText.{FitsNet4, FitsNet6}
use Rattle.net_types.specs.NameText.{FitsName}
use Rattle.lease_text.specs.Bounds.{HasText}
use Rattle.lease6_text.specs.Bounds.{HasText6}
use Rattle.world.specs.HookCalls.{Variable}
use Rattle.hook_env.specs.Jobs.{made_variables}
use Rattle.hook_env.specs.Situations.{HeldContent, SituationContent, Nothing, Leased4, Address4, Leased6, Delegated}
use Rattle.safe_texts.specs.Grammars.{Form, IsOfForm}
use Rattle.safe_texts.specs.SafeVariables.{IsNamed, IsSafe}

-- a lease is one that has a text, as each is that is granted or read; an address and its length are such
abbrev pub FitsHeld : HeldContent → Type 0
FitsHeld Nothing = Unit {0}
FitsHeld (Leased4 lease) = HasText lease
FitsHeld (Address4 net) = FitsNet4 net
FitsHeld (Leased6 lease) = HasText6 lease
FitsHeld (Delegated net) = FitsNet6 net

pub record FitsSituation (situation : SituationContent) : Type 0 where
  pub name : FitsName situation.interface.name
  pub metric : situation.metric < 2 ^ 32
  pub held_before : FitsHeld situation.held_before
  pub held_now : FitsHeld situation.held_now

-- the variable has a form by its name, and its value is what that says
pub record IsExact (variable : Variable) : Type 0 where
  pub form : Form
  pub named : IsNamed variable.name form
  pub exact : IsOfForm form variable.value

abbrev pub AreExact : List Variable → Type 0
AreExact variables = AllByRecursion IsExact variables

-- What is made of an event is so, whatever lease is held.
abbrev pub MadeVariablesAreExact : Type 0
MadeVariablesAreExact = (situation : SituationContent) → FitsSituation situation → AreExact (made_variables situation)

-- Such a variable is safe to read.
abbrev pub ExactVariablesAreSafe : Type 0
ExactVariablesAreSafe = (variable : Variable) → IsExact variable → IsSafe variable
