-- What goes through lines, by the states that it tells.
use Rattle.std.specs.Prelude.{ℕ, List, Ok}
use Rattle.conf_text.specs.Configurations.{Configuration, IsConfOf}

-- some text has this configuration
pub record IsRead (configuration : Configuration) : Type 0 where
  pub text : List ℕ
  pub is : IsConfOf text (Ok configuration)

-- what is held is so in a state that comes of the text
pub record Reaches {F J : Type 0} (Tells : F → J → Type 0) (Comes : J → Type 0) (end : F) : Type 0 where
  pub state : J
  pub comes : Comes state
  pub tells : Tells end state
