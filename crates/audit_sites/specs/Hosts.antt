-- What the head of a transcript and its interfaces tell.
use Rattle.std.specs.Prelude.{ℕ, List, Ok}
use Rattle.net_types.specs.declared.interface.IfSpec.{IfSpec}
use Rattle.conf_text.specs.Configurations.{Configuration, IsConfOf}

-- what is configured, and the interfaces so far
pub record Host : Type 0 where
  pub configuration : Configuration
  pub ifaces : List IfSpec

-- some text has this configuration
pub record IsRead (configuration : Configuration) : Type 0 where
  pub text : List ℕ
  pub is : IsConfOf text (Ok configuration)
