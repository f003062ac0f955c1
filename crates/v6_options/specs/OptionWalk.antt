-- The options of an area, one after another; of a code the first instance counts.
use Rattle.std.specs.Prelude.{ℕ, List, [], ◌∷◌, Option, Some, None, ◌==◌, if◌then◌else◌}
use Rattle.v6_options.specs.declared.options.OptionView.{OptionView}
use Rattle.v6_options.specs.declared.options.Options.{Options}
use Rattle.v6_options.specs.OptionArea.{Instance, instances_in}

-- the value of the first instance of a code
abbrev pub first_of : ℕ → List Instance → Option (List ℕ)
first_of code [] = None
first_of code (instance ∷ others) = if instance.0 == code then Some instance.1 else first_of code others

abbrev pub instance_of : OptionView → Instance
instance_of option = (option.code, option.value.now)

-- the instances that are left of a walk
abbrev pub instances_left : Options → List Instance
instances_left walk = instances_in walk.rest.now
