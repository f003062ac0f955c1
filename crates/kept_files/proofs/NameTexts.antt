-- The bytes of an interface's name.
use Rattle.std.proofs.Common.{◌≡◌, take, refl}
use Rattle.net_types.specs.declared.interface.Name.{Name}
use Rattle.net_types.specs.NameText.{name_text}

-- the bytes of a name are its text
pub text_of_name : (name : Name) → take name.len name.bytes ≡ name_text name
unfolding name_text
text_of_name name = refl
