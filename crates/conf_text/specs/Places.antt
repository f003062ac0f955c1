-- Where a line of a configuration stands: in front of all blocks, in the block of an interface, or in one that is
-- skipped.
use Rattle.std.specs.Prelude.{Bool, true, false, Option, Some, None, bytes_eq}
use Rattle.net_types.specs.declared.interface.Name.{Name}
use Rattle.net_types.specs.NameText.{name_text}

pub data Place : Type 0 where
  Global : Place
  Block : Name → Place
  Skipped : Place

abbrev pub is_named : Name → Name → Bool
is_named name other = bytes_eq (name_text other) (name_text name)

abbrev pub is_place : Place → Place → Bool
is_place Global Global = true
is_place (Block name) (Block other) = is_named name other
is_place Skipped Skipped = true
is_place _ _ = false

-- the interface that has the block
abbrev pub interface_of : Option Place → Option Name
interface_of (Some (Block name)) = Some name
interface_of _ = None
