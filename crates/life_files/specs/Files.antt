-- The files that a life keeps, as the code has them.
use Rattle.std.specs.Prelude.{ℕ, Bool, true, false, List, Option, option_map}
use Rattle.std.specs.Global.{Vec}
use Rattle.turn_model.specs.KeptFiles as model
use Rattle.life_files.specs.declared.keeping.Keeps.{Keeps}
use Rattle.life_files.specs.declared.keeping.Keeps.TheVariants as kept
use Rattle.life_files.specs.declared.kept.Knowledge.{Knowledge}
use Rattle.life_files.specs.declared.kept.Knowledge.TheVariants.{Whole, Partial}
use Rattle.life_files.specs.declared.keeping.Known.{Known}
use Rattle.life_files.specs.declared.keeping.Known.TheVariants as code

-- the bytes of a file; nothing stands for no such file
abbrev pub content_of : Option (Vec ℕ) → Option (List ℕ)
content_of bytes = option_map (λ v. v.items) bytes

abbrev pub known_of : Known → model.Known
known_of (code.Holds content) = model.Holds (content_of content)
known_of code.Unknown = model.Unknown
known_of code.Unread = model.Unread

abbrev pub keeps_of : Keeps → model.Keeps
keeps_of (kept.Duid duid) = model.Duid duid.bytes.items
keeps_of (kept.Lease4 iface) = model.Lease4 iface.number
keeps_of (kept.Lease6 iface) = model.Lease6 iface.number
keeps_of kept.Resolver = model.Resolver

-- some file is unknown
abbrev pub is_partial : Knowledge → Bool
is_partial Whole = false
is_partial Partial = true
