-- The DUID of the host (RFC 8415, section 11): that of its file, else one made of a hardware address.
use Rattle.std.specs.Prelude.{ℕ, List, [], ◌∷◌, Option, None, option_and_then, unwrap_or}
use Rattle.duid_text.specs.DuidTexts.{duid_spelled, link_layer_duid}
use Rattle.world.specs.StoreCalls.{Reading, Found, Missing, Unread}
use Rattle.settings.specs.declared.interfaces.Managed.{Managed}

-- that of the managed interface of the lowest index, which is the first
abbrev pub made_duid : List Managed → List ℕ
made_duid [] = []
made_duid (managed ∷ others) = link_layer_duid managed.spec.mac

-- what was read, where it is the text of a DUID
abbrev pub duid_by : Reading → Option (List ℕ)
duid_by (Found bytes) = duid_spelled bytes
duid_by Missing = None
duid_by Unread = None

-- nothing is read where no interface needs it
abbrev pub host_duid : List Managed → (read : Option Reading) → List ℕ
host_duid managed read = unwrap_or (option_and_then duid_by read) (made_duid managed)
