-- What the lines of a DHCPv6 lease's text that were read are: those of a lease, up to the next one.
use Rattle.std.specs.Prelude.{◌≡◌, ◌≢◌, ℕ, ◌^◌, ◌<◌, List, [], ◌∷◌, ◌++◌, length, map, flat_map, take, Option, Some, None}
use Rattle.std.specs.List.{AllByRecursion}
use Rattle.net_types.specs.declared.address.Mac.{Mac}
use Rattle.net_types.specs.declared.fault.BadText.{BadText}
use Rattle.net_types.specs.AddressText.{FitsMac}
use Rattle.net_types.specs.TextLines.{Line, Front}
use Rattle.v6_options.specs.declared.ia.IaKind.{IaKind}
use Rattle.lease_text.specs.declared.lease.Origin.{Origin}
use Rattle.lease_text.specs.Leases.{ValueContent}
use Rattle.lease_text.specs.LeaseLines.{option_line}
use Rattle.lease6_text.specs.declared.lease.TheConstants.{IA_LIMIT}
use Rattle.lease6_text.specs.declared.reading.NextLine.{NextLine}
use Rattle.lease6_text.specs.declared.reading.NextLine.TheVariants.{Version, Interface, OriginMac, Confirmed, Server, Renewal, Rebinding, FirstItem, Ias, Values, Nothing}
use Rattle.lease6_text.specs.Bounds.{HasText6, ia_key}
use Rattle.lease6_text.specs.LeaseLines.{origin_line, interface_line, mac_line, holder_lines, grant_lines, ia_line, ia_lines, head_lines, lease6_lines}
use Rattle.lease6_text.specs.LeaseReading.{Reading, lease_with, version_line}
use Rattle.lease6_text.specs.Leases.{IaLeaseContent, Lease6Content}

-- before its line, the server is anything that makes a lease which fits
abbrev pub server_in : Option (List ℕ) → List ℕ
server_in None = 0 ∷ 0 ∷ []
server_in (Some server) = server

abbrev pub lease_in : Reading → Lease6Content
lease_in reading = lease_with reading (server_in reading.server)

abbrev pub lines_before : NextLine → Lease6Content → List Line
lines_before Version lease = []
lines_before (Interface version) lease = version_line version ∷ []
lines_before OriginMac lease = origin_line ∷ interface_line lease.name ∷ []
lines_before (Confirmed mac) lease = origin_line ∷ interface_line lease.name ∷ mac_line mac ∷ []
lines_before Server lease = holder_lines lease.origin lease.name
lines_before Renewal lease = holder_lines lease.origin lease.name ++ take 1 (grant_lines lease)
lines_before Rebinding lease = holder_lines lease.origin lease.name ++ take 2 (grant_lines lease)
lines_before (FirstItem kind iaid) lease = head_lines lease ++ (flat_map ia_lines lease.ias ++ ia_line kind iaid ∷ [])
lines_before Ias lease = head_lines lease ++ flat_map ia_lines lease.ias
lines_before Values lease = head_lines lease ++ (flat_map ia_lines lease.ias ++ map option_line lease.values)
lines_before Nothing lease = lease6_lines lease

-- an IA of this kind and IAID may come after these
pub record CanBegin (ias : List IaLeaseContent) (key : IaKind × ℕ) : Type 0 where
  pub few : length ias < IA_LIMIT
  pub anew : AllByRecursion (λ ia. ia_key ia ≢ key) ias
  pub iaid : key.1 < 2 ^ 32

-- no origin was read before its lines, no IA before the lines of the IAs, and no value before those of the values
abbrev pub HasRead : NextLine → Option Origin → List IaLeaseContent → List ValueContent → Type 0
HasRead Version origin ias values = (origin ≡ None) × ((ias ≡ []) × (values ≡ []))
HasRead (Interface version) origin ias values = (origin ≡ None) × ((ias ≡ []) × (values ≡ []))
HasRead OriginMac origin ias values = (origin ≡ None) × ((ias ≡ []) × (values ≡ []))
HasRead (Confirmed mac) origin ias values = FitsMac mac × ((ias ≡ []) × (values ≡ []))
HasRead Server origin ias values = (ias ≡ []) × (values ≡ [])
HasRead Renewal origin ias values = (ias ≡ []) × (values ≡ [])
HasRead Rebinding origin ias values = (ias ≡ []) × (values ≡ [])
HasRead (FirstItem kind iaid) origin ias values = CanBegin ias (kind, iaid) × (values ≡ [])
HasRead Ias origin ias values = values ≡ []
HasRead Values origin ias values = Unit {0}
HasRead Nothing origin ias values = Unit {0}

-- These lines were read: they are those of the lease up to the next one.
pub record After (reading : Reading) (lines : List Line) : Type 0 where
  pub spelled : lines ≡ lines_before reading.next (lease_in reading)
  pub good : HasText6 (lease_in reading)
  pub read : HasRead reading.next reading.origin reading.ias reading.values

-- a bad line has no cause of its own
abbrev pub AnyCause : List Line → Front → BadText → Type 0
AnyCause lines front cause = Unit {0}
