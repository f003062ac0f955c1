-- How the lines of a lease's text are read: what each says, and which one comes next.
use Rattle.std.specs.Prelude.{ℕ, ◌^◌, Bool, ◌&&◌, nat_le, nat_lt, ◌==◌, ◌≡◌, List, [], ◌∷◌, ◌++◌, length, map, replicate, take, Option, Some, None, is_some, true, option_map, if◌then◌else◌}
use Rattle.net_types.specs.declared.fault.BadText.{BadText}
use Rattle.net_types.specs.declared.interface.Name.{Name}
use Rattle.net_types.specs.declared.address.Mac.{Mac}
use Rattle.net_types.specs.declared.address.Net4.{Net4}
use Rattle.net_types.specs.AddressText.{ip4_at, mac_at, net4_at}
use Rattle.net_types.specs.Cutting.{after_word, by_word, end_at, guarded, pair_at, strip_word}
use Rattle.net_types.specs.HexText.{hex_at}
use Rattle.net_types.specs.NameText.{name_at}
use Rattle.net_types.specs.Numbers.{number_at}
use Rattle.net_types.specs.TextLines.{Line, AreLines, Front}
use Rattle.net_types.specs.declared.moment.TheConstants.{MOMENT_LIMIT}
use Rattle.lease_text.specs.declared.lease.Origin.{Origin}
use Rattle.lease_text.specs.declared.lease.Terms4.{Terms4}
use Rattle.lease_text.specs.declared.lease.TheConstants.{INFINITE_LEASE, VALUE_LIMIT}
use Rattle.lease_text.specs.declared.reading.LeaseLine.{LeaseLine}
use Rattle.lease_text.specs.declared.reading.LeaseLine.TheVariants.{Version, Interface, Term, Values, Nothing}
use Rattle.lease_text.specs.declared.reading.LeaseState.{LeaseState}
use Rattle.lease_text.specs.declared.reading.TermLine.{TermLine}
use Rattle.lease_text.specs.declared.reading.TermLine.TheVariants.{OriginMac, Confirmed, Address, Server, ServerMac, First, LeaseTime, Renewal, Rebinding}
use Rattle.lease_text.specs.Bounds.{HasText}
use Rattle.lease_text.specs.Leases.{ValueContent, LeaseContent, lease_with, values_content, is_host_address}
use Rattle.lease_text.specs.LeaseLines.{first_version, second_version, version_line, end_line, interface_word, mac_word, confirmed_word, address_word, server_word, server_mac_word, first_word, lease_word, renewal_word, rebinding_word, option_word, option_line, holder_lines, grant_lines, head_lines, lease4_lines}
use Rattle.v4_options.specs.OptionTable.{is_kept}
use Rattle.v4_options.specs.ValueForms.{is_well_formed}

-- the line that comes next, and what those before it said; what no line said yet is anything that makes a lease which
-- fits
pub record Reading : Type 0 where
  pub next : LeaseLine
  pub name : Name
  pub terms : Terms4
  pub values : List ValueContent

abbrev pub reading_of : LeaseState → Reading
reading_of state = record {
  next = state.next;
  name = state.name;
  terms = state.terms;
  values = values_content state.values.items;
}

abbrev pub lease_in : Reading → LeaseContent
lease_in reading = lease_with reading.name reading.terms reading.values

-- ---- what a line says

unfoldable pub host_net_at : List ℕ → Option Net4
host_net_at text = guarded (λ net. is_host_address net.ip) (net4_at text)

unfoldable pub seconds_at : (low high : ℕ) → List ℕ → Option ℕ
seconds_at low high text = guarded (λ n. nat_le low n && nat_le n high) (number_at (2 ^ 32) text)

-- the least first moment of renewal: that of an infinite lease never comes
abbrev pub least_renewal : (lease : ℕ) → ℕ
least_renewal lease = if lease == INFINITE_LEASE then INFINITE_LEASE else 0

-- an origin that no line told of yet is anything that fits
abbrev pub untold_origin : Origin
untold_origin = record { mac = record { bytes = replicate 6 0 }; confirmed = 0 }

abbrev pub with_mac : Option Origin → Mac → Option Origin
with_mac None mac = None
with_mac (Some origin) mac = Some (record origin { mac = mac })

abbrev pub with_confirmed : Option Origin → ℕ → Option Origin
with_confirmed None at = None
with_confirmed (Some origin) at = Some (record origin { confirmed = at })

-- the terms with what a line says; the later times are those of a lease that is never renewed, until their lines come
unfoldable pub term_in : TermLine → Terms4 → Line → Option Terms4
term_in OriginMac terms line =
    option_map (λ mac. record terms { origin = with_mac terms.origin mac }) (after_word mac_word mac_at line)
term_in Confirmed terms line =
    option_map (λ at. record terms { origin = with_confirmed terms.origin at })
    (after_word confirmed_word (number_at MOMENT_LIMIT) line)
term_in Address terms line = option_map (λ net. record terms { net = net }) (after_word address_word host_net_at line)
term_in Server terms line = option_map (λ server. record terms { server = server }) (after_word server_word ip4_at line)
term_in ServerMac terms line =
    option_map (λ mac. record terms { server_mac = mac }) (after_word server_mac_word mac_at line)
term_in First terms line =
    option_map (λ first. record terms { first = first }) (after_word first_word (number_at MOMENT_LIMIT) line)
term_in LeaseTime terms line =
    option_map (λ lease. record terms { lease = lease; t1 = lease; t2 = lease })
    (after_word lease_word (seconds_at 1 INFINITE_LEASE) line)
term_in Renewal terms line =
    option_map (λ t1. record terms { t1 = t1; t2 = terms.lease })
    (after_word renewal_word (seconds_at (least_renewal terms.lease) terms.lease) line)
term_in Rebinding terms line =
    option_map (λ t2. record terms { t2 = t2 }) (after_word rebinding_word (seconds_at terms.t1 terms.lease) line)

-- the line after it
abbrev pub after_term : TermLine → LeaseLine
after_term OriginMac = Term Confirmed
after_term Confirmed = Term Address
after_term Address = Term Server
after_term Server = Term ServerMac
after_term ServerMac = Term First
after_term First = Term LeaseTime
after_term LeaseTime = Term Renewal
after_term Renewal = Term Rebinding
after_term Rebinding = Values

abbrev pub last_code : List ValueContent → ℕ
last_code [] = 0
last_code (value ∷ []) = value.code
last_code (value ∷ other ∷ values) = last_code (other ∷ values)

-- a value that is kept and well formed, with a code above the one before it
abbrev pub may_follow : (before : ℕ) → ValueContent → Bool
may_follow before value =
    nat_lt before value.code && is_kept value.code && nat_le (length value.bytes) VALUE_LIMIT
    && is_well_formed value.code value.bytes

unfoldable pub value_at : (before : ℕ) → List ℕ → Option ValueContent
value_at before text =
    guarded (may_follow before)
    (option_map (λ p. record { code = p.0; bytes = p.1 }) (pair_at 32 (number_at 256) hex_at text))

-- ---- the lines one after another

abbrev pub with_value : Reading → ValueContent → Reading
with_value reading value = record reading { values = reading.values ++ value ∷ [] }

abbrev pub goes_to : LeaseLine → Reading → Reading
goes_to next reading = record reading { next = next }

abbrev pub by_version : {X : Type 0} → Option X → Option (Option Origin) → Option (Option Origin)
by_version (Some first) second = Some None
by_version None second = second

-- whether a version tells an origin
unfoldable pub version_at : Line → Option (Option Origin)
version_at line =
    by_version (after_word first_version end_at line)
    (option_map (λ _. Some untold_origin) (after_word second_version end_at line))

abbrev pub of_version : Option Origin → Reading → Reading
of_version origin reading = record reading { next = Interface; terms = record reading.terms { origin = origin } }

-- the second version tells the origin next
abbrev pub after_interface : Option Origin → LeaseLine
after_interface None = Term Address
after_interface (Some origin) = Term OriginMac

unfoldable pub step_at : LeaseLine → Reading → Line → Option Reading
step_at Version reading line = option_map (λ origin. of_version origin reading) (version_at line)
step_at Interface reading line =
    option_map (λ name. record reading { next = after_interface reading.terms.origin; name = name })
    (after_word interface_word name_at line)
step_at (Term term) reading line =
    option_map (λ terms. record reading { next = after_term term; terms = terms }) (term_in term reading.terms line)
step_at Values reading line =
    by_word (strip_word option_word line)
    (λ rest. option_map (with_value reading) (value_at (last_code reading.values) rest))
    (option_map (λ _. goes_to Nothing reading) (after_word end_line end_at line))
step_at Nothing reading line = None

abbrev pub step : Reading → Line → Option Reading
step reading line = step_at reading.next reading line

abbrev pub given_at : LeaseLine → Reading → Option LeaseContent
given_at Version reading = None
given_at Interface reading = None
given_at (Term term) reading = None
given_at Values reading = None
given_at Nothing reading = Some (lease_in reading)

abbrev pub given : Reading → Option LeaseContent
given reading = given_at reading.next reading

-- before the first line
abbrev pub first_terms : Terms4
first_terms = record {
  origin = None;
  net = record { ip = record { number = 2 ^ 24 }; len = 0 };
  server = record { number = 0 };
  server_mac = record { bytes = replicate 6 0 };
  first = 0;
  lease = 1;
  t1 = 0;
  t2 = 0;
}

abbrev pub start : Reading
start =
    record { next = Version; name = record { bytes = 97 ∷ replicate 14 0; len = 1 }; terms = first_terms; values = [] }

-- ---- what was read

-- the lines of the holder before that of a term
abbrev pub holder_before : TermLine → LeaseContent → List Line
holder_before OriginMac lease = take 2 (holder_lines lease)
holder_before Confirmed lease = take 3 (holder_lines lease)
holder_before term lease = holder_lines lease

-- how many lines of the grant come before that of a term
abbrev pub grant_above : TermLine → ℕ
grant_above Server = 1
grant_above ServerMac = 2
grant_above First = 3
grant_above LeaseTime = 4
grant_above Renewal = 5
grant_above Rebinding = 6
grant_above term = 0

abbrev pub lines_before : LeaseLine → LeaseContent → List Line
lines_before Version lease = []
lines_before Interface lease = version_line lease.origin ∷ []
lines_before (Term term) lease = holder_before term lease ++ take (grant_above term) (grant_lines lease)
lines_before Values lease = head_lines lease ++ map option_line lease.values
lines_before Nothing lease = lease4_lines lease

-- no value was read before the lines of the values
abbrev pub HasValues : LeaseLine → List ValueContent → Type 0
HasValues Version values = values ≡ []
HasValues Interface values = values ≡ []
HasValues (Term term) values = values ≡ []
HasValues Values values = Unit {0}
HasValues Nothing values = Unit {0}

-- the lines of an origin come where there is one
abbrev pub HasOrigin : LeaseLine → Option Origin → Type 0
HasOrigin (Term OriginMac) origin = is_some origin ≡ true
HasOrigin (Term Confirmed) origin = is_some origin ≡ true
HasOrigin next origin = Unit {0}

pub record IsSound (reading : Reading) : Type 0 where
  pub good : HasText (lease_in reading)
  pub values : HasValues reading.next reading.values
  pub origin : HasOrigin reading.next reading.terms.origin

-- These lines were read: they are those of the lease up to the next one.
pub record After (reading : Reading) (lines : List Line) : Type 0 where
  pub are : AreLines lines
  pub spelled : lines ≡ lines_before reading.next (lease_in reading)
  pub sound : IsSound reading

-- a bad line has no cause of its own
abbrev pub AnyCause : List Line → Front → BadText → Type 0
AnyCause lines front cause = Unit {0}
