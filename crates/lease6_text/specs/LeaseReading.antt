-- How the lines of a DHCPv6 lease's text are read: which one comes next, and what those before it said.
use Rattle.std.specs.Prelude.{ℕ, List, [], ◌∷◌, ◌++◌, replicate, Option, Some, None, option_map}
use Rattle.net_types.specs.declared.address.Mac.{Mac}
use Rattle.net_types.specs.declared.interface.Name.{Name}
use Rattle.lease_text.specs.FieldLaws.Kinds.{mac_field, name_field, number_field}
use Rattle.net_types.specs.declared.moment.TheConstants.{MOMENT_LIMIT}
use Rattle.net_types.specs.Cutting.{Choices, after_word, by_word, choose_at, end_at, guarded, strip_word}
use Rattle.net_types.specs.TextLines.{Line}
use Rattle.v6_options.specs.declared.ia.IaKind.{IaKind}
use Rattle.lease_text.specs.declared.lease.Origin.{Origin}
use Rattle.lease_text.specs.Leases.{ValueContent, values_content}
use Rattle.lease_text.specs.LeaseLines.{confirmed_word, end_line, interface_word, mac_word, option_word}
use Rattle.lease_text.specs.LeaseReading.{last_code}
use Rattle.lease6_text.specs.declared.lease.Item6.{Item6}
use Rattle.lease6_text.specs.declared.reading.NextLine.{NextLine}
use Rattle.lease6_text.specs.declared.reading.TextVersion.{TextVersion}
use Rattle.lease6_text.specs.declared.reading.TextVersion.TheVariants.{Plain, WithOrigin}
use Rattle.lease6_text.specs.declared.reading.NextLine.TheVariants.{Version, Interface, OriginMac, Confirmed, Server, Renewal, Rebinding, FirstItem, Ias, Values, Nothing}
use Rattle.lease6_text.specs.declared.reading.LeaseState.{LeaseState}
use Rattle.lease6_text.specs.LeaseLines.{plain_line, origin_line, server_word, renewal_word, rebinding_word, ia_word, item_word}
use Rattle.lease6_text.specs.Leases.{IaLeaseContent, Lease6Content, ias_content}
use Rattle.lease6_text.specs.LineParts.{server_at, moment_at, ia_at, may_begin, item_at, may_join, value6_at}

-- the line that comes next, and what those before it said
pub record Reading : Type 0 where
  pub next : NextLine
  pub origin : Option Origin
  pub name : Name
  pub server : Option (List ℕ)
  pub t1 : Option ℕ
  pub t2 : Option ℕ
  pub ias : List IaLeaseContent
  pub values : List ValueContent

abbrev pub reading_of : LeaseState → Reading
reading_of state = record {
  next = state.next;
  origin = state.origin;
  name = state.name;
  server = option_map (λ duid. duid.bytes.items) state.server;
  t1 = state.t1;
  t2 = state.t2;
  ias = ias_content state.ias.items;
  values = values_content state.values.items;
}

-- ---- what a line adds

abbrev pub goes_to : NextLine → Reading → Reading
goes_to next reading = record reading { next = next }

-- an IA begins, if it may
abbrev pub begun : Reading → List ℕ → Option Reading
begun reading rest =
    option_map (λ key. goes_to (FirstItem key.0 key.1) reading) (guarded (may_begin reading.ias) (ia_at rest))

-- an IA with its first item
abbrev pub with_ia : Reading → IaKind → (iaid : ℕ) → Item6 → Reading
with_ia reading kind iaid item =
    record reading { next = Ias; ias = reading.ias ++ (record { kind = kind; iaid = iaid; items = item ∷ [] }) ∷ [] }

-- the text after the word of an item of the last IA
abbrev pub item_rest : List IaLeaseContent → Line → Option (List ℕ)
item_rest [] line = None
item_rest (ia ∷ []) line = strip_word (item_word ia.kind) line
item_rest (ia ∷ other ∷ ias) line = item_rest (other ∷ ias) line

-- an IA with the item that a text spells, if it may have it
abbrev pub ia_joined : List ℕ → IaLeaseContent → Option IaLeaseContent
ia_joined rest ia =
    option_map (λ item. record ia { items = ia.items ++ item ∷ [] })
    (guarded (may_join ia.items) (item_at ia.kind rest))

-- IAs of which the last one changes
abbrev pub last_changed : (IaLeaseContent → Option IaLeaseContent) → List IaLeaseContent → Option (List IaLeaseContent)
last_changed change [] = None
last_changed change (ia ∷ []) = option_map (λ new. new ∷ []) (change ia)
last_changed change (ia ∷ other ∷ ias) = option_map (λ new. ia ∷ new) (last_changed change (other ∷ ias))

abbrev pub item_added : Reading → List ℕ → Option Reading
item_added reading rest =
    option_map (λ ias. record reading { next = Ias; ias = ias }) (last_changed (ia_joined rest) reading.ias)

abbrev pub with_value : Reading → ValueContent → Reading
with_value reading value = record reading { next = Values; values = reading.values ++ value ∷ [] }

-- a value more, or the last line
unfoldable pub value_step : Reading → Line → Option Reading
value_step reading line =
    by_word (strip_word option_word line)
    (λ rest. option_map (with_value reading) (value6_at (last_code reading.values) rest))
    (option_map (λ _. goes_to Nothing reading) (after_word end_line end_at line))

-- ---- to whom it was granted

-- which version of the text it is
abbrev pub version_line : TextVersion → Line
version_line Plain = plain_line
version_line WithOrigin = origin_line

abbrev pub of_version : TextVersion → List ℕ × (List ℕ → Option TextVersion)
of_version version = (version_line version, λ rest. option_map (λ _. version) (end_at rest))

abbrev pub versions : Choices TextVersion
versions = of_version Plain ∷ of_version WithOrigin ∷ []

abbrev pub version_at : Line → Option TextVersion
version_at line = choose_at versions line

-- the second version tells the origin next
abbrev pub after_interface : TextVersion → NextLine
after_interface Plain = Server
after_interface WithOrigin = OriginMac

abbrev pub with_origin : Reading → Mac → (at : ℕ) → Reading
with_origin reading mac at = record reading { next = Server; origin = Some (record { mac = mac; confirmed = at }) }

-- ---- the lines one after another

unfoldable pub step_at : NextLine → Reading → Line → Option Reading
step_at Version reading line = option_map (λ version. goes_to (Interface version) reading) (version_at line)
step_at (Interface version) reading line =
    option_map (λ name. record reading { next = after_interface version; name = name })
    (after_word interface_word name_field.at line)
step_at OriginMac reading line =
    option_map (λ mac. goes_to (Confirmed mac) reading) (after_word mac_word mac_field.at line)
step_at (Confirmed mac) reading line =
    option_map (with_origin reading mac) (after_word confirmed_word (number_field MOMENT_LIMIT).at line)
step_at Server reading line =
    option_map (λ server. record reading { next = Renewal; server = Some server })
    (after_word server_word server_at line)
step_at Renewal reading line =
    option_map (λ t1. record reading { next = Rebinding; t1 = t1 }) (after_word renewal_word moment_at line)
step_at Rebinding reading line =
    option_map (λ t2. record reading { next = Ias; t2 = t2 }) (after_word rebinding_word moment_at line)
step_at (FirstItem kind iaid) reading line =
    option_map (with_ia reading kind iaid) (after_word (item_word kind) (item_at kind) line)
step_at Ias reading line =
    by_word (strip_word ia_word line) (begun reading)
    (by_word (item_rest reading.ias line) (item_added reading) (value_step reading line))
step_at Values reading line = value_step reading line
step_at Nothing reading line = None

abbrev pub step : Reading → Line → Option Reading
step reading line = step_at reading.next reading line

abbrev pub lease_with : Reading → (server : List ℕ) → Lease6Content
lease_with reading server =
    record {
      origin = reading.origin;
      name = reading.name;
      server = server;
      t1 = reading.t1;
      t2 = reading.t2;
      ias = reading.ias;
      values = reading.values;
    }

abbrev pub given_at : NextLine → Reading → Option Lease6Content
given_at Version reading = None
given_at (Interface version) reading = None
given_at OriginMac reading = None
given_at (Confirmed mac) reading = None
given_at Server reading = None
given_at Renewal reading = None
given_at Rebinding reading = None
given_at (FirstItem kind iaid) reading = None
given_at Ias reading = None
given_at Values reading = None
given_at Nothing reading = option_map (lease_with reading) reading.server

abbrev pub given : Reading → Option Lease6Content
given reading = given_at reading.next reading

-- before the first line: what no line said yet is anything that makes a lease which fits
abbrev pub start : Reading
start = record {
  next = Version;
  origin = None;
  name = record { bytes = 97 ∷ replicate 14 0; len = 1 };
  server = None;
  t1 = None;
  t2 = None;
  ias = [];
  values = [];
}
