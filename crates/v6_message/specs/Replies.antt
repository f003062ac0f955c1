-- A server's message (RFC 8415, section 8): a type of one byte, a transaction ID of three, and options.
use Rattle.std.specs.Prelude.{ℕ, Bool, List, [], ◌∷◌, length, drop, slice_index, Option, Some, None, unwrap_or, is_some, nat_lt, ◌==◌, if◌then◌else◌}
use Rattle.std.specs.Option.{option_map, option_and_then}
use Rattle.std.specs.Int.{w32, from_be_bytes}
use Rattle.v6_options.specs.Codes.{client_identifier, server_identifier, preference, rapid_commit, dns_servers, domain_list, sol_max_rt}
use Rattle.v6_options.specs.OptionArea.{Instance, field, instances_in}
use Rattle.v6_options.specs.OptionWalk.{first_of}
use Rattle.v6_options.specs.Nesting.{malformed_in}
use Rattle.v6_options.specs.Statuses.{status_in}
use Rattle.v6_message.specs.declared.kind.ServerKind6.{ServerKind6}
use Rattle.v6_message.specs.declared.reading.Bad6.{Bad6}
use Rattle.v6_message.specs.declared.reading.Bad6.TheVariants.{Short, Malformed, OtherType}
use Rattle.v6_message.specs.Kinds.{server_kind_by}

abbrev pub xid_in : List ℕ → ℕ
xid_in message = from_be_bytes w32 (0 ∷ field 1 3 message)

abbrev pub options_area : List ℕ → List ℕ
options_area message = drop 4 message

-- the fault of a message with a whole header: the first option that breaks the rule, or a type that no server says
abbrev pub fault_of : Option ℕ → Option ServerKind6 → Option Bad6
fault_of (Some place) kind = Some (Malformed place)
fault_of None None = Some OtherType
fault_of None (Some kind) = None

-- the first fault of a message, in this order
abbrev pub refusal_of : List ℕ → Option Bad6
refusal_of message =
    if nat_lt (length message) 4 then Some Short
    else fault_of (malformed_in 4 (options_area message)) (server_kind_by (slice_index message 0))

-- a preference of another length than one byte counts as none, which is 0 (RFC 8415, section 21.8)
abbrev pub preference_by : Option (List ℕ) → ℕ
preference_by None = 0
preference_by (Some []) = 0
preference_by (Some (value ∷ [])) = value
preference_by (Some (value ∷ more ∷ rest)) = 0

-- seconds in four bytes; another length counts as none (RFC 8415, section 21.24)
abbrev pub seconds_by : List ℕ → Option ℕ
seconds_by value = if length value == 4 then Some (from_be_bytes w32 value) else None

-- what a server's message says
pub record Content6 : Type 0 where
  pub kind : ServerKind6
  pub xid : ℕ
  pub client : Option (List ℕ)
  pub server : Option (List ℕ)
  pub status : ℕ
  pub preference : ℕ
  pub rapid : Bool
  pub sol_max : Option ℕ
  pub dns : List ℕ
  pub search : List ℕ
  pub options : List ℕ

-- of each option the first instance counts
abbrev pub content_of : List ℕ → List Instance → ServerKind6 → Content6
content_of message instances kind = record {
  kind = kind;
  xid = xid_in message;
  client = first_of client_identifier instances;
  server = first_of server_identifier instances;
  status = status_in (options_area message);
  preference = preference_by (first_of preference instances);
  rapid = is_some (first_of rapid_commit instances);
  sol_max = option_and_then seconds_by (first_of sol_max_rt instances);
  dns = unwrap_or (first_of dns_servers instances) [];
  search = unwrap_or (first_of domain_list instances) [];
  options = options_area message;
}

abbrev pub if_accepted : Option Bad6 → Option Content6 → Option Content6
if_accepted None content = content
if_accepted (Some bad) content = None

-- the server's message that the bytes are
unfoldable pub message6_in : List ℕ → Option Content6
message6_in message =
    if_accepted (refusal_of message)
    (option_map (content_of message (instances_in (options_area message))) (server_kind_by (slice_index message 0)))
