-- What a client's message says, read back from its bytes.
use Rattle.std.specs.Prelude.{ℕ, ◌≡◌, ◌≤◌, ◌<◌, ◌^◌, List, [], length, map, slice_index, Option, Some, None, unwrap_or, is_some, IfSome, bytes_eq, if◌then◌else◌}
use Rattle.std.specs.Option.{option_map, option_and_then}
use Rattle.std.specs.List.{AllByRecursion}
use Rattle.net_types.specs.declared.address.Net6.{Net6}
use Rattle.v6_options.specs.declared.ia.IaKind.{IaKind}
use Rattle.v6_options.specs.declared.ia.IaKind.TheVariants.{Na, Pd}
use Rattle.v6_options.specs.Layout.{address_bits}
use Rattle.v6_options.specs.Codes.{client_identifier, server_identifier, elapsed_time, rapid_commit}
use Rattle.v6_options.specs.OptionArea.{Instance, word_in, instances_in}
use Rattle.v6_options.specs.OptionWalk.{first_of}
use Rattle.v6_options.specs.Ias.{IaContent, ia_by}
use Rattle.std.specs.List.{filter_map}
use Rattle.v6_message.specs.declared.kind.Kind6.{Kind6}
use Rattle.v6_message.specs.Kinds.{kind_by}
use Rattle.v6_message.specs.Replies.{xid_in, options_area}
use Rattle.v6_message.specs.Requests.{AskedContent, SaidContent, message6_text}

abbrev pub asked_in : IaContent → AskedContent
asked_in ia = record { kind = ia.kind; iaid = ia.iaid; items = map (λ item. item.net) ia.items }

abbrev pub said_with : List ℕ → List Instance → Kind6 → SaidContent
said_with message instances kind = record {
  kind = kind;
  xid = xid_in message;
  client = unwrap_or (first_of client_identifier instances) [];
  server = first_of server_identifier instances;
  elapsed = word_in 0 (unwrap_or (first_of elapsed_time instances) []);
  rapid = is_some (first_of rapid_commit instances);
  ias = map asked_in (filter_map ia_by instances);
}

-- what a message seems to say; whether it does is asked of its bytes
unfoldable pub seems : List ℕ → Option SaidContent
seems message = option_map (said_with message (instances_in (options_area message))) (kind_by (slice_index message 0))

abbrev pub if_spelled : List ℕ → SaidContent → Option SaidContent
if_spelled message said = if bytes_eq message (message6_text said) then Some said else None

-- the client's message that the bytes spell, byte for byte
unfoldable pub said6_in : List ℕ → Option SaidContent
said6_in message = option_and_then (if_spelled message) (seems message)

-- ---- in range

abbrev pub FitsNet : IaKind → Net6 → Type 0
FitsNet Na net = (net.ip.number < 2 ^ 128) × (net.len ≡ address_bits)
FitsNet Pd net = (net.ip.number < 2 ^ 128) × (net.len ≤ address_bits)

pub record FitsAsked (ia : AskedContent) : Type 0 where
  pub iaid : ia.iaid < 2 ^ 32
  pub few : length ia.items ≤ 4
  pub items : AllByRecursion (FitsNet ia.kind) ia.items

pub record FitsSaid (said : SaidContent) : Type 0 where
  pub xid : said.xid < 2 ^ 24
  pub client : length said.client ≤ 130
  pub server : IfSome said.server (λ server. length server ≤ 130)
  pub elapsed : said.elapsed < 2 ^ 16
  pub ias : AllByRecursion FitsAsked said.ias
