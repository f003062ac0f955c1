-- A client's message, byte for byte (RFC 8415, sections 8, 18.2 and 21).
use Rattle.std.specs.Prelude.{ℕ, ◌+◌, Bool, true, false, List, [], ◌∷◌, ◌++◌, map, drop, replicate, Option, Some, None}
use Rattle.std.specs.Option.{option_map}
use Rattle.std.specs.List.{flat_map}
use Rattle.std.specs.Int.{w32, w128, to_be_bytes}
use Rattle.net_types.specs.declared.address.Net6.{Net6}
use Rattle.v6_options.specs.declared.duid.Duid.{Duid}
use Rattle.v6_options.specs.declared.ia.IaKind.{IaKind}
use Rattle.v6_options.specs.declared.ia.IaKind.TheVariants.{Na, Pd}
use Rattle.v6_options.specs.Layout.{header_len, address_fields_len, prefix_fields_len}
use Rattle.v6_options.specs.Codes.{client_identifier, server_identifier, ia_na, ia_address, option_request, elapsed_time, rapid_commit, dns_servers, domain_list, ia_pd, ia_prefix, sol_max_rt}
use Rattle.v6_options.specs.OptionArea.{Instance}
use Rattle.v6_options.specs.OptionGrammar.{word_text, option_text}
use Rattle.v6_message.specs.declared.kind.Kind6.{Kind6}
use Rattle.v6_message.specs.declared.kind.Kind6.TheVariants.{Solicit, Request, Renew, Rebind, Release, Decline}
use Rattle.v6_message.specs.declared.said.IaAsked.{IaAsked}
use Rattle.v6_message.specs.declared.said.Said6.{Said6}
use Rattle.v6_message.specs.Kinds.{number_of_kind}

-- what a client says, with each vector as its elements
pub record AskedContent : Type 0 where
  pub kind : IaKind
  pub iaid : ℕ
  pub items : List Net6

pub record SaidContent : Type 0 where
  pub kind : Kind6
  pub xid : ℕ
  pub client : List ℕ
  pub server : Option (List ℕ)
  pub elapsed : ℕ
  pub rapid : Bool
  pub ias : List AskedContent

abbrev pub asked_content : IaAsked → AskedContent
asked_content ia = record { kind = ia.kind; iaid = ia.iaid; items = ia.items.items }

abbrev pub said_content : Said6 → Duid → SaidContent
said_content said client = record {
  kind = said.kind;
  xid = said.xid;
  client = client.bytes.items;
  server = option_map (λ server. server.bytes.items) said.server;
  elapsed = said.elapsed;
  rapid = said.rapid;
  ias = map asked_content said.ias.items;
}

-- ---- the options

-- both lifetimes of an item, or T1 and T2: a client leaves them to the server
abbrev pub no_times : List ℕ
no_times = replicate 8 0

abbrev pub item_of : IaKind → Net6 → Instance
item_of Na net = (ia_address, to_be_bytes w128 net.ip.number ++ no_times)
item_of Pd net = (ia_prefix, no_times ++ net.len ∷ to_be_bytes w128 net.ip.number)

-- how many bytes an item takes, with its code and its length
abbrev pub item_len : IaKind → ℕ
item_len Na = header_len + address_fields_len
item_len Pd = header_len + prefix_fields_len

abbrev pub options_text : List Instance → List ℕ
options_text instances = flat_map (λ instance. option_text instance.0 instance.1) instances

abbrev pub code_of : IaKind → ℕ
code_of Na = ia_na
code_of Pd = ia_pd

abbrev pub ia_value : AskedContent → List ℕ
ia_value ia = to_be_bytes w32 ia.iaid ++ no_times ++ options_text (map (item_of ia.kind) ia.items)

abbrev pub ia_option : AskedContent → Instance
ia_option ia = (code_of ia.kind, ia_value ia)

abbrev pub server_options : Option (List ℕ) → List Instance
server_options None = []
server_options (Some server) = (server_identifier, server) ∷ []

abbrev pub rapid_options : Bool → List Instance
rapid_options false = []
rapid_options true = (rapid_commit, []) ∷ []

-- the options that a client wants
abbrev pub wanted : List Instance
wanted = (option_request, word_text dns_servers ++ word_text domain_list ++ word_text sol_max_rt) ∷ []

-- one that gives back or declines wants none
abbrev pub wanted_in : Kind6 → List Instance
wanted_in Solicit = wanted
wanted_in Request = wanted
wanted_in Renew = wanted
wanted_in Rebind = wanted
wanted_in Release = []
wanted_in Decline = []

-- the options of a message, in their order
abbrev pub said_options : SaidContent → List Instance
said_options said =
    (client_identifier, said.client) ∷ (server_options said.server
    ++ ((elapsed_time, word_text said.elapsed) ∷ (rapid_options said.rapid
    ++ (map ia_option said.ias ++ wanted_in said.kind))))

-- ---- the bytes

-- a transaction ID is three bytes
abbrev pub xid_text : ℕ → List ℕ
xid_text xid = drop 1 (to_be_bytes w32 xid)

abbrev pub message6_text : SaidContent → List ℕ
message6_text said = number_of_kind said.kind ∷ xid_text said.xid ++ options_text (said_options said)
