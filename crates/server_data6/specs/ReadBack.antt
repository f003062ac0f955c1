-- What a client reads in a DHCPv6 server's message.
use Rattle.std.specs.Prelude.{ℕ, ◌<◌, ◌^◌, List, [], length, Option, Some, None, unwrap_or, IfSome, ◌==◌, if◌then◌else◌}
use Rattle.std.specs.List.{AllByRecursion, filter_map}
use Rattle.net_types.specs.declared.address.Ip6.{Ip6}
use Rattle.v6_options.specs.declared.ia.IaKind.{IaKind}
use Rattle.v6_options.specs.declared.ia.ItemSaid.{ItemSaid}
use Rattle.v6_options.specs.Ias.{IaContent}
use Rattle.v6_message.specs.Replies.{Content6}
use Rattle.v6_message.specs.Requests.{options_text}
use Rattle.v6_message.specs.ReadBack.{FitsNet}
use Rattle.server_data6.specs.Spoken.{StatusText, GivenItem, GivenIa, Reply6}
use Rattle.server_data6.specs.ReplyTexts.{status_text, item_value, ia_value, servers_text, reply6_options}

-- without a status all went well
abbrev pub status_number : Option StatusText → ℕ
status_number None = 0
status_number (Some status) = status.number

-- an address or a prefix whose own status is a failure isn't given
abbrev pub item_given : GivenItem → Option ItemSaid
item_given item =
    if status_number item.status == 0
    then Some (record { net = item.net; preferred = item.preferred; valid = item.valid })
    else None

abbrev pub ia_given : GivenIa → IaContent
ia_given ia = record {
  kind = ia.kind;
  iaid = ia.iaid;
  t1 = ia.t1;
  t2 = ia.t2;
  status = status_number ia.status;
  items = filter_map item_given ia.items;
}

-- a preference that is left out is 0
abbrev pub reply6_content : Reply6 → Content6
reply6_content reply = record {
  kind = reply.kind;
  xid = reply.xid;
  client = reply.client;
  server = reply.server;
  status = status_number reply.status;
  preference = unwrap_or reply.preference 0;
  rapid = reply.rapid;
  sol_max = reply.sol_max;
  dns = servers_text reply.dns;
  search = unwrap_or reply.search [];
  options = options_text (reply6_options reply);
}

-- ---- in range: each number has its width, and each value a length that two bytes hold

abbrev pub FitsValue : List ℕ → Type 0
FitsValue value = length value < 2 ^ 16

pub record FitsStatus (status : StatusText) : Type 0 where
  pub number : status.number < 2 ^ 16
  pub size : FitsValue (status_text status)

pub record FitsItem (kind : IaKind) (item : GivenItem) : Type 0 where
  pub net : FitsNet kind item.net
  pub preferred : item.preferred < 2 ^ 32
  pub valid : item.valid < 2 ^ 32
  pub status : IfSome item.status FitsStatus
  pub size : FitsValue (item_value kind item)

pub record FitsIa (ia : GivenIa) : Type 0 where
  pub iaid : ia.iaid < 2 ^ 32
  pub t1 : ia.t1 < 2 ^ 32
  pub t2 : ia.t2 < 2 ^ 32
  pub status : IfSome ia.status FitsStatus
  pub items : AllByRecursion (FitsItem ia.kind) ia.items
  pub size : FitsValue (ia_value ia)

abbrev pub FitServers : List Ip6 → Type 0
FitServers servers = AllByRecursion (λ ip. ip.number < 2 ^ 128) servers

pub record FitsReply6 (reply : Reply6) : Type 0 where
  pub xid : reply.xid < 2 ^ 24
  pub client : IfSome reply.client FitsValue
  pub server : IfSome reply.server FitsValue
  pub status : IfSome reply.status FitsStatus
  pub ias : AllByRecursion FitsIa reply.ias
  pub dns : FitsValue (servers_text reply.dns)
  pub search : IfSome reply.search FitsValue
  pub sol_max : IfSome reply.sol_max (λ seconds. seconds < 2 ^ 32)
