-- The messages that a client says (RFC 8415, sections 18.2.1 to 18.2.8).
use Rattle.std.specs.Prelude.{ℕ, Bool, false, List, [], map, Option, Some, None, option_map}
use Rattle.v6_message.specs.declared.kind.Kind6.{Kind6}
use Rattle.v6_message.specs.declared.kind.Kind6.TheVariants as kind
use Rattle.v6_message.specs.declared.said.Said6.{Said6}
use Rattle.v6_message.specs.Requests.{AskedContent, asked_content}
use Rattle.lease6_text.specs.Leases.{Lease6Content}
use Rattle.v6_items.specs.declared.asks.IaAsk.{IaAsk}
use Rattle.v6_client.specs.declared.states.Say6.{Say6}
use Rattle.v6_items.specs.declared.scope.Scope6.{Scope6}
use Rattle.v6_items.specs.Asking.{ia_solicited, ias_asked, ias_declined, ias_released}
use Rattle.v6_client.specs.Clients.{PleaContent}
use Rattle.v6_items.specs.Items.{ias_of}

-- a message as it is handed out
pub record SpokenContent : Type 0 where
  pub kind : Kind6
  pub xid : ℕ
  pub elapsed : ℕ
  pub server : Option (List ℕ)
  pub rapid : Bool
  pub ias : List AskedContent

abbrev pub spoken_content : Said6 → SpokenContent
spoken_content said = record {
  kind = said.kind;
  xid = said.xid;
  elapsed = said.elapsed;
  server = option_map (λ server. server.bytes.items) said.server;
  rapid = said.rapid;
  ias = map asked_content said.ias.items;
}

-- ---- the IAs of a message

abbrev pub plea_ias : Option PleaContent → List AskedContent
plea_ias None = []
plea_ias (Some plea) = plea.ias

-- `scope` is the client's as it stands when it has said the message
abbrev pub ias_said : Kind6 → Scope6 → List IaAsk → Option Lease6Content → (stood : List AskedContent)
    → List AskedContent
ias_said kind.Solicit scope asks kept stood = map ia_solicited asks
ias_said kind.Request scope asks kept stood = stood
ias_said kind.Renew scope asks kept stood = ias_asked scope (ias_of kept) asks
ias_said kind.Rebind scope asks kept stood = ias_asked scope (ias_of kept) asks
ias_said kind.Release scope asks kept stood = ias_released (ias_of kept) asks
ias_said kind.Decline scope asks kept stood = ias_declined (ias_of kept) stood

abbrev pub lease_server : Option Lease6Content → Option (List ℕ)
lease_server kept = option_map (λ lease. lease.server) kept

abbrev pub plea_server : Option PleaContent → Option (List ℕ)
plea_server plea = option_map (λ p. p.server) plea

-- the server that is spoken to (RFC 8415, section 16)
abbrev pub server_said : Kind6 → Option Lease6Content → Option PleaContent → Option (List ℕ)
server_said kind.Solicit kept plea = None
server_said kind.Request kept plea = plea_server plea
server_said kind.Renew kept plea = lease_server kept
server_said kind.Rebind kept plea = None
server_said kind.Release kept plea = lease_server kept
server_said kind.Decline kept plea = plea_server plea

abbrev pub rapid_said : Kind6 → (rapid : Bool) → Bool
rapid_said kind.Solicit rapid = rapid
rapid_said kind.Request rapid = false
rapid_said kind.Renew rapid = false
rapid_said kind.Rebind rapid = false
rapid_said kind.Release rapid = false
rapid_said kind.Decline rapid = false

abbrev pub spoken_by : (rapid : Bool) → Scope6 → List IaAsk → Option Lease6Content → Option PleaContent → Say6
    → SpokenContent
spoken_by rapid scope asks kept plea say = record {
  kind = say.kind;
  xid = say.xid;
  elapsed = say.elapsed;
  server = server_said say.kind kept plea;
  rapid = rapid_said say.kind rapid;
  ias = ias_said say.kind scope asks kept (plea_ias plea);
}
