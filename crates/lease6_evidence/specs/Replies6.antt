-- A server's Reply in an exchange of the interface (RFC 8415, sections 16.10 and 18.2.10).
use Rattle.std.specs.Prelude.{◌≡◌, ℕ, Bool, true, false, ◌&&◌, ◌||◌, not, List, ◌∷◌, map, bytes_eq, Option, Some, None, ◌==◌, if◌then◌else◌}
use Rattle.std.specs.List.{list_all}
use Rattle.std.specs.Option.{option_map}
use Rattle.machine.specs.Since.{Always}
use Rattle.v6_message.specs.declared.kind.ServerKind6.{ServerKind6}
use Rattle.v6_message.specs.declared.kind.ServerKind6.TheVariants.{Advertise, Reply}
use Rattle.v6_message.specs.Replies.{Content6}
use Rattle.v6_frames.specs.Heard.{HeardMessage6, heard6_in}
use Rattle.v6_client.specs.V6Items.declared.asks.IaAsk.{IaAsk}
use Rattle.v6_client.specs.Answers.{has_bytes, is_duid}
use Rattle.v6_client_laws.specs.GivenItems.{Serves}
use Rattle.world.specs.declared.wakes.Event.{Event}
use Rattle.world.specs.declared.wakes.Event.TheVariants.{Frame}
use Rattle.lease_evidence.specs.ClientModel.ClientSettings6.{ask_for}
use Rattle.lease_evidence.specs.EvidenceWords.Entries.{Entry}
use Rattle.lease_evidence.specs.EvidenceWords.Inputs.{Site, index_at}
use Rattle.lease6_evidence.specs.Exchanges6.{Exchange, Numbered6, seen6_in}

-- the server's message that came in on the interface
abbrev pub message6_on : Site → Event → List ℕ → Option HeardMessage6
message6_on site (Frame other len) bytes =
    if index_at site == other then heard6_in site.managed.spec.mac bytes else None
message6_on site _ bytes = None

abbrev pub message6_at : Site → Entry → Option Content6
message6_at site e = option_map (λ heard. heard.message) (message6_on site e.event e.bytes)

-- what the interface asks for
abbrev pub asks_at : Site → List IaAsk
asks_at site = map ask_for site.managed.conf.dhcp6.ias

abbrev pub is_reply : ServerKind6 → Bool
is_reply Advertise = false
is_reply Reply = true

-- it is of a server, and of the one that was named where one was
abbrev pub is_from : List (List ℕ) → (server : Option (List ℕ)) → Bool
is_from servers None = false
is_from servers (Some server) = is_duid server && list_all (λ named. bytes_eq server named) servers

-- A Reply in an exchange that names the client, is of its server, and answers a SOLICIT only where it says that it does
-- (section 21.14).
abbrev pub answers : Site → Exchange → Content6 → Bool
answers site exchange message =
    is_reply message.kind && (message.xid == exchange.xid) && has_bytes message.client site.duid
    && is_from exchange.servers message.server
    && (message.rapid || not exchange.solicits)

-- such a Reply in the open exchange, which serves what is asked for
pub record GoodReply (site : Site) (opened : Numbered6) (message : Content6) (e : Entry)
    (past : List Entry) : Type 0 where
  pub is_open : (seen6_in site (e ∷ past)).current ≡ Some opened
  pub came : message6_at site e ≡ Some message
  pub good : answers site opened.exchange message ≡ true
  pub serves : Serves (asks_at site) message

-- none in the exchange of a number
abbrev pub NoReply : Site → (number : ℕ) → Entry → List Entry → Type 0
NoReply site number e past =
    (opened : Numbered6) (message : Content6) → GoodReply site opened message e past → opened.number ≡ number → ⊥

-- the first one in its exchange
pub record FirstReply (site : Site) (opened : Numbered6) (message : Content6) (e : Entry)
    (past : List Entry) : Type 0 where
  pub good : GoodReply site opened message e past
  pub first : Always (NoReply site opened.number) past
