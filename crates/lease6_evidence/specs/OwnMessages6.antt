-- The DHCPv6 messages that are a client's own (RFC 8415, sections 16, 18.2 and 21.14).
use Rattle.std.specs.Prelude.{ℕ, Bool, true, false, not, ◌&&◌, ◌==◌, List, [], ◌∷◌, map, Option, is_none, is_some, if◌then◌else◌}
use Rattle.net_types.specs.declared.address.Net6.{Net6}
use Rattle.v6_message.specs.declared.kind.Kind6.{Kind6}
use Rattle.v6_message.specs.declared.kind.Kind6.TheVariants as kind
use Rattle.v6_message.specs.Requests.{AskedContent, SaidContent}
use Rattle.lease6_text.specs.LineParts.{is_same_kind}
use Rattle.settings.specs.declared.interfaces.Managed.{Managed}
use Rattle.v6_client.specs.V6Items.declared.asks.IaAsk.{IaAsk}
use Rattle.v6_client.specs.V6Items.Asking.{hinted}
use Rattle.v6_client.specs.V6Items.Items.{is_nonempty}
use Rattle.lease_evidence.specs.ClientModel.ClientSettings6.{ask_for}

-- ---- the IAs of a message

-- an IA that is asked for
abbrev pub is_ia_of : IaAsk → AskedContent → Bool
is_ia_of ask ia = is_same_kind ia.kind ask.kind && (ia.iaid == ask.iaid)

abbrev pub same_net : Net6 → Net6 → Bool
same_net a b = (a.ip.number == b.ip.number) && (a.len == b.len)

abbrev pub same_nets : List Net6 → List Net6 → Bool
same_nets [] [] = true
same_nets [] (other ∷ others) = false
same_nets (net ∷ nets) [] = false
same_nets (net ∷ nets) (other ∷ others) = same_net net other && same_nets nets others

-- one that is looked for, with the length of prefix that is wished for (section 18.2.1)
abbrev pub is_looked_for : IaAsk → AskedContent → Bool
is_looked_for ask ia = is_ia_of ask ia && same_nets (hinted ask.kind ask.hint) ia.items

-- all that are asked for, in their order
abbrev pub are_all : (test : IaAsk → AskedContent → Bool) → List IaAsk → List AskedContent → Bool
are_all test [] [] = true
are_all test [] (ia ∷ ias) = false
are_all test (ask ∷ asks) [] = false
are_all test (ask ∷ asks) (ia ∷ ias) = test ask ia && are_all test asks ias

-- some of them, in their order, each with items
abbrev pub are_some : List IaAsk → List AskedContent → Bool
are_some [] [] = true
are_some [] (ia ∷ ias) = false
are_some (ask ∷ asks) [] = true
are_some (ask ∷ asks) (ia ∷ ias) =
    if is_ia_of ask ia && is_nonempty ia.items then are_some asks ias else are_some asks (ia ∷ ias)

-- A message that gives items back or declines them has their IAs alone, any other one all IAs.
abbrev pub has_own_ias : Kind6 → List IaAsk → List AskedContent → Bool
has_own_ias kind.Solicit asks ias = are_all is_looked_for asks ias
has_own_ias kind.Request asks ias = are_all is_ia_of asks ias
has_own_ias kind.Renew asks ias = are_all is_ia_of asks ias
has_own_ias kind.Rebind asks ias = are_all is_ia_of asks ias
has_own_ias kind.Release asks ias = are_some asks ias
has_own_ias kind.Decline asks ias = are_some asks ias

-- ---- a message

-- option 14 stands in a SOLICIT, where that is configured
abbrev pub is_rapid : Kind6 → (rapid : Bool) → Bool
is_rapid kind.Solicit rapid = rapid
is_rapid kind.Request rapid = false
is_rapid kind.Renew rapid = false
is_rapid kind.Rebind rapid = false
is_rapid kind.Release rapid = false
is_rapid kind.Decline rapid = false

abbrev pub same_flag : Bool → Bool → Bool
same_flag true b = b
same_flag false b = not b

-- A SOLICIT and a REBIND go to each server, a REQUEST to one (section 16).
abbrev pub may_name : Kind6 → (server : Option (List ℕ)) → Bool
may_name kind.Solicit server = is_none server
may_name kind.Request server = is_some server
may_name kind.Renew server = true
may_name kind.Rebind server = is_none server
may_name kind.Release server = true
may_name kind.Decline server = true

-- whether the client of an interface may say it; its DUID is looked at elsewhere
unfoldable pub is_own_said : Managed → SaidContent → Bool
is_own_said managed said =
    same_flag said.rapid (is_rapid said.kind managed.conf.dhcp6.rapid) && may_name said.kind said.server
    && has_own_ias said.kind (map ask_for managed.conf.dhcp6.ias) said.ias
