-- What is read in frames as the client's own messages of DHCPv6.
use Rattle.std.proofs.Common.{◌≡◌, ℕ, Bool, true, false, ◌&&◌, List, [], ◌∷◌, map, Option, Some, None, refl, sym, ap, ◌∙◌, bytes_eq, eqb, if◌then◌else◌}
use Rattle.std.proofs.lemmas.Bool.{and_parts, eqb-true}
use Rattle.std.proofs.lemmas.Slice.Eq.{bytes_eq-Decides}
use Rattle.std.specs.Option.{option_and_then}
use Rattle.net_types.specs.declared.address.Net6.{Net6}
use Rattle.v6_message.specs.declared.kind.Kind6.{Kind6}
use Rattle.v6_message.specs.declared.kind.Kind6.TheVariants as kind
use Rattle.v6_message.specs.Requests.{AskedContent, SaidContent}
use Rattle.v6_frames.specs.Spelled.{Sent6, sent6_in}
use Rattle.v6_frames.proofs.FramesBack.{spelled_alone}
use Rattle.lease6_text.specs.LineParts.{is_same_kind}
use Rattle.settings.specs.declared.interfaces.Managed.{Managed}
use Rattle.v6_client.specs.V6Items.declared.asks.IaAsk.{IaAsk}
use Rattle.v6_client.specs.V6Items.Asking.{hinted, ia_solicited}
use Rattle.v6_client.proofs.Lease6Text.IaFacts.{kind_is}
use Rattle.lease_evidence.specs.EvidenceWords.Inputs.{Site}
use Rattle.lease6_evidence.specs.Exchanges6.{if_own, is_own}
use Rattle.lease6_evidence.specs.OwnFrames6.{IsOwnFrame6, NamesAll, OwnFrames6Alone, ias_named, ias_wanted}
use Rattle.lease6_evidence.specs.OwnMessages6.{are_all, has_own_ias, is_ia_of, is_looked_for, is_own_said, is_rapid, may_name, same_flag, same_net, same_nets}
use Rattle.lease6_evidence.specs.Replies6.{asks_at}

flags_are : (a b : Bool) → same_flag a b ≡ true → a ≡ b
flags_are true true h = refl
flags_are true false h = absurd cc
flags_are false true h = absurd cc
flags_are false false h = refl

-- ---- IAs

net_is : (a b : Net6) → same_net a b ≡ true → a ≡ b
net_is a b h =
    let parts = and_parts (eqb a.ip.number b.ip.number) (eqb a.len b.len) h in
    λ i. record { ip = record { number = eqb-true a.ip.number b.ip.number parts.0 i }; len = eqb-true a.len b.len parts.1 i }

nets_are : (nets others : List Net6) → same_nets nets others ≡ true → nets ≡ others
nets_are [] [] h = refl
nets_are [] (other ∷ others) h = absurd cc
nets_are (net ∷ nets) [] h = absurd cc
nets_are (net ∷ nets) (other ∷ others) h =
    let parts = and_parts (same_net net other) (same_nets nets others) h in λ i. net_is net other parts.0 i ∷ nets_are nets others parts.1 i

module _ (ask : IaAsk) (ia : AskedContent) (of_it : is_ia_of ask ia ≡ true) where
  kind_so : ia.kind ≡ ask.kind
  kind_so = kind_is ia.kind ask.kind (and_parts (is_same_kind ia.kind ask.kind) (eqb ia.iaid ask.iaid) of_it).0

  iaid_so : ia.iaid ≡ ask.iaid
  iaid_so = eqb-true ia.iaid ask.iaid (and_parts (is_same_kind ia.kind ask.kind) (eqb ia.iaid ask.iaid) of_it).1

looked_for : (ask : IaAsk) (ia : AskedContent) → is_looked_for ask ia ≡ true → ia ≡ ia_solicited ask
looked_for ask ia h =
    let parts = and_parts (is_ia_of ask ia) (same_nets (hinted ask.kind ask.hint) ia.items) h in
    λ i. record { kind = kind_so ask ia parts.0 i; iaid = iaid_so ask ia parts.0 i; items = sym (nets_are (hinted ask.kind ask.hint) ia.items parts.1) i }

all_looked_for : (asks : List IaAsk) (ias : List AskedContent) → are_all is_looked_for asks ias ≡ true → ias ≡ map ia_solicited asks
all_looked_for [] [] h = refl
all_looked_for [] (ia ∷ ias) h = absurd cc
all_looked_for (ask ∷ asks) [] h = absurd cc
all_looked_for (ask ∷ asks) (ia ∷ ias) h =
    let parts = and_parts (is_looked_for ask ia) (are_all is_looked_for asks ias) h in
    λ i. looked_for ask ia parts.0 i ∷ all_looked_for asks ias parts.1 i

all_named : (asks : List IaAsk) (ias : List AskedContent) → are_all is_ia_of asks ias ≡ true → ias_named ias ≡ ias_wanted asks
all_named [] [] h = refl
all_named [] (ia ∷ ias) h = absurd cc
all_named (ask ∷ asks) [] h = absurd cc
all_named (ask ∷ asks) (ia ∷ ias) h =
    let parts = and_parts (is_ia_of ask ia) (are_all is_ia_of asks ias) h in
    λ i. (kind_so ask ia parts.0 i, iaid_so ask ia parts.0 i) ∷ all_named asks ias parts.1 i

names_so : (k : Kind6) (asks : List IaAsk) (ias : List AskedContent) → has_own_ias k asks ias ≡ true → NamesAll k asks ias
names_so kind.Solicit asks ias h = all_looked_for asks ias h
names_so kind.Request asks ias h = all_named asks ias h
names_so kind.Renew asks ias h = all_named asks ias h
names_so kind.Rebind asks ias h = all_named asks ias h
names_so kind.Release asks ias h = tt
names_so kind.Decline asks ias h = tt

-- ---- a message

record Configured (managed : Managed) (asks : List IaAsk) (said : SaidContent) : Type 0 where
  rapid : said.rapid ≡ is_rapid said.kind managed.conf.dhcp6.rapid
  names : NamesAll said.kind asks said.ias

configured : (site : Site) (said : SaidContent) → is_own_said site.managed said ≡ true → Configured site.managed (asks_at site) said
unfolding is_own_said
configured site said h =
    let flag : Bool = same_flag said.rapid (is_rapid said.kind site.managed.conf.dhcp6.rapid) in
    let named : Bool = may_name said.kind said.server in
    let ias : Bool = has_own_ias said.kind (asks_at site) said.ias in
    let outer = and_parts (flag && named) ias h in
    record {
      rapid = flags_are said.rapid (is_rapid said.kind site.managed.conf.dhcp6.rapid) (and_parts flag named outer.0).0;
      names = names_so said.kind (asks_at site) said.ias outer.1;
    }

module _ (site : Site) (frame : List ℕ) where
  own_frame : (sent : Sent6) → sent6_in frame ≡ Some sent → is_own site sent ≡ true → IsOwnFrame6 site frame sent
  own_frame sent spelled own =
      let mac : Bool = bytes_eq sent.mac.bytes site.managed.spec.mac.bytes in
      let client : Bool = bytes_eq sent.said.client site.duid in
      let outer = and_parts (mac && client) (is_own_said site.managed sent.said) own in
      let both = and_parts mac client outer.0 in
      let so : Configured site.managed (asks_at site) sent.said = configured site sent.said outer.1 in
      record {
        spelled = spelled_alone frame sent spelled;
        mac = ap (λ (bytes : List ℕ). record { bytes = bytes }) ((bytes_eq-Decides sent.mac.bytes site.managed.spec.mac.bytes).0 both.0);
        client = (bytes_eq-Decides sent.said.client site.duid).0 both.1;
        rapid = so.rapid;
        names = so.names;
      }

  by_test : (seen sent : Sent6) (own : Bool) → sent6_in frame ≡ Some seen → is_own site seen ≡ own → (if own then Some seen else None) ≡ Some sent
      → IsOwnFrame6 site frame sent
  by_test seen sent true spelled is h = own_frame sent (spelled ∙ h) (ap (is_own site) (sym (one_is seen sent h)) ∙ is)
    where
      one_is : (a b : Sent6) → Some a ≡ Some b → a ≡ b
      one_is a b e = cc
  by_test seen sent false spelled is h = absurd cc

  by_spelled : (seen : Option Sent6) (sent : Sent6) → sent6_in frame ≡ seen → option_and_then (if_own site) seen ≡ Some sent → IsOwnFrame6 site frame sent
  by_spelled None sent is h = absurd cc
  by_spelled (Some seen) sent is h = by_test seen sent (is_own site seen) is refl h

pub own_frames6_alone : OwnFrames6Alone
own_frames6_alone site offer sent h = by_spelled site offer.bytes (sent6_in offer.bytes) sent refl h
