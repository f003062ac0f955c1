-- What an acceptable answer says of its exchange.
use Rattle.std.proofs.Common.{◌≡◌, ℕ, Bool, true, false, ◌&&◌, Option, Some, None, refl, sym, subst, ◌∙◌, if◌then◌else◌}
use Rattle.net_types.specs.declared.address.Ip4.{Ip4}
use Rattle.v4_options.specs.declared.code.TheConstants.{LEASE_TIME, SERVER_IDENTIFIER}
use Rattle.v4_message.specs.Messages.{address_at}
use Rattle.v4_message.specs.declared.kind.MessageKind.{MessageKind}
use Rattle.v4_message.specs.declared.kind.MessageKind.TheVariants as kind
use Rattle.lease_text.specs.declared.lease.Terms4.{Terms4}
use Rattle.v4_client.specs.declared.states.Answer4.TheVariants as answer
use Rattle.v4_client.specs.declared.states.Exchange4.{Exchange4}
use Rattle.v4_client.specs.Answers.{is_answer, is_blacklisted, unless_blacklisted, answering, is_good_offer, offer_of, offer_by, is_chosen, is_unexpired, is_good_ack, ack_by, reply_of, reply_by, reply_in}
use Rattle.v4_client.specs.Granting.{terms_granted}
use Rattle.v4_client.specs.Messages.{Arrival, number_at, are_there}
use Rattle.v4_client.specs.Settings.{SettingsContent}

-- ---- the server that answers

pub record IsFrom (settings : SettingsContent) (xid : ℕ) (arrival : Arrival) (server : Ip4) : Type 0 where
  pub mine : is_answer settings xid arrival ≡ true
  pub named : address_at SERVER_IDENTIFIER arrival.message.instances ≡ Some server

chosen : (black : Bool) (s server : Ip4) → (if black then None else Some s) ≡ Some server → Some s ≡ Some server
chosen true s server e = absurd cc
chosen false s server e = e

listened : (settings : SettingsContent) (named : Option Ip4) (server : Ip4) → unless_blacklisted settings named ≡ Some server → named ≡ Some server
listened settings None server e = absurd cc
listened settings (Some s) server e = chosen (is_blacklisted settings s) s server e

from_by : (settings : SettingsContent) (xid : ℕ) (arrival : Arrival) (server : Ip4) (mine : Bool) → is_answer settings xid arrival ≡ mine
    → (if mine then unless_blacklisted settings (address_at SERVER_IDENTIFIER arrival.message.instances) else None) ≡ Some server
    → IsFrom settings xid arrival server
from_by settings xid arrival server true is e = record { mine = is; named = listened settings _ server e }
from_by settings xid arrival server false is e = absurd cc

pub is_from : (settings : SettingsContent) (xid : ℕ) (arrival : Arrival) (server : Ip4) → answering settings xid arrival ≡ Some server
    → IsFrom settings xid arrival server
is_from settings xid arrival server e = from_by settings xid arrival server (is_answer settings xid arrival) refl e

-- ---- ACK and NAK

pub record IsGranted (settings : SettingsContent) (exchange : Exchange4) (arrival : Arrival) (terms : Terms4) : Type 0 where
  pub from : IsFrom settings exchange.xid arrival terms.server
  pub address : terms.net.ip ≡ exchange.address
  pub source : terms.server_mac ≡ arrival.source
  pub first : terms.first ≡ exchange.first
  pub unexpired : is_unexpired exchange.first terms.lease arrival.at ≡ true

third : (a b c : Bool) → ((a && b) && c) ≡ true → b ≡ true
third a true c e = refl
third true false c e = absurd cc
third false false c e = absurd cc

module _ (settings : SettingsContent) (exchange : Exchange4) (arrival : Arrival) (terms : Terms4) where
  this_ack : (server : Ip4) (lease : ℕ) → IsFrom settings exchange.xid arrival server → is_good_ack settings exchange arrival lease ≡ true
      → (granted : Terms4) → granted ≡ terms_granted settings arrival exchange server lease → granted ≡ terms
      → IsGranted settings exchange arrival terms
  this_ack server lease from good granted is same =
      let unexpired : is_unexpired exchange.first lease arrival.at ≡ true =
      third _ (is_unexpired exchange.first lease arrival.at) (are_there arrival.message.instances settings.required) good in
      subst (λ (t : Terms4). IsGranted settings exchange arrival t) (sym is ∙ same)
      (record { from = from; address = refl; source = refl; first = refl; unexpired = unexpired })

  by_good : (server : Ip4) (lease : ℕ) → IsFrom settings exchange.xid arrival server → (good : Bool) → is_good_ack settings exchange arrival lease ≡ good
      → (if good then answer.Ack (terms_granted settings arrival exchange server lease) else answer.Nothing) ≡ answer.Ack terms
      → IsGranted settings exchange arrival terms
  by_good server lease from true is e = this_ack server lease from is _ refl cc
  by_good server lease from false is e = absurd cc

  by_lease : (server : Ip4) → IsFrom settings exchange.xid arrival server → (lease : Option ℕ)
      → ack_by settings exchange arrival server lease ≡ answer.Ack terms → IsGranted settings exchange arrival terms
  by_lease server from None e = absurd cc
  by_lease server from (Some lease) e = by_good server lease from (is_good_ack settings exchange arrival lease) refl e

  by_sort : (server : Ip4) → IsFrom settings exchange.xid arrival server → (sort : MessageKind)
      → reply_of settings exchange arrival server sort ≡ answer.Ack terms → IsGranted settings exchange arrival terms
  by_sort server from kind.Ack e = by_lease server from (number_at LEASE_TIME arrival.message.instances) e
  by_sort server from kind.Nak e = absurd cc
  by_sort server from kind.Discover e = absurd cc
  by_sort server from kind.Offer e = absurd cc
  by_sort server from kind.Request e = absurd cc
  by_sort server from kind.Decline e = absurd cc
  by_sort server from kind.Release e = absurd cc
  by_sort server from kind.Inform e = absurd cc

  by_choice : (server : Ip4) → IsFrom settings exchange.xid arrival server → (chosen : Bool)
      → (if chosen then reply_of settings exchange arrival server arrival.message.kind else answer.Nothing) ≡ answer.Ack terms
      → IsGranted settings exchange arrival terms
  by_choice server from true e = by_sort server from arrival.message.kind e
  by_choice server from false e = absurd cc

  by_server : (server : Option Ip4) → answering settings exchange.xid arrival ≡ server
      → reply_by settings exchange arrival server ≡ answer.Ack terms → IsGranted settings exchange arrival terms
  by_server None is e = absurd cc
  by_server (Some server) is e = by_choice server (is_from settings exchange.xid arrival server is) (is_chosen exchange.server server) e

  pub is_granted : reply_in settings arrival exchange ≡ answer.Ack terms → IsGranted settings exchange arrival terms
  is_granted e = by_server (answering settings exchange.xid arrival) refl e

-- ---- OFFER

pub record IsOffered (settings : SettingsContent) (xid : ℕ) (arrival : Arrival) (address server : Ip4) : Type 0 where
  pub from : IsFrom settings xid arrival server
  pub sort : arrival.message.kind ≡ kind.Offer

module _ (settings : SettingsContent) (xid : ℕ) (arrival : Arrival) (address server : Ip4) where
  offered_good : (other : Ip4) (good : Bool) → (if good then answer.Offer arrival.message.yiaddr other else answer.Nothing) ≡ answer.Offer address server
      → other ≡ server
  offered_good other true e = cc
  offered_good other false e = absurd cc

  offered_sort : (other : Ip4) → IsFrom settings xid arrival other → (sort : MessageKind) → arrival.message.kind ≡ sort
      → offer_of settings arrival other sort ≡ answer.Offer address server → IsOffered settings xid arrival address server
  offered_sort other from kind.Offer is e =
      record { from = subst (λ (s : Ip4). IsFrom settings xid arrival s) (offered_good other (is_good_offer settings arrival) e) from; sort = is }
  offered_sort other from kind.Ack is e = absurd cc
  offered_sort other from kind.Nak is e = absurd cc
  offered_sort other from kind.Discover is e = absurd cc
  offered_sort other from kind.Request is e = absurd cc
  offered_sort other from kind.Decline is e = absurd cc
  offered_sort other from kind.Release is e = absurd cc
  offered_sort other from kind.Inform is e = absurd cc

  offered_by : (named : Option Ip4) → answering settings xid arrival ≡ named → offer_by settings arrival named ≡ answer.Offer address server
      → IsOffered settings xid arrival address server
  offered_by None is e = absurd cc
  offered_by (Some other) is e = offered_sort other (is_from settings xid arrival other is) arrival.message.kind refl e

  pub is_offered : offer_by settings arrival (answering settings xid arrival) ≡ answer.Offer address server → IsOffered settings xid arrival address server
  is_offered e = offered_by (answering settings xid arrival) refl e

-- an offer is no reply
offer_by_server : (settings : SettingsContent) (exchange : Exchange4) (arrival : Arrival) (server : Option Ip4) → arrival.message.kind ≡ kind.Offer
    → reply_by settings exchange arrival server ≡ answer.Nothing
offer_by_server settings exchange arrival None is = refl
offer_by_server settings exchange arrival (Some server) is = rw is (either (is_chosen exchange.server server))
  where
    either : (b : Bool) → (if b then answer.Nothing else answer.Nothing) ≡ answer.Nothing
    either true = refl
    either false = refl

pub offer_replies_nothing : (settings : SettingsContent) (exchange : Exchange4) (arrival : Arrival) → arrival.message.kind ≡ kind.Offer
    → reply_in settings arrival exchange ≡ answer.Nothing
offer_replies_nothing settings exchange arrival is = offer_by_server settings exchange arrival (answering settings exchange.xid arrival) is
