-- An ACK that is acceptable in an exchange is the reply that was made.
use Rattle.std.proofs.Common.{◌≡◌, ℕ, ◌<◌, ◌^◌, Bool, true, false, ◌&&◌, List, Option, Some, None, refl, sym, ap, subst, ◌∙◌, bytes_eq, arith}
use Rattle.std.specs.Prelude.{◌==◌, if◌then◌else◌}
use Rattle.std.proofs.lemmas.Bool.Decides.{nat_tests}
use Rattle.std.proofs.lemmas.Nat.{from_be_bytes-to_be_bytes_4}
use Rattle.std.proofs.lemmas.Slice.Eq.{bytes_eq-Decides}
use Rattle.net_types.specs.declared.address.Ip4.{Ip4}
use Rattle.net_types.specs.declared.address.Mac.{Mac}
use Rattle.v4_options.specs.declared.code.TheConstants.{LEASE_TIME, SERVER_IDENTIFIER}
use Rattle.v4_message.specs.Messages.{address_at}
use Rattle.v4_message.specs.declared.kind.MessageKind.{MessageKind}
use Rattle.v4_message.specs.declared.kind.MessageKind.TheVariants as kinds
use Rattle.lease_text.specs.declared.lease.Terms4.{Terms4}
use Rattle.v4_client.specs.declared.states.Answer4.TheVariants as answer
use Rattle.v4_client.specs.declared.states.Exchange4.{Exchange4}
use Rattle.v4_client.specs.Answers.{is_answer, is_chosen, is_good_ack, answering, unless_blacklisted, ack_by, reply_of, reply_by, reply_in}
use Rattle.v4_client.specs.Granting.{terms_granted}
use Rattle.v4_client.specs.Messages.{Arrival, number_at}
use Rattle.v4_client.specs.Settings.{SettingsContent}
use Rattle.server_data.specs.declared.reply.ReplyKind.{ReplyKind}
use Rattle.server_data.specs.declared.reply.ReplyKind.TheVariants.{Offer, Ack, Nak}
use Rattle.server_data.specs.declared.reply.Reply.{Reply}
use Rattle.server_data.specs.ReadBack.{reply_message}
use Rattle.server_data.specs.Replies.{reply_options}
use Rattle.lab_laws.specs.HeardReplies.{IsOfReply}

both : (a b : Bool) → (a && b) ≡ true → (a ≡ true) × (b ≡ true)
both true b h = (refl, h)
both false b h = absurd cc

first_of : (a b c d : Bool) → (((a && b) && c) && d) ≡ true → a ≡ true
first_of true b c d e = refl
first_of false b c d e = absurd cc

same_number : (a b : ℕ) → (a == b) ≡ true → a ≡ b
same_number a b h = grind (arith, nat_tests)

ack_is : (a b : Terms4) → answer.Ack a ≡ answer.Ack b → a ≡ b
ack_is a b e = cc

-- what an acceptable ACK says of its exchange
record Tells (settings : SettingsContent) (exchange : Exchange4) (arrival : Arrival) (terms : Terms4) : Type 0 where
  pub is_ack : arrival.message.kind ≡ kinds.Ack
  pub mine : is_answer settings exchange.xid arrival ≡ true
  pub asked : arrival.message.yiaddr.number ≡ exchange.address.number
  pub lease : number_at LEASE_TIME arrival.message.instances ≡ Some terms.lease
  pub net : terms.net.ip ≡ exchange.address

module _ (settings : SettingsContent) (exchange : Exchange4) (arrival : Arrival) (terms : Terms4) (mine : is_answer settings exchange.xid arrival ≡ true) where
  by_good : (server : Ip4) (lease : ℕ) → arrival.message.kind ≡ kinds.Ack → number_at LEASE_TIME arrival.message.instances ≡ Some lease
      → (good : Bool) → is_good_ack settings exchange arrival lease ≡ good
      → (if good then answer.Ack (terms_granted settings arrival exchange server lease) else answer.Nothing) ≡ answer.Ack terms
      → Tells settings exchange arrival terms
  by_good server lease sort is true good e =
      let granted : terms_granted settings arrival exchange server lease ≡ terms = ack_is _ terms e in
      record {
        is_ack = sort;
        mine = mine;
        asked = same_number arrival.message.yiaddr.number exchange.address.number (first_of _ _ _ _ good);
        lease = is ∙ ap (λ (t : Terms4). Some t.lease) granted;
        net = ap (λ (t : Terms4). t.net.ip) (sym granted);
      }
  by_good server lease sort is false good e = absurd cc

  by_lease : (server : Ip4) → arrival.message.kind ≡ kinds.Ack → (lease : Option ℕ) → number_at LEASE_TIME arrival.message.instances ≡ lease
      → ack_by settings exchange arrival server lease ≡ answer.Ack terms → Tells settings exchange arrival terms
  by_lease server sort None is e = absurd cc
  by_lease server sort (Some lease) is e = by_good server lease sort is (is_good_ack settings exchange arrival lease) refl e

  by_sort : (server : Ip4) (sort : MessageKind) → arrival.message.kind ≡ sort
      → reply_of settings exchange arrival server sort ≡ answer.Ack terms → Tells settings exchange arrival terms
  by_sort server kinds.Ack is e = by_lease server is (number_at LEASE_TIME arrival.message.instances) refl e
  by_sort server kinds.Nak is e = absurd cc
  by_sort server kinds.Discover is e = absurd cc
  by_sort server kinds.Offer is e = absurd cc
  by_sort server kinds.Request is e = absurd cc
  by_sort server kinds.Decline is e = absurd cc
  by_sort server kinds.Release is e = absurd cc
  by_sort server kinds.Inform is e = absurd cc

  by_choice : (server : Ip4) (chosen : Bool)
      → (if chosen then reply_of settings exchange arrival server arrival.message.kind else answer.Nothing) ≡ answer.Ack terms
      → Tells settings exchange arrival terms
  by_choice server true e = by_sort server arrival.message.kind refl e
  by_choice server false e = absurd cc

  by_server : (server : Option Ip4) → reply_by settings exchange arrival server ≡ answer.Ack terms → Tells settings exchange arrival terms
  by_server None e = absurd cc
  by_server (Some server) e = by_choice server (is_chosen exchange.server server) e

module _ (settings : SettingsContent) (exchange : Exchange4) (arrival : Arrival) (terms : Terms4) where
  by_mine : (mine : Bool) → is_answer settings exchange.xid arrival ≡ mine
      → reply_by settings exchange arrival (answering settings exchange.xid arrival) ≡ answer.Ack terms → Tells settings exchange arrival terms
  by_mine true is e = by_server settings exchange arrival terms is (answering settings exchange.xid arrival) e
  by_mine false is e =
      absurd (no_ack
      (subst (λ (m : Bool). reply_by settings exchange arrival (if m then unless_blacklisted settings
      (address_at SERVER_IDENTIFIER arrival.message.instances) else None) ≡ answer.Ack terms)
      is e))
    where
      no_ack : answer.Nothing ≡ answer.Ack terms → ⊥
      no_ack e = cc

  ack_tells : reply_in settings arrival exchange ≡ answer.Ack terms → Tells settings exchange arrival terms
  ack_tells e = by_mine (is_answer settings exchange.xid arrival) refl e

-- ---- of a reply

lease_read : (reply : Reply) → reply.lease < 2 ^ 32 → number_at LEASE_TIME (reply_options (record reply { kind = Ack })) ≡ Some reply.lease
lease_read reply fits = ap (λ (n : ℕ). Some n) (from_be_bytes-to_be_bytes_4 reply.lease fits)

lease_is : (a b : ℕ) → Some a ≡ Some b → a ≡ b
lease_is a b e = cc

module _ (settings : SettingsContent) (exchange : Exchange4) (terms : Terms4) (source : Mac) (at : ℕ) where
  abbrev arrives : Reply → Arrival
  arrives reply = record { message = reply_message reply; source = source; at = at }

  by_kind : (kind : ReplyKind) (reply : Reply) → reply.lease < 2 ^ 32 → Tells settings exchange (arrives (record reply { kind = kind })) terms
      → IsOfReply settings.site.iface.mac exchange terms (record reply { kind = kind })
  by_kind Offer reply fits tells = absurd (none tells.is_ack)
    where
      none : kinds.Offer ≡ kinds.Ack → ⊥
      none e = cc
  by_kind Nak reply fits tells = absurd (none tells.is_ack)
    where
      none : kinds.Nak ≡ kinds.Ack → ⊥
      none e = cc
  by_kind Ack reply fits tells =
      let two = both (reply.xid == exchange.xid) (bytes_eq reply.chaddr.bytes settings.site.iface.mac.bytes) tells.mine in
      record {
        is_ack = refl;
        same_xid = same_number reply.xid exchange.xid two.0;
        to_client = ap (λ (bytes : List ℕ). record { bytes = bytes }) ((bytes_eq-Decides reply.chaddr.bytes settings.site.iface.mac.bytes).0 two.1);
        gives = tells.net ∙ ap (λ (n : ℕ). record { number = n }) (sym tells.asked);
        lasts = sym (lease_is reply.lease terms.lease (sym (lease_read reply fits) ∙ tells.lease));
      }

  pub ack_of_reply : (reply : Reply) → reply.lease < 2 ^ 32 → reply_in settings (arrives reply) exchange ≡ answer.Ack terms
      → IsOfReply settings.site.iface.mac exchange terms reply
  ack_of_reply reply fits e = by_kind reply.kind reply fits (ack_tells settings exchange (arrives reply) terms e)
