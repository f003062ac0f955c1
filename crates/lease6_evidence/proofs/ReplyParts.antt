-- What a good Reply has, part by part.
use Rattle.std.proofs.Common.{◌≡◌, ℕ, Bool, true, not, ◌&&◌, ◌||◌, List, Option, Some, None, refl, ap}
use Rattle.std.proofs.lemmas.Bool.{and_parts, and_from, eqb-true}
use Rattle.std.proofs.lemmas.Slice.Eq.{bytes_eq-Decides}
use Rattle.std.specs.Prelude.{◌==◌}
use Rattle.v6_message.specs.declared.kind.ServerKind6.{ServerKind6}
use Rattle.v6_message.specs.declared.kind.ServerKind6.TheVariants.{Advertise, Reply}
use Rattle.v6_message.specs.Replies.{Content6}
use Rattle.v6_client.specs.Answers.{has_bytes}
use Rattle.lease_evidence.specs.EvidenceWords.Inputs.{Site}
use Rattle.lease6_evidence.specs.Exchanges6.{Exchange}
use Rattle.lease6_evidence.specs.Replies6.{answers, is_from, is_reply}

pub record IsAnswer (site : Site) (exchange : Exchange) (message : Content6) : Type 0 where
  pub reply : is_reply message.kind ≡ true
  pub xid : (message.xid == exchange.xid) ≡ true
  pub client : has_bytes message.client site.duid ≡ true
  pub server : is_from exchange.servers message.server ≡ true
  pub rapid : (message.rapid || not exchange.solicits) ≡ true

module _ (site : Site) (exchange : Exchange) (message : Content6) where
  abbrev replies : Bool
  replies = is_reply message.kind

  abbrev to_it : Bool
  to_it = message.xid == exchange.xid

  abbrev to_client : Bool
  to_client = has_bytes message.client site.duid

  abbrev of_server : Bool
  of_server = is_from exchange.servers message.server

  abbrev at_once : Bool
  at_once = message.rapid || not exchange.solicits

  pub answer_parts : answers site exchange message ≡ true → IsAnswer site exchange message
  answer_parts h =
      let four = and_parts (((replies && to_it) && to_client) && of_server) at_once h in
      let three = and_parts ((replies && to_it) && to_client) of_server four.0 in
      let two = and_parts (replies && to_it) to_client three.0 in
      let one = and_parts replies to_it two.0 in
      record { reply = one.0; xid = one.1; client = two.1; server = three.1; rapid = four.1 }

  pub answer_from : IsAnswer site exchange message → answers site exchange message ≡ true
  answer_from h =
      and_from _ _ (and_from _ _ (and_from _ _ (and_from _ _ h.reply h.xid) h.client) h.server) h.rapid

pub same_xid : (a b : ℕ) → (a == b) ≡ true → a ≡ b
same_xid a b h = eqb-true a b h

pub has_client : (told : Option (List ℕ)) (bytes : List ℕ) → has_bytes told bytes ≡ true → told ≡ Some bytes
has_client None bytes e = absurd cc
has_client (Some told) bytes e = ap Some ((bytes_eq-Decides told bytes).0 e)

pub reply_is : (kind : ServerKind6) → is_reply kind ≡ true → kind ≡ Reply
reply_is Advertise e = absurd cc
reply_is Reply e = refl
