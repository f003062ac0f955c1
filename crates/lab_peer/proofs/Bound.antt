-- What is bound stays bound until it is over, and an ACK binds.
use Rattle.std.proofs.Common.{◌≡◌, ℕ, ◌+◌, ◌≤◌, Bool, true, false, not, ◌&&◌, ◌||◌, ◌⊎◌, inl, inr, List, [], ◌∷◌, ◌++◌, Option, Some, None, refl, sym, ap, subst, ◌∙◌, nat_le, arith}
use Rattle.std.specs.Prelude.{◌==◌, max, filter, find, bytes_eq, option_map, if◌then◌else◌}
use Rattle.std.specs.List.{list_any}
use Rattle.std.proofs.lemmas.Bool.Decides.{nat_tests}
use Rattle.std.proofs.lemmas.Slice.Eq.{bytes_eq-Decides}
use Rattle.net_types.proofs.CaseLaws.{split}
use Rattle.net_types.specs.declared.address.Ip4.{Ip4}
use Rattle.net_types.specs.declared.address.Mac.{Mac}
use Rattle.v4_message.specs.declared.writing.Kind4.{Kind4}
use Rattle.v4_message.specs.declared.writing.Kind4.TheVariants.{Discover, Request, Decline, Release}
use Rattle.v4_message.specs.declared.writing.Said4.{Said4}
use Rattle.v4_frames.specs.declared.sent.Sent4.{Sent4}
use Rattle.v4_frames.specs.Heard.{same_mac}
use Rattle.server_data.specs.declared.reply.ReplyKind.{ReplyKind}
use Rattle.server_data.specs.declared.reply.ReplyKind.TheVariants.{Offer, Ack, Nak}
use Rattle.server_data.specs.declared.reply.Reply.{Reply}
use Rattle.lab_peer.specs.declared.binding.Bound4.{Bound4}
use Rattle.lab_peer.specs.Bindings.{lease_end, later, is_over, is_at, is_of, keeps_from, is_bound, binding_of, end_with, bind}
use Rattle.lab_peer.specs.ClientFrames.{client_sent}
use Rattle.lab_peer.specs.Pools.{in_pool}
use Rattle.lab_peer.specs.Hearing.{PeerState, Response, silent, is_spoiled, is_free, offered, discovered, reply_to, address_wanted, is_for_another, with_binding, requested, declined, hears_kind, hears_sent, hears}
use Rattle.lab_peer.specs.Granting.{IsNoLater, IsBoundUntil, StaysBound, KeepsItsPool, IsAnswer, AnswersItsClient, AcksBind}

-- ---- addresses of hosts

same_bytes : (a b : Mac) → same_mac a b ≡ true → a ≡ b
same_bytes a b h = ap (λ (bytes : List ℕ). record { bytes = bytes }) ((bytes_eq-Decides a.bytes b.bytes).0 h)

mac_itself : (a : Mac) → same_mac a a ≡ true
mac_itself a = (bytes_eq-Decides a.bytes a.bytes).1 refl

same_number : (a b : ℕ) → (a == b) ≡ true → a ≡ b
same_number a b h = grind (arith, nat_tests)

number_itself : (a : ℕ) → (a == a) ≡ true
number_itself a = grind (arith, nat_tests)

mirrored : (a b : ℕ) → (a == b) ≡ false → (b == a) ≡ false
mirrored a b n = grind (arith, nat_tests)

apart_from : (x a b : ℕ) → (a == b) ≡ false → (x == a) ≡ true → (x == b) ≡ false
apart_from x a b n y = grind (arith, nat_tests)

same_address : (a b : Ip4) → (a.number == b.number) ≡ true → a ≡ b
same_address a b h = ap (λ (n : ℕ). record { number = n }) (same_number a.number b.number h)

-- ---- ends

no_later_itself : (end : Option ℕ) → IsNoLater end end
no_later_itself None = tt
no_later_itself (Some end) = omega arith

above_one : (end one other : ℕ) → end ≤ one → end ≤ max one other
above_one end one other h = grind (arith, h)

above_other : (end one other : ℕ) → end ≤ other → end ≤ max one other
above_other end one other h = grind (arith, h)

later_one : (end one other : Option ℕ) → IsNoLater end one → IsNoLater end (later one other)
later_one end None other h = tt
later_one end (Some one) None h = tt
later_one None (Some one) (Some other) h = absurd h
later_one (Some end) (Some one) (Some other) h = above_one end one other h

later_other : (end one other : Option ℕ) → IsNoLater end other → IsNoLater end (later one other)
later_other end None other h = tt
later_other end (Some one) None h = tt
later_other None (Some one) (Some other) h = absurd h
later_other (Some end) (Some one) (Some other) h = above_other end one other h

-- an end that has come, and an earlier one
over_before : (end until : Option ℕ) (at : ℕ) → IsNoLater end until → is_over until at ≡ true → is_over end at ≡ true
over_before end None at h over = absurd cc
over_before None (Some until) at h over = absurd h
over_before (Some end) (Some until) at h over = grind (arith, nat_tests, h)

-- ---- finding a binding

found_last : (addr : Ip4) (bindings : List Bound4) (b : Bound4) → is_at addr b ≡ true
    → binding_of addr (filter (λ bound. not (is_at addr bound)) bindings ++ b ∷ []) ≡ Some b
found_last addr [] b is = rw is refl
found_last addr (x ∷ bindings) b is =
    split (is_at addr x) (λ y. rw y (found_last addr bindings b is)) (λ n. rw n (rw n (found_last addr bindings b is)))

found_other : (addr other : Ip4) (bindings : List Bound4) (b : Bound4) → (other.number == addr.number) ≡ false → is_at addr b ≡ false
    → binding_of addr (filter (λ bound. not (is_at other bound)) bindings ++ b ∷ []) ≡ binding_of addr bindings
found_other addr other [] b apart is = rw is refl
found_other addr other (x ∷ bindings) b apart is =
    split (is_at addr x)
    (λ y.
    let n : is_at other x ≡ false = apart_from x.addr.number addr.number other.number (mirrored other.number addr.number apart) y in
    rw n (rw y refl))
    (λ n. split (is_at other x) (λ y. rw y (rw n (found_other addr other bindings b apart is))) (λ m. rw m (rw n (found_other addr other bindings b apart is))))

one_is : {A : Type 0} (x y : A) → Some x ≡ Some y → x ≡ y
one_is x y e = cc

any_first : (a b : Bool) → (a || b) ≡ false → a ≡ false
any_first true b h = absurd cc
any_first false b h = refl

any_rest : (a b : Bool) → (a || b) ≡ false → b ≡ false
any_rest true b h = absurd cc
any_rest false b h = h

not_kept : (here mine over : Bool) → (here && not mine && not over) ≡ false → here ≡ true → mine ≡ false → over ≡ true
not_kept true false true h a b = refl
not_kept true false false h a b = absurd cc
not_kept true true over h a b = absurd cc
not_kept false mine over h a b = absurd cc

-- another client's binding of an address that is free is over
free_binding : (addr : Ip4) (mac : Mac) (at : ℕ) (bindings : List Bound4) → list_any (keeps_from addr mac at) bindings ≡ false
    → (b : Bound4) → binding_of addr bindings ≡ Some b → is_of mac b ≡ false → is_over b.until at ≡ true
free_binding addr mac at [] none b is other = absurd cc
free_binding addr mac at (x ∷ bindings) none b is other =
    by (λ k. free_binding addr mac at bindings (any_rest (keeps_from addr mac at x) (list_any (keeps_from addr mac at) bindings) none) b k other)
    (is_at addr x) refl is
  where
    here : is_at addr x ≡ true → x ≡ b → is_over b.until at ≡ true
    here e f =
        subst (λ (y : Bound4). is_over y.until at ≡ true) f
        (not_kept (is_at addr x) (is_of mac x) (is_over x.until at) (any_first (keeps_from addr mac at x) (list_any (keeps_from addr mac at) bindings) none) e
        (subst (λ (y : Bound4). is_of mac y ≡ false) (sym f) other))

    by : (binding_of addr bindings ≡ Some b → is_over b.until at ≡ true) → (t : Bool) → is_at addr x ≡ t
        → (if t then Some x else binding_of addr bindings) ≡ Some b → is_over b.until at ≡ true
    by more true e f = here e (one_is x b f)
    by more false e f = more f

-- ---- what is bound stays so, until it is over

abbrev Stands : Ip4 → Mac → (end : Option ℕ) → (at : ℕ) → PeerState → Type 0
Stands addr mac end at peer = (is_over end at ≡ true) ⊎ IsBoundUntil addr mac end peer

abbrev new_bound : Ip4 → Mac → (end : Option ℕ) → List Bound4 → Bound4
new_bound addr mac end bindings = record { addr = addr; mac = mac; until = end_with mac end (binding_of addr bindings) }

bound_last : (addr : Ip4) (mac : Mac) (end : Option ℕ) (bindings : List Bound4)
    → binding_of addr (bind addr mac end bindings) ≡ Some (new_bound addr mac end bindings)
bound_last addr mac end bindings = found_last addr bindings (new_bound addr mac end bindings) (number_itself addr.number)

renewed : (mac : Mac) (end new : Option ℕ) (before : Option Bound4) → IsNoLater end new → IsNoLater end (end_with mac new before)
renewed mac end new None h = h
renewed mac end new (Some b) h = split (is_of mac b) (λ y. rw y (later_other end b.until new h)) (λ n. rw n h)

goes_on : (mac : Mac) (end new : Option ℕ) (before : Option Bound4) (b : Bound4) → before ≡ Some b → is_of mac b ≡ true → IsNoLater end b.until
    → IsNoLater end (end_with mac new before)
goes_on mac end new before b is mine h = subst (λ (k : Option Bound4). IsNoLater end (end_with mac new k)) (sym is) (rw mine (later_one end b.until new h))

pub binds_now : (addr : Ip4) (mac : Mac) (end : Option ℕ) (peer : PeerState)
    → IsBoundUntil addr mac end (record peer { bindings = bind addr mac end peer.bindings })
binds_now addr mac end peer = record {
  bound = new_bound addr mac end peer.bindings;
  is = bound_last addr mac end peer.bindings;
  of_client = refl;
  lasts = renewed mac end end (binding_of addr peer.bindings) (no_later_itself end);
}

free_parts : (a b c : Bool) → (a && not b && not c) ≡ true → c ≡ false
free_parts true false false h = refl
free_parts true false true h = absurd cc
free_parts true true c h = absurd cc
free_parts false b c h = absurd cc

module _ (addr : Ip4) (mac : Mac) (end : Option ℕ) (peer : PeerState) (held : IsBoundUntil addr mac end peer) where
  -- the address is granted to a client
  after_grant : (asked : Ip4) (other : Mac) (at : ℕ) (new : Option ℕ) → is_free asked other at peer ≡ true
      → Stands addr mac end at (record peer { bindings = bind asked other new peer.bindings })
  after_grant asked other at new free = split (asked.number == addr.number) here elsewhere
    where
      elsewhere : (asked.number == addr.number) ≡ false → Stands addr mac end at (record peer { bindings = bind asked other new peer.bindings })
      elsewhere n = inr (record {
        bound = held.bound;
        is = found_other addr asked peer.bindings (new_bound asked other new peer.bindings) n n ∙ held.is;
        of_client = held.of_client;
        lasts = held.lasts;
      })

      at_it : (a : Ip4) → a ≡ addr → is_free a other at peer ≡ true → Stands addr mac end at (record peer { bindings = bind a other new peer.bindings })
      at_it a same is_now_free =
          subst (λ (x : Ip4). is_free x other at peer ≡ true → Stands addr mac end at (record peer { bindings = bind x other new peer.bindings })) (sym same)
          (λ f. split (is_of other held.bound) (mine f) (theirs f)) is_now_free
        where
          mine : is_free addr other at peer ≡ true → is_of other held.bound ≡ true
              → Stands addr mac end at (record peer { bindings = bind addr other new peer.bindings })
          mine f y = inr (record {
            bound = new_bound addr other new peer.bindings;
            is = bound_last addr other new peer.bindings;
            of_client = sym (same_bytes held.bound.mac other y) ∙ held.of_client;
            lasts = goes_on other end new (binding_of addr peer.bindings) held.bound held.is y held.lasts;
          })

          theirs : is_free addr other at peer ≡ true → is_of other held.bound ≡ false
              → Stands addr mac end at (record peer { bindings = bind addr other new peer.bindings })
          theirs f n = inl (over_before end held.bound.until at held.lasts
              (free_binding addr other at peer.bindings
              (free_parts (in_pool addr peer.pool) (is_spoiled addr peer) (list_any (keeps_from addr other at) peer.bindings) f) held.bound held.is n))

      here : (asked.number == addr.number) ≡ true → Stands addr mac end at (record peer { bindings = bind asked other new peer.bindings })
      here y = at_it asked (same_address asked addr y) free

  same_bindings : (p : PeerState) → p.bindings ≡ peer.bindings → IsBoundUntil addr mac end p
  same_bindings p same = record { bound = held.bound; is = ap (binding_of addr) same ∙ held.is; of_client = held.of_client; lasts = held.lasts }

  after_request : (at : ℕ) (said : Said4) (asked : Ip4) → Stands addr mac end at (requested at said asked peer).peer
  after_request at said asked =
      split (is_free asked said.mac at peer)
      (λ y. rw y (after_grant asked said.mac at (lease_end peer.pool.lease at) y))
      (λ n. rw n (inr held))

  after_decline : (other : Mac) (asked : Option Ip4) → IsBoundUntil addr mac end (declined other asked peer)
  after_decline other None = held
  after_decline other (Some asked) =
      split (list_any (is_bound asked other) peer.bindings)
      (λ y. rw y (same_bindings _ refl))
      (λ n. rw n held)

  after_kind : (at : ℕ) (said : Said4) (kind : Kind4) → Stands addr mac end at (hears_kind at said peer kind).peer
  after_kind at said Discover = inr held
  after_kind at said Request =
      split (is_for_another said.server) (λ y. rw y (inr held)) (λ n. rw n (after_request at said (address_wanted said.asked said.ciaddr)))
  after_kind at said Decline = inr (after_decline said.mac said.asked)
  after_kind at said Release = inr held

  after_sent : (at : ℕ) (sent : Option Sent4) → Stands addr mac end at (hears_sent at sent peer).peer
  after_sent at None = inr held
  after_sent at (Some sent) = after_kind at sent.said sent.said.kind

pub stays_bound : StaysBound
stays_bound addr mac end at frame peer held = after_sent addr mac end peer held at (client_sent frame)

-- ---- the pool

pool_after : (at : ℕ) (said : Said4) (peer : PeerState) (kind : Kind4) → (hears_kind at said peer kind).peer.pool ≡ peer.pool
pool_after at said peer Discover = refl
pool_after at said peer Request =
    split (is_for_another said.server) (λ y. rw y refl)
    (λ n. rw n (split (is_free (address_wanted said.asked said.ciaddr) said.mac at peer) (λ y. rw y refl) (λ m. rw m refl)))
pool_after at said peer Decline = by said.asked
  where
    by : (asked : Option Ip4) → (declined said.mac asked peer).pool ≡ peer.pool
    by None = refl
    by (Some addr) = split (list_any (is_bound addr said.mac) peer.bindings) (λ y. rw y refl) (λ n. rw n refl)
pool_after at said peer Release = refl

pub keeps_its_pool : KeepsItsPool
keeps_its_pool at frame peer = by (client_sent frame)
  where
    by : (sent : Option Sent4) → (hears_sent at sent peer).peer.pool ≡ peer.pool
    by None = refl
    by (Some sent) = pool_after at sent.said peer sent.said.kind

-- ---- answers

-- what an answer says
record IsReplyTo (said : Said4) (peer : PeerState) (kind : Kind4) (reply : Reply) : Type 0 where
  to_client : reply.chaddr ≡ said.mac
  same_xid : reply.xid ≡ said.xid
  for_lease : reply.lease ≡ peer.pool.lease
  to_request : reply.kind ≡ Ack → kind ≡ Request

made_so : (said : Said4) (peer : PeerState) (kind : Kind4) (sort : ReplyKind) (addr : Ip4) (reply : Reply) → (sort ≡ Ack → kind ≡ Request)
    → Some (reply_to said peer sort addr) ≡ Some reply → IsReplyTo said peer kind reply
made_so said peer kind sort addr reply acks e =
    subst (λ (r : Reply). IsReplyTo said peer kind r) (one_is (reply_to said peer sort addr) reply e)
    (record { to_client = refl; same_xid = refl; for_lease = refl; to_request = acks })

not_ack : (kind : Kind4) → Offer ≡ Ack → kind ≡ Request
not_ack kind e = absurd cc

by_kind : (at : ℕ) (said : Said4) (peer : PeerState) (reply : Reply) (kind : Kind4) → (hears_kind at said peer kind).says ≡ Some reply
    → IsReplyTo said peer kind reply
by_kind at said peer reply Discover e = by (offered said.mac at peer) e
  where
    by : (addr : Option Ip4) → option_map (reply_to said peer Offer) addr ≡ Some reply → IsReplyTo said peer Discover reply
    by None e = absurd cc
    by (Some addr) e = made_so said peer Discover Offer addr reply (not_ack Discover) e
by_kind at said peer reply Request e = by (is_for_another said.server) (is_free (address_wanted said.asked said.ciaddr) said.mac at peer) e
  where
    addr : Ip4
    addr = address_wanted said.asked said.ciaddr

    by : (another free : Bool)
        → (if another then silent peer else (if free then record { peer = with_binding at said addr peer; says = Some (reply_to said peer Ack addr) }
        else record { peer = peer; says = Some (reply_to said peer Nak addr) })).says ≡ Some reply
        → IsReplyTo said peer Request reply
    by true free e = absurd cc
    by false true e = made_so said peer Request Ack addr reply (λ k. refl) e
    by false false e = made_so said peer Request Nak addr reply (λ k. refl) e
by_kind at said peer reply Decline e = absurd cc
by_kind at said peer reply Release e = absurd cc

pub answers_its_client : AnswersItsClient
answers_its_client at frame peer reply e = by (client_sent frame) refl e
  where
    by : (sent : Option Sent4) → client_sent frame ≡ sent → (hears_sent at sent peer).says ≡ Some reply → IsAnswer frame peer reply
    by None is e = absurd cc
    by (Some sent) is e =
        let to = by_kind at sent.said peer reply sent.said.kind e in
        record { sent = sent; heard = is; to_client = to.to_client; same_xid = to.same_xid; for_lease = to.for_lease; to_request = to.to_request }

-- ---- an ACK binds

abbrev Binds : (at : ℕ) → PeerState → Reply → Response → Type 0
Binds at peer reply response =
    response.says ≡ Some reply → reply.kind ≡ Ack → IsBoundUntil reply.yiaddr reply.chaddr (lease_end peer.pool.lease at) response.peer

other_kind : {A : Type 0} (peer : PeerState) (said : Said4) (sort : ReplyKind) (addr : Ip4) (reply : Reply) → (sort ≡ Ack → ⊥)
    → Some (reply_to said peer sort addr) ≡ Some reply → reply.kind ≡ Ack → A
other_kind peer said sort addr reply not e k = absurd (not (ap (λ (r : Reply). r.kind) (one_is (reply_to said peer sort addr) reply e) ∙ k))

offer_is_none : Offer ≡ Ack → ⊥
offer_is_none e = cc

nak_is_none : Nak ≡ Ack → ⊥
nak_is_none e = cc

-- the answer to a REQUEST by its tests
abbrev answer_by : (at : ℕ) → Said4 → PeerState → (another free : Bool) → Response
answer_by at said peer another free =
    if another then silent peer
    else
    (if free
    then
    record {
      peer = with_binding at said (address_wanted said.asked said.ciaddr) peer;
      says = Some (reply_to said peer Ack (address_wanted said.asked said.ciaddr));
    }
    else record { peer = peer; says = Some (reply_to said peer Nak (address_wanted said.asked said.ciaddr)) })

bind_by : (at : ℕ) (said : Said4) (peer : PeerState) (reply : Reply) (kind : Kind4) → Binds at peer reply (hears_kind at said peer kind)
bind_by at said peer reply Discover e k = by (offered said.mac at peer) e
  where
    by : (addr : Option Ip4) → option_map (reply_to said peer Offer) addr ≡ Some reply
        → IsBoundUntil reply.yiaddr reply.chaddr (lease_end peer.pool.lease at) peer
    by None e = absurd cc
    by (Some addr) e = other_kind peer said Offer addr reply offer_is_none e k
bind_by at said peer reply Request e k = by (is_for_another said.server) (is_free (address_wanted said.asked said.ciaddr) said.mac at peer) e
  where
    addr : Ip4
    addr = address_wanted said.asked said.ciaddr

    by : (another free : Bool) → (answer_by at said peer another free).says ≡ Some reply
        → IsBoundUntil reply.yiaddr reply.chaddr (lease_end peer.pool.lease at) (answer_by at said peer another free).peer
    by true free e = absurd cc
    by false true e =
        subst (λ (r : Reply). IsBoundUntil r.yiaddr r.chaddr (lease_end peer.pool.lease at) (with_binding at said addr peer))
        (one_is (reply_to said peer Ack addr) reply e)
        (binds_now addr said.mac (lease_end peer.pool.lease at) peer)
    by false false e = other_kind peer said Nak addr reply nak_is_none e k
bind_by at said peer reply Decline e k = absurd cc
bind_by at said peer reply Release e k = absurd cc

pub acks_bind : AcksBind
acks_bind at frame peer reply e k = by (client_sent frame) e
  where
    by : (sent : Option Sent4) → (hears_sent at sent peer).says ≡ Some reply
        → IsBoundUntil reply.yiaddr reply.chaddr (lease_end peer.pool.lease at) (hears_sent at sent peer).peer
    by None e = absurd cc
    by (Some sent) e = bind_by at sent.said peer reply sent.said.kind e k
