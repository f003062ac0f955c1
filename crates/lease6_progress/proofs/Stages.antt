-- How far a client may be that holds nothing yet, and by which moment it goes on.
use Rattle.std.proofs.Common.{◌≡◌, ℕ, ◌+◌, ◌*◌, ◌/◌, ◌%◌, ◌<◌, ◌≤◌, ◌^◌, min, max, Bool, true, false, cond, List, Option, Some, None, nat_le, arith, lit≤}
use Rattle.std.proofs.lemmas.Bool.Decides.{nat_tests}
use Rattle.std.proofs.lemmas.Bool.{cond_both}
use Rattle.std.specs.Prelude.{◌⊎◌, if◌then◌else◌}
use Rattle.machine.specs.Draw.{draw_of}
use Rattle.v6_message.specs.declared.kind.Kind6.{Kind6}
use Rattle.v6_message.specs.declared.kind.Kind6.TheVariants as kind
use Rattle.v6_message.specs.declared.kind.ServerKind6.TheVariants.{Reply}
use Rattle.v6_message.specs.Requests.{AskedContent}
use Rattle.v6_retrans.specs.Retransmission.{doubled, next_time, positive_rand_of, spread}
use Rattle.v6_retrans.specs.declared.parameters.TheConstants.{REQUEST}
use Rattle.lease6_text.specs.Leases.{Lease6Content}
use Rattle.v6_client.specs.declared.exchange.Exchange6.{Exchange6}
use Rattle.v6_client.specs.declared.states.State6.{State6}
use Rattle.v6_client.specs.declared.states.State6.TheVariants.{Off, Waiting, Soliciting, Requesting, Bound, Renewing, Rebinding, Restarting, Declining}
use Rattle.v6_client.specs.declared.turn.Turn6.{Turn6}
use Rattle.v6_client.specs.Calls.{fresh_in}
use Rattle.v6_client.specs.Clients.{ClientContent, PleaContent, held_of}
use Rattle.v6_client.specs.Exchanges.{again, begun, rand_in, solicit_parameters}
use Rattle.v6_client.specs.Saying.{plea_server}
use Rattle.v6_client.specs.Settings.{SettingsContent}
use Rattle.v6_client.specs.Times.{first_delay}
use Rattle.lease6_progress.specs.Acquiring.{has_item}
use Rattle.lease6_progress.specs.ClientTurns.{Input6, Hears}
use Rattle.lease6_progress.specs.Questions.{Question}

-- ---- moments

pub in_time : (due last at : ℕ) → at ≤ max due last → last ≤ due → at ≤ due
in_time due last at h le = grind arith

pub come_so : (due at : ℕ) → nat_le due at ≡ true → due ≤ at
come_so due at h = grind (arith, nat_tests)

pub early_so : (due at : ℕ) → nat_le due at ≡ false → at ≤ due
early_so due at h = grind (arith, nat_tests)

pub same : (n : ℕ) → n ≤ n
same n = omega arith

pub further : (n m : ℕ) → n ≤ n + m
further n m = omega arith

spread_least : (x : ℕ) → 1001 ≤ min (1000 * (900 + (101 + x)) / 1000) 4294967295
spread_least x = grind arith

spread_most : (x : ℕ) → x ≤ 99 → min (1000 * (900 + (101 + x)) / 1000) 4294967295 ≤ 1100
spread_most x le = grind arith

below_hundred : (x : ℕ) → x % 100 ≤ 99
below_hundred x = omega arith

request_least : (x : ℕ) → 900 ≤ min (1000 * (900 + x) / 1000) 4294967295
request_least x = grind arith

-- the first SOLICIT's time
pub solicit_least : (turn : Turn6) → turn.at + 1001 ≤ (begun turn (solicit_parameters turn) (positive_rand_of turn.salt turn.site.iface.index)).due
solicit_least turn = more turn.at _ (spread_least (draw_of turn.salt turn.site.iface.index 100))
  where
    more : (at rt : ℕ) → 1001 ≤ rt → at + 1001 ≤ at + rt
    more at rt h = omega arith

pub solicit_most : (turn : Turn6) → (begun turn (solicit_parameters turn) (positive_rand_of turn.salt turn.site.iface.index)).due ≤ turn.at + 1100
solicit_most turn =
    less turn.at _ (spread_most (draw_of turn.salt turn.site.iface.index 100)
    (below_hundred (turn.salt % 2 ^ 32 + turn.site.iface.index.number)))
  where
    less : (at rt : ℕ) → rt ≤ 1100 → at + rt ≤ at + 1100
    less at rt h = omega arith

-- that of a REQUEST
pub request_time : (turn : Turn6) → 900 ≤ (begun turn REQUEST (rand_in turn)).rt
request_time turn = request_least (rand_in turn)

again_least : (rt rand : ℕ) → 900 ≤ rt → 900 ≤ min (next_time REQUEST rt rand) 4294967295
again_least rt rand h =
    capped_least (next_time REQUEST rt rand)
    (cond_both _ (spread 30000 rand) (doubled rt rand) (λ (n : ℕ). 900 ≤ n) (λ e. spread_so rand) (λ e. doubled_so rt rand h))
  where
    capped_least : (n : ℕ) → 900 ≤ n → 900 ≤ min n 4294967295
    capped_least n h = grind arith

    spread_so : (rand : ℕ) → 900 ≤ 30000 * (900 + rand) / 1000
    spread_so rand = omega arith

    product : (rt rand : ℕ) → 900 ≤ rt → 900 * 1900 ≤ rt * (1900 + rand)
    product rt rand h = grind arith

    doubled_so : (rt rand : ℕ) → 900 ≤ rt → 900 ≤ rt * (1900 + rand) / 1000
    doubled_so rt rand h = quotient (rt * (1900 + rand)) (product rt rand h)
      where
        quotient : (n : ℕ) → 900 * 1900 ≤ n → 900 ≤ n / 1000
        quotient n h = omega arith

pub again_time : (turn : Turn6) (exchange : Exchange6) → 900 ≤ exchange.rt → 900 ≤ (again turn REQUEST exchange).rt
again_time turn exchange h = again_least exchange.rt (rand_in turn) h

-- the delay of the first SOLICIT
pub delay_most : (turn : Turn6) → first_delay turn ≤ (if turn.site.flags.nodelay then 1 else 1000)
delay_most turn = by_choice turn.site.flags.nodelay (draw_of turn.salt turn.site.iface.index 1001) (drawn (turn.salt % 2 ^ 32 + turn.site.iface.index.number))
  where
    drawn : (x : ℕ) → x % 1001 ≤ 1000
    drawn x = omega arith

    by_choice : (b : Bool) (x : ℕ) → x ≤ 1000 → cond b 1 x ≤ cond b 1 1000
    by_choice true x h = lit≤ tt
    by_choice false x h = h

-- ---- stages

abbrev pub question_of : Kind6 → (xid elapsed : ℕ) → Option (List ℕ) → (rapid : Bool) → List AskedContent → (asked : ℕ) → Question
question_of k xid elapsed server rapid ias asked = record {
  said = record { kind = k; xid = xid; elapsed = elapsed; server = server; rapid = rapid; ias = ias };
  asked = asked;
}

-- `first` is the last moment for the first SOLICIT, and `Offered` is so where an offer may come
pub record Limits : Type 0 where
  pub rapid : Bool
  pub first : ℕ
  pub wait : ℕ

-- nothing is asked yet
pub record Waits (l : Limits) (now due : ℕ) (pending : Option Question) : Type 0 where
  pub none : pending ≡ None
  pub in_time : due ≤ l.first
  pub not_yet : now ≤ due

-- a SOLICIT is pending
pub record Solicits (l : Limits) (now : ℕ) (exchange : Exchange6) (pending : Option Question) : Type 0 where
  pub elapsed : ℕ
  pub ias : List AskedContent
  pub asked : ℕ
  pub is : pending ≡ Some (question_of kind.Solicit exchange.xid elapsed None l.rapid ias asked)
  pub in_time : asked ≤ l.first
  pub not_yet : now ≤ asked + l.wait
  pub least : asked + 1001 ≤ exchange.due
  pub most : exchange.due ≤ asked + 1100

-- further offers are waited for
pub record Chooses (l : Limits) (Offered : Type 0) (now : ℕ) (exchange : Exchange6) (pending : Option Question) : Type 0 where
  pub offered : Offered
  pub none : pending ≡ None
  pub in_time : exchange.due ≤ l.first + 1100
  pub not_yet : now ≤ exchange.due

-- said once, or twice within the first second
abbrev pub IsSaidTwice : (asked sent due : ℕ) → Type 0
IsSaidTwice asked sent due = ((sent ≡ 1) × (asked + 900 ≤ due)) ⊎ ((sent ≡ 2) × (asked + 1001 ≤ due))

-- a REQUEST is pending
pub record Requests (l : Limits) (Offered : Type 0) (now : ℕ) (exchange : Exchange6) (server : Option (List ℕ)) (pending : Option Question) : Type 0 where
  pub offered : Offered
  pub elapsed : ℕ
  pub ias : List AskedContent
  pub asked : ℕ
  pub is : pending ≡ Some (question_of kind.Request exchange.xid elapsed server false ias asked)
  pub in_time : asked ≤ l.first + 1100
  pub not_yet : now ≤ asked + l.wait
  pub time : 900 ≤ exchange.rt
  pub few : IsSaidTwice asked exchange.sent exchange.due

abbrev pub Pending : Limits → (Offered : Type 0) → (now : ℕ) → State6 → (server : Option (List ℕ)) → Option Question → Type 0
Pending l Offered now Off server pending = ⊥
Pending l Offered now (Waiting due) server pending = Waits l now due pending
Pending l Offered now (Soliciting exchange None) server pending = Solicits l now exchange pending
Pending l Offered now (Soliciting exchange (Some preference)) server pending = Chooses l Offered now exchange pending
Pending l Offered now (Requesting exchange) server pending = Requests l Offered now exchange server pending
Pending l Offered now Bound server pending = ⊥
Pending l Offered now (Renewing exchange) server pending = ⊥
Pending l Offered now (Rebinding exchange) server pending = ⊥
Pending l Offered now (Restarting exchange end since stands) server pending = ⊥
Pending l Offered now (Declining exchange) server pending = ⊥

-- a client stands so far
abbrev pub PendingIn : Limits → (Offered : Type 0) → (now : ℕ) → ClientContent → Option Question → Type 0
PendingIn l Offered now c pending = Pending l Offered now c.state (plea_server c.plea) pending

-- a Reply grants this lease
abbrev pub IsGrantedBy : (at : ℕ) → ClientContent → Input6 → Lease6Content → Type 0
IsGrantedBy at c (Hears message) lease = (message.kind ≡ Reply) × (fresh_in at c message ≡ Some lease)
IsGrantedBy at c _ lease = ⊥

-- an item is held that was granted so, and nothing is asked
pub record HoldsSome (Granted : Lease6Content → Type 0) (c : ClientContent) (pending : Option Question) : Type 0 where
  pub lease : Lease6Content
  pub bound : c.state ≡ Bound
  pub held : held_of c ≡ Some lease
  pub some_item : has_item lease ≡ true
  pub settled : pending ≡ None
  pub granted : Granted lease

-- a client with some settings
abbrev pub client_of : SettingsContent → (last : Option ℕ) → (sol_max : ℕ) → State6 → Option Lease6Content → Option PleaContent → (unspent : Bool)
    → ClientContent
client_of settings last sol_max state kept plea unspent = record {
  settings = settings;
  last = last;
  sol_max = sol_max;
  state = state;
  kept = kept;
  plea = plea;
  fresh = unspent;
}

-- nothing is pending so late
too_late : (end now due : ℕ) → end < now → now ≤ due → due ≤ end → ⊥
too_late end now due past le h = grind arith

sum_le : (first asked wait more : ℕ) → asked ≤ first + more → asked + wait ≤ first + more + wait
sum_le first asked wait more h = omega arith

pub none_pending : (l : Limits) (Offered : Type 0) (now : ℕ) (state : State6) (server : Option (List ℕ)) (pending : Option Question)
    → l.first + 1100 + l.wait < now → Pending l Offered now state server pending → ⊥
none_pending l Offered now Off server pending late p = p
none_pending l Offered now (Waiting due) server pending late p =
    too_late (l.first + 1100 + l.wait) now due late p.not_yet (wider l.first l.wait due p.in_time)
  where
    wider : (first wait due : ℕ) → due ≤ first → due ≤ first + 1100 + wait
    wider first wait due h = omega arith
none_pending l Offered now (Soliciting exchange None) server pending late p =
    too_late (l.first + 1100 + l.wait) now (p.asked + l.wait) late p.not_yet (wider l.first l.wait p.asked p.in_time)
  where
    wider : (first wait asked : ℕ) → asked ≤ first → asked + wait ≤ first + 1100 + wait
    wider first wait asked h = omega arith
none_pending l Offered now (Soliciting exchange (Some preference)) server pending late p =
    too_late (l.first + 1100 + l.wait) now exchange.due late p.not_yet (wider l.first l.wait exchange.due p.in_time)
  where
    wider : (first wait due : ℕ) → due ≤ first + 1100 → due ≤ first + 1100 + wait
    wider first wait due h = omega arith
none_pending l Offered now (Requesting exchange) server pending late p =
    too_late (l.first + 1100 + l.wait) now (p.asked + l.wait) late p.not_yet (sum_le l.first p.asked l.wait 1100 p.in_time)
none_pending l Offered now Bound server pending late p = p
none_pending l Offered now (Renewing exchange) server pending late p = p
none_pending l Offered now (Rebinding exchange) server pending late p = p
none_pending l Offered now (Restarting exchange end since stands) server pending late p = p
none_pending l Offered now (Declining exchange) server pending late p = p

-- where no offer comes
pub none_pending_at_once : (l : Limits) (now : ℕ) (state : State6) (server : Option (List ℕ)) (pending : Option Question)
    → l.first + l.wait < now → Pending l ⊥ now state server pending → ⊥
none_pending_at_once l now Off server pending late p = p
none_pending_at_once l now (Waiting due) server pending late p =
    too_late (l.first + l.wait) now due late p.not_yet (wider l.first l.wait due p.in_time)
  where
    wider : (first wait due : ℕ) → due ≤ first → due ≤ first + wait
    wider first wait due h = omega arith
none_pending_at_once l now (Soliciting exchange None) server pending late p =
    too_late (l.first + l.wait) now (p.asked + l.wait) late p.not_yet (wider l.first l.wait p.asked p.in_time)
  where
    wider : (first wait asked : ℕ) → asked ≤ first → asked + wait ≤ first + wait
    wider first wait asked h = omega arith
none_pending_at_once l now (Soliciting exchange (Some preference)) server pending late p = p.offered
none_pending_at_once l now (Requesting exchange) server pending late p = p.offered
none_pending_at_once l now Bound server pending late p = p
none_pending_at_once l now (Renewing exchange) server pending late p = p
none_pending_at_once l now (Rebinding exchange) server pending late p = p
none_pending_at_once l now (Restarting exchange end since stands) server pending late p = p
none_pending_at_once l now (Declining exchange) server pending late p = p
