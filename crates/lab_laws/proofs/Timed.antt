-- The messages of DHCPv4 that a client says in a life, each with its moment; and that its open exchange began with the first REQUEST of its number.
use Rattle.std.proofs.Common.{◌≡◌, ℕ, ◌+◌, ◌≤◌, true, false, List, [], ◌∷◌, map, Option, Some, None, IfSome, refl, sym, ap, subst, ◌∙◌, arith}
use Rattle.std.specs.Prelude.{◌==◌}
use Rattle.std.specs.List.{AllByRecursion}
use Rattle.std.proofs.lemmas.Bool.{eqb-true}
use Rattle.std.proofs.lemmas.Bool.Decides.{nat_tests}
use Rattle.net_types.proofs.CaseLaws.{split}
use Rattle.v4_message.specs.declared.writing.Kind4.{Kind4}
use Rattle.v4_message.specs.declared.writing.Kind4.TheVariants.{Discover, Request, Decline, Release}
use Rattle.v4_message.specs.declared.writing.Said4.{Said4}
use Rattle.client_model.specs.IfaceTurns.{Turn}
use Rattle.client_model.specs.Messages.{Said, Arp, Dhcp4, Dhcp6}
use Rattle.lease_evidence.specs.Exchanges.{Numbered, Seen, exchange_of, requests, says, show}
use Rattle.lease_evidence.proofs.Spoken.{message_said}
use Rattle.lab_laws.specs.Messages.{FollowEach, Start, messages_after, said_onto, step_after}
use Rattle.lab_laws.specs.Numbers.{IsFirst, NoRequest, are_unlike, numbers}
use Rattle.lab_laws.proofs.Numbers.{first_request, unlike_rest}

-- a message, and the moment at which it was said
pub record Timed : Type 0 where
  pub at : ℕ
  pub said : Said4

-- the messages among what is said at a moment, in front of those before, the last one first
abbrev pub timed_onto : (at : ℕ) → List Said → List Timed → List Timed
timed_onto at [] past = past
timed_onto at (Dhcp4 say ∷ said) past = timed_onto at said (record { at = at; said = say.said } ∷ past)
timed_onto at (Arp say ∷ said) past = timed_onto at said past
timed_onto at (Dhcp6 sent ∷ said) past = timed_onto at said past

-- all messages of a life
abbrev pub timed_after : Start → List Turn → List Timed
timed_after start [] = timed_onto start.at (step_after start []).said []
timed_after start (turn ∷ turns) = timed_onto turn.at (step_after start (turn ∷ turns)).said (timed_after start turns)

abbrev pub saids : List Timed → List Said4
saids timed = map (λ (t : Timed). t.said) timed

saids_onto : (at : ℕ) (said : List Said) (timed : List Timed) → saids (timed_onto at said timed) ≡ said_onto said (saids timed)
saids_onto at [] timed = refl
saids_onto at (Dhcp4 say ∷ said) timed = saids_onto at said (record { at = at; said = say.said } ∷ timed)
saids_onto at (Arp say ∷ said) timed = saids_onto at said timed
saids_onto at (Dhcp6 sent ∷ said) timed = saids_onto at said timed

pub saids_after : (start : Start) (turns : List Turn) → saids (timed_after start turns) ≡ messages_after start turns
saids_after start [] = saids_onto start.at (step_after start []).said []
saids_after start (turn ∷ turns) =
    saids_onto turn.at (step_after start (turn ∷ turns)).said (timed_after start turns)
    ∙ ap (said_onto (step_after start (turn ∷ turns)).said) (saids_after start turns)

-- ---- messages that follow well, with numbers that don't come again

pub record GoWell (past : List Said4) : Type 0 where
  pub follow : FollowEach past
  pub unlike : are_unlike (numbers past) ≡ true

pub well_before : (said : List Said) (past : List Said4) → GoWell (said_onto said past) → GoWell past
well_before [] past well = well
well_before (Dhcp4 say ∷ said) past well =
    let next : GoWell (say.said ∷ past) = well_before said (say.said ∷ past) well in
    record { follow = next.follow.1; unlike = unlike_rest say.said past next.unlike }
well_before (Arp say ∷ said) past well = well_before said past well
well_before (Dhcp6 sent ∷ said) past well = well_before said past well

-- ---- the open exchange

-- the exchange began no later than this message, where it is a REQUEST of its number
abbrev pub NotBefore : Numbered → Timed → Type 0
NotBefore x t = t.said.kind ≡ Request → t.said.xid ≡ x.exchange.xid → x.exchange.first ≤ t.at

abbrev IsOpenWith : (xid : ℕ) → Option Numbered → Type 0
IsOpenWith xid None = ⊥
IsOpenWith xid (Some x) = x.exchange.xid ≡ xid

-- a REQUEST that was said last belongs to the open exchange
abbrev LastIsOpen : Option Numbered → List Timed → Type 0
LastIsOpen current [] = Unit {0}
LastIsOpen current (t ∷ timed) = t.said.kind ≡ Request → IsOpenWith t.said.xid current

-- what is known of the open exchange at a moment, after these messages
pub record OpenSo (current : Option Numbered) (now : ℕ) (timed : List Timed) : Type 0 where
  pub last : LastIsOpen current timed
  pub began : IfSome current (λ x. x.exchange.first ≤ now)
  pub first : IfSome current (λ x. AllByRecursion (NotBefore x) timed)

pub none_open : (now : ℕ) → OpenSo None now []
none_open now = record { last = tt; began = tt; first = tt }

later_open : (current : Option Numbered) (now at : ℕ) (timed : List Timed) → now ≤ at → OpenSo current now timed → OpenSo current at timed
later_open current now at timed le so = record { last = so.last; began = by current so.began; first = so.first }
  where
    by : (c : Option Numbered) → IfSome c (λ x. x.exchange.first ≤ now) → IfSome c (λ x. x.exchange.first ≤ at)
    by None h = tt
    by (Some x) h = omega (arith, h, le)

-- another message than a REQUEST closes it
closed_so : (at : ℕ) (said : Said4) (timed : List Timed) → (said.kind ≡ Request → ⊥) → OpenSo None at (record { at = at; said = said } ∷ timed)
closed_so at said timed other = record { last = λ is. other is; began = tt; first = tt }

-- where no REQUEST of its number was said before, a REQUEST begins an exchange
begun_so : (at count : ℕ) (said : Said4) (timed : List Timed) → NoRequest said.xid (saids timed)
    → OpenSo (Some (record { number = count; exchange = exchange_of at said })) at (record { at = at; said = said } ∷ timed)
begun_so at count said timed none = record {
  last = λ is. refl;
  began = omega arith;
  first = ((λ is same. omega arith), all_before timed none);
}
  where
    all_before : (more : List Timed) → NoRequest said.xid (saids more)
        → AllByRecursion (NotBefore (record { number = count; exchange = exchange_of at said })) more
    all_before [] h = tt
    all_before (t ∷ more) h = ((λ is same. absurd (h.0 is same)), all_before more h.1)

-- else it goes on with that of its number
goes_on_so : (now at : ℕ) (said : Said4) (x : Numbered) (timed : List Timed) → now ≤ at → said.xid ≡ x.exchange.xid → OpenSo (Some x) now timed
    → OpenSo (Some x) at (record { at = at; said = said } ∷ timed)
goes_on_so now at said x timed le same so = record {
  last = λ is. sym same;
  began = omega (arith, so.began, le);
  first = ((λ is xid. omega (arith, so.began, le)), so.first);
}

-- the message before a REQUEST that doesn't go on with the open exchange is no REQUEST of its number
first_by : (said : Said4) (current : Option Numbered) (timed : List Timed) → LastIsOpen current timed → (IsOpenWith said.xid current → ⊥)
    → IsFirst said (saids timed)
first_by said current [] last other = tt
first_by said current (t ∷ timed) last other = λ is same. other (subst (λ (xid : ℕ). IsOpenWith xid current) same (last is))

module _ (now at : ℕ) (said : Said4) (timed : List Timed) (le : now ≤ at) (is : said.kind ≡ Request) (well : GoWell (said ∷ saids timed)) where
  abbrev New : List Timed
  New = record { at = at; said = said } ∷ timed

  begins_so : (count : ℕ) (current : Option Numbered) → OpenSo current now timed → (IsOpenWith said.xid current → ⊥)
      → OpenSo (Some (record { number = count; exchange = exchange_of at said })) at New
  begins_so count current so other =
      begun_so at count said timed (first_request said (saids timed) is well.follow well.unlike (first_by said current timed so.last other))

  asked_so : (seen : Seen) → OpenSo seen.current now timed → OpenSo (requests at said seen seen.current).current at New
  asked_so seen so = by seen.current refl so
    where
      apart : (a b : ℕ) → (a == b) ≡ false → a ≡ b → ⊥
      apart a b n e = grind (arith, nat_tests)

      by : (current : Option Numbered) → seen.current ≡ current → OpenSo current now timed → OpenSo (requests at said seen current).current at New
      by None e h = begins_so (seen.count + 1) None h (λ bad. bad)
      by (Some x) e h =
          split (said.xid == x.exchange.xid)
          (λ same. rw same (subst (λ (c : Option Numbered). OpenSo c at New) (sym e)
          (goes_on_so now at said x timed le (eqb-true said.xid x.exchange.xid same) h)))
          (λ unlike. rw unlike (begins_so (seen.count + 1) (Some x) h (λ bad. apart said.xid x.exchange.xid unlike (sym bad))))

said_so : (now at : ℕ) (said : Said4) (seen : Seen) (timed : List Timed) → now ≤ at → GoWell (said ∷ saids timed) → OpenSo seen.current now timed
    → OpenSo (says at said seen said.kind).current at (record { at = at; said = said } ∷ timed)
said_so now at said seen timed le well so = by said.kind refl
  where
    unlike_kinds : (other : Kind4) → said.kind ≡ other → (other ≡ Request → ⊥) → said.kind ≡ Request → ⊥
    unlike_kinds other e unlike is = unlike (sym e ∙ is)

    by : (sort : Kind4) → said.kind ≡ sort → OpenSo (says at said seen sort).current at (record { at = at; said = said } ∷ timed)
    by Request e = asked_so now at said timed le e well seen so
    by Discover e = closed_so at said timed (unlike_kinds Discover e (λ bad. absurd cc))
    by Decline e = closed_so at said timed (unlike_kinds Decline e (λ bad. absurd cc))
    by Release e = closed_so at said timed (unlike_kinds Release e (λ bad. absurd cc))

-- what is said in a turn
pub all_so : (now at : ℕ) (said : List Said) (seen : Seen) (timed : List Timed) → now ≤ at → GoWell (said_onto said (saids timed))
    → OpenSo seen.current now timed
    → OpenSo (show at (map message_said said) seen).current at (timed_onto at said timed)
all_so now at [] seen timed le well so = later_open seen.current now at timed le so
all_so now at (Dhcp4 say ∷ said) seen timed le well so =
    all_so at at said (says at say.said seen say.said.kind) (record { at = at; said = say.said } ∷ timed) (omega arith) well
    (said_so now at say.said seen timed le (well_before said (say.said ∷ saids timed) well) so)
all_so now at (Arp say ∷ said) seen timed le well so = all_so now at said seen timed le well so
all_so now at (Dhcp6 sent ∷ said) seen timed le well so = all_so now at said seen timed le well so
