-- A judge of leases: what it keeps of an interface from turn to turn, to tell what a DHCPv4 server granted there
-- (RFC 2131, sections 3.1 and 4.4). It takes one turn after another, and looks back at none.
use Rattle.std.specs.Prelude.{ℕ, Bool, true, false, not, ◌&&◌, ◌||◌, ◌==◌, if◌then◌else◌, List, [], ◌∷◌, Option, Some, None}
use Rattle.std.specs.List.{list_any}
use Rattle.lease_text.specs.declared.lease.Terms4.{Terms4}
use Rattle.world.specs.declared.wakes.Event.{Event}
use Rattle.world.specs.declared.wakes.Event.TheVariants.{Carrier, Release, Stop}
use Rattle.v4_client.specs.declared.states.Answer4.{Answer4}
use Rattle.v4_client.specs.declared.states.Answer4.TheVariants.{Nothing, Offer, Ack, Nak}
use Rattle.evidence_words.specs.Entries.{Entry}
use Rattle.evidence_words.specs.Inputs.{Site, index_at, carrier_after}
use Rattle.own_frames4.specs.LeaseEvidence.Exchanges.{Numbered, Seen, messages_at, show}
use Rattle.own_frames4.specs.LeaseEvidence.LeaseBasis.{tells_end}
use Rattle.own_frames4.specs.LeaseEvidence.Replies.{reply_at}

-- an exchange that was granted, and the terms of its first acceptable ACK
pub record Granted : Type 0 where
  pub opened : Numbered
  pub terms : Terms4

-- whether the interface has carrier, its exchanges, the number of the last one that had an acceptable ACK, and its
-- grant, while that stands
pub record Judge : Type 0 where
  pub up : Bool
  pub seen : Seen
  pub answered : ℕ
  pub granted : Option Granted

-- before all turns
abbrev pub beginning : Site → Judge
beginning site = record { up = site.up; seen = record { count = 0; current = None }; answered = 0; granted = None }

-- ---- what the interface meets and says

-- whether no carrier is taken from an interface that has it, nothing of it is given back, and no stop comes
abbrev pub stays : (up : Bool) → ℕ → Event → Bool
stays up index (Carrier other now) = not (index == other && up) || now
stays up index (Release other) = not (index == other)
stays up index Stop = false
stays up index _ = true

-- whether that is so, and nothing is said that tells that no lease is held
abbrev pub is_calm : Site → Entry → Judge → Bool
is_calm site e judge = stays judge.up (index_at site) e.event && not (list_any tells_end (messages_at site e))

-- A turn that isn't calm ends the grant.
abbrev pub sees : Site → Entry → Judge → Judge
sees site e judge = record {
  up = carrier_after (index_at site) e.event judge.up;
  seen = show e.moment (messages_at site e) judge.seen;
  answered = judge.answered;
  granted = if is_calm site e judge then judge.granted else None;
}

-- ---- what a server says in the open exchange

-- An ACK is the grant from then on, and a NAK ends the one that stands.
abbrev pub told : Numbered → Answer4 → Judge → Judge
told opened (Ack terms) judge =
    record judge { answered = opened.number; granted = Some (record { opened = opened; terms = terms }) }
told opened Nak judge = record judge { granted = None }
told opened Nothing judge = judge
told opened (Offer address server) judge = judge

-- The first ACK of an exchange is its answer: what comes after it in that exchange counts for nothing.
abbrev pub hears_in : Option Numbered → Site → Entry → Judge → Judge
hears_in None site e judge = judge
hears_in (Some opened) site e judge =
    if judge.answered == opened.number then judge else told opened (reply_at site opened.exchange e) judge

abbrev pub hears : Site → Entry → Judge → Judge
hears site e judge = hears_in judge.seen.current site e judge

-- ---- turn by turn

-- The interface's own messages of a turn count before the reply that came in it.
abbrev pub turned : Site → Entry → Judge → Judge
turned site e judge = hears site e (sees site e judge)

-- the judge after some turns
abbrev pub judge_in : Site → List Entry → Judge
judge_in site [] = beginning site
judge_in site (e ∷ past) = turned site e (judge_in site past)
