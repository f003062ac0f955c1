-- A judge of DHCPv6 leases: what it keeps of an interface from turn to turn, to tell which Replies count
-- (RFC 8415, sections 16.10 and 18.2.10). It takes one turn after another, and looks back at none.
use Rattle.std.specs.Prelude.{ℕ, Bool, not, ◌&&◌, ◌==◌, if◌then◌else◌, List, [], ◌∷◌, Option, Some, None}
use Rattle.v6_message.specs.Replies.{Content6}
use Rattle.v6_client.specs.V6Items.Reading.{serves}
use Rattle.lease6_evidence.specs.EvidenceWords.Entries.{Entry}
use Rattle.lease6_evidence.specs.EvidenceWords.Inputs.{Site, index_at, carrier_after}
use Rattle.lease6_evidence.specs.Exchanges6.{Numbered6, Seen6, messages6_at, show6}
use Rattle.lease6_evidence.specs.Replies6.{answers, asks_at, message6_at}

-- whether the interface has carrier, its exchanges, and the number of the last one that had a good Reply (0 where none
-- had)
pub record Watch : Type 0 where
  pub up : Bool
  pub seen : Seen6
  pub answered : ℕ

-- before all turns
abbrev pub beginning : Site → Watch
beginning site = record { up = site.up; seen = record { count = 0; current = None }; answered = 0 }

-- a message, and the exchange that it answers
pub record Replied : Type 0 where
  pub opened : Numbered6
  pub message : Content6

-- whether it is a good Reply of an exchange that had none
abbrev pub is_first : Site → (answered : ℕ) → Numbered6 → Content6 → Bool
is_first site answered opened message =
    answers site opened.exchange message && serves (asks_at site) message && not (answered == opened.number)

-- the first good Reply of the open exchange, if it is what came
abbrev pub first_in : Site → (answered : ℕ) → Option Numbered6 → (came : Option Content6) → Option Replied
first_in site answered None came = None
first_in site answered (Some opened) None = None
first_in site answered (Some opened) (Some message) =
    if is_first site answered opened message then Some (record { opened = opened; message = message }) else None

-- The interface's own messages of a turn count before the Reply that came in it.
abbrev pub first_reply : Site → Entry → Watch → Option Replied
first_reply site e watch =
    first_in site watch.answered (show6 (messages6_at site e) watch.seen).current (message6_at site e)

abbrev pub answered_after : Option Replied → (answered : ℕ) → ℕ
answered_after None answered = answered
answered_after (Some replied) answered = replied.opened.number

-- ---- turn by turn

abbrev pub watched : Site → Entry → Watch → Watch
watched site e watch = record {
  up = carrier_after (index_at site) e.event watch.up;
  seen = show6 (messages6_at site e) watch.seen;
  answered = answered_after (first_reply site e watch) watch.answered;
}

-- what is kept of the interface after some turns
abbrev pub watch_in : Site → List Entry → Watch
watch_in site [] = beginning site
watch_in site (e ∷ past) = watched site e (watch_in site past)
