-- What a judge's open exchange tells of the exchanges that an interface opened.
use Rattle.std.specs.Prelude.{◌≡◌, ℕ, ◌==◌, List, [], ◌∷◌, bytes_eq, Option, Some, None}
use Rattle.std.specs.List.{list_all}
use Rattle.net_types.specs.declared.address.Net6.{Net6}
use Rattle.v6_items.specs.declared.asks.IaAsk.{IaAsk}
use Rattle.evidence_words.specs.Entries.{Entry}
use Rattle.evidence_words.specs.Inputs.{Site}
use Rattle.lease6_evidence.specs.Exchanges6.{Numbered6}
use Rattle.lease6_judge.specs.HeardTerms.{good_reply, heard_from, is_new}
use Rattle.lease6_judge.specs.Terms.{Term}
use Rattle.lease6_judge.specs.Watching.{Replied, watch_in}
use Rattle.item_judge.specs.Asking.{AskingContent, Heard, asking_after, heard_at, is_named}

-- the open exchange after some turns
abbrev pub asking_in : Site → List Entry → Option AskingContent
asking_in site [] = None
asking_in site (e ∷ past) = asking_after site e (asking_in site past)

-- it is the exchange of a number, and whether that was answered is known by the number of the last one that was
pub record IsOpen (answered : ℕ) (asking : AskingContent) (opened : Numbered6) : Type 0 where
  pub xid : asking.xid ≡ opened.exchange.xid
  pub solicits : asking.solicits ≡ opened.exchange.solicits
  pub named : (server : List ℕ)
      → is_named asking.named server ≡ list_all (λ named. bytes_eq server named) opened.exchange.servers
  pub known : asking.answered ≡ (answered == opened.number)

abbrev pub TellsOpen : (answered : ℕ) → Option AskingContent → Option Numbered6 → Type 0
TellsOpen answered None None = Unit {0}
TellsOpen answered None (Some opened) = ⊥
TellsOpen answered (Some asking) None = ⊥
TellsOpen answered (Some asking) (Some opened) = IsOpen answered asking opened

-- a good Reply, and that it is the first one of its exchange
pub record IsHeard (answered : ℕ) (heard : Heard) (replied : Replied) : Type 0 where
  pub message : heard.message ≡ replied.message
  pub is_new : heard.is_new ≡ is_new answered replied

abbrev pub TellsHeard : (answered : ℕ) → Option Heard → Option Replied → Type 0
TellsHeard answered None None = Unit {0}
TellsHeard answered None (Some replied) = ⊥
TellsHeard answered (Some heard) None = ⊥
TellsHeard answered (Some heard) (Some replied) = IsHeard answered heard replied

-- what a good Reply makes of an item's term
abbrev pub term_next : (came : ℕ) → IaAsk → Net6 → Option Heard → Term → Term
term_next came ask net None term = term
term_next came ask net (Some heard) term = heard_from came heard.is_new ask net heard.message term

-- After any turns the judge keeps the exchange that is open then.
abbrev pub OpenIsTold : Type 0
OpenIsTold = (site : Site) (past : List Entry)
    → TellsOpen (watch_in site past).answered (asking_in site past) (watch_in site past).seen.current

-- In the next one it takes what comes for a good Reply exactly where it is that.
abbrev pub HeardIsTold : Type 0
HeardIsTold = (site : Site) (e : Entry) (past : List Entry)
    → TellsHeard (watch_in site past).answered (heard_at site e (asking_in site past))
    (good_reply site e (watch_in site past))
