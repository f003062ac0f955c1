-- A client that holds items takes each first good Reply, and what it takes is one.
use Rattle.std.proofs.Common.{◌≡◌, ℕ, Bool, true, false, ◌&&◌, List, ◌∷◌, Option, Some, None, refl, sym, ap, subst, ◌∙◌}
use Rattle.std.proofs.lemmas.Bool.{and_parts}
use Rattle.machine.specs.Since.{Always}
use Rattle.v6_message.specs.Replies.{Content6}
use Rattle.lease6_text.specs.Leases.{Lease6Content}
use Rattle.v6_client.specs.declared.exchange.Exchange6.{Exchange6}
use Rattle.v6_client.specs.declared.states.State6.{State6}
use Rattle.v6_client.specs.declared.states.State6.TheVariants.{Off, Waiting, Soliciting, Requesting, Bound, Renewing, Rebinding, Restarting, Declining}
use Rattle.v6_client.specs.Answers.{awaited, chosen, takes_replies}
use Rattle.v6_client.specs.Clients.{ClientContent, PleaContent, holds}
use Rattle.v6_client.specs.V6Items.Reading.{serves}
use Rattle.v6_client.specs.Saying.{lease_server, plea_server}
use Rattle.v6_client_laws.proofs.Given.{messages_serve}
use Rattle.lease_evidence.specs.EvidenceWords.Entries.{Entry}
use Rattle.lease_evidence.specs.EvidenceWords.Inputs.{Site}
use Rattle.lease6_evidence.specs.Exchanges6.{Numbered6, Seen6, seen6_in}
use Rattle.lease6_evidence.specs.Replies6.{FirstReply, NoReply, asks_at, message6_at}
use Rattle.lease6_evidence.proofs.ExchangeStates.{Asking6, IsFirst, On6, Solicits6, Takes6, client_with}
use Rattle.lease6_evidence.proofs.Hearing6.{Awaits, plain_awaits, solicit_awaits, taken_good, takes_good}

module _ (site : Site) (e : Entry) (past : List Entry) (unspent : Bool) (last : Option ℕ) (sol_max : ℕ) (kept : Option Lease6Content)
    (plea : Option PleaContent)
    (seen : Seen6) (same : seen6_in site (e ∷ past) ≡ seen) where
  abbrev here : State6 → ClientContent
  here state = client_with site unspent last sol_max state kept plea

  abbrev OnSeen : State6 → Option Numbered6 → Type 0
  OnSeen state current = On6 site state (lease_server kept) (plea_server plea) current past

  -- ---- a first Reply is taken

  open_is : (opened : Numbered6) (message : Content6) → FirstReply site opened message e past → seen.current ≡ Some opened
  open_is opened message first = ap (λ (s : Seen6). s.current) (sym same) ∙ first.good.is_open

  asked_first : (state : State6) (xid : ℕ) (opened : Numbered6) (message : Content6) → awaited last state ≡ Some xid
      → ((rapid : Bool) → takes_replies rapid state ≡ true)
      → Asking6 site xid (chosen state (lease_server kept) (plea_server plea)) (Some opened) past
      → FirstReply site opened message e past → Takes6 (here state) message
  asked_first state xid opened message is always h first =
      takes_good site message unspent last sol_max kept plea state opened
      (plain_awaits site past last (lease_server kept) (plea_server plea) state xid opened is always h) first.good.good
      ((messages_serve (asks_at site) message).1 first.good.serves)

  held_first : (state : State6) (opened : Numbered6) (message : Content6) → holds state ≡ true → OnSeen state (Some opened)
      → FirstReply site opened message e past → Takes6 (here state) message
  held_first Off opened message held on first = absurd cc
  held_first (Waiting due) opened message held on first = absurd cc
  held_first (Soliciting exchange offer) opened message held on first = absurd cc
  held_first (Requesting exchange) opened message held on first = absurd cc
  held_first Bound opened message held on first = absurd (on first.first)
  held_first (Renewing exchange) opened message held on first =
      asked_first (Renewing exchange) exchange.xid opened message refl (λ rapid. refl) on first
  held_first (Rebinding exchange) opened message held on first =
      asked_first (Rebinding exchange) exchange.xid opened message refl (λ rapid. refl) on first
  held_first (Restarting exchange end since stands) opened message held on first =
      asked_first (Restarting exchange end since stands) exchange.xid opened message refl (λ rapid. refl) on first
  held_first (Declining exchange) opened message held on first = absurd cc

  pub first_taken : (state : State6) (opened : Numbered6) (message : Content6) → holds state ≡ true → OnSeen state seen.current
      → FirstReply site opened message e past → Takes6 (here state) message
  first_taken state opened message held on first =
      held_first state opened message held (subst (λ (o : Option Numbered6). OnSeen state o) (open_is opened message first) on)
      first

  -- ---- what is taken is a first Reply

  module _ (message : Content6) (came : message6_at site e ≡ Some message) where
    first_of : (state : State6) (x : Numbered6) → seen.current ≡ Some x
        → Awaits site last state (lease_server kept) (plea_server plea) x
        → Always (NoReply site x.number) past → Takes6 (here state) message → IsFirst site message e past
    first_of state x is awaits unanswered taken = record {
      opened = x;
      first = record {
        good = taken_good site e past message came unspent last sol_max kept plea state seen x same is awaits taken;
        first = unanswered;
      };
    }

    asked_taken : (state : State6) (xid : ℕ) → awaited last state ≡ Some xid
        → ((rapid : Bool) → takes_replies rapid state ≡ true) → (current : Option Numbered6)
        → seen.current ≡ current → Asking6 site xid (chosen state (lease_server kept) (plea_server plea)) current past
        → Takes6 (here state) message → IsFirst site message e past
    asked_taken state xid is always None open_one h taken = absurd h
    asked_taken state xid is always (Some x) open_one h taken =
        first_of state x open_one (plain_awaits site past last (lease_server kept) (plea_server plea) state xid x is always h)
        h.unanswered taken

    taking : (state : State6) → Takes6 (here state) message → takes_replies (message.rapid && site.managed.conf.dhcp6.rapid)
        state ≡ true
    taking state taken =
        (and_parts (takes_replies (message.rapid && site.managed.conf.dhcp6.rapid) state) (serves (asks_at site) message)
        taken.taken).0

    both : (a b : Bool) → (a && b) ≡ true → b ≡ false → ⊥
    both true b t f = cc
    both false b t f = cc

    solicited_taken : (exchange : Exchange6) (offer : Option ℕ) (current : Option Numbered6) → seen.current ≡ current
        → Solicits6 site site.managed.conf.dhcp6.rapid exchange.xid current past
        → Takes6 (here (Soliciting exchange offer)) message
        → IsFirst site message e past
    solicited_taken exchange offer None open_one off taken =
        absurd (both message.rapid site.managed.conf.dhcp6.rapid (taking (Soliciting exchange offer) taken) off)
    solicited_taken exchange offer (Some x) open_one h taken =
        first_of (Soliciting exchange offer) x open_one (solicit_awaits site past last (lease_server kept) (plea_server plea)
        exchange offer x h.0 h.1)
        h.1.unanswered taken

    never_taken : (b : Bool) → b ≡ false → b ≡ true → IsFirst site message e past
    never_taken b f t = absurd cc

    pub taken_first : (state : State6) → OnSeen state seen.current → Takes6 (here state) message → IsFirst site message e past
    taken_first Off on taken = never_taken _ refl (taking Off taken)
    taken_first (Waiting due) on taken = never_taken _ refl (taking (Waiting due) taken)
    taken_first (Soliciting exchange offer) on taken = solicited_taken exchange offer seen.current refl on taken
    taken_first (Requesting exchange) on taken = asked_taken (Requesting exchange) exchange.xid refl (λ rapid. refl)
        seen.current refl on taken
    taken_first Bound on taken = never_taken _ refl (taking Bound taken)
    taken_first (Renewing exchange) on taken = asked_taken (Renewing exchange) exchange.xid refl (λ rapid. refl) seen.current
        refl on taken
    taken_first (Rebinding exchange) on taken = asked_taken (Rebinding exchange) exchange.xid refl (λ rapid. refl) seen.current
        refl on taken
    taken_first (Restarting exchange end since stands) on taken =
        asked_taken (Restarting exchange end since stands) exchange.xid refl (λ rapid. refl) seen.current refl on taken
    taken_first (Declining exchange) on taken = never_taken _ refl (taking (Declining exchange) taken)
