-- What is known of the exchanges shown, beside the state of an interface's client.
use Rattle.std.proofs.Common.{◌≡◌, ℕ, ◌<◌, Bool, true, false, List, Option, Some, None, IfSome}
use Rattle.std.specs.Prelude.{option_map}
use Rattle.machine.specs.Since.{Always}
use Rattle.v6_message.specs.declared.kind.ServerKind6.TheVariants.{Reply}
use Rattle.v6_message.specs.Replies.{Content6}
use Rattle.v6_client.specs.declared.states.State6.{State6}
use Rattle.v6_client.specs.declared.states.State6.TheVariants.{Off, Waiting, Soliciting, Requesting, Bound, Renewing, Rebinding, Restarting, Declining}
use Rattle.v6_client.specs.Answers as answers
use Rattle.v6_client.specs.Answers.{counts, is_taken}
use Rattle.lease6_text.specs.Leases.{Lease6Content}
use Rattle.v6_client.specs.Clients.{ClientContent, PleaContent}
use Rattle.v6_client.specs.V6Items.Items.{pruned_ias}
use Rattle.v6_client.specs.Moves.{lease_with}
use Rattle.v6_client.specs.V6Items.declared.asks.IaAsk.{IaAsk}
use Rattle.v6_client.specs.Saying.{lease_server, plea_server}
use Rattle.lease_evidence.specs.ClientModel.ClientSettings6.{settings6_of}
use Rattle.lease_evidence.specs.EvidenceWords.Entries.{Entry}
use Rattle.lease_evidence.specs.EvidenceWords.Inputs.{Site}
use Rattle.lease6_evidence.specs.Exchanges6.{Numbered6, Seen6}
use Rattle.lease6_evidence.specs.Replies6.{NoReply, FirstReply, is_from}

-- ---- the numbers of exchanges

-- the open exchange is the last one, and no later one had a good Reply
pub record Counted6 (site : Site) (seen : Seen6) (past : List Entry) : Type 0 where
  pub latest : IfSome seen.current (λ x. x.number ≡ seen.count)
  pub above : (n : ℕ) → seen.count < n → Always (NoReply site n) past

-- ---- what each state carries

-- the open exchange has the transaction id of the client's last one
abbrev pub LastXid6 : Option ℕ → Option Numbered6 → Type 0
LastXid6 last None = Unit {0}
LastXid6 last (Some x) = last ≡ Some x.exchange.xid

-- it is of this transaction id, the same servers may answer, and no good Reply came in it
pub record Asks6 (site : Site) (xid : ℕ) (chosen : Option (List ℕ)) (solicits : Bool) (x : Numbered6)
    (past : List Entry) : Type 0 where
  pub same_xid : x.exchange.xid ≡ xid
  pub servers : (told : Option (List ℕ)) → is_from x.exchange.servers told ≡ answers.is_from chosen told
  pub kind : x.exchange.solicits ≡ solicits
  pub unanswered : Always (NoReply site x.number) past

abbrev pub Asking6 : Site → (xid : ℕ) → (chosen : Option (List ℕ)) → Option Numbered6 → List Entry → Type 0
Asking6 site xid chosen None past = ⊥
Asking6 site xid chosen (Some x) past = Asks6 site xid chosen false x past

-- a SOLICIT opens an exchange where a Reply may answer it
abbrev pub Solicits6 : Site → (rapid : Bool) → (xid : ℕ) → Option Numbered6 → List Entry → Type 0
Solicits6 site rapid xid None past = rapid ≡ false
Solicits6 site rapid xid (Some x) past = (rapid ≡ true) × Asks6 site xid None true x past

-- none is open, or it had a good Reply
abbrev pub Answered6 : Site → Option Numbered6 → List Entry → Type 0
Answered6 site None past = Unit {0}
Answered6 site (Some x) past = Always (NoReply site x.number) past → ⊥

-- `leased` and `pleaded` are the servers of the client's lease and of its plea
abbrev pub On6 : Site → State6 → (leased pleaded : Option (List ℕ)) → Option Numbered6 → List Entry → Type 0
On6 site Off leased pleaded current past = Unit {0}
On6 site (Waiting due) leased pleaded current past = Unit {0}
On6 site (Soliciting exchange offer) leased pleaded current past = Solicits6 site site.managed.conf.dhcp6.rapid exchange.xid
    current past
On6 site (Requesting exchange) leased pleaded current past = Asking6 site exchange.xid pleaded current past
On6 site Bound leased pleaded current past = Answered6 site current past
On6 site (Renewing exchange) leased pleaded current past = Asking6 site exchange.xid leased current past
On6 site (Rebinding exchange) leased pleaded current past = Asking6 site exchange.xid None current past
On6 site (Restarting exchange end since stands) leased pleaded current past = Asking6 site exchange.xid None current past
On6 site (Declining exchange) leased pleaded current past = current ≡ None

-- The exchanges seen so far, beside a state, the transaction id of the last exchange and the two servers. `past` is the turns
-- before, which may lag behind by the turn that goes on.
pub record Follows6 (site : Site) (last : Option ℕ) (state : State6) (leased pleaded : Option (List ℕ)) (seen : Seen6)
    (past : List Entry) : Type 0 where
  pub counted : Counted6 site seen past
  pub last_is : LastXid6 last seen.current
  pub on : On6 site state leased pleaded seen.current past

-- the kept lease without what isn't asked for again
abbrev pub pruned_kept : (at : ℕ) → List IaAsk → Option Lease6Content → Option Lease6Content
pruned_kept at asks kept = option_map (λ lease. lease_with (pruned_ias at lease.ias asks) lease) kept

-- whether a client stands on the kept lease
abbrev pub stood : State6 → Bool
stood Off = false
stood (Waiting due) = false
stood (Soliciting exchange offer) = false
stood (Requesting exchange) = false
stood Bound = false
stood (Renewing exchange) = false
stood (Rebinding exchange) = false
stood (Restarting exchange end since stands) = stands
stood (Declining exchange) = false

-- a client with an interface's settings
abbrev pub client_with : Site → (unspent : Bool) → (last : Option ℕ) → (sol_max : ℕ) → State6 → Option Lease6Content → Option PleaContent
    → ClientContent
client_with site unspent last sol_max state kept plea = record {
  settings = settings6_of site.duid site.managed;
  last = last;
  sol_max = sol_max;
  state = state;
  kept = kept;
  plea = plea;
  fresh = unspent;
}

pub record Watched6 (site : Site) (c : ClientContent) (seen : Seen6) (past : List Entry) : Type 0 where
  pub settings : c.settings ≡ settings6_of site.duid site.managed
  pub follows : Follows6 site c.last c.state (lease_server c.kept) (plea_server c.plea) seen past

-- ---- what it gives for items

-- the client takes a Reply
pub record Takes6 (c : ClientContent) (message : Content6) : Type 0 where
  pub counted : counts c message ≡ true
  pub kind : message.kind ≡ Reply
  pub taken : is_taken c message ≡ true

-- a Reply that the client takes is the first good one of the open exchange
pub record IsFirst (site : Site) (message : Content6) (e : Entry) (past : List Entry) : Type 0 where
  pub opened : Numbered6
  pub first : FirstReply site opened message e past
