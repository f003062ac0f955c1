-- The turns on which a leased address rests (RFC 2131, sections 3.1 and 4.4). Moments are in milliseconds.
use Rattle.std.specs.Prelude.{◌≡◌, ◌≢◌, ℕ, true, List, ◌∷◌, Option, Some, None}
use Rattle.net_types.specs.declared.address.Ip4.{Ip4}
use Rattle.net_types.specs.declared.address.Net.{Net}
use Rattle.net_types.specs.declared.address.Net.TheVariants.{V4}
use Rattle.lease_text.specs.declared.lease.Terms4.{Terms4}
use Rattle.v4_client.specs.Answers.{is_unexpired}
use Rattle.evidence_words.specs.Entries.{Entry}
use Rattle.evidence_words.specs.Inputs.{Site}
use Rattle.static_judge.specs.LeaseEvidence.Exchanges.{Numbered, seen_in}
use Rattle.static_judge.specs.LeaseEvidence.LeaseBasis.{Calm, CalmFor, FirstAck, LeaseBasis}
use Rattle.static_judge.specs.LocalEvidence.LinkLocalBasis.{Anything}
use Rattle.basis_turns.specs.ProbedIn.{ProbedIn}
use Rattle.basis_turns.specs.Turns.{SinceTurn}
use Rattle.basis_turns.specs.declared.leases.LeaseTurns.{LeaseTurns}
use Rattle.basis_turns.specs.declared.probes.ProbedTurns.{ProbedTurns}

-- The exchange is open after a turn, and wasn't before it: its first REQUEST was offered in it.
pub record Opens (site : Site) (opened : Numbered) (e : Entry) (past : List Entry) : Type 0 where
  pub is_open : (seen_in site (e ∷ past)).current ≡ Some opened
  pub is_new : (seen_in site past).current ≢ Some opened

-- It was probed in these turns, or addresses aren't to be probed.
abbrev pub ProbesShown : Site → Ip4 → Option ProbedTurns → List Entry → Type 0
ProbesShown site addr None past = site.managed.conf.flags.noarp ≡ true
ProbesShown site addr (Some turns) past = ProbedIn (Calm site) Anything site addr turns past

-- The turns are those of the basis of a lease: an exchange opened in that of the REQUEST, and its first acceptable ACK
-- came in that of the ACK; it gives this very address, and its time isn't over. After it came calm turns alone, and no
-- later exchange had an ACK or a NAK.
pub record LeaseShown (turns : LeaseTurns) (site : Site) (net : Net) (now : ℕ) (past : List Entry) : Type 0 where
  pub opened : Numbered
  pub terms : Terms4
  pub gives : net ≡ V4 terms.net
  pub asked : SinceTurn turns.granting.request Anything (Opens site opened) past
  pub granted : SinceTurn turns.granting.ack (CalmFor site opened) (FirstAck site opened terms) past
  pub unexpired : is_unexpired opened.exchange.first terms.lease now ≡ true
  pub probed : ProbesShown site terms.net.ip turns.probed past

-- So the address has its basis.
abbrev pub ShownLeasesHaveBases : Type 0
ShownLeasesHaveBases = (turns : LeaseTurns) (site : Site) (net : Net) (now : ℕ) (past : List Entry)
    → LeaseShown turns site net now past → LeaseBasis site net now past
