-- The turns on which a link-local address rests (RFC 3927, sections 2.2.1 and 2.5).
use Rattle.std.specs.Prelude.{◌≡◌, List, length}
use Rattle.net_types.specs.declared.address.Net.{Net}
use Rattle.evidence_words.specs.Entries.{Entry}
use Rattle.evidence_words.specs.Inputs.{Site, StaysOn}
use Rattle.static_judge.specs.LocalEvidence.LinkLocalBasis.{Anything, LinkLocalBasis}
use Rattle.basis_turns.specs.ProbedIn.{ProbesIn, three_of}
use Rattle.basis_turns.specs.declared.probes.ProbedTurns.{ProbedTurns}

-- The turns are those of the basis of the address: that of its fourth turn, and those of the three probes before it.
pub record LocalShown (turns : ProbedTurns) (site : Site) (net : Net) (past : List Entry) : Type 0 where
  pub basis : LinkLocalBasis site net past
  pub fourth : turns.fourth ≡ length basis.probed.earlier
  pub probes : ProbesIn (StaysOn site) Anything site basis.addr (three_of turns) 2000 basis.probed.fourth.moment
      basis.probed.earlier
