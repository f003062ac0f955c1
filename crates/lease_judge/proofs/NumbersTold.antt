-- The numbers of exchanges, and whether a turn is calm, are told by what the code holds.
use Rattle.std.proofs.Common.{◌≡◌, not, ◌&&◌, List, Option, ap, ◌∙◌}
use Rattle.std.specs.List.{list_any}
use Rattle.v4_frames.specs.declared.sent.Sent4.{Sent4}
use Rattle.evidence_words.specs.Entries as told
use Rattle.evidence_words.specs.Inputs as told_of
use Rattle.evidence_words.specs.Inputs.{index_at}
use Rattle.own_frames4.specs.LeaseEvidence.Exchanges.{Seen, messages_at, seen_in}
use Rattle.own_frames4.specs.LeaseEvidence.LeaseBasis.{tells_end}
use Rattle.lease_judge.specs.Judge.{Judge, is_calm, stays, judge_in}
use Rattle.lease_judge.specs.Numbers.{granted_number, open_number}
use Rattle.lease_judge.specs.ProbedTurns.{calm_in}
use Rattle.lease_judge.specs.Watched.{judge_shown}
use Rattle.lease_judge.specs.Turns.{JudgeContent, Tells}
use Rattle.lease_judge.proofs.AsObserver.{seen_same}

pub open_so : (content : JudgeContent) (site : told_of.Site) (past : List told.Entry) → Tells content site past
    → open_number (judge_shown content.watch).seen ≡ open_number (seen_in site past)
open_so content site past tells =
    ap (λ (j : Judge). open_number j.seen) tells.judged ∙ ap (λ (seen : Seen). open_number seen) (seen_same site past)

pub granted_so : (content : JudgeContent) (site : told_of.Site) (past : List told.Entry) → Tells content site past
    → granted_number (judge_shown content.watch).granted ≡ granted_number (judge_in site past).granted
granted_so content site past tells = ap (λ (j : Judge). granted_number j.granted) tells.judged

pub calm_so : (content : JudgeContent) (site : told_of.Site) (e : told.Entry) (past : List told.Entry) (messages : List (Option Sent4))
    → messages ≡ messages_at site e → Tells content site past
    → (stays content.watch.up (index_at site) e.event && not (list_any tells_end messages)) ≡ calm_in site e past
calm_so content site e past messages are tells =
    ap (λ (ms : List (Option Sent4)). stays content.watch.up (index_at site) e.event && not (list_any tells_end ms)) are
    ∙ ap (λ (j : Judge). is_calm site e j) tells.judged
