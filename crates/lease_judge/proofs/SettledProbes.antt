-- Where each address that was probed three times is a probed one, a turn makes none anew by its moment alone.
use Rattle.std.proofs.Common.{◌≡◌, ℕ, ◌-◌, ◌^◌, Bool, true, List, sym, ap, ◌∙◌}
use Rattle.std.specs.List.{list_all}
use Rattle.net_types.specs.declared.address.Ip4.{Ip4}
use Rattle.evidence_words.specs.Entries as told
use Rattle.evidence_words.specs.Inputs as told_of
use Rattle.local_judge.specs.ProbeTables.ProbeTimes.{is_past}
use Rattle.local_judge.specs.ProbeTables.Table.{AreProbed, times_of}
use Rattle.local_judge.specs.ProbeTables.declared.times.ProbeTimes.{ProbeTimes}
use Rattle.local_judge.proofs.SettledChoices.{at_last, one_among}
use Rattle.lease_judge.specs.ProbedTurns.{IsSettled}
use Rattle.lease_judge.specs.Probes.{AreSettled, probed_of}
use Rattle.lease_judge.specs.Turns.{JudgeContent, Tells}
use Rattle.lease_judge.specs.declared.probes.LeaseProbes.{LeaseProbes}

pub all_probed : (probes : LeaseProbes) (addrs : List Ip4) (settled : Bool) → AreProbed 0 (2 ^ 64 - 1) probes.table addrs
    → settled ≡ list_all (probed_of probes) addrs → settled ≡ true → AreSettled probes
all_probed probes addrs settled thrice tested_so holds = λ addr now lt ready.
    one_among (probed_of probes) addr addrs (sym tested_so ∙ holds) (thrice addr (at_last (times_of probes.table addr).third now lt ready))

pub turns_settled : (content : JudgeContent) → AreSettled content.probes → (site : told_of.Site) (past : List told.Entry) → Tells content site past
    → IsSettled site past
turns_settled content settled site past tells = λ addr fits now lt thrice.
    sym (tells.probed.probed addr fits)
    ∙ settled addr now lt (ap (λ (times : ProbeTimes). is_past 2000 times.third now) (tells.probed.table addr fits) ∙ thrice)
