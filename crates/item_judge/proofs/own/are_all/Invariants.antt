use Rattle.std.proofs.Common.{◌≡◌, drop, map}
use Rattle.v6_options.specs.IaViews.{ias_left}
use Rattle.v6_message.specs.ReadBack.{asked_in}
use Rattle.evidence_words.specs.ClientModel.ClientSettings6.{ask_for}
use Rattle.lease6_evidence.specs.OwnMessages6 as own
use Rattle.item_judge.proofs.own.are_all.Given as goal

abbrev pub invariant-confs : goal.invariant-confs
invariant-confs l =
    own.are_all own.is_ia_of (map ask_for (drop l.conf-index l.confs)) (map asked_in (ias_left l.left))
    ≡ own.are_all own.is_ia_of (map ask_for l.confs) (map asked_in (ias_left l.ias))
