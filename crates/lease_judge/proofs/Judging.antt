-- The laws of the judge.
use Rattle.std.proofs.Common.{◌≡◌, ℕ, List, Option, Some, None, refl, sym, ap, subst, ◌∙◌}
use Rattle.net_types.specs.declared.address.Net.{Net}
use Rattle.evidence_words.specs.Entries.{Entry}
use Rattle.evidence_words.specs.Inputs.{Site}
use Rattle.own_frames4.specs.LeaseEvidence.LeaseBasis.{LeaseBasis}
use Rattle.own_frames4.proofs.LeaseEvidence.Observed.{observes}
use Rattle.own_frames4.proofs.LeaseEvidence.Observer.{Grant, kept_in}
use Rattle.lease_judge.specs.Judge.{Granted, judge_in}
use Rattle.lease_judge.specs.Laws.{IsGranted, GrantsAreJudged, IsJudged, BasesAreJudged}
use Rattle.lease_judge.proofs.AsObserver.{as_granted, granted_same}
use Rattle.lease_judge.proofs.GrantsTold.{stands_kept}

stands_by : (site : Site) (past : List Entry) (grant : Option Grant) → (kept_in site past).grant ≡ grant → (granted : Granted)
    → as_granted grant ≡ Some granted → IsGranted site granted past
stands_by site past None is granted h = absurd cc
stands_by site past (Some g) is granted h =
    subst (λ (x : Granted). IsGranted site x past) (one (record { opened = g.opened; terms = g.terms }) granted h) ((observes site past).stands g is)
  where
    one : (a b : Granted) → Some a ≡ Some b → a ≡ b
    one a b e = cc

judged_stands : (site : Site) (past : List Entry) (granted : Granted) → (judge_in site past).granted ≡ Some granted → IsGranted site granted past
judged_stands site past granted has = stands_by site past (kept_in site past).grant refl granted (sym (granted_same site past) ∙ has)

stands_judged : (site : Site) (past : List Entry) (granted : Granted) → IsGranted site granted past → (judge_in site past).granted ≡ Some granted
stands_judged site past granted stands =
    granted_same site past
    ∙ ap (λ (grant : Option Grant). as_granted grant) (stands_kept site (record { opened = granted.opened; terms = granted.terms }) past stands)

pub grants_judged : GrantsAreJudged
grants_judged site past granted = (judged_stands site past granted, stands_judged site past granted)

judged : (site : Site) (net : Net) (now : ℕ) (past : List Entry) → LeaseBasis site net now past → IsJudged site net now past
judged site net now past basis = record {
  granted = record { opened = basis.opened; terms = basis.terms };
  stands = stands_judged site past (record { opened = basis.opened; terms = basis.terms }) basis.granted;
  gives = basis.gives;
  unexpired = basis.unexpired;
  probed = basis.probed;
}

rests : (site : Site) (net : Net) (now : ℕ) (past : List Entry) → IsJudged site net now past → LeaseBasis site net now past
rests site net now past it = record {
  opened = it.granted.opened;
  terms = it.granted.terms;
  gives = it.gives;
  granted = judged_stands site past it.granted it.stands;
  unexpired = it.unexpired;
  probed = it.probed;
}

pub bases_judged : BasesAreJudged
bases_judged site net now past = (judged site net now past, rests site net now past)
