use Rattle.std.proofs.Common.{ℕ, List, Option, sym, subst}
use Rattle.std.specs.List.{AllByRecursion}
use Rattle.net_types.proofs.AllLaws.{all_map}
use Rattle.lease6_text.specs.LeaseText.Leases.{ValueContent}
use Rattle.lease6_text.specs.Bounds.{FitsIas, FitsItem, FitsMoment, FitsValues6}
use Rattle.lease6_text.specs.Leases.{IaLeaseContent}
use Rattle.v6_items.specs.declared.asks.IaAsk.{IaAsk}
use Rattle.v6_items.specs.Meetings.{meeting_shown}
use Rattle.v6_items.specs.Reading.{ia_for, saids_of}
use Rattle.v6_items.specs.Taking.{IsTimedFor, Meeting, item_from}
use Rattle.v6_items.proofs.LeaseFits.{ias_fit, t1_fits, t2_fits, values_fit}
use Rattle.v6_items.proofs.SaidFits.{saids_fit}
use Rattle.v6_items.proofs.taking.lease_granted.Goals as goal

pub returns-clause-fits : goal.returns-clause-fits
returns-clause-fits c =
    let m : Meeting = meeting_shown c.args.meeting in
    let saids : AllByRecursion
    (λ (ask : IaAsk). AllByRecursion (λ said. FitsItem ask.kind (item_from m.at said)) (saids_of (ia_for ask m.ias))) c.args.asks.now =
    all_map (IsTimedFor m) (λ (ask : IaAsk). AllByRecursion (λ said. FitsItem ask.kind (item_from m.at said)) (saids_of (ia_for ask m.ias)))
    (λ ask timed. saids_fit ask m.at c.args.meeting.message.now.options.now c.requires.at timed) c.args.asks.now c.in_ok-granting.ensures.timed in
    record {
      origin = c.requires.at;
      name = c.requires.name;
      t1 = subst (λ (t : Option ℕ). FitsMoment t) (sym c.times_granted-t1.ensures.t1)
          (t1_fits m c.in_ok-granting.granting.spans c.requires.at c.in_ok-granting.ensures.short c.requires.kept);
      t2 = subst (λ (t : Option ℕ). FitsMoment t) (sym c.times_granted-t1.ensures.t2)
          (t2_fits m c.in_ok-granting.granting.spans c.requires.at c.in_ok-granting.ensures.short c.requires.kept);
      ias = subst (λ (ias : List IaLeaseContent). FitsIas ias) (sym c.in_ok-granting.ensures.ias)
          (ias_fit m c.args.asks.now c.requires.asks c.requires.kept saids);
      values = subst (λ (values : List ValueContent). FitsValues6 values) (sym c.in_ok-values.ensures)
          (values_fit c.args.meeting.message.now.dns.now c.args.meeting.message.now.search.now);
    }
