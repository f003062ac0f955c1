-- A step of an interface: how it goes on, what it says, and what is new.
use Rattle.std.specs.Prelude.{ℕ, List, [], ◌∷◌, ◌++◌, map}
use Rattle.client_model.specs.declared.interfaces.Iface.{Iface}
use Rattle.client_model.specs.Messages.{Said}
use Rattle.client_model.specs.declared.steps.News.{News}

abbrev pub index_of : Iface → ℕ
index_of iface = iface.managed.spec.index.number

-- something new, with the interface before and after the step that brought it
pub record Report : Type 0 where
  pub before : Iface
  pub news : News
  pub after : Iface

pub record IfaceStep : Type 0 where
  pub iface : Iface
  -- the messages that it says, in order
  pub said : List Said
  -- what is new, in order
  pub reports : List Report

abbrev pub news_of : IfaceStep → List News
news_of step = map (λ report. report.news) step.reports

abbrev pub silent : Iface → IfaceStep
silent iface = record { iface = iface; said = []; reports = [] }

-- one step and then another
abbrev pub then_step : IfaceStep → (Iface → IfaceStep) → IfaceStep
then_step first next = record {
  iface = (next first.iface).iface;
  said = first.said ++ (next first.iface).said;
  reports = first.reports ++ (next first.iface).reports;
}

-- a step that begins with something new
abbrev pub with_news : News → Iface → IfaceStep → IfaceStep
with_news news before step = record {
  iface = step.iface;
  said = step.said;
  reports = record { before = before; news = news; after = step.iface } ∷ step.reports;
}
