-- Which lines are said of the lives of a transcript, kept while its lines go by.
use Rattle.std.specs.Prelude.{ℕ, List, [], ◌∷◌, ◌++◌, Option, Some, None}
use Rattle.std.specs.Option.{option_map}
use Rattle.net_types.specs.declared.interface.IfSpec.{IfSpec}
use Rattle.conf_text.specs.Configurations.{Configuration}
use Rattle.script_model.specs.Lines.{Line, Interface, Life, Start, Turn, EndOfLife}
use Rattle.row_reasons.specs.AuditModel.Auditing as model
use Rattle.row_reasons.specs.AuditModel.Auditing.{Auditing, Living, begun, turned, with_line}
use Rattle.row_reasons.specs.ReasonLines.{LifeJudged, judged_now, life_judged}

-- the interfaces so far, the number of the last life, the life that goes on, the same as it was by the end of its last
-- judged turn, and those that ended
pub record Explaining : Type 0 where
  pub configuration : Configuration
  pub ifaces : List IfSpec
  pub number : ℕ
  pub living : Option Living
  pub judged : Option Living
  pub ended : List LifeJudged

-- an auditor that has seen the interfaces
abbrev pub auditing : Explaining → Auditing
auditing state = record (model.first state.configuration) { ifaces = state.ifaces }

abbrev pub after : Explaining → Line → Explaining
after state (Interface spec) = record state { ifaces = state.ifaces ++ spec ∷ [] }
after state (Life number) = record state { number = number }
after state (Start begin) = record state { living = Some (begun (auditing state) begin); judged = None }
after state (Turn at salt event bytes) = record state {
  living = option_map (turned at event bytes) state.living;
  judged = judged_now state.living state.judged;
}
after state EndOfLife = record state {
  living = None;
  judged = None;
  ended = state.ended ++ life_judged state.number (judged_now state.living state.judged);
}
after state line = record state { living = option_map (with_line line) state.living }

abbrev pub first : Configuration → Explaining
first configuration = record {
  configuration = configuration;
  ifaces = [];
  number = 0;
  living = None;
  judged = None;
  ended = [];
}
