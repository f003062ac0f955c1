-- A Reply that is taken, without where it lies in memory.
use Rattle.std.specs.Prelude.{List, option_map}
use Rattle.v6_options.specs.Ias.{ias_in}
use Rattle.lease6_text.specs.declared.lease.Item6.{Item6}
use Rattle.lease6_text.specs.Leases.{lease6_content}
use Rattle.v6_items.specs.declared.asks.IaAsk.{IaAsk}
use Rattle.v6_items.specs.declared.taking.Meeting6.{Meeting6}
use Rattle.v6_items.specs.declared.taking.Taking6.{Taking6}
use Rattle.v6_items.specs.Items.{asked_at, ias_of}
use Rattle.v6_items.specs.Taking.{IaTaking, Meeting}

abbrev pub taking_content : Taking6 → IaTaking
taking_content taking = record { items = taking.items.items; shortest = taking.shortest }

abbrev pub meeting_shown : Meeting6 → Meeting
meeting_shown meeting = record {
  at = meeting.at;
  scope = meeting.scope;
  kept = option_map lease6_content meeting.kept.now;
  ias = ias_in meeting.message.now.options.now;
}

-- the items that an IA had
abbrev pub asked_in : Meeting6 → IaAsk → List Item6
asked_in meeting ask = asked_at ask (ias_of (option_map lease6_content meeting.kept.now))
