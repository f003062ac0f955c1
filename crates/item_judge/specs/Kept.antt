-- What a judge keeps, in the words of the definitions.
use Rattle.v6_message.specs.Shown.{message_shown}
use Rattle.item_judge.specs.declared.asking.Asking.{Asking}
use Rattle.item_judge.specs.declared.asking.Named as kept
use Rattle.item_judge.specs.declared.asking.Named.TheVariants.{Nobody, One, Unlike}
use Rattle.item_judge.specs.declared.heard.Heard as shown
use Rattle.item_judge.specs.Asking.{AskingContent, Heard, Named, nobody, one, unlike}

abbrev pub named_content : kept.Named → Named
named_content Nobody = nobody
named_content (One server) = one server.items
named_content Unlike = unlike

abbrev pub asking_content : Asking → AskingContent
asking_content asking = record {
  xid = asking.xid;
  named = named_content asking.named;
  solicits = asking.solicits;
  answered = asking.answered;
}

abbrev pub heard_content : shown.Heard → Heard
heard_content heard = record { message = message_shown heard.message; is_new = heard.is_new }
