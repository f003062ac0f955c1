-- What was sent, and what is left to send and to say.
use Rattle.std.proofs.Common.{◌≡◌, ◌++◌, length, map}
use Rattle.std.specs.List.{AllByRecursion}
use Rattle.client_core.specs.Stepping.{IsOnInterface}
use Rattle.iface_core.specs.Outcomes.{sending_of}
use Rattle.lab_model.specs.LabLines.{client_lines, lines_text}
use Rattle.lab_text.proofs.frames.Frames.send.Given as goal

abbrev pub invariant-loop-sending : goal.invariant-loop-sending
invariant-loop-sending l = record {
  on : AllByRecursion IsOnInterface (map sending_of l.sending-iterator.rest.items);
  made : l.frames.made ≡ l.fn.self.made;
  sent : l.frames.sent ++ map sending_of l.sending-iterator.rest.items ≡ l.fn.self.sent ++ map sending_of l.fn.sends.items;
  said : l.text.items ++ lines_text (client_lines (length l.frames.sent) (map sending_of l.sending-iterator.rest.items))
      ≡ l.initial.text.items ++ lines_text (client_lines (length l.fn.self.sent) (map sending_of l.fn.sends.items));
}
