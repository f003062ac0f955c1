use Rattle.std.proofs.Common.{◌≡◌}
use Rattle.loop_link.specs.Waits.{HearsNone}
use Rattle.loop_link.proofs.links.Wire.next_event.Given as goal

abbrev pub invariant-pieces : goal.invariant-pieces
invariant-pieces g l = record {
  peer : l.self.peer ≡ l.fn.self.peer;
  watch : l.self.watch ≡ l.fn.self.watch;
  link : g.L.Loopback.link l.self.line ≡ g.L.Loopback.link l.fn.self.line;
  quiet : HearsNone l.fn.self.peer (g.L.Loopback.calls l.fn.self.line) (g.L.Loopback.calls l.self.line);
}
