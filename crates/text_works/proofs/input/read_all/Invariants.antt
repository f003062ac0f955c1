use Rattle.std.proofs.Common.{◌≡◌, ◌≤◌, ◌+◌, ◌-◌, true, vec_len}
use Rattle.text_works.specs.Input.{CountsTaken, HasRead}
use Rattle.text_works.proofs.input.read_all.Given as goal

abbrev pub invariant-pieces : goal.invariant-pieces
invariant-pieces g l = record {
  read : HasRead (g.I.Source.left l.fn.input) l.all.items (g.I.Source.left l.input);
  length : vec_len l.all ≤ 16777217;
  room : vec_len l.buf ≡ 65536;
  counted : CountsTaken (vec_len l.all) (g.I.Source.taken l.fn.input) (g.I.Source.taken l.input);
  reads : g.I.Source.reads l.input ≤ g.I.Source.reads l.fn.input + vec_len l.all;
  steady : g.I.Source.never_fails l.fn.input ≡ true → g.I.Source.faults l.input ≡ g.I.Source.faults l.fn.input;
  stays : g.I.Source.never_fails l.input ≡ g.I.Source.never_fails l.fn.input;
  faults : g.I.Source.faults l.fn.input ≤ g.I.Source.faults l.input;
}

abbrev pub decreases-pieces : goal.decreases-pieces
decreases-pieces g l = 16777217 - vec_len l.all
