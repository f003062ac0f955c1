use Rattle.std.proofs.Common.{refl}
use Rattle.lease6_text.specs.LeaseReading.{reading_of}
use Rattle.lease6_text.proofs.LastIa.{added_last, refused_last}
use Rattle.lease6_text.proofs.reading.LeaseState.take_item.Goals as goal

pub returns-in_ok-push-in-Ok-clause-taken : goal.returns-in_ok-push-in-Ok-clause-taken
returns-in_ok-push-in-Ok-clause-taken c =
    added_last (reading_of c.args.self) c.args.self.ias.items c.pop.new.self.items c.push.new.self.items c.in-Some.ia c.in-Ok.joined c.args.rest.now
    c.in-Some.ensures.items c.in_ok-push-in-Ok.ensures.items refl c.in-Ok.ensures.taken

pub returns-in-Err-clause-bad : goal.returns-in-Err-clause-bad
returns-in-Err-clause-bad c =
    refused_last (reading_of c.args.self) c.args.self.ias.items c.pop.new.self.items c.in-Some.ia c.args.rest.now (record {}) c.in-Err.fault
    c.in-Some.ensures.items refl c.in-Err.ensures.bad
