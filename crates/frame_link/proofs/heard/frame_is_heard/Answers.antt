use Rattle.std.proofs.Common.{rules}
use Rattle.frame_link.specs.Frames.{said}
use Rattle.frame_link.proofs.Laws.{frame_heard}
use Rattle.frame_link.proofs.heard.frame_is_heard.Goals as goal

pub returns : goal.returns
returns c = frame_heard (said c.args.to c.args.from c.args.kind c.args.body.now) (search rules) (search rules) (search rules)
