use Rattle.std.proofs.Common.{◌∙◌, map, arith}
use Rattle.conf_text.specs.Contents.{configuration, notice_content}
use Rattle.replay_text.specs.ScriptContent.{script_of}
use Rattle.replayed_lives.proofs.WholeLife.{head_and_lives}
use Rattle.replayed_lives.proofs.replaying.write_transcript.Goals as goal

pub returns-clause-ok : goal.returns-clause-ok
returns-clause-ok g c = (
  omega (arith, c.in_ok-write_head.ensures.ok.0, c.in_ok-replay_lives.ensures.ok.0),
  head_and_lives (script_of c.args.settled.script) (configuration c.args.settled.conf) (map notice_content c.notices.result.now) c.deref.result.now
      (g.O.Sink.written c.args.out.now) (g.O.Sink.written c.write_head.new.out) (g.O.Sink.written c.replay_lives.new.out)
      c.notices.ensures (c.deref.ensures.value ∙ c.requires.manages) c.in_ok-write_head.ensures.ok.1 c.in_ok-replay_lives.ensures.ok.1,
)
