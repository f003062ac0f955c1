use Rattle.std.proofs.Common.{refl, subst}
use Rattle.daemon.proofs.Causes.{error_is}
use Rattle.conf_text.specs.Contents.{configuration}
use Rattle.replay_text.specs.ScriptContent.{script_of}
use Rattle.text_works.specs.Refusals.{IsRefused}
use Rattle.replayed_lives.specs.Replaying.{IsAnswer}
use Rattle.text_works.specs.SpelledScripts.{IsScript}
use Rattle.replayed_lives.proofs.ReplayAnswers.{refused_answer, stopped_answer}
use Rattle.replayed_lives.proofs.replaying.replay_input.Goals as goal

pub returns-in_err-settled-clause-err : goal.returns-in_err-settled-clause-err
returns-in_err-settled-clause-err g c =
    error_is c.from_residual-in_err-settled.result c.in_err-settled.field-0.0
    (λ status. IsAnswer status (g.I.Source.left c.args.input.now) (g.O.Sink.written c.args.out.now) (g.O.Sink.written c.args.out.now))
    c.from_residual-in_err-settled.ensures.1
    (refused_answer c.in_err-settled.field-0.0 (g.I.Source.left c.args.input.now) (g.O.Sink.written c.args.out.now)
    (g.O.Sink.written c.args.out.now) c.in_ok-bytes.bytes.items c.in_ok-bytes.ensures.ok.0 c.in_ok-bytes.ensures.in_limit refl
    (subst (λ bytes. IsRefused bytes c.in_err-settled.field-0.0) c.deref.ensures.value c.in_err-settled.ensures.bad))

pub returns-in_err-write_transcript-clause-err : goal.returns-in_err-write_transcript-clause-err
returns-in_err-write_transcript-clause-err g c =
    let s = c.in_ok-settled.settled in
    error_is c.from_residual-in_err-write_transcript.result c.in_err-write_transcript.field-0.0
    (λ status. IsAnswer status (g.I.Source.left c.args.input.now) (g.O.Sink.written c.args.out.now) (g.O.Sink.written c.write_transcript.new.out))
    c.from_residual-in_err-write_transcript.ensures.1
    (stopped_answer c.in_err-write_transcript.field-0.0 (g.I.Source.left c.args.input.now) (g.O.Sink.written c.args.out.now)
    (g.O.Sink.written c.write_transcript.new.out) c.in_ok-bytes.bytes.items (script_of s.script)
    (configuration s.conf) c.in_ok-bytes.ensures.ok.0 c.in_ok-bytes.ensures.in_limit
    (subst (λ bytes. IsScript bytes (script_of s.script) (configuration s.conf)) c.deref.ensures.value c.in_ok-settled.ensures.found.is_script)
    c.in_err-write_transcript.ensures.front c.in_err-write_transcript.ensures.cause.1)
