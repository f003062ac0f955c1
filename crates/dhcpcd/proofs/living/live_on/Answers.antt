use Rattle.std.proofs.Common.{List, inr, refl, sym, subst, ◌∙◌}
use Rattle.settings.specs.declared.interfaces.Managed.{Managed}
use Rattle.settings.specs.Fitting.{AreManaged}
use Rattle.conf_text.specs.Contents.{configuration}
use Rattle.daemon.specs.declared.serving.ServeEnd.TheVariants as ends
use Rattle.daemon.specs.Cuts.{Leaves}
use Rattle.daemon.specs.Filed.{LeavesFiled}
use Rattle.conf_text.specs.Configurations.{NoticeContent}
use Rattle.daemon.specs.Streams.{WritesLines}
use Rattle.dhcpcd.specs.Living.{asked}
use Rattle.replayed_lives.specs.TextWorks.Heads.{live_head}
use Rattle.daemon.specs.Served.{Served}
use Rattle.replayed_lives.proofs.TextWorks.Refusals.{live_managed}
use Rattle.dhcpcd.proofs.LiveAnswers.{served_whole, cut_off, out_of_memory}
use Rattle.dhcpcd.proofs.living.live_on.Goals as goal

pub serve-requires-clause-managed : goal.serve-requires-clause-managed
serve-requires-clause-managed g c =
    subst AreManaged (sym (c.deref.ensures.value ∙ c.in_ok-managed.ensures))
    (live_managed c.args.ask.text.now (configuration c.args.ask.conf.now) c.args.ask.specs.now c.requires.configured c.requires.fit)

pub returns-clause-err : goal.returns-clause-err
returns-clause-err g c =
    out_of_memory (asked c.args.ask.text.now (configuration c.args.ask.conf.now) c.args.ask.specs.now c.args.turns)
    (g.O.Sink.written c.args.out.now) (g.O.Sink.written c.write_live_head.new.out) (g.O.Sink.written c.serve.new.out)
    (g.W.Outside.seen c.args.live.now) (g.W.Outside.seen c.serve.new.live) c.requires.configured c.requires.fit
    (subst (λ (ns : List NoticeContent). WritesLines (g.O.Sink.written c.args.out.now) (g.O.Sink.written c.write_live_head.new.out)
    (live_head c.args.ask.text.now ns c.args.ask.specs.now)) c.notices.ensures c.in_ok-write_live_head.ensures.ok.1)
    (subst (λ (m : List Managed). Leaves ends.NoMemory c.args.turns m c.args.ask.specs.now (g.W.Outside.seen c.args.live.now)
    (g.W.Outside.seen c.serve.new.live) (g.O.Sink.written c.write_live_head.new.out) (g.O.Sink.written c.serve.new.out))
    (c.deref.ensures.value ∙ c.in_ok-managed.ensures) c.in-NoMemory.ensures.cut)
    (subst (λ (m : List Managed). LeavesFiled m c.args.ask.specs.now (g.W.Outside.seen c.args.live.now) (g.W.Outside.seen c.serve.new.live))
    (c.deref.ensures.value ∙ c.in_ok-managed.ensures) c.serve.ensures.files)

pub returns-in-End-clause-ok : goal.returns-in-End-clause-ok
returns-in-End-clause-ok g c =
    served_whole (asked c.args.ask.text.now (configuration c.args.ask.conf.now) c.args.ask.specs.now c.args.turns)
    (g.O.Sink.written c.args.out.now) (g.O.Sink.written c.write_live_head.new.out) (g.O.Sink.written c.serve.new.out)
    (g.W.Outside.seen c.args.live.now) (g.W.Outside.seen c.serve.new.live) c.requires.configured c.requires.fit
    (subst (λ (ns : List NoticeContent). WritesLines (g.O.Sink.written c.args.out.now) (g.O.Sink.written c.write_live_head.new.out)
    (live_head c.args.ask.text.now ns c.args.ask.specs.now)) c.notices.ensures c.in_ok-write_live_head.ensures.ok.1)
    (subst (λ (m : List Managed). Served c.args.turns m c.args.ask.specs.now (g.W.Outside.seen c.args.live.now)
    (g.W.Outside.seen c.serve.new.live) (g.O.Sink.written c.write_live_head.new.out) (g.O.Sink.written c.serve.new.out))
    (c.deref.ensures.value ∙ c.in_ok-managed.ensures) (c.in-End.ensures.served refl))
    (subst (λ (m : List Managed). LeavesFiled m c.args.ask.specs.now (g.W.Outside.seen c.args.live.now) (g.W.Outside.seen c.serve.new.live))
    (c.deref.ensures.value ∙ c.in_ok-managed.ensures) c.serve.ensures.files)

pub returns-in-TurnsOver-clause-err : goal.returns-in-TurnsOver-clause-err
returns-in-TurnsOver-clause-err g c =
    cut_off ends.TurnsOver (asked c.args.ask.text.now (configuration c.args.ask.conf.now) c.args.ask.specs.now c.args.turns)
    (g.O.Sink.written c.args.out.now) (g.O.Sink.written c.write_live_head.new.out) (g.O.Sink.written c.serve.new.out)
    (g.W.Outside.seen c.args.live.now) (g.W.Outside.seen c.serve.new.live) c.requires.configured c.requires.fit
    (subst (λ (ns : List NoticeContent). WritesLines (g.O.Sink.written c.args.out.now) (g.O.Sink.written c.write_live_head.new.out)
    (live_head c.args.ask.text.now ns c.args.ask.specs.now)) c.notices.ensures c.in_ok-write_live_head.ensures.ok.1)
    (subst (λ (m : List Managed). Leaves ends.TurnsOver c.args.turns m c.args.ask.specs.now (g.W.Outside.seen c.args.live.now)
    (g.W.Outside.seen c.serve.new.live) (g.O.Sink.written c.write_live_head.new.out) (g.O.Sink.written c.serve.new.out))
    (c.deref.ensures.value ∙ c.in_ok-managed.ensures) c.in-TurnsOver.ensures.cut)
    (subst (λ (m : List Managed). LeavesFiled m c.args.ask.specs.now (g.W.Outside.seen c.args.live.now) (g.W.Outside.seen c.serve.new.live))
    (c.deref.ensures.value ∙ c.in_ok-managed.ensures) c.serve.ensures.files)

pub returns-in-LinkFault-clause-err : goal.returns-in-LinkFault-clause-err
returns-in-LinkFault-clause-err g c =
    cut_off ends.LinkFault (asked c.args.ask.text.now (configuration c.args.ask.conf.now) c.args.ask.specs.now c.args.turns)
    (g.O.Sink.written c.args.out.now) (g.O.Sink.written c.write_live_head.new.out) (g.O.Sink.written c.serve.new.out)
    (g.W.Outside.seen c.args.live.now) (g.W.Outside.seen c.serve.new.live) c.requires.configured c.requires.fit
    (subst (λ (ns : List NoticeContent). WritesLines (g.O.Sink.written c.args.out.now) (g.O.Sink.written c.write_live_head.new.out)
    (live_head c.args.ask.text.now ns c.args.ask.specs.now)) c.notices.ensures c.in_ok-write_live_head.ensures.ok.1)
    (subst (λ (m : List Managed). Leaves ends.LinkFault c.args.turns m c.args.ask.specs.now (g.W.Outside.seen c.args.live.now)
    (g.W.Outside.seen c.serve.new.live) (g.O.Sink.written c.write_live_head.new.out) (g.O.Sink.written c.serve.new.out))
    (c.deref.ensures.value ∙ c.in_ok-managed.ensures) c.in-LinkFault.ensures.cut)
    (subst (λ (m : List Managed). LeavesFiled m c.args.ask.specs.now (g.W.Outside.seen c.args.live.now) (g.W.Outside.seen c.serve.new.live))
    (c.deref.ensures.value ∙ c.in_ok-managed.ensures) c.serve.ensures.files)

pub returns-in-WriteFault-clause-err : goal.returns-in-WriteFault-clause-err
returns-in-WriteFault-clause-err g c =
    inr
    (cut_off ends.WriteFault (asked c.args.ask.text.now (configuration c.args.ask.conf.now) c.args.ask.specs.now c.args.turns)
    (g.O.Sink.written c.args.out.now) (g.O.Sink.written c.write_live_head.new.out) (g.O.Sink.written c.serve.new.out)
    (g.W.Outside.seen c.args.live.now) (g.W.Outside.seen c.serve.new.live) c.requires.configured c.requires.fit
    (subst (λ (ns : List NoticeContent). WritesLines (g.O.Sink.written c.args.out.now) (g.O.Sink.written c.write_live_head.new.out)
    (live_head c.args.ask.text.now ns c.args.ask.specs.now)) c.notices.ensures c.in_ok-write_live_head.ensures.ok.1)
    (subst (λ (m : List Managed). Leaves ends.WriteFault c.args.turns m c.args.ask.specs.now (g.W.Outside.seen c.args.live.now)
    (g.W.Outside.seen c.serve.new.live) (g.O.Sink.written c.write_live_head.new.out) (g.O.Sink.written c.serve.new.out))
    (c.deref.ensures.value ∙ c.in_ok-managed.ensures) c.in-WriteFault.ensures.cut)
    (subst (λ (m : List Managed). LeavesFiled m c.args.ask.specs.now (g.W.Outside.seen c.args.live.now) (g.W.Outside.seen c.serve.new.live))
    (c.deref.ensures.value ∙ c.in_ok-managed.ensures) c.serve.ensures.files))
