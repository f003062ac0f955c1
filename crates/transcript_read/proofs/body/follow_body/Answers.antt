use Rattle.std.proofs.Common.{subst}
use Rattle.net_types.specs.LineReading.{Gives}
use Rattle.transcript_read.specs.declared.place.Place.TheVariants.{Interfaces}
use Rattle.transcript_read.specs.Bodies.{StopsIn, given, step}
use Rattle.transcript_read.specs.Contents.{no_state}
use Rattle.transcript_read.proofs.BodyLaws.{found}
use Rattle.transcript_read.proofs.LoopLaws.{stopped_none}
use Rattle.transcript_read.proofs.body.follow_body.Goals as goal

pub returns-in-Ok-clause-found : goal.returns-in-Ok-clause-found
returns-in-Ok-clause-found g c = λ state tells.
    let reached = c.in-Ok.ensures.gives state tells in
    record {
      state = reached.state;
      comes = found g.F.Follower.after c.a_text_spells_one_line.ensures c.args.text.now state reached.state
          (subst
          (λ ifaces. Gives (step g.F.Follower.after) given (record { spot = record { ifaces = ifaces; place = Interfaces }; judge = state }) c.args.text.now
          reached.state)
          c.new.ensures reached.comes);
      tells = reached.tells;
    }

pub returns-in-Err-clause-bad : goal.returns-in-Err-clause-bad
returns-in-Err-clause-bad g c =
    stopped_none no_state c.a_text_spells_one_line.ensures c.args.text.now tt c.in-Err.answer
    (subst
    (λ ifaces. StopsIn no_state (record { spot = record { ifaces = ifaces; place = Interfaces }; judge = tt }) c.args.text.now c.in-Err.answer)
    c.new.ensures c.in-Err.ensures.stops)
