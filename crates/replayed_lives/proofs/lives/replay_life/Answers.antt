use Rattle.std.proofs.Common.{◌≤◌, ◌+◌, [], length, inl, inr, refl, ap, arith, ◌∙◌}
use Rattle.std.proofs.lemmas.List.{length-map}
use Rattle.world.specs.StoreFails.{StoreFails}
use Rattle.world_mem.specs.HookRecord.{HooksState}
use Rattle.world_mem.specs.HostRecord.{HostState}
use Rattle.replay_text.specs.ScriptContent as content
use Rattle.daemon.specs.declared.serving.ServeEnd.TheVariants as ends
use Rattle.daemon.specs.Streams.{WritesFront}
use Rattle.daemon.proofs.Causes.{error_is}
use Rattle.daemon.proofs.CutOffs.{front_none}
use Rattle.replayed_lives.specs.Carried.{between_in, failing_with}
use Rattle.replayed_lives.specs.Replays.{life_in}
use Rattle.replayed_lives.proofs.WholeLife.{Held, AreMade, made_first, served_life, lived, stops_life, all_come, front_whole, front_of_number, front_of_lines, lived_whole}
use Rattle.replayed_lives.proofs.LifeLeft.{made_of, next_is, still_fails_store, still_fails_host, still_fails_hooks, fails_on}
use Rattle.replayed_lives.proofs.lives.replay_life.Goals as goal

pub unreachable-requires-in-TurnsOver : goal.unreachable-requires-in-TurnsOver
unreachable-requires-in-TurnsOver g c =
    let many : c.len.result + 1 ≤ length c.in_ok-live.live.link.told.coming = c.in-TurnsOver.ensures.many refl in
    all_come (content.life_of c.args.life) c.args.between.sent c.args.sends.now c.in_ok-live.live.link c.in_ok-live.ensures.link
    (omega (arith, many, c.len.ensures, length-map c.args.life.turns.items content.given_of))

pub serve-requires-clause-child : goal.serve-requires-clause-child
serve-requires-clause-child g c =
    ap (λ (h : HooksState). h.running) c.in_ok-live.ensures.hooks ∙ c.requires.childless

pub returns-in_err-begin_life-clause-front : goal.returns-in_err-begin_life-clause-front
returns-in_err-begin_life-clause-front g c =
    error_is c.from_residual.result _
    (λ status. WritesFront (g.O.Sink.written c.args.out.now) (g.O.Sink.written c.begin_life.new.out) []
    (life_in c.args.managed.now c.args.specs.now (failing_with c.args.sends.now c.args.between) (between_in c.args.between)
    (content.life_of c.args.life)))
    c.from_residual.ensures.1
    (front_of_number c.args.managed.now c.args.specs.now (failing_with c.args.sends.now c.args.between) (between_in c.args.between)
    (content.life_of c.args.life) (c.args.between.lives + 1) refl _ _ c.in_err-begin_life.ensures.front)

pub returns-in_err-live-clause-front : goal.returns-in_err-live-clause-front
returns-in_err-live-clause-front g c =
    error_is c.from_residual-in_err-live.result _
    (λ status. WritesFront (g.O.Sink.written c.args.out.now) (g.O.Sink.written c.begin_life.new.out) []
    (life_in c.args.managed.now c.args.specs.now (failing_with c.args.sends.now c.args.between) (between_in c.args.between)
    (content.life_of c.args.life)))
    c.from_residual-in_err-live.ensures.1
    (front_of_lines c.args.managed.now c.args.specs.now (failing_with c.args.sends.now c.args.between) (between_in c.args.between) (content.life_of c.args.life)
    (c.args.between.lives + 1) refl _ _ _ c.in_ok-begin_life.ensures.ok.1 (front_none _ _))

pub returns-in-WriteFault-clause-front : goal.returns-in-WriteFault-clause-front
returns-in-WriteFault-clause-front g c =
    let held : Held =
    record { link = c.in_ok-live.live.link; store = c.in_ok-live.live.store; host = c.in_ok-live.live.host; hooks = c.in_ok-live.live.hooks } in
    let made : AreMade (failing_with c.args.sends.now c.args.between) (between_in c.args.between) (content.life_of c.args.life) held =
    made_of c.args.sends.now c.args.between
    (content.life_of c.args.life) held c.in_ok-live.ensures.link c.in_ok-live.ensures.told c.in_ok-live.ensures.failing c.in_ok-live.ensures.host
    c.in_ok-live.ensures.hooks in
    front_of_lines c.args.managed.now c.args.specs.now (failing_with c.args.sends.now c.args.between) (between_in c.args.between) (content.life_of c.args.life)
    (c.args.between.lives + 1) refl _ _ _ c.in_ok-begin_life.ensures.ok.1
    (stops_life c.args.managed.now c.args.specs.now (failing_with c.args.sends.now c.args.between) (between_in c.args.between) (content.life_of c.args.life) _ _
    (made_first (failing_with c.args.sends.now c.args.between) (between_in c.args.between) (content.life_of c.args.life) held made) _ _ _ ends.WriteFault
    (inl refl) c.in-WriteFault.ensures.cut)

pub returns-in-NoMemory-clause-front : goal.returns-in-NoMemory-clause-front
returns-in-NoMemory-clause-front g c =
    let held : Held =
    record { link = c.in_ok-live.live.link; store = c.in_ok-live.live.store; host = c.in_ok-live.live.host; hooks = c.in_ok-live.live.hooks } in
    let made : AreMade (failing_with c.args.sends.now c.args.between) (between_in c.args.between) (content.life_of c.args.life) held =
    made_of c.args.sends.now c.args.between
    (content.life_of c.args.life) held c.in_ok-live.ensures.link c.in_ok-live.ensures.told c.in_ok-live.ensures.failing c.in_ok-live.ensures.host
    c.in_ok-live.ensures.hooks in
    front_of_lines c.args.managed.now c.args.specs.now (failing_with c.args.sends.now c.args.between) (between_in c.args.between) (content.life_of c.args.life)
    (c.args.between.lives + 1) refl _ _ _ c.in_ok-begin_life.ensures.ok.1
    (stops_life c.args.managed.now c.args.specs.now (failing_with c.args.sends.now c.args.between) (between_in c.args.between) (content.life_of c.args.life) _ _
    (made_first (failing_with c.args.sends.now c.args.between) (between_in c.args.between) (content.life_of c.args.life) held made) _ _ _ ends.NoMemory
    (inr refl) c.in-NoMemory.ensures.cut)

pub returns-in_err-left-in-End-clause-front : goal.returns-in_err-left-in-End-clause-front
returns-in_err-left-in-End-clause-front g c =
    let held : Held =
    record { link = c.in_ok-live.live.link; store = c.in_ok-live.live.store; host = c.in_ok-live.live.host; hooks = c.in_ok-live.live.hooks } in
    let made : AreMade (failing_with c.args.sends.now c.args.between) (between_in c.args.between) (content.life_of c.args.life) held =
    made_of c.args.sends.now c.args.between
    (content.life_of c.args.life) held c.in_ok-live.ensures.link c.in_ok-live.ensures.told c.in_ok-live.ensures.failing c.in_ok-live.ensures.host
    c.in_ok-live.ensures.hooks in
    error_is c.from_residual-in_err-left-in-End.result _
    (λ status. WritesFront (g.O.Sink.written c.args.out.now) (g.O.Sink.written c.serve.new.out) []
    (life_in c.args.managed.now c.args.specs.now (failing_with c.args.sends.now c.args.between) (between_in c.args.between)
    (content.life_of c.args.life)))
    c.from_residual-in_err-left-in-End.ensures.1
    (front_whole _ _ _
    (lived_whole c.args.managed.now c.args.specs.now (failing_with c.args.sends.now c.args.between) (between_in c.args.between) (content.life_of c.args.life)
    (c.args.between.lives + 1) refl _ _ _ c.in_ok-begin_life.ensures.ok.1
    (lived c.args.managed.now c.args.specs.now (failing_with c.args.sends.now c.args.between) (between_in c.args.between)
    (content.life_of c.args.life) _ _ _ _
    (made_first (failing_with c.args.sends.now c.args.between) (between_in c.args.between) (content.life_of c.args.life) held made) _
    (c.in-End.ensures.served refl))))

pub returns-in_ok-left-in-End-clause-ok : goal.returns-in_ok-left-in-End-clause-ok
returns-in_ok-left-in-End-clause-ok g c =
    let held : Held =
    record { link = c.in_ok-live.live.link; store = c.in_ok-live.live.store; host = c.in_ok-live.live.host; hooks = c.in_ok-live.live.hooks } in
    let made : AreMade (failing_with c.args.sends.now c.args.between) (between_in c.args.between) (content.life_of c.args.life) held =
    made_of c.args.sends.now c.args.between
    (content.life_of c.args.life) held c.in_ok-live.ensures.link c.in_ok-live.ensures.told c.in_ok-live.ensures.failing c.in_ok-live.ensures.host
    c.in_ok-live.ensures.hooks in (
      omega (arith, c.in_ok-begin_life.ensures.ok.0, c.in-End.ensures.cause.0),
      lived_whole c.args.managed.now c.args.specs.now (failing_with c.args.sends.now c.args.between) (between_in c.args.between) (content.life_of c.args.life)
          (c.args.between.lives + 1) refl _ _ _ c.in_ok-begin_life.ensures.ok.1
          (lived c.args.managed.now c.args.specs.now (failing_with c.args.sends.now c.args.between) (between_in c.args.between)
          (content.life_of c.args.life) _ _ _ _
          (made_first (failing_with c.args.sends.now c.args.between) (between_in c.args.between) (content.life_of c.args.life) held made) _
          (c.in-End.ensures.served refl)),
    )

pub returns-in_ok-left-in-End-clause-left : goal.returns-in_ok-left-in-End-clause-left
returns-in_ok-left-in-End-clause-left g c =
    let held : Held =
    record { link = c.in_ok-live.live.link; store = c.in_ok-live.live.store; host = c.in_ok-live.live.host; hooks = c.in_ok-live.live.hooks } in
    let made : AreMade (failing_with c.args.sends.now c.args.between) (between_in c.args.between) (content.life_of c.args.life) held =
    made_of c.args.sends.now c.args.between
    (content.life_of c.args.life) held c.in_ok-live.ensures.link c.in_ok-live.ensures.told c.in_ok-live.ensures.failing c.in_ok-live.ensures.host
    c.in_ok-live.ensures.hooks in
    let last : Held = record { link = c.serve.new.live.link; store = c.serve.new.live.store; host = c.serve.new.live.host; hooks = c.serve.new.live.hooks } in
    let served = c.in-End.ensures.served refl in
    let counts = c.in_ok-left-in-End.ensures.counts in
    let host = c.in_ok-left-in-End.ensures.host in
    let told = c.in_ok-left-in-End.ensures.told in
    let hooks = c.in_ok-left-in-End.ensures.hooks in
    (λ i. record { lives = counts.0 i; sent = counts.1 i; host = (host i).told; store = told i; hooks = (hooks i).told })
    ∙ next_is c.args.managed.now c.args.specs.now (failing_with c.args.sends.now c.args.between) (between_in c.args.between)
    (content.life_of c.args.life) held last made served.left (c.args.between.lives + 1) refl served.opening served.mets
    (served_life c.args.managed.now c.args.specs.now (failing_with c.args.sends.now c.args.between) (between_in c.args.between)
    (content.life_of c.args.life) _ _ _ _
    (made_first (failing_with c.args.sends.now c.args.between) (between_in c.args.between) (content.life_of c.args.life) held made) _ served)
    served.child

pub returns-in_ok-left-in-End-clause-failing : goal.returns-in_ok-left-in-End-clause-failing
returns-in_ok-left-in-End-clause-failing g c =
    let held : Held =
    record { link = c.in_ok-live.live.link; store = c.in_ok-live.live.store; host = c.in_ok-live.live.host; hooks = c.in_ok-live.live.hooks } in
    let made : AreMade (failing_with c.args.sends.now c.args.between) (between_in c.args.between) (content.life_of c.args.life) held =
    made_of c.args.sends.now c.args.between
    (content.life_of c.args.life) held c.in_ok-live.ensures.link c.in_ok-live.ensures.told c.in_ok-live.ensures.failing c.in_ok-live.ensures.host
    c.in_ok-live.ensures.hooks in
    let last : Held = record { link = c.serve.new.live.link; store = c.serve.new.live.store; host = c.serve.new.live.host; hooks = c.serve.new.live.hooks } in
    let served = c.in-End.ensures.served refl in
    fails_on c.args.sends.now c.in_ok-left-in-End.field-0 c.args.between
    (ap (λ (h : HostState). h.failing) c.in_ok-left-in-End.ensures.host
    ∙ still_fails_host c.args.managed.now c.args.specs.now (failing_with c.args.sends.now c.args.between) (between_in c.args.between)
    (content.life_of c.args.life) held last made served.left)
    (ap (λ (f : StoreFails). f.numbers) c.in_ok-left-in-End.ensures.failing
    ∙ still_fails_store c.args.managed.now c.args.specs.now (failing_with c.args.sends.now c.args.between) (between_in c.args.between)
    (content.life_of c.args.life) held last made served.left)
    (ap (λ (h : HooksState). h.failing) c.in_ok-left-in-End.ensures.hooks
    ∙ still_fails_hooks c.args.managed.now c.args.specs.now (failing_with c.args.sends.now c.args.between) (between_in c.args.between)
    (content.life_of c.args.life) held last made served.left)

pub returns-in_ok-left-in-End-clause-childless : goal.returns-in_ok-left-in-End-clause-childless
returns-in_ok-left-in-End-clause-childless g c =
    ap (λ (h : HooksState). h.running) c.in_ok-left-in-End.ensures.hooks
