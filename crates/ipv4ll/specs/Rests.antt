use Rattle.std.specs.Prelude.{◌≡◌, ℕ, false, if◌then◌else◌}
use Rattle.std.proofs.Common.{◌∙◌, ap}
use Rattle.machine.specs.Moment.{is_due, moment_of, not_due-moment_of}
use Rattle.ipv4ll.specs.declared.link_local.LinkLocal.{LinkLocal}
use Rattle.ipv4ll.specs.declared.link_local.LlNews.TheVariants.{Nothing}
use Rattle.ipv4ll.specs.declared.link_local.LlOut.{LlOut}
use Rattle.ipv4ll.specs.Table.{LlStep, IsStep, IsQuiet, moves, tells, ll_tick, tick_row, due_of}

-- A tick before the due moment changes nothing and says nothing.
early : (ll : LinkLocal) (at salt : ℕ) → is_due (due_of ll.state) at ≡ false
    → ll_tick ll at salt ≡ moves ll.iface ll.state (tells Nothing)
early ll at salt h =
    ap (λ b. if b then tick_row ll.iface ll.state at salt else moves ll.iface ll.state (tells Nothing)) h

pub tick_rests : (old new : LinkLocal) (at salt : ℕ) (out : LlOut) → is_due (due_of old.state) at ≡ false
    → IsStep (ll_tick old (moment_of at) salt) new out → (new ≡ old) × IsQuiet out
tick_rests old new at salt out h step =
    let e : ll_tick old (moment_of at) salt ≡ moves old.iface old.state (tells Nothing) =
    early old (moment_of at) salt (not_due-moment_of (due_of old.state) at h) in (
      step.goes_on ∙ ap (λ (s : LlStep). s.ll) e,
      record {
        no_message = ap (λ (o : LlOut). o.arp) (step.answers ∙ ap (λ (s : LlStep). s.out) e);
        no_news = ap (λ (o : LlOut). o.news) (step.answers ∙ ap (λ (s : LlStep). s.out) e);
      },
    )
