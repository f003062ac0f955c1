-- What is written to a text of fixed capacity is what it holds.
use Rattle.transcript_text.proofs.Holding.{holds_all}
use Rattle.transcript_text.proofs.appending.short_text.Goals as goal

pub returns-in-Ok : goal.returns-in-Ok
returns-in-Ok g c =
    holds_all _ (λ text. text.bytes) (λ w bytes v h. h) c.new-text.result c.write.new.self (g.D.Display.output c.args.value)
    c.new-text.ensures c.in-Ok.ensures.writes
