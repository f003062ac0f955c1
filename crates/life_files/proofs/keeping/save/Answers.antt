use Rattle.std.proofs.Common.{false}
use Rattle.life_files.proofs.Bringing.{unwritten, written_then, unsynced, synced_then, unrenamed, renamed_then}
use Rattle.life_devices.proofs.Successes.{if_ok}
use Rattle.life_devices.proofs.Begins.{on_err, err_so}
use Rattle.life_files.proofs.BegunFiles.{written_begun, synced_begun, renamed_begun, written_later, synced_later, renamed_later}
use Rattle.life_files.proofs.keeping.save.Goals as goal

pub returns-then-not-written-clause-does : goal.returns-then-not-written-clause-does
returns-then-not-written-clause-does g c = unwritten c.args.name.now c.args.bytes.now c.in_ok-written.written c.if-not-written.true c.in_ok-written.ensures.does

pub returns-then-not-synced-clause-does : goal.returns-then-not-synced-clause-does
returns-then-not-synced-clause-does g c =
    written_then c.args.name.now c.args.bytes.now c.in_ok-written.written false c.if-not-written.false c.in_ok-written.ensures.does
    (unsynced c.args.name.now c.in_ok-synced.synced c.if-not-synced.true c.in_ok-synced.ensures.does)

pub returns-then-not-renamed-clause-does : goal.returns-then-not-renamed-clause-does
returns-then-not-renamed-clause-does g c =
    written_then c.args.name.now c.args.bytes.now c.in_ok-written.written false c.if-not-written.false c.in_ok-written.ensures.does
    (synced_then c.args.name.now c.in_ok-synced.synced false c.if-not-synced.false c.in_ok-synced.ensures.does
    (unrenamed c.args.name.now c.in_ok-renamed.renamed c.if-not-renamed.true c.in_ok-renamed.ensures.does))

pub returns-clause-does : goal.returns-clause-does
returns-clause-does g c = if_ok c.settle.result
    (λ done did. written_then c.args.name.now c.args.bytes.now c.in_ok-written.written done c.if-not-written.false c.in_ok-written.ensures.does
    (synced_then c.args.name.now c.in_ok-synced.synced done c.if-not-synced.false c.in_ok-synced.ensures.does
    (renamed_then c.args.name.now c.in_ok-renamed.renamed done c.if-not-renamed.false c.in_ok-renamed.ensures.does did)))
    c.settle.ensures.does

pub returns-in_err-written-clause-begun : goal.returns-in_err-written-clause-begun
returns-in_err-written-clause-begun g c =
    on_err c.from_residual.result (written_begun c.args.name.now c.args.bytes.now c.in_err-written.ensures.begun)

pub returns-in_err-synced-clause-begun : goal.returns-in_err-synced-clause-begun
returns-in_err-synced-clause-begun g c =
    on_err c.from_residual-in_err-synced.result
    (written_later c.args.name.now c.args.bytes.now c.in_ok-written.written c.if-not-written.false c.in_ok-written.ensures.does
    (synced_begun c.args.name.now c.in_err-synced.ensures.begun))

pub returns-in_err-renamed-clause-begun : goal.returns-in_err-renamed-clause-begun
returns-in_err-renamed-clause-begun g c =
    on_err c.from_residual-in_err-renamed.result
    (written_later c.args.name.now c.args.bytes.now c.in_ok-written.written c.if-not-written.false c.in_ok-written.ensures.does
    (synced_later c.args.name.now c.in_ok-synced.synced c.if-not-synced.false c.in_ok-synced.ensures.does
    (renamed_begun c.args.name.now c.in_err-renamed.ensures.begun)))

pub returns-clause-begun : goal.returns-clause-begun
returns-clause-begun g c =
    err_so c.settle.result
    (λ begun. written_later c.args.name.now c.args.bytes.now c.in_ok-written.written c.if-not-written.false c.in_ok-written.ensures.does
    (synced_later c.args.name.now c.in_ok-synced.synced c.if-not-synced.false c.in_ok-synced.ensures.does
    (renamed_later c.args.name.now c.in_ok-renamed.renamed c.if-not-renamed.false c.in_ok-renamed.ensures.does begun)))
    c.settle.ensures.begun
