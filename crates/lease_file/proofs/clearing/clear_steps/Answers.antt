use Rattle.std.proofs.Common.{◌∙◌}
use Rattle.lease_file.proofs.Removals.{named_bytes, names_told, calls_all, taken_all}
use Rattle.lease_file.proofs.StepLaws.{cleared_answered, if_err}
use Rattle.lease_file.proofs.CrashLaws.{refused_whole, begun_whole, settling_whole}
use Rattle.lease_file.proofs.clearing.clear_steps.Goals as goal

pub returns-clause-names : goal.returns-clause-names
returns-clause-names g c = names_told _ c.in_ok-removed.removed.items _ c.in_ok-removed.ensures.names c.in_ok-names.ensures.names

pub returns-clause-calls : goal.returns-clause-calls
returns-clause-calls g c =
    calls_all c.in_ok-removed.removed.items _ c.in_ok-settled.settled _ _ _ _ c.in_ok-removed.ensures.names c.in_ok-names.ensures.calls
    c.in_ok-removed.ensures.calls c.in_ok-settled.ensures.calls

pub returns-clause-taken : goal.returns-clause-taken
returns-clause-taken g c =
    taken_all _ _ c.in_ok-removed.removed.items _ _ _ _ c.in_ok-names.ensures.failing c.in_ok-names.ensures.files c.in_ok-settled.ensures.files
    c.in_ok-removed.ensures.taken

pub returns-clause-answered : goal.returns-clause-answered
returns-clause-answered g c =
    cleared_answered _ _ _ c.in_ok-removed.removed.items _ c.in_ok-settled.settled _ _ _ _ c.in_ok-names.ensures.failing
    (c.in_ok-removed.ensures.failing ∙ c.in_ok-names.ensures.failing) (named_bytes c.in_ok-removed.removed.items _ c.in_ok-removed.ensures.names)
    c.in_ok-names.ensures.answered c.in_ok-removed.ensures.answered c.in_ok-settled.ensures.answered

pub returns-in_err-names-clause-begun : goal.returns-in_err-names-clause-begun
returns-in_err-names-clause-begun g c = if_err _ _ (refused_whole _ _ _ _ c.in_err-names.ensures.begun)

pub returns-in_err-removed-clause-begun : goal.returns-in_err-removed-clause-begun
returns-in_err-removed-clause-begun g c =
    if_err _ _ (begun_whole _ _ c.in_ok-names.names.items _ _ _ c.in_ok-names.ensures.failing c.in_ok-names.ensures.answered c.in_err-removed.ensures.begun)

pub returns-in_err-settled-clause-begun : goal.returns-in_err-settled-clause-begun
returns-in_err-settled-clause-begun g c =
    if_err _ _ (settling_whole _ _ c.in_ok-removed.removed.items c.in_ok-names.names.items _ _ _ _ c.in_ok-names.ensures.failing c.in_ok-removed.ensures.names
    c.in_ok-names.ensures.answered c.in_ok-removed.ensures.answered c.in_err-settled.ensures.begun)
