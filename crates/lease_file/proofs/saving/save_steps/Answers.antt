use Rattle.std.proofs.Common.{rules, ◌∷◌, [], ◌∙◌, true, refl, arith}
use Rattle.world.specs.StoreCalls.{WroteAside, SyncedAside, RenamedAside, SettledFiles}
use Rattle.lease_file.specs.declared.faults.SaveStep.TheVariants as step
use Rattle.lease_file.proofs.StepLaws.{stopped, two_done, three_done}
use Rattle.lease_file.proofs.saving.save_steps.Goals as goal

pub returns-in_err-sync-clause-calls : goal.returns-in_err-sync-clause-calls
returns-in_err-sync-clause-calls g c =
    stopped _ _ c.args.name.now c.args.bytes.now step.Sync (SyncedAside c.args.name.now)
    (WroteAside c.args.name.now c.args.bytes.now true ∷ []) _ _ _ _ c.in_err-sync.field-0.0
    (search rules) (record { of = tt; failed = refl; made = 1; front = refl; short = omega arith })
    c.in_ok-write.ensures.failing c.in_ok-write.ensures.step c.in_err-sync.ensures.step

pub returns-in_err-rename-clause-calls : goal.returns-in_err-rename-clause-calls
returns-in_err-rename-clause-calls g c =
    stopped _ _ c.args.name.now c.args.bytes.now step.Rename (RenamedAside c.args.name.now)
    (WroteAside c.args.name.now c.args.bytes.now true ∷ SyncedAside c.args.name.now true ∷ [])
    _ _ _ _ c.in_err-rename.field-0.0 (search rules) (record { of = tt; failed = refl; made = 2; front = refl; short = omega arith })
    (c.in_ok-sync.ensures.failing ∙ c.in_ok-write.ensures.failing)
    (two_done _ _ _ _ _ _ _ c.in_ok-write.ensures.failing c.in_ok-write.ensures.step c.in_ok-sync.ensures.step) c.in_err-rename.ensures.step

pub returns-in_err-settle-clause-calls : goal.returns-in_err-settle-clause-calls
returns-in_err-settle-clause-calls g c =
    stopped _ _ c.args.name.now c.args.bytes.now step.Settle SettledFiles
    (WroteAside c.args.name.now c.args.bytes.now true ∷ SyncedAside c.args.name.now true ∷ RenamedAside c.args.name.now true ∷ [])
    _ _ _ _ c.in_err-settle.field-0.0 (search rules) (record { of = tt; failed = refl; made = 3; front = refl; short = omega arith })
    (c.in_ok-rename.ensures.failing ∙ c.in_ok-sync.ensures.failing ∙ c.in_ok-write.ensures.failing)
    (three_done _ _ _ _ _ _ _ _ (c.in_ok-sync.ensures.failing ∙ c.in_ok-write.ensures.failing)
    (two_done _ _ _ _ _ _ _ c.in_ok-write.ensures.failing c.in_ok-write.ensures.step c.in_ok-sync.ensures.step) c.in_ok-rename.ensures.step)
    c.in_err-settle.ensures.step
