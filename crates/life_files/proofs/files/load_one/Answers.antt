use Rattle.std.proofs.Common.{ℕ, List, ap, ap₂, ◌++◌, ◌∙◌, refl}
use Rattle.std.specs.Prelude.{option_map}
use Rattle.lease_file.specs.FileReads.{got_reading}
use Rattle.turn_model.specs.KeptFiles.{KeptFile, Lease4, Lease6}
use Rattle.turn_model.specs.Loading.{loaded, file_with, loading_one, reading_if}
use Rattle.life_files.proofs.LoadedFiles.{loads_one}
use Rattle.device_calls.proofs.Begun.{begun_none, begun_all}
use Rattle.life_devices.proofs.Begins.{on_err}
use Rattle.life_files.proofs.BegunFiles.{lease4_begun, lease6_begun}
use Rattle.life_files.proofs.files.load_one.Goals as goal

pub returns-clause-loads : goal.returns-clause-loads
returns-clause-loads g c =
    let managed = c.args.managed.now in
    let lease4 = option_map got_reading c.in_ok-lease4.lease4 in
    let lease6 = option_map got_reading c.in_ok-lease6.lease6 in
    record {
      loaded = loaded managed lease4 lease6;
      does = loads_one managed c.runs_dhcp4-runs4.result c.runs_dhcp6-runs6.result c.deref.result.now c.deref-2.result.now lease4 lease6 _ _ _ _ _ _
          c.runs_dhcp4-runs4.ensures c.runs_dhcp6-runs6.ensures (c.deref.ensures ∙ c.in_ok-name4.ensures.name) (c.deref-2.ensures ∙ c.in_ok-name6.ensures.name)
          c.in_ok-lease4.ensures.does c.in_ok-lease6.ensures.does;
      beginning_is = c.in_ok-beginning.ensures.is;
      files_are = ap₂ (λ (a b : List KeptFile). a ++ b)
          (c.file_with.ensures ∙ ap (λ (name : List ℕ). file_with (Lease4 managed.spec.index.number) name lease4) c.in_ok-name4.ensures.name)
          (c.file_with-2.ensures ∙ ap (λ (name : List ℕ). file_with (Lease6 managed.spec.index.number) name lease6) c.in_ok-name6.ensures.name);
    }

pub returns-in_err-name4-clause-begun : goal.returns-in_err-name4-clause-begun
returns-in_err-name4-clause-begun g c = on_err c.from_residual.result (begun_none (loading_one c.args.managed.now) _ _ refl)

pub returns-in_err-name6-clause-begun : goal.returns-in_err-name6-clause-begun
returns-in_err-name6-clause-begun g c =
    on_err c.from_residual-in_err-name6.result (begun_none (loading_one c.args.managed.now) _ _ refl)

pub returns-in_err-lease4-clause-begun : goal.returns-in_err-lease4-clause-begun
returns-in_err-lease4-clause-begun g c =
    on_err c.from_residual-in_err-lease4.result
    (lease4_begun c.args.managed.now c.runs_dhcp4-runs4.result c.deref.result.now c.runs_dhcp4-runs4.ensures
    (c.deref.ensures ∙ c.in_ok-name4.ensures.name) _ _ c.in_err-lease4.ensures.begun)

pub returns-in_err-lease6-clause-begun : goal.returns-in_err-lease6-clause-begun
returns-in_err-lease6-clause-begun g c =
    on_err c.from_residual-in_err-lease6.result
    (lease6_begun c.args.managed.now c.runs_dhcp4-runs4.result c.deref.result.now c.runs_dhcp4-runs4.ensures (c.deref.ensures ∙ c.in_ok-name4.ensures.name)
    c.runs_dhcp6-runs6.result c.deref-2.result.now (option_map got_reading c.in_ok-lease4.lease4) _ _ _ _ _ c.runs_dhcp6-runs6.ensures
    (c.deref-2.ensures ∙ c.in_ok-name6.ensures.name)
    c.in_ok-lease4.ensures.does c.in_err-lease6.ensures.begun)

pub returns-in_err-beginning-clause-begun : goal.returns-in_err-beginning-clause-begun
returns-in_err-beginning-clause-begun g c =
    on_err c.from_residual-in_err-beginning.result
    (lease6_begun c.args.managed.now c.runs_dhcp4-runs4.result c.deref.result.now c.runs_dhcp4-runs4.ensures (c.deref.ensures ∙ c.in_ok-name4.ensures.name)
    c.runs_dhcp6-runs6.result c.deref-2.result.now (option_map got_reading c.in_ok-lease4.lease4) _ _ _ _ _ c.runs_dhcp6-runs6.ensures
    (c.deref-2.ensures ∙ c.in_ok-name6.ensures.name)
    c.in_ok-lease4.ensures.does
    (begun_all (reading_if c.runs_dhcp6-runs6.result c.deref-2.result.now)
    (option_map got_reading c.in_ok-lease6.lease6) _ _ _ _ c.in_ok-lease6.ensures.does))
