-- What an opening and a turn make of a host that tells its rows.
use Rattle.std.proofs.Common.{◌≡◌, ℕ, true, List, ◌++◌, Option, None, refl, sym, ap, subst, ◌∙◌}
use Rattle.std.specs.List.{list_all}
use Rattle.net_types.specs.declared.interface.IfSpec.{IfSpec}
use Rattle.machine.specs.Moment.{moment_of}
use Rattle.world.specs.declared.rows.HostRow.{HostRow}
use Rattle.world.specs.declared.wakes.Begin.{Begin}
use Rattle.world.specs.declared.wakes.Wake.{Wake}
use Rattle.world.specs.HostCalls.{HostCall, HostTold}
use Rattle.settings.specs.declared.interfaces.Managed.{Managed}
use Rattle.settings.specs.ManagedRows.{SharesAreManaged}
use Rattle.host_model.specs.HostTable.{InRowOrder, managed_rows, other_rows, Wantable, KnownTruly, is_done}
use Rattle.client_model.specs.Clients.{Client, ClientStep, rows_of}
use Rattle.client_model.proofs.SameInterfaces.{managed_in, all_turned}
use Rattle.client_model.proofs.HostTableWanted.{wantable}
use Rattle.device_calls.specs.Calls.{Call, host_call}
use Rattle.device_calls.specs.HostWalks.{HostGoes}
use Rattle.device_calls.specs.Programs.{calls_with, Makes}
use Rattle.device_calls.proofs.Programs.{makes_both}
use Rattle.turn_model.specs.Hooking.{hooking, polling}
use Rattle.turn_model.specs.KeptFiles.{keeping}
use Rattle.turn_model.specs.Loading.{loading_files}
use Rattle.turn_model.specs.Opening.{clearing, outlook_from, opening_step, opening_asks}
use Rattle.turn_model.specs.Turns.{Life, Outlook, offering, hosting, turn_moment, stop_after, input_of, step_of, outlook_with, turn_asks}
use Rattle.turn_model.proofs.Asking.{LinkAsks, StoreAsks, HookAsks, offering_only, clearing_only, files_only, keeping_only, polling_only, hooking_only}
use Rattle.turn_model.proofs.HostInLifeTurns.{opening_managed}
use Rattle.device_evidence.proofs.Changing.{HostPart, hosting_went}
use Rattle.device_evidence.proofs.Parts.{part, Quiet, none_made, first_quiet, then_quiet, StepMade, step_made, turn_parts, opened_step, opening_parts}

abbrev pub host_part : List Call → List HostCall
host_part = part host_call

-- ---- questions that aren't for the host

quiet_link : LinkAsks (Quiet host_call)
quiet_link = record { offer = λ iface frame answer. refl }

quiet_store : StoreAsks (Quiet host_call)
quiet_store = record {
  asides = λ answer. refl;
  read = λ name answer. refl;
  write = λ name bytes answer. refl;
  sync = λ name answer. refl;
  rename = λ name answer. refl;
  remove = λ name answer. refl;
  settle = λ answer. refl;
}

quiet_hooks : HookAsks (Quiet host_call)
quiet_hooks = record {
  start = λ job answer. refl;
  poll = λ number answer. refl;
  abandon = λ number answer. refl;
  drop = λ job answer. refl;
}

-- ---- a step

-- a life over a host: its interfaces are those that are managed, and what it knows of the rows is true
pub record Standing (managed : List Managed) (life : Life) (told : HostTold) : Type 0 where
  pub same : managed_in life.client.ifaces ≡ managed
  pub in_order : InRowOrder told.rows
  pub known : KnownTruly managed life.known told.rows

pub record StepWent (managed : List Managed) (life : Life) (calls : List HostCall) (old new : HostTold) : Type 0 where
  pub standing : Standing managed life new
  pub others : other_rows managed new.rows ≡ other_rows managed old.rows
  pub as_wanted : list_all is_done calls ≡ true → managed_rows managed new.rows ≡ rows_of life.client

module _ (managed : List Managed) (shares : SharesAreManaged managed) where
  wants : (client : Client) → managed_in client.ifaces ≡ managed → Wantable managed (rows_of client)
  wants client same =
      subst (λ (m : List Managed). Wantable m (rows_of client)) same (wantable client.ifaces (subst SharesAreManaged (sym same) shares))

  module _ (outlook : Outlook) (step : ClientStep) (calls : List Call) (life : Life) (it : StepMade managed outlook step calls life) where
    own_calls : host_part calls ≡ host_part it.host
    own_calls =
        first_quiet host_call calls it.sends (it.host ++ (it.hooks ++ it.store)) it.calls_are
        (none_made host_call (offering step.sends 0) (offering_only (Quiet host_call) quiet_link step.sends 0) it.sends it.unsent it.makes_sends)
        ∙ then_quiet host_call (it.host ++ (it.hooks ++ it.store)) it.host (it.hooks ++ it.store) refl
        (first_quiet host_call (it.hooks ++ it.store) it.hooks it.store refl
        (none_made host_call (hooking it.moment step.jobs outlook.hooks) (hooking_only (Quiet host_call) quiet_hooks it.moment step.jobs outlook.hooks)
        it.hooks it.supervision it.makes_hooks)
        ∙ none_made host_call (keeping step.client.ifaces outlook.files)
        (keeping_only (Quiet host_call) quiet_store step.client.ifaces outlook.files) it.store life.files it.makes_store)

    step_went : (old new : HostTold) → managed_in step.client.ifaces ≡ managed → HostGoes (host_part calls) old new → InRowOrder old.rows
        → KnownTruly managed outlook.known old.rows
        → StepWent managed life (host_part calls) old new
    step_went old new same goes s truly =
        let asked : host_part calls ≡ host_part (calls_with (hosting managed (rows_of step.client) outlook.known) it.makes_host.answers) =
        own_calls ∙ ap host_part it.makes_host.calls_are in
        let went : HostPart managed (rows_of step.client) life.known (host_part calls) old.rows new.rows =
        subst (λ (cs : List HostCall). HostPart managed (rows_of step.client) life.known cs old.rows new.rows) (sym asked)
        (subst
        (λ (k : Option (List HostRow)). HostPart managed (rows_of step.client) k
        (host_part (calls_with (hosting managed (rows_of step.client) outlook.known) it.makes_host.answers)) old.rows new.rows)
        (sym it.makes_host.result_is)
        (hosting_went managed (rows_of step.client) (wants step.client same) outlook.known it.makes_host.answers old new
        (subst (λ (cs : List HostCall). HostGoes cs old new) asked goes) s truly)) in
        record {
          standing =
              record { same = ap (λ (c : Client). managed_in c.ifaces) it.client_is ∙ same; in_order = went.in_order; known = went.known };
          others = went.others;
          as_wanted = λ all. went.as_wanted all ∙ ap rows_of (sym it.client_is);
        }

  -- ---- a turn, and an opening

  pub turn_went : (from : Life) (wake : Wake) (bytes : List ℕ) (calls : List Call) (life : Life) (old new : HostTold)
      → Makes (turn_asks managed from wake bytes) calls life → Standing managed from old
      → HostGoes (host_part calls) old new → StepWent managed life (host_part calls) old new
  turn_went from wake bytes calls life old new makes standing goes =
      let parts = turn_parts managed from wake bytes calls life makes in
      let own : host_part calls ≡ host_part parts.later =
      first_quiet host_call calls parts.first parts.later parts.calls_are
      (none_made host_call (polling (turn_moment from wake) from.hooks)
      (polling_only (Quiet host_call) quiet_hooks (turn_moment from wake) from.hooks) parts.first parts.between parts.makes_first) in
      let same : managed_in (step_of from wake bytes).client.ifaces ≡ managed =
      all_turned from.client.own (input_of from wake bytes) from.client.ifaces ∙ standing.same in
      subst (λ (cs : List HostCall). StepWent managed life cs old new) (sym own)
      (step_went (outlook_with from parts.between) (step_of from wake bytes) parts.later life
      (step_made managed (outlook_with from parts.between) (step_of from wake bytes) (turn_moment from wake)
      (stop_after from.stop wake.event (turn_moment from wake)) parts.later life parts.makes_later) old new same
      (subst (λ (cs : List HostCall). HostGoes cs old new) own goes) standing.in_order standing.known)

  pub opening_went : (specs : List IfSpec) (begin : Begin) (calls : List Call) (life : Life) (old new : HostTold)
      → Makes (opening_asks managed specs begin) calls life → InRowOrder old.rows → HostGoes (host_part calls) old new
      → StepWent managed life (host_part calls) old new
  opening_went specs begin calls life old new makes s goes =
      let cleared = opening_parts managed specs begin calls life makes in
      let read = makes_both (loading_files managed) (λ files. opened_step managed specs begin files) cleared.later life cleared.makes_later in
      let own : host_part calls ≡ host_part read.later =
      first_quiet host_call calls cleared.first cleared.later cleared.calls_are
      (none_made host_call clearing (clearing_only (Quiet host_call) quiet_store) cleared.first cleared.between cleared.makes_first)
      ∙ first_quiet host_call cleared.later read.first read.later read.calls_are
      (none_made host_call (loading_files managed) (files_only (Quiet host_call) quiet_store managed) read.first read.between read.makes_first) in
      let same : managed_in (opening_step managed read.between specs begin).client.ifaces ≡ managed =
      opening_managed managed specs begin read.first read.between read.makes_first in
      subst (λ (cs : List HostCall). StepWent managed life cs old new) (sym own)
      (step_went (outlook_from managed read.between) (opening_step managed read.between specs begin) read.later life
      (step_made managed (outlook_from managed read.between) (opening_step managed read.between specs begin) (moment_of begin.at) None read.later life
      read.makes_later) old new same (subst (λ (cs : List HostCall). HostGoes cs old new) own goes) s tt)
