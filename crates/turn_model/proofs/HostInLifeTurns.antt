-- A life's turns bring about the rows that the client wants.
use Rattle.std.proofs.Common.{ℕ, ◌≡◌, List, [], ◌∷◌, None, refl, sym, ap, subst, ◌∙◌}
use Rattle.net_types.specs.declared.interface.IfSpec.{IfSpec}
use Rattle.world.specs.LinkCalls.{Given}
use Rattle.client_model.specs.IfaceSettings.declared.interfaces.Managed.{Managed}
use Rattle.client_model.specs.IfaceSettings.ManagedRows.{SharesAreManaged}
use Rattle.world.specs.declared.wakes.Begin.{Begin}
use Rattle.client_model.specs.Clients.{Client, ClientStep, rows_of}
use Rattle.machine.specs.Moment.{moment_of}
use Rattle.client_model.specs.HostModel.HostTable.{InRowOrder, other_rows, Wantable, Table, TrueTable, table_turned, unknown_table, NoneFails, Holds}
use Rattle.client_model.proofs.HostModel.HostTableTurns.{turn_true, turn_leaves_others, turn_holds}
use Rattle.client_model.proofs.SameInterfaces.{managed_in, all_opened, all_turned}
use Rattle.client_model.proofs.HostTableWanted.{wantable}
use Rattle.device_calls.specs.Calls.{Call}
use Rattle.device_calls.specs.Programs.{Makes}
use Rattle.device_calls.specs.Worlds.{World}
use Rattle.device_calls.proofs.Running.{run_makes}
use Rattle.turn_model.specs.Loading.{FilesLoaded, loading_files, duid_with, beginnings_of}
use Rattle.turn_model.specs.Turns.{until, input_of, step_of}
use Rattle.turn_model.specs.Opening.{opening_step}
use Rattle.turn_model.specs.Foretold.{told_wake, told_bytes, woken, ran_turn, ran_opening}
use Rattle.turn_model.specs.HostInLife.{Running, running_opened, running_turned, running_after, life_run, table_of, HoldsUnlessFailed}
use Rattle.turn_model.proofs.Acting.{Acts, turn_acts, ran_clearing, ran_loading, opening_acts}
use Rattle.turn_model.proofs.Loading.{files_are_loaded, beginnings_managed}

pub record Sound (managed : List Managed) (failing : List ℕ) (running : Running) : Type 0 where
  pub same : managed_in running.life.client.ifaces ≡ managed
  pub table : TrueTable managed (table_of running)
  pub fails : running.world.host.failing ≡ failing

wants : (managed : List Managed) (client : Client) → SharesAreManaged managed → managed_in client.ifaces ≡ managed → Wantable managed (rows_of client)
wants managed client shares same =
    subst (λ (m : List Managed). Wantable m (rows_of client)) same (wantable client.ifaces (subst SharesAreManaged (sym same) shares))

-- ---- a table turned

-- a life went on from a table to the next
record Turned (managed : List Managed) (failing : List ℕ) (before : Table) (after : Running) : Type 0 where
  same : managed_in after.life.client.ifaces ≡ managed
  table : table_of after ≡ table_turned managed failing (rows_of after.life.client) before
  fails : after.world.host.failing ≡ failing

turned_sound : (managed : List Managed) (shares : SharesAreManaged managed) (failing : List ℕ) (before : Table) (after : Running)
    → Turned managed failing before after → TrueTable managed before → Sound managed failing after
turned_sound managed shares failing before after turned true_before = record {
  same = turned.same;
  table =
      subst (λ (t : Table). TrueTable managed t) (sym turned.table)
      (turn_true failing managed (rows_of after.life.client) (wants managed after.life.client shares turned.same) before true_before);
  fails = turned.fails;
}

turned_others : (managed : List Managed) (shares : SharesAreManaged managed) (failing : List ℕ) (before : Table) (after : Running)
    → Turned managed failing before after → TrueTable managed before → other_rows managed after.world.host.told.rows ≡ other_rows managed before.told.rows
turned_others managed shares failing before after turned true_before =
    ap (λ (t : Table). other_rows managed t.told.rows) turned.table
    ∙ turn_leaves_others failing managed (rows_of after.life.client) (wants managed after.life.client shares turned.same) before true_before

turned_holds : (managed : List Managed) (shares : SharesAreManaged managed) (failing : List ℕ) (before : Table) (after : Running)
    → Turned managed failing before after → TrueTable managed before
    → NoneFails managed failing (rows_of after.life.client) before → Holds managed (rows_of after.life.client) before.told.rows after.world.host.told.rows
turned_holds managed shares failing before after turned true_before none =
    subst (λ (t : Table). Holds managed (rows_of after.life.client) before.told.rows t.told.rows) (sym turned.table)
    (turn_holds failing managed (rows_of after.life.client) (wants managed after.life.client shares turned.same) before true_before none)

-- ---- by an opening, and by a turn

-- the interfaces of an opening are those that are managed
pub opening_managed : (managed : List Managed) (specs : List IfSpec) (begin : Begin) (calls : List Call) (files : FilesLoaded)
    → Makes (loading_files managed) calls files → managed_in (opening_step managed files specs begin).client.ifaces ≡ managed
opening_managed managed specs begin calls files makes =
    all_opened begin.up (moment_of begin.at) begin.salt (beginnings_of managed files) ∙ beginnings_managed (duid_with managed files) files.ifaces
    ∙ files_are_loaded managed calls files makes

opening_turned : (managed : List Managed) (specs : List IfSpec) (world : World)
    → Turned managed world.host.failing (unknown_table world.host.told) (running_opened managed specs world)
opening_turned managed specs world =
    let begin : Begin = world.link.told.begin in
    let step : ClientStep = opening_step managed (ran_loading managed specs begin world).result specs begin in
    let it : Acts managed None step.client world.host (ran_opening managed specs world) = opening_acts managed specs begin world in
    let same : managed_in step.client.ifaces ≡ managed =
    opening_managed managed specs begin _ (ran_loading managed specs begin world).result
    (run_makes (loading_files managed) (ran_clearing managed specs begin world).world) in
    record {
      same = ap (λ (c : Client). managed_in c.ifaces) it.client_is ∙ same;
      table = (λ i. record { known = it.known_is i; told = it.told_is i })
          ∙ ap (λ (c : Client). table_turned managed world.host.failing (rows_of c) (unknown_table world.host.told)) (sym it.client_is);
      fails = it.failing_is;
    }

turn_turned : (managed : List Managed) (running : Running) (given : Given) → managed_in running.life.client.ifaces ≡ managed
    → Turned managed running.world.host.failing (table_of running) (running_turned managed running given)
turn_turned managed running given was =
    let it : Acts managed running.life.known (step_of running.life (told_wake given) (told_bytes given)).client running.world.host
    (ran_turn managed running.life running.world given) =
    turn_acts managed running.life (told_wake given) (told_bytes given) (woken (until running.life) (told_wake given) (told_bytes given) running.world) in
    let same : managed_in (step_of running.life (told_wake given) (told_bytes given)).client.ifaces ≡ managed =
    all_turned running.life.client.own (input_of running.life (told_wake given) (told_bytes given)) running.life.client.ifaces ∙ was in
    record {
      same = ap (λ (c : Client). managed_in c.ifaces) it.client_is ∙ same;
      table = (λ i. record { known = it.known_is i; told = it.told_is i })
          ∙ ap (λ (c : Client). table_turned managed running.world.host.failing (rows_of c) (table_of running)) (sym it.client_is);
      fails = it.failing_is;
    }

turn_here : (managed : List Managed) (failing : List ℕ) (running : Running) (given : Given) → Sound managed failing running
    → Turned managed failing (table_of running) (running_turned managed running given)
turn_here managed failing running given sound =
    subst (λ (f : List ℕ). Turned managed f (table_of running) (running_turned managed running given)) sound.fails
    (turn_turned managed running given sound.same)

-- ---- over a life

after_sound : (managed : List Managed) (shares : SharesAreManaged managed) (failing : List ℕ) (turns : List Given) (running : Running)
    → Sound managed failing running → Sound managed failing (running_after managed turns running)
after_sound managed shares failing [] running sound = sound
after_sound managed shares failing (given ∷ coming) running sound =
    after_sound managed shares failing coming (running_turned managed running given)
    (turned_sound managed shares failing (table_of running) (running_turned managed running given)
    (turn_here managed failing running given sound) sound.table)

after_others : (managed : List Managed) (shares : SharesAreManaged managed) (failing : List ℕ) (turns : List Given) (running : Running)
    → Sound managed failing running
    → other_rows managed (running_after managed turns running).world.host.told.rows ≡ other_rows managed running.world.host.told.rows
after_others managed shares failing [] running sound = refl
after_others managed shares failing (given ∷ coming) running sound =
    after_others managed shares failing coming (running_turned managed running given)
    (turned_sound managed shares failing (table_of running) (running_turned managed running given)
    (turn_here managed failing running given sound) sound.table)
    ∙ turned_others managed shares failing (table_of running) (running_turned managed running given) (turn_here managed failing running given sound) sound.table

module _ (managed : List Managed) (specs : List IfSpec) (world : World) (shares : SharesAreManaged managed) (s : InRowOrder world.host.told.rows) where
  first_table : TrueTable managed (unknown_table world.host.told)
  first_table = record { in_order = s; known = tt }

  pub opening_holds : HoldsUnlessFailed managed world.host.failing world.host.told.rows (unknown_table world.host.told) (running_opened managed specs world)
  opening_holds none =
      turned_holds managed shares world.host.failing (unknown_table world.host.told) (running_opened managed specs world)
      (opening_turned managed specs world) first_table none

  opening_sound : Sound managed world.host.failing (running_opened managed specs world)
  opening_sound =
      turned_sound managed shares world.host.failing (unknown_table world.host.told) (running_opened managed specs world)
      (opening_turned managed specs world) first_table

  pub lived_sound : (turns : List Given) → Sound managed world.host.failing (life_run managed specs world turns)
  lived_sound turns = after_sound managed shares world.host.failing turns (running_opened managed specs world) opening_sound

  pub others_in_life : (turns : List Given)
      → other_rows managed (life_run managed specs world turns).world.host.told.rows ≡ other_rows managed world.host.told.rows
  others_in_life turns =
      after_others managed shares world.host.failing turns (running_opened managed specs world) opening_sound
      ∙ turned_others managed shares world.host.failing (unknown_table world.host.told) (running_opened managed specs world)
      (opening_turned managed specs world) first_table

  pub turn_in_life : (earlier : List Given) (given : Given)
      → HoldsUnlessFailed managed world.host.failing world.host.told.rows (table_of (life_run managed specs world earlier))
      (running_turned managed (life_run managed specs world earlier) given)
  turn_in_life earlier given none =
      let before : Running = life_run managed specs world earlier in
      let sound : Sound managed world.host.failing (life_run managed specs world earlier) = lived_sound earlier in
      let holds =
      turned_holds managed shares world.host.failing (table_of before) (running_turned managed before given)
      (turn_here managed world.host.failing before given sound) sound.table none in
      record { as_wanted = holds.as_wanted; others_stay = holds.others_stay ∙ others_in_life earlier }
