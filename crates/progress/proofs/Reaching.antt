-- What is held reaches the host.
use Rattle.std.proofs.Common.{◌≡◌, ℕ, ◌≤◌, Bool, true, false, ◌&&◌, List, [], ◌∷◌, ◌++◌, length, refl, sym, subst, ◌∙◌}
use Rattle.std.specs.Prelude.{flat_map}
use Rattle.std.proofs.lemmas.Bool.{false≢true}
use Rattle.std.proofs.lemmas.List.Elements.{All-nil}
use Rattle.net_types.specs.declared.interface.IfSpec.{IfSpec}
use Rattle.net_types.proofs.AllLaws.{all_map}
use Rattle.world.specs.declared.rows.HostRow.{HostRow}
use Rattle.world.specs.declared.rows.HostRow.TheVariants.{Addr}
use Rattle.world.specs.HostCalls.{HostTold}
use Rattle.world.specs.LinkCalls.{Given}
use Rattle.world.specs.RowOrder.{has_row}
use Rattle.settings.specs.declared.interfaces.Managed.{Managed}
use Rattle.settings.specs.ManagedRows.{SharesAreManaged, is_managed}
use Rattle.host_model.specs.HostTable.{AllPast, Holds, InRowOrder, unknown_table}
use Rattle.host_model.proofs.HostTableRows.{has_filter}
use Rattle.host_model.proofs.HostTableTurns.{none_fails}
use Rattle.client_model.specs.declared.interfaces.Iface.{Iface}
use Rattle.client_model.specs.Clients.{rows_of}
use Rattle.client_model.specs.WantedRows.{iface_rows}
use Rattle.device_calls.specs.Worlds.{World}
use Rattle.turn_model.specs.HostInLife.{Running, running_opened, running_turned, running_after, life_run, table_of}
use Rattle.turn_model.proofs.HostInLifeTurns.{opening_holds, turn_in_life}
use Rattle.progress.specs.AddressesReach.{AddressesAreThere, AllAreThere, OpeningReachesHost, TurnsReachHost, AlwaysReachesHost}
use Rattle.progress.proofs.Addresses.{AddressesWithin, each_within, addresses_there, wanted_too}

second : (a b : Bool) → (a && b) ≡ true → b ≡ true
second true b e = e
second false b e = absurd (false≢true e)

holds_within : (managed : List Managed) (first : List HostRow) (after : Running)
    → Holds managed (rows_of after.life.client) first after.world.host.told.rows
    → AddressesWithin (flat_map iface_rows after.life.client.ifaces) after.world.host.told.rows
holds_within managed first after holds index net given =
    let rows : List HostRow = after.world.host.told.rows in
    let wanted : has_row (rows_of after.life.client) (Addr index net) ≡ true = wanted_too after.life.client.ifaces index net given in
    second (is_managed managed (Addr index net)) (has_row rows (Addr index net))
    (sym (has_filter (is_managed managed) rows (Addr index net))
    ∙ subst (λ (on_managed : List HostRow). has_row on_managed (Addr index net) ≡ true) (sym holds.as_wanted) wanted)

all_there : (managed : List Managed) (first : List HostRow) (after : Running)
    → Holds managed (rows_of after.life.client) first after.world.host.told.rows → AllAreThere after
all_there managed first after holds =
    let rows : List HostRow = after.world.host.told.rows in
    all_map (λ (iface : Iface). AddressesWithin (iface_rows iface) rows) (AddressesAreThere rows) (addresses_there rows)
    after.life.client.ifaces (each_within iface_rows after.life.client.ifaces rows (holds_within managed first after holds))

pub opening_reaches : OpeningReachesHost
opening_reaches managed specs world shares order none =
    all_there managed world.host.told.rows (running_opened managed specs world) (opening_holds managed specs world shares order none)

pub turns_reach : TurnsReachHost
turns_reach managed specs world earlier given shares order none =
    all_there managed world.host.told.rows (running_turned managed (life_run managed specs world earlier) given)
    (turn_in_life managed specs world shares order earlier given none)

-- ---- where no call fails

none_past : (failing : List ℕ) (told : HostTold) → failing ≡ [] → AllPast failing told
none_past failing told e = subst (λ (f : List ℕ). AllPast f told) (sym e) (All-nil (λ number. number ≤ length told.calls))

one_later : (managed : List Managed) (earlier : List Given) (given : Given) (running : Running)
    → running_after managed (earlier ++ given ∷ []) running ≡ running_turned managed (running_after managed earlier running) given
one_later managed [] given running = refl
one_later managed (first ∷ earlier) given running = one_later managed earlier given (running_turned managed running first)

module _ (managed : List Managed) (specs : List IfSpec) (world : World) (shares : SharesAreManaged managed)
    (order : InRowOrder world.host.told.rows) (e : world.host.failing ≡ []) where
  begins : AllAreThere (running_opened managed specs world)
  begins =
      opening_reaches managed specs world shares order
      (none_fails world.host.failing managed (rows_of (running_opened managed specs world).life.client) (unknown_table world.host.told)
      (none_past world.host.failing world.host.told e))

  turns_on : (earlier : List Given) (given : Given) → AllAreThere (running_turned managed (life_run managed specs world earlier) given)
  turns_on earlier given =
      let before : Running = life_run managed specs world earlier in
      turns_reach managed specs world earlier given shares order
      (none_fails world.host.failing managed (rows_of (running_turned managed before given).life.client) (table_of before)
      (none_past world.host.failing before.world.host.told e))

  goes_on : (coming earlier : List Given) → AllAreThere (life_run managed specs world earlier)
      → AllAreThere (running_after managed coming (life_run managed specs world earlier))
  goes_on [] earlier there = there
  goes_on (given ∷ coming) earlier there =
      let one : life_run managed specs world (earlier ++ given ∷ []) ≡ running_turned managed (life_run managed specs world earlier) given =
      one_later managed earlier given (running_opened managed specs world) in
      subst (λ (r : Running). AllAreThere (running_after managed coming r)) one
      (goes_on coming (earlier ++ given ∷ []) (subst AllAreThere (sym one) (turns_on earlier given)))

pub always_reaches : AlwaysReachesHost
always_reaches managed specs world turns shares order e =
    goes_on managed specs world shares order e turns [] (begins managed specs world shares order e)
