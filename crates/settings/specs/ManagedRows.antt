-- Which rows of the host are on interfaces that the daemon manages.
use Rattle.std.specs.Prelude.{ℕ, ◌≡◌, Bool, true, ◌==◌, List}
use Rattle.std.specs.List.{AllByRecursion, list_any}
use Rattle.world.specs.declared.rows.HostRow.{HostRow}
use Rattle.world.specs.RowOrder.{row_iface}
use Rattle.settings.specs.declared.dhcp6_conf.ShareConf.{ShareConf}
use Rattle.settings.specs.declared.interfaces.Managed.{Managed}

-- whether a row is on a managed interface
abbrev pub is_managed : List Managed → HostRow → Bool
is_managed managed row = list_any (λ m. m.spec.index.number == row_iface row) managed

-- whether an interface of this number is managed
abbrev pub has_index : ℕ → List Managed → Bool
has_index number managed = list_any (λ m. m.spec.index.number == number) managed

-- Each share of a delegated prefix is of a managed interface.
abbrev pub LeadsToManaged : List Managed → ShareConf → Type 0
LeadsToManaged managed share = has_index share.outlet.iface.number managed ≡ true

abbrev pub SharesAreManaged : List Managed → Type 0
SharesAreManaged managed = AllByRecursion (λ m. AllByRecursion (LeadsToManaged managed) m.conf.dhcp6.shares) managed
