-- Interfaces in a run, and what is kept of them beside them: of each place, what comes of the interface there.
use Rattle.std.specs.Prelude.{◌≡◌, List, map}
use Rattle.resolver_text.specs.Parts.{parts_content}
use Rattle.client_core.specs.Due.{AreMoments, dues_of}
use Rattle.client_core.specs.Names.{AreNamed}
use Rattle.client_model.specs.declared.interfaces.Iface.{Iface}
use Rattle.client_model.specs.Fitting.{AreIfaces}
use Rattle.client_model.specs.IfaceSteps.{index_of}
use Rattle.client_model.specs.WantedRows.{iface_rows}
use Rattle.client_core.specs.declared.kept.Kept.{Kept}
use Rattle.client_core.specs.ToldParts.{all_told}

pub record IsRunning (ifaces : List Iface) (kept : Kept) : Type 0 where
  pub fit : AreIfaces ifaces
  pub brings : kept.tables ≡ map iface_rows ifaces
  pub tells : parts_content kept.parts.items ≡ all_told ifaces
  pub due : AreMoments (map dues_of ifaces) kept.dues
  pub named : AreNamed (map index_of ifaces) kept.named
