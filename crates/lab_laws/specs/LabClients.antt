-- The clients of a lab, and the turns that they get there.
use Rattle.std.specs.Prelude.{◌≡◌, ◌<◌, ◌^◌, List, None, AllPairs}
use Rattle.net_types.specs.Marks.{AreBytes}
use Rattle.settings.specs.declared.interfaces.Managed.{Managed}
use Rattle.settings.specs.Fitting.{AreManaged}
use Rattle.client_model.specs.Fitting.{FitsBeginning}
use Rattle.client_model.specs.IfaceTurns.{Turn}
use Rattle.lab_laws.specs.Messages.{Start}

-- two interfaces have unlike numbers and unlike hardware addresses
pub record AreApart (a b : Managed) : Type 0 where
  pub numbers : a.spec.index.number ≡ b.spec.index.number → ⊥
  pub macs : a.spec.mac ≡ b.spec.mac → ⊥

-- the interfaces that a configuration manages
pub record AreClients (managed : List Managed) : Type 0 where
  pub fit : AreManaged managed
  pub apart : AllPairs AreApart managed

-- Each frame was taken, what came in are bytes, and moments end before 10^15.
pub record FitsTurn (turn : Turn) : Type 0 where
  pub at : turn.at < 10 ^ 15
  pub sent : turn.unsent ≡ 0
  pub octets : AreBytes turn.bytes

-- no lease is kept
pub record FitsStart (start : Start) : Type 0 where
  pub at : start.at < 10 ^ 15
  pub fits : FitsBeginning start.beginning
  pub none : start.beginning.kept4 ≡ None
