-- That an interface without DHCPv4 holds a link-local address in time, and from then on (RFC 3927). Moments are in
-- milliseconds.
use Rattle.std.specs.Prelude.{◌≡◌, ℕ, ◌+◌, ◌<◌, ◌≤◌, true, false, List, ◌++◌, Some}
use Rattle.net_types.specs.declared.address.Ip4.{Ip4}
use Rattle.net_types.specs.declared.address.Mac.{Mac}
use Rattle.ipv4ll.specs.Table.{held_in}
use Rattle.script_model.specs.IfaceSets.{is_up}
use Rattle.client_model.specs.declared.interfaces.Iface.{Iface}
use Rattle.client_model.specs.ClientSettings.{runs_dhcp4}
use Rattle.client_model.specs.Interfaces.{opened}
use Rattle.client_model.specs.IfaceTurns.{Turn}
use Rattle.client_model.specs.KeptLeases.{Beginning}
use Rattle.client_model.specs.LocalSteps.{chooses_local}
use Rattle.client_model.specs.Runs.{iface_run}
use Rattle.progress.specs.LocalHeld.{longest_probing}
use Rattle.progress.specs.TurnsGoingWell.{moment_of_turns, PromptTurns, FairTurns}

-- the interface after its opening
abbrev pub begun : (up at salt : ℕ) → Beginning → Iface
begun up at salt b = (opened up at salt b).iface

-- The interface has carrier at the opening, no DHCPv4, and may choose an address.
pub record ChoosesAtOnce (up : ℕ) (b : Beginning) : Type 0 where
  pub carrier : is_up up b.managed.spec.index.number ≡ true
  pub no_dhcp4 : runs_dhcp4 b.managed.conf ≡ false
  pub chooses : chooses_local b.managed.conf ≡ true

-- After the opening, or some turn that came by the moment `end`, an address is held, and it still is after the last
-- turn.
pub record HeldByTurns (own : List Mac) (iface : Iface) (start : ℕ) (turns : List Turn) (end : ℕ) : Type 0 where
  pub later : List Turn
  pub earlier : List Turn
  pub cut : turns ≡ later ++ earlier
  pub in_time : moment_of_turns start earlier ≤ end
  pub addr : Ip4
  pub gained : held_in (iface_run own iface earlier).local.state ≡ Some addr
  pub kept : held_in (iface_run own iface turns).local.state ≡ Some addr

-- By the longest probing after the opening an address is held, and from then on.
abbrev pub InterfaceHoldsInTime : Type 0
InterfaceHoldsInTime = (own : List Mac) (b : Beginning) (up at salt : ℕ) (turns : List Turn) → ChoosesAtOnce up b
    → PromptTurns own (begun up at salt b) at turns → FairTurns own (begun up at salt b) turns
    → at + longest_probing < moment_of_turns at turns
    → HeldByTurns own (begun up at salt b) at turns (at + longest_probing)
