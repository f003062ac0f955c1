-- What a host that tells its rows holds in a life, whatever its calls are answered, and whether or not it is told which
-- of them fail.
use Rattle.std.specs.Prelude.{◌≡◌, false, List, [], ◌∷◌, ◌++◌, flat_map}
use Rattle.std.specs.List.{AllPass, AllByRecursion}
use Rattle.net_types.specs.declared.interface.IfSpec.{IfSpec}
use Rattle.world.specs.HostCalls.{HostTold}
use Rattle.settings.specs.declared.interfaces.Managed.{Managed}
use Rattle.settings.specs.Fitting.{AreManaged}
use Rattle.settings.specs.ManagedRows.{SharesAreManaged}
use Rattle.host_model.specs.HostTable.{InRowOrder, managed_rows, other_rows, is_done}
use Rattle.client_model.specs.Clients.{rows_of}
use Rattle.device_calls.specs.Calls.{Call, host_call}
use Rattle.device_calls.specs.HostWalks.{HostGoes}
use Rattle.turn_model.specs.FilesInLife.{AreNamedApart}
use Rattle.turn_model.specs.Turns.{Life}
use Rattle.turn_model.specs.Lives.{OpeningMet, IsOpening, Met, AreTurns}
use Rattle.evidence.specs.Laws.{AreNumbered, AreOctets, AreSharedWithOthers}
use Rattle.evidence.specs.HeldAddresses.{RestOnEvidence, WantsStaticOrKept, WantsStaticAlone}
use Rattle.device_evidence.specs.Stretches.{Stretch, all_calls, at_opening, at_turn}

-- what the host told before and after some calls, which it answered truly
abbrev pub HostWent : List Call → (old new : HostTold) → Type 0
HostWent calls old new = HostGoes (flat_map host_call calls) old new

-- no call of the host failed among these
abbrev pub NoneFailed : List Call → Type 0
NoneFailed calls = AllPass is_done (flat_map host_call calls)

-- What the host held at the end of an opening or a turn, of a life that then had met these turns. `first` is what it
-- told when the life began, `last` what it told in the end.
pub record HostHeld (managed : List Managed) (specs : List IfSpec) (opening : OpeningMet) (mets : List Met)
    (life : Life) (calls : Stretch) (first last : HostTold) : Type 0 where
  pub told : HostTold
  pub went : HostWent (calls.before ++ calls.own) first told
  pub goes_on : HostWent calls.later told last
  pub others : other_rows managed told.rows ≡ other_rows managed first.rows
  pub wanted : NoneFailed calls.own → managed_rows managed told.rows ≡ rows_of life.client
  pub rests : NoneFailed calls.own → AreOctets mets → RestOnEvidence managed specs opening mets told.rows

-- After the opening, and after each turn. At the opening the client wants static addresses, and those of kept leases
-- that are asked for again; static ones alone where no interface has `persistent`.
pub record HostHeldInLife (managed : List Managed) (specs : List IfSpec) (opening : OpeningMet) (mets : List Met)
    (end : List Call) (first last : HostTold) : Type 0 where
  pub starts : WantsStaticOrKept managed specs opening
  pub plain_starts : AllByRecursion (λ (m : Managed). m.conf.flags.persistent ≡ false) managed
      → WantsStaticAlone managed specs opening
  pub opened : HostHeld managed specs opening [] opening.life (at_opening opening mets end) first last
  pub turned : (earlier : List Met) (met : Met) (later : List Met) → mets ≡ earlier ++ met ∷ later
      → HostHeld managed specs opening (earlier ++ met ∷ []) met.life (at_turn opening earlier met later end) first last

abbrev pub HostsHold : Type 0
HostsHold =
    (managed : List Managed) (specs : List IfSpec) (opening : OpeningMet) (mets : List Met) (end : List Call)
    (first last : HostTold) → AreManaged managed → SharesAreManaged managed → AreSharedWithOthers managed
    → AreNumbered managed → AreNamedApart managed → IsOpening managed specs opening
    → AreTurns managed opening.life mets → InRowOrder first.rows → HostWent (all_calls opening mets end) first last
    → HostHeldInLife managed specs opening mets end first last
