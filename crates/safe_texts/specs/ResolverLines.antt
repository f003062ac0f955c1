-- That the resolver's file is lines of names and addresses (resolv.conf(5)), whatever came in.
use Rattle.std.specs.Prelude.{◌≡◌, IfSome, List, ◌++◌}
use Rattle.std.specs.List.{AllByRecursion}
use Rattle.net_types.specs.AddressText.{FitsIp4}
use Rattle.net_types.specs.Marks.{AreBytes}
use Rattle.net_types.specs.declared.interface.IfSpec.{IfSpec}
use Rattle.resolver_text.specs.TextLaws.{HasResolverLines}
use Rattle.world.specs.StoreCalls.{StoreCall, WroteAside}
use Rattle.settings.specs.declared.interfaces.Managed.{Managed}
use Rattle.settings.specs.Fitting.{AreManaged}
use Rattle.client_model.specs.ResolverParts.{resolver_wanted}
use Rattle.device_calls.specs.Calls.{Call, Store}
use Rattle.turn_model.specs.Lives.{OpeningMet, Met, IsOpening, AreTurns, life_after, turns_calls}
use Rattle.turn_model.specs.Loading.{resolver_file}

-- each name server that is configured is an address of 32 bits, as every address in memory is
abbrev pub HasServers : Managed → Type 0
HasServers managed = AllByRecursion FitsIp4 managed.conf.resolver.servers

-- the frames that came in are bytes, as what a link gives is
abbrev pub AreOctets : List Met → Type 0
AreOctets mets = AllByRecursion (λ met. AreBytes met.bytes) mets

-- where these are so, the life of managed interfaces that fit
pub record IsLife (managed : List Managed) (specs : List IfSpec) (opening : OpeningMet) (mets : List Met) : Type 0 where
  pub fit : AreManaged managed
  pub servers : AllByRecursion HasServers managed
  pub opens : IsOpening managed specs opening
  pub turns : AreTurns managed opening.life mets
  pub octets : AreOctets mets

-- After an opening and any turns the resolver is to be told nothing, or such lines, whatever files and servers said.
abbrev pub WantedLinesAreSafe : Type 0
WantedLinesAreSafe =
    (managed : List Managed) (specs : List IfSpec) (opening : OpeningMet) (mets : List Met)
    → IsLife managed specs opening mets
    → IfSome (resolver_wanted (life_after opening.life mets).client.ifaces) HasResolverLines

-- What is written aside, to take the place of the resolver's file.
abbrev pub WritesLines : StoreCall → Type 0
WritesLines (WroteAside name bytes done) = name ≡ resolver_file → HasResolverLines bytes
WritesLines call = Unit {0}

abbrev pub IsLinesCall : Call → Type 0
IsLinesCall (Store call) = WritesLines call
IsLinesCall call = Unit {0}

-- Each such text that a life writes is lines, whatever the devices answered.
abbrev pub WrittenLinesAreSafe : Type 0
WrittenLinesAreSafe =
    (managed : List Managed) (specs : List IfSpec) (opening : OpeningMet) (mets : List Met)
    → IsLife managed specs opening mets
    → AllByRecursion IsLinesCall (opening.calls ++ turns_calls opening.life mets)
