-- That the addresses which the host holds have their basis, in a life over devices that tell what they hold and which
-- of their calls fail.
use Rattle.std.specs.Prelude.{◌≡◌, ◌⊎◌, ℕ, ◌<◌, true, false, List, [], ◌∷◌, ◌++◌, length}
use Rattle.std.specs.List.{AllByRecursion}
use Rattle.net_types.specs.declared.address.Net.{Net}
use Rattle.net_types.specs.Marks.{AreBytes}
use Rattle.net_types.specs.declared.interface.IfSpec.{IfSpec}
use Rattle.net_types.specs.declared.interface.IfIndex.{IfIndex}
use Rattle.world.specs.declared.rows.HostRow.{HostRow}
use Rattle.world.specs.declared.rows.HostRow.TheVariants.{Addr}
use Rattle.world.specs.LinkCalls.{Given}
use Rattle.world.specs.RowOrder.{has_row}
use Rattle.settings.specs.declared.interfaces.Managed.{Managed}
use Rattle.settings.specs.Fitting.{AreManaged}
use Rattle.settings.specs.ManagedRows.{SharesAreManaged, is_managed}
use Rattle.host_model.specs.HostTable.{InRowOrder, NoneFails, unknown_table}
use Rattle.client_model.specs.Clients.{rows_of}
use Rattle.device_calls.specs.Worlds.{World}
use Rattle.evidence_words.specs.TurnModel.Lives.{OpeningMet, IsOpening, Met}
use Rattle.evidence_words.specs.TurnModel.Foretold.{ran_turn, met_of, told_turns, opening_of}
use Rattle.evidence_words.specs.TurnModel.HostInLife.{Running, running_opened, running_turned, running_after, life_run, table_of}
use Rattle.evidence.specs.StaticBasis.{StaticBasis}
use Rattle.evidence.specs.Laws.{AreNumbered, AreSharedWithOthers, HasBasis, HasBasisOf, HasShareBasisOf, KeptBasis}
use Rattle.evidence_words.specs.Entries.{Entry}
use Rattle.evidence_words.specs.Inputs.{Site}
use Rattle.lease6_evidence.specs.KeptBasis6.{KeptBasis6}
use Rattle.evidence_words.specs.TurnModel.FilesInLife.{AreNamedApart}
use Rattle.v6_client.specs.V6Items.declared.asks.IaAsk.{IaAsk}
use Rattle.net_types.specs.declared.address.Net6.{Net6}

-- what the turns of a life meet
abbrev pub mets_of : List Managed → Running → List Given → List Met
mets_of managed running [] = []
mets_of managed running (given ∷ coming) =
    met_of given (ran_turn managed running.life running.world given)
    ∷ mets_of managed (running_turned managed running given) coming

-- Each address among the rows of managed interfaces has its basis.
abbrev pub RestOnEvidence : List Managed → List IfSpec → OpeningMet → List Met → List HostRow → Type 0
RestOnEvidence managed specs opening mets rows =
    (index : IfIndex) (net : Net) → is_managed managed (Addr index net) ≡ true
    → has_row rows (Addr index net) ≡ true → HasBasis managed specs opening mets index net

-- At an opening each address that the client wants has a basis of this kind on its interface, or is one of a share
-- whose prefix has one of that kind.
abbrev pub WantsAlone : (Kind : Site → Net → List Entry → Type 0)
    → (Shared : Site → IaAsk → Net6 → (now : ℕ) → List Entry → Type 0) → List Managed → List IfSpec → OpeningMet
    → Type 0
WantsAlone Kind Shared managed specs opening = (index : IfIndex) (net : Net)
    → has_row (rows_of opening.life.client) (Addr index net) ≡ true
    → HasBasisOf Kind managed specs opening [] index net ⊎ HasShareBasisOf Shared managed specs opening [] index net

-- it is a static one, of an interface that has carrier, or one of a kept lease
abbrev pub StartBasis : Site → Net → List Entry → Type 0
StartBasis site net past = StaticBasis site net past ⊎ KeptBasis site net past

abbrev pub WantsStaticOrKept : List Managed → List IfSpec → OpeningMet → Type 0
WantsStaticOrKept managed specs opening = WantsAlone StartBasis KeptBasis6 managed specs opening

-- so at each opening
abbrev pub OpeningStarts : Type 0
OpeningStarts = (managed : List Managed) (specs : List IfSpec) (opening : OpeningMet) → IsOpening managed specs opening
    → AreManaged managed → AreSharedWithOthers managed → AreNumbered managed → AreNamedApart managed
    → WantsStaticOrKept managed specs opening

-- At an opening each address that the client wants is a static one, of an interface that has carrier.
abbrev pub WantsStaticAlone : List Managed → List IfSpec → OpeningMet → Type 0
WantsStaticAlone managed specs opening = (index : IfIndex) (net : Net)
    → has_row (rows_of opening.life.client) (Addr index net) ≡ true
    → HasBasisOf StaticBasis managed specs opening [] index net

-- so where `persistent` is in force nowhere
abbrev pub PlainOpeningStarts : Type 0
PlainOpeningStarts = (managed : List Managed) (specs : List IfSpec) (opening : OpeningMet)
    → IsOpening managed specs opening
    → AllByRecursion (λ (m : Managed). m.conf.flags.persistent ≡ false) managed → WantsStaticAlone managed specs opening

-- so after an opening in which no host call failed
abbrev pub OpeningRests : Type 0
OpeningRests =
    (managed : List Managed) (specs : List IfSpec) (world : World) → AreManaged managed → SharesAreManaged managed
    → AreSharedWithOthers managed → AreNumbered managed
    → AreNamedApart managed → InRowOrder world.host.told.rows
    → let after = running_opened managed specs world in
    NoneFails managed world.host.failing (rows_of after.life.client) (unknown_table world.host.told)
    → RestOnEvidence managed specs (opening_of managed specs world) [] after.world.host.told.rows

-- and after each turn in which none failed
abbrev pub TurnsRest : Type 0
TurnsRest =
    (managed : List Managed) (specs : List IfSpec) (world : World) (earlier : List Given) (given : Given)
    → AreManaged managed → SharesAreManaged managed → AreSharedWithOthers managed
    → AreNumbered managed → AreNamedApart managed
    → AllByRecursion (λ (g : Given). AreBytes g.bytes) (earlier ++ given ∷ []) → InRowOrder world.host.told.rows
    → let before = life_run managed specs world earlier in
    let after = running_turned managed before given in
    NoneFails managed world.host.failing (rows_of after.life.client) (table_of before)
    → RestOnEvidence managed specs (opening_of managed specs world)
    (mets_of managed (running_opened managed specs world) (earlier ++ given ∷ [])) after.world.host.told.rows

-- What the devices foretell is what these turns meet, as far as the life goes on, and then the turns to come.
abbrev pub ForetoldAreMet : Type 0
ForetoldAreMet =
    (managed : List Managed) (running : Running) (earlier : List Given) (given : Given) (coming : List Given)
    → length earlier < length (told_turns managed running.life running.world (earlier ++ given ∷ coming))
    → let after = running_after managed (earlier ++ given ∷ []) running in
    told_turns managed running.life running.world (earlier ++ given ∷ coming)
    ≡ mets_of managed running (earlier ++ given ∷ []) ++ told_turns managed after.life after.world coming
