-- That the lines of a life show no address without its basis, where the life is lived over devices that tell what they
-- hold and which of their calls fail.
use Rattle.std.specs.Prelude.{◌≡◌, ◌<◌, ◌^◌, List, ◌++◌, map, flat_map}
use Rattle.std.specs.List.{AllByRecursion}
use Rattle.net_types.specs.Marks.{AreBytes}
use Rattle.net_types.specs.declared.interface.IfSpec.{IfSpec}
use Rattle.world.specs.LinkCalls.{Given}
use Rattle.settings.specs.declared.interfaces.Managed.{Managed}
use Rattle.settings.specs.Fitting.{AreManaged}
use Rattle.settings.specs.ManagedRows.{SharesAreManaged}
use Rattle.host_model.specs.HostTable.{InRowOrder}
use Rattle.device_calls.specs.Worlds.{World}
use Rattle.turn_model.specs.FilesInLife.{AreNamedApart}
use Rattle.turn_model.specs.Foretold.{opening_of, told_turns}
use Rattle.turn_model.specs.Lives.{Met, OpeningMet}
use Rattle.turn_model.specs.HostInLife.{running_opened}
use Rattle.evidence.specs.HeldAddresses.{mets_of}
use Rattle.evidence.specs.Laws.{AreNumbered, AreSharedWithOthers, HasBasisIn, LeasedBasis6}
use Rattle.lease6_judge.specs.Lease6Evidence.ItemBasis.{ItemBasis}
use Rattle.lease6_judge.specs.HeardBasis.{HeardAddressBasis, HeardBasis}
use Rattle.evidence_words.specs.Entries.{Entry}
use Rattle.evidence_words.specs.IfaceLives.{now_in}
use Rattle.evidence_words.specs.Inputs.{Site}
use Rattle.net_types.specs.declared.address.Net.{Net}
use Rattle.transcript_model.specs.Told.{TurnTold}
use Rattle.audit_model.specs.Showing.{read_in_line, shown_after, shown_at_first, site_by}
use Rattle.audit_model.specs.Verdicts.{BasisWord, IsJust}
use Rattle.audit_model.specs.LivesTold.{life_lived}

-- the leases of DHCPv6 are those that a server gave first
abbrev pub HeldBasis : BasisWord
HeldBasis managed sites past index net = HasBasisIn LeasedBasis6 ItemBasis managed sites past index net

-- an address of a DHCPv6 lease that a Reply gave, the first one or a later one
abbrev pub HeardAddress : Site → Net → List Entry → Type 0
HeardAddress site net past = HeardAddressBasis site net (now_in past) past

-- The leases of DHCPv6 are those that any Replies gave.
abbrev pub HeardBasisIn : BasisWord
HeardBasisIn managed sites past index net = HasBasisIn HeardAddress HeardBasis managed sites past index net

-- After the opening, and after each of these turns, all that the lines of the life show is justified.
abbrev pub ShowsJustly : BasisWord → List Managed → List IfSpec → OpeningMet → List Met → Type 0
ShowsJustly Rests managed specs opening mets =
    let life = life_lived opening mets in
    (front rest : List TurnTold) → life.turns ≡ front ++ rest
    → IsJust Rests managed
    (site_by managed (map (λ spec. spec.mac) specs) opening.begin.up (flat_map read_in_line life.opening))
    (shown_after (shown_at_first life) front)

-- what a life meets, given what comes
abbrev pub Meets : Type 0
Meets = List Managed → List IfSpec → World → List Given → List Met

-- all that comes
abbrev pub meets_all : Meets
meets_all managed specs world coming = mets_of managed (running_opened managed specs world) coming

-- what comes up to the end of the life
abbrev pub meets_told : Meets
meets_told managed specs world coming =
    told_turns managed (running_opened managed specs world).life (running_opened managed specs world).world coming

abbrev pub LinesRestOnEvidence : BasisWord → Meets → Type 0
LinesRestOnEvidence Rests meets =
    (managed : List Managed) (specs : List IfSpec) (world : World) (coming : List Given) → AreManaged managed
    → SharesAreManaged managed → AreSharedWithOthers managed → AreNumbered managed → AreNamedApart managed
    → AllByRecursion (λ (given : Given). AreBytes given.bytes) coming → InRowOrder world.host.told.rows
    → world.link.told.begin.at < 10 ^ 15
    → ShowsJustly Rests managed specs (opening_of managed specs world) (meets managed specs world coming)
