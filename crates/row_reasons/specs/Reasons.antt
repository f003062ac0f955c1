-- What it is to be that an address rests as a reason says.
use Rattle.std.specs.Prelude.{◌≡◌, ℕ, List}
use Rattle.std.specs.List.{Contains}
use Rattle.net_types.specs.declared.address.Net.{Net}
use Rattle.net_types.specs.declared.interface.IfIndex.{IfIndex}
use Rattle.world.specs.declared.rows.HostRow.{HostRow}
use Rattle.world.specs.declared.rows.HostRow.TheVariants.{Addr, Route}
use Rattle.settings.specs.declared.interfaces.Managed.{Managed}
use Rattle.audit_words.specs.EvidenceWords.Entries.{Entry}
use Rattle.audit_words.specs.EvidenceWords.IfaceLives.{now_in}
use Rattle.audit_words.specs.EvidenceWords.Inputs.{Site}
use Rattle.transcript_audit.specs.Evidence.Laws.{HasBasisAmong, KeptBasis, RestsWith}
use Rattle.transcript_audit.specs.Evidence.ShareBasis.{ShareBasisOf}
use Rattle.transcript_audit.specs.Lease6Judge.HeardBasis.{HeardBasis}
use Rattle.transcript_audit.specs.AuditModel.Verdicts.{BasisWord}
use Rattle.basis_turns.specs.BasisShown.{ShownBy}
use Rattle.basis_turns.specs.declared.walks.Basis.{Basis}
use Rattle.row_reasons.specs.declared.reason.Reason.{Reason}
use Rattle.row_reasons.specs.declared.reason.Reason.TheVariants.{Own, Kept, Share}

-- a basis of this kind, with these turns, at the moment of the last one
abbrev pub ShownNow : Basis → Site → Net → List Entry → Type 0
ShownNow basis site net past = ShownBy basis site net (now_in past) past

-- The address is one of a prefix that is delegated to the managed interface of a number, and has its basis there.
pub record IsShareOf (number : ℕ) (managed : List Managed) (sites : Managed → Site) (past : List Entry)
    (index : IfIndex) (net : Net) : Type 0 where
  pub upstream : Managed
  pub among : Contains managed upstream
  pub numbered : upstream.spec.index.number ≡ number
  pub basis : ShareBasisOf (RestsWith HeardBasis) (sites upstream) index net past

abbrev pub RestsBy : Reason → BasisWord
RestsBy (Own basis) managed sites past index net = HasBasisAmong (ShownNow basis) managed sites past index net
RestsBy Kept managed sites past index net = HasBasisAmong KeptBasis managed sites past index net
RestsBy (Share number) managed sites past index net = IsShareOf number managed sites past index net

-- the row is an address that rests so
abbrev pub RowRests : Reason → List Managed → (Managed → Site) → List Entry → HostRow → Type 0
RowRests reason managed sites past (Addr index net) = RestsBy reason managed sites past index net
RowRests reason managed sites past (Route iface dest via metric) = ⊥
