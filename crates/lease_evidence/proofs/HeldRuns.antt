-- Over every life of an interface it carries what it needs for its lease.
use Rattle.std.proofs.Common.{◌≡◌, ℕ, Bool, true, false, not, ◌||◌, List, [], ◌∷◌, map, Option, Some, None, IfSome, refl, sym, ap, subst, ◌∙◌}
use Rattle.std.specs.List.{list_any, AllByRecursion}
use Rattle.net_types.specs.declared.address.Mac.{Mac}
use Rattle.net_types.specs.declared.interface.IfSpec.{IfSpec}
use Rattle.lease_text.specs.Bounds.{FitsLease, HasText, IsTyped}
use Rattle.lease_text.specs.Leases.{LeaseContent}
use Rattle.settings.specs.declared.interfaces.Managed.{Managed}
use Rattle.script_model.specs.IfaceSets.{is_in, is_up}
use Rattle.v4_client.specs.Clients.{held_of}
use Rattle.evidence_words.specs.ClientModel.declared.interfaces.Iface.{Iface}
use Rattle.evidence_words.specs.ClientModel.Messages.{Said}
use Rattle.evidence_words.specs.ClientModel.ClientSettings.{ask_of}
use Rattle.evidence_words.specs.ClientModel.Clients.{frame_of}
use Rattle.evidence_words.specs.ClientModel.Fitting.{FitsBeginning}
use Rattle.evidence_words.specs.ClientModel.IfaceSteps.{index_of}
use Rattle.evidence_words.specs.ClientModel.IfaceTurns.{iface_turned}
use Rattle.evidence_words.specs.ClientModel.KeptLeases.{Beginning}
use Rattle.evidence_words.proofs.ClientModel.SameInterfaces.{opened_same, turned_same}
use Rattle.v4_message.specs.Requests.{AskContent}
use Rattle.evidence_words.specs.Entries.{Offer}
use Rattle.evidence_words.specs.Inputs.{Site, offers_at}
use Rattle.evidence_words.proofs.Offers.{Offered}
use Rattle.evidence_words.specs.IfaceLives.{Opening, Met, site_of, opening_entry, entry_of, shown, opens, iface_after, failed_last, IsLived}
use Rattle.lease_evidence.specs.HeldLeases.{HeldLeasesHaveBasis, KeepsTyped}
use Rattle.lease_evidence.specs.OwnMessages.{speaker_of}
use Rattle.lease_evidence.proofs.LeasedInputs.{Leased, Turned}
use Rattle.lease_evidence.proofs.LeasedTurns.{opens_leased, turn_leased}
use Rattle.lease_evidence.proofs.Spoken.{FitsSaid, OwnSaid}
use Rattle.lease_evidence.proofs.Leases.{Rests, lease_has_basis, lease_rests}

module _ (spec : IfSpec) (ask : AskContent) (clean : Type 0) where
  -- the frames of what was said, all taken where none failed
  offered : (said : List Said) (offers : List Offer) → map (λ o. o.bytes) offers ≡ map (frame_of spec ask) said
      → (clean → list_any (λ o. not o.taken) offers ≡ false) → Offered spec ask clean said offers
  offered [] [] same none = tt
  offered [] (o ∷ offers) same none = absurd cc
  offered (say ∷ said) [] same none = absurd cc
  offered (say ∷ said) (o ∷ offers) same none = (
    ap (first_or o.bytes) same,
    λ k. taken o.taken (list_any (λ o. not o.taken) offers) (none k),
    offered said offers (ap rest same) (λ k. others o.taken (list_any (λ o. not o.taken) offers) (none k)),
  )
    where
      first_or : List ℕ → List (List ℕ) → List ℕ
      first_or d [] = d
      first_or d (x ∷ xs) = x

      rest : List (List ℕ) → List (List ℕ)
      rest [] = []
      rest (x ∷ xs) = xs

      taken : (t more : Bool) → (not t || more) ≡ false → t ≡ true
      taken true more h = refl
      taken false more h = absurd cc

      others : (t more : Bool) → (not t || more) ≡ false → more ≡ false
      others true more h = h
      others false more h = absurd cc

has_text : (kept : Option LeaseContent) → IfSome kept FitsLease → IfSome kept IsTyped → IfSome kept HasText
has_text None fits typed = tt
has_text (Some lease) fits typed = record { fits = fits; typed = typed }

module _ (own : List Mac) (beginning : Beginning) (fits : FitsBeginning beginning) (typed : KeepsTyped beginning) (opening : Opening) where
  abbrev managed : Managed
  managed = beginning.managed

  abbrev site : Site
  site = site_of own beginning opening

  abbrev iface : List Met → Iface
  iface mets = iface_after own beginning opening mets

  same_managed : (mets : List Met) → (iface mets).managed ≡ managed
  same_managed [] = opened_same opening.up opening.at opening.salt beginning
  same_managed (met ∷ mets) = turned_same own met.turn (iface mets) ∙ same_managed mets

  -- where no send of the newest turn failed
  abbrev Clean : List Met → Type 0
  Clean mets = failed_last site (shown opening mets) ≡ false

  -- what it said last
  abbrev said_last : List Met → List Said
  said_last [] = (opens beginning opening).said
  said_last (met ∷ mets) = (iface_turned own met.turn (iface mets)).said

  turned : (mets : List Met) → IsLived own beginning opening mets → Turned site (Clean mets) (iface mets) (said_last mets) (shown opening mets)
  turned [] lived =
      opens_leased own (Clean []) opening.at opening.salt lived.0 opening.offers beginning fits.managed fits.duid (has_text beginning.kept4 fits.kept4 typed)
      (is_up opening.up managed.spec.index.number)
      (offered managed.spec (ask_of beginning.duid managed) (Clean []) (opens beginning opening).said (offers_at site (opening_entry opening)) lived.1 (λ k. k))
  turned (met ∷ mets) lived =
      let before : Leased site (is_in met.turn.unsent (index_of (iface mets)) ≡ false) (iface mets) (shown opening mets) =
      subst (λ (n : ℕ). Leased site (is_in met.turn.unsent n ≡ false) (iface mets) (shown opening mets))
      (ap (λ (m : Managed). m.spec.index.number) (sym (same_managed mets)))
      (subst (λ (b : Bool). Leased site (b ≡ false) (iface mets) (shown opening mets)) (sym lived.2) (turned mets lived.4).leased) in
      turn_leased site fits.managed (Clean (met ∷ mets)) met.turn.salt (entry_of met) lived.0 lived.1 (shown opening mets) met.turn.unsent (iface mets)
      (same_managed mets) before
      (offered managed.spec (ask_of beginning.duid managed) (Clean (met ∷ mets)) (iface_turned own met.turn (iface mets)).said
      (offers_at site (entry_of met)) lived.3 (λ k. k))

-- Each message of DHCPv4 that an interface says is in range: in its opening, and in each turn.
pub opening_said_fits : (own : List Mac) (beginning : Beginning) (opening : Opening) → FitsBeginning beginning → KeepsTyped beginning
    → IsLived own beginning opening [] → AllByRecursion FitsSaid (opens beginning opening).said
opening_said_fits own beginning opening fits typed lived = (turned own beginning fits typed opening [] lived).fit

pub turn_said_fits : (own : List Mac) (beginning : Beginning) (opening : Opening) (met : Met) (mets : List Met) → FitsBeginning beginning → KeepsTyped beginning
    → IsLived own beginning opening (met ∷ mets) → AllByRecursion FitsSaid (iface_turned own met.turn (iface_after own beginning opening mets)).said
turn_said_fits own beginning opening met mets fits typed lived = (turned own beginning fits typed opening (met ∷ mets) lived).fit

-- And each is the client's own.
pub opening_said_own : (own : List Mac) (beginning : Beginning) (opening : Opening) → FitsBeginning beginning → KeepsTyped beginning
    → IsLived own beginning opening [] → AllByRecursion (OwnSaid (speaker_of beginning.managed)) (opens beginning opening).said
opening_said_own own beginning opening fits typed lived = (turned own beginning fits typed opening [] lived).own

pub turn_said_own : (own : List Mac) (beginning : Beginning) (opening : Opening) (met : Met) (mets : List Met) → FitsBeginning beginning → KeepsTyped beginning
    → IsLived own beginning opening (met ∷ mets)
    → AllByRecursion (OwnSaid (speaker_of beginning.managed)) (iface_turned own met.turn (iface_after own beginning opening mets)).said
turn_said_own own beginning opening met mets fits typed lived = (turned own beginning fits typed opening (met ∷ mets) lived).own

pub held_leases_have_basis : HeldLeasesHaveBasis
held_leases_have_basis own beginning opening mets lease fits typed lived held =
    lease_has_basis (site_of own beginning opening) (failed_last (site_of own beginning opening) (shown opening mets) ≡ false)
    (iface_after own beginning opening mets)
    (shown opening mets) lease (turned own beginning fits typed opening mets lived).leased held

-- and the lease is as it was granted, or it is the kept one
pub held_leases_rest : (own : List Mac) (beginning : Beginning) (opening : Opening) (mets : List Met) (lease : LeaseContent) → FitsBeginning beginning
    → KeepsTyped beginning → IsLived own beginning opening mets → held_of (iface_after own beginning opening mets).dhcp4 ≡ Some lease
    → Rests (site_of own beginning opening) lease (shown opening mets)
held_leases_rest own beginning opening mets lease fits typed lived held =
    lease_rests (site_of own beginning opening) (failed_last (site_of own beginning opening) (shown opening mets) ≡ false)
    (iface_after own beginning opening mets)
    (shown opening mets) lease (turned own beginning fits typed opening mets lived).leased held
