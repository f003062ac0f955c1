-- The DHCPv4 leases that files keep.
use Rattle.std.proofs.Common.{ℕ, ◌≡◌, List, Option, Some, None, refl, sym, ap, ◌∙◌}
use Rattle.std.specs.Prelude.{option_and_then}
use Rattle.net_types.specs.declared.fault.BadText.{BadText}
use Rattle.net_types.specs.declared.interface.IfSpec.{IfSpec}
use Rattle.net_types.specs.FirstBadLine.{FirstBad, IsSpelled}
use Rattle.lease_text.specs.Bounds.{FitsLease}
use Rattle.lease_text.specs.Leases.{LeaseContent}
use Rattle.lease_text.specs.LeaseLines.{SpellsLease4}
use Rattle.lease_text.specs.LeaseReading.{AnyCause}
use Rattle.lease_text.proofs.SpelledOnce.{no_bad_line}
use Rattle.client_model.specs.KeptLeases.{IsReading, lease_spelled, own_lease}

-- ---- the lease that a text spells

pub spelled_some : (text : List ℕ) (lease : LeaseContent) → ((t : List ℕ) (l : LeaseContent) → IsReading t l) → IsSpelled SpellsLease4 text lease
    → Some lease ≡ lease_spelled text
spelled_some text lease readings spelled = sym ((readings text lease).whole spelled)

none_of : (found : Option LeaseContent) → ((lease : LeaseContent) → found ≡ Some lease → ⊥) → None ≡ found
none_of None nothing = refl
none_of (Some lease) nothing = absurd (nothing lease refl)

pub spelled_none : (text : List ℕ) (number : ℕ) (cause : BadText) → ((t : List ℕ) (l : LeaseContent) → IsReading t l)
    → FirstBad SpellsLease4 AnyCause text number cause → None ≡ lease_spelled text
spelled_none text number cause readings bad =
    none_of (lease_spelled text) (λ lease is. no_bad_line text lease number cause ((readings text lease).sound is) bad)

pub spelled_fits : (text : List ℕ) (lease : LeaseContent) → IsSpelled SpellsLease4 text lease → FitsLease lease
spelled_fits text lease spelled = spelled.spells.1.fits

-- ---- the lease that a text keeps for an interface

pub none_kept : (spec : IfSpec) (text : List ℕ) (lease : Option LeaseContent) → lease ≡ lease_spelled text → lease ≡ None
    → None ≡ option_and_then (own_lease spec) (lease_spelled text)
none_kept spec text lease is none = ap (option_and_then (own_lease spec)) (sym none ∙ is)

pub one_kept : (spec : IfSpec) (text : List ℕ) (lease : Option LeaseContent) (one : LeaseContent) (kept : Option LeaseContent) → lease ≡ lease_spelled text
    → lease ≡ Some one → kept ≡ own_lease spec one
    → kept ≡ option_and_then (own_lease spec) (lease_spelled text)
one_kept spec text lease one kept is some kept_is = kept_is ∙ ap (option_and_then (own_lease spec)) (sym some ∙ is)
