-- The DHCPv6 leases that files keep.
use Rattle.std.proofs.Common.{ℕ, ◌≡◌, List, Option, Some, None, refl, sym, ap, ◌∙◌}
use Rattle.std.specs.Prelude.{option_and_then}
use Rattle.net_types.specs.declared.fault.BadText.{BadText}
use Rattle.net_types.specs.declared.interface.IfSpec.{IfSpec}
use Rattle.net_types.specs.FirstBadLine.{FirstBad, IsSpelled}
use Rattle.lease6_text.specs.Bounds.{HasText6}
use Rattle.lease6_text.specs.Leases.{Lease6Content}
use Rattle.lease6_text.specs.LeaseLines.{SpellsLease6}
use Rattle.lease6_text.specs.LinesRead.{AnyCause}
use Rattle.lease_text.proofs.SpelledOnce.{no_bad_line}
use Rattle.client_model.specs.KeptLeases6.{IsReading6, lease6_spelled, own_lease6}

-- ---- the lease that a text spells

pub spelled_some6 : (text : List ℕ) (lease : Lease6Content) → ((t : List ℕ) (l : Lease6Content) → IsReading6 t l) → IsSpelled SpellsLease6 text lease
    → Some lease ≡ lease6_spelled text
spelled_some6 text lease readings spelled = sym ((readings text lease).whole spelled)

none_of6 : (found : Option Lease6Content) → ((lease : Lease6Content) → found ≡ Some lease → ⊥) → None ≡ found
none_of6 None nothing = refl
none_of6 (Some lease) nothing = absurd (nothing lease refl)

pub spelled_none6 : (text : List ℕ) (number : ℕ) (cause : BadText) → ((t : List ℕ) (l : Lease6Content) → IsReading6 t l)
    → FirstBad SpellsLease6 AnyCause text number cause → None ≡ lease6_spelled text
spelled_none6 text number cause readings bad =
    none_of6 (lease6_spelled text) (λ lease is. no_bad_line text lease number cause ((readings text lease).sound is) bad)

pub spelled_fits6 : (text : List ℕ) (lease : Lease6Content) → IsSpelled SpellsLease6 text lease → HasText6 lease
spelled_fits6 text lease spelled = spelled.spells.1

-- ---- the lease that a text keeps for an interface

pub none_kept6 : (spec : IfSpec) (text : List ℕ) (lease : Option Lease6Content) → lease ≡ lease6_spelled text → lease ≡ None
    → None ≡ option_and_then (own_lease6 spec) (lease6_spelled text)
none_kept6 spec text lease is none = ap (option_and_then (own_lease6 spec)) (sym none ∙ is)

pub one_kept6 : (spec : IfSpec) (text : List ℕ) (lease : Option Lease6Content) (one : Lease6Content) (kept : Option Lease6Content) → lease ≡ lease6_spelled text
    → lease ≡ Some one → kept ≡ own_lease6 spec one
    → kept ≡ option_and_then (own_lease6 spec) (lease6_spelled text)
one_kept6 spec text lease one kept is some kept_is = kept_is ∙ ap (option_and_then (own_lease6 spec)) (sym some ∙ is)
