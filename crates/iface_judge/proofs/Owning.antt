-- The judges of an interface tell each kind of basis.
use Rattle.std.proofs.Common.{◌≡◌, inl, inr, Bool, true, ◌||◌, List}
use Rattle.std.proofs.lemmas.Bool.{or_cases, or_left, or_right}
use Rattle.net_types.specs.declared.address.Net.{Net}
use Rattle.evidence_words.specs.Entries.{Entry}
use Rattle.evidence_words.specs.IfaceLives.{now_in}
use Rattle.evidence_words.specs.Inputs.{Site}
use Rattle.share_judge.specs.Evidence.Laws.{BasisWith}
use Rattle.static_judge.specs.Judge as statics
use Rattle.static_judge.proofs.Configured as of_statics
use Rattle.lease_judge.specs.LocalJudges.Judge as local
use Rattle.lease_judge.proofs.LocalJudges.Telling as of_local
use Rattle.lease_judge.specs.Leased.{is_leased}
use Rattle.lease_judge.proofs.LeasesTold.{leases_judged}
use Rattle.item_judge.specs.Judging.{is_given}
use Rattle.item_judge.proofs.Giving.{addresses_given}
use Rattle.share_judge.specs.KeptJudge.Asking4.{is_kept4}
use Rattle.share_judge.specs.KeptJudge.Asking6.{is_kept_address6}
use Rattle.share_judge.proofs.KeptJudge.Judged4.{addresses_judged4}
use Rattle.share_judge.proofs.KeptJudge.Judged6.{addresses_judged6}
use Rattle.iface_judge.specs.Joined.{is_granted, is_kept, is_own}
use Rattle.iface_judge.specs.Laws.{HeardAddress, OwnAddressesAreTold}

module _ (site : Site) (net : Net) (past : List Entry) where
  abbrev is_static : Bool
  is_static = statics.gives_in site net past

  abbrev is_local : Bool
  is_local = local.gives_in site net past

  abbrev leased : Bool
  leased = is_leased site net (now_in past) past

  abbrev given : Bool
  given = is_given site net (now_in past) past

  abbrev kept4 : Bool
  kept4 = is_kept4 site net (now_in past) past

  abbrev kept6 : Bool
  kept6 = is_kept_address6 site net (now_in past) past

  abbrev granted : Bool
  granted = is_granted site net past

  abbrev kept : Bool
  kept = is_kept site net past

  abbrev Based : Type 0
  Based = BasisWith HeardAddress site net past

  by_own : (is_static || is_local) ≡ true → Based
  by_own h = elim (or_cases is_static is_local h) [
    | inl s ↦ inl ((of_statics.bases site net past).0 s)
    | inr l ↦ inr (inl ((of_local.bases site net past).0 l))
  ]

  by_grant : granted ≡ true → Based
  by_grant h = elim (or_cases leased given h) [
    | inl l ↦ inr (inr (inl ((leases_judged site net (now_in past) past).0 l)))
    | inr g ↦ inr (inr (inr (inl ((addresses_given site net (now_in past) past).0 g))))
  ]

  by_kept : kept ≡ true → Based
  by_kept h = elim (or_cases kept4 kept6 h) [
    | inl l ↦ inr (inr (inr (inr (inl ((addresses_judged4 site net (now_in past) past).0 l)))))
    | inr g ↦ inr (inr (inr (inr (inr ((addresses_judged6 site net (now_in past) past).0 g)))))
  ]

  by_lease : (granted || kept) ≡ true → Based
  by_lease h = elim (or_cases granted kept h) [
    | inl g ↦ by_grant g
    | inr k ↦ by_kept k
  ]

  is_based : is_own site net past ≡ true → Based
  is_based h = elim (or_cases (is_static || is_local) (granted || kept) h) [
    | inl own ↦ by_own own
    | inr lease ↦ by_lease lease
  ]

  first : (is_static || is_local) ≡ true → is_own site net past ≡ true
  first h = or_left (is_static || is_local) (granted || kept) h

  by_granted : granted ≡ true → is_own site net past ≡ true
  by_granted h = or_right (is_static || is_local) (granted || kept) (or_left granted kept h)

  by_keeping : kept ≡ true → is_own site net past ≡ true
  by_keeping h = or_right (is_static || is_local) (granted || kept) (or_right granted kept h)

  is_told : Based → is_own site net past ≡ true
  is_told (inl s) = first (or_left is_static is_local ((of_statics.bases site net past).1 s))
  is_told (inr (inl l)) = first (or_right is_static is_local ((of_local.bases site net past).1 l))
  is_told (inr (inr (inl l))) = by_granted (or_left leased given ((leases_judged site net (now_in past) past).1 l))
  is_told (inr (inr (inr (inl g)))) = by_granted (or_right leased given ((addresses_given site net (now_in past) past).1 g))
  is_told (inr (inr (inr (inr (inl k))))) = by_keeping (or_left kept4 kept6 ((addresses_judged4 site net (now_in past) past).1 k))
  is_told (inr (inr (inr (inr (inr k))))) = by_keeping (or_right kept4 kept6 ((addresses_judged6 site net (now_in past) past).1 k))

pub own_told : OwnAddressesAreTold
own_told site net past = (is_based site net past, is_told site net past)
