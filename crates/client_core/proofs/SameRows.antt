-- Where nothing is new of an interface, its rows are as before, and what it tells the resolver; where it didn't lose a kept lease of
-- DHCPv4 either, its kept leases.
use Rattle.std.proofs.Common.{◌≡◌, ◌+◌, ◌≤◌, ℕ, true, false, ◌&&◌, not, Option, Some, None, List, [], ◌∷◌, ◌++◌, length, refl, sym, ap, subst, ◌∙◌, arith, length-append}
use Rattle.std.specs.Option.{is_some}
use Rattle.net_types.specs.declared.address.Mac.{Mac}
use Rattle.client_model.specs.declared.interfaces.Iface.{Iface}
use Rattle.client_model.specs.IfaceSteps.{news_of}
use Rattle.client_model.specs.IfaceTurns.{Turn, iface_turned}
use Rattle.client_model.proofs.QuietKept.{keeps_in_quiet}
use Rattle.client_model.proofs.SameInterfaces.{turned_same}
use Rattle.iface_core.specs.Outcomes.{Asked, Goes}
use Rattle.client_core.specs.Touched.{KeepsLeases, KeepsShown}
use Rattle.client_core.proofs.ToldLaws.{told_stays}

none_more : {X : Type 0} (before more : List X) → length (before ++ more) ≤ length before → more ≡ []
none_more before [] few = refl
none_more before (x ∷ more) few =
    let sum : length (before ++ x ∷ more) ≡ length before + length (x ∷ more) = length-append before (x ∷ more) in absurd (omega arith)

-- no lease is kept any more, or a lease that is kept is the one of before
all_kept : {X : Type 0} (old new : Option X) → (is_some old && not (is_some new)) ≡ false → (is_some new ≡ true → new ≡ old) → new ≡ old
all_kept None None stays same = refl
all_kept (Some x) None stays same = absurd cc
all_kept old (Some y) stays same = same refl

pub no_more : (told counted before after : ℕ) → told ≡ before → counted ≡ after → counted ≤ told → after ≤ before
no_more told counted before after e f few = omega (arith, e, f, few)

module _ (own : List Mac) (turn : Turn) (iface new : Iface) (before after : Asked) (goes : Goes (iface_turned own turn iface) new before after) where
  no_news : length after.news ≤ length before.news → news_of (iface_turned own turn iface) ≡ []
  no_news few =
      let sum : length after.news ≡ length (before.news ++ news_of (iface_turned own turn iface)) = ap length goes.tells in
      none_more before.news (news_of (iface_turned own turn iface)) (omega arith)

  pub keeps_shown : length after.news ≤ length before.news → KeepsShown iface new
  keeps_shown few =
      let same : KeepsShown iface (iface_turned own turn iface).iface = record {
        rows = (keeps_in_quiet own turn iface).rows (no_news few);
        told = told_stays iface (iface_turned own turn iface).iface (turned_same own turn iface) ((keeps_in_quiet own turn iface).parts (no_news few));
      } in
      subst (λ (one : Iface). KeepsShown iface one) (sym goes.goes_on) same

  pub keeps_leases : length after.news ≤ length before.news → (is_some iface.dhcp4.kept && not (is_some new.dhcp4.kept)) ≡ false → KeepsLeases iface new
  keeps_leases few stays = record {
    kept4 = all_kept iface.dhcp4.kept new.dhcp4.kept stays
        (λ some. ap (λ (i : Iface). i.dhcp4.kept) goes.goes_on
        ∙ (keeps_in_quiet own turn iface).same4 (no_news few) (ap (λ (i : Iface). is_some i.dhcp4.kept) (sym goes.goes_on) ∙ some));
    kept6 = ap (λ (i : Iface). i.dhcp6.kept) goes.goes_on ∙ (keeps_in_quiet own turn iface).kept6 (no_news few);
  }
