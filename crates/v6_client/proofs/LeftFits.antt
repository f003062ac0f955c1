-- Leases that items go from are within the bounds of their text.
use Rattle.std.proofs.Common.{ℕ, List, [], ◌∷◌, Option, Some, None, IfSome, option_map, refl}
use Rattle.std.specs.List.{AllByRecursion}
use Rattle.net_types.proofs.CaseLaws.{gated}
use Rattle.lease6_text.specs.Bounds.{FitsIa, FitsLease6}
use Rattle.lease6_text.specs.Leases.{IaLeaseContent, Lease6Content}
use Rattle.v6_items.specs.declared.asks.IaAsk.{IaAsk}
use Rattle.v6_items.specs.declared.scope.Cause6.{Cause6}
use Rattle.v6_items.specs.declared.scope.Cause6.TheVariants.{Lapse}
use Rattle.v6_items.specs.declared.scope.Parting6.{Parting6}
use Rattle.v6_items.specs.Bounds.{FitsAsks, ask_key}
use Rattle.v6_client.specs.Calls.{pruned_lease}
use Rattle.v6_items.specs.Items.{asked_at, pruned_ia, staying, stays_in}
use Rattle.v6_client.specs.Moves.{kept_left, thinned_lease}
use Rattle.v6_items.proofs.FitsLists.{IsPiece, filter_fits, pieces_fit, with_is_piece, without_fits}
use Rattle.v6_items.proofs.TakenFits.{had_fit}

-- ---- steps

pub thinned_fits : (cause : Cause6) (kept : Option Lease6Content) → IfSome kept FitsLease6
    → IfSome (option_map (thinned_lease cause) kept) FitsLease6
thinned_fits cause None fits = tt
thinned_fits cause (Some lease) fits = record {
  origin = fits.origin;
  name = fits.name;
  t1 = fits.t1;
  t2 = fits.t2;
  ias = without_fits cause lease.ias fits.ias;
  values = fits.values;
}

pub left_fits : (cause : Cause6) (parting : Parting6) (kept : Option Lease6Content) → IfSome kept FitsLease6
    → IfSome (kept_left cause parting kept) FitsLease6
left_fits cause parting kept fits =
    gated (λ lease. IfSome lease FitsLease6) parting.stays (option_map (thinned_lease cause) kept) kept (thinned_fits cause kept fits) fits

-- ---- the lease that a client stands on

pruned_piece : (at : ℕ) (ias : List IaLeaseContent) (ask : IaAsk) → AllByRecursion FitsIa ias → IsPiece ask_key (pruned_ia at ias) ask
pruned_piece at ias ask fits =
    with_is_piece ask_key (pruned_ia at ias) ask (staying (Lapse at) ask.kind (asked_at ask ias))
    (filter_fits ask.kind (stays_in (Lapse at) ask.kind) (asked_at ask ias) (had_fit ask.kind ask.iaid ias fits)) refl

pruned_pieces : (at : ℕ) (ias : List IaLeaseContent) (asks : List IaAsk) → AllByRecursion FitsIa ias
    → AllByRecursion (IsPiece ask_key (pruned_ia at ias)) asks
pruned_pieces at ias [] fits = tt
pruned_pieces at ias (ask ∷ asks) fits = (pruned_piece at ias ask fits, pruned_pieces at ias asks fits)

pub pruned_fits : (at : ℕ) (asks : List IaAsk) (kept : Option Lease6Content) → FitsAsks asks → IfSome kept FitsLease6
    → IfSome (option_map (pruned_lease at asks) kept) FitsLease6
pruned_fits at asks None asked fits = tt
pruned_fits at asks (Some lease) asked fits = record {
  origin = fits.origin;
  name = fits.name;
  t1 = fits.t1;
  t2 = fits.t2;
  ias = pieces_fit ask_key (pruned_ia at lease.ias) asks asked.few asked.unlike (pruned_pieces at lease.ias asks fits.ias.each);
  values = fits.values;
}
