-- What an interface's DHCPv6 client asks for, and the lease that was kept for it, are within the client's bounds.
use Rattle.std.specs.Prelude.{IfSome}
use Rattle.std.proofs.Common.{Option, Some, None, ℕ, ◌≡◌, ◌≤◌, ◌<◌, List, map, get_or, sym, ap, subst, ◌∙◌}
use Rattle.std.proofs.Math.ListN.{get_or-map}
use Rattle.std.proofs.lemmas.List.{length-map}
use Rattle.lease6_text.specs.Bounds.{FitsLease6, HasText6}
use Rattle.lease6_text.specs.Leases.{Lease6Content}
use Rattle.settings.specs.declared.dhcp6_conf.IaConf.{IaConf}
use Rattle.settings.specs.Dhcp6Settings.{Dhcp6Settings, FitsDhcp6}
use Rattle.v6_items.specs.declared.asks.IaAsk.{IaAsk}
use Rattle.v6_items.specs.Bounds.{FitsAsks, ask_key}
use Rattle.client_model.specs.ClientSettings6.{ask_for}

abbrev conf_for : IaAsk → IaConf
conf_for ask = record { kind = ask.kind; iaid = ask.iaid; hint = ask.hint }

asked_at : (ias : List IaConf) (place : ℕ) (d : IaAsk) → get_or (map ask_for ias) place d ≡ ask_for (get_or ias place (conf_for d))
asked_at ias place d = get_or-map ask_for ias place (conf_for d)

pub asks_fit : (settings : Dhcp6Settings) → FitsDhcp6 settings → FitsAsks (map ask_for settings.ias)
asks_fit settings fits = record {
  few = subst (λ (n : ℕ). n ≤ 6) (sym (length-map settings.ias ask_for)) fits.few;
  unlike = λ one other d before within same.
      fits.unlike one other (conf_for d) before (subst (λ (n : ℕ). other < n) (length-map settings.ias ask_for) within)
      (sym (ap ask_key (asked_at settings.ias one d)) ∙ same ∙ ap ask_key (asked_at settings.ias other d));
}

pub kept6_fits : (kept : Option Lease6Content) → IfSome kept HasText6 → IfSome kept FitsLease6
kept6_fits None has = tt
kept6_fits (Some lease) has = has.fits
