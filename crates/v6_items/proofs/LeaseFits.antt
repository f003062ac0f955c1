-- The lease that a Reply grants is within the bounds of its text.
use Rattle.std.proofs.Common.{◌≡◌, ℕ, ◌+◌, ◌<◌, ◌^◌, true, List, ◌++◌, Option, Some, None, IfSome, option_map, unwrap_or, refl, arith, lit<}
use Rattle.std.specs.List.{AllByRecursion}
use Rattle.net_types.specs.Moments.{IsMoment}
use Rattle.net_types.proofs.AllLaws.{all_join, all_map}
use Rattle.net_types.proofs.CaseLaws.{split}
use Rattle.v6_options.specs.declared.code.TheConstants.{DNS_SERVERS, DOMAIN_LIST}
use Rattle.lease6_text.specs.LeaseText.Bounds.{IsRising}
use Rattle.lease6_text.specs.LeaseText.Leases.{ValueContent}
use Rattle.lease6_text.specs.Bounds.{FitsIa, FitsIas, FitsItem, FitsLease6, FitsMoment, FitsValue6, FitsValues6}
use Rattle.lease6_text.specs.Leases.{Lease6Content}
use Rattle.lease6_text.specs.ValueForms.{is_kept6, is_well_formed6}
use Rattle.v6_items.specs.declared.renewing.Spans6.{Spans6}
use Rattle.v6_items.specs.declared.asks.IaAsk.{IaAsk}
use Rattle.v6_items.specs.Bounds.{FitsAsks, ask_key}
use Rattle.v6_items.specs.Items.{asked_at, ias_of}
use Rattle.v6_items.specs.Reading.{ia_for, saids_of}
use Rattle.v6_items.specs.Renewing.{AreShort, raised}
use Rattle.v6_items.specs.Taking.{Meeting, ia_granted, ias_granted, item_from, t1_granted, t1_of, t2_granted, t2_of, taken_by, value_granted}
use Rattle.v6_items.specs.Times.{earlier}
use Rattle.v6_items.proofs.FitsLists.{IsPiece, pieces_fit, with_is_piece}
use Rattle.v6_items.proofs.TakenFits.{had_fit, ia_fits}

-- ---- IAs

had_ias : (kept : Option Lease6Content) → IfSome kept FitsLease6 → AllByRecursion FitsIa (ias_of kept)
had_ias None fits = tt
had_ias (Some lease) fits = fits.ias.each

granted_piece : (m : Meeting) (ask : IaAsk) → IfSome m.kept FitsLease6
    → AllByRecursion (λ said. FitsItem ask.kind (item_from m.at said)) (saids_of (ia_for ask m.ias)) → IsPiece ask_key (ia_granted m) ask
granted_piece m ask kept saids =
    with_is_piece ask_key (ia_granted m) ask (taken_by m ask).items
    (ia_fits ask.kind m.at m.scope (ia_for ask m.ias) (asked_at ask (ias_of m.kept))
    (had_fit ask.kind ask.iaid (ias_of m.kept) (had_ias m.kept kept)) saids) refl

pub ias_fit : (m : Meeting) (asks : List IaAsk) → FitsAsks asks → IfSome m.kept FitsLease6
    → AllByRecursion (λ (ask : IaAsk). AllByRecursion (λ said. FitsItem ask.kind (item_from m.at said)) (saids_of (ia_for ask m.ias))) asks
    → FitsIas (ias_granted m asks)
ias_fit m asks fits kept saids =
    pieces_fit ask_key (ia_granted m) asks fits.few fits.unlike
    (all_map (λ (ask : IaAsk). AllByRecursion (λ said. FitsItem ask.kind (item_from m.at said)) (saids_of (ia_for ask m.ias)))
    (IsPiece ask_key (ia_granted m)) (λ ask all. granted_piece m ask kept all) asks saids)

-- ---- T1 and T2

later : (at : ℕ) (span : Option ℕ) → IsMoment at → unwrap_or span 0 < 10 ^ 13 → FitsMoment (option_map (λ time. at + time) (raised span))
later at None early short = tt
later at (Some time) early short = omega arith

earlier_fits : (at : ℕ) (one other : Option ℕ) → IsMoment at → unwrap_or one 0 < 10 ^ 13 → unwrap_or other 0 < 10 ^ 13
    → FitsMoment (option_map (λ time. at + time) (earlier (raised one) (raised other)))
earlier_fits at None other early one_short short = later at other early short
earlier_fits at (Some time) None early short other_short = omega arith
earlier_fits at (Some time) (Some other) early short other_short = omega arith

pub t1_fits : (m : Meeting) (spans : Option Spans6) → IsMoment m.at → IfSome spans AreShort → IfSome m.kept FitsLease6
    → FitsMoment (t1_granted m spans)
t1_fits m (Some spans) early short kept = earlier_fits m.at spans.t1 spans.t2 early short.t1 short.t2
t1_fits m None early short kept = of_kept m.kept kept
  where
    of_kept : (kept : Option Lease6Content) → IfSome kept FitsLease6 → FitsMoment (t1_of kept)
    of_kept None fits = tt
    of_kept (Some lease) fits = fits.t1

pub t2_fits : (m : Meeting) (spans : Option Spans6) → IsMoment m.at → IfSome spans AreShort → IfSome m.kept FitsLease6
    → FitsMoment (t2_granted m spans)
t2_fits m (Some spans) early short kept = later m.at spans.t2 early short.t2
t2_fits m None early short kept = of_kept m.kept kept
  where
    of_kept : (kept : Option Lease6Content) → IfSome kept FitsLease6 → FitsMoment (t2_of kept)
    of_kept None fits = tt
    of_kept (Some lease) fits = fits.t2

-- ---- values

value_fits : (code : ℕ) (bytes : List ℕ) → is_kept6 code ≡ true → AllByRecursion FitsValue6 (value_granted code bytes)
value_fits code bytes kept =
    split (is_well_formed6 code bytes) (λ e. rw e (record { kept = kept; formed = e }, tt)) (λ e. rw e tt)

rises : (before code : ℕ) (bytes : List ℕ) (rest : List ValueContent) → before < code → IsRising code rest → IsRising before rest
    → IsRising before (value_granted code bytes ++ rest)
rises before code bytes rest below above low =
    split (is_well_formed6 code bytes) (λ e. rw e (below, above)) (λ e. rw e low)

alone : (before code : ℕ) (bytes : List ℕ) → before < code → IsRising before (value_granted code bytes)
alone before code bytes below = split (is_well_formed6 code bytes) (λ e. rw e (below, tt)) (λ e. rw e tt)

pub values_fit : (dns search : List ℕ) → FitsValues6 (value_granted DNS_SERVERS dns ++ value_granted DOMAIN_LIST search)
values_fit dns search = record {
  each = all_join FitsValue6 (value_granted DNS_SERVERS dns) (value_granted DOMAIN_LIST search) (value_fits DNS_SERVERS dns refl)
      (value_fits DOMAIN_LIST search refl);
  rising = rises 0 DNS_SERVERS dns (value_granted DOMAIN_LIST search) (lit< tt) (alone DNS_SERVERS DOMAIN_LIST search (lit< tt))
      (alone 0 DOMAIN_LIST search (lit< tt));
}
