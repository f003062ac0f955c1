-- What is found of an address is shown.
use Rattle.std.proofs.Common.{◌≡◌, ◌⊎◌, ℕ, Bool, true, false, inl, inr, if◌then◌else◌, List, Option, Some, None, IfSome, refl, ◌∙◌}
use Rattle.std.specs.Option.{is_some, option_map}
use Rattle.net_types.specs.declared.address.Net.{Net}
use Rattle.net_types.specs.declared.address.Net.TheVariants.{V4, V6}
use Rattle.net_types.specs.declared.address.Net4.{Net4}
use Rattle.net_types.specs.declared.address.Net6.{Net6}
use Rattle.evidence_words.specs.Entries.{Entry}
use Rattle.evidence_words.specs.Inputs.{Site}
use Rattle.static_judge.specs.LeaseEvidence.LeaseBasis.{LeaseBasis}
use Rattle.item_judge.specs.Lease6Judge.HeardBasis.{HeardAddressBasis, HeardItem, Spares}
use Rattle.static_judge.specs.LocalEvidence.LinkLocalBasis.{LinkLocalBasis}
use Rattle.static_judge.proofs.Configured.{bases as static_bases}
use Rattle.static_judge.specs.Judge as statics
use Rattle.basis_turns.specs.BasisFinds.{basis_found, found4, found6, found_by, leased4}
use Rattle.basis_turns.specs.BasisShown.{FoundAreShown, HasOwnBasis, ShownBy, ShownHaveBases}
use Rattle.basis_turns.specs.ItemFinds.{item_found}
use Rattle.basis_turns.specs.ItemShown.{ItemShown}
use Rattle.basis_turns.specs.LeaseFinds.{lease_found}
use Rattle.basis_turns.specs.LeaseShown.{LeaseShown}
use Rattle.basis_turns.specs.LocalFinds.{local_found}
use Rattle.basis_turns.specs.LocalShown.{LocalShown}
use Rattle.basis_turns.specs.declared.items.ItemTurns.{ItemTurns}
use Rattle.basis_turns.specs.declared.leases.LeaseTurns.{LeaseTurns}
use Rattle.basis_turns.specs.declared.probes.ProbedTurns.{ProbedTurns}
use Rattle.basis_turns.specs.declared.walks.Basis.{Basis}
use Rattle.basis_turns.specs.declared.walks.Basis.TheVariants.{Static, Lease4, Lease6, LinkLocal}
use Rattle.basis_turns.proofs.SinceTurns.{since_of}
use Rattle.basis_turns.proofs.ItemsFound as items
use Rattle.basis_turns.proofs.LeasesFound as leases
use Rattle.basis_turns.proofs.LocalsFound as locals

based6 : (turns : ItemTurns) (site : Site) (net : Net) (now : ℕ) (past : List Entry) → ItemShown turns site net now past → HeardAddressBasis site net now past
based6 turns site net now past h = record {
  ask = h.ask;
  asked = h.asked;
  is_address = h.is_address;
  item = h.item;
  is_item = h.is_item;
  basis = record {
    number = h.basis.number;
    since =
        since_of turns.reply (Spares site h.ask h.item h.basis.number) (HeardItem site h.ask h.item h.basis.number now)
        (HeardItem site h.ask h.item h.basis.number now) (λ e earlier k. k) past h.basis.since;
  };
}

pub shown_based : ShownHaveBases
shown_based Static site net now past h = inl h
shown_based (Lease4 turns) site net now past h = inr (inr (inl (leases.shown_based turns site net now past h)))
shown_based (Lease6 turns) site net now past h = inr (inr (inr (based6 turns site net now past h)))
shown_based (LinkLocal turns) site net now past h = inr (inl h.basis)

-- but for a static one
abbrev OtherBasis : Site → Net → (now : ℕ) → List Entry → Type 0
OtherBasis site net now past = LinkLocalBasis site net past ⊎ (LeaseBasis site net now past ⊎ HeardAddressBasis site net now past)

-- ---- IPv4

module _ (site : Site) (net : Net4) (now : ℕ) (past : List Entry) where
  abbrev Shown4 : Basis → Type 0
  Shown4 basis = ShownBy basis site (V4 net) now past

  shown_leased : (lease : Option LeaseTurns) (local : Option ProbedTurns) → IfSome lease (λ turns. LeaseShown turns site (V4 net) now past)
      → IfSome local (λ turns. LocalShown turns site (V4 net) past) → IfSome (leased4 lease local) Shown4
  shown_leased (Some turns) local h k = h
  shown_leased None (Some turns) h k = k
  shown_leased None None h k = tt

  some_lease : (lease : Option LeaseTurns) (local : Option ProbedTurns) → is_some lease ≡ true → is_some (leased4 lease local) ≡ true
  some_lease (Some turns) local h = refl
  some_lease None local h = absurd cc

  some_local : (lease : Option LeaseTurns) (local : Option ProbedTurns) → is_some local ≡ true → is_some (leased4 lease local) ≡ true
  some_local (Some turns) local h = refl
  some_local None (Some turns) h = refl
  some_local None None h = absurd cc

  shown4 : IfSome (found4 site net now past) Shown4
  shown4 =
      shown_leased (lease_found site (V4 net) now past) (local_found site (V4 net) past)
      (leases.found_shown site (V4 net) now past).shown (locals.found_shown site (V4 net) past).shown

  all4 : OtherBasis site (V4 net) now past → is_some (found4 site net now past) ≡ true
  all4 basis =
      let lease = lease_found site (V4 net) now past in
      let local = local_found site (V4 net) past in
      elim basis [
        | inl own ↦ some_local lease local ((locals.found_shown site (V4 net) past).all.1 own)
        | inr leased ↦ elim leased [
          | inl four ↦ some_lease lease local ((leases.found_shown site (V4 net) now past).all.1 four)
          | inr six ↦ absurd (let is : V4 net ≡ V6 six.item = six.is_item in cc)
        ]
      ]

-- ---- IPv6

module _ (site : Site) (net : Net6) (now : ℕ) (past : List Entry) where
  abbrev Shown6 : Basis → Type 0
  Shown6 basis = ShownBy basis site (V6 net) now past

  shown_item : (k : Option ItemTurns) → IfSome k (λ turns. ItemShown turns site (V6 net) now past) → IfSome (option_map Lease6 k) Shown6
  shown_item None h = tt
  shown_item (Some turns) h = h

  some_item : (k : Option ItemTurns) → is_some (option_map Lease6 k) ≡ is_some k
  some_item None = refl
  some_item (Some turns) = refl

  shown6 : IfSome (found6 site net now past) Shown6
  shown6 = shown_item (item_found site net now past) (items.found_shown site net now past).shown

  all6 : OtherBasis site (V6 net) now past → is_some (found6 site net now past) ≡ true
  all6 basis = elim basis [
    | inl own ↦ absurd (locals.not_six site net past own)
    | inr leased ↦ elim leased [
      | inl four ↦ absurd (let is : V6 net ≡ V4 four.terms.net = four.gives in cc)
      | inr six ↦ some_item (item_found site net now past) ∙ (items.found_shown site net now past).all.1 six
    ]
  ]

-- ---- together

module _ (site : Site) (now : ℕ) (past : List Entry) where
  abbrev Shown : Net → Basis → Type 0
  Shown net basis = ShownBy basis site net now past

  shown_by : (net : Net) → IfSome (found_by site net now past) (Shown net)
  shown_by (V4 net) = shown4 site net now past
  shown_by (V6 net) = shown6 site net now past

  all_by : (net : Net) → OtherBasis site net now past → is_some (found_by site net now past) ≡ true
  all_by (V4 net) basis = all4 site net now past basis
  all_by (V6 net) basis = all6 site net now past basis

  module _ (net : Net) where
    shown_if : (b : Bool) → statics.gives_in site net past ≡ b → IfSome (if b then Some Static else found_by site net now past) (Shown net)
    shown_if true h = (static_bases site net past).0 h
    shown_if false h = shown_by net

    all_if : (b : Bool) → statics.gives_in site net past ≡ b → HasOwnBasis site net now past
        → is_some (if b then Some Static else found_by site net now past) ≡ true
    all_if true h basis = refl
    all_if false h basis = elim basis [
      | inl static ↦ absurd (let on : statics.gives_in site net past ≡ true = (static_bases site net past).1 static in cc)
      | inr other ↦ all_by net other
    ]

    some_based : (found : Option Basis) → IfSome found (Shown net) → is_some found ≡ true → HasOwnBasis site net now past
    some_based None h is = absurd cc
    some_based (Some basis) h is = shown_based basis site net now past h

pub found_shown : FoundAreShown
found_shown site net now past =
    let shown = shown_if site now past net (statics.gives_in site net past) refl in
    record {
      shown = shown;
      all = (
        λ h. some_based site now past net (basis_found site net now past) shown h,
        λ basis. all_if site now past net (statics.gives_in site net past) refl basis,
      );
    }
