-- The laws on static addresses, and on addresses of IPv4 of any kind.
use Rattle.std.proofs.Common.{◌≡◌, ◌≢◌, ℕ, ◌≤◌, ◌<◌, ◌||◌, inl, inr, Bool, true, false, List, [], ◌∷◌, ◌++◌, Some, refl, sym, ap, subst, ◌∙◌, arith}
use Rattle.std.proofs.lemmas.Bool.{eqb-true, eq-eqb}
use Rattle.std.specs.List.{AllByRecursion}
use Rattle.std.specs.Prelude.{◌==◌, if◌then◌else◌}
use Rattle.net_types.proofs.CaseLaws.{split}
use Rattle.net_types.specs.declared.address.Net.TheVariants.{V4, V6}
use Rattle.net_types.specs.declared.address.Net4.{Net4}
use Rattle.net_types.specs.declared.address.Net6.{Net6}
use Rattle.world.specs.declared.wakes.Event.{Event}
use Rattle.world.specs.declared.wakes.Event.TheVariants.{Frame, Carrier, Duplicate, Release, Rebind, Stop, Quiet, End}
use Rattle.client_model.specs.WantedRows.{local_net}
use Rattle.evidence_words.specs.Entries.{Entry}
use Rattle.evidence_words.specs.Inputs.{Site, index_at, has_carrier, carrier_after, is_stop, is_stopped, StaysOn}
use Rattle.evidence_words.specs.IfaceLives.{now_in}
use Rattle.evidence_words.specs.Probed.{probes_taken}
use Rattle.local_evidence.specs.LinkLocalBasis.{Anything, LinkLocalBasis}
use Rattle.lease6_evidence.specs.LeaseEvidence.Endings.{LosesCarrier}
use Rattle.lease6_evidence.proofs.LeaseEvidence.KeptNeedsProofs.{kept_ends_by_loss, kept_ends_by_stop}
use Rattle.lease6_evidence.proofs.LeaseEvidence.EndingProofs.{lost_goes, stop_goes, ends_by_loss, ends_by_stop}
use Rattle.lease6_evidence.proofs.LeaseEvidence.ProbeCounts.{fourth_since, three_since}
use Rattle.evidence.specs.Endings.{TellsNoCarrier, StaticNeedsCarrier, StaticWaitsForCarrier, StaticEndsWithStop, StaticIsConfigured, EndsWithCarrier, EndsWithStop}

-- ---- static addresses

differ : (b : Bool) → b ≡ true → b ≡ false → ⊥
differ true t f = absurd cc
differ false t f = absurd cc

same_index : (i : ℕ) → (i == i) ≡ true
same_index i = eq-eqb i i refl

-- what a turn that tells nothing of the carrier leaves
untold : (site : Site) (before : Bool) (event : Event) → ((up : Bool) → event ≢ Carrier (index_at site) up)
    → carrier_after (index_at site) event before ≡ before
untold site before (Carrier other up) lacks =
    split (index_at site == other) (λ same. absurd (lacks up (ap (λ (i : ℕ). Carrier i up) (sym (eqb-true (index_at site) other same)))))
    (λ unlike. rw unlike refl)
untold site before (Frame other len) lacks = refl
untold site before (Duplicate other addr) lacks = refl
untold site before (Release other) lacks = refl
untold site before (Rebind other) lacks = refl
untold site before Stop lacks = refl
untold site before Quiet lacks = refl
untold site before End lacks = refl

still : (site : Site) (later rest : List Entry) → AllByRecursion (TellsNoCarrier site) later → has_carrier site (later ++ rest) ≡ has_carrier site rest
still site [] rest lacks = refl
still site (e ∷ later) rest lacks = untold site (has_carrier site (later ++ rest)) e.event lacks.0 ∙ still site later rest lacks.1

-- after the turn in which the carrier went
gone : (site : Site) (e : Entry) (earlier : List Entry) → e.event ≡ Carrier (index_at site) false → has_carrier site (e ∷ earlier) ≡ false
gone site e earlier is = ap (λ (event : Event). carrier_after (index_at site) event (has_carrier site earlier)) is ∙ here
  where
    here : (if index_at site == index_at site then false else has_carrier site earlier) ≡ false
    here = rw (same_index (index_at site)) refl

pub static_needs_carrier : StaticNeedsCarrier
static_needs_carrier site net later e earlier is lacks basis =
    differ (has_carrier site (later ++ e ∷ earlier)) basis.up (still site later (e ∷ earlier) lacks ∙ gone site e earlier is)

pub static_waits_for_carrier : StaticWaitsForCarrier
static_waits_for_carrier site net past down lacks basis = differ (has_carrier site past) basis.up (without past lacks)
  where
    without : (past : List Entry) → AllByRecursion (TellsNoCarrier site) past → has_carrier site past ≡ false
    without [] lacks = down
    without (e ∷ past) lacks = untold site (has_carrier site past) e.event lacks.0 ∙ without past lacks.1

stopped_in : (later : List Entry) (e : Entry) (earlier : List Entry) → e.event ≡ Stop → is_stopped (later ++ e ∷ earlier) ≡ true
stopped_in [] e earlier is = ap (λ (event : Event). is_stop event || is_stopped earlier) is
stopped_in (x ∷ later) e earlier is = ap (λ b. is_stop x.event || b) (stopped_in later e earlier is) ∙ or_true (is_stop x.event)
  where
    or_true : (b : Bool) → (b || true) ≡ true
    or_true true = refl
    or_true false = refl

pub static_ends_with_stop : StaticEndsWithStop
static_ends_with_stop site net later e earlier is basis =
    differ (is_stopped (later ++ e ∷ earlier)) (stopped_in later e earlier is) basis.running

pub static_is_configured : StaticIsConfigured
static_is_configured = record {
  four = λ site address past other basis. elim basis.is_static [
    | inl four ↦ other (four.configured ∙ ap (λ (a : Net4). Some a) (sym (one_net4 address four.address four.gives)))
    | inr six ↦ unlike46 address six.address six.gives
  ];
  six = λ site address past other basis. elim basis.is_static [
    | inl four ↦ unlike64 address four.address four.gives
    | inr six ↦ other (six.configured ∙ ap (λ (a : Net6). Some a) (sym (one_net6 address six.address six.gives)))
  ];
}
  where
    one_net4 : (a b : Net4) → V4 a ≡ V4 b → a ≡ b
    one_net4 a b h = cc

    one_net6 : (a b : Net6) → V6 a ≡ V6 b → a ≡ b
    one_net6 a b h = cc

    unlike46 : (a : Net4) (b : Net6) → V4 a ≡ V6 b → ⊥
    unlike46 a b h = cc

    unlike64 : (a : Net6) (b : Net4) → V6 a ≡ V4 b → ⊥
    unlike64 a b h = cc

-- ---- of any kind

local_ends : (site : Site) (addr : Net4) (later : List Entry) (e : Entry) (earlier : List Entry) → (StaysOn site e earlier → ⊥)
    → probes_taken site addr.ip (later ++ e ∷ []) < 3 → LinkLocalBasis site (V4 addr) (later ++ e ∷ earlier) → ⊥
local_ends site addr later e earlier bad few basis =
    let same : addr ≡ local_net basis.addr = one_net addr (local_net basis.addr) basis.gives in
    let few_there : probes_taken site basis.addr (later ++ e ∷ []) < 3 = subst (λ (n : Net4). probes_taken site n.ip (later ++ e ∷ []) < 3) same few in
    let most : 3 ≤ probes_taken site basis.addr (later ++ e ∷ []) =
    three_since (StaysOn site) Anything site basis.addr later e earlier bad
    (fourth_since (StaysOn site) Anything site basis.addr (later ++ e ∷ earlier) basis.probed) in
    omega (arith, most, few_there)
  where
    one_net : (a b : Net4) → V4 a ≡ V4 b → a ≡ b
    one_net a b h = cc

not_six : (a : Net4) (b : Net6) → V4 a ≡ V6 b → ⊥
not_six a b h = cc

pub ends_with_carrier : EndsWithCarrier
ends_with_carrier site addr later e earlier had is lacks no_more few basis =
    let loses : LosesCarrier site e earlier = record { had = had; lost = gone site e earlier is } in
    elim basis [
      | inl static ↦ static_needs_carrier site (V4 addr) later e earlier is lacks static
      | inr other ↦ elim other [
        | inl local ↦ local_ends site addr later e earlier (lost_goes site e earlier loses) few local
        | inr leased ↦ elim leased [
          | inl lease ↦ ends_by_loss site (V4 addr) (now_in (later ++ e ∷ earlier)) later e earlier loses no_more lease
          | inr other6 ↦ elim other6 [
            | inl six ↦ not_six addr six.item six.is_item
            | inr kept ↦ elim kept [
              | inl four ↦ kept_ends_by_loss site (V4 addr) (now_in (later ++ e ∷ earlier)) later e earlier loses four
              | inr six ↦ not_six addr six.item six.is_item
            ]
          ]
        ]
      ]
    ]

pub ends_with_stop : EndsWithStop
ends_with_stop site addr later e earlier is no_more few basis = elim basis [
  | inl static ↦ static_ends_with_stop site (V4 addr) later e earlier is static
  | inr other ↦ elim other [
    | inl local ↦ local_ends site addr later e earlier (stop_goes site e earlier is) few local
    | inr leased ↦ elim leased [
      | inl lease ↦ ends_by_stop site (V4 addr) (now_in (later ++ e ∷ earlier)) later e earlier is no_more lease
      | inr other6 ↦ elim other6 [
        | inl six ↦ not_six addr six.item six.is_item
        | inr kept ↦ elim kept [
          | inl four ↦ kept_ends_by_stop site (V4 addr) (now_in (later ++ e ∷ earlier)) later e earlier is four
          | inr six ↦ not_six addr six.item six.is_item
        ]
      ]
    ]
  ]
]
