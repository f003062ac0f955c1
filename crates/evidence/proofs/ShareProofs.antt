-- What the basis of a share can't do without.
use Rattle.std.proofs.Common.{◌≡◌, ◌≢◌, ℕ, ◌+◌, ◌-◌, List, [], ◌∷◌, map, Option, inl, inr, sym, ap, subst, ◌∙◌, arith}
use Rattle.std.specs.Prelude.{IfSome}
use Rattle.std.specs.List.{AllByRecursion}
use Rattle.machine.specs.Since.{Always}
use Rattle.net_types.specs.declared.address.Net.TheVariants.{V6}
use Rattle.net_types.specs.declared.address.Net6.{Net6}
use Rattle.prefix_share.specs.SubnetLaws.{HasBits}
use Rattle.prefix_share.proofs.SubnetBits.{have_their_bits}
use Rattle.settings.specs.declared.dhcp6_conf.IaConf.{IaConf}
use Rattle.settings.specs.declared.dhcp6_conf.ShareConf.{ShareConf}
use Rattle.settings.specs.Dhcp6Settings.{FitsShareConf}
use Rattle.v6_client.specs.V6Items.declared.asks.IaAsk.{IaAsk}
use Rattle.v6_options.specs.declared.ia.IaKind.{IaKind}
use Rattle.v6_options.specs.declared.ia.IaKind.TheVariants.{Na, Pd}
use Rattle.client_model.specs.ClientSettings6.{ask_for}
use Rattle.client_model.specs.WantedRows.{first_address}
use Rattle.evidence_words.specs.Entries.{Entry}
use Rattle.evidence_words.specs.Inputs.{Site}
use Rattle.evidence_words.specs.IfaceLives.{now_in}
use Rattle.lease6_evidence.specs.Laws6.{Names}
use Rattle.lease6_evidence.specs.HeldItems.{IsPlain6}
use Rattle.lease6_evidence.specs.KeptBasis6.{KeptBasis6}
use Rattle.lease6_evidence.proofs.KeptProofs6.{needs_flag, needs_origin}
use Rattle.lease6_evidence.proofs.LawProofs.{needs_reply}
use Rattle.evidence.specs.ShareNeeds.{NeedsAnotherInterface, NeedsDelegation, NeedsPrefix, NeedsReplyWithIt, NeedsSameIa, NeedsShare, SharesHaveTheirBits, before}
use Rattle.evidence.proofs.Based.{contained}

pub needs_another : NeedsAnotherInterface
needs_another site index net past own basis = basis.is_another own

all_asked : (ias : List IaConf) → AllByRecursion (λ (ia : IaConf). ia.kind ≡ Na) ias → AllByRecursion (λ (ask : IaAsk). ask.kind ≡ Na) (map ask_for ias)
all_asked [] all = tt
all_asked (ia ∷ ias) all = (all.0, all_asked ias all.1)

no_prefix : (kind : IaKind) → kind ≡ Na → kind ≡ Pd → ⊥
no_prefix kind address prefix = cc

pub needs_delegation : NeedsDelegation
needs_delegation site index net past all basis =
    no_prefix basis.ask.kind
    (contained (λ (ask : IaAsk). ask.kind ≡ Na) (map ask_for site.managed.conf.dhcp6.ias) basis.ask (all_asked site.managed.conf.dhcp6.ias all) basis.asked)
    basis.is_prefix

pub needs_prefix : NeedsPrefix
needs_prefix site index net past none basis = none basis.ask basis.prefix basis.asked basis.is_prefix basis.basis

-- where no lease may be held that was kept
plain_keeps_none : (site : Site) (ask : IaAsk) (net : Net6) (now : ℕ) (past : List Entry) → IsPlain6 site → KeptBasis6 site ask net now past → ⊥
plain_keeps_none site ask net now past (inl off) kept = needs_flag site ask net now past off kept
plain_keeps_none site ask net now past (inr none) kept = needs_origin site ask net now past none kept

-- what is named of no prefix isn't named of this one
names_none : (site : Site) (ask : IaAsk) (prefix : Net6) (past : List Entry) → ask.kind ≡ Pd
    → Always (λ e earlier. (other : IaAsk) (net : Net6) → other.kind ≡ Pd → Names site other net e earlier → ⊥) past
    → Always (λ e earlier. Names site ask prefix e earlier → ⊥) past
names_none site ask prefix [] kind none = tt
names_none site ask prefix (e ∷ past) kind none = (none.0 ask prefix kind, names_none site ask prefix past kind none.1)

pub needs_reply_with_it : NeedsReplyWithIt
needs_reply_with_it site index net past plain basis =
    elim basis.basis [
      | inl given ↦ needs_reply site basis.ask basis.prefix (now_in past) past (names_none site basis.ask basis.prefix past basis.is_prefix plain.1) given
      | inr kept ↦ plain_keeps_none site basis.ask basis.prefix (now_in past) past plain.0 kept
    ]

pub needs_share : NeedsShare
needs_share site index net past none basis =
    contained (λ (share : ShareConf). share.outlet.iface ≢ index) site.managed.conf.dhcp6.shares basis.share none basis.configured (sym basis.is_for)

pub needs_same_ia : NeedsSameIa
needs_same_ia site index net past none basis = none basis.share basis.ask basis.configured (sym basis.is_for) basis.asked basis.of_the_prefixes

-- ---- the address

same_address : (address other : Net6) → V6 address ≡ V6 other → address ≡ other
same_address address other same = cc

one_before : (n : ℕ) → n + 1 - 1 ≡ n
one_before n = omega arith

before_first : (subnet : Net6) → before (first_address subnet) ≡ subnet
before_first subnet = ap (λ (n : ℕ). record { ip = record { number = n }; len = subnet.len }) (one_before subnet.ip.number)

pub shares_bits : SharesHaveTheirBits
shares_bits site index address past fits basis =
    let fit : FitsShareConf basis.share = contained FitsShareConf site.managed.conf.dhcp6.shares basis.share fits.dhcp6.shares basis.configured in
    let bits : HasBits basis.prefix basis.share.share basis.subnet =
    subst (λ (o : Option Net6). IfSome o (HasBits basis.prefix basis.share.share)) basis.is_subnet (have_their_bits basis.prefix basis.share.share fit.share) in
    let same : before address ≡ basis.subnet = ap before (same_address address (first_address basis.subnet) basis.gives) ∙ before_first basis.subnet in
    subst (HasBits basis.prefix basis.share.share) (sym same) bits
