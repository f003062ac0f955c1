-- A share is told by the prefixes held.
use Rattle.std.proofs.Common.{◌≡◌, ℕ, ◌⊎◌, inl, inr, Bool, true, false, ◌&&◌, not, List, Option, Some, None, refl, sym, ap, ◌∙◌}
use Rattle.std.proofs.lemmas.Bool.{and_parts, and_from, eqb-true, eq-eqb}
use Rattle.std.specs.Prelude.{◌==◌, ◌≢◌}
use Rattle.std.specs.List.{list_any}
use Rattle.net_types.specs.declared.address.Net.{Net}
use Rattle.net_types.specs.declared.address.Net.TheVariants.{V4, V6}
use Rattle.net_types.specs.declared.address.Net6.{Net6}
use Rattle.net_types.specs.declared.interface.IfIndex.{IfIndex}
use Rattle.prefix_share.specs.Subnets.{subnet_in}
use Rattle.settings.specs.declared.dhcp6_conf.ShareConf.{ShareConf}
use Rattle.evidence.specs.ClientModel.WantedRows.{first_address}
use Rattle.v6_client.specs.V6Items.declared.asks.IaAsk.{IaAsk}
use Rattle.v6_client_laws.proofs.Given.{met}
use Rattle.audit_words.specs.EvidenceWords.Entries.{Entry}
use Rattle.audit_words.specs.EvidenceWords.IfaceLives.{now_in}
use Rattle.audit_words.specs.EvidenceWords.Inputs.{Site}
use Rattle.evidence.specs.ShareBasis.{ShareBasisOf}
use Rattle.kept_judge.proofs.Lists.{has_any}
use Rattle.share_judge.specs.declared.prefix.HeldPrefix.{HeldPrefix}
use Rattle.share_judge.specs.Sharing.{gives_by, gives_first, is_first, is_shared, shares_out}
use Rattle.share_judge.specs.Laws.{Either, IsGiven, ItemKind, Lists, ListsTellShares, SharesAreTold, SharesOfEither}

-- ---- the first address of a subnet

abbrev net_with : (number len : ℕ) → Net
net_with number len = V6 (record { ip = record { number = number }; len = len })

net_of : (a b k l : ℕ) → a ≡ b → k ≡ l → net_with a k ≡ net_with b l
net_of a b k l n m = ap (λ (x : ℕ). net_with x k) n ∙ ap (λ (x : ℕ). net_with b x) m

first_is : (net : Net) (subnet : Net6) → is_first net subnet ≡ true → net ≡ V6 (first_address subnet)
first_is (V4 net) subnet h = absurd cc
first_is (V6 net) subnet h =
    let parts = and_parts (net.ip.number == (first_address subnet).ip.number) (net.len == (first_address subnet).len) h in
    net_of net.ip.number (first_address subnet).ip.number net.len (first_address subnet).len
    (eqb-true net.ip.number (first_address subnet).ip.number parts.0) (eqb-true net.len (first_address subnet).len parts.1)

pub is_first_by : (net : Net) (subnet : Net6) → net ≡ V6 (first_address subnet) → is_first net subnet ≡ true
is_first_by net subnet is =
    ap (λ (n : Net). is_first n subnet) is
    ∙ and_from ((first_address subnet).ip.number == (first_address subnet).ip.number) ((first_address subnet).len == (first_address subnet).len)
    (eq-eqb (first_address subnet).ip.number (first_address subnet).ip.number refl)
    (eq-eqb (first_address subnet).len (first_address subnet).len refl)

record First (net : Net) (found : Option Net6) : Type 0 where
  pub subnet : Net6
  pub is : found ≡ Some subnet
  pub first : net ≡ V6 (first_address subnet)

first_of : (net : Net) (found : Option Net6) → gives_first net found ≡ true → First net found
first_of net None h = absurd cc
first_of net (Some subnet) h = record { subnet = subnet; is = refl; first = first_is net subnet h }

-- ---- interfaces

abbrev index_of : ℕ → IfIndex
index_of number = record { number = number }

same_index : (a b : IfIndex) → (a.number == b.number) ≡ true → a ≡ b
same_index a b h = ap index_of (eqb-true a.number b.number h)

isnt : (b : Bool) → not b ≡ true → b ≡ true → ⊥
isnt true h is = cc
isnt false h is = cc

is_not : (b : Bool) → (b ≡ true → ⊥) → not b ≡ true
is_not true h = absurd (h refl)
is_not false h = refl

another : (a b : IfIndex) → not (a.number == b.number) ≡ true → a ≡ b → ⊥
another a b h is = isnt (a.number == b.number) h (eq-eqb a.number b.number (ap (λ (i : IfIndex). i.number) is))

pub is_another : (a b : IfIndex) → a ≢ b → not (a.number == b.number) ≡ true
is_another a b h = is_not (a.number == b.number) (λ e. h (same_index a b e))

-- ---- shares

module _ (Kind : ItemKind) (upstream : Site) (index : IfIndex) (net : Net) (past : List Entry) where
  abbrev shares : List ShareConf
  shares = upstream.managed.conf.dhcp6.shares

  abbrev is_other : Bool
  is_other = not (index.number == upstream.managed.spec.index.number)

  abbrev for_it : HeldPrefix → ShareConf → Bool
  for_it one share = (share.outlet.iface.number == index.number) && (share.iaid == one.iaid)

  pub based : IsGiven Kind upstream index net past → ShareBasisOf Kind upstream index net past
  based g =
      let parts = and_parts is_other (list_any (gives_by index net g.one) shares) g.shares in
      let share = met (gives_by index net g.one) shares parts.1 in
      let last = and_parts (for_it g.one share.x) (gives_first net (subnet_in g.one.net share.x.share)) share.passes in
      let both = and_parts (share.x.outlet.iface.number == index.number) (share.x.iaid == g.one.iaid) last.0 in
      let first = first_of net (subnet_in g.one.net share.x.share) last.1 in
      record {
        ask = g.held.ask;
        asked = g.held.asked;
        is_prefix = g.held.is_prefix;
        prefix = g.one.net;
        basis = g.held.basis;
        share = share.x;
        configured = share.among;
        of_the_prefixes = eqb-true share.x.iaid g.one.iaid both.1 ∙ g.held.iaid;
        is_for = sym (same_index share.x.outlet.iface index both.0);
        is_another = another index upstream.managed.spec.index parts.0;
        subnet = first.subnet;
        is_subnet = first.is;
        gives = first.first;
      }

  abbrev pub given : ShareBasisOf Kind upstream index net past → IsGiven Kind upstream index net past
  given b = record {
    one = record { iaid = b.ask.iaid; net = b.prefix };
    held = record { ask = b.ask; asked = b.asked; is_prefix = b.is_prefix; iaid = refl; basis = b.basis };
    shares =
        and_from is_other (list_any (gives_by index net (record { iaid = b.ask.iaid; net = b.prefix })) shares)
        (is_another index upstream.managed.spec.index b.is_another)
        (has_any (gives_by index net (record { iaid = b.ask.iaid; net = b.prefix })) shares b.share b.configured
        (and_from (for_it (record { iaid = b.ask.iaid; net = b.prefix }) b.share) (gives_first net (subnet_in b.prefix b.share.share))
        (and_from (b.share.outlet.iface.number == index.number) (b.share.iaid == b.ask.iaid)
        (eq-eqb b.share.outlet.iface.number index.number (ap (λ (i : IfIndex). i.number) (sym b.is_for)))
        (eq-eqb b.share.iaid b.ask.iaid b.of_the_prefixes))
        (ap (gives_first net) b.is_subnet ∙ is_first_by net b.subnet b.gives)));
  }

  module _ (prefixes : List HeldPrefix) (lists : Lists Kind upstream past prefixes) where
    listed : is_shared upstream.managed index net prefixes ≡ true → ShareBasisOf Kind upstream index net past
    listed h =
        let one = met (shares_out upstream.managed index net) prefixes h in
        based (record { one = one.x; held = lists.sound one.x one.among; shares = one.passes })

    is_listed : ShareBasisOf Kind upstream index net past → is_shared upstream.managed index net prefixes ≡ true
    is_listed b =
        let g = given b in
        has_any (shares_out upstream.managed index net) prefixes g.one (lists.whole g.one g.held) g.shares

-- of any kind of basis
pub shares_told : (Kind : ItemKind) → SharesAreTold Kind
shares_told Kind upstream index net past = (based Kind upstream index net past, given Kind upstream index net past)

pub lists_tell : (Kind : ItemKind) → ListsTellShares Kind
lists_tell Kind upstream index net past prefixes lists =
    (listed Kind upstream index net past prefixes lists, is_listed Kind upstream index net past prefixes lists)

-- ---- kinds of basis

module _ (One Other : ItemKind) (upstream : Site) (index : IfIndex) (net : Net) (past : List Entry) where
  abbrev is_held_as : (Kind : ItemKind) (g : IsGiven (Either One Other) upstream index net past)
      → Kind upstream g.held.ask g.one.net (now_in past) past → IsGiven Kind upstream index net past
  is_held_as Kind g basis = record {
    one = g.one;
    held = record { ask = g.held.ask; asked = g.held.asked; is_prefix = g.held.is_prefix; iaid = g.held.iaid; basis = basis };
    shares = g.shares;
  }

  given_by_either : IsGiven (Either One Other) upstream index net past
      → IsGiven One upstream index net past ⊎ IsGiven Other upstream index net past
  given_by_either g = elim g.held.basis [ inl one ↦ inl (is_held_as One g one) | inr other ↦ inr (is_held_as Other g other) ]

  with_basis : (Kind Wider : ItemKind)
      → ((ask : IaAsk) (prefix : Net6) → Kind upstream ask prefix (now_in past) past → Wider upstream ask prefix (now_in past) past)
      → ShareBasisOf Kind upstream index net past → ShareBasisOf Wider upstream index net past
  with_basis Kind Wider wider b = record {
    ask = b.ask;
    asked = b.asked;
    is_prefix = b.is_prefix;
    prefix = b.prefix;
    basis = wider b.ask b.prefix b.basis;
    share = b.share;
    configured = b.configured;
    of_the_prefixes = b.of_the_prefixes;
    is_for = b.is_for;
    is_another = b.is_another;
    subnet = b.subnet;
    is_subnet = b.is_subnet;
    gives = b.gives;
  }

  of_either : ShareBasisOf (Either One Other) upstream index net past
      → ShareBasisOf One upstream index net past ⊎ ShareBasisOf Other upstream index net past
  of_either b = elim (given_by_either (given (Either One Other) upstream index net past b)) [
    | inl one ↦ inl (based One upstream index net past one)
    | inr other ↦ inr (based Other upstream index net past other)
  ]

  either_of : ShareBasisOf One upstream index net past ⊎ ShareBasisOf Other upstream index net past
      → ShareBasisOf (Either One Other) upstream index net past
  either_of (inl one) = with_basis One (Either One Other) (λ ask prefix basis. inl basis) one
  either_of (inr other) = with_basis Other (Either One Other) (λ ask prefix basis. inr basis) other

pub shares_of_either : (One Other : ItemKind) → SharesOfEither One Other
shares_of_either One Other upstream index net past =
    (of_either One Other upstream index net past, either_of One Other upstream index net past)
