-- An address is told to be one out of a prefix that the Replies gave.
use Rattle.std.proofs.Common.{◌≡◌, ℕ, zero, suc, ◌+◌, ◌-◌, ◌*◌, ◌%◌, ◌^◌, ◌<◌, ◌≤◌, ◌⊎◌, inl, inr, Bool, true, false, List, [], ◌∷◌, Some, None, refl, sym, ap, subst, ◌∙◌, arith}
use Rattle.std.specs.Prelude.{if◌then◌else◌}
use Rattle.std.proofs.Math.Nat.{mul-mod_left}
use Rattle.std.proofs.lemmas.Bool.{and_parts, and_from, or_cases, or_left, or_right}
use Rattle.machine.specs.Since.{Since}
use Rattle.net_types.specs.declared.address.Net.{Net}
use Rattle.net_types.specs.declared.address.Net.TheVariants.{V4, V6}
use Rattle.net_types.specs.declared.address.Net6.{Net6}
use Rattle.net_types.specs.declared.interface.IfIndex.{IfIndex}
use Rattle.prefix_share.specs.Subnets.{address_count, has_room, network_number, subnet_in, subnet_of}
use Rattle.settings.specs.declared.dhcp6_conf.ShareConf.{ShareConf}
use Rattle.v6_options.specs.declared.ia.IaKind.{IaKind}
use Rattle.v6_options.specs.declared.ia.IaKind.TheVariants.{Pd}
use Rattle.v6_options.specs.declared.ia.ItemSaid.{ItemSaid}
use Rattle.v6_client.specs.V6Items.declared.asks.IaAsk.{IaAsk}
use Rattle.v6_client_laws.specs.GivenItems.{IsHeldAs, MayBeHeld}
use Rattle.v6_client_laws.proofs.Given.{met}
use Rattle.evidence_words.specs.ClientModel.WantedRows.{first_address}
use Rattle.evidence_words.specs.Entries.{Entry}
use Rattle.evidence_words.specs.IfaceLives.{now_in}
use Rattle.evidence_words.specs.Inputs.{Site}
use Rattle.share_judge.specs.Evidence.ShareBasis.{ShareBasisOf}
use Rattle.item_judge.specs.Lease6Evidence.KeptBasis6.{KeptBasis6}
use Rattle.item_judge.specs.Lease6Judge.HeardBasis.{HeardBasis, HeardItem, Spares}
use Rattle.item_judge.specs.Judging.{is_delegated}
use Rattle.item_judge.proofs.Giving.{prefixes_delegated}
use Rattle.share_judge.proofs.KeptJudge.Lists.{has_any}
use Rattle.share_judge.specs.declared.prefix.HeldPrefix.{HeldPrefix}
use Rattle.share_judge.specs.KeptShares.{is_kept_share}
use Rattle.share_judge.specs.Sharing.{shares_out}
use Rattle.share_judge.proofs.Told.{based, given, shares_of_either}
use Rattle.share_judge.proofs.KeptTold.{kept_shares_told}
use Rattle.iface_judge.specs.HeardShares.{is_heard_share, is_of, is_of_some, prefix_by}
use Rattle.iface_judge.specs.Joined.{is_shared, of_number}
use Rattle.iface_judge.specs.Laws.{SharedAddressesAreTold}

-- ---- prefixes that the Replies give

-- it has no bits past its length, which is 127 at most
record IsPrefix (net : Net6) : Type 0 where
  pub len : net.len < 128
  pub cleared : network_number net ≡ net.ip.number

less_zero : (n m : ℕ) → m ≡ 0 → n - m ≡ n
less_zero n m is = omega (arith, is)

cleared_at : (len front number : ℕ) → number ≡ front * 2 ^ (128 - len) → number - number % 2 ^ (128 - len) ≡ number
cleared_at len front number is =
    less_zero number (number % 2 ^ (128 - len)) (ap (λ (n : ℕ). n % 2 ^ (128 - len)) is ∙ mul-mod_left front (2 ^ (128 - len)))

prefix_cleared : (held : Net6) (len front : ℕ) → held.len ≡ len → held.ip.number ≡ front * 2 ^ (128 - len) → network_number held ≡ held.ip.number
prefix_cleared held len front same is =
    cleared_at held.len front held.ip.number (is ∙ ap (λ (l : ℕ). front * 2 ^ (128 - l)) (sym same))

below_128 : (a b : ℕ) → a ≡ b → b ≤ 127 → a < 128
below_128 a b same most = omega (arith, same, most)

as_prefix : (kind : IaKind) (said : ItemSaid) (net : Net6) → kind ≡ Pd → MayBeHeld kind said → IsHeldAs kind said.net net → IsPrefix net
as_prefix Pd said net is may held =
    record { len = below_128 net.len said.net.len held.len may.len.1; cleared = prefix_cleared net said.net.len held.front held.len held.number }
as_prefix other said net is may held = absurd cc

of_heard : (ask : IaAsk) (net : Net6) (site : Site) (number now : ℕ) (e : Entry) (past : List Entry) → ask.kind ≡ Pd
    → HeardItem site ask net number now e past → IsPrefix net
of_heard ask net site number now e past is heard =
    as_prefix heard.has.ia.kind heard.has.said net (heard.has.is.kind_is ∙ is) heard.has.may heard.has.item

of_since : (ask : IaAsk) (net : Net6) (site : Site) (number now : ℕ) (past : List Entry) → ask.kind ≡ Pd
    → Since (Spares site ask net number) (HeardItem site ask net number now) past → IsPrefix net
of_since ask net site number now [] is since = absurd since
of_since ask net site number now (e ∷ past) is (inl heard) = of_heard ask net site number now e past is heard
of_since ask net site number now (e ∷ past) is (inr more) = of_since ask net site number now past is more.1

-- ---- the prefix of an address

same_address : (one other : Net6) → V6 one ≡ V6 other → one ≡ other
same_address one other e = cc

some_same : {X : Type 0} (x y : X) → Some x ≡ Some y → x ≡ y
some_same x y e = cc

by_room : (b : Bool) (one other : Net6) → (if b then Some one else None) ≡ Some other → one ≡ other
by_room true one other e = some_same one other e
by_room false one other e = absurd cc

taken_off : (first added : ℕ) → first + added + 1 - 1 - added ≡ first
taken_off first added = omega arith

abbrev net_by : ℕ → ℕ → Net6
net_by number len = record { ip = record { number = number }; len = len }

abbrev held_by : ℕ → Net6 → HeldPrefix
held_by iaid net = record { iaid = iaid; net = net }

module _ (prefix : Net6) (share : ShareConf) (subnet net : Net6) where
  abbrev added : ℕ
  added = share.share.sla * address_count share.share.len

  number_is : subnet_in prefix share.share ≡ Some subnet → V6 net ≡ V6 (first_address subnet) → network_number prefix ≡ prefix.ip.number
      → net.ip.number - 1 - added ≡ prefix.ip.number
  number_is is gives cleared =
      ap (λ (n : Net6). n.ip.number - 1 - added)
      (same_address net (first_address subnet) gives
      ∙ ap first_address (sym (by_room (has_room prefix.len share.share) (subnet_of prefix share.share) subnet is)))
      ∙ taken_off (network_number prefix) added ∙ cleared

  prefix_is : subnet_in prefix share.share ≡ Some subnet → V6 net ≡ V6 (first_address subnet) → network_number prefix ≡ prefix.ip.number
      → (iaid : ℕ) → share.iaid ≡ iaid → prefix_by net share prefix.len ≡ held_by iaid prefix
  prefix_is is gives cleared iaid same =
      ap (λ (n : ℕ). held_by share.iaid (net_by n prefix.len)) (number_is is gives cleared)
      ∙ ap (λ (i : ℕ). held_by i prefix) same

-- ---- some length

module _ (upstream : Site) (index : IfIndex) (net : Net6) (past : List Entry) where
  abbrev one_of : HeldPrefix → Bool
  one_of held = is_of upstream index net past held

  record OfLen (share : ShareConf) : Type 0 where
    pub len : ℕ
    pub is : one_of (prefix_by net share len) ≡ true

  of_len : (share : ShareConf) (below : ℕ) → is_of_some upstream index net past share below ≡ true → OfLen share
  of_len share zero h = absurd cc
  of_len share (suc len) h = elim (or_cases (one_of (prefix_by net share len)) (is_of_some upstream index net past share len) h) [
    | inl here ↦ record { len = len; is = here }
    | inr less ↦ of_len share len less
  ]

  at_or_below : (n k : ℕ) → n < suc k → (n ≡ k) ⊎ (n < k)
  at_or_below n k less = grind arith

  pub some_of : (share : ShareConf) (len below : ℕ) → len < below → one_of (prefix_by net share len) ≡ true
      → is_of_some upstream index net past share below ≡ true
  some_of share len zero less h = absurd (omega (arith, less))
  some_of share len (suc below) less h = elim (at_or_below len below less) [
    | inl same ↦
        or_left (one_of (prefix_by net share below)) (is_of_some upstream index net past share below)
        (subst (λ (l : ℕ). one_of (prefix_by net share l) ≡ true) same h)
    | inr further ↦
        or_right (one_of (prefix_by net share below)) (is_of_some upstream index net past share below) (some_of share len below further h)
  ]

  heard6_so : is_heard_share upstream index (V6 net) past ≡ true → ShareBasisOf HeardBasis upstream index (V6 net) past
  heard6_so h =
      let share = met (λ s. is_of_some upstream index net past s 128) upstream.managed.conf.dhcp6.shares h in
      let of = of_len share.x 128 share.passes in
      let held : HeldPrefix = prefix_by net share.x of.len in
      let parts = and_parts (shares_out upstream.managed index (V6 net) held) (is_delegated upstream held.iaid held.net (now_in past) past) of.is in
      let has = (prefixes_delegated upstream held.iaid held.net (now_in past) past).0 parts.1 in
      based HeardBasis upstream index (V6 net) past
      (record {
        one = held;
        held = record { ask = has.ask; asked = has.asked; is_prefix = has.is_prefix; iaid = sym has.same; basis = has.basis };
        shares = parts.0;
      })

  heard6_tells : ShareBasisOf HeardBasis upstream index (V6 net) past → is_heard_share upstream index (V6 net) past ≡ true
  heard6_tells b =
      let g = given HeardBasis upstream index (V6 net) past b in
      let is : IsPrefix b.prefix = of_since b.ask b.prefix upstream b.basis.number (now_in past) past b.is_prefix b.basis.since in
      let same : prefix_by net b.share b.prefix.len ≡ held_by b.ask.iaid b.prefix =
      prefix_is b.prefix b.share b.subnet net b.is_subnet b.gives is.cleared b.ask.iaid b.of_the_prefixes in
      let delegated : is_delegated upstream b.ask.iaid b.prefix (now_in past) past ≡ true =
      (prefixes_delegated upstream b.ask.iaid b.prefix (now_in past) past).1
      (record { ask = b.ask; asked = b.asked; is_prefix = b.is_prefix; same = refl; basis = b.basis }) in
      let one : one_of (held_by b.ask.iaid b.prefix) ≡ true =
      and_from (shares_out upstream.managed index (V6 net) (held_by b.ask.iaid b.prefix))
      (is_delegated upstream b.ask.iaid b.prefix (now_in past) past) g.shares delegated in
      has_any (λ s. is_of_some upstream index net past s 128) upstream.managed.conf.dhcp6.shares b.share b.configured
      (some_of b.share b.prefix.len 128 is.len (subst (λ (p : HeldPrefix). one_of p ≡ true) (sym same) one))

heard_so : (upstream : Site) (index : IfIndex) (net : Net) (past : List Entry) → is_heard_share upstream index net past ≡ true
    → ShareBasisOf HeardBasis upstream index net past
heard_so upstream index (V4 net) past h = absurd cc
heard_so upstream index (V6 net) past h = heard6_so upstream index net past h

heard_tells : (upstream : Site) (index : IfIndex) (net : Net) (past : List Entry) → ShareBasisOf HeardBasis upstream index net past
    → is_heard_share upstream index net past ≡ true
heard_tells upstream index (V4 net) past b = let gives = b.gives in absurd cc
heard_tells upstream index (V6 net) past b = heard6_tells upstream index net past b

-- ---- or a kept one

module _ (upstream : Site) (index : IfIndex) (net : Net) (past : List Entry) where
  abbrev heard : Bool
  heard = is_heard_share upstream (of_number index.number) net past

  abbrev kept : Bool
  kept = is_kept_share upstream (of_number index.number) net (now_in past) past

  share_so : is_shared upstream index.number net past ≡ true
      → ShareBasisOf HeardBasis upstream index net past ⊎ ShareBasisOf KeptBasis6 upstream index net past
  share_so h = elim (or_cases heard kept h) [
    | inl of ↦ inl (heard_so upstream index net past of)
    | inr of ↦ inr ((kept_shares_told upstream index net past).0 of)
  ]

  share_tells : ShareBasisOf HeardBasis upstream index net past ⊎ ShareBasisOf KeptBasis6 upstream index net past
      → is_shared upstream index.number net past ≡ true
  share_tells (inl of) = or_left heard kept (heard_tells upstream index net past of)
  share_tells (inr of) = or_right heard kept ((kept_shares_told upstream index net past).1 of)

pub shares_told : SharedAddressesAreTold
shares_told upstream index net past =
    let either = shares_of_either HeardBasis KeptBasis6 upstream index net past in
    (λ h. either.1 (share_so upstream index net past h), λ b. share_tells upstream index net past (either.0 b))
