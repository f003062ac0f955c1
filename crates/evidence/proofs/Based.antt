-- Over every life, the addresses that the client wants have their basis.
use Rattle.std.proofs.Common.{◌≡◌, ℕ, Bool, false, List, [], ◌∷◌, map, arith, ◌⊎◌, ◌≢◌, inl, inr, Option, Some, None, refl, sym, ap, subst, ◌∙◌, lit<}
use Rattle.std.specs.Prelude.{if◌then◌else◌}
use Rattle.std.specs.List.{AllByRecursion, Contains}
use Rattle.std.proofs.lemmas.List.Elements.{All-contains, All-contains_itself, All-from_recursion, recursion_from_All}
use Rattle.net_types.proofs.AllLaws.{all_both, all_mapped}
use Rattle.net_types.proofs.CaseLaws.{split}
use Rattle.net_types.specs.declared.address.Net.{Net}
use Rattle.net_types.specs.declared.address.Net.TheVariants as Family
use Rattle.net_types.specs.declared.interface.IfIndex.{IfIndex}
use Rattle.net_types.specs.declared.interface.IfSpec.{IfSpec}
use Rattle.net_types.specs.declared.address.Mac.{Mac}
use Rattle.net_types.specs.Marks.{AreBytes}
use Rattle.lease_text.specs.Leases.{LeaseContent}
use Rattle.v4_client.specs.declared.states.State4.{State4}
use Rattle.v4_client.specs.declared.states.State4.TheVariants.{Off}
use Rattle.v4_client.specs.Clients.{ClientContent, held_of, is_held}
use Rattle.world.specs.declared.rows.HostRow.TheVariants.{Addr}
use Rattle.settings.specs.declared.dhcp6_conf.ShareConf.{ShareConf}
use Rattle.settings.specs.declared.interfaces.Managed.{Managed}
use Rattle.settings.specs.Fitting.{FitsManaged, AreManaged}
use Rattle.script_model.specs.IfaceSets.{is_up}
use Rattle.client_model.specs.declared.interfaces.Iface.{Iface}
use Rattle.client_model.specs.ClientSettings.{runs_dhcp4}
use Rattle.client_model.specs.ClientSettings6.{runs_dhcp6}
use Rattle.client_model.specs.HostDuid.{host_duid}
use Rattle.client_model.proofs.HostDuids.{host_duid_fits}
use Rattle.world.specs.StoreCalls.{Reading}
use Rattle.lease6_text.specs.Bounds.{IsDuid}
use Rattle.lease6_text.specs.declared.lease.Item6.{Item6}
use Rattle.lease6_text.specs.Leases.{IaLeaseContent, Lease6Content}
use Rattle.v6_options.specs.declared.ia.IaKind.TheVariants.{Na}
use Rattle.v6_client.specs.Clients as dhcp6
use Rattle.evidence_words.specs.HostDuids.{duid_read, duid_shown}
use Rattle.evidence.proofs.Off6.{off_holds6}
use Rattle.client_model.proofs.SameInterfaces.{managed_in}
use Rattle.evidence_words.specs.TurnModel.Turns.{Life}
use Rattle.evidence_words.specs.TurnModel.Lives.{OpeningMet, Met, life_after}
use Rattle.evidence_words.specs.Entries.{Entry, entry_of, opening_entry, shown_after, shown_of}
use Rattle.evidence_words.specs.Inputs.{Site}
use Rattle.evidence_words.specs.IfaceLives.{now_in}
use Rattle.evidence_words.proofs.Offers.{number_of}
use Rattle.local_evidence.specs.LinkLocalBasis.{LinkLocalBasis, StrongBasis}
use Rattle.local_evidence.proofs.Weakening.{local_weaker}
use Rattle.lease6_evidence.specs.HeldItems.{ItemHasBasis}
use Rattle.lease6_evidence.specs.LeaseEvidence.HeldLeases.{LeaseRests}
use Rattle.lease6_evidence.specs.KeptBasis6.{KeptAddress6}
use Rattle.evidence.specs.ShareBasis.{ShareBasis, SharesWithOthers}
use Rattle.evidence.specs.StaticBasis.{StaticBasis}
use Rattle.evidence.specs.Laws.{AreOctets, AreSharedWithOthers, Basis, BasisWithoutDhcp, LeasedBasis6, StrongestBasis, HasBasis, HasBasisOf, HasBasisWithoutDhcp, HasShareBasis, IsShared, IsLife, AddressesHave, AddressesHaveBasis, OthersHaveBasis, site_of}
use Rattle.evidence_words.proofs.Carrying.{Relation, IsCarried}
use Rattle.evidence.proofs.Turns.{Found, found_in, site_by, KeptOne, KeptAfter, KeepsRelation, keeps_carried, turns_kept, own_stays, opening_kept, opened_own}
use Rattle.evidence.proofs.Rows.{Delegates, Giver, wanted_giver, iface_basis}

-- what holds of each managed interface holds of that of each interface
pub each_managed : (P : Managed → Type 0) (ifaces : List Iface) (managed : List Managed) → managed_in ifaces ≡ managed → AllByRecursion P managed
    → AllByRecursion (λ iface. P iface.managed) ifaces
each_managed P ifaces managed same all = all_mapped P (λ (iface : Iface). iface.managed) ifaces (subst (AllByRecursion P) (sym same) all)

-- ---- what came in are octets

abbrev pub HearsOctets : List Entry → Type 0
HearsOctets shown = AllByRecursion (λ e. AreBytes e.bytes) shown

pub none_octets : AreBytes []
none_octets i = lit< tt

pub shown_octets : (mets : List Met) (shown : List Entry) → HearsOctets shown → AreOctets mets → HearsOctets (shown_after shown mets)
shown_octets [] shown before octets = before
shown_octets (met ∷ mets) shown before octets = shown_octets mets (entry_of met ∷ shown) (octets.0, before) octets.1

-- What leases owe: something that every turn keeps, by which each lease that is held has its basis.
pub record AreBased (Carries : Relation) : Type 1 where
  pub carried : (Counted : Type 0) → IsCarried Counted Carries
  pub based : (site : Site) (clean : Type 0) (iface : Iface) (past : List Entry) → iface.managed ≡ site.managed → FitsManaged site.managed → IsDuid site.duid
      → HearsOctets past → Carries site clean iface past → (lease : LeaseContent) → held_of iface.dhcp4 ≡ Some lease
      → LeaseRests site (Family.V4 lease.net) (now_in past) past

-- Each item of an interface's held DHCPv6 lease has its basis.
abbrev pub ItemsHave : List Managed → List IfSpec → OpeningMet → List Met → Iface → Type 0
ItemsHave managed specs opening mets iface = (lease : Lease6Content) (ia : IaLeaseContent) (item : Item6) → dhcp6.held_of iface.dhcp6 ≡ Some lease
    → Contains lease.ias ia → Contains ia.items item
    → ItemHasBasis (site_of managed specs opening iface.managed) ia item (shown_of opening mets)

-- What items owe: this holds in every life.
abbrev pub ItemsAreBased : Type 0
ItemsAreBased =
    (managed : List Managed) (specs : List IfSpec) (opening : OpeningMet) (mets : List Met) → IsLife managed specs opening mets → AreManaged managed
    → AreOctets mets
    → AllByRecursion (ItemsHave managed specs opening mets) (life_after opening.life mets).client.ifaces

-- an address of an item that a Reply gave, or of one of the kept lease
abbrev AddressRests : Site → Net → List Entry → Type 0
AddressRests site net past = LeasedBasis6 site net past ⊎ KeptAddress6 site net (now_in past) past

-- an item that is an address
address_basis : (site : Site) (ia : IaLeaseContent) (item : Item6) (past : List Entry) → ia.kind ≡ Na → ItemHasBasis site ia item past
    → AddressRests site (Family.V6 item.net) past
address_basis site ia item past address h =
    elim h.basis [
      | inl given ↦ inl (record { ask = h.ask; asked = h.asked; is_address = sym h.kind ∙ address; item = item.net; is_item = refl; basis = given })
      | inr kept ↦ inr (record { ask = h.ask; is_address = sym h.kind ∙ address; item = item.net; is_item = refl; basis = kept })
    ]

pub contained : {X : Type 0} (P : X → Type 0) (xs : List X) (x : X) → AllByRecursion P xs → Contains xs x → P x
contained P xs x all among = All-contains P xs x (All-from_recursion P xs all) among

-- one that is a prefix, with a share
share_basis : (site : Site) (index : IfIndex) (net : Net) (iface : Iface) (past : List Entry) → iface.managed ≡ site.managed → SharesWithOthers iface.managed
    → (d : Delegates index net iface) → ItemHasBasis site d.ia d.item past → ShareBasis site index net past
share_basis site index net iface past same others d h =
    let elsewhere : d.share.outlet.iface ≢ iface.managed.spec.index =
    contained (λ (share : ShareConf). share.outlet.iface ≢ iface.managed.spec.index) iface.managed.conf.dhcp6.shares d.share others d.configured in
    record {
      ask = h.ask;
      asked = h.asked;
      is_prefix = sym h.kind ∙ d.is_prefix;
      prefix = d.item.net;
      basis = h.basis;
      share = d.share;
      configured = subst (λ (m : Managed). Contains m.conf.dhcp6.shares d.share) same d.configured;
      of_the_prefixes = d.of_the_prefixes ∙ h.iaid;
      is_for = d.is_for;
      is_another = λ own. elsewhere (sym d.is_for ∙ own ∙ ap (λ (m : Managed). m.spec.index) (sym same));
      subnet = d.subnet;
      is_subnet = d.is_subnet;
      gives = d.gives;
    }

-- the DUID of the host is one where an interface is managed
pub duid_fits : (managed : List Managed) (m : Managed) (read : Option Reading) → Contains managed m → AreManaged managed → IsDuid (host_duid managed read)
duid_fits [] m read among fit = absurd (omega (arith, among.1))
duid_fits (first ∷ others) m read among fit = host_duid_fits first others read fit.0.mac

-- a client that is off holds no lease
off_holds : (c : ClientContent) (lease : LeaseContent) → c.state ≡ Off → held_of c ≡ Some lease → ⊥
off_holds c lease off held =
    let none : held_of c ≡ None = ap (λ (state : State4). if is_held state then c.kept else None) off in
    cc

module _ (managed : List Managed) (specs : List IfSpec) (opening : OpeningMet) (mets : List Met) (is : IsLife managed specs opening mets) where
  abbrev start : ℕ → Bool
  start number = is_up opening.begin.up number

  abbrev duid : List ℕ
  duid = duid_shown managed opening.calls

  abbrev found : Found
  found = found_in managed opening.calls

  abbrev life : Life
  life = life_after opening.life mets

  abbrev shown : List Entry
  shown = shown_of opening mets

  -- no number of an interface is asked for
  abbrev Of : (Carries : Relation) → ((Counted : Type 0) → IsCarried Counted Carries) → Iface → Type 0
  Of Carries carried iface = KeptOne ⊥ Carries (carried ⊥) start found life.client.own life.unsent shown iface

  after_life : (Carries : Relation) (carried : (Counted : Type 0) → IsCarried Counted Carries) → KeptAfter ⊥ Carries (carried ⊥) start found managed life shown
  after_life Carries carried =
      turns_kept ⊥ Carries (carried ⊥) start found managed is.numbered (λ none. absurd none) mets opening.life (opening_entry opening ∷ [])
      (opening_kept ⊥ Carries (carried ⊥) managed is.numbered is.named (λ none. absurd none) specs opening is.opens) is.turns

  abbrev site_in : List Mac → Iface → Site
  site_in own iface = site_by own (start (number_of iface.managed)) found iface.managed

  -- the hardware addresses are those of all interfaces
  at_life : (Kind : Site → Net → List Entry → Type 0) (net : Net) (iface : Iface) → Kind (site_in life.client.own iface) net shown
      → Kind (site_of managed specs opening iface.managed) net shown
  at_life Kind net iface basis =
      subst (λ own. Kind (site_in own iface) net shown) (own_stays managed mets opening.life is.turns ∙ opened_own managed specs opening is.opens) basis

  kept : AllByRecursion (Of KeepsRelation keeps_carried) life.client.ifaces
  kept = (after_life KeepsRelation keeps_carried).kept

  pub among : AllByRecursion (λ iface. Contains managed iface.managed) life.client.ifaces
  among =
      each_managed (Contains managed) life.client.ifaces managed (after_life KeepsRelation keeps_carried).of_managed
      (recursion_from_All (Contains managed) managed (All-contains_itself managed))

  -- ---- where neither protocol runs

  record Other (iface : Iface) : Type 0 where
    keeps : Of KeepsRelation keeps_carried iface
    among : Contains managed iface.managed

  without_lease : (site : Site) (net : Net) (Without Without6 : Type 0) → Without → Without6
      → (StaticBasis site net shown ⊎ (StrongBasis site net shown ⊎ ((Without → ⊥) ⊎ (Without6 → ⊥))))
      → StaticBasis site net shown ⊎ LinkLocalBasis site net shown
  without_lease site net Without Without6 it six (inl line) = inl line
  without_lease site net Without Without6 it six (inr (inl choice)) = inr (local_weaker site net shown choice)
  without_lease site net Without Without6 it six (inr (inr (inl leased))) = absurd (leased it)
  without_lease site net Without Without6 it six (inr (inr (inr leased))) = absurd (leased six)

  -- an interface that holds a DHCPv6 lease runs DHCPv6
  shared : (index : IfIndex) (net : Net) (iface : Iface) → Other iface → Delegates index net iface → IsShared managed index
  shared index net iface other d = record {
    upstream = iface.managed;
    among = other.among;
    runs = split (runs_dhcp6 iface.managed.conf) (λ runs. runs)
        (λ none. absurd (off_holds6 iface.dhcp6 d.lease (other.keeps.carries.sane.without6 none) d.held));
    share = d.share;
    configured = d.configured;
    is_for = d.is_for;
  }

  others_have : AddressesHave (HasBasisWithoutDhcp managed specs opening mets) opening mets
  others_have index net has =
      let g : Giver Other (Addr index net) =
      wanted_giver Other (Addr index net) life.client (all_both _ _ Other (λ iface k c. record { keeps = k; among = c }) life.client.ifaces kept among) has in
      let gives = iface_basis index net (λ n. runs_dhcp4 g.iface.managed.conf ≡ false → ⊥) (λ n. runs_dhcp6 g.iface.managed.conf ≡ false → ⊥) life.client.own
      (start (number_of g.iface.managed)) found _ g.iface shown g.is_such.keeps.carries
      (λ lease held none. off_holds g.iface.dhcp4 lease (g.is_such.keeps.carries.sane.without none) held)
      (λ lease ia item held among among_items address none. off_holds6 g.iface.dhcp6 lease (g.is_such.keeps.carries.sane.without6 none) held) g.gives in
      elim gives [
        | inl here ↦
            inl (record {
              holder = g.iface.managed;
              among = g.is_such.among;
              is_here = here.0;
              basis = at_life BasisWithoutDhcp net g.iface (λ none none6. without_lease (site_in life.client.own g.iface) net _ _ none none6 here.1);
            })
        | inr delegates ↦ inr (shared index net g.iface g.is_such delegates)
      ]

  -- ---- with leases

  module _ (Carries : Relation) (leases : AreBased Carries) (items : ItemsAreBased) (fit : AreManaged managed) (others : AreSharedWithOthers managed)
      (octets : AreOctets mets) where
    record Both (iface : Iface) : Type 0 where
      other : Other iface
      leased : Of Carries leases.carried iface
      fits : FitsManaged iface.managed
      items_so : ItemsHave managed specs opening mets iface

    abbrev Beside : Iface → Type 0
    Beside iface = Other iface × ItemsHave managed specs opening mets iface

    both : AllByRecursion Both life.client.ifaces
    both =
        all_both Beside (λ iface. Of Carries leases.carried iface × FitsManaged iface.managed) Both
        (λ iface one two. record { other = one.0; leased = two.0; fits = two.1; items_so = one.1 }) life.client.ifaces
        (all_both Other (ItemsHave managed specs opening mets) Beside (λ iface other six. (other, six)) life.client.ifaces
        (all_both _ _ Other (λ iface k c. record { keeps = k; among = c }) life.client.ifaces kept among) (items managed specs opening mets is fit octets))
        (all_both _ _ (λ iface. Of Carries leases.carried iface × FitsManaged iface.managed) (λ iface k f. (k, f)) life.client.ifaces
        (after_life Carries leases.carried).kept (each_managed FitsManaged life.client.ifaces managed (after_life Carries leases.carried).of_managed fit))

    -- leases apart from those that were kept
    grouped : (site : Site) (net : Net)
        → StaticBasis site net shown ⊎ (StrongBasis site net shown ⊎ (LeaseRests site net (now_in shown) shown ⊎ AddressRests site net shown))
        → StrongestBasis site net shown
    grouped site net (inl line) = inl line
    grouped site net (inr (inl choice)) = inr (inl choice)
    grouped site net (inr (inr (inl (inl granted)))) = inr (inr (inl granted))
    grouped site net (inr (inr (inl (inr kept)))) = inr (inr (inr (inr (inl kept))))
    grouped site net (inr (inr (inr (inl given)))) = inr (inr (inr (inl given)))
    grouped site net (inr (inr (inr (inr kept)))) = inr (inr (inr (inr (inr kept))))

    abbrev pub HasStrongest : IfIndex → Net → Type 0
    HasStrongest index net = HasBasisOf StrongestBasis managed specs opening mets index net ⊎ HasShareBasis managed specs opening mets index net

    -- a link-local address was undisturbed from the turn of its first probe on
    pub have_strong : AddressesHave HasStrongest opening mets
    have_strong index net has =
        let g : Giver Both (Addr index net) = wanted_giver Both (Addr index net) life.client both has in
        let site : Site = site_in life.client.own g.iface in
        let heard : HearsOctets shown = shown_octets mets (opening_entry opening ∷ []) (none_octets, tt) octets in
        let fits_duid : IsDuid duid = duid_fits managed g.iface.managed (duid_read opening.calls) g.is_such.other.among fit in
        let same_own : life.client.own ≡ map (λ spec. spec.mac) specs =
        own_stays managed mets opening.life is.turns ∙ opened_own managed specs opening is.opens in
        let gives =
        iface_basis index net (λ n. LeaseRests site n (now_in shown) shown) (λ n. AddressRests site n shown) life.client.own
        (start (number_of g.iface.managed)) found _
        g.iface shown g.is_such.other.keeps.carries (leases.based site _ g.iface shown refl g.is_such.fits fits_duid heard g.is_such.leased.carries)
        (λ lease ia item held among among_items address.
        subst (λ (own : List Mac). AddressRests (site_in own g.iface) (Family.V6 item.net) shown) (sym same_own)
        (address_basis (site_of managed specs opening g.iface.managed) ia item shown address
        (g.is_such.items_so lease ia item held among among_items))) g.gives in
        elim gives [
          | inl here ↦
              inl (record {
                holder = g.iface.managed;
                among = g.is_such.other.among;
                is_here = here.0;
                basis = at_life StrongestBasis net g.iface (grouped site net here.1);
              })
          | inr d ↦
              inr (record {
                upstream = g.iface.managed;
                among = g.is_such.other.among;
                basis = share_basis (site_of managed specs opening g.iface.managed) index net g.iface shown refl
                    (contained SharesWithOthers managed g.iface.managed others g.is_such.other.among) d
                    (g.is_such.items_so d.lease d.ia d.item d.held d.among_ias d.among_items);
              })
        ]

weaker : (site : Site) (net : Net) (past : List Entry) → StrongestBasis site net past → Basis site net past
weaker site net past (inl line) = inl line
weaker site net past (inr (inl choice)) = inr (inl (local_weaker site net past choice))
weaker site net past (inr (inr leased)) = inr (inr leased)

weaker_here : (managed : List Managed) (specs : List IfSpec) (opening : OpeningMet) (mets : List Met) (index : IfIndex) (net : Net)
    → (HasBasisOf StrongestBasis managed specs opening mets index net ⊎ HasShareBasis managed specs opening mets index net)
    → HasBasis managed specs opening mets index net
weaker_here managed specs opening mets index net (inl strong) =
    inl (record {
      holder = strong.holder;
      among = strong.among;
      is_here = strong.is_here;
      basis = weaker (site_of managed specs opening strong.holder) net (shown_of opening mets) strong.basis;
    })
weaker_here managed specs opening mets index net (inr share) = inr share

pub have_basis : (Carries : Relation) → AreBased Carries → ItemsAreBased → AddressesHaveBasis
have_basis Carries leases items managed specs opening mets is fit others octets index net has =
    weaker_here managed specs opening mets index net (have_strong managed specs opening mets is Carries leases items fit others octets index net has)

pub others_have_basis : OthersHaveBasis
others_have_basis managed specs opening mets is = others_have managed specs opening mets is
