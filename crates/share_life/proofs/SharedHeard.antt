-- The life that is written out, by computing, and the basis that it gives.
use Rattle.std.proofs.Common.{◌≡◌, ◌≢◌, ℕ, zero, suc, ◌<◌, true, List, [], ◌∷◌, inl, inr, refl, sym, ap, subst, ◌∙◌, arith, lit<, lit≤, nat_lt, slice_index_or}
use Rattle.std.specs.Prelude.{AllPairs}
use Rattle.std.specs.List.{IsDistinct, list_all}
use Rattle.std.proofs.lemmas.Bool.{and_parts}
use Rattle.std.proofs.lemmas.Bool.Decides.{nat_tests}
use Rattle.net_types.specs.Marks.{AreBytes}
use Rattle.net_types.specs.declared.interface.IfIndex.{IfIndex}
use Rattle.net_types.specs.NameText.{is_name, name_text}
use Rattle.udp_frame.proofs.Cells.{AllSmall, all_bytes}
use Rattle.v6_options.specs.declared.ia.IaKind.TheVariants.{Na, Pd}
use Rattle.v6_options.specs.declared.ia.IaKind.{IaKind}
use Rattle.frame_link.specs.Frames.{frame_in}
use Rattle.frame_link.specs.Packets.{arp_in}
use Rattle.udp_frame.specs.Datagrams.{datagram_in}
use Rattle.udp_frame.specs.Packets6.{packet6_in}
use Rattle.udp_frame.specs.Udp6Frames.{is_checked6, udp6_frame_text, udp6_in, udp6_text}
use Rattle.v4_frames.specs.Heard.{heard4_in}
use Rattle.v6_options.specs.OptionArea.{front_of, instances_in}
use Rattle.v6_options.specs.Nesting.{malformed_in}
use Rattle.v6_message.specs.Replies.{message6_in}
use Rattle.v6_frames.specs.Heard.{heard6_in}
use Rattle.v6_client.specs.Runs.{carrier_turned, hears_turned, tick_turned}
use Rattle.world.specs.RowOrder.{has_row}
use Rattle.world.specs.declared.rows.HostRow.TheVariants.{Addr}
use Rattle.settings.specs.Dhcp6Settings.{conf_key}
use Rattle.settings.specs.Fitting.{AreManaged, FitsManaged}
use Rattle.settings.specs.declared.interfaces.Managed.{Managed}
use Rattle.host_model.specs.Precedence.{outranks}
use Rattle.client_model.specs.Clients.{rows_of}
use Rattle.client_model.specs.ResolverParts.{resolver_wanted}
use Rattle.turn_model.specs.Lives.{IsOpening, life_after}
use Rattle.turn_model.specs.FilesInLife.{AreNamedApart}
use Rattle.turn_model.specs.HostInLife.{life_run, running_opened}
use Rattle.turn_model.specs.Opening.{opening_asks}
use Rattle.turn_model.specs.Turns.{turn_asks}
use Rattle.evidence_words.specs.Entries.{shown_of}
use Rattle.evidence_words.specs.IfaceLives.{shown}
use Rattle.lease_evidence.specs.PlainIface.{client_mac}
use Rattle.lease_evidence.proofs.Joining.{LeaseRelation}
use Rattle.evidence.specs.Lease6Evidence.FourMessages.{advertise, downstream, from_server, interface, opening, reply, three_turns}
use Rattle.evidence.specs.Laws.{AreMade, AreNumbered, AreOctets, AreSharedWithOthers, Basis, HasBasis, HasBasisOf, HasShareBasis, IsLife, site_of}
use Rattle.evidence.proofs.Based.{have_basis}
use Rattle.evidence.proofs.HostRests.{are_made, is_opening}
use Rattle.evidence.proofs.Items.{items_have_basis}
use Rattle.evidence.proofs.Leasing.{leases_based}
use Rattle.share_life.specs.ShareLife.{coming, devices, managed, opens, second, second_mac, shared, specs, turns}

pub is_opened : IsOpening managed specs opens
is_opened = is_opening managed specs devices

pub are_turns : AreMade managed opens.life turns
are_turns = are_made managed coming (running_opened managed specs devices)

-- what the turns show is what those of eth0 alone do
pub turns_show : shown_of opens turns ≡ shown opening three_turns
unfolding frame_in arp_in heard4_in heard6_in packet6_in datagram_in udp6_in is_checked6 udp6_text udp6_frame_text message6_in malformed_in instances_in
    front_of outranks resolver_wanted turn_asks opening_asks carrier_turned tick_turned hears_turned name_text
turns_show = refl

pub is_wanted : has_row (rows_of (life_after opens.life turns).client) (Addr downstream shared) ≡ true
unfolding frame_in arp_in heard4_in heard6_in packet6_in datagram_in udp6_in is_checked6 udp6_text udp6_frame_text message6_in malformed_in instances_in
    front_of outranks resolver_wanted turn_asks opening_asks carrier_turned tick_turned hears_turned name_text
is_wanted = refl

pub is_held : has_row (life_run managed specs devices coming).world.host.told.rows (Addr downstream shared) ≡ true
unfolding frame_in arp_in heard4_in heard6_in packet6_in datagram_in udp6_in is_checked6 udp6_text udp6_frame_text message6_in malformed_in instances_in
    front_of outranks resolver_wanted turn_asks opening_asks carrier_turned tick_turned hears_turned name_text
is_held = refl

-- ---- the interfaces

numbered : AreNumbered managed
unfolding IsDistinct
numbered = ((refl, tt), (tt, tt))

named : AreNamedApart managed
unfolding IsDistinct name_text
named = ((refl, tt), (tt, tt))

life : IsLife managed specs opens turns
life = record { numbered = numbered; named = named; opens = is_opened; turns = are_turns }

below : (b : ℕ) → nat_lt b 256 ≡ true → b < 256
below b h = grind (arith, nat_tests)

all_small : (xs : List ℕ) → list_all (λ b. nat_lt b 256) xs ≡ true → AllSmall xs
all_small [] h = tt
all_small (x ∷ xs) h =
    let parts = and_parts (nat_lt x 256) (list_all (λ b. nat_lt b 256) xs) h in (below x parts.0, all_small xs parts.1)

are_bytes : (xs : List ℕ) → list_all (λ b. nat_lt b 256) xs ≡ true → AreBytes xs
are_bytes xs h = all_bytes xs (all_small xs h)

nothing : AreBytes []
nothing i = lit< tt

octets : AreOctets turns
octets = (
  nothing,
  (
    are_bytes (from_server 134 0xd3 0x02 advertise) refl,
    (are_bytes (from_server 129 0x98 0x49 reply) refl, tt),
  ),
)

other_kind : Na ≡ Pd → ⊥
other_kind e = cc

unlike_ias : AllPairs (λ one other. conf_key one ≢ conf_key other) interface.conf.dhcp6.ias
unlike_ias zero (suc zero) d before within = λ e. other_kind (ap (λ (key : IaKind × ℕ). key.0) e)
unlike_ias zero zero d before within = absurd (omega (arith, before))
unlike_ias zero (suc (suc j)) d before within = absurd (omega (arith, within))
unlike_ias (suc i) zero d before within = absurd (omega (arith, before))
unlike_ias (suc i) (suc zero) d before within = absurd (omega (arith, before))
unlike_ias (suc i) (suc (suc j)) d before within = absurd (omega (arith, within))

first_fits : FitsManaged interface
unfolding is_name name_text
first_fits = record {
  index = (lit≤ tt, lit≤ tt);
  name = record { spelled = refl; within = lit≤ tt; fifteen = refl; padded = refl };
  mac = record { six = refl; range = are_bytes client_mac.bytes refl };
  metric = tt;
  address = tt;
  address6 = tt;
  router = tt;
  dhcp4 = record { host = lit< tt; vendor = lit< tt; identifier = tt };
  dhcp6 = record {
    few = lit≤ tt;
    each = (record { iaid = lit< tt; hint = lit≤ tt }, (record { iaid = lit< tt; hint = lit≤ tt }, tt));
    shares = (
      record { share = record { least = lit≤ tt; most = lit≤ tt }; outlet = record { index = (lit≤ tt, lit≤ tt); metric = lit< tt } },
      tt,
    );
    unlike = unlike_ias;
  };
}

none_unlike : AllPairs (λ one other. conf_key one ≢ conf_key other) second.conf.dhcp6.ias
none_unlike i j d before within = absurd (omega (arith, within))

second_fits : FitsManaged second
unfolding is_name name_text
second_fits = record {
  index = (lit≤ tt, lit≤ tt);
  name = record { spelled = refl; within = lit≤ tt; fifteen = refl; padded = refl };
  mac = record { six = refl; range = are_bytes second_mac.bytes refl };
  metric = tt;
  address = tt;
  address6 = tt;
  router = tt;
  dhcp4 = record { host = lit< tt; vendor = lit< tt; identifier = tt };
  dhcp6 = record { few = lit≤ tt; each = tt; shares = tt; unlike = none_unlike };
}

all_fit : AreManaged managed
all_fit = (first_fits, (second_fits, tt))

not_first : downstream ≢ interface.spec.index
not_first e = let number : 2 ≡ 1 = ap (λ (index : IfIndex). index.number) e in absurd (omega (arith, number))

shared_with_others : AreSharedWithOthers managed
shared_with_others = ((not_first, tt), (tt, tt))

-- ---- the basis

-- eth1 has no address of its own that it might be
not_own : Basis (site_of managed specs opens second) shared (shown_of opens turns) → ⊥
not_own (inl static) = elim static.is_static [
  | inl four ↦ let none = four.configured in cc
  | inr six ↦ let none = six.configured in cc
]
not_own (inr (inl local)) = let other = local.gives in cc
not_own (inr (inr (inl leased))) = let other = leased.gives in cc
not_own (inr (inr (inr (inl leased6)))) = let none = leased6.asked.1 in absurd (omega (arith, none))
not_own (inr (inr (inr (inr (inl kept))))) = let other = kept.gives in cc
not_own (inr (inr (inr (inr (inr kept6))))) = let other = kept6.basis.persistent in cc

at_place : (k : ℕ) → k < 2 → (holder : Managed) → slice_index_or managed k holder ≡ holder → downstream ≡ holder.spec.index
    → Basis (site_of managed specs opens holder) shared (shown_of opens turns) → ⊥
at_place zero within holder same here basis = not_first (here ∙ ap (λ (m : Managed). m.spec.index) (sym same))
at_place (suc zero) within holder same here basis =
    not_own (subst (λ (m : Managed). Basis (site_of managed specs opens m) shared (shown_of opens turns)) (sym same) basis)
at_place (suc (suc k)) within holder same here basis = absurd (omega (arith, within))

never : HasBasisOf Basis managed specs opens turns downstream shared → ⊥
never own = at_place own.among.0 own.among.1 own.holder own.among.2 own.is_here own.basis

by_either : HasBasis managed specs opens turns downstream shared → HasShareBasis managed specs opens turns downstream shared
by_either (inl own) = absurd (never own)
by_either (inr share) = share

pub share_based : HasShareBasis managed specs opens turns downstream shared
share_based =
    by_either
    (have_basis LeaseRelation leases_based items_have_basis managed specs opens turns life all_fit shared_with_others octets downstream shared is_wanted)
