use Rattle.std.proofs.Common.{◌≡◌, [], ◌∷◌, inl, refl, sym, lit≤}
use Rattle.net_types.specs.declared.address.Ip4.{Ip4}
use Rattle.net_types.specs.AddressText.{FitsIp4}
use Rattle.frame_link.specs.Frames.{frame_in}
use Rattle.frame_link.specs.Packets.{arp_in, announcement_text}
use Rattle.host_model.specs.Precedence.{outranks}
use Rattle.v6_client.specs.Runs.{carrier_turned, tick_turned}
use Rattle.client_model.specs.ResolverParts.{resolver_wanted}
use Rattle.evidence_words.specs.TurnModel.Turns.{turn_asks}
use Rattle.evidence_words.specs.TurnModel.Opening.{opening_asks}
use Rattle.evidence_words.specs.TurnModel.HostInLife.{running_opened}
use Rattle.lease6_evidence.specs.LeaseEvidence.PlainIface.{client_mac}
use Rattle.evidence.specs.SevenTurns.{chosen, interface, devices, seven_given}
use Rattle.evidence.proofs.HostRests.{are_made, is_opening}
use Rattle.local_evidence.proofs.Announced.{one_address}
use Rattle.evidence.proofs.laws.seven_turns_give_a_basis.Goals as goal

pub returns-clause-opened : goal.returns-clause-opened
returns-clause-opened c = is_opening (interface ∷ []) (interface.spec ∷ []) devices

pub returns-clause-made : goal.returns-clause-made
returns-clause-made c = are_made (interface ∷ []) seven_given (running_opened (interface ∷ []) (interface.spec ∷ []) devices)

pub returns-clause-wanted : goal.returns-clause-wanted
unfolding frame_in arp_in outranks resolver_wanted turn_asks opening_asks tick_turned carrier_turned
returns-clause-wanted c = refl

pub returns-clause-shown : goal.returns-clause-shown
unfolding frame_in arp_in resolver_wanted turn_asks opening_asks tick_turned carrier_turned
returns-clause-shown c = refl

-- each frame since the fourth turn announces the chosen address
no_other : (other : Ip4) → FitsIp4 other → announcement_text client_mac chosen ≡ announcement_text client_mac other → other ≡ chosen
no_other other fits same = one_address client_mac other chosen fits (lit≤ tt) (sym same)

pub returns-clause-basis : goal.returns-clause-basis
unfolding frame_in arp_in
returns-clause-basis c = record {
  addr = chosen;
  gives = refl;
  in_range = record { at_least = lit≤ tt; at_most = lit≤ tt };
  probed = record {
    later = _ ∷ _ ∷ [];
    fourth = _;
    earlier = _;
    cut = refl;
    probes = inl (tt, refl, refl, lit≤ tt, inl (tt, refl, refl, lit≤ tt, inl (tt, refl, refl, lit≤ tt, tt)));
    since = (tt, (tt, (tt, tt)));
  };
  alone = ((no_other, tt), ((no_other, tt), ((no_other, tt), tt)));
  apart = ((λ u. ((λ v. cc), ((λ v. cc), tt))), ((λ u. cc), ((λ u. cc), tt)));
}
