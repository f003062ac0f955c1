-- What rests on leases that first Replies gave rests on leases that Replies gave.
use Rattle.std.proofs.Common.{inl, inr, List}
use Rattle.net_types.specs.declared.address.Net.{Net}
use Rattle.net_types.specs.declared.address.Net6.{Net6}
use Rattle.net_types.specs.declared.interface.IfIndex.{IfIndex}
use Rattle.settings.specs.declared.interfaces.Managed.{Managed}
use Rattle.v6_client.specs.V6Items.declared.asks.IaAsk.{IaAsk}
use Rattle.evidence.specs.Laws.{BasisWith, LeasedBasis6, RestsWith}
use Rattle.evidence_words.specs.Entries.{Entry}
use Rattle.evidence_words.specs.IfaceLives.{now_in}
use Rattle.evidence_words.specs.Inputs.{Site}
use Rattle.lease6_judge.specs.Lease6Evidence.ItemBasis.{ItemBasis}
use Rattle.lease6_judge.specs.HeardBasis.{HeardBasis}
use Rattle.lease6_judge.specs.HeardLaws.{HeldAddressesWereHeard, HeldWasHeard}
use Rattle.life_audit.specs.Laws.{HeardAddress, HeardBasisIn, HeldBasis, LinesRestOnEvidence, meets_told}
use Rattle.life_audit.proofs.LinesRest.{told_lines_rest}

module _ (items : HeldWasHeard) (addresses : HeldAddressesWereHeard) where
  own_widened : (site : Site) (net : Net) (past : List Entry) → BasisWith LeasedBasis6 site net past → BasisWith HeardAddress site net past
  own_widened site net past (inl static) = inl static
  own_widened site net past (inr (inl local)) = inr (inl local)
  own_widened site net past (inr (inr (inl leased))) = inr (inr (inl leased))
  own_widened site net past (inr (inr (inr (inl leased)))) = inr (inr (inr (inl (addresses site net (now_in past) past leased))))
  own_widened site net past (inr (inr (inr (inr kept)))) = inr (inr (inr (inr kept)))

  item_widened : (site : Site) (ask : IaAsk) (net : Net6) (past : List Entry) → RestsWith ItemBasis site ask net (now_in past) past
      → RestsWith HeardBasis site ask net (now_in past) past
  item_widened site ask net past (inl given) = inl (items site ask net (now_in past) past given)
  item_widened site ask net past (inr kept) = inr kept

  widened : (managed : List Managed) (sites : Managed → Site) (past : List Entry) (index : IfIndex) (net : Net)
      → HeldBasis managed sites past index net → HeardBasisIn managed sites past index net
  widened managed sites past index net (inl own) =
      inl (record { holder = own.holder; among = own.among; is_here = own.is_here; basis = own_widened (sites own.holder) net past own.basis })
  widened managed sites past index net (inr shared) =
      let share = shared.basis in
      inr (record {
        upstream = shared.upstream;
        among = shared.among;
        basis = record {
          ask = share.ask;
          asked = share.asked;
          is_prefix = share.is_prefix;
          prefix = share.prefix;
          basis = item_widened (sites shared.upstream) share.ask share.prefix past share.basis;
          share = share.share;
          configured = share.configured;
          of_the_prefixes = share.of_the_prefixes;
          is_for = share.is_for;
          is_another = share.is_another;
          subnet = share.subnet;
          is_subnet = share.is_subnet;
          gives = share.gives;
        };
      })

  pub heard_lines_rest : LinesRestOnEvidence HeardBasisIn meets_told
  heard_lines_rest managed specs world coming fit shares others numbered named octets order early front rest split judged index net is =
      widened managed _ _ index net
      (told_lines_rest managed specs world coming fit shares others numbered named octets order early front rest split judged index net is)
