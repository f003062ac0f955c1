use Rattle.lease6_text.specs.Leases.{lease6_content}
use Rattle.std.proofs.Common.{option_map}
use Rattle.v6_client.proofs.FewAsked.{few_in_memory}
use Rattle.v6_client.proofs.saying.spoken_by.Goals as goal

pub invariant_of-result : goal.invariant_of-result
invariant_of-result c = record {
  few = few_in_memory c.in_ok-ias.ias.items c.args.say.kind c.args.scope c.args.asks.now (option_map lease6_content c.args.leases.now.kept)
      c.plea_ias-stood.result.now c.in_ok-ias.ensures c.requires c.plea_ias-stood.ensures.few;
}
