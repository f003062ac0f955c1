use Rattle.v4_options.specs.OptionViews.{view_instances}
use Rattle.v4_client.proofs.SoundClients.{values_fit}
use Rattle.v4_client.proofs.client.Client4.bring.Goals as goal

pub invariant_of-self : goal.invariant_of-self
invariant_of-self c = record {
  name = c.self.invariant.name;
  ask = c.self.invariant.ask;
  state = c.self.invariant.state;
  kept = c.self.invariant.kept;
  held = c.self.invariant.held;
  fresh = rw c.in_ok-self-inside-in-Ack.ensures (values_fit c.deref.result.now (view_instances c.args.options.now));
}
