-- An interface as a life begins, in the words of the definitions.
use Rattle.std.specs.Prelude.{option_map}
use Rattle.lease_text.specs.Leases.{lease_content}
use Rattle.lease6_text.specs.Leases.{lease6_content}
use Rattle.client_model.specs.KeptLeases as model
use Rattle.iface_machines.specs.declared.beginnings.Beginning.{Beginning}

abbrev pub beginning_of : Beginning → model.Beginning
beginning_of beginning = record {
  managed = beginning.managed;
  duid = beginning.duid.bytes.items;
  kept4 = option_map lease_content beginning.kept4;
  kept6 = option_map lease6_content beginning.kept6;
}
