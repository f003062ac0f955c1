-- Parts without where they lie in memory.
use Rattle.std.specs.Prelude.{ℕ, List, map}
use Rattle.std.specs.String.{string_bytes}
use Rattle.net_types.specs.declared.interface.IfIndex.{IfIndex}
use Rattle.net_types.specs.declared.interface.Name.{Name}
use Rattle.resolver_text.specs.declared.part.Family.{Family}
use Rattle.resolver_text.specs.declared.part.Server.{Server}
use Rattle.resolver_text.specs.declared.part.Part.{Part}

pub record PartContent : Type 0 where
  pub metric : ℕ
  pub index : IfIndex
  pub name : Name
  pub family : Family
  pub servers : List Server
  pub names : List (List ℕ)

abbrev pub part_content : Part → PartContent
part_content part = record {
  metric = part.metric;
  index = part.index;
  name = part.name;
  family = part.family;
  servers = part.servers.items;
  names = map (λ name. string_bytes name) part.names.items;
}

abbrev pub parts_content : List Part → List PartContent
parts_content parts = map part_content parts
