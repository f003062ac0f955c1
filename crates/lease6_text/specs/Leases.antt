-- A DHCPv6 lease without where it lies in memory.
use Rattle.std.specs.Prelude.{ℕ, List, map, Option}
use Rattle.net_types.specs.declared.interface.Name.{Name}
use Rattle.v6_options.specs.declared.ia.IaKind.{IaKind}
use Rattle.lease_text.specs.declared.lease.Origin.{Origin}
use Rattle.lease_text.specs.Leases.{ValueContent, values_content}
use Rattle.lease6_text.specs.declared.lease.Item6.{Item6}
use Rattle.lease6_text.specs.declared.lease.IaLease.{IaLease}
use Rattle.lease6_text.specs.declared.lease.Lease6.{Lease6}

-- an IA with what was granted for it
pub record IaLeaseContent : Type 0 where
  pub kind : IaKind
  pub iaid : ℕ
  pub items : List Item6

-- `server` is the bytes of its DUID
pub record Lease6Content : Type 0 where
  pub origin : Option Origin
  pub name : Name
  pub server : List ℕ
  pub t1 : Option ℕ
  pub t2 : Option ℕ
  pub ias : List IaLeaseContent
  pub values : List ValueContent

abbrev pub ia_content : IaLease → IaLeaseContent
ia_content ia = record { kind = ia.kind; iaid = ia.iaid; items = ia.items.items }

abbrev pub ias_content : List IaLease → List IaLeaseContent
ias_content ias = map ia_content ias

abbrev pub lease6_content : Lease6 → Lease6Content
lease6_content lease = record {
  origin = lease.origin;
  name = lease.name;
  server = lease.server.bytes.items;
  t1 = lease.t1;
  t2 = lease.t2;
  ias = ias_content lease.ias.items;
  values = values_content lease.values.items;
}
