-- A lease without where it lies in memory.
use Rattle.std.specs.Prelude.{ℕ, ◌/◌, ◌^◌, Bool, not, ◌&&◌, ◌==◌, nat_le, List, map, Option}
use Rattle.net_types.specs.declared.address.Ip4.{Ip4}
use Rattle.net_types.specs.declared.address.Mac.{Mac}
use Rattle.net_types.specs.declared.address.Net4.{Net4}
use Rattle.net_types.specs.declared.interface.Name.{Name}
use Rattle.lease_text.specs.declared.lease.Origin.{Origin}
use Rattle.lease_text.specs.declared.lease.Value.{Value}
use Rattle.lease_text.specs.declared.lease.Lease4.{Lease4}
use Rattle.lease_text.specs.declared.lease.Terms4.{Terms4}

pub record ValueContent : Type 0 where
  pub code : ℕ
  pub bytes : List ℕ

pub record LeaseContent : Type 0 where
  pub origin : Option Origin
  pub name : Name
  pub net : Net4
  pub server : Ip4
  pub server_mac : Mac
  pub first : ℕ
  pub lease : ℕ
  pub t1 : ℕ
  pub t2 : ℕ
  pub values : List ValueContent

abbrev pub value_content : Value → ValueContent
value_content value = record { code = value.code; bytes = value.bytes.items }

abbrev pub values_content : List Value → List ValueContent
values_content values = map value_content values

abbrev pub lease_content : Lease4 → LeaseContent
lease_content lease = record {
  origin = lease.origin;
  name = lease.name;
  net = lease.net;
  server = lease.server;
  server_mac = lease.server_mac;
  first = lease.first;
  lease = lease.lease;
  t1 = lease.t1;
  t2 = lease.t2;
  values = values_content lease.values.items;
}

abbrev pub lease_with : Name → Terms4 → List ValueContent → LeaseContent
lease_with name terms values = record {
  origin = terms.origin;
  name = name;
  net = terms.net;
  server = terms.server;
  server_mac = terms.server_mac;
  first = terms.first;
  lease = terms.lease;
  t1 = terms.t1;
  t2 = terms.t2;
  values = values;
}

abbrev pub terms_of : LeaseContent → Terms4
terms_of lease = record {
  origin = lease.origin;
  net = lease.net;
  server = lease.server;
  server_mac = lease.server_mac;
  first = lease.first;
  lease = lease.lease;
  t1 = lease.t1;
  t2 = lease.t2;
}

-- the first byte of an address
abbrev pub first_byte : Ip4 → ℕ
first_byte address = address.number / 2 ^ 24

-- an address that a host may have: its first byte is 1 to 223 and isn't 127 (RFC 1122, section 3.2.1.3)
abbrev pub is_host_address : Ip4 → Bool
is_host_address address =
    nat_le 1 (first_byte address) && nat_le (first_byte address) 223 && not (first_byte address == 127)
