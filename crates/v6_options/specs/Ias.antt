-- Identity associations, and their addresses and prefixes (RFC 8415, sections 21.4, 21.6, 21.21 and 21.22).
use Rattle.std.specs.Prelude.{ℕ, List, drop, slice_index, Option, Some, None, ◌==◌, ◌&&◌, if◌then◌else◌}
use Rattle.std.specs.List.{filter_map}
use Rattle.std.specs.Int.{w32, w128, from_be_bytes}
use Rattle.net_types.specs.declared.address.Ip6.{Ip6}
use Rattle.v6_options.specs.declared.ia.IaKind.{IaKind}
use Rattle.v6_options.specs.declared.ia.IaKind.TheVariants.{Na, Pd}
use Rattle.v6_options.specs.declared.ia.ItemSaid.{ItemSaid}
use Rattle.v6_options.specs.Layout.{ia_fields_len, address_fields_len, prefix_fields_len}
use Rattle.v6_options.specs.Codes.{ia_na, ia_address, ia_pd, ia_prefix}
use Rattle.v6_options.specs.OptionArea.{Instance, field, instances_in}
use Rattle.v6_options.specs.Statuses.{success, status_in}

abbrev pub number_in : ℕ → List ℕ → ℕ
number_in at bytes = from_be_bytes w32 (field at 4 bytes)

abbrev pub ip6_in : ℕ → List ℕ → Ip6
ip6_in at bytes = record { number = from_be_bytes w128 (field at 16 bytes) }

-- an address, its preferred lifetime and its valid lifetime
abbrev pub address_in : List ℕ → ItemSaid
address_in value = record {
  net = record { ip = ip6_in 0 value; len = 128 };
  preferred = number_in 16 value;
  valid = number_in 20 value;
}

-- a preferred lifetime, a valid lifetime, a prefix's length and the prefix
abbrev pub prefix_in : List ℕ → ItemSaid
prefix_in value = record {
  net = record { ip = ip6_in 9 value; len = slice_index value 8 };
  preferred = number_in 0 value;
  valid = number_in 4 value;
}

-- An address or a prefix, as the kind of its IA has it. One with a status of its own other than success isn't given.
abbrev pub item_by : IaKind → Instance → Option ItemSaid
item_by Na instance =
    if (instance.0 == ia_address) && (status_in (drop address_fields_len instance.1) == success)
    then Some (address_in instance.1) else None
item_by Pd instance =
    if (instance.0 == ia_prefix) && (status_in (drop prefix_fields_len instance.1) == success)
    then Some (prefix_in instance.1) else None

abbrev pub items_in : IaKind → List ℕ → List ItemSaid
items_in kind options = filter_map (item_by kind) (instances_in options)

-- what an IA says; T1 and T2 are seconds
pub record IaContent : Type 0 where
  pub kind : IaKind
  pub iaid : ℕ
  pub t1 : ℕ
  pub t2 : ℕ
  pub status : ℕ
  pub items : List ItemSaid

-- an IAID, T1, T2, and options
abbrev pub ia_in : IaKind → List ℕ → IaContent
ia_in kind value = record {
  kind = kind;
  iaid = number_in 0 value;
  t1 = number_in 4 value;
  t2 = number_in 8 value;
  status = status_in (drop ia_fields_len value);
  items = items_in kind (drop ia_fields_len value);
}

abbrev pub ia_by : Instance → Option IaContent
ia_by instance =
    if instance.0 == ia_na then Some (ia_in Na instance.1)
    else if instance.0 == ia_pd then Some (ia_in Pd instance.1)
    else None

-- the IAs among options, in their order
abbrev pub ias_in : List ℕ → List IaContent
ias_in options = filter_map ia_by (instances_in options)
