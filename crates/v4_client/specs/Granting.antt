-- What an acceptable ACK gives the lease (RFC 2131, sections 4.3.1 and 4.4.1; RFC 2132).
use Rattle.std.specs.Prelude.{ℕ, ◌*◌, ◌/◌, ◌&&◌, List, [], ◌∷◌, length, Option, Some, None, ◌==◌, nat_lt, if◌then◌else◌}
use Rattle.std.specs.List.{flat_map}
use Rattle.net_types.specs.declared.address.Ip4.{Ip4}
use Rattle.net_types.specs.Networks.{mask_len}
use Rattle.v4_options.specs.declared.code.TheConstants.{SUBNET_MASK, RENEWAL_TIME, REBINDING_TIME}
use Rattle.v4_options.specs.OptionArea.{Instance}
use Rattle.v4_options.specs.OptionValue.{value_of}
use Rattle.lease_text.specs.declared.lease.Terms4.{Terms4}
use Rattle.lease_text.specs.declared.lease.TheConstants.{INFINITE_LEASE}
use Rattle.lease_text.specs.Leases.{ValueContent, first_byte}
use Rattle.v4_options.specs.declared.table.TheConstants.{KEPT_CODES}
use Rattle.v4_client.specs.declared.states.Exchange4.{Exchange4}
use Rattle.v4_message.specs.Messages.{address_at}
use Rattle.v4_client.specs.Messages.{Arrival, can_be_kept, number_at, is_among}
use Rattle.v4_client.specs.Settings.{SettingsContent}
use Rattle.v4_client.specs.declared.options.Times4.{Times4}

-- the length of an address by its class (RFC 791, section 3.2)
abbrev pub class_len : Ip4 → ℕ
class_len address =
    if nat_lt (first_byte address) 128 then 8
    else if nat_lt (first_byte address) 192 then 16
    else 24

-- the leading ones of the mask, where it has some; else the length by class
abbrev pub net_len : Ip4 → Option Ip4 → ℕ
net_len address None = class_len address
net_len address (Some mask) = if mask_len mask == 0 then class_len address else mask_len mask

-- T1 and T2 by half and seven eighths of the time (section 4.4.5)
abbrev pub usual_times : (lease : ℕ) → Times4
usual_times lease = record { t1 = lease / 2; t2 = lease * 7 / 8 }

-- those that the server tells, where they are in order within the lease
abbrev pub told_times : (lease : ℕ) → Option ℕ → Option ℕ → Times4
told_times lease None t2 = usual_times lease
told_times lease (Some t1) None = usual_times lease
told_times lease (Some t1) (Some t2) =
    if nat_lt 0 t1 && nat_lt t1 t2 && nat_lt t2 lease then record { t1 = t1; t2 = t2 } else usual_times lease

-- an infinite lease is never renewed
abbrev pub times_of : (lease : ℕ) → Option ℕ → Option ℕ → Times4
times_of lease t1 t2 =
    if lease == INFINITE_LEASE
    then record { t1 = INFINITE_LEASE; t2 = INFINITE_LEASE }
    else told_times lease t1 t2

-- a code that is refused isn't taken
abbrev pub unless_refused : {A : Type 0} → (refused : List ℕ) → (code : ℕ) → Option A → Option A
unless_refused refused code value = if is_among refused code then None else value

abbrev pub mask_taken : (refused : List ℕ) → List Instance → Option Ip4
mask_taken refused instances = unless_refused refused SUBNET_MASK (address_at SUBNET_MASK instances)

abbrev pub times_taken : (refused : List ℕ) → List Instance → (lease : ℕ) → Times4
times_taken refused instances lease =
    times_of lease (unless_refused refused RENEWAL_TIME (number_at RENEWAL_TIME instances))
    (unless_refused refused REBINDING_TIME (number_at REBINDING_TIME instances))

-- the terms of the lease that an exchange is granted; it was confirmed when the ACK was heard
abbrev pub terms_granted : SettingsContent → Arrival → Exchange4 → (server : Ip4) → (lease : ℕ) → Terms4
terms_granted settings arrival exchange server lease =
    let times : Times4 = times_taken settings.refused arrival.message.instances lease in
    record {
      origin = Some (record { mac = settings.site.iface.mac; confirmed = arrival.at });
      net = record {
        ip = exchange.address;
        len = net_len exchange.address (mask_taken settings.refused arrival.message.instances);
      };
      server = server;
      server_mac = arrival.source;
      first = exchange.first;
      lease = lease;
      t1 = times.t1;
      t2 = times.t2;
    }

-- ---- the values that the lease keeps

abbrev pub kept_value : (code : ℕ) → Option (List ℕ) → List ValueContent
kept_value code None = []
kept_value code (Some value) =
    if can_be_kept code value
    then record { code = code; bytes = value } ∷ []
    else []

abbrev pub kept_of : (refused : List ℕ) → List Instance → (code : ℕ) → List ValueContent
kept_of refused instances code = kept_value code (unless_refused refused code (value_of code instances))

-- those that are there, of the form of their code, not too long, and not refused
abbrev pub kept_values : (refused : List ℕ) → List Instance → List ValueContent
kept_values refused instances =
    flat_map (kept_of refused instances) KEPT_CODES
