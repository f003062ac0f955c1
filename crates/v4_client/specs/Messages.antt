-- What a client reads of a server's message.
use Rattle.std.specs.Prelude.{ℕ, Bool, false, List, length, Option, Some, None, ◌==◌, ◌&&◌, nat_le}
use Rattle.std.specs.List.{list_any, list_all}
use Rattle.net_types.specs.declared.address.Mac.{Mac}
use Rattle.v4_options.specs.OptionArea.{Instance}
pub use Rattle.v4_options.specs.Numbers.{number_at}
use Rattle.v4_options.specs.OptionValue.{value_of}
use Rattle.v4_message.specs.declared.reading.Msg4.{Msg4}
use Rattle.v4_message.specs.Messages.{Message4, message_of}
use Rattle.lease_text.specs.declared.lease.TheConstants.{VALUE_LIMIT}
use Rattle.v4_options.specs.ValueForms.{is_well_formed}
use Rattle.v4_client.specs.declared.answers.Arrival4.{Arrival4}

-- a message as it was heard: the hardware address that it came from, and the moment
pub record Arrival : Type 0 where
  pub message : Message4
  pub source : Mac
  pub at : ℕ

abbrev pub arrival_from : (source : Mac) → (at : ℕ) → Msg4 → Arrival
arrival_from source at message = record { message = message_of message; source = source; at = at }

abbrev pub arrival_of : Arrival4 → Arrival
arrival_of arrival = arrival_from arrival.source arrival.at arrival.message

-- a value has the form of its code, and no more bytes than a lease keeps: a frame can't bring more
abbrev pub can_be_kept : (code : ℕ) → (value : List ℕ) → Bool
can_be_kept code value = nat_le (length value) VALUE_LIMIT && is_well_formed code value

-- an option is there where it has an instance, and its value can be kept
abbrev pub is_value_there : (code : ℕ) → Option (List ℕ) → Bool
is_value_there code None = false
is_value_there code (Some value) = can_be_kept code value

abbrev pub is_there : List Instance → (code : ℕ) → Bool
is_there instances code = is_value_there code (value_of code instances)

abbrev pub are_there : List Instance → (codes : List ℕ) → Bool
are_there instances codes = list_all (is_there instances) codes

abbrev pub is_among : (codes : List ℕ) → (code : ℕ) → Bool
is_among codes code = list_any (λ other. other == code) codes
