-- A client's message, byte for byte (RFC 2131, sections 2 and 4.4.1).
use Rattle.std.specs.Prelude.{ℕ, ◌-◌, ◌<◌, List, [], ◌∷◌, ◌++◌, length, map, replicate, Option, Some, None}
use Rattle.std.specs.Int.{w16, w32, to_be_bytes}
use Rattle.net_types.specs.declared.address.Ip4.{Ip4}
use Rattle.v4_options.specs.OptionArea.{Instance}
use Rattle.v4_options.specs.AreaGrammar.{Part, option, area_text}
use Rattle.v4_message.specs.declared.writing.Kind4.{Kind4}
use Rattle.v4_message.specs.declared.writing.Kind4.TheVariants.{Discover, Request, Decline, Release}
use Rattle.v4_message.specs.declared.writing.Ask4.{Ask4}
use Rattle.v4_message.specs.declared.writing.Said4.{Said4}

-- what a client says of itself, as the bytes of each field
pub record AskContent : Type 0 where
  pub client_id : List ℕ
  pub vendor : List ℕ
  pub host : List ℕ
  pub list : List ℕ

abbrev pub ask_content : Ask4 → AskContent
ask_content ask = record {
  client_id = ask.client_id.items;
  vendor = ask.vendor.items;
  host = ask.host.items;
  list = ask.list.items;
}

-- each field fits an option
pub record AskFits (ask : AskContent) : Type 0 where
  pub client_id : length ask.client_id < 256
  pub vendor : length ask.vendor < 256
  pub host : length ask.host < 256
  pub list : length ask.list < 256

abbrev pub number_of_kind : Kind4 → ℕ
number_of_kind Discover = 1
number_of_kind Request = 3
number_of_kind Decline = 4
number_of_kind Release = 7

-- ---- the options

abbrev pub address_option : ℕ → Option Ip4 → List Instance
address_option code None = []
address_option code (Some address) = (code, to_be_bytes w32 address.number) ∷ []

-- an empty text is left out
abbrev pub text_option : ℕ → List ℕ → List Instance
text_option code [] = []
text_option code (b ∷ text) = (code, b ∷ text) ∷ []

-- the largest message that is taken, 1472, the vendor and the host where they are set, and the codes that are wanted
abbrev pub asked_for : AskContent → List Instance
asked_for ask =
    (57, 5 ∷ 192 ∷ []) ∷ text_option 60 ask.vendor ++ text_option 12 ask.host ++ (55, ask.list) ∷ []

abbrev pub asked_for_in : Kind4 → AskContent → List Instance
asked_for_in Discover ask = asked_for ask
asked_for_in Request ask = asked_for ask
asked_for_in Decline ask = []
asked_for_in Release ask = []

-- the options of a message, in their order
abbrev pub said_options : Said4 → AskContent → List Instance
said_options said ask =
    (53, number_of_kind said.kind ∷ []) ∷ (61, ask.client_id)
    ∷ (address_option 50 said.asked ++ address_option 54 said.server ++ asked_for_in said.kind ask)

-- ---- the bytes

abbrev pub option_part : Instance → Part
option_part instance = option instance.0 instance.1

abbrev pub options_text : List Instance → List ℕ
options_text instances = area_text (map option_part instances)

-- op 1, htype 1, hlen 6, hops 0, xid, secs, flags, ciaddr
abbrev pub exchange_fields : Said4 → List ℕ
exchange_fields said =
    (1 ∷ 1 ∷ 6 ∷ 0 ∷ []) ++ to_be_bytes w32 said.xid ++ to_be_bytes w16 said.secs ++ to_be_bytes w16 said.flags
    ++ to_be_bytes w32 said.ciaddr.number

-- yiaddr, siaddr and giaddr of 0, chaddr, no sname, no file, the cookie
abbrev pub client_fields : Said4 → List ℕ
client_fields said = replicate 12 0 ++ said.mac.bytes ++ replicate 202 0 ++ (0x63 ∷ 0x82 ∷ 0x53 ∷ 0x63 ∷ [])

abbrev pub fixed_fields : Said4 → List ℕ
fixed_fields said = exchange_fields said ++ client_fields said

abbrev pub message_text : Said4 → AskContent → List ℕ
message_text said ask = fixed_fields said ++ options_text (said_options said ask) ++ 255 ∷ []

-- zeros up to 300 bytes
abbrev pub padded : List ℕ → List ℕ
padded text = text ++ replicate (300 - length text) 0
