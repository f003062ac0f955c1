-- A client's message is read back from its bytes.
use Rattle.std.proofs.Common.{◌≡◌, ℕ, ◌<◌, ◌^◌, List, length, Option, Some, refl, sym, ap, subst, ◌∙◌}
use Rattle.std.specs.Prelude.{option_map, option_and_then, flat_map}
use Rattle.std.proofs.lemmas.Nat.{from_be_bytes-to_be_bytes_2, from_be_bytes-to_be_bytes_4}
use Rattle.net_types.specs.Fields.{u16_field, u32_field, ip4_field, mac_field}
use Rattle.frame_link.proofs.Cells.{six, six_cells}
use Rattle.v4_options.specs.OptionValue.{only_byte, byte_of}
use Rattle.v4_message.specs.Message.{message_instances}
use Rattle.v4_message.specs.Messages.{address_at}
use Rattle.v4_message.specs.Requests.{AskContent, AskFits, asked_for_in, number_of_kind, said_options, message_text, padded}
use Rattle.v4_message.specs.declared.writing.Kind4.{Kind4}
use Rattle.v4_message.specs.declared.writing.Said4.{Said4}
use Rattle.v4_message.proofs.SaidOptions.{said_is_read, fixed_len}
use Rattle.v4_frames.specs.declared.sent.Sent4.{Sent4}
use Rattle.v4_frames.specs.InRange.{FitsSent}
use Rattle.v4_frames.specs.Spelled.{kind_numbered, said_as, said_in}
use Rattle.v4_frames.proofs.Options.{kind_back, asked_beside, one_kind, asked_back, server_back}

abbrev with_mac : Said4 → List ℕ → Said4
with_mac said bytes = record said { mac = record { bytes = bytes } }

mac_cells : (said : Said4) (ask : AskContent) (m : List ℕ) → mac_field 28 (padded (message_text (with_mac said (six m)) ask)) ≡ record { bytes = six m }
mac_cells said ask m = refl

module _ (said : Said4) (ask : AskContent) where
  abbrev bytes : List ℕ
  bytes = padded (message_text said ask)

  xid_back : said.xid < 2 ^ 32 → u32_field 4 bytes ≡ said.xid
  xid_back fits = from_be_bytes-to_be_bytes_4 said.xid fits

  secs_back : said.secs < 2 ^ 16 → u16_field 8 bytes ≡ said.secs
  secs_back fits = from_be_bytes-to_be_bytes_2 said.secs fits

  flags_back : said.flags < 2 ^ 16 → u16_field 10 bytes ≡ said.flags
  flags_back fits = from_be_bytes-to_be_bytes_2 said.flags fits

  ciaddr_back : said.ciaddr.number < 2 ^ 32 → ip4_field 12 bytes ≡ said.ciaddr
  ciaddr_back fits = ap (λ (n : ℕ). record { number = n }) (from_be_bytes-to_be_bytes_4 said.ciaddr.number fits)

  mac_back : length said.mac.bytes ≡ 6 → mac_field 28 bytes ≡ said.mac
  mac_back len =
      subst (λ (m : List ℕ). mac_field 28 (padded (message_text (with_mac said m) ask)) ≡ record { bytes = m }) (sym (six_cells said.mac.bytes len))
      (mac_cells said ask said.mac.bytes)

pub message_back : (ask : AskContent) (sent : Sent4) → AskFits ask → FitsSent sent → said_in (padded (message_text sent.said ask)) ≡ Some sent.said
unfolding said_in
message_back ask sent ask_fits fits =
    let said = sent.said in
    let message = padded (message_text said ask) in
    let kind = number_of_kind said.kind in
    let more = asked_for_in said.kind ask in
    let beside = asked_beside said.kind ask in
    let are : message_instances message ≡ said_options said ask = said_is_read said ask ask_fits (fixed_len said fits.mac) in
    let kind_is : byte_of 53 (message_instances message) ≡ Some kind =
    ap (byte_of 53) are
    ∙ ap (λ (ps : List (List ℕ)). only_byte (flat_map (λ piece. piece) ps)) (one_kind kind ask.client_id more beside said.asked said.server) in
    let asked_is : address_at 50 (message_instances message) ≡ said.asked =
    ap (address_at 50) are ∙ asked_back kind ask.client_id more beside said.asked said.server fits.asked in
    let server_is : address_at 54 (message_instances message) ≡ said.server =
    ap (address_at 54) are ∙ server_back kind ask.client_id more beside said.asked said.server fits.server in
    let same : said_as message (message_instances message) said.kind ≡ said =
    λ i. record {
      kind = said.kind;
      xid = xid_back said ask fits.xid i;
      secs = secs_back said ask fits.secs i;
      flags = flags_back said ask fits.flags i;
      ciaddr = ciaddr_back said ask fits.ciaddr i;
      mac = mac_back said ask fits.mac i;
      asked = asked_is i;
      server = server_is i;
    } in
    ap (λ (k : Option Kind4). option_map (said_as message (message_instances message)) k) (ap (option_and_then kind_numbered) kind_is ∙ kind_back said.kind)
    ∙ ap (λ (s : Said4). Some s) same
