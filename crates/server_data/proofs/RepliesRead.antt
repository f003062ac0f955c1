-- The bytes of a reply are read as that reply.
use Rattle.std.proofs.Common.{◌≡◌, ℕ, ◌<◌, ◌≤◌, ◌^◌, List, length, Some, refl, sym, ap, subst, ◌∙◌, arith}
use Rattle.std.proofs.lemmas.Nat.{from_be_bytes-to_be_bytes_4}
use Rattle.net_types.specs.declared.address.Ip4.{Ip4}
use Rattle.net_types.specs.Fields.{u32_field, ip4_field}
use Rattle.frame_link.proofs.Cells.{six, six_cells}
use Rattle.v4_options.specs.OptionArea.{front_of, instances_in, malformed_in}
use Rattle.v4_options.specs.Overload.{overload_in}
use Rattle.v4_message.specs.Message.{message_instances, malformed_place}
use Rattle.v4_message.specs.Messages.{Message4, message_in}
use Rattle.server_data.specs.declared.reply.ReplyKind.{ReplyKind}
use Rattle.server_data.specs.declared.reply.ReplyKind.TheVariants.{Offer, Ack, Nak}
use Rattle.server_data.specs.declared.reply.Reply.{Reply}
use Rattle.server_data.specs.Replies.{given_by, reply_options, reply_text}
use Rattle.server_data.specs.ReadBack.{message_kind, ReadsBack}

-- the message with these numbers
abbrev read_as : Reply → (xid : ℕ) → (yiaddr : Ip4) → Message4
read_as reply xid yiaddr = record {
  kind = message_kind reply.kind;
  xid = xid;
  yiaddr = yiaddr;
  chaddr = reply.chaddr;
  instances = reply_options reply;
}

abbrev with_kind : ReplyKind → (chaddr : List ℕ) → Reply → Reply
with_kind kind chaddr reply = record reply { kind = kind; chaddr = record { bytes = chaddr } }

abbrev Seen : Reply → Type 0
Seen reply = message_in (reply_text reply) ≡ Some (read_as reply (u32_field 4 (reply_text reply)) (ip4_field 16 (reply_text reply)))

seen : (kind : ReplyKind) (m : List ℕ) (reply : Reply) → Seen (with_kind kind (six m) reply)
unfolding message_in message_instances malformed_place overload_in instances_in malformed_in front_of
seen Offer m reply = refl
seen Ack m reply = refl
seen Nak m reply = refl

seen_by : (kind : ReplyKind) (m : List ℕ) (reply : Reply) → length m ≡ 6 → Seen (with_kind kind m reply)
seen_by kind m reply len = subst (λ (n : List ℕ). Seen (with_kind kind n reply)) (sym (six_cells m len)) (seen kind m reply)

given_fits : (kind : ReplyKind) (address : Ip4) → address.number < 2 ^ 32 → (given_by kind address).number < 2 ^ 32
given_fits Offer address fits = fits
given_fits Ack address fits = fits
given_fits Nak address fits = omega arith

module _ (reply : Reply) where
  xid_back : reply.xid < 2 ^ 32 → u32_field 4 (reply_text reply) ≡ reply.xid
  xid_back fits = from_be_bytes-to_be_bytes_4 reply.xid fits

  yiaddr_back : reply.yiaddr.number < 2 ^ 32 → ip4_field 16 (reply_text reply) ≡ given_by reply.kind reply.yiaddr
  yiaddr_back fits =
      ap (λ (n : ℕ). record { number = n }) (from_be_bytes-to_be_bytes_4 (given_by reply.kind reply.yiaddr).number (given_fits reply.kind reply.yiaddr fits))

pub reads_back : ReadsBack
reads_back reply fits =
    seen_by reply.kind reply.chaddr.bytes reply fits.chaddr
    ∙ ap (λ (xid : ℕ). Some (read_as reply xid (ip4_field 16 (reply_text reply)))) (xid_back reply fits.xid)
    ∙ ap (λ (yiaddr : Ip4). Some (read_as reply reply.xid yiaddr)) (yiaddr_back reply fits.yiaddr)

granted_most : (kind : ReplyKind) (m : List ℕ) (reply : Reply) → length (reply_text (with_kind kind (six m) reply)) ≤ 262
granted_most Offer m reply = omega arith
granted_most Ack m reply = omega arith
granted_most Nak m reply = omega arith

pub reply_most : (reply : Reply) → length reply.chaddr.bytes ≡ 6 → length (reply_text reply) ≤ 262
reply_most reply len =
    subst (λ (n : List ℕ). length (reply_text (with_kind reply.kind n reply)) ≤ 262) (sym (six_cells reply.chaddr.bytes len))
    (granted_most reply.kind reply.chaddr.bytes reply)
