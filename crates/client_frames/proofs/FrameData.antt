-- What stands behind the headers of a frame.
use Rattle.std.proofs.Common.{◌≡◌, ℕ, List, length, drop, refl, sym, subst}
use Rattle.net_types.specs.declared.address.Ip4.{Ip4}
use Rattle.frame_link.proofs.Cells.{six, six_cells}
use Rattle.udp_frame.specs.Udp4Frames.{udp4_text, udp4_frame_text}
use Rattle.v4_message.specs.Requests.{AskContent, message_text, padded}
use Rattle.v4_frames.specs.declared.sent.Sent4.{Sent4}
use Rattle.v4_frames.specs.declared.sent.TheConstants.{CLIENT_PORT, SERVER_PORT}
use Rattle.v4_frames.specs.Spelled.{frame_of}
use Rattle.v4_frames.proofs.FramesBack.{between}

module _ (from to : Ip4) (payload : List ℕ) where
  abbrev HasData : (from_mac to_mac : List ℕ) → Type 0
  HasData from_mac to_mac = drop 42 (udp4_frame_text (between from_mac to_mac from to) CLIENT_PORT SERVER_PORT payload) ≡ payload

  data_cells : (f t : List ℕ) → HasData (six f) (six t)
  unfolding udp4_frame_text udp4_text
  data_cells f t = refl

  has_data : (f t : List ℕ) → length f ≡ 6 → length t ≡ 6 → HasData f t
  has_data f t f_len t_len =
      subst (λ (m : List ℕ). HasData m t) (sym (six_cells f f_len)) (subst (λ (m : List ℕ). HasData (six f) m) (sym (six_cells t t_len)) (data_cells f t))

pub data_of : (ask : AskContent) (sent : Sent4) → length sent.ends.from_mac.bytes ≡ 6 → length sent.ends.to_mac.bytes ≡ 6
    → drop 42 (frame_of ask sent) ≡ padded (message_text sent.said ask)
data_of ask sent from_len to_len =
    has_data sent.ends.from sent.ends.to (padded (message_text sent.said ask)) sent.ends.from_mac.bytes sent.ends.to_mac.bytes from_len to_len
