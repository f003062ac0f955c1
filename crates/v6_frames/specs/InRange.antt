-- A message that an interface with a hardware address of six bytes says, and whose numbers fit their fields.
use Rattle.std.specs.Prelude.{◌≡◌, length}
use Rattle.v6_message.specs.ReadBack.{FitsSaid}
use Rattle.v6_frames.specs.Spelled.{Sent6}

pub record FitsSent6 (sent : Sent6) : Type 0 where
  pub mac : length sent.mac.bytes ≡ 6
  pub said : FitsSaid sent.said
