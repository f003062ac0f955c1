-- A message whose numbers fit their fields.
use Rattle.std.specs.Prelude.{◌≡◌, ◌<◌, ◌^◌, length, IfSome}
use Rattle.net_types.specs.declared.address.Ip4.{Ip4}
use Rattle.net_types.specs.declared.address.Mac.{Mac}
use Rattle.v4_frames.specs.declared.sent.Sent4.{Sent4}

abbrev pub FitsIp4 : Ip4 → Type 0
FitsIp4 ip = ip.number < 2 ^ 32

abbrev pub FitsMac : Mac → Type 0
FitsMac mac = length mac.bytes ≡ 6

pub record FitsSent (sent : Sent4) : Type 0 where
  pub from_mac : FitsMac sent.ends.from_mac
  pub to_mac : FitsMac sent.ends.to_mac
  pub from : FitsIp4 sent.ends.from
  pub to : FitsIp4 sent.ends.to
  pub xid : sent.said.xid < 2 ^ 32
  pub secs : sent.said.secs < 2 ^ 16
  pub flags : sent.said.flags < 2 ^ 16
  pub ciaddr : FitsIp4 sent.said.ciaddr
  pub mac : FitsMac sent.said.mac
  pub asked : IfSome sent.said.asked FitsIp4
  pub server : IfSome sent.said.server FitsIp4
