-- What a packet that borrows its bytes shows.
use Rattle.capture_script.specs.declared.packets.Packet.{Packet as PacketView}
use Rattle.capture_script.specs.Captures.{Packet}

abbrev pub packet_shown : PacketView → Packet
packet_shown packet = record { at = packet.at; bytes = packet.bytes.now }
