-- What an interface says: a message of one of its protocols.
use Rattle.v4_client.specs.ArpAcd.declared.detection.ArpSay.{ArpSay}
use Rattle.v4_client.specs.declared.states.Say4.{Say4}
use Rattle.v6_frames.specs.Spelled.{Sent6}

pub data Said : Type 0 where
  Dhcp4 : Say4 → Said
  Arp : ArpSay → Said
  -- with the hardware address and the DUID of who says it
  Dhcp6 : Sent6 → Said
