pub mod Packets
pub mod Packets6
pub mod Datagrams
pub mod Udp4Frames
pub mod Udp6Frames
pub mod LinkLocal6
