pub mod ShareLife
