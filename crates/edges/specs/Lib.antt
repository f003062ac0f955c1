pub use Rattle.loop_link.specs.Ports
