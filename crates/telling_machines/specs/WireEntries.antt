-- The call that an entry of a record stands for.
use Rattle.std.specs.Prelude.{Ok, Err}
use Rattle.loop_link.specs.WireCalls as Wire
use Rattle.loop_link.specs.WireCalls.{WireCall, wall_nanos, steady_nanos}
use Rattle.telling_machines.specs.declared.wire_records.WireEntry.{WireEntry}
use Rattle.telling_machines.specs.declared.wire_records.WireEntry.TheVariants.{Bound, Limited, Received, Sent, WallRead, SteadyRead}

abbrev pub call_of : WireEntry → WireCall
call_of (Bound port failure) = Wire.Bound port failure
call_of (Limited millis failure) = Wire.Limited millis failure
call_of (Received (Ok (bytes, sender))) = Wire.Received (Ok (record { bytes = bytes.now; sender = sender }))
call_of (Received (Err kind)) = Wire.Received (Err kind)
call_of (Sent datagram port failure) = Wire.Sent datagram.now port failure
call_of (WallRead answer) = Wire.WallRead (wall_nanos answer)
call_of (SteadyRead answer) = Wire.SteadyRead (steady_nanos answer)
