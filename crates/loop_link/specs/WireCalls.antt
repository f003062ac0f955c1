-- The calls of the system on a socket of the loopback address and on the clocks, with their answers, and what the
-- loopback link wants of them. `old` and `new` are the calls before and after, the last one first.
use Rattle.std.specs.Prelude.{ℕ, Bool, true, false, ◌==◌, ◌&&◌, ◌≡◌, ◌≤◌, ◌⊎◌, ◌/◌, List, [], ◌∷◌, take, Option, None, Some, Result, Ok, Err}
use Rattle.std.specs.declared.io.ErrorKind.{ErrorKind}
use Rattle.std.specs.Net.Addr.{ipv4_bits}
use Rattle.std.specs.Net.Socket.{v4_ip, v4_port}
use Rattle.std.specs.declared.net.socket_addr.SocketAddr.{SocketAddr}
use Rattle.std.specs.declared.net.socket_addr.SocketAddr.TheVariants.{V4, V6}
use Rattle.std.specs.declared.time.Instant.{Instant}
use Rattle.std.specs.declared.time.SystemTime.{SystemTime}
use Rattle.std.specs.Time.{instant_nanos, system_time_nanos}
use Rattle.net_types.specs.declared.fault.Failed.{Failed}
use Rattle.loop_link.specs.declared.loopback.TheConstants.{LOOPBACK}
use Rattle.world.specs.declared.faults.DeviceAnswer.{DeviceAnswer}
use Rattle.world.specs.declared.faults.DeviceAnswer.TheVariants as Answer
use Rattle.world.specs.declared.wakes.Begin.{Begin}
use Rattle.system_calls.specs.Asking.{Does}
use Rattle.loop_link.specs.Datagrams.{frame_datagram}
use Rattle.loop_link.specs.Salts.{salt_step}
use Rattle.loop_link.specs.Moments.{next_moment}
use Rattle.loop_link.specs.Waiting.{is_over}

-- a datagram as it came, cut to a buffer
pub record Datagram : Type 0 where
  pub bytes : List ℕ
  pub sender : SocketAddr

-- each with why it gave nothing, where it did
pub data WireCall : Type 0 where
  -- the socket has this port of 127.0.0.1
  Bound : (port : ℕ) → (failure : Option ErrorKind) → WireCall
  -- a receiving waits so many milliseconds at most
  Limited : (millis : ℕ) → (failure : Option ErrorKind) → WireCall
  Received : (answer : Result Datagram ErrorKind) → WireCall
  -- a datagram for this port of 127.0.0.1
  Sent : (datagram : List ℕ) → (port : ℕ) → (failure : Option ErrorKind) → WireCall
  -- nanoseconds since 1970, and those of a clock that nobody sets
  WallRead : (answer : Result ℕ ErrorKind) → WireCall
  SteadyRead : (answer : Result ℕ ErrorKind) → WireCall

abbrev pub arrived : (buffer : List ℕ) → Result (ℕ × SocketAddr) ErrorKind → Result Datagram ErrorKind
arrived buffer (Ok (len, sender)) = Ok (record { bytes = take len buffer; sender = sender })
arrived buffer (Err kind) = Err kind

abbrev pub wall_nanos : Result SystemTime ErrorKind → Result ℕ ErrorKind
wall_nanos (Ok time) = Ok (system_time_nanos time)
wall_nanos (Err kind) = Err kind

abbrev pub steady_nanos : Result Instant ErrorKind → Result ℕ ErrorKind
steady_nanos (Ok time) = Ok (instant_nanos time)
steady_nanos (Err kind) = Err kind

-- A socket that is bound isn't bound again.
abbrev pub Binds : {T : Type 0} → (bound : Bool) → (port : ℕ) → (old new : Option (List WireCall)) → Result T Failed
    → Type 0
Binds true port old new result = new ≡ old
Binds false port old new (Ok x) = Does (Bound port None ∷ []) old new
Binds false port old new (Err e) = (kind : ErrorKind) × Does (Bound port (Some kind) ∷ []) old new

-- whether a sender is this port of 127.0.0.1
abbrev pub is_from : (port : ℕ) → SocketAddr → Bool
is_from port (V4 address) = (ipv4_bits (v4_ip address) == LOOPBACK) && (v4_port address == port)
is_from port (V6 address) = false

-- a datagram of the peer came within so many milliseconds
pub record Hears (millis peer : ℕ) (bytes : List ℕ) (old new : Option (List WireCall)) : Type 0 where
  pub sender : SocketAddr
  pub is_peer : is_from peer sender ≡ true
  pub asked : Does (Received (Ok (record { bytes = bytes; sender = sender })) ∷ Limited millis None ∷ []) old new

-- Of what others send nothing is taken. A failure that says that nothing came is none, and any other one is.
abbrev pub Receives : (millis peer : ℕ) → (buffer : List ℕ) → (old new : Option (List WireCall))
    → Result (Option ℕ) Failed → Type 0
Receives millis peer buffer old new (Ok (Some len)) = Hears millis peer (take len buffer) old new
Receives millis peer buffer old new (Ok None) =
    ((datagram : Datagram) × (is_from peer datagram.sender ≡ false)
    × Does (Received (Ok datagram) ∷ Limited millis None ∷ []) old new)
    ⊎ ((kind : ErrorKind) × (is_over kind ≡ true) × Does (Received (Err kind) ∷ Limited millis None ∷ []) old new)
Receives millis peer buffer old new (Err e) =
    ((kind : ErrorKind) × Does (Limited millis (Some kind) ∷ []) old new)
    ⊎ ((kind : ErrorKind) × (is_over kind ≡ false) × Does (Received (Err kind) ∷ Limited millis None ∷ []) old new)

-- a moment of the wall clock, in whole milliseconds since 1970
pub record ReadsWall (moment : ℕ) (old new : Option (List WireCall)) : Type 0 where
  pub nanos : ℕ
  pub in_millis : moment ≡ nanos / 1_000_000
  pub asked : Does (WallRead (Ok nanos) ∷ []) old new

-- a life begins with a moment of the wall clock, and with what the clock reads that nobody sets
pub record BeginsWith (moment since : ℕ) (old new : Option (List WireCall)) : Type 0 where
  pub between : Option (List WireCall)
  pub wall : ReadsWall moment old between
  pub steady : Does (SteadyRead (Ok since) ∷ []) between new

-- the next moment is told by that clock alone
pub record TellsMoment (moment last begun since : ℕ) (old new : Option (List WireCall)) : Type 0 where
  pub nanos : ℕ
  pub told : moment ≡ next_moment last begun since nanos
  pub asked : Does (SteadyRead (Ok nanos) ∷ []) old new

-- a life begins: the socket is bound, the clocks are read, and the first random word is that of the moment
pub record BeginsLife (bound : Bool) (port : ℕ) (begin : Begin) (old new : Option (List WireCall)) : Type 0 where
  pub between : Option (List WireCall)
  pub binds : Binds {T = Unit {0}} bound port old between (Ok tt)
  pub since : ℕ
  pub clocks : BeginsWith begin.at since between new
  pub salt : begin.salt ≡ (salt_step begin.at).0

-- A frame is a datagram for the peer. Memory may be wanted before it is sent.
abbrev pub Sends : {T : Type 0} → (iface : ℕ) → (frame : List ℕ) → (peer : ℕ) → (old new : Option (List WireCall))
    → Result T DeviceAnswer → Type 0
Sends iface frame peer old new (Ok x) = Does (Sent (frame_datagram iface frame) peer None ∷ []) old new
Sends iface frame peer old new (Err Answer.NoMemory) = new ≡ old
Sends iface frame peer old new (Err Answer.Failed) =
    ((256 ≤ iface) × (new ≡ old))
    ⊎ ((kind : ErrorKind) × Does (Sent (frame_datagram iface frame) peer (Some kind) ∷ []) old new)
