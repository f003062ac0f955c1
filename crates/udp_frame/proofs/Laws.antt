-- What is spelled is heard as what was said.
use Rattle.std.specs.Prelude.{◌==◌, ◌||◌}
use Rattle.std.proofs.Common.{◌≡◌, ℕ, ◌+◌, ◌<◌, ◌^◌, ◌%◌, ◌/◌, Bool, true, false, nat_le, List, [], ◌∷◌, ◌++◌, length, take, drop, Some, refl, sym, ap, ◌∙◌, arith}
use Rattle.std.proofs.lemmas.Bool.{le-leb}
use Rattle.std.proofs.lemmas.List.{take_at, append-nil, length-append}
use Rattle.std.proofs.lemmas.Nat.{from_be_bytes-to_be_bytes_2, from_be_bytes-to_be_bytes_4}
use Rattle.net_types.specs.declared.address.Ip4.{Ip4}
use Rattle.net_types.specs.Sum.{ones_sum, checksum}
use Rattle.net_types.specs.Marks.{AreBytes}
use Rattle.net_types.proofs.Checksum.{checks, append_bytes}
use Rattle.frame_link.specs.Fields.{word_in, ip4_in, word_text, ip4_text}
use Rattle.frame_link.specs.Frames.{frame_in}
use Rattle.frame_link.proofs.Laws.{frame_heard}
use Rattle.udp_frame.specs.declared.udp4.Ends4.{Ends4}
use Rattle.udp_frame.specs.Packets.{Packet, udp_protocol, head_len, is_packet, packet_in, head_text, whole_head, packet_text}
use Rattle.udp_frame.specs.Datagrams.{datagram_in, is_checked4, pseudo4, datagram_text}
use Rattle.udp_frame.specs.Udp4Frames.{Udp4, checked4_in, udp4_in, said4, udp4_packet, udp4_text, udp4_frame, udp4_frame_text}
use Rattle.udp_frame.proofs.Cells.{all_bytes, word_bytes, ip4_bytes}
use Rattle.udp_frame.proofs.Summed.{datagram_heard, sum_heard}

abbrev pub fits : Ip4 → Type 0
fits ip = ip.number < 2 ^ 32

-- ---- the datagram

pseudo_bytes : (from to : Ip4) (len : ℕ) → AreBytes (pseudo4 from to len)
pseudo_bytes from to len =
    let ends = append_bytes (ip4_text from) (ip4_text to) (ip4_bytes from) (ip4_bytes to) in
    let protocol : AreBytes (0 ∷ udp_protocol ∷ []) = all_bytes (0 ∷ udp_protocol ∷ []) (omega arith, (omega arith, tt)) in
    let front = append_bytes (ip4_text from ++ ip4_text to) (0 ∷ udp_protocol ∷ []) ends protocol in
    append_bytes (ip4_text from ++ ip4_text to ++ (0 ∷ udp_protocol ∷ [])) (word_text len) front (word_bytes len)

-- ---- the packet

packet_by : (b : List ℕ) (p : Packet) → is_packet b ≡ true → ip4_in b 12 ≡ p.from → ip4_in b 16 ≡ p.to → drop (head_len b) (take (word_in b 2) b) ≡ p.body
    → packet_in b ≡ Some p
unfolding packet_in
packet_by b p test from to body = rw (test, from, to, body) refl

head_heard : (from to : Ip4) (total : ℕ) → ones_sum (whole_head from to total) ≡ 65535
head_heard from to total =
    let front : AreBytes (0x45 ∷ 0 ∷ total / 256 % 256 ∷ total % 256 ∷ 0 ∷ 0 ∷ 0x40 ∷ 0 ∷ 64 ∷ udp_protocol ∷ []) =
    all_bytes (0x45 ∷ 0 ∷ total / 256 % 256 ∷ total % 256 ∷ 0 ∷ 0 ∷ 0x40 ∷ 0 ∷ 64 ∷ udp_protocol ∷ [])
    (omega arith, (omega arith, (omega arith, (omega arith, (omega arith, (omega arith, (omega arith, (omega arith, (omega arith, (omega arith, tt)))))))))) in
    checks (0x45 ∷ 0 ∷ total / 256 % 256 ∷ total % 256 ∷ 0 ∷ 0 ∷ 0x40 ∷ 0 ∷ 64 ∷ udp_protocol ∷ []) (ip4_text from ++ ip4_text to)
    (checksum (head_text from to total 0)) refl front (append_bytes (ip4_text from) (ip4_text to) (ip4_bytes from) (ip4_bytes to)) refl

packet_heard : (p : Packet) (rest : List ℕ) → fits p.from → fits p.to → 20 + length p.body < 2 ^ 16 → packet_in (packet_text p ++ rest) ≡ Some p
packet_heard p rest from_fits to_fits small =
    let total = 20 + length p.body in
    let b = packet_text p ++ rest in
    let more = length-append p.body rest in
    let long : nat_le 20 (length b) ≡ true = le-leb _ _ (omega arith) in
    let total_is : word_in b 2 ≡ total = from_be_bytes-to_be_bytes_2 total small in
    let header : nat_le 20 total ≡ true = le-leb _ _ (omega arith) in
    let within : nat_le total (length b) ≡ true = le-leb _ _ (omega arith) in
    let right : (ones_sum (take 20 b) == 65535) ≡ true = rw (head_heard p.from p.to total) refl in
    let test : is_packet b ≡ true = rw (long, total_is, header, within, right) refl in
    let body : drop 20 (take (word_in b 2) b) ≡ p.body = rw (total_is, take_at (packet_text p) rest total (omega arith)) refl in
    packet_by b p test (ap (λ n. record { number = n }) (from_be_bytes-to_be_bytes_4 p.from.number from_fits))
    (ap (λ n. record { number = n }) (from_be_bytes-to_be_bytes_4 p.to.number to_fits)) body

-- ---- both

or_true : (a b : Bool) → b ≡ true → (a || b) ≡ true
or_true false b e = e
or_true true b e = refl

checked_heard : (from to : Ip4) (from_port to_port : ℕ) (payload : List ℕ) → AreBytes payload
    → is_checked4 from to (datagram_text (pseudo4 from to (8 + length payload)) from_port to_port payload) ≡ true
unfolding is_checked4
checked_heard from to from_port to_port payload range =
    let d = datagram_text (pseudo4 from to (8 + length payload)) from_port to_port payload in
    let len : length d ≡ 8 + length payload = omega arith in
    let right : ones_sum (pseudo4 from to (length d) ++ d) ≡ 65535 =
    ap (λ n. ones_sum (pseudo4 from to n ++ d)) len
    ∙ sum_heard (pseudo4 from to (8 + length payload)) from_port to_port (8 + length payload) payload refl
    (pseudo_bytes from to (8 + length payload)) range in
    or_true (word_in d 6 == 0) (ones_sum (pseudo4 from to (length d) ++ d) == 65535) (rw right refl)

datagram_said : (from to : Ip4) (d : List ℕ) (from_port to_port : ℕ) (payload : List ℕ) → is_checked4 from to d ≡ true → word_in d 0 ≡ from_port
    → word_in d 2 ≡ to_port
    → drop 8 d ≡ payload → checked4_in from to d ≡ Some (said4 from to from_port to_port payload)
datagram_said from to d from_port to_port payload checked from_is to_is payload_is = rw (checked, from_is, to_is, payload_is) refl

pub said_is_heard : (m : Udp4) (rest : List ℕ) → fits m.from → fits m.to → m.from_port < 2 ^ 16 → m.to_port < 2 ^ 16 → 28 + length m.payload < 2 ^ 16
    → AreBytes m.payload
    → udp4_in (udp4_text m ++ rest) ≡ Some m
unfolding udp4_in udp4_text
said_is_heard m rest from_fits to_fits from_port to_port small range =
    let pseudo = pseudo4 m.from m.to (8 + length m.payload) in
    let d = datagram_text pseudo m.from_port m.to_port m.payload in
    let len : length d ≡ 8 + length m.payload = omega arith in
    let packet : packet_in (udp4_text m ++ rest) ≡ Some (udp4_packet m) = packet_heard (udp4_packet m) rest from_fits to_fits (omega arith) in
    let datagram : datagram_in d ≡ Some d =
    ap datagram_in (sym (append-nil d)) ∙ datagram_heard pseudo m.from_port m.to_port m.payload [] (omega arith) in
    let said : checked4_in m.from m.to d ≡ Some m =
    datagram_said m.from m.to d m.from_port m.to_port m.payload (checked_heard m.from m.to m.from_port m.to_port m.payload range)
    (from_be_bytes-to_be_bytes_2 m.from_port from_port) (from_be_bytes-to_be_bytes_2 m.to_port to_port) refl in
    rw (packet, datagram) said

pub alone_is_heard : (m : Udp4) → fits m.from → fits m.to → m.from_port < 2 ^ 16 → m.to_port < 2 ^ 16 → 28 + length m.payload < 2 ^ 16 → AreBytes m.payload
    → udp4_in (udp4_text m) ≡ Some m
alone_is_heard m from_fits to_fits from_port to_port small range =
    ap udp4_in (sym (append-nil (udp4_text m))) ∙ said_is_heard m [] from_fits to_fits from_port to_port small range

pub frame_is_heard : (ends : Ends4) (from_port to_port : ℕ) (payload : List ℕ) → length ends.to_mac.bytes ≡ 6 → length ends.from_mac.bytes ≡ 6
    → frame_in (udp4_frame_text ends from_port to_port payload) ≡ Some (udp4_frame ends from_port to_port payload)
unfolding udp4_frame_text
frame_is_heard ends from_port to_port payload to_len from_len = frame_heard (udp4_frame ends from_port to_port payload) to_len from_len (omega arith)

pub frame_len : (ends : Ends4) (from_port to_port : ℕ) (payload : List ℕ) → length ends.to_mac.bytes ≡ 6 → length ends.from_mac.bytes ≡ 6
    → length (udp4_frame_text ends from_port to_port payload) ≡ 42 + length payload
unfolding udp4_frame_text udp4_text
frame_len ends from_port to_port payload to_len from_len = simp length-append (omega (arith, to_len, from_len))
