-- What is spelled over IPv6 is heard as what was said.
use Rattle.std.specs.Prelude.{◌==◌, ◌&&◌, not}
use Rattle.std.proofs.Common.{◌≡◌, ◌≢◌, ℕ, zero, suc, ◌+◌, ◌<◌, ◌^◌, Bool, true, false, nat_le, List, [], ◌∷◌, ◌++◌, length, take, drop, Some, refl, sym, ap, ◌∙◌, arith}
use Rattle.std.proofs.lemmas.Bool.{le-leb}
use Rattle.std.proofs.lemmas.List.{take_at, append-nil, length-append}
use Rattle.std.proofs.lemmas.Nat.{from_be_bytes-to_be_bytes_2}
use Rattle.net_types.specs.declared.address.Ip6.{Ip6}
use Rattle.net_types.specs.Fields.{ip6_field, ip6_octets}
use Rattle.net_types.specs.Sum.{ones_sum, checksum}
use Rattle.net_types.specs.Marks.{AreBytes}
use Rattle.net_types.proofs.Checksum.{append_bytes}
use Rattle.frame_link.specs.Fields.{word_in, word_text}
use Rattle.frame_link.specs.Frames.{frame_in}
use Rattle.frame_link.proofs.Laws.{frame_heard}
use Rattle.udp_frame.specs.declared.udp6.Ends6.{Ends6}
use Rattle.udp_frame.specs.Packets.{udp_protocol}
use Rattle.udp_frame.specs.Packets6.{Packet6, is_packet6, packet6_in, packet6_text}
use Rattle.udp_frame.specs.Datagrams.{datagram_in, ports_text, sent_sum, datagram_sum, datagram_text}
use Rattle.udp_frame.specs.Udp6Frames.{Udp6, pseudo6, is_checked6, checked6_in, udp6_in, said6, udp6_packet, udp6_text, udp6_frame, udp6_frame_text}
use Rattle.udp_frame.proofs.Cells.{all_bytes, word_bytes}
use Rattle.udp_frame.proofs.Spelled.{not_zero}
use Rattle.udp_frame.proofs.Summed.{datagram_heard, sum_heard}
use Rattle.net_types.proofs.WireNumbers.{wide_back}

abbrev pub fits6 : Ip6 → Type 0
fits6 ip = ip.number < 2 ^ 128

-- ---- the datagram

ip6_bytes : (ip : Ip6) → AreBytes (ip6_octets ip)
ip6_bytes ip =
    all_bytes (ip6_octets ip) (
      omega arith,
      (
        omega arith,
        (
          omega arith,
          (
            omega arith,
            (
              omega arith,
              (
                omega arith,
                (
                  omega arith,
                  (
                    omega arith,
                    (omega arith, (omega arith, (omega arith, (omega arith, (omega arith, (omega arith, (omega arith, (omega arith, tt)))))))),
                  ),
                ),
              ),
            ),
          ),
        ),
      ),
    )

pseudo_bytes : (from to : Ip6) (len : ℕ) → AreBytes (pseudo6 from to len)
pseudo_bytes from to len =
    let ends = append_bytes (ip6_octets from) (ip6_octets to) (ip6_bytes from) (ip6_bytes to) in
    let high = append_bytes (ip6_octets from ++ ip6_octets to) (word_text 0) ends (word_bytes 0) in
    let whole = append_bytes (ip6_octets from ++ ip6_octets to ++ word_text 0) (word_text len) high (word_bytes len) in
    append_bytes (ip6_octets from ++ ip6_octets to ++ word_text 0 ++ word_text len) (0 ∷ 0 ∷ 0 ∷ udp_protocol ∷ []) whole
    (all_bytes (0 ∷ 0 ∷ 0 ∷ udp_protocol ∷ []) (omega arith, (omega arith, (omega arith, (omega arith, tt)))))

never_zero : (sum : ℕ) → sent_sum sum ≢ 0
never_zero zero e = omega arith
never_zero (suc n) e =
    let same : sent_sum (suc n) ≡ suc n = grind (arith) in
    omega (arith, same, e)

sent_small : (sum : ℕ) → sum < 2 ^ 16 → sent_sum sum < 2 ^ 16
sent_small zero h = omega arith
sent_small (suc n) h =
    let same : sent_sum (suc n) ≡ suc n = grind (arith) in
    omega (arith, same, h)

-- the checksum that is sent is there
module _ (pseudo : List ℕ) (from_port to_port len : ℕ) (payload : List ℕ) where
  sum_is : word_in (ports_text from_port to_port len (datagram_sum pseudo from_port to_port len payload) ++ payload) 6
      ≡ datagram_sum pseudo from_port to_port len payload
  sum_is =
      from_be_bytes-to_be_bytes_2 (datagram_sum pseudo from_port to_port len payload)
      (sent_small (checksum (pseudo ++ ports_text from_port to_port len 0 ++ payload)) (omega arith))

  sum_there : (word_in (ports_text from_port to_port len (datagram_sum pseudo from_port to_port len payload) ++ payload) 6 == 0) ≡ false
  sum_there =
      ap (λ (n : ℕ). n == 0) sum_is
      ∙ not_zero (datagram_sum pseudo from_port to_port len payload) (never_zero (checksum (pseudo ++ ports_text from_port to_port len 0 ++ payload)))

both : (a b : Bool) → a ≡ false → b ≡ true → (not a && b) ≡ true
both false true x y = refl
both false false x y = absurd cc
both true b x y = absurd cc

checked_heard : (from to : Ip6) (from_port to_port : ℕ) (payload : List ℕ) → AreBytes payload
    → is_checked6 from to (datagram_text (pseudo6 from to (8 + length payload)) from_port to_port payload) ≡ true
unfolding is_checked6
checked_heard from to from_port to_port payload range =
    let pseudo = pseudo6 from to (8 + length payload) in
    let d = datagram_text pseudo from_port to_port payload in
    let len : length d ≡ 8 + length payload = omega arith in
    let right : ones_sum (pseudo6 from to (length d) ++ d) ≡ 65535 =
    ap (λ n. ones_sum (pseudo6 from to n ++ d)) len
    ∙ sum_heard pseudo from_port to_port (8 + length payload) payload refl (pseudo_bytes from to (8 + length payload)) range in
    both (word_in d 6 == 0) (ones_sum (pseudo6 from to (length d) ++ d) == 65535) (sum_there pseudo from_port to_port (8 + length payload) payload)
    (rw right refl)

datagram_said : (from to : Ip6) (d : List ℕ) (from_port to_port : ℕ) (payload : List ℕ) → is_checked6 from to d ≡ true → word_in d 0 ≡ from_port
    → word_in d 2 ≡ to_port
    → drop 8 d ≡ payload → checked6_in from to d ≡ Some (said6 from to from_port to_port payload)
datagram_said from to d from_port to_port payload checked from_is to_is payload_is = rw (checked, from_is, to_is, payload_is) refl

-- ---- the packet

packet_by : (b : List ℕ) (p : Packet6) → is_packet6 b ≡ true → ip6_field 8 b ≡ p.from → ip6_field 24 b ≡ p.to → take (word_in b 4) (drop 40 b) ≡ p.body
    → packet6_in b ≡ Some p
unfolding packet6_in
packet_by b p test from to body = rw (test, from, to, body) refl

packet_heard : (p : Packet6) (rest : List ℕ) → fits6 p.from → fits6 p.to → length p.body < 2 ^ 16 → packet6_in (packet6_text p ++ rest) ≡ Some p
packet_heard p rest from_fits to_fits small =
    let b = packet6_text p ++ rest in
    let more = length-append p.body rest in
    let long : nat_le 40 (length b) ≡ true = le-leb _ _ (omega arith) in
    let len : word_in b 4 ≡ length p.body = from_be_bytes-to_be_bytes_2 (length p.body) small in
    let within : nat_le (40 + length p.body) (length b) ≡ true = le-leb _ _ (omega arith) in
    let test : is_packet6 b ≡ true = rw (long, len, within) refl in
    let body : take (word_in b 4) (drop 40 b) ≡ p.body = rw len (take_at p.body rest (length p.body) refl) in
    packet_by b p test (ap (λ n. record { number = n }) (wide_back p.from.number from_fits))
    (ap (λ n. record { number = n }) (wide_back p.to.number to_fits)) body

-- ---- both

pub said_is_heard6 : (m : Udp6) (rest : List ℕ) → fits6 m.from → fits6 m.to → m.from_port < 2 ^ 16 → m.to_port < 2 ^ 16 → 8 + length m.payload < 2 ^ 16
    → AreBytes m.payload
    → udp6_in (udp6_text m ++ rest) ≡ Some m
unfolding udp6_in udp6_text
said_is_heard6 m rest from_fits to_fits from_port to_port small range =
    let pseudo = pseudo6 m.from m.to (8 + length m.payload) in
    let d = datagram_text pseudo m.from_port m.to_port m.payload in
    let len : length d ≡ 8 + length m.payload = omega arith in
    let packet : packet6_in (udp6_text m ++ rest) ≡ Some (udp6_packet m) = packet_heard (udp6_packet m) rest from_fits to_fits (omega arith) in
    let datagram : datagram_in d ≡ Some d =
    ap datagram_in (sym (append-nil d)) ∙ datagram_heard pseudo m.from_port m.to_port m.payload [] (omega arith) in
    let said : checked6_in m.from m.to d ≡ Some m =
    datagram_said m.from m.to d m.from_port m.to_port m.payload (checked_heard m.from m.to m.from_port m.to_port m.payload range)
    (from_be_bytes-to_be_bytes_2 m.from_port from_port) (from_be_bytes-to_be_bytes_2 m.to_port to_port) refl in
    rw (packet, datagram) said

pub alone_is_heard6 : (m : Udp6) → fits6 m.from → fits6 m.to → m.from_port < 2 ^ 16 → m.to_port < 2 ^ 16 → 8 + length m.payload < 2 ^ 16 → AreBytes m.payload
    → udp6_in (udp6_text m) ≡ Some m
alone_is_heard6 m from_fits to_fits from_port to_port small range =
    ap udp6_in (sym (append-nil (udp6_text m))) ∙ said_is_heard6 m [] from_fits to_fits from_port to_port small range

pub frame_is_heard6 : (ends : Ends6) (from_port to_port : ℕ) (payload : List ℕ) → length ends.to_mac.bytes ≡ 6 → length ends.from_mac.bytes ≡ 6
    → frame_in (udp6_frame_text ends from_port to_port payload) ≡ Some (udp6_frame ends from_port to_port payload)
unfolding udp6_frame_text
frame_is_heard6 ends from_port to_port payload to_len from_len = frame_heard (udp6_frame ends from_port to_port payload) to_len from_len (omega arith)

pub frame_len6 : (ends : Ends6) (from_port to_port : ℕ) (payload : List ℕ) → length ends.to_mac.bytes ≡ 6 → length ends.from_mac.bytes ≡ 6
    → length (udp6_frame_text ends from_port to_port payload) ≡ 62 + length payload
unfolding udp6_frame_text udp6_text
frame_len6 ends from_port to_port payload to_len from_len = simp length-append (omega (arith, to_len, from_len))
