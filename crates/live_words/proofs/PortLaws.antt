-- The ports and the paths: what is read is what the words spell, and what they spell is read. They are no options.
use Rattle.std.proofs.Common.{◌≡◌, ◌≢◌, ◌<◌, ℕ, true, false, cond, List, [], ◌∷◌, length, get_or, Option, Some, None, refl, subst, ap, arith, eqb, leb}
use Rattle.std.specs.Fmt.{decimal}
use Rattle.std.proofs.lemmas.Bool.{eqb-true, eqb-false, leb-true, le-leb, lt-ltb}
use Rattle.std.proofs.lemmas.Fmt.{first_decimal}
use Rattle.net_types.specs.Reads.{Reads}
use Rattle.net_types.proofs.ReadsLaws.{same_range, guard_reads, some_same}
use Rattle.net_types.proofs.NumberLaws.{number_reads}
use Rattle.live_words.specs.LiveWords.{IsPort, IsPath}
use Rattle.live_words.specs.LiveReading.{port_at, ports_at, is_some_text, is_option}
use Rattle.live_words.specs.declared.places.Ports.{Ports}

-- ---- ports

port_reads : Reads decimal IsPort port_at
unfolding port_at
port_reads =
    same_range IsPort (λ n is. let high = is.1 in (omega arith, le-leb _ _ is.0)) (λ n is. let below = is.0 in (leb-true _ _ is.1, omega arith))
    (guard_reads (λ n. leb 1 n) (number_reads 65536 (omega arith)))

not_equal : (a b : ℕ) → a ≢ b → eqb a b ≡ false
not_equal a b other =
    elim (eqb a b) as (λ t. eqb a b ≡ t → t ≡ false) [
      | true ↦ λ t. absurd (other (eqb-true a b t))
      | false ↦ λ t. refl
    ] refl

pub record ArePorts (own other : List ℕ) (ports : Ports) : Type 0 where
  pub own_is : own ≡ decimal ports.own
  pub other_is : other ≡ decimal ports.peer
  pub port_is : IsPort ports.own
  pub peer_is : IsPort ports.peer
  pub unlike : ports.own ≢ ports.peer

pub ports_sound : (own other : List ℕ) (ports : Ports) → ports_at (port_at own) (port_at other) ≡ Some ports → ArePorts own other ports
ports_sound own other ports e = of_read (port_at own) (port_at other) refl refl e
  where
    of_read : (o p : Option ℕ) → port_at own ≡ o → port_at other ≡ p → ports_at o p ≡ Some ports → ArePorts own other ports
    of_read (Some port) (Some peer) one two e =
        let first = port_reads.sound own port one in
        let second = port_reads.sound other peer two in
        elim (eqb port peer) as (λ b. eqb port peer ≡ b → cond b None (Some (record { own = port; peer = peer })) ≡ Some ports → ArePorts own other ports) [
          | true ↦ λ t q. cc
          | false ↦ λ t q.
              subst (λ (x : Ports). ArePorts own other x) (some_same q)
              (record { own_is = first.0; other_is = second.0; port_is = first.1; peer_is = second.1; unlike = eqb-false port peer t })
        ] refl e
    of_read (Some port) None one two e = cc
    of_read None p one two e = cc

pub ports_whole : (port peer : ℕ) → IsPort port → IsPort peer → port ≢ peer
    → ports_at (port_at (decimal port)) (port_at (decimal peer)) ≡ Some (record { own = port; peer = peer })
ports_whole port peer port_is peer_is other =
    rw (port_reads.whole port port_is, port_reads.whole peer peer_is)
    (ap (λ b. cond b None (Some (record { own = port; peer = peer }))) (not_equal port peer other))

-- ---- paths

pub path_sound : (word : List ℕ) → is_some_text word ≡ true → is_option word ≡ false → IsPath word
path_sound [] some plain = cc
path_sound (byte ∷ bytes) some plain = eqb-false byte 45 plain

pub path_whole : (word : List ℕ) → IsPath word → (is_some_text word ≡ true) × (is_option word ≡ false)
path_whole [] is = absurd is
path_whole (byte ∷ bytes) is = (lt-ltb 0 (length (byte ∷ bytes)) (omega arith), not_equal byte 45 is)

-- ---- words that are no options

-- what begins beyond the hyphen
beyond : (word : List ℕ) → 45 < get_or word 0 0 → is_option word ≡ false
beyond [] more = absurd (omega arith)
beyond (byte ∷ bytes) more = not_equal byte 45 (λ e. omega (arith, e, more))

pub port_plain : (port : ℕ) → IsPort port → is_option (decimal port) ≡ false
port_plain port is =
    let first = first_decimal port (let low = is.0 in omega arith) (let high = is.1 in omega arith) in
    beyond (decimal port) (omega (arith, first))
