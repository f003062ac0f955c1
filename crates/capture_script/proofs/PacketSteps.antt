-- The packets of records, one step after another.
use Rattle.std.proofs.Common.{◌≡◌, ℕ, zero, suc, ◌+◌, ◌<◌, ◌≤◌, Bool, true, false, List, [], ◌∷◌, length, take, drop, cond, refl, sym, ap, ◌∙◌, arith, length-drop}
use Rattle.std.proofs.lemmas.Bool.{leb-true, le-leb, lt-leb}
use Rattle.capture_script.specs.declared.forms.Form.{Form}
use Rattle.capture_script.specs.Captures.{Packet, after_packet, has_packet, moment_at, packet_at, packets_in, packets_within, size_at}

-- a record has at least a byte
fewer : (form : Form) (bytes : List ℕ) → has_packet form bytes ≡ true → length (after_packet form bytes) < length bytes
fewer form bytes has =
    let long : 16 + size_at form bytes ≤ length bytes = leb-true _ _ has in
    omega (arith, long, length-drop (size_at form bytes) (drop 16 bytes), length-drop 16 bytes)

stepped : (has : Bool) (packet : Packet) (one other : List Packet) → (has ≡ true → one ≡ other) → cond has (packet ∷ one) [] ≡ cond has (packet ∷ other) []
stepped true packet one other same = ap (λ (more : List Packet). packet ∷ more) (same refl)
stepped false packet one other same = refl

none : (form : Form) (bytes : List ℕ) (more : ℕ) → length bytes ≤ 0 → packets_within more form bytes ≡ []
none form bytes zero small = refl
none form bytes (suc more) small =
    elim (has_packet form bytes) as
    (λ has. has_packet form bytes ≡ has → cond has (packet_at form bytes ∷ packets_within more form (after_packet form bytes)) [] ≡ []) [
      | true ↦ λ has. let less = fewer form bytes has in absurd (omega (arith, less))
      | false ↦ λ has. refl
    ] refl

-- any number of steps that is enough gives the same
enough : (one other : ℕ) (form : Form) (bytes : List ℕ) → length bytes ≤ one → length bytes ≤ other
    → packets_within one form bytes ≡ packets_within other form bytes
enough zero other form bytes small least = none form bytes zero small ∙ sym (none form bytes other small)
enough (suc one) zero form bytes small least = none form bytes (suc one) least ∙ sym (none form bytes zero least)
enough (suc one) (suc other) form bytes small least =
    stepped (has_packet form bytes) (packet_at form bytes) (packets_within one form (after_packet form bytes))
    (packets_within other form (after_packet form bytes))
    (λ has. let less = fewer form bytes has in enough one other form (after_packet form bytes) (omega (arith, less)) (omega (arith, less)))

-- one step more
more : (form : Form) (bytes : List ℕ) → packets_in form bytes ≡ packets_within (suc (length bytes)) form bytes
unfolding packets_in
more form bytes = enough (length bytes) (suc (length bytes)) form bytes (omega arith) (omega arith)

abbrev after_by : (has : Bool) → Form → List ℕ → List Packet
after_by has form bytes = cond has (packet_at form bytes ∷ packets_within (length bytes) form (after_packet form bytes)) []

no_packet : (form : Form) (bytes : List ℕ) → has_packet form bytes ≡ false → packets_in form bytes ≡ []
no_packet form bytes has = more form bytes ∙ ap (λ (b : Bool). after_by b form bytes) has

one_packet : (form : Form) (bytes : List ℕ) → has_packet form bytes ≡ true
    → packets_in form bytes ≡ packet_at form bytes ∷ packets_in form (after_packet form bytes)
unfolding packets_in
one_packet form bytes has =
    let less = fewer form bytes has in
    more form bytes ∙ ap (λ (b : Bool). after_by b form bytes) has
    ∙ ap (λ (rest : List Packet). packet_at form bytes ∷ rest)
    (enough (length bytes) (length (after_packet form bytes)) form (after_packet form bytes) (omega (arith, less)) (omega arith))

-- ---- what stands in front, told by lengths

-- fewer bytes than the fields have
pub too_short : (form : Form) (bytes : List ℕ) → length bytes < 16 → packets_in form bytes ≡ []
too_short form bytes short = no_packet form bytes (lt-leb (16 + size_at form bytes) (length bytes) (omega (arith, short)))

-- fewer bytes than were captured
pub cut_off : (form : Form) (bytes body : List ℕ) (size : ℕ) → body ≡ drop 16 bytes → size ≡ size_at form bytes → length body < size
    → packets_in form bytes ≡ []
cut_off form bytes body size is sized short = no_packet form bytes (lt-leb (16 + size_at form bytes) (length bytes) beyond)
  where
    beyond : length bytes < 16 + size_at form bytes
    beyond = omega (arith, ap length is ∙ length-drop 16 bytes, sized, short)

-- a whole one
pub whole : (form : Form) (bytes body front back : List ℕ) (at size : ℕ) → 16 ≤ length bytes → body ≡ drop 16 bytes → size ≡ size_at form bytes
    → size ≤ length body
    → at ≡ moment_at form bytes → front ≡ take size body → back ≡ drop size body
    → packets_in form bytes ≡ record { at = at; bytes = front } ∷ packets_in form back
whole form bytes body front back at size long is sized fits timed taken left =
    one_packet form bytes (le-leb (16 + size_at form bytes) (length bytes) (omega (arith, long, ap length is ∙ length-drop 16 bytes, sized, fits)))
    ∙ rw (timed, taken, left, is, sized) refl
