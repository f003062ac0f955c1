-- Whole lists of turns, cut at a turn; and the frames of a turn.
use Rattle.std.proofs.Common.{◌≡◌, ℕ, zero, suc, ◌<◌, ◌||◌, Bool, true, false, List, [], ◌∷◌, ◌++◌, length, get_or, map, Option, Some, None, inl, inr, refl, sym, ap, subst, ◌∙◌, arith, if◌then◌else◌}
use Rattle.std.proofs.lemmas.Bool.{eqb-true}
use Rattle.std.specs.List.{Contains, list_any}
use Rattle.std.specs.Prelude.{◌==◌, option_map}
use Rattle.machine.specs.Since.{Since, Always}
use Rattle.net_types.proofs.CaseLaws.{split}
use Rattle.v4_message.specs.declared.writing.Kind4.{Kind4}
use Rattle.v4_frames.specs.Heard.{HeardMessage, heard4_in}
use Rattle.v4_client.specs.Messages.{Arrival}
use Rattle.evidence_words.specs.ClientModel.Dhcp4Steps.{arrival_at}
use Rattle.world.specs.declared.wakes.Event.{Event}
use Rattle.world.specs.declared.wakes.Event.TheVariants.{Frame, Carrier, Duplicate, Release, Rebind, Stop, Quiet, End}
use Rattle.evidence_words.specs.Entries.{Entry, Offer}
use Rattle.evidence_words.specs.Inputs.{Site, index_at, offers_at}
use Rattle.evidence_words.specs.Probed.{EachAfter}
use Rattle.lease_evidence.specs.Endings.{Says}
use Rattle.lease_evidence.specs.Exchanges.{message_of, messages_at}
use Rattle.lease_evidence.specs.LeaseBasis.{ends_lease, tells_end}
use Rattle.lease_evidence.specs.Replies.{message_on, arrival_in}

-- ---- turns

-- what none of the later turns began stands where these are left out
pub since_cut : (P Q N : Entry → List Entry → Type 0) (rest : List Entry)
    → ((e : Entry) (between : List Entry) → N e (between ++ rest) → Q e (between ++ rest) → ⊥) → (later : List Entry)
    → EachAfter N later rest → Since P Q (later ++ rest) → Since P Q rest
since_cut P Q N rest f [] none h = h
since_cut P Q N rest f (e ∷ later) none h =
    elim h [ inl q ↦ absurd (f e later none.0 q) | inr on ↦ since_cut P Q N rest f later none.1 on.1 ]

pub always_cut : (P : Entry → List Entry → Type 0) (later rest : List Entry) → Always P (later ++ rest) → Always P rest
always_cut P [] rest h = h
always_cut P (e ∷ later) rest h = always_cut P later rest h.1

-- ---- frames

pub of_contained : {X : Type 0} (P : X → Type 0) (test : X → Bool) → ((x : X) → test x ≡ false → P x) → (xs : List X)
    → list_any test xs ≡ false → (x : X) → Contains xs x → P x
of_contained P test f xs none x among = at_index P test f xs none x among.0 among.1 among.2
  where
    or_left : (a b : Bool) → (a || b) ≡ false → a ≡ false
    or_left true b h = h
    or_left false b h = refl

    or_right : (a b : Bool) → (a || b) ≡ false → b ≡ false
    or_right true b h = absurd cc
    or_right false b h = h

    at_index : {X : Type 0} (P : X → Type 0) (test : X → Bool) → ((x : X) → test x ≡ false → P x) → (xs : List X)
        → list_any test xs ≡ false → (x : X) (k : ℕ) → k < length xs → get_or xs k x ≡ x → P x
    at_index P test f [] none x k less is = absurd (omega (arith, less))
    at_index P test f (y ∷ ys) none x zero less is = subst P is (f y (or_left (test y) (list_any test ys) none))
    at_index P test f (y ∷ ys) none x (suc k) less is =
        at_index P test f ys (or_right (test y) (list_any test ys) none) x k (omega (arith, less)) is

pub behind : {X : Type 0} (x : X) (xs : List X) (y : X) → Contains xs y → Contains (x ∷ xs) y
behind x xs y among = (suc among.0, omega (arith, among.1), among.2)

pub in_front : {X : Type 0} (x : X) (xs : List X) → Contains (x ∷ xs) x
in_front x xs = (0, omega arith, refl)

any_map : {X Y : Type 0} (test : Y → Bool) (f : X → Y) (xs : List X) → list_any test (map f xs) ≡ list_any (λ (x : X). test (f x)) xs
any_map test f [] = refl
any_map test f (x ∷ xs) = ap (λ b. test (f x) || b) (any_map test f xs)

-- in a turn in which nothing tells an end none of its frames does
pub silent_says : (site : Site) (e : Entry) (earlier : List Entry) (kind : Kind4) → ends_lease kind ≡ true → list_any tells_end (messages_at site e) ≡ false
    → Says kind site e earlier → ⊥
silent_says site e earlier kind ends silent says =
    let tells : Offer → Bool = λ (o : Offer). tells_end (message_of site o) in
    let quiet : tells_end (message_of site says.offer) ≡ false =
    of_contained (λ (o : Offer). tells o ≡ false) tells (λ o h. h) (offers_at site e)
    (sym (any_map tells_end (message_of site) (offers_at site e)) ∙ silent) says.offer says.among in
    let told : tells_end (message_of site says.offer) ≡ true = ap tells_end says.spells ∙ ap ends_lease says.is_kind ∙ ends in
    differ (tells_end (message_of site says.offer)) told quiet
  where
    differ : (b : Bool) → b ≡ true → b ≡ false → ⊥
    differ true t f = absurd cc
    differ false t f = absurd cc

-- ---- what came in

frame_by : (site : Site) (at : ℕ) (event : Event) (bytes : List ℕ) (arrival : Arrival) → option_map (arrival_at at) (message_on site event bytes) ≡ Some arrival
    → (len : ℕ) × (event ≡ Frame (index_at site) len)
frame_by site at (Frame other len) bytes arrival h =
    split (index_at site == other) (λ same. (len, ap (λ (i : ℕ). Frame i len) (sym (eqb-true (index_at site) other same))))
    (λ unlike. absurd (none_here (index_at site == other) (heard4_in site.managed.spec.mac bytes) unlike h))
  where
    none_here : (here : Bool) (message : Option HeardMessage) → here ≡ false
        → option_map (arrival_at at) (if here then message else None) ≡ Some arrival → ⊥
    none_here true message unlike h = absurd cc
    none_here false message unlike h = absurd cc
frame_by site at (Carrier other now) bytes arrival h = absurd cc
frame_by site at (Duplicate other addr) bytes arrival h = absurd cc
frame_by site at (Release other) bytes arrival h = absurd cc
frame_by site at (Rebind other) bytes arrival h = absurd cc
frame_by site at Stop bytes arrival h = absurd cc
frame_by site at Quiet bytes arrival h = absurd cc
frame_by site at End bytes arrival h = absurd cc

-- a message came in a frame on the interface itself
pub frame_here : (site : Site) (e : Entry) (arrival : Arrival) → arrival_in site e ≡ Some arrival → (len : ℕ) × (e.event ≡ Frame (index_at site) len)
frame_here site e arrival h = frame_by site e.moment e.event e.bytes arrival h
