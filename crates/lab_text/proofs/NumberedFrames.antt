-- Frames by their numbers.
use Rattle.std.proofs.Common.{◌≡◌, ℕ, zero, suc, ◌-◌, ◌≤◌, ◌<◌, List, map, Option, Some, None, option_map, refl, sym, ap, arith}
use Rattle.std.specs.List.{slice_get}
use Rattle.std.proofs.lemmas.Option.{slice_get-map}
use Rattle.client_model.specs.Clients.{Sending}
use Rattle.lab_peer.specs.Hearing.{hears}
use Rattle.lab_model.specs.Labs.{Lab, numbered, peer_goes, peer_heard}
use Rattle.lab_text.specs.Living.{place_of}

pub place_some : (number : ℕ) → 1 ≤ number → Some (number - 1) ≡ place_of number
place_some zero some = absurd (omega arith)
place_some (suc before) some = let same : suc before - 1 ≡ before = omega arith in ap (λ n. Some n) same

pub place_none : (number : ℕ) → number < 1 → None ≡ place_of number
place_none zero few = refl
place_none (suc before) few = absurd (omega arith)

pub numbered_some : {X : Type 0} (number place : ℕ) (frames : List X) → Some place ≡ place_of number → numbered number frames ≡ slice_get frames place
numbered_some zero place frames is = cc
numbered_some (suc before) place frames is = let same : place ≡ before = cc in ap (slice_get frames) (sym same)

pub numbered_none : {X : Type 0} (number : ℕ) (frames : List X) → None ≡ place_of number → numbered number frames ≡ None
numbered_none zero frames is = refl
numbered_none (suc before) frames is = cc

pub numbered_map : {X Y : Type 0} (f : X → Y) (number : ℕ) (frames : List X) → numbered number (map f frames) ≡ option_map f (numbered number frames)
numbered_map f zero frames = refl
numbered_map f (suc before) frames = slice_get-map f frames before

-- ---- the frame that the peer hears

pub heard_some : (lab : Lab) (now : ℕ) (frame : Option Sending) (bytes : List ℕ) → Some bytes ≡ option_map (λ sending. sending.bytes) frame
    → peer_heard now frame lab ≡ peer_goes now (hears now bytes lab.peer) lab
heard_some lab now None bytes is = cc
heard_some lab now (Some sending) bytes is = let same : sending.bytes ≡ bytes = cc in ap (λ b. peer_goes now (hears now b lab.peer) lab) same

pub heard_none : (lab : Lab) (now : ℕ) (frame : Option Sending) → None ≡ option_map (λ sending. sending.bytes) frame
    → peer_heard now frame lab ≡ peer_heard now None lab
heard_none lab now None is = refl
heard_none lab now (Some sending) is = cc
