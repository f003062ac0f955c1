-- The tests of a frame that is read as a client's.
use Rattle.std.proofs.Common.{◌≡◌, ℕ, ◌<◌, Bool, true, false, List, length, Option, Some, None, refl, arith}
use Rattle.std.specs.Prelude.{bytes_eq, if◌then◌else◌, nat_lt, ◌&&◌}
use Rattle.std.proofs.lemmas.Bool.Decides.{nat_tests}
use Rattle.v4_message.specs.Requests.{AskContent, AskFits}
use Rattle.v4_frames.specs.declared.sent.Sent4.{Sent4}
use Rattle.v4_frames.specs.Spelled.{frame_of}
use Rattle.lab_peer.specs.ClientFrames.{ask_fits, is_of_a_client, if_said}

-- ---- the test on what a client says of itself

below : (n : ℕ) → nat_lt n 256 ≡ true → n < 256
below n h = grind (arith, nat_tests)

both : (a b : Bool) → (a && b) ≡ true → (a ≡ true) × (b ≡ true)
both true b h = (refl, h)
both false b h = absurd cc

pub fits_is : (ask : AskContent) → ask_fits ask ≡ true → AskFits ask
unfolding ask_fits
fits_is ask h =
    let three = both (nat_lt (length ask.client_id) 256 && nat_lt (length ask.vendor) 256 && nat_lt (length ask.host) 256) (nat_lt (length ask.list) 256) h in
    let two = both (nat_lt (length ask.client_id) 256 && nat_lt (length ask.vendor) 256) (nat_lt (length ask.host) 256) three.0 in
    let one = both (nat_lt (length ask.client_id) 256) (nat_lt (length ask.vendor) 256) two.0 in
    record {
      client_id = below (length ask.client_id) one.0;
      vendor = below (length ask.vendor) one.1;
      host = below (length ask.host) two.1;
      list = below (length ask.list) three.1;
    }

-- ---- the answer by the tests

pub unfit : (ask : AskContent) (frame : List ℕ) (sent : Sent4) → ask_fits ask ≡ false → None ≡ if_said ask frame sent
unfit ask frame sent h = rw h refl

pub unspelled : (ask : AskContent) (frame : List ℕ) (sent : Sent4) → ask_fits ask ≡ true → bytes_eq frame (frame_of ask sent) ≡ false
    → None ≡ if_said ask frame sent
unspelled ask frame sent h s = rw (h, s) refl

pub unowned : (ask : AskContent) (frame : List ℕ) (sent : Sent4) → ask_fits ask ≡ true → bytes_eq frame (frame_of ask sent) ≡ true → is_of_a_client sent ≡ false
    → None ≡ if_said ask frame sent
unowned ask frame sent h s o = rw (h, s, o) refl

pub passed : (ask : AskContent) (frame : List ℕ) (sent : Sent4) → ask_fits ask ≡ true → bytes_eq frame (frame_of ask sent) ≡ true → is_of_a_client sent ≡ true
    → Some sent ≡ if_said ask frame sent
passed ask frame sent h s o = rw (h, s, o) refl

-- what a frame that was tested is
pub ruleset frame_tests = (unfit, unspelled, unowned, passed, fits_is)
