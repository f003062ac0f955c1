-- What is read as a client's frame is one.
use Rattle.std.proofs.Common.{◌≡◌, ℕ, Bool, true, false, List, Option, Some, None, refl, sym, ap, subst, ◌∙◌}
use Rattle.std.specs.Prelude.{option_and_then, bytes_eq, if◌then◌else◌}
use Rattle.std.proofs.lemmas.Slice.Eq.{bytes_eq-Decides}
use Rattle.v4_message.specs.Requests.{AskContent, AskFits}
use Rattle.v4_frames.specs.declared.sent.Sent4.{Sent4}
use Rattle.v4_frames.specs.Spelled.{frame_of, seen_in, if_spelled, sent_in}
use Rattle.client_frames.specs.Unsaid.{IsUnsaid}
use Rattle.lab_peer.specs.ClientFrames.{ask_in, ask_fits, is_of_a_client, if_of_a_client, if_said, client_sent}
use Rattle.lab_peer.specs.Laws.{IsClientFrame, ClientsAloneAreRead}
use Rattle.lab_peer.proofs.Tests.{fits_is}

-- ---- what is read is a client's frame

-- it is the frame of what it seems to say
record IsRead (ask : AskContent) (frame : List ℕ) (seen sent : Sent4) : Type 0 where
  fits : AskFits ask
  spelled : frame ≡ frame_of ask seen
  same : seen ≡ sent
  own : is_of_a_client sent ≡ true

by_tests : (ask : AskContent) (frame : List ℕ) (seen sent : Sent4) (fits same own : Bool)
    → (fits ≡ true → AskFits ask) → (same ≡ true → frame ≡ frame_of ask seen) → is_of_a_client seen ≡ own
    → (if fits then option_and_then (λ (s : Sent4). if own then Some seen else None) (if same then Some seen else None) else None) ≡ Some sent
    → IsRead ask frame seen sent
by_tests ask frame seen sent false same own f s o e = absurd cc
by_tests ask frame seen sent true false own f s o e = absurd cc
by_tests ask frame seen sent true true false f s o e = absurd cc
by_tests ask frame seen sent true true true f s o e =
    let is : seen ≡ sent = one_is seen sent e in
    record { fits = f refl; spelled = s refl; same = is; own = subst (λ (x : Sent4). is_of_a_client x ≡ true) is o }
  where
    one_is : (a b : Sent4) → Some a ≡ Some b → a ≡ b
    one_is a b e = cc

if_same : (seen : Sent4) (same : Bool)
    → option_and_then if_of_a_client (if same then Some seen else None)
    ≡ option_and_then (λ (s : Sent4). if is_of_a_client seen then Some seen else None) (if same then Some seen else None)
if_same seen true = refl
if_same seen false = refl

said_is : (ask : AskContent) (frame : List ℕ) (seen sent : Sent4) → if_said ask frame seen ≡ Some sent → IsRead ask frame seen sent
said_is ask frame seen sent e =
    by_tests ask frame seen sent (ask_fits ask) (bytes_eq frame (frame_of ask seen)) (is_of_a_client seen) (fits_is ask)
    (bytes_eq-Decides frame (frame_of ask seen)).0 refl
    (ap (λ (o : Option Sent4). if ask_fits ask then o else None) (sym (if_same seen (bytes_eq frame (frame_of ask seen)))) ∙ e)

read_as : (frame : List ℕ) (seen : Option Sent4) (sent : Sent4) → option_and_then (if_said (ask_in frame) frame) seen ≡ Some sent
    → IsClientFrame frame sent
read_as frame None sent e = absurd cc
read_as frame (Some seen) sent e =
    let is = said_is (ask_in frame) frame seen sent e in
    record { ask = ask_in frame; fits = is.fits; spelled = is.spelled ∙ ap (frame_of (ask_in frame)) is.same; own = is.own }

pub clients_alone_are_read : ClientsAloneAreRead
unfolding client_sent
clients_alone_are_read frame sent e = read_as frame (seen_in frame) sent e

-- ---- frames by what they seem to say

none_said : (ask : AskContent) (frame : List ℕ) (seen : Option Sent4) (fits : Bool) → ask_fits ask ≡ fits
    → (AskFits ask → option_and_then (if_spelled ask frame) seen ≡ None) → option_and_then (if_said ask frame) seen ≡ None
none_said ask frame None fits f h = refl
none_said ask frame (Some seen) false f h = rw f refl
none_said ask frame (Some seen) true f h = rw f (ap (option_and_then if_of_a_client) (h (fits_is ask f)))

spelled_none : (ask : AskContent) (frame : List ℕ) → sent_in ask frame ≡ None → option_and_then (if_spelled ask frame) (seen_in frame) ≡ None
unfolding sent_in
spelled_none ask frame h = h

pub unsaid_frames : (frame : List ℕ) → IsUnsaid frame → client_sent frame ≡ None
unfolding client_sent
unsaid_frames frame none =
    none_said (ask_in frame) frame (seen_in frame) (ask_fits (ask_in frame)) refl (λ fits. spelled_none (ask_in frame) frame (none (ask_in frame) fits))

pub seen_frames : (frame : List ℕ) (seen : Sent4) → seen_in frame ≡ Some seen → client_sent frame ≡ if_said (ask_in frame) frame seen
unfolding client_sent
seen_frames frame seen is = rw is refl
