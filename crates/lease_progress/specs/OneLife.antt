-- Two lives of an interface for which all goes well, written out. Moments are in milliseconds.
use Rattle.std.specs.Prelude.{◌≡◌, ℕ, ◌+◌, ◌*◌, ◌<◌, true, false, List, [], ◌∷◌, None, Some}
use Rattle.v4_client.specs.declared.moments.TheConstants.{SECOND}
use Rattle.v4_client.specs.declared.states.Exchange4.{Exchange4}
use Rattle.v4_client.specs.Answers.{is_unexpired}
use Rattle.v4_client.specs.Saying.{request}
use Rattle.world.specs.declared.wakes.Event.TheVariants.{Frame, Quiet}
use Rattle.settings.specs.declared.interfaces.Managed.{Managed}
use Rattle.client_model.specs.ClientSettings.{site_of}
use Rattle.client_model.specs.KeptLeases.{Beginning}
use Rattle.client_model.specs.Messages.{Dhcp4}
use Rattle.evidence_words.specs.IfaceLives.{Met, Opening, shown, now_in}
use Rattle.lease_evidence.specs.PlainIface.{client_mac}
use Rattle.lease_evidence.specs.SevenTurns.{announces, beginning, duid, granted, interface, lease, met, opening, probes, reply_frame, says, seven_turns}
use Rattle.lease_progress.specs.FairTurns.{GoesWell}
use Rattle.lease_progress.specs.LeaseHeld.{acquiring, asks_again, least_asking, reacquiring}
use Rattle.lease_progress.specs.Serving.{EachRequest}

-- DISCOVER; an OFFER after 999, and REQUEST; an ACK after 500; three probes, the gain, and the second announcement; and
-- a minute later
abbrev pub nine_turns : List Met
nine_turns = met 65000 Quiet [] [] ∷ met 8503 Quiet [] announces ∷ seven_turns

-- each message is answered within a second
abbrev pub one_second : ℕ
one_second = 1000

pub record OneLifeGoesWell : Type 0 where
  pub goes_well : GoesWell (client_mac ∷ []) beginning opening nine_turns EachRequest one_second
  pub quick : one_second < least_asking
  pub anew : asks_again interface.conf opening.at beginning.kept4 ≡ false
  pub past_end : opening.at + acquiring interface.conf one_second < now_in (shown opening nine_turns)

-- ---- one that asks for its kept lease again

-- eth0 of that life, which asks for five seconds
abbrev pub asks_five_seconds : Managed
asks_five_seconds =
    record interface { conf = record interface.conf { times = record interface.conf.times { reboot = 5 } } }

-- the lease of that life was kept
abbrev pub with_kept : Beginning
with_kept = record { managed = asks_five_seconds; duid = duid; kept4 = Some lease; kept6 = None }

-- the exchange of its REQUEST (RFC 2131, section 4.3.2)
abbrev pub asked_again : Exchange4
asked_again = record { xid = 1; address = granted; server = None; first = 100000 }

abbrev pub reopening : Opening
reopening = record {
  up = 1;
  at = 100000;
  salt = 0;
  offers = says (Dhcp4 (request (site_of asks_five_seconds) asked_again 0));
}

-- REQUEST at the opening; an ACK after 500; three probes, the gain, and the second announcement; and a minute later
abbrev pub again_turns : List Met
again_turns =
    met 163000 Quiet [] []
    ∷ met 106503 Quiet [] announces
    ∷ met 104503 Quiet [] announces
    ∷ met 102503 Quiet [] probes
    ∷ met 101502 Quiet [] probes
    ∷ met 100501 Quiet [] probes
    ∷ met 100500 (Frame 1 304) (reply_frame 5) []
    ∷ []

pub record AgainLifeGoesWell : Type 0 where
  pub goes_well : GoesWell (client_mac ∷ []) with_kept reopening again_turns EachRequest one_second
  pub kept : with_kept.kept4 ≡ Some lease
  pub unexpired : is_unexpired lease.first lease.lease (reopening.at + one_second) ≡ true
  pub longer : one_second < SECOND * asks_five_seconds.conf.times.reboot
  pub past_end : reopening.at + reacquiring asks_five_seconds.conf one_second < now_in (shown reopening again_turns)
