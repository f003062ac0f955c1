-- What a turn shows of the messages that are said in it.
use Rattle.std.proofs.Common.{◌≡◌, Bool, true, false, ◌||◌, List, [], ◌∷◌, ◌++◌, map, Option, Some, refl, sym, ap, subst, ◌∙◌}
use Rattle.std.specs.Prelude.{option_to_list}
use Rattle.std.specs.List.{list_any, AllByRecursion}
use Rattle.v4_message.specs.Requests.{AskFits}
use Rattle.v4_frames.specs.declared.sent.Sent4.{Sent4}
use Rattle.v4_frames.specs.InRange.{FitsMac}
use Rattle.v4_client.specs.declared.states.Say4.{Say4}
use Rattle.v4_client.specs.declared.states.Step4.{Step4}
use Rattle.v4_client.specs.Saying.{sent_of}
use Rattle.client_model.specs.Messages.{Said, Arp, Dhcp4}
use Rattle.client_model.specs.ClientSettings.{ask_of}
use Rattle.client_model.specs.Clients.{frame_of}
use Rattle.client_model.specs.Dhcp4Steps.{said_in}
use Rattle.evidence_words.specs.Entries.{Entry}
use Rattle.evidence_words.specs.Inputs.{Site, offers_at}
use Rattle.lease_evidence.specs.Exchanges.{messages_at, seen_in, show, shows}
use Rattle.lease_evidence.specs.OwnMessages.{speaker_of}
use Rattle.lease_evidence.proofs.Spoken.{AreOther, FitsSaid, OwnSaid, message_said, messages_are, said_all, shows_all}
use Rattle.lease_evidence.proofs.Watching.{message_in}
use Rattle.lease_progress.proofs.Lived.{each_offered}

module _ (says : Option Sent4 → Bool) where
  abbrev Among : List Said → Type 0
  Among said = list_any says (map message_said said) ≡ true

  either_way : (a b : Bool) → b ≡ true → (a || b) ≡ true
  either_way true b h = refl
  either_way false b h = h

  pub in_front : (front back : List Said) → Among front → Among (front ++ back)
  in_front [] back h = absurd cc
  in_front (say ∷ front) back h = by (says (message_said say)) (list_any says (map message_said front)) h (λ more. in_front front back more)
    where
      by : (this others : Bool) → (this || others) ≡ true → (others ≡ true → Among (front ++ back))
          → (this || list_any says (map message_said (front ++ back))) ≡ true
      by true others h more = refl
      by false others h more = more h

  pub in_back : (front back : List Said) → Among back → Among (front ++ back)
  in_back [] back h = h
  in_back (say ∷ front) back h = either_way (says (message_said say)) _ (in_back front back h)

  pub by_step : (step : Step4) (say : Say4) → step.say ≡ Some say → says (Some (sent_of say)) ≡ true → Among (said_in step)
  by_step step say is h = subst (λ (s : Option Say4). Among (map Dhcp4 (option_to_list s) ++ map Arp (option_to_list step.arp))) (sym is) (rw h refl)

-- the messages of both steps are among those of the turn, and they alone count for the exchanges
pub record Shows (site : Site) (e : Entry) (past : List Entry) (one two : Step4) : Type 0 where
  pub first : (says : Option Sent4 → Bool) (say : Say4) → one.say ≡ Some say → says (Some (sent_of say)) ≡ true → list_any says (messages_at site e) ≡ true
  pub second : (says : Option Sent4 → Bool) (say : Say4) → two.say ≡ Some say → says (Some (sent_of say)) ≡ true → list_any says (messages_at site e) ≡ true
  pub seen : seen_in site (e ∷ past) ≡ shows e.moment (message_in two) (shows e.moment (message_in one) (seen_in site past))

module _ (site : Site) (ask : AskFits (ask_of site.duid site.managed)) (mac : FitsMac site.managed.spec.mac) (e : Entry) where
  pub messages_so : (said : List Said) → map (λ o. o.bytes) (offers_at site e) ≡ map (frame_of site.managed.spec (ask_of site.duid site.managed)) said
      → AllByRecursion FitsSaid said → AllByRecursion (OwnSaid (speaker_of site.managed)) said → messages_at site e ≡ map message_said said
  messages_so said frames fit own =
      messages_are site ask mac ⊥ said (offers_at site e)
      (each_offered site.managed.spec (ask_of site.duid site.managed) ⊥ said (offers_at site e) frames (λ never. absurd never)) fit own

  pub both_shown : (past : List Entry) (one two : Step4) (between after : List Said) → AreOther between → AreOther after
      → messages_at site e ≡ map message_said (said_all one between two after) → Shows site e past one two
  both_shown past one two between after others more_others same = record {
    first = λ says say is h. ap (list_any says) same
        ∙ in_front says (said_in one ++ between) (said_in two ++ after) (in_front says (said_in one) between (by_step says one say is h));
    second = λ says say is h. ap (list_any says) same
        ∙ in_back says (said_in one ++ between) (said_in two ++ after) (in_front says (said_in two) after (by_step says two say is h));
    seen = ap (λ messages. show e.moment messages (seen_in site past)) same ∙ shows_all e.moment one two between after others more_others (seen_in site past);
  }
