-- The messages that the frames of an interface spell are those that it said.
use Rattle.std.proofs.Common.{◌≡◌, ℕ, Bool, true, false, ◌||◌, List, [], ◌∷◌, ◌++◌, map, length, take, drop, ◌≤◌, Option, Some, None, IfSome, refl, sym, ap, subst, ◌∙◌, arith, append_assoc, lit≤}
use Rattle.std.proofs.lemmas.List.{length-append}
use Rattle.std.specs.Prelude.{option_to_list, option_map, option_and_then, if◌then◌else◌}
use Rattle.std.specs.List.{AllByRecursion, list_any}
use Rattle.std.specs.Option.{is_some}
use Rattle.net_types.proofs.AllLaws.{all_join, all_map}
use Rattle.net_types.specs.Fields.{u16_field}
use Rattle.net_types.specs.declared.address.Ip4.{Ip4}
use Rattle.net_types.specs.declared.address.Mac.{Mac}
use Rattle.frame_link.proofs.Cells.{six, six_cells}
use Rattle.frame_link.specs.Packets.{request_text}
use Rattle.arp_acd.specs.declared.detection.ArpSay.{ArpSay}
use Rattle.arp_acd.specs.declared.detection.ArpSay.TheVariants.{Probe, Announce}
use Rattle.udp_frame.specs.declared.udp4.TheConstants.{KIND_IPV4}
use Rattle.udp_frame.specs.Udp6Frames.{udp6_frame_text}
use Rattle.v4_message.specs.Requests.{AskContent, AskFits}
use Rattle.v4_frames.specs.declared.sent.Sent4.{Sent4}
use Rattle.v4_frames.specs.declared.speaker.Speaker.{Speaker}
use Rattle.v4_frames.specs.InRange.{FitsMac, FitsSent}
use Rattle.v4_frames.specs.Ours.{is_ours}
use Rattle.v4_frames.specs.Spelled.{sent_in}
use Rattle.v4_frames.proofs.FramesBack.{reads_back}
use Rattle.v4_frames.proofs.OtherKinds.{others_spell_nothing}
use Rattle.evidence_words.specs.V6Client.Moves.{OutContent}
use Rattle.evidence_words.specs.V6Client.Saying.{SpokenContent}
use Rattle.evidence_words.specs.V6Frames.Spelled.{Sent6, frame6_of}
use Rattle.v4_client.specs.declared.states.Say4.{Say4}
use Rattle.v4_client.specs.declared.states.Step4.{Step4}
use Rattle.v4_client.specs.Saying.{sent_of}
use Rattle.evidence_words.specs.ClientModel.Messages.{Said, Dhcp4, Arp, Dhcp6}
use Rattle.evidence_words.specs.ClientModel.ClientSettings.{ask_of}
use Rattle.evidence_words.specs.ClientModel.Clients.{spelled}
use Rattle.evidence_words.specs.ClientModel.Dhcp4Steps.{said_in}
use Rattle.evidence_words.specs.ClientModel.Dhcp6Steps.{said6_in, sent_by}
use Rattle.evidence_words.specs.ClientModel.declared.interfaces.Iface.{Iface}
use Rattle.evidence_words.specs.Entries.{Offer}
use Rattle.evidence_words.specs.Inputs.{Site}
use Rattle.evidence_words.proofs.Offers.{Offered}
use Rattle.lease_evidence.specs.Exchanges.{Seen, message_of, shows, show}
use Rattle.lease_evidence.specs.OwnMessages.{if_ours, own_in, speaker_of}
use Rattle.lease_evidence.specs.KeptBasis4.{AsksAgain}
use Rattle.lease_evidence.specs.LeaseBasis.{tells_end}
use Rattle.lease_evidence.proofs.Watching.{message_in}

-- ---- what is said, and the message in it

abbrev pub message_said : Said → Option Sent4
message_said (Dhcp4 say) = Some (sent_of say)
message_said (Arp say) = None
message_said (Dhcp6 sent) = None

-- A message of DHCPv4 is in range, and one of DHCPv6 has a hardware address.
abbrev pub FitsSaid : Said → Type 0
FitsSaid (Dhcp4 say) = FitsSent (sent_of say)
FitsSaid (Arp say) = Unit {0}
FitsSaid (Dhcp6 sent) = FitsMac sent.mac

-- A message of DHCPv4 is the client's own.
abbrev pub OwnSaid : Speaker → Said → Type 0
OwnSaid speaker (Dhcp4 say) = is_ours speaker (sent_of say) ≡ true
OwnSaid speaker (Arp say) = Unit {0}
OwnSaid speaker (Dhcp6 sent) = Unit {0}

-- a message that isn't one of DHCPv4
abbrev pub IsOther : Said → Type 0
IsOther (Dhcp4 say) = ⊥
IsOther (Arp say) = Unit {0}
IsOther (Dhcp6 sent) = FitsMac sent.mac

abbrev pub AreOther : List Said → Type 0
AreOther said = AllByRecursion IsOther said

other_fits : (say : Said) → IsOther say → FitsSaid say
other_fits (Dhcp4 say) h = absurd h
other_fits (Arp say) h = tt
other_fits (Dhcp6 sent) h = h

pub are_arp : (says : List ArpSay) → AreOther (map Arp says)
are_arp [] = tt
are_arp (say ∷ says) = (tt, are_arp says)

-- what DHCPv6 says
pub are_dhcp6 : (iface : Iface) (out : OutContent) → FitsMac iface.managed.spec.mac → AreOther (said6_in iface out)
are_dhcp6 iface out fits = by_say out.say
  where
    by_say : (say : Option SpokenContent) → AreOther (map (λ spoken. Dhcp6 (sent_by iface spoken)) (option_to_list say))
    by_say None = tt
    by_say (Some spoken) = (fits, tt)

pub others_fit : (said : List Said) → AreOther said → AllByRecursion FitsSaid said
others_fit said h = all_map IsOther FitsSaid other_fits said h

others_own : (speaker : Speaker) (said : List Said) → AreOther said → AllByRecursion (OwnSaid speaker) said
others_own speaker said h = all_map IsOther (OwnSaid speaker) other_own said h
  where
    other_own : (say : Said) → IsOther say → OwnSaid speaker say
    other_own (Dhcp4 say) h = absurd h
    other_own (Arp say) h = tt
    other_own (Dhcp6 sent) h = tt

-- what a step says, whatever is asked of messages of DHCPv4 alone
module _ (Asked : Said → Type 0) (arps : (arp : ArpSay) → Asked (Arp arp)) where
  step_all : (say : Option Say4) (arp : Option ArpSay) → IfSome say (λ say. Asked (Dhcp4 say))
      → AllByRecursion Asked (map Dhcp4 (option_to_list say) ++ map Arp (option_to_list arp))
  step_all None None h = tt
  step_all None (Some arp) h = (arps arp, tt)
  step_all (Some say) None h = (h, tt)
  step_all (Some say) (Some arp) h = (h, (arps arp, tt))

pub step_fits : (step : Step4) → IfSome step.say (λ say. FitsSent (sent_of say)) → AllByRecursion FitsSaid (said_in step)
step_fits step h = step_all FitsSaid (λ arp. tt) step.say step.arp h

step_own : (speaker : Speaker) (step : Step4) → IfSome step.say (λ say. is_ours speaker (sent_of say) ≡ true) → AllByRecursion (OwnSaid speaker) (said_in step)
step_own speaker step h = step_all (OwnSaid speaker) (λ arp. tt) step.say step.arp h

-- ---- frames

module _ (ask : AskContent) (fits : AskFits ask) (sender target : Ip4) where
  abbrev SpellsNothing : List ℕ → Type 0
  SpellsNothing mac = sent_in ask (request_text (record { bytes = mac }) sender target) ≡ None

  unlike : (kind : ℕ) → kind ≡ 0x0806 → kind ≡ 0x0800 → ⊥
  unlike kind arp ip = omega (arith, arp, ip)

  arp_cells : (mac : List ℕ) → SpellsNothing (six mac)
  arp_cells mac =
      others_spell_nothing ask (request_text (record { bytes = six mac }) sender target) (lit≤ tt) other
    where
      other : u16_field 12 (request_text (record { bytes = six mac }) sender target) ≡ KIND_IPV4 → ⊥
      other same = unlike _ refl same

  arp_spells : (mac : Mac) → FitsMac mac → SpellsNothing mac.bytes
  arp_spells mac len = subst SpellsNothing (sym (six_cells mac.bytes len)) (arp_cells mac.bytes)

-- a frame of DHCPv6 spells no message of DHCPv4
module _ (ask : AskContent) (sent : Sent6) where
  abbrev with_mac : List ℕ → Sent6
  with_mac mac = record { mac = record { bytes = mac }; said = sent.said }

  abbrev SpellsNone : List ℕ → Type 0
  SpellsNone mac = sent_in ask (frame6_of (with_mac mac)) ≡ None

  other_kind : (kind : ℕ) → kind ≡ 0x86dd → kind ≡ 0x0800 → ⊥
  other_kind kind ip6 ip4 = omega (arith, ip6, ip4)

  dhcp6_cells : (mac : List ℕ) → SpellsNone (six mac)
  unfolding udp6_frame_text
  dhcp6_cells mac =
      let frame : List ℕ = frame6_of (with_mac (six mac)) in
      others_spell_nothing ask frame (long (take 14 frame) (drop 14 frame) (lit≤ tt)) (λ same. other_kind _ refl same)
    where
      long : (front rest : List ℕ) → 14 ≤ length front → 14 ≤ length (front ++ rest)
      long front rest h = omega (arith, h, length-append front rest)

  dhcp6_spells : FitsMac sent.mac → sent_in ask (frame6_of sent) ≡ None
  dhcp6_spells len = subst SpellsNone (sym (six_cells sent.mac.bytes len)) (dhcp6_cells sent.mac.bytes)

module _ (site : Site) (ask_fits : AskFits (ask_of site.duid site.managed)) (mac_fits : FitsMac site.managed.spec.mac) (clean : Type 0) where
  abbrev ask : AskContent
  ask = ask_of site.duid site.managed

  abbrev speaker : Speaker
  speaker = speaker_of site.managed

  spells : (say : Said) → FitsSaid say → sent_in ask (spelled site.managed.spec ask say).bytes ≡ message_said say
  spells (Dhcp4 say) fits = reads_back ask (sent_of say) ask_fits fits
  spells (Arp (Probe addr)) fits = arp_spells ask ask_fits (record { number = 0 }) addr site.managed.spec.mac mac_fits
  spells (Arp (Announce addr)) fits = arp_spells ask ask_fits addr addr site.managed.spec.mac mac_fits
  spells (Dhcp6 sent) fits = dhcp6_spells ask sent fits

  -- what is said is the client's own
  taken : (say : Said) → OwnSaid speaker say → option_and_then (if_ours speaker) (message_said say) ≡ message_said say
  taken (Dhcp4 say) own = ap (λ (ours : Bool). if ours then Some (sent_of say) else None) own
  taken (Arp say) own = refl
  taken (Dhcp6 sent) own = refl

  pub spells_own : (say : Said) → FitsSaid say → OwnSaid speaker say → own_in speaker ask (spelled site.managed.spec ask say).bytes ≡ message_said say
  unfolding own_in
  spells_own say fits own = ap (option_and_then (if_ours speaker)) (spells say fits) ∙ taken say own

  pub messages_are : (said : List Said) (offers : List Offer) → Offered site.managed.spec ask clean said offers → AllByRecursion FitsSaid said
      → AllByRecursion (OwnSaid speaker) said → map (message_of site) offers ≡ map message_said said
  messages_are [] [] h fits own = refl
  messages_are [] (o ∷ offers) h fits own = absurd h
  messages_are (say ∷ said) [] h fits own = absurd h
  messages_are (say ∷ said) (o ∷ offers) h fits own = λ i.
      (ap (own_in speaker ask) h.0 ∙ spells_own say fits.0 own.0) i ∷ messages_are said offers h.2 fits.1 own.1 i

-- ---- what they show

module _ (at : ℕ) (more : List Said) where
  shows_step : (step : Step4) (s : Seen) → show at (map message_said (said_in step ++ more)) s ≡ show at (map message_said more) (shows at (message_in step) s)
  shows_step step s = by_parts step.say step.arp
    where
      by_parts : (say : Option Say4) (arp : Option ArpSay)
          → show at (map message_said ((map Dhcp4 (option_to_list say) ++ map Arp (option_to_list arp)) ++ more)) s
          ≡ show at (map message_said more) (shows at (option_map sent_of say) s)
      by_parts None None = refl
      by_parts None (Some arp) = refl
      by_parts (Some say) None = refl
      by_parts (Some say) (Some arp) = refl

  shows_others : (said : List Said) (s : Seen) → AreOther said → show at (map message_said (said ++ more)) s ≡ show at (map message_said more) s
  shows_others [] s h = refl
  shows_others (Dhcp4 say ∷ said) s h = absurd h.0
  shows_others (Arp say ∷ said) s h = shows_others said s h.1
  shows_others (Dhcp6 sent ∷ said) s h = shows_others said s h.1

  ends_step : (step : Step4)
      → list_any tells_end (map message_said (said_in step ++ more)) ≡ (tells_end (message_in step) || list_any tells_end (map message_said more))
  ends_step step = by_parts step.say step.arp
    where
      by_parts : (say : Option Say4) (arp : Option ArpSay)
          → list_any tells_end (map message_said ((map Dhcp4 (option_to_list say) ++ map Arp (option_to_list arp)) ++ more))
          ≡ (tells_end (option_map sent_of say) || list_any tells_end (map message_said more))
      by_parts None None = refl
      by_parts None (Some arp) = refl
      by_parts (Some say) None = refl
      by_parts (Some say) (Some arp) = refl

  ends_others : (said : List Said) → AreOther said → list_any tells_end (map message_said (said ++ more)) ≡ list_any tells_end (map message_said more)
  ends_others [] h = refl
  ends_others (Dhcp4 say ∷ said) h = absurd h.0
  ends_others (Arp say ∷ said) h = ends_others said h.1
  ends_others (Dhcp6 sent ∷ said) h = ends_others said h.1

  speaks_step : (step : Step4)
      → list_any is_some (map message_said (said_in step ++ more)) ≡ (is_some (message_in step) || list_any is_some (map message_said more))
  speaks_step step = by_parts step.say step.arp
    where
      by_parts : (say : Option Say4) (arp : Option ArpSay)
          → list_any is_some (map message_said ((map Dhcp4 (option_to_list say) ++ map Arp (option_to_list arp)) ++ more))
          ≡ (is_some (option_map sent_of say) || list_any is_some (map message_said more))
      by_parts None None = refl
      by_parts None (Some arp) = refl
      by_parts (Some say) None = refl
      by_parts (Some say) (Some arp) = refl

  speaks_others : (said : List Said) → AreOther said → list_any is_some (map message_said (said ++ more)) ≡ list_any is_some (map message_said more)
  speaks_others [] h = refl
  speaks_others (Dhcp4 say ∷ said) h = absurd h.0
  speaks_others (Arp say ∷ said) h = speaks_others said h.1
  speaks_others (Dhcp6 sent ∷ said) h = speaks_others said h.1

  module _ (xid : ℕ) (address : Ip4) where
    abbrev AskAll : List Said → Type 0
    AskAll said = AllByRecursion (λ message. IfSome message (AsksAgain xid address)) (map message_said said)

    asks_step : (step : Step4) → IfSome (message_in step) (AsksAgain xid address) → AskAll more → AskAll (said_in step ++ more)
    asks_step step asks rest = by_parts step.say step.arp asks
      where
        by_parts : (say : Option Say4) (arp : Option ArpSay) → IfSome (option_map sent_of say) (AsksAgain xid address)
            → AskAll ((map Dhcp4 (option_to_list say) ++ map Arp (option_to_list arp)) ++ more)
        by_parts None None h = rest
        by_parts None (Some arp) h = (tt, rest)
        by_parts (Some say) None h = (h, rest)
        by_parts (Some say) (Some arp) h = (h, (tt, rest))

    asks_others : (said : List Said) → AreOther said → AskAll more → AskAll (said ++ more)
    asks_others [] h rest = rest
    asks_others (Dhcp4 say ∷ said) h rest = absurd h.0
    asks_others (Arp say ∷ said) h rest = (tt, asks_others said h.1 rest)
    asks_others (Dhcp6 sent ∷ said) h rest = (tt, asks_others said h.1 rest)

-- what an interface says in a turn: a step of its DHCPv4 client, other messages, another step, other messages
abbrev pub said_all : (one : Step4) (between : List Said) (two : Step4) (after : List Said) → List Said
said_all one between two after = (said_in one ++ between) ++ (said_in two ++ after)

module _ (at : ℕ) (one two : Step4) (between after : List Said) (others : AreOther between) (more_others : AreOther after) where
  same_list : said_all one between two after ≡ said_in one ++ (between ++ (said_in two ++ (after ++ [])))
  same_list =
      append_assoc (said_in one) between (said_in two ++ after)
      ∙ ap (λ (rest : List Said). said_in one ++ (between ++ (said_in two ++ rest))) (sym (append_nil_said after))
    where
      append_nil_said : (said : List Said) → said ++ [] ≡ said
      append_nil_said [] = refl
      append_nil_said (say ∷ said) = ap (λ (rest : List Said). say ∷ rest) (append_nil_said said)

  pub shows_all : (s : Seen) → show at (map message_said (said_all one between two after)) s ≡ shows at (message_in two) (shows at (message_in one) s)
  shows_all s =
      ap (λ (said : List Said). show at (map message_said said) s) same_list
      ∙ shows_step at (between ++ (said_in two ++ (after ++ []))) one s
      ∙ shows_others at (said_in two ++ (after ++ [])) between (shows at (message_in one) s) others
      ∙ shows_step at (after ++ []) two (shows at (message_in one) s)
      ∙ shows_others at [] after (shows at (message_in two) (shows at (message_in one) s)) more_others

  or_none : (a b : Bool) → (a || (b || false)) ≡ (a || b)
  or_none true b = refl
  or_none false true = refl
  or_none false false = refl

  pub ends_all : list_any tells_end (map message_said (said_all one between two after)) ≡ (tells_end (message_in one) || tells_end (message_in two))
  ends_all =
      ap (λ (said : List Said). list_any tells_end (map message_said said)) same_list
      ∙ ends_step at (between ++ (said_in two ++ (after ++ []))) one
      ∙ ap (λ b. tells_end (message_in one) || b) (ends_others at (said_in two ++ (after ++ [])) between others
      ∙ ends_step at (after ++ []) two ∙ ap (λ b. tells_end (message_in two) || b) (ends_others at [] after more_others))
      ∙ or_none (tells_end (message_in one)) (tells_end (message_in two))

  pub speaks_all : list_any is_some (map message_said (said_all one between two after)) ≡ (is_some (message_in one) || is_some (message_in two))
  speaks_all =
      ap (λ (said : List Said). list_any is_some (map message_said said)) same_list
      ∙ speaks_step at (between ++ (said_in two ++ (after ++ []))) one
      ∙ ap (λ b. is_some (message_in one) || b) (speaks_others at (said_in two ++ (after ++ [])) between others
      ∙ speaks_step at (after ++ []) two ∙ ap (λ b. is_some (message_in two) || b) (speaks_others at [] after more_others))
      ∙ or_none (is_some (message_in one)) (is_some (message_in two))

  -- each message asks for an address again where those of both steps do
  pub asks_all : (xid : ℕ) (address : Ip4) → IfSome (message_in one) (AsksAgain xid address) → IfSome (message_in two) (AsksAgain xid address)
      → AllByRecursion (λ message. IfSome message (AsksAgain xid address)) (map message_said (said_all one between two after))
  asks_all xid address first second =
      subst (λ (said : List Said). AllByRecursion (λ message. IfSome message (AsksAgain xid address)) (map message_said said)) (sym same_list)
      (asks_step at (between ++ (said_in two ++ (after ++ []))) xid address one first
      (asks_others at (said_in two ++ (after ++ [])) xid address between others
      (asks_step at (after ++ []) xid address two second (asks_others at [] xid address after more_others tt))))

  pub all_fit : IfSome one.say (λ say. FitsSent (sent_of say)) → IfSome two.say (λ say. FitsSent (sent_of say))
      → AllByRecursion FitsSaid (said_all one between two after)
  all_fit first second =
      all_join FitsSaid (said_in one ++ between) (said_in two ++ after)
      (all_join FitsSaid (said_in one) between (step_fits one first) (others_fit between others))
      (all_join FitsSaid (said_in two) after (step_fits two second) (others_fit after more_others))

  pub all_own : (speaker : Speaker) → IfSome one.say (λ say. is_ours speaker (sent_of say) ≡ true)
      → IfSome two.say (λ say. is_ours speaker (sent_of say) ≡ true)
      → AllByRecursion (OwnSaid speaker) (said_all one between two after)
  all_own speaker first second =
      all_join (OwnSaid speaker) (said_in one ++ between) (said_in two ++ after)
      (all_join (OwnSaid speaker) (said_in one) between (step_own speaker one first) (others_own speaker between others))
      (all_join (OwnSaid speaker) (said_in two) after (step_own speaker two second) (others_own speaker after more_others))
