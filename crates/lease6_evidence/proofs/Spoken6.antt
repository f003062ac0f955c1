-- The DHCPv6 messages that the frames of an interface spell are those that its client said.
use Rattle.std.proofs.Common.{◌≡◌, ℕ, ◌≤◌, true, ◌||◌, List, [], ◌∷◌, ◌++◌, length, map, Option, Some, None, IfSome, refl, sym, ap, subst, ◌∙◌, arith, lit≤, is_some}
use Rattle.std.specs.Prelude.{option_to_list}
use Rattle.std.specs.List.{AllByRecursion, list_any}
use Rattle.std.specs.Option.{option_and_then}
use Rattle.net_types.specs.Fields.{u16_field}
use Rattle.net_types.specs.declared.address.Ip4.{Ip4}
use Rattle.net_types.specs.declared.address.Mac.{Mac}
use Rattle.frame_link.proofs.Cells.{six, six_cells}
use Rattle.frame_link.specs.Packets.{request_text}
use Rattle.arp_acd.specs.declared.detection.ArpSay.TheVariants.{Probe, Announce}
use Rattle.udp_frame.specs.Udp4Frames.{udp4_frame_text}
use Rattle.lease_evidence.specs.V4Message.Requests.{AskContent, message_text, padded}
use Rattle.v4_frames.specs.declared.sent.TheConstants as ports
use Rattle.v4_frames.specs.InRange.{FitsMac}
use Rattle.lease_evidence.specs.V4Client.declared.states.Say4.{Say4}
use Rattle.lease_evidence.specs.V4Client.Saying.{sent_of}
use Rattle.v6_client.specs.V6Items.Items.{is_nonempty}
use Rattle.v6_frames.specs.InRange.{FitsSent6}
use Rattle.v6_frames.specs.Spelled.{Sent6, sent6_in}
use Rattle.v6_frames.proofs.FramesBack.{reads_back}
use Rattle.v6_frames.proofs.OtherKinds.{others_spell_nothing}
use Rattle.lease_evidence.specs.ClientModel.ClientSettings.{ask_of}
use Rattle.lease_evidence.specs.ClientModel.Clients.{frame_of}
use Rattle.lease_evidence.specs.ClientModel.IfaceSteps.{IfaceStep}
use Rattle.lease_evidence.specs.ClientModel.Messages.{Said, Arp, Dhcp4, Dhcp6}
use Rattle.lease_evidence.specs.EvidenceWords.Entries.{Entry, Offer}
use Rattle.lease_evidence.specs.EvidenceWords.IfaceLives.{IsSaid}
use Rattle.lease_evidence.specs.EvidenceWords.Inputs.{Site, offers_at}
use Rattle.lease6_evidence.specs.Exchanges6.{Seen6, if_own, is_own, message6_of, messages6_at, seen6_in, show6, shows6}
use Rattle.lease6_evidence.specs.KeptBasis6.{IsRebind, speaks6}
use Rattle.lease6_evidence.proofs.Steps6.{sixes}

-- ---- what is in range

-- a message of DHCPv4 goes between hardware addresses of six bytes
pub record FitsEnds (say : Say4) : Type 0 where
  pub from : FitsMac (sent_of say).ends.from_mac
  pub to : FitsMac (sent_of say).ends.to_mac

abbrev pub FitsFour : Said → Type 0
FitsFour (Dhcp4 say) = FitsEnds say
FitsFour (Arp say) = Unit {0}
FitsFour (Dhcp6 sent) = Unit {0}

-- a message of DHCPv6 is read back, and is the interface's own
pub record FitsOwn (site : Site) (sent : Sent6) : Type 0 where
  pub fits : FitsSent6 sent
  pub own : is_own site sent ≡ true

abbrev FitsSaid6 : Site → Said → Type 0
FitsSaid6 site (Dhcp4 say) = FitsEnds say
FitsSaid6 site (Arp say) = Unit {0}
FitsSaid6 site (Dhcp6 sent) = FitsOwn site sent

-- what the frames of a turn spell, where the client says one message by its tick, and another one by its input
pub record Talk (site : Site) (e : Entry) (first second : Option Sent6) : Type 0 where
  pub speaks : speaks6 site e ≡ (is_some first || is_some second)
  pub alone : (xid : ℕ) → IfSome first (IsRebind xid) → IfSome second (IsRebind xid)
      → AllByRecursion (λ message. IfSome message (IsRebind xid)) (messages6_at site e)

-- ---- frames

four_and_six : (kind : ℕ) → kind ≡ 0x0800 → kind ≡ 0x86dd → ⊥
four_and_six kind four six = omega (arith, four, six)

arp_and_six : (kind : ℕ) → kind ≡ 0x0806 → kind ≡ 0x86dd → ⊥
arp_and_six kind arp six = omega (arith, arp, six)

module _ (from to : Ip4) (payload : List ℕ) where
  abbrev frame4 : List ℕ → List ℕ → List ℕ
  frame4 from_mac to_mac =
      udp4_frame_text (record {
        from_mac = record { bytes = from_mac };
        to_mac = record { bytes = to_mac };
        from = from;
        to =
            to;
      }) ports.CLIENT_PORT ports.SERVER_PORT payload

  -- it has its header, and isn't one of IPv6
  record IsFour (from_mac to_mac : List ℕ) : Type 0 where
    long : 14 ≤ length (frame4 from_mac to_mac)
    kind : u16_field 12 (frame4 from_mac to_mac) ≡ 0x0800

  four_cells : (f t : List ℕ) → IsFour (six f) (six t)
  unfolding udp4_frame_text
  four_cells f t = record { long = omega arith; kind = refl }

  is_four : (f t : List ℕ) → length f ≡ 6 → length t ≡ 6 → IsFour f t
  is_four f t f_len t_len =
      subst (λ (m : List ℕ). IsFour m t) (sym (six_cells f f_len))
      (subst (λ (m : List ℕ). IsFour (six f) m) (sym (six_cells t t_len)) (four_cells f t))

  four_spells : (f t : List ℕ) → length f ≡ 6 → length t ≡ 6 → sent6_in (frame4 f t) ≡ None
  four_spells f t f_len t_len =
      let is : IsFour f t = is_four f t f_len t_len in
      others_spell_nothing (frame4 f t) is.long (λ other. four_and_six _ is.kind other)

module _ (sender target : Ip4) where
  arp_cells : (mac : List ℕ) → sent6_in (request_text (record { bytes = six mac }) sender target) ≡ None
  arp_cells mac =
      others_spell_nothing (request_text (record { bytes = six mac }) sender target) (lit≤ tt)
      (λ other. arp_and_six _ refl other)

  arp_spells : (mac : Mac) → FitsMac mac → sent6_in (request_text mac sender target) ≡ None
  arp_spells mac len =
      subst (λ (m : List ℕ). sent6_in (request_text (record { bytes = m }) sender target) ≡ None)
      (sym (six_cells mac.bytes len)) (arp_cells mac.bytes)

module _ (site : Site) (mac_fits : FitsMac site.managed.spec.mac) where
  abbrev ask : AskContent
  ask = ask_of site.duid site.managed

  abbrev frame : Said → List ℕ
  frame say = frame_of site.managed.spec ask say

  abbrev read : List ℕ → Option Sent6
  read bytes = option_and_then (if_own site) (sent6_in bytes)

  abbrev message_said : Said → Option Sent6
  message_said (Dhcp4 say) = None
  message_said (Arp say) = None
  message_said (Dhcp6 sent) = Some sent

  owned : (sent : Sent6) → is_own site sent ≡ true → if_own site sent ≡ Some sent
  owned sent own = rw own refl

  spells : (say : Said) → FitsSaid6 site say → read (frame say) ≡ message_said say
  spells (Dhcp4 say) fits =
      ap (λ (m : Option Sent6). option_and_then (if_own site) m)
      (four_spells (sent_of say).ends.from (sent_of say).ends.to (padded (message_text (sent_of say).said ask))
      (sent_of say).ends.from_mac.bytes
      (sent_of say).ends.to_mac.bytes fits.from fits.to)
  spells (Arp (Probe addr)) fits =
      ap (λ (m : Option Sent6). option_and_then (if_own site) m) (arp_spells (record { number = 0 }) addr site.managed.spec.mac
      mac_fits)
  spells (Arp (Announce addr)) fits =
      ap (λ (m : Option Sent6). option_and_then (if_own site) m) (arp_spells addr addr site.managed.spec.mac mac_fits)
  spells (Dhcp6 sent) fits = ap (λ (m : Option Sent6). option_and_then (if_own site) m) (reads_back sent fits.fits)
      ∙ owned sent fits.own

  spells_all : (said : List Said) → AllByRecursion (FitsSaid6 site) said
      → map (λ say. read (frame say)) said ≡ map message_said said
  spells_all [] fits = refl
  spells_all (say ∷ said) fits = λ i. spells say fits.0 i ∷ spells_all said fits.1 i

  by_bytes : (offers : List Offer) → map (message6_of site) offers ≡ map read (map (λ o. o.bytes) offers)
  by_bytes [] = refl
  by_bytes (o ∷ offers) = ap (λ (rest : List (Option Sent6)). message6_of site o ∷ rest) (by_bytes offers)

  by_frames : (said : List Said) → map read (map frame said) ≡ map (λ say. read (frame say)) said
  by_frames [] = refl
  by_frames (say ∷ said) = ap (λ (rest : List (Option Sent6)). read (frame say) ∷ rest) (by_frames said)

  messages_are : (e : Entry) (step : IfaceStep) → IsSaid site e step → AllByRecursion (FitsSaid6 site) step.said
      → messages6_at site e ≡ map message_said step.said
  messages_are e step said fits =
      by_bytes (offers_at site e) ∙ ap (λ (frames : List (List ℕ)). map read frames) said ∙ by_frames step.said
      ∙ spells_all step.said fits

  -- ---- what they show

  shows_sixes : (said : List Said) (seen : Seen6) → show6 (map message_said said) seen ≡ show6 (map Some (sixes said)) seen
  shows_sixes [] seen = refl
  shows_sixes (Dhcp4 say ∷ said) seen = shows_sixes said seen
  shows_sixes (Arp say ∷ said) seen = shows_sixes said seen
  shows_sixes (Dhcp6 sent ∷ said) seen = shows_sixes said (shows6 (Some sent) seen)

  shows_both : (first second : Option Sent6) (seen : Seen6)
      → show6 (map Some (option_to_list first ++ option_to_list second)) seen ≡ shows6 second (shows6 first seen)
  shows_both None None seen = refl
  shows_both None (Some second) seen = refl
  shows_both (Some first) None seen = refl
  shows_both (Some first) (Some second) seen = refl

  -- ---- all of them are in range

  all_fit : (said : List Said) → AllByRecursion FitsFour said → AllByRecursion (FitsOwn site) (sixes said)
      → AllByRecursion (FitsSaid6 site) said
  all_fit [] four six = tt
  all_fit (Dhcp4 say ∷ said) four six = (four.0, all_fit said four.1 six)
  all_fit (Arp say ∷ said) four six = (tt, all_fit said four.1 six)
  all_fit (Dhcp6 sent ∷ said) four six = (six.0, all_fit said four.1 six.1)

  both_fit : (first second : Option Sent6) → IfSome first (FitsOwn site) → IfSome second (FitsOwn site)
      → AllByRecursion (FitsOwn site) (option_to_list first ++ option_to_list second)
  both_fit None None one two = tt
  both_fit None (Some second) one two = (two, tt)
  both_fit (Some first) None one two = (one, tt)
  both_fit (Some first) (Some second) one two = (one, (two, tt))

  -- the exchanges after a turn in which the client says a message by its tick, and another one by its input
  pub seen_after : (e : Entry) (past : List Entry) (step : IfaceStep) (first second : Option Sent6) → IsSaid site e step
      → sixes step.said ≡ option_to_list first ++ option_to_list second → AllByRecursion FitsFour step.said
      → IfSome first (FitsOwn site) → IfSome second (FitsOwn site)
      → seen6_in site (e ∷ past) ≡ shows6 second (shows6 first (seen6_in site past))
  seen_after e past step first second said same four one two =
      let fits : AllByRecursion (FitsSaid6 site) step.said =
      all_fit step.said four (subst (λ (l : List Sent6). AllByRecursion (FitsOwn site) l) (sym same)
      (both_fit first second one two)) in
      ap (λ (messages : List (Option Sent6)). show6 messages (seen6_in site past)) (messages_are e step said fits)
      ∙ shows_sixes step.said (seen6_in site past)
      ∙ ap (λ (l : List Sent6). show6 (map Some l) (seen6_in site past)) same
      ∙ shows_both first second (seen6_in site past)

  -- ---- what is said

  said_rebinds : (said : List Said) (xid : ℕ) → AllByRecursion (IsRebind xid) (sixes said)
      → AllByRecursion (λ message. IfSome message (IsRebind xid)) (map message_said said)
  said_rebinds [] xid all = tt
  said_rebinds (Dhcp4 say ∷ said) xid all = (tt, said_rebinds said xid all)
  said_rebinds (Arp say ∷ said) xid all = (tt, said_rebinds said xid all)
  said_rebinds (Dhcp6 sent ∷ said) xid all = (all.0, said_rebinds said xid all.1)

  speaks_sixes : (said : List Said) → list_any is_some (map message_said said) ≡ is_nonempty (sixes said)
  speaks_sixes [] = refl
  speaks_sixes (Dhcp4 say ∷ said) = speaks_sixes said
  speaks_sixes (Arp say ∷ said) = speaks_sixes said
  speaks_sixes (Dhcp6 sent ∷ said) = refl

  both_speak : (first second : Option Sent6)
      → is_nonempty (option_to_list first ++ option_to_list second) ≡ (is_some first || is_some second)
  both_speak None None = refl
  both_speak None (Some second) = refl
  both_speak (Some first) second = refl

  both_rebind : (xid : ℕ) (first second : Option Sent6) → IfSome first (IsRebind xid) → IfSome second (IsRebind xid)
      → AllByRecursion (IsRebind xid) (option_to_list first ++ option_to_list second)
  both_rebind xid None None one two = tt
  both_rebind xid None (Some second) one two = (two, tt)
  both_rebind xid (Some first) None one two = (one, tt)
  both_rebind xid (Some first) (Some second) one two = (one, (two, tt))

  pub talk_of : (e : Entry) (step : IfaceStep) (first second : Option Sent6) → IsSaid site e step
      → sixes step.said ≡ option_to_list first ++ option_to_list second → AllByRecursion FitsFour step.said
      → IfSome first (FitsOwn site) → IfSome second (FitsOwn site)
      → Talk site e first second
  talk_of e step first second said same four one two =
      let fits : AllByRecursion (FitsSaid6 site) step.said =
      all_fit step.said four (subst (λ (l : List Sent6). AllByRecursion (FitsOwn site) l) (sym same)
      (both_fit first second one two)) in
      let are : messages6_at site e ≡ map message_said step.said = messages_are e step said fits in
      record {
        speaks = ap (λ (messages : List (Option Sent6)). list_any is_some messages) are ∙ speaks_sixes step.said
            ∙ ap (λ (l : List Sent6). is_nonempty l) same ∙ both_speak first second;
        alone = λ xid h k.
            subst (λ (messages : List (Option Sent6)). AllByRecursion (λ message. IfSome message (IsRebind xid)) messages)
            (sym are)
            (said_rebinds step.said xid (subst (λ (l : List Sent6). AllByRecursion (IsRebind xid) l) (sym same)
            (both_rebind xid first second h k)));
      }
