-- What the server's frames of the example say, and that the example is a life with a lease.
use Rattle.std.proofs.Common.{◌≡◌, ◌≢◌, ℕ, zero, suc, ◌<◌, ◌≤◌, true, false, List, [], ◌∷◌, ◌++◌, length, map, inl, Option, Some, None, refl, sym, ap, subst, ◌∙◌, lit<, lit≤, nat_lt, arith}
use Rattle.std.proofs.lemmas.Bool.{and_parts}
use Rattle.std.proofs.lemmas.Bool.Decides.{nat_tests}
use Rattle.std.specs.List.{Contains, list_all}
use Rattle.std.specs.Prelude.{AllPairs, option_map, option_and_then}
use Rattle.net_types.specs.Marks.{AreBytes}
use Rattle.net_types.specs.NameText.{is_name, name_text}
use Rattle.net_types.specs.declared.address.Mac.{Mac}
use Rattle.net_types.specs.declared.address.Net.TheVariants.{V6}
use Rattle.frame_link.specs.declared.arp.ArpView.{ArpView}
use Rattle.udp_frame.specs.declared.udp6.Ends6.{Ends6}
use Rattle.udp_frame.specs.LinkLocal6.{link_local}
use Rattle.udp_frame.specs.Udp6Frames.{udp6_text, udp6_frame_text}
use Rattle.udp_frame.proofs.Cells.{AllSmall, all_bytes}
use Rattle.udp_frame.proofs.Laws6.{frame_is_heard6}
use Rattle.v4_frames.specs.Heard.{HeardMessage, heard4_in, message_for}
use Rattle.v6_options.specs.OptionArea.{front_of, instances_in}
use Rattle.v6_options.specs.Nesting.{malformed_in}
use Rattle.v6_options.specs.declared.ia.IaKind.{IaKind}
use Rattle.v6_options.specs.declared.ia.IaKind.TheVariants.{Na, Pd}
use Rattle.v6_message.specs.declared.kind.ServerKind6.TheVariants.{Advertise, Reply}
use Rattle.v6_message.specs.Replies.{Content6, message6_in}
use Rattle.v6_frames.specs.Heard.{HeardMessage6, heard6_in, with_source}
use Rattle.v6_frames.specs.Spelled.{client_ends}
use Rattle.v6_frames.proofs.ServersHeard.{is_heard}
use Rattle.lease6_text.specs.declared.lease.Item6.{Item6}
use Rattle.lease6_text.specs.Leases.{IaLeaseContent}
use Rattle.v6_client.specs.Clients.{held_of}
use Rattle.v6_client.specs.Runs.{carrier_turned, hears_turned, tick_turned}
use Rattle.world.specs.declared.wakes.Event.TheVariants.{Frame, Quiet}
use Rattle.settings.specs.Dhcp6Settings.{conf_key}
use Rattle.settings.specs.Fitting.{FitsManaged}
use Rattle.lease_evidence.specs.ClientModel.declared.interfaces.Iface.{Iface}
use Rattle.lease_evidence.specs.ClientModel.ClientSettings.{ask_of}
use Rattle.lease_evidence.specs.ClientModel.Clients.{frame_of}
use Rattle.lease_evidence.specs.ClientModel.Fitting.{FitsBeginning}
use Rattle.lease_evidence.specs.ClientModel.IfaceSteps.{IfaceStep, then_step}
use Rattle.lease_evidence.specs.ClientModel.IfaceTurns.{arp_of_frame, arp_heard, hears_either, iface_turned}
use Rattle.lease_evidence.specs.ClientModel.Interfaces.{ticked}
use Rattle.lease_evidence.specs.EvidenceWords.Entries.{Offer}
use Rattle.lease_evidence.specs.EvidenceWords.IfaceLives.{IsLived, Met, iface_after, shown, site_of}
use Rattle.lease_evidence.specs.EvidenceWords.Inputs.{Site}
use Rattle.lease_evidence.specs.PlainIface.{client_mac}
use Rattle.lease6_evidence.specs.FourMessages.{address, addresses, advertise, beginning, client_option, duid, from_client, from_server, granted, ias_given, interface, lease, met, offers, opening, prefix, prefixes, reply, request, server_option, solicit, three_turns}
use Rattle.lease6_evidence.specs.HeldItems.{HasItemBasis}
use Rattle.lease6_evidence.specs.ItemBasis.{AddressBasis, ItemBasis}
use Rattle.lease6_evidence.proofs.FourFrames.{held_items_have_basis}
use Rattle.lease6_evidence.proofs.KeptProofs6.{plain_are_given}

-- ---- bytes

below : (b : ℕ) → nat_lt b 256 ≡ true → b < 256
below b h = grind (arith, nat_tests)

all_small : (xs : List ℕ) → list_all (λ b. nat_lt b 256) xs ≡ true → AllSmall xs
all_small [] h = tt
all_small (x ∷ xs) h =
    let parts = and_parts (nat_lt x 256) (list_all (λ b. nat_lt b 256) xs) h in (below x parts.0, all_small xs parts.1)

are_bytes : (xs : List ℕ) → list_all (λ b. nat_lt b 256) xs ≡ true → AreBytes xs
are_bytes xs h = all_bytes xs (all_small xs h)

nothing : AreBytes []
nothing i = lit< tt

-- ---- the frames

abbrev server_mac : Mac
server_mac = record { bytes = 2 ∷ 0 ∷ 0 ∷ 0 ∷ 0 ∷ 9 ∷ [] }

abbrev server_ends : Ends6
server_ends = record { from_mac = server_mac; to_mac = client_mac; from = link_local server_mac; to = link_local client_mac }

abbrev advertises : List ℕ
advertises = from_server 134 0xd3 0x02 advertise

abbrev replies : List ℕ
replies = from_server 129 0x98 0x49 reply

advertise_framed : advertises ≡ udp6_frame_text server_ends 547 546 advertise
unfolding udp6_frame_text udp6_text
advertise_framed = refl

reply_framed : replies ≡ udp6_frame_text server_ends 547 546 reply
unfolding udp6_frame_text udp6_text
reply_framed = refl

solicit_framed : from_client 74 0xfa 0xae solicit ≡ udp6_frame_text (client_ends client_mac) 546 547 solicit
unfolding udp6_frame_text udp6_text
solicit_framed = refl

request_framed : from_client 145 0x4a 0x1b request ≡ udp6_frame_text (client_ends client_mac) 546 547 request
unfolding udp6_frame_text udp6_text
request_framed = refl

-- ---- what the server says

abbrev server_duid : List ℕ
server_duid = 0 ∷ 3 ∷ 0 ∷ 1 ∷ server_mac.bytes

abbrev offered : Content6
offered = record {
  kind = Advertise;
  xid = 1;
  client = Some duid;
  server = Some server_duid;
  status = 0;
  preference = 255;
  rapid = false;
  sol_max = None;
  dns = [];
  search = [];
  options = client_option ++ server_option ++ (0 ∷ 7 ∷ 0 ∷ 1 ∷ 255 ∷ []) ++ ias_given;
}

abbrev answered : Content6
answered = record {
  kind = Reply;
  xid = 2;
  client = Some duid;
  server = Some server_duid;
  status = 0;
  preference = 0;
  rapid = false;
  sol_max = None;
  dns = [];
  search = [];
  options = client_option ++ server_option ++ ias_given;
}

advertise_read : message6_in advertise ≡ Some offered
unfolding message6_in malformed_in instances_in front_of
advertise_read = refl

reply_read : message6_in reply ≡ Some answered
unfolding message6_in malformed_in instances_in front_of
reply_read = refl

abbrev heard : Content6 → HeardMessage6
heard content = record { source = server_mac; message = content }

-- how a frame of the server is heard
module _ (bytes payload : List ℕ) (framed : bytes ≡ udp6_frame_text server_ends 547 546 payload) where
  no_packet : arp_heard bytes ≡ None
  no_packet = ap arp_heard framed ∙ ap (option_and_then arp_of_frame) (frame_is_heard6 server_ends 547 546 payload refl refl)

  no_message4 : heard4_in client_mac bytes ≡ None
  unfolding heard4_in
  no_message4 =
      ap (heard4_in client_mac) framed ∙ ap (option_and_then (message_for client_mac)) (frame_is_heard6 server_ends 547 546 payload refl refl)

  heard_so : (content : Content6) → length payload ≤ 1472 → AreBytes payload → message6_in payload ≡ Some content
      → heard6_in client_mac bytes ≡ Some (heard content)
  heard_so content small range read =
      ap (heard6_in client_mac) framed
      ∙ is_heard server_ends 547 payload refl refl (lit< tt) (lit< tt) (lit< tt) small range refl
      ∙ ap (option_map (with_source server_mac)) read

advertise_heard : heard6_in client_mac advertises ≡ Some (heard offered)
advertise_heard = heard_so advertises advertise advertise_framed offered (lit≤ tt) (are_bytes advertise refl) advertise_read

reply_heard : heard6_in client_mac replies ≡ Some (heard answered)
reply_heard = heard_so replies reply reply_framed answered (lit≤ tt) (are_bytes reply refl) reply_read

-- ---- the turns

abbrev own : List Mac
own = client_mac ∷ []

abbrev site : Site
site = site_of own beginning opening

abbrev soliciting : Met
soliciting = met 1001 Quiet [] (offers (from_client 74 0xfa 0xae solicit))

abbrev requesting : Met
requesting = met 1500 (Frame 1 188) advertises (offers (from_client 145 0x4a 0x1b request))

abbrev holding : Met
holding = met 2000 (Frame 1 183) replies []

-- the interface after the turn of its SOLICIT
abbrev seeking : Iface
seeking = iface_after own beginning opening (soliciting ∷ [])

-- the turn of a frame
abbrev hearing : ℕ → Iface → Option ArpView → Option HeardMessage → Option HeardMessage6 → IfaceStep
hearing at iface arp message other = then_step (ticked at 0 iface) (hears_either own at 0 arp message other)

abbrev asked : IfaceStep
asked = hearing 1500 seeking None None (Some (heard offered))

asking : iface_turned own requesting.turn seeking ≡ asked
asking =
    ap (λ (arp : Option ArpView). hearing 1500 seeking arp (heard4_in client_mac advertises) (heard6_in client_mac advertises))
    (no_packet advertises advertise advertise_framed)
    ∙ ap (λ (message : Option HeardMessage). hearing 1500 seeking None message (heard6_in client_mac advertises))
    (no_message4 advertises advertise advertise_framed)
    ∙ ap (λ (message : Option HeardMessage6). hearing 1500 seeking None None message) advertise_heard

abbrev given : IfaceStep
given = hearing 2000 asked.iface None None (Some (heard answered))

giving : iface_turned own holding.turn asked.iface ≡ given
giving =
    ap (λ (arp : Option ArpView). hearing 2000 asked.iface arp (heard4_in client_mac replies) (heard6_in client_mac replies))
    (no_packet replies reply reply_framed)
    ∙ ap (λ (message : Option HeardMessage). hearing 2000 asked.iface None message (heard6_in client_mac replies))
    (no_message4 replies reply reply_framed)
    ∙ ap (λ (message : Option HeardMessage6). hearing 2000 asked.iface None None message) reply_heard

-- the turn of the Reply
pub held_then : iface_turned own holding.turn (iface_turned own requesting.turn seeking).iface ≡ given
held_then = ap (λ (step : IfaceStep). iface_turned own holding.turn step.iface) asking ∙ giving

pub turns_hold : held_of (iface_after own beginning opening three_turns).dhcp6 ≡ Some lease
unfolding carrier_turned tick_turned hears_turned instances_in front_of
turns_hold = ap (λ (step : IfaceStep). held_of step.iface.dhcp6) held_then

abbrev SaidBy : List Offer → IfaceStep → Type 0
SaidBy offers step = map (λ o. o.bytes) offers ≡ map (frame_of interface.spec (ask_of duid interface)) step.said

solicit_said : SaidBy soliciting.offers (iface_turned own soliciting.turn (iface_after own beginning opening []))
unfolding carrier_turned tick_turned
solicit_said = ap (λ (bytes : List ℕ). bytes ∷ []) solicit_framed

request_said : SaidBy requesting.offers asked
unfolding carrier_turned tick_turned hears_turned instances_in front_of
request_said = ap (λ (bytes : List ℕ). bytes ∷ []) request_framed

reply_said : SaidBy [] given
unfolding carrier_turned tick_turned hears_turned instances_in front_of
reply_said = refl

pub turns_lived : IsLived own beginning opening three_turns
unfolding carrier_turned
turns_lived = (
  lit< tt,
  are_bytes replies refl,
  refl,
  subst (SaidBy []) (sym held_then) reply_said,
  (
    lit< tt,
    are_bytes advertises refl,
    refl,
    subst (SaidBy requesting.offers) (sym asking) request_said,
    (lit< tt, nothing, refl, solicit_said, (lit< tt, refl)),
  ),
)

other_kind : Na ≡ Pd → ⊥
other_kind e = cc

unlike_ias : AllPairs (λ one other. conf_key one ≢ conf_key other) interface.conf.dhcp6.ias
unlike_ias zero (suc zero) d before within = λ e. other_kind (ap (λ (key : IaKind × ℕ). key.0) e)
unlike_ias zero zero d before within = absurd (omega (arith, before))
unlike_ias zero (suc (suc j)) d before within = absurd (omega (arith, within))
unlike_ias (suc i) zero d before within = absurd (omega (arith, before))
unlike_ias (suc i) (suc zero) d before within = absurd (omega (arith, before))
unlike_ias (suc i) (suc (suc j)) d before within = absurd (omega (arith, within))

interface_fits : FitsManaged interface
unfolding is_name name_text
interface_fits = record {
  index = (lit≤ tt, lit≤ tt);
  name = record { spelled = refl; within = lit≤ tt; fifteen = refl; padded = refl };
  mac = record { six = refl; range = are_bytes client_mac.bytes refl };
  metric = tt;
  address = tt;
  address6 = tt;
  router = tt;
  dhcp4 = record { host = lit< tt; vendor = lit< tt; identifier = tt };
  dhcp6 = record {
    few = lit≤ tt;
    each = (record { iaid = lit< tt; hint = lit≤ tt }, (record { iaid = lit< tt; hint = lit≤ tt }, tt));
    shares = (
      record { share = record { least = lit≤ tt; most = lit≤ tt }; outlet = record { index = (lit≤ tt, lit≤ tt); metric = lit< tt } },
      tt,
    );
    unlike = unlike_ias;
  };
}

beginning_fits : FitsBeginning beginning
beginning_fits = record {
  managed = interface_fits;
  duid = record { least = lit≤ tt; most = lit≤ tt; octets = are_bytes duid refl };
  kept4 = tt;
  kept6 = tt;
}

module _ (ia : IaLeaseContent) (item : Item6) where
  pub held_based : Contains lease.ias ia → Contains ia.items item → HasItemBasis ItemBasis site ia item (shown opening three_turns)
  held_based among within =
      plain_are_given site ia item (shown opening three_turns) (inl refl)
      (held_items_have_basis own beginning opening three_turns lease ia item beginning_fits tt turns_lived turns_hold among within)

pub address_based : AddressBasis site (V6 granted) 2000 (shown opening three_turns)
address_based =
    let has : HasItemBasis ItemBasis site addresses address (shown opening three_turns) =
    held_based addresses address (0, lit< tt, refl) (0, lit< tt, refl) in
    record { ask = has.ask; asked = has.asked; is_address = sym has.kind; item = granted; is_item = refl; basis = has.basis }

pub prefix_based : HasItemBasis ItemBasis site prefixes prefix (shown opening three_turns)
prefix_based = held_based prefixes prefix (1, lit< tt, refl) (0, lit< tt, refl)
