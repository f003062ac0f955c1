-- A life in which a lease is renewed twice, and one in which it is rebound twice, written out. Moments are in
-- milliseconds.
use Rattle.std.specs.Prelude.{◌≡◌, ℕ, true, List, [], ◌∷◌, ◌++◌, replicate, None, Some}
use Rattle.machine.specs.Since.{Always}
use Rattle.net_types.specs.declared.address.Mac.{Mac}
use Rattle.udp_frame.specs.Udp4Frames.{udp4_frame_text}
use Rattle.lease_text.specs.declared.lease.Terms4.{Terms4}
use Rattle.v4_frames.specs.declared.sent.TheConstants.{CLIENT_PORT, SERVER_PORT}
use Rattle.v4_client.specs.declared.states.Exchange4.{Exchange4}
use Rattle.v4_client.specs.Clients.{is_bound}
use Rattle.v4_client.specs.Saying.{discover, request, renewing_request, rebinding_request}
use Rattle.world.specs.declared.wakes.Event.TheVariants.{Frame, Quiet}
use Rattle.settings.specs.declared.interfaces.Managed.{Managed}
use Rattle.client_model.specs.Messages.{Said, Dhcp4}
use Rattle.client_model.specs.ClientSettings.{ask_of, site_of}
use Rattle.client_model.specs.Clients.{frame_of}
use Rattle.client_model.specs.KeptLeases.{Beginning}
use Rattle.evidence_words.specs.Entries.{Offer}
use Rattle.evidence_words.specs.IfaceLives as lives
use Rattle.evidence_words.specs.IfaceLives.{Met, shown, iface_after}
use Rattle.lease_evidence.specs.PlainIface.{client_mac}
use Rattle.lease_evidence.specs.SevenTurns.{server_mac, server, granted, duid, interface, opening, met}
use Rattle.lease_progress.specs.FairTurns.{GoesWell}
use Rattle.lease_progress.specs.LeaseStays.{Renewable}
use Rattle.lease_progress.specs.Serving.{Answered, EachRequest, BroadcastAlone}

-- eth0 of that example, on which addresses aren't probed
abbrev pub unprobed : Managed
unprobed = record interface { conf = record interface.conf { flags = record interface.conf.flags { noarp = true } } }

abbrev pub own_macs : List Mac
own_macs = client_mac ∷ []

-- no lease was kept
abbrev pub beginning : Beginning
beginning = record { managed = unprobed; duid = duid; kept4 = None; kept6 = None }

-- ---- what the server says

-- a reply with the transaction id to the client's address, and then its options
abbrev pub reply_text : (xid kind : ℕ) → List ℕ
reply_text xid kind =
    (2 ∷ 1 ∷ 6 ∷ 0 ∷ []) ++ (0 ∷ 0 ∷ 0 ∷ xid ∷ []) ++ replicate 8 0 ++ (192 ∷ 168 ∷ 1 ∷ 7 ∷ []) ++ replicate 8 0
    ++ client_mac.bytes ++ replicate 202 0 ++ (0x63 ∷ 0x82 ∷ 0x53 ∷ 0x63 ∷ [])
    ++ ((53 ∷ 1 ∷ kind ∷ []) ++ (54 ∷ 4 ∷ 192 ∷ 168 ∷ 1 ∷ 1 ∷ []) ++ (51 ∷ 4 ∷ 0 ∷ 0 ∷ 14 ∷ 16 ∷ [])
    ++ (58 ∷ 4 ∷ 0 ∷ 0 ∷ 7 ∷ 8 ∷ []) ++ (59 ∷ 4 ∷ 0 ∷ 0 ∷ 7 ∷ 68 ∷ []) ++ (1 ∷ 4 ∷ 255 ∷ 255 ∷ 255 ∷ 0 ∷ []))
    ++ 255 ∷ []

abbrev pub reply_frame : (xid kind : ℕ) → List ℕ
reply_frame xid kind =
    udp4_frame_text (record { from_mac = server_mac; to_mac = client_mac; from = server; to = granted }) SERVER_PORT
    CLIENT_PORT (reply_text xid kind)

-- ---- what the client says

abbrev pub says : Said → List Offer
says message = record { iface = 1; bytes = frame_of unprobed.spec (ask_of duid unprobed) message; taken = true } ∷ []

-- the lease of an exchange that began at this moment: an hour, T1 after 1800 seconds, T2 after 1860
abbrev pub granted_terms : (first confirmed : ℕ) → Terms4
granted_terms first confirmed = record {
  origin = Some (record { mac = client_mac; confirmed = confirmed });
  net = record { ip = granted; len = 24 };
  server = server;
  server_mac = server_mac;
  first = first;
  lease = 3600;
  t1 = 1800;
  t2 = 1860;
}

abbrev pub renews : (xid : ℕ) → List Offer
renews xid = says (Dhcp4 (renewing_request (site_of unprobed) (granted_terms 0 0) xid))

abbrev pub rebinds : (xid : ℕ) → List Offer
rebinds xid = says (Dhcp4 (rebinding_request (site_of unprobed) (granted_terms 0 0) xid))

-- ---- the lives

abbrev pub acked : (at xid : ℕ) → Met
acked at xid = met at (Frame 1 316) (reply_frame xid 5) []

abbrev pub quiet : (at : ℕ) → List Offer → Met
quiet at offers = met at Quiet [] offers

abbrev pub first_exchange : Exchange4
first_exchange = record { xid = 1; address = granted; server = Some server; first = 2000 }

-- DISCOVER; an OFFER, and REQUEST; an ACK. The newest is the first.
abbrev pub three_turns : List Met
three_turns =
    acked 2500 1
    ∷ met 2000 (Frame 1 316) (reply_frame 1 2)
    (says (Dhcp4 (request (site_of unprobed) first_exchange 0)))
    ∷ quiet 1001 (says (Dhcp4 (discover (site_of unprobed) 1 0)))
    ∷ []

-- twice a REQUEST to the server at T1, and its answer
abbrev pub two_renewals : List Met
two_renewals =
    acked 3602500 1 ∷ quiet 3602000 (renews 1) ∷ acked 1802500 2 ∷ quiet 1802000 (renews 2) ∷ three_turns

-- twice one at T1 in vain, and one to everyone at T2, and its answer
abbrev pub two_rebindings : List Met
two_rebindings =
    acked 3722500 1 ∷ quiet 3722000 (rebinds 1) ∷ quiet 3662000 (renews 2)
    ∷ acked 1862500 1 ∷ quiet 1862000 (rebinds 1) ∷ quiet 1802000 (renews 2) ∷ three_turns

-- ---- all goes well in them

-- Servers answer within a second, and the lease was granted by the third turn.
pub record KeepsWell (answered : Answered) (mets : List Met) : Type 0 where
  pub well : GoesWell own_macs beginning opening mets answered 1000
  pub renewable : Always (Renewable (lives.site_of own_macs beginning opening) answered 1000) (shown opening mets)
  pub bound : is_bound (iface_after own_macs beginning opening three_turns).dhcp4.state ≡ true

abbrev pub RenewedLife : Type 0
RenewedLife = KeepsWell EachRequest two_renewals

abbrev pub ReboundLife : Type 0
ReboundLife = KeepsWell BroadcastAlone two_rebindings
