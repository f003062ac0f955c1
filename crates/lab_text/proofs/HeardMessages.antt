-- What is kept of exchanges, a frame later.
use Rattle.std.proofs.Common.{◌≡◌, List, [], ◌∷◌, ◌++◌, Some, None, reverse, sym, ap, ◌∙◌, subst, append-nil}
use Rattle.std.specs.Prelude.{flat_map}
use Rattle.std.proofs.lemmas.Grind.{flat_map-append}
use Rattle.std.proofs.lemmas.List.{reverse-append}
use Rattle.v4_frames.specs.declared.sent.Sent4.{Sent4}
use Rattle.client_model.specs.Clients.{Sending}
use Rattle.lab_peer.specs.ClientFrames.{client_sent}
use Rattle.lab_model.specs.Exchanges.{message_in, message_with, messages_of}
use Rattle.lab_text.specs.declared.exchanges.Exchanges.{Exchanges}
use Rattle.lab_text.specs.Noting.{Hears, KeepsThose, message}

messages_more : (sent : List Sending) (sending : Sending) → messages_of (sent ++ sending ∷ []) ≡ reverse (message_in sending) ++ messages_of sent
messages_more sent sending =
    ap reverse (flat_map-append message_in sent (sending ∷ []) ∙ ap (λ ms. flat_map message_in sent ++ ms) (append-nil (message_in sending)))
    ∙ reverse-append (flat_map message_in sent) (message_in sending)

pub heard_more : (sent : List Sending) (sending : Sending) (said : Sent4) (old new : Exchanges) → client_sent sending.bytes ≡ Some said
    → KeepsThose (messages_of sent) old → Hears (message sending.iface.number said.said) old new
    → KeepsThose (messages_of (sent ++ sending ∷ [])) new
heard_more sent sending said old new is keeps hears =
    subst (λ past. KeepsThose past new) (sym (messages_more sent sending ∙ ap (λ o. reverse (message_with sending.iface.number o) ++ messages_of sent) is))
    (hears (messages_of sent) keeps)

pub unheard_more : (sent : List Sending) (sending : Sending) (kept : Exchanges) → client_sent sending.bytes ≡ None → KeepsThose (messages_of sent) kept
    → KeepsThose (messages_of (sent ++ sending ∷ [])) kept
unheard_more sent sending kept is keeps =
    subst (λ past. KeepsThose past kept)
    (sym (messages_more sent sending ∙ ap (λ o. reverse (message_with sending.iface.number o) ++ messages_of sent) is)) keeps
