use Rattle.std.proofs.Common.{◌≡◌, List, [], ◌∷◌, ◌++◌, map, sym, ap, subst, ◌∙◌}
use Rattle.std.proofs.lemmas.List.{map-append}
use Rattle.client_model.specs.Clients.{Sending}
use Rattle.iface_core.specs.Outcomes.{sending_of}
use Rattle.lab_peer.specs.ClientFrames.{client_sent}
use Rattle.lab_model.specs.Exchanges.{messages_of}
use Rattle.lab_text.specs.declared.exchanges.Exchanges.{Exchanges}
use Rattle.lab_text.specs.Noting.{KeepsThose}
use Rattle.lab_text.proofs.HeardMessages.{heard_more, unheard_more}
use Rattle.lab_text.proofs.frames.Frames.with_sent.Goals.{in-Some+in_ok-exchanges-in-Some, in-None}
use Rattle.lab_text.proofs.frames.Frames.with_sent.Goals as goal

pub invariant_of-result : goal.invariant_of-result
invariant_of-result c =
    let sent : List Sending = map sending_of c.self.inside.sent.items in
    let one : Sending = sending_of c.args.sending in
    let longer : map sending_of c.push.new.self.items ≡ sent ++ one ∷ [] =
    ap (map sending_of) c.in_ok-push.ensures.items ∙ map-append sending_of c.self.inside.sent.items (c.args.sending ∷ []) in
    let read = ap client_sent (sym c.deref.ensures.value) ∙ sym c.in_ok-message.ensures in
    let kept : KeepsThose (messages_of (sent ++ one ∷ [])) c.match-branch-2.exchanges =
    elim c.match-branch-2.branch [
      | in-Some+in_ok-exchanges-in-Some w ↦ subst (λ (e : Exchanges). KeepsThose (messages_of (sent ++ one ∷ [])) e) (sym w.exchanges-is)
          (heard_more sent one w.in-Some.message c.self.inside.exchanges w.in_ok-exchanges-in-Some.exchanges
          (read ∙ w.in-Some.is) c.self.invariant w.in_ok-exchanges-in-Some.ensures)
      | in-None w ↦ subst (λ (e : Exchanges). KeepsThose (messages_of (sent ++ one ∷ [])) e) (sym w.exchanges-is)
          (unheard_more sent one c.self.inside.exchanges (read ∙ w.in-None.is) c.self.invariant)
    ] in
    subst (λ (all : List Sending). KeepsThose (messages_of all) c.match-branch-2.exchanges) (sym longer) kept
