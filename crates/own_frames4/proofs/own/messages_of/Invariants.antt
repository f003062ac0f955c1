use Rattle.std.proofs.Common.{◌≡◌, take}
use Rattle.v4_message.specs.Requests.{ask_content}
use Rattle.own_frames4.specs.Offered.{messages_by}
use Rattle.own_frames4.proofs.own.messages_of.Given as goal

abbrev pub invariant-loop-offer : goal.invariant-loop-offer
invariant-loop-offer l = l.messages.items ≡ messages_by l.managed (ask_content l.ask) (take l.offer-index l.offers)
