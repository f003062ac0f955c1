-- A message that was read is the one that its bytes are.
use Rattle.std.proofs.Common.{◌≡◌, ℕ, List, Some, None, sym, ap, ◌∙◌}
use Rattle.std.specs.Prelude.{IfOk, IfErr, Result, Ok, Err}
use Rattle.std.specs.Option.{option_map}
use Rattle.v4_message.specs.declared.reading.Bad4.{Bad4}
use Rattle.v4_message.specs.declared.reading.Msg4.{Msg4}
use Rattle.v4_message.specs.Replies.{refusal_of, IsReadAs}
use Rattle.v4_message.specs.Messages.{Message4, message_of, message_with, message_unless, message_in}

same : (bytes : List ℕ) (message : Msg4) → IsReadAs bytes message → message_with bytes message.kind ≡ message_of message
same bytes message read = λ i. record {
  kind = message.kind;
  xid = sym read.xid i;
  yiaddr = sym read.yiaddr i;
  chaddr = sym read.chaddr i;
  instances = sym read.instances i;
}

pub message_read : (bytes : List ℕ) (message : Msg4) → refusal_of bytes ≡ None → IsReadAs bytes message → message_in bytes ≡ Some (message_of message)
unfolding message_in
message_read bytes message whole read =
    ap (message_unless bytes) whole
    ∙ ap (option_map (message_with bytes)) read.kind
    ∙ ap (λ (m : Message4). Some m) (same bytes message read)

pub message_refused : (bytes : List ℕ) (bad : Bad4) → refusal_of bytes ≡ Some bad → message_in bytes ≡ None
unfolding message_in
message_refused bytes bad refused = ap (message_unless bytes) refused

module _ (bytes : List ℕ) where
  pub told : (result : Result Msg4 Bad4) → IfOk result (λ message. refusal_of bytes ≡ None) → IfOk result (λ message. IsReadAs bytes message)
      → IfOk result (λ message. message_in bytes ≡ Some (message_of message))
  told (Ok message) whole read = message_read bytes message whole read
  told (Err bad) whole read = tt

  pub untold : (result : Result Msg4 Bad4) → IfErr result (λ bad. refusal_of bytes ≡ Some bad) → IfErr result (λ bad. message_in bytes ≡ None)
  untold (Ok message) refused = tt
  untold (Err bad) refused = message_refused bytes bad refused
