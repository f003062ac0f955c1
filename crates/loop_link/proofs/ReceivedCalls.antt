-- What is received after a limit was said: two calls that are made one after the other.
use Rattle.std.proofs.Common.{◌≡◌, ℕ, Bool, true, false, cond, List, [], ◌∷◌, Option, None, Some, Ok, refl, inl, take}
use Rattle.std.specs.declared.io.ErrorKind.{ErrorKind}
use Rattle.std.specs.declared.net.socket_addr.SocketAddr.{SocketAddr}
use Rattle.system_calls.specs.Asking.{Does}
use Rattle.system_calls.proofs.Doing.{then}
use Rattle.loop_link.specs.WireCalls.{WireCall, Limited, Received, Receives, is_from}

-- what was received of the peer, or of another
taken_or_not : (millis peer : ℕ) (buffer : List ℕ) (size : ℕ) (sender : SocketAddr) (is : Bool) (got : Option ℕ) (old mid new : Option (List WireCall))
    → is_from peer sender ≡ is → got ≡ cond is (Some size) None → Does (Limited millis None ∷ []) old mid
    → Does (Received (Ok (record { bytes = take size buffer; sender = sender })) ∷ []) mid new → Receives millis peer buffer old new (Ok got)
taken_or_not millis peer buffer size sender true got old mid new from given limited received = rw given (record {
  sender = sender;
  is_peer = from;
  asked = then (Received (Ok (record { bytes = take size buffer; sender = sender }))) (Limited millis None ∷ []) old mid new limited received;
})
taken_or_not millis peer buffer size sender false got old mid new from given limited received = rw given (inl (
  record { bytes = take size buffer; sender = sender },
  from,
  then (Received (Ok (record { bytes = take size buffer; sender = sender }))) (Limited millis None ∷ []) old mid new limited received,
))

pub received_so : (millis peer : ℕ) (buffer : List ℕ) (size : ℕ) (sender : SocketAddr) (got : Option ℕ) (old mid new : Option (List WireCall))
    → got ≡ cond (is_from peer sender) (Some size) None → Does (Limited millis None ∷ []) old mid
    → Does (Received (Ok (record { bytes = take size buffer; sender = sender })) ∷ []) mid new → Receives millis peer buffer old new (Ok got)
received_so millis peer buffer size sender got old mid new = taken_or_not millis peer buffer size sender (is_from peer sender) got old mid new refl
