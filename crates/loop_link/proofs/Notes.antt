-- The notes of the link rest on the calls that it made.
use Rattle.std.proofs.Common.{◌≡◌, ℕ, List, [], ◌∷◌, ◌++◌, length, Option, None, Some, inl, inr, sym, subst, ap, ◌∙◌}
use Rattle.world.specs.declared.wakes.Wake.{Wake}
use Rattle.loop_link.specs.LinkNotes.{SaysLast, HeardLast, woken_by}
use Rattle.loop_link.specs.WireCalls.{WireCall}
use Rattle.loop_link.specs.Waits.{Brought, Brings, Says, heard_from}
use Rattle.loop_link.proofs.WaitSteps.{heard_behind}

-- what a wait brought is the last that was heard
says_last : (due : Type 0) (heard earlier : List (List ℕ)) (brought : Brought) → Says due heard brought → SaysLast (heard ++ earlier) brought
says_last due [] [] brought says = says.0
says_last due [] (datagram ∷ earlier) brought says = inl says.0
says_last due (datagram ∷ []) earlier brought says = inr says
says_last due (datagram ∷ second ∷ heard) earlier brought says = absurd says

heard_last : (peer : ℕ) (due : Type 0) (made before : List WireCall) (heard : List (List ℕ)) (brought : Brought)
    → heard_from peer made ≡ heard → Says due heard brought → SaysLast (heard_from peer (made ++ before)) brought
heard_last peer due made before heard brought all says =
    subst (λ (hs : List (List ℕ)). SaysLast hs brought) (sym (heard_behind peer made before ∙ ap (λ hs. hs ++ heard_from peer before) all))
    (says_last due heard (heard_from peer before) brought says)

brought_last : (peer : ℕ) (due : Type 0) (brought : Brought) (old new : Option (List WireCall)) → Brings peer due brought old new
    → HeardLast peer brought new
brought_last peer due brought None new brings = subst (HeardLast peer brought) (sym brings.came.asked) tt
brought_last peer due brought (Some before) new brings =
    subst (HeardLast peer brought) (sym brings.came.asked)
    (heard_last peer due brings.came.made before brings.heard brought brings.came.all brings.says)

-- a wake is noted with the buffer that it came in
pub woke_rests : (peer kept room : ℕ) (due : Type 0) (wake : Wake) (buffer : List ℕ) (old new : Option (List WireCall)) → kept ≡ peer → length buffer ≡ room
    → Brings peer due (record { event = wake.event; room = room; buffer = buffer }) old new → HeardLast kept (woken_by wake buffer) new
woke_rests peer kept room due wake buffer old new same all brings =
    subst (λ (p : ℕ). HeardLast p (woken_by wake buffer) new) (sym same)
    (brought_last peer due (woken_by wake buffer) old new
    (subst (λ (n : ℕ). Brings peer due (record { event = wake.event; room = n; buffer = buffer }) old new) (sym all) brings))
