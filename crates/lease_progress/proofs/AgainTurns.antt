-- The life that asks for its kept lease again is one, and its turns come in time.
use Rattle.std.proofs.Common.{◌≡◌, ℕ, List, [], None, Some, refl, sym, subst, lit<, lit≤}
use lib.Count.{count_leading_zeros}
use Rattle.v6_client.specs.Runs.{tick_turned}
use Rattle.v4_message.specs.declared.kind.MessageKind.TheVariants as kind
use Rattle.world.specs.declared.wakes.Event.TheVariants.{Frame}
use Rattle.client_model.specs.declared.interfaces.Iface.{Iface}
use Rattle.client_model.specs.IfaceSteps.{IfaceStep}
use Rattle.client_model.specs.IfaceTurns.{iface_turned}
use Rattle.evidence_words.specs.Entries.{Offer}
use Rattle.evidence_words.specs.IfaceLives.{iface_after, IsLived}
use Rattle.lease_evidence.specs.SevenTurns.{announces, met, probes, reply_frame}
use Rattle.lease_evidence.proofs.SevenTurnsHeard.{ack_heard, seven_lived}
use Rattle.lease_progress.specs.OneLife.{again_turns, reopening, with_kept}
use Rattle.lease_progress.specs.Prompt.{IsPrompt}
use Rattle.lease_progress.proofs.NineTurns.{SaidBy, SoonBy, ack_alone, announcing1, announcing2, heard, heard_as, hearing, nothing, own, probing1, probing2, probing3, resting}

-- the interface after the opening
abbrev rebooting : Iface
rebooting = iface_after own with_kept reopening []

abbrev granted_then : IfaceStep
granted_then = hearing 100500 rebooting None (Some (heard kind.Ack 5)) None

abbrev the_ack : IfaceStep
the_ack = iface_turned own (met 100500 (Frame 1 304) (reply_frame 5) []).turn rebooting

acked : the_ack ≡ granted_then
acked = heard_as 100500 5 kind.Ack ack_alone ack_heard rebooting

said_after : (offers : List Offer) (next : IfaceStep → IfaceStep) → SaidBy offers (next granted_then) → SaidBy offers (next the_ack)
said_after offers next said = subst (λ (step : IfaceStep). SaidBy offers (next step)) (sym acked) said

pub again_lived : IsLived own with_kept reopening again_turns
unfolding count_leading_zeros tick_turned
again_lived = (
  lit< tt,
  nothing,
  refl,
  said_after [] (resting 100500) refl,
  (
    lit< tt,
    nothing,
    refl,
    said_after announces (announcing2 100500) refl,
    (
      lit< tt,
      nothing,
      refl,
      said_after announces (announcing1 100500) refl,
      (
        lit< tt,
        nothing,
        refl,
        said_after probes (probing3 100500) refl,
        (
          lit< tt,
          nothing,
          refl,
          said_after probes (probing2 100500) refl,
          (
            lit< tt,
            nothing,
            refl,
            said_after probes (probing1 100500) refl,
            (lit< tt, seven_lived.4.4.4.4.1, refl, said_after [] (λ step. step) refl, (lit< tt, refl)),
          ),
        ),
      ),
    ),
  ),
)

soon_after : (last at : ℕ) (next : IfaceStep → IfaceStep) → SoonBy last at (next granted_then) → SoonBy last at (next the_ack)
soon_after last at next soon = subst (λ (step : IfaceStep). SoonBy last at (next step)) (sym acked) soon

pub again_prompt : IsPrompt own with_kept reopening again_turns
unfolding count_leading_zeros tick_turned
again_prompt = (
  lit≤ tt,
  soon_after 106503 163000 (announcing2 100500) (lit≤ tt),
  (
    lit≤ tt,
    soon_after 104503 106503 (announcing1 100500) (lit≤ tt),
    (
      lit≤ tt,
      soon_after 102503 104503 (probing3 100500) (lit≤ tt),
      (
        lit≤ tt,
        soon_after 101502 102503 (probing2 100500) (lit≤ tt),
        (
          lit≤ tt,
          soon_after 100501 101502 (probing1 100500) (lit≤ tt),
          (lit≤ tt, soon_after 100500 100501 (λ step. step) (lit≤ tt), (lit≤ tt, lit≤ tt, tt)),
        ),
      ),
    ),
  ),
)
