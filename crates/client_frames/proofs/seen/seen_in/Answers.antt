use Rattle.std.proofs.Common.{◌≡◌, ◌≤◌, ◌∙◌, sym, ap, subst, Option, Some, None, List, ℕ, length, drop, refl, arith}
use Rattle.std.specs.Prelude.{option_and_then}
use Rattle.v4_options.specs.OptionArea.{Instance}
use Rattle.v4_options.specs.OptionValue.{byte_of}
use Rattle.v4_options.specs.OptionViews.{view_instances}
use Rattle.v4_message.specs.Message.{message_instances, malformed_place}
use Rattle.v4_frames.specs.Spelled.{ends_in, kind_numbered, said_as}
use Rattle.client_frames.proofs.NoMessages.{short_unsaid, cut_unsaid, kindless_unsaid, kind_seen}
use Rattle.client_frames.proofs.seen.seen_in.Goals as goal

pub returns-then-frame-clause-unsaid : goal.returns-then-frame-clause-unsaid
returns-then-frame-clause-unsaid c = short_unsaid c.args.frame.now (omega (arith, c.if-frame.true))

pub returns-in_default-clause-unsaid : goal.returns-in_default-clause-unsaid
returns-in_default-clause-unsaid c =
    cut_unsaid c.args.frame.now (omega (arith, c.if-frame.false))
    (subst (λ (m : List ℕ). malformed_place m ≡ None → ⊥) c.split_at.ensures.back c.in_default.ensures.cut)

pub returns-in_default-kind_in-clause-unsaid : goal.returns-in_default-kind_in-clause-unsaid
returns-in_default-kind_in-clause-unsaid c =
    let frame = c.args.frame.now in
    let are : view_instances c.in-Some.options ≡ message_instances (drop 42 frame) = c.in-Some.ensures.whole ∙ ap message_instances c.split_at.ensures.back in
    kindless_unsaid frame
    (ap (λ (is : List Instance). option_and_then kind_numbered (byte_of 53 is)) (sym are) ∙ sym c.kind_in.ensures ∙ c.in_default-kind_in.is)

pub returns-clause-sent : goal.returns-clause-sent
returns-clause-sent c =
    let frame = c.args.frame.now in
    let back = c.split_at.ensures.back in
    let are : view_instances c.in-Some.options ≡ message_instances (drop 42 frame) = c.in-Some.ensures.whole ∙ ap message_instances back in
    let kind_is : option_and_then kind_numbered (byte_of 53 (message_instances (drop 42 frame))) ≡ Some c.in-Some-kind_in.kind =
    ap (λ (is : List Instance). option_and_then kind_numbered (byte_of 53 is)) (sym are) ∙ sym c.kind_in.ensures ∙ c.in-Some-kind_in.is in
    let said_is : c.said_as.result ≡ said_as (drop 42 frame) (message_instances (drop 42 frame)) c.in-Some-kind_in.kind =
    c.said_as.ensures ∙ (λ i. said_as (back i) (are i) c.in-Some-kind_in.kind) in
    kind_seen frame c.in-Some-kind_in.kind kind_is
    ∙ sym (λ i. Some (record { ends = c.ends_in.ensures i; said = said_is i }))
