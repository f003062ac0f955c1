use Rattle.std.proofs.Common.{◌≡◌, ◌∙◌, sym, ap, subst, Option, List}
use Rattle.std.specs.Prelude.{IfOk}
use Rattle.v4_options.specs.OptionArea.{Instance}
use Rattle.v4_options.specs.OptionViews.{view_instances}
use Rattle.v4_frames.specs.declared.sent.Sent4.{Sent4}
use Rattle.lab_peer.specs.ClientFrames.{ask_among, if_said, client_sent}
use Rattle.lab_peer.proofs.ClientsAlone.{seen_frames}
use Rattle.lab_peer.proofs.client_frame.client_sent.Goals as goal

pub returns : goal.returns
returns c =
    let frame = c.args.frame.now in
    let seen = c.in-Some.seen in
    let same : if_said (ask_among (view_instances seen.options)) frame seen.sent ≡ client_sent frame =
    ap (λ (is : List Instance). if_said (ask_among is) frame seen.sent) c.in-Some.ensures.options
    ∙ sym (seen_frames frame seen.sent c.in-Some.ensures.sent) in
    subst (λ (x : Option Sent4). IfOk c.if_said.result (λ sent. sent ≡ x)) same c.if_said.ensures
