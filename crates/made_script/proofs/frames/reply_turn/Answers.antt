use Rattle.std.proofs.Common.{◌≡◌, ◌∙◌, ap, refl}
use Rattle.server_data.specs.ServerFrames.{server_frame}
use Rattle.made_script.specs.MadeReplies.{reply_to}
use Rattle.made_script.proofs.frames.reply_turn.Goals as goal

pub returns : goal.returns
returns c =
    let bytes : c.in_ok-bytes.bytes.items ≡ server_frame (reply_to c.args.to) = c.in_ok-bytes.ensures ∙ ap server_frame c.reply_to.ensures in
    rw (c.from.ensures, c.len.ensures ∙ c.in_ok-bytes.bytes.ok.0, bytes) refl
