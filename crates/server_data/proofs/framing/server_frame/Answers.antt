use Rattle.std.proofs.Common.{◌≡◌, ◌∙◌}
use Rattle.server_data.specs.Replies.{reply_text}
use Rattle.server_data.specs.ServerFrames.{server_frame}
use Rattle.server_data.proofs.framing.server_frame.Goals as goal

pub returns : goal.returns
unfolding server_frame
returns c =
    let payload : c.deref.result.now ≡ reply_text c.args.reply.now = c.deref.ensures.value ∙ c.in_ok-data.ensures.text in
    rw payload at c.build_udp4.ensures.exact
