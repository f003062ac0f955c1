-- The turns in which the server speaks to an interface.
use Rattle.std.specs.Prelude.{ℕ, ◌+◌, length}
use Rattle.server_data.specs.declared.framing.TheConstants.{SERVER}
use Rattle.server_data.specs.declared.reply.Reply.{Reply}
use Rattle.server_data.specs.ServerFrames.{server_frame}
use Rattle.world.specs.declared.wakes.Event.TheVariants.{Frame}
use Rattle.world.specs.LinkCalls.{Given}
use Rattle.made_script.specs.declared.frames.ReplyTo.{ReplyTo}
use Rattle.made_script.specs.declared.frames.TheConstants.{ADDRESS_BASE, LEASE, SALT}
use Rattle.made_script.specs.MadeHosts.{own_mac}

abbrev pub reply_to : ReplyTo → Reply
reply_to to = record {
  kind = to.kind;
  chaddr = own_mac to.index;
  xid = to.xid;
  yiaddr = record { number = ADDRESS_BASE.number + to.index };
  server = SERVER;
  lease = LEASE;
}

abbrev pub reply_given : (at : ℕ) → ReplyTo → Given
reply_given at to = record {
  wake = record { at = at; salt = SALT; event = Frame to.index (length (server_frame (reply_to to))) };
  bytes = server_frame (reply_to to);
}
