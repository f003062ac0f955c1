use Rattle.std.proofs.Common.{◌∙◌, sym}
use Rattle.v4_message.specs.Requests.{ask_content}
use Rattle.lab_peer.proofs.Tests.{fits_is}
use Rattle.lab_peer.proofs.client_frame.if_said.Goals as goal

pub is_spelled-requires : goal.is_spelled-requires
is_spelled-requires c = fits_is (ask_content c.in_ok-ask.ask) (sym c.fits.ensures ∙ c.if-not-fits.false)
