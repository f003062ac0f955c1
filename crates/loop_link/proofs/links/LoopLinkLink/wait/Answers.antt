use Rattle.loop_link.proofs.Notes.{woke_rests}
use Rattle.loop_link.proofs.links.LoopLinkLink.wait.Goals as goal

pub note-requires : goal.note-requires
note-requires g c = woke_rests _ _ _ _ c.in-Ok.wake c.wait.new.buf _ _ c.in-Ok.ensures.peer c.wait.auto.buf c.in-Ok.ensures.brings
