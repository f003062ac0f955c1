use Rattle.std.proofs.Common.{take}
use Rattle.std.specs.Prelude.{map}
use Rattle.conf_text.specs.Contents.{notice_content}
use Rattle.device_calls.specs.Printing.{Prints}
use Rattle.text_works.specs.Heads.{notice_line}
use Rattle.text_works.proofs.heads.say_notices.Given as goal

abbrev pub invariant-loop-notice : goal.invariant-loop-notice
invariant-loop-notice l = Prints l.fn.text.items l.text.items (map notice_line (map notice_content (take l.notice-index l.notices)))
