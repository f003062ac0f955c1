use Rattle.std.proofs.Common.{◌≡◌, ◌++◌, map, take}
use Rattle.conf_text.specs.Configurations.{notice_of}
use Rattle.conf_text.specs.Contents.{notice_content}
use Rattle.conf_text.proofs.conf.add_notices.Given as goal

abbrev pub invariant-loop-word : goal.invariant-loop-word
invariant-loop-word l =
    map notice_content l.notices.items
    ≡ map notice_content l.initial.notices.items ++ map (notice_of l.line) (map (λ word. word.now) (take l.word-index l.words))
