use Rattle.std.proofs.Common.{◌≡◌, take}
use Rattle.row_reasons.specs.Texts.{lines_text}
use Rattle.audit_reasons.proofs.account.text_of.Given as goal

abbrev pub invariant-lines : goal.invariant-lines
invariant-lines l = l.text.items ≡ lines_text (take l.line-index l.lines)
