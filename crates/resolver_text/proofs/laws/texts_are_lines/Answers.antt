use Rattle.resolver_text.proofs.PlainLines.{text_is_lines}
use Rattle.resolver_text.proofs.UnlikeTexts.{texts_unlike}
use Rattle.resolver_text.proofs.laws.texts_are_lines.Goals as goal

pub returns-clause-lines : goal.returns-clause-lines
returns-clause-lines c = text_is_lines

pub returns-clause-unlike : goal.returns-clause-unlike
returns-clause-unlike c = texts_unlike
