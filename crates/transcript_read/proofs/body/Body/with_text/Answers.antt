use Rattle.std.proofs.Common.{ap, option_map, sym, ◌∙◌}
use Rattle.transcript_lines.specs.Contents.{line_of}
use Rattle.transcript_read.proofs.body.Body.with_text.Goals as goal

pub with_line-requires : goal.with_line-requires
with_line-requires g c =
    (c.a_text_spells_one_line.ensures.sound c.args.text.now (line_of c.in-Some.line)
    (sym c.in_ok-line.ensures ∙ ap (option_map line_of) c.in-Some.is)).fits
