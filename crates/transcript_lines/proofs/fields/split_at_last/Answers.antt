use Rattle.std.proofs.Common.{sym, subst}
use Rattle.memchr.specs.Find.{IsLastByte, is_byte}
use Rattle.transcript_lines.proofs.LastLaws.{last_found_slice, last_none}
use Rattle.transcript_lines.proofs.fields.split_at_last.Goals as goal

pub returns-in-Some : goal.returns-in-Some
returns-in-Some c =
    let last = subst (IsLastByte (is_byte c.args.separator) c.args.bytes.now) c.in-Some.is c.memrchr.ensures in
    sym (last_found_slice c.args.separator c.args.bytes.now c.in-Some.place last)

pub returns-in-None : goal.returns-in-None
returns-in-None c =
    sym (last_none c.args.separator c.args.bytes.now (subst (IsLastByte (is_byte c.args.separator) c.args.bytes.now) c.in-None.is c.memrchr.ensures))
