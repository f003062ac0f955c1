use Rattle.std.proofs.Common.{sym}
use Rattle.script_lines.proofs.FileLaws.{name_utf8}
use Rattle.script_lines.proofs.files.file_name_of.Goals as goal

pub text_of-requires : goal.text_of-requires
text_of-requires c = name_utf8 c.args.bytes.now (sym c.if-not-is_file_name.ensures)
