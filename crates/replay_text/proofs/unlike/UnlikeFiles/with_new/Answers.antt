use Rattle.std.proofs.Common.{◌∙◌}
use Rattle.script_lines.proofs.FileLaws.{names_more}
use Rattle.replay_text.proofs.unlike.UnlikeFiles.with_new.Goals as goal

pub invariant_of-result : goal.invariant_of-result
invariant_of-result c =
    names_more c.self.inside.names.keys c.insert.new.self.keys c.in_ok-name.name c.self.inside.files.items c.push.new.self.items c.args.file
    (c.in_ok-name.ensures.ok ∙ c.deref.ensures) c.in_ok-push.ensures.items c.in_ok-is_new.ensures.updates.0 c.self.invariant
