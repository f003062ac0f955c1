use Rattle.std.proofs.Common.{rules, ◌≡◌, ◌++◌, Ok}
use Rattle.net_types.specs.Marks.{AreBytes}
use Rattle.net_types.specs.TextLines.{lines_text}
use Rattle.capture_script.specs.Captures.{capture_form, packets_in}
use Rattle.capture_script.specs.CapturedScripts.{head_lines, spec_of, turn_lines, used_of}
use Rattle.capture_script.proofs.CapturedTexts.{imported}
use Rattle.capture_script.proofs.script.import.Goals as goal

pub returns-clause-ok : goal.returns-clause-ok
returns-clause-ok c =
    let octets : AreBytes c.args.bytes.now = search rules in
    let formed : capture_form c.args.bytes.now ≡ Ok c.in_ok-form.form = search rules in
    let head : c.append_head.new.into.items ≡ lines_text (head_lines (spec_of c.args.name c.args.mac) c.first_moment.result) = search rules in
    let turns : c.append_turns.new.into.items
    ≡ c.append_head.new.into.items ++ lines_text (turn_lines (used_of c.args.mac (packets_in c.in_ok-form.form c.split_at.result.1.now))) =
    search rules in
    imported c.args.bytes.now c.split_at.result.1.now c.append_head.new.into.items c.append_turns.new.into.items c.in_ok-form.form c.args.name c.args.mac
    c.first_moment.result
    octets formed c.split_at.ensures.back c.first_moment.ensures head turns
