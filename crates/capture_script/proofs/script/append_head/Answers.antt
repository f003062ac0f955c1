use Rattle.capture_script.proofs.CapturedTexts.{head_said}
use Rattle.capture_script.proofs.script.append_head.Goals as goal

pub returns : goal.returns
returns c =
    head_said c.args.into.now.items c.append_bytes.new.into.items c.print_line.new.into.items c.print_line-2.new.into.items c.args.spec c.args.at
    c.in_ok-append_bytes.ensures.ok c.in_ok-print_line.ensures.ok c.in_ok-print_line-2.ensures.ok
