use Rattle.std.proofs.Common.{◌≡◌, take}
use Rattle.conf_text.specs.Contents.{configuration}
use Rattle.conf_text.specs.Settings.{managed_among}
use Rattle.conf_text.proofs.managing.managed.Given as goal

abbrev pub invariant-loop-spec : goal.invariant-loop-spec
invariant-loop-spec l = l.all.items ≡ managed_among (configuration l.conf) l.ifaces (take l.spec-index l.ifaces)
