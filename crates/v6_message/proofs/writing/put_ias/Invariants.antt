use Rattle.std.proofs.Common.{◌≡◌, ◌++◌, map, take}
use Rattle.v6_message.specs.Requests.{asked_content, ia_option, options_text}
use Rattle.v6_message.proofs.writing.put_ias.Given as goal

abbrev pub invariant-ias : goal.invariant-ias
invariant-ias l = l.message.items ≡ l.initial.message.items ++ options_text (map ia_option (map asked_content (take l.ia-index l.ias)))
