use Rattle.std.proofs.Common.{◌≡◌, ◌++◌, map}
use Rattle.v6_options.specs.Ias.{ias_in}
use Rattle.v6_options.specs.IaViews.{ias_left}
use Rattle.v6_message.specs.ReadBack.{asked_in}
use Rattle.v6_message.specs.Requests.{ia_option, options_text}
use Rattle.own_frames6.proofs.writing.put_ias.Given as goal

abbrev pub invariant-ias : goal.invariant-ias
invariant-ias l =
    l.message.items ++ options_text (map ia_option (map asked_in (ias_left l.ia-iterator)))
    ≡ l.initial.message.items ++ options_text (map ia_option (map asked_in (ias_in l.options)))
