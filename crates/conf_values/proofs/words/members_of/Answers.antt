use Rattle.std.proofs.Common.{rules, tests}
use Rattle.std.proofs.lemmas.Iterator.Consumers.{YieldsList-from_filter, map_from_collect}
use Rattle.std.proofs.lemmas.Iterator.Splits.{YieldsList-from_slice_split}
use Rattle.conf_words.specs.Marks.{parts_words}
use Rattle.conf_values.specs.Words.{is_some_text}
use Rattle.conf_values.proofs.words.members_of.Goals as goal

pub returns : goal.returns
returns c =
    map_from_collect _ c.collect.ensures.ran
    (YieldsList-from_filter _ is_some_text
    (YieldsList-from_slice_split _ parts_words c.args.value.now (search rules) (search rules) (search rules) (λ x b q k. search (rules, tests)))
    c.filter.ensures.closure (λ x b q k. search (rules, tests)))
