use Rattle.file_choices.proofs.Choosing.{leaves_choices, stay_whole}
use Rattle.file_choices.proofs.Given.{only_given, spared_untouched}
use Rattle.file_choices.proofs.laws.calls_in_turn_leave_whole_files.Goals as goal

pub returns-clause-choices : goal.returns-clause-choices
returns-clause-choices c = leaves_choices

pub returns-clause-whole : goal.returns-clause-whole
returns-clause-whole c = stay_whole

pub returns-clause-given : goal.returns-clause-given
returns-clause-given c = only_given

pub returns-clause-spared : goal.returns-clause-spared
returns-clause-spared c = spared_untouched
