use Rattle.field_laws.proofs.FieldLaws.{making_is, parted_is, passing_is, worded_is}
use Rattle.field_laws.proofs.KindLaws.{hex_is, number_is, number_lacks_blank}
use Rattle.field_laws.proofs.laws.fields_are_made_of_fields.Goals as goal

pub returns-clause-parted : goal.returns-clause-parted
returns-clause-parted c = λ limit. parted_is (number_is limit) (number_lacks_blank limit) hex_is

pub returns-clause-worded : goal.returns-clause-worded
returns-clause-worded c = λ limit word free. worded_is word free (number_is limit)

pub returns-clause-passing : goal.returns-clause-passing
returns-clause-passing c = λ limit test. passing_is test (number_is limit)

pub returns-clause-making : goal.returns-clause-making
returns-clause-making c = λ make told both. making_is make told both hex_is
