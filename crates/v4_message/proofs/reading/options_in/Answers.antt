use Rattle.std.proofs.Common.{arith, rules}
use Rattle.std.proofs.lemmas.List.{length-drop}
use Rattle.v4_options.specs.Overload.{overload_in}
use Rattle.v4_message.specs.Message.{options_area, file_area, sname_area, message_instances, malformed_place}
use Rattle.v4_message.proofs.Places.{whole_message, malformed_message, file_len, sname_len}
use Rattle.v4_message.proofs.reading.options_in.Goals as goal

pub options_of-requires : goal.options_of-requires
options_of-requires c =
    rw (
      c.areas_of.ensures.options,
      c.areas_of.ensures.file,
      c.areas_of.ensures.sname,
      file_len c.args.payload.now c.requires,
      sname_len c.args.payload.now c.requires,
    )
    (omega (arith, length-drop 240 c.args.payload.now))

pub place_of-requires-clause-within : goal.place_of-requires-clause-within
place_of-requires-clause-within c =
    let malformed = rw (c.areas_of.ensures.options, c.areas_of.ensures.file, c.areas_of.ensures.sname) at c.in-Err.ensures.malformed in
    let same =
    malformed_message (overload_in (options_area c.args.payload.now)) (options_area c.args.payload.now) (file_area c.args.payload.now)
    (sname_area c.args.payload.now) c.in-Err.malformed.place (file_len c.args.payload.now c.requires)
    (sname_len c.args.payload.now c.requires) malformed in
    omega (arith, same.0, length-drop 240 c.args.payload.now)

pub returns-in-Ok-clause-instances : goal.returns-in-Ok-clause-instances
unfolding message_instances
returns-in-Ok-clause-instances c = search rules

pub returns-in-Ok-clause-whole : goal.returns-in-Ok-clause-whole
unfolding malformed_place
returns-in-Ok-clause-whole c =
    let whole = rw (c.areas_of.ensures.options, c.areas_of.ensures.file, c.areas_of.ensures.sname) at c.in-Ok.ensures.whole in
    whole_message (overload_in (options_area c.args.payload.now)) (options_area c.args.payload.now) (file_area c.args.payload.now)
    (sname_area c.args.payload.now) whole

pub returns-in-Err-clause-malformed : goal.returns-in-Err-clause-malformed
unfolding malformed_place
returns-in-Err-clause-malformed c =
    let malformed = rw (c.areas_of.ensures.options, c.areas_of.ensures.file, c.areas_of.ensures.sname) at c.in-Err.ensures.malformed in
    let same =
    malformed_message (overload_in (options_area c.args.payload.now)) (options_area c.args.payload.now) (file_area c.args.payload.now)
    (sname_area c.args.payload.now) c.in-Err.malformed.place (file_len c.args.payload.now c.requires)
    (sname_len c.args.payload.now c.requires) malformed in
    rw (length-drop 240 c.args.payload.now, ← c.place_of.ensures) at same.1
