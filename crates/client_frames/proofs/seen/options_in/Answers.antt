use Rattle.std.proofs.Common.{◌≡◌, ◌∙◌, sym, ap, arith, rules, Some, None, length}
use Rattle.std.proofs.lemmas.List.{length-drop}
use Rattle.v4_options.specs.Overload.{overload_in}
use Rattle.v4_message.specs.Message.{options_area, file_area, sname_area, message_instances, malformed_place}
use Rattle.v4_message.proofs.Places.{malformed_message, file_len, sname_len}
use Rattle.client_frames.proofs.seen.options_in.Goals as goal

pub options_of-requires : goal.options_of-requires
options_of-requires c =
    rw (
      c.areas_of.ensures.options,
      c.areas_of.ensures.file,
      c.areas_of.ensures.sname,
      file_len c.args.message.now c.requires,
      sname_len c.args.message.now c.requires,
    )
    (omega (arith, length-drop 240 c.args.message.now))

pub returns-in-Ok-clause-whole : goal.returns-in-Ok-clause-whole
unfolding message_instances
returns-in-Ok-clause-whole c = search rules

pub returns-in-Err-clause-cut : goal.returns-in-Err-clause-cut
unfolding malformed_place
returns-in-Err-clause-cut c =
    let malformed = rw (c.areas_of.ensures.options, c.areas_of.ensures.file, c.areas_of.ensures.sname) at c.in-Err.ensures.malformed in
    let same =
    malformed_message (overload_in (options_area c.args.message.now)) (options_area c.args.message.now) (file_area c.args.message.now)
    (sname_area c.args.message.now) c.in-Err.field-0.place (file_len c.args.message.now c.requires)
    (sname_len c.args.message.now c.requires) malformed in
    λ none. let bad = sym same.1 ∙ none in cc
