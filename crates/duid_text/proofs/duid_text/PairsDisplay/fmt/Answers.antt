use Rattle.std.proofs.Common.{◌≤◌, ◌-◌, [], ◌∷◌, length, rules}
use Rattle.std.specs.Fmt.{HasWritten}
use Rattle.std.proofs.lemmas.Grind.{put_two}
use Rattle.duid_text.proofs.Printing.{text_of_parts}
use Rattle.duid_text.proofs.duid_text.PairsDisplay.fmt.Goals as goal

pub returns-clause-writes : goal.returns-clause-writes
returns-clause-writes g c = λ plain ok.
    let bytes = c.args.self.now.0.now in
    let some : 1 ≤ length bytes = search rules in
    let past : length bytes - 1 ≤ c.loop-byte.byte-index = search rules in
    let before = c.loop-byte.invariant plain in
    let after : HasWritten g.W.Write.write_str_gives c.loop-byte.f (10 ∷ []) c.write_str.new.self = c.write_str.ensures.writes before.plain ok in
    put_two g.W.Write.write_str_gives _ _ _ _ _ _ before after (text_of_parts bytes c.loop-byte.byte-index some past)
