-- Lines one after another are typed where each of both parts are.
use Rattle.std.proofs.Common.{List, [], ◌∷◌, ◌++◌}
use Rattle.transcript_text.proofs.NetTypes.AllLaws.{all_join}
use Rattle.transcript_text.specs.ScriptModel.Lines.{Line}
use Rattle.typed_lines.specs.TypedLines.{AreTyped, IsTyped}

pub typed_both : (a b : List Line) → AreTyped a → AreTyped b → AreTyped (a ++ b)
typed_both a b one more = all_join IsTyped a b one more

pub typed_parts : (a b : List Line) → AreTyped (a ++ b) → AreTyped a × AreTyped b
typed_parts [] b typed = (tt, typed)
typed_parts (line ∷ a) b typed = let rest = typed_parts a b typed.1 in ((typed.0, rest.0), rest.1)
