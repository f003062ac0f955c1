use Rattle.std.proofs.Common.{◌≡◌, ◌∙◌, [], flat_map, ap, refl, rules, sym, subst, length}
use Rattle.std.specs.Fmt.{HasWritten}
use Rattle.std.proofs.lemmas.Grind.{flat_map-append, put_two}
use Rattle.std.proofs.lemmas.List.{nil_from_length}
use Rattle.net_types.specs.HexText.{byte_hex}
use Rattle.net_types.proofs.printing.PairsDisplay.fmt.Goals as goal

pub pieces-init : goal.pieces-init
pieces-init g c = λ plain. (plain, λ last written. written)

pub pieces-preserved : goal.pieces-preserved
pieces-preserved g c = λ plain.
    let before = c.pieces.invariant plain in
    let piece = c.in_ok-write.ensures.writes before.0 refl in
    let whole =
    sym (flat_map-append byte_hex c.split_at.result.0.now c.split_at.result.1.now)
    ∙ ap (λ bytes. flat_map byte_hex bytes) (sym c.split_at.ensures.by_index.0) in
    (piece.plain, λ last written. before.1 last (put_two _ _ _ _ _ _ _ piece written whole))

pub returns-clause-writes : goal.returns-clause-writes
returns-clause-writes g c = λ plain ok.
    let before = c.pieces.invariant plain in
    let empty : length c.pieces.rest.now ≡ 0 = search rules in
    let none = nil_from_length c.pieces.rest.now empty in
    before.1 c.pieces.f (subst (λ bytes. HasWritten g.W.Write.write_str_gives c.pieces.f (flat_map byte_hex bytes) c.pieces.f) (sym none)
    (record { wrote = record { parts = []; calls = refl; whole = refl }; plain = before.0 }))
