use Rattle.std.proofs.Common.{[], ◌∷◌, ◌++◌, ◌∙◌, ap, List, ℕ, refl}
use Rattle.net_types.specs.Sum.{checksum}
use Rattle.own_frames6.proofs.framing.sum_of.Goals as goal

pub returns : goal.returns
returns c = λ size is.
    let addresses = c.sum_add-2.ensures _ (c.sum_add.ensures [] c.sum_new-sum.ensures) in
    let pseudo = c.sum_add-5.ensures _ (c.sum_add-4.ensures _ (c.sum_add-3.ensures _ addresses)) in
    let ports = c.sum_add-9.ensures _ (c.sum_add-8.ensures _ (c.sum_add-7.ensures _ (c.sum_add-6.ensures _ pseudo))) in
    let value = c.sum_value.ensures _ (c.sum_add-10.ensures _ ports) in
    value
    ∙ (λ i. checksum ([] ++ c.octets.ensures i ++ c.octets-2.ensures i ++ (0 ∷ 0 ∷ []) ++ is i ++ (0 ∷ 0 ∷ 0 ∷ 17 ∷ [])
    ++ c.u16_octets.ensures i ++ c.u16_octets-2.ensures i ++ is i ++ (0 ∷ 0 ∷ []) ++ c.args.payload.now))
