use Rattle.std.proofs.Common.{◌≡◌, List, ℕ, ◌++◌, ◌∷◌, [], ◌∙◌, ap, subst, append_assoc}
use Rattle.std.specs.Prelude.{OnOk}
use Rattle.net_types.specs.Fields.{ip6_octets}
use Rattle.frame_link.specs.Fields.{word_text}
use Rattle.own_frames6.proofs.framing.put_packet.Goals as goal

-- pieces put one after another are put at once
at_once : (start a b c d e : List ℕ) → ((((start ++ a) ++ b) ++ c) ++ d) ++ e ≡ start ++ ((((a ++ b) ++ c) ++ d) ++ e)
at_once start a b c d e =
    ap (λ (x : List ℕ). ((x ++ c) ++ d) ++ e) (append_assoc start a b)
    ∙ ap (λ (x : List ℕ). (x ++ d) ++ e) (append_assoc start (a ++ b) c)
    ∙ ap (λ (x : List ℕ). x ++ e) (append_assoc start ((a ++ b) ++ c) d)
    ∙ append_assoc start (((a ++ b) ++ c) ++ d) e

pub returns : goal.returns
returns c =
    let start = c.args.frame.now.items in
    let from = ip6_octets c.args.ends.now.from in
    let to = ip6_octets c.args.ends.now.to in
    let whole =
    ap (λ (x : List ℕ). x ++ from ++ to) c.in_ok-put_start.ensures
    ∙ at_once start (0x60 ∷ 0 ∷ 0 ∷ 0 ∷ []) (word_text c.args.len) (17 ∷ 64 ∷ []) from to in
    subst (λ (text : List ℕ). OnOk c.put_addresses.result (c.put_addresses.new.frame.items ≡ text)) whole c.put_addresses.ensures
