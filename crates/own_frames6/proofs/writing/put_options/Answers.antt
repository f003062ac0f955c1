use Rattle.std.proofs.Common.{◌≡◌, ℕ, List, ◌∷◌, ◌++◌, map, subst, ◌∙◌}
use Rattle.std.specs.Prelude.{OnOk}
use Rattle.v6_options.specs.Ias.{ias_in}
use Rattle.v6_message.specs.ReadBack.{asked_in}
use Rattle.v6_message.specs.Requests.{ia_option, options_text, rapid_options, server_options, wanted_in}
use Rattle.v6_message.proofs.OptionLists.{message_put}
use Rattle.own_frames6.specs.Shown.{said_shown}
use Rattle.own_frames6.proofs.writing.put_options.Goals as goal

pub returns : goal.returns
returns c =
    let start = c.args.message.now.items in
    let said = said_shown c.args.said.now in
    let server = server_options said.server in
    let put = message_put start _ _ _ _ _ (1, said.client) (8, c.u16_octets.result) server (rapid_options said.rapid)
    (map ia_option said.ias) (wanted_in said.kind)
    c.in_ok-put_option.ensures c.in_ok-put_server.ensures c.in_ok-put_option-2.ensures c.in_ok-put_rapid.ensures c.in_ok-put_ias.ensures in
    let whole = put ∙ (λ i. start ++ options_text ((1, said.client) ∷ (server ++ ((8, c.u16_octets.ensures i) ∷ (rapid_options said.rapid
    ++ (map ia_option said.ias ++ wanted_in said.kind)))))) in
    subst (λ (text : List ℕ). OnOk c.put_wanted_in.result (c.put_wanted_in.new.message.items ≡ text)) whole c.put_wanted_in.ensures
