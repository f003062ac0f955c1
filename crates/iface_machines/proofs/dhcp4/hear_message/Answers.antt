use Rattle.std.proofs.Common.{ℕ, subst}
use Rattle.std.proofs.lemmas.Result.{on_ok_weaker}
use Rattle.v4_frames.specs.Heard.{heard_shown}
use Rattle.v4_client.specs.Calls.{brought, heard_step}
use Rattle.v4_client.specs.Clients.{ClientContent, OutContent, out_content}
use Rattle.v4_client.specs.Messages.{Arrival}
use Rattle.v4_client.specs.Moves.{IsStep4}
use Rattle.client_model.specs.Dhcp4Steps.{arrival_at}
use Rattle.iface_machines.specs.Outcomes.{asked_in}
use Rattle.iface_machines.proofs.Following.{as_told, goes_dhcp4}
use Rattle.iface_machines.proofs.dhcp4.hear_message.Goals as goal

pub returns : goal.returns
returns c =
    let old : ClientContent = c.args.iface.now.dhcp4 in
    let arrival : (ℕ → Arrival) = λ (at : ℕ). arrival_at at (heard_shown c.args.heard.now) in
    let out : OutContent = out_content c.in_ok-out.out in
    let is : IsStep4 (heard_step c.args.salt (arrival c.args.at) old) (brought (arrival c.args.at) old) c.heard4.new.c out =
    subst (λ (at : ℕ). IsStep4 (heard_step c.args.salt (arrival at) old) (brought (arrival at) old) c.heard4.new.c out) (as_told c.args.at c.requires.at)
    c.in_ok-out.ensures.step in
    on_ok_weaker c.follow.result
    (goes_dhcp4 c.args.at c.holds_lease-held.result c.args.iface.now c.follow.new.iface (heard_step c.args.salt (arrival c.args.at) old)
    (brought (arrival c.args.at) old) c.heard4.new.c out (asked_in c.args.outs.now) (asked_in c.follow.new.outs) c.holds_lease-held.ensures is)
    c.follow.ensures
