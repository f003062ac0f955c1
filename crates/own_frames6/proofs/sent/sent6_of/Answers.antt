use Rattle.std.proofs.Common.{◌≡◌, ◌∙◌, Bool, true, false, Option, Some, None, drop, sym, ap}
use Rattle.std.specs.Prelude.{if◌then◌else◌}
use Rattle.std.specs.Option.{option_map}
use Rattle.net_types.specs.Fields.{mac_field}
use Rattle.v6_frames.specs.Spelled.{Sent6}
use Rattle.v6_message.specs.ReadBack.{seems}
use Rattle.own_frames6.specs.Shown.{is_sent, said_shown}
use Rattle.own_frames6.proofs.Sending.{no_room, sent_so, unseen}
use Rattle.own_frames6.proofs.sent.sent6_of.Goals as goal

pub returns-then-not-has_room : goal.returns-then-not-has_room
returns-then-not-has_room c = no_room c.args.frame.now (sym c.has_room.ensures ∙ c.if-not-has_room.true)

pub returns-in_default : goal.returns-in_default
returns-in_default c =
    unseen c.args.frame.now
    (ap seems (sym c.split_at.ensures.back) ∙ sym c.seems.ensures ∙ ap (option_map said_shown) c.in_default.is)

pub returns-then-branch : goal.returns-then-branch
returns-then-branch c =
    let frame = c.args.frame.now in
    let said = said_shown c.in-Some.said in
    let sent : Sent6 = record { mac = mac_field 6 frame; said = said } in
    let seen : seems (drop 62 frame) ≡ Some said =
    ap seems (sym c.split_at.ensures.back) ∙ sym c.seems.ensures ∙ ap (option_map said_shown) c.in-Some.is in
    let test : is_sent frame (drop 62 frame) sent ≡ true =
    sym (λ i. is_sent frame (c.split_at.ensures.back i) (record { mac = c.mac_field.ensures i; said = said }))
    ∙ sym c.in_ok-is_sent.ensures ∙ c.if-branch.true in
    (λ i. Some (record { mac = c.mac_field.ensures i; said = said }))
    ∙ sym (sent_so frame said seen ∙ ap (λ (b : Bool). if b then Some sent else None) test)

pub returns : goal.returns
returns c =
    let frame = c.args.frame.now in
    let said = said_shown c.in-Some.said in
    let sent : Sent6 = record { mac = mac_field 6 frame; said = said } in
    let seen : seems (drop 62 frame) ≡ Some said =
    ap seems (sym c.split_at.ensures.back) ∙ sym c.seems.ensures ∙ ap (option_map said_shown) c.in-Some.is in
    let test : is_sent frame (drop 62 frame) sent ≡ false =
    sym (λ i. is_sent frame (c.split_at.ensures.back i) (record { mac = c.mac_field.ensures i; said = said }))
    ∙ sym c.in_ok-is_sent.ensures ∙ c.if-branch.false in
    sym (sent_so frame said seen ∙ ap (λ (b : Bool). if b then Some sent else None) test)
