use Rattle.std.proofs.Common.{◌∙◌, sym}
use Rattle.std.specs.String.{string_bytes}
use Rattle.resolver_text.specs.Texts.{server_text}
use Rattle.resolver_text.proofs.ToldServers.{among_told, printed_again, printed_anew, tells_more, tells_one}
use Rattle.resolver_text.proofs.UnlikeTexts.{keeps_old}
use Rattle.resolver_text.proofs.texts.Servers.add.Goals as goal

pub returns-then-is_told : goal.returns-then-is_told
returns-then-is_told c =
    rw (← c.self.view_is) (keeps_old c.args.limit (server_text c.args.name c.args.server) _ (rw c.self.view_is c.requires)
    (among_told c.self.inside.told.items c.deref.result.now _ c.args.server c.deref.ensures.value c.self.invariant
    (c.is_told.ensures.0 c.if-is_told.true) c.args.name))

pub returns-then-is_printed : goal.returns-then-is_printed
returns-then-is_printed c =
    printed_again (λ text. string_bytes text) c.args.limit c.self.inside.texts.items c.deref-2.result.now _ c.self.view_is c.requires c.deref-2.ensures.value
    (server_text c.args.name c.args.server) _ (c.as_str.ensures.value ∙ c.in_ok-text.ensures) _ c.is_printed.ensures c.if-is_printed.true

pub invariant_of-self-in-Continue-branch-3 : goal.invariant_of-self-in-Continue-branch-3
invariant_of-self-in-Continue-branch-3 c =
    tells_one
    (λ text. string_bytes text) c.self.inside.texts.items c.push.new.self.items c.in_ok-text.text c.in_ok-push.ensures.items c.self.inside.told.items
    c.self.invariant
    c.args.name c.args.server c.in_ok-text.ensures
    (sym c.needs_no_zone.ensures ∙ c.if-needs_no_zone.true) c.push-then-needs_no_zone.new.self.items c.in_ok-push-2.ensures.items

pub invariant_of-self-in_err-push-2 : goal.invariant_of-self-in_err-push-2
invariant_of-self-in_err-push-2 c = rw c.in_err-push-2.ensures.items
    (tells_more
    (λ text. string_bytes text) c.self.inside.texts.items c.push.new.self.items c.in_ok-text.text c.in_ok-push.ensures.items c.self.inside.told.items
    c.self.invariant)

pub invariant_of-self-else-needs_no_zone : goal.invariant_of-self-else-needs_no_zone
invariant_of-self-else-needs_no_zone c =
    tells_more
    (λ text. string_bytes text) c.self.inside.texts.items c.push.new.self.items c.in_ok-text.text c.in_ok-push.ensures.items c.self.inside.told.items
    c.self.invariant

pub returns-in_ok-push-2 : goal.returns-in_ok-push-2
returns-in_ok-push-2 c =
    printed_anew (λ text. string_bytes text) c.args.limit c.self.inside.texts.items c.deref-2.result.now _ c.self.view_is c.requires c.deref-2.ensures.value
    (server_text c.args.name c.args.server) _ (c.as_str.ensures.value ∙ c.in_ok-text.ensures) _ c.is_printed.ensures c.if-is_printed.false
    c.push.new.self.items c.in_ok-text.text c.in_ok-push.ensures.items c.in_ok-text.ensures

pub returns-else-needs_no_zone : goal.returns-else-needs_no_zone
returns-else-needs_no_zone c =
    printed_anew (λ text. string_bytes text) c.args.limit c.self.inside.texts.items c.deref-2.result.now _ c.self.view_is c.requires c.deref-2.ensures.value
    (server_text c.args.name c.args.server) _ (c.as_str.ensures.value ∙ c.in_ok-text.ensures) _ c.is_printed.ensures c.if-is_printed.false
    c.push.new.self.items c.in_ok-text.text c.in_ok-push.ensures.items c.in_ok-text.ensures
