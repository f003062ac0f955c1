use Rattle.std.proofs.Common.{◌∙◌, ap, sym, refl}
use Rattle.domain_names.specs.NameText.{is_name}
use Rattle.resolver_text.proofs.KeptTexts.{name_again, name_anew, no_name}
use Rattle.resolver_text.proofs.texts.add_name.Goals as goal
use Rattle.resolver_text.proofs.texts.add_name.Goals.{else-not-is_among-via-then-not-is_among+else-is_name, else-not-is_among-via-else-not-is_among}

pub returns-in_ok-push : goal.returns-in_ok-push
returns-in_ok-push c =
    name_anew (λ name. name.now) is_name c.args.limit c.args.names.now.items c.deref.result.now c.args.name.now c.requires c.deref.ensures.value
    _ c.is_among.ensures c.if-not-is_among.true
    (sym (ap is_name c.as_bytes.ensures.value) ∙ sym c.is_name.ensures ∙ c.if-is_name.true) c.push.new.self.items _ c.in_ok-push.ensures.items refl

pub returns-else-not-is_among : goal.returns-else-not-is_among
returns-else-not-is_among c =
    elim c.else-not-is_among.branch [
      | else-not-is_among-via-then-not-is_among+else-is_name w ↦
          no_name is_name c.args.limit _ c.args.name.now (sym (ap is_name w.as_bytes.ensures.value) ∙ sym w.is_name.ensures ∙ w.if-is_name.false)
      | else-not-is_among-via-else-not-is_among w ↦
          name_again (λ name. name.now) is_name c.args.limit c.args.names.now.items c.deref.result.now c.args.name.now c.requires c.deref.ensures.value
          _ c.is_among.ensures w.if-not-is_among.false
    ]
