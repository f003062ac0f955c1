use Rattle.std.proofs.Common.{◌≡◌, sym, ap, ◌∙◌}
use Rattle.std.specs.Prelude.{map}
use Rattle.std.specs.String.{string_bytes}
use Rattle.resolver_text.specs.Parts.{PartContent}
use Rattle.client_core.proofs.same_parts.is_same.Goals as goal

pub returns : goal.returns
returns c =
    let alike = c.have_one_origin.ensures.0 c.if-not-have_one_origin.false in
    let servers : c.args.one.now.servers.items ≡ c.args.other.now.servers.items =
    sym c.deref.ensures.value ∙ c.same_servers.ensures.0 c.if-not-same_servers.false ∙ c.deref-2.ensures.value in (
      λ yes.
          let names : map string_bytes c.args.one.now.names.items ≡ map string_bytes c.args.other.now.names.items =
          ap (map string_bytes) (sym c.deref-3.ensures.value) ∙ c.same_names.ensures.0 yes ∙ ap (map string_bytes) c.deref-4.ensures.value in
          λ i. record { metric = alike.0 i; index = alike.1.0 i; name = alike.1.1.0 i; family = alike.1.1.1 i; servers = servers i; names = names i },
      λ same. c.same_names.ensures.1
          (ap (map string_bytes) c.deref-3.ensures.value ∙ ap (λ (part : PartContent). part.names) same ∙ ap (map string_bytes) (sym c.deref-4.ensures.value)),
    )
