use Rattle.std.proofs.Common.{◌≡◌, true, refl}
use Rattle.domain_names.specs.NameText.{is_name, labels_of}
use Rattle.domain_names.proofs.Labels.{name_kept}
use Rattle.domain_names.proofs.NameBytes.{name_utf8}
use Rattle.domain_names.proofs.text.text_of.Goals as goal

pub ascii_text-requires : goal.ascii_text-requires
ascii_text-requires c =
    let good : is_name c.trimmed-name.result.now ≡ true = cc in
    name_utf8 (labels_of c.trimmed-name.result.now) c.trimmed-name.result.now (name_kept c.trimmed-name.result.now good)

pub returns-in-Ok : goal.returns-in-Ok
returns-in-Ok c =
    let good : is_name c.trimmed-name.result.now ≡ true = cc in
    let kept = name_kept c.trimmed-name.result.now good in
    rw (c.in-Ok.ensures, ← c.trimmed-name.ensures, kept) refl
