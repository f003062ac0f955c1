-- The interfaces that are managed, one after another.
use Rattle.std.proofs.Common.{◌≡◌, ℕ, ◌+◌, ◌<◌, List, [], ◌∷◌, ◌++◌, length, take, get_or, Option, sym, ap, ◌∙◌}
use Rattle.std.specs.List.{cons_option}
use Rattle.std.proofs.lemmas.List.{take_more}
use Rattle.std.proofs.lemmas.List.Elements.{filter_map-append}
use Rattle.net_types.specs.declared.interface.IfSpec.{IfSpec}
use Rattle.settings.specs.declared.interfaces.IfConf.{IfConf}
use Rattle.settings.specs.declared.interfaces.Managed.{Managed}
use Rattle.conf_text.specs.Configurations.{Configuration}
use Rattle.conf_text.specs.Settings.{managed_among, managed_with, settings_of}

pub managed_more : (conf : Configuration) (specs these : List IfSpec) (at : ℕ) (spec : IfSpec) (all : List Managed) (settings : Option IfConf)
    → at < length these → all ≡ managed_among conf specs (take at these) → settings ≡ settings_of conf specs (get_or these at spec)
    → all ++ cons_option (managed_with (get_or these at spec) settings) [] ≡ managed_among conf specs (take (at + 1) these)
managed_more conf specs these at spec all settings within is said =
    ap (λ (ms : List Managed). ms ++ cons_option (managed_with (get_or these at spec) settings) []) is
    ∙ ap (λ (o : Option IfConf). managed_among conf specs (take at these) ++ cons_option (managed_with (get_or these at spec) o) []) said
    ∙ sym (ap (managed_among conf specs) (take_more these at spec within)
    ∙ filter_map-append (λ (s : IfSpec). managed_with s (settings_of conf specs s)) (take at these) (get_or these at spec ∷ []))
