-- The rows of the IAs of a lease, in a loop over them.
use Rattle.std.proofs.Common.{ℕ, ◌≡◌, ◌+◌, ◌<◌, List, [], ◌∷◌, ◌++◌, get_or, length, take, sym, ap, subst, ◌∙◌}
use Rattle.std.specs.Prelude.{flat_map}
use Rattle.std.specs.List.{AllByRecursion}
use Rattle.std.proofs.Math.ListN.{get_or-map}
use Rattle.std.proofs.lemmas.List.{flat_map_more, length-map, map-append, take_more}
use Rattle.lease6_text.specs.declared.lease.IaLease.{IaLease}
use Rattle.lease6_text.specs.Bounds.{FitsIa}
use Rattle.lease6_text.specs.Leases.{IaLeaseContent, ia_content, ias_content}
use Rattle.world.specs.declared.rows.HostRow.{HostRow}
use Rattle.settings.specs.declared.dhcp6_conf.ShareConf.{ShareConf}
use Rattle.settings.specs.declared.outlet.Outlet.{Outlet}
use Rattle.client_model.specs.WantedRows.{ia_rows}
use Rattle.client_core.proofs.InPlace.{each_of}

-- each of them fits
pub ia_fits : (ias : List IaLease) (i : ℕ) (ia : IaLease) → i < length ias → AllByRecursion FitsIa (ias_content ias) → ia ≡ get_or ias i ia
    → FitsIa (ia_content ia)
ia_fits ias i ia lt all is =
    subst FitsIa (get_or-map ia_content ias i ia ∙ ap ia_content (sym is))
    (each_of FitsIa (ias_content ias) i (ia_content ia) (subst (λ (n : ℕ). i < n) (sym (length-map ias ia_content)) lt) all)

-- one more of them
pub ias_more : (outlet : Outlet) (shares : List ShareConf) (before rows more : List HostRow) (ias : List IaLease) (i : ℕ) (ia : IaLease) → i < length ias
    → ia ≡ get_or ias i ia
    → rows ≡ before ++ flat_map (ia_rows outlet shares) (ias_content (take i ias)) → more ≡ rows ++ ia_rows outlet shares (ia_content ia)
    → more ≡ before ++ flat_map (ia_rows outlet shares) (ias_content (take (i + 1) ias))
ias_more outlet shares before rows more ias i ia lt is so_far grows =
    let some : List IaLease = take i ias in
    grows ∙ ap (λ (rs : List HostRow). rs ++ ia_rows outlet shares (ia_content ia)) so_far
    ∙ flat_map_more (ia_rows outlet shares) before (ias_content some) (ia_content ia)
    ∙ ap (λ (xs : List IaLeaseContent). before ++ flat_map (ia_rows outlet shares) xs)
    (sym (map-append ia_content some (ia ∷ []))
    ∙ ap (λ (x : IaLease). ias_content (some ++ x ∷ [])) is ∙ ap ias_content (sym (take_more ias i ia lt)))
