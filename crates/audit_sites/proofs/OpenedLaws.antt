-- What is known of the interfaces of a life, by what its opening told.
use Rattle.std.proofs.Common.{◌≡◌, List, [], map, sym, ap, ◌∙◌}
use Rattle.net_types.specs.declared.address.Mac.{Mac}
use Rattle.world.specs.declared.wakes.Begin.{Begin}
use Rattle.world.specs.StoreCalls.{StoreCall}
use Rattle.settings.specs.declared.interfaces.Managed.{Managed}
use Rattle.audit_words.specs.EvidenceWords.Inputs.{Site}
use Rattle.audit_seats.specs.AuditModel.Showing.{site_by}
use Rattle.audit_seats.specs.AuditModel.Auditing.{Living, site_in}
use Rattle.audit_sites.specs.declared.opening.Opening.{Opening}
use Rattle.audit_sites.specs.Openings.{Opens}
use Rattle.audit_sites.specs.Reads.{reads_of}

pub sites_opened : (opening : Opening) (living : Living) → Opens opening living
    → map (site_by opening.managed opening.own.items opening.begin.up (reads_of opening.reads.items)) opening.managed
    ≡ map (site_in living) living.managed
sites_opened opening living opens =
    ap (λ (all : List Managed). map (site_by all opening.own.items opening.begin.up (reads_of opening.reads.items)) all) opens.managed
    ∙ ap (λ (own : List Mac). map (site_by living.managed own opening.begin.up (reads_of opening.reads.items)) living.managed) opens.own
    ∙ ap (λ (begin : Begin). map (site_by living.managed living.own begin.up (reads_of opening.reads.items)) living.managed) opens.begin
    ∙ ap (λ (reads : List StoreCall). map (site_by living.managed living.own living.begin.up reads) living.managed) opens.reads

pub no_sites : (opening : Opening) (living : Living) → opening.managed ≡ [] → Opens opening living → [] ≡ map (site_in living) living.managed
no_sites opening living none opens = ap (map (site_in living)) (sym none ∙ opens.managed)
