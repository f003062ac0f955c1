-- What the judges of an interface hold together after a turn, and after one that doesn't concern it.
use Rattle.std.proofs.Common.{◌≡◌, ◌<◌, ◌^◌, Bool, true, false, not, ◌&&◌, List, [], ◌∷◌, refl, ◌∙◌}
use Rattle.net_types.specs.declared.address.Net.{Net}
use Rattle.evidence_words.specs.Entries.{Entry}
use Rattle.evidence_words.specs.Inputs.{Site, index_at}
use Rattle.audit_seats.specs.Concern.{concerns}
use Rattle.lease_judge.specs.LocalJudges.Judge as of_local
use Rattle.lease_judge.specs.LocalJudges.declared.judge.LocalJudge.{LocalJudge}
use Rattle.iface_judge.specs.Telling.{Tells, TellsLocal}
use Rattle.iface_judge.specs.declared.judge.IfaceJudge.{IfaceJudge}
use Rattle.iface_judge.proofs.AlikeTurns.{alike_idle, alike_on, gives_alike}
use Rattle.iface_judge.proofs.IdleJudges.{items_on, kept4_told_on, kept6_told_on, leases_on, statics_on}

-- ---- link-local addresses, of turns that are alike

pub local_first : (judge : LocalJudge) (site : Site) → of_local.Tells judge site [] → TellsLocal judge site []
local_first judge site tells =
    record { seen = []; tells = tells; alike = record { up = refl; times = λ addr. refl; uses = λ addr fits. refl } }

pub local_on : (judge next : LocalJudge) (site : Site) (e : Entry) (past : List Entry)
    → ((seen : List Entry) → of_local.Tells judge site seen → of_local.Tells next site (e ∷ seen)) → TellsLocal judge site past
    → TellsLocal next site (e ∷ past)
local_on judge next site e past so told =
    record { seen = e ∷ told.seen; tells = so told.seen told.tells; alike = alike_on site told.seen past told.alike e }

pub local_gives : (judge : LocalJudge) (site : Site) (past : List Entry) (net : Net) (result : Bool)
    → ((seen : List Entry) → of_local.Tells judge site seen → result ≡ of_local.gives_in site net seen) → TellsLocal judge site past
    → result ≡ of_local.gives_in site net past
local_gives judge site past net result so told = so told.seen told.tells ∙ gives_alike site told.seen past told.alike net

-- ---- a turn that doesn't concern the interface

parts : (settled concerned : Bool) → (settled && not concerned) ≡ true → (settled ≡ true) × (concerned ≡ false)
parts true false holds = (refl, refl)
parts true true holds = absurd cc
parts false concerned holds = absurd cc

pub stays_so : (judge : IfaceJudge) (site : Site) (e : Entry) (past : List Entry) → e.moment < 2 ^ 64
    → (judge.settled && not (concerns (index_at site) e)) ≡ true → Tells judge site past → Tells judge site (e ∷ past)
stays_so judge site e past moment holds tells =
    let p = parts judge.settled (concerns (index_at site) e) holds in
    let settled = tells.settled p.0 in
    record {
      statics = statics_on site e past p.1 judge.statics tells.statics;
      local = record {
        seen = tells.local.seen;
        tells = tells.local.tells;
        alike = alike_idle site tells.local.seen past tells.local.alike e p.1 (settled.local_settled site tells.local.seen tells.local.tells) moment;
      };
      lease = leases_on site e past p.1 (settled.lease_settled site past tells.lease) moment judge.lease tells.lease;
      items = items_on site e past p.1 judge.items tells.items;
      kept4 = kept4_told_on site e past p.1 judge.kept4 tells.kept4;
      kept6 = kept6_told_on site e past p.1 judge.kept6 tells.kept6;
      settled = tells.settled;
    }
