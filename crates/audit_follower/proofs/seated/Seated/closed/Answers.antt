use Rattle.std.proofs.Common.{◌≡◌, List, ◌∷◌, Some, refl, sym, ap, subst, ◌∙◌}
use Rattle.audit_turns.specs.EvidenceWords.Entries.{Entry}
use Rattle.audit_turns.specs.AuditModel.Auditing.{turned}
use Rattle.audit_seats.specs.declared.seats.Watched.{Watched}
use Rattle.audit_seats.specs.Seats.{AllTell, sites_of}
use Rattle.audit_seats.specs.Tests.{judged_by}
use Rattle.audit_turns.specs.Goings.{Going}
use Rattle.audit_follower.proofs.CourseLaws.{found_none, found_one}
use Rattle.audit_follower.proofs.seated.Seated.closed.Goals as goal

pub returns-in-Some : goal.returns-in-Some
returns-in-Some g c = λ living at event bytes goes is.
    let judge = judged_by g.J.Judge.is_own g.J.Judge.is_shared in
    let tell =
    subst (λ (e : Entry). AllTell g.J.Judge.Tells (e ∷ living.past) c.in_ok-watched.watched.items) (ap (λ (h : Going). h.entry) goes)
    (c.in_ok-watched.ensures.tell living.past is.tell) in
    let lacks =
    c.in-Some.ensures living goes (ap sites_of c.deref.ensures.value ∙ c.in_ok-watched.ensures.sites ∙ is.sites)
    (subst (λ (all : List (Watched _)). AllTell g.J.Judge.Tells (living.entry ∷ living.past) all) (sym c.deref.ensures.value) tell) in
    found_one g.J.Judge.Tells judge (record { life = c.args.life; turn = c.args.self.count; row = c.in-Some.row }) c.args.life c.args.self.count living
    (Some (turned at event bytes living)) c.in-Some.row refl refl refl is.count lacks

pub returns-in-None : goal.returns-in-None
returns-in-None g c = λ living at event bytes goes is.
    let judge = judged_by g.J.Judge.is_own g.J.Judge.is_shared in
    let tell =
    subst (λ (e : Entry). AllTell g.J.Judge.Tells (e ∷ living.past) c.in_ok-watched.watched.items) (ap (λ (h : Going). h.entry) goes)
    (c.in_ok-watched.ensures.tell living.past is.tell) in
    let lacks =
    c.in-None.ensures living goes (ap sites_of c.deref.ensures.value ∙ c.in_ok-watched.ensures.sites ∙ is.sites)
    (subst (λ (all : List (Watched _)). AllTell g.J.Judge.Tells (living.entry ∷ living.past) all) (sym c.deref.ensures.value) tell) in
    found_none g.J.Judge.Tells judge c.args.self (record { watched = c.in_ok-watched.watched; count = c.saturating_add.result }) c.args.life living at event
    bytes lacks is c.in_ok-watched.ensures.sites tell c.saturating_add.ensures
