-- What is held of a life stays so with each line.
use Rattle.std.proofs.Common.{ℕ, ◌+◌, suc, Bool, true, false, List, [], ◌∷◌, ◌++◌, ◌≡◌, Option, Some, None, refl, sym, ap, subst, ◌∙◌, map, option_map, length, min, arith}
use Rattle.net_types.specs.declared.address.Mac.{Mac}
use Rattle.world.specs.declared.rows.HostRow.{HostRow}
use Rattle.world.specs.declared.wakes.Begin.{Begin}
use Rattle.world.specs.declared.wakes.Event.{Event}
use Rattle.world.specs.StoreCalls.{StoreCall}
use Rattle.settings.specs.declared.interfaces.Managed.{Managed}
use Rattle.script_model.specs.Lines.{Line}
use Rattle.script_model.specs.Lines as lines
use Rattle.audit_turns.specs.EvidenceWords.Entries.{Entry}
use Rattle.audit_turns.specs.EvidenceWords.Inputs.{Site}
use Rattle.audit_turns.specs.AuditModel.Showing.{site_by}
use Rattle.audit_turns.specs.AuditModel.Auditing.{Judge, Living, Unjust, lacking, reads_after, site_in, turned, unjust_at, unjust_first, unjust_in, with_line}
use Rattle.audit_follower.specs.declared.course.Course.{Course}
use Rattle.audit_follower.specs.declared.course.Course.TheVariants as courses
use Rattle.audit_follower.specs.declared.unjust.Unjust as code
use Rattle.audit_follower.specs.declared.seated.Seated.{Seated}
use Rattle.audit_sites.specs.declared.opening.Opening.{Opening}
use Rattle.audit_turns.specs.Goings.{Going, GoesOn, going_in, is_read}
use Rattle.audit_sites.specs.Reads.{reads_of}
use Rattle.audit_follower.specs.Holding.{Courses, Finds, is_found, with_read, GoesOnIn, IsPastOne, IsSeated, counted}
use Rattle.audit_sites.specs.Openings.{Opens}
use Rattle.audit_seats.specs.Seats.{AllTell, Telling, sites_of}

-- what a line that tells nothing of files leaves as it is
pub record Keeps (living next : Living) : Type 0 where
  pub managed : next.managed ≡ living.managed
  pub own : next.own ≡ living.own
  pub begin : next.begin ≡ living.begin
  pub reads : next.reads ≡ living.reads
  pub past : next.past ≡ living.past

all_kept : (living next : Living) → next.managed ≡ living.managed → next.own ≡ living.own → next.begin ≡ living.begin
    → next.reads ≡ living.reads → next.past ≡ living.past → Keeps living next
all_kept living next managed own begin reads past = record { managed = managed; own = own; begin = begin; reads = reads; past = past }

not_so : true ≡ false → ⊥
not_so e = cc

pub line_keeps : (line : Line) (living : Living) → is_read line ≡ false → Keeps living (with_line line living)
line_keeps lines.Head living other = all_kept living living refl refl refl refl refl
line_keeps (lines.Conf text) living other = all_kept living living refl refl refl refl refl
line_keeps (lines.Notice line word) living other = all_kept living living refl refl refl refl refl
line_keeps (lines.Interface spec) living other = all_kept living living refl refl refl refl refl
line_keeps (lines.Life number) living other = all_kept living living refl refl refl refl refl
line_keeps (lines.Start begin) living other = all_kept living living refl refl refl refl refl
line_keeps (lines.Asides names) living other = all_kept living living refl refl refl refl refl
line_keeps lines.AsidesFailed living other = all_kept living living refl refl refl refl refl
line_keeps (lines.Wrote name bytes done) living other = all_kept living living refl refl refl refl refl
line_keeps (lines.Synced name done) living other = all_kept living living refl refl refl refl refl
line_keeps (lines.Renamed name done) living other = all_kept living living refl refl refl refl refl
line_keeps (lines.Removed name done) living other = all_kept living living refl refl refl refl refl
line_keeps (lines.Settled done) living other = all_kept living living refl refl refl refl refl
line_keeps (lines.Read name reading) living other = absurd (not_so other)
line_keeps (lines.Turn at salt event bytes) living other = all_kept living living refl refl refl refl refl
line_keeps (lines.HookPolled number answer) living other = all_kept living living refl refl refl refl refl
line_keeps (lines.HookAbandoned number) living other = all_kept living living refl refl refl refl refl
line_keeps (lines.HookDropped number reason name) living other = all_kept living living refl refl refl refl refl
line_keeps (lines.HookStarted number reason name done) living other = all_kept living living refl refl refl refl refl
line_keeps (lines.Variable name value) living other = all_kept living living refl refl refl refl refl
line_keeps (lines.Send iface bytes taken) living other = all_kept living (with_line (lines.Send iface bytes taken) living) refl refl refl refl refl
line_keeps (lines.HostListed count) living other = all_kept living (with_line (lines.HostListed count) living) refl refl refl refl refl
line_keeps (lines.Row row) living other = all_kept living (with_line (lines.Row row) living) refl refl refl refl refl
line_keeps lines.HostListFailed living other = all_kept living (with_line lines.HostListFailed living) refl refl refl refl refl
line_keeps (lines.HostDel row true) living other = all_kept living (with_line (lines.HostDel row true) living) refl refl refl refl refl
line_keeps (lines.HostDel row false) living other = all_kept living (with_line (lines.HostDel row false) living) refl refl refl refl refl
line_keeps (lines.HostAdd row true) living other = all_kept living (with_line (lines.HostAdd row true) living) refl refl refl refl refl
line_keeps (lines.HostAdd row false) living other = all_kept living (with_line (lines.HostAdd row false) living) refl refl refl refl refl
line_keeps (lines.Until moment) living other = all_kept living living refl refl refl refl refl
line_keeps (lines.Hold iface net) living other = all_kept living living refl refl refl refl refl
line_keeps lines.EndOfLife living other = all_kept living living refl refl refl refl refl

sites_by : List Managed → List Mac → Begin → List StoreCall → List Site
sites_by managed own begin reads = map (site_by managed own begin.up reads) managed

sites_kept : (living next : Living) → Keeps living next → map (site_in next) next.managed ≡ map (site_in living) living.managed
sites_kept living next keeps =
    ap (λ (all : List Managed). map (site_by all next.own next.begin.up next.reads) all) keeps.managed
    ∙ ap (λ (own : List Mac). map (site_by living.managed own next.begin.up next.reads) living.managed) keeps.own
    ∙ ap (λ (begin : Begin). map (site_by living.managed living.own begin.up next.reads) living.managed) keeps.begin
    ∙ ap (λ (reads : List StoreCall). map (site_by living.managed living.own living.begin.up reads) living.managed) keeps.reads

module _ {J : Type 0} (Tells : Telling J) where
  seated_kept : (seated : Seated J) (living next : Living) → Keeps living next → IsSeated Tells seated living → IsSeated Tells seated next
  seated_kept seated living next keeps is = record {
    sites = is.sites ∙ sym (sites_kept living next keeps);
    tell = subst (λ (past : List Entry). AllTell Tells past seated.watched.items) (sym keeps.past) is.tell;
    count = is.count ∙ ap (λ (past : List Entry). counted (length past)) (sym keeps.past);
  }

  living_kept : (course : Course J) (living next : Living) (unjust : Option Unjust) → Keeps living next
      → Courses Tells course (Some living) unjust → Courses Tells course (Some next) unjust
  living_kept (courses.Found found) living next (Some unjust) keeps is = is
  living_kept (courses.Found found) living next None keeps is = is
  living_kept courses.Between living next (Some unjust) keeps is = is
  living_kept courses.Between living next None keeps is = is
  living_kept (courses.Opening opening) living next (Some unjust) keeps is = is
  living_kept (courses.Opening opening) living next None keeps is = record {
    managed = is.managed ∙ sym keeps.managed;
    own = is.own ∙ sym keeps.own;
    begin = is.begin ∙ sym keeps.begin;
    reads = is.reads ∙ sym keeps.reads;
    first = keeps.past ∙ is.first;
  }
  living_kept (courses.Within seated) living next (Some unjust) keeps is = is
  living_kept (courses.Within seated) living next None keeps is = record {
    past_one = subst IsPastOne (sym keeps.past) is.past_one;
    is_seated = seated_kept seated living next keeps is.is_seated;
  }

  -- with a line that tells nothing of files
  pub course_kept : (course : Course J) (line : Line) (living : Option Living) (unjust : Option Unjust) → is_read line ≡ false
      → Courses Tells course living unjust → Courses Tells course (option_map (with_line line) living) unjust
  course_kept course line None unjust other is = is
  course_kept course line (Some living) unjust other is = living_kept course living (with_line line living) unjust (line_keeps line living other) is

  -- once a turn is over that shows an address without basis
  pub found_one : (judge : Judge) (found : code.Unjust) (life count : ℕ) (living : Living) (next : Option Living) (row : HostRow)
      → found.life ≡ life → found.turn ≡ count → found.row ≡ row → count ≡ counted (length living.past) → Some row ≡ lacking judge living
      → Courses Tells (courses.Found found) next (unjust_in judge life (Some living))
  found_one judge found life count living next row in_life in_turn is_row count_is lacks =
      subst (λ (o : Option HostRow). Courses Tells (courses.Found found) next (option_map (unjust_at life (length living.past)) o)) lacks
      (record { life = in_life; turn = in_turn ∙ count_is; row = is_row })

  -- once one is over that shows none
  pub found_none : (judge : Judge) (before after : Seated J) (life : ℕ) (living : Living) (at : ℕ) (event : Event) (bytes : List ℕ)
      → None ≡ lacking judge living → IsSeated Tells before living
      → sites_of after.watched.items ≡ sites_of before.watched.items
      → AllTell Tells (living.entry ∷ living.past) after.watched.items
      → after.count ≡ min (before.count + 1) 18446744073709551615
      → Courses Tells (courses.Within after) (Some (turned at event bytes living)) (unjust_in judge life (Some living))
  found_none judge before after life living at event bytes lacks is sites tell count =
      subst
      (λ (o : Option HostRow). Courses Tells (courses.Within after) (Some (turned at event bytes living))
      (option_map (unjust_at life (length living.past)) o))
      lacks
      (record {
        past_one = tt;
        is_seated = record {
          sites = sites ∙ is.sites;
          tell = tell;
          count = let one : before.count ≡ min (length living.past) 18446744073709551615 = is.count in omega (arith, one, count);
        };
      })

  -- ---- the course of a life, over lives that may be none

  -- the opening is over
  pub opening_closed : (judge : Judge) (opening : Opening) (seated : Seated J) (next : Course J) (going : Going) (life : ℕ)
      → ((l : Living) → Opens opening l → IsSeated Tells seated l)
      → ((l : Living) (at : ℕ) (event : Event) (bytes : List ℕ) → going ≡ going_in l → IsSeated Tells seated l
      → Courses Tells next (Some (turned at event bytes l)) (unjust_in judge life (Some l)))
      → (living : Option Living) (unjust : Option Unjust) (at : ℕ) (event : Event) (bytes : List ℕ) → GoesOn living going
      → Courses Tells (courses.Opening opening) living unjust
      → Courses Tells next (option_map (turned at event bytes) living) (unjust_first unjust (unjust_in judge life living))
  opening_closed judge opening seated next going life seats closes None None at event bytes goes is = absurd is
  opening_closed judge opening seated next going life seats closes None (Some unjust) at event bytes goes is = absurd is
  opening_closed judge opening seated next going life seats closes (Some l) (Some unjust) at event bytes goes is = absurd is
  opening_closed judge opening seated next going life seats closes (Some l) None at event bytes goes is = closes l at event bytes goes (seats l is)

  -- a turn is over
  pub within_closed : (judge : Judge) (seated : Seated J) (next : Course J) (going : Going) (life : ℕ)
      → ((l : Living) (at : ℕ) (event : Event) (bytes : List ℕ) → going ≡ going_in l → IsSeated Tells seated l
      → Courses Tells next (Some (turned at event bytes l)) (unjust_in judge life (Some l)))
      → (living : Option Living) (unjust : Option Unjust) (at : ℕ) (event : Event) (bytes : List ℕ) → GoesOn living going
      → Courses Tells (courses.Within seated) living unjust
      → Courses Tells next (option_map (turned at event bytes) living) (unjust_first unjust (unjust_in judge life living))
  within_closed judge seated next going life closes None None at event bytes goes is = absurd is
  within_closed judge seated next going life closes None (Some unjust) at event bytes goes is = absurd is
  within_closed judge seated next going life closes (Some l) (Some unjust) at event bytes goes is = absurd is
  within_closed judge seated next going life closes (Some l) None at event bytes goes is = closes l at event bytes goes is.is_seated

  pub between_closed : (judge : Judge) (life : ℕ) (living : Option Living) (unjust : Option Unjust) (at : ℕ) (event : Event) (bytes : List ℕ)
      → Courses Tells courses.Between living unjust
      → Courses Tells courses.Between (option_map (turned at event bytes) living) (unjust_first unjust (unjust_in judge life living))
  between_closed judge life None None at event bytes is = tt
  between_closed judge life None (Some unjust) at event bytes is = absurd is
  between_closed judge life (Some l) None at event bytes is = absurd is
  between_closed judge life (Some l) (Some unjust) at event bytes is = absurd is

  none_found : (found : code.Unjust) (living : Option Living) → Courses Tells (courses.Found found) living None → ⊥
  none_found found None is = is
  none_found found (Some l) is = is

  pub found_closed : (judge : Judge) (found : code.Unjust) (life : ℕ) (living next : Option Living) (unjust : Option Unjust)
      → Courses Tells (courses.Found found) living unjust
      → Courses Tells (courses.Found found) next (unjust_first unjust (unjust_in judge life living))
  found_closed judge found life living next None is = absurd (none_found found living is)
  found_closed judge found life living next (Some unjust) is = is

  -- at the end of a life
  pub between_ended : (course : Course J) (living : Option Living) (unjust : Option Unjust) → is_found course ≡ false
      → Courses Tells course living unjust → Courses Tells courses.Between None unjust
  between_ended courses.Between None None other is = tt
  between_ended courses.Between None (Some unjust) other is = is
  between_ended courses.Between (Some l) None other is = absurd is
  between_ended courses.Between (Some l) (Some unjust) other is = is
  between_ended (courses.Opening opening) None None other is = absurd is
  between_ended (courses.Opening opening) None (Some unjust) other is = is
  between_ended (courses.Opening opening) (Some l) None other is = tt
  between_ended (courses.Opening opening) (Some l) (Some unjust) other is = is
  between_ended (courses.Within seated) None None other is = absurd is
  between_ended (courses.Within seated) None (Some unjust) other is = is
  between_ended (courses.Within seated) (Some l) None other is = tt
  between_ended (courses.Within seated) (Some l) (Some unjust) other is = is
  between_ended (courses.Found found) living unjust other is = absurd (not_so other)

  pub found_stays : (found : code.Unjust) (living next : Option Living) (unjust : Option Unjust)
      → Courses Tells (courses.Found found) living unjust → Courses Tells (courses.Found found) next unjust
  found_stays found living next None is = absurd (none_found found living is)
  found_stays found living next (Some unjust) is = is

  -- at the beginning of a life
  pub opening_begun : (course : Course J) (opening : Opening) (living : Option Living) (unjust : Option Unjust) (next : Living)
      → is_found course ≡ false → Courses Tells course living unjust → Opens opening next → Courses Tells (courses.Opening opening) (Some next) unjust
  opening_begun courses.Between opening None None next other is opens = opens
  opening_begun courses.Between opening None (Some unjust) next other is opens = is
  opening_begun courses.Between opening (Some l) None next other is opens = absurd is
  opening_begun courses.Between opening (Some l) (Some unjust) next other is opens = is
  opening_begun (courses.Opening before) opening None None next other is opens = absurd is
  opening_begun (courses.Opening before) opening None (Some unjust) next other is opens = is
  opening_begun (courses.Opening before) opening (Some l) None next other is opens = opens
  opening_begun (courses.Opening before) opening (Some l) (Some unjust) next other is opens = is
  opening_begun (courses.Within seated) opening None None next other is opens = absurd is
  opening_begun (courses.Within seated) opening None (Some unjust) next other is opens = is
  opening_begun (courses.Within seated) opening (Some l) None next other is opens = opens
  opening_begun (courses.Within seated) opening (Some l) (Some unjust) next other is opens = is
  opening_begun (courses.Found found) opening living unjust next other is opens = absurd (not_so other)

  -- ---- files that are read

  pub opening_read : (before after : Opening) (call : StoreCall) (living : Option Living) (unjust : Option Unjust)
      → after.managed ≡ before.managed → after.own.items ≡ before.own.items → after.begin ≡ before.begin
      → reads_of after.reads.items ≡ reads_of before.reads.items ++ call ∷ []
      → Courses Tells (courses.Opening before) living unjust
      → Courses Tells (courses.Opening after) (option_map (with_read call) living) unjust
  opening_read before after call None None managed own begin reads is = is
  opening_read before after call None (Some unjust) managed own begin reads is = is
  opening_read before after call (Some l) (Some unjust) managed own begin reads is = is
  opening_read before after call (Some l) None managed own begin reads is = record {
    managed = managed ∙ is.managed;
    own = own ∙ is.own;
    begin = begin ∙ is.begin;
    reads = reads ∙ ap (λ (all : List StoreCall). all ++ call ∷ []) is.reads ∙ ap (λ (past : List Entry). reads_after past call l.reads) (sym is.first);
    first = is.first;
  }

  same_reads : (past : List Entry) (call : StoreCall) (reads : List StoreCall) → IsPastOne past → reads_after past call reads ≡ reads
  same_reads [] call reads one = absurd one
  same_reads (e ∷ past) call reads one = refl

  pub within_read : (seated : Seated J) (call : StoreCall) (living : Option Living) (unjust : Option Unjust)
      → Courses Tells (courses.Within seated) living unjust
      → Courses Tells (courses.Within seated) (option_map (with_read call) living) unjust
  within_read seated call None None is = is
  within_read seated call None (Some unjust) is = is
  within_read seated call (Some l) (Some unjust) is = is
  within_read seated call (Some l) None is =
      living_kept (courses.Within seated) l (record l { reads = reads_after l.past call l.reads }) None
      (all_kept l (record l { reads = reads_after l.past call l.reads }) refl refl refl (same_reads l.past call l.reads is.past_one) refl) is

  pub between_read : (call : StoreCall) (living : Option Living) (unjust : Option Unjust)
      → Courses Tells courses.Between living unjust
      → Courses Tells courses.Between (option_map (with_read call) living) unjust
  between_read call None unjust is = is
  between_read call (Some l) None is = is
  between_read call (Some l) (Some unjust) is = is

  -- before all turns
  pub seated_first : (seated : Seated J) (opening : Opening) (living : Living) → Opens opening living
      → sites_of seated.watched.items ≡ map (site_in living) living.managed → AllTell Tells [] seated.watched.items → seated.count ≡ 0
      → IsSeated Tells seated living
  seated_first seated opening living opens sites tell count = record {
    sites = sites;
    tell = subst (λ (past : List Entry). AllTell Tells past seated.watched.items) (sym opens.first) tell;
    count = count ∙ ap (λ (past : List Entry). counted (length past)) (sym opens.first);
  }

  -- what was found

  pub finds_found : (found : code.Unjust) (living : Option Living) (unjust : Option Unjust) → Courses Tells (courses.Found found) living unjust
      → Finds (Some found) unjust
  finds_found found living None is = absurd (none_found found living is)
  finds_found found living (Some unjust) is = is

  between_finds : (unjust : Option Unjust) → Courses Tells courses.Between None unjust → Finds None unjust
  between_finds None is = tt
  between_finds (Some unjust) is = is

  pub finds_none : (course : Course J) (living : Option Living) (unjust : Option Unjust) → is_found course ≡ false
      → Courses Tells course living unjust → Finds None unjust
  finds_none course living unjust other is = between_finds unjust (between_ended course living unjust other is)

-- a file is read
pub ruleset courses_read = (opening_read, within_read, between_read, found_stays)

-- a turn is closed
pub ruleset courses_close = (opening_closed, within_closed, between_closed, found_closed)
