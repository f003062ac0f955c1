-- Where a call has no news, the leases of the client are as before.
use Rattle.std.proofs.Common.{◌≡◌, ℕ, Bool, true, false, not, cond, ◌&&◌, Option, None, refl, sym, ap, ◌∙◌}
use Rattle.std.proofs.lemmas.Bool.{and_parts}
use Rattle.machine.specs.Moment.{is_due}
use Rattle.net_types.proofs.CaseLaws.{gated, split}
use Rattle.net_types.specs.declared.address.Ip6.{Ip6}
use Rattle.v6_message.specs.declared.kind.ServerKind6.{ServerKind6}
use Rattle.v6_message.specs.declared.kind.ServerKind6.TheVariants.{Advertise, Reply}
use Rattle.v6_message.specs.Replies.{Content6}
use Rattle.lease6_text.specs.Leases.{Lease6Content}
use Rattle.v6_client.specs.declared.states.Answer6.{Answer6}
use Rattle.v6_client.specs.declared.states.Carrier6.TheVariants.{Up}
use Rattle.v6_items.specs.declared.scope.Cause6.TheVariants.{Lapse, Duplicate}
use Rattle.v6_client.specs.declared.states.News6.TheVariants as news
use Rattle.v6_items.specs.declared.scope.Parting6.{Parting6}
use Rattle.v6_client.specs.declared.states.State6.{State6}
use Rattle.v6_client.specs.declared.states.Step6.{Step6}
use Rattle.v6_client.specs.declared.states.Tell6.{Tell6}
use Rattle.v6_client.specs.declared.turn.Turn6.{Turn6}
use Rattle.v6_client.specs.Answers.{advertise_answer, counts, learnt}
use Rattle.v6_client.specs.Calls.{IsAnswered, answer_in, dates_in, due_of, fresh_in, has_origin, parting_begun, pruned, stands_at}
use Rattle.v6_client.specs.Clients.{ClientContent, held_of, holds, is_at_end, is_off, turn_of}
use Rattle.v6_client.specs.Hearing.{heard_row, is_kept_offer}
use Rattle.v6_client.specs.Inputs.{begin_row, duplicate_row}
use Rattle.v6_client.specs.Moves.{IsStep6, OutContent, given_up, kept_after, lapsed, parting_at}
use Rattle.v6_client.specs.QuietLaws.{AllRunsTell, BeginsTell, DuplicatesTell, KeepsLeases, MessagesTell, RebindsTell, ReleasesTell, RunTells, TellsChange, TicksTell}
use Rattle.v6_client.specs.Runs.{answered, carrier_turned, contested_turned, hears_turned, rebind_turned, release_turned, rested, tick_turned}
use Rattle.v6_client.specs.Ticks.{tick_row}
use Rattle.v6_client.proofs.RowFacts.{GivingFacts, Leaves, TickFacts, begin_facts, duplicate_facts, heard_facts, held_in, rebind_facts, release_facts, stood_tells, tick_facts}

-- ---- calls

abbrev IsQuietRow : Option Lease6Content → State6 → Step6 → Type 0
IsQuietRow kept state step = step.news ≡ news.Nothing → Leaves kept state step

step_tells : (step : Step6) (fresh : Option Lease6Content) (c new : ClientContent) (out : OutContent) → IsStep6 step fresh c new out
    → IsQuietRow c.kept c.state step → TellsChange c new out
step_tells step fresh c new out goes row none =
    let leaves : Leaves c.kept c.state step = row (sym (ap (λ (o : OutContent). o.news) goes.answers) ∙ none) in
    let same : kept_after step.keep fresh c.kept ≡ c.kept = ap (λ keep. kept_after keep fresh c.kept) leaves.same in (
      ap (λ (n : ClientContent). n.kept) goes.goes_on ∙ same,
      ap held_of goes.goes_on ∙ ap (λ kept. held_in step.state kept) same ∙ leaves.held,
    )

-- what goes before a step goes in one case alone
unless : (b : Bool) (step : Step6) (c d new : ClientContent) (out : OutContent) → b ≡ false → IsStep6 step None (cond b d c) new out
    → IsStep6 step None c new out
unless true step c d new out e goes = absurd cc
unless false step c d new out e goes = goes

neither : (one other : Bool) → one ≡ false → (one && other) ≡ false
neither true other e = absurd cc
neither false other e = refl

news_of : (step : Step6) (c new : ClientContent) (out : OutContent) → IsStep6 step None c new out → out.news ≡ news.Nothing
    → step.news ≡ news.Nothing
news_of step c new out goes none = sym (ap (λ (o : OutContent). o.news) goes.answers) ∙ none

pub ticks_tell : TicksTell
ticks_tell c new at salt out goes none =
    let p : Parting6 = parting_at (Lapse at) c in
    let turn : Turn6 = turn_of at salt c in
    let step : Step6 = tick_row turn (dates_in c) p c.state in
    let facts : TickFacts p c.kept c.state step = tick_facts turn (dates_in c) c.kept p c.state in
    split (holds c.state && p.goes)
    (λ e. absurd (facts.told e (news_of step (lapsed at p c) new out goes none)))
    (λ e. step_tells step None c new out
    (unless (holds c.state && p.goes && not (is_at_end at c.state)) step c _ new out (neither _ _ e) goes) (facts.quiet e) none)

pub duplicates_tell : DuplicatesTell
duplicates_tell c new address at salt out goes none =
    let p : Parting6 = parting_at (Duplicate address) c in
    let turn : Turn6 = turn_of at salt c in
    let step : Step6 = duplicate_row turn p c.state in
    let facts : GivingFacts p c.kept c.state step = duplicate_facts turn p c.kept c.state in
    split (holds c.state && p.goes)
    (λ e. absurd (facts.told e (news_of step (given_up address p c) new out goes none)))
    (λ e. step_tells step None c new out (unless (holds c.state && p.goes) step c _ new out e goes) facts.row.quiet none)

over : (c d new : ClientContent) → KeepsLeases c d → KeepsLeases d new → KeepsLeases c new
over c d new first second = (second.0 ∙ first.0, second.1 ∙ first.1)

-- an offer that is kept is no lease
offered_leaves : (step : Step6) (b : Bool) (c d new : ClientContent) (out : OutContent) → KeepsLeases c d → d.kept ≡ c.kept
    → IsQuietRow d.kept d.state step → IsQuietRow c.kept c.state step → IsStep6 step None (cond b d c) new out → TellsChange c new out
offered_leaves step true c d new out same kept row other goes none = over c d new same (step_tells step None d new out goes row none)
offered_leaves step false c d new out same kept row other goes none = step_tells step None c new out goes other none

answers_tell : (kind : ServerKind6) (c new : ClientContent) (message : Content6) (at salt : ℕ) (out : OutContent)
    → IsAnswered at salt message kind c new out → TellsChange c new out
answers_tell Advertise c new message at salt out goes =
    let answer : Answer6 = advertise_answer c message in
    let row : IsQuietRow c.kept c.state (heard_row (turn_of at salt c) answer c.state) =
    (heard_facts (turn_of at salt c) answer c.kept c.state).quiet in
    offered_leaves (heard_row (turn_of at salt c) answer c.state) (is_kept_offer answer c.state) c _ new out
    (refl, refl) refl row row goes
answers_tell Reply c new message at salt out goes =
    step_tells (heard_row (turn_of at salt c) (answer_in at c message) c.state) (fresh_in at c message) c new out goes
    (heard_facts (turn_of at salt c) (answer_in at c message) c.kept c.state).quiet

pub messages_tell : MessagesTell
messages_tell c new message at salt out hears none =
    split (counts c message)
    (λ counted. answers_tell message.kind (learnt message.sol_max c) new message at salt out (hears.goes counted) none)
    (λ ignored.
    let same : new ≡ c = (hears.ignores ignored).0 in
    (ap (λ (n : ClientContent). n.kept) same, ap held_of same))

-- a client that stands tells so, and another one changes no lease
begun_tells : (stands : Bool) (c new : ClientContent) (at salt : ℕ) (out : OutContent) → stands_at at c ≡ stands
    → IsStep6 (begin_row (turn_of at salt c) stands (parting_begun at c) c.state) None (pruned at stands c) new out → TellsChange c new out
begun_tells true c new at salt out e goes none =
    let p : Parting6 = parting_begun at c in
    let origin = and_parts (is_off c.state && c.fresh && c.settings.site.flags.persistent && has_origin c.kept) p.stays e in
    let wish = and_parts (is_off c.state && c.fresh && c.settings.site.flags.persistent) (has_origin c.kept) origin.0 in
    let first = and_parts (is_off c.state && c.fresh) c.settings.site.flags.persistent wish.0 in
    let off = and_parts (is_off c.state) c.fresh first.0 in
    absurd (stood_tells (turn_of at salt c) p c.state off.0 origin.1 (news_of _ (pruned at true c) new out goes none))
begun_tells false c new at salt out e goes none =
    step_tells _ None c new out goes (begin_facts (turn_of at salt c) (parting_begun at c) c.kept c.state).quiet none

pub begins_tell : BeginsTell
begins_tell c new at salt out goes = begun_tells (stands_at at c) c new at salt out refl goes

pub rebinds_tell : RebindsTell
rebinds_tell c new at salt out goes =
    step_tells _ None c new out goes (rebind_facts (turn_of at salt c) (parting_begun at c) c.kept c.state).quiet

pub releases_tell : ReleasesTell
releases_tell c new tell at salt out goes =
    step_tells _ None c new out goes (release_facts (turn_of at salt c) tell c.kept c.state).quiet

-- ---- the calls as functions

rest_tells : (c : ClientContent) → RunTells c (rested c)
rest_tells c none = (refl, refl)

tick_run_tells : (c : ClientContent) (at salt : ℕ) → RunTells c (tick_turned at salt c)
unfolding tick_turned
tick_run_tells c at salt =
    gated (RunTells c) (is_due (due_of c) at) _ _ (ticks_tell c _ at salt _ (record { goes_on = refl; answers = refl })) (rest_tells c)

answer_run_tells : (kind : ServerKind6) (c : ClientContent) (message : Content6) (at salt : ℕ)
    → RunTells c (answered at salt message kind c)
answer_run_tells Advertise c message at salt = answers_tell Advertise c _ message at salt _ (record { goes_on = refl; answers = refl })
answer_run_tells Reply c message at salt = answers_tell Reply c _ message at salt _ (record { goes_on = refl; answers = refl })

message_run_tells : (c : ClientContent) (message : Content6) (at salt : ℕ) → RunTells c (hears_turned at salt message c)
unfolding hears_turned
message_run_tells c message at salt =
    gated (RunTells c) (counts c message) _ _ (answer_run_tells message.kind (learnt message.sol_max c) message at salt) (rest_tells c)

duplicate_run_tells : (c : ClientContent) (address : Ip6) (at salt : ℕ) → RunTells c (contested_turned address at salt c)
unfolding contested_turned
duplicate_run_tells c address at salt = duplicates_tell c _ address at salt _ (record { goes_on = refl; answers = refl })

begin_run_tells : (c : ClientContent) (at salt : ℕ) → RunTells c (carrier_turned Up at salt c)
unfolding carrier_turned
begin_run_tells c at salt = begins_tell c _ at salt _ (record { goes_on = refl; answers = refl })

rebind_run_tells : (c : ClientContent) (at salt : ℕ) → RunTells c (rebind_turned at salt c)
unfolding rebind_turned
rebind_run_tells c at salt = rebinds_tell c _ at salt _ (record { goes_on = refl; answers = refl })

release_run_tells : (c : ClientContent) (tell : Tell6) (at salt : ℕ) → RunTells c (release_turned tell at salt c)
unfolding release_turned
release_run_tells c tell at salt = releases_tell c _ tell at salt _ (record { goes_on = refl; answers = refl })

pub all_runs_tell : AllRunsTell
all_runs_tell c at salt = record {
  tick = tick_run_tells c at salt;
  message = λ message. message_run_tells c message at salt;
  duplicate = λ address. duplicate_run_tells c address at salt;
  begin = begin_run_tells c at salt;
  rebind = rebind_run_tells c at salt;
  release = λ tell. release_run_tells c tell at salt;
}
