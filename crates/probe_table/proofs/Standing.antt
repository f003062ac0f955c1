-- What stands in the table of probed addresses after a turn.
use Rattle.std.proofs.Common.{◌≡◌, ℕ, Bool, true, false, not, ◌&&◌, ◌||◌, if◌then◌else◌, List, [], ◌∷◌, length, Option, Some, None, refl, sym, ap, ◌∙◌, arith}
use Rattle.std.proofs.lemmas.Bool.Decides.{nat_tests}
use Rattle.std.specs.Prelude.{◌==◌, vec_len}
use Rattle.std.specs.List.{list_any, filter_map}
use Rattle.std.specs.Option.{is_some}
use Rattle.net_types.specs.declared.address.Ip4.{Ip4}
use Rattle.net_types.specs.declared.address.Mac.{Mac}
use Rattle.net_types.specs.AddressText.{FitsIp4}
use Rattle.frame_link.specs.declared.arp.ArpView.{ArpView}
use Rattle.audit_words.specs.EvidenceWords.Entries.{Entry as Told}
use Rattle.audit_words.specs.EvidenceWords.Inputs.{arp_on, index_at, offers_at, tells_contest}
use Rattle.audit_words.specs.EvidenceWords.Probed.{probe_taken}
use Rattle.audit_words.specs.Shown.{entry_shown, site_shown}
use Rattle.audit_words.specs.declared.shown.Entry.{Entry}
use Rattle.audit_words.specs.declared.shown.Site.{Site}
use Rattle.probe_table.specs.ByAddress.{is_addr}
use Rattle.probe_table.specs.ProbeTimes.{TurnTest, earlier_of, is_past, only_if, no_probes, times_after, turn_to}
use Rattle.probe_table.specs.Table.{AreEntered, Holds, IsTurned, addr_of, left_of, own_times, remains, rests_in, times_at, times_of, turn_at}
use Rattle.probe_table.specs.Targets.{probe_of}
use Rattle.probe_table.specs.declared.table.ProbeTable.{ProbeTable}
use Rattle.probe_table.specs.declared.table.Probing.{Probing}
use Rattle.probe_table.specs.declared.table.TableTurn.{TableTurn}
use Rattle.probe_table.specs.declared.times.ProbeTimes.{ProbeTimes}
use Rattle.probe_table.specs.declared.times.ProbeTurn.{ProbeTurn}
use Rattle.probe_table.proofs.Leaving.{goes_on}
use Rattle.probe_table.proofs.ProbeTargets.{targets_told}

-- ---- one address

times_of_three : (a b c d e f : Option ℕ) → a ≡ d → b ≡ e → c ≡ f
    → (let times : ProbeTimes = record { first = a; second = b; third = c } in times) ≡ record { first = d; second = e; third = f }
times_of_three a b c d e f p q r = cc

-- nothing is left where nothing may remain
lost : (contested calm probed ready : Bool) (before moment : Option ℕ) → (not contested && (calm || probed)) ≡ false
    → (if contested then None else earlier_of (only_if calm before) (only_if (probed && ready) moment)) ≡ None
lost true calm probed ready before moment h = refl
lost false true probed ready before moment h = absurd cc
lost false false true ready before moment h = absurd cc
lost false false false ready before moment h = refl

-- nothing comes of nothing
unprobed : (contested calm probed ready : Bool) (moment : Option ℕ) → probed ≡ false
    → (if contested then None else earlier_of (only_if calm None) (only_if (probed && ready) moment)) ≡ None
unprobed true calm probed ready moment h = refl
unprobed false calm true ready moment h = absurd cc
unprobed false true false ready moment h = refl
unprobed false false false ready moment h = refl

-- what was probed counts on in a quiet turn
kept_on : (contested calm probed ready : Bool) (before moment : Option ℕ) → contested ≡ false → calm ≡ true → probed ≡ false
    → (if contested then None else earlier_of (only_if calm before) (only_if (probed && ready) moment)) ≡ before
kept_on true calm probed ready before moment a b c = absurd cc
kept_on false false probed ready before moment a b c = absurd cc
kept_on false true true ready before moment a b c = absurd cc
kept_on false true false ready None moment a b c = refl
kept_on false true false ready (Some x) moment a b c = refl

abbrev second_ready : ProbeTurn → ProbeTimes → Bool
second_ready turn times = turn.calm && is_past 1000 times.first turn.moment

abbrev third_ready : ProbeTurn → ProbeTimes → Bool
third_ready turn times = turn.calm && is_past 1000 times.second turn.moment

pub all_lost : (turn : ProbeTurn) → remains turn ≡ false → (times : ProbeTimes) → times_after turn times ≡ no_probes
all_lost turn h times = times_of_three _ _ _ _ _ _
    (lost turn.contested turn.calm turn.probed true times.first (Some turn.moment) h)
    (lost turn.contested turn.calm turn.probed (second_ready turn times) times.second (Some turn.moment) h)
    (lost turn.contested turn.calm turn.probed (third_ready turn times) times.third (Some turn.moment) h)

pub none_probed : (turn : ProbeTurn) → turn.probed ≡ false → times_after turn no_probes ≡ no_probes
none_probed turn h = times_of_three _ _ _ _ _ _
    (unprobed turn.contested turn.calm turn.probed true (Some turn.moment) h)
    (unprobed turn.contested turn.calm turn.probed (second_ready turn no_probes) (Some turn.moment) h)
    (unprobed turn.contested turn.calm turn.probed (third_ready turn no_probes) (Some turn.moment) h)

pub all_kept : (turn : ProbeTurn) → turn.contested ≡ false → turn.calm ≡ true → turn.probed ≡ false → (times : ProbeTimes)
    → times_after turn times ≡ times
all_kept turn a b c times = times_of_three _ _ _ _ _ _
    (kept_on turn.contested turn.calm turn.probed true times.first (Some turn.moment) a b c)
    (kept_on turn.contested turn.calm turn.probed (second_ready turn times) times.second (Some turn.moment) a b c)
    (kept_on turn.contested turn.calm turn.probed (third_ready turn times) times.third (Some turn.moment) a b c)

-- ---- the table

same : (a b : ℕ) → (a == b) ≡ true → a ≡ b
same a b e = grind (arith, nat_tests)

none_there : {X : Type 0} (xs : List X) (n : ℕ) → n ≡ length xs → (n == 0) ≡ true → xs ≡ []
none_there [] n e h = refl
none_there (x ∷ xs) n e h = let zero : n ≡ 0 = same n 0 h in absurd (omega arith)

is_none : (arp : Option ArpView) → not (is_some arp) ≡ true → arp ≡ None
is_none None h = refl
is_none (Some arp) h = absurd cc

parts : (a b : Bool) → (a && b) ≡ true → (a ≡ true) × (b ≡ true)
parts true b h = (refl, h)
parts false b h = absurd cc

-- a turn of the table is that of an entry
pub record Meets (site : Site) (entry : Entry) (calm : Bool) (turn : TableTurn) : Type 0 where
  pub moment : turn.moment ≡ entry.moment
  pub own : turn.own.now ≡ site.own.items
  pub arp : turn.arp ≡ arp_on (index_at (site_shown site)) entry.event entry.bytes.items
  pub calms : turn.calm ≡ calm
  pub targets : turn.targets.now ≡ filter_map (probe_of site) entry.offers.items

abbrev make : Ip4 → ProbeTimes → Probing
make addr times = record { addr = addr; times = times }

left_times : (turn : TableTurn) (addr : Ip4) (old all : List Probing) → AreEntered old turn.targets.now all
    → times_at (filter_map (left_of turn) all) addr ≡ times_after (turn_at turn addr) (times_at old addr)
left_times turn addr old all entered =
    goes_on addr_of own_times no_probes make (λ a v. refl) (λ a v. refl) (λ a. remains (turn_at turn a)) (λ a v. times_after (turn_at turn a) v)
    (λ a v h. all_lost (turn_at turn a) h v) addr old all turn.targets.now entered (λ h. none_probed (turn_at turn addr) h)

module _ (site : Site) (entry : Entry) (calm : Bool) where
  abbrev told : Ip4 → ProbeTurn
  told addr = turn_to calm (site_shown site) addr (entry_shown entry)

  abbrev targets : List Ip4
  targets = filter_map (probe_of site) entry.offers.items

  abbrev heard : Option ArpView
  heard = arp_on (index_at (site_shown site)) entry.event entry.bytes.items

  probe_turns : (a b : ℕ) (c d e f g h : Bool) → a ≡ b → c ≡ d → e ≡ f → g ≡ h
      → (let t : ProbeTurn = record { moment = a; contested = c; calm = e; probed = g } in t) ≡ record { moment = b; contested = d; calm = f; probed = h }
  probe_turns a b c d e f g h p q r s = cc

  is_told : (turn : TableTurn) → Meets site entry calm turn → (addr : Ip4) → FitsIp4 addr → turn_at turn addr ≡ told addr
  is_told turn m addr fits =
      probe_turns turn.moment entry.moment (tells_contest turn.own.now addr turn.arp) (tells_contest site.own.items addr heard) turn.calm calm
      (list_any (is_addr addr) turn.targets.now) (probe_taken (site_shown site) addr (offers_at (site_shown site) (entry_shown entry)))
      m.moment (ap (λ (own : List Mac). tells_contest own addr turn.arp) m.own ∙ ap (λ (arp : Option ArpView). tells_contest site.own.items addr arp) m.arp)
      m.calms (ap (list_any (is_addr addr)) m.targets ∙ targets_told site addr fits entry.offers.items)

  pub turned_so : (turn : TableTurn) → Meets site entry calm turn → (old new : ProbeTable) (all : List Probing)
      → AreEntered old.probings.items turn.targets.now all → new.probings.items ≡ filter_map (left_of turn) all → IsTurned site entry calm old new
  turned_so turn m old new all entered is =
      λ addr fits. ap (λ (ps : List Probing). times_at ps addr) is ∙ left_times turn addr old.probings.items all entered
      ∙ ap (λ (t : ProbeTurn). times_after t (times_of old addr)) (is_told turn m addr fits)

  none_is_probed : targets ≡ [] → (addr : Ip4) → FitsIp4 addr → (told addr).probed ≡ false
  none_is_probed none addr fits = sym (targets_told site addr fits entry.offers.items) ∙ ap (list_any (is_addr addr)) none

  -- an empty table stays so where nothing is probed
  stays_empty : (old : ProbeTable) → targets ≡ [] → old.probings.items ≡ [] → IsTurned site entry calm old old
  stays_empty old none empty =
      λ addr fits. let nothing : times_of old addr ≡ no_probes = ap (λ (ps : List Probing). times_at ps addr) empty in
      nothing ∙ sym (none_probed (told addr) (none_is_probed none addr fits)) ∙ ap (λ (t : ProbeTimes). times_after (told addr) t) (sym nothing)

  -- in a quiet turn all stays as it is
  stays_quiet : (old : ProbeTable) → targets ≡ [] → calm ≡ true → heard ≡ None → IsTurned site entry calm old old
  stays_quiet old none calmly silent =
      λ addr fits. sym (all_kept (told addr) (ap (λ (arp : Option ArpView). tells_contest site.own.items addr arp) silent) calmly
      (none_is_probed none addr fits) (times_of old addr))

  stays_so : (turn : TableTurn) → Meets site entry calm turn → (old : ProbeTable) → targets ≡ [] → (empty quiet : Bool)
      → (empty ≡ true → old.probings.items ≡ []) → (quiet ≡ true → (calm ≡ true) × (heard ≡ None)) → (empty || quiet) ≡ true
      → IsTurned site entry calm old old
  stays_so turn m old none true quiet h k is = stays_empty old none (h refl)
  stays_so turn m old none false quiet h k is = let q = k is in stays_quiet old none q.0 q.1

  -- where nothing changes all stays as it is
  pub rests_so : (turn : TableTurn) → Meets site entry calm turn → (old : ProbeTable) → rests_in turn old ≡ true → IsTurned site entry calm old old
  rests_so turn m old h =
      let p = parts (length turn.targets.now == 0) ((vec_len old.probings == 0) || (turn.calm && not (is_some turn.arp))) h in
      let none : targets ≡ [] = sym m.targets ∙ none_there turn.targets.now (length turn.targets.now) refl p.0 in
      stays_so turn m old none (vec_len old.probings == 0) (turn.calm && not (is_some turn.arp))
      (λ e. none_there old.probings.items (vec_len old.probings) old.probings.ok.0 e)
      (λ q. let c = parts turn.calm (not (is_some turn.arp)) q in (sym m.calms ∙ c.0, sym m.arp ∙ is_none turn.arp c.1)) p.1

-- The table holds what is kept after one turn more.
pub holds_on : (calm : TurnTest) (site : Site) (entry : Entry) (past : List Told) (old new : ProbeTable) → Holds calm (site_shown site) past old
    → IsTurned site entry (calm (entry_shown entry) past) old new → Holds calm (site_shown site) (entry_shown entry ∷ past) new
holds_on calm site entry past old new holds turned =
    λ addr fits. turned addr fits
    ∙ ap (λ (t : ProbeTimes). times_after (turn_to (calm (entry_shown entry) past) (site_shown site) addr (entry_shown entry)) t) (holds addr fits)
