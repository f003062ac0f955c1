-- What a judge of link-local addresses holds after a turn.
use Rattle.std.proofs.Common.{◌≡◌, ℕ, Bool, true, false, ◌&&◌, if◌then◌else◌, List, ◌∷◌, Option, Some, None, option_and_then, refl, subst, ap, ◌∙◌}
use Rattle.std.specs.List.{list_any, list_all, filter_map}
use Rattle.net_types.specs.AddressText.{FitsIp4}
use Rattle.net_types.specs.declared.address.Ip4.{Ip4}
use Rattle.net_types.specs.declared.address.Mac.{Mac}
use Rattle.frame_link.specs.declared.arp.ArpView.{ArpView}
use Rattle.evidence_words.specs.Entries.{Entry as Told}
use Rattle.evidence_words.specs.Inputs.{arp_on, carrier_after, index_at, tells_use, uses}
use Rattle.audit_words.specs.Shown.{entry_shown, site_shown}
use Rattle.audit_words.specs.declared.shown.Entry.{Entry}
use Rattle.audit_words.specs.declared.shown.Site.{Site}
use Rattle.probe_table.specs.ByAddress.{is_addr}
use Rattle.probe_table.specs.ProbeTimes.{is_past}
use Rattle.probe_table.specs.Table.{AreProbed, IsTurned, times_of}
use Rattle.probe_table.specs.declared.table.ProbeTable.{ProbeTable}
use Rattle.probe_table.specs.declared.times.ProbeTimes.{ProbeTimes}
use Rattle.probe_table.proofs.Leaving.{goes_on as each_goes_on}
use Rattle.probe_table.proofs.Standing.{holds_on}
use Rattle.local_judge.specs.Choices.{choice_after, choice_in, choice_turn, goes_on, is_alone, is_calm, kept_choice, chosen_at, turn_for}
use Rattle.local_judge.specs.Judge.{AreEntered, ChoicesGoOn, Tells, announcement_of, choice_at, chosen_addr, left_of, own_choice, turn_at}
use Rattle.local_judge.specs.declared.choices.Choice.{Choice}
use Rattle.local_judge.specs.declared.choices.ChoiceTurn.{ChoiceTurn}
use Rattle.local_judge.specs.declared.judge.Chosen.{Chosen}
use Rattle.local_judge.specs.declared.judge.LocalJudge.{LocalJudge}
use Rattle.local_judge.specs.declared.judge.LocalTurn.{LocalTurn}
use Rattle.local_judge.proofs.AnnouncedOnly.{announced_only}

-- ---- one address

if_fits : (fits : Bool) (choice : Option Choice) → fits ≡ false → (if fits then choice else None) ≡ None
if_fits true choice h = absurd cc
if_fits false choice h = refl

none_left : (turn : ChoiceTurn) (choice : Option Choice) → turn.fits ≡ false → choice_after turn choice ≡ None
none_left turn choice h = if_fits turn.fits (if turn.fourth then Some (chosen_at turn) else option_and_then (kept_choice turn) choice) h

not_begun : (fits fourth : Bool) (new : Option Choice) → fourth ≡ false → (if fits then (if fourth then new else None) else None) ≡ None
not_begun true true new h = absurd cc
not_begun true false new h = refl
not_begun false fourth new h = refl

-- without a fourth turn nothing comes of nothing
none_chosen : (turn : ChoiceTurn) → turn.fourth ≡ false → choice_after turn None ≡ None
none_chosen turn h = not_begun turn.fits turn.fourth (Some (chosen_at turn)) h

-- ---- the table of choices

abbrev make : Ip4 → Option Choice → Chosen
make addr choice = record { addr = addr; choice = choice }

not_there : (ready there : Bool) → (ready ≡ true → there ≡ true) → there ≡ false → ready ≡ false
not_there true there h n = let e : there ≡ true = h refl in absurd cc
not_there false there h n = refl

left_choices : (turn : LocalTurn) (addr : Ip4) (old all : List Chosen) (candidates : List Ip4) → AreProbed 2000 turn.moment turn.probed.now candidates
    → AreEntered old candidates all → choice_at (filter_map (left_of turn) all) addr ≡ choice_after (turn_at turn addr) (choice_at old addr)
left_choices turn addr old all candidates probed entered =
    each_goes_on chosen_addr own_choice None make (λ a v. refl) (λ a v. refl) (λ a. (turn_at turn a).fits) (λ a v. choice_after (turn_at turn a) v)
    (λ a v h. none_left (turn_at turn a) v h) addr old all candidates entered
    (λ n. none_chosen (turn_at turn addr)
    (not_there (turn_at turn addr).fourth (list_any (is_addr addr) candidates) (probed addr) n))

-- a turn of the choices is that of an entry
pub record Meets (site : Site) (entry : Entry) (calm : Bool) (probed : ProbeTable) (turn : LocalTurn) : Type 0 where
  pub moment : turn.moment ≡ entry.moment
  pub own : turn.own.now ≡ site.own.items
  pub arp : turn.arp ≡ arp_on (index_at (site_shown site)) entry.event entry.bytes.items
  pub calms : turn.calm ≡ calm
  pub announced : turn.announced.now ≡ filter_map (announcement_of site) entry.offers.items
  pub probes : turn.probed.now ≡ probed

module _ (site : Site) (entry : Entry) (calm : Bool) (probed : ProbeTable) where
  abbrev told : Ip4 → ChoiceTurn
  told addr = turn_for calm (site_shown site) addr (entry_shown entry) (times_of probed addr)

  abbrev heard : Option ArpView
  heard = arp_on (index_at (site_shown site)) entry.event entry.bytes.items

  choice_turns : (a b : ℕ) (c d e f g h : Bool) → a ≡ b → c ≡ d → e ≡ f → g ≡ h
      → (let t : ChoiceTurn = record { moment = a; fits = c; fourth = e; used = g } in t) ≡ record { moment = b; fits = d; fourth = f; used = h }
  choice_turns a b c d e f g h p q r s = cc

  is_told : (turn : LocalTurn) → Meets site entry calm probed turn → (addr : Ip4) → turn_at turn addr ≡ told addr
  is_told turn m addr =
      choice_turns turn.moment entry.moment (turn.calm && list_all (is_addr addr) turn.announced.now)
      (calm && is_alone (site_shown site) addr (entry_shown entry))
      (is_past 2000 (times_of turn.probed.now addr).third turn.moment) (is_past 2000 (times_of probed addr).third entry.moment)
      (tells_use turn.own.now addr turn.arp) (uses (site_shown site) addr (entry_shown entry))
      m.moment
      (ap (λ (b : Bool). b && list_all (is_addr addr) turn.announced.now) m.calms
      ∙ ap (λ (b : Bool). calm && b) (ap (list_all (is_addr addr)) m.announced ∙ announced_only site addr entry.offers.items))
      (ap (λ (t : ProbeTable). is_past 2000 (times_of t addr).third turn.moment) m.probes ∙ ap (is_past 2000 (times_of probed addr).third) m.moment)
      (ap (λ (own : List Mac). tells_use own addr turn.arp) m.own ∙ ap (λ (arp : Option ArpView). tells_use site.own.items addr arp) m.arp)

  pub choices_go_on : (turn : LocalTurn) → Meets site entry calm probed turn → (old all new : List Chosen) (candidates : List Ip4)
      → AreProbed 2000 turn.moment turn.probed.now candidates → AreEntered old candidates all → new ≡ filter_map (left_of turn) all
      → ChoicesGoOn site entry calm probed old new
  choices_go_on turn m old all new candidates ready entered is =
      λ addr. ap (λ (cs : List Chosen). choice_at cs addr) is ∙ left_choices turn addr old all candidates ready entered
      ∙ ap (λ (t : ChoiceTurn). choice_after t (choice_at old addr)) (is_told turn m addr)

-- ---- the judge

module _ (site : Site) (entry : Entry) (past : List Told) (judge : LocalJudge) (tells : Tells judge (site_shown site) past) where
  abbrev event_calm : Bool
  event_calm = goes_on judge.up (index_at (site_shown site)) entry.event

  abbrev calm_then : Bool
  calm_then = is_calm (site_shown site) (entry_shown entry) past

  is_calm_so : event_calm ≡ calm_then
  is_calm_so = ap (λ (up : Bool). goes_on up (index_at (site_shown site)) entry.event) tells.up

  abbrev told_by : Bool → ProbeTimes → Ip4 → ChoiceTurn
  told_by calm times addr = turn_for calm (site_shown site) addr (entry_shown entry) times

  choice_so : (calm : Bool) → calm ≡ calm_then → (addr : Ip4) → FitsIp4 addr
      → choice_after (told_by calm (times_of judge.probed addr) addr) (choice_at judge.chosen.items addr)
      ≡ choice_in (site_shown site) addr (entry_shown entry ∷ past)
  choice_so calm so addr fits =
      ap (λ (b : Bool). choice_after (told_by b (times_of judge.probed addr) addr) (choice_at judge.chosen.items addr)) so
      ∙ ap (λ (t : ProbeTimes). choice_after (told_by calm_then t addr) (choice_at judge.chosen.items addr)) (tells.probed addr fits)
      ∙ ap (λ (c : Option Choice). choice_after (choice_turn (site_shown site) addr (entry_shown entry) past) c) (tells.chosen addr fits)

  pub tells_on : (next : LocalJudge) (calm : Bool) → calm ≡ event_calm → next.up ≡ carrier_after (index_at (site_shown site)) entry.event judge.up
      → ChoicesGoOn site entry calm judge.probed judge.chosen.items next.chosen.items → IsTurned site entry calm judge.probed next.probed
      → Tells next (site_shown site) (entry_shown entry ∷ past)
  tells_on next calm so up chosen turned = record {
    up = up ∙ ap (carrier_after (index_at (site_shown site)) entry.event) tells.up;
    probed = holds_on (is_calm (site_shown site)) site entry past judge.probed next.probed tells.probed
        (subst (λ (b : Bool). IsTurned site entry b judge.probed next.probed) (so ∙ is_calm_so) turned);
    chosen = λ addr fits. chosen addr ∙ choice_so calm (so ∙ is_calm_so) addr fits;
  }
