-- A text is one transcript: its lines tell its configuration, its interfaces and its lives.
use Rattle.std.proofs.Common.{◌≡◌, ℕ, ◌+◌, true, false, List, [], ◌∷◌, ◌++◌, map, flat_map, Ok, refl, sym, ap, ◌∙◌, subst, append_assoc, IsTrue}
use Rattle.std.specs.List.{AllByRecursion}
use Rattle.std.proofs.lemmas.List.{append-nil}
use Rattle.net_types.specs.declared.interface.IfSpec.{IfSpec}
use Rattle.net_types.specs.TextLines as Texts
use Rattle.net_types.specs.TextLines.{AreLines, front_in, lines_text}
use Rattle.net_types.proofs.FirstBadLaws.{goes_on}
use Rattle.net_types.proofs.ReadsLaws.{some_same}
use Rattle.world.specs.declared.wakes.Begin.{Begin}
use Rattle.conf_text.specs.Configurations.{Configuration, IsConfOf}
use Rattle.conf_text.specs.Laws.{ConfigurationIsOne}
use Rattle.script_model.specs.Lines.{Line}
use Rattle.script_model.specs.Lines as Model
use Rattle.script_model.specs.Spellings.{AreSpelled}
use Rattle.replay_text.proofs.ReadScripts.{first_begin}
use Rattle.transcript_lines.specs.LineSpellings.{IsTold, LinesAreRead}
use Rattle.transcript_lines.specs.Roles.{role_of}
use Rattle.transcript_model.specs.LifeShapes.{AllFollow, FitsLife, Follows, follows}
use Rattle.transcript_model.specs.Told.{BodyTold, LifeTold, Told, TurnTold, body_lines, lines_within, lives_lines, turn_lines}
use Rattle.transcript_model.specs.Transcripts.{SpellsBody, SpellsTold}
use Rattle.transcript_read.specs.Heads.{SpellsConfigured, conf_words, notice_words}
use Rattle.transcript_read.specs.Whole.{TranscriptsAreOne}
use Rattle.transcript_read.proofs.BreakLaws.{no_front}
use Rattle.transcript_read.proofs.HeadLaws.{cancel}
use Rattle.transcript_read.proofs.InnerLaws.{is_inner}
use Rattle.transcript_read.proofs.LifeLaws.{told_good}
use Rattle.transcript_read.proofs.TranscriptLaws.{Goes, conf_goes, conf_or, no_conf, told_configured}
use Rattle.transcript_read.proofs.WalkLaws.{Kind, OfEnd, OfInterface, OfLife, OfOther, OfStart, OfTurn, Parts, kind_of, led_by, parted}

-- ---- a text has its lines

same_texts : (one other : List Texts.Line) → AreLines one → AreLines other → lines_text one ≡ lines_text other → one ≡ other
same_texts one other first second e =
    let g = goes_on one other [] first second (sym e ∙ sym (append-nil (lines_text one))) in
    let none = no_front g.more g.are (ap front_in (sym g.text)) in
    sym (g.whole ∙ ap (λ ls. one ++ ls) none ∙ append-nil one)

same_told : LinesAreRead → (texts : List Texts.Line) (one other : List Line) → AreSpelled IsTold texts one → AreSpelled IsTold texts other → one ≡ other
same_told law [] [] [] first second = refl
same_told law [] (a ∷ one) other first second = absurd first
same_told law [] [] (b ∷ other) first second = absurd second
same_told law (text ∷ texts) [] other first second = absurd first
same_told law (text ∷ texts) (a ∷ one) [] first second = absurd second
same_told law (text ∷ texts) (a ∷ one) (b ∷ other) first second =
    let here : a ≡ b = some_same (sym (law.whole text a first.0) ∙ law.whole text b second.0) in
    ap (λ l. l ∷ one) here ∙ ap (λ ls. b ∷ ls) (same_told law texts one other first.1 second.1)

-- ---- lines tell a life

follows_led : (line : Line) (parts : Parts) → Kind line → Follows line → led_by line parts ≡ record { opening = line ∷ parts.opening; turns = parts.turns }
follows_led line parts (OfInterface spec is) fits = let never : false ≡ true = sym (ap (λ l. follows (role_of l)) is) ∙ fits in cc
follows_led line parts (OfLife number is) fits = let never : false ≡ true = sym (ap (λ l. follows (role_of l)) is) ∙ fits in cc
follows_led line parts (OfStart begin is) fits = let never : false ≡ true = sym (ap (λ l. follows (role_of l)) is) ∙ fits in cc
follows_led line parts (OfEnd is) fits = let never : false ≡ true = sym (ap (λ l. follows (role_of l)) is) ∙ fits in cc
follows_led line parts (OfTurn at salt event bytes is plain) fits = let never : false ≡ true = sym (ap (λ l. follows (role_of l)) is) ∙ fits in cc
follows_led line parts (OfOther plain leads follow) fits = leads parts

abbrev parts_of : List Line → List TurnTold → Parts
parts_of opening turns = record { opening = opening; turns = turns }

open_parted : (opening : List Line) (turns : List TurnTold) → AllFollow opening → parted (flat_map turn_lines turns) ≡ parts_of [] turns
    → parted (opening ++ flat_map turn_lines turns) ≡ parts_of opening turns
open_parted [] turns fits later = later
open_parted (line ∷ opening) turns fits later =
    ap (led_by line) (open_parted opening turns fits.1 later) ∙ follows_led line (parts_of opening turns) (kind_of line) fits.0

turns_parted : (turns : List TurnTold) → AllByRecursion (λ turn. AllFollow turn.lines) turns → parted (flat_map turn_lines turns) ≡ parts_of [] turns
turns_parted [] fits = refl
turns_parted (turn ∷ turns) fits =
    ap (led_by (Model.Turn turn.at turn.salt turn.event turn.bytes)) (open_parted turn.lines turns fits.0 (turns_parted turns fits.1))

life_parted : (life : LifeTold) → FitsLife life → parted (lines_within life) ≡ parts_of life.opening life.turns
life_parted life fits = open_parted life.opening life.turns fits.opening (turns_parted life.turns fits.turns)

abbrev life_with : Begin → Parts → LifeTold
life_with begin parts = record { begin = begin; opening = parts.opening; turns = parts.turns }

same_life : (one other : LifeTold) → FitsLife one → FitsLife other → one.begin ≡ other.begin → lines_within one ≡ lines_within other → one ≡ other
same_life one other first second begin lines =
    let parts : parts_of one.opening one.turns ≡ parts_of other.opening other.turns =
    sym (life_parted one first) ∙ ap parted lines ∙ life_parted other second in
    ap (life_with one.begin) parts ∙ ap (λ b. life_with b (parts_of other.opening other.turns)) begin

-- ---- lives, one after another

abbrev first_of : List Line → Line
first_of [] = Model.Head
first_of (line ∷ lines) = line

abbrev later_of : List Line → List Line
later_of [] = []
later_of (line ∷ lines) = lines

abbrev begin_in : Line → Begin
begin_in (Model.Start begin) = begin
begin_in _ = first_begin

abbrev AreInner : List Line → Type 0
AreInner lines = AllByRecursion (λ line. IsTrue (is_inner (role_of line))) lines

cut_end : (xs ys r s : List Line) → AreInner xs → AreInner ys → xs ++ Model.EndOfLife ∷ r ≡ ys ++ Model.EndOfLife ∷ s → (xs ≡ ys) × (r ≡ s)
cut_end [] [] r s first second e = (refl, ap later_of e)
cut_end [] (y ∷ ys) r s first second e =
    let never : false ≡ true = ap (λ ls. is_inner (role_of (first_of ls))) e ∙ second.0 in cc
cut_end (x ∷ xs) [] r s first second e =
    let never : false ≡ true = sym (ap (λ ls. is_inner (role_of (first_of ls))) e) ∙ first.0 in cc
cut_end (x ∷ xs) (y ∷ ys) r s first second e =
    let here : x ≡ y = ap first_of e in
    let next = cut_end xs ys r s first.1 second.1 (ap later_of e) in
    (ap (λ l. l ∷ xs) here ∙ ap (λ ls. y ∷ ls) next.0, next.1)

same_lives : (number : ℕ) (one other : List LifeTold) → AllByRecursion FitsLife one → AllByRecursion FitsLife other
    → lives_lines number one ≡ lives_lines number other → one ≡ other
same_lives number [] [] first second e = refl
same_lives number [] (b ∷ other) first second e = cc
same_lives number (a ∷ one) [] first second e = cc
same_lives number (a ∷ one) (b ∷ other) first second e =
    let begin : a.begin ≡ b.begin = ap (λ ls. begin_in (first_of (later_of ls))) e in
    let within = ap (λ ls. later_of (later_of ls)) e in
    let r = lives_lines (number + 1) one in
    let s = lives_lines (number + 1) other in
    let joined : lines_within a ++ Model.EndOfLife ∷ r ≡ lines_within b ++ Model.EndOfLife ∷ s =
    sym (append_assoc (lines_within a) (Model.EndOfLife ∷ []) r) ∙ within ∙ append_assoc (lines_within b) (Model.EndOfLife ∷ []) s in
    let parts = cut_end (lines_within a) (lines_within b) r s (told_good a number first.0).inner (told_good b number second.0).inner joined in
    ap (λ l. l ∷ one) (same_life a b first.0 second.0 begin parts.0)
    ∙ ap (λ ls. b ∷ ls) (same_lives (number + 1) one other first.1 second.1 parts.1)

-- ---- interfaces

abbrev NoInterface : List Line → Type 0
NoInterface lines = (spec : IfSpec) (later : List Line) → lines ≡ Model.Interface spec ∷ later → ⊥

no_interface : (lives : List LifeTold) → NoInterface (lives_lines 1 lives)
no_interface [] spec later e = cc
no_interface (life ∷ lives) spec later e = let never : Model.Life 1 ≡ Model.Interface spec = ap first_of e in cc

abbrev spec_in : IfSpec → Line → IfSpec
spec_in default (Model.Interface spec) = spec
spec_in default _ = default

same_ifaces : (one other : List IfSpec) (a b : List Line) → NoInterface a → NoInterface b → map Model.Interface one ++ a ≡ map Model.Interface other ++ b
    → (one ≡ other) × (a ≡ b)
same_ifaces [] [] a b first second e = (refl, e)
same_ifaces [] (spec ∷ other) a b first second e = absurd (first spec (map Model.Interface other ++ b) e)
same_ifaces (spec ∷ one) [] a b first second e = absurd (second spec (map Model.Interface one ++ a) (sym e))
same_ifaces (x ∷ one) (y ∷ other) a b first second e =
    let here : x ≡ y = ap (λ ls. spec_in x (first_of ls)) e in
    let next = same_ifaces one other a b first second (ap later_of e) in
    (ap (λ s. s ∷ one) here ∙ ap (λ ss. y ∷ ss) next.0, next.1)

abbrev body_with : List IfSpec → List LifeTold → BodyTold
body_with ifaces lives = record { ifaces = ifaces; lives = lives }

same_body : LinesAreRead → (lines : List Texts.Line) (one other : BodyTold) → SpellsBody one lines → SpellsBody other lines → one ≡ other
same_body law lines one other first second =
    let e = same_told law lines (body_lines one) (body_lines other) first.spelled second.spelled in
    let parts =
    same_ifaces one.ifaces other.ifaces (lives_lines 1 one.lives) (lives_lines 1 other.lives) (no_interface one.lives) (no_interface other.lives) e in
    let lives = same_lives 1 one.lives other.lives first.fits.lives second.fits.lives parts.1 in
    ap (λ ifaces. body_with ifaces one.lives) parts.0 ∙ ap (body_with other.ifaces) lives

-- ---- all of it

abbrev told_with : List Texts.Line → Configuration → BodyTold → Told
told_with conf configuration body = record { conf = conf; configuration = configuration; body = body }

same_configured : LinesAreRead → ConfigurationIsOne → (lines : List Texts.Line) (one other : Told) (first : SpellsConfigured one lines)
    (second : SpellsConfigured other lines) → (goes : Goes one.conf other.conf first.others second.others) (later : List Texts.Line) → goes.later ≡ later
    → one ≡ other
same_configured law unique lines one other first second goes (line ∷ later) some =
    let here = goes.rest ∙ ap (λ ls. map conf_words ls ++ second.others) some in
    absurd (no_conf law one.configuration.notices one.body first.others first.noticed line (map conf_words later ++ second.others) here)
same_configured law unique lines one other first second goes [] none =
    let conf : other.conf ≡ one.conf = goes.whole ∙ ap (λ ls. one.conf ++ ls) none ∙ append-nil one.conf in
    let others : first.others ≡ second.others = goes.rest ∙ ap (λ ls. map conf_words ls ++ second.others) none in
    let configured : IsConfOf (lines_text one.conf) (Ok other.configuration) =
    subst (λ ls. IsConfOf (lines_text ls) (Ok other.configuration)) conf second.configured in
    let both : one.configuration ≡ other.configuration =
    ap (conf_or one.configuration) (unique (lines_text one.conf) (Ok one.configuration) (Ok other.configuration) first.configured configured) in
    let notices : List Texts.Line = map notice_words one.configuration.notices in
    let same : notices ++ first.noticed.others ≡ notices ++ second.noticed.others =
    sym first.noticed.are ∙ others ∙ second.noticed.are
    ∙ ap (λ (c : Configuration). map notice_words c.notices ++ second.noticed.others) (sym both) in
    let rest = cancel notices first.noticed.others second.noticed.others same in
    let body = same_body law second.noticed.others one.body other.body (subst (SpellsBody one.body) rest first.noticed.spells) second.noticed.spells in
    ap (λ ls. told_with ls one.configuration one.body) (sym conf)
    ∙ ap (λ c. told_with other.conf c one.body) both
    ∙ ap (told_with other.conf other.configuration) body

abbrev first_text : List Texts.Line → Texts.Line
first_text [] = []
first_text (line ∷ lines) = line

same_whole_lines : LinesAreRead → ConfigurationIsOne → (one other : Told) (lines : List Texts.Line) → SpellsTold one lines → SpellsTold other lines
    → one ≡ other
same_whole_lines law unique one other [] first second = let never = first.are in cc
same_whole_lines law unique one other (line ∷ more) first second =
    let head = ap first_text first.are in
    let these = told_configured one more (subst (λ l. SpellsTold one (l ∷ more)) head first) in
    let those = told_configured other more (subst (λ l. SpellsTold other (l ∷ more)) head second) in
    let goes =
    conf_goes one.conf other.conf these.others those.others (no_conf law other.configuration.notices other.body those.others those.noticed)
    (sym these.are ∙ those.are) in
    same_configured law unique more one other these those goes goes.later refl

pub transcripts_one : LinesAreRead → ConfigurationIsOne → TranscriptsAreOne
transcripts_one law unique text one other first second =
    let lines = same_texts first.lines second.lines first.spells.each second.spells.each (sym first.text_is ∙ second.text_is) in
    same_whole_lines law unique one other first.lines first.spells (subst (SpellsTold other) (sym lines) second.spells)
