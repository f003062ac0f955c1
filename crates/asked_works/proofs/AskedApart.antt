-- Words ask for one thing.
use Rattle.std.proofs.Common.{ℕ, ◌≡◌, ◌⊎◌, false, true, List, [], ◌∷◌, codes, refl, sym, ap, ⊎_elim, ◌∙◌}
use Rattle.std.specs.Prelude.{bytes_eq}
use Rattle.net_types.specs.declared.address.Mac.{Mac}
use Rattle.net_types.specs.declared.interface.IfSpec.{IfSpec}
use Rattle.net_types.specs.declared.interface.Name.{Name}
use Rattle.live_words.specs.LiveWords.{AsksLive}
use Rattle.asked_works.specs.Words.{AskAudit, AskReplay, AskCheck, AskDump, AskImport, AskLab, AskLive, AskMake, AskWhy, AsksImport, AsksMake, AskWork}

first_word : List (List ℕ) → List ℕ
first_word [] = []
first_word (word ∷ words) = word

pub true_false : true ≡ false → ⊥
true_false e = cc

-- their first words differ
apart : (words : List (List ℕ)) (one other : List ℕ) → bytes_eq one one ≡ true → bytes_eq one other ≡ false → first_word words ≡ one → first_word words ≡ other
    → ⊥
apart words one other alike differ first second = true_false (sym alike ∙ ap (bytes_eq one) (sym first ∙ second) ∙ differ)

pub not_both : (words : List (List ℕ)) → AskReplay words → AskCheck words → ⊥
unfolding first_word
not_both words replay check = apart words (codes "replay") (codes "check") refl refl (ap first_word replay) (ap first_word check)

pub not_replay_live : (words : List (List ℕ)) → AskReplay words → AskLive words → ⊥
unfolding first_word
not_replay_live words replay live = apart words (codes "replay") (codes "live") refl refl (ap first_word replay) (ap first_word live.1.says)

pub not_check_live : (words : List (List ℕ)) → AskCheck words → AskLive words → ⊥
unfolding first_word
not_check_live words check live = apart words (codes "check") (codes "live") refl refl (ap first_word check) (ap first_word live.1.says)

pub not_replay_make : (words : List (List ℕ)) → AskReplay words → AskMake words → ⊥
unfolding first_word
not_replay_make words replay make = apart words (codes "replay") (codes "make") refl refl (ap first_word replay) (ap first_word make.1.says)

pub not_check_make : (words : List (List ℕ)) → AskCheck words → AskMake words → ⊥
unfolding first_word
not_check_make words check make = apart words (codes "check") (codes "make") refl refl (ap first_word check) (ap first_word make.1.says)

pub not_live_make : (words : List (List ℕ)) → AskLive words → AskMake words → ⊥
unfolding first_word
not_live_make words live make = apart words (codes "live") (codes "make") refl refl (ap first_word live.1.says) (ap first_word make.1.says)

pub not_replay_dump : (words : List (List ℕ)) → AskReplay words → AskDump words → ⊥
unfolding first_word
not_replay_dump words replay dump = apart words (codes "replay") (codes "dump") refl refl (ap first_word replay) (ap first_word dump)

pub not_check_dump : (words : List (List ℕ)) → AskCheck words → AskDump words → ⊥
unfolding first_word
not_check_dump words check dump = apart words (codes "check") (codes "dump") refl refl (ap first_word check) (ap first_word dump)

pub not_live_dump : (words : List (List ℕ)) → AskLive words → AskDump words → ⊥
unfolding first_word
not_live_dump words live dump = apart words (codes "live") (codes "dump") refl refl (ap first_word live.1.says) (ap first_word dump)

pub not_make_dump : (words : List (List ℕ)) → AskMake words → AskDump words → ⊥
unfolding first_word
not_make_dump words make dump = apart words (codes "make") (codes "dump") refl refl (ap first_word make.1.says) (ap first_word dump)

pub not_replay_import : (words : List (List ℕ)) → AskReplay words → AskImport words → ⊥
unfolding first_word
not_replay_import words replay import = apart words (codes "replay") (codes "import") refl refl (ap first_word replay) (ap first_word import.2.says)

pub not_check_import : (words : List (List ℕ)) → AskCheck words → AskImport words → ⊥
unfolding first_word
not_check_import words check import = apart words (codes "check") (codes "import") refl refl (ap first_word check) (ap first_word import.2.says)

pub not_live_import : (words : List (List ℕ)) → AskLive words → AskImport words → ⊥
unfolding first_word
not_live_import words live import = apart words (codes "live") (codes "import") refl refl (ap first_word live.1.says) (ap first_word import.2.says)

pub not_make_import : (words : List (List ℕ)) → AskMake words → AskImport words → ⊥
unfolding first_word
not_make_import words make import = apart words (codes "make") (codes "import") refl refl (ap first_word make.1.says) (ap first_word import.2.says)

pub not_dump_import : (words : List (List ℕ)) → AskDump words → AskImport words → ⊥
unfolding first_word
not_dump_import words dump import = apart words (codes "dump") (codes "import") refl refl (ap first_word dump) (ap first_word import.2.says)

pub not_replay_lab : (words : List (List ℕ)) → AskReplay words → AskLab words → ⊥
unfolding first_word
not_replay_lab words replay lab = apart words (codes "replay") (codes "lab") refl refl (ap first_word replay) (ap first_word lab)

pub not_check_lab : (words : List (List ℕ)) → AskCheck words → AskLab words → ⊥
unfolding first_word
not_check_lab words check lab = apart words (codes "check") (codes "lab") refl refl (ap first_word check) (ap first_word lab)

pub not_live_lab : (words : List (List ℕ)) → AskLive words → AskLab words → ⊥
unfolding first_word
not_live_lab words live lab = apart words (codes "live") (codes "lab") refl refl (ap first_word live.1.says) (ap first_word lab)

pub not_make_lab : (words : List (List ℕ)) → AskMake words → AskLab words → ⊥
unfolding first_word
not_make_lab words make lab = apart words (codes "make") (codes "lab") refl refl (ap first_word make.1.says) (ap first_word lab)

pub not_dump_lab : (words : List (List ℕ)) → AskDump words → AskLab words → ⊥
unfolding first_word
not_dump_lab words dump lab = apart words (codes "dump") (codes "lab") refl refl (ap first_word dump) (ap first_word lab)

pub not_import_lab : (words : List (List ℕ)) → AskImport words → AskLab words → ⊥
unfolding first_word
not_import_lab words import lab = apart words (codes "import") (codes "lab") refl refl (ap first_word import.2.says) (ap first_word lab)

pub not_replay_audit : (words : List (List ℕ)) → AskReplay words → AskAudit words → ⊥
unfolding first_word
not_replay_audit words replay audit = apart words (codes "replay") (codes "audit") refl refl (ap first_word replay) (ap first_word audit)

pub not_check_audit : (words : List (List ℕ)) → AskCheck words → AskAudit words → ⊥
unfolding first_word
not_check_audit words check audit = apart words (codes "check") (codes "audit") refl refl (ap first_word check) (ap first_word audit)

pub not_live_audit : (words : List (List ℕ)) → AskLive words → AskAudit words → ⊥
unfolding first_word
not_live_audit words live audit = apart words (codes "live") (codes "audit") refl refl (ap first_word live.1.says) (ap first_word audit)

pub not_make_audit : (words : List (List ℕ)) → AskMake words → AskAudit words → ⊥
unfolding first_word
not_make_audit words make audit = apart words (codes "make") (codes "audit") refl refl (ap first_word make.1.says) (ap first_word audit)

pub not_dump_audit : (words : List (List ℕ)) → AskDump words → AskAudit words → ⊥
unfolding first_word
not_dump_audit words dump audit = apart words (codes "dump") (codes "audit") refl refl (ap first_word dump) (ap first_word audit)

pub not_import_audit : (words : List (List ℕ)) → AskImport words → AskAudit words → ⊥
unfolding first_word
not_import_audit words import audit = apart words (codes "import") (codes "audit") refl refl (ap first_word import.2.says) (ap first_word audit)

pub not_lab_audit : (words : List (List ℕ)) → AskLab words → AskAudit words → ⊥
unfolding first_word
not_lab_audit words lab audit = apart words (codes "lab") (codes "audit") refl refl (ap first_word lab) (ap first_word audit)

pub not_replay_why : (words : List (List ℕ)) → AskReplay words → AskWhy words → ⊥
unfolding first_word
not_replay_why words replay why = apart words (codes "replay") (codes "audit") refl refl (ap first_word replay) (ap first_word why)

pub not_check_why : (words : List (List ℕ)) → AskCheck words → AskWhy words → ⊥
unfolding first_word
not_check_why words check why = apart words (codes "check") (codes "audit") refl refl (ap first_word check) (ap first_word why)

pub not_live_why : (words : List (List ℕ)) → AskLive words → AskWhy words → ⊥
unfolding first_word
not_live_why words live why = apart words (codes "live") (codes "audit") refl refl (ap first_word live.1.says) (ap first_word why)

pub not_make_why : (words : List (List ℕ)) → AskMake words → AskWhy words → ⊥
unfolding first_word
not_make_why words make why = apart words (codes "make") (codes "audit") refl refl (ap first_word make.1.says) (ap first_word why)

pub not_dump_why : (words : List (List ℕ)) → AskDump words → AskWhy words → ⊥
unfolding first_word
not_dump_why words dump why = apart words (codes "dump") (codes "audit") refl refl (ap first_word dump) (ap first_word why)

pub not_import_why : (words : List (List ℕ)) → AskImport words → AskWhy words → ⊥
unfolding first_word
not_import_why words import why = apart words (codes "import") (codes "audit") refl refl (ap first_word import.2.says) (ap first_word why)

pub not_lab_why : (words : List (List ℕ)) → AskLab words → AskWhy words → ⊥
unfolding first_word
not_lab_why words lab why = apart words (codes "lab") (codes "audit") refl refl (ap first_word lab) (ap first_word why)

-- one has a word more
pub not_audit_why : (words : List (List ℕ)) → AskAudit words → AskWhy words → ⊥
not_audit_why words audit why = let e = sym audit ∙ why in cc

-- No words ask for two works.
pub ruleset asked_apart = (
  not_both,
  not_replay_live,
  not_check_live,
  not_replay_make,
  not_check_make,
  not_live_make,
  not_replay_dump,
  not_check_dump,
  not_live_dump,
  not_make_dump,
  not_replay_import,
  not_check_import,
  not_live_import,
  not_make_import,
  not_dump_import,
  not_replay_lab,
  not_check_lab,
  not_live_lab,
  not_make_lab,
  not_dump_lab,
  not_import_lab,
  not_replay_audit,
  not_check_audit,
  not_live_audit,
  not_make_audit,
  not_dump_audit,
  not_import_audit,
  not_lab_audit,
  not_replay_why,
  not_check_why,
  not_live_why,
  not_make_why,
  not_dump_why,
  not_import_why,
  not_lab_why,
  not_audit_why,
)

-- words that ask for no work
pub none_asked : (words : List (List ℕ)) → (AskReplay words → ⊥) → (AskCheck words → ⊥) → (AskDump words → ⊥) → (AskLab words → ⊥)
    → (AskAudit words → ⊥) → (AskWhy words → ⊥)
    → ((rounds : ℕ) → AsksMake words rounds → ⊥)
    → ((name : Name) (mac : Mac) → AsksImport words name mac → ⊥) → ((specs : List IfSpec) → AsksLive words specs → ⊥) → AskWork words → ⊥
none_asked words replay check dump lab audit why make import live asks =
    let audits : AskLab words ⊎ (AskAudit words ⊎ AskWhy words) → ⊥ = ⊎_elim lab (⊎_elim audit why) in
    let imports_or_later : AskImport words ⊎ (AskLab words ⊎ (AskAudit words ⊎ AskWhy words)) → ⊥ =
    ⊎_elim (λ asked. import asked.0 asked.1 asked.2) audits in
    let imports : AskDump words ⊎ (AskImport words ⊎ (AskLab words ⊎ (AskAudit words ⊎ AskWhy words))) → ⊥ = ⊎_elim dump imports_or_later in
    let makes = ⊎_elim (λ asked. make asked.0 asked.1) imports in
    let lives = ⊎_elim (λ asked. live asked.0 asked.1) makes in
    ⊎_elim replay (⊎_elim check lives) asks
