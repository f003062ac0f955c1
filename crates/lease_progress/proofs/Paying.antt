-- How it is shown that servers answered in time, a turn at a time.
use Rattle.std.proofs.Common.{◌≡◌, ℕ, ◌+◌, ◌<◌, ◌≤◌, Bool, true, false, ◌&&◌, ◌||◌, nat_le, List, [], ◌∷◌, ◌++◌, append_assoc, Some, refl, sym, ap, subst, ◌∙◌, arith}
use Rattle.std.specs.List.{list_any}
use Rattle.evidence_words.specs.Entries.{Entry}
use Rattle.evidence_words.specs.Inputs.{Site}
use Rattle.evidence_words.specs.IfaceLives.{now_in}
use Rattle.lease_evidence.specs.Exchanges.{Numbered, messages_at, seen_in}
use Rattle.lease_progress.specs.Serving.{Answered, AnsweredBy, Serves, asks, grants, offers, seeks}

module _ (site : Site) (answered : Answered) (wait : ℕ) where
  -- what was said in a turn was answered, where it was said long enough ago
  pub record Paid (now : ℕ) (later : List Entry) (e : Entry) (earlier : List Entry) : Type 0 where
    pub offered : (xid : ℕ) → e.moment + wait ≤ now → list_any (seeks xid) (messages_at site e) ≡ true → AnsweredBy (e.moment + wait) (offers site xid) later
    pub granted : (opened : Numbered) → e.moment + wait ≤ now → (seen_in site (e ∷ earlier)).current ≡ Some opened
        → list_any (asks answered opened.exchange.xid) (messages_at site e) ≡ true → AnsweredBy (e.moment + wait) (grants site opened.exchange) later

  -- so in each of some turns, before those of `front`
  abbrev pub AllPaid : (now : ℕ) → (front past : List Entry) → Type 0
  AllPaid now front past = (later : List Entry) (e : Entry) (earlier : List Entry) → past ≡ later ++ e ∷ earlier → Paid now (front ++ later) e earlier

  first_or : Entry → List Entry → Entry
  first_or default [] = default
  first_or default (e ∷ turns) = e

  others_of : List Entry → List Entry
  others_of [] = []
  others_of (e ∷ turns) = turns

  pub none_paid : (now : ℕ) (front : List Entry) → AllPaid now front []
  none_paid now front [] e earlier cut = absurd cc
  none_paid now front (x ∷ later) e earlier cut = absurd cc

  append_none : (turns : List Entry) → turns ++ [] ≡ turns
  append_none [] = refl
  append_none (x ∷ turns) = ap (λ (more : List Entry). x ∷ more) (append_none turns)

  pub one_paid : (now : ℕ) (front : List Entry) (x : Entry) (past : List Entry) → Paid now front x past → AllPaid now (front ++ x ∷ []) past
      → AllPaid now front (x ∷ past)
  unfolding first_or others_of
  one_paid now front x past this rest [] e earlier cut =
      subst (λ (later : List Entry). Paid now later e earlier) (sym (append_none front))
      (subst (λ (y : Entry). Paid now front y earlier) (ap (first_or x) cut) (subst (λ (before : List Entry). Paid now front x before) (ap others_of cut) this))
  one_paid now front x past this rest (y ∷ later) e earlier cut =
      subst (λ (turns : List Entry). Paid now turns e earlier)
      (append_assoc front (x ∷ []) later ∙ ap (λ (z : Entry). front ++ (z ∷ later)) (ap (first_or x) cut))
      (rest later e earlier (ap others_of cut))

  -- what says nothing owes nothing
  pub silent_paid : (now : ℕ) (front : List Entry) (e : Entry) (past : List Entry) → ((xid : ℕ) → list_any (seeks xid) (messages_at site e) ≡ false)
      → ((xid : ℕ) → list_any (asks answered xid) (messages_at site e) ≡ false) → Paid now front e past
  silent_paid now front e past none no_request = record {
    offered = λ xid old said. absurd (unlike (sym (none xid) ∙ said));
    granted = λ opened old is said. absurd (unlike (sym (no_request opened.exchange.xid) ∙ said));
  }
    where
      unlike : false ≡ true → ⊥
      unlike h = cc

  -- nor does what was said just now
  pub early_paid : (now : ℕ) (front : List Entry) (e : Entry) (past : List Entry) → now < e.moment + wait → Paid now front e past
  early_paid now front e past soon = record {
    offered = λ xid old said. absurd (both now (e.moment + wait) soon old);
    granted = λ opened old is said. absurd (both now (e.moment + wait) soon old);
  }
    where
      both : (now due : ℕ) → now < due → due ≤ now → ⊥
      both now due a b = omega (arith, a, b)

  pub all_serve : (past : List Entry) → AllPaid (now_in past) [] past → Serves site answered wait past
  all_serve past paid = record {
    offered = λ later e earlier xid cut. (paid later e earlier cut).offered xid;
    granted = λ later e earlier opened cut. (paid later e earlier cut).granted opened;
  }

  -- ---- turns after those that answered

  -- whenever it is asked
  abbrev pub ForGood : List Entry → Type 0
  ForGood past = (now : ℕ) (front : List Entry) → AllPaid now front past

  pub more_for_good : (e : Entry) (past : List Entry) → ((xid : ℕ) → list_any (seeks xid) (messages_at site e) ≡ false)
      → ((xid : ℕ) → list_any (asks answered xid) (messages_at site e) ≡ false) → ForGood past → ForGood (e ∷ past)
  more_for_good e past none no_request paid now front =
      one_paid now front e past (silent_paid now front e past none no_request) (paid now (front ++ e ∷ []))

  -- an answer is one, whatever turns come after it
  pub answers_stay : (end : ℕ) (good : Entry → Bool) (front later : List Entry) → AnsweredBy end good later → AnsweredBy end good (front ++ later)
  answers_stay end good [] later h = h
  answers_stay end good (x ∷ front) later h = either (nat_le x.moment end && good x) _ (answers_stay end good front later h)
    where
      either : (a b : Bool) → b ≡ true → (a || b) ≡ true
      either true b h = refl
      either false b h = h
