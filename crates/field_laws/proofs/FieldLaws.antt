-- The laws of fields that are made of others.
use Rattle.std.proofs.Common.{◌≡◌, ℕ, Bool, List, subst, sym}
use Rattle.net_types.specs.Marks.{Lacks}
use Rattle.net_types.proofs.MarkLaws.{lacks-append}
use Rattle.net_types.proofs.ReadsLaws.{guard_reads, map_reads, pair_reads, word_reads}
use Rattle.field_laws.specs.Fields.{Field, IsField, IsMaking, LacksBlank, making, parted, passing, worded}

pub parted_is : {X Y : Type 0} {first : Field X} {second : Field Y} → IsField first → LacksBlank first → IsField second
    → IsField (parted first second)
parted_is {first = first} {second = second} is free later = record {
  reads = pair_reads 32 is.reads later.reads free;
  no_feed = λ p fits. lacks-append 10 (first.text p.0) _ (is.no_feed p.0 fits.0) (later.no_feed p.1 fits.1);
}

pub worded_is : {X : Type 0} {field : Field X} (word : List ℕ) → Lacks 10 word → IsField field → IsField (worded word field)
worded_is {field = field} word free is = record {
  reads = word_reads word is.reads;
  no_feed = λ x fits. lacks-append 10 word (field.text x) free (is.no_feed x fits);
}

pub passing_is : {X : Type 0} {field : Field X} (test : X → Bool) → IsField field → IsField (passing test field)
passing_is test is = record { reads = guard_reads test is.reads; no_feed = λ x fits. is.no_feed x fits.0 }

pub making_is : {X Y : Type 0} {field : Field X} (make : X → Y) (told : Y → X) → IsMaking make told → IsField field
    → IsField (making make told field)
making_is {field = field} make told both is = record {
  reads = map_reads make told is.reads (λ x fits. both.back x) (λ y fits. both.there y)
      (λ x fits. subst field.Fits (sym (both.back x)) fits) (λ y fits. fits);
  no_feed = λ y fits. is.no_feed (told y) fits;
}
