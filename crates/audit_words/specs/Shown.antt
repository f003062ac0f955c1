-- What an auditor holds of a life, in the words of the definitions.
use Rattle.std.specs.Prelude.{map}
use Rattle.std.specs.Option.{option_map}
use Rattle.lease_text.specs.Leases.{lease_content}
use Rattle.lease6_text.specs.Leases.{lease6_content}
use Rattle.evidence_words.specs.ClientModel.Fitting.{FitsBeginning}
use Rattle.evidence_words.specs.Entries as told
use Rattle.evidence_words.specs.Inputs as told_of
use Rattle.audit_words.specs.declared.shown.Entry.{Entry}
use Rattle.audit_words.specs.declared.shown.Offer.{Offer}
use Rattle.audit_words.specs.declared.shown.Site.{Site}

abbrev pub offer_shown : Offer → told.Offer
offer_shown offer = record { iface = offer.iface.number; bytes = offer.bytes.items; taken = offer.taken }

abbrev pub entry_shown : Entry → told.Entry
entry_shown entry = record {
  moment = entry.moment;
  event = entry.event;
  bytes = entry.bytes.items;
  offers = map offer_shown entry.offers.items;
}

abbrev pub site_shown : Site → told_of.Site
site_shown site = record {
  managed = site.managed;
  duid = site.duid.bytes.items;
  own = site.own.items;
  up = site.up;
  kept4 = option_map lease_content site.kept4;
  kept6 = option_map lease6_content site.kept6;
}

-- its settings, and the leases that were kept, are within the bounds of their texts
abbrev pub FitsSite : Site → Type 0
FitsSite site = FitsBeginning (record {
  managed = site.managed;
  duid = site.duid.bytes.items;
  kept4 = option_map lease_content site.kept4;
  kept6 = option_map lease6_content site.kept6;
})
