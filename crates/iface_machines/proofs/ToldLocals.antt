-- A step of link-local, and what its interface takes over of it.
use Rattle.std.proofs.Common.{◌≡◌, ◌++◌, List, refl, sym, ap, ◌∙◌, append-nil}
use Rattle.std.specs.Prelude.{flat_map, map, option_to_list}
use Rattle.ipv4ll.specs.declared.link_local.LlNews.{LlNews}
use Rattle.ipv4ll.specs.declared.link_local.LlNews.TheVariants as local
use Rattle.ipv4ll.specs.Table.{LlStep}
use Rattle.client_model.specs.declared.interfaces.Iface.{Iface}
use Rattle.client_model.specs.declared.steps.News.{News}
use Rattle.client_model.specs.declared.steps.News.TheVariants.{Timeout, LocalGained, LocalLost}
use Rattle.client_model.specs.Clients.{spelled}
use Rattle.client_model.specs.Jobs.{Told, told_of}
use Rattle.client_model.specs.LocalSteps.{local_news, local_step}
use Rattle.client_model.specs.Messages.{Arp}
use Rattle.iface_machines.specs.Outcomes.{Asked, Goes, Offers, Tells, ask_in, local_told, spec_in}
use Rattle.iface_machines.proofs.Following.{hooks_of, reported}

local_news_told : (news : LlNews) (before after : Iface) → local_told news after ≡ flat_map (λ (n : News). told_of n before after) (local_news news)
local_news_told local.Nothing before after = refl
local_news_told local.Timeout before after = sym (append-nil (told_of Timeout before after))
local_news_told local.Gained before after = sym (append-nil (told_of LocalGained before after))
local_news_told (local.Lost addr) before after = sym (append-nil (told_of (LocalLost addr) before after))

pub goes_local : (old new : Iface) (step : LlStep) (before some after : Asked) → new ≡ record old { local = step.ll }
    → Offers (map (spelled (spec_in new) (ask_in new)) (map Arp (option_to_list step.out.arp))) before some
    → Tells (local_news step.out.news) (local_told step.out.news new) some after → Goes (local_step old step) new before after
goes_local old new step before some after is offers tells = record {
  goes_on = is;
  offers =
      tells.offers_no_more ∙ offers.offers
      ∙ (λ i. before.sends ++ map (spelled (spec_in (is i)) (ask_in (is i))) (map Arp (option_to_list step.out.arp)));
  tells =
      tells.tells ∙ (λ i. offers.tells_no_more i ++ local_news step.out.news)
      ∙ ap (λ (n : List News). before.news ++ n) (sym (reported old (record old { local = step.ll }) (local_news step.out.news)));
  hooks =
      tells.hooks ∙ (λ i. offers.hooks_no_more i ++ local_told step.out.news (is i))
      ∙ ap (λ (t : List Told). before.told ++ t)
      (local_news_told step.out.news old (record old { local = step.ll }) ∙ sym (hooks_of old (record old { local = step.ll }) (local_news step.out.news)));
}
