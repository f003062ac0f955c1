use Rattle.std.proofs.Common.{length}
use Rattle.life_asks.proofs.sends.+offer_all.Given as goal

abbrev pub decreases-offer_all : goal.decreases-offer_all
decreases-offer_all g l = length l.sends.now
