use Rattle.std.proofs.Common.{refl, lit≤}
use Rattle.progress.specs.OneLife.{OneLifeGoesWell}

-- Each premise of the life that is written out, by computing.

pub one_life_goes_well : OneLifeGoesWell
one_life_goes_well = record {
  arms = refl;
  prompt = (
    record { onward = lit≤ tt; in_time = tt },
    (
      record { onward = lit≤ tt; in_time = lit≤ tt },
      (
        record { onward = lit≤ tt; in_time = lit≤ tt },
        (
          record { onward = lit≤ tt; in_time = lit≤ tt },
          (
            record { onward = lit≤ tt; in_time = lit≤ tt },
            (
              record { onward = lit≤ tt; in_time = lit≤ tt },
              (record { onward = lit≤ tt; in_time = lit≤ tt }, (record { onward = lit≤ tt; in_time = lit≤ tt }, tt)),
            ),
          ),
        ),
      ),
    ),
  );
  fair = (
    record { taken = tt; up = tt; alone = tt },
    (
      record { taken = tt; up = tt; alone = tt },
      (
        record { taken = tt; up = tt; alone = tt },
        (
          record { taken = tt; up = tt; alone = tt },
          (
            record { taken = tt; up = tt; alone = refl },
            (
              record { taken = tt; up = tt; alone = tt },
              (record { taken = tt; up = tt; alone = tt }, (record { taken = tt; up = tt; alone = tt }, tt)),
            ),
          ),
        ),
      ),
    ),
  );
  past_end = lit≤ tt;
}
