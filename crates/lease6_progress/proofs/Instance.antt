use Rattle.std.proofs.Common.{refl, lit≤, lit<}
use Rattle.std.proofs.lemmas.Bool.{false≢true}
use Rattle.v6_options.specs.OptionArea.{front_of, instances_in}
use Rattle.v6_client.specs.Runs.{carrier_turned, hears_turned, tick_turned}
use Rattle.lease6_progress.specs.OneLife.{OneLifeGoesWell, RapidLifeGoesWell, RenewedLifeGoesWell, ReboundLifeGoesWell}

-- Each premise of the lives that are written out, by computing.

pub one_life_goes_well : OneLifeGoesWell
unfolding front_of instances_in carrier_turned hears_turned tick_turned
one_life_goes_well = record {
  anew = refl;
  prompt = (
    record { onward = lit≤ tt; in_time = lit≤ tt },
    (
      record { onward = lit≤ tt; in_time = lit≤ tt },
      (
        record { onward = lit≤ tt; in_time = lit≤ tt },
        (
          record { onward = lit≤ tt; in_time = lit≤ tt },
          (
            record { onward = lit≤ tt; in_time = lit≤ tt },
            (
              record { onward = lit≤ tt; in_time = lit≤ tt },
              (record { onward = lit≤ tt; in_time = lit≤ tt }, tt),
            ),
          ),
        ),
      ),
    ),
  );
  fair = (
    record { stays = tt; serves = tt; gives = tt },
    (
      record { stays = tt; serves = λ h. lit≤ tt; gives = λ k h. refl },
      (
        record { stays = tt; serves = λ h. lit≤ tt; gives = tt },
        (
          record { stays = tt; serves = tt; gives = tt },
          (
            record { stays = tt; serves = tt; gives = λ k h. refl },
            (
              record { stays = tt; serves = λ h. lit≤ tt; gives = λ k h. refl },
              (record { stays = tt; serves = tt; gives = tt }, tt),
            ),
          ),
        ),
      ),
    ),
  );
  past_end = lit≤ tt;
}

pub rapid_life_goes_well : RapidLifeGoesWell
unfolding front_of instances_in carrier_turned hears_turned tick_turned
rapid_life_goes_well = record {
  anew = refl;
  prompt = (
    record { onward = lit≤ tt; in_time = lit≤ tt },
    (
      record { onward = lit≤ tt; in_time = lit≤ tt },
      (record { onward = lit≤ tt; in_time = lit≤ tt }, tt),
    ),
  );
  fair = (
    record { stays = tt; serves = tt; gives = tt },
    (
      record { stays = tt; serves = λ h. lit≤ tt; gives = λ k h. refl },
      (record { stays = tt; serves = tt; gives = tt }, tt),
    ),
  );
  replies = (tt, (refl, (tt, tt)));
  past_end = lit≤ tt;
}

pub renewed_life_goes_well : RenewedLifeGoesWell
unfolding front_of instances_in carrier_turned hears_turned tick_turned
renewed_life_goes_well = record {
  holds = record {
    bound = refl;
    lease = _;
    held = refl;
    lasts = record { t1_ahead = lit≤ tt; t2_ahead = lit≤ tt; renewed = lit< tt; valid = refl };
    settled = refl;
  };
  prompt = (
    record { onward = lit≤ tt; in_time = lit≤ tt },
    (
      record { onward = lit≤ tt; in_time = lit≤ tt },
      (
        record { onward = lit≤ tt; in_time = lit≤ tt },
        (
          record { onward = lit≤ tt; in_time = lit≤ tt },
          (
            record { onward = lit≤ tt; in_time = lit≤ tt },
            (
              record { onward = lit≤ tt; in_time = lit≤ tt },
              (
                record { onward = lit≤ tt; in_time = lit≤ tt },
                (
                  record { onward = lit≤ tt; in_time = lit≤ tt },
                  (record { onward = lit≤ tt; in_time = lit≤ tt }, tt),
                ),
              ),
            ),
          ),
        ),
      ),
    ),
  );
  fair = (
    record { stays = tt; serves = tt; gives = tt },
    (
      record { stays = tt; serves = λ h. lit≤ tt; gives = λ k h. refl },
      (
        record { stays = tt; serves = tt; gives = tt },
        (
          record { stays = tt; serves = λ h. lit≤ tt; gives = λ k h. refl },
          (
            record { stays = tt; serves = λ h. lit≤ tt; gives = tt },
            (
              record { stays = tt; serves = tt; gives = tt },
              (
                record { stays = tt; serves = tt; gives = λ k h. refl },
                (
                  record { stays = tt; serves = λ h. lit≤ tt; gives = λ k h. refl },
                  (record { stays = tt; serves = tt; gives = tt }, tt),
                ),
              ),
            ),
          ),
        ),
      ),
    ),
  );
  lasting = (
    record { undisturbed = tt; lasts = tt },
    (
      record {
        undisturbed = tt;
        lasts = λ k.
            record { t1_ahead = lit≤ tt; t2_ahead = lit≤ tt; renewed = lit< tt; valid = refl };
      },
      (record { undisturbed = tt; lasts = tt }, tt),
    ),
  );
}

pub rebound_life_goes_well : ReboundLifeGoesWell
unfolding front_of instances_in carrier_turned hears_turned tick_turned
rebound_life_goes_well = record {
  holds = record {
    bound = refl;
    lease = _;
    held = refl;
    lasts = record { t1_ahead = lit≤ tt; t2_ahead = lit≤ tt; renewed = tt; valid = refl };
    settled = refl;
  };
  prompt = (
    record { onward = lit≤ tt; in_time = lit≤ tt },
    (
      record { onward = lit≤ tt; in_time = lit≤ tt },
      (
        record { onward = lit≤ tt; in_time = lit≤ tt },
        (
          record { onward = lit≤ tt; in_time = lit≤ tt },
          (
            record { onward = lit≤ tt; in_time = lit≤ tt },
            (
              record { onward = lit≤ tt; in_time = lit≤ tt },
              (
                record { onward = lit≤ tt; in_time = lit≤ tt },
                (
                  record { onward = lit≤ tt; in_time = lit≤ tt },
                  (
                    record { onward = lit≤ tt; in_time = lit≤ tt },
                    (record { onward = lit≤ tt; in_time = lit≤ tt }, tt),
                  ),
                ),
              ),
            ),
          ),
        ),
      ),
    ),
  );
  fair = (
    record { stays = tt; serves = tt; gives = tt },
    (
      record { stays = tt; serves = λ h. lit≤ tt; gives = λ k h. refl },
      (
        record { stays = tt; serves = λ h. absurd (false≢true h); gives = tt },
        (
          record { stays = tt; serves = tt; gives = tt },
          (
            record { stays = tt; serves = λ h. absurd (false≢true h); gives = λ k h. refl },
            (
              record { stays = tt; serves = λ h. absurd (false≢true h); gives = tt },
              (
                record { stays = tt; serves = tt; gives = tt },
                (
                  record { stays = tt; serves = tt; gives = λ k h. refl },
                  (
                    record {
                      stays = tt;
                      serves = λ h. absurd
                          (false≢true h);
                      gives = λ k h. refl;
                    },
                    (record { stays = tt; serves = tt; gives = tt }, tt),
                  ),
                ),
              ),
            ),
          ),
        ),
      ),
    ),
  );
  lasting = (
    record { undisturbed = tt; lasts = tt },
    (
      record {
        undisturbed = tt;
        lasts = λ k.
            record { t1_ahead = lit≤ tt; t2_ahead = lit≤ tt; renewed = tt; valid = refl };
      },
      (
        record { undisturbed = tt; lasts = tt },
        (record { undisturbed = tt; lasts = tt }, tt),
      ),
    ),
  );
}
