-- Every starred case holds: the table is worked out.
-- Assumes nothing.
use mathlib.Core.Path.{refl}
use Rattle.rules.specs.Digits.{value, digits, base2b}
use Rattle.rules.specs.Places.{words, address}
use Rattle.rules.specs.Chains.{steps, own_digits, checksum, chain_digits}
use Rattle.rules.specs.Digest.{last_bits, pointed}
use Rattle.rules.specs.Sets.{rows, find, row_of}
use Rattle.rules.specs.Starred.{table, Agree}

pub starred : Agree table
unfolding
    table value digits base2b words address steps own_digits checksum chain_digits rows find row_of last_bits pointed
starred = (
  refl,
  (
    refl,
    (
      refl,
      (
        refl,
        (
          refl,
          (
            refl,
            (
              refl,
              (
                refl,
                (
                  refl,
                  (
                    refl,
                    (
                      refl,
                      (
                        refl,
                        (
                          refl,
                          (
                            refl,
                            (
                              refl,
                              (
                                refl,
                                (refl, (refl, tt)),
                              ),
                            ),
                          ),
                        ),
                      ),
                    ),
                  ),
                ),
              ),
            ),
          ),
        ),
      ),
    ),
  ),
)
