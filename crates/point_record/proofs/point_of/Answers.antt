-- `point_record::point_of` meets its contract: each value is one that its field holds.
use native.Mathlib.Omega.{arith}
use lib.Dec.{eqb}
use lib.ListN.{get_or}
use Rattle.point_record.proofs.point_of.Goals as goal

pub overflow_cast-transformers : goal.overflow_cast-transformers
overflow_cast-transformers c = omega (arith, c.requires 2)

pub overflow_cast-payment : goal.overflow_cast-payment
overflow_cast-payment c = omega (arith, c.requires 3)

pub overflow_cast-billing : goal.overflow_cast-billing
overflow_cast-billing c = omega (arith, c.requires 4)

pub overflow_cast-penalty : goal.overflow_cast-penalty
overflow_cast-penalty c = omega (arith, c.requires 5)

pub place_of-requires : goal.place_of-requires
place_of-requires c = let f = c.requires in record { at_bound = omega arith; uk_fits = f 6; sn_fits = f 7 }

pub place_of-requires-2 : goal.place_of-requires-2
place_of-requires-2 c = let f = c.requires in record { at_bound = omega arith; uk_fits = f 8; sn_fits = f 9 }

pub place_of-requires-3 : goal.place_of-requires-3
place_of-requires-3 c = let f = c.requires in record { at_bound = omega arith; uk_fits = f 10; sn_fits = f 11 }

pub place_of-requires-4 : goal.place_of-requires-4
place_of-requires-4 c = let f = c.requires in record { at_bound = omega arith; uk_fits = f 12; sn_fits = f 13 }

pub returns : goal.returns
returns c =
    let vs = c.args.values in
    λ i.
    record {
      semi_active = eqb (get_or vs 0 0) 1;
      level = c.from.ensures i;
      transformers = get_or vs 2 0;
      tariffs = record { payment = get_or vs 3 0; billing = get_or vs 4 0; penalty = get_or vs 5 0 };
      first = c.place_of.ensures i;
      second = c.place_of-2.ensures i;
      third = c.place_of-3.ensures i;
      fourth = c.place_of-4.ensures i;
    }
