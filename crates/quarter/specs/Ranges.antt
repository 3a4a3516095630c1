-- Document 01, "Month file": the ranges of tariffs and of what was metered. Assumes nothing.
use Rattle.std.specs.Prelude.{Bool, not, ◌&&◌, ◌||◌, leb, eqb}
use Rattle.quarter.specs.declared.Metered.{Metered}
use Rattle.quarter.specs.declared.Tariffs.{Tariffs}

-- "payment tariff, billing tariff, penalty 17 bits each (0 to 100,000; penalty 0 if semi-active)"
unfoldable pub tariffs_in_range : Bool → Tariffs → Bool
tariffs_in_range semi_active t =
    leb t.payment 100000
    && leb t.billing 100000
    && leb t.penalty 100000
    && (not semi_active || eqb t.penalty 0)

-- "take 20 and supply 20 (0 to 1,000,000 kvarh); actual voltage 16 and set voltage 16 (0 to 50,000)"
unfoldable pub metered_in_range : Metered → Bool
metered_in_range m =
    leb m.take 1000000
    && leb m.supply 1000000
    && leb m.actual.0 50000
    && leb m.set.0 50000
