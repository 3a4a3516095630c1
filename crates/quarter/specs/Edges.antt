-- Document 01, "Edges, starred ones to be proved": one list, and the theorem that each of them is met.
-- Assumes nothing.
use Rattle.std.specs.Prelude.{ℕ, ◌≡◌, refl, Bool, true, false, ◌&&◌, List, [], ◌∷◌, eqb}
use Rattle.quantity.specs.Quantity.{grains}
use Rattle.voltages.specs.Voltages.{voltage}
use Rattle.quarter.specs.declared.Role.{Role}
use Rattle.quarter.specs.declared.Role.TheVariants.{Active, SemiActive}
use Rattle.quarter.specs.declared.Level.{Level}
use Rattle.quarter.specs.declared.Level.TheVariants.{Kv220, Kv380}
use Rattle.quarter.specs.declared.Metered.{Metered}
use Rattle.quarter.specs.declared.Shares.{Shares}
use Rattle.quarter.specs.Reading.{shares, band, absolute, active_supply, active_take, helps_by_supply, helps_by_take, semi_active, of_role}
use Rattle.quarter.specs.Reading.{exchanged, classified}

-- a quarter-hour of a point, and the shares that it must have
pub record Edge : Type 0 where
  pub role : Role
  pub level : Level
  pub metered : Metered
  pub shares : Shares

-- lamp, take, supply, U and S
abbrev pub quarter_hour : Bool → ℕ → ℕ → ℕ → ℕ → Metered
quarter_hour lamp t s actual set =
    record { lamp = lamp; take = t; supply = s; actual = voltage actual; set = voltage set }

-- paid, free, billed, allowance and disconnected, in grains
abbrev pub gives : Role → Level → Metered → ℕ → ℕ → ℕ → ℕ → ℕ → Edge
gives role level m p f b a d =
    record {
      role = role;
      level = level;
      metered = m;
      shares = shares (grains p) (grains f) (grains b) (grains a) (grains d);
    }

-- "Point 1 above": semi-active, "one transformer 1200, 1000"
abbrev pub point1 : Role
point1 = SemiActive (grains (band (record { uk = 1200; sn = 1000 } ∷ [])))

unfoldable pub edges : List Edge
edges =
    -- "Active, 220, S 22000, lamp 1, supply 1000: U 22099 paid*, 22100 free*, .. 22200 billed*."
    gives Active Kv220 (quarter_hour true 0 1000 22099 22000) 1600000 0 0 0 0
    ∷ gives Active Kv220 (quarter_hour true 0 1000 22100 22000) 0 1600000 0 0 0
    ∷ gives Active Kv220 (quarter_hour true 0 1000 22200 22000) 0 0 1600000 0 0
    -- "Take 1000: 21901 paid*, 21900 free*, .. 21800 billed*."
    ∷ gives Active Kv220 (quarter_hour true 1000 0 21901 22000) 1600000 0 0 0 0
    ∷ gives Active Kv220 (quarter_hour true 1000 0 21900 22000) 0 1600000 0 0 0
    ∷ gives Active Kv220 (quarter_hour true 1000 0 21800 22000) 0 0 1600000 0 0
    -- "Lamp 0: disconnected*."
    ∷ gives Active Kv220 (quarter_hour false 0 1000 22099 22000) 0 0 0 0 1600000
    ∷ gives Active Kv220 (quarter_hour false 1000 0 21800 22000) 0 0 0 0 1600000
    -- "S 50, U 0, take 10: paid*."
    ∷ gives Active Kv220 (quarter_hour true 10 0 0 50) 16000 0 0 0 0
    -- "Point 1 above, S 38500: take 750, U 38000 all free*"
    ∷ gives point1 Kv380 (quarter_hour false 750 0 38000 38500) 0 1200000 0 0 0
    -- "take 751, U 38199 billed 1 and allowance 750 kvarh*"
    ∷ gives point1 Kv380 (quarter_hour false 751 0 38199 38500) 0 0 1600 1200000 0
    -- "U 38200 all free*"
    ∷ gives point1 Kv380 (quarter_hour false 751 0 38200 38500) 0 1201600 0 0 0
    -- "supply 751, U 38199 paid 1*."
    ∷ gives point1 Kv380 (quarter_hour false 0 751 38199 38500) 1600 0 0 1200000 0
    -- "Take = supply: zero*."
    ∷ gives Active Kv220 (quarter_hour true 1000 1000 22200 22000) 0 0 0 0 0
    ∷ gives Active Kv220 (quarter_hour false 1000 1000 22200 22000) 0 0 0 0 0
    ∷ gives point1 Kv380 (quarter_hour false 751 751 38199 38500) 0 0 0 0 0
    ∷ []

-- the same shares
abbrev pub equal : Shares → Shares → Bool
equal x y =
    eqb x.paid.0 y.paid.0
    && eqb x.free.0 y.free.0
    && eqb x.billed.0 y.billed.0
    && eqb x.allowance.0 y.allowance.0
    && eqb x.disconnected.0 y.disconnected.0

unfoldable pub all_met : List Edge → Bool
all_met [] = true
all_met (e ∷ es) = equal (classified e.role e.level e.metered) e.shares && all_met es

pub edges_met : all_met edges ≡ true
unfolding edges all_met band absolute active_supply active_take helps_by_supply helps_by_take semi_active of_role exchanged classified
edges_met = refl
