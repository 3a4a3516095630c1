-- What a quarter-hour is worth to its point: document 01, "One quarter-hour", at tariffs that are given. Assumes nothing.
use Rattle.std.specs.Prelude.{ℕ, cond}
use Rattle.quantity.specs.Quantity.{grains}
use Rattle.quarter.specs.declared.Role.{Role}
use Rattle.quarter.specs.declared.Role.TheVariants.{Active, SemiActive}
use Rattle.quarter.specs.declared.Metered.{Metered}
use Rattle.quarter.specs.declared.Shares.{Shares}
use Rattle.quarter.specs.declared.Tariffs.{Tariffs}
use Rattle.quarter.specs.declared.Amounts.{Amounts}
use Rattle.quarter.specs.Reading.{absolute, band, classified, credit_of, debit_of, amounts, valued}
use Rattle.point_record.specs.declared.Point.{Point}
use Rattle.point_record.specs.Point.{counted}
use Rattle.worth.specs.declared.Figures.{Figures}

-- "role 1 bit (0 active, 1 semi-active)"; "The band B, in grains, is the sum of uk times Sn over the transformers"
abbrev pub role_of : Point → Role
role_of p = cond p.semi_active (SemiActive (grains (band (counted p)))) Active

-- "absolute, paid, free, billed, allowance, disconnected, credit, debit"
abbrev pub put : ℕ → Shares → Amounts → Figures
put w s a =
    record {
      absolute = grains w;
      paid = s.paid;
      free = s.free;
      billed = s.billed;
      allowance = s.allowance;
      disconnected = s.disconnected;
      credit = a.credit;
      debit = a.debit;
    }

-- the five shares of what was metered
abbrev pub shares_of : Point → Metered → Shares
shares_of p m = classified (role_of p) p.level m

-- "Absolute energy is |W| in grains." "Credit = paid times payment tariff. Debit = billed times (billing tariff + penalty)."
unfoldable pub worth : Point → Tariffs → Metered → Figures
worth p t m = put (absolute m) (shares_of p m) (amounts (credit_of (shares_of p m) t) (debit_of (shares_of p m) t))

-- the same, as far as 64 bits hold the amounts: within 01's ranges they hold all (`held` in proofs/Held.antt)
unfoldable pub worth_held : Point → Tariffs → Metered → Figures
worth_held p t m = put (absolute m) (shares_of p m) (valued (shares_of p m) t)
