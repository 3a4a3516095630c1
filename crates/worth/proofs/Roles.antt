-- The steps of a quarter-hour's figures: the role, and the figures put together. Assumes nothing.
use mathlib.Core.Path.{◌≡◌, ap, ◌∙◌}
use mathlib.Core.Bool.{Bool, true, cond}
use Rattle.quantity.specs.declared.Grains.{Grains}
use Rattle.quantity.specs.Quantity.{grains}
use Rattle.quarter.specs.declared.Role.{Role}
use Rattle.quarter.specs.declared.Role.TheVariants.{Active, SemiActive}
use Rattle.quarter.specs.declared.Metered.{Metered}
use Rattle.quarter.specs.declared.Shares.{Shares}
use Rattle.quarter.specs.declared.Tariffs.{Tariffs}
use Rattle.quarter.specs.declared.Amounts.{Amounts}
use Rattle.quarter.specs.Reading.{absolute, classified, valued}
use Rattle.point_record.specs.declared.Point.{Point}
use Rattle.worth.specs.Worth.{role_of, put, shares_of, worth_held}

-- the role of a point whose role bit is 1
pub semi_active_lem : (bit : Bool) (b c : Grains) → bit ≡ true → b ≡ c → SemiActive b ≡ cond bit (SemiActive c) Active
semi_active_lem bit b c h e = rw (h, e)

-- the figures put together from the energy, the shares and the amounts
pub put_made : (p : Point) (t : Tariffs) (m : Metered) (w : Grains) (r : Role) (s : Shares) (a : Amounts) → w ≡ grains (absolute m) → r ≡ role_of p
    → s ≡ classified r p.level m → a ≡ valued s t → put w.0 s a ≡ worth_held p t m
unfolding worth_held
put_made p t m w r s a ew er es ea =
    let f : s ≡ shares_of p m = es ∙ ap (λ (q : Role). classified q p.level m) er in
    let b : a ≡ valued (shares_of p m) t = ea ∙ ap (λ (q : Shares). valued q t) f in
    λ i. put (ew i).0 (f i) (b i)
