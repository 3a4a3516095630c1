-- Document 01, "One quarter-hour", line by line: the five shares, credit and debit. Energies are in grains and voltages in
-- hundredths of a kilovolt. A signed difference stands here as a sum on the other side: U > S − T is S < U + T.
-- Assumes nothing.
use Rattle.std.specs.Prelude.{ℕ, ◌+◌, ◌-◌, ◌*◌, Bool, true, cond, ◌&&◌, List, [], ◌∷◌, ltb, leb, eqb}
use Rattle.quantity.specs.declared.Grains.{Grains}
use Rattle.quantity.specs.Quantity.{per_kvarh, grains, amount, capped}
use Rattle.quarter.specs.declared.Role.{Role}
use Rattle.quarter.specs.declared.Role.TheVariants.{Active, SemiActive}
use Rattle.quarter.specs.declared.Level.{Level}
use Rattle.quarter.specs.declared.Level.TheVariants.{Kv220, Kv380}
use Rattle.quarter.specs.declared.Transformer.{Transformer}
use Rattle.quarter.specs.declared.Class.{Class}
use Rattle.quarter.specs.declared.Class.TheVariants.{Paid, Free, Billed, Disconnected}
use Rattle.quarter.specs.declared.Metered.{Metered}
use Rattle.quarter.specs.declared.Shares.{Shares}
use Rattle.quarter.specs.declared.Tariffs.{Tariffs}
use Rattle.quarter.specs.declared.Amounts.{Amounts}

-- "W = take − supply." "Absolute energy is |W| in grains." One of the two differences is 0
unfoldable pub absolute : Metered → ℕ
absolute m = per_kvarh * (m.take - m.supply + (m.supply - m.take))

-- the five shares in 01's order
abbrev pub shares : Grains → Grains → Grains → Grains → Grains → Shares
shares p f b a d = record { paid = p; free = f; billed = b; allowance = a; disconnected = d }

abbrev pub none : Grains
none = grains 0

-- "Of the five shares .. those not named in a line are 0": an energy w of a class, beside an allowance a
abbrev pub filed : Class → Grains → Grains → Shares
filed Paid w a = shares w none none a none
filed Free w a = shares none w none a none
filed Billed w a = shares none none w a none
filed Disconnected w a = shares none none none a w

-- "Month file": "level 1 (0 is 220 kV, 1 is 380 kV)"
unfoldable pub level_of : ℕ → Level
level_of number = cond (eqb number 0) Kv220 Kv380

-- the bit that it is written as
abbrev pub level_bit : Level → ℕ
level_bit Kv220 = 0
level_bit Kv380 = 1

-- Active: "T = 100 (220 kV) or 200 (380 kV)"
abbrev pub tolerance : Level → ℕ
tolerance Kv220 = 100
tolerance Kv380 = 200

-- Active: "F = 100"
abbrev pub active_free : Level → ℕ
active_free Kv220 = 100
active_free Kv380 = 100

-- "W < 0: paid if U < S+T; free if S+T ≤ U < S+T+F; billed if U ≥ S+T+F."
unfoldable pub active_supply : Level → ℕ → ℕ → Class
active_supply l u s =
    cond (ltb u (s + tolerance l)) Paid
    (cond (ltb u (s + tolerance l + active_free l)) Free
    Billed)

-- "W > 0: paid if U > S−T; free if S−T−F < U ≤ S−T; billed if U ≤ S−T−F."
unfoldable pub active_take : Level → ℕ → ℕ → Class
active_take l u s =
    cond (ltb s (u + tolerance l)) Paid
    (cond (ltb s (u + tolerance l + active_free l)) Free
    Billed)

-- either, by the sign of W
abbrev pub active_class : Level → Metered → Class
active_class l m =
    cond (ltb m.take m.supply) (active_supply l m.actual.0 m.set.0) (active_take l m.actual.0 m.set.0)

-- Semi-active: "F = 200 or 300."
abbrev pub semi_active_free : Level → ℕ
semi_active_free Kv220 = 200
semi_active_free Kv380 = 300

-- "The band B, in grains, is the sum of uk times Sn over the transformers"
unfoldable pub band : List Transformer → ℕ
band [] = 0
band (t ∷ ts) = t.uk * t.sn + band ts

-- "|W| ≤ B: all free". "|W| > B and S−F ≤ U ≤ S+F: all free." "Otherwise B is allowance and |W|−B is paid .. or billed"
unfoldable pub semi_active : Level → ℕ → ℕ → ℕ → ℕ → Bool → Shares
semi_active l b w u s helping =
    cond (leb w b) (filed Free (grains w) none)
    (cond (leb s (u + semi_active_free l) && leb u (s + semi_active_free l)) (filed Free (grains w) none)
    (cond helping (filed Paid (grains (w - b)) (grains b))
    (filed Billed (grains (w - b)) (grains b))))

-- "paid (W < 0 and U < S−F, or W > 0 and U > S+F)"
unfoldable pub helps_by_supply : Level → ℕ → ℕ → Bool
helps_by_supply l u s = ltb (u + semi_active_free l) s

unfoldable pub helps_by_take : Level → ℕ → ℕ → Bool
helps_by_take l u s = ltb (s + semi_active_free l) u

-- either, by the sign of W
abbrev pub helps : Level → Metered → Bool
helps l m =
    cond (ltb m.take m.supply) (helps_by_supply l m.actual.0 m.set.0) (helps_by_take l m.actual.0 m.set.0)

-- the lines of each role
unfoldable pub of_role : Role → Level → Metered → Shares
of_role Active l m = filed (active_class l m) (grains (absolute m)) none
of_role (SemiActive b) l m = semi_active l b.0 (absolute m) m.actual.0 m.set.0 (helps l m)

-- Active: "Lamp 0: all of |W| is disconnected." Semi-active: "The lamp has no effect."
abbrev pub connected : Role → Bool → Bool
connected Active lamp = lamp
connected (SemiActive b) lamp = true

unfoldable pub exchanged : Role → Level → Metered → Shares
exchanged role l m = cond (connected role m.lamp) (of_role role l m) (filed Disconnected (grains (absolute m)) none)

-- "W = 0 gives all zero."
unfoldable pub classified : Role → Level → Metered → Shares
classified role l m = cond (eqb m.take m.supply) (shares none none none none none) (exchanged role l m)

-- "Credit = paid times payment tariff."
unfoldable pub credit_of : Shares → Tariffs → ℕ
credit_of s t = s.paid.0 * t.payment

-- "Debit = billed times (billing tariff + penalty)."
unfoldable pub debit_of : Shares → Tariffs → ℕ
debit_of s t = s.billed.0 * (t.billing + t.penalty)

abbrev pub amounts : ℕ → ℕ → Amounts
amounts c d = record { credit = amount c; debit = amount d }

-- both amounts, as far as 64 bits hold them: within 01's ranges they hold all (`exact` in proofs/Conservation.antt)
unfoldable pub valued : Shares → Tariffs → Amounts
valued s t = amounts (capped 64 (credit_of s t)) (capped 64 (debit_of s t))
