-- 02, Ticket 2: the high-side energy of a quarter-hour that was metered on the low-voltage side. Assumes nothing.
use Rattle.std.specs.Prelude.{ℕ, ◌*◌, Bool, cond, not, ◌&&◌, ◌||◌, [], ◌∷◌, leb, eqb, ℤ, pos, nat_abs, neg_ℤ}
use Rattle.std.specs.Int.Signed.{lt_z, le_z}
use Rattle.refusals.specs.Refusals.{first}
use Rattle.quantity.specs.Fraction.{Fraction, ratio, whole, product, sum, square, is_below, is_at_most, nearest}
use Rattle.transformer.specs.declared.LowSide.{LowSide}
use Rattle.transformer.specs.declared.DataSheet.{DataSheet}
use Rattle.transformer.specs.Greatest.{greatest}
use Rattle.transformer.specs.Surd.{with_root}
use Rattle.transformer.specs.Source.{PUS, QUS, SN, u_K, u_R, εCC², lost_energy, QOS}

-- "signed active and reactive energy (.. each −300,000 to 300,000)"
unfoldable pub energy_in_range : ℤ → Bool
energy_in_range e = le_z (neg_ℤ (pos 300000)) e && le_z e (pos 300000)

-- "Sn (0.1 MVA, 1 to 5,000), uk and i0 (0.01 %, 1 to 4,000 and 0 to 4,000), copper losses (kW, 0 to 4,000)"
unfoldable pub sheet_in_range : DataSheet → Bool
sheet_in_range t =
    leb 1 t.sn
    && leb t.sn 5000
    && leb 1 t.uk
    && leb t.uk 4000
    && leb t.i0 4000
    && leb t.copper 4000

unfoldable pub in_range : LowSide → DataSheet → Bool
in_range low t = energy_in_range low.active && energy_in_range low.reactive && sheet_in_range t

-- "uk is below uR"
unfoldable pub uk_below_U_R : DataSheet → Bool
uk_below_U_R t = is_below (u_K t) (u_R t)

-- "the apparent power exceeds twice Sn": its square, P² + Q², that of twice Sn
unfoldable pub overloaded : LowSide → DataSheet → Bool
overloaded low t = is_below (square (product (whole 2) (SN t))) (sum (square (PUS low)) (square (QUS low)))

-- "Turned away: 14 if a field is out of range, then 15 if uk is below uR or the apparent power exceeds twice Sn"
unfoldable pub number : LowSide → DataSheet → ℕ
number low t = first ((14, not (in_range low t)) ∷ (15, uk_below_U_R t || overloaded low t) ∷ [])

-- "millionths (1 % is 10,000 of them)"
abbrev pub millionths : ℕ → Fraction
millionths n = ratio n 1000000

-- "whose square does not exceed the square of uk less that of uR"
unfoldable pub passes : DataSheet → ℕ → Bool
passes t n = is_at_most (square (millionths n)) (εCC² t)

-- "The root is the greatest number of millionths whose square does not exceed .." A hundredth of a per cent is 100 millionths, and
-- no number above uk passes (`root_is_greatest`)
unfoldable pub root : DataSheet → ℕ
root t = greatest (passes t) (100 * t.uk)

-- "the loss rounded to the nearest kvarh, halves up"
unfoldable pub loss : LowSide → DataSheet → ℕ
loss low t = nearest (with_root (lost_energy low t) (millionths (root t)))

-- "The high-side energy is minus the low-side energy plus the loss"
unfoldable pub high_side : LowSide → DataSheet → ℤ
high_side low t = QOS low.reactive (loss low t)

-- "It becomes take if positive, else supply, of an ordinary entry": take and supply
unfoldable pub entered : ℤ → ℕ × ℕ
entered e = cond (lt_z (pos 0) e) (nat_abs e, 0) (0, nat_abs e)

-- number, take and supply; "both before an entry is made"
unfoldable pub converted : LowSide → DataSheet → ℕ × (ℕ × ℕ)
converted low t = (number low t, cond (eqb (number low t) 0) (entered (high_side low t)) (0, 0))
