-- Source document 001 (Italian), 4.1.1, the exact procedure, as it stands there and under its own symbols. Powers are in kW, kvar
-- and kVA, energies in kWh and kvarh, and what relates to a rated value is a fraction of it.
-- Assumes nothing.
use Rattle.std.specs.Prelude.{ℕ, ◌*◌, ℤ, pos, nat_abs, neg_ℤ, ◌+ℤ◌}
use Rattle.quantity.specs.Fraction.{Fraction, ratio, whole, sum, square, quotient, difference}
use Rattle.transformer.specs.declared.LowSide.{LowSide}
use Rattle.transformer.specs.declared.DataSheet.{DataSheet}
use Rattle.transformer.specs.Surd.{Surd, √, times, plus}

-- 2 (1): "P_US, Q_US: energia attiva e reattiva lato bassa tensione". (3): "moltiplicare i valori di potenza per 0,25 ore"; 02,
-- Ticket 2: "Power is energy times 4". The formulas have the squares of both alone, and so the sign is left out
unfoldable pub PUS : LowSide → Fraction
PUS low = whole (4 * nat_abs low.active)

unfoldable pub QUS : LowSide → Fraction
QUS low = whole (4 * nat_abs low.reactive)

-- "S_N: Potenza apparente nominale del trasformatore", of which 02's Sn has tenths of an MVA
unfoldable pub SN : DataSheet → Fraction
SN t = whole (100 * t.sn)

-- "P_Cu,N: Perdite di rame con corrente nominale"
unfoldable pub PCuN : DataSheet → Fraction
PCuN t = whole t.copper

-- "U_k: Tensione di corto circuito (in relazione alla tensione nominale)", of which 02's uk has hundredths of a per cent
unfoldable pub u_K : DataSheet → Fraction
u_K t = ratio t.uk 10000

-- "i_0: Corrente a vuoto (in relazione alla corrente nominale)", the same
unfoldable pub i0 : DataSheet → Fraction
i0 t = ratio t.i0 10000

-- (2): "u_R = P_Cu,N / S_N"
unfoldable pub u_R : DataSheet → Fraction
u_R t = quotient (PCuN t) (SN t)

-- (2): "ε_CC = √(u_K² − u_R²)"
unfoldable pub εCC² : DataSheet → Fraction
εCC² t = difference (square (u_K t)) (square (u_R t))

abbrev pub εCC : DataSheet → Surd
εCC t = √ (εCC² t)

-- (2)(b): "Q_V ≅ ((P_US² + Q_US²) / S_N² · ε_CC + i_0) · S_N"; (4)(a): "per ogni quarto d'ora in base allo stato operativo attuale
-- (P_US, Q_US)"
unfoldable pub QV : LowSide → DataSheet → Surd
QV low t =
    times (plus (times (εCC t) (quotient (sum (square (PUS low)) (square (QUS low))) (square (SN t)))) (i0 t)) (SN t)

-- (3): "Tutti i valori di potenza devono essere convertiti in valori di energia al quarto d'ora. A tal fine, bisogna moltiplicare
-- i valori di potenza per 0,25 ore"
unfoldable pub lost_energy : LowSide → DataSheet → Surd
lost_energy low t = times (QV low t) (ratio 25 100)

-- (1)(c): "Q_OS = −Q_US + Q_V", in kvarh
unfoldable pub QOS : ℤ → ℕ → ℤ
QOS low lost = neg_ℤ low +ℤ pos lost
