-- Source document 002 (Italian), "Tariffa di base fissa", under its own terms. Assumes nothing.
use Rattle.std.specs.Prelude.{ℕ, ◌+◌, cond}
use Rattle.quantity.specs.Fraction.{Fraction, ratio, whole, quotient, difference, is_at_most}

-- "la quota dell'energia prelevata con la somma dell'energia immessa e prelevata"
unfoldable pub quota : ℕ → ℕ → Fraction
quota prelevata immessa = ratio prelevata (immessa + prelevata)

-- "Il fattore K corrisponde a 0 fino a una quota di 0,2 di energia prelevata e a 1 a partire da una quota di 0,8; tra questi due
-- valori ha un andamento lineare"
unfoldable pub fattore_K : Fraction → Fraction
fattore_K q =
    cond (is_at_most q (ratio 2 10)) (whole 0)
    (cond (is_at_most (ratio 8 10) q) (whole 1) (quotient (difference q (ratio 2 10)) (difference (ratio 8 10) (ratio 2 10))))
