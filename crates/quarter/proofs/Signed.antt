-- Tests of signed differences, as source document 004 writes them, are tests of sums, as the reading of document 01 has them.
-- Assumes nothing.
use Prim.Native.Nat.{ℕ, zero, suc, ◌+◌, ◌-◌, ◌*◌, ◌≤◌, ◌<◌, zero-le}
use mathlib.Core.Path.{◌≡◌, refl, sym, ap, ◌∙◌}
use mathlib.Core.Bool.{Bool, true, false, not}
use native.Mathlib.Omega.{arith}
use borrow.Author.Tests.{ltb-true, ltb-false, leb-true, leb-false, lt-ltb, le-ltb, le-leb, lt-leb}
use lib.Dec.{ltb, leb, leb-suc-suc}
use lib.IntN.{ℤ, pos, negsuc, nat_abs, sub_ℕ, neg_ℤ, ◌+ℤ◌, ◌-ℤ◌, +ℤ_assoc, neg_ℤ-+ℤ}
use lib.Signed.{lt_z, le_z}
use Rattle.quantity.specs.Quantity.{per_kvarh}
use Rattle.quarter.specs.declared.Metered.{Metered}
use Rattle.quarter.specs.Reading.{absolute}
use Rattle.quarter.specs.Source.{WQ, |WQ|}

-- two tests that pass together are one
pub same_test : (a b c d : ℕ) → (a ≤ b → c ≤ d) → (c ≤ d → a ≤ b) → leb a b ≡ leb c d
same_test a b c d f g = go (leb a b) (leb c d) refl refl
  where
    go : (s t : Bool) → leb a b ≡ s → leb c d ≡ t → leb a b ≡ leb c d
    go true true p q = p ∙ sym q
    go true false p q = let h : c ≤ d = f (leb-true a b p) in absurd (omega (arith, leb-false c d q))
    go false true p q = let h : a ≤ b = g (leb-true c d q) in absurd (omega (arith, leb-false a b p))
    go false false p q = p ∙ sym q

-- a test the other way round
pub not_below : (a b : ℕ) → leb a b ≡ not (ltb b a)
not_below a b = go (ltb b a) refl
  where
    go : (t : Bool) → ltb b a ≡ t → leb a b ≡ not (ltb b a)
    go true p = rw p (lt-leb a b (ltb-true b a p))
    go false p = rw p (le-leb a b (ltb-false b a p))

pub difference : (s t : ℕ) → pos s -ℤ pos t ≡ sub_ℕ s t
difference s zero =
    let e : s + 0 ≡ s - 0 = omega arith in
    rw (le-ltb s 0 zero-le) (ap pos e)
difference s (suc t) = refl

-- one difference taken after another
pub differences : (s t f : ℕ) → pos s -ℤ pos t -ℤ pos f ≡ sub_ℕ s (t + f)
differences s t f =
    +ℤ_assoc (pos s) (neg_ℤ (pos t)) (neg_ℤ (pos f))
    ∙ ap (λ (k : ℤ). pos s +ℤ k) (sym (neg_ℤ-+ℤ (pos t) (pos f)))
    ∙ difference s (t + f)

-- S − T against U
pub below-of_difference : (s t u : ℕ) → lt_z (sub_ℕ s t) (pos u) ≡ ltb s (u + t)
below-of_difference s t u = go (ltb s t) refl
  where
    go : (b : Bool) → ltb s t ≡ b → lt_z (sub_ℕ s t) (pos u) ≡ ltb s (u + t)
    go true p = rw p (sym (lt-ltb s (u + t) (omega (arith, ltb-true s t p))))
    go false p =
        let h : t ≤ s = ltb-false s t p in
        rw p (same_test (suc (s - t)) u (suc s) (u + t) (omega arith) (omega arith))

most_is_below : (x : ℤ) (u : ℕ) → le_z x (pos u) ≡ lt_z x (pos (suc u))
most_is_below (pos a) u = sym (leb-suc-suc a u)
most_is_below (negsuc a) u = refl

pub most_of_difference : (s t u : ℕ) → le_z (sub_ℕ s t) (pos u) ≡ leb s (u + t)
most_of_difference s t u =
    most_is_below (sub_ℕ s t) u
    ∙ below-of_difference s t (suc u)
    ∙ same_test (suc s) (suc u + t) s (u + t) (omega arith) (omega arith)

-- U against S − T
pub most_difference : (s t u : ℕ) → le_z (pos u) (sub_ℕ s t) ≡ leb (u + t) s
most_difference s t u = go (ltb s t) refl
  where
    go : (b : Bool) → ltb s t ≡ b → le_z (pos u) (sub_ℕ s t) ≡ leb (u + t) s
    go true p = rw p (sym (lt-leb (u + t) s (omega (arith, ltb-true s t p))))
    go false p =
        let h : t ≤ s = ltb-false s t p in
        rw p (same_test u (s - t) (u + t) s (omega arith) (omega arith))

below_is_most : (u : ℕ) (x : ℤ) → lt_z (pos u) x ≡ le_z (pos (suc u)) x
below_is_most u (pos a) = refl
below_is_most u (negsuc a) = refl

pub below-difference : (s t u : ℕ) → lt_z (pos u) (sub_ℕ s t) ≡ ltb (u + t) s
below-difference s t u =
    below_is_most u (sub_ℕ s t)
    ∙ most_difference s t (suc u)
    ∙ same_test (suc u + t) s (suc (u + t)) s (omega arith) (omega arith)

-- the sign and the size of W_Q
pub supplies : (m : Metered) → lt_z (WQ m) (pos 0) ≡ ltb m.take m.supply
unfolding WQ
supplies m =
    below-of_difference (per_kvarh * m.take) (per_kvarh * m.supply) 0
    ∙ same_test (suc (per_kvarh * m.take)) (0 + per_kvarh * m.supply) (suc m.take) m.supply (omega arith) (omega arith)

pub takes : (m : Metered) → lt_z (pos 0) (WQ m) ≡ ltb m.supply m.take
unfolding WQ
takes m =
    below-difference (per_kvarh * m.take) (per_kvarh * m.supply) 0
    ∙ same_test (suc (0 + per_kvarh * m.supply)) (per_kvarh * m.take) (suc m.supply) m.take (omega arith) (omega arith)

pub size : (m : Metered) → |WQ| m ≡ pos (absolute m)
unfolding WQ |WQ| absolute
size m = go (ltb (per_kvarh * m.take) (per_kvarh * m.supply)) refl
  where
    go : (b : Bool) → ltb (per_kvarh * m.take) (per_kvarh * m.supply) ≡ b
        → pos (nat_abs (sub_ℕ (per_kvarh * m.take) (per_kvarh * m.supply))) ≡ pos (absolute m)
    go true p = let h : per_kvarh * m.take < per_kvarh * m.supply = ltb-true _ _ p in rw p (ap pos (omega arith))
    go false p = let h : per_kvarh * m.supply ≤ per_kvarh * m.take = ltb-false _ _ p in rw p (ap pos (omega arith))
