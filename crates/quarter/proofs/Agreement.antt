-- Demand 2: paid, free and billed energy and both amounts of document 01's reading are those of source document 004.
-- Assumes nothing.
use Prim.Native.Nat.{ℕ, ◌+◌, ◌-◌, ◌<◌}
use mathlib.Core.Path.{◌≡◌, refl, sym, ap}
use mathlib.Core.Bool.{Bool, true, false, cond, not, ◌&&◌, and_comm, false≢true}
use mathlib.Core.List.{[], ◌∷◌}
use native.Mathlib.Nat.{mul-one, mul-zero, add-zero, add_assoc, le_of_lt}
use native.Mathlib.Omega.{arith}
use borrow.Author.Tests.{ltb-true, ltb-false, lt-ltb, le-ltb, le-leb, lt-leb, eq-eqb, ne_eqb}
use lib.Dec.{ltb, leb}
use lib.IntN.{ℤ, pos, sub_ℕ, ◌*ℤ◌}
use Rattle.quantity.specs.declared.Grains.{Grains}
use Rattle.quantity.specs.Quantity.{grains}
use Rattle.quarter.specs.declared.Role.{Role}
use Rattle.quarter.specs.declared.Role.TheVariants.{Active, SemiActive}
use Rattle.quarter.specs.declared.Level.{Level}
use Rattle.quarter.specs.declared.Level.TheVariants.{Kv220, Kv380}
use Rattle.quarter.specs.declared.Class.TheVariants.{Paid, Free, Billed, Disconnected}
use Rattle.quarter.specs.declared.Metered.{Metered}
use Rattle.quarter.specs.declared.Shares.{Shares}
use Rattle.quarter.specs.declared.Tariffs.{Tariffs}
use Rattle.quarter.specs.Reading.{absolute, none, filed, tolerance, active_free, active_supply, active_take, semi_active_free}
use Rattle.quarter.specs.Reading.{semi_active, helps_by_supply, helps_by_take, of_role, exchanged, classified, credit_of, debit_of}
use Rattle.quarter.specs.Source.{brace, LL, ΔUTol, ΔUFreiAktiv, ΔUFreiHalbaktiv, vergütet_aktiv, frei_aktiv, verrechnet_aktiv}
use Rattle.quarter.specs.Source.{frei_halbaktiv, outside_free_band, vergütet_halbaktiv, verrechnet_halbaktiv, vergütet, frei, verrechnet, VB, RB}
use Rattle.quarter.specs.Agreement.{Said, Lawful, Agrees}
use Rattle.quarter.proofs.Signed.{not_below, difference, differences, below-of_difference, most_of_difference}
use Rattle.quarter.proofs.Signed.{below-difference, most_difference, supplies, takes, size}

-- the three energies of some shares, the free one where 004 has said it
record Energies (said : Type 0) (s : Shares) (paid free billed : ℤ) : Type 0 where
  paid_is : pos s.paid.0 ≡ paid
  free_is : said → pos s.free.0 ≡ free
  billed_is : pos s.billed.0 ≡ billed

-- ---- active: 004's lines over tests of sums, with `n` and `p` the sign of W_Q and `v` the value of every line

tol : (l : Level) → ΔUTol l ≡ pos (tolerance l)
tol Kv220 = refl
tol Kv380 = refl

margin : (l : Level) → ΔUFreiAktiv l ≡ pos (active_free l)
margin Kv220 = refl
margin Kv380 = refl

module _ (l : Level) (m : Metered) where
  u : ℕ
  u = m.actual.0

  s : ℕ
  s = m.set.0

  v : ℤ
  v = pos (absolute m) *ℤ LL m.lamp

  two : Bool → Bool → ℤ
  two c d = brace ((ltb m.take m.supply && c, v) ∷ (ltb m.supply m.take && d, v) ∷ [])

  paid_lines : vergütet_aktiv l m ≡ two (ltb u (s + tolerance l)) (ltb s (u + tolerance l))
  unfolding vergütet_aktiv two u s v
  paid_lines = rw (supplies m, takes m, size m, tol l, difference s (tolerance l), below-of_difference s (tolerance l) u)

  free_lines : frei_aktiv l m
      ≡ two (not (ltb u (s + tolerance l)) && ltb u (s + tolerance l + active_free l))
      (ltb s (u + tolerance l + active_free l) && not (ltb s (u + tolerance l)))
  unfolding frei_aktiv two u s v
  free_lines =
      rw (
        supplies m,
        takes m,
        size m,
        tol l,
        margin l,
        differences s (tolerance l) (active_free l),
        difference s (tolerance l),
        below-of_difference s (tolerance l + active_free l) u,
        most_difference s (tolerance l) u,
        not_below (s + tolerance l) u,
        not_below (u + tolerance l) s,
        add_assoc u (tolerance l) (active_free l),
      )

  billed_lines : verrechnet_aktiv l m
      ≡ two (not (ltb u (s + tolerance l + active_free l))) (not (ltb s (u + tolerance l + active_free l)))
  unfolding verrechnet_aktiv two u s v
  billed_lines =
      rw (
        supplies m,
        takes m,
        size m,
        tol l,
        margin l,
        differences s (tolerance l) (active_free l),
        most_difference s (tolerance l + active_free l) u,
        not_below (s + tolerance l + active_free l) u,
        not_below (u + (tolerance l + active_free l)) s,
        add_assoc u (tolerance l) (active_free l),
      )

-- filing by the two tests c and d of a direction, at the lamp, gives 004's values
by_tests : (lamp c d : Bool) (w : ℕ) → (c ≡ true → d ≡ true)
    → Energies (Unit {0}) (cond lamp (filed (cond c Paid (cond d Free Billed)) (grains w) none) (filed Disconnected (grains w) none))
    (cond c (pos w *ℤ LL lamp) (pos 0))
    (cond (not c && d) (pos w *ℤ LL lamp) (pos 0))
    (cond (not d) (pos w *ℤ LL lamp) (pos 0))
by_tests true true true w h = record { paid_is = ap pos (sym (mul-one w)); free_is = λ _. refl; billed_is = refl }
by_tests true true false w h = absurd (false≢true (h refl))
by_tests true false true w h = record { paid_is = refl; free_is = λ _. ap pos (sym (mul-one w)); billed_is = refl }
by_tests true false false w h = record { paid_is = refl; free_is = λ _. refl; billed_is = ap pos (sym (mul-one w)) }
by_tests false true true w h = record { paid_is = ap pos (sym (mul-zero w)); free_is = λ _. refl; billed_is = refl }
by_tests false true false w h = absurd (false≢true (h refl))
by_tests false false true w h = record { paid_is = refl; free_is = λ _. ap pos (sym (mul-zero w)); billed_is = refl }
by_tests false false false w h = record { paid_is = refl; free_is = λ _. refl; billed_is = ap pos (sym (mul-zero w)) }

-- a voltage below the tolerance is below the free margin
further : (a b t f : ℕ) → ltb a (b + t) ≡ true → ltb a (b + t + f) ≡ true
further a b t f p = lt-ltb a (b + t + f) (omega (arith, ltb-true a (b + t) p))

-- the three signs of W
data Sign (m : Metered) : Type 0 where
  supply : m.take < m.supply → Sign m
  take : m.supply < m.take → Sign m
  zero : m.take ≡ m.supply → Sign m

sign : (m : Metered) → Sign m
sign m = go (ltb m.take m.supply) (ltb m.supply m.take) refl refl
  where
    go : (a b : Bool) → ltb m.take m.supply ≡ a → ltb m.supply m.take ≡ b → Sign m
    go true b p q = supply (ltb-true m.take m.supply p)
    go false true p q = take (ltb-true m.supply m.take q)
    go false false p q = zero (omega (arith, ltb-false m.take m.supply p, ltb-false m.supply m.take q))

active : (l : Level) (m : Metered) → Sign m
    → Energies (Unit {0}) (classified Active l m) (vergütet_aktiv l m) (frei_aktiv l m) (verrechnet_aktiv l m)
unfolding classified exchanged of_role active_supply active_take two u s v
active l m (supply h) =
    let U = m.actual.0 in
    let S = m.set.0 in
    rw (
      paid_lines l m,
      free_lines l m,
      billed_lines l m,
      ne_eqb m.take m.supply (omega arith),
      lt-ltb m.take m.supply h,
      le-ltb m.supply m.take (le_of_lt h),
    )
    (by_tests m.lamp (ltb U (S + tolerance l)) (ltb U (S + tolerance l + active_free l)) (absolute m)
    (further U S (tolerance l) (active_free l)))
active l m (take h) =
    let U = m.actual.0 in
    let S = m.set.0 in
    rw (
      paid_lines l m,
      free_lines l m,
      billed_lines l m,
      ne_eqb m.take m.supply (omega arith),
      lt-ltb m.supply m.take h,
      le-ltb m.take m.supply (le_of_lt h),
      and_comm (ltb S (U + tolerance l + active_free l)) (not (ltb S (U + tolerance l))),
    )
    (by_tests m.lamp (ltb S (U + tolerance l)) (ltb S (U + tolerance l + active_free l)) (absolute m)
    (further S U (tolerance l) (active_free l)))
active l m (zero h) =
    rw (
      paid_lines l m,
      free_lines l m,
      billed_lines l m,
      eq-eqb m.take m.supply h,
      le-ltb m.take m.supply (omega arith),
      le-ltb m.supply m.take (omega arith),
    )
    (record { paid_is = refl; free_is = λ _. refl; billed_is = refl })

-- ---- semi-active: 004's lines over tests of sums, with ΔW_Q,lim the band b

free_margin : (l : Level) → ΔUFreiHalbaktiv l ≡ pos (semi_active_free l)
free_margin Kv220 = refl
free_margin Kv380 = refl

module _ (b : ℕ) (l : Level) (m : Metered) where
  low : Bool
  low = ltb (m.actual.0 + semi_active_free l) m.set.0

  high : Bool
  high = ltb (m.set.0 + semi_active_free l) m.actual.0

  outside : Bool → Bool → ℤ
  outside c d =
      cond (ltb (absolute m) b) (pos 0)
      (brace
      ((ltb m.take m.supply && c, sub_ℕ (absolute m) b) ∷ (ltb m.supply m.take && d, sub_ℕ (absolute m) b) ∷ []))

  paid-outside : vergütet_halbaktiv b l m ≡ outside low high
  unfolding vergütet_halbaktiv outside_free_band outside low high
  paid-outside =
      rw (
        supplies m,
        takes m,
        size m,
        free_margin l,
        difference m.set.0 (semi_active_free l),
        below-difference m.set.0 (semi_active_free l) m.actual.0,
        difference (absolute m) b,
      )

  billed-outside : verrechnet_halbaktiv b l m ≡ outside high low
  unfolding verrechnet_halbaktiv outside_free_band outside low high
  billed-outside =
      rw (
        supplies m,
        takes m,
        size m,
        free_margin l,
        difference m.set.0 (semi_active_free l),
        below-difference m.set.0 (semi_active_free l) m.actual.0,
        difference (absolute m) b,
      )

  free-inside : frei_halbaktiv b l m
      ≡ brace ((ltb (absolute m) b, pos (absolute m)) ∷ (ltb b (absolute m) && (not low && not high), pos (absolute m)) ∷ [])
  unfolding frei_halbaktiv low high
  free-inside =
      rw (
        size m,
        free_margin l,
        difference m.set.0 (semi_active_free l),
        most_of_difference m.set.0 (semi_active_free l) m.actual.0,
        not_below m.set.0 (m.actual.0 + semi_active_free l),
        not_below m.actual.0 (m.set.0 + semi_active_free l),
      )

-- the lines of 01 for an energy w and a band b, by whether the exchange helps or hurts the voltage
banded : ℕ → ℕ → Bool → Bool → Shares
banded w b helps hurts =
    cond (leb w b) (filed Free (grains w) none)
    (cond (not helps && not hurts) (filed Free (grains w) none)
    (cond helps (filed Paid (grains (w - b)) (grains b))
    (filed Billed (grains (w - b)) (grains b))))

module _ (w b : ℕ) where
  BandedAgrees : Bool → Bool → Type 0
  BandedAgrees helps hurts =
      Energies (w ≡ b → ⊥) (banded w b helps hurts) (cond (ltb w b) (pos 0) (cond helps (sub_ℕ w b) (pos 0)))
      (cond (ltb w b) (pos w) (cond (ltb b w && (not helps && not hurts)) (pos w) (pos 0)))
      (cond (ltb w b) (pos 0) (cond hurts (sub_ℕ w b) (pos 0)))

  below : w < b → (helps hurts : Bool) → BandedAgrees helps hurts
  unfolding BandedAgrees banded
  below h helps hurts =
      rw (le-leb w b (le_of_lt h), lt-ltb w b h) (record { paid_is = refl; free_is = λ _. refl; billed_is = refl })

  nothing_left : w ≡ b → (t : Bool) → pos 0 ≡ cond t (pos (w - b)) (pos 0)
  nothing_left e true = ap pos (omega arith)
  nothing_left e false = refl

  equal : w ≡ b → (helps hurts : Bool) → BandedAgrees helps hurts
  unfolding BandedAgrees banded
  equal e helps hurts =
      rw (le-leb w b (omega arith), le-ltb w b (omega arith))
      (record { paid_is = nothing_left e helps; free_is = λ said. absurd (said e); billed_is = nothing_left e hurts })

  above : b < w → (helps hurts : Bool) → (helps ≡ true → hurts ≡ true → ⊥) → BandedAgrees helps hurts
  unfolding BandedAgrees banded
  above h true true never = absurd (never refl refl)
  above h true false never =
      rw (lt-leb w b h, le-ltb w b (le_of_lt h), lt-ltb b w h) (record { paid_is = refl; free_is = λ _. refl; billed_is = refl })
  above h false true never =
      rw (lt-leb w b h, le-ltb w b (le_of_lt h), lt-ltb b w h) (record { paid_is = refl; free_is = λ _. refl; billed_is = refl })
  above h false false never =
      rw (lt-leb w b h, le-ltb w b (le_of_lt h), lt-ltb b w h) (record { paid_is = refl; free_is = λ _. refl; billed_is = refl })

  by_band : (helps hurts : Bool) → (helps ≡ true → hurts ≡ true → ⊥) → BandedAgrees helps hurts
  by_band helps hurts never = go (ltb w b) (ltb b w) refl refl
    where
      go : (x y : Bool) → ltb w b ≡ x → ltb b w ≡ y → BandedAgrees helps hurts
      go true y p q = below (ltb-true w b p) helps hurts
      go false true p q = above (ltb-true b w q) helps hurts never
      go false false p q = equal (omega (arith, ltb-false w b p, ltb-false b w q)) helps hurts

apart : (b : ℕ) (l : Level) (m : Metered) → low b l m ≡ true → high b l m ≡ true → ⊥
unfolding low high
apart b l m p q =
    omega (arith, ltb-true (m.actual.0 + semi_active_free l) m.set.0 p, ltb-true (m.set.0 + semi_active_free l) m.actual.0 q)

no_energy : (x y : Bool) → pos 0 ≡ cond x (pos 0) (cond y (pos 0) (pos 0))
no_energy true y = refl
no_energy false true = refl
no_energy false false = refl

semi_active_lem : (b : Grains) (l : Level) (m : Metered) → Sign m
    → Energies (absolute m ≡ b.0 → ⊥) (classified (SemiActive b) l m) (vergütet_halbaktiv b.0 l m) (frei_halbaktiv b.0 l m)
    (verrechnet_halbaktiv b.0 l m)
unfolding classified exchanged of_role semi_active helps_by_supply helps_by_take outside BandedAgrees banded low high
semi_active_lem b l m (supply h) =
    rw (
      paid-outside b.0 l m,
      free-inside b.0 l m,
      billed-outside b.0 l m,
      not_below m.set.0 (m.actual.0 + semi_active_free l),
      not_below m.actual.0 (m.set.0 + semi_active_free l),
      ne_eqb m.take m.supply (omega arith),
      lt-ltb m.take m.supply h,
      le-ltb m.supply m.take (le_of_lt h),
    )
    (by_band (absolute m) b.0 (low b.0 l m) (high b.0 l m) (apart b.0 l m))
semi_active_lem b l m (take h) =
    rw (
      paid-outside b.0 l m,
      free-inside b.0 l m,
      billed-outside b.0 l m,
      not_below m.set.0 (m.actual.0 + semi_active_free l),
      not_below m.actual.0 (m.set.0 + semi_active_free l),
      ne_eqb m.take m.supply (omega arith),
      lt-ltb m.supply m.take h,
      le-ltb m.take m.supply (le_of_lt h),
      and_comm (not (low b.0 l m)) (not (high b.0 l m)),
    )
    (by_band (absolute m) b.0 (high b.0 l m) (low b.0 l m) (λ p q. apart b.0 l m q p))
semi_active_lem b l m (zero h) =
    let none-exchanged : absolute m ≡ 0 = unfold absolute in omega arith in
    rw (
      paid-outside b.0 l m,
      free-inside b.0 l m,
      billed-outside b.0 l m,
      eq-eqb m.take m.supply h,
      le-ltb m.take m.supply (omega arith),
      le-ltb m.supply m.take (omega arith),
      none-exchanged,
    )
    (record {
      paid_is = no_energy (ltb 0 b.0) false;
      free_is = λ _. no_energy (ltb 0 b.0) (ltb b.0 0 && (not (low b.0 l m) && not (high b.0 l m)));
      billed_is = no_energy (ltb 0 b.0) false;
    })

-- ---- the theorem

-- amounts follow from energies
module _ (role : Role) (l : Level) (m : Metered) (t : Tariffs) where
  amount-of_paid : pos (classified role l m).paid.0 ≡ vergütet role l m → pos (credit_of (classified role l m) t) ≡ VB role l m t
  unfolding credit_of VB
  amount-of_paid e = ap (λ (x : ℤ). x *ℤ pos t.payment) e

amount-of_billed : (role : Role) (l : Level) (m : Metered) (t : Tariffs)
    → pos (classified role l m).billed.0 ≡ verrechnet role l m → Lawful role t → pos (debit_of (classified role l m) t) ≡ RB role l m t
unfolding debit_of RB
amount-of_billed Active l m t e lawful = ap (λ (x : ℤ). x *ℤ pos (t.billing + t.penalty)) e
amount-of_billed (SemiActive b) l m t e lawful =
    rw (lawful, add-zero t.billing) (ap (λ (x : ℤ). x *ℤ pos t.billing) e)

energies : (role : Role) (l : Level) (m : Metered)
    → Energies (Said role m) (classified role l m) (vergütet role l m) (frei role l m) (verrechnet role l m)
unfolding vergütet frei verrechnet
energies Active l m = active l m (sign m)
energies (SemiActive b) l m = semi_active_lem b l m (sign m)

pub agrees : (role : Role) (l : Level) (m : Metered) (t : Tariffs) → Agrees role l m t
agrees role l m t =
    let e = energies role l m in
    record {
      paid = e.paid_is;
      free = e.free_is;
      billed = e.billed_is;
      credit = amount-of_paid role l m t e.paid_is;
      debit = amount-of_billed role l m t e.billed_is;
    }
