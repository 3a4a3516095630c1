-- What a call leaves in what it is lent: what was asked for beside 0, and what was there beside a refusal. Assumes nothing.
use Prim.Native.Nat.{ℕ}
use mathlib.Core.Path.{◌≡◌, sym, ap, ◌∙◌}
use mathlib.Core.Bool.{cond}
use borrow.Author.Tests.{ne_eqb}
use lib.Dec.{eqb}

-- the number, and what is lent afterwards
abbrev pub left : {A : Type 0} → ℕ × A → A → ℕ × A
left due before = (due.0, cond (eqb due.0 0) due.1 before)

-- Number and what was asked for as they are due, as the crate below gives them, and the number n of its answer.
module _ {A : Type 0} (due given : ℕ × A) (e : given ≡ due) (before : A) (n : ℕ) (en : n ≡ given.0) where
  numbered : n ≡ due.0
  numbered = en ∙ ap (λ (g : ℕ × A). g.0) e

  pub put : n ≡ 0 → ◌≡◌ {A = ℕ × A} (n, given.1) (left due before)
  put z =
      let none : due.0 ≡ 0 = sym numbered ∙ z in
      rw (none, z) (ap (λ (g : ℕ × A). (0, g.1)) e)

  pub kept : (n ≡ 0 → ⊥) → ◌≡◌ {A = ℕ × A} (n, before) (left due before)
  kept z = rw (← numbered, ne_eqb n 0 z)
