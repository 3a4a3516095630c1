-- The table of K: its rule as one test, and what the test says of each share. Assumes nothing.
use Prim.Native.Nat.{ℕ, ◌≤◌}
use mathlib.Core.Path.{◌≡◌}
use mathlib.Core.Bool.{Bool, true}
use mathlib.Core.List.{List}
use native.Mathlib.Omega.{arith}
use borrow.Author.Tests.{eqb-true}
use lib.Dec.{eqb}
use lib.ListN.{length, get_or}
use Rattle.basic_tariff.specs.BasicTariff.{K}
use Rattle.basic_tariff.proofs.Table.{everywhere, at}

abbrev is_K : ℕ → ℕ → Bool
is_K share number = eqb number (K share)

-- whether each number is K of its place
abbrev pub by_rule : List ℕ → Bool
by_rule table = everywhere is_K 0 table

pub at-share : (table : List ℕ) → by_rule table ≡ true → length table ≡ 1001 → (share : ℕ) → share ≤ 1000 → get_or table share 0 ≡ K share
at-share table passed all share h = eqb-true _ _ (at is_K table passed share (omega (arith, all)))
