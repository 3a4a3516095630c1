-- `bits::ones` meets its contract.
use Prim.Native.Nat.{ℕ, ◌*◌, ◌%◌, ◌^◌, ◌<◌}
use mathlib.Core.Path.{◌≡◌}
use native.Mathlib.Omega.{arith}
use lib.Pow.{pow_pos, shl_exact}
use Rattle.bits.proofs.ones.Goals as goal

-- nothing is shifted out
exact : (k : ℕ) → k < 64 → 1 * 2 ^ k % 2 ^ 64 ≡ 1 * 2 ^ k
exact k h = shl_exact 1 k 64 (omega arith) (omega arith)

pub overflow_sub-result : goal.overflow_sub-result
overflow_sub-result c = omega (arith, exact c.args.count c.requires, pow_pos c.args.count)

pub returns : goal.returns
returns c = omega (arith, exact c.args.count c.requires)
