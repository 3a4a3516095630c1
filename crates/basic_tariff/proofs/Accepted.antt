-- What a call that is not turned away has: every field in its range, and something drawn or fed in. Assumes nothing.
use Prim.Native.Nat.{ℕ, zero, suc, ◌+◌, ◌≤◌, ◌<◌}
use mathlib.Core.Path.{◌≡◌}
use mathlib.Core.Bool.{false, ◌&&◌, ◌||◌, true≢false}
use mathlib.Core.List.{List}
use native.Mathlib.Omega.{arith}
use borrow.Author.Tests.{ltb-false}
use lib.Dec.{ltb, eqb}
use lib.ListN.{length}
use Rattle.refusals.proofs.Tests.{neither}
use Rattle.basic_tariff.specs.BasicTariff.{Point, point_at, energy_out_of_range, is_idle, point_refused, any_refused, call_refused, refused}

-- a point that is not turned away
pub record Energies (p : Point) : Type 0 where
  pub drawn : p.drawn ≤ 1000000000000
  pub fed_in : p.fed_in ≤ 1000000000000
  pub some : 0 < p.drawn + p.fed_in

not_idle : (d f : ℕ) → (eqb d 0 && eqb f 0) ≡ false → 0 < d + f
not_idle zero zero h = absurd (true≢false h)
not_idle zero (suc f) h = omega arith
not_idle (suc d) f h = omega arith

pub energies : (p : Point) → point_refused p ≡ false → Energies p
unfolding point_refused
energies p h =
    let most = neither (energy_out_of_range p.drawn || energy_out_of_range p.fed_in) (is_idle p) h in
    let each = neither (energy_out_of_range p.drawn) (energy_out_of_range p.fed_in) most.0 in
    record {
      drawn = ltb-false 1000000000000 p.drawn each.0;
      fed_in = ltb-false 1000000000000 p.fed_in each.1;
      some = not_idle p.drawn p.fed_in most.1;
    }

-- tariff, count and places of a call that is not
pub record Call (t n : ℕ) (ds fs : List ℕ) : Type 0 where
  pub tariff : t ≤ 100000000
  pub count : n ≤ 8
  pub drawn : n ≤ length ds
  pub fed_in : n ≤ length fs

pub call : (tariff n : ℕ) (drawn fed_in : List ℕ) → call_refused tariff n drawn fed_in ≡ false → Call tariff n drawn fed_in
unfolding call_refused
call tariff n drawn fed_in h =
    let a = neither _ (ltb (length fed_in) n) h in
    let b = neither _ (ltb (length drawn) n) a.0 in
    let c = neither _ (ltb 8 n) b.0 in
    let d = neither (ltb 100000000 tariff) (ltb n 1) c.0 in
    record {
      tariff = ltb-false 100000000 tariff d.0;
      count = ltb-false 8 n c.1;
      drawn = ltb-false (length drawn) n b.1;
      fed_in = ltb-false (length fed_in) n a.1;
    }

-- A call that is not turned away, nor any of its points.
module _ (tariff n : ℕ) (drawn fed_in : List ℕ) (h : refused tariff n drawn fed_in ≡ false) where
  pub call_of : Call tariff n drawn fed_in
  unfolding refused
  call_of = call tariff n drawn fed_in (neither (call_refused tariff n drawn fed_in) _ h).0

  pub none_of : any_refused (point_at drawn fed_in) n ≡ false
  unfolding refused
  none_of = (neither (call_refused tariff n drawn fed_in) (any_refused (point_at drawn fed_in) n) h).1
