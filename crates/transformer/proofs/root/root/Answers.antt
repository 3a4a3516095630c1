-- `transformer::root::root` meets its contract.
use native.Mathlib.Omega.{arith}
use Rattle.transformer.proofs.Roots.{root_is}
use Rattle.transformer.proofs.Accepted.{sheet}
use Rattle.transformer.proofs.Bounds.{product_fits, voltage_most, copper_most, radicand_lt, copper_below}
use Rattle.transformer.proofs.root.root.Goals as goal

pub returns : goal.returns
returns c =
    let a = c in
    let s = sheet a.args.sheet a.requires.sheet_value in
    let r = c.bisected.ensures in
    record { value = root_is a.args.sheet s.some _ r.sn_bound_2 r.radicand_bound_2; upper_bound = r.upper_bound }

pub overflow_mul-uk-2 : goal.overflow_mul-uk-2
overflow_mul-uk-2 c =
    let a = c in
    record { fits = omega (arith, voltage_most a.args.sheet (sheet a.args.sheet a.requires.sheet_value)) }

pub overflow_mul-radicand : goal.overflow_mul-radicand
overflow_mul-radicand c =
    let a = c in
    let side = voltage_most a.args.sheet (sheet a.args.sheet a.requires.sheet_value) in
    product_fits _ _ 2000000000 2000000000 side side (omega arith)

pub overflow_mul-radicand-2 : goal.overflow_mul-radicand-2
overflow_mul-radicand-2 c =
    let a = c in
    let side = copper_most a.args.sheet (sheet a.args.sheet a.requires.sheet_value) in
    product_fits _ _ 40000000 40000000 side side (omega arith)

pub overflow_sub-radicand : goal.overflow_sub-radicand
overflow_sub-radicand c =
    let a = c in
    copper_below a.args.sheet (sheet a.args.sheet a.requires.sheet_value) a.requires.sheet_value_2

pub bisected-requires : goal.bisected-requires
bisected-requires c =
    let a = c in
    let s = sheet a.args.sheet a.requires.sheet_value in
    record { sn_bound = s.power; radicand_bound = radicand_lt a.args.sheet s }
