use Rattle.std.proofs.Common.{◌≤◌, ◌+◌, ◌*◌, arith}
use Rattle.std.proofs.Math.Nat.{mul-le-mul_left}
use Rattle.scenario_lang.proofs.lines.is_too_heavy.Goals as goal

pub overflow_mul-result : goal.overflow_mul-result
overflow_mul-result c =
    let few = c.heavy_lines.ensures.few in
    let most : (1 + c.heavy_lines.result) * c.args.bytes ≤ (1 + c.heavy_lines.result) * 16777216 = mul-le-mul_left (1 + c.heavy_lines.result) c.requires in
    omega (arith, few, most)
