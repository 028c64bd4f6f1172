use Rattle.std.proofs.Common.{ℕ, ◌+◌, ◌≤◌, arith, w64, Fits}
use Rattle.heads.proofs.tuple.Tuple.distance.Goals as goal

five : (a b c d e : ℕ) → a ≤ 256 → b ≤ 256 → c ≤ 256 → d ≤ 256 → e ≤ 256 → Fits w64 (a + b + c + d + e)
five a b c d e p q r s t = omega arith

pub overflow_add-result-4 : goal.overflow_add-result-4
overflow_add-result-4 c = five _ _ _ _ _ (omega arith) (omega arith) (omega arith) (omega arith) (omega arith)
