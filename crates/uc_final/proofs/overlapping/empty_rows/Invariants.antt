use Rattle.std.proofs.Common.{◌≡◌, vec_len}
use Rattle.uc_final.proofs.overlapping.empty_rows.Given as goal

abbrev pub invariant-loop-made : goal.invariant-loop-made
invariant-loop-made l = vec_len l.rows ≡ l.made
