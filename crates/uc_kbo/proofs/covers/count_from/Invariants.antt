use Rattle.std.proofs.Common.{◌≡◌, ◌≤◌, take, count_by, true}
use Rattle.uc_kbo.specs.Kbo.{is_from}
use Rattle.uc_kbo.specs.Runs.{is_counted, read_by}
use Rattle.uc_kbo.proofs.covers.count_from.Given as goal

abbrev pub invariant-loop-i : goal.invariant-loop-i
invariant-loop-i l = (l.count ≡ count_by (is_counted (is_from l.classes l.k)) (take l.i (read_by true l.classes l.list))) × (l.count ≤ l.i)
