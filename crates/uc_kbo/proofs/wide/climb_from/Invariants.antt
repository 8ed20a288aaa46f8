use Rattle.std.proofs.Common.{ℕ, ◌≡◌, ◌≤◌, ◌+◌, Bool, drop}
use Rattle.uc_kbo.specs.Kbo.{None}
use Rattle.uc_kbo.specs.Runs.{table_weighing}
use Rattle.uc_kbo.specs.Balances.{IsBoth, is_asked, AsksFor, has_counter}
use Rattle.uc_kbo.proofs.Around.{Climbed}
use Rattle.uc_kbo.proofs.Asking.{agree_asked}
use Rattle.uc_kbo.proofs.wide.climb_from.Given as goal

abbrev pub invariant-loop-from : goal.invariant-loop-from
invariant-loop-from l = record {
  climbed : (asked : ℕ → Bool) → AsksFor (has_counter l.base) asked (drop l.at l.s) (drop l.at l.t) → Climbed (table_weighing l.w.w0 l.w.table.items) (is_asked asked) None (agree_asked asked) (λ x. x) l.s l.t l.at l.part l.from l.done l.both.first l.both.second l.verdict;
  both : IsBoth (table_weighing l.w.w0 l.w.table.items) l.s l.t l.both;
  begun : l.from ≤ l.part;
  part_first : l.part ≤ l.at;
  few : l.from + l.done ≤ l.part;
  base : l.both.balance.base ≡ l.base;
}

abbrev pub decreases-loop-from : goal.decreases-loop-from
decreases-loop-from l = l.from
