use Rattle.std.proofs.Common.{◌≡◌, ℕ, ◌<◌, ◌≤◌, length, drop, slice_index, if◌then◌else◌}
use Rattle.uc_term.specs.Variables.{is_among}
use Rattle.uc_order.specs.VarOrders.{first_or}
use Rattle.uc_kbo.proofs.classes.Notes.add.Given as goal

abbrev pub invariant-loop-place : goal.invariant-loop-place
invariant-loop-place l = (l.place ≤ length l.class) × (length l.self.firsts ≡ 16) × (length l.self.numbers ≡ 16) × ((x : ℕ) → x < 16 → slice_index l.self.firsts x ≡ (if is_among x (drop l.place l.class) then first_or x l.class else slice_index l.initial.self.firsts x)) × ((x : ℕ) → x < 16 → slice_index l.self.numbers x ≡ (if is_among x (drop l.place l.class) then l.number else slice_index l.initial.self.numbers x))

abbrev pub decreases-loop-place : goal.decreases-loop-place
decreases-loop-place l = l.place
