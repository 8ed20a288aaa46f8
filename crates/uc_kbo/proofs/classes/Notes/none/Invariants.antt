use Rattle.std.proofs.Common.{◌≡◌, ℕ, ◌<◌, length, slice_index}
use Rattle.uc_kbo.proofs.classes.Notes.none.Given as goal

abbrev pub invariant-loop-x : goal.invariant-loop-x
invariant-loop-x l = (length l.firsts ≡ 16) × ((y : ℕ) → y < l.x → slice_index l.firsts y ≡ y)
