use Rattle.std.proofs.Common.{◌≡◌, ◌+◌, ◌<◌, ◌≤◌, ℕ, length}
use Rattle.std.specs.Prelude.{slice_get, Some}
use Rattle.uc_table.specs.declared.search_instances.Form.{Form}
use Rattle.uc_table.proofs.searching.room_of.Given as goal

abbrev pub invariant-loop-form : goal.invariant-loop-form
invariant-loop-form l = (k : ℕ) (f : Form) → k < l.form-index → slice_get l.forms k ≡ Some f → length f.steps.items + 2 ≤ l.room
