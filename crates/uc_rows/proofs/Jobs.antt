-- The jobs about the goal that a search found.
use Rattle.std.proofs.Common.{◌≡◌, ℕ, ◌<◌, List, length, slice_get, Some, Bool, ap, sym, ◌∙◌}
use Rattle.uc_term.specs.Tree.{Tree}
use Rattle.uc_machine.specs.declared.task.Job.{Job}
use Rattle.uc_machine.specs.Lists.{At, first, map_option}
use Rattle.uc_fact.specs.Chains.{end_of}
use Rattle.uc_machine.specs.State.{Target}
use Rattle.uc_machine.specs.Draws.{with_ends}
use Rattle.uc_rows.specs.Jobs.{AreJobs}
use Rattle.uc_machine.proofs.Lists.{below}
use Rattle.uc_machine.proofs.Steps.{has_item}
use Rattle.uc_machine.proofs.Found.{first_is}

module _ (p : Target → Bool) (gs : List Target) (n : ℕ) (found : map_option (λ (f : At Target). f.number) (first p gs) ≡ Some n) where
  found_at : (f : At Target) → first p gs ≡ Some f → f.number ≡ n → slice_get gs n ≡ Some f.here
  found_at f e q = ap (slice_get gs) (sym q) ∙ (first_is p gs f e).at

  pub found_below : n < length gs
  found_below = (let h = has_item (λ (f : At Target). f.number) (first p gs) n found in below gs n h.item_.here (found_at h.item_ h.is h.part))

  pub jobs_are : (kind : ℕ → Tree → Tree → Job) (l r : Tree) (other : Job) → map_option (λ (g : Target). end_of g.left) (slice_get gs n) ≡ Some l → map_option (λ (g : Target). end_of g.right) (slice_get gs n) ≡ Some r → other ≡ kind n l r → AreJobs kind (first p gs) (kind n l r, other)
  jobs_are kind l r other a b e =
      let h = has_item (λ (f : At Target). f.number) (first p gs) n found in
      let at = found_at h.item_ h.is h.part in
      let c : Some (end_of h.item_.here.left) ≡ Some l = ap (map_option (λ (g : Target). end_of g.left)) (sym at) ∙ a in
      let d : Some (end_of h.item_.here.right) ≡ Some r = ap (map_option (λ (g : Target). end_of g.right)) (sym at) ∙ b in
      let left : end_of h.item_.here.left ≡ l = cc in
      let right : end_of h.item_.here.right ≡ r = cc in
      let one : kind n l r ≡ with_ends kind h.item_ = ap (λ x. kind n x r) (sym left) ∙ ap (λ y. kind n (end_of h.item_.here.left) y) (sym right) ∙ ap (λ k. kind k (end_of h.item_.here.left) (end_of h.item_.here.right)) (sym h.part) in
      record { goal = h.item_; is = h.is; one = one; other = e ∙ one }
