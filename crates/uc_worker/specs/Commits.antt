-- How many commits a history has, of all workers and of each.
use Rattle.std.specs.Prelude.{◌≡◌, ℕ, zero, suc, ◌≤◌, ◌++◌, ◌∷◌, [], List, count_by}
use Rattle.uc_machine.specs.declared.event.Event.{Event}
use Rattle.uc_machine.specs.Events.{is_commit_what, commits_by}

-- of all workers
abbrev pub commits_of : List Event → ℕ
commits_of h = count_by (λ (e : Event). is_commit_what e.what) h

-- the shares of the first n workers, from worker 0 on: how many commits each has
abbrev pub shares_of : ℕ → List Event → List ℕ
shares_of zero h = []
shares_of (suc n) h = shares_of n h ++ commits_by n h ∷ []

-- no other worker has a commit
abbrev pub AreOfFirst : ℕ → List Event → Type 0
AreOfFirst n h = (w : ℕ) → n ≤ w → commits_by w h ≡ 0
