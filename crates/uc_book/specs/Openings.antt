-- What contracts see of a book, and of the tokens that go out from it.
use Rattle.std.specs.Prelude.{◌≢◌, ℕ, List, [], ◌∷◌}
use Rattle.boxcar.specs.Table.{Shelves}
use Rattle.uc_problem.specs.declared.problem.Encoded.{Encoded}
use Rattle.uc_shelf.specs.Sights.{Sight}
use Rattle.uc_machine.specs.State.{Opening, State}

-- what a book was opened with, but for its order
pub record Opened : Type 0 where
  pub problem : Encoded
  pub shelf : Shelves
  pub budget : ℕ
  pub limit : ℕ

-- the machine's part of it
abbrev pub opening_of : Opened → Opening
opening_of o = record { axioms = o.problem.axioms; goals = o.problem.goals; budget = o.budget; limit = o.limit }

-- a book: what it was opened with, its order, its state, the front of its entries, and the workers that were enrolled, in order
pub record BookView (O : Type 0) : Type 0 where
  pub opening : Opened
  pub order : O
  pub state : State
  pub front : Sight
  pub enrolled : List ℕ

-- a worker's token: its number, and how many commits it counted
pub record PassView : Type 0 where
  pub worker : ℕ
  pub commits : ℕ
  pub opening : Opened

-- the worker isn't among these
abbrev pub HasNot : ℕ → List ℕ → Type 0
HasNot w [] = Unit {0}
HasNot w (v ∷ vs) = (v ≢ w) × HasNot w vs
