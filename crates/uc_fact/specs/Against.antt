-- What stands in a term against the variables of a pattern.
use Rattle.std.specs.Prelude.{ℕ, ◌≡◌, List, [], ◌∷◌, ◌++◌}
use Rattle.uc_term.specs.Tree.{Tree, var, app, Trees, none, more, apply}

-- the term has the pattern's symbols where the pattern has them
abbrev mutual
  pub Fits : Tree → Tree → Type 0
  Fits (var x) t = Unit {0}
  Fits (app f ps) (var y) = ⊥
  Fits (app f ps) (app g ts) = (f ≡ g) × AllFit ps ts

  pub AllFit : Trees → Trees → Type 0
  AllFit none none = Unit {0}
  AllFit none (more t ts) = ⊥
  AllFit (more p ps) none = ⊥
  AllFit (more p ps) (more t ts) = Fits p t × AllFit ps ts

-- the pattern's variables, from left to right and each as often as it occurs, with the subterms that stand against them
abbrev mutual
  pub against : Tree → Tree → List (ℕ × Tree)
  against (var x) t = (x, t) ∷ []
  against (app f ps) (var y) = []
  against (app f ps) (app g ts) = against_all ps ts

  pub against_all : Trees → Trees → List (ℕ × Tree)
  against_all none ts = []
  against_all (more p ps) none = []
  against_all (more p ps) (more t ts) = against p t ++ against_all ps ts

-- some substitution makes the pattern the term
pub record HasMatch (pattern term : Tree) : Type 0 where
  pub σ : ℕ → Tree
  pub gives : apply σ pattern ≡ term
