-- What lives of the rules and of what is found.
use Rattle.std.specs.Prelude.{ℕ, List, [], ◌∷◌, cond, not, filter}
use Rattle.uc_term.specs.declared.equation.Side.{Side}
use Rattle.uc_fact.specs.declared.fact.Fact.{Fact}
use Rattle.uc_fact.specs.declared.index.Found.{Found}
use Rattle.uc_fact.specs.Live.{Live, Rule, rule_of, equation_of}
use Rattle.uc_shelf.specs.declared.entry.Entry.{Entry}
use Rattle.uc_shelf.specs.Entries.{is_dead}

-- a fact of a number, read from one side, where no entry says that it dies
abbrev pub rule_if_lives : List Entry → Side → ℕ → Fact → List Rule
rule_if_lives all side n fact = cond (is_dead all n) [] (rule_of side (record { number = n; equation = equation_of fact }) ∷ [])

-- the facts that no entry says to die
abbrev pub still_living : List Entry → List Live → List Live
still_living all fs = filter (λ f. not (is_dead all f.number)) fs

-- what is found of facts that no entry says to die
abbrev pub found_living : List Entry → List Found → List Found
found_living all list = filter (λ f. not (is_dead all f.fact)) list
