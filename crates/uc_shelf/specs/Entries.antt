-- What a list of entries says: which facts are born, which of them are dead, and which live.
use Rattle.std.specs.Prelude.{ℕ, ◌==◌, ◌||◌, List, [], ◌∷◌, Bool, false, not, map, filter}
use Rattle.uc_term.specs.declared.equation.Equation.{Equation}
use Rattle.uc_fact.specs.declared.fact.Fact.{Fact}
use Rattle.uc_fact.specs.Live.{Live, numbered_from, equation_of}
use Rattle.uc_shelf.specs.declared.entry.Entry.{Entry}
use Rattle.uc_shelf.specs.declared.entry.Entry.TheVariants.{Born, Dies}

-- the facts that are born, in the order of their births
abbrev pub born : List Entry → List Fact
born [] = []
born (Born fact ∷ entries) = fact ∷ born entries
born (Dies fact killer ∷ entries) = born entries

-- some entry says that the fact of this number dies
abbrev pub is_dead : List Entry → ℕ → Bool
is_dead [] n = false
is_dead (Born fact ∷ entries) n = is_dead entries n
is_dead (Dies fact killer ∷ entries) n = (fact == n) || is_dead entries n

-- the two sides of each fact that is born
abbrev pub equations : List Entry → List Equation
equations entries = map equation_of (born entries)

-- the facts that are born among some entries, numbered from n on in the order of their births, without those that are dead
-- in all
abbrev pub living : List Entry → ℕ → List Entry → List Live
living all n entries = filter (λ f. not (is_dead all f.number)) (numbered_from n (equations entries))

-- the facts that are born and not dead, numbered from 0 on in the order of their births
abbrev pub live : List Entry → List Live
live entries = living entries 0 entries
