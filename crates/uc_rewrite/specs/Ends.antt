-- What comes next in normalising, and where its steps lead.
use Rattle.std.specs.Prelude.{ℕ, List}
use Rattle.uc_term.specs.declared.node.Sym.{Sym}
use Rattle.uc_term.specs.Tree.{Tree}
use Rattle.uc_fact.specs.declared.chain.Step.{Step}
use Rattle.uc_fact.specs.declared.fact.Stop.{Stop}
use Rattle.uc_fact.specs.declared.fact.Stop.TheVariants.{Full, Steps, Size}
use Rattle.uc_fact.specs.Live.{Live, Rule, equations_of}
use Rattle.uc_fact.specs.Chains.{last_term}
use Rattle.uc_fact.specs.Ordered.{IsIrreducible}
use Rattle.uc_rewrite.specs.declared.normal.Next.{Next}
use Rattle.uc_rewrite.specs.declared.normal.Next.TheVariants.{Made, Irreducible, TooLarge}
use Rattle.uc_rewrite.specs.declared.normal.Normal.{Normal}
use Rattle.uc_rewrite.specs.declared.walk.Open.{Open}
use Rattle.uc_rewrite.specs.Normalising.{FirstStep}
use Rattle.uc_rewrite.specs.Walking.{Steps as StepsOn, IsLarge}

-- what comes next from a term
abbrev pub IsNext : (Tree → Tree → Type 0) → Sym → List Live → Tree → List Open → ℕ → Next → Type 0
IsNext Greater least live t opened place (Made step) = StepsOn Greater least live t step opened place
IsNext Greater least live t opened place Irreducible = IsIrreducible Greater least (equations_of live) t
IsNext Greater least live t opened place TooLarge = IsLarge Greater least live t

-- a step from the term is possible
pub record CanStep (Greater : Tree → Tree → Type 0) (least : Sym) (live : List Live) (t : Tree) : Type 0 where
  pub at : ℕ
  pub rule : Rule
  pub v : Tree
  pub first : FirstStep Greater least live t at rule v

-- why there is no step where none may be made any more
abbrev pub IsLast : (Tree → Tree → Type 0) → Sym → List Live → Tree → Stop → Type 0
IsLast Greater least live t Full = IsIrreducible Greater least (equations_of live) t
IsLast Greater least live t Steps = CanStep Greater least live t
IsLast Greater least live t Size = ⊥

-- the steps from a term, with the term to which they lead, and why there are no more
abbrev pub normal_by : Tree → List Step → Stop → Normal
normal_by t steps stop = record { term = last_term t steps; chain = record { start = t; steps = steps }; stop = stop }
