use Rattle.std.proofs.Common.{◌≡◌, ℕ, List, Some, None, Option, subst}
use Rattle.uc_term.specs.declared.node.Sym.{Sym}
use Rattle.uc_term.specs.Flat.{tree_of}
use Rattle.uc_term.specs.Tree.{Tree}
use Rattle.uc_fact.specs.declared.index.Found.{Found}
use Rattle.uc_fact.specs.Live.{Live, AreRising, rules_of}
use Rattle.uc_fact.specs.Retrieval.{FirstThat}
use Rattle.uc_ac.specs.declared.ac_law.AcLaw.{AcLaw}
use Rattle.uc_ac.specs.AcFacts.{IsFactThat}
use Rattle.uc_ac.specs.Joining.{IsLeastThat}
use Rattle.uc_ac.specs.Found.{IsInstanceOf}
use Rattle.uc_ac.proofs.LeastFacts.{least_found, none_found}
use Rattle.uc_ac.proofs.least.first_fact.Goals as goal

module _ (law : AcLaw) (f : Sym) (t : Tree) (matched : IsInstanceOf law f t) (live : List Live) (o : Option Found) (rising : AreRising live) (first : FirstThat (λ found. IsFactThat live law f found.fact) t (rules_of live) o) where
  at_some : (found : Found) → o ≡ Some found → IsLeastThat live law f found.fact
  at_some found e = least_found law f t matched live rising found (subst (FirstThat (λ found. IsFactThat live law f found.fact) t (rules_of live)) e first)

  at_none : o ≡ None → (k : ℕ) → IsFactThat live law f k → ⊥
  at_none e = none_found law f t matched live rising (subst (FirstThat (λ found. IsFactThat live law f found.fact) t (rules_of live)) e first)

pub returns-in-Some : goal.returns-in-Some
returns-in-Some g c = at_some c.args.law c.args.f (tree_of c.args.term.now) c.requires.found (g.I.Index.live c.args.index.now) c.in_ok-found.field-0 (g.met.I.Index.rising c.args.index.now) c.in_ok-found.ensures.value c.in-Some.found c.in-Some.is

pub returns-in-None : goal.returns-in-None
returns-in-None g c = at_none c.args.law c.args.f (tree_of c.args.term.now) c.requires.found (g.I.Index.live c.args.index.now) c.in_ok-found.field-0 (g.met.I.Index.rising c.args.index.now) c.in_ok-found.ensures.value c.in-None.is
