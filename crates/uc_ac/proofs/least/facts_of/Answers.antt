use Rattle.std.proofs.Common.{◌≡◌, ℕ, List, Option, Some, None, MatchOption, refl}
use Rattle.uc_term.specs.declared.node.Sym.{Sym}
use Rattle.uc_fact.specs.Live.{Live}
use Rattle.uc_ac.specs.declared.ac_law.AcLaw.{AcLaw}
use Rattle.uc_ac.specs.declared.ac_law.AcLaw.TheVariants.{Assoc, Comm, Extended}
use Rattle.uc_ac.specs.AcFacts.{IsFactThat}
use Rattle.uc_ac.specs.Joining.{IsLeastThat}
use Rattle.uc_ac.proofs.Gathering.{has_comm, has_assoc, has_extended}
use Rattle.uc_ac.proofs.least.facts_of.Goals as goal

none_is : (live : List Live) (law : AcLaw) (f : Sym) (o : Option ℕ) → ((k : ℕ) → o ≡ Some k → ⊥) → MatchOption o ((k : ℕ) → IsFactThat live law f k → ⊥) (IsLeastThat live law f) → (k : ℕ) → IsFactThat live law f k → ⊥
none_is live law f None n h = h
none_is live law f (Some k) n h = absurd (n k refl)

pub returns-in_default : goal.returns-in_default
returns-in_default g c a = none_is (g.I.Index.live c.args.index.now) Comm c.args.f c.in_ok-comm.field-0 c.in_default.not-Some c.in_ok-comm.ensures a.facts.comm (has_comm (g.I.Index.live c.args.index.now) c.args.f a)

pub returns-in_default-2 : goal.returns-in_default-2
returns-in_default-2 g c a = none_is (g.I.Index.live c.args.index.now) Assoc c.args.f c.in_ok-assoc.field-0 c.in_default-2.not-Some c.in_ok-assoc.ensures a.facts.assoc (has_assoc (g.I.Index.live c.args.index.now) c.args.f a)

pub returns-in_default-3 : goal.returns-in_default-3
returns-in_default-3 g c a = none_is (g.I.Index.live c.args.index.now) Extended c.args.f c.in_ok-extended.field-0 c.in_default-3.not-Some c.in_ok-extended.ensures a.facts.extended (has_extended (g.I.Index.live c.args.index.now) c.args.f a)
