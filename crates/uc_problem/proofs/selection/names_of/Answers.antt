use Rattle.std.proofs.Common.{refl}
use Rattle.uc_problem.specs.Loading.{gives_name, same_name}
use Rattle.uc_problem.specs.NameSets.{has_name}
use Rattle.uc_problem.proofs.NameKeys.{nothing_behind, one_behind}
use Rattle.uc_problem.proofs.selection.names_of.Goals as goal

pub returns : goal.returns
returns c = λ name. nothing_behind (λ clauses. gives_name clauses name) c.args.clauses.now c.loop-flat.flat-index (has_name c.loop-flat.given.words.keys c.loop-flat.given.integers.keys name) refl (c.loop-flat.invariant name) c.loop-flat-test.false

pub loop-flat-preserved : goal.loop-flat-preserved
loop-flat-preserved c = λ name. one_behind (λ clauses. gives_name clauses name) (λ s. same_name s.clause.name name) (λ s ss. refl) c.args.clauses.now c.loop-flat.flat-index c.flat-item.result _ _ c.loop-flat-test.true c.flat-item.is (c.loop-flat.invariant name) (c.in_ok-insert.ensures name)
