use Rattle.std.proofs.Common.{refl}
use Rattle.uc_problem.specs.Loading.{lists_name}
use Rattle.uc_problem.specs.NameSets.{has_name}
use Rattle.uc_problem.proofs.NameKeys.{nothing_behind}
use Rattle.uc_problem.proofs.selection.names_listed.Goals as goal

pub returns : goal.returns
returns c = λ name. nothing_behind (λ names. lists_name names name) c.args.names.now c.loop-name.name-index (has_name c.loop-name.listed.words.keys c.loop-name.listed.integers.keys name) refl (c.loop-name.invariant name) c.loop-name-test.false
