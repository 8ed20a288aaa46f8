use Rattle.std.proofs.Common.{arith, ◌+◌, ◌∙◌, ap}
use Rattle.std.proofs.lemmas.List.{take_all}
use Rattle.uc_machine.specs.Runs.{axiom_pairs}
use Rattle.uc_book.proofs.Beginning.{axioms_at}
use Rattle.uc_book.proofs.starting.axiom_pairs.Goals as goal

pub loop-k-preserved : goal.loop-k-preserved
loop-k-preserved c = record {
  pairs = axioms_at c.args.axioms.now c.loop-k.k c.index-axioms-k.result (c.nodes.result + c.nodes-in-loop-k.result) c.loop-k.pairs.pairs c.add.new.self.pairs (omega arith) c.index-axioms-k.is (omega (arith, c.nodes.ensures.value, c.nodes-in-loop-k.ensures.value)) c.loop-k.invariant.pairs c.add.ensures.pairs;
  draws = c.add.ensures.draws ∙ c.loop-k.invariant.draws;
  room = omega arith;
  spare = omega arith;
}

pub returns-clause-pairs : goal.returns-clause-pairs
returns-clause-pairs c = c.loop-k.invariant.pairs ∙ ap (axiom_pairs 0) (take_all c.loop-k.k c.args.axioms.now (omega arith))
