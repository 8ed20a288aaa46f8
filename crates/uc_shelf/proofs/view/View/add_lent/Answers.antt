use Rattle.std.proofs.Common.{map, append-nil, sym, arith}
use Rattle.uc_shelf.specs.Lending.{lent_of}
use Rattle.uc_shelf.proofs.Lending.{lent_next, lent_all}
use Rattle.uc_shelf.proofs.view.View.add_lent.Goals as goal

pub loop-fact-init : goal.loop-fact-init
loop-fact-init c = sym (append-nil (map lent_of c.args.list.now.items))

pub loop-fact-preserved : goal.loop-fact-preserved
loop-fact-preserved c = lent_next c.args.self.now c.args.facts.now c.loop-fact.fact-index c.fact-item.result (map lent_of c.args.list.now.items) (map lent_of c.loop-fact.list.items) c.loop-fact-test.true c.fact-item.is c.loop-fact.invariant (map lent_of c.lend.new.list.items) c.in_ok-lend.ensures

pub returns : goal.returns
returns c = lent_all c.args.self.now c.args.facts.now c.loop-fact.fact-index (map lent_of c.args.list.now.items) (map lent_of c.loop-fact.list.items) (omega (arith, c.loop-fact-test.false)) c.loop-fact.invariant
