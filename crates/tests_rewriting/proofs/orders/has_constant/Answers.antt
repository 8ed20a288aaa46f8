use Rattle.std.proofs.Common.{◌∙◌, sym, get_or}
use Rattle.uc_lpo.proofs.Precedences.{get_in}
use Rattle.tests_rewriting.proofs.orders.has_constant.Goals as goal

pub returns-then-arity-eq0-clause-kbo : goal.returns-then-arity-eq0-clause-kbo
returns-then-arity-eq0-clause-kbo c = λ _. (get_or c.args.list.now c.loop-f.f-index (record { 0 = 0 }), (get_in c.args.list.now c.loop-f.f-index (record { 0 = 0 }) c.loop-f-test.true, sym c.arity.ensures ∙ c.if-arity-eq0.true))

pub returns-then-arity-eq0-clause-lpo : goal.returns-then-arity-eq0-clause-lpo
returns-then-arity-eq0-clause-lpo c = λ _. record {
  constant = get_or c.args.list.now c.loop-f.f-index (record { 0 = 0 });
  is_there = get_in c.args.list.now c.loop-f.f-index (record { 0 = 0 }) c.loop-f-test.true;
  is_bare = sym c.arity.ensures ∙ c.if-arity-eq0.true;
}
