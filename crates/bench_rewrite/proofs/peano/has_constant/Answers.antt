use Rattle.std.proofs.Common.{◌∙◌, sym, get_or}
use Rattle.uc_lpo.proofs.Precedences.{get_in}
use Rattle.bench_rewrite.proofs.peano.has_constant.Goals as goal

pub returns-then-arity-eq0 : goal.returns-then-arity-eq0
returns-then-arity-eq0 c = λ _. record {
  constant = get_or c.args.list.now c.loop-f.f-index (record { 0 = 0 });
  is_there = get_in c.args.list.now c.loop-f.f-index (record { 0 = 0 }) c.loop-f-test.true;
  is_bare = sym c.arity.ensures ∙ c.if-arity-eq0.true;
}
