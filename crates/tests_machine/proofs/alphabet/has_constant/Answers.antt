use Rattle.std.proofs.Common.{◌∙◌, sym, get_or}
use Rattle.uc_kbo.proofs.Known.{get_in}
use Rattle.tests_machine.proofs.alphabet.has_constant.Goals as goal

pub returns-then-arity-eq0 : goal.returns-then-arity-eq0
returns-then-arity-eq0 c = λ _. (get_or c.args.list.now c.loop-f.f-index (record { 0 = 0 }), (get_in c.args.list.now c.loop-f.f-index (record { 0 = 0 }) c.loop-f-test.true, sym c.arity.ensures ∙ c.if-arity-eq0.true))
