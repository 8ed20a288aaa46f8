use Rattle.std.proofs.Common.{◌≡◌, ◌<◌, slice_index, arith}
use Rattle.uc_term.specs.declared.node.Sym.{Sym}
use Rattle.uc_order.proofs.Counts.{first_at}
use Rattle.uc_order.proofs.precedence.first_absent.Goals as goal

pub returns-then-count_of-eq0 : goal.returns-then-count_of-eq0
returns-then-count_of-eq0 c = first_at (λ (f : Sym). slice_index c.args.counts.now f.0 ≡ 0) (λ (f : Sym). 0 < slice_index c.args.counts.now f.0) c.args.list.now c.loop-f.f-index _ (λ f p q. absurd (omega arith)) c.loop-f-test.true c.loop-f.invariant (omega (arith, c.count_of.ensures, c.if-count_of-eq0.true))
