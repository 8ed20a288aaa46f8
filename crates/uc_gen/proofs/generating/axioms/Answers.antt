use Rattle.std.proofs.Common.{◌≡◌, length, arith, ap, ◌∙◌}
use Rattle.uc_gen.specs.Generated.{first_axioms}
use Rattle.uc_gen.proofs.Axioms.{two_steps, more_axioms}
use Rattle.uc_gen.proofs.generating.axioms.Goals as goal

pub loop-number-preserved : goal.loop-number-preserved
loop-number-preserved c = record {
  state = two_steps c.args.start c.loop-number.number c.loop-number.state c.next-first.result c.next-second.result c.loop-number.invariant.state c.next-first.ensures.value c.next-second.ensures.value;
  small = c.next-second.ensures.small;
  axioms = more_axioms c.args.function c.args.constants.now c.args.start c.loop-number.number c.loop-number.state c.next-first.result c.next-second.result c.drawn_constant-from.result c.drawn_constant-to.result c.in_ok-taken.taken c.loop-number.axioms c.push.new.self c.loop-number.invariant.state c.next-first.ensures.value c.next-second.ensures.value c.drawn_constant-from.ensures c.drawn_constant-to.ensures c.in_ok-taken.ensures c.loop-number.invariant.axioms c.in_ok-push.ensures.ok;
}

pub returns : goal.returns
returns c =
    let all : c.loop-number.number ≡ length c.args.constants.now = omega (arith, c.loop-number-test.false, c.loop-number.auto.number-end) in
    c.loop-number.invariant.axioms ∙ ap (first_axioms c.args.constants.now c.args.start c.args.function) all
