use Rattle.std.proofs.Common.{◌-◌, arith}
use Rattle.uc_ac.proofs.OneClass.{grown_same, grown_on}
use Rattle.uc_ac.proofs.Reading.{unwrapped, one_less, closed_none, closed_more}
use Rattle.uc_ac.proofs.numbering.close_arguments.Goals as goal

pub loop-left-init : goal.loop-left-init
loop-left-init c = record {
  enough = c.requires.enough;
  within = omega arith;
  grown = grown_same c.args.classes.now;
  closed = λ symbols ts s. closed_none symbols c.args.classes.now c.args.terms.now.items c.args.numbers.now.items (c.args.n - c.args.n) ts (omega arith) s;
}

pub loop-left-preserved : goal.loop-left-preserved
loop-left-preserved c =
    let top = unwrapped c.loop-left.terms.items c.pop.new.self.items c.pop.result c.unwrap-read.result c.pop.ensures.items c.unwrap-read.ensures in
    record {
      enough = omega (arith, c.loop-left.invariant.enough, c.loop-left-test.true, one_less c.loop-left.terms.items c.pop.new.self.items c.unwrap-read.result top);
      within = omega (arith, c.loop-left.invariant.within);
      grown = grown_on c.args.classes.now c.loop-left.classes c.close.new.classes c.loop-left.invariant.grown c.in_ok-close.ensures.grown;
      closed = λ symbols ts s. closed_more symbols c.loop-left.classes c.close.new.classes c.in_ok-close.ensures.grown c.loop-left.terms.items c.pop.new.self.items c.unwrap-read.result c.args.numbers.now.items c.loop-left.numbers.items c.push.new.self.items c.in_ok-close.field-0 (c.args.n - c.loop-left.left) (c.args.n - (c.loop-left.left - 1)) ts (c.loop-left.invariant.closed symbols ts s) top (λ t. c.in_ok-close.ensures.number symbols t) c.in_ok-push.ensures.items (omega (arith, c.loop-left.invariant.within, c.loop-left-test.true));
    }
