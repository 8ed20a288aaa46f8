use Rattle.uc_ac.proofs.Reading.{pair_reads, unwrapped}
use Rattle.uc_ac.proofs.numbering.read_pair.Goals as goal

pub returns-clause-read : goal.returns-clause-read
returns-clause-read c symbols i ts s =
    pair_reads symbols c.args.classes.now c.parts_of.new.classes c.parts_of-2.new.classes c.args.terms.now.items c.pop.new.self.items c.pop-2.new.self.items c.push.new.self.items c.args.f c.unwrap-first.result c.unwrap-second.result c.in_ok-left.left.items c.in_ok-right.right.items c.in_ok-both.both ts i c.in_ok-left.ensures.grown c.in_ok-right.ensures.grown
    (unwrapped c.args.terms.now.items c.pop.new.self.items c.pop.result c.unwrap-first.result c.pop.ensures.items c.unwrap-first.ensures)
    (unwrapped c.pop.new.self.items c.pop-2.new.self.items c.pop-2.result c.unwrap-second.result c.pop-2.ensures.items c.unwrap-second.ensures)
    c.in_ok-push.ensures.items (λ t. c.in_ok-left.ensures.parts symbols t i) (λ t. c.in_ok-right.ensures.parts symbols t i) c.in_ok-both.ensures s
