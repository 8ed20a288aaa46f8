use Rattle.std.proofs.Common.{refl, arith}
use Rattle.uc_term.proofs.Terms.{nodes_whole, whole_one}
use Rattle.uc_term.proofs.Ahead.{at_place}
use Rattle.uc_term.proofs.term.Term.at.Goals as goal

pub returns-then-from-len-clause-err : goal.returns-then-from-len-clause-err
returns-then-from-len-clause-err c =
    let size = nodes_whole c.self.inside.list.items c.self.invariant.0 in
    (refl, rw (← c.self.view_is) (omega (arith, c.self.inside.list.ok.0)))

pub returns-clause-ok : goal.returns-clause-ok
returns-clause-ok c =
    at_place c.as_slice-list.result.now c.self.inside.list.items c.args.self.now c.args.pos.0 c.end_of-to.result c.as_slice-list.ensures.value c.self.invariant.0 c.self.view_is (omega (arith, c.self.inside.list.ok.0)) c.end_of-to.ensures.end

pub end_of-to-requires-clause-whole : goal.end_of-to-requires-clause-whole
end_of-to-requires-clause-whole c = whole_one c.as_slice-list.result.now (rw c.as_slice-list.ensures.value c.self.invariant.0)
