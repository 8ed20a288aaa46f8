use Rattle.uc_term.specs.declared.node.Node.TheVariants.{Var}
use Rattle.std.proofs.Common.{arith}
use Rattle.uc_term.proofs.Terms.{whole_one}
use Rattle.uc_term.proofs.Parts.{split}
use Rattle.uc_unify.proofs.Crossing.{at_other_var}
use Rattle.uc_unify.proofs.walking.go_on_at_other_var.Goals as goal

pub end_of-end-requires-clause-whole : goal.end_of-end-requires-clause-whole
end_of-end-requires-clause-whole c = whole_one c.args.s.now c.requires.whole_s

pub bind-requires-clause-whole : goal.bind-requires-clause-whole
bind-requires-clause-whole c = (split c.args.s.now c.args.p c.end_of-end.result (whole_one c.args.s.now c.requires.whole_s) c.requires.within c.end_of-end.ensures.end).whole

pub returns-then-branch : goal.returns-then-branch
returns-then-branch c = (at_other_var c.args.s.now c.args.t.now c.requires.whole_s c.requires.whole_t c.args.p c.args.q c.args.subst.now (Var 0) c.requires.within c.requires.reduced c.args.y c.requires.var c.end_of-end.result c.end_of-end.ensures.end c.bind.new.subst (rw c.if-branch.true at c.in_ok-bind.ensures), (let p = split c.args.s.now c.args.p c.end_of-end.result (whole_one c.args.s.now c.requires.whole_s) c.requires.within c.end_of-end.ensures.end in omega (arith, p.within.0)), c.end_of-end.ensures.in_list)
