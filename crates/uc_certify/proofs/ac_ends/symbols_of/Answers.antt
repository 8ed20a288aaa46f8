use Rattle.std.proofs.Common.{◌+◌, List, [], take, subst, sym}
use Rattle.uc_certificate.specs.declared.certificate.AcTriple.{AcTriple}
use Rattle.uc_certify.specs.Testing.{MakeAc}
use Rattle.uc_certify.proofs.AcEnds.{makes_more, makes_at}
use Rattle.uc_certify.proofs.Lists.{taken_all}
use Rattle.uc_certify.proofs.ac_ends.symbols_of.Goals as goal

pub loop-triple-init : goal.loop-triple-init
loop-triple-init c = subst (MakeAc c.args.facts.now []) (sym c.new-symbols.ensures.items) tt

pub returns-in_default : goal.returns-in_default
returns-in_default c = λ fs m. (let one = makes_at c.args.facts.now c.args.triples.now c.loop-triple.triple-index _ fs c.loop-triple-test.true m in c.in_default.ensures one.0 one.1)

pub loop-triple-preserved : goal.loop-triple-preserved
loop-triple-preserved c =
    subst (MakeAc c.args.facts.now (take (c.loop-triple.triple-index + 1) c.args.triples.now)) (sym c.in_ok-push.ensures.items)
    (makes_more c.args.facts.now c.args.triples.now c.loop-triple.triple-index _ c.loop-triple.symbols.items c.in-Some.symbol c.loop-triple-test.true c.in-Some.ensures c.loop-triple.invariant)

pub returns : goal.returns
returns c = subst (λ (ts : List AcTriple). MakeAc c.args.facts.now ts c.loop-triple.symbols.items) (taken_all c.args.triples.now c.loop-triple.triple-index c.loop-triple-test.false) c.loop-triple.invariant
