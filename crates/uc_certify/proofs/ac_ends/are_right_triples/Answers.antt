use Rattle.std.proofs.Common.{List, subst, sym}
use Rattle.uc_term.specs.declared.node.Sym.{Sym}
use Rattle.uc_certify.specs.Testing.{MakeAc}
use Rattle.uc_certify.proofs.AcEnds.{right_if, equal_if, none_right}
use Rattle.uc_certify.proofs.Lists.{never, of_none, same_test}
use Rattle.uc_certify.proofs.ac_ends.are_right_triples.Goals as goal

pub returns-in_default : goal.returns-in_default
returns-in_default c = never (none_right c.args.facts.now c.args.s.now c.args.t.now c.args.triples.now (of_none _ c.in_ok-symbols.field-0 c.in_default.not-Some c.in_ok-symbols.ensures))

pub returns : goal.returns
returns c =
    let found = rw c.in-Some.is at c.in_ok-symbols.ensures in
    let make : MakeAc c.args.facts.now c.args.triples.now c.as_slice.result.now = subst (λ (fs : List Sym). MakeAc c.args.facts.now c.args.triples.now fs) (sym c.as_slice.ensures.value) found in
    same_test c.ac_equal.result (right_if c.args.facts.now c.args.s.now c.args.t.now c.args.triples.now c.as_slice.result.now make) (equal_if c.args.facts.now c.args.s.now c.args.t.now c.args.triples.now c.as_slice.result.now make) c.ac_equal.ensures
