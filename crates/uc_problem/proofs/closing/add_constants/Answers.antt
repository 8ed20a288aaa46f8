use Rattle.std.proofs.Common.{length, length-append, [], ◌∷◌, ◌+◌, ap, ◌∙◌}
use Rattle.uc_term.specs.Table.{IsInterned}
use Rattle.uc_term.proofs.Grown.{interned_grows}
use Rattle.uc_problem.proofs.Later.{Grows-trans}
use Rattle.uc_problem.proofs.ConstantNames.{added, named, adds_one, names_one}
use Rattle.uc_problem.proofs.closing.add_constants.Goals as goal

pub loop-preserved : goal.loop-preserved
loop-preserved c =
    let now = c.loop.symbols in
    let next = c.intern.new.self in
    let name = c.in_ok-number.name.items in
    let f = c.in_ok-intern.field-0 in
    let interned : IsInterned now next name 0 f = rw c.as_slice.ensures.value at c.in_ok-intern.ensures.interned in
    let pushed = c.in_ok-push.ensures.items in
    record {
      count = ap length pushed ∙ length-append c.loop.constants.items (f ∷ []) ∙ ap (λ n. n + 1) c.loop.invariant.count;
      grows = Grows-trans c.args.symbols.now now next c.loop.invariant.grows (interned_grows now next name 0 f interned);
      adds = adds_one now next c.loop.constants.items c.push.new.self.items f pushed name interned c.args.symbols.now c.loop.invariant.adds;
      named = λ ts of are. names_one now next c.loop.constants.items c.push.new.self.items f pushed name interned c.args.symbols.now ts c.args.names.now.keys of are c.loop.invariant.grows c.loop.from c.in_ok-number.number c.in_ok-number.ensures.next (c.loop.invariant.named ts of are);
    }

pub returns-clause-named : goal.returns-clause-named
returns-clause-named c = λ ts of are. named c.loop.symbols ts c.loop.from c.loop.constants.items (c.loop.invariant.named ts of are)

pub returns-clause-adds : goal.returns-clause-adds
returns-clause-adds c = added c.args.symbols.now c.loop.symbols c.loop.constants.items c.loop.invariant.adds
