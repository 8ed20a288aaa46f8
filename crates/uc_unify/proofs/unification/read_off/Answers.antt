use Rattle.std.proofs.Common.{◌≡◌, ℕ, ◌<◌, List, length, get_or, ◌∙◌, arith, subst, Bool, true, false}
use Rattle.std.proofs.lemmas.List.{get_or_default}
use Rattle.uc_term.specs.declared.node.Node.{Node}
use Rattle.uc_unify.specs.Closure.{class, IsClosed}
use Rattle.uc_unify.specs.Solutions.{AreSized, AreSizes}
use Rattle.uc_unify.proofs.Outcome.{apart, too_large, writable, unifier}
use Rattle.uc_unify.proofs.unification.read_off.Goals as goal

-- the size that is read is that of the first term
root : (ns : List Node) (classes sizes : List ℕ) (second : ℕ) → second < length ns → IsClosed ns second classes → AreSized ns classes sizes → (size : ℕ) → size ≡ get_or sizes (get_or classes 0 0) size → size ≡ get_or sizes (class classes 0) 0
root ns classes sizes second h closed sized size e = e ∙ get_or_default sizes (class classes 0) size 0 (let i = closed.are_classes.within 0 (omega arith) in let l = sized.long in omega arith)

-- what the sizes have come to
come_to : (ns : List Node) (classes sizes : List ℕ) (b d : Bool) → b ≡ d → AreSizes ns classes sizes b → AreSizes ns classes sizes d
come_to ns classes sizes b d e s = subst (AreSizes ns classes sizes) e s

pub returns-then-not-branch : goal.returns-then-not-branch
returns-then-not-branch c =
    let h = come_to c.args.nodes.now c.args.classes.now c.sizes_of.new.sizes.items _ false c.if-not-branch.true c.in_ok-sizes_of.ensures in
    apart c.args.nodes.now c.requires.whole c.args.second c.args.classes.now c.requires.closed h.sizes h.sized h.stuck h.one_has_none.0 h.one_has_none.1 h.one_has_none.2

pub returns-then-index : goal.returns-then-index
returns-then-index c =
    let h = come_to c.args.nodes.now c.args.classes.now c.sizes_of.new.sizes.items _ true c.if-not-branch.false c.in_ok-sizes_of.ensures in
    let e = root c.args.nodes.now c.args.classes.now c.sizes_of.new.sizes.items c.args.second c.requires.within c.requires.closed h.sized c.index.result.now c.index.ensures in
    too_large c.args.nodes.now c.requires.whole c.args.second c.args.classes.now c.requires.closed c.sizes_of.new.sizes.items h.sized c.requires.first c.requires.last c.requires.within h.all_are (let t = c.if-index.true in omega arith)

pub solution-requires-clause-writable : goal.solution-requires-clause-writable
solution-requires-clause-writable c =
    let h = come_to c.args.nodes.now c.args.classes.now c.sizes_of.new.sizes.items _ true c.if-not-branch.false c.in_ok-sizes_of.ensures in
    let e = root c.args.nodes.now c.args.classes.now c.sizes_of.new.sizes.items c.args.second c.requires.within c.requires.closed h.sized c.index.result.now c.index.ensures in
    writable c.args.nodes.now c.requires.whole c.args.second c.args.classes.now c.requires.closed c.sizes_of.new.sizes.items h.sized c.requires.first c.requires.last c.requires.within h.all_are (let t = c.if-index.false in omega arith)

pub returns : goal.returns
returns c =
    let h = come_to c.args.nodes.now c.args.classes.now c.sizes_of.new.sizes.items _ true c.if-not-branch.false c.in_ok-sizes_of.ensures in
    let e = root c.args.nodes.now c.args.classes.now c.sizes_of.new.sizes.items c.args.second c.requires.within c.requires.closed h.sized c.index.result.now c.index.ensures in
    unifier c.args.nodes.now c.requires.whole c.args.second c.args.classes.now c.requires.closed c.sizes_of.new.sizes.items h.sized c.requires.first c.requires.last c.requires.within h.all_are (let t = c.if-index.false in omega arith) c.solution.new.subst c.in_ok-solution.ensures
