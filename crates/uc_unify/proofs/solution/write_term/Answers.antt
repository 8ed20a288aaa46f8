use Rattle.std.proofs.Common.{◌++◌, ◌∷◌, [], ◌∙◌, ap, arith}
use Rattle.uc_unify.proofs.Writing.{writing_starts, writing_more, writing_ends, top, room}
use Rattle.uc_unify.proofs.solution.write_term.Goals as goal

pub loop-place-init : goal.loop-place-init
loop-place-init c = λ t s. rw c.clear.ensures.items (writing_starts c.args.nodes.now c.args.classes.now c.requires.whole c.args.start t c.push.new.self.items (c.in_ok-push.ensures.items ∙ ap (λ l. l ++ (c.args.start, 1) ∷ []) c.clear-2.ensures.items) c.requires.within s)

pub write_node-requires-clause-fits : goal.write_node-requires-clause-fits
write_node-requires-clause-fits c = (top c.args.nodes.now c.args.classes.now c.requires.writable.term c.loop-place.list.items c.loop-place.pending.items c.pop.new.self.items c.in-Some.place c.in-Some.terms c.in-Some.ensures.items (c.loop-place.invariant c.requires.writable.term c.requires.writable.solves)).fits

pub write_node-requires-clause-some : goal.write_node-requires-clause-some
write_node-requires-clause-some c = (top c.args.nodes.now c.args.classes.now c.requires.writable.term c.loop-place.list.items c.loop-place.pending.items c.pop.new.self.items c.in-Some.place c.in-Some.terms c.in-Some.ensures.items (c.loop-place.invariant c.requires.writable.term c.requires.writable.solves)).some

pub loop-place-smaller : goal.loop-place-smaller
loop-place-smaller c =
    let r = room c.args.nodes.now c.args.classes.now c.requires.writable.term c.loop-place.list.items c.loop-place.pending.items c.pop.new.self.items c.in-Some.place c.in-Some.terms c.in-Some.ensures.items (c.loop-place.invariant c.requires.writable.term c.requires.writable.solves) c.requires.writable.small in
    let l = c.in_ok-write_node.ensures.longer in
    omega (arith, c.loop-place.list.ok.0, c.write_node.new.list.ok.0)

pub loop-place-preserved : goal.loop-place-preserved
loop-place-preserved c = λ t s. writing_more c.args.nodes.now c.args.classes.now t c.loop-place.list.items c.loop-place.pending.items c.pop.new.self.items c.in-Some.place c.in-Some.terms c.in-Some.ensures.items (c.loop-place.invariant t s) c.write_node.new.list.items c.write_node.new.pending.items c.in_ok-write_node.ensures

pub returns : goal.returns
returns c = λ t s. writing_ends c.args.nodes.now c.args.classes.now c.args.start t t c.loop-place.list.items c.loop-place.pending.items (omega (arith, c.in_default.ensures.cases.0, c.loop-place.pending.ok.0)) (c.loop-place.invariant t s) s s
