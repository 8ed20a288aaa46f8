use Rattle.std.proofs.Common.{subst}
use Rattle.uc_term.specs.Flat.{tree_of}
use Rattle.uc_fact.specs.Live.{equations_of}
use Rattle.uc_fact.specs.Ordered.{IsIrreducible}
use Rattle.uc_rewrite.specs.Walking.{Stops}
use Rattle.uc_rewrite.specs.Ends.{CanStep}
use Rattle.uc_rewrite.proofs.Advancing.{some_of}
use Rattle.uc_rewrite.proofs.Stepping.{can_step}
use Rattle.uc_rewrite.proofs.normal.last_stop.Goals as goal

pub returns : goal.returns
returns g c =
    let stops = some_of (IsIrreducible (g.C.Comparison.greater c.args.rules.now.comparison.now) (g.C.Comparison.constant c.args.rules.now.comparison.now) (equations_of (g.I.Index.live c.args.rules.now.index.now)) (tree_of c.as_nodes.result.now)) (Stops (g.C.Comparison.greater c.args.rules.now.comparison.now) (g.C.Comparison.constant c.args.rules.now.comparison.now) (g.I.Index.live c.args.rules.now.index.now) (tree_of c.as_nodes.result.now) c.next.new.self.opened.items) c.in_ok-_redex.field-0 c.in-Some._redex c.in-Some.is c.in_ok-_redex.ensures.redex in
    subst (CanStep (g.C.Comparison.greater c.args.rules.now.comparison.now) (g.C.Comparison.constant c.args.rules.now.comparison.now) (g.I.Index.live c.args.rules.now.index.now)) c.as_nodes.ensures.tree (can_step (g.C.Comparison.greater c.args.rules.now.comparison.now) (g.C.Comparison.constant c.args.rules.now.comparison.now) (g.I.Index.live c.args.rules.now.index.now) (g.met.I.Index.rising c.args.rules.now.index.now) c.as_nodes.result.now c.as_nodes.ensures.whole c.next.new.self.opened.items c.in-Some._redex stops)
