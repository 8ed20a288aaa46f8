use Rattle.std.proofs.Common.{◌<◌, Bool, true, false, IsTrue, List, length, ap, arith}
use mathlib.Core.Bool.{not}
use Rattle.uc_term.specs.declared.node.Node.{Node}
use Rattle.uc_term.specs.Flat.{tree_of, IsWhole}
use Rattle.uc_term.proofs.Terms.{length-flat, nodes_pos}
use Rattle.uc_fact.proofs.Fitting.{at_start, at_clash}
use Rattle.uc_fact.proofs.instance.heads_differ.Goals as goal

some : (ns : List Node) → IsWhole ns → 0 < length ns
some ns w = omega (arith, ap length w, length-flat (tree_of ns), nodes_pos (tree_of ns))

clash : (b : Bool) → IsTrue (not b) → IsTrue b → ⊥
clash true h k = cc
clash false h k = cc

pub returns-in-App : goal.returns-in-App
returns-in-App c h = at_clash c.args.pattern.now c.args.term.now c.requires.whole_pattern c.requires.whole_term 0 0 _ (some c.args.pattern.now c.requires.whole_pattern) c.in-App.f c.in-App.n c.in-App.is (λ e. clash c.is_head.result h (c.is_head.ensures.1 e)) (at_start c.args.pattern.now c.args.term.now c.requires.whole_pattern c.requires.whole_term)
