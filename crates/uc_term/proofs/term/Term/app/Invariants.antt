use Rattle.std.proofs.Common.{◌≡◌, ◌+◌, ◌*◌, ◌≤◌, ◌∷◌, length, take}
use Rattle.uc_term.specs.declared.node.Node.TheVariants.{App}
use Rattle.uc_term.specs.Tree.{of_list, nodes_all}
use Rattle.uc_term.specs.Flat.{flat_all}
use Rattle.uc_term.proofs.term.Term.app.Given as goal

abbrev pub invariant-loop-t : goal.invariant-loop-t
invariant-loop-t l = record { sum : l.total ≡ nodes_all (of_list (take l.t-index l.args)) + 1; small : l.total ≤ 4096 * l.t-index + 1 }

abbrev pub invariant-loop-t-2 : goal.invariant-loop-t-2
invariant-loop-t-2 l = l.list.items ≡ App l.fn.sym (length l.args) ∷ flat_all (of_list (take l.t-index l.args))
