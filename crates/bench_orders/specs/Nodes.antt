-- Nodes of flat lists.
use Rattle.std.specs.Prelude.{ℕ}
use Rattle.uc_term.specs.declared.node.Node.{Node}
use Rattle.uc_term.specs.declared.node.Node.TheVariants.{Var, App}

-- how many terms stand behind the node as its arguments
abbrev pub arguments : Node → ℕ
arguments (Var x) = 0
arguments (App f n) = n
