-- Variables renamed in a list of nodes.
use Rattle.std.specs.Prelude.{ℕ, List, map}
use Rattle.uc_term.specs.declared.node.Node.{Node}
use Rattle.uc_term.specs.declared.node.Node.TheVariants.{Var, App}

abbrev pub renamed_node : (ℕ → ℕ) → Node → Node
renamed_node r (Var x) = Var (r x)
renamed_node r (App f n) = App f n

abbrev pub renamed_nodes : (ℕ → ℕ) → List Node → List Node
renamed_nodes r = map (renamed_node r)
