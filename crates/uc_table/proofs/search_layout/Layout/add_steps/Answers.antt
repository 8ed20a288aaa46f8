use Rattle.std.proofs.Common.{◌-◌, arith}
use Rattle.uc_term.specs.declared.node.Node.TheVariants.{Var}
use Rattle.uc_table.specs.Tables.{MOST_ASSIGNMENTS}
use Rattle.uc_table.specs.Against.{node_variables, nodes_variables}
use Rattle.std.proofs.Common.{get_or}
use Rattle.uc_table.proofs.SearchLayouts.{part_variables, fewer_powers}
use Rattle.uc_table.proofs.search_layout.Layout.add_steps.Goals as goal

pub step_of-requires-clause-few : goal.step_of-requires-clause-few
step_of-requires-clause-few c =
    fewer_powers c.args.self.now.size (node_variables (get_or c.args.nodes.now (c.loop-at.at - 1) (Var 0))) (nodes_variables c.args.nodes.now) MOST_ASSIGNMENTS c.requires.laid_out.some
    (part_variables c.args.nodes.now (c.loop-at.at - 1) (Var 0) (omega arith)) c.requires.few
