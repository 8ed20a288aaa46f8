-- Variables that an order of variables has.
use Rattle.std.specs.Prelude.{◌<◌, length}
use Rattle.uc_term.specs.declared.node.Node.{Node}
use Rattle.uc_term.specs.declared.node.Node.TheVariants.{Var, App}
use Rattle.uc_order.specs.VarOrders.{Classes, class_of}

-- if it is a variable, it is in one of the classes
abbrev pub IsKnown : Classes → Node → Type 0
IsKnown cs (Var x) = class_of cs x < length cs
IsKnown cs (App f n) = Unit {0}
