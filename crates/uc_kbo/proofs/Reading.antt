-- A part of a list of nodes with renamed variables.
use Rattle.std.proofs.Common.{◌≡◌, ℕ, ◌-◌, List, take, ap, ◌∙◌, drop}
use Rattle.uc_term.specs.declared.node.Node.{Node}
use Rattle.uc_order.specs.Renamed.{renamed_nodes}
use Rattle.uc_order.proofs.Reading.{take-renamed, drop-renamed}
use Rattle.uc_kbo.specs.Runs.{part}

pub part-renamed : (r : ℕ → ℕ) (ns : List Node) (i j : ℕ) → part (renamed_nodes r ns) i j ≡ renamed_nodes r (part ns i j)
part-renamed r ns i j = ap (take (j - i)) (drop-renamed r i ns) ∙ take-renamed r (j - i) (drop i ns)
