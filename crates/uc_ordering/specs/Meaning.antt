-- What an order of either kind says.
use Rattle.std.specs.Prelude.{◌≡◌, ◌↔◌, map, Option, Some, None}
use Rattle.uc_term.specs.declared.node.Sym.{Sym}
use Rattle.uc_term.specs.Tree.{Tree}
use Rattle.uc_term.specs.Table.{Table, arity_of}
use Rattle.uc_term.specs.Signatures.{first_constant}
use Rattle.uc_order.specs.VarOrders.{Classes}
use Rattle.uc_order.specs.Laws.{Meaning}
use Rattle.uc_order.specs.declared.spec.OrderSpec.{OrderSpec}
use Rattle.uc_order.specs.declared.spec.OrderSpec.TheVariants.{Kbo, Lpo}
use Rattle.uc_kbo.specs.Faults.{weighed}
use Rattle.uc_kbo.specs.Weights.{kbo_meaning}
use Rattle.uc_lpo.specs.Meaning.{meaning_of as lpo_meaning}

abbrev pub or_first : Option Sym → Sym
or_first None = record { 0 = 0 }
or_first (Some f) = f

-- the Knuth-Bendix order or the lexicographic path order of a precedence of symbols of the table
abbrev pub meaning_of : Table → OrderSpec → Meaning
meaning_of table (Kbo w0 weights precedence) = kbo_meaning w0 (weighed table precedence weights)
meaning_of table (Lpo precedence) = lpo_meaning precedence (map (arity_of table) precedence) (or_first (first_constant table precedence))

-- two orders say the same
pub record SayAlike (m n : Meaning) : Type 0 where
  pub symbols : m.symbols ≡ n.symbols
  pub arity : (f : Sym) → m.arity f ≡ n.arity f
  pub greater : (s t : Tree) → m.greater s t ↔ n.greater s t
  pub under : (cases : Classes) (s t : Tree) → m.under cases s t ↔ n.under cases s t
  pub least : m.least ≡ n.least
