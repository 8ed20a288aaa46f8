-- What is read can be printed.
use Rattle.std.proofs.Common.{List}
use Rattle.uc_term.specs.declared.node.Sym.{Sym}
use Rattle.uc_term.specs.declared.equation.Equation.{Equation}
use Rattle.uc_term.specs.Tree.{Tree, var, app, Trees, none, more}
use Rattle.uc_term.specs.Over.{IsTerm, AreOver}
use Rattle.uc_term.specs.Table.{Table, Has, IsOf, arity_of}
use Rattle.uc_order.specs.Members.{In, Each}
use Rattle.uc_order.specs.declared.spec.OrderSpec.{OrderSpec}
use Rattle.uc_order.specs.declared.spec.OrderSpec.TheVariants.{Kbo, Lpo}
use Rattle.uc_ordering.specs.Fits.{Fits}
use Rattle.uc_system.specs.declared.system.SystemText.{SystemText}
use Rattle.uc_system.specs.Facts.{IsFact}
use Rattle.uc_system.specs.Printing.{IsSpecOf, IsEquationOf}
use Rattle.uc_system.specs.Reading.{precedence_of, IsSystem}
use Rattle.uc_system.proofs.Precedence.{each_in, each_map}

module _ (table : Table) (fs : List Sym) (known : Each (Has table) fs) where
  mutual
    over_table : (t : Tree) → IsTerm (In fs) (arity_of table) t → IsOf table t
    over_table (var x) h = tt
    over_table (app f ts) h = (each_in (Has table) fs f known h.0, h.1, all_over_table ts h.2)

    all_over_table : (ts : Trees) → AreOver (In fs) (arity_of table) (λ _. Unit {0}) ts → AreOver (Has table) (arity_of table) (λ _. Unit {0}) ts
    all_over_table none h = tt
    all_over_table (more t ts) h = (over_table t h.0, all_over_table ts h.1)

  equation_of_table : (e : Equation) → IsFact table fs e → IsEquationOf table e
  equation_of_table e h = (over_table e.left h.left.over, over_table e.right h.right.over)

spec_of_table : (table : Table) (spec : OrderSpec) → Fits table (precedence_of spec) spec → IsSpecOf table spec
spec_of_table table (Kbo w0 weights precedence) h = (h.of_table, h.total.1.as_many)
spec_of_table table (Lpo precedence) h = h.of_table

pub spec_printable : (table : Table) (said : SystemText) → IsSystem table said → IsSpecOf table said.spec
spec_printable table said s = spec_of_table table said.spec s.fits

pub facts_printable : (table : Table) (said : SystemText) → IsSystem table said → Each (IsEquationOf table) said.system.facts
facts_printable table said s = each_map (IsFact table (precedence_of said.spec)) (IsEquationOf table) (equation_of_table table (precedence_of said.spec) s.fits.of_table) said.system.facts s.facts
