-- The lines of the facts, in order, and the last line:
--
--   cnf(sK, plain, EQUATION).          K from 1
--   % end
--
-- An equation stands as it is printed, with its variables numbered by first occurrence and symbols of the symbols' lines alone.
use Rattle.std.specs.Prelude.{◌≡◌, ◌≢◌, ℕ, ◌+◌, ◌≤◌, ◌<◌, true, List, [], ◌∷◌, ◌++◌, length, codes, decimal, Some, None}
use Rattle.uc_term.specs.declared.node.Sym.{Sym}
use Rattle.uc_term.specs.declared.equation.Equation.{Equation}
use Rattle.uc_term.specs.Tree.{Tree, nodes}
use Rattle.uc_term.specs.Over.{IsTerm}
use Rattle.uc_term.specs.Table.{Table, arity_of}
use Rattle.uc_term.specs.Variables.{variables, firsts, renumbered_by}
use Rattle.uc_clause.specs.Printing.{term_text, sign_text, equation_text}
use Rattle.uc_clause.specs.Printable.{AreNumbered}
use Rattle.uc_order.specs.Members.{In}
use Rattle.uc_system.specs.declared.fault.SystemFault.TheVariants.{Limit}
use Rattle.uc_system.specs.Lines.{Cut, first_line, place_in, departs, Outcome, gets, fails, Rule}

abbrev pub end_line : List ℕ
end_line = codes "% end"

-- what stands before and behind the equation of the fact of this number
abbrev pub fact_front : ℕ → List ℕ
fact_front k = codes "cnf(s" ++ decimal k ++ codes ", plain, "

abbrev pub fact_end : List ℕ
fact_end = codes ")."

abbrev pub fact_line : Table → ℕ → Equation → List ℕ
fact_line table k e = fact_front k ++ equation_text table true e.left e.right ++ fact_end

-- the variables of both sides, each once, by first occurrence
abbrev pub fact_variables : Equation → List ℕ
fact_variables e = firsts (variables e.left ++ variables e.right)

-- numbering its variables by first occurrence changes nothing
pub record IsInOrder (e : Equation) : Type 0 where
  pub left : renumbered_by (fact_variables e) e.left ≡ e.left
  pub right : renumbered_by (fact_variables e) e.right ≡ e.right

-- Term over these symbols, with their arities in the table, of at most 4,096 nodes.
pub record IsSide (table : Table) (precedence : List Sym) (t : Tree) : Type 0 where
  pub over : IsTerm (In precedence) (arity_of table) t
  pub small : nodes t ≤ 4096

-- an equation that may be a fact
pub record IsFact (table : Table) (precedence : List Sym) (e : Equation) : Type 0 where
  pub left : IsSide table precedence e.left
  pub right : IsSide table precedence e.right
  pub in_order : IsInOrder e

-- the line is that of the fact of this number, which is this equation
pub record IsFactLine (table : Table) (precedence : List Sym) (k : ℕ) (line : List ℕ) (e : Equation) : Type 0 where
  pub is : line ≡ fact_line table k e
  pub fact : IsFact table precedence e

-- an equation that is a fact but for its size; its variables' numbers have 32 bits, as those of every term have
pub record IsFactOfAnySize (table : Table) (precedence : List Sym) (e : Equation) : Type 0 where
  pub left : IsTerm (In precedence) (arity_of table) e.left
  pub right : IsTerm (In precedence) (arity_of table) e.right
  pub in_order : IsInOrder e
  pub numbered : AreNumbered (variables e.left ++ variables e.right)

-- a term of the equation has more than 4,096 nodes, and the first that has begins at this byte of its text
pub data HasLargeTerm (table : Table) (e : Equation) : ℕ → Type 0 where
  left_is_large : 4096 < nodes e.left → HasLargeTerm table e 0
  right_is_large : nodes e.left ≤ 4096 → 4096 < nodes e.right → HasLargeTerm table e (length (term_text table e.left ++ sign_text true))

module _ (table : Table) (precedence : List Sym) where
  -- The line would be that of the fact of this number if that had no such term, and this byte of it is the term's first.
  pub data IsLargeLine (k : ℕ) (line : List ℕ) : ℕ → Type 0 where
    is_large : {e : Equation} {from : ℕ} → line ≡ fact_line table k e → IsFactOfAnySize table precedence e → HasLargeTerm table e from → IsLargeLine k line (length (fact_front k) + from)

  -- the facts behind these, and the last line
  pub data FactsAt : List Equation → ℕ → List ℕ → Outcome (List Equation) → Type 0 where
    no_more_facts : {earlier : List Equation} {n : ℕ} {text : List ℕ} {c : Cut} → first_line text ≡ Some c → c.line ≡ end_line → FactsAt earlier n text (gets earlier (n + 1) c.rest)
    one_more_fact : {earlier : List Equation} {n : ℕ} {text : List ℕ} {c : Cut} {e : Equation} {outcome : Outcome (List Equation)} → first_line text ≡ Some c → IsFactLine table precedence (length earlier + 1) c.line e → FactsAt (earlier ++ e ∷ []) (n + 1) c.rest outcome → FactsAt earlier n text outcome
    has_large_term : {earlier : List Equation} {n from : ℕ} {text : List ℕ} {c : Cut} → first_line text ≡ Some c → IsLargeLine (length earlier + 1) c.line from → FactsAt earlier n text (fails (Limit (place_in n from)))
    is_no_fact : {earlier : List Equation} {n : ℕ} {text : List ℕ} {c : Cut} → first_line text ≡ Some c → c.line ≢ end_line → ((e : Equation) → IsFactLine table precedence (length earlier + 1) c.line e → ⊥) → ((from : ℕ) → IsLargeLine (length earlier + 1) c.line from → ⊥) → FactsAt earlier n text (fails (departs n))
    is_no_whole_line : {earlier : List Equation} {n : ℕ} {text : List ℕ} → first_line text ≡ None → FactsAt earlier n text (fails (departs n))

  abbrev pub fact_lines : Rule (List Equation)
  fact_lines n text outcome = FactsAt [] n text outcome
