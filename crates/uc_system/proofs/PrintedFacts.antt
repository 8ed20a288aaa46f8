-- Printed facts are read as they are.
use Rattle.std.proofs.Common.{◌≡◌, ℕ, ◌+◌, ◌<◌, ◌^◌, List, [], ◌∷◌, ◌++◌, length, length-append, refl, sym, ap, ◌∙◌, subst, append_assoc, append-nil, arith, Some}
use Rattle.uc_term.specs.declared.node.Sym.{Sym}
use Rattle.uc_term.specs.declared.equation.Equation.{Equation}
use Rattle.uc_term.specs.Table.{Table}
use Rattle.uc_clause.specs.Printable.{IsPrintableSymbol}
use Rattle.uc_order.specs.Members.{Each}
use Rattle.uc_system.specs.Lines.{first_line, gets}
use Rattle.uc_system.specs.Facts.{end_line, fact_line, IsFact, FactsAt, no_more_facts, one_more_fact}
use Rattle.uc_system.specs.Printing.{ended, facts_text}
use Rattle.uc_system.proofs.FirstLines.{cut_line}
use Rattle.uc_system.proofs.FactTexts.{fact_readable}
use Rattle.uc_system.proofs.TextsInLine.{InLine, fact_in_line}

-- the first line of a text that begins with a whole one
pub cut_ended : (line more rest : List ℕ) → InLine line → first_line (ended line ++ more ++ rest) ≡ Some (record { line = line; rest = more ++ rest })
cut_ended line more rest h = ap first_line (append_assoc (ended line) more rest ∙ append_assoc line (10 ∷ []) (more ++ rest)) ∙ cut_line line (more ++ rest) h

module _ (table : Table) (precedence : List Sym) (printable : Each (IsPrintableSymbol table) precedence) (behind : List ℕ) where
  pub facts_read : (earlier es : List Equation) (k n : ℕ) → k ≡ length earlier + 1 → k + length es < 2 ^ 64 → Each (IsFact table precedence) es → FactsAt table precedence earlier n (facts_text table k es ++ (ended end_line ++ behind)) (gets (earlier ++ es) (n + length es + 1) behind)
  facts_read earlier [] k n e small all =
      let last : FactsAt table precedence earlier n (ended end_line ++ behind) (gets earlier (n + 1) behind) = no_more_facts {c = record { line = end_line; rest = behind }} refl refl in
      let all_of : earlier ≡ earlier ++ [] = sym (append-nil earlier) in
      let number : n + 1 ≡ n + 0 + 1 = omega arith in
      subst (λ x. FactsAt table precedence earlier n (ended end_line ++ behind) (gets x (n + 0 + 1) behind)) all_of (subst (λ m. FactsAt table precedence earlier n (ended end_line ++ behind) (gets earlier m behind)) number last)
  facts_read earlier (x ∷ xs) k n e small all =
      let r = fact_readable table precedence printable x all.0 in
      let cut = cut_ended (fact_line table k x) (facts_text table (k + 1) xs) (ended end_line ++ behind) (fact_in_line table k x (omega arith) r.left r.right) in
      let next : k + 1 ≡ length (earlier ++ x ∷ []) + 1 = omega (arith, length-append earlier (x ∷ [])) in
      let rest = facts_read (earlier ++ x ∷ []) xs (k + 1) (n + 1) next (omega arith) all.1 in
      let all_of : (earlier ++ x ∷ []) ++ xs ≡ earlier ++ x ∷ xs = append_assoc earlier (x ∷ []) xs in
      let number : n + 1 + length xs + 1 ≡ n + length (x ∷ xs) + 1 = omega arith in
      let here = subst (λ m. FactsAt table precedence (earlier ++ x ∷ []) (n + 1) (facts_text table (k + 1) xs ++ (ended end_line ++ behind)) (gets (earlier ++ x ∷ xs) m behind)) number (subst (λ ys. FactsAt table precedence (earlier ++ x ∷ []) (n + 1) (facts_text table (k + 1) xs ++ (ended end_line ++ behind)) (gets ys (n + 1 + length xs + 1) behind)) all_of rest) in
      one_more_fact {c = record { line = fact_line table k x; rest = facts_text table (k + 1) xs ++ (ended end_line ++ behind) }} {e = x} cut (record { is = ap (λ j. fact_line table j x) e; fact = all.0 }) here
