-- What is told of the text of a table file is one answer.
use Rattle.std.proofs.Common.{ℕ, ◌≡◌, List, Ok, Err, refl, sym, ap, ◌∙◌, subst}
use Rattle.uc_term.specs.Table.{Table as SymbolTable}
use Rattle.uc_problem.specs.declared.problem.Problem.{Problem}
use Rattle.uc_problem.proofs.Outcomes.{ok_once, err_once, ok_or_err}
use Rattle.uc_table.specs.declared.table.Table.{Table}
use Rattle.uc_table.specs.declared.answers.Tabled.{Tabled}
use Rattle.uc_table.specs.declared.fault.TableFault.{TableFault}
use Rattle.uc_table.specs.Reading.{table_of}
use Rattle.uc_table.specs.Checks.{Checks}
use Rattle.uc_table.proofs.Canonical.{is_canonical}
use Rattle.uc_table.proofs.VerdictOnce.{verdict_once}
use Rattle.uc_answer.specs.TableLines.{tabled_line, tabled_status, table_fault_line}
use Rattle.uc_top.specs.TableAnswers.{TableTextAnswers, isnt_table, is_table}

module _ (symbols : SymbolTable) (problem : Problem) (file text : List ℕ) where
  pub fault_told : {s : ℕ} {a : List ℕ} (why : TableFault) → table_of symbols problem.signature.symbols text ≡ Err why → TableTextAnswers symbols problem file text s a → (s ≡ 3) × (a ≡ table_fault_line file why)
  fault_told why e (isnt_table {why = other} f) = (refl, ap (table_fault_line file) (err_once (sym f ∙ e)))
  fault_told why e (is_table f c) = absurd (ok_or_err (sym f ∙ e))

  pub table_told : {s : ℕ} {a : List ℕ} (table : Table) (answer : Tabled) → table_of symbols problem.signature.symbols text ≡ Ok table → Checks table problem.clauses answer → TableTextAnswers symbols problem file text s a → (s ≡ tabled_status answer) × (a ≡ tabled_line answer)
  table_told table answer e c (isnt_table f) = absurd (ok_or_err (sym e ∙ f))
  table_told table answer e c (is_table {table = other} {answer = own} f d) =
      let same : other ≡ table = ok_once (sym f ∙ e) in
      let one : own ≡ answer = verdict_once table (is_canonical symbols problem.signature.symbols table text e).0.some problem.clauses own answer (subst (λ (t : Table). Checks t problem.clauses own) same d) c in
      (ap tabled_status one, ap tabled_line one)

pub table_text_once : (symbols : SymbolTable) (problem : Problem) (file text : List ℕ) {s t : ℕ} {a b : List ℕ} → TableTextAnswers symbols problem file text s a → TableTextAnswers symbols problem file text t b → (s ≡ t) × (a ≡ b)
table_text_once symbols problem file text (isnt_table {why = why} e) y = let q = fault_told symbols problem file text why e y in (sym q.0, sym q.1)
table_text_once symbols problem file text (is_table {table = table} {answer = answer} e c) y = let q = table_told symbols problem file text table answer e c y in (sym q.0, sym q.1)
