-- From what a search promises to the answer of `model`.
use Rattle.std.proofs.Common.{ℕ, ◌≡◌, arith, List, [], ◌∷◌, length, Result, Ok, Err, refl, ap, sym, ◌∙◌, subst}
use Rattle.std.specs.Result.{IfOk}
use Rattle.std.specs.declared.alloc.AllocError.{AllocError}
use Rattle.uc_term.specs.declared.node.Sym.{Sym}
use Rattle.uc_term.specs.Table.{Table as SymbolTable}
use Rattle.uc_term.specs.Gathering.{HasAll}
use Rattle.uc_problem.specs.declared.problem.Problem.{Problem}
use Rattle.uc_problem.specs.Holds.{Agrees}
use Rattle.uc_problem.proofs.FreshMarks.{signature_has}
use Rattle.uc_table.specs.declared.table.Table.{Table}
use Rattle.uc_table.specs.declared.answers.Searched.{Searched}
use Rattle.uc_table.specs.declared.answers.Searched.TheVariants.{Found}
use Rattle.uc_table.specs.Tables.{AreRows, IsTableOf}
use Rattle.uc_table.specs.Least.{IsLeastModel, Shows}
use Rattle.uc_table.specs.Searching.{Searches}
use Rattle.uc_words.specs.declared.command.Command.{Command}
use Rattle.uc_answer.specs.declared.answer.Answer.{Answer}
use Rattle.uc_answer.specs.Lines.{joined}
use Rattle.uc_answer.specs.ModelLines.{searched_status, searched_lines}
use Rattle.uc_top.specs.ModelAnswers.{IsModelled, is_searched}

as_many_rows : (symbols : SymbolTable) (size : ℕ) (fs : List Sym) (rows : List (List ℕ)) → AreRows symbols size fs rows → length rows ≡ length fs
as_many_rows symbols size [] [] h = refl
as_many_rows symbols size [] (row ∷ rows) h = absurd h
as_many_rows symbols size (f ∷ fs) [] h = absurd h
as_many_rows symbols size (f ∷ fs) (row ∷ rows) h = omega (arith, as_many_rows symbols size fs rows h.1)

module _ (symbols : SymbolTable) (problem : Problem) (size : ℕ) (found : Searched) (shows : Shows symbols problem.signature.symbols problem.clauses size found) where
  least : (table : Table) → found ≡ Found table → IsLeastModel symbols problem.signature.symbols problem.clauses size table
  least table e = subst (Shows symbols problem.signature.symbols problem.clauses size) e shows

  pub found_symbols : Agrees symbols problem → (table : Table) → found ≡ Found table → HasAll symbols table.symbols
  found_symbols agrees table e = subst (HasAll symbols) (sym (least table e).is_table.symbols_are) (signature_has symbols problem agrees)

  pub found_rows : (table : Table) → found ≡ Found table → length table.cells ≡ length table.symbols
  found_rows table e =
      let is : IsTableOf symbols problem.signature.symbols table = (least table e).is_table in
      as_many_rows symbols table.size problem.signature.symbols table.cells is.rows ∙ sym (ap length is.symbols_are)

pub modelled : (symbols : SymbolTable) (command : Command) (name : List ℕ) (problem : Problem) (found : Searched) (r : Result Answer AllocError) → Searches symbols problem.signature.symbols problem.clauses command.budget command.size found → IfOk r (λ answer. (answer.status ≡ searched_status found) × (joined answer.lines ≡ searched_lines symbols problem name command.size command.budget found)) → IfOk r (λ answer. IsModelled symbols command name problem answer.status (joined answer.lines))
modelled symbols command name problem found (Ok answer) searches line = rw (line.0, line.1) (is_searched searches)
modelled symbols command name problem found (Err fault) searches line = tt
