-- What `model` tells of a problem is one answer.
use Rattle.std.proofs.Common.{ℕ, ◌≡◌, List, ap}
use Rattle.uc_term.specs.Table.{Table as SymbolTable}
use Rattle.uc_problem.specs.declared.problem.Problem.{Problem}
use Rattle.uc_table.proofs.SearchOnce.{searches_once}
use Rattle.uc_words.specs.declared.command.Command.{Command}
use Rattle.uc_answer.specs.ModelLines.{searched_status, searched_lines}
use Rattle.uc_top.specs.ModelAnswers.{IsModelled, is_searched}

pub modelled_once : (symbols : SymbolTable) (command : Command) (name : List ℕ) (problem : Problem) {s t : ℕ} {a b : List ℕ} → IsModelled symbols command name problem s a → IsModelled symbols command name problem t b → (s ≡ t) × (a ≡ b)
modelled_once symbols command name problem (is_searched {answer = first} x) (is_searched {answer = second} y) =
    let one : first ≡ second = searches_once symbols problem.signature.symbols problem.clauses command.budget command.size first second x y in
    (ap searched_status one, ap (searched_lines symbols problem name command.size command.budget) one)
