-- From what reading and checking a table promise to the answer of `table`.
use Rattle.std.proofs.Common.{◌⊎◌, inl, inr, ℕ, ◌≡◌, ◌<◌, ◌≤◌, Bool, true, false, List, length, take, Option, Result, Ok, Err, refl, sym, ◌∙◌, subst, arith, if◌then◌else◌}
use Rattle.std.specs.Prelude.{nat_le, nat_lt}
use Rattle.std.specs.Result.{IfOk}
use Rattle.std.specs.declared.alloc.AllocError.{AllocError}
use Rattle.std.proofs.lemmas.List.{take_all, length-take-le}
use Rattle.std.proofs.lemmas.Bool.{lt-ltb}
use Rattle.std.proofs.lemmas.Bool.Decides.{leb_tells}
use Rattle.uc_term.specs.Table.{Table as SymbolTable}
use Rattle.uc_edge.specs.Files.{Files}
use Rattle.uc_problem.specs.declared.problem.Problem.{Problem}
use Rattle.uc_table.specs.declared.table.Table.{Table}
use Rattle.uc_table.specs.declared.answers.Tabled.{Tabled}
use Rattle.uc_table.specs.declared.fault.TableFault.{TableFault}
use Rattle.uc_table.specs.declared.fault.TableFault.TheVariants.{Syntax, Version, TooManyCells, TooManyBytes, NoMemory}
use Rattle.uc_table.specs.Lines.{place_in}
use Rattle.uc_table.specs.Reading.{table_lines, ends, table_of, IsReading}
use Rattle.uc_table.specs.Checks.{Checks}
use Rattle.uc_answer.specs.declared.answer.Answer.{Answer}
use Rattle.uc_answer.specs.Lines.{joined}
use Rattle.uc_answer.specs.TableLines.{tabled_line, tabled_status, table_fault_line}
use Rattle.uc_top.specs.FileAnswers.{FileAnswers}
use Rattle.uc_top.specs.TableAnswers.{TableTextAnswers, isnt_table, is_table}
use Rattle.uc_top.specs.Answers.{TableAnswers, is_loaded}
use Rattle.uc_top.specs.HandedOn.{IsHeld}
use Rattle.uc_top.proofs.HandingOn.{held}
use Rattle.uc_top.proofs.FileAnswering.{earlier_file}

-- what reading comes to, where memory isn't wanted
refused_by : (symbols : SymbolTable) (problem : Problem) (text : List ℕ) (why : TableFault) → (why ≡ NoMemory → ⊥) → IsReading symbols problem.signature.symbols text (Err why) → table_of symbols problem.signature.symbols text ≡ Err why
refused_by symbols problem text (Syntax place) n h = h
refused_by symbols problem text (Version place) n h = h
refused_by symbols problem text (TooManyCells place) n h = h
refused_by symbols problem text (TooManyBytes place) n h = h
refused_by symbols problem text NoMemory n h = absurd (n refl)

module _ (symbols : SymbolTable) (problem : Problem) (file text : List ℕ) where
  pub unread_table : (why : TableFault) (r : Result Answer AllocError) → IsReading symbols problem.signature.symbols text (Err why) → IfOk r (λ answer. (answer.status ≡ 3) × (joined answer.lines ≡ table_fault_line file why)) → IfOk r (λ _. why ≡ NoMemory → ⊥) → IfOk r (λ answer. TableTextAnswers symbols problem file text answer.status (joined answer.lines))
  unread_table why (Ok answer) h line n = rw (line.0, line.1) (isnt_table (refused_by symbols problem text why n h))
  unread_table why (Err fault) h line n = tt

  pub read_table_told : (table : Table) (r : Result Answer AllocError) → IsReading symbols problem.signature.symbols text (Ok table) → IfOk r (λ answer. (tabled : Tabled) × Checks table problem.clauses tabled × (answer.status ≡ tabled_status tabled) × (joined answer.lines ≡ tabled_line tabled)) → IfOk r (λ answer. TableTextAnswers symbols problem file text answer.status (joined answer.lines))
  read_table_told table (Ok answer) h a = rw (a.2, a.3) (is_table h a.1)
  read_table_told table (Err fault) h a = tt

-- a text that is cut behind the first byte that is too many is read as the whole one
module _ (symbols : SymbolTable) (problem : Problem) (file : List ℕ) where
  long_read : (text : List ℕ) → 16777216 < length text → table_of symbols problem.signature.symbols text ≡ Err (TooManyBytes (place_in 1 0))
  long_read text h = go (nat_lt 16777216 (length text)) (lt-ltb 16777216 (length text) h)
    where
      go : (b : Bool) → b ≡ true → (if b then Err (TooManyBytes (place_in 1 0)) else ends symbols problem.signature.symbols (table_lines symbols problem.signature.symbols 1 text)) ≡ Err (TooManyBytes (place_in 1 0))
      go true e = refl
      go false e = absurd cc

  cut_read : (text : List ℕ) → 16777217 ≤ length text → table_of symbols problem.signature.symbols (take 16777217 text) ≡ table_of symbols problem.signature.symbols text
  cut_read text h = long_read (take 16777217 text) (omega (arith, length-take-le 16777217 text h)) ∙ sym (long_read text (omega (arith, h)))

  same_reading : (a b : List ℕ) → table_of symbols problem.signature.symbols a ≡ table_of symbols problem.signature.symbols b → (status : ℕ) (answer : List ℕ) → TableTextAnswers symbols problem file a status answer → TableTextAnswers symbols problem file b status answer
  same_reading a b e status answer (isnt_table r) = isnt_table (sym e ∙ r)
  same_reading a b e status answer (is_table r c) = is_table (sym e ∙ r) c

  pub whole_text : (text : List ℕ) (status : ℕ) (answer : List ℕ) → TableTextAnswers symbols problem file (take 16777217 text) status answer → TableTextAnswers symbols problem file text status answer
  whole_text text status answer a = go (leb_tells 16777217 (length text))
    where
      go : ((nat_le 16777217 (length text) ≡ true) × (16777217 ≤ length text)) ⊎ ((nat_le 16777217 (length text) ≡ false) × (length text < 16777217)) → TableTextAnswers symbols problem file text status answer
      go (inl p) = same_reading (take 16777217 text) text (cut_read text p.1) status answer a
      go (inr p) = subst (λ (t : List ℕ). TableTextAnswers symbols problem file t status answer) (take_all 16777217 text (omega (arith, p.1))) a

-- the answer for a problem that is loaded, where a later part of the call read the table file
pub loaded_file : (symbols : SymbolTable) (holds mid : Option Files) (first before now : ℕ) (root : Option (List ℕ)) (name file : List ℕ) (problem : Problem) (r : Result Answer AllocError) → IsHeld holds root name symbols problem → mid ≡ holds → first ≤ before → IfOk r (λ answer. FileAnswers mid before now (TableTextAnswers symbols problem file) file answer.status (joined answer.lines)) → IfOk r (λ answer. TableAnswers holds first now root name file answer.status (joined answer.lines))
loaded_file symbols holds mid first before now root name file problem (Ok answer) h e le a = is_loaded h.distinct (held holds root name symbols problem h) (earlier_file holds before now (TableTextAnswers symbols problem file) file first le (subst (λ (o : Option Files). FileAnswers o before now (TableTextAnswers symbols problem file) file answer.status (joined answer.lines)) e a))
loaded_file symbols holds mid first before now root name file problem (Err fault) h e le a = tt
