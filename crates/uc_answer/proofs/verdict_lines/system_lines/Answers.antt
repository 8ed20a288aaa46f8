use Rattle.std.proofs.Common.{ℕ, ◌≡◌, List, [], ◌∷◌, ◌++◌, ap, ◌∙◌, subst}
use Rattle.uc_fact.specs.Live.{equations_of}
use Rattle.uc_shelf.specs.Entries.{live}
use Rattle.uc_system.specs.Printing.{system_text}
use Rattle.uc_answer.specs.StatusLines.{status_line, saturated_word}
use Rattle.uc_answer.specs.PrintableProblems.{CanBePrinted}
use Rattle.uc_answer.specs.Promises.{Settles}
use Rattle.uc_answer.proofs.VerdictTold.{saturation_so}
use Rattle.uc_answer.proofs.verdict_lines.system_lines.Goals as goal

pub returns-clause-lines : goal.returns-clause-lines
returns-clause-lines g c = saturation_so (saturated_word c.args.closed.now.problem.now) c.args.closed.now.name.now (system_text c.args.closed.now.symbols.now c.args.closed.now.spec.now (equations_of (live c.args.book.now.state.entries))) c.in_ok-status_line.field-0 c.in_ok-line_for.field-0 c.in_ok-line_for-2.field-0 c.in_ok-text.text c.in_ok-lines_of.field-0 c.push-3.new.self (c.in_ok-status_line.ensures ∙ ap (λ word. status_line word c.args.closed.now.name.now) c.saturated_word-word.ensures) c.in_ok-line_for.ensures c.in_ok-line_for-2.ensures c.in_ok-text.ensures.text (c.in_ok-lines_of.ensures ∙ c.as_bytes.ensures) (c.in_ok-push-3.ensures.ok ∙ ap (λ z. z ++ c.in_ok-line_for-2.field-0 ∷ []) (c.in_ok-append.ensures.ok ∙ ap (λ z. z ++ c.in_ok-lines_of.field-0) (c.in_ok-push-2.ensures.ok ∙ ap (λ z. z ++ c.in_ok-line_for.field-0 ∷ []) (c.in_ok-push.ensures.ok ∙ ap (λ z. z ++ c.in_ok-status_line.field-0 ∷ []) c.new-lines.ensures))))

pub returns-clause-promise : goal.returns-clause-promise
returns-clause-promise g c = subst (λ (text : List ℕ). CanBePrinted c.args.closed.now.symbols.now c.args.closed.now.name.now c.args.closed.now.problem.now → (settled : Settles c.args.closed.now.symbols.now c.args.closed.now.problem.now c.args.closed.now.spec.now text) × (settled.system.facts ≡ equations_of (live c.args.book.now.state.entries))) c.in_ok-text.ensures.text c.in_ok-text.ensures.promise
