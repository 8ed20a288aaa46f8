use Rattle.std.proofs.Common.{sym, ◌∙◌}
use Rattle.uc_system.proofs.Compared.{bytes_same, bytes_differ}
use Rattle.uc_system.proofs.FactChecks.{pair_of, no_fact_left, no_fact_right, no_fact_text, fact_here}
use Rattle.uc_system.proofs.facts.checked.Goals as goal

pub returns-then-not-are_known : goal.returns-then-not-are_known
returns-then-not-are_known c = no_fact_left c.args.symbols.now c.args.known.now.keys c.requires.known c.len.ensures.distinct c.args.text.now c.args.left c.args.right c.requires.read (rw c.as_nodes.ensures.value at (sym c.if-not-are_known.ensures))

pub returns-then-not-are_known-2 : goal.returns-then-not-are_known-2
returns-then-not-are_known-2 c = no_fact_right c.args.symbols.now c.args.known.now.keys c.requires.known c.len.ensures.distinct c.args.text.now c.args.left c.args.right c.requires.read (rw c.as_nodes-2.ensures.value at (sym c.if-not-are_known-2.ensures))

pub print_equation-requires-clause-left : goal.print_equation-requires-clause-left
print_equation-requires-clause-left c = (pair_of c.args.symbols.now c.args.text.now (c.args.left, c.args.right) c.requires.read).0

pub print_equation-requires-clause-right : goal.print_equation-requires-clause-right
print_equation-requires-clause-right c = (pair_of c.args.symbols.now c.args.text.now (c.args.left, c.args.right) c.requires.read).1

pub returns-then-eq : goal.returns-then-eq
returns-then-eq c = fact_here c.args.symbols.now c.args.known.now.keys c.requires.known c.len.ensures.distinct c.args.text.now c.args.left c.args.right c.requires.read c.see_term.ensures c.see_term-2.ensures (rw c.as_nodes.ensures.value at (sym c.if-not-are_known.ensures)) (rw c.as_nodes-2.ensures.value at (sym c.if-not-are_known-2.ensures)) (sym c.in_ok-again.ensures ∙ sym c.as_bytes.ensures ∙ bytes_same c.as_bytes.result.now c.args.text.now (sym c.if-eq.ensures))

pub returns-else-eq : goal.returns-else-eq
returns-else-eq c = no_fact_text c.args.symbols.now c.args.known.now.keys c.requires.known c.len.ensures.distinct c.args.text.now c.args.left c.args.right c.requires.read (λ e. bytes_differ c.as_bytes.result.now c.args.text.now (sym c.if-eq.ensures) (c.as_bytes.ensures ∙ c.in_ok-again.ensures ∙ e))
