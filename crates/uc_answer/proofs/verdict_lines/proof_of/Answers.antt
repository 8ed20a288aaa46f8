use Rattle.std.proofs.Common.{rules, map, sym, Bor, arith}
use Rattle.std.proofs.lemmas.List.{length-map}
use Rattle.uc_fact.specs.declared.fact.Fact.{Fact}
use Rattle.uc_answer.proofs.ProvedTexts.{goal_inside, facts_replay, proves, lines_of_table, many_files, proof_told}
use Rattle.uc_answer.proofs.verdict_lines.proof_of.Goals as goal

pub chain-requires : goal.chain-requires
chain-requires g c = rw c.requires.problem (goal_inside c.args.closed.now.symbols.now c.args.closed.now.command.now c.args.closed.now.problem.now c.args.closed.now.encoded.now c.args.closed.now.spec.now c.args.book.now.state c.args.goal c.requires.ended)

pub extract_from-requires-clause-facts : goal.extract_from-requires-clause-facts
extract_from-requires-clause-facts g c = facts_replay c.args.closed.now.symbols.now c.args.closed.now.command.now c.args.closed.now.problem.now c.args.closed.now.encoded.now c.args.closed.now.spec.now c.args.book.now.state c.args.goal c.requires.ended (map (λ (f : Bor Fact). f.now) c.as_slice.result.now) (rw (sym c.as_slice.ensures.value, c.front.ensures.entries) at c.in_ok-facts.ensures)

pub extract_from-requires-clause-goal : goal.extract_from-requires-clause-goal
extract_from-requires-clause-goal g c = proves c.args.closed.now.symbols.now c.args.closed.now.command.now c.args.closed.now.problem.now c.args.closed.now.encoded.now c.args.closed.now.spec.now c.args.book.now.state c.args.goal c.requires.ended (map (λ (f : Bor Fact). f.now) c.as_slice.result.now) c.chain.result.0.now c.chain.result.1.now (rw (sym c.as_slice.ensures.value, c.front.ensures.entries) at c.in_ok-facts.ensures) c.chain.ensures.left c.chain.ensures.right

pub print_proof-requires-clause-files : goal.print_proof-requires-clause-files
print_proof-requires-clause-files g c = rw c.as_slice-files.ensures (many_files c.args.closed.now.symbols.now c.args.closed.now.command.now c.args.closed.now.problem.now c.args.closed.now.encoded.now c.args.closed.now.spec.now c.args.book.now.state c.args.goal c.requires.ended (map (λ (f : Bor Fact). f.now) c.as_slice.result.now) c.chain.result.0.now c.chain.result.1.now (rw (sym c.as_slice.ensures.value, c.front.ensures.entries) at c.in_ok-facts.ensures) c.chain.ensures.left c.chain.ensures.right c.in_ok-made.made.proof.lines c.in_ok-made.made.files c.in_ok-made.ensures.extracted)

pub print_proof-requires-clause-lines : goal.print_proof-requires-clause-lines
print_proof-requires-clause-lines g c = lines_of_table c.args.closed.now.symbols.now c.args.closed.now.command.now c.args.closed.now.problem.now c.args.closed.now.encoded.now c.args.closed.now.spec.now c.args.book.now.state c.args.goal c.requires.ended (map (λ (f : Bor Fact). f.now) c.as_slice.result.now) c.chain.result.0.now c.chain.result.1.now (rw (sym c.as_slice.ensures.value, c.front.ensures.entries) at c.in_ok-facts.ensures) c.chain.ensures.left c.chain.ensures.right c.in_ok-made.made.proof.lines c.in_ok-made.made.files c.in_ok-made.ensures.extracted

pub returns : goal.returns
returns g c = proof_told c.args.closed.now.symbols.now c.args.closed.now.command.now c.args.closed.now.problem.now c.args.closed.now.encoded.now c.args.closed.now.spec.now c.args.book.now.state c.args.goal c.requires.ended (map (λ (f : Bor Fact). f.now) c.as_slice.result.now) c.chain.result.0.now c.chain.result.1.now (rw (sym c.as_slice.ensures.value, c.front.ensures.entries) at c.in_ok-facts.ensures) c.chain.ensures.left c.chain.ensures.right c.in_ok-made.made.proof.lines c.in_ok-made.made.files c.in_ok-made.ensures.extracted c.args.closed.now.name.now c.print_proof.result (search (rules, arith, length-map c.as_slice.result.now (λ (f : Bor Fact). f.now))) c.in_ok-made.ensures.right c.in_ok-made.ensures.refutes c.in_ok-made.ensures.in_order (rw c.as_slice-files.ensures at c.print_proof.ensures.text) (rw c.as_slice-files.ensures at c.print_proof.ensures.read_back)
