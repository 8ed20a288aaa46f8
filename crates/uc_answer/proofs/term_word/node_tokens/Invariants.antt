use Rattle.std.proofs.Common.{◌≡◌, ◌++◌, drop}
use Rattle.uc_answer.specs.TermWords.{node_tokens}
use Rattle.uc_answer.proofs.term_word.node_tokens.Given as goal

abbrev pub invariant-loop-token : goal.invariant-loop-token
invariant-loop-token l = l.nodes.items ++ node_tokens (drop l.token-index l.tokens) ≡ node_tokens l.tokens
