use Rattle.std.proofs.Common.{◌≡◌, ℕ, ◌<◌}
use Rattle.uc_term.specs.Signatures.{tried_name, IsFree}
use Rattle.uc_term.proofs.fresh_symbol.add_fresh.Given as goal

abbrev pub invariant-loop-number : goal.invariant-loop-number
invariant-loop-number l = record {
  same : l.symbols ≡ l.initial.symbols;
  none_before : (n : ℕ) → n < l.number → IsFree l.symbols l.taken (tried_name l.word n) → ⊥;
}
