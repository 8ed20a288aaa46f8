use Rattle.std.proofs.Common.{◌≡◌, ◌+◌, ◌≤◌, ◌++◌, ℕ, List, take}
use Rattle.uc_clause.specs.Tokens.{place_behind}
use Rattle.uc_clause.proofs.lexer.advance.Given as goal

abbrev pub invariant-loop-b : goal.invariant-loop-b
invariant-loop-b l = record {
  line : l.behind.line ≤ l.fn.place.line + l.b-index;
  column : l.behind.column ≤ l.fn.place.column + l.b-index;
  behind : (front : List ℕ) → l.fn.place ≡ place_behind front → l.behind ≡ place_behind (front ++ take l.b-index l.piece);
}
