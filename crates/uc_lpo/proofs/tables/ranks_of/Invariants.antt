use Rattle.std.proofs.Common.{◌≡◌, length, take}
use Rattle.uc_term.specs.declared.node.Sym.{Sym}
use Rattle.uc_lpo.specs.Ranks.{rank_of, rank_in}
use Rattle.uc_lpo.proofs.tables.ranks_of.Given as goal

abbrev pub invariant-loop-i : goal.invariant-loop-i
invariant-loop-i l = record {
  long : length l.ranks.items ≡ l.bound;
  ranked : (f : Sym) → rank_of l.ranks.items f ≡ rank_in (take l.i l.precedence) f;
}
