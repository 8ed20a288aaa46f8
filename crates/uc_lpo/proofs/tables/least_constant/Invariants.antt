use Rattle.std.proofs.Common.{◌≡◌, ◌-◌, ◌<◌, length, drop}
use Rattle.uc_term.specs.declared.node.Sym.{Sym}
use Rattle.uc_term.specs.Table.{arity_of}
use Rattle.uc_order.specs.Members.{IsFirst}
use Rattle.uc_lpo.specs.Constants.{HasConstant}
use Rattle.uc_lpo.proofs.tables.least_constant.Given as goal

abbrev pub invariant-loop-at : goal.invariant-loop-at
invariant-loop-at l = record {
  inside : l.at < length l.precedence;
  constant : HasConstant (arity_of l.symbols) (drop l.at l.precedence);
  first : (c : Sym) → IsFirst (λ f. arity_of l.symbols f ≡ 0) (drop l.at l.precedence) c → IsFirst (λ f. arity_of l.symbols f ≡ 0) l.precedence c;
}

abbrev pub decreases-loop-at : goal.decreases-loop-at
decreases-loop-at l = length l.precedence - l.at
