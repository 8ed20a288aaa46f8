use Rattle.std.proofs.Common.{◌∙◌, ℕ, sym, ap}
use Rattle.uc_term.specs.declared.node.Sym.{Sym}
use Rattle.uc_term.specs.Table.{Has, arity_of}
use Rattle.uc_lpo.specs.Ranks.{rank_in}
use Rattle.uc_lpo.proofs.Precedences.{each_of, constant_of, least_known, least_bare, least_lowest}
use Rattle.uc_lpo.proofs.path_order.Lpo.new.Goals as goal

pub arities_of-requires : goal.arities_of-requires
arities_of-requires c = record { known = each_of (Has c.args.symbols.now) c.args.signature.now c.args.precedence.now c.requires.known c.in_ok-check_precedence.ensures.ok.0 }

pub ranks_of-requires-clause-bounded : goal.ranks_of-requires-clause-bounded
ranks_of-requires-clause-bounded c = rw c.len.ensures.count (each_of (Has c.args.symbols.now) c.args.signature.now c.args.precedence.now c.requires.known c.in_ok-check_precedence.ensures.ok.0)

pub least_constant-least-requires-clause-known : goal.least_constant-least-requires-clause-known
least_constant-least-requires-clause-known c = each_of (Has c.args.symbols.now) c.args.signature.now c.args.precedence.now c.requires.known c.in_ok-check_precedence.ensures.ok.0

pub least_constant-least-requires-clause-constant : goal.least_constant-least-requires-clause-constant
least_constant-least-requires-clause-constant c = constant_of (arity_of c.args.symbols.now) c.args.signature.now c.args.precedence.now c.requires.constant c.in_ok-check_precedence.ensures.ok.2

pub invariant_of-result : goal.invariant_of-result
invariant_of-result c =
    let arity : Sym → ℕ = arity_of c.args.symbols.now in
    let same = c.in_ok-precedence.ensures.items in
    let first = rw (← same) at c.least_constant-least.ensures in
    let table = rw (← same) at c.in_ok-arities.ensures in
    record {
      ranked = λ f. c.in_ok-ranks.ensures f ∙ ap (λ l. rank_in l f) (sym same);
      known = least_known arity _ _ first _ table;
      bare = least_bare arity _ _ first _ table;
      lowest = least_lowest arity _ _ first _ table;
    }
