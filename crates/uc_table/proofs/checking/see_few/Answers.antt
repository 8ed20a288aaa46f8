use Rattle.std.proofs.Common.{◌≡◌, slice_get, Some, get_or, subst, sym, arith}
use Rattle.std.proofs.lemmas.Option.{get_or_from_slice_get}
use Rattle.uc_table.proofs.Polarity.{few_clauses}
use Rattle.uc_table.proofs.checking.see_few.Goals as goal

pub returns : goal.returns
returns c =
    few_clauses 4294967296 c.args.clauses.now
    (λ j x e.
    let k : get_or c.args.axioms.now j 0 ≡ x = get_or_from_slice_get c.args.axioms.now j x 0 (subst (λ xs. slice_get xs j ≡ Some x) (sym c.requires.axioms) e) in
    omega (arith, c.type_inv.axioms j))
    (λ j x e.
    let k : get_or c.args.goals.now j 0 ≡ x = get_or_from_slice_get c.args.goals.now j x 0 (subst (λ xs. slice_get xs j ≡ Some x) (sym c.requires.goals) e) in
    omega (arith, c.type_inv.goals j))
