use Rattle.std.proofs.Common.{refl}
use Rattle.uc_term.specs.Flat.{tree_of}
use Rattle.uc_unify.proofs.Crossing.{most_general}
use Rattle.uc_unify.proofs.unification.unify_in.Goals as goal

pub returns-then-is_idempotent : goal.returns-then-is_idempotent
returns-then-is_idempotent c = c.judged.ensures (tree_of c.args.t.now) (most_general (tree_of c.args.s.now) (tree_of c.args.t.now) c.walk.new.subst (c.if-is_idempotent.ensures.0 refl) (rw c.in-Reduced.is at c.in_ok-walk.ensures))
