-- Every ground term is accessible under the lexicographic path order.
use Rattle.std.proofs.Common.{ℕ, zero, suc, ◌+◌, ◌<◌, arith}
use mathlib.Core.WellFounded.{Acc}
use mathlib.Core.WellFounded.Acc
use Rattle.uc_term.specs.declared.node.Sym.{Sym}
use Rattle.uc_term.specs.Tree.{Tree, var, app, Trees, none, more}
use Rattle.uc_term.specs.Over.{IsGround, AreGround}
use Rattle.uc_term.proofs.Lists.{AllAcc, FirstUnder, here, same, ListUnder, lists_accessible}
use Rattle.uc_lpo.specs.PathOrder.{PathOrder, by_argument, by_head, by_arguments, SomeReaches, is_it, is_greater, a_later, Exceeds, one_more, FirstGreater, differ, agree}

module _ (rank : Sym → ℕ) (above : ℕ → ℕ → Type 0) (has : Sym → Type 0) (arity : Sym → ℕ) where
  -- a ground term below another
  abbrev pub Below : Tree → Tree → Type 0
  Below u t = IsGround has arity u × PathOrder rank above t u

  first_under : (us : Trees) {ts : Trees} → AreGround has arity us → FirstGreater rank above ts us → FirstUnder Below us ts
  first_under none g d = elim d [ ]
  first_under (more u us) g (differ l) = here (g.0, l)
  first_under (more u us) g (agree d) = same (first_under us g.1 d)

  reached : {ts : Trees} (u : Tree) → AllAcc Below ts → IsGround has arity u → SomeReaches rank above ts u → Acc Below u
  reached u acc g is_it = acc.0
  reached u acc g (is_greater a) = Acc.inv acc.0 (g, a)
  reached u acc g (a_later p) = reached u acc.1 g p

  module _ (f : Sym) (ts : Trees) (acc : AllAcc Below ts) (lower : (g : Sym) (us : Trees) → rank g < rank f → IsGround has arity (app g us) → AllAcc Below us → Acc Below (app g us)) (lesser : (us : Trees) → ListUnder Below (arity f) us ts → has f → Acc Below (app f us)) where
    mutual
      down : (u : Tree) → IsGround has arity u → PathOrder rank above (app f ts) u → Acc Below u
      down (var x) g l = absurd g
      down (app h us) g (by_argument p) = reached (app h us) acc g p
      down (app h us) g (by_head r e) = lower h us r g (downs us g.2 e)
      down (app h us) g (by_arguments e d) = lesser us (record { long = g.1; accessible = downs us g.2 e; less = first_under us g.2 d }) g.0

      downs : (us : Trees) → AreGround has arity us → Exceeds rank above (app f ts) us → AllAcc Below us
      downs none g e = tt
      downs (more u us) g (one_more l e) = (down u g.0 l, downs us g.1 e)

  by_lists : (f : Sym) → ((g : Sym) (us : Trees) → rank g < rank f → IsGround has arity (app g us) → AllAcc Below us → Acc Below (app g us)) → (ts : Trees) → Acc (ListUnder Below (arity f)) ts → AllAcc Below ts → Acc Below (app f ts)
  by_lists f lower _ (Acc.intro ts k) acc = Acc.intro (app f ts) (λ u l. down f ts acc lower (λ us p h. by_lists f lower us (k us p) p.accessible) u l.0 l.1)

  by_rank : (n : ℕ) (f : Sym) (ts : Trees) → rank f < n → IsGround has arity (app f ts) → AllAcc Below ts → Acc Below (app f ts)
  by_rank zero f ts h g acc = absurd (omega arith)
  by_rank (suc n) f ts h g acc = by_lists f (λ e us r g' acc'. by_rank n e us (omega arith) g' acc') ts (lists_accessible Below (arity f) ts g.1 acc) acc

  mutual
    pub accessible : (t : Tree) → IsGround has arity t → Acc Below t
    accessible (var x) g = absurd g
    accessible (app f ts) g = by_rank (rank f + 1) f ts (omega arith) g (all_accessible ts g.2)

    all_accessible : (ts : Trees) → AreGround has arity ts → AllAcc Below ts
    all_accessible none g = tt
    all_accessible (more t ts) g = (accessible t g.0, all_accessible ts g.1)
