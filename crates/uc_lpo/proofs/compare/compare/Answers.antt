use Rattle.std.proofs.Common.{IsTrue, false, refl}
use Rattle.uc_order.specs.VarOrders.{representative, IsHigher}
use Rattle.uc_lpo.specs.Laws.{irreflexive, transitive}
use Rattle.uc_lpo.specs.Higher.{higher_transitive, higher_irreflexive}
use Rattle.uc_lpo.specs.Ranks.{rank_of}
use Rattle.uc_lpo.proofs.Shown.{shown_same, same_shown}
use Rattle.uc_lpo.proofs.compare.compare.Goals as goal

never : IsTrue false → ⊥
never h = cc

pub returns-then-are_alike-clause-greater : goal.returns-then-are_alike-clause-greater
returns-then-are_alike-clause-greater c =
    let same = shown_same (representative c.args.classes.now) c.args.s.now c.args.t.now c.requires.s_whole c.requires.t_whole (c.if-are_alike.ensures.0 refl) in
    (λ e. absurd cc, λ l. absurd (irreflexive (rank_of c.args.ranks.now) (IsHigher c.args.classes.now) (higher_transitive c.args.classes.now) (higher_irreflexive c.args.classes.now) _ (rw same at l)))

pub returns-then-are_alike-clause-less : goal.returns-then-are_alike-clause-less
returns-then-are_alike-clause-less c =
    let same = shown_same (representative c.args.classes.now) c.args.s.now c.args.t.now c.requires.s_whole c.requires.t_whole (c.if-are_alike.ensures.0 refl) in
    (λ e. absurd cc, λ l. absurd (irreflexive (rank_of c.args.ranks.now) (IsHigher c.args.classes.now) (higher_transitive c.args.classes.now) (higher_irreflexive c.args.classes.now) _ (rw same at l)))

pub returns-then-are_alike-clause-equal : goal.returns-then-are_alike-clause-equal
returns-then-are_alike-clause-equal c = (λ _. shown_same (representative c.args.classes.now) c.args.s.now c.args.t.now c.requires.s_whole c.requires.t_whole (c.if-are_alike.ensures.0 refl), λ _. refl)

pub returns-then-greater-clause-less : goal.returns-then-greater-clause-less
returns-then-greater-clause-less c = (
  λ e. absurd cc,
  λ l. absurd (irreflexive (rank_of c.args.ranks.now) (IsHigher c.args.classes.now) (higher_transitive c.args.classes.now) (higher_irreflexive c.args.classes.now) _ (transitive (rank_of c.args.ranks.now) (IsHigher c.args.classes.now) (higher_transitive c.args.classes.now) _ _ _ l (c.if-greater.ensures.0 refl))),
)

pub returns-then-greater-clause-equal : goal.returns-then-greater-clause-equal
returns-then-greater-clause-equal c = (λ e. absurd cc, λ e. absurd (never (c.if-are_alike.ensures.1 (same_shown (representative c.args.classes.now) c.args.s.now c.args.t.now c.requires.s_whole c.requires.t_whole e))))

pub returns-else-greater-2-clause-equal : goal.returns-else-greater-2-clause-equal
returns-else-greater-2-clause-equal c = (λ e. absurd cc, λ e. absurd (never (c.if-are_alike.ensures.1 (same_shown (representative c.args.classes.now) c.args.s.now c.args.t.now c.requires.s_whole c.requires.t_whole e))))
