use Rattle.std.proofs.Common.{◌≡◌, ◌∷◌, [], ◌++◌, drop, length, length-drop, append-nil, sym, ap, ◌∙◌, refl, arith}
use Rattle.std.proofs.Math.Seq.{take-add}
use Rattle.std.proofs.KnownBytes.{Appends-trans, Appends-nil}
use Rattle.uc_edge.specs.Faults.{next}
use Rattle.uc_edge.specs.Pieces.{begins, goes_on, takes_all, fails_at}
use Rattle.uc_edge.proofs.Putting.{one_more}
use Rattle.uc_edge.proofs.sink.put.Goals as goal

pub loop-from-init : goal.loop-from-init
loop-from-init g c = record {
  within = omega arith;
  so_far = Appends-nil _;
  kept = refl;
  given = ([], sym (append-nil _), begins);
}

pub loop-from-preserved : goal.loop-from-preserved
loop-from-preserved g c =
    let took = rw c.split_at.ensures.back at c.in-Taken.ensures.answer in
    let given = c.loop-from.invariant.given in
    record {
      within = omega (arith, took.0, length-drop c.loop-from.from c.args.piece.now);
      so_far = rw (take-add c.loop-from.from c.in-Taken.n c.args.piece.now) (Appends-trans _ _ _ _ _ c.loop-from.invariant.so_far took.2);
      kept = c.in-Taken.ensures.counted ∙ c.loop-from.invariant.kept;
      given = (
        given.0 ++ drop c.loop-from.from c.args.piece.now ∷ [],
        one_more (g.S.Sink.pieces c.args.sink.now) given.0 (drop c.loop-from.from c.args.piece.now) given.1 (rw c.split_at.ensures.back at c.in-Taken.ensures.given),
        goes_on given.2 (took.1 (omega (arith, length-drop c.loop-from.from c.args.piece.now, c.loop-from-test.true))) (omega (arith, took.0, length-drop c.loop-from.from c.args.piece.now, c.loop-from-test.true)),
      );
    }

pub returns-in-Failed-clause-counted : goal.returns-in-Failed-clause-counted
returns-in-Failed-clause-counted g c = c.in-Failed.ensures.counted ∙ ap next c.loop-from.invariant.kept

pub returns-in-Failed-clause-given : goal.returns-in-Failed-clause-given
returns-in-Failed-clause-given g c =
    let given = c.loop-from.invariant.given in
    (given.0 ++ drop c.loop-from.from c.args.piece.now ∷ [], one_more (g.S.Sink.pieces c.args.sink.now) given.0 (drop c.loop-from.from c.args.piece.now) given.1 (rw c.split_at.ensures.back at c.in-Failed.ensures.given), fails_at given.2 c.loop-from-test.true)

pub returns-clause-given : goal.returns-clause-given
returns-clause-given g c =
    let given = c.loop-from.invariant.given in
    let whole : c.loop-from.from ≡ length c.args.piece.now = omega (arith, c.loop-from.invariant.within, c.loop-from-test.false) in
    (given.0, given.1, takes_all (rw whole at given.2))
