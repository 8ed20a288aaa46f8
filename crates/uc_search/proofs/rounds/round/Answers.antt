use Rattle.std.proofs.Common.{◌≡◌, refl, ◌∙◌}
use Rattle.std.proofs.lemmas.Result.{IfOk-weaker}
use Rattle.uc_book.specs.Openings.{opening_of}
use Rattle.uc_search.specs.Searching.{EndsRound}
use Rattle.uc_search.specs.Bounds.{CountedRound, counted_on}
use Rattle.uc_search.proofs.Passes.{counts_as}
use Rattle.uc_search.proofs.Moved.{moved_end}
use Rattle.uc_search.proofs.RoundEnds.{is_drained_alone, drained_round, closed_round, both_of}
use Rattle.uc_search.proofs.rounds.round.Goals as goal

pub end_round-requires-clause-drained : goal.end_round-requires-clause-drained
end_round-requires-clause-drained g c κs within =
    let a = c.args.book.now in
    is_drained_alone (g.O.Order.meaning a.order) (opening_of a.opening) c.args.pass.now.worker a.state c.work_alone.result c.work_alone.new.book.state c.in-Drained.is c.work_alone.ensures.ended

pub returns-in-Drained-clause-round : goal.returns-in-Drained-clause-round
returns-in-Drained-clause-round g c =
    let a = c.args.book.now in
    let b = c.work_alone.new.book in
    let u = c.end_round.new.book.state in
    let old = c.args.passes.now in
    let new = c.end_round.new.passes in
    IfOk-weaker c.end_round.result (λ v. EndsRound (g.O.Order.meaning b.order) (opening_of b.opening) b.state v u × (new ≡ counted_on old 1)) (λ v. CountedRound (g.O.Order.meaning a.order) (opening_of a.opening) c.args.pass.now.worker a.state v u old new)
    (λ v e. drained_round (g.O.Order.meaning a.order) (opening_of a.opening) c.args.pass.now.worker a.state c.work_alone.result b.state v u old new c.in-Drained.is c.work_alone.ensures.ended e.1 (moved_end g.O.Order.meaning a b c.work_alone.ensures.book b.state v u e.0))
    (both_of (λ v. EndsRound (g.O.Order.meaning b.order) (opening_of b.opening) b.state v u) (new ≡ counted_on old 1) c.end_round.result c.end_round.ensures.ends c.end_round.ensures.passes)

pub returns-in-Drained-clause-count : goal.returns-in-Drained-clause-count
returns-in-Drained-clause-count g c =
    let s = c.args.book.now.state in
    counts_as c.args.pass.now c.work_alone.new.pass c.args.pass.now c.work_alone.new.pass s c.work_alone.new.book.state s c.end_round.new.book.state refl refl (λ v. refl) c.end_round.ensures.commits c.work_alone.ensures.count

pub returns-in-Closed-clause-round : goal.returns-in-Closed-clause-round
returns-in-Closed-clause-round g c =
    let a = c.args.book.now in
    closed_round (g.O.Order.meaning a.order) (opening_of a.opening) c.args.pass.now.worker a.state c.work_alone.result c.work_alone.new.book.state c.copied.result c.args.passes.now c.in-Closed.is c.work_alone.ensures.ended (c.copied.ensures ∙ c.verdict.ensures) c.has_few_passes.ensures
