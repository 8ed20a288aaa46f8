use Rattle.std.proofs.Common.{refl, subst, arith}
use Rattle.uc_search.proofs.Endless.{round_counted}
use Rattle.uc_book.specs.Openings.{opening_of}
use Rattle.uc_search.specs.Bounds.{CountedRound}
use Rattle.uc_search.proofs.Passes.{counts_nothing, counts_on}
use Rattle.uc_search.proofs.Moved.{moved_round, same_book_on, same_pass_on}
use Rattle.uc_search.proofs.Rounding.{leads_from_start, leads_further, leads_to_end}
use Rattle.uc_search.proofs.rounds.search_counting.Goals as goal

pub loop-made-init : goal.loop-made-init
loop-made-init g c =
    let b = c.args.book.now in
    record {
      units = omega arith;
      searches = leads_from_start (g.O.Order.meaning b.order) (opening_of b.opening) c.args.pass.now.worker b.state c.args.passes.now c.has_few_passes.ensures;
      none_out = c.requires.none_out;
      book = record { opening = refl; order = refl; enrolled = refl };
      pass = record { worker = refl; opening = refl };
      count = counts_nothing c.args.pass.now c.args.book.now.state c.has_few_commits.ensures.pass c.has_few_commits.ensures.history;
    }

pub loop-made-preserved : goal.loop-made-preserved
loop-made-preserved g c =
    let a = c.args.book.now in
    let b = c.loop-made.book in
    let w = c.args.pass.now.worker in
    let r = moved_round g.O.Order.meaning a b c.loop-made.invariant.book c.loop-made.pass.worker w b.state c.in_ok-verdict.field-0 c.round.new.book.state c.loop-made.passes c.round.new.passes c.loop-made.invariant.pass.worker c.in_ok-verdict.ensures.round in
    let n = subst (λ x. CountedRound (g.O.Order.meaning a.order) (opening_of a.opening) w b.state x c.round.new.book.state c.loop-made.passes c.round.new.passes) c.in_default.is r in
    record {
      units = omega (arith, c.loop-made.invariant.units, round_counted (g.O.Order.meaning a.order) (opening_of a.opening) w b.state c.round.new.book.state n.round);
      searches = leads_further (g.O.Order.meaning a.order) (opening_of a.opening) w a.state b.state c.round.new.book.state c.args.passes.now c.loop-made.passes c.round.new.passes c.loop-made.invariant.searches n;
      none_out = c.in_ok-verdict.ensures.none_out;
      book = same_book_on a b c.round.new.book c.loop-made.invariant.book c.in_ok-verdict.ensures.book;
      pass = same_pass_on c.args.pass.now c.loop-made.pass c.round.new.pass c.loop-made.invariant.pass c.in_ok-verdict.ensures.pass;
      count = counts_on c.args.pass.now c.loop-made.pass c.round.new.pass a.state b.state c.round.new.book.state c.loop-made.invariant.pass.worker c.loop-made.invariant.count c.in_ok-verdict.ensures.count;
    }

pub returns-in-Some-clause-searched : goal.returns-in-Some-clause-searched
returns-in-Some-clause-searched g c =
    let a = c.args.book.now in
    let b = c.loop-made.book in
    let w = c.args.pass.now.worker in
    let r = moved_round g.O.Order.meaning a b c.loop-made.invariant.book c.loop-made.pass.worker w b.state c.in_ok-verdict.field-0 c.round.new.book.state c.loop-made.passes c.round.new.passes c.loop-made.invariant.pass.worker c.in_ok-verdict.ensures.round in
    leads_to_end (g.O.Order.meaning a.order) (opening_of a.opening) w a.state b.state c.round.new.book.state c.in-Some.verdict c.args.passes.now c.loop-made.passes c.round.new.passes c.loop-made.invariant.searches
    (subst (λ x. CountedRound (g.O.Order.meaning a.order) (opening_of a.opening) w b.state x c.round.new.book.state c.loop-made.passes c.round.new.passes) c.in-Some.is r)

pub returns-in-Some-clause-count : goal.returns-in-Some-clause-count
returns-in-Some-clause-count g c =
    counts_on c.args.pass.now c.loop-made.pass c.round.new.pass c.args.book.now.state c.loop-made.book.state c.round.new.book.state c.loop-made.invariant.pass.worker c.loop-made.invariant.count c.in_ok-verdict.ensures.count

pub returns-in_err-verdict-clause-count : goal.returns-in_err-verdict-clause-count
returns-in_err-verdict-clause-count g c =
    counts_on c.args.pass.now c.loop-made.pass c.round.new.pass c.args.book.now.state c.loop-made.book.state c.round.new.book.state c.loop-made.invariant.pass.worker c.loop-made.invariant.count c.in_err-verdict.ensures.count

pub unreachable-requires : goal.unreachable-requires
unreachable-requires g c = absurd (omega (arith, c.loop-made.invariant.units, c.has_few_units.ensures))
