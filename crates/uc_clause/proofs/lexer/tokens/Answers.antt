use Rattle.std.proofs.Common.{inl, Ok, Err, ◌≡◌, ◌+◌, take, arith, ap}
use Rattle.std.proofs.Math.Seq.{take-add}
use Rattle.std.proofs.lemmas.List.{length-take-le}
use Rattle.std.proofs.lemmas.List.Sums.{suffix_len-le-length}
use Rattle.std.specs.List.{suffix_len}
use Rattle.uc_clause.specs.declared.token.Place.{Place}
use Rattle.uc_clause.specs.declared.fault.TokenFault.TheVariants.{Syntax}
use Rattle.uc_clause.specs.Bytes.{in_line}
use Rattle.uc_clause.proofs.Cuts.{completes_gap, completes_token, cut_end, cut_stuck}
use Rattle.uc_clause.proofs.Once.{tokens_once, tokens_or_stops, stops_once, cut_spans}
use Rattle.uc_clause.proofs.Spans.{spans_few}
use Rattle.uc_clause.proofs.lexer.tokens.Goals as goal
use Rattle.uc_clause.proofs.lexer.tokens.Goals.{in-Gap, in-Whole+in_ok-push-in-Whole}

pub returns-clause-tokens : goal.returns-clause-tokens
returns-clause-tokens c = rw c.from_vec.ensures (cut_end _ _ _ c.loop-at.invariant.so_far (omega arith))

pub returns-in-Neither-clause-refused : goal.returns-in-Neither-clause-refused
returns-in-Neither-clause-refused c = (c.loop-at.at, cut_stuck _ _ _ c.loop-at.invariant.so_far (omega arith) (rw c.split_at.ensures.back at c.in-Neither.ensures), c.loop-at.invariant.place)

pub advance-place-requires-clause-column : goal.advance-place-requires-clause-column
advance-place-requires-clause-column c =
    let at_place : c.loop-at.place.column ≡ 1 + suffix_len in_line (take c.loop-at.at c.args.bytes.now) = ap (λ (p : Place). p.column) c.loop-at.invariant.place in
    omega (arith, suffix_len-le-length in_line (take c.loop-at.at c.args.bytes.now), length-take-le c.loop-at.at c.args.bytes.now (omega arith), c.loop-at.invariant.so_far.within)

pub loop-at-preserved : goal.loop-at-preserved
loop-at-preserved c = record {
  so_far = elim c.match-scan.branch [
    | in-Gap w ↦ rw (w.out-is, w.n-is) (completes_gap _ _ _ _ c.loop-at.invariant.so_far (omega arith) (rw c.split_at.ensures.back at w.in-Gap.ensures))
    | in-Whole+in_ok-push-in-Whole w ↦ rw (w.out-is, w.n-is, w.in_ok-push-in-Whole.ensures.items, c.loop-at.invariant.place) (completes_token _ _ _ _ _ c.loop-at.invariant.so_far (omega arith) (rw c.split_at.ensures.back at w.in-Whole.ensures))
  ];
  place = let behind = c.advance-place.ensures (take c.loop-at.at c.args.bytes.now) c.loop-at.invariant.place in
      rw (take-add c.loop-at.at c.match-scan.n c.args.bytes.now, ← c.split_at.ensures.back, ← c.split_at-in-loop-at.ensures.front) behind;
}

pub returns-clause-complete : goal.returns-clause-complete
returns-clause-complete c = λ ts cut. inl (rw c.from_vec.ensures (ap Ok (tokens_once (cut_end _ _ _ c.loop-at.invariant.so_far (omega arith)) cut)))

pub returns-clause-stops : goal.returns-clause-stops
returns-clause-stops c = λ place stop. absurd (tokens_or_stops (cut_end _ _ _ c.loop-at.invariant.so_far (omega arith)) stop)

pub returns-in-Neither-clause-complete : goal.returns-in-Neither-clause-complete
returns-in-Neither-clause-complete c = λ ts cut. absurd (tokens_or_stops cut (c.loop-at.at, cut_stuck _ _ _ c.loop-at.invariant.so_far (omega arith) (rw c.split_at.ensures.back at c.in-Neither.ensures), c.loop-at.invariant.place))

pub returns-in-Neither-clause-stops : goal.returns-in-Neither-clause-stops
returns-in-Neither-clause-stops c = λ place stop. inl (ap (λ p. Err (Syntax p)) (stops_once (c.loop-at.at, cut_stuck _ _ _ c.loop-at.invariant.so_far (omega arith) (rw c.split_at.ensures.back at c.in-Neither.ensures), c.loop-at.invariant.place) stop))

pub returns-clause-spans : goal.returns-clause-spans
returns-clause-spans c = rw c.from_vec.ensures (cut_spans (cut_end _ _ _ c.loop-at.invariant.so_far (omega arith)))

pub returns-clause-few : goal.returns-clause-few
returns-clause-few c = rw c.from_vec.ensures (omega (arith, spans_few c.args.bytes.now 0 c.loop-at.out.items (omega arith) (cut_spans (cut_end _ _ _ c.loop-at.invariant.so_far (omega arith)))))
