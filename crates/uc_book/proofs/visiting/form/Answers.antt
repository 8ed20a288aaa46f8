use Rattle.std.proofs.Common.{arith, ◌<◌, ◌++◌, length, map, ap, ◌∙◌}
use Rattle.std.proofs.lemmas.List.{take_all}
use Rattle.uc_machine.specs.Effects.{pair_by}
use Rattle.uc_rows.specs.Deaths.{deaths_by}
use Rattle.uc_book.proofs.NewPairs.{formed_more}
use Rattle.uc_book.proofs.visiting.form.Goals as goal

pub loop-k-preserved : goal.loop-k-preserved
loop-k-preserved c =
    let fs = c.args.overlaps.now in
    let k = c.loop-k.k in
    let i = c.loop-k.invariant in
    let l : k < length fs = omega arith in
    record {
      pairs = λ killer. formed_more (c.args.facts.now.front.entries ++ deaths_by killer c.args.falls.now) fs k _ c.weight_by-weight.result c.state_by-state.result c.args.pairs.now.pairs c.loop-k.pairs.pairs c.add.new.self.pairs l c.weight_by-weight.ensures (c.state_by-state.ensures killer) (i.pairs killer) c.add.ensures.pairs;
      draws = c.add.ensures.draws ∙ i.draws;
      room = omega (arith, i.room, c.add.ensures.room);
      spare = omega (arith, i.spare, c.add.ensures.spare);
    }

pub returns-clause-pairs : goal.returns-clause-pairs
returns-clause-pairs c = λ killer. (let es = c.args.facts.now.front.entries ++ deaths_by killer c.args.falls.now in
    c.loop-k.invariant.pairs killer ∙ ap (λ fs. c.args.pairs.now.pairs ++ map (pair_by es) fs) (take_all c.loop-k.k c.args.overlaps.now (omega arith)))
