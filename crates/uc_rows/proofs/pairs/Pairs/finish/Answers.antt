use Rattle.std.proofs.Common.{refl, length, ◌∙◌, ap}
use Rattle.std.proofs.lemmas.List.{length-set}
use Rattle.uc_ledger.specs.declared.ledger.State.TheVariants.{Out as OutTo, Done}
use Rattle.uc_machine.specs.State.{is_waiting}
use Rattle.uc_rows.proofs.PairChanges.{pair_in, turned, queue_stays}
use Rattle.uc_rows.proofs.pairs.Pairs.finish.Goals as goal
use Rattle.uc_rows.proofs.pairs.Pairs.finish.Goals.{in-Ok, in-Err+else-prove}

pub prove-unreachable-requires : goal.prove-unreachable-requires
prove-unreachable-requires c = (let p = pair_in c.self.inside c.args.self.now c.args.number (OutTo c.args.worker) c.self.view_is c.requires in c.in-Err.ensures.other (c.in-Err.ensures.is ∙ p.state))

pub invariant_of-self : goal.invariant_of-self
invariant_of-self c =
    let i = c.self.inside in
    let p = pair_in i c.args.self.now c.args.number (OutTo c.args.worker) c.self.view_is c.requires in
    elim c.match-finish.branch [
      | in-Ok w ↦
          let t = w.in-Ok.ensures in
          record {
            as_many = ap length t.becomes ∙ length-set i.states.states c.args.number Done ∙ c.self.invariant.as_many;
            queue = queue_stays i.rows.items i.states.states c.finish.new.self.states c.args.number Done t.becomes p.pair i.queue.waiting i.queue.waiting refl p.at (ap is_waiting p.condition) c.self.invariant.queue refl;
          }
      | in-Err+else-prove w ↦ absurd (w.in-Err.ensures.other (w.in-Err.ensures.is ∙ p.state))
    ]

pub returns-clause-pairs : goal.returns-clause-pairs
returns-clause-pairs c =
    let p = pair_in c.self.inside c.args.self.now c.args.number (OutTo c.args.worker) c.self.view_is c.requires in
    elim c.match-finish.branch [
      | in-Ok w ↦ rw (← c.self.view_is) (turned c.self.inside.rows.items c.self.inside.states.states c.finish.new.self.states c.args.number Done w.in-Ok.ensures.becomes)
      | in-Err+else-prove w ↦ absurd (w.in-Err.ensures.other (w.in-Err.ensures.is ∙ p.state))
    ]
