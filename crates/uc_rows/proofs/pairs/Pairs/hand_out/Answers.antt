use Rattle.std.proofs.Common.{refl, ◌≡◌, Some, length, ◌∙◌, ap}
use Rattle.std.specs.Prelude.{option_map}
use Rattle.std.proofs.lemmas.List.{length-set}
use Rattle.uc_queue.specs.declared.entry.Entry.{Entry as Place}
use Rattle.uc_ledger.specs.declared.ledger.State.TheVariants.{Out as OutTo}
use Rattle.uc_rows.proofs.PairChanges.{inside_head, head_waits, turned, queue_left}
use Rattle.uc_rows.proofs.pairs.Pairs.hand_out.Goals as goal
use Rattle.uc_rows.proofs.pairs.Pairs.hand_out.Goals.{in-Ok, in-Err+else-prove}

pub prove-unreachable-requires : goal.prove-unreachable-requires
prove-unreachable-requires c = c.in-Err.ensures.other (c.in-Err.ensures.is ∙ head_waits c.self.inside c.args.self.now c.args.number c.self.view_is c.requires)

pub invariant_of-self : goal.invariant_of-self
invariant_of-self c = elim c.match-take.branch [
  | in-Ok w ↦
      let i = c.self.inside in
      let t = w.in-Ok.ensures in
      let drawn : c.draw.result ≡ Some c.args.number = c.draw.ensures.next ∙ ap (option_map (λ (e : Place). e.number)) (inside_head i c.args.self.now c.self.invariant c.self.view_is) ∙ c.requires in
      let taken = rw drawn at c.draw.ensures.taken in
      record {
        as_many = ap length t.becomes ∙ length-set i.states.states c.args.number (OutTo c.args.worker) ∙ c.self.invariant.as_many;
        queue = queue_left i.rows.items i.states.states c.take.new.self.states c.args.number (OutTo c.args.worker) t.becomes i.queue.waiting c.draw.new.self.waiting refl c.self.invariant.queue taken;
      }
  | in-Err+else-prove w ↦ absurd (w.in-Err.ensures.other (w.in-Err.ensures.is ∙ head_waits c.self.inside c.args.self.now c.args.number c.self.view_is c.requires))
]

pub returns-clause-pairs : goal.returns-clause-pairs
returns-clause-pairs c = elim c.match-take.branch [
  | in-Ok w ↦ rw (← c.self.view_is) (turned c.self.inside.rows.items c.self.inside.states.states c.take.new.self.states c.args.number (OutTo c.args.worker) w.in-Ok.ensures.becomes)
  | in-Err+else-prove w ↦ absurd (w.in-Err.ensures.other (w.in-Err.ensures.is ∙ head_waits c.self.inside c.args.self.now c.args.number c.self.view_is c.requires))
]
