-- What a run comes to whose verdict is Saturated.
use Rattle.std.specs.Prelude.{◌≡◌, ◌≢◌, List}
use Rattle.uc_order.specs.Laws.{Meaning}
use Rattle.uc_fact.specs.Live.{equations_of}
use Rattle.uc_fact.specs.Chains.{end_of}
use Rattle.uc_shelf.specs.declared.entry.Entry.{Entry}
use Rattle.uc_shelf.specs.Entries.{live}
use Rattle.uc_machine.specs.declared.state.Stage.TheVariants.{Settled}
use Rattle.uc_machine.specs.declared.event.Verdict.TheVariants.{Saturated}
use Rattle.uc_machine.specs.declared.task.Outcome.TheVariants.{Convergent}
use Rattle.uc_machine.specs.Lists.{Each}
use Rattle.uc_machine.specs.State.{Opening, State, Target}
use Rattle.uc_machine.specs.Effects.{closes}
use Rattle.uc_machine.specs.Finals.{IsFinal}
use Rattle.uc_machine.specs.Runs.{Reaches, IsDrained}
use Rattle.uc_machine.specs.Promises.{IsNormalIn}

-- By this order.
module _ (m : Meaning) where
  -- the goal is Settled, and its present ends are two different terms, from which no ordered step by the facts that live in these
  -- entries leads on
  pub record EndsDiffer (es : List Entry) (g : Target) : Type 0 where
    pub settled : g.stage ≡ Settled
    pub left_stays : IsNormalIn m es (end_of g.left)
    pub right_stays : IsNormalIn m es (end_of g.right)
    pub differ : end_of g.left ≢ end_of g.right

  -- The book was closed over a drained state, where the final pass answers Convergent, with the facts that live; since then nothing
  -- came. Each goal's ends differ there, and no ordered step leads on from them.
  pub record IsSaturated (o : Opening) (s : State) : Type 0 where
    pub drained : State
    pub reaches : Reaches m o drained
    pub is_drained : IsDrained drained
    pub is_final : IsFinal m o.axioms drained (Convergent (record { facts = equations_of (live drained.entries) }))
    pub closed : s ≡ closes 0 Saturated drained
    pub goals : Each (EndsDiffer s.entries) s.goals
