-- What is known of an equation that may be audited.
use Rattle.std.proofs.Common.{List, ◌∷◌}
use Rattle.uc_order.specs.Laws.{Meaning}
use Rattle.uc_order.specs.Members.{In, in_front, in_rest}
use Rattle.uc_machine.specs.declared.task.Missing.{Missing}
use Rattle.uc_machine.specs.declared.task.Outcome.TheVariants.{Missing as Lacks}
use Rattle.uc_machine.specs.State.{Opening, State}
use Rattle.uc_machine.specs.Finals.{IsFinal}
use Rattle.uc_machine.specs.Runs.{IsDrained, AreAudited, none_yet, one_more, MayAudit, is_next, Reaches}

-- it was among those that were missing when the book was drained
pub record WasMissing (m : Meaning) (o : Opening) (s : State) (missing : Missing) : Type 0 where
  pub drained : State
  pub reaches : Reaches m o drained
  pub is_drained : IsDrained drained
  pub all : List Missing
  pub left : List Missing
  pub is_final : IsFinal m o.axioms drained (Lacks all)
  pub audited : AreAudited o all drained (missing ∷ left) s
  pub among : In all missing

-- what is left is among all
left_among : (o : Opening) (all : List Missing) (d : State) (left : List Missing) (s : State) → AreAudited o all d left s → (x : Missing) → In left x → In all x
left_among o all d _ _ none_yet x i = i
left_among o all d left u (one_more {missing = y} {s = s} a b) x i = left_among o all d (y ∷ left) s a x (in_rest i)

pub was_missing : (m : Meaning) (o : Opening) (s : State) (x : Missing) → MayAudit m o s x → WasMissing m o s x
was_missing m o s x (is_next {drained = d} {all = all} {left = left} r i f a) = record { drained = d; reaches = r; is_drained = i; all = all; left = left; is_final = f; audited = a; among = left_among o all d (x ∷ left) s a x in_front }
