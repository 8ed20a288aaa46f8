-- What is answered to a question: whether two terms have the same normal form.
use Rattle.std.specs.Prelude.{ℕ, ◌≡◌, ◌-◌, List, length}
use Rattle.uc_term.specs.declared.equation.Equation.{Equation}
use Rattle.uc_term.specs.Tree.{Tree}
use Rattle.uc_term.specs.Conversion.{Conv}
use Rattle.uc_order.specs.Laws.{Meaning}
use Rattle.uc_fact.specs.declared.fact.Stop.TheVariants.{Full, Steps, Size}
use Rattle.uc_fact.specs.Live.{Live}
use Rattle.uc_rewrite.specs.declared.normal.Normal.{Normal}
use Rattle.uc_rewrite.specs.Normalising.{IsNormalOf}
use Rattle.uc_decide.specs.declared.reply.Reply.{Reply}
use Rattle.uc_decide.specs.declared.reply.Reply.TheVariants.{Equal, Different, Spent, Grown}
use Rattle.uc_decide.specs.NormalForms.{HasNormalForm}
use Rattle.uc_decide.specs.Deciding.{IsLeastOf}

module _ (m : Meaning) (live : List Live) where
  -- what normalising a term by the facts that live comes to, with at most so many steps
  abbrev pub Normalised : ℕ → Tree → Normal → Type 0
  Normalised = IsNormalOf m.greater m.least live

  -- What is answered with at most so many steps. The left side is normalised, and then, where no step of it is possible any
  -- more, the right side with the steps that are left. Where a side stops since its steps are spent, so are all: they were made,
  -- and a further one is possible.
  pub data IsReply (steps : ℕ) (s t : Tree) : Reply → Type 0 where
    left_spent : {left : Normal} → Normalised steps s left → left.stop ≡ Steps → IsReply steps s t (Spent steps)
    left_grown : {left : Normal} → Normalised steps s left → left.stop ≡ Size → IsReply steps s t Grown
    right_spent : {left right : Normal} → Normalised steps s left → left.stop ≡ Full → Normalised (steps - length left.chain.steps) t right → right.stop ≡ Steps → IsReply steps s t (Spent steps)
    right_grown : {left right : Normal} → Normalised steps s left → left.stop ≡ Full → Normalised (steps - length left.chain.steps) t right → right.stop ≡ Size → IsReply steps s t Grown
    have_one_end : {left right : Normal} → Normalised steps s left → left.stop ≡ Full → Normalised (steps - length left.chain.steps) t right → right.stop ≡ Full → left.term ≡ right.term → IsReply steps s t (Equal left.term)
    have_two_ends : {left right : Normal} → Normalised steps s left → left.stop ≡ Full → Normalised (steps - length left.chain.steps) t right → right.stop ≡ Full → (left.term ≡ right.term → ⊥) → IsReply steps s t (Different left.term right.term)

-- the reply's terms are the normal forms of the two sides
abbrev pub HasNormalForms : Meaning → List Equation → Tree → Tree → Reply → Type 0
HasNormalForms m es s t (Equal n) = HasNormalForm m es s n × HasNormalForm m es t n
HasNormalForms m es s t (Different left right) = HasNormalForm m es s left × HasNormalForm m es t right × (left ≡ right → ⊥)
HasNormalForms m es s t (Spent n) = Unit {0}
HasNormalForms m es s t Grown = Unit {0}

-- what the reply says of the axioms is so: the sides are equal by them, or they aren't; and its terms are the least of those to
-- which the axioms make the sides equal
abbrev pub IsRight : Meaning → List Equation → Tree → Tree → Reply → Type 0
IsRight m axioms s t (Equal n) = Conv axioms s t × IsLeastOf m axioms s n × IsLeastOf m axioms t n
IsRight m axioms s t (Different left right) = (Conv axioms s t → ⊥) × IsLeastOf m axioms s left × IsLeastOf m axioms t right
IsRight m axioms s t (Spent n) = Unit {0}
IsRight m axioms s t Grown = Unit {0}

-- the reply that two ends make
abbrev pub IsByEnds : Tree → Tree → Reply → Type 0
IsByEnds left right (Equal n) = (n ≡ left) × (left ≡ right)
IsByEnds left right (Different l r) = (l ≡ left) × (r ≡ right) × (left ≡ right → ⊥)
IsByEnds left right (Spent n) = ⊥
IsByEnds left right Grown = ⊥

-- the reply says whether the sides are equal
abbrev pub IsVerdict : Reply → Type 0
IsVerdict (Equal n) = Unit {0}
IsVerdict (Different left right) = Unit {0}
IsVerdict (Spent n) = ⊥
IsVerdict Grown = ⊥
