-- Laws of steps at one place and of lists of steps.
use Rattle.std.proofs.Common.{◌≡◌, ℕ, sym, subst}
use Rattle.uc_term.specs.declared.node.Sym.{Sym}
use Rattle.uc_term.specs.Tree.{Tree, var, app, Trees, none, more, apply, apply_all}
use Rattle.uc_term.specs.Variables.{Occurs, is_itself, in_args, OccursIn, in_first, in_later}
use Rattle.uc_term.specs.Within.{Within, at_root, under, WithinOne, at_first, at_later, Steps, stay, go_by, Joined}

module _ (R : Tree → Tree → Type 0) where
  pub Steps-trans : {u v w : Tree} → Steps R u v → Steps R v w → Steps R u w
  Steps-trans stay d = d
  Steps-trans (go_by s c) d = go_by s (Steps-trans c d)

  pub one_step : {u v : Tree} → R u v → Steps R u v
  one_step s = go_by s stay

  pub Joined-sym : {u v : Tree} → Joined R u v → Joined R v u
  Joined-sym j = record { meet = j.meet; from_left = j.from_right; from_right = j.from_left }

  pub Joined-refl : (u v : Tree) → u ≡ v → Joined R u v
  Joined-refl u v e = record { meet = v; from_left = subst (λ (t : Tree). Steps R t v) (sym e) stay; from_right = stay }

  -- lists of steps before a joining
  pub Joined-before : {u v u' v' : Tree} → Steps R u u' → Steps R v v' → Joined R u' v' → Joined R u v
  Joined-before c d j = record { meet = j.meet; from_left = Steps-trans c j.from_left; from_right = Steps-trans d j.from_right }

mutual
  pub Within-map : {R Q : Tree → Tree → Type 0} → ((u v : Tree) → R u v → Q u v) → {u v : Tree} → Within R u v → Within Q u v
  Within-map h (at_root {u = u} {v = v} s) = at_root (h u v s)
  Within-map h (under o) = under (WithinOne-map h o)

  pub WithinOne-map : {R Q : Tree → Tree → Type 0} → ((u v : Tree) → R u v → Q u v) → {us vs : Trees} → WithinOne R us vs → WithinOne Q us vs
  WithinOne-map h (at_first s) = at_first (Within-map h s)
  WithinOne-map h (at_later o) = at_later (WithinOne-map h o)

-- lists of steps in one of the arguments, and in all of them
module _ (R : Tree → Tree → Type 0) where
  abbrev pub Moves : Tree → Tree → Type 0
  Moves = Steps (Within R)

  -- steps on lists of terms
  pub data AllSteps : Trees → Trees → Type 0 where
    stay_all : {us : Trees} → AllSteps us us
    go_all : {us vs ws : Trees} → WithinOne R us vs → AllSteps vs ws → AllSteps us ws

  AllSteps-trans : {us vs ws : Trees} → AllSteps us vs → AllSteps vs ws → AllSteps us ws
  AllSteps-trans stay_all d = d
  AllSteps-trans (go_all s c) d = go_all s (AllSteps-trans c d)

  steps_first : (ts : Trees) {u v : Tree} → Moves u v → AllSteps (more u ts) (more v ts)
  steps_first ts stay = stay_all
  steps_first ts (go_by s c) = go_all (at_first s) (steps_first ts c)

  steps_later : (t : Tree) {us vs : Trees} → AllSteps us vs → AllSteps (more t us) (more t vs)
  steps_later t stay_all = stay_all
  steps_later t (go_all s c) = go_all (at_later s) (steps_later t c)

  pub steps_more : {u v : Tree} {us vs : Trees} → Moves u v → AllSteps us vs → AllSteps (more u us) (more v vs)
  steps_more {v = v} {us = us} c d = AllSteps-trans (steps_first us c) (steps_later v d)

  pub steps_under : (f : Sym) {us vs : Trees} → AllSteps us vs → Moves (app f us) (app f vs)
  steps_under f stay_all = stay
  steps_under f (go_all o c) = go_by (under o) (steps_under f c)

  -- the value of each variable that occurs moved
  module _ (σ τ : ℕ → Tree) where
    mutual
      pub steps_apply_on : (t : Tree) → ((x : ℕ) → Occurs x t → Moves (σ x) (τ x)) → Moves (apply σ t) (apply τ t)
      steps_apply_on (var x) h = h x is_itself
      steps_apply_on (app f ts) h = steps_under f (steps_apply_all_on ts (λ x o. h x (in_args o)))

      pub steps_apply_all_on : (ts : Trees) → ((x : ℕ) → OccursIn x ts → Moves (σ x) (τ x)) → AllSteps (apply_all σ ts) (apply_all τ ts)
      steps_apply_all_on none h = stay_all
      steps_apply_all_on (more t ts) h = steps_more (steps_apply_on t (λ x o. h x (in_first o))) (steps_apply_all_on ts (λ x o. h x (in_later o)))

    pub steps_apply : ((x : ℕ) → Moves (σ x) (τ x)) → (t : Tree) → Moves (apply σ t) (apply τ t)
    steps_apply moves t = steps_apply_on t (λ x o. moves x)

    pub steps_apply_all : ((x : ℕ) → Moves (σ x) (τ x)) → (ts : Trees) → AllSteps (apply_all σ ts) (apply_all τ ts)
    steps_apply_all moves ts = steps_apply_all_on ts (λ x o. moves x)

  pub record AllJoined (us vs : Trees) : Type 0 where
    pub meet : Trees
    pub from_left : AllSteps us meet
    pub from_right : AllSteps vs meet

  pub join_under : (f : Sym) {us vs : Trees} → AllJoined us vs → Joined (Within R) (app f us) (app f vs)
  join_under f j = record { meet = app f j.meet; from_left = steps_under f j.from_left; from_right = steps_under f j.from_right }

  pub join_first : {u v : Tree} (ts : Trees) → Joined (Within R) u v → AllJoined (more u ts) (more v ts)
  join_first ts j = record { meet = more j.meet ts; from_left = steps_more j.from_left stay_all; from_right = steps_more j.from_right stay_all }

  pub join_later : (t : Tree) {us vs : Trees} → AllJoined us vs → AllJoined (more t us) (more t vs)
  join_later t j = record { meet = more t j.meet; from_left = steps_more stay j.from_left; from_right = steps_more stay j.from_right }
