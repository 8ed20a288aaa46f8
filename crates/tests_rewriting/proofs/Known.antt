-- The variables of a term's nodes are those that occur in it.
use Rattle.std.proofs.Common.{◌≡◌, ℕ, ◌+◌, ◌<◌, Bool, true, false, List, [], ◌∷◌, ◌++◌, length, refl, subst, arith, ◌⊎◌, inl, inr, if◌then◌else◌}
use Rattle.uc_term.specs.declared.node.Node.{Node}
use Rattle.uc_term.specs.declared.node.Node.TheVariants.{Var}
use Rattle.uc_term.specs.Tree.{Tree, var, app, Trees, none, more}
use Rattle.uc_term.specs.Flat.{flat, flat_all}
use Rattle.uc_term.specs.Variables.{is_among, Occurs, is_itself, in_args, OccursIn, in_first, in_later}
use Rattle.uc_order.specs.Members.{In, in_front, in_rest, Each}
use Rattle.uc_order.specs.VarOrders.{Classes, Among, among_front, among_rest, HasOnly, class_of}
use Rattle.uc_order.proofs.Respected.{is_among-In}
use Rattle.tests_rewriting.specs.Known.{IsKnown}
use Rattle.uc_lpo.proofs.Precedences.{each_at}

cases_of : (b : Bool) → (b ≡ true) ⊎ (b ≡ false)
cases_of true = inl refl
cases_of false = inr refl

if_no : {A : Type 0} (b : Bool) (x y : A) → b ≡ false → (if b then x else y) ≡ y
if_no true x y e = absurd (grind arith)
if_no false x y e = refl

pub among_below : (cs : Classes) (x : ℕ) → class_of cs x < length cs → Among cs x
among_below [] x h = absurd (omega arith)
among_below (c ∷ cs) x h = elim (cases_of (is_among x c)) [
  | inl e ↦ among_front (is_among-In x c e)
  | inr e ↦ (let k = if_no (is_among x c) 0 (class_of cs x + 1) e in among_rest (among_below cs x (omega (arith, h, k))))
]

in_left : {A : Type 0} (x : A) (xs ys : List A) → In xs x → In (xs ++ ys) x
in_left x [] ys i = elim i [ ]
in_left x (_ ∷ xs) ys in_front = in_front
in_left x (y ∷ xs) ys (in_rest i) = in_rest (in_left x xs ys i)

in_right : {A : Type 0} (x : A) (xs ys : List A) → In ys x → In (xs ++ ys) x
in_right x [] ys i = i
in_right x (y ∷ xs) ys i = in_rest (in_right x xs ys i)

mutual
  in_flat : (x : ℕ) (t : Tree) → Occurs x t → In (flat t) (Var x)
  in_flat x (var _) is_itself = in_front
  in_flat x (app f ts) (in_args o) = in_rest (in_flat_all x ts o)

  in_flat_all : (x : ℕ) (ts : Trees) → OccursIn x ts → In (flat_all ts) (Var x)
  in_flat_all x none o = elim o [ ]
  in_flat_all x (more t ts) (in_first o) = in_left (Var x) (flat t) (flat_all ts) (in_flat x t o)
  in_flat_all x (more t ts) (in_later o) = in_right (Var x) (flat t) (flat_all ts) (in_flat_all x ts o)

pub has_only : (cs : Classes) (t : Tree) (ns : List Node) → ns ≡ flat t → Each (IsKnown cs) ns → HasOnly cs t
has_only cs t ns e k x o = among_below cs x (each_at (IsKnown cs) (flat t) (Var x) (let P : List Node → Type 0 = Each (IsKnown cs) in subst P e k) (in_flat x t o))
