-- The three facts of a symbol make their three steps, under every order.
use Rattle.std.proofs.Common.{◌≡◌, ◌≢◌, ℕ, Bool, true, false, ◌==◌, List, Some, slice_get, if◌then◌else◌, refl, sym, ap₂, ◌∙◌, inl, inr}
use Rattle.std.proofs.lemmas.Bool.{eq-eqb, ne_eqb}
use Rattle.uc_term.specs.declared.node.Sym.{Sym}
use Rattle.uc_term.specs.declared.equation.Equation.{Equation}
use Rattle.uc_term.specs.declared.equation.Side.TheVariants.{Left, Right}
use Rattle.uc_term.specs.Tree.{Tree, apply}
use Rattle.uc_term.specs.Within.{at_root, stay, go_by}
use Rattle.uc_term.specs.Conversion.{Turn}
use Rattle.uc_order.specs.Laws.{Meaning, HasSym, IsGroundOf, BinaryLaws, pair_of}
use Rattle.uc_term.specs.declared.equation.Side.{Side}
use Rattle.uc_term.specs.Equations.{side_of, other_side_of}
use Rattle.uc_ac.specs.declared.ac_law.AcLaw.{AcLaw}
use Rattle.uc_ac.specs.declared.ac_law.AcLaw.TheVariants.{Assoc, Comm, Extended}
use Rattle.uc_ac.specs.AcLaw.{AreSides, assoc_sides, comm_sides, extended_sides, IsLaw}
use Rattle.uc_ac.proofs.Nested.{Lowers, Exchanges}

-- one of the equations is so
abbrev pub HasOneThat : List Equation → (Equation → Type 0) → Type 0
HasOneThat es Is = (n : ℕ) × (e : Equation) × (slice_get es n ≡ Some e) × Is e

pub record HasAcFacts (es : List Equation) (f : Sym) : Type 0 where
  pub has_assoc : HasOneThat es (IsLaw Assoc f)
  pub has_comm : HasOneThat es (IsLaw Comm f)
  pub has_extended : HasOneThat es (IsLaw Extended f)

turn_by : (es : List Equation) (n : ℕ) (e : Equation) → slice_get es n ≡ Some e → (side : Side) (s t : Tree) → s ≡ side_of side e → t ≡ other_side_of side e → (σ : ℕ → Tree) (u v : Tree) → u ≡ apply σ s → v ≡ apply σ t → Turn es u v
turn_by es n e at side s t l r σ u v a b = record { number = n; side = side; l = s; r = t; sides = record { equation = e; equation_is = at; left_is = l; right_is = r }; σ = σ; u_is = a; v_is = b }

-- instances of the law's sides are a turn
law_turn : (es : List Equation) (law : AcLaw) (f : Sym) (u v : Tree) → HasOneThat es (IsLaw law f) → ((s t : Tree) → AreSides f law s t → (σ : ℕ → Tree) × (u ≡ apply σ s) × (v ≡ apply σ t)) → Turn es u v
law_turn es law f u v (n, e, at, inl i) σ = let r = σ e.left e.right i in turn_by es n e at Left e.left e.right refl refl r.0 u v r.1 r.2
law_turn es law f u v (n, e, at, inr i) σ = let r = σ e.right e.left i in turn_by es n e at Right e.right e.left refl refl r.0 u v r.1 r.2

-- three variables with their terms
abbrev pub three : ℕ → ℕ → Tree → Tree → Tree → ℕ → Tree
three x y a b c v = if v == x then a else (if v == y then b else c)

is_true : {A : Type 0} (p : Bool) (a b : A) → p ≡ true → (if p then a else b) ≡ a
is_true true a b q = refl
is_true false a b q = absurd cc

is_false : {A : Type 0} (p : Bool) (a b : A) → p ≡ false → (if p then a else b) ≡ b
is_false true a b q = absurd cc
is_false false a b q = refl

module _ (x y z : ℕ) (a b c : Tree) where
  pub three-first : three x y a b c x ≡ a
  three-first = is_true (x == x) a (if x == y then b else c) (eq-eqb x x refl)

  pub three-second : x ≢ y → three x y a b c y ≡ b
  three-second n = is_false (y == x) a (if y == y then b else c) (ne_eqb y x (λ e. n (sym e))) ∙ is_true (y == y) b c (eq-eqb y y refl)

  pub three-third : x ≢ z → y ≢ z → three x y a b c z ≡ c
  three-third n k = is_false (z == x) a (if z == y then b else c) (ne_eqb z x (λ e. n (sym e))) ∙ is_false (z == y) b c (ne_eqb z y (λ e. k (sym e)))

pub pair_is : (f : Sym) {s t u v : Tree} → s ≡ u → t ≡ v → pair_of f s t ≡ pair_of f u v
pair_is f p q = ap₂ (pair_of f) p q

-- the substitutions that make the laws' sides such terms
module _ (f : Sym) (a b c : Tree) where
  pub assoc_instance : (s t : Tree) → AreSides f Assoc s t → (σ : ℕ → Tree) × (pair_of f (pair_of f a b) c ≡ apply σ s) × (pair_of f a (pair_of f b c) ≡ apply σ t)
  assoc_instance _ _ (assoc_sides {x = i} {y = j} {z = k} p q r) =
      let x : a ≡ three i j a b c i = sym (three-first i j k a b c) in
      let y : b ≡ three i j a b c j = sym (three-second i j k a b c p) in
      let z : c ≡ three i j a b c k = sym (three-third i j k a b c q r) in
      (three i j a b c, pair_is f (pair_is f x y) z, pair_is f x (pair_is f y z))

  pub comm_instance : (s t : Tree) → AreSides f Comm s t → (σ : ℕ → Tree) × (pair_of f a b ≡ apply σ s) × (pair_of f b a ≡ apply σ t)
  comm_instance _ _ (comm_sides {x = i} {y = j} p) =
      let x : a ≡ three i j a b b i = sym (three-first i j j a b b) in
      let y : b ≡ three i j a b b j = sym (three-second i j j a b b p) in
      (three i j a b b, pair_is f x y, pair_is f y x)

  pub extended_instance : (s t : Tree) → AreSides f Extended s t → (σ : ℕ → Tree) × (pair_of f a (pair_of f b c) ≡ apply σ s) × (pair_of f b (pair_of f a c) ≡ apply σ t)
  extended_instance _ _ (extended_sides {x = i} {y = j} {z = k} p q r) =
      let x : a ≡ three i j a b c i = sym (three-first i j k a b c) in
      let y : b ≡ three i j a b c j = sym (three-second i j k a b c p) in
      let z : c ≡ three i j a b c k = sym (three-third i j k a b c q r) in
      (three i j a b c, pair_is f x (pair_is f y z), pair_is f y (pair_is f x z))

module _ (m : Meaning) (es : List Equation) (f : Sym) where
  once : (u v : Tree) → Turn es u v → IsGroundOf m u → IsGroundOf m v → m.greater u v → Lowers m es u v
  once u v t gu gv h = go_by (at_root (record { turn = t; u_ground = gu; v_ground = gv; greater = h })) stay

  module _ (has : HasSym m f) (two : m.arity f ≡ 2) (laws : BinaryLaws m f) (facts : HasAcFacts es f) where
    pair_ground : (s t : Tree) → IsGroundOf m s → IsGroundOf m t → IsGroundOf m (pair_of f s t)
    pair_ground s t g h = (has, sym two, (g, (h, tt)))

    brackets : (a b c : Tree) → IsGroundOf m a → IsGroundOf m b → IsGroundOf m c → Lowers m es (pair_of f (pair_of f a b) c) (pair_of f a (pair_of f b c))
    brackets a b c ga gb gc =
        once (pair_of f (pair_of f a b) c) (pair_of f a (pair_of f b c))
        (law_turn es Assoc f (pair_of f (pair_of f a b) c) (pair_of f a (pair_of f b c)) facts.has_assoc (assoc_instance f a b c))
        (pair_ground (pair_of f a b) c (pair_ground a b ga gb) gc)
        (pair_ground a (pair_of f b c) ga (pair_ground b c gb gc))
        (laws.brackets a b c ga gb gc)

    swapped : (a b : Tree) → IsGroundOf m a → IsGroundOf m b → m.greater a b → Lowers m es (pair_of f a b) (pair_of f b a)
    swapped a b ga gb g =
        once (pair_of f a b) (pair_of f b a)
        (law_turn es Comm f (pair_of f a b) (pair_of f b a) facts.has_comm (comm_instance f a b b))
        (pair_ground a b ga gb)
        (pair_ground b a gb ga)
        (laws.swapped a b ga gb g)

    swapped_inside : (a b c : Tree) → IsGroundOf m a → IsGroundOf m b → IsGroundOf m c → m.greater a b → Lowers m es (pair_of f a (pair_of f b c)) (pair_of f b (pair_of f a c))
    swapped_inside a b c ga gb gc g =
        once (pair_of f a (pair_of f b c)) (pair_of f b (pair_of f a c))
        (law_turn es Extended f (pair_of f a (pair_of f b c)) (pair_of f b (pair_of f a c)) facts.has_extended (extended_instance f a b c))
        (pair_ground a (pair_of f b c) ga (pair_ground b c gb gc))
        (pair_ground b (pair_of f a c) gb (pair_ground a c ga gc))
        (laws.swapped_inside a b c ga gb gc g)

    pub exchanges : Exchanges m es f
    exchanges = record { brackets = brackets; swapped = swapped; swapped_inside = swapped_inside }
