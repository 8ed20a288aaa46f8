-- Matching on trees: the value that a variable must have where an instance of a pattern is a term.
use Rattle.std.proofs.Common.{◌≡◌, ◌≢◌, ℕ, ◌==◌, Bool, true, false, refl, sym, ap, ◌∙◌, subst, ◌⊎◌, inl, inr, if◌then◌else◌, arith}
use Rattle.std.proofs.lemmas.Bool.Decides.{nat_tests}
use Rattle.uc_term.specs.declared.node.Sym.{Sym}
use Rattle.uc_term.specs.Tree.{Tree, var, app, Trees, none, more, apply, apply_all}
use Rattle.uc_term.specs.Over.{IsGround, AreGround}
use Rattle.uc_term.specs.Variables.{Occurs, is_itself, in_args, OccursIn, in_first, in_later}

-- what stands in the term at the first place of x in the pattern, and d where there is none
abbrev mutual
  pub value : ℕ → Tree → Tree → Tree → Tree
  value x (var y) u d = if y == x then u else d
  value x (app f ts) (var z) d = d
  value x (app f ts) (app g us) d = values x ts us d

  pub values : ℕ → Trees → Trees → Tree → Tree
  values x none us d = d
  values x (more t ts) none d = d
  values x (more t ts) (more u us) d = value x t u (values x ts us d)

either : (b : Bool) (u v d : Tree) → (b ≡ true → u ≡ v) → d ≡ v → (if b then u else d) ≡ v
either true u v d h e = h refl
either false u v d h e = e

either_is : (b : Bool) (u v d : Tree) → (b ≡ true → u ≡ v) → ((if b then u else d) ≡ v) ⊎ ((if b then u else d) ≡ d)
either_is true u v d h = inl (h refl)
either_is false u v d h = inr refl

module _ (σ : ℕ → Tree) (x : ℕ) where
  same_value : (y : ℕ) → (y == x) ≡ true → σ y ≡ σ x
  same_value y e = let q : y ≡ x = grind (arith, nat_tests) in ap σ q

  mutual
    pub value_kept : (l d : Tree) → d ≡ σ x → value x l (apply σ l) d ≡ σ x
    value_kept (var y) d e = either (y == x) (σ y) (σ x) d (same_value y) e
    value_kept (app f ts) d e = values_kept ts d e

    values_kept : (ts : Trees) (d : Tree) → d ≡ σ x → values x ts (apply_all σ ts) d ≡ σ x
    values_kept none d e = e
    values_kept (more t ts) d e = value_kept t (values x ts (apply_all σ ts) d) (values_kept ts d e)

  here : (d : Tree) → value x (var x) (σ x) d ≡ σ x
  here d = let e : (x == x) ≡ true = grind (arith, nat_tests) in rw e refl

  at_itself : (y : ℕ) (d : Tree) → Occurs x (var y) → value x (var y) (σ y) d ≡ σ x
  at_itself _ d is_itself = here d

  args : {f : Sym} {ts : Trees} → Occurs x (app f ts) → OccursIn x ts
  args (in_args o) = o

  mutual
    -- a variable that occurs has its value
    pub value_is : (l d : Tree) → Occurs x l → value x l (apply σ l) d ≡ σ x
    value_is (var y) d o = at_itself y d o
    value_is (app f ts) d o = values_are ts d (args o)

    values_are : (ts : Trees) (d : Tree) → OccursIn x ts → values x ts (apply_all σ ts) d ≡ σ x
    values_are none d o = elim o [ ]
    values_are (more t ts) d (in_first o) = value_is t (values x ts (apply_all σ ts) d) o
    values_are (more t ts) d (in_later o) = value_kept t (values x ts (apply_all σ ts) d) (values_are ts d o)

  or_else : (a v d d' : Tree) → (a ≡ v) ⊎ (a ≡ d') → d' ≡ d → (a ≡ v) ⊎ (a ≡ d)
  or_else a v d d' (inl e) q = inl e
  or_else a v d d' (inr e) q = inr (e ∙ q)

  after : (t : Tree) (ts : Trees) (d : Tree) → (values x (more t ts) (apply_all σ (more t ts)) d ≡ σ x) ⊎ (values x (more t ts) (apply_all σ (more t ts)) d ≡ values x ts (apply_all σ ts) d) → (values x ts (apply_all σ ts) d ≡ σ x) ⊎ (values x ts (apply_all σ ts) d ≡ d) → (values x (more t ts) (apply_all σ (more t ts)) d ≡ σ x) ⊎ (values x (more t ts) (apply_all σ (more t ts)) d ≡ d)
  after t ts d r (inl e) = inl (value_kept t (values x ts (apply_all σ ts) d) e)
  after t ts d r (inr e) = or_else (value x t (apply σ t) (values x ts (apply_all σ ts) d)) (σ x) d (values x ts (apply_all σ ts) d) r e

  mutual
    -- any variable has its value or the default
    pub value_or : (l d : Tree) → (value x l (apply σ l) d ≡ σ x) ⊎ (value x l (apply σ l) d ≡ d)
    value_or (var y) d = either_is (y == x) (σ y) (σ x) d (same_value y)
    value_or (app f ts) d = values_or ts d

    values_or : (ts : Trees) (d : Tree) → (values x ts (apply_all σ ts) d ≡ σ x) ⊎ (values x ts (apply_all σ ts) d ≡ d)
    values_or none d = inr refl
    values_or (more t ts) d = after t ts d (value_or t (values x ts (apply_all σ ts) d)) (values_or ts d)

  not_here : (y : ℕ) (u d : Tree) → y ≢ x → value x (var y) u d ≡ d
  not_here y u d n = let e : (y == x) ≡ false = grind (arith, nat_tests) in rw e refl

  mutual
    -- a variable that doesn't occur has the default
    pub value_none : (l u d : Tree) → (Occurs x l → ⊥) → value x l u d ≡ d
    value_none (var y) u d n = not_here y u d (λ e. n (let P : ℕ → Type 0 = λ z. Occurs x (var z) in subst P (sym e) is_itself))
    value_none (app f ts) (var z) d n = refl
    value_none (app f ts) (app g us) d n = values_none ts us d (λ o. n (in_args o))

    values_none : (ts us : Trees) (d : Tree) → (OccursIn x ts → ⊥) → values x ts us d ≡ d
    values_none none us d n = refl
    values_none (more t ts) none d n = refl
    values_none (more t ts) (more u us) d n = value_none t u (values x ts us d) (λ o. n (in_first o)) ∙ values_none ts us d (λ o. n (in_later o))

module _ (has : Sym → Type 0) (arity : Sym → ℕ) where
  picked_ground : (b : Bool) (u d : Tree) → IsGround has arity u → IsGround has arity d → IsGround has arity (if b then u else d)
  picked_ground true u d g h = g
  picked_ground false u d g h = h

  mutual
    pub value_ground : (x : ℕ) (l u d : Tree) → IsGround has arity u → IsGround has arity d → IsGround has arity (value x l u d)
    value_ground x (var y) u d g h = picked_ground (y == x) u d g h
    value_ground x (app f ts) (var z) d g h = absurd g
    value_ground x (app f ts) (app k us) d g h = values_ground x ts us d g.2 h

    values_ground : (x : ℕ) (ts us : Trees) (d : Tree) → AreGround has arity us → IsGround has arity d → IsGround has arity (values x ts us d)
    values_ground x none us d g h = h
    values_ground x (more t ts) none d g h = h
    values_ground x (more t ts) (more u us) d g h = value_ground x t u (values x ts us d) g.0 (values_ground x ts us d g.1 h)
