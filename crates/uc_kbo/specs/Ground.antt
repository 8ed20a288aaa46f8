-- The Knuth-Bendix order on ground terms: it is total, the least constant is least, and three laws hold of binary symbols.
use Rattle.std.proofs.Common.{◌≡◌, ℕ, ◌<◌, refl, sym, ap, ap₂, ◌∙◌, subst, arith, ◌⊎◌, inl, inr, List, [], Some}
use Rattle.uc_term.specs.declared.node.Sym.{Sym}
use Rattle.uc_term.specs.Tree.{Tree, var, app, Trees, none, more, count}
use Rattle.uc_term.specs.Over.{IsGround, AreGround}
use Rattle.uc_term.specs.Variables.{variables, variables_all}
use Rattle.uc_order.specs.Members.{In}
use Rattle.uc_order.specs.Laws.{IsGroundOf, least_term, pair_of, BinaryLaws, inside, is_first}
use Rattle.uc_kbo.specs.declared.weights.Weighed.{Weighed}
use Rattle.uc_kbo.specs.Kbo.{Covers, Weighing, weight, weight_all, Kbo, by_weight, by_head, by_args, FirstGreater, first_here, first_same, is_it}
use Rattle.uc_kbo.specs.Kbo as kbo
use Rattle.uc_kbo.specs.Weights.{symbols_of, weight_in, rank_in, arity_in, least_constant, symbol_or, weighing, IsTable, kbo_meaning}
use Rattle.uc_kbo.specs.Sums.{occurrences}
use Rattle.uc_kbo.specs.Order.{Admissible, Greater, transitive, subterms}
use Rattle.uc_kbo.specs.Table.{admissible, ranks_apart, IsConstant, least_is_constant, IsOver, least_of, some_least}

module _ (has : Sym → Type 0) (arity : Sym → ℕ) where
  mutual
    pub no_variables : (t : Tree) → IsGround has arity t → variables t ≡ []
    no_variables (var x) h = absurd h
    no_variables (app f ts) h = no_variables_all ts h.2

    pub no_variables_all : (ts : Trees) → AreGround has arity ts → variables_all ts ≡ []
    no_variables_all none h = refl
    no_variables_all (more t ts) h = rw (no_variables t h.0, no_variables_all ts h.1) refl

  pub ground_covers : (s t : Tree) → IsGround has arity t → Covers is_it s t
  ground_covers s t g k = omega (arith, ap (occurrences k) (no_variables t g))

  module _ (w : Weighing) (apart : (f g : Sym) → has f → has g → w.rank f (arity f) ≡ w.rank g (arity g) → f ≡ g) where
    pub data Decided (s t : Tree) : Type 0 where
      greater : Greater w s t → Decided s t
      equal : s ≡ t → Decided s t
      less : Greater w t s → Decided s t

    data DecidedAll (ss ts : Trees) : Type 0 where
      first_greater : FirstGreater w is_it kbo.None ss ts → DecidedAll ss ts
      all_equal : ss ≡ ts → DecidedAll ss ts
      first_less : FirstGreater w is_it kbo.None ts ss → DecidedAll ss ts

    data Three (a b : ℕ) : Type 0 where
      lower : a < b → Three a b
      same : a ≡ b → Three a b
      higher : b < a → Three a b

    to_three : (a b : ℕ) → (a < b) ⊎ ((a ≡ b) ⊎ (b < a)) → Three a b
    to_three a b (inl l) = lower l
    to_three a b (inr (inl e)) = same e
    to_three a b (inr (inr g)) = higher g

    three : (a b : ℕ) → Three a b
    three a b = to_three a b (grind arith)

    more_decided : (s t : Tree) (ss ts : Trees) → Decided s t → DecidedAll ss ts → DecidedAll (more s ss) (more t ts)
    more_decided s t ss ts (greater k) d = first_greater (first_here k)
    more_decided s t ss ts (less k) d = first_less (first_here k)
    more_decided s t ss ts (equal e) (first_greater k) = first_greater (subst (λ (u : Tree). FirstGreater w is_it kbo.None (more s ss) (more u ts)) e (first_same k))
    more_decided s t ss ts (equal e) (all_equal q) = all_equal (ap₂ more e q)
    more_decided s t ss ts (equal e) (first_less k) = first_less (subst (λ (u : Tree). FirstGreater w is_it kbo.None (more u ts) (more s ss)) e (first_same k))

    same_head : (f : Sym) (ss ts : Trees) → IsGround has arity (app f ss) → IsGround has arity (app f ts) → weight w (app f ss) ≡ weight w (app f ts) → DecidedAll ss ts → Decided (app f ss) (app f ts)
    same_head f ss ts g h e (first_greater k) = greater (by_args (ground_covers (app f ss) (app f ts) h) e (omega (arith, g.1, h.1)) k)
    same_head f ss ts g h e (all_equal q) = equal (ap (app f) q)
    same_head f ss ts g h e (first_less k) = less (by_args (ground_covers (app f ts) (app f ss) g) (sym e) (omega (arith, g.1, h.1)) k)

    abbrev Next : Trees → Trees → Type 0
    Next ss ts = count ss ≡ count ts → DecidedAll ss ts

    equal_heads : (f g : Sym) (ss ts : Trees) → f ≡ g → IsGround has arity (app f ss) → IsGround has arity (app g ts) → weight w (app f ss) ≡ weight w (app g ts) → Next ss ts → Decided (app f ss) (app g ts)
    equal_heads f g ss ts q =
        let P : Sym → Type 0 = λ h. IsGround has arity (app f ss) → IsGround has arity (app h ts) → weight w (app f ss) ≡ weight w (app h ts) → Next ss ts → Decided (app f ss) (app h ts) in
        subst P q (λ gs gt e next. same_head f ss ts gs gt e (next (omega (arith, gs.1, gt.1))))

    by_ranks : (f g : Sym) (ss ts : Trees) → IsGround has arity (app f ss) → IsGround has arity (app g ts) → weight w (app f ss) ≡ weight w (app g ts) → Next ss ts → Three (w.rank f (count ss)) (w.rank g (count ts)) → Decided (app f ss) (app g ts)
    by_ranks f g ss ts gs gt e d (lower l) = less (by_head (ground_covers (app g ts) (app f ss) gs) (sym e) l)
    by_ranks f g ss ts gs gt e d (higher l) = greater (by_head (ground_covers (app f ss) (app g ts) gt) e l)
    by_ranks f g ss ts gs gt e d (same q) = equal_heads f g ss ts (apart f g gs.0 gt.0 (ap (w.rank f) (sym gs.1) ∙ q ∙ ap (w.rank g) gt.1)) gs gt e d

    by_weights : (f g : Sym) (ss ts : Trees) → IsGround has arity (app f ss) → IsGround has arity (app g ts) → Next ss ts → Three (weight w (app f ss)) (weight w (app g ts)) → Decided (app f ss) (app g ts)
    by_weights f g ss ts gs gt d (lower l) = less (by_weight (ground_covers (app g ts) (app f ss) gs) l)
    by_weights f g ss ts gs gt d (higher l) = greater (by_weight (ground_covers (app f ss) (app g ts) gt) l)
    by_weights f g ss ts gs gt d (same e) = by_ranks f g ss ts gs gt e d (three (w.rank f (count ss)) (w.rank g (count ts)))

    mutual
      decided : (s t : Tree) → IsGround has arity s → IsGround has arity t → Decided s t
      decided (var x) t g h = absurd g
      decided (app f ss) (var y) g h = absurd h
      decided (app f ss) (app k ts) g h = by_weights f k ss ts g h (λ e. decided_all ss ts g.2 h.2 e) (three (weight w (app f ss)) (weight w (app k ts)))

      decided_all : (ss ts : Trees) → AreGround has arity ss → AreGround has arity ts → count ss ≡ count ts → DecidedAll ss ts
      decided_all none none g h e = all_equal refl
      decided_all none (more t ts) g h e = absurd (omega arith)
      decided_all (more s ss) none g h e = absurd (omega arith)
      decided_all (more s ss) (more t ts) g h e = more_decided s t ss ts (decided s t g.0 h.0) (decided_all ss ts g.1 h.1 (omega arith))

    to_sum : (s t : Tree) → Decided s t → Greater w s t ⊎ ((s ≡ t) ⊎ Greater w t s)
    to_sum s t (greater k) = inl k
    to_sum s t (equal e) = inr (inl e)
    to_sum s t (less k) = inr (inr k)

    pub total : (s t : Tree) → IsGround has arity s → IsGround has arity t → Greater w s t ⊎ ((s ≡ t) ⊎ Greater w t s)
    total s t g h = to_sum s t (decided s t g h)

-- the order of a table
module _ (w0 : ℕ) (es : List Weighed) (table : IsTable w0 es) where
  abbrev w : Weighing
  w = weighing w0 es

  abbrev Ground : Tree → Type 0
  Ground = IsGroundOf (kbo_meaning w0 es)

  abbrev more_than : (s t : Tree) → Ground t → Covers is_it s t
  more_than = ground_covers (In (symbols_of es)) (arity_in es)

  ok : Admissible w
  ok = admissible w0 es table

  pub total_ground : (s t : Tree) → Ground s → Ground t → Greater w s t ⊎ ((s ≡ t) ⊎ Greater w t s)
  total_ground = total (In (symbols_of es)) (arity_in es) w (λ f g i j e. ranks_apart es f g i j e)

  -- the least constant
  the_least : (d : Weighed) × (least_constant es ≡ Some d)
  the_least = some_least es table.constant

  least_sym : (d : Weighed) → least_constant es ≡ Some d → symbol_or (least_constant es) ≡ d.symbol
  least_sym d q = ap symbol_or q

  is_constant : (d : Weighed) → least_constant es ≡ Some d → IsConstant w0 es d
  is_constant d q = least_is_constant w0 es d table.distinct q

  pub least_is : In (symbols_of es) (symbol_or (least_constant es)) × (arity_in es (symbol_or (least_constant es)) ≡ 0)
  least_is =
      let q = the_least.1 in
      let c = is_constant the_least.0 q in
      let e = least_sym the_least.0 q in
      let P : Sym → Type 0 = In (symbols_of es) in
      (subst P (sym e) c.member, ap (arity_in es) e ∙ c.bare)

  abbrev lowest : Tree
  lowest = least_term (kbo_meaning w0 es)

  lowest_ground : Ground lowest
  lowest_ground = (least_is.0, sym least_is.1, tt)

  constant_over : (f : Sym) → Ground (app f none) → (d : Weighed) → symbol_or (least_constant es) ≡ d.symbol → IsConstant w0 es d → IsOver w0 1 es d f → (app f none ≡ lowest) ⊎ Greater w (app f none) lowest
  constant_over f g d e c (inl q) = inl (ap (λ h. app h none) (q ∙ sym e))
  constant_over f g d e c (inr (inl l)) = inr (by_weight (more_than (app f none) lowest lowest_ground) (omega (arith, l, c.weighs, ap (λ h. weight_in w0 es h 0) e)))
  constant_over f g d e c (inr (inr r)) = inr (by_head (more_than (app f none) lowest lowest_ground) (omega (arith, r.0, c.weighs, ap (λ h. weight_in w0 es h 0) e)) (omega (arith, r.1, ap (λ h. rank_in 1 es h 0) e)))

  over_arguments : (f : Sym) (t : Tree) (ts : Trees) → (t ≡ lowest) ⊎ Greater w t lowest → Greater w (app f (more t ts)) lowest
  over_arguments f t ts (inl e) = let P : Tree → Type 0 = λ u. Greater w (app f (more t ts)) u in subst P e (subterms w ok (app f (more t ts)) t (inside is_first))
  over_arguments f t ts (inr k) = transitive w ok (app f (more t ts)) t lowest (subterms w ok (app f (more t ts)) t (inside is_first)) k

  pub bottom : (t : Tree) → Ground t → (t ≡ lowest) ⊎ Greater w t lowest
  bottom (var x) g = absurd g
  bottom (app f none) g =
      let l = least_of w0 1 es f table.distinct g.0 (sym g.1) in
      constant_over f g l.constant (least_sym l.constant l.found) (is_constant l.constant l.found) l.over
  bottom (app f (more t ts)) g = inr (over_arguments f t ts (bottom t g.2.0))

  -- the laws of a binary symbol
  pub binary : (f : Sym) → In (symbols_of es) f → arity_in es f ≡ 2 → BinaryLaws (kbo_meaning w0 es) f
  binary f i a = record {
    brackets = λ x y z gx gy gz. by_args (more_than (pair_of f (pair_of f x y) z) (pair_of f x (pair_of f y z)) (both x (pair_of f y z) gx (both y z gy gz))) (omega arith) refl (first_here (subterms w ok (pair_of f x y) x (inside is_first)));
    swapped = λ x y gx gy k. by_args (more_than (pair_of f x y) (pair_of f y x) (both y x gy gx)) (omega arith) refl (first_here k);
    swapped_inside = λ x y z gx gy gz k. by_args (more_than (pair_of f x (pair_of f y z)) (pair_of f y (pair_of f x z)) (both y (pair_of f x z) gy (both x z gx gz))) (omega arith) refl (first_here k);
  }
    where
      both : (x y : Tree) → Ground x → Ground y → Ground (pair_of f x y)
      both x y gx gy = (i, sym a, (gx, (gy, tt)))
