-- What normalising comes to is one.
use Rattle.std.proofs.Common.{◌≡◌, ℕ, zero, suc, ◌+◌, ◌<◌, ◌≤◌, List, [], ◌∷◌, refl, sym, ap, ap₂, ◌∙◌, arith, ◌⊎◌, inl, inr, subst}
use Rattle.uc_term.specs.declared.node.Sym.{Sym}
use Rattle.uc_term.specs.Tree.{Tree, app, Trees, none, more, apply, nodes}
use Rattle.uc_term.specs.Variables.{Occurs}
use Rattle.uc_term.specs.Within.{at_root, under, WithinOne, at_first, at_later}
use Rattle.uc_term.proofs.Agree.{agree_at, same_if}
use Rattle.uc_fact.specs.declared.chain.Step.{Step}
use Rattle.uc_fact.specs.declared.fact.Stop.{Stop}
use Rattle.uc_fact.specs.Live.{Live, Rule, rules_of, equations_of}
use Rattle.uc_fact.specs.Ordered.{IsCompleted, Falls, OStep, IsIrreducible}
use Rattle.uc_fact.proofs.Occurring.{occurs_or_not}
use Rattle.uc_rewrite.specs.declared.normal.Normal.{Normal}
use Rattle.uc_rewrite.specs.Normalising.{Makes, FirstRule, this_rule, later_rule, FirstStep, in_arguments, at_the_term, FirstStepAmong, in_this, in_another, Normalises, is_full, is_spent, is_large, goes_on, IsNormalOf, step_by}
use Rattle.uc_rewrite.proofs.Reading.{rule_falls, rule_makes}

-- substitutions completed alike that give one instance of the one side give one of the other
pub one_instance : (least : Sym) (from to : Tree) (σ τ : ℕ → Tree) → IsCompleted least from to σ → IsCompleted least from to τ → apply σ from ≡ apply τ from → apply σ to ≡ apply τ to
one_instance least from to σ τ cσ cτ e = same_if σ τ to (λ x o. go x o (occurs_or_not x from))
  where
    go : (x : ℕ) → Occurs x to → Occurs x from ⊎ (Occurs x from → ⊥) → σ x ≡ τ x
    go x o (inl p) = agree_at σ τ x from p e
    go x o (inr n) = cσ x o n ∙ sym (cτ x o n)

module _ (Greater : Tree → Tree → Type 0) (least : Sym) where
  pub one_made : (rule : Rule) (u v w : Tree) → Makes Greater least rule u v → Makes Greater least rule u w → v ≡ w
  one_made rule u v w a b = a.v_is ∙ one_instance least rule.from rule.to a.σ b.σ a.completed b.completed (sym a.u_is ∙ b.u_is) ∙ sym b.v_is

  one_rule : (u v w : Tree) (rules : List Rule) (r s : Rule) → FirstRule Greater least u v rules r → FirstRule Greater least u w rules s → r ≡ s
  one_rule u v w [] r s f g = elim f [ ]
  one_rule u v w (_ ∷ rules) r s (this_rule m) (this_rule n) = refl
  one_rule u v w (_ ∷ rules) r s (this_rule m) (later_rule n g) = absurd (n v m)
  one_rule u v w (_ ∷ rules) r s (later_rule n f) (this_rule m) = absurd (n w m)
  one_rule u v w (_ ∷ rules) r s (later_rule n f) (later_rule k g) = one_rule u v w rules r s f g

  one_root : (u v w : Tree) (rules : List Rule) (r s : Rule) → FirstRule Greater least u v rules r → FirstRule Greater least u w rules s → (r ≡ s) × (v ≡ w)
  one_root u v w rules r s f g =
      let e = one_rule u v w rules r s f g in
      (e, one_made r u v w (rule_makes Greater least u v rules r f) (subst (λ q. Makes Greater least q u w) (sym e) (rule_makes Greater least u w rules s g)))

  module _ (live : List Live) where
    abbrev First : Tree → ℕ → Rule → Tree → Type 0
    First = FirstStep Greater least live

    -- the first possible step is an ordered step
    mutual
      pub step_falls : (t : Tree) (p : ℕ) (r : Rule) (v : Tree) → FirstStep Greater least live t p r v → OStep Greater least (equations_of live) t v
      step_falls (app f us) _ r (app g vs) (in_arguments a) = under (among_falls us _ r vs a)
      step_falls t _ r v (at_the_term _ f) = at_root (rule_falls Greater least live t v r f)

      among_falls : (us : Trees) (p : ℕ) (r : Rule) (vs : Trees) → FirstStepAmong Greater least live us p r vs → WithinOne (Falls Greater least (equations_of live)) us vs
      among_falls none p r vs a = elim a [ ]
      among_falls (more u ts) p r none a = elim a [ ]
      among_falls (more u ts) p r (more v _) (in_this f) = at_first (step_falls u p r v f)
      among_falls (more t us) _ r (more _ vs) (in_another _ a) = at_later (among_falls us _ r vs a)

    pub reducible : {A : Type 0} (t : Tree) (p : ℕ) (r : Rule) (v : Tree) → FirstStep Greater least live t p r v → IsIrreducible Greater least (equations_of live) t → A
    reducible t p r v f n = absurd (n v (step_falls t p r v f))

    abbrev Same : ℕ → Rule → Tree → ℕ → Rule → Tree → Type 0
    Same p r v q s w = (p ≡ q) × (r ≡ s) × (v ≡ w)

    abbrev SameIn : ℕ → Rule → Trees → ℕ → Rule → Trees → Type 0
    SameIn p r vs q s ws = (p ≡ q) × (r ≡ s) × (vs ≡ ws)

    mutual
      pub one_step : (t : Tree) (p q : ℕ) (r s : Rule) (v w : Tree) → FirstStep Greater least live t p r v → FirstStep Greater least live t q s w → Same p r v q s w
      one_step (app f us) _ _ r s (app _ vs) (app _ ws) (in_arguments a) (in_arguments b) = let e = one_among us _ _ r s vs ws a b in (ap suc e.0, e.1, ap (app f) e.2)
      one_step (app f us) _ _ r s (app _ vs) w (in_arguments a) (at_the_term n g) = absurd (n vs (among_falls us _ r vs a))
      one_step (app f us) _ _ r s v (app _ ws) (at_the_term n g) (in_arguments b) = absurd (n ws (among_falls us _ s ws b))
      one_step t _ _ r s v w (at_the_term n f) (at_the_term _ g) = let e = one_root t v w (rules_of live) r s f g in (refl, e.0, e.1)

      one_among : (us : Trees) (p q : ℕ) (r s : Rule) (vs ws : Trees) → FirstStepAmong Greater least live us p r vs → FirstStepAmong Greater least live us q s ws → SameIn p r vs q s ws
      one_among none p q r s vs ws a b = elim a [ ]
      one_among (more u ts) p q r s none ws a b = elim a [ ]
      one_among (more u ts) p q r s (more v vs) none a b = elim b [ ]
      one_among (more u ts) p q r s (more v _) (more w _) (in_this f) (in_this g) = let e = one_step u p q r s v w f g in (e.0, e.1, ap (λ x. more x ts) e.2)
      one_among (more u ts) p _ r s (more v _) (more _ ws) (in_this f) (in_another n b) = reducible u p r v f n
      one_among (more u ts) _ q r s (more _ vs) (more w _) (in_another n a) (in_this g) = reducible u q s w g n
      one_among (more u ts) _ _ r s (more _ vs) (more _ ws) (in_another n a) (in_another _ b) = let e = one_among ts _ _ r s vs ws a b in (ap (λ k. nodes u + k) e.0, e.1, ap (more u) e.2)

    abbrev SameEnd : List Step → Tree → Stop → List Step → Tree → Stop → Type 0
    SameEnd steps end stop steps' end' stop' = (steps ≡ steps') × (end ≡ end') × (stop ≡ stop')

    too_large : {A : Type 0} (v w : Tree) → v ≡ w → 4096 < nodes v → nodes w ≤ 4096 → A
    too_large v w e h k = absurd (let n : nodes v ≡ nodes w = ap nodes e in omega arith)

    pub one_end : (limit : ℕ) (t : Tree) (xs ys : List Step) (v w : Tree) (a b : Stop) → Normalises Greater least live limit t xs v a → Normalises Greater least live limit t ys w b → SameEnd xs v a ys w b
    one_end limit t _ _ _ _ _ _ (is_full n) (is_full m) = (refl, refl, refl)
    one_end zero t _ _ _ _ _ _ (is_full n) (is_spent {v = v} {place = p} {rule = r} f) = reducible t p r v f n
    one_end (suc limit) t _ _ _ _ _ _ (is_full n) (is_large {v = v} {place = p} {rule = r} f h) = reducible t p r v f n
    one_end (suc limit) t _ _ _ _ _ _ (is_full n) (goes_on {v = v} {place = p} {rule = r} f h g) = reducible t p r v f n
    one_end zero t _ _ _ _ _ _ (is_spent {v = v} {place = p} {rule = r} f) (is_full n) = reducible t p r v f n
    one_end zero t _ _ _ _ _ _ (is_spent f) (is_spent g) = (refl, refl, refl)
    one_end (suc limit) t _ _ _ _ _ _ (is_large {v = v} {place = p} {rule = r} f h) (is_full n) = reducible t p r v f n
    one_end (suc limit) t _ _ _ _ _ _ (is_large f h) (is_large g k) = (refl, refl, refl)
    one_end (suc limit) t _ _ _ _ _ _ (is_large {v = v} {place = p} {rule = r} f h) (goes_on {v = w} {place = q} {rule = s} g k m) = too_large v w (one_step t p q r s v w f g).2 h k
    one_end (suc limit) t _ _ _ _ _ _ (goes_on {v = v} {place = p} {rule = r} f h g) (is_full n) = reducible t p r v f n
    one_end (suc limit) t _ _ _ _ _ _ (goes_on {v = v} {place = p} {rule = r} f h m) (is_large {v = w} {place = q} {rule = s} g k) = too_large w v (sym (one_step t p q r s v w f g).2) k h
    one_end (suc limit) t _ _ x y a b (goes_on {v = v} {place = p} {rule = r} {steps = xs} f h m) (goes_on {v = w} {place = q} {rule = s} {steps = ys} g k n) =
        let e = one_step t p q r s v w f g in
        let rest = one_end limit v xs ys x y a b m (subst (λ z. Normalises Greater least live limit z ys y b) (sym e.2) n) in
        (same e.0 e.1 e.2 rest.0, rest.1, rest.2)
      where
        same : p ≡ q → r ≡ s → v ≡ w → xs ≡ ys → (step_by r p v ∷ xs) ≡ (step_by s q w ∷ ys)
        same a b c d = ap₂ (λ step steps. step ∷ steps) (ap₂ (λ (f : Tree → Step) z. f z) (ap₂ (λ rule place. λ z. step_by rule place z) b a) c) d

    pub one_normal : (limit : ℕ) (t : Tree) (a b : Normal) → IsNormalOf Greater least live limit t a → IsNormalOf Greater least live limit t b → a ≡ b
    one_normal limit t a b m n =
        let e = one_end limit t a.chain.steps b.chain.steps a.term b.term a.stop b.stop m.normalises n.normalises in
        same a b (m.start ∙ sym n.start) e.0 e.1 e.2
      where
        made : Tree → Tree → List Step → Stop → Normal
        made term start steps stop = record { term = term; chain = record { start = start; steps = steps }; stop = stop }

        same : (a b : Normal) → a.chain.start ≡ b.chain.start → a.chain.steps ≡ b.chain.steps → a.term ≡ b.term → a.stop ≡ b.stop → a ≡ b
        same a b s k x y = ap₂ (λ term start. made term start a.chain.steps a.stop) x s ∙ ap₂ (λ steps stop. made b.term b.chain.start steps stop) k y
