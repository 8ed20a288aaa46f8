-- Terms without the encoding's symbols: true becomes p, false becomes q, eq(v, w) becomes p or q. All is shown on the way to
-- one aim, which may be that some goal follows.
use Rattle.std.proofs.Common.{◌≡◌, ◌≢◌, ℕ, zero, suc, ◌+◌, ◌<◌, ◌≤◌, ◌==◌, List, ◌∷◌, map, slice_get, Some, refl, sym, subst, arith, ◌⊎◌, inl, inr, if◌then◌else◌, true, false}
use Rattle.std.proofs.lemmas.Bool.Decides.{nat_tests}
use Rattle.uc_term.specs.declared.node.Sym.{Sym}
use Rattle.uc_term.specs.declared.fresh.Fresh.{Fresh}
use Rattle.uc_term.specs.declared.equation.Equation.{Equation}
use Rattle.uc_term.specs.declared.equation.Side.{Side}
use Rattle.uc_term.specs.declared.equation.Side.TheVariants.{Left, Right}
use Rattle.uc_term.specs.Tree.{Tree, var, app, Trees, none, more, apply, apply_all}
use Rattle.uc_term.specs.Within.{at_root, under, WithinOne, at_first, at_later, stay, go_by}
use Rattle.uc_term.specs.Equations.{Sides}
use Rattle.uc_term.specs.Conversion.{Turn, Step, Conv, SomeFollows}
use Rattle.uc_term.specs.Encoding.{Part, ordinary, is_yes, is_no, is_eq, part, AreDistinct, Lacks, AllLack, LackAll, yes_term, no_term, pair_term, reflexive, refuted, encoded, HasGoal}
use Rattle.uc_term.proofs.Terms.{apply-var}
use Rattle.uc_term.proofs.Conversion.{Conv-refl, Conv-trans, Conv-turn, Conv-sym, AllConv, no_conv, one_conv, Conv-app, Conv-follows, equation_turn}
use Rattle.uc_term.proofs.Gets.{get-append_left, get-append_right, get-append_cases, get-map, map-get}

abbrev IsTwo : Trees → Type 0
IsTwo (more t (more u none)) = Unit {0}
IsTwo _ = ⊥

-- a bound of the numbers of variables
mutual
  bound : Tree → ℕ
  bound (var x) = x + 1
  bound (app f ts) = bound_all ts

  bound_all : Trees → ℕ
  bound_all none = 0
  bound_all (more t ts) = bound t + bound_all ts

update : (ℕ → Tree) → ℕ → Tree → ℕ → Tree
update σ n t x = if x == n then t else σ x

update-same : (σ : ℕ → Tree) (n : ℕ) (t : Tree) (x : ℕ) → x ≡ n → update σ n t x ≡ t
unfolding update
update-same σ n t x e = let b : (x == n) ≡ true = grind (arith, nat_tests) in rw b

update-other : (σ : ℕ → Tree) (n : ℕ) (t : Tree) (x : ℕ) → x ≢ n → update σ n t x ≡ σ x
unfolding update
update-other σ n t x e = let b : (x == n) ≡ false = grind (arith, nat_tests) in rw b

module _ (m : Fresh) (es : List Equation) (p q : Tree) (Aim : Type 0) where
  -- what a head makes of its cleaned arguments
  data Becomes : Part → Sym → Trees → Tree → Type 0 where
    kept : {f : Sym} {us : Trees} → Becomes ordinary f us (app f us)
    to_p : {f : Sym} {us : Trees} → Becomes is_yes f us p
    to_q : {f : Sym} {us : Trees} → Becomes is_no f us q
    same_p : {f : Sym} {u v : Tree} → Conv es u v → Becomes is_eq f (more u (more v none)) p
    apart_q : {f : Sym} {u v : Tree} → (Conv es u v → Aim) → Becomes is_eq f (more u (more v none)) q
    odd_p : {f : Sym} {us : Trees} → (IsTwo us → ⊥) → Becomes is_eq f us p

  mutual
    data Cleans : Tree → Tree → Type 0 where
      clean_var : {x : ℕ} → Cleans (var x) (var x)
      clean_app : {f : Sym} {ts us : Trees} {v : Tree} → CleansAll ts us → Becomes (part m f) f us v → Cleans (app f ts) v

    data CleansAll : Trees → Trees → Type 0 where
      clean_none : CleansAll none none
      clean_more : {t u : Tree} {ts us : Trees} → Cleans t u → CleansAll ts us → CleansAll (more t ts) (more u us)

  -- each term can be cleaned, on the way to the aim
  becomes : (k : Part) (f : Sym) (us : Trees) → ((v : Tree) → Becomes k f us v → Aim) → Aim
  becomes ordinary f us go = go (app f us) kept
  becomes is_yes f us go = go p to_p
  becomes is_no f us go = go q to_q
  becomes is_eq f none go = go p (odd_p (λ h. h))
  becomes is_eq f (more u none) go = go p (odd_p (λ h. h))
  becomes is_eq f (more u (more v none)) go = go q (apart_q (λ c. go p (same_p c)))
  becomes is_eq f (more u (more v (more w ws))) go = go p (odd_p (λ h. h))

  mutual
    clean : (t : Tree) → ((u : Tree) → Cleans t u → Aim) → Aim
    clean (var x) go = go (var x) clean_var
    clean (app f ts) go = clean_all ts (λ us c. becomes (part m f) f us (λ v b. go v (clean_app c b)))

    clean_all : (ts : Trees) → ((us : Trees) → CleansAll ts us → Aim) → Aim
    clean_all none go = go none clean_none
    clean_all (more t ts) go = clean t (λ u c. clean_all ts (λ us cs. go (more u us) (clean_more c cs)))

  -- two ways to clean agree
  agree : (k : Part) (f : Sym) {us vs : Trees} {a b : Tree} → Becomes k f us a → Becomes k f vs b → AllConv es us vs → (Conv es a b → Aim) → Aim
  agree _ f kept kept c go = go (Conv-app es f c)
  agree _ f to_p to_p c go = go (Conv-refl es p)
  agree _ f to_q to_q c go = go (Conv-refl es q)
  agree _ f (same_p a) (same_p b) c go = go (Conv-refl es p)
  agree _ f (same_p {u = u} {v = v} a) (apart_q {u = w} {v = x} b) (one_conv c (one_conv d no_conv)) go = b (Conv-trans es (Conv-sym es c) (Conv-trans es a d))
  agree _ f (same_p a) (odd_p b) (one_conv c (one_conv d no_conv)) go = absurd (b tt)
  agree _ f (apart_q {u = u} {v = v} a) (same_p {u = w} {v = x} b) (one_conv c (one_conv d no_conv)) go = a (Conv-trans es c (Conv-trans es b (Conv-sym es d)))
  agree _ f (apart_q a) (apart_q b) c go = go (Conv-refl es q)
  agree _ f (apart_q a) (odd_p b) (one_conv c (one_conv d no_conv)) go = absurd (b tt)
  agree _ f (odd_p a) (same_p b) (one_conv c (one_conv d no_conv)) go = absurd (a tt)
  agree _ f (odd_p a) (apart_q b) (one_conv c (one_conv d no_conv)) go = absurd (a tt)
  agree _ f (odd_p a) (odd_p b) c go = go (Conv-refl es p)

  mutual
    cleaned_once : {t u v : Tree} → Cleans t u → Cleans t v → (Conv es u v → Aim) → Aim
    cleaned_once clean_var clean_var go = go (Conv-refl es _)
    cleaned_once (clean_app {f = f} c b) (clean_app d e) go = cleaned_all_once c d (λ r. agree (part m f) f b e r go)

    cleaned_all_once : {ts us vs : Trees} → CleansAll ts us → CleansAll ts vs → (AllConv es us vs → Aim) → Aim
    cleaned_all_once clean_none clean_none go = go no_conv
    cleaned_all_once (clean_more c cs) (clean_more d ds) go = cleaned_once c d (λ r. cleaned_all_once cs ds (λ rs. go (one_conv r rs)))

  -- terms without the symbols stay, and in their instances the images are cleaned
  choose : (σ : ℕ → Tree) (n : ℕ) → ((τ : ℕ → Tree) → ((x : ℕ) → x < n → Cleans (σ x) (τ x)) → Aim) → Aim
  choose σ zero go = go σ (λ x h. absurd (omega arith))
  choose σ (suc n) go = choose σ n (λ τ h. clean (σ n) (λ t c. go (update τ n t) (λ x k. chosen σ τ n t h c x (grind arith))))
    where
      chosen : (σ τ : ℕ → Tree) (n : ℕ) (t : Tree) → ((x : ℕ) → x < n → Cleans (σ x) (τ x)) → Cleans (σ n) t → (x : ℕ) → (x ≡ n) ⊎ ((x < n) × (x ≢ n)) → Cleans (σ x) (update τ n t x)
      chosen σ τ n t h c x (inl e) = rw (update-same τ n t x e, e) c
      chosen σ τ n t h c x (inr l) = rw (update-other τ n t x l.1) (h x l.0)

  module _ (σ τ : ℕ → Tree) (n : ℕ) (images : (x : ℕ) → x < n → Cleans (σ x) (τ x)) where
    mutual
      unfolding bound bound_all

      Cleans-apply : (t : Tree) → Lacks m t → bound t ≤ n → Cleans (apply σ t) (apply τ t)
      Cleans-apply (var x) l h = images x (omega arith)
      Cleans-apply (app f ts) l h = clean_app (CleansAll-apply ts l.1 h) (subst (λ (k : Part). Becomes k f (apply_all τ ts) (app f (apply_all τ ts))) (sym l.0) kept)

      CleansAll-apply : (ts : Trees) → AllLack m ts → bound_all ts ≤ n → CleansAll (apply_all σ ts) (apply_all τ ts)
      CleansAll-apply none l h = clean_none
      CleansAll-apply (more t ts) l h = clean_more (Cleans-apply t l.0 (omega arith)) (CleansAll-apply ts l.1 (omega arith))

  module _ (gs : List Equation) (are : AreDistinct m) (es_lack : LackAll m es) (gs_lack : LackAll m gs) (refutes : (i : ℕ) (g : Equation) → slice_get gs i ≡ Some g → (σ : ℕ → Tree) → (Conv es (apply σ g.left) (apply σ g.right) → Aim) ⊎ (p ≡ q)) where
    -- the two sides of an instance can be cleaned to equal terms
    abbrev Meets : Tree → Tree → Type 0
    Meets s t = ((u v : Tree) → Cleans s u → Cleans t v → Conv es u v → Aim) → Aim

    meets_own : (i : ℕ) (e : Equation) → slice_get es i ≡ Some e → (σ : ℕ → Tree) → Meets (apply σ e.left) (apply σ e.right)
    meets_own i e k σ go = choose σ (bound e.left + bound e.right) (λ τ h. go (apply τ e.left) (apply τ e.right)
        (Cleans-apply σ τ (bound e.left + bound e.right) h e.left (es_lack i e k).0 (omega arith))
        (Cleans-apply σ τ (bound e.left + bound e.right) h e.right (es_lack i e k).1 (omega arith))
        (Conv-turn es (apply τ e.left) (apply τ e.right) (equation_turn es i e k τ)))

    paired : (s t u v w : Tree) → Cleans s u → Cleans t v → Becomes is_eq m.eq (more u (more v none)) w → Cleans (pair_term m s t) w
    paired s t u v w c d b = clean_app (clean_more c (clean_more d clean_none)) (subst (λ (k : Part). Becomes k m.eq (more u (more v none)) w) (sym are.eq_is) b)

    yes_p : Cleans (yes_term m) p
    yes_p = clean_app clean_none (subst (λ (k : Part). Becomes k m.yes none p) (sym are.yes_is) to_p)

    no_q : Cleans (no_term m) q
    no_q = clean_app clean_none (subst (λ (k : Part). Becomes k m.no none q) (sym are.no_is) to_q)

    meets_reflexive : (s : Tree) → Meets (pair_term m s s) (yes_term m)
    meets_reflexive s go = clean s (λ u c. go p p (paired s s u u p c c (same_p (Conv-refl es u))) yes_p (Conv-refl es p))

    refuted_pair : (f : Sym) (u v : Tree) → (Conv es u v → Aim) ⊎ (p ≡ q) → ((w : Tree) → Becomes is_eq f (more u (more v none)) w → Conv es w q → Aim) → Aim
    refuted_pair f u v (inl n) go = go q (apart_q n) (Conv-refl es q)
    refuted_pair f u v (inr e) go = go q (apart_q (λ c. go p (same_p c) (subst (λ (t : Tree). Conv es p t) e (Conv-refl es p)))) (Conv-refl es q)

    meets_refuted : (i : ℕ) (g : Equation) → slice_get gs i ≡ Some g → (σ : ℕ → Tree) → Meets (pair_term m (apply σ g.left) (apply σ g.right)) (no_term m)
    meets_refuted i g k σ go = choose σ (bound g.left + bound g.right) (λ τ h. refuted_pair m.eq (apply τ g.left) (apply τ g.right) (refutes i g k τ) (λ w b c. go w q
        (paired (apply σ g.left) (apply σ g.right) (apply τ g.left) (apply τ g.right) w
        (Cleans-apply σ τ (bound g.left + bound g.right) h g.left (gs_lack i g k).0 (omega arith))
        (Cleans-apply σ τ (bound g.left + bound g.right) h g.right (gs_lack i g k).1 (omega arith))
        b)
        no_q c))

    meets_added : (e : Equation) (k : ℕ) → slice_get (reflexive m ∷ map (refuted m) gs) k ≡ Some e → (σ : ℕ → Tree) → Meets (apply σ e.left) (apply σ e.right)
    meets_added e zero r σ = subst (λ (d : Equation). Meets (apply σ d.left) (apply σ d.right)) (let q : reflexive m ≡ e = cc in q) (meets_reflexive (σ 0))
    meets_added e (suc k) r σ = let g = get-map (refuted m) gs k e r in subst (λ (d : Equation). Meets (apply σ d.left) (apply σ d.right)) g.2 (meets_refuted k g.0 g.1 σ)

    meets_any : (i : ℕ) (e : Equation) → (slice_get es i ≡ Some e) ⊎ ((j : ℕ) × (slice_get (reflexive m ∷ map (refuted m) gs) j ≡ Some e)) → (σ : ℕ → Tree) → Meets (apply σ e.left) (apply σ e.right)
    meets_any i e (inl k) σ = meets_own i e k σ
    meets_any i e (inr k) σ = meets_added e k.0 k.1 σ

    -- the other way round
    meets_turned : (s t : Tree) → Meets s t → Meets t s
    meets_turned s t k go = k (λ u v c d g. go v u d c (Conv-sym es g))

    meets_sides : (i : ℕ) (a : Side) (l r : Tree) → Sides (encoded m es gs) i a l r → (σ : ℕ → Tree) → Meets (apply σ l) (apply σ r)
    meets_sides i Left l r s σ = rw (s.left_is, s.right_is) (meets_any i s.equation (get-append_cases es (reflexive m ∷ map (refuted m) gs) i s.equation s.equation_is) σ)
    meets_sides i Right l r s σ = rw (s.left_is, s.right_is) (meets_turned (apply σ s.equation.left) (apply σ s.equation.right) (meets_any i s.equation (get-append_cases es (reflexive m ∷ map (refuted m) gs) i s.equation s.equation_is) σ))

    meets : (s t : Tree) → Turn (encoded m es gs) s t → Meets s t
    meets s t i = rw (i.u_is, i.v_is) (meets_sides i.number i.side i.l i.r i.sides i.σ)

    -- however its two ends are cleaned, a step leads to equal terms
    across_turn : (s t u v : Tree) → Turn (encoded m es gs) s t → Cleans s u → Cleans t v → (Conv es u v → Aim) → Aim
    across_turn s t u v i c d go = meets s t i (λ a b x y r. cleaned_once c x (λ f. cleaned_once y d (λ g. go (Conv-trans es f (Conv-trans es r g)))))

    mutual
      across : {s t u v : Tree} → Step (encoded m es gs) s t → Cleans s u → Cleans t v → (Conv es u v → Aim) → Aim
      across {u = u} {v = v} (at_root {u = s} {v = t} i) c d go = across_turn s t u v i c d go
      across (under {f = f} o) (clean_app c a) (clean_app d b) go = across_once o c d (λ r. agree (part m f) f a b r go)

      across_once : {ss ts us vs : Trees} → WithinOne (Turn (encoded m es gs)) ss ts → CleansAll ss us → CleansAll ts vs → (AllConv es us vs → Aim) → Aim
      across_once (at_first s) (clean_more c cs) (clean_more d ds) go = across s c d (λ r. cleaned_all_once cs ds (λ rs. go (one_conv r rs)))
      across_once (at_later o) (clean_more c cs) (clean_more d ds) go = cleaned_once c d (λ r. across_once o cs ds (λ rs. go (one_conv r rs)))

    converted : {s t : Tree} → Conv (encoded m es gs) s t → (u v : Tree) → Cleans s u → Cleans t v → (Conv es u v → Aim) → Aim
    converted stay u v c d go = cleaned_once c d go
    converted (go_by {v = w} h r) u v c d go = clean w (λ x e. across h c e (λ f. converted r x v e d (λ g. go (Conv-trans es f g))))

    yes_no : Conv (encoded m es gs) (yes_term m) (no_term m) → (Conv es p q → Aim) → Aim
    yes_no r = converted r p q yes_p no_q

  mutual
    stays : (t : Tree) → Lacks m t → Cleans t t
    stays (var x) l = clean_var
    stays (app f ts) l = clean_app (all_stay ts l.1) (subst (λ (k : Part). Becomes k f ts (app f ts)) (sym l.0) kept)

    all_stay : (ts : Trees) → AllLack m ts → CleansAll ts ts
    all_stay none l = clean_none
    all_stay (more t ts) l = clean_more (stays t l.0) (all_stay ts l.1)

module _ (m : Fresh) (es gs : List Equation) (are : AreDistinct m) (es_lack : LackAll m es) (gs_lack : LackAll m gs) where
  own : (i : ℕ) (e : Equation) → slice_get es i ≡ Some e → Conv (encoded m es gs) e.left e.right
  own i e k = let t = equation_turn (encoded m es gs) i e (get-append_left es (reflexive m ∷ map (refuted m) gs) i e k) var in Conv-turn (encoded m es gs) e.left e.right (rw (apply-var e.left, apply-var e.right) at t)

  pub weaker : {u v : Tree} → Conv es u v → Conv (encoded m es gs) u v
  weaker c = Conv-follows es (encoded m es gs) own c

  pub none_added : (u v : Tree) → Lacks m u → Lacks m v → Conv (encoded m es gs) u v → Conv es u v
  none_added u v lu lv r = converted m es (var 0) (var 0) (Conv es u v) gs are es_lack gs_lack (λ i g k σ. inr refl) r u v (stays m es (var 0) (var 0) (Conv es u v) u lu) (stays m es (var 0) (var 0) (Conv es u v) v lv) (λ c. c)

  follows_itself : (i : ℕ) (g : Equation) → slice_get gs i ≡ Some g → Conv es g.left g.right → SomeFollows es gs
  follows_itself i g k c = record { number = i; goal = g; goal_is = k; follows = record { σ = var; conversion = rw (apply-var g.left, apply-var g.right) c } }

  pub goal_follows : HasGoal gs → Conv (encoded m es gs) (yes_term m) (no_term m) → SomeFollows es gs
  goal_follows h r = yes_no m es h.goal.left h.goal.right (SomeFollows es gs) gs are es_lack gs_lack (λ i g k σ. inl (λ c. record { number = i; goal = g; goal_is = k; follows = record { σ = σ; conversion = c } })) r (follows_itself h.number h.goal h.goal_is)

  reflexive_turn : (s : Tree) → Turn (encoded m es gs) (pair_term m s s) (yes_term m)
  reflexive_turn s = let n = get-append_right es (reflexive m ∷ map (refuted m) gs) 0 (reflexive m) refl in equation_turn (encoded m es gs) n.0 (reflexive m) n.1 (λ x. s)

  refuted_turn : (i : ℕ) (g : Equation) → slice_get gs i ≡ Some g → (σ : ℕ → Tree) → Turn (encoded m es gs) (pair_term m (apply σ g.left) (apply σ g.right)) (no_term m)
  refuted_turn i g k σ = let n = get-append_right es (reflexive m ∷ map (refuted m) gs) (suc i) (refuted m g) (map-get (refuted m) gs i g k) in equation_turn (encoded m es gs) n.0 (refuted m g) n.1 σ

  pub yes_no_from_goal : SomeFollows es gs → Conv (encoded m es gs) (yes_term m) (no_term m)
  yes_no_from_goal f =
      let all = encoded m es gs in
      let s = apply f.follows.σ f.goal.left in
      let t = apply f.follows.σ f.goal.right in
      let one : Conv all (pair_term m s s) (yes_term m) = Conv-turn all (pair_term m s s) (yes_term m) (reflexive_turn s) in
      let two : Conv all (pair_term m s s) (pair_term m s t) = Conv-app all m.eq (one_conv (Conv-refl all s) (one_conv (weaker f.follows.conversion) no_conv)) in
      let three : Conv all (pair_term m s t) (no_term m) = Conv-turn all (pair_term m s t) (no_term m) (refuted_turn f.number f.goal f.goal_is f.follows.σ) in
      Conv-trans all (Conv-sym all one) (Conv-trans all two three)
