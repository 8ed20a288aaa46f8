-- A walk over a pattern and a term of the same symbols.
use Rattle.std.proofs.Common.{◌≡◌, ℕ, ◌+◌, ◌<◌, ◌≤◌, ◌-◌, List, [], ◌∷◌, ◌++◌, get_or, take, drop, length, Some, None, refl, sym, ap, ap₂, ◌∙◌, arith, append_assoc, append-nil, subst, ◌⊎◌, inl, inr}
use Rattle.uc_term.specs.declared.node.Sym.{Sym}
use Rattle.uc_term.specs.declared.node.Node.{Node}
use Rattle.uc_term.specs.declared.node.Node.TheVariants.{Var, App}
use Rattle.uc_term.specs.Tree.{Tree, var, app, Trees, none, more, count, nodes}
use Rattle.uc_term.specs.Flat.{trees_of, tree_of, IsWhole}
use Rattle.uc_term.specs.Subst.{found}
use Rattle.uc_term.proofs.Terms.{whole_one}
use Rattle.uc_term.proofs.Ahead.{join, count-join}
use Rattle.uc_term.proofs.Joins.{opened_at, var_at, place_within, trees_of-end, trees_of-whole}
use Rattle.uc_term.proofs.Parts.{Split, split}
use Rattle.uc_unify.specs.Matching.{HasNoMatch}
use Rattle.std.specs.List.{AllByRecursion}
use Rattle.uc_fact.specs.Against.{Fits, AllFit, against, against_all, HasMatch}
use Rattle.uc_fact.proofs.Agreeing.{Pairs, IsFirst, none_left, count_of_fit, fit_join, fit_parts, against_join, fits_instance, match_of, no_match, each_append, first_new, first_here, still_none, low_more}

-- what is left of both fits exactly where the whole does, and what stands against variables there stands behind the rest
pub record Standing (P T : Tree) (ps ts : Trees) : Type 0 where
  pub counts : count ps ≡ count ts
  pub goes : Fits P T → AllFit ps ts
  pub back : AllFit ps ts → Fits P T
  pub front : Pairs
  pub against_is : against P T ≡ front ++ against_all ps ts

module _ (P T : Tree) where
  abbrev standing_start : Standing P T (more P none) (more T none)
  standing_start = record { counts = refl; goes = λ h. (h, tt); back = λ h. h.0; front = []; against_is = sym (append-nil (against P T)) }

  abbrev standing_head : (f : Sym) (us bs cs ds : Trees) → count us ≡ count cs → Standing P T (more (app f us) bs) (more (app f cs) ds) → Standing P T (join us bs) (join cs ds)
  standing_head f us bs cs ds c s = record {
    counts = omega (arith, count-join us bs, count-join cs ds, s.counts);
    goes = λ h. let r = s.goes h in fit_join us bs cs ds c r.0.1 r.1;
    back = λ h. let r = fit_parts us bs cs ds c h in s.back ((refl, r.0), r.1);
    front = s.front;
    against_is = s.against_is ∙ ap (λ l. s.front ++ l) (against_join us bs cs ds c);
  }

  abbrev standing_var : (x : ℕ) (bs : Trees) (u : Tree) (ds : Trees) → Standing P T (more (var x) bs) (more u ds) → Standing P T bs ds
  standing_var x bs u ds s = record {
    counts = omega (arith, s.counts);
    goes = λ h. (s.goes h).1;
    back = λ h. s.back (tt, h);
    front = s.front ++ (x, u) ∷ [];
    against_is = s.against_is ∙ sym (append_assoc s.front ((x, u) ∷ []) (against_all bs ds));
  }

  -- nothing is left
  standing_end : (ts : Trees) → Standing P T none ts → Fits P T × Standing P T none none
  standing_end ts s =
      let e = none_left ts s.counts in
      let n = subst (Standing P T none) e s in
      (n.back tt, n)

-- the first subterms stand against all variables that were walked over, which are below a bound
pub record OneSoFar (P T : Tree) (bound : ℕ) (ps ts : Trees) : Type 0 where
  pub standing : Standing P T ps ts
  pub each : AllByRecursion (IsFirst (against P T)) standing.front
  pub low : AllByRecursion (λ pair. pair.0 < bound) standing.front

-- x wasn't walked over
pub record NoneSoFar (P T : Tree) (x : ℕ) (ps ts : Trees) : Type 0 where
  pub standing : Standing P T ps ts
  pub none_yet : found standing.front x ≡ None

module _ (P T : Tree) where
  one_head : (bound : ℕ) (f : Sym) (us bs cs ds : Trees) → count us ≡ count cs → OneSoFar P T bound (more (app f us) bs) (more (app f cs) ds) → OneSoFar P T bound (join us bs) (join cs ds)
  one_head bound f us bs cs ds c o = record { standing = standing_head P T f us bs cs ds c o.standing; each = o.each; low = o.low }

  one_var : (bound new x : ℕ) (bs : Trees) (u : Tree) (ds : Trees) → bound ≤ new → x < new → (bound ≤ x) ⊎ (found (against P T) x ≡ Some u) → OneSoFar P T bound (more (var x) bs) (more u ds) → OneSoFar P T new bs ds
  one_var bound new x bs u ds b n is o = record {
    standing = standing_var P T x bs u ds o.standing;
    each = each_append (IsFirst (against P T)) o.standing.front ((x, u) ∷ []) o.each (first is, tt);
    low = low_more o.standing.front bound new x u o.low b n;
  }
    where
      first : (bound ≤ x) ⊎ (found (against P T) x ≡ Some u) → found (against P T) x ≡ Some u
      first (inr e) = e
      first (inl k) = ap (λ l. found l x) o.standing.against_is ∙ first_new o.standing.front bound x u (against_all bs ds) o.low k

  one_refused : (bound x : ℕ) (bs : Trees) (u : Tree) (ds : Trees) → ((first : Tree) → found (against P T) x ≡ Some first → first ≡ u → ⊥) → OneSoFar P T bound (more (var x) bs) (more u ds) → HasNoMatch P T
  one_refused bound x bs u ds n o = no_match P T o.standing.front x u (against_all bs ds) o.standing.against_is n

  one_end : (bound : ℕ) (ts : Trees) → OneSoFar P T bound none ts → HasMatch P T
  one_end bound ts o =
      let fit = (standing_end P T ts o.standing).0 in
      match_of P T fit (subst (AllByRecursion (IsFirst (against P T))) (sym (o.standing.against_is ∙ append-nil o.standing.front)) o.each)

  none_head : (x : ℕ) (f : Sym) (us bs cs ds : Trees) → count us ≡ count cs → NoneSoFar P T x (more (app f us) bs) (more (app f cs) ds) → NoneSoFar P T x (join us bs) (join cs ds)
  none_head x f us bs cs ds c o = record { standing = standing_head P T f us bs cs ds c o.standing; none_yet = o.none_yet }

  none_var : (x y : ℕ) (bs : Trees) (u : Tree) (ds : Trees) → (x ≡ y → ⊥) → NoneSoFar P T x (more (var y) bs) (more u ds) → NoneSoFar P T x bs ds
  none_var x y bs u ds n o = record { standing = standing_var P T y bs u ds o.standing; none_yet = still_none o.standing.front x y u o.none_yet n }

  none_here : (x : ℕ) (bs : Trees) (u : Tree) (ds : Trees) → NoneSoFar P T x (more (var x) bs) (more u ds) → found (against P T) x ≡ Some u
  none_here x bs u ds o = ap (λ l. found l x) o.standing.against_is ∙ first_here o.standing.front x u (against_all bs ds) o.none_yet

  none_end : (x : ℕ) (ts : Trees) → NoneSoFar P T x none ts → found (against P T) x ≡ None
  none_end x ts o = ap (λ l. found l x) (o.standing.against_is ∙ append-nil o.standing.front) ∙ o.none_yet

-- the same at places of the two flat lists
module _ (ps ts : List Node) (wp : IsWhole ps) (wt : IsWhole ts) where
  module _ (S : Trees → Trees → Type 0) where
    start_of : S (more (tree_of ps) none) (more (tree_of ts) none) → S (trees_of (drop 0 ps)) (trees_of (drop 0 ts))
    start_of s = rw (trees_of-whole ps wp, trees_of-whole ts wt) s

    end_of : {A : Type 0} (i j : ℕ) → length ps ≤ i → ((us : Trees) → S none us → A) → S (trees_of (drop i ps)) (trees_of (drop j ts)) → A
    end_of i j h k s = k (trees_of (drop j ts)) (rw (trees_of-end ps i h) at s)

    module _ (i j : ℕ) (d : Node) (h : i < length ps) (l : j < length ts) where
      head_move : (f : Sym) (n : ℕ) → get_or ps i d ≡ App f n → get_or ts j d ≡ App f n → ((us bs cs ds : Trees) → count us ≡ count cs → S (more (app f us) bs) (more (app f cs) ds) → S (join us bs) (join cs ds)) → S (trees_of (drop i ps)) (trees_of (drop j ts)) → S (trees_of (drop (i + 1) ps)) (trees_of (drop (j + 1) ts))
      head_move f n e k step s =
          let a = opened_at ps i f n d (whole_one ps wp) h e in
          let b = opened_at ts j f n d (whole_one ts wt) l k in
          rw (a.0.behind, b.0.behind) (step a.0.args a.0.rest b.0.args b.0.rest (a.0.counts ∙ sym b.0.counts) (rw (a.1, b.1) at s))

      var_move : (R : Trees → Trees → Type 0) (x to : ℕ) → get_or ps i d ≡ Var x → to ≡ j + nodes (tree_of (drop j ts)) → ((bs ds : Trees) → S (more (var x) bs) (more (tree_of (take (to - j) (drop j ts))) ds) → R bs ds) → S (trees_of (drop i ps)) (trees_of (drop j ts)) → R (trees_of (drop (i + 1) ps)) (trees_of (drop to ts))
      var_move R x to e to_is step s =
          let p = split ts j to (whole_one ts wt) l to_is in
          step (trees_of (drop (i + 1) ps)) (trees_of (drop to ts)) (rw (var_at ps i x d h e, p.trees) at s)

  abbrev pub At : ℕ → ℕ → Type 0
  At i j = Standing (tree_of ps) (tree_of ts) (trees_of (drop i ps)) (trees_of (drop j ts))

  abbrev pub OneAt : ℕ → ℕ → ℕ → Type 0
  OneAt bound i j = OneSoFar (tree_of ps) (tree_of ts) bound (trees_of (drop i ps)) (trees_of (drop j ts))

  abbrev pub NoneAt : ℕ → ℕ → ℕ → Type 0
  NoneAt x i j = NoneSoFar (tree_of ps) (tree_of ts) x (trees_of (drop i ps)) (trees_of (drop j ts))

  pub at_start : At 0 0
  at_start = start_of (Standing (tree_of ps) (tree_of ts)) (standing_start (tree_of ps) (tree_of ts))

  pub one_at_start : OneAt 0 0 0
  one_at_start = start_of (OneSoFar (tree_of ps) (tree_of ts) 0) (record { standing = standing_start (tree_of ps) (tree_of ts); each = tt; low = tt })

  pub none_at_start : (x : ℕ) → NoneAt x 0 0
  none_at_start x = start_of (NoneSoFar (tree_of ps) (tree_of ts) x) (record { standing = standing_start (tree_of ps) (tree_of ts); none_yet = refl })

  pub fit_at_end : (i j : ℕ) → length ps ≤ i → At i j → Fits (tree_of ps) (tree_of ts)
  fit_at_end i j h s = end_of (Standing (tree_of ps) (tree_of ts)) i j h (λ us k. (standing_end (tree_of ps) (tree_of ts) us k).0) s

  pub one_at_end : (bound i j : ℕ) → length ps ≤ i → OneAt bound i j → HasMatch (tree_of ps) (tree_of ts)
  one_at_end bound i j h o = end_of (OneSoFar (tree_of ps) (tree_of ts) bound) i j h (one_end (tree_of ps) (tree_of ts) bound) o

  pub none_at_end : (x i j : ℕ) → length ps ≤ i → NoneAt x i j → found (against (tree_of ps) (tree_of ts)) x ≡ None
  none_at_end x i j h o = end_of (NoneSoFar (tree_of ps) (tree_of ts) x) i j h (none_end (tree_of ps) (tree_of ts) x) o

  module _ (i j : ℕ) (d : Node) (h : i < length ps) where
    pub within_var : At i j → (x : ℕ) → get_or ps i d ≡ Var x → j < length ts
    within_var s x e = place_within ts j (count (trees_of (drop i ps))) (sym s.counts) (omega (arith, ap count (var_at ps i x d h e)))

    pub within_app : At i j → (f : Sym) (n : ℕ) → get_or ps i d ≡ App f n → j < length ts
    within_app s f n e = place_within ts j (count (trees_of (drop i ps))) (sym s.counts) (omega (arith, ap count (opened_at ps i f n d (whole_one ps wp) h e).1))

    -- where the two fit, the same symbol stands in the term
    same_head : At i j → (f : Sym) (n : ℕ) → get_or ps i d ≡ App f n → Fits (tree_of ps) (tree_of ts) → get_or ts j d ≡ App f n
    same_head s f n e fit =
        let a = opened_at ps i f n d (whole_one ps wp) h e in
        go (get_or ts j d) refl a.0.args a.0.rest a.0.counts (subst (λ l. AllFit l (trees_of (drop j ts))) a.1 (s.goes fit))
      where
        go : (m : Node) → get_or ts j d ≡ m → (us bs : Trees) → count us ≡ n → AllFit (more (app f us) bs) (trees_of (drop j ts)) → get_or ts j d ≡ App f n
        go (Var y) q us bs c k =
            let k' : AllFit (more (app f us) bs) (more (var y) (trees_of (drop (j + 1) ts))) = subst (AllFit (more (app f us) bs)) (var_at ts j y d (within_app s f n e) q) k in
            absurd k'.0
        go (App f' n') q us bs c k =
            let b = opened_at ts j f' n' d (whole_one ts wt) (within_app s f n e) q in
            let k' : AllFit (more (app f us) bs) (more (app f' b.0.args) b.0.rest) = subst (AllFit (more (app f us) bs)) b.1 k in
            q ∙ ap₂ App (sym k'.0.0) (sym b.0.counts ∙ sym (count_of_fit us b.0.args k'.0.1) ∙ c)

    pub at_head : (f : Sym) (n : ℕ) → get_or ps i d ≡ App f n → get_or ts j d ≡ App f n → At i j → At (i + 1) (j + 1)
    at_head f n e k s = head_move (Standing (tree_of ps) (tree_of ts)) i j d h (within_app s f n e) f n e k (standing_head (tree_of ps) (tree_of ts) f) s

    pub at_clash : (f : Sym) (n : ℕ) → get_or ps i d ≡ App f n → (get_or ts j d ≡ App f n → ⊥) → At i j → HasNoMatch (tree_of ps) (tree_of ts)
    at_clash f n e k s σ m = k (same_head s f n e (fits_instance σ (tree_of ps) (tree_of ts) m))

    pub one_at_head : (bound : ℕ) (f : Sym) (n : ℕ) → get_or ps i d ≡ App f n → Fits (tree_of ps) (tree_of ts) → OneAt bound i j → OneAt bound (i + 1) (j + 1)
    one_at_head bound f n e fit o = head_move (OneSoFar (tree_of ps) (tree_of ts) bound) i j d h (within_app o.standing f n e) f n e (same_head o.standing f n e fit) (one_head (tree_of ps) (tree_of ts) bound f) o

    pub none_at_head : (x : ℕ) (f : Sym) (n : ℕ) → get_or ps i d ≡ App f n → Fits (tree_of ps) (tree_of ts) → NoneAt x i j → NoneAt x (i + 1) (j + 1)
    none_at_head x f n e fit o = head_move (NoneSoFar (tree_of ps) (tree_of ts) x) i j d h (within_app o.standing f n e) f n e (same_head o.standing f n e fit) (none_head (tree_of ps) (tree_of ts) x f) o

    module _ (y to : ℕ) (e : get_or ps i d ≡ Var y) (to_is : to ≡ j + nodes (tree_of (drop j ts))) where
      abbrev pub part : List Node
      part = take (to - j) (drop j ts)

      pub split_var : At i j → Split ts j to
      split_var s = split ts j to (whole_one ts wt) (within_var s y e) to_is

      pub at_var : At i j → At (i + 1) to
      at_var s = var_move (Standing (tree_of ps) (tree_of ts)) i j d h (within_var s y e) (Standing (tree_of ps) (tree_of ts)) y to e to_is (λ bs ds k. standing_var (tree_of ps) (tree_of ts) y bs (tree_of part) ds k) s

      pub one_at_var : (bound new : ℕ) → bound ≤ new → y < new → (bound ≤ y) ⊎ (found (against (tree_of ps) (tree_of ts)) y ≡ Some (tree_of part)) → OneAt bound i j → OneAt new (i + 1) to
      one_at_var bound new b n is o = var_move (OneSoFar (tree_of ps) (tree_of ts) bound) i j d h (within_var o.standing y e) (OneSoFar (tree_of ps) (tree_of ts) new) y to e to_is (λ bs ds k. one_var (tree_of ps) (tree_of ts) bound new y bs (tree_of part) ds b n is k) o

      pub one_at_refused : (bound : ℕ) → ((first : Tree) → found (against (tree_of ps) (tree_of ts)) y ≡ Some first → first ≡ tree_of part → ⊥) → OneAt bound i j → HasNoMatch (tree_of ps) (tree_of ts)
      one_at_refused bound n o = var_move (OneSoFar (tree_of ps) (tree_of ts) bound) i j d h (within_var o.standing y e) (λ bs ds. HasNoMatch (tree_of ps) (tree_of ts)) y to e to_is (λ bs ds k. one_refused (tree_of ps) (tree_of ts) bound y bs (tree_of part) ds n k) o

      pub none_at_var : (x : ℕ) → (x ≡ y → ⊥) → NoneAt x i j → NoneAt x (i + 1) to
      none_at_var x n o = var_move (NoneSoFar (tree_of ps) (tree_of ts) x) i j d h (within_var o.standing y e) (NoneSoFar (tree_of ps) (tree_of ts) x) y to e to_is (λ bs ds k. none_var (tree_of ps) (tree_of ts) x y bs (tree_of part) ds n k) o

      pub none_at_here : NoneAt y i j → found (against (tree_of ps) (tree_of ts)) y ≡ Some (tree_of part)
      none_at_here o = var_move (NoneSoFar (tree_of ps) (tree_of ts) y) i j d h (within_var o.standing y e) (λ bs ds. found (against (tree_of ps) (tree_of ts)) y ≡ Some (tree_of part)) y to e to_is (λ bs ds k. none_here (tree_of ps) (tree_of ts) y bs (tree_of part) ds k) o
