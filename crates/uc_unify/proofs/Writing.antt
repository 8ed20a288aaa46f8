-- Terms that are written out from the left.
use Rattle.std.proofs.Common.{◌≡◌, ℕ, suc, ◌+◌, ◌-◌, ◌<◌, ◌≤◌, List, [], ◌∷◌, ◌++◌, length, get_or, slice_get, Some, refl, sym, ap, ap₂, ◌∙◌, subst, arith, inl, inr, append_assoc, append-nil, length-append}
use Rattle.std.proofs.lemmas.Option.{slice_get-get_or}
use Rattle.uc_term.specs.declared.node.Sym.{Sym}
use Rattle.uc_term.specs.declared.node.Node.{Node}
use Rattle.uc_term.specs.declared.node.Node.TheVariants.{Var, App}
use Rattle.uc_term.specs.Tree.{Tree, var, app, Trees, none, more, count, nodes}
use Rattle.uc_term.specs.Flat.{flat, flat_all, AreWhole}
use Rattle.uc_term.proofs.Terms.{length-flat, nodes_pos}
use Rattle.uc_unify.specs.Closure.{next, class, AreClasses}
use Rattle.uc_unify.specs.Solutions.{join, Solves, is_free, is_made, SolvesAll, no_more, one_more, Opens, IsOpened, IsWritten}
use Rattle.uc_unify.proofs.Fitting.{Fits, fits_place, fits_next, fits_args, trees_at}

join-none : (ts : Trees) → join ts none ≡ ts
join-none none = refl
join-none (more t ts) = ap (more t) (join-none ts)

join-assoc : (ts us vs : Trees) → join (join ts us) vs ≡ join ts (join us vs)
join-assoc none us vs = refl
join-assoc (more t ts) us vs = ap (more t) (join-assoc ts us vs)

flat_all-join : (ts us : Trees) → flat_all (join ts us) ≡ flat_all ts ++ flat_all us
flat_all-join none us = refl
flat_all-join (more t ts) us = ap (λ l. flat t ++ l) (flat_all-join ts us) ∙ sym (append_assoc (flat t) (flat_all ts) (flat_all us))

module _ (ns : List Node) (classes : List ℕ) where
  -- a place has one term
  mutual
    pub solves_once : (p : ℕ) (t u : Tree) → Solves ns classes p t → Solves ns classes p u → t ≡ u
    solves_once p _ _ (is_free {x = x} a) (is_free {x = y} b) = let e : Some (Var x) ≡ Some (Var y) = sym a ∙ b in ap var cc
    solves_once p _ _ (is_free {x = x} a) (is_made {n = n} {f = f} b s) = absurd (let e : Some (Var x) ≡ Some (App f n) = sym a ∙ b in cc)
    solves_once p _ _ (is_made {n = n} {f = f} a s) (is_free {x = x} b) = absurd (let e : Some (Var x) ≡ Some (App f n) = sym b ∙ a in cc)
    solves_once p _ _ (is_made {n = n} {f = f} {ts = ts} a s) (is_made {n = m} {f = g} {ts = us} b r) =
        let e : Some (App f n) ≡ Some (App g m) = sym a ∙ b in
        let head : f ≡ g = cc in
        let many : n ≡ m = cc in
        ap₂ app head (all_once (class classes p + 1) n m ts us many s r)

    all_once : (p n m : ℕ) (ts us : Trees) → n ≡ m → SolvesAll ns classes p n ts → SolvesAll ns classes p m us → ts ≡ us
    all_once p _ _ _ _ e no_more no_more = refl
    all_once p _ _ _ _ e no_more (one_more {n = m} s r) = absurd (omega arith)
    all_once p _ _ _ _ e (one_more {n = n} s r) no_more = absurd (omega arith)
    all_once p _ _ _ _ e (one_more {n = n} {t = t} {ts = ts} s r) (one_more {n = m} {t = u} {ts = us} s' r') = ap₂ more (solves_once p t u s s') (all_once (next ns p) n m ts us (omega arith) r r')

  solves_count : (p n : ℕ) (ts : Trees) → SolvesAll ns classes p n ts → count ts ≡ n
  solves_count p _ _ no_more = refl
  solves_count p _ _ (one_more {n = n} {ts = ts} s r) = omega (arith, solves_count (next ns p) n ts r)

  opens_push : (os : List (ℕ × ℕ)) (p n : ℕ) (here all : Trees) → Opens ns classes os all → SolvesAll ns classes p n here → Fits ns p n → 0 < n → Opens ns classes (os ++ (p, n) ∷ []) (join here all)
  opens_push [] p n here all o s f h = (none, here, refl, s, f, h, ap (join here) o ∙ join-none here)
  opens_push (x ∷ os) p n here all o s f h =
      (join here o.0, o.1, opens_push os p n here o.0 o.2 s f h, o.3, o.4, o.5, ap (join here) o.6 ∙ sym (join-assoc here o.0 o.1))

  pub record Top (os : List (ℕ × ℕ)) (p n : ℕ) (all : Trees) : Type 0 where
    pub here : Trees
    pub others : Trees
    pub solves : SolvesAll ns classes p n here
    pub fits : Fits ns p n
    pub some : 0 < n
    pub opens : Opens ns classes os others
    pub all_is : all ≡ join here others

  pub opens_pop : (os : List (ℕ × ℕ)) (p n : ℕ) (all : Trees) → Opens ns classes (os ++ (p, n) ∷ []) all → Top os p n all
  opens_pop [] p n all o = record { here = o.1; others = none; solves = o.3; fits = o.4; some = o.5; opens = refl; all_is = o.6 ∙ ap (λ b. join b o.1) o.2 ∙ sym (join-none o.1) }
  opens_pop (x ∷ os) p n all o =
      let t = opens_pop os p n o.0 o.2 in
      record { here = t.here; others = join t.others o.1; solves = t.solves; fits = t.fits; some = t.some; opens = (t.others, o.1, t.opens, o.3, o.4, o.5, refl); all_is = o.6 ∙ ap (λ b. join b o.1) t.all_is ∙ join-assoc t.here t.others o.1 }

  opens_more : (old new : List (ℕ × ℕ)) (p n : ℕ) (here all : Trees) → IsOpened p n old new → Opens ns classes old all → SolvesAll ns classes p n here → Fits ns p n → Opens ns classes new (join here all)
  opens_more old new p n here all (inl e) o s f =
      let empty : here ≡ none = no_terms here (solves_count p n here s ∙ e.0) in
      subst (λ (l : List (ℕ × ℕ)). Opens ns classes l (join here all)) (sym e.1) (subst (Opens ns classes old) (sym (ap (λ h. join h all) empty)) o)
    where
      no_terms : (ts : Trees) → count ts ≡ 0 → ts ≡ none
      no_terms none e = refl
      no_terms (more t ts) e = absurd (omega arith)
  opens_more old new p n here all (inr e) o s f = subst (λ (l : List (ℕ × ℕ)). Opens ns classes l (join here all)) (sym e.1) (opens_push old p n here all o s f e.0)

  at_free : (p x : ℕ) (t : Tree) → Solves ns classes p t → slice_get ns (class classes p) ≡ Some (Var x) → t ≡ var x
  at_free p x t s e = solves_once p t (var x) s (is_free e)

  pub at_made : (p n : ℕ) (f : Sym) (t : Tree) → Solves ns classes p t → slice_get ns (class classes p) ≡ Some (App f n) → (ts : Trees) × SolvesAll ns classes (class classes p + 1) n ts × (t ≡ app f ts)
  at_made p n f _ (is_free {x = x} a) e = absurd (let q : Some (Var x) ≡ Some (App f n) = sym a ∙ e in cc)
  at_made p n f _ (is_made {n = m} {f = g} {ts = ts} a s) e =
      let q : Some (App g m) ≡ Some (App f n) = sym a ∙ e in
      let head : g ≡ f = cc in
      let many : m ≡ n = cc in
      (ts, subst (λ (i : ℕ). SolvesAll ns classes (class classes p + 1) i ts) many s, ap (λ h. app h ts) head)

  pub record Front (p n : ℕ) (here : Trees) : Type 0 where
    pub first : Tree
    pub behind : Trees
    pub solves : Solves ns classes p first
    pub rest : SolvesAll ns classes (next ns p) (n - 1) behind
    pub here_is : here ≡ more first behind

  front : (p n : ℕ) (here : Trees) → 0 < n → SolvesAll ns classes p n here → Front p n here
  front p _ _ h no_more = absurd (omega arith)
  front p _ _ h (one_more {n = n} {t = t} {ts = ts} s r) = record { first = t; behind = ts; solves = s; rest = subst (λ (i : ℕ). SolvesAll ns classes (next ns p) i ts) (let e : n ≡ suc n - 1 = omega arith in e) r; here_is = refl }

  module _ (w : AreWhole ns) (k : AreClasses ns classes) (p n : ℕ) (fits : Fits ns p n) (some : 0 < n) where
    pub fits_suc : Fits ns p (suc (n - 1))
    fits_suc = subst (Fits ns p) (let e : n ≡ suc (n - 1) = omega arith in e) fits

    pub place_in : p < length ns
    place_in = fits_place ns w p (n - 1) fits_suc

    pub class_in : class classes p < length ns
    class_in = k.within p place_in

    module _ (list new_list : List Node) (old mid : List (ℕ × ℕ)) (to : ℕ) (to_is : to ≡ next ns p) (opened : IsOpened to (n - 1) old mid) (d : Node) where
      mid_opens : (here others : Trees) (f : Front p n here) → Opens ns classes old others → Opens ns classes mid (join f.behind others)
      mid_opens here others f o = opens_more old mid (next ns p) (n - 1) f.behind others (subst (λ (q : ℕ). IsOpened q (n - 1) old mid) to_is opened) o f.rest (fits_next ns w p (n - 1) fits_suc)

      longer : (m : Node) → new_list ≡ list ++ m ∷ [] → length new_list ≡ length list + 1
      longer m e = ap length e ∙ length-append list (m ∷ [])

      pub written_var : (x : ℕ) → get_or ns (class classes p) d ≡ Var x → new_list ≡ list ++ get_or ns (class classes p) d ∷ [] → IsWritten ns classes p n list old new_list mid
      written_var x at e = record { longer = longer (get_or ns (class classes p) d) e; rest = λ here others s o. go here others o (front p n here some s) }
        where
          go : (here others : Trees) → Opens ns classes old others → Front p n here → (all : Trees) × Opens ns classes mid all × (new_list ++ flat_all all ≡ list ++ flat_all (join here others))
          go here others o f =
              let t_is : f.first ≡ var x = at_free p x f.first f.solves (slice_get-get_or ns (class classes p) d class_in ∙ ap Some at) in
              let all = join f.behind others in
              let whole : flat_all (join here others) ≡ Var x ∷ flat_all all = ap (λ h. flat_all (join h others)) f.here_is ∙ ap (λ t. flat t ++ flat_all all) t_is in
              (all, mid_opens here others f o, ap (λ l. l ++ flat_all all) (e ∙ ap (λ m. list ++ m ∷ []) at) ∙ append_assoc list (Var x ∷ []) (flat_all all) ∙ ap (λ l. list ++ l) (sym whole))

      pub written_app : (g : Sym) (m : ℕ) (new : List (ℕ × ℕ)) → get_or ns (class classes p) d ≡ App g m → new_list ≡ list ++ get_or ns (class classes p) d ∷ [] → IsOpened (class classes p + 1) m mid new → IsWritten ns classes p n list old new_list new
      written_app g m new at e opened' = record { longer = longer (get_or ns (class classes p) d) e; rest = λ here others s o. go here others o (front p n here some s) }
        where
          symbol : slice_get ns (class classes p) ≡ Some (App g m)
          symbol = slice_get-get_or ns (class classes p) d class_in ∙ ap Some at

          go : (here others : Trees) → Opens ns classes old others → Front p n here → (all : Trees) × Opens ns classes new all × (new_list ++ flat_all all ≡ list ++ flat_all (join here others))
          go here others o f =
              let a = at_made p m g f.first f.solves symbol in
              let rest = join f.behind others in
              let all = join a.0 rest in
              let many : count a.0 ≡ m = solves_count (class classes p + 1) m a.0 a.1 in
              let open_all : Opens ns classes new all = opens_more mid new (class classes p + 1) m a.0 rest opened' (mid_opens here others f o) a.1 (fits_args ns w (class classes p) m (g, symbol)) in
              let whole : flat_all (join here others) ≡ App g m ∷ flat_all all = ap (λ h. flat_all (join h others)) f.here_is ∙ ap (λ t. flat t ++ flat_all rest) a.2 ∙ ap (λ i. App g i ∷ (flat_all a.0 ++ flat_all rest)) many ∙ ap (λ l. App g m ∷ l) (sym (flat_all-join a.0 rest)) in
              (all, open_all, ap (λ l. l ++ flat_all all) (e ∙ ap (λ x. list ++ x ∷ []) at) ∙ append_assoc list (App g m ∷ []) (flat_all all) ∙ ap (λ l. list ++ l) (sym whole))

  -- what the loop keeps
  pub record Writing (term : Tree) (list : List Node) (pending : List (ℕ × ℕ)) : Type 0 where
    pub left : Trees
    pub opens : Opens ns classes pending left
    pub so_far : list ++ flat_all left ≡ flat term

  pub writing_starts : (w : AreWhole ns) (p : ℕ) (t : Tree) (pending : List (ℕ × ℕ)) → pending ≡ (p, 1) ∷ [] → p < length ns → Solves ns classes p t → Writing t [] pending
  writing_starts w p t pending e h s = record {
    left = more t none;
    opens = subst (λ (l : List (ℕ × ℕ)). Opens ns classes l (more t none)) (sym e) (none, more t none, refl, one_more s no_more, fits_one w p h, omega arith, refl);
    so_far = append-nil (flat t);
  }
    where
      fits_one : (w : AreWhole ns) (p : ℕ) → p < length ns → Fits ns p 1
      fits_one w p h = omega (arith, ap count (trees_at ns w p h))

  module _ (term : Tree) (list : List Node) (pending rest : List (ℕ × ℕ)) (p n : ℕ) (is : pending ≡ rest ++ (p, n) ∷ []) (g : Writing term list pending) where
    pub top : Top rest p n g.left
    top = opens_pop rest p n g.left (subst (λ (l : List (ℕ × ℕ)). Opens ns classes l g.left) is g.opens)

    pub writing_more : (new_list : List Node) (new_open : List (ℕ × ℕ)) → IsWritten ns classes p n list rest new_list new_open → Writing term new_list new_open
    writing_more new_list new_open s =
        let r = s.rest top.here top.others top.solves top.opens in
        record { left = r.0; opens = r.1; so_far = r.2 ∙ ap (λ a. list ++ flat_all a) (sym top.all_is) ∙ g.so_far }

    pub room : nodes term ≤ 4096 → length list < 4096
    room small =
        let f = front p n top.here top.some top.solves in
        let left : flat_all g.left ≡ flat f.first ++ flat_all (join f.behind top.others) = ap flat_all top.all_is ∙ ap (λ h. flat_all (join h top.others)) f.here_is in
        omega (arith, ap length g.so_far, length-append list (flat_all g.left), ap length left, length-append (flat f.first) (flat_all (join f.behind top.others)), length-flat f.first, nodes_pos f.first, length-flat term)

  pub writing_ends : (p : ℕ) (term t : Tree) (list : List Node) (pending : List (ℕ × ℕ)) → length pending ≡ 0 → Writing term list pending → Solves ns classes p term → Solves ns classes p t → list ≡ flat t
  writing_ends p term t list [] e g s r = sym (append-nil list) ∙ ap (λ a. list ++ flat_all a) (sym g.opens) ∙ g.so_far ∙ ap flat (solves_once p term t s r)
  writing_ends p term t list (o ∷ os) e g s r = absurd (omega arith)
