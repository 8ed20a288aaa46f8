-- The written position of a place, found by reading the list backwards.
use Rattle.std.proofs.Common.{◌≡◌, ℕ, zero, suc, ◌+◌, ◌-◌, ◌<◌, ◌≤◌, List, [], ◌∷◌, length, take, drop, get_or, reverse, append-nil, length-drop, refl, sym, ap, ◌∙◌, subst, arith, inl, inr}
use Rattle.std.proofs.Common.{drop-drop}
use Rattle.std.proofs.lemmas.List.{reverse-append}
use Rattle.uc_term.specs.declared.node.Node.{Node}
use Rattle.uc_term.specs.declared.node.Node.TheVariants.{Var, App}
use Rattle.uc_term.specs.Tree.{Tree, var, app, of_list, nodes_all}
use Rattle.uc_term.specs.Flat.{flat, spelled, tree_of, AreWhole}
use Rattle.uc_term.specs.Code.{spelled-flat, tree_of-flat}
use Rattle.uc_term.specs.Positions.{IsPlaceOf, argument_offset, IsStepUp}
use Rattle.uc_term.proofs.Ahead.{drop-at}
use Rattle.uc_term.proofs.Written.{Passed, passed_none, argument_is, step_place, root_place}

-- so many terms from a place on, in two parts
sum_parts : (ts : List Tree) (n c : ℕ) → n ≤ c → nodes_all (of_list (take c ts)) ≡ nodes_all (of_list (take n ts)) + nodes_all (of_list (take (c - n) (drop n ts)))
sum_parts ts zero c h = let e : c - 0 ≡ c = omega arith in rw e (let z : nodes_all (of_list (take c ts)) ≡ 0 + nodes_all (of_list (take c ts)) = omega arith in z)
sum_parts [] (suc n) zero h = absurd (omega arith)
sum_parts [] (suc n) (suc c) h = empty (c - n)
  where
    empty : (k : ℕ) → 0 ≡ 0 + nodes_all (of_list (take {A = Tree} (suc c - suc n) []))
    empty k = go (suc c - suc n)
      where
        go : (k : ℕ) → 0 ≡ 0 + nodes_all (of_list (take {A = Tree} k []))
        go zero = omega arith
        go (suc k) = omega arith
sum_parts (t ∷ ts) (suc n) zero h = absurd (omega arith)
sum_parts (t ∷ ts) (suc n) (suc c) h =
    let s = sum_parts ts n c (omega arith) in
    let e : suc c - suc n ≡ c - n = omega arith in
    let k : nodes_all (of_list (take (suc c - suc n) (drop n ts))) ≡ nodes_all (of_list (take (c - n) (drop n ts))) = ap (λ m. nodes_all (of_list (take m (drop n ts)))) e in
    omega (arith, s, k)

-- what the walk upwards keeps: the target is the place behind so many terms from where it stands, and the noted numbers lead
-- from the target to the place
pub record Climbing (ns : List Node) (pos place between : ℕ) (noted : List ℕ) : Type 0 where
  pub target : ℕ
  pub passed : Passed ns place between target
  pub bounds : (place + between ≤ target) × (target ≤ pos)
  pub inside : target < length ns
  pub leads : IsPlaceOf (tree_of (drop target ns)) (reverse noted) (pos - target)

module _ (ns : List Node) (w : AreWhole ns) (pos : ℕ) (small : pos < length ns) where
  pub climbing_starts : (noted : List ℕ) → noted ≡ [] → Climbing ns pos pos 0 noted
  climbing_starts noted e = record {
    target = pos;
    passed = passed_none ns pos (omega arith);
    bounds = (omega arith, omega arith);
    inside = small;
    leads = let z : pos - pos ≡ 0 = omega arith in rw (e, z) (root_place (tree_of (drop pos ns)));
  }

  module _ (place between : ℕ) (noted new : List ℕ) (now : ℕ) (d : Node) (g : Climbing ns pos (place + 1) between noted) where
    pub here : place < length ns
    here = let b = g.bounds in let i = g.inside in omega arith

    pub climbing_goes_on : IsStepUp (get_or ns place d) between noted new now → Climbing ns pos place now new
    climbing_goes_on s = go (get_or ns place d) refl s
      where
        S : List Tree
        S = spelled (drop (place + 1) ns)

        front : (m : Node) → get_or ns place d ≡ m → drop place ns ≡ m ∷ drop (place + 1) ns
        front m e = drop-at ns place d here ∙ ap (λ y. y ∷ drop (place + 1) ns) e

        go : (m : Node) → get_or ns place d ≡ m → IsStepUp m between noted new now → Climbing ns pos place now new
        go (Var x) e s =
            let p = g.passed in
            let here_is : spelled (drop place ns) ≡ var x ∷ S = ap spelled (front (Var x) e) in
            let up : between + 1 ≡ suc between = omega arith in
            let b = g.bounds in
            subst (Climbing ns pos place now) (sym s.0) (record {
              target = g.target;
              passed = record {
                place_is = rw (s.1, here_is, up) (let q = p.place_is in omega arith);
                rest = p.rest ∙ rw (s.1, here_is, up) refl;
                in_list = p.in_list;
              };
              bounds = (let n = s.1 in omega arith, b.1);
              inside = g.inside;
              leads = g.leads;
            })
        go (App f n) e (inl s) =
            let p = g.passed in
            let b = g.bounds in
            let less : between + 1 - 1 ≡ between = omega arith in
            let a = argument_is ns place (between + 1) n g.target f d w here e (omega arith) (let l = s.0 in omega arith) (rw less p.place_is) (rw less p.rest) p.in_list in
            let offset = argument_offset (tree_of (drop place ns)) (between + 1) in
            let sum : offset + (pos - g.target) ≡ pos - place = let o = a.offset in omega arith in
            let up = step_place (tree_of (drop place ns)) (between + 1) (tree_of (drop g.target ns)) (reverse noted) (pos - g.target) a.there g.leads in
            let noted_is : reverse new ≡ (between + 1) ∷ reverse noted = ap reverse s.1 ∙ reverse-append noted ((between + 1) ∷ []) in
            record {
              target = place;
              passed = rw s.2 (passed_none ns place (omega (arith, here)));
              bounds = (let z = s.2 in omega arith, omega arith);
              inside = here;
              leads = rw (noted_is, ← sum) up;
            }
        go (App f n) e (inr s) =
            let p = g.passed in
            let b = g.bounds in
            let here_is : spelled (drop place ns) ≡ app f (of_list (take n S)) ∷ drop n S = ap spelled (front (App f n) e) in
            let up : between - n + 1 ≡ suc (between - n) = omega arith in
            let total = sum_parts S n between s.0 in
            let back : n + (between - n) ≡ between = let h = s.0 in omega arith in
            subst (Climbing ns pos place now) (sym s.1) (record {
              target = g.target;
              passed = record {
                place_is = rw (s.2, here_is, up) (let q = p.place_is in omega arith);
                rest = p.rest ∙ sym (rw (s.2, here_is, up) (drop-drop (between - n) n S ∙ ap (λ m. drop m S) back));
                in_list = p.in_list;
              };
              bounds = (let n = s.2 in let h = s.0 in omega arith, b.1);
              inside = g.inside;
              leads = g.leads;
            })

    pub between_small : between < length ns
    between_small = let b = g.bounds in let i = g.inside in omega arith

-- from the first node on the place is reached
pub climbed : (ns : List Node) (t : Tree) (pos between : ℕ) (noted path : List ℕ) → ns ≡ flat t → path ≡ reverse noted → Climbing ns pos 0 between noted → IsPlaceOf t path pos
climbed ns t pos between noted path is e g = subst (λ (l : List ℕ). IsPlaceOf t l pos) (sym e) (at_root between g.passed g.bounds.0)
  where
    one : spelled ns ≡ t ∷ []
    one = ap spelled (is ∙ sym (append-nil (flat t))) ∙ spelled-flat t []

    found : g.target ≡ 0 → IsPlaceOf t (reverse noted) pos
    found z =
        let here : tree_of (drop g.target ns) ≡ t = ap (λ k. tree_of (drop k ns)) z ∙ ap tree_of is ∙ tree_of-flat t in
        let far : pos - g.target ≡ pos = omega arith in
        subst (λ (n : ℕ). IsPlaceOf t (reverse noted) n) far (subst (λ (u : Tree). IsPlaceOf u (reverse noted) (pos - g.target)) here g.leads)

    behind : (c : ℕ) → drop c (t ∷ []) ≡ [] → spelled (drop g.target ns) ≡ drop c (t ∷ []) → ⊥
    behind c e r = filled (drop g.target ns) (let n = length-drop g.target ns in let i = g.inside in omega arith) (r ∙ e)
      where
        filled : (ms : List Node) → 0 < length ms → spelled ms ≡ [] → ⊥
        filled [] h e = omega arith
        filled (Var x ∷ ms) h e = cc
        filled (App f n ∷ ms) h e = cc

    at_root : (c : ℕ) → Passed ns 0 c g.target → 0 + c ≤ g.target → IsPlaceOf t (reverse noted) pos
    at_root zero p b = found (let q = p.place_is in omega arith)
    at_root (suc zero) p b = absurd (behind 1 refl (p.rest ∙ ap (drop 1) one))
    at_root (suc (suc c)) p b = absurd (behind (suc (suc c)) refl (p.rest ∙ ap (drop (suc (suc c))) one))
