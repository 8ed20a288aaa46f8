-- Places of written positions.
use Rattle.std.proofs.Common.{◌≡◌, ℕ, zero, suc, ◌+◌, ◌-◌, ◌<◌, ◌≤◌, List, [], ◌∷◌, length, take, drop, get_or, slice_get, Some, None, option_and_then, refl, sym, ap, ap₂, ◌∙◌, subst, arith, ◌⊎◌, inl, inr, length-drop, drop-drop}
use Rattle.std.proofs.Math.Seq.{drop-length}
use Rattle.std.proofs.lemmas.List.{get_or_append_left, get_or-append_right, length-take, get_or_default}
use Rattle.uc_term.specs.declared.node.Sym.{Sym}
use Rattle.uc_term.specs.declared.node.Node.{Node}
use Rattle.uc_term.specs.declared.node.Node.TheVariants.{Var, App}
use Rattle.uc_term.specs.Tree.{Tree, var, app, Trees, none, more, list_of, of_list, count, subterms, subterms_all, subterm, nodes, nodes_all, put_all}
use Rattle.uc_term.specs.Flat.{flat, spelled, tree_of, AreWhole}
use Rattle.uc_term.specs.Code.{list_of-of_list, tree_of-flat}
use Rattle.uc_term.specs.Path.{nth, written_argument, change, at_position, put_position}
use Rattle.uc_term.specs.Positions.{IsPlaceOf, IsArgumentPlace, argument_offset}
use Rattle.uc_term.proofs.Terms.{length-subterms, length-flat, nodes_pos, count-of_list, whole-drop}
use Rattle.uc_term.proofs.Parts.{at_front}
use Rattle.uc_term.proofs.Ahead.{drop-at}
use Rattle.uc_term.proofs.Positions.{low, high}

-- a place in an argument is one in the term
pub record IsPlaceIn (ts : Trees) (i : ℕ) (a : Tree) (p : List ℕ) (q k : ℕ) : Type 0 where
  pub inside : k < nodes_all ts
  pub there : (d : Tree) → get_or (subterms_all ts) k d ≡ subterm a q
  pub puts : (w : Tree) → put_all ts k w ≡ change (λ c. put_position c p w) ts i

pub in_args : (ts : Trees) (i : ℕ) (a : Tree) (p : List ℕ) (q k : ℕ) → nth ts i ≡ Some a → IsPlaceOf a p q → k ≡ nodes_all (of_list (take i (list_of ts))) + q → IsPlaceIn ts i a p q k
in_args none i a p q k e h s = absurd cc
in_args (more t ts) zero a p q k e h s =
    let same : t ≡ a = cc in
    let at : k ≡ q = omega arith in
    let h' : IsPlaceOf t p k = rw (same, at) h in
    let sub : subterm t k ≡ subterm a q = ap₂ subterm same at in
    record {
      inside = let i = h'.inside in omega arith;
      there = λ d. get_or_append_left (subterms t) (subterms_all ts) d k (let i = h'.inside in omega (arith, length-subterms t)) ∙ get_or_default (subterms t) k d t (let i = h'.inside in omega (arith, length-subterms t)) ∙ sub;
      puts = λ w. low t ts k w h'.inside ∙ ap (λ c. more c ts) (h'.puts w);
    }
in_args (more t ts) (suc i) a p q k e h s =
    let j = nodes_all (of_list (take i (list_of ts))) + q in
    let at : k ≡ nodes t + j = omega arith in
    let later = in_args ts i a p q j e h refl in
    let less : nodes t + j - nodes t ≡ j = omega arith in
    record {
      inside = let b = later.inside in omega arith;
      there = λ d. ap (λ n. get_or (subterms_all (more t ts)) n d) at ∙ get_or-append_right (subterms t) (subterms_all ts) (nodes t) (nodes t + j) d (length-subterms t) (omega arith) ∙ ap (λ n. get_or (subterms_all ts) n d) less ∙ later.there d;
      puts = λ w. ap (λ n. put_all (more t ts) n w) at ∙ high t ts j w ∙ ap (more t) (later.puts w);
    }

pub step_place : (u : Tree) (number : ℕ) (a : Tree) (r : List ℕ) (q : ℕ) → written_argument u number ≡ Some a → IsPlaceOf a r q → IsPlaceOf u (number ∷ r) (argument_offset u number + q)
step_place (var x) zero a r q e h = absurd cc
step_place (var x) (suc i) a r q e h = absurd cc
step_place (app f ts) zero a r q e h = absurd cc
step_place (app f ts) (suc i) a r q e h =
    let k = nodes_all (of_list (take i (list_of ts))) + q in
    let at : argument_offset (app f ts) (suc i) + q ≡ suc k = omega arith in
    let inner = in_args ts i a r q k e h refl in
    subst (λ (n : ℕ). IsPlaceOf (app f ts) (suc i ∷ r) n) (sym at) (record {
      inside = let b = inner.inside in omega arith;
      there = ap (option_and_then (λ v. at_position v r)) e ∙ h.there ∙ ap Some (sym (inner.there (app f ts)));
      puts = λ w. ap (app f) (inner.puts w);
    })

pub root_place : (u : Tree) → IsPlaceOf u [] 0
root_place (var x) = record { inside = omega arith; there = refl; puts = λ w. refl }
root_place (app f ts) = record { inside = omega arith; there = refl; puts = λ w. refl }

-- what a walk down a path keeps
pub record Walked (t : Tree) (path : List ℕ) (ns : List Node) (place index : ℕ) : Type 0 where
  pub inside : place < length ns
  pub same : at_position t path ≡ at_position (tree_of (drop place ns)) (drop index path)
  pub back : (q : ℕ) → IsPlaceOf (tree_of (drop place ns)) (drop index path) q → IsPlaceOf t path (place + q)

pub walk_begins : (t : Tree) (path : List ℕ) (ns : List Node) → ns ≡ flat t → Walked t path ns 0 0
walk_begins t path ns e =
    let is : tree_of ns ≡ t = ap tree_of e ∙ tree_of-flat t in
    record {
      inside = omega (arith, ap length e, length-flat t, nodes_pos t);
      same = ap (λ u. at_position u path) (sym is);
      back = λ q h. let at : 0 + q ≡ q = omega arith in subst (λ (n : ℕ). IsPlaceOf t path n) (sym at) (subst (λ (u : Tree). IsPlaceOf u path q) is h);
    }

pub walk_goes_on : (t : Tree) (path : List ℕ) (ns : List Node) (place index number next : ℕ) → Walked t path ns place index → drop index path ≡ number ∷ drop (index + 1) path → IsArgumentPlace ns place number next → Walked t path ns next (index + 1)
walk_goes_on t path ns place index number next w e h =
    let u = tree_of (drop place ns) in
    let r = drop (index + 1) path in
    record {
      inside = h.inside;
      same = w.same ∙ ap (at_position u) e ∙ ap (option_and_then (λ v. at_position v r)) h.there;
      back = λ q p.
          let at : place + (argument_offset u number + q) ≡ next + q = let o = h.offset in omega arith in
          subst (λ (n : ℕ). IsPlaceOf t path n) at (w.back (argument_offset u number + q) (subst (λ (l : List ℕ). IsPlaceOf u l (argument_offset u number + q)) (sym e) (step_place u number (tree_of (drop next ns)) r q h.there p)));
    }

pub walk_stops : (t : Tree) (path : List ℕ) (ns : List Node) (place index number : ℕ) → Walked t path ns place index → drop index path ≡ number ∷ drop (index + 1) path → written_argument (tree_of (drop place ns)) number ≡ None → at_position t path ≡ None
walk_stops t path ns place index number w e h =
    w.same ∙ ap (at_position (tree_of (drop place ns))) e ∙ ap (option_and_then (λ v. at_position v (drop (index + 1) path))) h

pub walk_ends : (t : Tree) (path : List ℕ) (ns : List Node) (place index : ℕ) → Walked t path ns place index → length path ≤ index → IsPlaceOf t path place
walk_ends t path ns place index w h =
    let at : place + 0 ≡ place = omega arith in
    let nothing : drop index path ≡ [] = drop_of_length-le path index h in
    subst (λ (n : ℕ). IsPlaceOf t path n) at (w.back 0 (subst (λ (l : List ℕ). IsPlaceOf (tree_of (drop place ns)) l 0) (sym nothing) (root_place (tree_of (drop place ns)))))
  where
    drop_of_length-le : (l : List ℕ) (i : ℕ) → length l ≤ i → drop i l ≡ []
    drop_of_length-le [] zero h = refl
    drop_of_length-le [] (suc i) h = refl
    drop_of_length-le (x ∷ l) zero h = absurd (omega arith)
    drop_of_length-le (x ∷ l) (suc i) h = drop_of_length-le l i (omega arith)

-- the terms of a list, read one after another
spelled-next : (ns : List Node) (p e : ℕ) → AreWhole ns → p < length ns → e ≡ p + nodes (tree_of (drop p ns)) → spelled (drop p ns) ≡ tree_of (drop p ns) ∷ spelled (drop e ns)
spelled-next ns p e w h q =
    let ms = drop p ns in
    let f = at_front (spelled ms) ms refl (whole-drop p ns w) (omega (arith, length-drop p ns)) in
    let at_e : drop (nodes (tree_of ms)) ms ≡ drop e ns = drop-drop (nodes (tree_of ms)) p ns ∙ ap (λ k. drop k ns) (sym q) in
    sym (list_of-of_list (spelled ms)) ∙ ap list_of f.1 ∙ ap (λ l. tree_of ms ∷ l) (list_of-of_list (spelled (drop (nodes (tree_of ms)) ms)) ∙ ap spelled at_e)

pub record Nexts (ts : List Tree) (i : ℕ) (t : Tree) (rest : List Tree) : Type 0 where
  pub behind : drop (i + 1) ts ≡ rest
  pub sum : nodes_all (of_list (take (i + 1) ts)) ≡ nodes_all (of_list (take i ts)) + nodes t
  pub here : slice_get ts i ≡ Some t

nexts : (ts : List Tree) (i : ℕ) (t : Tree) (rest : List Tree) → drop i ts ≡ t ∷ rest → Nexts ts i t rest
nexts [] zero t rest e = absurd cc
nexts [] (suc i) t rest e = absurd cc
nexts (u ∷ ts) zero t rest e =
    let head : u ≡ t = cc in
    let tail : ts ≡ rest = cc in
    record { behind = tail; sum = omega (arith, ap nodes head); here = ap Some head }
nexts (u ∷ ts) (suc i) t rest e =
    let n = nexts ts i t rest e in
    let at : suc i + 1 ≡ suc (i + 1) = omega arith in
    record {
      behind = ap (λ k. drop k (u ∷ ts)) at ∙ n.behind;
      sum = ap (λ k. nodes_all (of_list (take k (u ∷ ts)))) at ∙ (let s = n.sum in omega arith);
      here = n.here;
    }

-- what the loop over so many terms keeps
pub record Passed (ns : List Node) (from i place : ℕ) : Type 0 where
  pub place_is : place ≡ from + nodes_all (of_list (take i (spelled (drop from ns))))
  pub rest : spelled (drop place ns) ≡ drop i (spelled (drop from ns))
  pub in_list : place ≤ length ns

pub passed_none : (ns : List Node) (from : ℕ) → from ≤ length ns → Passed ns from 0 from
passed_none ns from h = record { place_is = omega arith; rest = refl; in_list = h }

pub passed_within : (ns : List Node) (from i place : ℕ) → Passed ns from i place → i < length (spelled (drop from ns)) → place < length ns
passed_within ns from i place p h = elim inside [
  | inl a ↦ a
  | inr b ↦
      let none : drop place ns ≡ [] = ap (λ k. drop k ns) (let e : place ≡ length ns = let l = p.in_list in omega arith in e) ∙ drop-length ns in
      let zero : 0 ≡ length (spelled (drop from ns)) - i = ap (λ l. length (spelled l)) (sym none) ∙ ap length p.rest ∙ length-drop i (spelled (drop from ns)) in
      absurd (omega arith)
]
  where
    inside : (place < length ns) ⊎ (length ns ≤ place)
    inside = grind arith

pub passed_more : (ns : List Node) (from i place e : ℕ) → AreWhole ns → Passed ns from i place → i < length (spelled (drop from ns)) → e ≡ place + nodes (tree_of (drop place ns)) → e ≤ length ns → Passed ns from (i + 1) e
passed_more ns from i place e w p h q l =
    let t = tree_of (drop place ns) in
    let n = nexts (spelled (drop from ns)) i t (spelled (drop e ns)) (sym p.rest ∙ spelled-next ns place e w (passed_within ns from i place p h) q) in
    record { place_is = let a = p.place_is in let b = n.sum in omega arith; rest = sym n.behind; in_list = l }

-- the arguments of a term that begins at a place
whole_args : (f : Sym) (n : ℕ) (ns : List Node) → AreWhole (App f n ∷ ns) → n ≤ length (spelled ns)
whole_args f n ns w =
    let counts : count (of_list (take n (spelled ns))) ≡ n = cc in
    omega (arith, count-of_list (take n (spelled ns)), length-take n (spelled ns))

head_node : (ns : List Node) (at : ℕ) (d n : Node) → at < length ns → get_or ns at d ≡ n → drop at ns ≡ n ∷ drop (at + 1) ns
head_node ns at d n h e = drop-at ns at d h ∙ ap (λ x. x ∷ drop (at + 1) ns) e

pub many_args : (ns : List Node) (at n : ℕ) (f : Sym) (d : Node) → AreWhole ns → at < length ns → get_or ns at d ≡ App f n → n ≤ length (spelled (drop (at + 1) ns))
many_args ns at n f d w h e = whole_args f n (drop (at + 1) ns) (subst AreWhole (head_node ns at d (App f n) h e) (whole-drop at ns w))

nth-take : (ts : List Tree) (n i : ℕ) (t : Tree) → slice_get ts i ≡ Some t → i < n → nth (of_list (take n ts)) i ≡ Some t
nth-take [] n i t e h = absurd cc
nth-take (u ∷ ts) zero i t e h = absurd (omega arith)
nth-take (u ∷ ts) (suc n) zero t e h = e
nth-take (u ∷ ts) (suc n) (suc i) t e h = nth-take ts n i t e (omega arith)

nth-past : (ts : List Tree) (n i : ℕ) → n ≤ i → nth (of_list (take n ts)) i ≡ None
nth-past ts zero i h = refl
nth-past [] (suc n) i h = refl
nth-past (u ∷ ts) (suc n) zero h = absurd (omega arith)
nth-past (u ∷ ts) (suc n) (suc i) h = nth-past ts n i (omega arith)

take-take : (ts : List Tree) (n i : ℕ) → i ≤ n → take i (take n ts) ≡ take i ts
take-take ts n zero h = refl
take-take [] zero (suc i) h = refl
take-take [] (suc n) (suc i) h = refl
take-take (u ∷ ts) zero (suc i) h = absurd (omega arith)
take-take (u ∷ ts) (suc n) (suc i) h = ap (λ l. u ∷ l) (take-take ts n i (omega arith))

-- no argument has this number
pub no_argument_var : (ns : List Node) (at number x : ℕ) (d : Node) → at < length ns → get_or ns at d ≡ Var x → written_argument (tree_of (drop at ns)) number ≡ None
no_argument_var ns at number x d h e = ap (λ l. written_argument (tree_of l) number) (head_node ns at d (Var x) h e) ∙ go number
  where
    go : (k : ℕ) → written_argument (var x) k ≡ None
    go zero = refl
    go (suc k) = refl

pub no_argument_app : (ns : List Node) (at number n : ℕ) (f : Sym) (d : Node) → at < length ns → get_or ns at d ≡ App f n → (number ≡ 0) ⊎ (n < number) → written_argument (tree_of (drop at ns)) number ≡ None
no_argument_app ns at number n f d h e out = ap (λ l. written_argument (tree_of l) number) (head_node ns at d (App f n) h e) ∙ go number out
  where
    go : (k : ℕ) → (k ≡ 0) ⊎ (n < k) → written_argument (app f (of_list (take n (spelled (drop (at + 1) ns))))) k ≡ None
    go zero out = refl
    go (suc k) (inl z) = absurd (omega arith)
    go (suc k) (inr l) = nth-past (spelled (drop (at + 1) ns)) n k (omega arith)

-- the place behind so many arguments is that of the next one
pub argument_is : (ns : List Node) (at number n place : ℕ) (f : Sym) (d : Node) → AreWhole ns → at < length ns → get_or ns at d ≡ App f n → 0 < number → number ≤ n → place ≡ at + 1 + nodes_all (of_list (take (number - 1) (spelled (drop (at + 1) ns)))) → spelled (drop place ns) ≡ drop (number - 1) (spelled (drop (at + 1) ns)) → place ≤ length ns → IsArgumentPlace ns at number place
argument_is ns at zero n place f d w h e some few is rest within = absurd (omega arith)
argument_is ns at (suc i) n place f d w h e some few is rest within =
    let ts = spelled (drop (at + 1) ns) in
    let less : suc i - 1 ≡ i = omega arith in
    let p : Passed ns (at + 1) i place = record { place_is = rw (← less) is; rest = rw (← less) rest; in_list = within } in
    let inner = passed_within ns (at + 1) i place p (omega (arith, many_args ns at n f d w h e)) in
    let m = nexts ts i (tree_of (drop place ns)) (spelled (drop (place + nodes (tree_of (drop place ns))) ns)) (sym p.rest ∙ spelled-next ns place (place + nodes (tree_of (drop place ns))) w inner refl) in
    let head = head_node ns at d (App f n) h e in
    let off : argument_offset (tree_of (drop at ns)) (suc i) ≡ 1 + nodes_all (of_list (take i ts)) =
    ap (λ l. argument_offset (tree_of l) (suc i)) head ∙ ap (λ l. 1 + nodes_all (of_list l)) (ap (take i) (list_of-of_list (take n ts)) ∙ take-take ts n i (omega arith)) in
    record {
      inside = inner;
      there = ap (λ l. written_argument (tree_of l) (suc i)) head ∙ nth-take ts n i (tree_of (drop place ns)) m.here (omega arith);
      offset = let a = p.place_is in omega arith;
    }
