-- Two lists of whole terms with a common front, from a part where they differ to the terms around it.
use Rattle.std.proofs.Common.{◌≡◌, ◌≢◌, ℕ, zero, suc, ◌+◌, ◌-◌, ◌<◌, ◌≤◌, List, [], ◌∷◌, ◌++◌, length, take, drop, get_or, refl, sym, ap, ap₂, ◌∙◌, subst, arith, ◌⊎◌, inl, inr, length-drop, length-append, drop-drop, append-nil}
use Rattle.std.proofs.lemmas.List.{length-take, length-take-le, take-append-le, drop-append-le, get_or-take, take-append-drop}
use Rattle.std.proofs.Math.Seq.{take-append-add}
use Rattle.uc_term.specs.declared.node.Sym.{Sym}
use Rattle.uc_term.specs.declared.node.Node.{Node}
use Rattle.uc_term.specs.declared.node.Node.TheVariants.{Var, App}
use Rattle.uc_term.specs.Tree.{Tree, var, app, more, of_list, list_of, count, nodes, nodes_all}
use Rattle.uc_term.specs.Flat.{flat, spelled, tree_of, trees_of, IsWhole, AreWhole}
use Rattle.uc_term.specs.Code.{list_of-of_list, spelled-flat}
use Rattle.uc_term.proofs.Terms.{whole-drop, count-of_list, whole_one, nodes_whole, take_of_length-le, flat-prefix}
use Rattle.uc_term.proofs.Ahead.{drop-at}
use Rattle.uc_term.proofs.Parts.{at_front}

-- what begins at a place: its term, and behind it the rest
pub record Begins (ns : List Node) (p e : ℕ) : Type 0 where
  pub ends : e ≡ p + nodes (tree_of (drop p ns))
  pub nodes_are : take (e - p) (drop p ns) ≡ flat (tree_of (drop p ns))
  pub spells : spelled (drop p ns) ≡ tree_of (drop p ns) ∷ spelled (drop e ns)
  pub within : e ≤ length ns

pub begins : (ns : List Node) (p e : ℕ) → AreWhole ns → p < length ns → e ≡ p + nodes (tree_of (drop p ns)) → Begins ns p e
begins ns p e w h q =
    let ms = drop p ns in
    let f = at_front (spelled ms) ms refl (whole-drop p ns w) (omega (arith, length-drop p ns)) in
    let size : e - p ≡ nodes (tree_of ms) = omega arith in
    let at_e : drop (nodes (tree_of ms)) ms ≡ drop e ns = drop-drop (nodes (tree_of ms)) p ns ∙ ap (λ k. drop k ns) (sym q) in
    record {
      ends = q;
      nodes_are = ap (λ k. take k ms) size ∙ f.0;
      spells = sym (list_of-of_list (spelled ms)) ∙ ap list_of (f.1 ∙ ap (λ l. more (tree_of ms) (trees_of l)) at_e) ∙ ap (λ l. tree_of ms ∷ l) (list_of-of_list (spelled (drop e ns)));
      within = omega (arith, f.2, length-drop p ns);
    }

-- whole terms that both lists have between a place and the part that is compared
pub record Front (s t : List Node) (from part done : ℕ) : Type 0 where
  pub trees : List Tree
  pub long : length trees ≡ done
  pub left : spelled (drop from s) ≡ trees ++ spelled (drop part s)
  pub right : spelled (drop from t) ≡ trees ++ spelled (drop part t)
  pub sizes : from + nodes_all (of_list trees) ≡ part

pub front_none : (s t : List Node) (p : ℕ) → Front s t p p 0
front_none s t p = record { trees = []; long = refl; left = refl; right = refl; sizes = omega arith }

pub front_var : (s t : List Node) (i p k x : ℕ) → drop i s ≡ Var x ∷ drop (i + 1) s → drop i t ≡ Var x ∷ drop (i + 1) t → Front s t (i + 1) p k → Front s t i p (k + 1)
front_var s t i p k x es et f = record {
  trees = var x ∷ f.trees;
  long = omega (arith, f.long);
  left = ap spelled es ∙ ap (λ l. var x ∷ l) f.left;
  right = ap spelled et ∙ ap (λ l. var x ∷ l) f.right;
  sizes = omega (arith, f.sizes);
}

nodes_all-take-drop : (n : ℕ) (ts : List Tree) → nodes_all (of_list (take n ts)) + nodes_all (of_list (drop n ts)) ≡ nodes_all (of_list ts)
nodes_all-take-drop zero ts = omega arith
nodes_all-take-drop (suc n) [] = refl
nodes_all-take-drop (suc n) (t ∷ ts) = omega (arith, nodes_all-take-drop n ts)

pass_app : (n : ℕ) (f : Sym) (ms : List Node) (trees rest : List Tree) → n ≤ length trees → spelled ms ≡ trees ++ rest → spelled (App f n ∷ ms) ≡ (app f (of_list (take n trees)) ∷ drop n trees) ++ rest
pass_app n f ms trees rest h e = rw (e, take-append-le n trees rest h, drop-append-le n trees rest h) refl

pub front_app : (s t : List Node) (i p k n : ℕ) (f : Sym) → n ≤ k → drop i s ≡ App f n ∷ drop (i + 1) s → drop i t ≡ App f n ∷ drop (i + 1) t → Front s t (i + 1) p k → Front s t i p (k - n + 1)
front_app s t i p k n f h es et r =
    let short : n ≤ length r.trees = omega (arith, r.long) in
    record {
      trees = app f (of_list (take n r.trees)) ∷ drop n r.trees;
      long = omega (arith, length-drop n r.trees, r.long);
      left = ap spelled es ∙ pass_app n f (drop (i + 1) s) r.trees _ short r.left;
      right = ap spelled et ∙ pass_app n f (drop (i + 1) t) r.trees _ short r.right;
      sizes = omega (arith, nodes_all-take-drop n r.trees, r.sizes);
    }

-- the term around the part
pub record Around (ns : List Node) (i p k n : ℕ) (f : Sym) (trees : List Tree) (e : ℕ) : Type 0 where
  pub enough : n - k - 1 ≤ length (spelled (drop e ns))
  pub tree : tree_of (drop i ns) ≡ app f (of_list (trees ++ tree_of (drop p ns) ∷ take (n - k - 1) (spelled (drop e ns))))

nodes_all-append : (ts us : List Tree) → nodes_all (of_list (ts ++ us)) ≡ nodes_all (of_list ts) + nodes_all (of_list us)
nodes_all-append [] us = omega arith
nodes_all-append (t ∷ ts) us = omega (arith, nodes_all-append ts us)

pub arity_of : (f : Sym) (n : ℕ) (ms : List Node) → AreWhole (App f n ∷ ms) → n ≤ length (spelled ms)
arity_of f n ms w =
    let same : count (of_list (take n (spelled ms))) ≡ n = cc in
    omega (arith, same, count-of_list (take n (spelled ms)), length-take n (spelled ms))

pub around : (ns : List Node) (i p k n e : ℕ) (f : Sym) (trees : List Tree) → AreWhole ns → k < n → drop i ns ≡ App f n ∷ drop (i + 1) ns → length trees ≡ k → spelled (drop (i + 1) ns) ≡ trees ++ spelled (drop p ns) → Begins ns p e → Around ns i p k n f trees e
around ns i p k n e f trees w h at long left b =
    let all : spelled (drop (i + 1) ns) ≡ trees ++ tree_of (drop p ns) ∷ spelled (drop e ns) = left ∙ ap (λ l. trees ++ l) b.spells in
    let P : List Node → Type 0 = AreWhole in
    let many : n ≤ length (spelled (drop (i + 1) ns)) = arity_of f n (drop (i + 1) ns) (subst P at (whole-drop i ns w)) in
    let size : n ≡ length trees + suc (n - k - 1) = omega arith in
    let taken : take n (spelled (drop (i + 1) ns)) ≡ trees ++ tree_of (drop p ns) ∷ take (n - k - 1) (spelled (drop e ns)) = ap (take n) all ∙ ap (λ m. take m (trees ++ tree_of (drop p ns) ∷ spelled (drop e ns))) size ∙ take-append-add trees (tree_of (drop p ns) ∷ spelled (drop e ns)) (suc (n - k - 1)) in
    record {
      enough = omega (arith, ap length all, length-append trees (tree_of (drop p ns) ∷ spelled (drop e ns)), many, long);
      tree = ap tree_of at ∙ ap (λ l. app f (of_list l)) taken;
    }

pub around_ends : (ns : List Node) (i p k n e e' : ℕ) (f : Sym) (trees : List Tree) → Around ns i p k n f trees e → i + 1 + nodes_all (of_list trees) ≡ p → e ≡ p + nodes (tree_of (drop p ns)) → e' ≡ e + nodes_all (of_list (take (n - k - 1) (spelled (drop e ns)))) → e' ≡ i + nodes (tree_of (drop i ns))
around_ends ns i p k n e e' f trees a sizes q r = omega (arith, ap nodes a.tree, nodes_all-append trees (tree_of (drop p ns) ∷ take (n - k - 1) (spelled (drop e ns))), sizes, q, r)

pub same_node : (s t : List Node) (i at : ℕ) (d : Node) → i < at → take at s ≡ take at t → get_or s i d ≡ get_or t i d
same_node s t i at d h e = sym (get_or-take at s i d h) ∙ ap (λ l. get_or l i d) e ∙ get_or-take at t i d h

pub counts_same : (f g : Sym) (n m : ℕ) (ms ns : List Node) → AreWhole (App f n ∷ ms) → AreWhole (App g m ∷ ns) → count (of_list (take n (spelled ms))) ≡ count (of_list (take m (spelled ns))) → n ≡ m
counts_same f g n m ms ns wm wn e =
    omega (arith, e, count-of_list (take n (spelled ms)), count-of_list (take m (spelled ns)), length-take-le n (spelled ms) (arity_of f n ms wm), length-take-le m (spelled ns) (arity_of g m ns wn))

differ_nodes : (a b : Node) (ms ns : List Node) → AreWhole (a ∷ ms) → AreWhole (b ∷ ns) → a ≢ b → tree_of (a ∷ ms) ≢ tree_of (b ∷ ns)
differ_nodes (App f n) (App g m) ms ns wh wk ne e =
    let p : f ≡ g = cc in
    let q : of_list (take n (spelled ms)) ≡ of_list (take m (spelled ns)) = cc in
    ne (ap₂ App p (counts_same f g n m ms ns wh wk (ap count q)))
differ_nodes (App f n) (Var y) ms ns wh wk ne e = absurd cc
differ_nodes (Var x) (App g m) ms ns wh wk ne e = absurd cc
differ_nodes (Var x) (Var y) ms ns wh wk ne e = ne cc

pub at_whole : (s : List Node) (at : ℕ) (d : Node) → AreWhole s → at < length s → AreWhole (get_or s at d ∷ drop (at + 1) s)
at_whole s at d wh h = let P : List Node → Type 0 = AreWhole in subst P (drop-at s at d h) (whole-drop at s wh)

pub differ_at : (s t : List Node) (at : ℕ) (d : Node) → AreWhole s → AreWhole t → at < length s → at < length t → get_or s at d ≢ get_or t at d → tree_of (drop at s) ≢ tree_of (drop at t)
differ_at s t at d wh wk h k ne = rw (drop-at s at d h, drop-at t at d k) (differ_nodes (get_or s at d) (get_or t at d) (drop (at + 1) s) (drop (at + 1) t) (at_whole s at d wh h) (at_whole t at d wk k) ne)

pub begins_all : (ns : List Node) → IsWhole ns → 0 < length ns → Begins ns 0 (length ns)
begins_all ns w h = begins ns 0 (length ns) (whole_one ns w) h (omega (arith, nodes_whole ns w))

spelled_whole : (ns : List Node) → IsWhole ns → spelled ns ≡ tree_of ns ∷ []
spelled_whole ns w = ap spelled (sym w ∙ sym (append-nil (flat (tree_of ns)))) ∙ spelled-flat (tree_of ns) []

-- the whole lists spell the part at the end of the way up
pub at_root : (s t : List Node) (p : ℕ) (trees : List Tree) → IsWhole s → p < length s → AreWhole s → spelled s ≡ trees ++ spelled (drop p s) → p ≡ nodes_all (of_list trees) → p ≡ 0
at_root s t p [] w h a e z = z
at_root s t p (u ∷ trees) w h a e z =
    let one : spelled s ≡ tree_of s ∷ [] = spelled_whole s w in
    let b = begins s p (p + nodes (tree_of (drop p s))) a h refl in
    let long : 1 ≡ suc (length (trees ++ spelled (drop p s))) = ap length (sym one ∙ e) in
    let more_terms = length-append trees (spelled (drop p s)) in
    let some = ap length b.spells in
    absurd (omega arith)

pub node_at : (ns : List Node) (i : ℕ) (d n : Node) → i < length ns → get_or ns i d ≡ n → drop i ns ≡ n ∷ drop (i + 1) ns
node_at ns i d n h e = drop-at ns i d h ∙ ap (λ m. m ∷ drop (i + 1) ns) e

pub front_from : (s t : List Node) (i from p k : ℕ) → i + 1 ≡ from → Front s t from p k → Front s t (i + 1) p k
front_from s t i from p k e f = let P : ℕ → Type 0 = λ m. Front s t m p k in subst P (sym e) f

-- two whole terms of which one list is the front of the other
front_same : (u v : Tree) (n : ℕ) → n ≡ length (flat u) → take n (flat u) ≡ take n (flat v) → u ≡ v
front_same u v n h e =
    let all : take n (flat u) ≡ flat u = take_of_length-le (flat u) n (omega arith) in
    let k : (flat u ++ drop n (flat v)) ≡ flat v = ap (λ l. l ++ drop n (flat v)) (sym all ∙ e) ∙ take-append-drop n (flat v) in
    (flat-prefix u v (drop n (flat v)) [] (k ∙ sym (append-nil (flat v)))).0

pub same_front : (s t : List Node) (at : ℕ) → IsWhole s → IsWhole t → take at s ≡ take at t → at ≤ length s → at ≤ length t → (length s ≤ at) ⊎ (length t ≤ at) → tree_of s ≡ tree_of t
same_front s t at ws wt e h k (inl l) = front_same (tree_of s) (tree_of t) at (omega (arith, ap length ws)) (ap (take at) ws ∙ e ∙ sym (ap (take at) wt))
same_front s t at ws wt e h k (inr l) = sym (front_same (tree_of t) (tree_of s) at (omega (arith, ap length wt)) (ap (take at) wt ∙ sym e ∙ sym (ap (take at) ws)))

pub trees_differ : (s t : List Node) (at : ℕ) (d : Node) → IsWhole s → IsWhole t → get_or s at d ≢ get_or t at d → tree_of s ≢ tree_of t
trees_differ s t at d ws wt ne e = ne (ap (λ l. get_or l at d) (sym ws ∙ ap flat e ∙ wt))
