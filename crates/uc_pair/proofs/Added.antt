-- Nodes that are added to a list, up to as many as a term has.
use Rattle.std.proofs.Common.{◌≡◌, ℕ, ◌+◌, ◌-◌, ◌<◌, ◌≤◌, Bool, true, false, List, [], ◌∷◌, ◌++◌, length, take, drop, get_or, sym, ap, ap₂, ◌∙◌, subst, arith, append_assoc, append-nil, length-append, length-drop}
use Rattle.std.specs.List.{flat_map}
use Rattle.std.proofs.lemmas.List.{take_more, take-append-drop}
use Rattle.std.proofs.lemmas.Grind.{flat_map-append}
use Rattle.uc_term.specs.declared.node.Node.{Node}
use Rattle.uc_term.specs.Tree.{Tree, nodes, apply, put}
use Rattle.uc_term.specs.Flat.{flat, tree_of, IsWhole}
use Rattle.uc_term.proofs.Terms.{length-flat, take_of_length-le}
use Rattle.uc_term.proofs.Ahead.{drop-at}
use Rattle.uc_term.proofs.Instances.{node_image, flat-apply}
use Rattle.uc_term.proofs.Put.{flat-put}
use Rattle.uc_pair.specs.Judging.{IsFilled, AreAdded}

pub added_none : (old : List Node) → length old ≤ 4096 → AreAdded [] old old true
added_none old h = (sym (append-nil old), h)

-- what is added behind others
pub added_behind : (xs ys old mid new : List Node) (b : Bool) → AreAdded xs old mid true → AreAdded ys mid new b → AreAdded (xs ++ ys) old new b
added_behind xs ys old mid new true a b = (b.0 ∙ ap (λ l. l ++ ys) a.0 ∙ append_assoc old xs ys, b.1)
added_behind xs ys old mid new false a b = omega (arith, b, ap length (ap (λ l. l ++ ys) a.0 ∙ append_assoc old xs ys))

-- where some are too many, so are more
pub added_before : (xs ys old new : List Node) → AreAdded xs old new false → AreAdded (xs ++ ys) old new false
added_before xs ys old new a = omega (arith, a, length-append old xs, length-append old (xs ++ ys), length-append xs ys)

module _ (f : Node → List Node) (ns : List Node) (i : ℕ) (d : Node) (h : i < length ns) where
  more_images : flat_map f (take i ns) ++ f (get_or ns i d) ≡ flat_map f (take (i + 1) ns)
  more_images = ap (λ l. flat_map f (take i ns) ++ l) (sym (append-nil (f (get_or ns i d)))) ∙ sym (flat_map-append f (take i ns) (get_or ns i d ∷ [])) ∙ ap (flat_map f) (sym (take_more ns i d h))

  all_images : (flat_map f (take i ns) ++ f (get_or ns i d)) ++ flat_map f (drop (i + 1) ns) ≡ flat_map f ns
  all_images = append_assoc (flat_map f (take i ns)) (f (get_or ns i d)) (flat_map f (drop (i + 1) ns)) ∙ sym (flat_map-append f (take i ns) (get_or ns i d ∷ drop (i + 1) ns)) ∙ ap (λ l. flat_map f (take i ns ++ l)) (sym (drop-at ns i d h)) ∙ ap (flat_map f) (take-append-drop i ns)

  pub images_go_on : (old mid new : List Node) (b : Bool) → b ≡ true → AreAdded (flat_map f (take i ns)) old mid true → AreAdded (f (get_or ns i d)) mid new b → AreAdded (flat_map f (take (i + 1) ns)) old new true
  images_go_on old mid new false e a b = absurd cc
  images_go_on old mid new true e a b = subst (λ l. AreAdded l old new true) more_images (added_behind (flat_map f (take i ns)) (f (get_or ns i d)) old mid new true a b)

  pub images_too_many : (old mid new : List Node) (b : Bool) → b ≡ false → AreAdded (flat_map f (take i ns)) old mid true → AreAdded (f (get_or ns i d)) mid new b → AreAdded (flat_map f ns) old new false
  images_too_many old mid new true e a b = absurd cc
  images_too_many old mid new false e a b = subst (λ l. AreAdded l old new false) all_images (added_before (flat_map f (take i ns) ++ f (get_or ns i d)) (flat_map f (drop (i + 1) ns)) old new (added_behind (flat_map f (take i ns)) (f (get_or ns i d)) old mid new false a b))

pub images_end : (f : Node → List Node) (ns : List Node) (i : ℕ) (old new : List Node) → length ns ≤ i → AreAdded (flat_map f (take i ns)) old new true → AreAdded (flat_map f ns) old new true
images_end f ns i old new h a = subst (λ l. AreAdded (flat_map f l) old new true) (take_of_length-le ns i h) a

-- an empty list to which a term's nodes are added
pub filled_by : (t : Tree) (added old new : List Node) (b : Bool) → old ≡ [] → added ≡ flat t → AreAdded added old new b → IsFilled t new b
filled_by t added old new true empty e a = let is : new ≡ flat t = a.0 ∙ ap₂ (λ x y. x ++ y) empty e in (is, omega (arith, length-flat t, ap length is, a.1))
filled_by t added old new false empty e a = omega (arith, a, ap length (ap₂ (λ x y. x ++ y) empty e), length-flat t)

pub images_of : (σ : ℕ → Tree) (ns : List Node) (t : Tree) → IsWhole ns → tree_of ns ≡ t → flat_map (node_image σ) ns ≡ flat (apply σ t)
images_of σ ns t w is = ap (flat_map (node_image σ)) (sym w) ∙ sym (flat-apply σ (tree_of ns)) ∙ ap (λ u. flat (apply σ u)) is

-- the parts of a list in which another term stands at a place
pub images_put : (σ : ℕ → Tree) (ns ms : List Node) (t u : Tree) (p to : ℕ) → IsWhole ns → tree_of ns ≡ t → IsWhole ms → tree_of ms ≡ u → p < nodes t → to ≡ p + nodes (tree_of (drop p ns)) → flat_map (node_image σ) (take p ns) ++ (flat_map (node_image σ) ms ++ flat_map (node_image σ) (take (length ns - to) (drop to ns))) ≡ flat (apply σ (put t p u))
images_put σ ns ms t u p to w is v also h end =
    let f = node_image σ in
    let spelled : ns ≡ flat t = sym w ∙ ap flat is in
    let part : ms ≡ flat u = sym v ∙ ap flat also in
    let rest : take (length ns - to) (drop to ns) ≡ drop to ns = take_of_length-le (drop to ns) (length ns - to) (omega (arith, length-drop to ns)) in
    let whole : take p ns ++ (ms ++ drop to ns) ≡ flat (put t p u) = ap₂ (λ l m. take p l ++ (m ++ drop to l)) spelled part ∙ flat-put t u p to h (end ∙ ap (λ l. p + nodes (tree_of (drop p l))) spelled) in
    ap (λ l. flat_map f (take p ns) ++ (flat_map f ms ++ flat_map f l)) rest
    ∙ ap (λ l. flat_map f (take p ns) ++ l) (sym (flat_map-append f ms (drop to ns)))
    ∙ sym (flat_map-append f (take p ns) (ms ++ drop to ns))
    ∙ ap (flat_map f) whole
    ∙ sym (flat-apply σ (put t p u))
