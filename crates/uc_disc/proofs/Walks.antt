-- Walks along a trail through a term, and what they say of instances.
use Rattle.std.proofs.Common.{ℕ, zero, suc, ◌≡◌, ◌+◌, ◌<◌, ◌≤◌, List, [], ◌∷◌, ◌++◌, take, drop, length, Some, refl, sym, ap, ap₂, ◌∙◌, subst, arith, length-append, ◌⊎◌, inl, inr, append-nil, add-one, length-drop, Bool, true, false, ◌==◌, if◌then◌else◌}
use Rattle.std.specs.Prelude.{slice_get, slice_index}
use Rattle.std.specs.List.{flat_map}
use Rattle.std.proofs.lemmas.Grind.{flat_map-append}
use Rattle.std.proofs.lemmas.Option.{slice_get_within, slice_get-get_or}
use Rattle.std.proofs.lemmas.List.{take-append-drop}
use Rattle.std.proofs.Math.Seq.{get_or-append_seam, drop-append_seam, take-append_seam}
use Rattle.std.proofs.lemmas.Bool.{eqb-true, eq-eqb}
use Rattle.uc_term.specs.declared.node.Node.{Node}
use Rattle.uc_term.specs.declared.node.Node.TheVariants.{Var, App}
use Rattle.uc_term.specs.Tree.{Tree, apply, nodes}
use Rattle.uc_term.specs.Flat.{flat, spelled, tree_of, first_of_trees, IsWhole}
use Rattle.uc_term.specs.Code.{spelled-flat}
use Rattle.uc_term.proofs.Terms.{length-flat, nodes_pos, take_of_length-le}
use Rattle.uc_term.proofs.Instances.{node_image, flat-apply}
use Rattle.std.proofs.Math.Seq.{take-add}
use Rattle.uc_term.proofs.Terms.{whole_one, whole-drop}
use Rattle.uc_term.proofs.Parts.{at_front}
use Rattle.uc_term.proofs.Gets.{get-map, map-get, get_pushed}
use Rattle.uc_fact.specs.Against.{HasMatch}
use Rattle.uc_disc.specs.declared.place.Label.{Label}
use Rattle.uc_disc.specs.declared.place.Label.TheVariants.{Variable, Head, Leaf}
use Rattle.uc_disc.specs.Spelling.{first_place, label_of, labels_of}
use Rattle.uc_disc.specs.Standing.{part, Moves, Stands, Fails}

-- lists
pub get-take : {A : Type 0} (n m : ℕ) (xs : List A) (x : A) → slice_get (take n xs) m ≡ Some x → slice_get xs m ≡ Some x
get-take zero m xs x e = absurd cc
get-take (suc n) m [] x e = absurd cc
get-take (suc n) zero (y ∷ xs) x e = e
get-take (suc n) (suc m) (y ∷ xs) x e = get-take n m xs x e

pub take-get : {A : Type 0} (n m : ℕ) (xs : List A) (x : A) → m < n → slice_get xs m ≡ Some x → slice_get (take n xs) m ≡ Some x
take-get zero m xs x h e = absurd (omega arith)
take-get (suc n) m [] x h e = absurd cc
take-get (suc n) zero (y ∷ xs) x h e = e
take-get (suc n) (suc m) (y ∷ xs) x h e = take-get n m xs x (omega arith) e

pub take-take-le : {X : Type 0} (n m : ℕ) (xs : List X) → n ≤ m → take n (take m xs) ≡ take n xs
take-take-le zero m xs h = refl
take-take-le (suc n) zero xs h = absurd (omega arith)
take-take-le (suc n) (suc m) [] h = refl
take-take-le (suc n) (suc m) (x ∷ xs) h = ap (λ l. x ∷ l) (take-take-le n m xs (omega arith))

pub get-drop : {A : Type 0} (xs : List A) (k : ℕ) (x : A) → slice_get xs k ≡ Some x → (drop k xs ≡ x ∷ drop (k + 1) xs) × (take (k + 1) xs ≡ take k xs ++ x ∷ [])
get-drop [] k x e = absurd cc
get-drop (y ∷ xs) zero x e = (ap (λ z. z ∷ xs) cc, ap (λ z. z ∷ []) cc)
get-drop (y ∷ xs) (suc k) x e = let r = get-drop xs k x e in (rw add-one (rw add-one at r.0), rw add-one (ap (λ l. y ∷ l) (rw add-one at r.1)))

pub get_seam : {A : Type 0} (xs : List A) (x : A) → slice_get (xs ++ x ∷ []) (length xs) ≡ Some x
get_seam xs x = slice_get-get_or (xs ++ x ∷ []) (length xs) x (omega (arith, length-append xs (x ∷ []))) ∙ ap Some (get_or-append_seam xs x [] x)

pub get-there : {A : Type 0} (xs : List A) (k : ℕ) → k < length xs → (x : A) × (slice_get xs k ≡ Some x)
get-there [] k h = absurd (omega arith)
get-there (x ∷ xs) zero h = (x, refl)
get-there (x ∷ xs) (suc k) h = get-there xs k (omega arith)

-- the first of the terms that nodes spell
pub first_tree : (t : Tree) (ms : List Node) → tree_of (flat t ++ ms) ≡ t
first_tree t ms = ap first_of_trees (spelled-flat t ms)

-- the nodes of an instance
module _ (σ : ℕ → Tree) where
  abbrev pub spread : List Node → List Node
  spread l = flat_map (node_image σ) l

  pub spread_at : (l ns : List Node) (k q : ℕ) (n : Node) → ns ≡ spread l → slice_get l k ≡ Some n → q ≡ length (spread (take k l)) → drop q ns ≡ node_image σ n ++ spread (drop (k + 1) l)
  spread_at l ns k q n e g h =
      let parts : ns ≡ spread (take k l) ++ spread (drop k l) = e ∙ ap spread (sym (take-append-drop k l)) ∙ flat_map-append (node_image σ) (take k l) (drop k l) in
      rw (h, parts) (drop-append_seam (spread (take k l)) (spread (drop k l)) ∙ ap spread (get-drop l k n g).0)

  pub spread_longer : (l : List Node) (k : ℕ) (n : Node) → slice_get l k ≡ Some n → spread (take (k + 1) l) ≡ spread (take k l) ++ node_image σ n
  spread_longer l k n g = ap spread (get-drop l k n g).1 ∙ flat_map-append (node_image σ) (take k l) (n ∷ []) ∙ ap (λ z. spread (take k l) ++ z) (append-nil (node_image σ n))

  -- an instance's nodes
  pub instance_nodes : (t : Tree) (ns : List Node) → IsWhole ns → apply σ t ≡ tree_of ns → ns ≡ spread (flat t)
  instance_nodes t ns w e = sym w ∙ ap flat (sym e) ∙ flat-apply σ t

-- a label of a term's spelling comes from a node
pub from_node : (t : Tree) (path : List Label) (k : ℕ) (s : Label) → slice_get path k ≡ Some s → take (k + 1) (labels_of t) ≡ take (k + 1) path → (n : Node) × (slice_get (flat t) k ≡ Some n) × (label_of (flat t) n ≡ s)
from_node t path k s g e =
    let there : slice_get (labels_of t) k ≡ Some s = get-take (k + 1) k (labels_of t) s (subst (λ (l : List Label). slice_get l k ≡ Some s) (sym e) (take-get (k + 1) k path s (omega arith) g)) in
    get-map (label_of (flat t)) (flat t) k s there

-- where a walk stands against an instance
module _ (ns : List Node) (w : IsWhole ns) (path : List Label) (at : List ℕ) (st : Stands ns path at) (t : Tree) (σ : ℕ → Tree) (is : apply σ t ≡ tree_of ns) where
  abbrev l : List Node
  l = flat t

  all : ns ≡ spread σ l
  all = instance_nodes σ t ns w is

  -- one step
  step : (k : ℕ) (n : Node) (s : Label) → slice_get l k ≡ Some n → label_of l n ≡ s → slice_get path k ≡ Some s → slice_index at k ≡ length (spread σ (take k l)) → slice_index at (k + 1) ≡ length (spread σ (take (k + 1) l))
  step k (Var x) s g e p h =
      let m = subst (λ (z : Label). Moves ns at k z) (sym e) (st.moves k s p) in
      let here : part ns (slice_index at k) ≡ σ x = ap tree_of (spread_at σ l ns k (slice_index at k) (Var x) all g h) ∙ first_tree (σ x) (spread σ (drop (k + 1) l)) in
      omega (arith, m.3, h, ap nodes here, length-flat (σ x), ap length (spread_longer σ l k (Var x) g), length-append (spread σ (take k l)) (flat (σ x)))
  step k (App f a) s g e p h =
      let m = subst (λ (z : Label). Moves ns at k z) (sym e) (st.moves k s p) in
      omega (arith, m.1, h, ap length (spread_longer σ l k (App f a) g), length-append (spread σ (take k l)) (App f a ∷ []))

  pub stands_at : (k : ℕ) → k ≤ length path → take k (labels_of t) ≡ take k path → slice_index at k ≡ length (spread σ (take k l))
  stands_at zero h e = st.starts
  stands_at (suc k) h e =
      let p = get-there path k (omega arith) in
      let e' : take (k + 1) (labels_of t) ≡ take (k + 1) path = rw add-one e in
      let n = from_node t path k p.0 p.1 e' in
      let before : take k (labels_of t) ≡ take k path = sym (take-take-le k (k + 1) (labels_of t) (omega arith)) ∙ ap (take k) e' ∙ take-take-le k (k + 1) path (omega arith) in
      rw (← add-one) (step k n.0 p.0 n.1 n.2 p.1 (stands_at k (omega arith) before))

-- a walk that goes on
moves_same : (ns : List Node) (old new : List ℕ) (m : ℕ) (s : Label) → ((j : ℕ) → j ≤ m + 1 → slice_index new j ≡ slice_index old j) → Moves ns old m s → Moves ns new m s
moves_same ns old new m (Head f n) h v = rw (h m (omega arith), h (m + 1) (omega arith)) v
moves_same ns old new m (Variable k) h v = rw (h k (omega (arith, v.0)), h m (omega arith), h (m + 1) (omega arith)) v
moves_same ns old new m (Leaf r) h v = v

pub stands_more : (ns : List Node) (path : List Label) (old new : List ℕ) (s : Label) → Stands ns path old → ((j : ℕ) → j ≤ length path → slice_index new j ≡ slice_index old j) → Moves ns new (length path) s → Stands ns (path ++ s ∷ []) new
stands_more ns path old new s st h v = record {
  starts = h 0 (omega arith) ∙ st.starts;
  moves = λ m s' e. go m s' (get_pushed path s m s' e);
}
  where
    go : (m : ℕ) (s' : Label) → (slice_get path m ≡ Some s') ⊎ ((m ≡ length path) × (s' ≡ s)) → Moves ns new m s'
    go m s' (inl g) = moves_same ns old new m s' (λ j k. h j (omega (arith, slice_get_within path m s' g))) (st.moves m s' g)
    go m s' (inr e) = rw (e.0, e.1) v

pub stands_front : (ns : List Node) (path : List Label) (at : List ℕ) (d : ℕ) → Stands ns path at → Stands ns (take d path) at
stands_front ns path at d st = record { starts = st.starts; moves = λ m s e. st.moves m s (get-take d m path s e) }

-- a longer trail fails where a shorter one does
pub fails_longer : (ns : List Node) (path longer : List Label) → Fails ns path → take (length path) longer ≡ path → length path ≤ length longer → Fails ns longer
fails_longer ns path longer f e h t σ k is = f t σ (sym (take-take-le (length path) (length longer) (labels_of t) h) ∙ ap (take (length path)) k ∙ e) is

image_some : (σ : ℕ → Tree) (n : Node) → 0 < length (node_image σ n)
image_some σ (Var x) = omega (arith, length-flat (σ x), nodes_pos (σ x))
image_some σ (App f a) = omega arith

pub first_there : (list : List Node) (i x : ℕ) → slice_get list i ≡ Some (Var x) → slice_get list (first_place list x) ≡ Some (Var x)
first_there [] i x e = absurd cc
first_there (App f a ∷ list) zero x e = absurd cc
first_there (App f a ∷ list) (suc i) x e = rw add-one (first_there list i x e)
first_there (Var y ∷ list) i x e = go (x == y) refl i e (λ j. first_there list j x)
  where
    go : (b : Bool) → (x == y) ≡ b → (i : ℕ) → slice_get (Var y ∷ list) i ≡ Some (Var x) → ((j : ℕ) → slice_get list j ≡ Some (Var x) → slice_get list (first_place list x) ≡ Some (Var x)) → slice_get (Var y ∷ list) (if b then 0 else first_place list x + 1) ≡ Some (Var x)
    go true q i e later = ap (λ z. Some (Var z)) (sym (eqb-true x y q))
    go false q zero e later = absurd (let same : y ≡ x = cc in let b : (x == y) ≡ true = eq-eqb x y (sym same) in cc)
    go false q (suc i) e later = rw add-one (later i e)

-- a walk that fails
module _ (ns : List Node) (w : IsWhole ns) (path : List Label) (at : List ℕ) (st : Stands ns path at) where
  module _ (s : Label) (t : Tree) (σ : ℕ → Tree) (e : take (length (path ++ s ∷ [])) (labels_of t) ≡ path ++ s ∷ []) (is : apply σ t ≡ tree_of ns) where
    long : length (path ++ s ∷ []) ≡ length path + 1
    long = length-append path (s ∷ [])

    same : take (length path) (labels_of t) ≡ path
    same = sym (take-take-le (length path) (length (path ++ s ∷ [])) (labels_of t) (omega (arith, long))) ∙ ap (take (length path)) e ∙ take-append_seam path (s ∷ [])

    node : (n : Node) × (slice_get (flat t) (length path) ≡ Some n) × (label_of (flat t) n ≡ s)
    node = from_node t (path ++ s ∷ []) (length path) s (get_seam path s) (ap (λ k. take k (labels_of t)) (sym long) ∙ e ∙ sym (take_of_length-le (path ++ s ∷ []) (length path + 1) (omega (arith, long))))

    at_place : (k : ℕ) → k ≤ length path → slice_index at k ≡ length (spread σ (take k (flat t)))
    at_place k h = stands_at ns w path at st t σ is k h (sym (take-take-le k (length path) (labels_of t) h) ∙ ap (take k) same)

    behind : (k : ℕ) (n : Node) → k ≤ length path → slice_get (flat t) k ≡ Some n → drop (slice_index at k) ns ≡ node_image σ n ++ spread σ (drop (k + 1) (flat t))
    behind k n h g = spread_at σ (flat t) ns k (slice_index at k) n (instance_nodes σ t ns w is) g (at_place k h)

    part_at : (k x : ℕ) → k ≤ length path → slice_get (flat t) k ≡ Some (Var x) → part ns (slice_index at k) ≡ σ x
    part_at k x h g = ap tree_of (behind k (Var x) h g) ∙ first_tree (σ x) (spread σ (drop (k + 1) (flat t)))

    inside : (k : ℕ) (n : Node) → k ≤ length path → slice_get (flat t) k ≡ Some n → slice_index at k < length ns
    inside k n h g = omega (arith, ap length (behind k n h g), length-drop (slice_index at k) ns, length-append (node_image σ n) (spread σ (drop (k + 1) (flat t))), image_some σ n)

  pub fails_past : (s : Label) → length ns ≤ slice_index at (length path) → Fails ns (path ++ s ∷ [])
  fails_past s h t σ e is = let n = node s t σ e is in absurd (omega (arith, inside s t σ e is (length path) n.0 (omega arith) n.1))

  pub fails_head : (f a : ℕ) (m : Node) → slice_get ns (slice_index at (length path)) ≡ Some m → (m ≡ App (record { 0 = f }) a → ⊥) → Fails ns (path ++ Head f a ∷ [])
  fails_head f a m g other t σ e is = let n = node (Head f a) t σ e is in go n.0 n.1 n.2
    where
      go : (n : Node) → slice_get (flat t) (length path) ≡ Some n → label_of (flat t) n ≡ Head f a → ⊥
      go (Var x) k q = cc
      go (App f' a') k q =
          let d : drop (slice_index at (length path)) ns ≡ App f' a' ∷ spread σ (drop (length path + 1) (flat t)) = behind (Head f a) t σ e is (length path) (App f' a') (omega arith) k in
          let d' = (get-drop ns (slice_index at (length path)) m g).0 in
          let one : m ≡ App f' a' = cc in
          let symbol : f'.0 ≡ f = cc in
          let count : a' ≡ a = cc in
          other (one ∙ ap₂ (λ (x : ℕ) y. App (record { 0 = x }) y) symbol count)

  pub fails_part : (k : ℕ) → k ≤ length path → ((slice_index at k < length ns) × (part ns (slice_index at k) ≡ part ns (slice_index at (length path))) → ⊥) → Fails ns (path ++ Variable k ∷ [])
  fails_part k h other t σ e is = let n = node (Variable k) t σ e is in go n.0 n.1 n.2
    where
      go : (n : Node) → slice_get (flat t) (length path) ≡ Some n → label_of (flat t) n ≡ Variable k → ⊥
      go (App f' a') g q = cc
      go (Var x) g q =
          let place : first_place (flat t) x ≡ k = cc in
          let first : slice_get (flat t) k ≡ Some (Var x) = subst (λ (z : ℕ). slice_get (flat t) z ≡ Some (Var x)) place (first_there (flat t) (length path) x g) in
          other (inside (Variable k) t σ e is k (Var x) h first, part_at (Variable k) t σ e is k x h first ∙ sym (part_at (Variable k) t σ e is (length path) x (omega arith) g))

pub part_front : (ns : List Node) (w : IsWhole ns) (q : ℕ) → q < length ns → take (nodes (part ns q)) (drop q ns) ≡ flat (part ns q)
part_front ns w q h = (at_front (spelled (drop q ns)) (drop q ns) refl (whole-drop q ns (whole_one ns w)) (omega (arith, length-drop q ns))).0

-- a walk that comes to its end
module _ (ns : List Node) (w : IsWhole ns) (t : Tree) (at : List ℕ) (st : Stands ns (labels_of t) at) where
  abbrev σ : ℕ → Tree
  σ x = part ns (slice_index at (first_place (flat t) x))

  so_far : (k : ℕ) → k ≤ length (flat t) → spread σ (take k (flat t)) ≡ take (slice_index at k) ns
  so_far zero h = rw st.starts refl
  so_far (suc k) h = let n = get-there (flat t) k (omega arith) in rw (← add-one) (go n.0 n.1 (so_far k (omega arith)))
    where
      go : (n : Node) → slice_get (flat t) k ≡ Some n → spread σ (take k (flat t)) ≡ take (slice_index at k) ns → spread σ (take (k + 1) (flat t)) ≡ take (slice_index at (k + 1)) ns
      go (App f a) g before =
          let v = st.moves k (Head f.0 a) (map-get (label_of (flat t)) (flat t) k (App f a) g) in
          rw (v.1, (get-drop ns (slice_index at k) (App f a) v.0).1) (spread_longer σ (flat t) k (App f a) g ∙ ap (λ z. z ++ App f a ∷ []) before)
      go (Var x) g before =
          let v = st.moves k (Variable (first_place (flat t) x)) (map-get (label_of (flat t)) (flat t) k (Var x) g) in
          let q = slice_index at k in
          let here : flat (σ x) ≡ take (nodes (part ns q)) (drop q ns) = ap flat v.2 ∙ sym (part_front ns w q v.1) in
          spread_longer σ (flat t) k (Var x) g ∙ ap₂ (λ a b. a ++ b) before here ∙ sym (take-add q (nodes (part ns q)) ns) ∙ ap (λ z. take z ns) (sym v.3)

  pub walked : HasMatch t (tree_of ns)
  walked =
      let q = slice_index at (length (flat t)) in
      let front : flat (apply σ t) ≡ take q ns = flat-apply σ t ∙ ap (spread σ) (sym (take_of_length-le (flat t) (length (flat t)) (omega arith))) ∙ so_far (length (flat t)) (omega arith) in
      let whole : ns ≡ flat (apply σ t) ++ drop q ns = sym (take-append-drop q ns) ∙ ap (λ z. z ++ drop q ns) (sym front) in
      record { σ = σ; gives = sym (ap tree_of whole ∙ first_tree (apply σ t) (drop q ns)) }
