-- Places that are added for the spelling of a side.
use Rattle.std.proofs.Common.{ℕ, zero, suc, ◌≡◌, ◌==◌, ◌+◌, ◌<◌, ◌≤◌, Bool, true, false, if◌then◌else◌, List, [], ◌∷◌, ◌++◌, take, drop, length, map, Some, refl, sym, ap, ap₂, ◌∙◌, subst, arith, length-append, length-drop, append_assoc, append-nil, ◌⊎◌, inl, inr}
use Rattle.std.specs.Prelude.{slice_get}
use Rattle.std.proofs.lemmas.Bool.{eq-eqb}
use Rattle.std.proofs.lemmas.List.{length-take-le, take-append-drop}
use Rattle.uc_term.specs.declared.node.Node.{Node}
use Rattle.uc_term.specs.declared.node.Node.TheVariants.{Var, App}
use Rattle.uc_term.specs.Tree.{Tree}
use Rattle.uc_term.specs.Flat.{flat}
use Rattle.uc_term.proofs.Terms.{take_of_length-le}
use Rattle.uc_term.proofs.Gets.{get-append_cases}
use Rattle.uc_fact.specs.Live.{Rule}
use Rattle.uc_disc.specs.declared.place.Label.{Label}
use Rattle.uc_disc.specs.declared.place.Label.TheVariants.{Variable, Head, Leaf}
use Rattle.uc_disc.specs.declared.place.Place.{Place}
use Rattle.uc_disc.specs.Spelling.{first_place, label_of, labels_of}
use Rattle.uc_disc.specs.Trail.{added, on, trail, RefersBack, AreSupported, Spells, AreSpelled, leaf, leaves}
use Rattle.uc_disc.specs.Building.{stretch, AddsPlaces, IsBuilt}
use Rattle.uc_disc.proofs.Preorder.{trail-append}

supported-append : (path : List Label) (ps qs : List Place) → AreSupported path ps → AreSupported (trail path ps) qs → AreSupported path (ps ++ qs)
supported-append path [] qs s t = t
supported-append path (p ∷ ps) qs s t = (s.0, s.1, supported-append (on path p) ps qs s.2 t)

spelled-append : (rules : List Rule) (path : List Label) (ps qs : List Place) → AreSpelled rules path ps → AreSpelled rules (trail path ps) qs → AreSpelled rules path (ps ++ qs)
spelled-append rules path [] qs s t = t
spelled-append rules path (p ∷ ps) qs s t = (s.0, spelled-append rules (on path p) ps qs s.1 t)

leaves-append : (ps qs : List Place) → leaves (ps ++ qs) ≡ leaves ps ++ leaves qs
leaves-append [] qs = refl
leaves-append (p ∷ ps) qs = ap (λ z. leaf p.label ++ z) (leaves-append ps qs) ∙ sym (append_assoc (leaf p.label) (leaves ps) (leaves qs))

-- labels of which none is a leaf's, and whose variables refer back
abbrev IsPlain : Label → Type 0
IsPlain (Variable k) = Unit {0}
IsPlain (Head f n) = Unit {0}
IsPlain (Leaf r) = ⊥

abbrev AreFit : ℕ → List Label → Type 0
AreFit d [] = Unit {0}
AreFit d (s ∷ ss) = RefersBack s d × IsPlain s × AreFit (d + 1) ss

fit-drop : (n d : ℕ) (ss : List Label) → AreFit d ss → AreFit (d + n) (drop n ss)
fit-drop zero d ss f = let z : d + 0 ≡ d = omega arith in rw z f
fit-drop (suc n) d [] f = tt
fit-drop (suc n) d (s ∷ ss) f = let z : d + suc n ≡ d + 1 + n = omega arith in rw z (fit-drop n (d + 1) ss f.2)

first_place_le : (front : List Node) (x : ℕ) (back : List Node) → first_place (front ++ Var x ∷ back) x ≤ length front
first_place_le [] x back = go (x == x) (eq-eqb x x refl)
  where
    go : (b : Bool) → b ≡ true → (if b then 0 else first_place back x + 1) ≤ 0
    go true e = omega arith
    go false e = absurd cc
first_place_le (App f n ∷ front) x back = omega (arith, first_place_le front x back)
first_place_le (Var y ∷ front) x back = go (x == y) (first_place_le front x back)
  where
    go : (b : Bool) → first_place (front ++ Var x ∷ back) x ≤ length front → (if b then 0 else first_place (front ++ Var x ∷ back) x + 1) ≤ length (Var y ∷ front)
    go true h = omega arith
    go false h = omega (arith, h)

fits_map : (front back all : List Node) → all ≡ front ++ back → AreFit (length front) (map (label_of all) back)
fits_map front [] all e = tt
fits_map front (n ∷ back) all e =
    let next : all ≡ (front ++ n ∷ []) ++ back = e ∙ sym (append_assoc front (n ∷ []) back) in
    let long : length (front ++ n ∷ []) ≡ length front + 1 = length-append front (n ∷ []) in
    (refers n e, plain n, subst (λ (z : ℕ). AreFit z (map (label_of all) back)) long (fits_map (front ++ n ∷ []) back all next))
  where
    refers : (m : Node) → all ≡ front ++ m ∷ back → RefersBack (label_of all m) (length front)
    refers (Var x) e' = rw e' (first_place_le front x back)
    refers (App f a) e' = tt

    plain : (m : Node) → IsPlain (label_of all m)
    plain (Var x) = tt
    plain (App f a) = tt

labels_fit : (t : Tree) → AreFit 0 (labels_of t)
labels_fit t = fits_map [] (flat t) (flat t) refl

plain_added : (s : Label) → IsPlain s → added s ≡ s ∷ []
plain_added (Variable k) h = refl
plain_added (Head f n) h = refl
plain_added (Leaf r) h = absurd h

plain_spells : (rules : List Rule) (s : Label) (path : List Label) → IsPlain s → Spells rules s path
plain_spells rules (Variable k) path h = tt
plain_spells rules (Head f n) path h = tt
plain_spells rules (Leaf r) path h = absurd h

plain_leaf : (s : Label) → IsPlain s → leaf s ≡ []
plain_leaf (Variable k) h = refl
plain_leaf (Head f n) h = refl
plain_leaf (Leaf r) h = absurd h

on_long : (path : List Label) (d : ℕ) (s : Label) → d ≤ length path → IsPlain s → length (take d path ++ added s) ≡ d + 1
on_long path d s h f = omega (arith, length-append (take d path) (added s), length-take-le d path h, ap length (plain_added s f))

stretch_supported : (path : List Label) (d : ℕ) (ss : List Label) → d ≤ length path → AreFit d ss → AreSupported path (stretch d ss)
stretch_supported path d [] h f = tt
stretch_supported path d (s ∷ ss) h f = (h, f.0, stretch_supported (take d path ++ added s) (d + 1) ss (omega (arith, on_long path d s h f.1)) f.2)

stretch_spelled : (rules : List Rule) (path : List Label) (d : ℕ) (ss : List Label) → AreFit d ss → AreSpelled rules path (stretch d ss)
stretch_spelled rules path d [] f = tt
stretch_spelled rules path d (s ∷ ss) f = (plain_spells rules s (take d path) f.1, stretch_spelled rules (take d path ++ added s) (d + 1) ss f.2)

stretch_leaves : (d : ℕ) (ss : List Label) → AreFit d ss → leaves (stretch d ss) ≡ []
stretch_leaves d [] f = refl
stretch_leaves d (s ∷ ss) f = ap₂ (λ a b. a ++ b) (plain_leaf s f.1) (stretch_leaves (d + 1) ss f.2)

stretch_trail : (path : List Label) (d : ℕ) (ss : List Label) → d ≤ length path → AreFit d ss → (take (d + length ss) (trail path (stretch d ss)) ≡ take d path ++ ss) × (d + length ss ≤ length (trail path (stretch d ss)))
stretch_trail path d [] h f = (let z : d + 0 ≡ d = omega arith in rw z (sym (append-nil (take d path))), omega (arith, h))
stretch_trail path d (s ∷ ss) h f =
    let next = take d path ++ added s in
    let long : length next ≡ d + 1 = on_long path d s h f.1 in
    let r = stretch_trail next (d + 1) ss (omega arith) f.2 in
    let size : d + length (s ∷ ss) ≡ d + 1 + length ss = omega arith in
    let whole : take (d + 1) next ++ ss ≡ take d path ++ s ∷ ss = ap (λ z. z ++ ss) (take_of_length-le next (d + 1) (omega arith) ∙ ap (λ z. take d path ++ z) (plain_added s f.1)) ∙ append_assoc (take d path) (s ∷ []) ss in
    (rw size (r.0 ∙ whole), omega (arith, r.1))

stretch_short : (d : ℕ) (ss : List Label) (i : ℕ) (p : Place) → slice_get (stretch d ss) i ≡ Some p → p.depth < d + length ss
stretch_short d [] i p e = absurd cc
stretch_short d (s ∷ ss) zero p e = (let z : d ≡ p.depth = cc in omega arith)
stretch_short d (s ∷ ss) (suc i) p e = omega (arith, stretch_short (d + 1) ss i p e)

module _ (rules : List Rule) (numbers : List ℕ) (ps : List Place) (b : IsBuilt rules numbers ps) (before labels : List Label) (old : trail [] ps ≡ before) (number : ℕ) (rule : Rule) (is : slice_get rules number ≡ Some rule) (spells : labels ≡ labels_of rule.from) (short : length labels ≤ 4096) (new : List Place) (a : AddsPlaces before labels number ps new) where
  abbrev n : ℕ
  n = a.common

  rest : List Label
  rest = drop n labels

  end : Place
  end = record { label = Leaf number; depth = length labels; skip = 0; least = 0 }

  fit : AreFit n (drop n labels)
  fit = let z : 0 + n ≡ n = omega arith in subst (λ (k : ℕ). AreFit k (drop n labels)) z (fit-drop n 0 labels (rw spells (labels_fit rule.from)))

  size : n + length (drop n labels) ≡ length labels
  size = omega (arith, length-drop n labels, a.within.1)

  whole : take n before ++ drop n labels ≡ labels
  whole = ap (λ z. z ++ drop n labels) a.same ∙ take-append-drop n labels

  middle : (take (length labels) (trail before (stretch n (drop n labels))) ≡ labels) × (length labels ≤ length (trail before (stretch n (drop n labels))))
  middle = let r = stretch_trail before n (drop n labels) a.within.0 fit in (ap (λ z. take z (trail before (stretch n (drop n labels)))) (sym size) ∙ r.0 ∙ whole, omega (arith, r.1, size))

  all_supported : AreSupported before (stretch n (drop n labels) ++ record { label = Leaf number; depth = length labels; skip = 0; least = 0 } ∷ [])
  all_supported = supported-append before (stretch n (drop n labels)) (record { label = Leaf number; depth = length labels; skip = 0; least = 0 } ∷ []) (stretch_supported before n (drop n labels) a.within.0 fit) (middle.1, tt, tt)

  all_spelled : AreSpelled rules before (stretch n (drop n labels) ++ record { label = Leaf number; depth = length labels; skip = 0; least = 0 } ∷ [])
  all_spelled = spelled-append rules before (stretch n (drop n labels)) (record { label = Leaf number; depth = length labels; skip = 0; least = 0 } ∷ []) (stretch_spelled rules before n (drop n labels) fit) ((rule, is, middle.0 ∙ spells), tt)

  pub built_more : IsBuilt rules (numbers ++ number ∷ []) new
  built_more = rw a.new_is (record {
    supported = supported-append [] ps (stretch n (drop n labels) ++ record { label = Leaf number; depth = length labels; skip = 0; least = 0 } ∷ []) b.supported (rw old all_supported);
    spelled = spelled-append rules [] ps (stretch n (drop n labels) ++ record { label = Leaf number; depth = length labels; skip = 0; least = 0 } ∷ []) b.spelled (rw old all_spelled);
    leaves_are = leaves-append ps (stretch n (drop n labels) ++ record { label = Leaf number; depth = length labels; skip = 0; least = 0 } ∷ []) ∙ ap₂ (λ x y. x ++ y) b.leaves_are (leaves-append (stretch n (drop n labels)) (record { label = Leaf number; depth = length labels; skip = 0; least = 0 } ∷ []) ∙ ap (λ z. z ++ number ∷ []) (stretch_leaves n (drop n labels) fit));
    short = λ i p e. shallow i p (get-append_cases ps (stretch n (drop n labels) ++ record { label = Leaf number; depth = length labels; skip = 0; least = 0 } ∷ []) i p e);
  })
    where
      last : (p : Place) (j : ℕ) → (slice_get (stretch n (drop n labels)) j ≡ Some p) ⊎ ((k : ℕ) × (slice_get (record { label = Leaf number; depth = length labels; skip = 0; least = 0 } ∷ []) k ≡ Some p)) → p.depth ≤ 4096
      last p j (inl g) = omega (arith, stretch_short n (drop n labels) j p g, size, short)
      last p j (inr (zero, g)) = (let z : length labels ≡ p.depth = cc in omega (arith, short))
      last p j (inr (suc k, g)) = absurd cc

      shallow : (i : ℕ) (p : Place) → (slice_get ps i ≡ Some p) ⊎ ((j : ℕ) × (slice_get (stretch n (drop n labels) ++ record { label = Leaf number; depth = length labels; skip = 0; least = 0 } ∷ []) j ≡ Some p)) → p.depth ≤ 4096
      shallow i p (inl g) = b.short i p g
      shallow i p (inr g) = last p g.0 (get-append_cases (stretch n (drop n labels)) (record { label = Leaf number; depth = length labels; skip = 0; least = 0 } ∷ []) g.0 p g.1)

  pub trail_more : trail [] new ≡ labels
  trail_more = rw a.new_is (trail-append [] ps (stretch n (drop n labels) ++ record { label = Leaf number; depth = length labels; skip = 0; least = 0 } ∷ []) ∙ ap (λ z. trail z (stretch n (drop n labels) ++ record { label = Leaf number; depth = length labels; skip = 0; least = 0 } ∷ [])) old ∙ trail-append before (stretch n (drop n labels)) (record { label = Leaf number; depth = length labels; skip = 0; least = 0 } ∷ []) ∙ append-nil (take (length labels) (trail before (stretch n (drop n labels)))) ∙ middle.0)
