-- Spelled rules and their places, one after another.
use Rattle.std.proofs.Common.{ℕ, ◌≡◌, ◌+◌, ◌-◌, ◌<◌, ◌≤◌, List, [], ◌∷◌, ◌++◌, take, drop, length, refl, sym, ap, ap₂, ◌∙◌, subst, arith, length-drop, append_assoc, add-one, get_or, All}
use Rattle.std.proofs.lemmas.List.{map-append, take_more, get_or-drop, length-take-le}
use Rattle.std.proofs.lemmas.List.Elements.{All-push, All-get_or}
use Rattle.uc_term.proofs.Terms.{take_of_length-le}
use Rattle.uc_fact.specs.Live.{Rule}
use Rattle.uc_disc.specs.declared.place.Label.{Label}
use Rattle.uc_disc.specs.declared.place.Place.{Place}
use Rattle.uc_disc.specs.declared.build.Spelled.{Spelled}
use Rattle.uc_disc.specs.Trail.{trail, numbers_below}
use Rattle.uc_disc.specs.Building.{AreInOrder, IsSpelled, rules_spelled, stretch, AddsPlaces, IsBuilt}
use Rattle.uc_disc.proofs.Built.{built_more, trail_more}

-- a further place of a stretch
stretch-snoc : (d : ℕ) (ss : List Label) (s : Label) (e : ℕ) → e ≡ d + length ss → stretch d (ss ++ s ∷ []) ≡ stretch d ss ++ record { label = s; depth = e; skip = 0; least = 0 } ∷ []
stretch-snoc d [] s e h = ap (λ (z : ℕ). record { label = s; depth = z; skip = 0; least = 0 } ∷ []) (let z : d ≡ e = omega arith in z)
stretch-snoc d (x ∷ ss) s e h = ap (λ z. record { label = x; depth = d; skip = 0; least = 0 } ∷ z) (stretch-snoc (d + 1) ss s e (omega arith))

pub stretch_more : (labels : List Label) (from depth : ℕ) (dl : Label) (old now new : List Place) → from ≤ depth → depth < length labels → now ≡ old ++ stretch from (take (depth - from) (drop from labels)) → new ≡ now ++ record { label = get_or labels depth dl; depth = depth; skip = 0; least = 0 } ∷ [] → new ≡ old ++ stretch from (take (depth + 1 - from) (drop from labels))
stretch_more labels from depth dl old now new h k e f =
    let long : length (drop from labels) ≡ length labels - from = length-drop from labels in
    let size : depth + 1 - from ≡ (depth - from) + 1 = omega arith in
    let next : take (depth + 1 - from) (drop from labels) ≡ take (depth - from) (drop from labels) ++ get_or labels depth dl ∷ [] = ap (λ z. take z (drop from labels)) size ∙ take_more (drop from labels) (depth - from) dl (omega (arith, long)) ∙ ap (λ z. take (depth - from) (drop from labels) ++ z ∷ []) (get_or-drop from labels (depth - from) dl ∙ ap (λ z. get_or labels z dl) (let z : from + (depth - from) ≡ depth = omega arith in z)) in
    let short : length (take (depth - from) (drop from labels)) ≡ depth - from = length-take-le (depth - from) (drop from labels) (omega (arith, long)) in
    f ∙ ap (λ z. z ++ record { label = get_or labels depth dl; depth = depth; skip = 0; least = 0 } ∷ []) e ∙ append_assoc old (stretch from (take (depth - from) (drop from labels))) (record { label = get_or labels depth dl; depth = depth; skip = 0; least = 0 } ∷ []) ∙ ap (λ z. old ++ z) (sym (stretch-snoc from (take (depth - from) (drop from labels)) (get_or labels depth dl) depth (omega (arith, short)))) ∙ ap (λ z. old ++ stretch from z) (sym next)

-- a further rule is spelled
pub in_order_more : (rules : List Rule) (n : ℕ) (list new : List Spelled) (s : Spelled) → AreInOrder rules n list → s.rule ≡ n → IsSpelled rules s → new ≡ list ++ s ∷ [] → AreInOrder rules (n + 1) new
in_order_more rules n list new s a e i f = rw f (record {
  numbers = map-append (λ (z : Spelled). z.rule) list (s ∷ []) ∙ ap₂ (λ x y. x ++ y ∷ []) a.numbers e ∙ numbers_more n;
  spelled = All-push (IsSpelled rules) list s a.spelled i;
})
  where
    numbers_more : (n : ℕ) → numbers_below n ++ n ∷ [] ≡ numbers_below (n + 1)
    numbers_more n = rw add-one refl

-- places for a further spelling
module _ (rules : List Rule) (list : List Spelled) (all : All (IsSpelled rules) list) (i : ℕ) (s : Spelled) (h : i < length list) (is : s ≡ get_or list i s) (ps new : List Place) (before labels : List Label) (labels_are : labels ≡ s.labels.items) (b : IsBuilt rules (rules_spelled (take i list)) ps × (trail [] ps ≡ before)) (a : AddsPlaces before labels s.rule ps new) where
  spelled : IsSpelled rules s
  spelled = subst (IsSpelled rules) (sym is) (All-get_or (IsSpelled rules) list i s h all)

  next_numbers : rules_spelled (take (i + 1) list) ≡ rules_spelled (take i list) ++ s.rule ∷ []
  next_numbers = ap rules_spelled (take_more list i s h ∙ ap (λ z. take i list ++ z ∷ []) (sym is)) ∙ map-append (λ (z : Spelled). z.rule) (take i list) (s ∷ [])

  pub built_next : IsBuilt rules (rules_spelled (take (i + 1) list)) new × (trail [] new ≡ labels)
  built_next = (
    rw next_numbers (built_more rules (rules_spelled (take i list)) ps b.0 before labels b.1 s.rule spelled.0 spelled.1 (labels_are ∙ spelled.2) (omega (arith, ap length labels_are, spelled.3)) new a),
    trail_more rules (rules_spelled (take i list)) ps b.0 before labels b.1 s.rule spelled.0 spelled.1 (labels_are ∙ spelled.2) (omega (arith, ap length labels_are, spelled.3)) new a,
  )

pub built_all : (rules : List Rule) (list : List Spelled) (i : ℕ) (ps : List Place) → length list ≤ i → IsBuilt rules (rules_spelled (take i list)) ps → IsBuilt rules (rules_spelled list) ps
built_all rules list i ps h b = subst (λ (l : List Spelled). IsBuilt rules (rules_spelled l) ps) (take_of_length-le list i h) b
