-- Places in preorder: what a walk may pass over.
use Rattle.std.proofs.Common.{ℕ, zero, suc, ◌≡◌, ◌+◌, ◌-◌, ◌<◌, ◌≤◌, List, [], ◌∷◌, ◌++◌, take, length, Some, refl, sym, ap, ◌∙◌, subst, arith, length-append, ◌⊎◌, inl, inr, append-nil}
use Rattle.std.specs.Prelude.{slice_get}
use Rattle.std.proofs.lemmas.List.{take-append-le, length-take-le}
use Rattle.uc_term.specs.declared.node.Node.{Node}
use Rattle.uc_term.proofs.Terms.{take_of_length-le}
use Rattle.uc_disc.specs.declared.place.Label.{Label}
use Rattle.uc_disc.specs.declared.place.Label.TheVariants.{Variable, Head, Leaf}
use Rattle.uc_disc.specs.declared.place.Place.{Place}
use Rattle.uc_disc.specs.Trail.{added, on, trail, before, AreSupported, RefersBack, IsMark}
use Rattle.uc_disc.specs.Standing.{Stands, Fails, StandsAt, FailsAt}
use Rattle.uc_disc.proofs.Walks.{take-take-le, get-drop, get-there, stands_front, fails_longer}

pub trail-append : (path : List Label) (ps qs : List Place) → trail path (ps ++ qs) ≡ trail (trail path ps) qs
trail-append path [] qs = refl
trail-append path (p ∷ ps) qs = trail-append (on path p) ps qs

pub supported_at : (path : List Label) (ps : List Place) (i : ℕ) (p : Place) → AreSupported path ps → slice_get ps i ≡ Some p → (p.depth ≤ length (trail path (take i ps))) × RefersBack p.label p.depth
supported_at path [] i p s e = absurd cc
supported_at path (q ∷ ps) zero p s e = let same : q ≡ p = cc in let P : Place → Type 0 = λ z. (z.depth ≤ length path) × RefersBack z.label z.depth in subst P same (s.0, s.1)
supported_at path (q ∷ ps) (suc i) p s e = supported_at (on path q) ps i p s.2 e

pub before_next : (ps : List Place) (i : ℕ) (p : Place) → slice_get ps i ≡ Some p → before ps (i + 1) ≡ on (before ps i) p
before_next ps i p g = ap (trail []) (get-drop ps i p g).1 ∙ trail-append [] (take i ps) (p ∷ [])

pub added_one : (s : Label) → ((r : ℕ) → s ≡ Leaf r → ⊥) → added s ≡ s ∷ []
added_one (Variable k) h = refl
added_one (Head f n) h = refl
added_one (Leaf r) h = absurd (h r refl)

module _ (ps : List Place) (supported : AreSupported [] ps) where
  deep : (i : ℕ) (p : Place) → slice_get ps i ≡ Some p → p.depth ≤ length (before ps i)
  deep i p g = (supported_at [] ps i p supported g).0

  pub taken : (i : ℕ) (p : Place) → slice_get ps i ≡ Some p → length (take p.depth (before ps i)) ≡ p.depth
  taken i p g = length-take-le p.depth (before ps i) (deep i p g)

  -- deeper places keep the front of the trail
  kept_next : (D j : ℕ) (q : Place) → slice_get ps j ≡ Some q → D ≤ q.depth → take D (before ps (j + 1)) ≡ take D (before ps j)
  kept_next D j q g h = ap (take D) (before_next ps j q g) ∙ take-append-le D (take q.depth (before ps j)) (added q.label) (omega (arith, taken j q g)) ∙ take-take-le D q.depth (before ps j) h

  pub kept : (D i n j : ℕ) → j ≡ i + n → j ≤ length ps → ((k : ℕ) (q : Place) → i ≤ k → k < j → slice_get ps k ≡ Some q → D ≤ q.depth) → take D (before ps j) ≡ take D (before ps i)
  kept D i zero j e h deeper = ap (λ z. take D (before ps z)) (omega arith)
  kept D i (suc n) j e h deeper =
      let q = get-there ps (i + n) (omega arith) in
      ap (λ z. take D (before ps z)) (let z : j ≡ i + n + 1 = omega arith in z) ∙ kept_next D (i + n) q.0 q.1 (deeper (i + n) q.0 (omega arith) (omega arith) q.1) ∙ kept D i n (i + n) refl (omega arith) (λ k r a b. deeper k r a (omega arith))

  module _ (ns : List Node) (at : List ℕ) (i : ℕ) (p : Place) (here : slice_get ps i ≡ Some p) where
    abbrev d : ℕ
    d = p.depth

    path : List Label
    path = take d (before ps i)

    pub stands_next : (bound : ℕ) → ((r : ℕ) → p.label ≡ Leaf r → ⊥) → Stands ns (take d (before ps i) ++ p.label ∷ []) at → StandsAt ns ps (i + 1) at
    stands_next bound other st q g =
        let e : before ps (i + 1) ≡ take d (before ps i) ++ p.label ∷ [] = before_next ps i p here ∙ ap (λ z. take d (before ps i) ++ z) (added_one p.label other) in
        rw e (stands_front ns (take d (before ps i) ++ p.label ∷ []) at q.depth st)

    pub stands_past : (r : ℕ) → p.label ≡ Leaf r → StandsAt ns ps i at → StandsAt ns ps (i + 1) at
    stands_past r is st q g =
        let e : before ps (i + 1) ≡ take d (before ps i) = before_next ps i p here ∙ ap (λ z. take d (before ps i) ++ added z) is ∙ append-nil (take d (before ps i)) in
        rw e (stands_front ns (take d (before ps i)) at q.depth (st p here))

    pub fails_here : (bound : ℕ) → ((r : ℕ) → p.label ≡ Leaf r → ⊥) → FailsAt ns ps i (i + 1) bound
    fails_here bound other j q r a b g is k =
        let same : j ≡ i = omega arith in
        let one : q ≡ p = (let e : slice_get ps i ≡ Some q = subst (λ (z : ℕ). slice_get ps z ≡ Some q) same g in cc) in
        absurd (other r (ap (λ (z : Place). z.label) (sym one) ∙ is))

    module _ (m : Place) (mark : IsMark ps i m) where
      front_skip : take d (before ps m.skip) ≡ take d (before ps i)
      front_skip =
          kept d (i + 1) (m.skip - (i + 1)) m.skip (omega (arith, mark.ahead)) mark.within (λ k q a b g. omega (arith, mark.below k p q here (omega arith) b g)) ∙ kept_next d i p here (omega arith)

      pub stands_skip : StandsAt ns ps i at → StandsAt ns ps m.skip at
      stands_skip st q g =
          let h : q.depth ≤ d = mark.behind p q here g in
          let e : take q.depth (before ps m.skip) ≡ take q.depth (take d (before ps i)) = sym (take-take-le q.depth d (before ps m.skip) h) ∙ ap (take q.depth) front_skip in
          rw e (stands_front ns (take d (before ps i)) at q.depth (st p here))

      pub fails_cut : (bound : ℕ) → bound ≤ m.least → FailsAt ns ps i m.skip bound
      fails_cut bound h j q r a b g is k = absurd (omega (arith, mark.least j q r a b g is))

      -- the trails of the places below begin with that of the place
      pub front_below : (j : ℕ) → ((r : ℕ) → p.label ≡ Leaf r → ⊥) → i < j → j < m.skip → take (d + 1) (before ps j) ≡ take d (before ps i) ++ p.label ∷ []
      front_below j other after b =
          let w = take d (before ps i) ++ p.label ∷ [] in
          let e : before ps (i + 1) ≡ w = before_next ps i p here ∙ ap (λ z. take d (before ps i) ++ z) (added_one p.label other) in
          let long : length w ≡ d + 1 = omega (arith, length-append (take d (before ps i)) (p.label ∷ []), taken i p here) in
          kept (d + 1) (i + 1) (j - (i + 1)) j (omega arith) (omega (arith, mark.within)) (λ k' q' a' b' g'. omega (arith, mark.below k' p q' here (omega arith) (omega arith) g')) ∙ ap (take (d + 1)) e ∙ take_of_length-le w (d + 1) (omega arith)

      pub fails_skip : (bound : ℕ) → ((r : ℕ) → p.label ≡ Leaf r → ⊥) → Fails ns (take d (before ps i) ++ p.label ∷ []) → FailsAt ns ps i m.skip bound
      fails_skip bound other f j q r a b g is k = go (let z : (j ≡ i) ⊎ (i < j) = grind arith in z)
        where
          go : (j ≡ i) ⊎ (i < j) → Fails ns (take q.depth (before ps j))
          go (inl same) = fails_here bound other j q r a (omega arith) g is k
          go (inr after) =
              let w = take d (before ps i) ++ p.label ∷ [] in
              let long : length w ≡ d + 1 = omega (arith, length-append (take d (before ps i)) (p.label ∷ []), taken i p here) in
              let below : d < q.depth = mark.below j p q here after b g in
              let kept_here : take (d + 1) (before ps j) ≡ w = front_below j other after b in
              fails_longer ns w (take q.depth (before ps j)) f (ap (λ z. take z (take q.depth (before ps j))) long ∙ take-take-le (d + 1) q.depth (before ps j) (omega arith) ∙ kept_here) (omega (arith, taken j q g))

pub fails_both : (ns : List Node) (ps : List Place) (a b c bound : ℕ) → FailsAt ns ps a b bound → FailsAt ns ps b c bound → FailsAt ns ps a c bound
fails_both ns ps a b c bound f h j q r k l g is lt = go (let z : (j < b) ⊎ (b ≤ j) = grind arith in z)
  where
    go : (j < b) ⊎ (b ≤ j) → Fails ns (take q.depth (before ps j))
    go (inl e) = f j q r k e g is lt
    go (inr e) = h j q r e l g is lt

pub fails_none : (ns : List Node) (ps : List Place) (a bound : ℕ) → FailsAt ns ps a a bound
fails_none ns ps a bound j q r k l g is lt = absurd (omega arith)

-- how far a walk is that began at a place
pub record Walking (ns : List Node) (ps : List Place) (start bound i : ℕ) (at : List ℕ) : Type 0 where
  pub ahead : start ≤ i
  pub within : i ≤ length ps
  pub stands : StandsAt ns ps i at
  pub fails : FailsAt ns ps start i bound
