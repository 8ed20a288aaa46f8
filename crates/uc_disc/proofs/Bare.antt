-- What holds of places holds of those that differ from them in their marks alone.
use Rattle.std.proofs.Common.{ℕ, zero, suc, ◌≡◌, List, [], ◌∷◌, ◌++◌, length, map, Some, refl, sym, ap, ◌∙◌, subst, arith}
use Rattle.std.specs.Prelude.{slice_get, slice_set}
use Rattle.uc_term.proofs.Gets.{get-map, map-get}
use Rattle.uc_fact.specs.Live.{Rule}
use Rattle.uc_disc.specs.declared.place.Label.{Label}
use Rattle.uc_disc.specs.declared.place.Place.{Place}
use Rattle.uc_disc.specs.Trail.{bare, on, AreSupported, AreSpelled, leaf, leaves, IsMark}
use Rattle.uc_disc.specs.Building.{IsBuilt}

supported_bare : (path : List Label) (ps : List Place) → AreSupported path ps → AreSupported path (map bare ps)
supported_bare path [] s = tt
supported_bare path (p ∷ ps) s = (s.0, s.1, supported_bare (on path p) ps s.2)

bare_supported : (path : List Label) (ps : List Place) → AreSupported path (map bare ps) → AreSupported path ps
bare_supported path [] s = tt
bare_supported path (p ∷ ps) s = (s.0, s.1, bare_supported (on path p) ps s.2)

spelled_bare : (rules : List Rule) (path : List Label) (ps : List Place) → AreSpelled rules path ps → AreSpelled rules path (map bare ps)
spelled_bare rules path [] s = tt
spelled_bare rules path (p ∷ ps) s = (s.0, spelled_bare rules (on path p) ps s.1)

bare_spelled : (rules : List Rule) (path : List Label) (ps : List Place) → AreSpelled rules path (map bare ps) → AreSpelled rules path ps
bare_spelled rules path [] s = tt
bare_spelled rules path (p ∷ ps) s = (s.0, bare_spelled rules (on path p) ps s.1)

leaves_bare : (ps : List Place) → leaves (map bare ps) ≡ leaves ps
leaves_bare [] = refl
leaves_bare (p ∷ ps) = ap (λ z. leaf p.label ++ z) (leaves_bare ps)

long_bare : (ps : List Place) → length (map bare ps) ≡ length ps
long_bare [] = refl
long_bare (p ∷ ps) = ap suc (long_bare ps)

mark_bare : (ps : List Place) (i : ℕ) (m : Place) → IsMark ps i m → IsMark (map bare ps) i m
mark_bare ps i m mark = record {
  ahead = mark.ahead;
  within = omega (arith, mark.within, long_bare ps);
  below = λ j p q g a b k. (let x = get-map bare ps i p g in let y = get-map bare ps j q k in omega (arith, mark.below j x.0 y.0 x.1 a b y.1, ap (λ (z : Place). z.depth) x.2, ap (λ (z : Place). z.depth) y.2));
  behind = λ p q g k. (let x = get-map bare ps i p g in let y = get-map bare ps m.skip q k in omega (arith, mark.behind x.0 y.0 x.1 y.1, ap (λ (z : Place). z.depth) x.2, ap (λ (z : Place). z.depth) y.2));
  least = λ j q r a b k e. (let y = get-map bare ps j q k in mark.least j y.0 r a b y.1 (ap (λ (z : Place). z.label) y.2 ∙ e));
}

bare_mark : (ps : List Place) (i : ℕ) (m : Place) → IsMark (map bare ps) i m → IsMark ps i m
bare_mark ps i m mark = record {
  ahead = mark.ahead;
  within = omega (arith, mark.within, long_bare ps);
  below = λ j p q g a b k. mark.below j (bare p) (bare q) (map-get bare ps i p g) a b (map-get bare ps j q k);
  behind = λ p q g k. mark.behind (bare p) (bare q) (map-get bare ps i p g) (map-get bare ps m.skip q k);
  least = λ j q r a b k e. mark.least j (bare q) r a b (map-get bare ps j q k) e;
}

pub mark_alike : (ps qs : List Place) (i : ℕ) (m : Place) → map bare ps ≡ map bare qs → IsMark ps i m → IsMark qs i m
mark_alike ps qs i m e mark = bare_mark qs i m (subst (λ (z : List Place). IsMark z i m) e (mark_bare ps i m mark))

pub set_bare : (ps : List Place) (i : ℕ) (m : Place) → ((p : Place) → slice_get ps i ≡ Some p → bare m ≡ bare p) → map bare (slice_set ps i m) ≡ map bare ps
set_bare [] i m same = refl
set_bare (p ∷ ps) zero m same = ap (λ z. z ∷ map bare ps) (same p refl)
set_bare (p ∷ ps) (suc i) m same = ap (λ z. bare p ∷ z) (set_bare ps i m same)

pub built_alike : (rules : List Rule) (numbers : List ℕ) (ps qs : List Place) → map bare ps ≡ map bare qs → IsBuilt rules numbers ps → IsBuilt rules numbers qs
built_alike rules numbers ps qs e b = record {
  supported = bare_supported [] qs (subst (AreSupported []) e (supported_bare [] ps b.supported));
  spelled = bare_spelled rules [] qs (subst (AreSpelled rules []) e (spelled_bare rules [] ps b.spelled));
  leaves_are = sym (leaves_bare qs) ∙ ap leaves (sym e) ∙ leaves_bare ps ∙ b.leaves_are;
  short = λ i p g. (let x = get-map bare ps i (bare p) (subst (λ (z : List Place). slice_get z i ≡ Some (bare p)) (sym e) (map-get bare qs i p g)) in omega (arith, b.short i x.0 x.1, ap (λ (z : Place). z.depth) x.2));
}
