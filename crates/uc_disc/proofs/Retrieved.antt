-- What a walk over the places says of the rules.
use Rattle.std.proofs.Common.{ℕ, zero, suc, ◌≡◌, ◌+◌, ◌<◌, ◌≤◌, List, [], ◌∷◌, ◌++◌, take, length, Option, Some, None, refl, sym, ap, ◌∙◌, subst, arith, ◌⊎◌, inl, inr, get_or, Result, Ok, Err, OnErr}
use Rattle.std.specs.Prelude.{slice_get, IsPermutation, Contains}
use Rattle.std.proofs.lemmas.Option.{slice_get_within, slice_get-get_or}
use Rattle.std.proofs.lemmas.List.Sorted.{Contains-permutation}
use Rattle.std.proofs.lemmas.List.Elements.{Contains-append_left, Contains-append_cases, Contains-push}
use Rattle.uc_term.specs.declared.node.Node.{Node}
use Rattle.uc_term.specs.Tree.{Tree, apply}
use Rattle.uc_term.specs.Flat.{tree_of, IsWhole}
use Rattle.uc_term.specs.Subst.{image}
use Rattle.uc_term.proofs.Terms.{take_of_length-le}
use Rattle.uc_unify.specs.Matching.{IsMatch, HasNoMatch}
use Rattle.uc_fact.specs.declared.index.Found.{Found}
use Rattle.uc_fact.specs.Live.{Rule}
use Rattle.uc_fact.specs.Against.{HasMatch}
use Rattle.uc_fact.specs.Retrieval.{found_by, is_no_instance, IsFound, by_first, by_later, FirstThat, no_rule_left, accepted, not_accepted, FindsNothing}
use Rattle.uc_disc.specs.declared.place.Label.{Label}
use Rattle.uc_disc.specs.declared.place.Label.TheVariants.{Variable, Head, Leaf}
use Rattle.uc_disc.specs.declared.place.Place.{Place}
use Rattle.uc_disc.specs.declared.search.Answer.{Answer}
use Rattle.uc_disc.specs.declared.search.Best.{Best}
use Rattle.uc_disc.specs.Spelling.{labels_of}
use Rattle.uc_disc.specs.Trail.{on, trail, before, Spells, AreSpelled, leaf, leaves, numbers_below}
use Rattle.uc_disc.specs.Standing.{Stands, Fails, StandsAt, FailsAt, IsLeafAt}
use Rattle.uc_disc.specs.Retrieving.{GivesNone, Gives, IsFirstFrom, IsBest, IsBestBefore, IsBetter, IsPassed}
use Rattle.uc_term.specs.declared.equation.Equation.{Equation}
use Rattle.uc_term.specs.declared.equation.Side.{Side}
use Rattle.uc_term.specs.Equations.{side_of, other_side_of}
use Rattle.uc_fact.specs.Live.{rule_of, rules_of}
use Rattle.uc_fact.proofs.Matched.{one_match}
use Rattle.uc_disc.specs.Numbered.{live_of, lives, IsRule}
use Rattle.uc_disc.proofs.Walks.{walked}

-- a leaf's trail
pub spelled_at : (rules : List Rule) (path : List Label) (ps : List Place) (i : ℕ) (p : Place) → AreSpelled rules path ps → slice_get ps i ≡ Some p → Spells rules p.label (take p.depth (trail path (take i ps)))
spelled_at rules path [] i p s e = absurd cc
spelled_at rules path (q ∷ ps) zero p s e = let same : q ≡ p = cc in let P : Place → Type 0 = λ z. Spells rules z.label (take z.depth path) in subst P same s.0
spelled_at rules path (q ∷ ps) (suc i) p s e = spelled_at rules (on path q) ps i p s.1 e

pub leaf_at : (rules : List Rule) (ps : List Place) (i : ℕ) (p : Place) (r : ℕ) → AreSpelled rules [] ps → slice_get ps i ≡ Some p → p.label ≡ Leaf r → Spells rules (Leaf r) (take p.depth (before ps i))
leaf_at rules ps i p r s e is = let P : Label → Type 0 = λ z. Spells rules z (take p.depth (before ps i)) in subst P is (spelled_at rules [] ps i p s e)

-- each rule has a leaf
abbrev HasLeaf : List Place → ℕ → Type 0
HasLeaf ps k = (i : ℕ) × (p : Place) × (slice_get ps i ≡ Some p) × (p.label ≡ Leaf k)

leaf_of : (s : Label) (k : ℕ) → Contains (leaf s) k → s ≡ Leaf k
leaf_of (Variable x) k c = absurd (omega (arith, c.1))
leaf_of (Head f n) k c = absurd (omega (arith, c.1))
leaf_of (Leaf r) k (zero, h, c) = ap Leaf c
leaf_of (Leaf r) k (suc j, h, c) = absurd (omega (arith, h))

has_leaf : (ps : List Place) (k : ℕ) → Contains (leaves ps) k → HasLeaf ps k
has_leaf [] k c = absurd (omega (arith, c.1))
has_leaf (p ∷ ps) k c = go (Contains-append_cases (leaf p.label) (leaves ps) k c) (has_leaf ps k)
  where
    go : Contains (leaf p.label) k ⊎ Contains (leaves ps) k → (Contains (leaves ps) k → HasLeaf ps k) → HasLeaf (p ∷ ps) k
    go (inl d) later = (0, p, refl, leaf_of p.label k d)
    go (inr d) later = let l = later d in (suc l.0, l.1, l.2, l.3)

below_contains : (n k : ℕ) → k < n → Contains (numbers_below n) k
below_contains zero k h = absurd (omega arith)
below_contains (suc n) k h = go (let z : (k < n) ⊎ (n ≡ k) = grind arith in z) (below_contains n k)
  where
    go : (k < n) ⊎ (n ≡ k) → (k < n → Contains (numbers_below n) k) → Contains (numbers_below n ++ n ∷ []) k
    go (inl l) later = Contains-append_left (numbers_below n) (n ∷ []) k (later l)
    go (inr e) later = subst (Contains (numbers_below n ++ n ∷ [])) e (Contains-push (numbers_below n) n)

pub each_leaf : (n : ℕ) (ps : List Place) (k : ℕ) → IsPermutation (numbers_below n) (leaves ps) → k < n → HasLeaf ps k
each_leaf n ps k perm h = has_leaf ps k (Contains-permutation (numbers_below n) (leaves ps) k perm (below_contains n k h))

-- by a rule's number
pub found_at : (t : Tree) (rules : List Rule) (k : ℕ) (rule : Rule) (pairs : List (ℕ × Tree)) → slice_get rules k ≡ Some rule → IsMatch rule.from t pairs → IsFound t rules (found_by rule pairs) rule.from rule.to
found_at t [] k rule pairs e m = absurd cc
found_at t (r ∷ rules) zero rule pairs e m = let same : rule ≡ r = cc in rw same (by_first (rw same at m))
found_at t (r ∷ rules) (suc k) rule pairs e m = by_later (found_at t rules k rule pairs e m)

pub not_nothing : (t : Tree) (rules : List Rule) (k : ℕ) (rule : Rule) → slice_get rules k ≡ Some rule → HasMatch rule.from t → FindsNothing t rules → ⊥
not_nothing t [] k rule e m g = absurd cc
not_nothing t (r ∷ rules) zero rule e m (is_no_instance n g) = let same : rule ≡ r = cc in n m.σ (subst (λ (z : Rule). apply m.σ z.from ≡ t) same m.gives)
not_nothing t (r ∷ rules) (suc k) rule e m (is_no_instance n g) = not_nothing t rules k rule e m g

module _ (Accepted : Found → Type 0) (t : Tree) where
  pub none_gives : (rules : List Rule) → ((k : ℕ) → 0 ≤ k → GivesNone Accepted t rules k) → FirstThat Accepted t rules None
  none_gives [] h = no_rule_left
  none_gives (r ∷ rules) h = not_accepted (λ pairs m a. h 0 (omega arith) r pairs refl m a) (none_gives rules (λ k l rule pairs e m a. h (suc k) (omega arith) rule pairs e m a))

  pub first_gives : (rules : List Rule) (k : ℕ) (rule : Rule) (pairs : List (ℕ × Tree)) → slice_get rules k ≡ Some rule → IsMatch rule.from t pairs → Accepted (found_by rule pairs) → ((j : ℕ) → 0 ≤ j → j < k → GivesNone Accepted t rules j) → FirstThat Accepted t rules (Some (found_by rule pairs))
  first_gives [] k rule pairs e m a h = absurd cc
  first_gives (r ∷ rules) zero rule pairs e m a h = let same : rule ≡ r = cc in rw same (accepted (rw same at m) (rw same at a))
  first_gives (r ∷ rules) (suc k) rule pairs e m a h = not_accepted (λ ps n b. h 0 (omega arith) (omega arith) r ps refl n b) (first_gives rules k rule pairs e m a (λ j l u rule' ps e' n b. h (suc j) (omega arith) (omega arith) rule' ps e' n b))

  pub first_from_start : (rules : List Rule) (answer : Answer) → IsFirstFrom Accepted t rules 0 (Some answer) → FirstThat Accepted t rules (Some answer.found)
  first_from_start rules answer f = rw (f.1.found_is) (first_gives rules answer.rule f.1.rule f.1.pairs f.1.is f.1.is_match (subst Accepted f.1.found_is f.1.accepted) f.2)

-- how far a search in the places before one is
pub record Searching (Accepted : Found → Type 0) (ns : List Node) (rules : List Rule) (ps : List Place) (from stop i : ℕ) (best : Best) (at : List ℕ) : Type 0 where
  pub stands : StandsAt ns ps i at
  pub is_leaf : i < stop → IsLeafAt ns ps i
  pub so_far : IsBestBefore Accepted (tree_of ns) rules ps from i best

-- the walk's loop
module _ (Accepted : Found → Type 0) (ns : List Node) (w : IsWhole ns) (rules : List Rule) (ps : List Place) (spelled : AreSpelled rules [] ps) (each : IsPermutation (numbers_below (length rules)) (leaves ps)) (from stop : ℕ) where
  -- a leaf that can't be reached gives nothing
  fails_none : (j : ℕ) (p : Place) (r : ℕ) → slice_get ps j ≡ Some p → p.label ≡ Leaf r → Fails ns (take p.depth (before ps j)) → GivesNone Accepted (tree_of ns) rules r
  fails_none j p r e is f rule pairs g m a =
      let s = leaf_at rules ps j p r spelled e is in
      let same : s.0 ≡ rule = cc in
      let path : take p.depth (before ps j) ≡ labels_of rule.from = s.2 ∙ ap (λ (z : Rule). labels_of z.from) same in
      f rule.from (image pairs) (ap (λ z. take z (labels_of rule.from)) (ap length path) ∙ take_of_length-le (labels_of rule.from) (length (labels_of rule.from)) (omega arith) ∙ sym path) m.gives

  -- a leaf that is reached has a match
  pub reached : (i : ℕ) (best : Best) (at : List ℕ) → Searching Accepted ns rules ps from stop i best at → (p : Place) (r : ℕ) → slice_get ps i ≡ Some p → p.label ≡ Leaf r → (rule : Rule) × (slice_get rules r ≡ Some rule) × HasMatch rule.from (tree_of ns)
  reached i best at s p r e is =
      let l = leaf_at rules ps i p r spelled e is in
      (l.0, l.1, walked ns w l.0.from at (subst (λ (z : List Label). Stands ns z at) l.2 (s.stands p e)))

  -- the leaf at which a search stands
  pub leaf_here : (i : ℕ) (best : Best) (at : List ℕ) → Searching Accepted ns rules ps from stop i best at → (d : Place) → stop ≤ length ps → i < stop → (rule : ℕ) → ((r : ℕ) → (get_or ps i d).label ≡ Leaf r → rule ≡ r) → (slice_get ps i ≡ Some (get_or ps i d)) × ((get_or ps i d).label ≡ Leaf rule)
  leaf_here i best at s d short h rule e =
      let here = slice_get-get_or ps i d (omega arith) in
      let l = s.is_leaf h (get_or ps i d) here in
      (here, l.1 ∙ ap Leaf (sym (e l.0 l.1)))

  pub rule_there : (i : ℕ) (p : Place) (r : ℕ) → slice_get ps i ≡ Some p → p.label ≡ Leaf r → r < length rules
  rule_there i p r e is = slice_get_within rules r _ (leaf_at rules ps i p r spelled e is).1

  -- leaves that can't be reached make no better answer
  pub none_past : (a b : ℕ) (best : Best) → IsBestBefore Accepted (tree_of ns) rules ps from a best → FailsAt ns ps a b best.bound → IsBestBefore Accepted (tree_of ns) rules ps from b best
  none_past a b best s f = record { best_is = s.best_is; none = λ k p r h e is u v. go k p r h e is u v (let z : (k < a) ⊎ (a ≤ k) = grind arith in z) }
    where
      go : (k : ℕ) (p : Place) (r : ℕ) → k < b → slice_get ps k ≡ Some p → p.label ≡ Leaf r → from ≤ r → r < best.bound → (k < a) ⊎ (a ≤ k) → GivesNone Accepted (tree_of ns) rules r
      go k p r h e is u v (inl c) = s.none k p r c e is u v
      go k p r h e is u v (inr c) = fails_none k p r e is (f k p r c h e is v)

  -- nor do those behind, if they can't be reached from an earlier place on
  pub none_left : (a b : ℕ) (best : Best) → IsBestBefore Accepted (tree_of ns) rules ps from a best → b ≤ a → FailsAt ns ps b (length ps) best.bound → IsBestBefore Accepted (tree_of ns) rules ps from (length ps) best
  none_left a b best s h f = none_past a (length ps) best s (λ j p r k l e is v. f j p r (omega arith) l e is v)

  pub none_at_start : (start : ℕ) (best : Best) → IsBest Accepted (tree_of ns) rules from best.bound best.answer → IsPassed Accepted (tree_of ns) rules ps from start → IsBestBefore Accepted (tree_of ns) rules ps from start best
  none_at_start start best b passed = record { best_is = b; none = passed.none best.bound }

  pub first_found : (start : ℕ) (best : Best) (j : ℕ) (at : List ℕ) → IsBestBefore Accepted (tree_of ns) rules ps from start best → StandsAt ns ps j at → (j < stop → IsLeafAt ns ps j) → FailsAt ns ps start j best.bound → Searching Accepted ns rules ps from stop j best at
  first_found start best j at b st l f = record { stands = st; is_leaf = l; so_far = none_past start j best b f }

  pub next_found : (i : ℕ) (best : Best) (at : List ℕ) → Searching Accepted ns rules ps from stop i best at → (p : Place) (r : ℕ) → slice_get ps i ≡ Some p → p.label ≡ Leaf r → (new : Best) → IsBetter Accepted (tree_of ns) rules from r best.bound new → (j : ℕ) (at' : List ℕ) → StandsAt ns ps j at' → (j < stop → IsLeafAt ns ps j) → FailsAt ns ps (i + 1) j new.bound → Searching Accepted ns rules ps from stop j new at'
  next_found i best at s p r e is new b j at' st l f = record { stands = st; is_leaf = l; so_far = none_past (i + 1) j new here f }
    where
      go : (k : ℕ) (q : Place) (r' : ℕ) → slice_get ps k ≡ Some q → q.label ≡ Leaf r' → from ≤ r' → r' < new.bound → (k < i) ⊎ (k ≡ i) → GivesNone Accepted (tree_of ns) rules r'
      go k q r' g is' u v (inl c) = s.so_far.none k q r' c g is' u (omega (arith, b.no_worse))
      go k q r' g is' u v (inr c) =
          let g' : slice_get ps i ≡ Some q = subst (λ (z : ℕ). slice_get ps z ≡ Some q) c g in
          let same : p ≡ q = cc in
          let one : Leaf r ≡ Leaf r' = sym is ∙ ap (λ (z : Place). z.label) same ∙ is' in
          let number : r ≡ r' = cc in
          subst (GivesNone Accepted (tree_of ns) rules) number (b.seen (omega arith) (omega arith))

      here : IsBestBefore Accepted (tree_of ns) rules ps from (i + 1) new
      here = record { best_is = b.best; none = λ k q r' h g is' u v. go k q r' g is' u v (let z : (k < i) ⊎ (k ≡ i) = grind arith in z) }

  pub search_over : (i : ℕ) (best : Best) (at : List ℕ) → Searching Accepted ns rules ps from stop i best at → stop ≤ i → IsBestBefore Accepted (tree_of ns) rules ps from stop best
  search_over i best at s h = record { best_is = s.so_far.best_is; none = λ k p r a e is u v. s.so_far.none k p r (omega arith) e is u v }

  all_none : (best : Best) → IsBestBefore Accepted (tree_of ns) rules ps from (length ps) best → (k : ℕ) → from ≤ k → k < best.bound → GivesNone Accepted (tree_of ns) rules k
  all_none best s k u v rule pairs e m a =
      let l = each_leaf (length rules) ps k each (slice_get_within rules k rule e) in
      s.none l.0 l.1 k (slice_get_within ps l.0 l.1 l.2) l.2 l.3 u v rule pairs e m a

  pub search_ends : (bound : ℕ) (answer : Option Answer) → IsBestBefore Accepted (tree_of ns) rules ps from (length ps) (record { answer = answer; bound = bound }) → IsFirstFrom Accepted (tree_of ns) rules from answer
  search_ends bound None s = λ k u rule pairs e m a. all_none (record { answer = None; bound = bound }) s k u (omega (arith, s.best_is, slice_get_within rules k rule e)) rule pairs e m a
  search_ends bound (Some x) s = (s.best_is.1, s.best_is.2, λ k u v. all_none (record { answer = Some x; bound = bound }) s k u (omega (arith, s.best_is.0)))

  -- no leaf can be reached
  pub search_empty : (start a b c : ℕ) → IsPassed Accepted (tree_of ns) rules ps from start → a ≤ start → c ≤ b → ((bound : ℕ) → FailsAt ns ps a b bound) → ((bound : ℕ) → FailsAt ns ps c (length ps) bound) → IsFirstFrom Accepted (tree_of ns) rules from None
  search_empty start a b c passed e h between behind =
      let none : Best = record { answer = None; bound = length rules } in
      search_ends (length rules) None (none_left b c none (none_past start b none (none_at_start start none (let z : length rules ≤ length rules = omega arith in z) passed) (λ j p r k l g is v. between (length rules) j p r (omega arith) l g is v)) h (behind (length rules)))

pub err_of : {T E : Type 0} (r : Result T E) (P : Type 0) → P → OnErr r P
err_of (Ok x) P p = tt
err_of (Err e) P p = p

-- the rule that is tried
module _ (Accepted : Found → Type 0) (t : Tree) (facts : List (ℕ × Equation)) (number place : ℕ) (fact d : ℕ × Equation) (side : Side) (h : place < length facts) (is : fact ≡ get_or facts place d) (rule : (f : ℕ × Equation) → slice_get facts place ≡ Some f → IsRule facts number f side) where
  there : slice_get (rules_of (lives facts)) number ≡ Some (rule_of side (live_of fact))
  there = (rule fact (slice_get-get_or facts place d h ∙ ap Some (sym is))).is

  one_rule : (r : Rule) → slice_get (rules_of (lives facts)) number ≡ Some r → r ≡ rule_of side (live_of fact)
  one_rule r e = (let both : Some r ≡ Some (rule_of side (live_of fact)) = sym e ∙ there in cc)

  -- what a test says of a rule, of which nothing else is known
  pub tried_none : ((pairs : List (ℕ × Tree)) → IsMatch (side_of side fact.1) t pairs → Accepted (record { fact = fact.0; side = side; subst = pairs }) → ⊥) → GivesNone Accepted t (rules_of (lives facts)) number
  tried_none f r pairs e m a =
      let same = one_rule r e in
      f pairs (subst (λ (z : Rule). IsMatch z.from t pairs) same m) (subst (λ (z : Rule). Accepted (found_by z pairs)) same a)

  pub tried_found : (pairs : List (ℕ × Tree)) → IsMatch (side_of side fact.1) t pairs → IsFound t (rules_of (lives facts)) (record { fact = fact.0; side = side; subst = pairs }) (side_of side fact.1) (other_side_of side fact.1)
  tried_found pairs m = found_at t (rules_of (lives facts)) number (rule_of side (live_of fact)) pairs there m

  pub tried_some : (pairs : List (ℕ × Tree)) → IsMatch (side_of side fact.1) t pairs → Accepted (record { fact = fact.0; side = side; subst = pairs }) → Gives Accepted t (rules_of (lives facts)) number (record { fact = fact.0; side = side; subst = pairs })
  tried_some pairs m a = record { rule = rule_of side (live_of fact); pairs = pairs; is = there; is_match = m; accepted = a; found_is = refl }

  -- what matching says
  pub matched_some : (p q : Tree) (pairs : List (ℕ × Tree)) → IsMatch p t pairs → p ≡ q → q ≡ side_of side fact.1 → IsMatch (side_of side fact.1) t pairs
  matched_some p q pairs m f g = subst (λ z. IsMatch z t pairs) (f ∙ g) m

  pub matched_none : (p q : Tree) → HasNoMatch p t → p ≡ q → q ≡ side_of side fact.1 → GivesNone Accepted t (rules_of (lives facts)) number
  matched_none p q m f g = tried_none (λ pairs n a. (subst (λ z. HasNoMatch z t) (f ∙ g) m) (image pairs) n.gives)

  pub refused_none : (pairs : List (ℕ × Tree)) → IsMatch (side_of side fact.1) t pairs → (Accepted (record { fact = fact.0; side = side; subst = pairs }) → ⊥) → GivesNone Accepted t (rules_of (lives facts)) number
  refused_none pairs m other = tried_none (λ ps n a. other (subst (λ q. Accepted (record { fact = fact.0; side = side; subst = q })) (one_match (side_of side fact.1) t ps pairs n m) a))
