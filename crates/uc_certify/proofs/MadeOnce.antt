-- One list of joins is made for a system and its axioms.
use Rattle.std.proofs.Common.{◌≡◌, ℕ, Bool, List, [], ◌∷◌, Some, refl, sym, ap, ap₂, ◌∙◌, subst}
use Rattle.uc_term.specs.declared.equation.Equation.{Equation}
use Rattle.uc_term.specs.declared.equation.Side.{Side}
use Rattle.uc_term.specs.Equations.{side_of}
use Rattle.uc_term.specs.Positions.{IsPlaceOf}
use Rattle.uc_term.specs.Tree.{Tree}
use Rattle.uc_term.proofs.OnePath.{path_once}
use Rattle.uc_order.specs.VarOrders.{Classes, orders_of, represented}
use Rattle.uc_order.specs.Laws.{Meaning}
use Rattle.uc_fact.specs.declared.chain.By.TheVariants.{Fact}
use Rattle.uc_fact.specs.declared.chain.Step.{Step}
use Rattle.uc_fact.specs.declared.joinable.Joinable.TheVariants.{Joined}
use Rattle.uc_fact.specs.declared.joinable.Reason.{Reason}
use Rattle.uc_fact.specs.declared.joinable.Reason.TheVariants as reason
use Rattle.uc_fact.specs.Live.{Live, numbered}
use Rattle.uc_pair.specs.declared.formation.Formation.TheVariants.{Pair}
use Rattle.uc_pair.specs.Overlapping.{read_from}
use Rattle.uc_pair.specs.Pairs.{IsPairOf}
use Rattle.uc_pair.proofs.OnePair.{one_formation}
use Rattle.uc_ac.specs.Ends.{IsEndsAnswer}
use Rattle.uc_ac.proofs.Ends.{one_ends}
use Rattle.uc_rewrite.specs.declared.normal.Normal.{Normal}
use Rattle.uc_rewrite.specs.Normalising.{IsNormalOf}
use Rattle.uc_rewrite.proofs.Unique.{one_normal}
use Rattle.uc_ground.proofs.Unique.{one_variables}
use Rattle.uc_certificate.specs.declared.certificate.Case.{Case}
use Rattle.uc_certificate.specs.declared.certificate.End.{End}
use Rattle.uc_certificate.specs.declared.certificate.End.TheVariants.{Same, Instance, Orders, Ac}
use Rattle.uc_certificate.specs.declared.certificate.Join.{Join}
use Rattle.uc_certificate.specs.declared.certificate.Move.{Move}
use Rattle.uc_certificate.specs.declared.certificate.What.{What}
use Rattle.uc_certificate.specs.declared.certificate.What.TheVariants.{Axiom, Overlap}
use Rattle.uc_certify.specs.declared.expected.Member.{Member}
use Rattle.uc_certify.specs.declared.expected.Member.TheVariants as member
use Rattle.uc_certify.specs.Joining.{Names, AreSides, of_axiom, of_overlap}
use Rattle.uc_certify.specs.Making.{IsMoveOf, AreMovesOf, IsMadeCase, AreMadeCases, AreAllCases, SaysWhy, IsMade, IsMadeFor, AreMadeFor, AreAllMade}
use Rattle.uc_certify.proofs.Once.{expected_once}

-- MOVES

move_once : (before : Tree) (step : Step) (a b : Move) → IsMoveOf before step a → IsMoveOf before step b → a ≡ b
move_once before step a b x y =
    let fact : a.fact ≡ b.fact = let e : Fact a.fact ≡ Fact b.fact = sym x.by ∙ y.by in cc in
    let way : a.left_to_right ≡ b.left_to_right = x.way ∙ sym y.way in
    let path : a.path ≡ b.path = path_once before a.path b.path step.position.0 x.path y.path in
    let to : a.to ≡ b.to = x.to ∙ sym y.to in
    ap₂ (λ (p : ℕ × Bool) (q : List ℕ × Tree). record { fact = p.0; left_to_right = p.1; path = q.0; to = q.1 }) (ap₂ (λ (n : ℕ) (w : Bool). (n, w)) fact way) (ap₂ (λ (l : List ℕ) (t : Tree). (l, t)) path to)

moves_once : (before : Tree) (steps : List Step) (ps qs : List Move) → AreMovesOf before steps ps → AreMovesOf before steps qs → ps ≡ qs
moves_once before [] [] [] x y = refl
moves_once before [] [] (b ∷ qs) x y = absurd y
moves_once before [] (a ∷ ps) qs x y = absurd x
moves_once before (s ∷ steps) [] qs x y = absurd x
moves_once before (s ∷ steps) (a ∷ ps) [] x y = absurd y
moves_once before (s ∷ steps) (a ∷ ps) (b ∷ qs) x y = ap₂ (λ m ms. m ∷ ms) (move_once before s a b x.0 y.0) (moves_once s.to steps ps qs x.1 y.1)

-- WHY ENDS ARE JOINED

module _ (m : Meaning) (live : List Live) where
  -- by one normal form, moves are the same
  normal_moves : (Greater : Tree → Tree → Type 0) (t : Tree) (a b : Normal) (xs ys : List Move) → IsNormalOf Greater m.least live 4096 t a → IsNormalOf Greater m.least live 4096 t b → AreMovesOf t a.chain.steps xs → AreMovesOf t b.chain.steps ys → xs ≡ ys
  normal_moves Greater t a b xs ys p q x y = moves_once t a.chain.steps xs ys x (subst (λ (n : Normal). AreMovesOf t n.chain.steps ys) (sym (one_normal Greater m.least live 4096 t a b p q)) y)

  case_once : (s t : Tree) (cases : Classes) (a b : Case) → IsMadeCase m live s t cases a → IsMadeCase m live s t cases b → a ≡ b
  case_once s t cases a b x y =
      let left = normal_moves (m.under cases) (represented cases s) x.left y.left a.left b.left x.left_is y.left_is x.left_moves y.left_moves in
      let right = normal_moves (m.under cases) (represented cases t) x.right y.right a.right b.right x.right_is y.right_is x.right_moves y.right_moves in
      ap₂ (λ (c : Classes) (p : List Move × List Move). record { cases = c; left = p.0; right = p.1 }) (x.cases_are ∙ sym y.cases_are) (ap₂ (λ (l r : List Move). (l, r)) left right)

  cases_once : (s t : Tree) (orders : List Classes) (ps qs : List Case) → AreMadeCases m live s t orders ps → AreMadeCases m live s t orders qs → ps ≡ qs
  cases_once s t [] [] [] x y = refl
  cases_once s t [] [] (b ∷ qs) x y = absurd y
  cases_once s t [] (a ∷ ps) qs x y = absurd x
  cases_once s t (o ∷ orders) [] qs x y = absurd x
  cases_once s t (o ∷ orders) (a ∷ ps) [] x y = absurd y
  cases_once s t (o ∷ orders) (a ∷ ps) (b ∷ qs) x y = ap₂ (λ c cs. c ∷ cs) (case_once s t o a b x.0 y.0) (cases_once s t orders ps qs x.1 y.1)

  all_cases_once : (s t : Tree) (ps qs : List Case) → AreAllCases m live s t ps → AreAllCases m live s t qs → ps ≡ qs
  all_cases_once s t ps qs x y =
      let vars = one_variables s t y.vars x.vars y.vars_are x.vars_are in
      cases_once s t (orders_of x.vars) ps qs x.made (subst (λ (vs : List ℕ). AreMadeCases m live s t (orders_of vs) qs) vars y.made)

  end_once : (s t : Tree) (why : Reason) (a b : End) → SaysWhy m live s t why a → SaysWhy m live s t why b → a ≡ b
  end_once s t reason.Same Same Same x y = refl
  end_once s t reason.Same Same (Instance n) x y = absurd y
  end_once s t reason.Same Same (Orders cs) x y = absurd y
  end_once s t reason.Same Same (Ac us) x y = absurd y
  end_once s t reason.Same (Instance n) b x y = absurd x
  end_once s t reason.Same (Orders cs) b x y = absurd x
  end_once s t reason.Same (Ac us) b x y = absurd x
  end_once s t (reason.Instance k) Same b x y = absurd x
  end_once s t (reason.Instance k) (Instance n) Same x y = absurd y
  end_once s t (reason.Instance k) (Instance n) (Instance o) x y = ap Instance (x ∙ sym y)
  end_once s t (reason.Instance k) (Instance n) (Orders cs) x y = absurd y
  end_once s t (reason.Instance k) (Instance n) (Ac us) x y = absurd y
  end_once s t (reason.Instance k) (Orders cs) b x y = absurd x
  end_once s t (reason.Instance k) (Ac us) b x y = absurd x
  end_once s t reason.Orders Same b x y = absurd x
  end_once s t reason.Orders (Instance n) b x y = absurd x
  end_once s t reason.Orders (Orders cs) Same x y = absurd y
  end_once s t reason.Orders (Orders cs) (Instance n) x y = absurd y
  end_once s t reason.Orders (Orders cs) (Orders ds) x y = ap Orders (all_cases_once s t cs ds x y)
  end_once s t reason.Orders (Orders cs) (Ac us) x y = absurd y
  end_once s t reason.Orders (Ac us) b x y = absurd x
  end_once s t (reason.Ac list) Same b x y = absurd x
  end_once s t (reason.Ac list) (Instance n) b x y = absurd x
  end_once s t (reason.Ac list) (Orders cs) b x y = absurd x
  end_once s t (reason.Ac list) (Ac us) Same x y = absurd y
  end_once s t (reason.Ac list) (Ac us) (Instance n) x y = absurd y
  end_once s t (reason.Ac list) (Ac us) (Orders cs) x y = absurd y
  end_once s t (reason.Ac list) (Ac us) (Ac vs) x y = ap Ac (x ∙ sym y)

  -- JOINS

  made_once : (l r : Tree) (a b : Join) → a.what ≡ b.what → IsMade m live l r a → IsMade m live l r b → a ≡ b
  made_once l r a b what x y =
      let left_is : y.found.left ≡ x.found.left = one_normal m.greater m.least live 4096 l y.found.left x.found.left y.found.left_is x.found.left_is in
      let right_is : y.found.right ≡ x.found.right = one_normal m.greater m.least live 4096 r y.found.right x.found.right y.found.right_is x.found.right_is in
      let left = normal_moves m.greater l x.found.left y.found.left a.left b.left x.found.left_is y.found.left_is x.left_moves y.left_moves in
      let right = normal_moves m.greater r x.found.right y.found.right a.right b.right x.found.right_is y.found.right_is x.right_moves y.right_moves in
      let ends = ap₂ (λ (p q : Normal). (p.term, q.term)) left_is right_is in
      let answer = subst (λ (p : Tree × Tree). IsEndsAnswer m live p.0 p.1 (Joined y.found.why)) ends y.found.answer_is in
      let why : y.found.why ≡ x.found.why = let e : Joined y.found.why ≡ Joined x.found.why = one_ends live m x.found.left.term x.found.right.term (Joined y.found.why) (Joined x.found.why) answer x.found.answer_is in cc in
      let says = subst (λ (w : Reason). SaysWhy m live x.found.left.term x.found.right.term w b.end) why (subst (λ (p : Tree × Tree). SaysWhy m live p.0 p.1 y.found.why b.end) ends y.end) in
      let end = end_once x.found.left.term x.found.right.term x.found.why a.end b.end x.end says in
      ap₂ (λ (p : What × End) (q : List Move × List Move). record { what = p.0; left = q.0; right = q.1; end = p.1 }) (ap₂ (λ (w : What) (e : End). (w, e)) what end) (ap₂ (λ (p q : List Move). (p, q)) left right)

-- WHAT IS JOINED

module _ (facts axioms : List Equation) where
  named_once : (k : Member) (a b : What) → Names facts k a → Names facts k b → a ≡ b
  named_once (member.Axiom k) (Axiom a) (Axiom b) x y = ap Axiom (x ∙ sym y)
  named_once (member.Axiom k) (Axiom a) (Overlap o os i is path) x y = absurd y
  named_once (member.Axiom k) (Overlap o os i is path) b x y = absurd x
  named_once (member.Overlap formed) (Axiom a) b x y = absurd x
  named_once (member.Overlap formed) (Overlap o os i is path) (Axiom b) x y = absurd y
  named_once (member.Overlap formed) (Overlap o os i is path) (Overlap o' os' i' is' path') x y =
      let fact : y.fact ≡ x.fact = let e : Some y.fact ≡ Some x.fact = sym y.fact_is ∙ x.fact_is in cc in
      let there = subst (λ (f : Equation). IsPlaceOf (side_of formed.overlap.outer_side f) path' formed.overlap.position.0) fact y.path_is in
      let paths : path ≡ path' = path_once (side_of formed.overlap.outer_side x.fact) path path' formed.overlap.position.0 x.path_is there in
      let outer = ap₂ (λ (n : ℕ) (s : Side). (n, s)) (x.outer_is ∙ sym y.outer_is) (x.outer_side_is ∙ sym y.outer_side_is) in
      let inner = ap₂ (λ (n : ℕ) (s : Side). (n, s)) (x.inner_is ∙ sym y.inner_is) (x.inner_side_is ∙ sym y.inner_side_is) in
      ap₂ (λ (p : (ℕ × Side) × (ℕ × Side)) (l : List ℕ). Overlap p.0.0 p.0.1 p.1.0 p.1.1 l) (ap₂ (λ (p q : ℕ × Side). (p, q)) outer inner) paths

  abbrev Both : Tree → Tree → Tree × Tree
  Both l r = (l, r)

  sides_once : (k : Member) (l r u v : Tree) → AreSides facts axioms k l r → AreSides facts axioms k u v → Both l r ≡ Both u v
  sides_once _ _ _ _ _ (of_axiom {e = e} at) (of_axiom {e = f} there) = let same : e ≡ f = let z : Some e ≡ Some f = sym at ∙ there in cc in ap (λ (x : Equation). Both x.left x.right) same
  sides_once _ _ _ _ _ (of_overlap {formed = formed} {a = a} {b = b} {left = l} {right = r} {chain = c} at_a at_b x) (of_overlap {a = a'} {b = b'} {left = l'} {right = r'} {chain = c'} at_a' at_b' y) =
      let first : a' ≡ a = let z : Some a' ≡ Some a = sym at_a' ∙ at_a in cc in
      let second : b' ≡ b = let z : Some b' ≡ Some b = sym at_b' ∙ at_b in cc in
      let there = subst (λ (p : Equation × Equation). IsPairOf p.0 p.1 formed.overlap (Pair l' r' c')) (ap₂ (λ (p q : Equation). (p, q)) first second) y in
      let o = formed.overlap in
      let e : Pair l r c ≡ Pair l' r' c' = one_formation (read_from o.outer o.outer_side a) (read_from o.inner o.inner_side b) o.position.0 (Pair l r c) (Pair l' r' c') x there in
      let left : l ≡ l' = cc in
      let right : r ≡ r' = cc in
      ap₂ Both left right

module _ (m : Meaning) (facts axioms : List Equation) where
  join_once : (k : Member) (a b : Join) → IsMadeFor m facts axioms k a → IsMadeFor m facts axioms k b → a ≡ b
  join_once k a b x y =
      let sides = sides_once facts axioms k y.left y.right x.left x.right y.sides x.sides in
      let made = subst (λ (p : Tree × Tree). IsMade m (numbered facts) p.0 p.1 b) sides y.made in
      made_once m (numbered facts) x.left x.right a b (named_once facts axioms k a.what b.what x.names y.names) x.made made

  joins_once : (ks : List Member) (ps qs : List Join) → AreMadeFor m facts axioms ks ps → AreMadeFor m facts axioms ks qs → ps ≡ qs
  joins_once [] [] [] x y = refl
  joins_once [] [] (b ∷ qs) x y = absurd y
  joins_once [] (a ∷ ps) qs x y = absurd x
  joins_once (k ∷ ks) [] qs x y = absurd x
  joins_once (k ∷ ks) (a ∷ ps) [] x y = absurd y
  joins_once (k ∷ ks) (a ∷ ps) (b ∷ qs) x y = ap₂ (λ j js. j ∷ js) (join_once k a b x.0 y.0) (joins_once ks ps qs x.1 y.1)

  pub all_made_once : (ps qs : List Join) → AreAllMade m facts axioms ps → AreAllMade m facts axioms qs → ps ≡ qs
  all_made_once ps qs x y =
      let members = expected_once m.greater facts axioms y.members x.members y.are_expected x.are_expected in
      joins_once x.members ps qs x.made (subst (λ (ks : List Member). AreMadeFor m facts axioms ks qs) members y.made)
