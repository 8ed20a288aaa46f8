-- The tests of joins along what is expected.
use Rattle.std.proofs.Common.{◌≡◌, ℕ, ◌+◌, ◌<◌, ◌≤◌, Bool, ◌↔◌, IsTrue, IfOk, Result, Ok, Err, List, [], ◌∷◌, length, drop, get_or, slice_get, Some, None, refl, sym, ap, ◌∙◌, subst, arith, length-drop}
use Rattle.std.proofs.lemmas.List.{drop_more}
use Rattle.uc_term.specs.declared.equation.Equation.{Equation}
use Rattle.uc_term.specs.Tree.{Tree}
use Rattle.uc_order.specs.Laws.{Meaning}
use Rattle.uc_fact.specs.declared.chain.Chain.{Chain}
use Rattle.uc_fact.specs.declared.fact.Overlap.{Overlap as AnyOverlap}
use Rattle.uc_pair.specs.declared.formed.Formed.{Formed}
use Rattle.uc_pair.specs.declared.formation.Formation.{Formation}
use Rattle.uc_pair.specs.declared.formation.Formation.TheVariants.{Pair, TooLarge}
use Rattle.uc_pair.specs.Overlapping.{read_from}
use Rattle.uc_pair.specs.Pairs.{IsPairOf}
use Rattle.uc_pair.proofs.OnePair.{one_formation}
use Rattle.uc_certificate.specs.declared.certificate.Join.{Join}
use Rattle.uc_certify.specs.declared.certified.Certified.{Certified}
use Rattle.uc_certify.specs.declared.certified.Certified.TheVariants.{Yes, Join as WrongJoin, Large}
use Rattle.uc_certify.specs.declared.expected.Member.{Member}
use Rattle.uc_certify.specs.declared.expected.Member.TheVariants as member
use Rattle.uc_certify.specs.Certifying.{AreTested, all_joined, too_many, is_large, is_missing, is_wrong, is_right}
use Rattle.uc_certify.specs.Expecting.{IsLargeMember}
use Rattle.uc_certify.specs.Gathering.{IsIfLarge}
use Rattle.uc_certify.specs.Joining.{Names, AreSides, of_axiom, of_overlap, Joins, IsRightJoin}
use Rattle.uc_certify.specs.Testing.{JoinsMember}
use Rattle.uc_certify.proofs.Lists.{next_is, none_left}

module _ (m : Meaning) (facts axioms : List Equation) where
  -- names and sides
  pub right_join : (member : Member) (join : Join) → Names facts member join.what → JoinsMember m facts axioms member join → IsRightJoin m facts axioms member join
  right_join member join n j = record { names = n; left = j.left; right = j.right; sides = j.sides; joins = j.joins }

  pub joins_member : (member : Member) (join : Join) → IsRightJoin m facts axioms member join → JoinsMember m facts axioms member join
  joins_member member join r = record { left = r.left; right = r.right; sides = r.sides; joins = r.joins }

  axiom_sides : (x : Member) (k : ℕ) (e : Equation) (l r : Tree) → x ≡ member.Axiom k → slice_get axioms k ≡ Some e → AreSides facts axioms x l r → (l ≡ e.left) × (r ≡ e.right)
  axiom_sides _ k e _ _ q h (of_axiom {k = i} {e = d} g) =
      let same : i ≡ k = cc in
      let there : Some d ≡ Some e = sym g ∙ ap (slice_get axioms) same ∙ h in
      let is : d ≡ e = cc in
      (ap (λ (x : Equation). x.left) is, ap (λ (x : Equation). x.right) is)
  axiom_sides _ k e l r q h (of_overlap ha hb p) = absurd cc

  module _ (join : Join) where
    pub axiom_joins : (k : ℕ) (e : Equation) → slice_get axioms k ≡ Some e → Joins m facts e.left e.right join → JoinsMember m facts axioms (member.Axiom k) join
    axiom_joins k e h j = record { left = e.left; right = e.right; sides = of_axiom h; joins = j }

    pub joins_axiom : (k : ℕ) (e : Equation) → slice_get axioms k ≡ Some e → JoinsMember m facts axioms (member.Axiom k) join → Joins m facts e.left e.right join
    joins_axiom k e h j = let s = axiom_sides (member.Axiom k) k e j.left j.right refl h j.sides in subst (λ (r : Tree). Joins m facts e.left r join) s.1 (subst (λ (l : Tree). Joins m facts l j.right join) s.0 j.joins)

    module _ (formed : Formed) (a b : Equation) (ha : slice_get facts formed.overlap.outer ≡ Some a) (hb : slice_get facts formed.overlap.inner ≡ Some b) where
      same_equation : (x y : Equation) → Some x ≡ Some y → x ≡ y
      same_equation x y e = cc

      record PairIs (f : Formed) (l r : Tree) : Type 0 where
        chain : Chain
        pair_is : IsPairOf a b f.overlap (Pair l r chain)

      overlap_sides : (x : Member) (l r : Tree) → x ≡ member.Overlap formed → AreSides facts axioms x l r → PairIs formed l r
      overlap_sides _ l r q (of_axiom g) = absurd cc
      overlap_sides _ _ _ q (of_overlap {formed = f} {a = c} {b = d} {left = l} {right = r} {chain = ch} hc hd p) =
          let same : f ≡ formed = cc in
          let ca : c ≡ a = same_equation c a (sym hc ∙ ap (λ (g : Formed). slice_get facts g.overlap.outer) same ∙ ha) in
          let db : d ≡ b = same_equation d b (sym hd ∙ ap (λ (g : Formed). slice_get facts g.overlap.inner) same ∙ hb) in
          record { chain = ch; pair_is = subst (λ (g : Formed). IsPairOf a b g.overlap (Pair l r ch)) same (subst (λ (y : Equation). IsPairOf a y f.overlap (Pair l r ch)) db (subst (λ (x : Equation). IsPairOf x d f.overlap (Pair l r ch)) ca p)) }

      one_pair : (x y : Formation) → IsPairOf a b formed.overlap x → IsPairOf a b formed.overlap y → x ≡ y
      one_pair x y p q = one_formation (read_from formed.overlap.outer formed.overlap.outer_side a) (read_from formed.overlap.inner formed.overlap.inner_side b) formed.overlap.position.0 x y p q

      pub overlap_joins : (l r : Tree) (chain : Chain) → IsPairOf a b formed.overlap (Pair l r chain) → Joins m facts l r join → JoinsMember m facts axioms (member.Overlap formed) join
      overlap_joins l r chain p j = record { left = l; right = r; sides = of_overlap ha hb p; joins = j }

      pub joins_overlap : (l r : Tree) (chain : Chain) → IsPairOf a b formed.overlap (Pair l r chain) → JoinsMember m facts axioms (member.Overlap formed) join → Joins m facts l r join
      joins_overlap l r chain p j =
          let s = overlap_sides (member.Overlap formed) j.left j.right refl j.sides in
          let same : Pair j.left j.right s.chain ≡ Pair l r chain = one_pair (Pair j.left j.right s.chain) (Pair l r chain) s.pair_is p in
          let sl : j.left ≡ l = cc in
          let sr : j.right ≡ r = cc in
          subst (λ (y : Tree). Joins m facts l y join) sr (subst (λ (x : Tree). Joins m facts x j.right join) sl j.joins)

      pub no_pair : IsPairOf a b formed.overlap TooLarge → JoinsMember m facts axioms (member.Overlap formed) join → ⊥
      no_pair p j =
          let s = overlap_sides (member.Overlap formed) j.left j.right refl j.sides in
          let same : Pair j.left j.right s.chain ≡ TooLarge = one_pair (Pair j.left j.right s.chain) TooLarge s.pair_is p in
          absurd cc

  pub overlap_right : {E : Type 0} (r : Result Bool E) (x : Member) (formed : Formed) (join : Join) → x ≡ member.Overlap formed → Names facts x join.what → IfOk r (λ b. (es : List Equation) → IsTrue b ↔ JoinsMember m facts es (member.Overlap formed) join) → IfOk r (λ b. IsTrue b ↔ IsRightJoin m facts axioms x join)
  overlap_right (Ok b) x formed join e n h =
      let k : IsTrue b ↔ JoinsMember m facts axioms x join = subst (λ (y : Member). IsTrue b ↔ JoinsMember m facts axioms y join) (sym e) (h axioms) in
      (λ t. right_join x join n (k.0 t), λ r. k.1 (joins_member x join r))
  overlap_right (Err e) x formed join q n h = tt

  -- ALONG THE MEMBERS

  -- whatever the rest comes to, the whole comes to
  abbrev pub TestsOn : List Member → List Join → ℕ → Type 0
  TestsOn members joins n = (answer : Certified) → AreTested m facts axioms (drop n members) (drop n joins) n answer → AreTested m facts axioms members joins 0 answer

  module _ (members : List Member) (joins : List Join) (n : ℕ) (x : Member) (on : TestsOn members joins n) (at : drop n members ≡ x ∷ drop (n + 1) members) where
    pub large_here : (overlap : AnyOverlap) → IsIfLarge x (Some overlap) → AreTested m facts axioms members joins 0 (Large overlap)
    large_here overlap l =
        let formed = l.0 in
        let large : IsLargeMember (member.Overlap formed) = subst IsLargeMember l.1 l.2 in
        let t : AreTested m facts axioms (member.Overlap formed ∷ drop (n + 1) members) (drop n joins) n (Large formed.overlap) = is_large large in
        let at' : drop n members ≡ member.Overlap formed ∷ drop (n + 1) members = at ∙ ap (λ (y : Member). y ∷ drop (n + 1) members) l.1 in
        subst (λ (o : AnyOverlap). AreTested m facts axioms members joins 0 (Large o)) (sym l.3) (on (Large formed.overlap) (subst (λ (ms : List Member). AreTested m facts axioms ms (drop n joins) n (Large formed.overlap)) (sym at') t))

    pub missing_here : IsIfLarge x None → drop n joins ≡ [] → AreTested m facts axioms members joins 0 (WrongJoin n)
    missing_here l none = on (WrongJoin n) (subst (λ (ms : List Member). AreTested m facts axioms ms (drop n joins) n (WrongJoin n)) (sym at) (subst (λ (js : List Join). AreTested m facts axioms (x ∷ drop (n + 1) members) js n (WrongJoin n)) (sym none) (is_missing l)))

    module _ (join : Join) (there : drop n joins ≡ join ∷ drop (n + 1) joins) (l : IsIfLarge x None) where
      pub wrong_here : (IsRightJoin m facts axioms x join → ⊥) → AreTested m facts axioms members joins 0 (WrongJoin n)
      wrong_here w = on (WrongJoin n) (subst (λ (ms : List Member). AreTested m facts axioms ms (drop n joins) n (WrongJoin n)) (sym at) (subst (λ (js : List Join). AreTested m facts axioms (x ∷ drop (n + 1) members) js n (WrongJoin n)) (sym there) (is_wrong l w)))

      pub right_here : IsRightJoin m facts axioms x join → TestsOn members joins (n + 1)
      right_here r answer t = on answer (subst (λ (ms : List Member). AreTested m facts axioms ms (drop n joins) n answer) (sym at) (subst (λ (js : List Join). AreTested m facts axioms (x ∷ drop (n + 1) members) js n answer) (sym there) (is_right l r t)))

  pub tests_none : (members : List Member) (joins : List Join) → TestsOn members joins 0
  tests_none members joins answer t = t

  pub tests_all : (members : List Member) (joins : List Join) (n : ℕ) → TestsOn members joins n → drop n members ≡ [] → drop n joins ≡ [] → AreTested m facts axioms members joins 0 Yes
  tests_all members joins n on none left = on Yes (subst (λ (ms : List Member). AreTested m facts axioms ms (drop n joins) n Yes) (sym none) (subst (λ (js : List Join). AreTested m facts axioms [] js n Yes) (sym left) all_joined))

  -- THE SAME BY PLACES

  module _ (members : List Member) (joins : List Join) (n : ℕ) (d : Member) (on : TestsOn members joins n) (h : n < length members) where
    pub large_at : (overlap : AnyOverlap) → IsIfLarge (get_or members n d) (Some overlap) → AreTested m facts axioms members joins 0 (Large overlap)
    large_at overlap l = large_here members joins n (get_or members n d) on (drop_more members n d h) overlap l

    pub missing_at : IsIfLarge (get_or members n d) None → length joins ≤ n → AreTested m facts axioms members joins 0 (WrongJoin n)
    missing_at l k = missing_here members joins n (get_or members n d) on (drop_more members n d h) l (none_left joins n k)

    module _ (join : Join) (k : n < length joins) (e : join ≡ get_or joins n join) (l : IsIfLarge (get_or members n d) None) where
      pub wrong_at : (IsRightJoin m facts axioms (get_or members n d) join → ⊥) → AreTested m facts axioms members joins 0 (WrongJoin n)
      wrong_at w = wrong_here members joins n (get_or members n d) on (drop_more members n d h) join (next_is joins n join k e) l w

      pub right_at : IsRightJoin m facts axioms (get_or members n d) join → TestsOn members joins (n + 1)
      right_at r = right_here members joins n (get_or members n d) on (drop_more members n d h) join (next_is joins n join k e) l r

  -- behind the last member
  pub more_joins : (members : List Member) (joins : List Join) (n : ℕ) → TestsOn members joins n → n ≡ length members → n < length joins → AreTested m facts axioms members joins 0 (WrongJoin n)
  more_joins members joins n on e h = go (drop n joins) refl
    where
      none : drop n members ≡ []
      none = none_left members n (omega (arith, e))

      go : (js : List Join) → drop n joins ≡ js → AreTested m facts axioms members joins 0 (WrongJoin n)
      go [] q = (let l : length (drop n joins) ≡ 0 = ap length q in absurd (omega (arith, l, length-drop n joins, h)))
      go (j ∷ js) q = on (WrongJoin n) (subst (λ (ms : List Member). AreTested m facts axioms ms (drop n joins) n (WrongJoin n)) (sym none) (subst (λ (l : List Join). AreTested m facts axioms [] l n (WrongJoin n)) (sym q) too_many))

  pub all_tests : (members : List Member) (joins : List Join) (n : ℕ) → TestsOn members joins n → length members ≤ n → length joins ≤ n → AreTested m facts axioms members joins 0 Yes
  all_tests members joins n on h k = tests_all members joins n on (none_left members n h) (none_left joins n k)
