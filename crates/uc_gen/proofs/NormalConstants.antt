-- The normal forms of constants below which there are constants alone.
use Rattle.std.proofs.Common.{◌≡◌, ℕ, zero, suc, ◌+◌, ◌<◌, ◌≤◌, ◌⊎◌, inl, inr, List, [], ◌∷◌, length, drop, get_or, refl, sym, ap, ◌∙◌, subst, arith}
use Rattle.std.proofs.lemmas.List.{drop_more}
use Rattle.uc_term.specs.declared.node.Sym.{Sym}
use Rattle.uc_term.specs.declared.equation.Equation.{Equation}
use Rattle.uc_term.specs.Tree.{Tree, var, app, Trees, none, apply}
use Rattle.uc_term.specs.Within.{at_root, under, WithinOne, stay}
use Rattle.uc_term.proofs.Terms.{apply-var}
use Rattle.uc_order.specs.Members.{In, in_front, in_rest, AreDistinct}
use Rattle.uc_order.specs.Laws.{Meaning, Laws, HasSym, IsGroundOf}
use Rattle.uc_fact.specs.Live.{numbered, numbered_from, equations_of}
use Rattle.uc_fact.specs.Ordered.{OStep, IsIrreducible}
use Rattle.uc_fact.specs.Ground.{AreOfSignature, IsNormal}
use Rattle.uc_rewrite.specs.Ends.{CanStep}
use Rattle.uc_rewrite.proofs.Unique.{step_falls}
use Rattle.uc_ground.proofs.Grounded.{falls_ground}
use Rattle.uc_decide.specs.NormalForms.{HasNormalForm}
use Rattle.uc_decide.proofs.GroundSteps.{least_ground, moves_ground, moves_greater}
use Rattle.uc_decide.proofs.Ordered.{normal_if}
use Rattle.uc_gen.specs.Counting.{constant_term, constant_terms, HasForms, AreLowest}

-- the constants among terms
pub in_terms : (constants : List Sym) (t : Tree) → In (constant_terms constants) t → (c : Sym) × In constants c × (t ≡ constant_term c)
in_terms [] t i = elim i [ ]
in_terms (c ∷ cs) _ in_front = (c, in_front, refl)
in_terms (c ∷ cs) t (in_rest i) = let r = in_terms cs t i in (r.0, in_rest r.1, r.2)

pub terms_in : (constants : List Sym) (c : Sym) → In constants c → In (constant_terms constants) (constant_term c)
terms_in [] c i = elim i [ ]
terms_in (c ∷ cs) _ in_front = in_front
terms_in (d ∷ cs) c (in_rest i) = in_rest (terms_in cs c i)

own_constant : (constants : List Sym) (c : Sym) → In (constant_terms constants) (constant_term c) → In constants c
own_constant constants c i =
    let r = in_terms constants (constant_term c) i in
    let e : app c none ≡ app r.0 none = r.2 in
    let same : c ≡ r.0 = cc in
    subst (In constants) (sym same) r.1

module _ (m : Meaning) (es : List Equation) where
  abbrev IsOwnForm : Sym → Type 0
  IsOwnForm c = IsNormal m.greater (HasSym m) m.arity es (constant_term c)

  -- so many of the constants are their own normal forms
  pub data CountsNormal : List Sym → ℕ → Type 0 where
    none_counted : CountsNormal [] 0
    is_counted : {c : Sym} {cs : List Sym} {k : ℕ} → IsOwnForm c → CountsNormal cs k → CountsNormal (c ∷ cs) (k + 1)
    isnt_counted : {c : Sym} {cs : List Sym} {k : ℕ} → (IsOwnForm c → ⊥) → CountsNormal cs k → CountsNormal (c ∷ cs) k

  -- these are they
  record AreCounted (cs : List Sym) (count : ℕ) : Type 0 where
    forms : List Tree
    as_many : length forms ≡ count
    distinct : AreDistinct forms
    own : (n : Tree) → In forms n → (c : Sym) × In cs c × (n ≡ constant_term c) × IsOwnForm c
    all : (c : Sym) → In cs c → IsOwnForm c → In forms (constant_term c)

  counted : (cs : List Sym) (count : ℕ) → AreDistinct cs → CountsNormal cs count → AreCounted cs count
  counted _ _ d none_counted = record { forms = []; as_many = refl; distinct = tt; own = λ n i. elim i [ ]; all = λ c i. elim i [ ] }
  counted _ _ d (is_counted {c = c} {cs = cs} {k = k} normal rest) = let r = counted cs k d.1 rest in record {
    forms = constant_term c ∷ r.forms;
    as_many = omega (arith, r.as_many);
    distinct = (new r, r.distinct);
    own = own r;
    all = all r;
  }
    where
      new : (r : AreCounted cs k) → In r.forms (constant_term c) → ⊥
      new r i =
          let p = r.own (constant_term c) i in
          let e : app c none ≡ app p.0 none = p.2 in
          let same : c ≡ p.0 = cc in
          d.0 (subst (In cs) (sym same) p.1)

      own : (r : AreCounted cs k) (n : Tree) → In (constant_term c ∷ r.forms) n → (b : Sym) × In (c ∷ cs) b × (n ≡ constant_term b) × IsOwnForm b
      own r _ in_front = (c, in_front, refl, normal)
      own r n (in_rest i) = let p = r.own n i in (p.0, in_rest p.1, p.2, p.3)

      all : (r : AreCounted cs k) (b : Sym) → In (c ∷ cs) b → IsOwnForm b → In (constant_term c ∷ r.forms) (constant_term b)
      all r _ in_front own_form = in_front
      all r b (in_rest i) own_form = in_rest (r.all b i own_form)
  counted _ _ d (isnt_counted {c = c} {cs = cs} {k = k} other rest) = let r = counted cs k d.1 rest in record {
    forms = r.forms;
    as_many = r.as_many;
    distinct = r.distinct;
    own = λ n i. (let p = r.own n i in (p.0, in_rest p.1, p.2, p.3));
    all = all r;
  }
    where
      all : (r : AreCounted cs k) (b : Sym) → In (c ∷ cs) b → IsOwnForm b → In r.forms (constant_term b)
      all r _ in_front own_form = absurd (other own_form)
      all r b (in_rest i) own_form = r.all b i own_form

  -- ONE CONSTANT AFTER ANOTHER

  -- so many are counted so far, whatever the others come to
  abbrev pub CountedSoFar : List Sym → ℕ → ℕ → Type 0
  CountedSoFar cs k count = (more : ℕ) → CountsNormal (drop k cs) more → CountsNormal cs (count + more)

  pub none_so_far : (cs : List Sym) → CountedSoFar cs 0 0
  none_so_far cs more h = let all : more ≡ 0 + more = omega arith in subst (CountsNormal cs) all h

  pub one_more : (cs : List Sym) (k count : ℕ) (d : Sym) → k < length cs → IsOwnForm (get_or cs k d) → CountedSoFar cs k count → CountedSoFar cs (k + 1) (count + 1)
  one_more cs k count d inside own_form so_far more h =
      let sum : count + (more + 1) ≡ count + 1 + more = omega arith in
      subst (CountsNormal cs) sum (so_far (more + 1) (subst (λ (bs : List Sym). CountsNormal bs (more + 1)) (sym (drop_more cs k d inside)) (is_counted own_form h)))

  pub no_more : (cs : List Sym) (k count : ℕ) (d : Sym) → k < length cs → (IsOwnForm (get_or cs k d) → ⊥) → CountedSoFar cs k count → CountedSoFar cs (k + 1) count
  no_more cs k count d inside other so_far more h = so_far more (subst (λ (bs : List Sym). CountsNormal bs more) (sym (drop_more cs k d inside)) (isnt_counted other h))

  nothing_left : (cs : List Sym) (k : ℕ) → length cs ≤ k → drop k cs ≡ []
  nothing_left [] zero h = refl
  nothing_left [] (suc k) h = refl
  nothing_left (c ∷ cs) zero h = absurd (omega arith)
  nothing_left (c ∷ cs) (suc k) h = nothing_left cs k (omega arith)

  pub all_counted : (cs : List Sym) (k count : ℕ) → length cs ≤ k → CountedSoFar cs k count → CountsNormal cs count
  all_counted cs k count past so_far =
      let sum : count + 0 ≡ count = omega arith in
      subst (CountsNormal cs) sum (so_far 0 (subst (λ (bs : List Sym). CountsNormal bs 0) (sym (nothing_left cs k past)) none_counted))

pub in_get : (cs : List Sym) (k : ℕ) (d : Sym) → k < length cs → In cs (get_or cs k d)
in_get [] k d h = absurd (omega (arith, h))
in_get (c ∷ cs) zero d h = in_front
in_get (c ∷ cs) (suc k) d h = in_rest (in_get cs k d (omega (arith, h)))

module _ (m : Meaning) (laws : Laws m) (es : List Equation) (constants : List Sym) (lowest : AreLowest m constants) where
  pub constant_ground : (c : Sym) → In constants c → IsGroundOf m (constant_term c)
  constant_ground c i = let k = lowest.known c i in (k.0, sym k.1, tt)

  pub terms_ground : (t : Tree) → In (constant_terms constants) t → IsGroundOf m t
  terms_ground t i = let r = in_terms constants t i in subst (IsGroundOf m) (sym r.2) (constant_ground r.0 r.1)

  -- a normal form of a constant is a constant that is its own
  form_is : (c : Sym) (n : Tree) → In constants c → HasNormalForm m es (constant_term c) n → In (constant_terms constants) n
  form_is c n i f = go (moves_greater m laws es (constant_term c) n f.leads)
    where
      go : (n ≡ constant_term c) ⊎ m.greater (constant_term c) n → In (constant_terms constants) n
      go (inl e) = subst (In (constant_terms constants)) (sym e) (terms_in constants c i)
      go (inr g) = lowest.lowest c n i (moves_ground m es f.leads (constant_ground c i)) g

  pub has_forms : (count : ℕ) → CountsNormal m es constants count → HasForms m es (constant_terms constants) count
  has_forms count h = let r = counted m es constants count lowest.distinct h in record {
    forms = r.forms;
    as_many = r.as_many;
    distinct = r.distinct;
    are_theirs = λ n. (there r n, back r n);
  }
    where
      there : (r : AreCounted m es constants count) (n : Tree) → In r.forms n → (t : Tree) × In (constant_terms constants) t × HasNormalForm m es t n
      there r n i =
          let p = r.own n i in
          (constant_term p.0, terms_in constants p.0 p.1, subst (HasNormalForm m es (constant_term p.0)) (sym p.2) (record { leads = stay; ends = p.3 }))

      back : (r : AreCounted m es constants count) (n : Tree) → (t : Tree) × In (constant_terms constants) t × HasNormalForm m es t n → In r.forms n
      back r n (t, i, f) =
          let c = in_terms constants t i in
          let d = in_terms constants n (form_is c.0 n c.1 (subst (λ (u : Tree). HasNormalForm m es u n) c.2 f)) in
          subst (In r.forms) (sym d.2) (r.all d.0 d.1 (subst (IsNormal m.greater (HasSym m) m.arity es) d.2 f.ends))

-- WHAT IS TESTED

-- numbering equations keeps them
equations_from : (n : ℕ) (es : List Equation) → equations_of (numbered_from n es) ≡ es
equations_from n [] = refl
equations_from n (e ∷ es) = ap (λ l. e ∷ l) (equations_from (n + 1) es)

module _ (m : Meaning) (laws : Laws m) (es fs : List Equation) (same : fs ≡ es) where
  abbrev Read : Sym → List Equation → Type 0
  Read c xs = IsIrreducible m.greater m.least (equations_of (numbered xs)) (constant_term c)

  own_equations : equations_of (numbered fs) ≡ es
  own_equations = equations_from 0 fs ∙ same

  pub stays_normal : (c : Sym) → Read c fs → IsOwnForm m es c
  stays_normal c h = normal_if m laws es (constant_term c) (subst (λ (xs : List Equation). IsIrreducible m.greater m.least xs (constant_term c)) own_equations h)

  no_arguments : {R : Tree → Tree → Type 0} (vs : Trees) → WithinOne R none vs → ⊥
  no_arguments vs o = elim o [ ]

  module _ (over : AreOfSignature (HasSym m) m.arity es) where
    steps_on : (c : Sym) (v : Tree) → IsGroundOf m (constant_term c) → OStep m.greater m.least es (constant_term c) v → IsOwnForm m es c → ⊥
    steps_on c v ground (at_root f) normal =
        let v_ground : IsGroundOf m (apply var v) = falls_ground (HasSym m) m.arity m.greater m.least (least_ground m laws) es over var (constant_term c) v f (subst (IsGroundOf m) (sym (apply-var (constant_term c))) ground) in
        normal v (at_root (record { turn = f.turn; u_ground = ground; v_ground = subst (IsGroundOf m) (apply-var v) v_ground; greater = f.greater }))
    steps_on c _ ground (under {vs = vs} o) normal = no_arguments vs o

    pub isnt_normal : (c : Sym) → IsGroundOf m (constant_term c) → CanStep m.greater m.least (numbered fs) (constant_term c) → IsOwnForm m es c → ⊥
    isnt_normal c ground can normal =
        steps_on c can.v ground (subst (λ (xs : List Equation). OStep m.greater m.least xs (constant_term c) can.v) own_equations (step_falls m.greater m.least (numbered fs) (constant_term c) can.at can.rule can.v can.first)) normal
