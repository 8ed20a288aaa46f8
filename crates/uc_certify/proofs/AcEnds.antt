-- Ends that are equal up to brackets and order: the symbols of the triples, that such ends are joinable, and that what is made of an
-- answer with facts is right.
use Rattle.std.proofs.Common.{◌≡◌, ◌≢◌, ℕ, zero, suc, ◌+◌, ◌<◌, arith, List, [], ◌∷◌, ◌++◌, length, take, get_or, map, slice_get, Some, None, refl, sym, ap, ap₂, ◌∙◌, subst, subst₂, inl, inr}
use Rattle.std.proofs.lemmas.List.{take_more, map_more}
use Rattle.uc_term.specs.declared.node.Sym.{Sym}
use Rattle.uc_term.specs.declared.equation.Equation.{Equation}
use Rattle.uc_term.specs.declared.node.Node.{Node}
use Rattle.uc_term.specs.declared.node.Node.TheVariants.{Var, App}
use Rattle.uc_term.specs.Flat.{flat}
use Rattle.uc_term.specs.Tree.{Tree, var}
use Rattle.uc_order.specs.Members.{Each}
use Rattle.uc_order.specs.Laws.{Meaning, Laws, HasSym, pair_of}
use Rattle.uc_fact.specs.declared.ac_facts.AcFacts.{AcFacts}
use Rattle.uc_fact.specs.Ground.{IsJoinable}
use Rattle.uc_fact.specs.Live.{Live, numbered}
use Rattle.uc_ac.specs.declared.ac_law.AcLaw.{AcLaw}
use Rattle.uc_ac.specs.declared.ac_law.AcLaw.TheVariants.{Comm}
use Rattle.uc_ac.specs.AcEqual.{AcEqual}
use Rattle.uc_ac.specs.AcLaw.{AreSides, comm_sides, IsLaw}
use Rattle.uc_ac.specs.AcFacts.{IsFactThat, AreAcFacts, symbols_of}
use Rattle.uc_ac.specs.Joining.{AreLeastFacts, IsAcAnswer, has_facts}
use Rattle.uc_ac.proofs.Answered.{are_facts}
use Rattle.uc_ac.proofs.Ends.{equal_joins}
use Rattle.uc_certificate.specs.declared.certificate.AcTriple.{AcTriple}
use Rattle.uc_certify.specs.Joining.{triple_of, AreRightTriples}
use Rattle.uc_certify.specs.Testing.{MakesAc, MakeAc}
use Rattle.uc_certify.proofs.Numbered.{fact_there, equations_numbered}

-- THE SYMBOL OF A TRIPLE

some_same : (a b : Equation) → Some a ≡ Some b → a ≡ b
some_same a b e = cc

-- each side of the law of commutativity is headed by its symbol
left_headed : (f : Sym) (s t : Tree) → AreSides f Comm s t → (a : Tree) × (b : Tree) × (s ≡ pair_of f a b)
left_headed f _ _ (comm_sides {x = x} {y = y} n) = (var x, var y, refl)

right_headed : (f : Sym) (s t : Tree) → AreSides f Comm s t → (a : Tree) × (b : Tree) × (t ≡ pair_of f a b)
right_headed f _ _ (comm_sides {x = x} {y = y} n) = (var y, var x, refl)

comm_headed : (f : Sym) (e : Equation) → IsLaw Comm f e → (a : Tree) × (b : Tree) × (e.left ≡ pair_of f a b)
comm_headed f e (inl s) = left_headed f e.left e.right s
comm_headed f e (inr s) = right_headed f e.right e.left s

one_head : (f g : Sym) (a b c d : Tree) → pair_of f a b ≡ pair_of g c d → f ≡ g
one_head f g a b c d e = cc

one_symbol : (f g : Sym) (e : Equation) → IsLaw Comm f e → IsLaw Comm g e → f ≡ g
one_symbol f g e x y =
    let p = comm_headed f e x in
    let q = comm_headed g e y in
    one_head f g p.0 p.1 q.0 q.1 (sym p.2 ∙ q.2)

-- the first node of a term that the symbol heads
head_node : (nodes : List Node) (t : Tree) (f : Sym) (a b : Tree) (d : Node) → nodes ≡ flat t → t ≡ pair_of f a b → get_or nodes 0 d ≡ App f 2
head_node nodes t f a b d e h = ap (λ (ns : List Node). get_or ns 0 d) (e ∙ ap flat h)

one_node : (f g : Sym) (n k : ℕ) → App f n ≡ App g k → f ≡ g
one_node f g n k e = cc

var_app : (x : ℕ) (f : Sym) (n : ℕ) → Var x ≡ App f n → ⊥
var_app x f n e = absurd cc

module _ (facts : List Equation) where
  pub no_law : (law : AcLaw) (f : Sym) (n : ℕ) → slice_get facts n ≡ None → IsFactThat (numbered facts) law f n → ⊥
  no_law law f n none i = some_none i.0 (sym i.1 ∙ fact_there facts n ∙ none)
    where
      some_none : (e : Equation) → Some e ≡ None → ⊥
      some_none e h = absurd cc

  module _ (n : ℕ) (e : Equation) (at : slice_get facts n ≡ Some e) where
    own_law : (law : AcLaw) (f : Sym) → IsFactThat (numbered facts) law f n → IsLaw law f e
    own_law law f i = subst (IsLaw law f) (some_same i.0 e (sym i.1 ∙ fact_there facts n ∙ at)) i.2

    -- the sides of the fact are the law for a symbol
    pub fact_if : (law : AcLaw) (f : Sym) (l r : Tree) → l ≡ e.left → r ≡ e.right → IsLaw law f (record { left = l; right = r }) → IsFactThat (numbered facts) law f n
    fact_if law f l r p q h = (e, fact_there facts n ∙ at, subst₂ (λ (x y : Tree). IsLaw law f (record { left = x; right = y })) p q h)

    pub law_if : (law : AcLaw) (f : Sym) (l r : Tree) → l ≡ e.left → r ≡ e.right → IsFactThat (numbered facts) law f n → IsLaw law f (record { left = l; right = r })
    law_if law f l r p q i = subst₂ (λ (x y : Tree). IsLaw law f (record { left = x; right = y })) (sym p) (sym q) (own_law law f i)

    -- the first node of its left side has the symbol
    pub headed_by : (nodes : List Node) (d : Node) → nodes ≡ flat e.left → (f : Sym) → IsFactThat (numbered facts) Comm f n → get_or nodes 0 d ≡ App f 2
    headed_by nodes d h f i = let p = comm_headed f e (own_law Comm f i) in head_node nodes e.left f p.0 p.1 d h p.2

    pub none_headed : (nodes : List Node) (d : Node) → nodes ≡ flat e.left → (x : ℕ) → get_or nodes 0 d ≡ Var x → (f : Sym) → IsFactThat (numbered facts) Comm f n → ⊥
    none_headed nodes d h x v f i = var_app x f 2 (sym v ∙ headed_by nodes d h f i)

    pub one_headed : (nodes : List Node) (d : Node) → nodes ≡ flat e.left → (g : Sym) (k : ℕ) → get_or nodes 0 d ≡ App g k → (f : Sym) → IsFactThat (numbered facts) Comm f n → f ≡ g
    one_headed nodes d h g k v f i = one_node f g 2 k (sym (headed_by nodes d h f i) ∙ v)

  one_commutes : (f g : Sym) (n : ℕ) → IsFactThat (numbered facts) Comm f n → IsFactThat (numbered facts) Comm g n → f ≡ g
  one_commutes f g n x y = one_symbol f g x.0 x.2 (subst (IsLaw Comm g) (some_same y.0 x.0 (sym y.1 ∙ x.1)) y.2)

  -- THE SYMBOLS OF TRIPLES

  make_both : (ts us : List AcTriple) (fs gs : List Sym) → MakeAc facts ts fs → MakeAc facts us gs → MakeAc facts (ts ++ us) (fs ++ gs)
  make_both [] us [] gs x y = y
  make_both [] us (f ∷ fs) gs x y = absurd x
  make_both (t ∷ ts) us [] gs x y = absurd x
  make_both (t ∷ ts) us (f ∷ fs) gs x y = (x.0, make_both ts us fs gs x.1 y)

  pub makes_more : (triples : List AcTriple) (k : ℕ) (t : AcTriple) (fs : List Sym) (f : Sym) → k < length triples → MakesAc facts (get_or triples k t) f → MakeAc facts (take k triples) fs → MakeAc facts (take (k + 1) triples) (fs ++ f ∷ [])
  makes_more triples k t fs f h one all = subst (λ (us : List AcTriple). MakeAc facts us (fs ++ f ∷ [])) (sym (take_more triples k t h)) (make_both (take k triples) (get_or triples k t ∷ []) fs (f ∷ []) all (one, tt))

  pub makes_at : (triples : List AcTriple) (k : ℕ) (t : AcTriple) (fs : List Sym) → k < length triples → MakeAc facts triples fs → (f : Sym) × MakesAc facts (get_or triples k t) f
  makes_at [] k t fs h m = absurd (omega arith)
  makes_at (u ∷ us) k t [] h m = absurd m
  makes_at (u ∷ us) zero t (f ∷ fs) h m = (f, m.0)
  makes_at (u ∷ us) (suc k) t (f ∷ fs) h m = makes_at us k t fs (omega arith) m.1

  one_list : (triples : List AcTriple) (fs gs : List Sym) → MakeAc facts triples fs → MakeAc facts triples gs → fs ≡ gs
  one_list [] [] [] x y = refl
  one_list [] [] (g ∷ gs) x y = absurd y
  one_list [] (f ∷ fs) gs x y = absurd x
  one_list (t ∷ ts) [] gs x y = absurd x
  one_list (t ∷ ts) (f ∷ fs) [] x y = absurd y
  one_list (t ∷ ts) (f ∷ fs) (g ∷ gs) x y = ap₂ (λ (h : Sym) (hs : List Sym). h ∷ hs) (one_commutes f g t.comm x.0.comm_is y.0.comm_is) (one_list ts fs gs x.1 y.1)

  -- the facts that the triples name, with their symbols
  record HasNames (triples : List AcTriple) (fs : List Sym) : Type 0 where
    list : List AcFacts
    triples_are : triples ≡ map triple_of list
    are_facts : Each (AreAcFacts (numbered facts)) list
    symbols_are : symbols_of list ≡ fs

  named : (triples : List AcTriple) (fs : List Sym) → MakeAc facts triples fs → HasNames triples fs
  named [] [] h = record { list = []; triples_are = refl; are_facts = tt; symbols_are = refl }
  named [] (f ∷ fs) h = absurd h
  named (t ∷ ts) [] h = absurd h
  named (t ∷ ts) (f ∷ fs) h =
      let rest = named ts fs h.1 in
      let first : AcFacts = record { symbol = f; assoc = t.assoc; comm = t.comm; extended = t.extended } in
      record {
        list = first ∷ rest.list;
        triples_are = ap (λ (us : List AcTriple). t ∷ us) rest.triples_are;
        are_facts = (h.0, rest.are_facts);
        symbols_are = ap (λ (gs : List Sym). f ∷ gs) rest.symbols_are;
      }

  symbols_made : (list : List AcFacts) → Each (AreAcFacts (numbered facts)) list → MakeAc facts (map triple_of list) (symbols_of list)
  symbols_made [] e = tt
  symbols_made (x ∷ list) e = (e.0, symbols_made list e.1)

  module _ (s t : Tree) (triples : List AcTriple) where
    right_makes : (r : AreRightTriples facts s t triples) → MakeAc facts triples (symbols_of r.list)
    right_makes r = subst (λ (us : List AcTriple). MakeAc facts us (symbols_of r.list)) (sym r.triples_are) (symbols_made r.list r.are_facts)

    -- so they are right exactly where the two terms are equal at the symbols of the triples
    pub right_if : (fs : List Sym) → MakeAc facts triples fs → AcEqual fs s t → AreRightTriples facts s t triples
    right_if fs h e =
        let n = named triples fs h in
        record { list = n.list; triples_are = n.triples_are; are_facts = n.are_facts; equal = subst (λ (gs : List Sym). AcEqual gs s t) (sym n.symbols_are) e }

    pub equal_if : (fs : List Sym) → MakeAc facts triples fs → AreRightTriples facts s t triples → AcEqual fs s t
    equal_if fs h r = subst (λ (gs : List Sym). AcEqual gs s t) (one_list triples (symbols_of r.list) fs (right_makes r) h) r.equal

    pub none_right : ((fs : List Sym) → MakeAc facts triples fs → ⊥) → AreRightTriples facts s t triples → ⊥
    none_right n r = n (symbols_of r.list) (right_makes r)

-- two terms that are equal so are joinable by the facts
pub triples_join : (m : Meaning) → Laws m → (facts : List Equation) (s t : Tree) (triples : List AcTriple) → AreRightTriples facts s t triples → IsJoinable m.greater (HasSym m) m.arity facts s t
triples_join m laws facts s t triples r = subst (λ (es : List Equation). IsJoinable m.greater (HasSym m) m.arity es s t) (equations_numbered 0 facts) (equal_joins (numbered facts) m laws s t r.list r.are_facts r.equal)

-- WHAT IS MADE

each_facts : (live : List Live) (list : List AcFacts) → Each (AreLeastFacts live) list → Each (AreAcFacts live) list
each_facts live [] e = tt
each_facts live (x ∷ list) e = (are_facts live x e.0, each_facts live list e.1)

answer_equal : (live : List Live) (s t : Tree) (list : List AcFacts) → IsAcAnswer live s t (Some list) → Each (AreAcFacts live) list × AcEqual (symbols_of list) s t
answer_equal live s t _ (has_facts {facts = x} {list = list} h e) = (each_facts live (x ∷ list) h.least, e)

pub triples_right : (facts : List Equation) (s t : Tree) (list : List AcFacts) (triples : List AcTriple) → IsAcAnswer (numbered facts) s t (Some list) → triples ≡ map triple_of list → AreRightTriples facts s t triples
triples_right facts s t list triples a e = let h = answer_equal (numbered facts) s t list a in record { list = list; triples_are = e; are_facts = h.0; equal = h.1 }

-- one triple more
pub triples_more : (list : List AcFacts) (k : ℕ) (d : AcFacts) (old new : List AcTriple) → k < length list → old ≡ map triple_of (take k list) → new ≡ old ++ triple_of (get_or list k d) ∷ [] → new ≡ map triple_of (take (k + 1) list)
triples_more list k d old new h so e = e ∙ ap (λ (ts : List AcTriple). ts ++ triple_of (get_or list k d) ∷ []) so ∙ sym (map_more triple_of list k d h)

-- there is one
pub some_triple : (live : List Live) (s t : Tree) (list : List AcFacts) (triples : List AcTriple) → IsAcAnswer live s t (Some list) → triples ≡ map triple_of list → triples ≢ []
some_triple live s t _ triples (has_facts {facts = x} {list = list} h e) q = λ n. (let both : triple_of x ∷ map triple_of list ≡ [] = sym q ∙ n in cc)
