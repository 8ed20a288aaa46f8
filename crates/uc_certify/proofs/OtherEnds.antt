-- What is the same of facts with other numbers in the same order: which of them make symbols associative and commutative, and the
-- answer for two ends.
use Rattle.std.proofs.Common.{◌≡◌, ℕ, ◌<◌, List, [], ◌∷◌, map, Some, None, refl, sym, ap, ◌∙◌, subst}
use Rattle.std.specs.List.Sorted.{IsStrictlyIncreasing}
use Rattle.uc_term.specs.declared.node.Sym.{Sym}
use Rattle.uc_term.specs.Tree.{Tree}
use Rattle.uc_order.specs.Members.{In, Each}
use Rattle.uc_order.specs.Laws.{Meaning}
use Rattle.uc_fact.specs.declared.ac_facts.AcFacts.{AcFacts}
use Rattle.uc_fact.specs.declared.joinable.Joinable.{Joinable}
use Rattle.uc_fact.specs.declared.joinable.Joinable.TheVariants.{Joined}
use Rattle.uc_fact.specs.declared.joinable.Reason.{Reason}
use Rattle.uc_fact.specs.declared.joinable.Reason.TheVariants as reason
use Rattle.uc_fact.specs.Live.{Live}
use Rattle.uc_rewrite.specs.declared.normal.Normal.{Normal}
use Rattle.uc_rewrite.specs.Normalising.{IsNormalOf}
use Rattle.uc_ground.specs.Joining.{IsJoined}
use Rattle.uc_ac.specs.declared.ac_law.AcLaw.{AcLaw}
use Rattle.uc_ac.specs.declared.ac_law.AcLaw.TheVariants.{Assoc, Comm, Extended}
use Rattle.uc_ac.specs.AcEqual.{AcEqual}
use Rattle.uc_ac.specs.AcFacts.{IsFactThat, AreAcFacts, symbols_of}
use Rattle.uc_ac.specs.Joining.{IsLeastThat, AreLeastFacts, IsAcSymbol, AreFactsOf, IsAcAnswer, has_facts, has_none}
use Rattle.uc_ac.specs.Ends.{IsEndsAnswer, equal_by_facts, not_equal_so}
use Rattle.uc_certify.specs.Making.{AreFoundJoined}
use Rattle.uc_certify.proofs.OtherNumbers.{renamed, normal_of, rises_back, at_number, named_at, answer_of}

module _ (ν : ℕ → ℕ) (rises : (i j : ℕ) → i < j → ν i < ν j) where
  -- ASSOCIATIVE AND COMMUTATIVE SYMBOLS

  abbrev renamed_facts : AcFacts → AcFacts
  renamed_facts x = record { symbol = x.symbol; assoc = ν x.assoc; comm = ν x.comm; extended = ν x.extended }

  -- a list keeps its symbols
  same_symbols : (list : List AcFacts) → symbols_of (map renamed_facts list) ≡ symbols_of list
  same_symbols [] = refl
  same_symbols (x ∷ list) = ap (λ (fs : List Sym). x.symbol ∷ fs) (same_symbols list)

  abbrev numbers_of : List AcFacts → List ℕ
  numbers_of list = map (λ (x : AcFacts). x.symbol.0) list

  same_numbers : (list : List AcFacts) → numbers_of (map renamed_facts list) ≡ numbers_of list
  same_numbers [] = refl
  same_numbers (x ∷ list) = ap (λ (ns : List ℕ). x.symbol.0 ∷ ns) (same_numbers list)

  module _ (fs : List Live) where
    abbrev others : List Live
    others = map (renamed ν) fs

    fact_on : (law : AcLaw) (f : Sym) (k : ℕ) → IsFactThat fs law f k → IsFactThat others law f (ν k)
    fact_on law f k h = (h.0, at_number ν rises fs k ∙ h.1, h.2)

    fact_back : (law : AcLaw) (f : Sym) (k : ℕ) → IsFactThat others law f (ν k) → IsFactThat fs law f k
    fact_back law f k h = (h.0, sym (at_number ν rises fs k) ∙ h.1, h.2)

    -- a fact has one of the numbers
    record HasNumber (n : ℕ) : Type 0 where
      number : ℕ
      number_is : n ≡ ν number

    numbered_fact : (law : AcLaw) (f : Sym) (n : ℕ) → IsFactThat others law f n → HasNumber n
    numbered_fact law f n h = let k = named_at ν rises fs n h.0 h.1 in record { number = k.0; number_is = k.1 }

    least_on : (law : AcLaw) (f : Sym) (k : ℕ) → IsLeastThat fs law f k → IsLeastThat others law f (ν k)
    least_on law f k h = (fact_on law f k h.0, none)
      where
        none : (n : ℕ) → n < ν k → IsFactThat others law f n → ⊥
        none n below i =
            let j = numbered_fact law f n i in
            h.1 j.number (rises_back ν rises j.number k (subst (λ (x : ℕ). x < ν k) j.number_is below)) (fact_back law f j.number (subst (IsFactThat others law f) j.number_is i))

    least_back : (law : AcLaw) (f : Sym) (k : ℕ) → IsLeastThat others law f (ν k) → IsLeastThat fs law f k
    least_back law f k h = (fact_back law f k h.0, λ j below i. h.1 (ν j) (rises j k below) (fact_on law f j i))

    facts_on : (x : AcFacts) → AreLeastFacts fs x → AreLeastFacts others (renamed_facts x)
    facts_on x l = record { assoc_is = least_on Assoc x.symbol x.assoc l.assoc_is; comm_is = least_on Comm x.symbol x.comm l.comm_is; extended_is = least_on Extended x.symbol x.extended l.extended_is }

    facts_back : (x : AcFacts) → AreLeastFacts others (renamed_facts x) → AreLeastFacts fs x
    facts_back x l = record { assoc_is = least_back Assoc x.symbol x.assoc l.assoc_is; comm_is = least_back Comm x.symbol x.comm l.comm_is; extended_is = least_back Extended x.symbol x.extended l.extended_is }

    all_on : (list : List AcFacts) → Each (AreLeastFacts fs) list → Each (AreLeastFacts others) (map renamed_facts list)
    all_on [] e = tt
    all_on (x ∷ list) e = (facts_on x e.0, all_on list e.1)

    all_back : (list : List AcFacts) → Each (AreLeastFacts others) (map renamed_facts list) → Each (AreLeastFacts fs) list
    all_back [] e = tt
    all_back (x ∷ list) e = (facts_back x e.0, all_back list e.1)

    -- facts that live have such numbers
    record HasOwn (x : AcFacts) : Type 0 where
      own : AcFacts
      own_is : x ≡ renamed_facts own

    named : (x : AcFacts) → AreAcFacts others x → HasOwn x
    named x h =
        let a = numbered_fact Assoc x.symbol x.assoc h.assoc_is in
        let c = numbered_fact Comm x.symbol x.comm h.comm_is in
        let e = numbered_fact Extended x.symbol x.extended h.extended_is in
        record {
          own = record { symbol = x.symbol; assoc = a.number; comm = c.number; extended = e.number };
          own_is = λ i. record { symbol = x.symbol; assoc = a.number_is i; comm = c.number_is i; extended = e.number_is i };
        }

    are_facts : (x : AcFacts) → AreLeastFacts others x → AreAcFacts others x
    are_facts x l = record { assoc_is = l.assoc_is.0; comm_is = l.comm_is.0; extended_is = l.extended_is.0 }

    record AllHaveOwn (list : List AcFacts) : Type 0 where
      own : List AcFacts
      own_is : list ≡ map renamed_facts own

    all_named : (list : List AcFacts) → Each (AreLeastFacts others) list → AllHaveOwn list
    all_named [] e = record { own = []; own_is = refl }
    all_named (x ∷ list) e =
        let first = named x (are_facts x e.0) in
        let rest = all_named list e.1 in
        record { own = first.own ∷ rest.own; own_is = ap (λ (y : AcFacts). y ∷ list) first.own_is ∙ ap (λ (l : List AcFacts). renamed_facts first.own ∷ l) rest.own_is }

    symbol_on : (f : Sym) → IsAcSymbol fs f → IsAcSymbol others f
    symbol_on f a =
        let x = a.facts in
        record {
          facts = renamed_facts x;
          symbol_is = a.symbol_is;
          are_facts = record { assoc_is = fact_on Assoc x.symbol x.assoc a.are_facts.assoc_is; comm_is = fact_on Comm x.symbol x.comm a.are_facts.comm_is; extended_is = fact_on Extended x.symbol x.extended a.are_facts.extended_is };
        }

    symbol_back : (f : Sym) → IsAcSymbol others f → IsAcSymbol fs f
    symbol_back f a =
        let n = named a.facts a.are_facts in
        let x = n.own in
        let there : AreAcFacts others (renamed_facts x) = subst (AreAcFacts others) n.own_is a.are_facts in
        record {
          facts = x;
          symbol_is = ap (λ (y : AcFacts). y.symbol) (sym n.own_is) ∙ a.symbol_is;
          are_facts = record { assoc_is = fact_back Assoc x.symbol x.assoc there.assoc_is; comm_is = fact_back Comm x.symbol x.comm there.comm_is; extended_is = fact_back Extended x.symbol x.extended there.extended_is };
        }

    -- TWO ENDS

    module _ (s t : Tree) where
      facts_of_on : (list : List AcFacts) → AreFactsOf fs s t list → AreFactsOf others s t (map renamed_facts list)
      facts_of_on list a = record {
        rising = subst IsStrictlyIncreasing (sym (same_numbers list)) a.rising;
        least = all_on list a.least;
        symbols = λ f. (
          λ i. (let h = (a.symbols f).0 (subst (λ (gs : List Sym). In gs f) (same_symbols list) i) in (h.0, symbol_on f h.1)),
          λ h. subst (λ (gs : List Sym). In gs f) (sym (same_symbols list)) ((a.symbols f).1 (h.0, symbol_back f h.1)),
        );
      }

      facts_of_back : (list : List AcFacts) → AreFactsOf others s t (map renamed_facts list) → AreFactsOf fs s t list
      facts_of_back list a = record {
        rising = subst IsStrictlyIncreasing (same_numbers list) a.rising;
        least = all_back list a.least;
        symbols = λ f. (
          λ i. (let h = (a.symbols f).0 (subst (λ (gs : List Sym). In gs f) (sym (same_symbols list)) i) in (h.0, symbol_back f h.1)),
          λ h. subst (λ (gs : List Sym). In gs f) (same_symbols list) ((a.symbols f).1 (h.0, symbol_on f h.1)),
        );
      }

      abbrev Equal : List AcFacts → Type 0
      Equal list = AcEqual (symbols_of list) s t

      -- they are equal up to brackets and order by the facts with their own numbers
      equal_back : (list : List AcFacts) → IsAcAnswer others s t (Some list) → (own : List AcFacts) × IsAcAnswer fs s t (Some own)
      equal_back _ (has_facts {facts = x} {list = list} a e) =
          let first = named x (are_facts x a.least.0) in
          let rest = all_named list a.least.1 in
          let own = first.own ∷ rest.own in
          let is : x ∷ list ≡ map renamed_facts own = ap (λ (y : AcFacts). y ∷ list) first.own_is ∙ ap (λ (l : List AcFacts). renamed_facts first.own ∷ l) rest.own_is in
          (own, has_facts (facts_of_back own (subst (AreFactsOf others s t) is a)) (subst (λ (gs : List Sym). AcEqual gs s t) (same_symbols own) (subst Equal is e)))

      none_back : IsAcAnswer others s t None → IsAcAnswer fs s t None
      none_back (has_none n) = has_none (λ x list a e. n (renamed_facts x) (map renamed_facts list) (facts_of_on (x ∷ list) a) (subst (λ (gs : List Sym). AcEqual gs s t) (sym (same_symbols (x ∷ list))) e))

      -- two ends are joined
      ends_of : (m : Meaning) (answer : Joinable) → IsEndsAnswer m others s t answer → IsJoined answer → (why : Reason) × IsEndsAnswer m fs s t (Joined why)
      ends_of m _ (equal_by_facts {list = list} a) j = let own = equal_back list a in (reason.Ac own.0, equal_by_facts own.1)
      ends_of m _ (not_equal_so {answer = answer} n a) j = let own = answer_of ν rises fs s t m answer a j in (own.0, not_equal_so (none_back n) own.1)

  -- so two terms are found to be joined
  pub found_joined : (m : Meaning) (fs : List Live) (l r : Tree) (left right : Normal) (answer : Joinable) → IsNormalOf m.greater m.least (map (renamed ν) fs) 4096 l left → IsNormalOf m.greater m.least (map (renamed ν) fs) 4096 r right → IsEndsAnswer m (map (renamed ν) fs) left.term right.term answer → IsJoined answer → AreFoundJoined m fs l r
  found_joined m fs l r left right answer a b i j =
      let p = normal_of ν m.greater m.least fs 4096 l left a in
      let q = normal_of ν m.greater m.least fs 4096 r right b in
      let why = ends_of fs left.term right.term m answer i j in
      record {
        left = p.0;
        right = q.0;
        left_is = p.1;
        right_is = q.1;
        why = why.0;
        answer_is = subst (λ (u : Tree). IsEndsAnswer m fs u q.0.term (Joined why.0)) (sym p.2) (subst (λ (u : Tree). IsEndsAnswer m fs left.term u (Joined why.0)) (sym q.2) why.1);
      }
