-- Trees of places: shorter paths, linked roots, and the heads of all places.
use Rattle.std.proofs.Common.{◌≡◌, ◌≢◌, ℕ, zero, suc, ◌+◌, ◌<◌, ◌≤◌, ◌==◌, Bool, true, false, List, [], ◌∷◌, length, map, get_or, set, if◌then◌else◌, refl, sym, ap, ◌∙◌, subst, arith, ◌⊎◌, inl, inr}
use Rattle.std.proofs.lemmas.List.{get_or-map, length-map, get_or-set_same, get_or-set_other, length-set}
use Rattle.std.proofs.lemmas.Bool.{eqb-true, eq-eqb}
use Rattle.uc_term.specs.declared.node.Node.{Node}
use Rattle.uc_unify.specs.Closure.{class, AreClasses, count_from}
use Rattle.uc_unify.specs.Forest.{parent, AreParents, IsLabelling, AreSameTrees, IsForest}
use Rattle.uc_unify.proofs.Relabel.{relabel, relabel_same, relabel_other}

pub same_or : (p q : ℕ) → (p ≡ q) ⊎ (p ≢ q)
same_or p q = go (p == q) refl
  where
    go : (t : Bool) → (p == q) ≡ t → (p ≡ q) ⊎ (p ≢ q)
    go true e = inl (eqb-true p q e)
    go false e = inr (λ s. let both : true ≡ false = sym (eq-eqb p q s) ∙ e in cc)

pub less_than : (p q : ℕ) → p ≤ q → p ≢ q → p < q
less_than p q h n = go (grind arith)
  where
    go : (p < q) ⊎ (p ≡ q) → p < q
    go (inl l) = l
    go (inr e) = absurd (n e)

self : ℕ → ℕ → ℕ
self c i = if c == i then 1 else 0

self_is : (c i : ℕ) → c ≡ i → self c i ≡ 1
unfolding self
self_is c i e = ap (λ t. if t then 1 else 0) (eq-eqb c i e)

self_not : (c i : ℕ) → c ≢ i → self c i ≡ 0
unfolding self
self_not c i n = go (c == i) refl
  where
    go : (t : Bool) → (c == i) ≡ t → ◌≡◌ {A = ℕ} (if t then 1 else 0) 0
    go true e = absurd (n (eqb-true c i e))
    go false e = refl

count_more : (c i : ℕ) (cs : List ℕ) → count_from i (c ∷ cs) ≡ self c i + count_from (i + 1) cs
unfolding self
count_more c i cs = refl

-- as many places have themselves where another one gets another one
count_kept : (cs : List ℕ) (i j v : ℕ) → get_or cs j 0 ≢ i + j → v ≢ i + j → count_from i (set cs j v) ≡ count_from i cs
count_kept [] i j v h n = refl
count_kept (c ∷ cs) i zero v h n =
    let z : i + 0 ≡ i = omega arith in
    omega (arith, count_more c i cs, count_more v i cs, self_not c i (λ e. h (e ∙ sym z)), self_not v i (λ e. n (e ∙ sym z)))
count_kept (c ∷ cs) i (suc j) v h n =
    let z : i + 1 + j ≡ i + suc j = omega arith in
    omega (arith, count_more c i cs, count_more c i (set cs j v), count_kept cs (i + 1) j v (λ e. h (e ∙ z)) (λ e. n (e ∙ z)))

-- and one less where it had itself
pub count_less : (cs : List ℕ) (i j v : ℕ) → j < length cs → get_or cs j 0 ≡ i + j → v ≢ i + j → count_from i (set cs j v) + 1 ≡ count_from i cs
count_less [] i j v l h n = absurd (omega arith)
count_less (c ∷ cs) i zero v l h n =
    let z : i + 0 ≡ i = omega arith in
    omega (arith, count_more c i cs, count_more v i cs, self_is c i (h ∙ z), self_not v i (λ e. n (e ∙ sym z)))
count_less (c ∷ cs) i (suc j) v l h n =
    let z : i + 1 + j ≡ i + suc j = omega arith in
    omega (arith, count_more c i cs, count_more c i (set cs j v), count_less cs (i + 1) j v (omega arith) (h ∙ sym z) (λ e. n (e ∙ z)))

pub trees_start : (parents : List ℕ) → AreParents parents → AreSameTrees parents parents
trees_start parents h = record { long = refl; parents = h; roots = λ p i. (λ e. e, λ e. e); labels = λ label l. l; count = refl }

-- A place gets the parent of its parent.
module _ (old now : List ℕ) (s : AreSameTrees old now) (p : ℕ) (inside : p < length old) (below : parent now p ≢ p) where
  abbrev above : ℕ
  above = parent now (parent now p)

  pub parent_less : parent now p < p
  parent_less = less_than (parent now p) p (s.parents p (let l = s.long in omega arith)) below

  pub above_less : above < p
  above_less = let h = s.parents (parent now p) (let l = s.long in let m = parent_less in omega arith) in let m = parent_less in omega arith

  at_place : parent (set now p above) p ≡ above
  at_place = get_or-set_same now p above 0 (let l = s.long in omega arith)

  at_other : (q : ℕ) → q ≢ p → parent (set now p above) q ≡ parent now q
  at_other q n = get_or-set_other now p q above 0 n

  pub halved : (new : List ℕ) → new ≡ set now p above → AreSameTrees old new
  halved new e = subst (AreSameTrees old) (sym e) (record {
    long = long;
    parents = λ q h. before q h (same_or q p);
    roots = λ q h. (λ e. (s.roots q h).0 (forth q (same_or q p) e), λ e. back q (same_or q p) ((s.roots q h).1 e));
    labels = λ label l q h. labelled label (s.labels label l) q h (same_or q p);
    count = count_kept now 0 p above (λ e. below (let z : 0 + p ≡ p = omega arith in e ∙ z)) (λ e. not_self (let z : 0 + p ≡ p = omega arith in e ∙ z)) ∙ s.count;
  })
    where
      long : length (set now p above) ≡ length old
      long = length-set now p above ∙ s.long

      not_self : above ≢ p
      not_self e = let h = above_less in absurd (omega arith)

      before : (q : ℕ) → q < length (set now p above) → (q ≡ p) ⊎ (q ≢ p) → parent (set now p above) q ≤ q
      before q h (inl e) = subst (λ (r : ℕ). parent (set now p above) r ≤ r) (sym e) (let a = at_place in let l = above_less in omega arith)
      before q h (inr n) = let o = at_other q n in let k = s.parents q (let l = long in let m = s.long in omega arith) in omega arith

      forth : (q : ℕ) → (q ≡ p) ⊎ (q ≢ p) → parent (set now p above) q ≡ q → parent now q ≡ q
      forth q (inl e) r = absurd (not_self (sym at_place ∙ subst (λ (x : ℕ). parent (set now p above) x ≡ x) e r))
      forth q (inr n) r = sym (at_other q n) ∙ r

      back : (q : ℕ) → (q ≡ p) ⊎ (q ≢ p) → parent now q ≡ q → parent (set now p above) q ≡ q
      back q (inl e) r = absurd (below (subst (λ (x : ℕ). parent now x ≡ x) e r))
      back q (inr n) r = at_other q n ∙ r

      labelled : (label : ℕ → ℕ) → IsLabelling now label → (q : ℕ) → q < length (set now p above) → (q ≡ p) ⊎ (q ≢ p) → label (parent (set now p above) q) ≡ label q
      labelled label l q h (inl e) =
          let up = l (parent now p) (let a = parent_less in let m = s.long in omega arith) in
          subst (λ (x : ℕ). label (parent (set now p above) x) ≡ label x) (sym e) (ap label at_place ∙ up ∙ l p (let m = s.long in omega arith))
      labelled label l q h (inr n) = ap label (at_other q n) ∙ l q (let o = long in let m = s.long in omega arith)

  -- so it keeps its label
  pub above_label : (label : ℕ → ℕ) → IsLabelling old label → label above ≡ label p
  above_label label l =
      let k = s.labels label l in
      k (parent now p) (let a = parent_less in let m = s.long in omega arith) ∙ k p (let m = s.long in omega arith)

-- the same trees are the same classes
pub kept : (old new heads classes : List ℕ) → IsForest old heads classes → AreSameTrees old new → IsForest new heads classes
kept old new heads classes f s = record {
  long_parents = s.long ∙ f.long_parents;
  long_heads = f.long_heads;
  parents_are = s.parents;
  one_class = s.labels (class classes) f.one_class;
  head = λ p h r. f.head p h ((s.roots p (inside p h)).0 r);
  one_root = λ p q h k r t e. f.one_root p q h k ((s.roots p (inside p h)).0 r) ((s.roots q (inside q k)).0 t) e;
}
  where
    inside : (p : ℕ) → p < length classes → p < length old
    inside p h = let l = f.long_parents in omega arith

pub forest_starts : (ns : List Node) (parents : List ℕ) → AreClasses ns parents → AreParents parents → IsForest parents parents parents
forest_starts ns parents k h = record {
  long_parents = refl;
  long_heads = refl;
  parents_are = h;
  one_class = λ p i. k.stands p (let l = k.long in omega arith);
  head = λ p i r. refl;
  one_root = λ p q h k r t e. sym r ∙ e ∙ t;
}

-- The later one of two roots gets the earlier one as its parent, whose head is that of one of them.
module _ (parents heads classes : List ℕ) (f : IsForest parents heads classes) (low high old new : ℕ) (order : low < high) (inside : high < length classes) (low_root : parent parents low ≡ low) (high_root : parent parents high ≡ high) (are : ((class classes low ≡ old) × (class classes high ≡ new)) ⊎ ((class classes low ≡ new) × (class classes high ≡ old))) (differ : old ≢ new) where
  abbrev linked_parents : List ℕ
  linked_parents = set parents high low

  abbrev linked_heads : List ℕ
  linked_heads = set heads low new

  abbrev merged : List ℕ
  merged = map (relabel old new) classes

  class_merged : (p : ℕ) → p < length classes → class merged p ≡ relabel old new (class classes p)
  class_merged p h = get_or-map (relabel old new) classes p 0 0 h

  new_stays : relabel old new new ≡ new
  new_stays = relabel_other old new new (λ e. differ (sym e))

  low_class : class merged low ≡ new
  low_class = class_merged low (omega arith) ∙ go are
    where
      go : ((class classes low ≡ old) × (class classes high ≡ new)) ⊎ ((class classes low ≡ new) × (class classes high ≡ old)) → relabel old new (class classes low) ≡ new
      go (inl e) = relabel_same old new (class classes low) e.0
      go (inr e) = ap (relabel old new) e.0 ∙ new_stays

  high_class : class merged high ≡ new
  high_class = class_merged high inside ∙ go are
    where
      go : ((class classes low ≡ old) × (class classes high ≡ new)) ⊎ ((class classes low ≡ new) × (class classes high ≡ old)) → relabel old new (class classes high) ≡ new
      go (inl e) = ap (relabel old new) e.1 ∙ new_stays
      go (inr e) = relabel_same old new (class classes high) e.1

  -- of the roots the two have these classes alone
  ends_at : (p : ℕ) → p < length classes → parent parents p ≡ p → (class classes p ≡ old) ⊎ (class classes p ≡ new) → (p ≡ low) ⊎ (p ≡ high)
  ends_at p h r c = go are c
    where
      is_low : class classes p ≡ class classes low → p ≡ low
      is_low e = f.one_root p low h (omega arith) r low_root e

      is_high : class classes p ≡ class classes high → p ≡ high
      is_high e = f.one_root p high h inside r high_root e

      go : ((class classes low ≡ old) × (class classes high ≡ new)) ⊎ ((class classes low ≡ new) × (class classes high ≡ old)) → (class classes p ≡ old) ⊎ (class classes p ≡ new) → (p ≡ low) ⊎ (p ≡ high)
      go (inl e) (inl c) = inl (is_low (c ∙ sym e.0))
      go (inl e) (inr c) = inr (is_high (c ∙ sym e.1))
      go (inr e) (inl c) = inr (is_high (c ∙ sym e.1))
      go (inr e) (inr c) = inl (is_low (c ∙ sym e.0))

  at_high : parent linked_parents high ≡ low
  at_high = get_or-set_same parents high low 0 (let l = f.long_parents in omega arith)

  at_not_high : (p : ℕ) → p ≢ high → parent linked_parents p ≡ parent parents p
  at_not_high p n = get_or-set_other parents high p low 0 n

  -- a root was one, and isn't the later one
  was_root : (p : ℕ) → parent linked_parents p ≡ p → (p ≢ high) × (parent parents p ≡ p)
  was_root p r = (not_high, sym (at_not_high p not_high) ∙ r)
    where
      not_high : p ≢ high
      not_high e = let l : low ≡ high = sym at_high ∙ subst (λ (x : ℕ). parent linked_parents x ≡ x) e r in absurd (omega arith)

  -- a root but the earlier one keeps its class
  keeps : (p : ℕ) → p < length classes → parent linked_parents p ≡ p → p ≢ low → (class classes p ≢ old) × (class classes p ≢ new)
  keeps p h r n = (λ e. out (ends_at p h (was_root p r).1 (inl e)), λ e. out (ends_at p h (was_root p r).1 (inr e)))
    where
      out : (p ≡ low) ⊎ (p ≡ high) → ⊥
      out (inl e) = n e
      out (inr e) = (was_root p r).0 e

  other_class : (p : ℕ) → p < length classes → parent linked_parents p ≡ p → p ≢ low → class merged p ≡ class classes p
  other_class p h r n = class_merged p h ∙ relabel_other old new (class classes p) (keeps p h r n).0

  pub linked : IsForest linked_parents linked_heads merged
  linked = record {
    long_parents = length-set parents high low ∙ f.long_parents ∙ sym long;
    long_heads = length-set heads low new ∙ f.long_heads ∙ sym long;
    parents_are = λ p h. before p h (same_or p high);
    one_class = λ p h. same p (let l = length-set parents high low in let m = f.long_parents in omega arith) (same_or p high);
    head = λ p h r. head p (let l = long in omega arith) r (same_or p low);
    one_root = λ p q h k r t e. one p q (let l = long in omega arith) (let l = long in omega arith) r t e (same_or p low) (same_or q low);
  }
    where
      long : length merged ≡ length classes
      long = length-map classes (relabel old new)

      before : (p : ℕ) → p < length linked_parents → (p ≡ high) ⊎ (p ≢ high) → parent linked_parents p ≤ p
      before p h (inl e) = subst (λ (x : ℕ). parent linked_parents x ≤ x) (sym e) (let a = at_high in omega arith)
      before p h (inr n) = let o = at_not_high p n in let k = f.parents_are p (let l = length-set parents high low in omega arith) in omega arith

      same : (p : ℕ) → p < length classes → (p ≡ high) ⊎ (p ≢ high) → class merged (parent linked_parents p) ≡ class merged p
      same p h (inl e) = subst (λ (x : ℕ). class merged (parent linked_parents x) ≡ class merged x) (sym e) (ap (class merged) at_high ∙ low_class ∙ sym high_class)
      same p h (inr n) =
          let up = f.parents_are p (let l = f.long_parents in omega arith) in
          ap (class merged) (at_not_high p n) ∙ class_merged (parent parents p) (omega arith) ∙ ap (relabel old new) (f.one_class p (let l = f.long_parents in omega arith)) ∙ sym (class_merged p h)

      head : (p : ℕ) → p < length classes → parent linked_parents p ≡ p → (p ≡ low) ⊎ (p ≢ low) → get_or linked_heads p 0 ≡ class merged p
      head p h r (inl e) = subst (λ (x : ℕ). get_or linked_heads x 0 ≡ class merged x) (sym e) (get_or-set_same heads low new 0 (let l = f.long_heads in omega arith) ∙ sym low_class)
      head p h r (inr n) = get_or-set_other heads low p new 0 n ∙ f.head p h (was_root p r).1 ∙ sym (other_class p h r n)

      one : (p q : ℕ) → p < length classes → q < length classes → parent linked_parents p ≡ p → parent linked_parents q ≡ q → class merged p ≡ class merged q → (p ≡ low) ⊎ (p ≢ low) → (q ≡ low) ⊎ (q ≢ low) → p ≡ q
      one p q h k r t e (inl a) (inl b) = a ∙ sym b
      one p q h k r t e (inl a) (inr b) = absurd ((keeps q k t b).1 (sym (other_class q k t b) ∙ sym e ∙ ap (class merged) a ∙ low_class))
      one p q h k r t e (inr a) (inl b) = absurd ((keeps p h r a).1 (sym (other_class p h r a) ∙ e ∙ ap (class merged) b ∙ low_class))
      one p q h k r t e (inr a) (inr b) = f.one_root p q h k (was_root p r).1 (was_root q t).1 (sym (other_class p h r a) ∙ e ∙ other_class q k t b)

-- the heads before a place are those of its class, and the others are as they were
pub record Settling (parents initial heads : List ℕ) (place : ℕ) : Type 0 where
  pub long : length heads ≡ length parents
  pub done : (classes : List ℕ) → IsForest parents initial classes → (p : ℕ) → p < place → p < length classes → get_or heads p 0 ≡ class classes p
  pub others : (p : ℕ) → place ≤ p → get_or heads p 0 ≡ get_or initial p 0

pub settling_more : (parents initial heads new : List ℕ) (place head : ℕ) → AreParents parents → place < length parents → Settling parents initial heads place → head ≡ get_or heads (parent parents place) 0 → new ≡ set heads place head → Settling parents initial new (place + 1)
settling_more parents initial heads new place head h inside s is e = subst (λ (l : List ℕ). Settling parents initial l (place + 1)) (sym e) (record {
  long = length-set heads place head ∙ s.long;
  done = λ classes f p l i. done classes f p l i (same_or p place);
  others = λ p l. get_or-set_other heads place p head 0 (λ e. absurd (omega arith)) ∙ s.others p (omega arith);
})
  where
    its_class : (classes : List ℕ) → IsForest parents initial classes → place < length classes → (parent parents place ≡ place) ⊎ (parent parents place ≢ place) → head ≡ class classes place
    its_class classes f i (inl r) = is ∙ ap (λ x. get_or heads x 0) r ∙ s.others place (omega arith) ∙ f.head place i r
    its_class classes f i (inr n) =
        let l = less_than (parent parents place) place (h place inside) n in
        is ∙ s.done classes f (parent parents place) l (omega arith) ∙ f.one_class place inside

    done : (classes : List ℕ) → IsForest parents initial classes → (p : ℕ) → p < place + 1 → p < length classes → (p ≡ place) ⊎ (p ≢ place) → get_or (set heads place head) p 0 ≡ class classes p
    done classes f p l i (inl e) = subst (λ (x : ℕ). get_or (set heads place head) x 0 ≡ class classes x) (sym e) (get_or-set_same heads place head 0 (let m = s.long in omega arith) ∙ its_class classes f (let z = e in omega arith) (same_or (parent parents place) place))
    done classes f p l i (inr n) = get_or-set_other heads place p head 0 n ∙ s.done classes f p (less_than p place (omega arith) n) i
