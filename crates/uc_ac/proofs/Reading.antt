-- What reading a node makes of the stack of terms that were read.
use Rattle.std.proofs.Common.{◌≡◌, ℕ, zero, suc, ◌+◌, ◌<◌, ◌≤◌, ◌∙◌, List, [], ◌∷◌, ◌++◌, Option, Some, Vec, length, take, drop, get_or, min, reverse, slice_get, refl, sym, ap, subst, arith, ◌⊎◌, inl, inr, append_assoc, append-nil}
use Rattle.std.specs.declared.alloc.Global.{Global}
use Rattle.std.specs.Option.{option_to_list}
use Rattle.std.specs.List.Sorted.{IsNonDecreasing}
use Rattle.std.proofs.lemmas.List.{length-append, reverse-append, length-reverse, length-take, length-take-le}
use Rattle.uc_term.specs.declared.node.Sym.{Sym}
use Rattle.uc_term.specs.declared.node.Node.{Node}
use Rattle.uc_term.specs.declared.node.Node.TheVariants.{Var, App}
use Rattle.uc_term.specs.Tree.{Tree, var, app, none, more, list_of, of_list, count}
use Rattle.uc_term.specs.Code.{list_of-of_list, spelled-flat}
use Rattle.uc_term.specs.Flat.{flat, flat_all, spelled, tree_of, trees_of, IsWhole, AreWhole}
use Rattle.uc_term.proofs.Terms.{count-of_list, whole-drop}
use Rattle.uc_term.proofs.Ahead.{drop-at}
use Rattle.uc_order.specs.Laws.{pair_of}
use Rattle.uc_order.specs.Members.{In}
use Rattle.uc_ac.specs.declared.numbering.Read.{Read}
use Rattle.uc_ac.specs.declared.numbering.Read.TheVariants.{Class, Parts}
use Rattle.uc_ac.specs.Reordered.{IsTaken, taken_first, taken_later, IsReordered, no_element, one_element}
use Rattle.uc_ac.specs.AcEqual.{parts, IsBinaryOf}
use Rattle.uc_ac.specs.Classes.{variable_class, symbol_class, parts_class, IsGrown, Has, has_variable, has_arguments, has_parts, AllHave, none_has, one_has, ArePartsOf, IsRead, variable_read, arguments_read, parts_read, AreRead, none_read, one_read, Stands, after, AreClosed}
use Rattle.uc_ac.proofs.Reordering.{Reordered-refl, Reordered-trans, Reordered-append}
use Rattle.uc_ac.proofs.Parts.{parts-pair, parts-other, parts-single}
use Rattle.uc_ac.proofs.Found.{past}
use Rattle.uc_ac.proofs.OneClass.{kept_classes, kept_parts, kept_stack}

-- the stack and its top
top_first : (rs : List Read) (r : Read) → reverse (rs ++ r ∷ []) ≡ r ∷ reverse rs
top_first rs r = reverse-append rs (r ∷ [])

-- what a stack gives, unwrapped
pub unwrapped : (old new : List Read) (o : Option Read) (r : Read) → old ≡ new ++ option_to_list o → o ≡ Some r → old ≡ new ++ r ∷ []
unwrapped old new o r e is = e ∙ ap (λ p. new ++ option_to_list p) is

module _ (symbols : List Sym) (table : List (List ℕ)) where
  pub pushed : (rs new : List Read) (r : Read) (ts : List Tree) (t : Tree) → new ≡ rs ++ r ∷ [] → IsRead symbols table r t → Stands symbols table rs ts → Stands symbols table new (t ∷ ts)
  pushed rs new r ts t e h s = subst (λ l. AreRead symbols table l (t ∷ ts)) (sym (ap reverse e ∙ top_first rs r)) (one_read h s)

  -- what comes off the stack
  pub record Popped (r : Read) (rs : List Read) (ts : List Tree) : Type 0 where
    pub first : Tree
    pub others : List Tree
    pub terms : ts ≡ first ∷ others
    pub is_read : IsRead symbols table r first
    pub left : Stands symbols table rs others

  first_of : (r : Read) (rs : List Read) (ts : List Tree) → AreRead symbols table (r ∷ reverse rs) ts → Popped r rs ts
  first_of r rs _ (one_read {t = t} {ts = ts} h s) = record { first = t; others = ts; terms = refl; is_read = h; left = s }

  pub popped : (old rs : List Read) (r : Read) (ts : List Tree) → old ≡ rs ++ r ∷ [] → Stands symbols table old ts → Popped r rs ts
  popped old rs r ts e s = first_of r rs ts (subst (λ l. AreRead symbols table l ts) (ap reverse e ∙ top_first rs r) s)

  as_many : (rs : List Read) (ts : List Tree) → AreRead symbols table rs ts → length rs ≡ length ts
  as_many _ _ none_read = refl
  as_many _ _ (one_read {rs = rs} {ts = ts} h s) = ap suc (as_many rs ts s)

  pub stack_length : (rs : List Read) (ts : List Tree) → Stands symbols table rs ts → length rs ≡ length ts
  stack_length rs ts s = sym (length-reverse rs) ∙ as_many (reverse rs) ts s

-- two lists one behind the other, the other way round
taken_between : {A : Type 0} (x : A) (xs ys : List A) → IsTaken x (ys ++ x ∷ xs) (ys ++ xs)
taken_between x xs [] = taken_first
taken_between x xs (y ∷ ys) = taken_later (taken_between x xs ys)

exchanged : {A : Type 0} (xs ys : List A) → IsReordered (xs ++ ys) (ys ++ xs)
exchanged [] ys = subst (IsReordered ys) (sym (append-nil ys)) (Reordered-refl ys)
exchanged (x ∷ xs) ys = one_element (taken_between x xs ys) (exchanged xs ys)

module _ (symbols : List Sym) (table : List (List ℕ)) where
  both_have : (js ks : List ℕ) (ss ts : List Tree) → AllHave symbols table js ss → AllHave symbols table ks ts → AllHave symbols table (js ++ ks) (ss ++ ts)
  both_have _ ks _ ts none_has h = h
  both_have _ ks _ ts (one_has {ks = js} {ts = ss} d ds) h = one_has d (both_have js ks ss ts ds h)

  module _ (f : Sym) where
    -- a term that isn't put together by f
    one_part : (k : ℕ) (t : Tree) → parts f t ≡ t ∷ [] → Has symbols table k t → ArePartsOf symbols table f (k ∷ []) t
    one_part k t e h = record { list = t ∷ []; reordered = subst (λ l. IsReordered l (t ∷ [])) (sym e) (Reordered-refl (t ∷ [])); classes = one_has h none_has }

    pub parts_of_class : (ks : List ℕ) (k : ℕ) (t : Tree) → ks ≡ k ∷ [] → In symbols f → IsRead symbols table (Class k) t → ArePartsOf symbols table f ks t
    parts_of_class ks k t e i r = subst (λ l. ArePartsOf symbols table f l t) (sym e) (go k t r)
      where
        go : (k : ℕ) (t : Tree) → IsRead symbols table (Class k) t → ArePartsOf symbols table f (k ∷ []) t
        go k _ (variable_read {x = x} h) = one_part k (var x) refl h
        go k _ (arguments_read {f = g} {ts = ts} n h) = one_part k (app g ts) (parts-single f g ts (λ e two. n (subst (In symbols) (sym e) i, two))) h

    pub parts_of_same : (g : Sym) (ks : Vec ℕ Global) (t : Tree) → g ≡ f → IsRead symbols table (Parts g ks) t → ArePartsOf symbols table f ks.items t
    parts_of_same g ks _ e (parts_read {a = a} {b = b} i p) = subst (λ h. ArePartsOf symbols table h ks.items (pair_of g a b)) e p

    -- the parts of two terms are those of the term that f makes of them
    pub parts_of_pair : (js ks both : List ℕ) (s t : Tree) → (both ≡ js ++ ks) ⊎ (both ≡ ks ++ js) → ArePartsOf symbols table f js s → ArePartsOf symbols table f ks t → ArePartsOf symbols table f both (pair_of f s t)
    parts_of_pair js ks both s t (inl e) p q = record {
      list = p.list ++ q.list;
      reordered = subst (λ l. IsReordered l (p.list ++ q.list)) (sym (parts-pair f s t)) (Reordered-append p.reordered q.reordered);
      classes = subst (λ l. AllHave symbols table l (p.list ++ q.list)) (sym e) (both_have js ks p.list q.list p.classes q.classes);
    }
    parts_of_pair js ks both s t (inr e) p q = record {
      list = q.list ++ p.list;
      reordered = subst (λ l. IsReordered l (q.list ++ p.list)) (sym (parts-pair f s t)) (Reordered-trans (Reordered-append p.reordered q.reordered) (exchanged p.list q.list));
      classes = subst (λ l. AllHave symbols table l (q.list ++ p.list)) (sym e) (both_have ks js q.list p.list q.classes p.classes);
    }

    -- the sorted list of the parts' classes is the term's class
    pub sorted_class : (k : ℕ) (ks js : List ℕ) (a b : Tree) → In symbols f → ArePartsOf symbols table f ks (pair_of f a b) → IsReordered ks js → IsNonDecreasing js → slice_get table k ≡ Some (parts_class f js) → Has symbols table k (pair_of f a b)
    sorted_class k ks js a b i p r up at =
        let moved = reordered_terms r p.classes in
        has_parts i at up (Reordered-trans p.reordered moved.2) moved.1
      where
        taken_term : {k : ℕ} {ks rest : List ℕ} {t : Tree} {ts : List Tree} → IsTaken k ks rest → Has symbols table k t → AllHave symbols table rest ts → (us : List Tree) × AllHave symbols table ks us × IsTaken t us ts
        taken_term {t = t} {ts = ts} taken_first h hs = (t ∷ ts, one_has h hs, taken_first)
        taken_term (taken_later q) h (one_has {t = u} d ds) = let z = taken_term q h ds in (u ∷ z.0, one_has d z.1, taken_later z.2)

        reordered_terms : {ks js : List ℕ} {ts : List Tree} → IsReordered ks js → AllHave symbols table ks ts → (us : List Tree) × AllHave symbols table js us × IsReordered ts us
        reordered_terms no_element none_has = ([], none_has, no_element)
        reordered_terms (one_element q r) (one_has h hs) =
            let z = reordered_terms r hs in
            let y = taken_term q h z.1 in
            (y.0, y.1, one_element y.2 z.2)

    pub parts_of_other : (g : Sym) (ks : Vec ℕ Global) (t : Tree) (k : ℕ) (js : List ℕ) → (g ≡ f → ⊥) → js ≡ k ∷ [] → (old : List (List ℕ)) → IsRead symbols old (Parts g ks) t → ((a b : Tree) → In symbols g → ArePartsOf symbols old g ks.items (pair_of g a b) → Has symbols table k (pair_of g a b)) → ArePartsOf symbols table f js t
    parts_of_other g ks t k js n e old r h = subst (λ l. ArePartsOf symbols table f l t) (sym e) (go ks t r h)
      where
        go : (ks : Vec ℕ Global) (t : Tree) → IsRead symbols old (Parts g ks) t → ((a b : Tree) → In symbols g → ArePartsOf symbols old g ks.items (pair_of g a b) → Has symbols table k (pair_of g a b)) → ArePartsOf symbols table f (k ∷ []) t
        go ks _ (parts_read {a = a} {b = b} i p) h = one_part k (pair_of g a b) (parts-other f g (more a (more b none)) n) (h a b i p)

  -- the class of a term that was read
  pub closed_class : (k : ℕ) (t : Tree) → IsRead symbols table (Class k) t → Has symbols table k t
  closed_class k _ (variable_read h) = h
  closed_class k _ (arguments_read n h) = h

pub closed_parts : (symbols : List Sym) (old new : List (List ℕ)) (f : Sym) (ks : Vec ℕ Global) (k : ℕ) (t : Tree) → IsRead symbols old (Parts f ks) t → ((a b : Tree) → In symbols f → ArePartsOf symbols old f ks.items (pair_of f a b) → Has symbols new k (pair_of f a b)) → Has symbols new k t
closed_parts symbols old new f ks k _ (parts_read {a = a} {b = b} i p) h = h a b i p

-- the next term
split_one : (d : ℕ) (ts : List Tree) (x : Tree) (xs : List Tree) → drop d ts ≡ x ∷ xs → (take (suc d) ts ≡ take d ts ++ x ∷ []) × (drop (suc d) ts ≡ xs)
split_one zero [] x xs e = absurd cc
split_one zero (t ∷ ts) x xs e = let first : t ≡ x = cc in let rest : ts ≡ xs = cc in (ap (λ z. z ∷ []) first, rest)
split_one (suc d) [] x xs e = absurd cc
split_one (suc d) (t ∷ ts) x xs e = let r = split_one d ts x xs e in (ap (λ l. t ∷ l) r.0, r.1)

none_taken : (n : ℕ) (ts : List Tree) → n ≡ 0 → (take n ts ≡ []) × (drop n ts ≡ ts)
none_taken zero ts e = (refl, refl)
none_taken (suc n) ts e = absurd (omega arith)

module _ (symbols : List Sym) (table : List (List ℕ)) where
  pub closed_none : (stack : List Read) (numbers : List ℕ) (n : ℕ) (ts : List Tree) → n ≡ 0 → Stands symbols table stack ts → AreClosed symbols table stack numbers numbers n ts
  closed_none stack numbers n ts e s =
      let k = none_taken n ts e in
      record {
        classes = [];
        new_is = sym (append-nil numbers);
        have = subst (AllHave symbols table []) (sym k.0) none_has;
        rest = subst (Stands symbols table stack) (sym k.1) s;
      }

  pub closed_more : (new_table : List (List ℕ)) → IsGrown table new_table → (stack new_stack : List Read) (r : Read) (numbers before now : List ℕ) (k d e : ℕ) (ts : List Tree) → AreClosed symbols table stack numbers before d ts → stack ≡ new_stack ++ r ∷ [] → ((t : Tree) → IsRead symbols table r t → Has symbols new_table k t) → now ≡ before ++ k ∷ [] → e ≡ suc d → AreClosed symbols new_table new_stack numbers now e ts
  closed_more new_table g stack new_stack r numbers before now k d e ts c top class is next =
      let p = popped symbols table stack new_stack r (drop d ts) top c.rest in
      let q = split_one d ts p.first p.others p.terms in
      subst (λ n. AreClosed symbols new_table new_stack numbers now n ts) (sym next) (record {
        classes = c.classes ++ k ∷ [];
        new_is = is ∙ ap (λ l. l ++ k ∷ []) c.new_is ∙ append_assoc numbers c.classes (k ∷ []);
        have = subst (AllHave symbols new_table (c.classes ++ k ∷ [])) (sym q.0) (both_have symbols new_table c.classes (k ∷ []) (take d ts) (p.first ∷ []) (kept_classes symbols table new_table g c.classes (take d ts) c.have) (one_has (class p.first p.is_read) none_has));
        rest = subst (Stands symbols new_table new_stack) (sym q.1) (kept_stack symbols table new_table g (reverse new_stack) p.others p.left);
      })

pub one_less : (old new : List Read) (r : Read) → old ≡ new ++ r ∷ [] → length old ≡ length new + 1
one_less old new r e = ap length e ∙ length-append new (r ∷ [])

-- behind the last node no term begins
pub none_stands : (symbols : List Sym) (table : List (List ℕ)) (stack : List Read) (ns : List Node) → stack ≡ [] → Stands symbols table stack (spelled (drop (length ns) ns))
none_stands symbols table stack ns e =
    let end : drop (length ns) ns ≡ [] = past ns (length ns) (omega arith) in
    subst (λ l. Stands symbols table l (spelled (drop (length ns) ns))) (sym e) (subst (λ (l : List Node). AreRead symbols table [] (spelled l)) (sym end) none_read)

pub from_start : (ns : List Node) (p : ℕ) → p ≡ 0 → drop p ns ≡ ns
from_start ns zero e = refl
from_start ns (suc p) e = absurd (omega arith)

-- reading a variable
pub variable_reads : (symbols : List Sym) (old new : List (List ℕ)) (stack new_stack : List Read) (x k : ℕ) (ts : List Tree) → IsGrown old new → slice_get new k ≡ Some (variable_class x) → new_stack ≡ stack ++ Class k ∷ [] → Stands symbols old stack ts → Stands symbols new new_stack (var x ∷ ts)
variable_reads symbols old new stack new_stack x k ts g at e s = pushed symbols new stack new_stack (Class k) ts (var x) e (variable_read (has_variable at)) (kept_stack symbols old new g (reverse stack) ts s)

-- reading a symbol
pub symbol_reads : (symbols : List Sym) (old mid new : List (List ℕ)) (stack left new_stack : List Read) (f : Sym) (n k : ℕ) (class start : List ℕ) (ts : List Tree) → (In symbols f × (n ≡ 2) → ⊥) → n ≤ length stack → IsGrown mid new → start ≡ 1 ∷ f.0 ∷ [] → slice_get new k ≡ Some class → new_stack ≡ left ++ Class k ∷ [] → AreClosed symbols mid left start class n ts → Stands symbols old stack ts → Stands symbols new new_stack (app f (of_list (take n ts)) ∷ drop n ts)
symbol_reads symbols old mid new stack left new_stack f n k class start ts other enough g is at e c s =
    let many : length (take n ts) ≡ n = length-take-le n ts (let l = stack_length symbols old stack ts s in omega arith) in
    let not : IsBinaryOf symbols f (of_list (take n ts)) → ⊥ = λ b. other (b.0, sym many ∙ sym (count-of_list (take n ts)) ∙ b.1) in
    let written : slice_get new k ≡ Some (symbol_class f c.classes) = at ∙ ap Some (c.new_is ∙ ap (λ l. l ++ c.classes) is) in
    let have : AllHave symbols new c.classes (list_of (of_list (take n ts))) = subst (AllHave symbols new c.classes) (sym (list_of-of_list (take n ts))) (kept_classes symbols mid new g c.classes (take n ts) c.have) in
    pushed symbols new left new_stack (Class k) (drop n ts) (app f (of_list (take n ts))) e (arguments_read not (has_arguments not written have)) (kept_stack symbols mid new g (reverse left) (drop n ts) c.rest)

-- reading one of the binary symbols
pub pair_reads : (symbols : List Sym) (old mid new : List (List ℕ)) (stack once twice new_stack : List Read) (f : Sym) (r q : Read) (left right : List ℕ) (both : Vec ℕ Global) (ts : List Tree) → In symbols f → IsGrown old mid → IsGrown mid new → stack ≡ once ++ r ∷ [] → once ≡ twice ++ q ∷ [] → new_stack ≡ twice ++ Parts f both ∷ [] → ((t : Tree) → IsRead symbols old r t → ArePartsOf symbols mid f left t) → ((t : Tree) → IsRead symbols mid q t → ArePartsOf symbols new f right t) → (both.items ≡ left ++ right) ⊎ (both.items ≡ right ++ left) → Stands symbols old stack ts → Stands symbols new new_stack (app f (of_list (take 2 ts)) ∷ drop 2 ts)
pair_reads symbols old mid new stack once twice new_stack f r q left right both ts i g h top next is first second are s =
    let p = popped symbols old stack once r ts top s in
    let o = popped symbols mid once twice q p.others next (kept_stack symbols old mid g (reverse once) p.others p.left) in
    let a = kept_parts symbols mid new h f left p.first (first p.first p.is_read) in
    let b = second o.first o.is_read in
    let pair = parts_read i (parts_of_pair symbols new f left right both.items p.first o.first are a b) in
    let all : ts ≡ p.first ∷ o.first ∷ o.others = p.terms ∙ ap (λ l. p.first ∷ l) o.terms in
    subst (λ l. Stands symbols new new_stack (app f (of_list (take 2 l)) ∷ drop 2 l)) (sym all) (pushed symbols new twice new_stack (Parts f both) o.others (pair_of f p.first o.first) is pair (kept_stack symbols mid new h (reverse twice) o.others o.left))

-- the terms that begin with a node are enough for its arguments
module _ (ns : List Node) (p : ℕ) (d : Node) (w : AreWhole ns) (h : p < length ns) where
  pub read_next : spelled (drop p ns) ≡ after (get_or ns p d) (spelled (drop (p + 1) ns))
  read_next = ap spelled (drop-at ns p d h) ∙ spelled_after (get_or ns p d) (drop (p + 1) ns)
    where
      spelled_after : (n : Node) (ms : List Node) → spelled (n ∷ ms) ≡ after n (spelled ms)
      spelled_after (Var x) ms = refl
      spelled_after (App f n) ms = refl

  pub enough_terms : (f : Sym) (n : ℕ) → get_or ns p d ≡ App f n → n ≤ length (spelled (drop (p + 1) ns))
  enough_terms f n e =
      let l = spelled (drop (p + 1) ns) in
      let at : drop p ns ≡ App f n ∷ drop (p + 1) ns = drop-at ns p d h ∙ ap (λ m. m ∷ drop (p + 1) ns) e in
      let whole : flat_all (trees_of (App f n ∷ drop (p + 1) ns)) ≡ App f n ∷ drop (p + 1) ns = subst AreWhole at (whole-drop p ns w) in
      let many : count (of_list (take n l)) ≡ n = cc in
      let took : length (take n l) ≡ n = sym (count-of_list (take n l)) ∙ many in
      let most : length (take n l) ≡ min n (length l) = length-take n l in
      omega (arith, took, most)

-- all nodes are read: one term is on the stack
module _ (symbols : List Sym) (table : List (List ℕ)) (ns : List Node) (w : IsWhole ns) where
  whole_term : spelled ns ≡ tree_of ns ∷ []
  whole_term = ap spelled (sym w ∙ sym (append-nil (flat (tree_of ns)))) ∙ spelled-flat (tree_of ns) []

  pub one_term : (stack : List Read) → Stands symbols table stack (spelled ns) → length stack ≡ 1
  one_term stack s = stack_length symbols table stack (spelled ns) s ∙ ap length whole_term

  pub its_class : (stack rest : List Read) (r : Read) (new : List (List ℕ)) (k : ℕ) → stack ≡ rest ++ r ∷ [] → Stands symbols table stack (spelled ns) → ((t : Tree) → IsRead symbols table r t → Has symbols new k t) → Has symbols new k (tree_of ns)
  its_class stack rest r new k e s class =
      let p = popped symbols table stack rest r (spelled ns) e s in
      let both : tree_of ns ∷ [] ≡ p.first ∷ p.others = sym whole_term ∙ p.terms in
      let same : p.first ≡ tree_of ns = cc in
      subst (Has symbols new k) same (class p.first p.is_read)
