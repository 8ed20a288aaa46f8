-- A term is printed node by node.
use Rattle.std.proofs.Common.{◌≡◌, ℕ, zero, suc, ◌+◌, ◌<◌, ◌≤◌, List, [], ◌∷◌, ◌++◌, length, length-take, length-drop, take, drop, refl, sym, ap, ◌∙◌, subst, arith, append_assoc, append-nil, reverse}
use Rattle.std.proofs.Common.{get_or}
use Rattle.std.proofs.lemmas.List.{drop_all, drop_more, reverse-append}
use Rattle.uc_term.specs.declared.node.Sym.{Sym}
use Rattle.uc_term.specs.declared.node.Node.{Node}
use Rattle.uc_term.specs.declared.node.Node.TheVariants.{Var, App}
use Rattle.uc_term.specs.Tree.{Tree, app, of_list, count}
use Rattle.uc_term.specs.Flat.{flat, spelled, AreWhole}
use Rattle.uc_term.specs.Code.{spelled-flat}
use Rattle.uc_term.specs.Over.{AreOver}
use Rattle.uc_term.specs.Table.{Table, Has, IsOf, arity_of, name_of}
use Rattle.std.proofs.lemmas.List.{take_more}
use Rattle.uc_term.specs.Variables.{variables}
use Rattle.uc_term.proofs.NodeVars.{node_vars, node_vars-append, node_vars-flat}
use Rattle.uc_clause.specs.Printable.{AreNumbered, IsNumberedNode}
use Rattle.uc_term.proofs.Terms.{take_of_length-le, count-of_list, whole-drop}
use Rattle.uc_clause.specs.Names.{spelling}
use Rattle.uc_clause.specs.Printing.{variable_text, term_text, rest_text}
use Rattle.uc_clause.specs.Marks.{closing, marks_behind, node_text, arguments_of, HasSymbol}

abbrev pub AreOf : Table → List Tree → Type 0
AreOf table [] = Unit {0}
AreOf table (t ∷ ts) = IsOf table t × AreOf table ts

-- what stands behind a term, where these are the terms to come
abbrev pub behind_text : Table → List ℕ → List Tree → List ℕ
behind_text table [] ts = []
behind_text table (k ∷ ks) ts = rest_text table (of_list (take k ts)) ++ behind_text table ks (drop k ts)

-- the text of the terms to come
abbrev pub next_text : Table → List ℕ → List Tree → List ℕ
next_text table ks [] = []
next_text table ks (t ∷ ts) = term_text table t ++ behind_text table ks ts

abbrev pub total : List ℕ → ℕ
total [] = 0
total (k ∷ ks) = k + total ks

-- behind the next term as many are to come as the open brackets want; at the end none is open
abbrev pub IsDue : List ℕ → List Tree → Type 0
IsDue ks [] = ks ≡ []
IsDue ks (t ∷ ts) = total ks ≡ length ts

pub closing_due : (ks : List ℕ) (ts : List Tree) → total ks ≡ length ts → IsDue (closing ks).pending ts
closing_due [] [] e = refl
closing_due (zero ∷ ks) ts e = closing_due ks ts (omega arith)
closing_due (suc k ∷ ks) (t ∷ ts) e = omega arith
closing_due v w e = absurd (omega arith)

pub closing_text : (table : Table) (ks : List ℕ) (ts : List Tree) → total ks ≡ length ts → behind_text table ks ts ≡ (closing ks).text ++ next_text table (closing ks).pending ts
closing_text table [] [] e = refl
closing_text table (zero ∷ ks) ts e = ap (λ l. 41 ∷ l) (closing_text table ks ts (omega arith))
closing_text table (suc k ∷ ks) (t ∷ ts) e = ap (λ l. 44 ∷ l) (append_assoc (term_text table t) (rest_text table (of_list (take k ts))) (behind_text table ks (drop k ts)))
closing_text table v w e = absurd (omega arith)

-- the terms that behind a node are to come are so many as it wants
wide : (f : Sym) (k : ℕ) (ns : List Node) → AreWhole (App f k ∷ ns) → k ≤ length (spelled ns)
wide f k ns w =
    let heads : App f (count (of_list (take k (spelled ns)))) ≡ App f k = heads_of (App f (count (of_list (take k (spelled ns))))) (App f k) _ ns w in
    let same : count (of_list (take k (spelled ns))) ≡ k = arity_once f (count (of_list (take k (spelled ns)))) k heads in
    omega (arith, count-of_list (take k (spelled ns)), length-take k (spelled ns))
  where
    heads_of : (n m : Node) (ns ms : List Node) → n ∷ ns ≡ m ∷ ms → n ≡ m
    heads_of n m ns ms e = cc

    arity_once : (f : Sym) (a b : ℕ) → App f a ≡ App f b → a ≡ b
    arity_once f a b e = cc

-- what printing a node leaves to be printed
pub record Step (table : Table) (n : Node) (ks : List ℕ) (before after : List Tree) : Type 0 where
  pub due : IsDue (marks_behind (arguments_of n) ks).pending after
  pub text : next_text table ks before ≡ node_text table n ++ ((marks_behind (arguments_of n) ks).text ++ next_text table (marks_behind (arguments_of n) ks).pending after)

leaf_text : (table : Table) (front : List ℕ) (ks : List ℕ) (ts : List Tree) → total ks ≡ length ts → front ++ behind_text table ks ts ≡ front ++ ((closing ks).text ++ next_text table (closing ks).pending ts)
leaf_text table front ks ts e = ap (λ l. front ++ l) (closing_text table ks ts e)

app_step : (table : Table) (f : Sym) (k : ℕ) (ks : List ℕ) (xs : List Tree) → k ≤ length xs → total ks ≡ length (drop k xs) → Step table (App f k) ks (app f (of_list (take k xs)) ∷ drop k xs) xs
app_step table f zero ks xs h e = record {
  due = closing_due ks xs e;
  text = append_assoc (spelling (name_of table f)) [] (behind_text table ks xs) ∙ leaf_text table (spelling (name_of table f)) ks xs e;
}
app_step table f (suc k) ks [] h e = absurd (omega arith)
app_step table f (suc k) ks (u ∷ us) h e = record {
  due = omega (arith, length-drop k us);
  text = append_assoc (spelling (name_of table f)) (40 ∷ term_text table u ++ rest_text table (of_list (take k us))) (behind_text table ks (drop k us)) ∙ ap (λ l. spelling (name_of table f) ++ (40 ∷ l)) (append_assoc (term_text table u) (rest_text table (of_list (take k us))) (behind_text table ks (drop k us)));
}

pub step : (table : Table) (n : Node) (ns : List Node) (ks : List ℕ) → AreWhole (n ∷ ns) → IsDue ks (spelled (n ∷ ns)) → Step table n ks (spelled (n ∷ ns)) (spelled ns)
step table (Var x) ns ks w due = record {
  due = closing_due ks (spelled ns) due;
  text = leaf_text table (variable_text x) ks (spelled ns) due;
}
step table (App f k) ns ks w due = app_step table f k ks (spelled ns) (wide f k ns w) due

are_of_split : (table : Table) (k : ℕ) (xs : List Tree) → AreOver (Has table) (arity_of table) (λ _. Unit {0}) (of_list (take k xs)) → AreOf table (drop k xs) → AreOf table xs
are_of_split table zero xs front back = back
are_of_split table (suc k) [] front back = tt
are_of_split table (suc k) (x ∷ xs) front back = (front.0, are_of_split table k xs front.1 back)

pub of_table : (table : Table) (n : Node) (ns : List Node) → AreOf table (spelled (n ∷ ns)) → HasSymbol table n × AreOf table (spelled ns)
of_table table (Var x) ns over = (tt, over.1)
of_table table (App f k) ns over = (over.0.0, are_of_split table k (spelled ns) over.0.2 over.1)

-- the loop over the nodes
module _ (table : Table) (nodes : List Node) (i : ℕ) (d : Node) (within : i < length nodes) (whole : AreWhole nodes) where
  here : drop i nodes ≡ get_or nodes i d ∷ drop (i + 1) nodes
  here = drop_more nodes i d within

  pub of_node : AreOf table (spelled (drop i nodes)) → HasSymbol table (get_or nodes i d) × AreOf table (spelled (drop (i + 1) nodes))
  of_node over = of_table table (get_or nodes i d) (drop (i + 1) nodes) (subst (λ ns. AreOf table (spelled ns)) here over)

  pub node_step : (ks : List ℕ) → IsDue ks (spelled (drop i nodes)) → Step table (get_or nodes i d) ks (spelled (drop i nodes)) (spelled (drop (i + 1) nodes))
  node_step ks due =
      let ahead : AreWhole (get_or nodes i d ∷ drop (i + 1) nodes) = subst AreWhole here (whole-drop i nodes whole) in
      let due_here : IsDue ks (spelled (get_or nodes i d ∷ drop (i + 1) nodes)) = subst (λ ns. IsDue ks (spelled ns)) here due in
      subst (λ ns. Step table (get_or nodes i d) ks (spelled ns) (spelled (drop (i + 1) nodes))) (sym here) (step table (get_or nodes i d) (drop (i + 1) nodes) ks ahead due_here)

-- what is printed so far, with the text of the terms to come, is the whole
pub record Ahead (table : Table) (ks : List ℕ) (terms : List Tree) (out whole : List ℕ) : Type 0 where
  pub due : IsDue ks terms
  pub over : AreOf table terms
  pub text : out ++ next_text table ks terms ≡ whole

pub ahead_start : (table : Table) (t : Tree) (nodes : List Node) (pending out : List ℕ) → nodes ≡ flat t → pending ≡ [] → IsOf table t → Ahead table (reverse pending) (spelled nodes) out (out ++ term_text table t)
ahead_start table t nodes pending out e p over =
    let one : spelled nodes ≡ t ∷ [] = ap spelled (e ∙ sym (append-nil (flat t))) ∙ spelled-flat t [] in
    let base : Ahead table [] (t ∷ []) out (out ++ term_text table t) = record { due = refl; over = (over, tt); text = ap (λ l. out ++ l) (append-nil (term_text table t)) } in
    subst (λ ks. Ahead table ks (spelled nodes) out (out ++ term_text table t)) (sym (ap reverse p)) (subst (λ us. Ahead table [] us out (out ++ term_text table t)) (sym one) base)

stepped : (table : Table) (n : Node) (ks ks' : List ℕ) (before after : List Tree) (out middle behind whole : List ℕ) → Step table n ks before after → AreOf table after → middle ≡ out ++ node_text table n → behind ≡ middle ++ (marks_behind (arguments_of n) ks).text → ks' ≡ (marks_behind (arguments_of n) ks).pending → Ahead table ks before out whole → Ahead table ks' after behind whole
stepped table n ks ks' before after out middle behind whole s over a b c ahead = record {
  due = subst (λ l. IsDue l after) (sym c) s.due;
  over = over;
  text = rw (b, c, a) (append_assoc (out ++ node_text table n) (marks_behind (arguments_of n) ks).text (next_text table (marks_behind (arguments_of n) ks).pending after) ∙ append_assoc out (node_text table n) ((marks_behind (arguments_of n) ks).text ++ next_text table (marks_behind (arguments_of n) ks).pending after) ∙ ap (λ l. out ++ l) (sym s.text) ∙ ahead.text);
}

pub ahead_more : (table : Table) (nodes : List Node) (i : ℕ) (d : Node) (k : ℕ) (ks ks' out middle behind whole : List ℕ) → i < length nodes → AreWhole nodes → k ≡ arguments_of (get_or nodes i d) → middle ≡ out ++ node_text table (get_or nodes i d) → behind ≡ middle ++ (marks_behind k ks).text → ks' ≡ (marks_behind k ks).pending → Ahead table ks (spelled (drop i nodes)) out whole → Ahead table ks' (spelled (drop (i + 1) nodes)) behind whole
ahead_more table nodes i d k ks ks' out middle behind whole within w e a b c ahead =
    stepped table (get_or nodes i d) ks ks' (spelled (drop i nodes)) (spelled (drop (i + 1) nodes)) out middle behind whole (node_step table nodes i d within w ks ahead.due) (of_node table nodes i d within w ahead.over).1 a (rw e at b) (rw e at c) ahead

pub ahead_end : (table : Table) (nodes : List Node) (i : ℕ) (ks out whole : List ℕ) → length nodes ≤ i → Ahead table ks (spelled (drop i nodes)) out whole → out ≡ whole
ahead_end table nodes i ks out whole h ahead =
    let none_left : drop i nodes ≡ [] = drop_all i nodes h in
    let text : out ++ [] ≡ whole = subst (λ ns. out ++ next_text table ks (spelled ns) ≡ whole) none_left ahead.text in
    sym (append-nil out) ∙ text

-- a number taken from the end of the list that is read from there
pub popped : (items new : List ℕ) (left : ℕ) → items ≡ new ++ left ∷ [] → reverse items ≡ left ∷ reverse new
popped items new left e = ap reverse e ∙ reverse-append new (left ∷ [])

pub closed_text : (out longer items new : List ℕ) (left : ℕ) → items ≡ new ++ left ∷ [] → left ≤ 0 → longer ≡ out ++ 41 ∷ [] → longer ++ (closing (reverse new)).text ≡ out ++ (closing (reverse items)).text
closed_text out longer items new left e h m =
    let none_left : left ≡ 0 = omega arith in
    rw (m, popped items new left e, none_left) (append_assoc out (41 ∷ []) (closing (reverse new)).text)

pub closed_pending : (items new : List ℕ) (left : ℕ) → items ≡ new ++ left ∷ [] → left ≤ 0 → (closing (reverse new)).pending ≡ (closing (reverse items)).pending
closed_pending items new left e h = let none_left : left ≡ 0 = omega arith in rw (popped items new left e, none_left) refl

-- the numbers of variables
pub numbered_both : (xs ys : List ℕ) → AreNumbered xs → AreNumbered ys → AreNumbered (xs ++ ys)
numbered_both [] ys h k = k
numbered_both (x ∷ xs) ys h k = (h.0, numbered_both xs ys h.1 k)

pub numbered_split : (xs ys : List ℕ) → AreNumbered (xs ++ ys) → AreNumbered xs × AreNumbered ys
numbered_split [] ys h = (tt, h)
numbered_split (x ∷ xs) ys h = let both = numbered_split xs ys h.1 in ((h.0, both.0), both.1)

numbered_node : (n : Node) → IsNumberedNode n → AreNumbered (node_vars (n ∷ []))
numbered_node (Var x) h = (h, tt)
numbered_node (App f k) h = tt

pub numbered_more : (nodes : List Node) (i : ℕ) (d : Node) → i < length nodes → AreNumbered (node_vars (take i nodes)) → IsNumberedNode (get_or nodes i d) → AreNumbered (node_vars (take (i + 1) nodes))
numbered_more nodes i d h before n =
    subst AreNumbered (sym (ap node_vars (take_more nodes i d h) ∙ node_vars-append (take i nodes) (get_or nodes i d ∷ []))) (numbered_both (node_vars (take i nodes)) (node_vars (get_or nodes i d ∷ [])) before (numbered_node (get_or nodes i d) n))

pub numbered_end : (nodes : List Node) (t : Tree) (i : ℕ) → nodes ≡ flat t → length nodes ≤ i → AreNumbered (node_vars (take i nodes)) → AreNumbered (variables t)
numbered_end nodes t i e h numbered = subst AreNumbered (ap node_vars (take_of_length-le nodes i h ∙ e) ∙ node_vars-flat t) numbered
