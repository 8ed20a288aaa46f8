-- The precedence that options name is total on the signature, with and without the encoding's symbols.
use Rattle.std.proofs.Common.{◌≡◌, ℕ, Bool, true, false, not, List, ◌++◌, take, drop, Option, Some, None, is_none, find, refl, sym, ap, ◌∙◌, subst, ◌⊎◌, inl, inr, take-append-drop, append_assoc}
use Rattle.std.proofs.lemmas.Bool.{false≢true}
use Rattle.uc_term.specs.declared.node.Sym.{Sym}
use Rattle.uc_term.specs.declared.signature.Signature.{Signature}
use Rattle.uc_term.specs.Table.{Table, name_of}
use Rattle.uc_term.specs.Signatures.{first_named}
use Rattle.uc_order.specs.Members.{In, AreDistinct}
use Rattle.uc_order.specs.Precedence.{IsTotalOn}
use Rattle.uc_ordering.specs.Choice.{first_again, with_behind}
use Rattle.uc_ordering.specs.Precedence.{is_named, unnamed, symbols_named, by_arity, precedence_of}
use Rattle.uc_ordering.proofs.Lists.{In-left, In-right, In-cases, In-filter, filter-In, each_in, in_each, distinct-append, distinct-filter, distinct-left, distinct-right, distinct-apart}
use Rattle.uc_ordering.proofs.Signatures.{Signed}
use Rattle.uc_ordering.proofs.Named.{find_none-in, any_in, in_any, distinct_names, named_from, named_to, distinct_named}
use Rattle.uc_ordering.proofs.Sorted.{sorted_in, in_sorted, distinct_sorted}

bool_cases : (b : Bool) → (b ≡ true) ⊎ (b ≡ false)
bool_cases true = inl refl
bool_cases false = inr refl

not_true : (b : Bool) → not b ≡ true → b ≡ false
not_true true e = absurd (false≢true e)
not_true false e = refl

is_some_by : {X : Type 0} (o : Option X) → is_none o ≡ false → (x : X) × (o ≡ Some x)
is_some_by None e = absurd (false≢true (sym e))
is_some_by (Some x) e = (x, refl)

module _ (table : Table) (own : List Sym) (signature : Signature) (s : Signed table own signature) (names : List (List ℕ)) (known : find (λ name. is_none (first_named table name own)) names ≡ None) where
  -- a name that is known is that of one symbol of the signature
  pub known_symbol : (name : List ℕ) → In names name → (f : Sym) × (first_named table name own ≡ Some f)
  known_symbol name i = is_some_by (first_named table name own) (find_none-in (λ n. is_none (first_named table n own)) names known name i)

  pub same_symbol_of : (f : Sym) (name : List ℕ) → In signature.symbols f → In names name → name ≡ name_of table f → first_named table name own ≡ Some f
  same_symbol_of f name i j e = elim (s.cases f i) [
    | inl k ↦ ap (λ n. first_named table n own) e ∙ s.apart.found f k
    | inr none ↦ absurd (let g = known_symbol name j in let r : Some g.0 ≡ None = sym g.1 ∙ ap (λ n. first_named table n own) e ∙ none in cc)
  ]

  abbrev pub precedence : List Sym
  precedence = precedence_of table own signature.symbols names

  abbrev pub rest : List Sym
  rest = unnamed table names signature.symbols

  rest_in : (f : Sym) → In (by_arity table rest) f → In signature.symbols f × (is_named table names f ≡ false)
  rest_in f i = let r = filter-In (λ g. not (is_named table names g)) signature.symbols f (in_sorted table rest f i) in (r.0, not_true (is_named table names f) r.1)

  known_in : (f : Sym) → In precedence f → In signature.symbols f
  known_in f i = elim (In-cases (by_arity table rest) (symbols_named table own names) f i) [
    | inl j ↦ (rest_in f j).0
    | inr j ↦ s.own_in f (named_from table own names f j).1
  ]

  all_in : (f : Sym) → In signature.symbols f → In precedence f
  all_in f i = elim (bool_cases (is_named table names f)) [
    | inl e ↦ (let j = any_in (name_of table f) names e in In-right (by_arity table rest) (symbols_named table own names) f (named_to table own names (name_of table f) f (same_symbol_of f (name_of table f) i j refl) j))
    | inr e ↦ In-left (by_arity table rest) (symbols_named table own names) f (sorted_in table rest f (In-filter (λ g. not (is_named table names g)) signature.symbols f i (ap not e)))
  ]

  module _ (once : first_again names ≡ None) where
    distinct_all : AreDistinct precedence
    distinct_all =
        distinct-append (by_arity table rest) (symbols_named table own names) (distinct_sorted table rest (distinct-filter (λ g. not (is_named table names g)) signature.symbols s.distinct)) (distinct_named table own names (distinct_names names once))
        (λ f i j. absurd (false≢true (sym (rest_in f i).1 ∙ in_any (name_of table f) names (named_from table own names f j).0)))

    pub total : IsTotalOn signature.symbols precedence
    total = (each_in (In signature.symbols) precedence known_in, distinct_all, each_in (In precedence) signature.symbols all_in)

-- the encoding's symbols are three, and none of the signature's
pub record AreApart (fs marks : List Sym) : Type 0 where
  pub three : AreDistinct marks
  pub others : (f : Sym) → In fs f → In marks f → ⊥

-- a precedence with more symbols somewhere in it
module _ (fs marks list : List Sym) (n : ℕ) (t : IsTotalOn fs list) (a : AreApart fs marks) where
  whole : take n list ++ drop n list ≡ list
  whole = take-append-drop n list

  both : AreDistinct (take n list ++ drop n list)
  both = let P : List Sym → Type 0 = AreDistinct in subst P (sym whole) t.1

  old : (f : Sym) → In (take n list ++ drop n list) f → In fs f
  old f i = in_each (In fs) list f t.0 (let P : List Sym → Type 0 = λ l. In l f in subst P whole i)

  known : (f : Sym) → In (take n list ++ (marks ++ drop n list)) f → In (fs ++ marks) f
  known f i = elim (In-cases (take n list) (marks ++ drop n list) f i) [
    | inl j ↦ In-left fs marks f (old f (In-left (take n list) (drop n list) f j))
    | inr k ↦ elim (In-cases marks (drop n list) f k) [ inl j ↦ In-right fs marks f j | inr j ↦ In-left fs marks f (old f (In-right (take n list) (drop n list) f j)) ]
  ]

  has : (f : Sym) → In (fs ++ marks) f → In (take n list ++ (marks ++ drop n list)) f
  has f i = elim (In-cases fs marks f i) [
    | inl j ↦ (let k = in_each (In list) fs f t.2 j in let P : List Sym → Type 0 = λ l. In l f in elim (In-cases (take n list) (drop n list) f (subst P (sym whole) k)) [
      | inl l ↦ In-left (take n list) (marks ++ drop n list) f l
      | inr l ↦ In-right (take n list) (marks ++ drop n list) f (In-right marks (drop n list) f l)
    ])
    | inr j ↦ In-right (take n list) (marks ++ drop n list) f (In-left marks (drop n list) f j)
  ]

  distinct : AreDistinct (take n list ++ (marks ++ drop n list))
  distinct =
      distinct-append (take n list) (marks ++ drop n list) (distinct-left (take n list) (drop n list) both)
      (distinct-append marks (drop n list) a.three (distinct-right (take n list) (drop n list) both) (λ f i j. a.others f (old f (In-right (take n list) (drop n list) f j)) i))
      (λ f i k. elim (In-cases marks (drop n list) f k) [ inl j ↦ a.others f (old f (In-left (take n list) (drop n list) f i)) j | inr j ↦ distinct-apart (take n list) (drop n list) both f i j ])

  pub total_with : IsTotalOn (fs ++ marks) (with_behind n list marks)
  total_with =
      let made : IsTotalOn (fs ++ marks) (take n list ++ (marks ++ drop n list)) = (each_in (In (fs ++ marks)) (take n list ++ (marks ++ drop n list)) known, distinct, each_in (In (take n list ++ (marks ++ drop n list))) (fs ++ marks) has) in
      let P : List Sym → Type 0 = IsTotalOn (fs ++ marks) in
      subst P (sym (append_assoc (take n list) marks (drop n list))) made
