-- Terms of join lines, from what terms among tokens are.
use Rattle.std.proofs.Common.{◌≡◌, ℕ, zero, suc, ◌+◌, ◌-◌, ◌<◌, ◌≤◌, Bool, true, false, List, [], ◌∷◌, ◌++◌, length, map, Option, Some, None, refl, sym, ap, ◌∙◌, subst, arith}
use Rattle.std.specs.Prelude.{slice_get, bytes_eq, is_none, if◌then◌else◌, ◌||◌}
use Rattle.std.specs.List.{list_any, AllByRecursion}
use Rattle.std.proofs.lemmas.Slice.Eq.{bytes_eq-Decides}
use Rattle.uc_term.specs.Tree.{Tree, Trees}
use Rattle.uc_term.specs.Table.{Table, Grows}
use Rattle.uc_clause.specs.declared.token.Token.{Token}
use Rattle.uc_clause.specs.declared.terminal.Terminal.{Terminal}
use Rattle.uc_clause.specs.declared.terminal.Terminal.TheVariants.{Upper}
use Rattle.uc_clause.specs.declared.grammar.head.Head.TheVariants.{Variable}
use Rattle.uc_clause.specs.declared.grammar.stop.Why.{Why}
use Rattle.uc_clause.specs.declared.grammar.stop.Why.TheVariants.{NoToken}
use Rattle.uc_clause.specs.Terminals.{terminal_at, bytes_at}
use Rattle.uc_clause.specs.Rules.{Outcome, read, stop, mapped}
use Rattle.uc_clause.specs.Parse.{Parse, Parses, variable, applied, no_more, also, variables, variables_all}
use Rattle.uc_clause.specs.Terms.{Term, Args, head_of, head_at, is_variable, is_constant, is_applied, is_node_too_many, is_no_term, stops_in_it, is_last, is_followed, is_one_too_many, is_followed_by_neither}
use Rattle.uc_clause.specs.Meaning.{Variables, with_name, with_names, variables_in, Means, MeanAll, variable_means, functor_means, none_mean, more_mean}
use Rattle.uc_clause.specs.Reading.{ReadsTermAt}
use Rattle.uc_clause.specs.Printing.{variable_text}
use Rattle.uc_clause.specs.Interning.{with_term, InternsAt}
use Rattle.uc_clause.proofs.ReadOnce.{term_once}
use Rattle.uc_clause.proofs.Means.{means_grows, extends_not}
use Rattle.uc_certificate.specs.JoinLines.{named_by, variable_by, is_foreign_by, is_foreign, first_foreign, stop_place, end_of, at_first, TermAt, is_term, has_foreign}
use Rattle.uc_certificate.specs.JoinLines as rules
use Rattle.uc_certificate.specs.JoinMeaning.{MeansTerm, MeanTerms, variable_is, functor_is, no_terms, more_terms}
use Rattle.uc_certificate.specs.Reads.{ReadsAs, AreVariables}
use Rattle.uc_certificate.proofs.Foreign.{none_foreign}
use Rattle.uc_certificate.proofs.VariableNames.{named_is, text_once}

same_parse : {p q : Parse} {k l : ℕ} → Path (Outcome Parse) (read p k) (read q l) → p ≡ q
same_parse e = cc

module _ (bytes : List ℕ) (tokens : List Token) where
  -- the variables of a parse stand among its tokens
  abbrev IsAmong : ℕ → ℕ → ℕ → Type 0
  IsAmong from end k = (from ≤ k) × (k < end) × (terminal_at bytes tokens k ≡ Upper)

  abbrev AreAmong : ℕ → ℕ → List ℕ → Type 0
  AreAmong from end ks = AllByRecursion (IsAmong from end) ks

  wider : (from low high end : ℕ) (ks : List ℕ) → low ≤ from → end ≤ high → AreAmong from end ks → AreAmong low high ks
  wider from low high end [] l h all = tt
  wider from low high end (k ∷ ks) l h all = ((omega (arith, all.0.0), omega (arith, all.0.1), all.0.2), wider from low high end ks l h all.1)

  both : (from end : ℕ) (ks js : List ℕ) → AreAmong from end ks → AreAmong from end js → AreAmong from end (ks ++ js)
  both from end [] js a b = b
  both from end (k ∷ ks) js a b = (a.0, both from end ks js a.1 b)

  among_left : (from end : ℕ) (ks js : List ℕ) → AreAmong from end (ks ++ js) → AreAmong from end ks
  among_left from end [] js a = tt
  among_left from end (k ∷ ks) js a = (a.0, among_left from end ks js a.1)

  among_right : (from end : ℕ) (ks js : List ℕ) → AreAmong from end (ks ++ js) → AreAmong from end js
  among_right from end [] js a = a
  among_right from end (k ∷ ks) js a = among_right from end ks js a.1

  upper_by : (t : Terminal) → head_of t ≡ Variable → t ≡ Upper
  upper_by Upper e = refl
  upper_by t e = absurd cc

  abbrev IfReadTerm : ℕ → Outcome Parse → Type 0
  IfReadTerm from (read p end) = (from < end) × AreAmong from end (variables p)
  IfReadTerm from (stop why k) = Unit {0}

  abbrev IfReadTerms : ℕ → Outcome Parses → Type 0
  IfReadTerms from (read ps end) = (from < end) × AreAmong from end (variables_all ps)
  IfReadTerms from (stop why k) = Unit {0}

  of_applied : (from at k : ℕ) (o : Outcome Parses) → from ≤ at → IfReadTerms at o → IfReadTerm from (mapped (applied k) o)
  of_applied from at k (read ps end) h all = (omega (arith, all.0), wider at from end end (variables_all ps) h (omega arith) all.1)
  of_applied from at k (stop why j) h all = tt

  of_also : (from middle : ℕ) (p : Parse) (o : Outcome Parses) → from ≤ middle → AreAmong from middle (variables p) → IfReadTerms middle o → IfReadTerms from (mapped (also p) o)
  of_also from middle p (read ps end) h first all = (omega (arith, all.0), both from end (variables p) (variables_all ps) (wider from from end middle (variables p) (omega arith) (omega (arith, all.0)) first) (wider middle from end end (variables_all ps) h (omega arith) all.1))
  of_also from middle p (stop why j) h first all = tt

  mutual
    among : {used at : ℕ} {o : Outcome Parse} → Term bytes tokens used at o → IfReadTerm at o
    among (is_variable {at = at} h u) = (omega arith, ((omega arith, omega arith, upper_by (terminal_at bytes tokens at) h), tt))
    among (is_constant h u n) = (omega arith, tt)
    among (is_applied {at = at} {outcome = o} h u e args) = of_applied at (at + 2) at o (omega arith) (among_all args)
    among (is_node_too_many h u) = tt
    among (is_no_term h) = tt

    among_all : {functor number used at : ℕ} {o : Outcome Parses} → Args bytes tokens functor number used at o → IfReadTerms at o
    among_all (stops_in_it t) = tt
    among_all (is_last {at = at} {end = end} {p = p} t c) = let a = among t in (omega (arith, a.0), both at (end + 1) (variables p) [] (wider at at (end + 1) end (variables p) (omega arith) (omega arith) a.1) tt)
    among_all (is_followed {at = at} {end = end} {p = p} {outcome = o} t c n rest) = let a = among t in of_also at (end + 1) p o (omega (arith, a.0)) (wider at at (end + 1) end (variables p) (omega arith) (omega arith) a.1) (among_all rest)
    among_all (is_one_too_many t c n) = tt
    among_all (is_followed_by_neither t c n) = tt

  stays : (seen : Variables) (x : List ℕ) → list_any (bytes_eq x) seen ≡ true → with_name seen x ≡ seen
  stays seen x e = rw e refl

  some_named : (o : Option ℕ) → is_none o ≡ false → (n : ℕ) × (o ≡ Some n)
  some_named None e = absurd cc
  some_named (Some n) e = (n, refl)

  get_at : (xs : Variables) (i : ℕ) → i < length xs → (x : List ℕ) × (slice_get xs i ≡ Some x)
  get_at [] i h = absurd (omega arith)
  get_at (x ∷ xs) zero h = (x, refl)
  get_at (x ∷ xs) (suc i) h = get_at xs i (omega arith)

  within : (xs : Variables) (i : ℕ) (x : List ℕ) → slice_get xs i ≡ Some x → i < length xs
  within [] i x e = absurd cc
  within (y ∷ xs) zero x e = omega arith
  within (y ∷ xs) (suc i) x e = omega (arith, within xs i x e)

  any_by : (x y : List ℕ) (ys : Variables) (t : Bool) → bytes_eq x y ≡ t → list_any (bytes_eq x) ys ≡ true → list_any (bytes_eq x) (y ∷ ys) ≡ true
  any_by x y ys true q h = rw q refl
  any_by x y ys false q h = rw q h

  any_at : (x : List ℕ) (xs : Variables) (i : ℕ) → slice_get xs i ≡ Some x → list_any (bytes_eq x) xs ≡ true
  any_at x [] i e = absurd cc
  any_at x (y ∷ ys) zero e =
      let same : x ≡ y = cc in
      let t : bytes_eq x y ≡ true = (bytes_eq-Decides x y).1 same in
      rw t refl
  any_at x (y ∷ ys) (suc i) e = any_by x y ys (bytes_eq x y) refl (any_at x ys i e)

  module _ (seen : Variables) (are : AreVariables bytes tokens seen) where
    named_at : (from end k : ℕ) → first_foreign bytes tokens (end - from) from ≡ None → IsAmong from end k → (n : ℕ) × (named_by (bytes_at bytes tokens k) ≡ Some n)
    named_at from end k none h =
        let f : is_foreign bytes tokens k ≡ false = none_foreign bytes tokens (end - from) from k none h.0 (omega (arith, h.1)) in
        let named : is_none (named_by (bytes_at bytes tokens k)) ≡ false = subst (λ t. is_foreign_by t (bytes_at bytes tokens k) ≡ false) h.2 f in
        some_named (named_by (bytes_at bytes tokens k)) named

    known_name : (from end k : ℕ) → first_foreign bytes tokens (end - from) from ≡ None → IsAmong from end k → list_any (bytes_eq (bytes_at bytes tokens k)) seen ≡ true
    known_name from end k none h =
        let s = named_at from end k none h in
        let v : variable_by (terminal_at bytes tokens k) (bytes_at bytes tokens k) ≡ Some s.0 = subst (λ t. variable_by t (bytes_at bytes tokens k) ≡ Some s.0) (sym h.2) s.1 in
        let got = get_at seen s.0 (are.all k s.0 v) in
        let text : bytes_at bytes tokens k ≡ variable_text s.0 = (named_is (bytes_at bytes tokens k) s.0 s.1).0 in
        any_at (bytes_at bytes tokens k) seen s.0 (got.1 ∙ ap Some (are.names s.0 got.0 got.1 ∙ sym text))

    same_names : (from end : ℕ) (ks : List ℕ) → first_foreign bytes tokens (end - from) from ≡ None → AreAmong from end ks → with_names seen (map (bytes_at bytes tokens) ks) ≡ seen
    same_names from end [] none h = refl
    same_names from end (k ∷ ks) none h = ap (λ s. with_names s (map (bytes_at bytes tokens) ks)) (stays seen (bytes_at bytes tokens k) (known_name from end k none h.0)) ∙ same_names from end ks none h.1

    names_it : (from end k n : ℕ) → first_foreign bytes tokens (end - from) from ≡ None → IsAmong from end k → slice_get seen n ≡ Some (bytes_at bytes tokens k) → named_by (bytes_at bytes tokens k) ≡ Some n
    names_it from end k n none h g =
        let s = named_at from end k none h in
        let r = named_is (bytes_at bytes tokens k) s.0 s.1 in
        let small : n < 8192 = omega (arith, within seen n (bytes_at bytes tokens k) g, are.few) in
        let same : s.0 ≡ n = text_once s.0 n r.1 small (sym r.0 ∙ are.names n (bytes_at bytes tokens k) g) in
        s.1 ∙ ap Some same

    module _ (from end : ℕ) (none : first_foreign bytes tokens (end - from) from ≡ None) (table : Table) where
      mutual
        says : {p : Parse} {t : Tree} → AreAmong from end (variables p) → Means bytes tokens table seen p t → MeansTerm bytes tokens table p t
        says a (variable_means {k = k} {n = n} g) = variable_is (names_it from end k n none a.0 g)
        says a (functor_means s all) = functor_is s (say_all a all)

        say_all : {ps : Parses} {ts : Trees} → AreAmong from end (variables_all ps) → MeanAll bytes tokens table seen ps ts → MeanTerms bytes tokens table ps ts
        say_all a none_mean = no_terms
        say_all a (more_mean {p = p} {ps = ps} m all) = more_terms (says (among_left from end (variables p) (variables_all ps) a) m) (say_all (among_right from end (variables p) (variables_all ps) a) all)

    module _ (from end : ℕ) (more : Variables) (table : Table) (t : Tree) (r : ReadsTermAt bytes tokens from end seen more table t) where
      module _ (none : first_foreign bytes tokens (end - from) from ≡ None) where
        pub same_seen : more ≡ seen
        same_seen = r.seen_is ∙ same_names from end (variables r.parse) none (among r.reads).1

        pub term_reads : (old : Table) → InternsAt (Term bytes tokens 0 from) (with_term bytes tokens) old table end → ReadsAs (rules.term bytes tokens) (MeansTerm bytes tokens) (with_term bytes tokens) from end old table t
        term_reads old i = record {
          parse = r.parse;
          reads = is_term {outcome = read r.parse end} r.reads none;
          means = λ later g. says from end none later (among r.reads).1 (means_grows bytes tokens table later seen seen g (extends_not seen) (subst (λ s. Means bytes tokens table s r.parse t) same_seen r.means));
          interns = i.new_is ∙ ap (with_term bytes tokens old) (same_parse (term_once bytes tokens i.reads r.reads));
        }

      pub term_foreign : (k : ℕ) → first_foreign bytes tokens (end - from) from ≡ Some k → TermAt bytes tokens from (stop NoToken k)
      term_foreign k f = has_foreign {outcome = read r.parse end} r.reads f

  pub stop_foreign : (from at k : ℕ) (why : Why) → Term bytes tokens 0 from (stop why at) → first_foreign bytes tokens (at - from) from ≡ Some k → TermAt bytes tokens from (stop NoToken k)
  stop_foreign from at k why h f = has_foreign {outcome = stop why at} h f

  pub stop_known : (from at : ℕ) (why : Why) → Term bytes tokens 0 from (stop why at) → first_foreign bytes tokens (at - from) from ≡ None → TermAt bytes tokens from (stop why (stop_place why from at))
  stop_known from at why h f = is_term {outcome = stop why at} h f
