-- A text reads in one way.
use Rattle.std.proofs.Common.{◌≡◌, ℕ, ◌+◌, ◌<◌, ◌≤◌, Bool, true, false, List, [], ◌∷◌, length, drop, length-drop, refl, sym, ap, ap₂, ◌∙◌, subst, arith, codes, Option, Some, None, Result, Ok, Err}
use Rattle.std.specs.Prelude.{slice_get, not, bytes_eq}
use Rattle.std.specs.List.{position, position_from, list_any}
use Rattle.std.proofs.lemmas.Iterator.Adapters.{position_from-zero}
use Rattle.uc_term.specs.declared.node.Sym.{Sym}
use Rattle.uc_term.specs.Tree.{Tree, var, Trees, count}
use Rattle.uc_term.specs.Table.{Table, IsSymbol, IsDistinct}
use Rattle.uc_clause.specs.declared.token.Token.{Token}
use Rattle.uc_clause.specs.declared.grammar.stop.Why.{Why}
use Rattle.uc_clause.specs.Distinct.{AreDistinct}
use Rattle.uc_clause.specs.Terminals.{word_at}
use Rattle.uc_clause.specs.Tokens.{Cut, place_of}
use Rattle.uc_clause.specs.Parse.{Parse, Parses}
use Rattle.uc_clause.specs.Rules as tokens
use Rattle.uc_clause.proofs.Once.{cut_once}
use Rattle.uc_check.specs.declared.proof.Proof.{Proof}
use Rattle.uc_tstp.specs.declared.fault.ProofFault.{ProofFault}
use Rattle.uc_tstp.specs.declared.scope.Scope.TheVariants.{Derivation}
use Rattle.uc_tstp.specs.Printing.{names_in}
use Rattle.uc_tstp.specs.Reading.{inside, place_in, ReadsInside}
use Rattle.uc_tstp.proofs.Outcomes.{yes_or_no, some_once, some_or_none, err_once, ok_once, ok_or_err, same_value, same_stop, read_or_stop}
use Rattle.uc_tstp.proofs.ReadingOnce.{inside_once}
use Rattle.uc_system.specs.declared.fault.SystemFault.{SystemFault}
use Rattle.uc_system.specs.declared.system.SystemText.{SystemText}
use Rattle.uc_system.specs.Lines as of_lines
use Rattle.uc_system.proofs.SystemOnce.{lines_once}
use Rattle.uc_certificate.specs.declared.certificate.Certificate.{Certificate}
use Rattle.uc_certificate.specs.declared.certificate.Move.{Move}
use Rattle.uc_certificate.specs.declared.certificate.Case.{Case}
use Rattle.uc_certificate.specs.declared.certificate.End.{End}
use Rattle.uc_certificate.specs.declared.certificate.End.TheVariants.{Same, Instance, Orders, Ac}
use Rattle.uc_certificate.specs.declared.certificate.Join.{Join}
use Rattle.uc_certificate.specs.declared.fault.CertFault.{CertFault}
use Rattle.uc_certificate.specs.declared.fault.CertFault.TheVariants.{Syntax, UnknownName}
use Rattle.uc_certificate.specs.declared.border.Border.TheVariants as border
use Rattle.uc_certificate.specs.JoinParse as parse
use Rattle.uc_certificate.specs.JoinParse.{Ending, by_same, by_instance, by_orders, by_ac}
use Rattle.uc_certificate.specs.JoinLines.{JoinsAt}
use Rattle.uc_certificate.specs.JoinMeaning.{MeanAll, none_mean, more_mean, MeansTerm, MeanTerms, variable_is, functor_is, no_terms, more_terms, MeansMove, MeansCase, MeansEnd, MeansJoin, MeanJoins}
use Rattle.uc_certificate.specs.Parts.{Outcome, gets, fails, Rule, Then, goes_on, fails_first, gives}
use Rattle.uc_certificate.specs.Headings.{facts_line, is_border, AreNames, first_unknown, AreNumbered, none_numbered, one_numbered, word_start, behind_line, departs, FirstLine, no_line, this_line, later_line, pick, version_by, heading, heading_at, the_line, FactsAt, no_facts, unknown_fact, are_facts, facts}
use Rattle.uc_certificate.specs.Reading.{system_fault, proof_fault, join_fault, frame_of, SystemAt, has_system, has_no_system, system, DerivationAt, derives, derives_not, derivation, JoinsIn, no_token, no_joins, has_joins, join_lines, rest_of_certificate, certificate_lines, ReadsCertificate, reads, reads_not}
use Rattle.uc_certificate.proofs.FactNames.{facts_line_once, known}
use Rattle.uc_certificate.proofs.JoinsOnce.{joins_once}
use Rattle.uc_certificate.proofs.LineNames.{names_apart}

-- WHAT PARSES MEAN

mean_all_once : {P V : Type 0} {Means : P → V → Type 0} → ((p : P) (a b : V) → Means p a → Means p b → a ≡ b) → {ps : List P} {xs ys : List V} → MeanAll Means ps xs → MeanAll Means ps ys → xs ≡ ys
mean_all_once once none_mean none_mean = refl
mean_all_once once (more_mean {p = p} {v = a} {vs = xs} m all) (more_mean {v = b} {vs = ys} n others) =
    let first : a ≡ b = once p a b m n in
    let rest : xs ≡ ys = mean_all_once once all others in
    rw (first, rest) refl

module _ (bytes : List ℕ) (tokens : List Token) (table : Table) (distinct : IsDistinct table) where
  symbol_once : (f g : Sym) (name : List ℕ) (m n : ℕ) → m ≡ n → IsSymbol table f name m → IsSymbol table g name n → f ≡ g
  symbol_once f g name m n e p q =
      let other : slice_get table g.0 ≡ Some (record { name = name; arity = m }) = rw e q in
      let number : f.0 ≡ g.0 = distinct f.0 g.0 (record { name = name; arity = m }) p other in
      ap (λ (i : ℕ). let s : Sym = record { 0 = i } in s) number

  mutual
    term_once : {p : Parse} {t u : Tree} → MeansTerm bytes tokens table p t → MeansTerm bytes tokens table p u → t ≡ u
    term_once (variable_is a) (variable_is b) = ap var (some_once a b)
    term_once (functor_is {k = k} {f = f} {ts = ts} s all) (functor_is {f = g} {ts = us} r others) =
        let args : ts ≡ us = terms_once all others in
        let heads : f ≡ g = symbol_once f g (word_at bytes tokens k) (count ts) (count us) (ap count args) s r in
        rw (args, heads) refl

    terms_once : {ps : Parses} {ts us : Trees} → MeanTerms bytes tokens table ps ts → MeanTerms bytes tokens table ps us → ts ≡ us
    terms_once no_terms no_terms = refl
    terms_once (more_terms {t = t} {ts = ts} m all) (more_terms {t = u} {ts = us} n others) =
        let first : t ≡ u = term_once m n in
        let rest : ts ≡ us = terms_once all others in
        rw (first, rest) refl

  move_once : (p : parse.Move) (a b : Move) → MeansMove bytes tokens table p a → MeansMove bytes tokens table p b → a ≡ b
  move_once p a b m n =
      let numbers : a.fact ≡ b.fact = m.fact ∙ sym n.fact in
      let ways : a.left_to_right ≡ b.left_to_right = m.way ∙ sym n.way in
      let paths : a.path ≡ b.path = m.path ∙ sym n.path in
      let terms : a.to ≡ b.to = term_once m.to n.to in
      let all : record { fact = a.fact; left_to_right = a.left_to_right; path = a.path; to = a.to } ≡ (let r : Move = record { fact = b.fact; left_to_right = b.left_to_right; path = b.path; to = b.to } in r) = rw (numbers, ways, paths, terms) refl in
      all

  case_once : (p : parse.Case) (a b : Case) → MeansCase bytes tokens table p a → MeansCase bytes tokens table p b → a ≡ b
  case_once p a b m n =
      let orders : a.cases ≡ b.cases = m.cases ∙ sym n.cases in
      let lefts : a.left ≡ b.left = mean_all_once move_once m.left n.left in
      let rights : a.right ≡ b.right = mean_all_once move_once m.right n.right in
      let all : record { cases = a.cases; left = a.left; right = a.right } ≡ (let r : Case = record { cases = b.cases; left = b.left; right = b.right } in r) = rw (orders, lefts, rights) refl in
      all

  end_once : (p : Ending) (a b : End) → MeansEnd bytes tokens table p a → MeansEnd bytes tokens table p b → a ≡ b
  end_once by_same Same Same x y = refl
  end_once (by_instance n) (Instance m) (Instance k) x y = ap Instance (x ∙ sym y)
  end_once (by_orders cases) (Orders xs) (Orders ys) x y = ap Orders (mean_all_once case_once x y)
  end_once (by_ac triples) (Ac xs) (Ac ys) x y = ap Ac (x ∙ sym y)
  end_once p a b x y = absurd search

  join_once : (p : parse.Join) (a b : Join) → MeansJoin bytes tokens table p a → MeansJoin bytes tokens table p b → a ≡ b
  join_once p a b m n =
      let whats : a.what ≡ b.what = m.what ∙ sym n.what in
      let lefts : a.left ≡ b.left = mean_all_once move_once m.left n.left in
      let rights : a.right ≡ b.right = mean_all_once move_once m.right n.right in
      let ends : a.end ≡ b.end = end_once p.ending a.end b.end m.end n.end in
      let all : record { what = a.what; left = a.left; right = a.right; end = a.end } ≡ (let r : Join = record { what = b.what; left = b.left; right = b.right; end = b.end } in r) = rw (whats, lefts, rights, ends) refl in
      all

  mean_joins_once : {ps : List parse.Join} {xs ys : List Join} → MeanJoins bytes tokens table ps xs → MeanJoins bytes tokens table ps ys → xs ≡ ys
  mean_joins_once m n = mean_all_once join_once m n

-- THE PARTS

pub first_once : {text : List ℕ} {test : List ℕ → Bool} {at a b : ℕ} → FirstLine text test at a → FirstLine text test at b → a ≡ b
first_once (no_line h) (no_line k) = refl
first_once (no_line h) (this_line k t) = absurd (omega arith)
first_once (no_line h) (later_line k t r) = absurd (omega arith)
first_once (this_line h t) (no_line k) = absurd (omega arith)
first_once (this_line h t) (this_line k s) = refl
first_once (this_line h t) (later_line k s r) = absurd (yes_or_no t s)
first_once (later_line h t r) (no_line k) = absurd (omega arith)
first_once (later_line h t r) (this_line k s) = absurd (yes_or_no s t)
first_once (later_line h t r) (later_line k s q) = first_once r q

abbrev pub Once : {V : Type 0} → Rule V → Type 0
Once {V} rule = (at : ℕ) (o p : Outcome V) → rule at o → rule at p → o ≡ p

pub gets_value : {V : Type 0} {v w : V} {m n : ℕ} → Path (Outcome V) (gets v m) (gets w n) → v ≡ w
gets_value e = cc

pub gets_end : {V : Type 0} {v w : V} {m n : ℕ} → Path (Outcome V) (gets v m) (gets w n) → m ≡ n
gets_end e = cc

pub gets_or_fails : {V : Type 0} {v : V} {m : ℕ} {f : CertFault} → Path (Outcome V) (gets v m) (fails f) → ⊥
gets_or_fails e = absurd cc

pub fails_once : {V : Type 0} {f g : CertFault} → Path (Outcome V) (fails f) (fails g) → f ≡ g
fails_once e = cc

-- the second rule has to be so only for values that the first one gets
both_once : {V W : Type 0} (first : Rule V) (next : V → Rule W) → Once first → ((v : V) (at middle : ℕ) → first at (gets v middle) → Once (next v)) → Once (Then first next)
both_once first next one two at o p (goes_on {v = v} {middle = m} x y) (goes_on {v = w} {middle = k} s t) =
    let e = one at (gets v m) (gets w k) x s in
    let values : w ≡ v = sym (gets_value e) in
    let middles : k ≡ m = sym (gets_end e) in
    two v at m x m o p y (rw middles at (rw values at t))
both_once first next one two at o _ (goes_on {v = v} {middle = m} x y) (fails_first {fault = f} s) = absurd (gets_or_fails (one at (gets v m) (fails f) x s))
both_once first next one two at _ p (fails_first {fault = f} x) (goes_on {v = w} {middle = k} s t) = absurd (gets_or_fails (one at (gets w k) (fails f) s x))
both_once first next one two at _ _ (fails_first {fault = f} x) (fails_first {fault = g} s) = ap fails (fails_once (one at (fails f) (fails g) x s))

module _ (text : List ℕ) where
  pick_once : {V : Type 0} (value : ℕ → List ℕ → Outcome V) → Once (pick text value)
  pick_once value at o p x y = x ∙ sym y

  pub heading_once : Once (heading text)
  heading_once at o p (heading_at {start = s} f x) (heading_at {start = t} g y) =
      let starts : t ≡ s = first_once g f in
      x ∙ sym (subst (λ n. pick text (version_by text) n p) starts y)

  -- lines of names that are all different have one number each
  numbered_once : {names words : List (List ℕ)} {ms ns : List ℕ} → AreDistinct names → AreNumbered names words ms → AreNumbered names words ns → ms ≡ ns
  numbered_once d none_numbered none_numbered = refl
  numbered_once d (one_numbered {word = w} {number = m} {numbers = ms} g all) (one_numbered {number = n} {numbers = ns} h others) =
      let first : m ≡ n = d m n w g h in
      let rest : ms ≡ ns = numbered_once d all others in
      rw (first, rest) refl

  none_from : {names words : List (List ℕ)} {numbers : List ℕ} (n : ℕ) → AreNumbered names words numbers → position_from (λ word. not (list_any (bytes_eq word) names)) n words ≡ None
  none_from n none_numbered = refl
  none_from {names} n (one_numbered {word = w} {number = i} g all) =
      let there : list_any (bytes_eq w) names ≡ true = known names w i g in
      rw there (none_from (n + 1) all)

  all_known : {names words : List (List ℕ)} {numbers : List ℕ} → AreNumbered names words numbers → first_unknown names words ≡ None
  all_known {names} {words} a = position_from-zero (λ word. not (list_any (bytes_eq word) names)) words ∙ none_from 0 a

  cut_words : {o : Option of_lines.Cut} {v w : List (List ℕ)} {r s : List ℕ} → o ≡ Some (record { line = facts_line v; rest = r }) → o ≡ Some (record { line = facts_line w; rest = s }) → AreNames v → AreNames w → v ≡ w
  cut_words {o} {v} {w} {r} {s} e f a b = facts_line_once v w a b (ap (λ (c : of_lines.Cut). c.line) (some_once e f))

  facts_once_at : {names : List (List ℕ)} {many at : ℕ} {o p : Outcome (List ℕ)} → AreDistinct names → FactsAt text names many at o → FactsAt text names many at p → o ≡ p
  facts_once_at d (no_facts n) (no_facts m) = refl
  facts_once_at d (no_facts n) (unknown_fact {rest = r} words e a l u) = absurd (n r words e a l)
  facts_once_at d (no_facts n) (are_facts {rest = r} words e a l u) = absurd (n r words e a l)
  facts_once_at d (unknown_fact {rest = r} words e a l u) (no_facts n) = absurd (n r words e a l)
  facts_once_at {names} {many} {at} d (unknown_fact words {k = k} e a l u) (unknown_fact others {k = j} f b m v) =
      let same : words ≡ others = cut_words e f a b in
      let numbers : k ≡ j = some_once u (ap (first_unknown names) same ∙ v) in
      ap₂ (λ (ws : List (List ℕ)) (n : ℕ). fails (UnknownName (place_of text (word_start text at ws n)))) same numbers
  facts_once_at {names} d (unknown_fact words e a l u) (are_facts others f b m v) = absurd (some_or_none u (ap (first_unknown names) (cut_words e f a b) ∙ all_known v))
  facts_once_at d (are_facts {rest = r} words e a l u) (no_facts n) = absurd (n r words e a l)
  facts_once_at {names} d (are_facts words e a l u) (unknown_fact others f b m v) = absurd (some_or_none v (ap (first_unknown names) (cut_words f e b a) ∙ all_known u))
  facts_once_at {names} {many} {at} d (are_facts words {numbers = ms} e a l u) (are_facts others {numbers = ns} f b m v) =
      let same : others ≡ words = cut_words f e b a in
      let numbers : ms ≡ ns = numbered_once d u (subst (λ ws. AreNumbered names ws ns) same v) in
      ap₂ (λ (ns : List ℕ) (ws : List (List ℕ)). gets ns (behind_line text at (facts_line ws))) numbers (sym same)

  module _ (table : Table) (distinct : IsDistinct table) where
    pub same_drops : (m n : ℕ) → m ≤ length text → n ≤ length text → drop m text ≡ drop n text → m ≡ n
    same_drops m n h k e = omega (arith, ap length e, length-drop m text, length-drop n text, h, k)

    system_once_at : {at : ℕ} {o p : Outcome SystemText} → SystemAt table text at o → SystemAt table text at p → o ≡ p
    system_once_at {at} (has_system {said = s} {n = n} {to = a} x h) (has_system {said = t} {n = m} {to = b} y k) =
        let e = lines_once table distinct (place_of text at).line (drop at text) (of_lines.gets s n (drop a text)) (of_lines.gets t m (drop b text)) x y in
        let values : s ≡ t = cc in
        let rests : drop a text ≡ drop b text = cc in
        ap₂ gets values (same_drops a b h k rests)
    system_once_at {at} (has_system {said = s} {n = n} {to = a} x h) (has_no_system {fault = f} y) = absurd (let e = lines_once table distinct (place_of text at).line (drop at text) (of_lines.gets s n (drop a text)) (of_lines.fails f) x y in cc)
    system_once_at {at} (has_no_system {fault = f} y) (has_system {said = s} {n = n} {to = a} x h) = absurd (let e = lines_once table distinct (place_of text at).line (drop at text) (of_lines.gets s n (drop a text)) (of_lines.fails f) x y in cc)
    system_once_at {at} (has_no_system {fault = f} x) (has_no_system {fault = g} y) =
        let e = lines_once table distinct (place_of text at).line (drop at text) (of_lines.fails f) (of_lines.fails g) x y in
        let faults : f ≡ g = cc in
        ap (λ w. fails (system_fault text w)) faults

    abbrev Lines : ℕ → Result Proof ProofFault → ℕ → Type 0
    Lines at r to = ReadsInside Derivation table text (frame_of at to) r

    derivation_once_at : {at : ℕ} {o p : Outcome Proof} → DerivationAt table text at o → DerivationAt table text at p → o ≡ p
    derivation_once_at {at} (derives {to = a} {proof = c} f x) (derives {to = b} {proof = d} g y) =
        let ends : b ≡ a = first_once g f in
        let proofs : c ≡ d = ok_once (inside_once Derivation text (frame_of at a) table distinct x (subst (Lines at (Ok d)) ends y)) in
        ap₂ gets proofs (sym ends)
    derivation_once_at {at} (derives {to = a} {proof = c} f x) (derives_not {to = b} {why = d} g y) = absurd (ok_or_err (inside_once Derivation text (frame_of at a) table distinct x (subst (Lines at (Err d)) (first_once g f) y)))
    derivation_once_at {at} (derives_not {to = a} {why = c} f x) (derives {to = b} {proof = d} g y) = absurd (ok_or_err (inside_once Derivation text (frame_of at a) table distinct (subst (Lines at (Ok d)) (first_once g f) y) x))
    derivation_once_at {at} (derives_not {to = a} {why = c} f x) (derives_not {to = b} {why = d} g y) = ap (λ w. fails (proof_fault text w)) (err_once (inside_once Derivation text (frame_of at a) table distinct x (subst (Lines at (Err d)) (first_once g f) y)))

    abbrev CutIn : ℕ → Result (List Token) ℕ → ℕ → Type 0
    CutIn at r to = Cut (inside text (frame_of at to)) 0 r

    abbrev JoinsOf : ℕ → List Token → tokens.Outcome (List parse.Join) → ℕ → Type 0
    JoinsOf at ts o to = JoinsAt (inside text (frame_of at to)) ts 0 o

    abbrev Say : ℕ → List Token → List parse.Join → List Join → ℕ → Type 0
    Say at ts ps list to = MeanJoins (inside text (frame_of at to)) ts table ps list

    -- join lines have one end, one cut, and come to one thing
    module _ {at a b : ℕ} (f : FirstLine text (is_border border.End) at a) (g : FirstLine text (is_border border.End) at b) where
      ends_same : b ≡ a
      ends_same = first_once g f

      cuts_same : {r s : Result (List Token) ℕ} → CutIn at r a → CutIn at s b → r ≡ s
      cuts_same {r} {s} c d = cut_once c (subst (CutIn at s) ends_same d)

      parsed_same : {ts us : List Token} {o p : tokens.Outcome (List parse.Join)} → CutIn at (Ok ts) a → CutIn at (Ok us) b → JoinsOf at ts o a → JoinsOf at us p b → (us ≡ ts) × (o ≡ p)
      parsed_same {ts} {us} {o} {p} c d i j =
          let lists : us ≡ ts = sym (ok_once (cuts_same c d)) in
          (lists, joins_once (inside text (frame_of at a)) ts i (subst (λ vs. JoinsOf at vs p a) lists (subst (JoinsOf at us p) ends_same j)))

    joins_once_at : {at : ℕ} {o p : Outcome (List Join)} → JoinsIn table text at o → JoinsIn table text at p → o ≡ p
    joins_once_at {at} (no_token {k = k} f c) (no_token {k = l} g d) = ap (λ n. fails (Syntax (place_of text (at + n)))) (err_once (cuts_same f g c d))
    joins_once_at (no_token f c) (no_joins g d j) = absurd (ok_or_err (cuts_same g f d c))
    joins_once_at (no_token f c) (has_joins g d j m) = absurd (ok_or_err (cuts_same g f d c))
    joins_once_at (no_joins f c i) (no_token g d) = absurd (ok_or_err (cuts_same f g c d))
    joins_once_at {at} (no_joins {to = a} {k = k} {tokens = ts} {why = why} f c i) (no_joins {to = b} {k = l} {tokens = us} {why = other} g d j) =
        let ends : b ≡ a = ends_same f g in
        let same = parsed_same f g c d i j in
        let lists : us ≡ ts = same.0 in
        let whys : why ≡ other = (same_stop same.1).0 in
        let ks : k ≡ l = (same_stop same.1).1 in
        rw (ends, lists, whys, ks) refl
    joins_once_at (no_joins f c i) (has_joins g d j m) = absurd (read_or_stop (sym (parsed_same f g c d i j).1))
    joins_once_at (has_joins f c i m) (no_token g d) = absurd (ok_or_err (cuts_same f g c d))
    joins_once_at (has_joins f c i m) (no_joins g d j) = absurd (read_or_stop (parsed_same f g c d i j).1)
    joins_once_at {at} (has_joins {to = a} {tokens = ts} {parsed = ps} {list = xs} f c i m) (has_joins {to = b} {tokens = us} {parsed = qs} {list = ys} g d j n) =
        let ends : b ≡ a = ends_same f g in
        let same = parsed_same f g c d i j in
        let lists : us ≡ ts = same.0 in
        let parses : qs ≡ ps = sym (same_value same.1) in
        let moved : Say at ts ps ys a = subst (λ vs. Say at vs ps ys a) lists (subst (λ rs. Say at us rs ys a) parses (subst (Say at us qs ys) ends n)) in
        let values : xs ≡ ys = mean_joins_once (inside text (frame_of at a)) ts table distinct m moved in
        ap₂ gets values (sym ends)

    pub system_once : Once (system table text)
    system_once at o p x y = system_once_at x y

    pub derivation_once : Once (derivation table text)
    derivation_once at o p x y = derivation_once_at x y

    pub joins_rule : Once (join_lines table text)
    joins_rule at o p x y = joins_once_at x y

    pub facts_once : (names : List (List ℕ)) (many : ℕ) → AreDistinct names → Once (facts text names many)
    facts_once names many d at o p x y = facts_once_at d x y

    pub the_line_once : (wanted : List ℕ) → Once (the_line text wanted)
    the_line_once wanted at o p x y = x ∙ sym y

    gives_once : {V : Type 0} (v : V) → Once (gives v)
    gives_once v at o p x y = x ∙ sym y

    pub names_of_derived : (proof : Proof) {at middle : ℕ} → DerivationAt table text at (gets proof middle) → AreDistinct (names_in proof.lines)
    names_of_derived proof {at} {middle} (derives f r) = names_apart table text (frame_of at middle) proof r

    rest_once : (said : SystemText) → Once (rest_of_certificate table text said)
    rest_once said =
        both_once _ _ (the_line_once (codes "% derivation")) (λ u at m x. both_once (derivation table text) _ derivation_once (λ proof at m x. both_once (facts text (names_in proof.lines) (length said.system.facts)) _ (facts_once (names_in proof.lines) (length said.system.facts) (names_of_derived proof x)) (λ numbers at m x. both_once _ _ (the_line_once (codes "% joins")) (λ u at m x. both_once (join_lines table text) _ joins_rule (λ list at m x. both_once _ _ (the_line_once (codes "% end")) (λ u at m x. gives_once _))))))

    lines_are_once : Once (certificate_lines table text)
    lines_are_once = both_once (heading text) _ heading_once (λ u at m x. both_once (system table text) _ system_once (λ said at m x. rest_once said))

    pub reading_once : {a b : Result Certificate CertFault} → ReadsCertificate table text a → ReadsCertificate table text b → a ≡ b
    reading_once (reads {certificate = c} {end = e} x) (reads {certificate = d} {end = f} y) = ap Ok (gets_value (lines_are_once 0 (gets c e) (gets d f) x y))
    reading_once (reads {certificate = c} {end = e} x) (reads_not {fault = f} y) = absurd (gets_or_fails (lines_are_once 0 (gets c e) (fails f) x y))
    reading_once (reads_not {fault = f} x) (reads {certificate = d} {end = e} y) = absurd (gets_or_fails (lines_are_once 0 (gets d e) (fails f) y x))
    reading_once (reads_not {fault = f} x) (reads_not {fault = g} y) = ap Err (fails_once (lines_are_once 0 (fails f) (fails g) x y))
