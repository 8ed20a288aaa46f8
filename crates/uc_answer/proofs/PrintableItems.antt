-- What is read as an item of clauses can be printed.
use Rattle.std.proofs.Common.{ℕ, ◌≡◌, ◌<◌, ◌≤◌, ◌+◌, Bool, true, false, List, [], ◌∷◌, ◌++◌, length, Option, Some, None, refl, sym, ap, ap₂, subst, arith, unwrap_or}
use Rattle.uc_term.specs.declared.node.Sym.{Sym}
use Rattle.uc_term.specs.Tree.{Tree, Trees, count, nodes, nodes_all}
use Rattle.uc_term.specs.Over.{AreOver}
use Rattle.uc_term.specs.Table.{Table, Entry as Row, IsSymbol, name_of, arity_of}
use Rattle.std.specs.Prelude.{bytes_eq, if◌then◌else◌}
use Rattle.std.specs.List.{list_any, AllByRecursion}
use Rattle.std.proofs.lemmas.List.{length-append, length-map}
use Rattle.std.proofs.lemmas.Option.{slice_get_within}
use Rattle.uc_term.specs.Variables.{variables, variables_all}
use Rattle.uc_fact.proofs.Agreeing.{each_append}
use Rattle.uc_clause.specs.declared.token.Token.{Token}
use Rattle.uc_clause.specs.declared.terminal.Terminal.{Terminal}
use Rattle.uc_clause.specs.declared.terminal.Terminal.TheVariants.{Lower, Upper, Quoted, Distinct, Integer, Dollar, Unequal, Open, Close, OpenSquare, CloseSquare, Comma, Dot, Equal, Bar, Tilde, Star, OtherMark, End}
use Rattle.uc_clause.specs.declared.grammar.head.Head.TheVariants.{Functor}
use Rattle.uc_clause.specs.declared.grammar.stop.Why.TheVariants.{NoToken}
use Rattle.uc_clause.specs.declared.grammar.item.Heading.{Heading}
use Rattle.uc_clause.specs.declared.grammar.item.Inclusion.{Inclusion}
use Rattle.uc_clause.specs.declared.clause.Clause.{Clause}
use Rattle.uc_clause.specs.declared.clause.Item.{Item}
use Rattle.uc_clause.specs.declared.clause.Item.TheVariants as item
use Rattle.uc_clause.specs.Terminals.{terminal_at}
use Rattle.uc_clause.specs.Tokens.{AreTokens}
use Rattle.uc_clause.specs.Rules.{Outcome, read, stop, mapped, read_or_stop, goes_on, is_first, is_second}
use Rattle.uc_clause.specs.Parse.{variables as variables_parsed, variables_all as all_variables_parsed}
use Rattle.uc_clause.specs.Parse.{Parse, variable, applied, Parses, no_more, also, size, size_all, Sides, Literal, Formula, Entry, formula, inclusion}
use Rattle.uc_clause.specs.Terms.{head_of, head_at, Term, Args, is_variable, is_constant, is_applied, is_node_too_many, is_no_term, stops_in_it, is_last, is_followed, is_one_too_many, is_followed_by_neither}
use Rattle.uc_clause.specs.Items.{name_by, quoted_by}
use Rattle.uc_clause.specs.Items as items
use Rattle.uc_clause.specs.Terminals.{bytes_at}
use Rattle.uc_clause.specs.Meaning.{Variables, with_name, with_names, variables_in, variables_of, Means, variable_means, functor_means, MeanAll, none_mean, more_mean, IsName, MeansSides, MeansItem}
use Rattle.uc_clause.specs.Names.{IsSpellable}
use Rattle.uc_clause.specs.Printable.{IsPrintableSymbol, IsPrintable, IsPrintableClause}
use Rattle.uc_clause.proofs.Sizes.{term_small}
use Rattle.uc_certificate.specs.Printable.{AreFew}
use Rattle.uc_answer.specs.PrintableProblems.{IsSmallClause}
use Rattle.uc_answer.proofs.SpelledWords.{IsWordTerminal, IsNameTerminal, word_spellable, name_spellable}

-- TERMINALS

functor_word : (t : Terminal) → head_of t ≡ Functor → IsWordTerminal t
functor_word Lower e = tt
functor_word Quoted e = tt
functor_word Upper e = absurd cc
functor_word Distinct e = absurd cc
functor_word Integer e = absurd cc
functor_word Dollar e = absurd cc
functor_word Unequal e = absurd cc
functor_word Open e = absurd cc
functor_word Close e = absurd cc
functor_word OpenSquare e = absurd cc
functor_word CloseSquare e = absurd cc
functor_word Comma e = absurd cc
functor_word Dot e = absurd cc
functor_word Equal e = absurd cc
functor_word Bar e = absurd cc
functor_word Tilde e = absurd cc
functor_word Star e = absurd cc
functor_word OtherMark e = absurd cc
functor_word End e = absurd cc

named : (t : Terminal) (at k : ℕ) → name_by t at ≡ Some k → (at ≡ k) × IsNameTerminal t
named Lower at k e = (cc, tt)
named Quoted at k e = (cc, tt)
named Integer at k e = (cc, tt)
named Upper at k e = absurd cc
named Distinct at k e = absurd cc
named Dollar at k e = absurd cc
named Unequal at k e = absurd cc
named Open at k e = absurd cc
named Close at k e = absurd cc
named OpenSquare at k e = absurd cc
named CloseSquare at k e = absurd cc
named Comma at k e = absurd cc
named Dot at k e = absurd cc
named Equal at k e = absurd cc
named Bar at k e = absurd cc
named Tilde at k e = absurd cc
named Star at k e = absurd cc
named OtherMark at k e = absurd cc
named End at k e = absurd cc

filed : (t : Terminal) (at k : ℕ) → quoted_by t at ≡ Some k → (at ≡ k) × IsWordTerminal t
filed Quoted at k e = (cc, tt)
filed Lower at k e = absurd cc
filed Integer at k e = absurd cc
filed Upper at k e = absurd cc
filed Distinct at k e = absurd cc
filed Dollar at k e = absurd cc
filed Unequal at k e = absurd cc
filed Open at k e = absurd cc
filed Close at k e = absurd cc
filed OpenSquare at k e = absurd cc
filed CloseSquare at k e = absurd cc
filed Comma at k e = absurd cc
filed Dot at k e = absurd cc
filed Equal at k e = absurd cc
filed Bar at k e = absurd cc
filed Tilde at k e = absurd cc
filed Star at k e = absurd cc
filed OtherMark at k e = absurd cc
filed End at k e = absurd cc

-- what is picked
picked : (o : Option ℕ) (at v end : ℕ) → read v end ≡ read_or_stop NoToken o at → o ≡ Some v
picked None at v end e = absurd cc
picked (Some w) at v end e = let same : v ≡ w = cc in ap Some (sym same)

-- SYMBOLS

pub symbol_named : (table : Table) (f : Sym) (name : List ℕ) (n : ℕ) → IsSymbol table f name n → (name_of table f ≡ name) × (arity_of table f ≡ n)
symbol_named table f name n s = (ap (λ (o : Option Row). (unwrap_or o (record { name = []; arity = 0 })).name) s, ap (λ (o : Option Row). (unwrap_or o (record { name = []; arity = 0 })).arity) s)

-- NAMES OF VARIABLES

name_count : (seen : Variables) (x : List ℕ) → length (with_name seen x) ≤ length seen + 1
name_count seen x = go (list_any (bytes_eq x) seen)
  where
    go : (b : Bool) → length (if b then seen else seen ++ x ∷ []) ≤ length seen + 1
    go true = omega arith
    go false = omega (arith, length-append seen (x ∷ []))

names_count : (seen : Variables) (xs : List (List ℕ)) → length (with_names seen xs) ≤ length seen + length xs
names_count seen [] = omega arith
names_count seen (x ∷ xs) = let rest = names_count (with_name seen x) xs in omega (arith, rest, name_count seen x)

mutual
  count_variables : (p : Parse) → length (variables_parsed p) ≤ size p
  count_variables (variable k) = omega arith
  count_variables (applied k ps) = let l = count_all ps in omega (arith, l)

  count_all : (ps : Parses) → length (all_variables_parsed ps) ≤ size_all ps
  count_all no_more = omega arith
  count_all (also p ps) = let a = count_variables p in let b = count_all ps in omega (arith, a, b, length-append (variables_parsed p) (all_variables_parsed ps))

all_below : (m n : ℕ) (xs : List ℕ) → m ≤ n → AllByRecursion (λ x. x < m) xs → AllByRecursion (λ x. x < n) xs
all_below m n [] l h = tt
all_below m n (x ∷ xs) l h = (omega (arith, l, h.0), all_below m n xs l h.1)

-- ITEMS

-- a clause can be printed, and an include's file be spelled
module _ (table : Table) where
  abbrev pub PrintableClause : Clause → Type 0
  PrintableClause c = IsPrintableClause table c × IsSmallClause c

  abbrev pub PrintableItem : Item → Type 0
  PrintableItem (item.Clause c) = PrintableClause c
  PrintableItem (item.Include i) = IsSpellable i.file

abbrev how_many : Parses → ℕ
how_many no_more = 0
how_many (also p ps) = how_many ps + 1

module _ (bytes : List ℕ) (tokens : List Token) where
  -- PARSES

  -- each functor is a word, and has at most 255 arguments
  abbrev mutual
    IsFine : Parse → Type 0
    IsFine (variable k) = Unit {0}
    IsFine (applied k ps) = IsWordTerminal (terminal_at bytes tokens k) × (how_many ps ≤ 255) × AreFine ps

    AreFine : Parses → Type 0
    AreFine no_more = Unit {0}
    AreFine (also p ps) = IsFine p × AreFine ps

  abbrev FineTerm : Outcome Parse → Type 0
  FineTerm (read p end) = IsFine p
  FineTerm (stop why k) = Unit {0}

  -- arguments from this number on
  abbrev FineArgs : ℕ → Outcome Parses → Type 0
  FineArgs number (read ps end) = (how_many ps + number ≤ 256) × AreFine ps
  FineArgs number (stop why k) = Unit {0}

  applied_fine : (at : ℕ) (o : Outcome Parses) → head_at bytes tokens at ≡ Functor → FineArgs 1 o → FineTerm (mapped (applied at) o)
  applied_fine at (read ps end) h a = (functor_word (terminal_at bytes tokens at) h, omega (arith, a.0), a.1)
  applied_fine at (stop why k) h a = tt

  also_fine : (p : Parse) (number : ℕ) (o : Outcome Parses) → IsFine p → FineArgs (number + 1) o → FineArgs number (mapped (also p) o)
  also_fine p number (read ps end) h a = (omega (arith, a.0), (h, a.1))
  also_fine p number (stop why k) h a = tt

  mutual
    term_fine : {used at : ℕ} {o : Outcome Parse} → Term bytes tokens used at o → FineTerm o
    term_fine (is_variable h r) = tt
    term_fine (is_constant {at = at} h r a) = (functor_word (terminal_at bytes tokens at) h, omega arith, tt)
    term_fine (is_applied {at = at} {outcome = o} h r b args) = applied_fine at o h (args_fine (omega arith) args)
    term_fine (is_node_too_many h r) = tt
    term_fine (is_no_term h) = tt

    args_fine : {functor number used at : ℕ} {o : Outcome Parses} → number ≤ 255 → Args bytes tokens functor number used at o → FineArgs number o
    args_fine few (stops_in_it x) = tt
    args_fine few (is_last x c) = (omega (arith, few), (term_fine x, tt))
    args_fine {number = number} few (is_followed {p = p} {outcome = o} x c less args) = also_fine p number o (term_fine x) (args_fine (omega (arith, less)) args)
    args_fine few (is_one_too_many x c f) = tt
    args_fine few (is_followed_by_neither x c d) = tt

  -- a side is of words, and not too large
  abbrev FineSide : Parse → Type 0
  FineSide p = IsFine p × (size p ≤ 4096)

  abbrev FineSides : Sides → Type 0
  FineSides s = FineSide s.left × FineSide s.right

  abbrev pub FineLiteral : Literal → Type 0
  FineLiteral l = FineSides l.sides

  one_term : (at end : ℕ) (p : Parse) → Term bytes tokens 0 at (read p end) → FineSide p
  one_term at end p x = (term_fine x, term_small bytes tokens at end p x)

  equals_fine : (at end : ℕ) (s : Sides) → items.equals bytes tokens at (read s end) → FineSides s
  equals_fine at end s (goes_on h (goes_on {v = l} {middle = i} x (goes_on e (goes_on {v = r} {middle = j} y g)))) = let same : s ≡ record { left = l; right = r } = cc in subst FineSides (sym same) (one_term _ i l x, one_term _ j r y)

  brackets_fine : (at end : ℕ) (s : Sides) → items.equals_in_brackets bytes tokens at (read s end) → FineSides s
  brackets_fine at end s (goes_on h (goes_on {v = t} x (goes_on c g))) = let same : s ≡ t = cc in subst FineSides (sym same) (equals_fine _ _ t x)

  equation_fine : (at end : ℕ) (l : Literal) → items.equation bytes tokens at (read l end) → FineLiteral l
  equation_fine at end l (goes_on h (goes_on {v = s} {middle = i} x (goes_on {v = b} e (goes_on {v = t} {middle = j} y g)))) = let same : l ≡ record { positive = b; sides = record { left = s; right = t } } = cc in subst FineLiteral (sym same) (one_term _ i s x, one_term _ j t y)

  denied_fine : (at end : ℕ) (s : Sides) → items.denied bytes tokens at (read s end) → FineSides s
  denied_fine at end s (is_first e x) = brackets_fine at end s x
  denied_fine at end s (is_second n x) = equals_fine at end s x

  denial_fine : (at end : ℕ) (l : Literal) → items.denial bytes tokens at (read l end) → FineLiteral l
  denial_fine at end l (goes_on {middle = k} h (goes_on {v = s} {middle = m} x g)) = let same : l ≡ record { positive = false; sides = s } = cc in subst FineLiteral (sym same) (denied_fine k m s x)

  pub literal_fine : (at end : ℕ) (l : Literal) → items.literal bytes tokens at (read l end) → FineLiteral l
  literal_fine at end l (is_first e x) = denial_fine at end l x
  literal_fine at end l (is_second n x) = equation_fine at end l x

  abbrev FineOutcome : Outcome Literal → Type 0
  FineOutcome (read l end) = FineLiteral l
  FineOutcome (stop why k) = Unit {0}

  bare_fine : (at : ℕ) (o : Outcome Literal) → items.literal bytes tokens at o → FineOutcome o
  bare_fine at (read l end) x = literal_fine at end l x
  bare_fine at (stop why k) x = tt

  clause_outcome : {brackets at : ℕ} {o : Outcome Literal} → items.Clause bytes tokens brackets at o → FineOutcome o
  clause_outcome (items.is_bare {at = at} {outcome = o} n x) = bare_fine at o x
  clause_outcome (items.is_bracketed e b x c) = clause_outcome x
  clause_outcome (items.is_not_closed e b x c) = tt
  clause_outcome (items.stops_in_brackets e b x) = tt
  clause_outcome (items.is_too_deep e b) = tt

  clause_fine : (brackets at end : ℕ) (l : Literal) → items.Clause bytes tokens brackets at (read l end) → FineLiteral l
  clause_fine brackets at end l x = clause_outcome x

  -- the clause's name is one
  abbrev FineHeading : Heading → Type 0
  FineHeading h = IsNameTerminal (terminal_at bytes tokens h.name)

  pub name_token : (at k end : ℕ) → items.name bytes tokens at (read k end) → IsNameTerminal (terminal_at bytes tokens k)
  name_token at k end e =
      let p = named (terminal_at bytes tokens at) at k (picked (name_by (terminal_at bytes tokens at) at) at k end e) in
      subst (λ n. IsNameTerminal (terminal_at bytes tokens n)) p.0 p.1

  heading_fine : (at end : ℕ) (h : Heading) → items.heading bytes tokens at (read h end) → FineHeading h
  heading_fine at end h (goes_on {v = first} begins (goes_on lower (goes_on opened (goes_on {v = k} {middle = m} n (goes_on comma (goes_on {v = role} said (goes_on comma_too g))))))) = let same : h ≡ record { first = first; name = k; role = role } = cc in subst FineHeading (sym same) (name_token _ k m n)

  abbrev FineFormula : Formula → Type 0
  FineFormula f = FineHeading f.heading × FineLiteral f.literal

  cnf_fine : (at end : ℕ) (f : Formula) → items.cnf bytes tokens at (read f end) → FineFormula f
  cnf_fine at end f (goes_on {v = h} {middle = i} a (goes_on {v = l} {middle = j} c (goes_on n (goes_on d g)))) = let same : f ≡ record { heading = h; literal = l } = cc in subst FineFormula (sym same) (heading_fine at i h a, clause_fine 0 i j l c)

  file_token : (at k end : ℕ) → items.quoted bytes tokens at (read k end) → IsWordTerminal (terminal_at bytes tokens k)
  file_token at k end e =
      let p = filed (terminal_at bytes tokens at) at k (picked (quoted_by (terminal_at bytes tokens at) at) at k end e) in
      subst (λ n. IsWordTerminal (terminal_at bytes tokens n)) p.0 p.1

  abbrev FineInclusion : Inclusion → Type 0
  FineInclusion i = IsWordTerminal (terminal_at bytes tokens i.file)

  include_fine : (at end : ℕ) (i : Inclusion) → items.include bytes tokens at (read i end) → FineInclusion i
  include_fine at end i (goes_on {v = first} h (goes_on a (goes_on b (goes_on {v = k} {middle = m} f (goes_on {v = names} n (goes_on d g)))))) = let same : i ≡ record { first = first; file = k; names = names } = cc in subst FineInclusion (sym same) (file_token _ k m f)

  abbrev pub FineEntry : Entry → Type 0
  FineEntry (formula f) = FineFormula f
  FineEntry (inclusion i) = FineInclusion i

  abbrev pub FineItem : Outcome Entry → Type 0
  FineItem (read e end) = FineEntry e
  FineItem (stop why k) = Unit {0}

  cnf_outcome : (at : ℕ) (o : Outcome Formula) → items.cnf bytes tokens at o → FineItem (mapped formula o)
  cnf_outcome at (read f end) x = cnf_fine at end f x
  cnf_outcome at (stop why k) x = tt

  include_outcome : (at : ℕ) (o : Outcome Inclusion) → items.include bytes tokens at o → FineItem (mapped inclusion o)
  include_outcome at (read i end) x = include_fine at end i x
  include_outcome at (stop why k) x = tt

  pub item_fine : {at : ℕ} {o : Outcome Entry} → items.Item bytes tokens at o → FineItem o
  item_fine (items.is_clause {at = at} {outcome = o} e x) = cnf_outcome at o x
  item_fine (items.is_include {at = at} {outcome = o} e x) = include_outcome at o x
  item_fine (items.is_no_item e) = tt

  -- WHAT THEY SAY

  module _ (are : AreTokens bytes tokens) (table : Table) where
    how_many_mean : {seen : Variables} {ps : Parses} {ts : Trees} → MeanAll bytes tokens table seen ps ts → how_many ps ≡ count ts
    how_many_mean none_mean = refl
    how_many_mean (more_mean m ms) = ap (λ n. n + 1) (how_many_mean ms)

    mutual
      means_printable : {seen : Variables} {p : Parse} {t : Tree} → Means bytes tokens table seen p t → IsFine p → IsPrintable table t
      means_printable (variable_means e) h = tt
      means_printable (functor_means {k = k} {ps = ps} {f = f} {ts = ts} s ms) h =
          let named_so = symbol_named table f _ (count ts) s in
          let few : arity_of table f ≤ 255 = omega (arith, named_so.1, how_many_mean ms, h.1) in
          ((slice_get_within table f.0 _ s, subst IsSpellable (sym named_so.0) (word_spellable bytes tokens are k h.0), few), sym named_so.1, all_printable ms h.2)

      all_printable : {seen : Variables} {ps : Parses} {ts : Trees} → MeanAll bytes tokens table seen ps ts → AreFine ps → AreOver (IsPrintableSymbol table) (arity_of table) (λ _. Unit {0}) ts
      all_printable none_mean h = tt
      all_printable (more_mean m ms) h = (means_printable m h.0, all_printable ms h.1)

    mutual
      sizes_are : {seen : Variables} {p : Parse} {t : Tree} → Means bytes tokens table seen p t → size p ≡ nodes t
      sizes_are (variable_means e) = refl
      sizes_are (functor_means s ms) = ap (λ n. n + 1) (all_sizes_are ms)

      all_sizes_are : {seen : Variables} {ps : Parses} {ts : Trees} → MeanAll bytes tokens table seen ps ts → size_all ps ≡ nodes_all ts
      all_sizes_are none_mean = refl
      all_sizes_are (more_mean m ms) = ap₂ (λ a b. a + b) (sizes_are m) (all_sizes_are ms)

    side_small : {seen : Variables} {p : Parse} {t : Tree} → Means bytes tokens table seen p t → size p ≤ 4096 → nodes t ≤ 4096
    side_small m h = omega (arith, sizes_are m, h)

    -- a variable's number is less than that of the names
    mutual
      variables_seen : {seen : Variables} {p : Parse} {t : Tree} → Means bytes tokens table seen p t → AllByRecursion (λ x. x < length seen) (variables t)
      variables_seen {seen} (variable_means {n = n} e) = (slice_get_within seen n _ e, tt)
      variables_seen (functor_means s ms) = all_seen ms

      all_seen : {seen : Variables} {ps : Parses} {ts : Trees} → MeanAll bytes tokens table seen ps ts → AllByRecursion (λ x. x < length seen) (variables_all ts)
      all_seen none_mean = tt
      all_seen {seen} (more_mean {t = t} {ts = ts} m ms) = each_append (λ x. x < length seen) (variables t) (variables_all ts) (variables_seen m) (all_seen ms)

    -- there are no more names than nodes
    few_seen : (sides : Sides) {t : Tree} {p : Parse} → size sides.left ≤ 4096 → size sides.right ≤ 4096 → Means bytes tokens table (variables_of bytes tokens sides) p t → AreFew (variables t)
    few_seen sides {t} left right m =
        let first = names_count [] (variables_in bytes tokens sides.left) in
        let all = names_count (with_names [] (variables_in bytes tokens sides.left)) (variables_in bytes tokens sides.right) in
        let few : length (variables_of bytes tokens sides) ≤ 8192 = omega (arith, first, all, length-map (variables_parsed sides.left) (bytes_at bytes tokens), length-map (variables_parsed sides.right) (bytes_at bytes tokens), count_variables sides.left, count_variables sides.right, left, right) in
        all_below (length (variables_of bytes tokens sides)) 8192 (variables t) few (variables_seen m)

    pub clause_means : (name : ℕ) (l : Literal) (c : Clause) → IsName bytes tokens name c.name → MeansSides bytes tokens table l.sides c.left c.right → IsNameTerminal (terminal_at bytes tokens name) → FineLiteral l → PrintableClause table c
    clause_means name l c is_name m named h = (
      (name_spellable bytes tokens are name c.name is_name named, means_printable m.means_left h.0.0, means_printable m.means_right h.1.0),
      record {
        left = side_small m.means_left h.0.1;
        right = side_small m.means_right h.1.1;
        few_left = few_seen l.sides h.0.1 h.1.1 m.means_left;
        few_right = few_seen l.sides h.0.1 h.1.1 m.means_right;
      },
    )

    pub item_means : (e : Entry) (i : Item) → MeansItem bytes tokens table e i → FineEntry e → PrintableItem table i
    item_means (formula f) (item.Clause c) m h = clause_means f.heading.name f.literal c m.name m.sides h.0 h.1
    item_means (inclusion j) (item.Include i) m h = subst IsSpellable (sym m.file) (word_spellable bytes tokens are j.file h)
    item_means (formula f) (item.Include i) m h = absurd m
    item_means (inclusion j) (item.Clause c) m h = absurd m
