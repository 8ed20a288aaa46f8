-- Going over a term: where it leads, and that what is printed again is a term.
use Rattle.std.proofs.Common.{◌≡◌, ◌⊎◌, inl, inr, ℕ, ◌+◌, ◌-◌, ◌≤◌, ◌<◌, ◌==◌, ◌&&◌, ◌||◌, Bool, true, false, List, [], ◌∷◌, ◌++◌, length, get_or, append_assoc, append-nil, if◌then◌else◌, refl, sym, ap, ap₂, ◌∙◌, subst, arith, Some, None}
use Rattle.std.specs.Prelude.{max, nat_le, nat_lt, decimal, bytes_eq, Option, slice_get, unwrap_or}
use Rattle.std.proofs.lemmas.Option.{slice_get-get_or, unwrap_or-slice_get, slice_get_cases}
use Rattle.std.specs.List.{list_any}
use Rattle.std.proofs.lemmas.Bool.{and_parts, and_from, eqb-true, eq-eqb}
use Rattle.std.proofs.lemmas.Bool.Decides.{nat_tests}
use Rattle.std.proofs.lemmas.Slice.Eq.{bytes_eq-Decides}
use Rattle.uc_term.specs.declared.node.Sym.{Sym}
use Rattle.uc_term.specs.Tree.{Tree, var, app, Trees, none, more, count, nodes, nodes_all}
use Rattle.uc_term.specs.Over.{IsTerm, AreOver}
use Rattle.uc_term.specs.Table.{Table, Entry, Has, IsSymbol, IsDistinct, name_of, arity_of}
use Rattle.uc_term.specs.Signatures.{same_symbol}
use Rattle.uc_term.specs.Variables.{variables, variables_all}
use Rattle.uc_clause.specs.declared.token.Token.{Token}
use Rattle.uc_clause.specs.declared.terminal.Terminal.{Terminal}
use Rattle.uc_clause.specs.declared.terminal.Terminal.TheVariants as terminal
use Rattle.uc_clause.specs.declared.grammar.head.Head.{Head}
use Rattle.uc_clause.specs.declared.grammar.head.Head.TheVariants.{Variable, Functor, Neither}
use Rattle.uc_clause.specs.Names.{spelling}
use Rattle.uc_clause.specs.Terminals.{terminal_at, terminal_or_end, bytes_at, word_at}
use Rattle.uc_clause.specs.Terms.{head_at, head_of}
use Rattle.uc_clause.specs.Printing.{variable_text, term_text, args_text, rest_text}
use Rattle.uc_order.specs.Members.{In, in_front, in_rest, Each}
use Rattle.uc_system.specs.declared.pass.Pass.{Pass}
use Rattle.uc_system.specs.declared.pass.Pending.{Pending}
use Rattle.uc_system.specs.Passing.{State, state_of, IsNext, start, number_of, is_numbered, is_symbol, behind_variable, behind_constant, on_constant, in_functor, on_functor, on_head, behind_comma, behind_functor, on_mark, behind, step, Reaches, not_yet, further_on, IsWhole}
use Rattle.uc_system.proofs.Precedence.{each_in}
use Rattle.uc_system.proofs.Counting.{seen_after, Counts, after_both, counts_both}

-- a symbol that is named
pub record Named (table : Table) (precedence : List Sym) (name : List ℕ) (n : ℕ) : Type 0 where
  pub f : Sym
  pub known : In precedence f
  pub name_is : name ≡ name_of table f
  pub arity_is : n ≡ arity_of table f

pub named : (table : Table) (fs : List Sym) (name : List ℕ) (n : ℕ) → is_symbol table fs name n ≡ true → Named table fs name n
named table [] name n h = absurd cc
named table (f ∷ fs) name n h = by_test (bytes_eq name (name_of table f) && (n == arity_of table f)) refl h (named table fs name n)
  where
    by_test : (b : Bool) → (bytes_eq name (name_of table f) && (n == arity_of table f)) ≡ b → (b || is_symbol table fs name n) ≡ true → (is_symbol table fs name n ≡ true → Named table fs name n) → Named table (f ∷ fs) name n
    by_test true e k later = let parts = and_parts (bytes_eq name (name_of table f)) (n == arity_of table f) e in record { f = f; known = in_front; name_is = (bytes_eq-Decides name (name_of table f)).0 parts.0; arity_is = eqb-true n (arity_of table f) parts.1 }
    by_test false e k later = let r = later k in record { f = r.f; known = in_rest r.known; name_is = r.name_is; arity_is = r.arity_is }

pub is_named : (table : Table) (fs : List Sym) (f : Sym) → In fs f → is_symbol table fs (name_of table f) (arity_of table f) ≡ true
is_named table [] f i = elim i [ ]
is_named table (f ∷ fs) _ in_front = rw ((bytes_eq-Decides (name_of table f) (name_of table f)).1 refl, eq-eqb (arity_of table f) (arity_of table f) refl) refl
is_named table (g ∷ fs) f (in_rest i) = or_later (bytes_eq (name_of table f) (name_of table g) && (arity_of table f == arity_of table g)) _ (is_named table fs f i)
  where
    or_later : (a b : Bool) → b ≡ true → (a || b) ≡ true
    or_later true b h = refl
    or_later false b h = h

symbol_is : (table : Table) (f : Sym) → Has table f → IsSymbol table f (name_of table f) (arity_of table f)
symbol_is table f has =
    let d : Entry = record { name = []; arity = 0 } in
    slice_get-get_or table f.0 d has ∙ ap Some (sym (unwrap_or-slice_get table f.0 d))

-- no symbol of the table has the name
pub no_symbol : (table : Table) (fs : List Sym) → Each (Has table) fs → (name : List ℕ) (n : ℕ) → ((f : Sym) → IsSymbol table f name n → ⊥) → is_symbol table fs name n ≡ false
no_symbol table fs has name n none_has = by_test (is_symbol table fs name n) refl
  where
    by_test : (b : Bool) → is_symbol table fs name n ≡ b → b ≡ false
    by_test false e = refl
    by_test true e = absurd (found (named table fs name n e))
      where
        found : Named table fs name n → ⊥
        found r = none_has r.f (subst (λ x. IsSymbol table r.f x n) (sym r.name_is) (subst (λ k. IsSymbol table r.f (name_of table r.f) k) (sym r.arity_is) (symbol_is table r.f (each_in (Has table) fs r.f has r.known))))

-- the symbol of the table that has it is the only one
module _ (table : Table) (d : IsDistinct table) (f : Sym) (name : List ℕ) (n : ℕ) (is : IsSymbol table f name n) where
  both_ways : (a b : Bool) → (a ≡ true → b ≡ true) → (b ≡ true → a ≡ true) → a ≡ b
  both_ways true b g h = sym (g refl)
  both_ways false true g h = absurd (let e = h refl in cc)
  both_ways false false g h = refl

  entry_of_number : (g : Sym) → f.0 ≡ g.0 → IsSymbol table g name n
  entry_of_number g e = subst (λ i. slice_get table i ≡ Some (record { name = name; arity = n })) e is

  name_there : (g : Sym) → IsSymbol table g name n → name_of table g ≡ name
  name_there g s = ap (λ (o : Option Entry). (unwrap_or o (record { name = []; arity = 0 })).name) s

  arity_there : (g : Sym) → IsSymbol table g name n → arity_of table g ≡ n
  arity_there g s = ap (λ (o : Option Entry). (unwrap_or o (record { name = []; arity = 0 })).arity) s

  one_test : (g : Sym) → Has table g → (f.0 == g.0) ≡ (bytes_eq name (name_of table g) && (n == arity_of table g))
  one_test g has = both_ways (f.0 == g.0) (bytes_eq name (name_of table g) && (n == arity_of table g))
      (λ e. (let s = entry_of_number g (eqb-true f.0 g.0 e) in and_from (bytes_eq name (name_of table g)) (n == arity_of table g) ((bytes_eq-Decides name (name_of table g)).1 (sym (name_there g s))) (eq-eqb n (arity_of table g) (sym (arity_there g s)))))
      (λ e. (let parts = and_parts (bytes_eq name (name_of table g)) (n == arity_of table g) e in
      let names : name ≡ name_of table g = (bytes_eq-Decides name (name_of table g)).0 parts.0 in
      let arities : n ≡ arity_of table g = eqb-true n (arity_of table g) parts.1 in
      eq-eqb f.0 g.0 (d f.0 g.0 (record { name = name_of table g; arity = arity_of table g }) (is ∙ ap₂ (λ x k. Some (record { name = x; arity = k })) names arities) (symbol_is table g has))))

  pub found_symbol : (fs : List Sym) → Each (Has table) fs → list_any (same_symbol f) fs ≡ is_symbol table fs name n
  found_symbol [] has = refl
  found_symbol (g ∷ gs) has = ap₂ (λ a b. a || b) (one_test g has.0) (found_symbol gs has.1)

-- a byte before two texts
pub behind_byte : (b : ℕ) (x y z : List ℕ) → (x ++ (b ∷ [])) ++ y ++ z ≡ x ++ (b ∷ (y ++ z))
behind_byte b x y z = append_assoc (x ++ b ∷ []) y z ∙ append_assoc x (b ∷ []) (y ++ z)

module _ (table : Table) (precedence : List Sym) (text : List ℕ) (tokens : List Token) where
  abbrev Step : State → Option State
  Step = step table precedence text tokens

  abbrev Known : List ℕ → ℕ → Bool
  Known = is_symbol table precedence

  abbrev Word : ℕ → List ℕ
  Word at = word_at text tokens at

  -- the kinds of steps
  pub data Moves (s : State) : State → Type 0 where
    past_variable : (n : ℕ) → s.behind_term ≡ false → is_numbered s.seen n ≡ true → Moves s (behind_variable s n)
    past_constant : s.behind_term ≡ false → Known (Word s.at) 0 ≡ true → Moves s (behind_constant (word_at text tokens s.at) s)
    into_functor : s.behind_term ≡ false → Moves s (in_functor (word_at text tokens s.at) s)
    past_comma : (p : Pending) (ps : List Pending) → s.behind_term ≡ true → s.pending ≡ p ∷ ps → Moves s (behind_comma s p ps)
    past_functor : (p : Pending) (ps : List Pending) → s.behind_term ≡ true → s.pending ≡ p ∷ ps → Known (Word p.functor) p.arguments ≡ true → Moves s (behind_functor s ps)

  if_some : (b : Bool) (s t : State) → (if b then Some s else None) ≡ Some t → (b ≡ true) × (s ≡ t)
  if_some true s t e = let same : s ≡ t = cc in (refl, same)
  if_some false s t e = absurd cc

  module _ (s t : State) where
    by_constant : s.behind_term ≡ false → on_constant table precedence text tokens s ≡ Some t → Moves s t
    by_constant b e = let r = if_some (Known (Word s.at) 0) (behind_constant (word_at text tokens s.at) s) t e in subst (Moves s) r.1 (past_constant b r.0)

    by_functor : (x : Terminal) → s.behind_term ≡ false → on_functor table precedence text tokens s x ≡ Some t → Moves s t
    by_functor terminal.Open b e = let same : in_functor (word_at text tokens s.at) s ≡ t = cc in subst (Moves s) same (into_functor b)
    by_functor other b e = by_constant b e

    by_head : (h : Head) → s.behind_term ≡ false → on_head table precedence text tokens s h ≡ Some t → Moves s t
    by_head Variable b e =
        let n : ℕ = number_of (bytes_at text tokens s.at) in
        let r = if_some (is_numbered s.seen n) (behind_variable s n) t e in
        subst (Moves s) r.1 (past_variable n b r.0)
    by_head Functor b e = by_functor (terminal_at text tokens (s.at + 1)) b e
    by_head Neither b e = absurd cc

    by_mark : (p : Pending) (ps : List Pending) (x : Terminal) → s.behind_term ≡ true → s.pending ≡ p ∷ ps → on_mark table precedence text tokens s p ps x ≡ Some t → Moves s t
    by_mark p ps terminal.Comma b q e = let r = if_some (nat_lt p.arguments 255) (behind_comma s p ps) t e in subst (Moves s) r.1 (past_comma p ps b q)
    by_mark p ps terminal.Close b q e = let r = if_some (Known (Word p.functor) p.arguments) (behind_functor s ps) t e in subst (Moves s) r.1 (past_functor p ps b q r.0)
    by_mark p ps other b q e = absurd cc

    by_pending : (qs : List Pending) → s.behind_term ≡ true → s.pending ≡ qs → behind table precedence text tokens s qs ≡ Some t → Moves s t
    by_pending [] b q e = absurd cc
    by_pending (p ∷ ps) b q e = by_mark p ps (terminal_at text tokens s.at) b q e

    by_side : (b : Bool) → s.behind_term ≡ b → (if b then behind table precedence text tokens s s.pending else on_head table precedence text tokens s (head_at text tokens s.at)) ≡ Some t → Moves s t
    by_side true b e = by_pending s.pending b refl e
    by_side false b e = by_head (head_at text tokens s.at) b e

    pub moves : Step s ≡ Some t → Moves s t
    moves e = by_side s.behind_term refl e

  -- BOUNDS

  max_few : (a n k : ℕ) → is_numbered a n ≡ true → a ≤ k → max a n ≤ k + 1
  max_few a n k h l = let parts = and_parts (nat_le 1 n) (nat_le n (a + 1)) h in grind (arith, nat_tests, parts.0, parts.1)

  pub few_more : (s t : State) → Step s ≡ Some t → s.nodes ≤ s.at → s.seen ≤ s.at → (t.nodes ≤ t.at) × (t.seen ≤ t.at) × (s.at < t.at) × (t.at ≤ s.at + 2)
  few_more s t e n k = go (moves s t e)
    where
      go : {t : State} → Moves s t → (t.nodes ≤ t.at) × (t.seen ≤ t.at) × (s.at < t.at) × (t.at ≤ s.at + 2)
      go (past_variable m b h) = (omega (arith, n), max_few s.seen m s.at h k, omega arith, omega arith)
      go (past_constant b h) = (omega (arith, n), omega (arith, k), omega arith, omega arith)
      go (into_functor b) = (omega (arith, n), omega (arith, k), omega arith, omega arith)
      go (past_comma p ps b q) = (omega (arith, n), omega (arith, k), omega arith, omega arith)
      go (past_functor p ps b q h) = (omega (arith, n), omega (arith, k), omega arith, omega arith)

  -- behind the last token no step leads
  no_terminal : (at : ℕ) → length tokens ≤ at → terminal_at text tokens at ≡ terminal.End
  no_terminal at h = by_token (slice_get_cases tokens at).1
    where
      by_token : ((x : Token) × (at < length tokens) × (slice_get tokens at ≡ Some x) × (get_or tokens at x ≡ x)) ⊎ ((length tokens ≤ at) × (slice_get tokens at ≡ None)) → terminal_at text tokens at ≡ terminal.End
      by_token (inl t) = absurd (omega (arith, h, t.1))
      by_token (inr n) = ap (terminal_or_end text) n.1

  pub beyond : (s : State) → length tokens ≤ s.at → Step s ≡ None
  beyond s h = by_side s.behind_term
    where
      by_pending : (qs : List Pending) → behind table precedence text tokens s qs ≡ None
      by_pending [] = refl
      by_pending (p ∷ ps) = ap (on_mark table precedence text tokens s p ps) (no_terminal s.at h)

      by_side : (b : Bool) → (if b then behind table precedence text tokens s s.pending else on_head table precedence text tokens s (head_at text tokens s.at)) ≡ None
      by_side true = by_pending s.pending
      by_side false = ap (λ x. on_head table precedence text tokens s (head_of x)) (no_terminal s.at h)

  -- the loop goes on
  pub steps_on : {a : State} (s : State) (pass : Pass) (goes : Bool) → IsNext (Step s) goes pass → goes ≡ true → s.nodes ≤ s.at → s.seen ≤ s.at → s.at < length tokens → Reaches table precedence text tokens a s → Reaches table precedence text tokens a (state_of pass) × (pass.nodes ≤ pass.at) × (pass.seen ≤ pass.at) × (s.at < pass.at) × (pass.at ≤ length tokens + 1)
  steps_on s pass true e t n k inside r = let b = few_more s (state_of pass) e n k in (further_on r e, b.0, b.1, b.2, omega (arith, b.3, inside))
  steps_on s pass false e t n k inside r = absurd cc

  -- ONE END

  abbrev Leads : State → State → Type 0
  Leads = Reaches table precedence text tokens

  some_state : (s t : State) → Some s ≡ Some t → s ≡ t
  some_state s t e = cc

  no_state : (o : Option State) (t : State) → o ≡ None → o ≡ Some t → ⊥
  no_state o t e f = cc

  first_step : {s g t : State} → Leads s g → Step s ≡ Some t → (g ≡ s) ⊎ Leads t g
  first_step not_yet e = inl refl
  first_step {s = s} {t = t} (further_on {s = m} {t = g} r f) e = by_middle (first_step r e)
    where
      by_middle : (m ≡ s) ⊎ Leads t m → (g ≡ s) ⊎ Leads t g
      by_middle (inl q) = inr (subst (λ x. Leads t x) (some_state t g (sym e ∙ ap Step (sym q) ∙ f)) not_yet)
      by_middle (inr l) = inr (further_on l f)

  from_there : {a s f : State} → Leads a s → Leads a f → Step f ≡ None → Leads s f
  from_there not_yet l n = l
  from_there {f = f} (further_on {s = m} {t = s} r e) l n = by_first (first_step (from_there r l n) e)
    where
      by_first : (f ≡ m) ⊎ Leads s f → Leads s f
      by_first (inl q) = absurd (no_state (Step f) s n (ap Step q ∙ e))
      by_first (inr h) = h

  stays : {f g : State} → Leads f g → Step f ≡ None → g ≡ f
  stays not_yet n = refl
  stays (further_on {s = m} {t = g} r e) n = absurd (no_state (Step m) g (ap Step (stays r n) ∙ n) e)

  pub one_end : {a f g : State} → Leads a f → Leads a g → Step f ≡ None → Step g ≡ None → g ≡ f
  one_end l k n m = stays (from_there l k m) n

  pub whole_ends : (s : State) → IsWhole s → Step s ≡ None
  whole_ends s w = ap (λ b. if b then behind table precedence text tokens s s.pending else on_head table precedence text tokens s (head_at text tokens s.at)) w.0 ∙ ap (behind table precedence text tokens s) w.1

  -- WHAT IS PRINTED AGAIN

  abbrev IsSideOf : Tree → Type 0
  IsSideOf t = IsTerm (In precedence) (arity_of table) t

  abbrev AreSidesOf : Trees → Type 0
  AreSidesOf ts = AreOver (In precedence) (arity_of table) (λ _. Unit {0}) ts

  module _ (seen_first : ℕ) where
    -- the functors whose brackets are open with what is read of their arguments, how many variables and nodes that has, and its text
    pub data Hole : List Pending → ℕ → ℕ → List ℕ → Type 0 where
      outside : Hole [] seen_first 0 []
      first_argument : {ps : List Pending} {seen n : ℕ} {x : List ℕ} (i : ℕ) → Hole ps seen n x → Hole (record { functor = i; arguments = 1 } ∷ ps) seen (n + 1) (x ++ spelling (Word i) ++ 40 ∷ [])
      next_argument : {p : Pending} {ps : List Pending} {seen n : ℕ} {x : List ℕ} (t : Tree) → Hole (p ∷ ps) seen n x → IsSideOf t → Counts seen (variables t) → Hole (record p { arguments = p.arguments + 1 } ∷ ps) (seen_after seen (variables t)) (n + nodes t) (x ++ term_text table t ++ 44 ∷ [])

    -- the arguments of the innermost functor, when it is closed
    pub record Closed (p : Pending) (ps : List Pending) (arguments seen n : ℕ) (x : List ℕ) : Type 0 where
      pub seen_before : ℕ
      pub nodes_before : ℕ
      pub text_before : List ℕ
      pub hole : Hole ps seen_before nodes_before text_before
      pub trees : Trees
      pub terms : AreSidesOf trees
      pub many : count trees ≡ arguments
      pub counts : Counts seen_before (variables_all trees)
      pub seen_is : seen ≡ seen_after seen_before (variables_all trees)
      pub nodes_are : n ≡ nodes_before + (nodes_all trees + 1)
      pub text_is : x ≡ text_before ++ spelling (Word p.functor) ++ args_text table trees

    closes : {p : Pending} {ps : List Pending} {seen n : ℕ} {x : List ℕ} → Hole (p ∷ ps) seen n x → (t : Tree) (ts : Trees) → IsSideOf t → AreSidesOf ts → Counts seen (variables t ++ variables_all ts) → Closed p ps (p.arguments + count ts) (seen_after seen (variables t ++ variables_all ts)) (n + nodes t + nodes_all ts) (x ++ term_text table t ++ rest_text table ts)
    closes (first_argument {ps = ps} {seen = seen} {n = n} {x = x} i h) t ts over others c = record {
      seen_before = seen;
      nodes_before = n;
      text_before = x;
      hole = h;
      trees = more t ts;
      terms = (over, others);
      many = omega arith;
      counts = c;
      seen_is = refl;
      nodes_are = omega arith;
      text_is = behind_byte 40 (x ++ spelling (Word i)) (term_text table t) (rest_text table ts);
    }
    closes (next_argument {p = p} {ps = ps} {seen = seen} {n = n} {x = x} u h first counts) t ts over others c =
        let r = closes h u (more t ts) first (over, others) (counts_both seen (variables u) (variables t ++ variables_all ts) counts c) in
        record {
          seen_before = r.seen_before;
          nodes_before = r.nodes_before;
          text_before = r.text_before;
          hole = r.hole;
          trees = r.trees;
          terms = r.terms;
          many = omega (arith, r.many);
          counts = r.counts;
          seen_is = sym (after_both seen (variables u) (variables t ++ variables_all ts)) ∙ r.seen_is;
          nodes_are = omega (arith, r.nodes_are);
          text_is = behind_byte 44 (x ++ term_text table u) (term_text table t) (rest_text table ts) ∙ r.text_is;
        }

    pub data Stands (s : State) : Type 0 where
      expects : s.behind_term ≡ false → Hole s.pending s.seen s.nodes s.text → Stands s
      ended : (seen n : ℕ) (x : List ℕ) (t : Tree) → s.behind_term ≡ true → Hole s.pending seen n x → IsSideOf t → Counts seen (variables t) → s.seen ≡ seen_after seen (variables t) → s.nodes ≡ n + nodes t → s.text ≡ x ++ term_text table t → Stands s

    wrong_side : (s : State) → s.behind_term ≡ true → s.behind_term ≡ false → ⊥
    wrong_side s e f = cc

    variable_one : (m : ℕ) → 1 ≤ m → 88 ∷ decimal m ≡ variable_text (m - 1)
    variable_one m h = let e : m - 1 + 1 ≡ m = omega (arith, h) in ap (λ n. 88 ∷ decimal n) (sym e)

    stands_on : {s t : State} → Moves s t → Stands s → Stands t
    stands_on {s} (past_variable m b h) (ended seen n x t c hole over counts e f g) = absurd (wrong_side s c b)
    stands_on {s} (past_variable m b h) (expects c hole) =
        let parts = and_parts (nat_le 1 m) (nat_le m (s.seen + 1)) h in
        let one : 1 ≤ m = grind (arith, nat_tests, parts.0) in
        let few : m ≤ s.seen + 1 = grind (arith, nat_tests, parts.1) in
        let back : m - 1 + 1 ≡ m = omega (arith, one) in
        ended s.seen s.nodes s.text (var (m - 1)) refl hole tt (omega (arith, few), tt) (ap (λ n. max s.seen n) (sym back)) refl (ap (λ y. s.text ++ y) (variable_one m one))
    stands_on {s} (past_constant b h) (ended seen n x t c hole over counts e f g) = absurd (wrong_side s c b)
    stands_on {s} (past_constant b h) (expects c hole) =
        let r = named table precedence (Word s.at) 0 h in
        ended s.seen s.nodes s.text (app r.f none) refl hole (r.known, r.arity_is, tt) tt refl refl (ap (λ y. s.text ++ spelling y) r.name_is ∙ ap (λ y. s.text ++ y) (sym (append-nil (spelling (name_of table r.f)))))
    stands_on {s} (into_functor b) (ended seen n x t c hole over counts e f g) = absurd (wrong_side s c b)
    stands_on {s} (into_functor b) (expects c hole) = expects b (first_argument s.at hole)
    stands_on {s} (past_comma p ps b q) (expects c hole) = absurd (wrong_side s b c)
    stands_on {s} (past_comma p ps b q) (ended seen n x t c hole over counts e f g) =
        let here : Hole (p ∷ ps) seen n x = subst (λ qs. Hole qs seen n x) q hole in
        let there = next_argument t here over counts in
        expects refl (rw (e, f, g) there)
    stands_on {s} (past_functor p ps b q h) (expects c hole) = absurd (wrong_side s b c)
    stands_on {s} (past_functor p ps b q h) (ended seen n x t c hole over counts e f g) =
        let here : Hole (p ∷ ps) seen n x = subst (λ qs. Hole qs seen n x) q hole in
        let r = closes here t none over tt (subst (Counts seen) (sym (append-nil (variables t))) counts) in
        let f_is = named table precedence (Word p.functor) p.arguments h in
        ended r.seen_before r.nodes_before r.text_before (app f_is.f r.trees) b r.hole (f_is.known, omega (arith, r.many, f_is.arity_is), r.terms) r.counts
        (e ∙ ap (seen_after seen) (sym (append-nil (variables t))) ∙ r.seen_is)
        (omega (arith, f, r.nodes_are))
        (ap (λ y. y ++ 41 ∷ []) g ∙ r.text_is ∙ ap (λ y. r.text_before ++ spelling y ++ args_text table r.trees) f_is.name_is ∙ append_assoc r.text_before (spelling (name_of table f_is.f)) (args_text table r.trees))

    stands : {from : ℕ} {s : State} → Leads (start from seen_first) s → Stands s
    stands not_yet = expects refl outside
    stands (further_on {s = s} {t = t} r e) = stands_on (moves s t e) (stands r)

    pub record Printed (s : State) : Type 0 where
      pub tree : Tree
      pub over : IsSideOf tree
      pub counts : Counts seen_first (variables tree)
      pub seen_is : s.seen ≡ seen_after seen_first (variables tree)
      pub nodes_are : s.nodes ≡ nodes tree
      pub text_is : s.text ≡ term_text table tree

    nothing_open : {qs : List Pending} {seen n : ℕ} {x : List ℕ} → Hole qs seen n x → qs ≡ [] → (seen ≡ seen_first) × (n ≡ 0) × (x ≡ [])
    nothing_open outside e = (refl, refl, refl)
    nothing_open (first_argument i h) e = absurd cc
    nothing_open (next_argument t h over c) e = absurd cc

    pub printed : {from : ℕ} {s : State} → Leads (start from seen_first) s → IsWhole s → Printed s
    printed {s = s} r w = by_stand (stands r)
      where
        by_stand : Stands s → Printed s
        by_stand (expects c hole) = absurd (wrong_side s w.0 c)
        by_stand (ended seen n x t c hole over counts e f g) =
            let none_open = nothing_open hole w.1 in
            record {
              tree = t;
              over = over;
              counts = subst (λ k. Counts k (variables t)) none_open.0 counts;
              seen_is = e ∙ ap (λ k. seen_after k (variables t)) none_open.0;
              nodes_are = omega (arith, f, none_open.1);
              text_is = g ∙ ap (λ y. y ++ term_text table t) none_open.2;
            }
