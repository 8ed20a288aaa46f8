-- How the variables of a line get their numbers.
use Rattle.std.proofs.Common.{◌≡◌, ℕ, ◌+◌, ◌<◌, ◌≤◌, ◌==◌, ◌||◌, not, Bool, true, false, cond, List, [], ◌∷◌, ◌++◌, length, map, take, get_or, if◌then◌else◌, refl, sym, ap, ap₂, ◌∙◌, subst, arith, append_assoc, append-nil}
use Rattle.std.specs.List.{list_any, position_or_len}
use Rattle.std.proofs.lemmas.List.{map-append, take_more}
use Rattle.std.proofs.lemmas.Grind.{flat_map-append}
use Rattle.std.proofs.Math.Bool.{or_comm}
use Rattle.uc_term.specs.Tree.{Tree, var}
use Rattle.uc_term.specs.Variables.{variables, is_among, firsts, firsts_after, place_of, renumbered_by}
use Rattle.uc_term.proofs.Agree.{same_if}
use Rattle.uc_term.proofs.Firsts.{is_among-append, firsts_after-append, firsts_after-like}
use Rattle.uc_term.proofs.NodeVars.{list_any-among}
use Rattle.uc_term.proofs.Terms.{take_of_length-le}
use Rattle.uc_check.specs.declared.proof.Line.{Line}
use Rattle.uc_check.specs.declared.proof.LineStep.{LineStep}
use Rattle.uc_check.specs.declared.proof.LineSource.{LineSource}
use Rattle.uc_check.specs.declared.proof.LineSource.TheVariants.{Chain}
use Rattle.uc_pair.specs.Numbering.{placed_by, IsNameAt}
use Rattle.uc_pair.proofs.Names.{place_new, known_adds_none, new_adds_one}
use Rattle.uc_tstp.specs.Printable.{source_variables, line_variables, renumbered_step, renumbered_source, renumbered_line}
use Rattle.uc_proof.specs.Making.{step_variables}

place_position : (x : ℕ) (ks : List ℕ) → position_or_len (λ y. x == y) ks ≡ place_of ks x
place_position x [] = refl
place_position x (y ∷ ys) = go (x == y) (place_position x ys)
  where
    go : (b : Bool) → position_or_len (λ y. x == y) ys ≡ place_of ys x → cond (not b) (1 + position_or_len (λ y. x == y) ys) 0 ≡ (if b then 0 else place_of ys x + 1)
    go true e = refl
    go false e = omega (arith, e)

place_low : (x : ℕ) (ks : List ℕ) → place_of ks x ≤ length ks
place_low x [] = omega arith
place_low x (y ∷ ys) = go (x == y) (place_low x ys)
  where
    go : (b : Bool) → place_of ys x ≤ length ys → (if b then 0 else place_of ys x + 1) ≤ length (y ∷ ys)
    go true l = omega arith
    go false l = omega (arith, l)

pub place_front : (x : ℕ) (ks rest : List ℕ) → is_among x ks ≡ true → place_of (ks ++ rest) x ≡ place_of ks x
place_front x [] rest e = absurd cc
place_front x (y ∷ ys) rest e = go (x == y) e (place_front x ys rest)
  where
    go : (b : Bool) → (b || is_among x ys) ≡ true → (is_among x ys ≡ true → place_of (ys ++ rest) x ≡ place_of ys x) → (if b then 0 else place_of (ys ++ rest) x + 1) ≡ (if b then 0 else place_of ys x + 1)
    go true e later = refl
    go false e later = ap (λ n. n + 1) (later e)

place_end : (x : ℕ) (ks : List ℕ) → is_among x ks ≡ false → place_of ks x ≡ length ks
place_end x [] e = refl
place_end x (y ∷ ys) e = go (x == y) e (place_end x ys)
  where
    go : (b : Bool) → (b || is_among x ys) ≡ false → (is_among x ys ≡ false → place_of ys x ≡ length ys) → (if b then 0 else place_of ys x + 1) ≡ length (y ∷ ys)
    go true e later = absurd cc
    go false e later = omega (arith, later e)

-- the place of a name that is put into a list of names
pub name_at : (x : ℕ) (ks new : List ℕ) (place : ℕ) → new ≡ (if list_any (λ y. x == y) ks then ks else ks ++ x ∷ []) → place ≡ position_or_len (λ y. x == y) ks → IsNameAt x ks new place
name_at x ks new place e at = go (is_among x ks) refl (e ∙ ap (λ b. if b then ks else ks ++ x ∷ []) (list_any-among x ks))
  where
    is : place ≡ place_of ks x
    is = at ∙ place_position x ks

    low : place ≤ length ks
    low = subst (λ (n : ℕ). n ≤ length ks) (sym is) (place_low x ks)

    go : (b : Bool) → is_among x ks ≡ b → new ≡ (if b then ks else ks ++ x ∷ []) → IsNameAt x ks new place
    go true a e = record {
      names_are = e ∙ known_adds_none ks x a;
      low = low;
      place_is = λ rest. is ∙ sym (ap (λ l. place_of (l ++ rest) x) e ∙ place_front x ks rest a);
    }
    go false a e = record {
      names_are = e ∙ new_adds_one ks x a;
      low = low;
      place_is = λ rest. is ∙ place_end x ks a ∙ sym (ap (λ l. place_of (l ++ rest) x) e ∙ ap (λ l. place_of l x) (append_assoc ks (x ∷ []) rest) ∙ place_new ks x rest a);
    }

-- places behind no offset
pub no_offset : (names : List ℕ) (t : Tree) → placed_by names 0 t ≡ renumbered_by names t
no_offset names t = same_if (λ x. var (place_of names x + 0)) (λ x. var (place_of names x)) t (λ x o. ap var (omega arith))

-- names added twice
seen_alike : (s added : List ℕ) (x : ℕ) → is_among x (s ++ added) ≡ is_among x (added ++ s)
seen_alike s added x = is_among-append x s added ∙ or_comm (is_among x s) (is_among x added) ∙ sym (is_among-append x added s)

pub added_twice : (s xs ys : List ℕ) → (s ++ firsts_after s xs) ++ firsts_after (s ++ firsts_after s xs) ys ≡ s ++ firsts_after s (xs ++ ys)
added_twice s xs ys =
    append_assoc s (firsts_after s xs) (firsts_after (s ++ firsts_after s xs) ys)
    ∙ ap (λ l. s ++ (firsts_after s xs ++ l)) (firsts_after-like (s ++ firsts_after s xs) (firsts_after s xs ++ s) (seen_alike s (firsts_after s xs)) ys)
    ∙ ap (λ l. s ++ l) (sym (firsts_after-append s xs ys))

pub record NumberedSteps (steps : List LineStep) (old names : List ℕ) (i : ℕ) (list : List LineStep) : Type 0 where
  pub names_are : names ≡ old ++ firsts_after old (step_variables (take i steps))
  pub list_is : (rest : List ℕ) → list ≡ map (renumbered_step (names ++ rest)) (take i steps)

pub steps_begin : (steps : List LineStep) (old : List ℕ) (list : List LineStep) → list ≡ [] → NumberedSteps steps old old 0 list
steps_begin steps old list e = record { names_are = sym (append-nil old); list_is = λ rest. e }

pub steps_on : (steps : List LineStep) (old names new : List ℕ) (i : ℕ) (list next : List LineStep) (step numbered d : LineStep) → i < length steps → step ≡ get_or steps i d → NumberedSteps steps old names i list → new ≡ names ++ firsts_after names (variables step.to) → ((rest : List ℕ) → numbered ≡ renumbered_step (new ++ rest) step) → next ≡ list ++ numbered ∷ [] → NumberedSteps steps old new (i + 1) next
steps_on steps old names new i list next step numbered d h is s added one e =
    let more : take (i + 1) steps ≡ take i steps ++ step ∷ [] = take_more steps i d h ∙ ap (λ y. take i steps ++ y ∷ []) (sym is) in
    let vars : step_variables (take (i + 1) steps) ≡ step_variables (take i steps) ++ variables step.to =
    ap step_variables more ∙ flat_map-append (λ (x : LineStep). variables x.to) (take i steps) (step ∷ []) ∙ ap (λ l. step_variables (take i steps) ++ l) (append-nil (variables step.to)) in
    record {
      names_are = added ∙ ap (λ l. l ++ firsts_after l (variables step.to)) s.names_are ∙ added_twice old (step_variables (take i steps)) (variables step.to) ∙ ap (λ l. old ++ firsts_after old l) (sym vars);
      list_is = λ rest.
          let behind = firsts_after names (variables step.to) in
          let all : names ++ (behind ++ rest) ≡ new ++ rest = sym (append_assoc names behind rest) ∙ ap (λ l. l ++ rest) (sym added) in
          let front : list ≡ map (renumbered_step (new ++ rest)) (take i steps) = s.list_is (behind ++ rest) ∙ ap (λ l. map (renumbered_step l) (take i steps)) all in
          e ∙ ap₂ (λ a b. a ++ b ∷ []) front (one rest) ∙ sym (map-append (renumbered_step (new ++ rest)) (take i steps) (step ∷ [])) ∙ ap (map (renumbered_step (new ++ rest))) (sym more);
    }

module _ (steps : List LineStep) (old names : List ℕ) (i : ℕ) (list : List LineStep) (h : length steps ≤ i) (s : NumberedSteps steps old names i list) where
  all_steps : take i steps ≡ steps
  all_steps = take_of_length-le steps i h

  pub steps_names : names ≡ old ++ firsts_after old (step_variables steps)
  steps_names = s.names_are ∙ ap (λ l. old ++ firsts_after old (step_variables l)) all_steps

  pub steps_list : (rest : List ℕ) → list ≡ map (renumbered_step (names ++ rest)) steps
  steps_list rest = s.list_is rest ∙ ap (map (renumbered_step (names ++ rest))) all_steps

-- a source that is a chain
module _ (old mid new : List ℕ) (source : LineSource) (start : Tree) (steps : List LineStep) (parents : List ℕ) (is : source ≡ Chain start steps parents) (steps_are : new ≡ mid ++ firsts_after mid (step_variables steps)) where
  pub chain_names : mid ≡ old ++ firsts_after old (variables start) → new ≡ old ++ firsts_after old (source_variables source)
  chain_names a = steps_are ∙ ap (λ l. l ++ firsts_after l (step_variables steps)) a ∙ added_twice old (variables start) (step_variables steps) ∙ ap (λ (s : LineSource). old ++ firsts_after old (source_variables s)) (sym is)

  pub chain_numbered : (first : Tree) (list : List LineStep) → ((rest : List ℕ) → first ≡ renumbered_by (mid ++ rest) start) → ((rest : List ℕ) → list ≡ map (renumbered_step (new ++ rest)) steps) → Chain first list parents ≡ renumbered_source new source
  chain_numbered first list f l =
      ap₂ (λ t ss. Chain t ss parents) (f (firsts_after mid (step_variables steps)) ∙ ap (λ xs. renumbered_by xs start) (sym steps_are)) (l [] ∙ ap (λ xs. map (renumbered_step xs) steps) (append-nil new))
      ∙ ap (renumbered_source new) (sym is)

-- the whole line
pub line_numbered : (line numbered : Line) (a b c : List ℕ) → a ≡ [] ++ firsts_after [] (variables line.left) → ((rest : List ℕ) → numbered.left ≡ renumbered_by (a ++ rest) line.left) → b ≡ a ++ firsts_after a (variables line.right) → ((rest : List ℕ) → numbered.right ≡ renumbered_by (b ++ rest) line.right) → c ≡ b ++ firsts_after b (source_variables line.source) → numbered.source ≡ renumbered_source c line.source → numbered.name ≡ line.name → numbered.positive ≡ line.positive → numbered ≡ renumbered_line line
line_numbered line numbered a b c a_is left b_is right c_is from name positive =
    let vl = variables line.left in
    let vr = variables line.right in
    let vs = source_variables line.source in
    let two : b ≡ firsts (vl ++ vr) = b_is ∙ ap (λ l. l ++ firsts_after l vr) a_is ∙ added_twice [] vl vr in
    let all : c ≡ line_variables line = c_is ∙ ap (λ l. l ++ firsts_after l vs) two ∙ added_twice [] (vl ++ vr) vs in
    let right_names : b ++ firsts_after b vs ≡ line_variables line = sym c_is ∙ all in
    let left_names : a ++ (firsts_after a vr ++ firsts_after b vs) ≡ line_variables line = sym (append_assoc a (firsts_after a vr) (firsts_after b vs)) ∙ ap (λ l. l ++ firsts_after b vs) (sym b_is) ∙ right_names in
    same name (from ∙ ap (λ xs. renumbered_source xs line.source) all) (left (firsts_after a vr ++ firsts_after b vs) ∙ ap (λ xs. renumbered_by xs line.left) left_names) (right (firsts_after b vs) ∙ ap (λ xs. renumbered_by xs line.right) right_names) positive
  where
    same : numbered.name ≡ line.name → numbered.source ≡ renumbered_source (line_variables line) line.source → numbered.left ≡ renumbered_by (line_variables line) line.left → numbered.right ≡ renumbered_by (line_variables line) line.right → numbered.positive ≡ line.positive → numbered ≡ renumbered_line line
    same n s l r p =
        ap (λ (m : List ℕ). record { name = m; source = numbered.source; left = numbered.left; right = numbered.right; positive = numbered.positive }) n
        ∙ ap (λ (m : LineSource). record { name = line.name; source = m; left = numbered.left; right = numbered.right; positive = numbered.positive }) s
        ∙ ap (λ (m : Tree). record { name = line.name; source = renumbered_source (line_variables line) line.source; left = m; right = numbered.right; positive = numbered.positive }) l
        ∙ ap (λ (m : Tree). record { name = line.name; source = renumbered_source (line_variables line) line.source; left = renumbered_by (line_variables line) line.left; right = m; positive = numbered.positive }) r
        ∙ ap (λ (m : Bool). record { name = line.name; source = renumbered_source (line_variables line) line.source; left = renumbered_by (line_variables line) line.left; right = renumbered_by (line_variables line) line.right; positive = m }) p
