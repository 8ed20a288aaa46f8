-- Entries in a row, and what lives of them.
use Rattle.std.proofs.Common.{◌≡◌, ℕ, suc, ◌==◌, ◌+◌, ◌<◌, ◌≤◌, ◌≢◌, Bool, true, false, List, [], ◌∷◌, ◌++◌, length, map, None, refl, sym, ap, ◌∙◌, arith, append-nil, length-append}
use Rattle.std.specs.Prelude.{◌||◌, not, filter}
use Rattle.std.proofs.lemmas.Bool.{eqb-true, eq-eqb}
use Rattle.std.proofs.lemmas.List.{length-map, map-append}
use Rattle.uc_term.specs.declared.equation.Equation.{Equation}
use Rattle.uc_fact.specs.Live.{Live, AreRising, fact_at, numbered_from, equation_of}
use Rattle.uc_shelf.specs.declared.entry.Entry.{Entry}
use Rattle.uc_shelf.specs.declared.entry.Entry.TheVariants.{Born, Dies}
use Rattle.uc_shelf.specs.Entries.{born, is_dead, equations, living, live}
use Rattle.uc_shelf.specs.Numbers.{births_from}
use Rattle.uc_shelf.specs.Segments.{Stretch, IsRunOf}
use Rattle.uc_shelf.specs.Viewing.{still_living}
use Rattle.uc_shelf.specs.Rising.{rise_on, filtered_rise}
use Rattle.uc_shelf.proofs.Viewed.{filtered, same_if_alive}

pub born_append : (xs ys : List Entry) → born (xs ++ ys) ≡ born xs ++ born ys
born_append [] ys = refl
born_append (Born f ∷ xs) ys = ap (λ z. f ∷ z) (born_append xs ys)
born_append (Dies f k ∷ xs) ys = born_append xs ys

pub born_length : (xs ys : List Entry) → length (born (xs ++ ys)) ≡ length (born xs) + length (born ys)
born_length xs ys = ap length (born_append xs ys) ∙ length-append (born xs) (born ys)

pub births_length : (k : ℕ) (es : List Entry) → length (births_from k es) ≡ length (born es)
births_length k [] = refl
births_length k (Born f ∷ es) = ap suc (births_length (k + 1) es)
births_length k (Dies f l ∷ es) = births_length (k + 1) es

pub births_few : (es : List Entry) → length (born es) ≤ length es
births_few [] = omega arith
births_few (Born f ∷ es) = omega (arith, births_few es)
births_few (Dies f l ∷ es) = omega (arith, births_few es)

pub dead_append : (xs ys : List Entry) (n : ℕ) → is_dead (xs ++ ys) n ≡ (is_dead xs n || is_dead ys n)
dead_append [] ys n = refl
dead_append (Born f ∷ xs) ys n = dead_append xs ys n
dead_append (Dies f k ∷ xs) ys n = go (f == n) (dead_append xs ys n)
  where
    go : (b : Bool) → is_dead (xs ++ ys) n ≡ (is_dead xs n || is_dead ys n) → (b || is_dead (xs ++ ys) n) ≡ ((b || is_dead xs n) || is_dead ys n)
    go true h = refl
    go false h = h

or_first : (a b : Bool) → a ≡ true → (a || b) ≡ true
or_first true b h = refl
or_first false b h = cc

or_second : (a b : Bool) → b ≡ true → (a || b) ≡ true
or_second true b h = refl
or_second false b h = h

-- what dies in a run dies
pub dead_in_run : (all : List Entry) (s : Stretch) (n : ℕ) → IsRunOf all s → is_dead s.entries n ≡ true → is_dead all n ≡ true
dead_in_run all s n r h = ap (λ z. is_dead z n) r.all_is ∙ dead_append r.before (s.entries ++ r.behind) n ∙ or_second (is_dead r.before n) (is_dead (s.entries ++ r.behind) n) (dead_append s.entries r.behind n ∙ or_first (is_dead s.entries n) (is_dead r.behind n) h)

alive_in : (a b : Bool) → (a ≡ true → b ≡ true) → b ≡ false → a ≡ false
alive_in true b h e = (let t = h refl in cc)
alive_in false b h e = refl

pub alive_in_run : (all : List Entry) (s : Stretch) (n : ℕ) → IsRunOf all s → is_dead all n ≡ false → is_dead s.entries n ≡ false
alive_in_run all s n r h = alive_in (is_dead s.entries n) (is_dead all n) (dead_in_run all s n r) h

numbered_append : (n : ℕ) (xs ys : List Equation) → numbered_from n (xs ++ ys) ≡ numbered_from n xs ++ numbered_from (n + length xs) ys
numbered_append n [] ys = ap (λ m. numbered_from m ys) (let e : n ≡ n + 0 = omega arith in e)
numbered_append n (x ∷ xs) ys = ap (λ z. record { number = n; equation = x } ∷ z) (numbered_append (n + 1) xs ys ∙ ap (λ m. numbered_from (n + 1) xs ++ numbered_from m ys) (let e : n + 1 + length xs ≡ n + suc (length xs) = omega arith in e))

equations_append : (xs ys : List Entry) → equations (xs ++ ys) ≡ equations xs ++ equations ys
equations_append xs ys = ap (map equation_of) (born_append xs ys) ∙ map-append equation_of (born xs) (born ys)

pub living_append : (all : List Entry) (n : ℕ) (xs ys : List Entry) → living all n (xs ++ ys) ≡ living all n xs ++ living all (n + length (born xs)) ys
living_append all n xs ys =
    let p : Live → Bool = λ f. not (is_dead all f.number) in
    ap (λ z. filter p (numbered_from n z)) (equations_append xs ys) ∙ ap (filter p) (numbered_append n (equations xs) (equations ys))
    ∙ filtered p (numbered_from n (equations xs)) (numbered_from (n + length (equations xs)) (equations ys))
    ∙ ap (λ m. living all n xs ++ living all (n + m) ys) (length-map (born xs) equation_of)

filter_twice : (p q : Live → Bool) → ((x : Live) → p x ≡ true → q x ≡ true) → (xs : List Live) → filter p (filter q xs) ≡ filter p xs
filter_twice p q h [] = refl
filter_twice p q h (x ∷ xs) = go (q x) refl (p x) refl (filter_twice p q h xs)
  where
    go : (b : Bool) → q x ≡ b → (c : Bool) → p x ≡ c → filter p (filter q xs) ≡ filter p xs → filter p (filter q (x ∷ xs)) ≡ filter p (x ∷ xs)
    go true b true c r = rw b (rw c (ap (λ z. x ∷ z) r))
    go true b false c r = rw b (rw c r)
    go false b true c r = absurd (let t : q x ≡ true = h x c in cc)
    go false b false c r = rw b (rw c r)

not_dead : (a b : Bool) → (a ≡ true → b ≡ true) → not b ≡ true → not a ≡ true
not_dead true b h e = (let t : b ≡ true = h refl in absurd (let u : not b ≡ false = ap not t in cc))
not_dead false b h e = refl

-- of a run lives what lives of what it leaves alive
pub living_own : (all : List Entry) (s : Stretch) → IsRunOf all s → living all s.base s.entries ≡ still_living all (living s.entries s.base s.entries)
living_own all s r = sym (filter_twice (λ f. not (is_dead all f.number)) (λ f. not (is_dead s.entries f.number)) (λ f. not_dead (is_dead s.entries f.number) (is_dead all f.number) (dead_in_run all s f.number r)) (numbered_from s.base (equations s.entries)))

-- the fact of a number

fact_past : (m : ℕ) (xs ys : List Equation) (n : ℕ) → m + length xs ≤ n → fact_at (numbered_from m (xs ++ ys)) n ≡ fact_at (numbered_from (m + length xs) ys) n
fact_past m [] ys n h = ap (λ k. fact_at (numbered_from k ys) n) (let e : m ≡ m + 0 = omega arith in e)
fact_past m (x ∷ xs) ys n h = go (m == n) refl (fact_past (m + 1) xs ys n (omega (arith, h)) ∙ ap (λ k. fact_at (numbered_from k ys) n) (let e : m + 1 + length xs ≡ m + suc (length xs) = omega arith in e))
  where
    go : (b : Bool) → (m == n) ≡ b → fact_at (numbered_from (m + 1) (xs ++ ys)) n ≡ fact_at (numbered_from (m + suc (length xs)) ys) n → fact_at (numbered_from m (x ∷ xs ++ ys)) n ≡ fact_at (numbered_from (m + suc (length xs)) ys) n
    go true q r = absurd (omega (arith, h, eqb-true m n q))
    go false q r = rw q r

fact_here : (m : ℕ) (xs ys : List Equation) (n : ℕ) → m ≤ n → n < m + length xs → fact_at (numbered_from m (xs ++ ys)) n ≡ fact_at (numbered_from m xs) n
fact_here m [] ys n l h = absurd (omega (arith, l, h))
fact_here m (x ∷ xs) ys n l h = go (m == n) refl (λ other. fact_here (m + 1) xs ys n (omega (arith, l, other)) (omega (arith, h)))
  where
    go : (b : Bool) → (m == n) ≡ b → ((m ≢ n) → fact_at (numbered_from (m + 1) (xs ++ ys)) n ≡ fact_at (numbered_from (m + 1) xs) n) → fact_at (numbered_from m (x ∷ xs ++ ys)) n ≡ fact_at (numbered_from m (x ∷ xs)) n
    go true q r = rw q refl
    go false q r = rw q (r (λ e. (let t : (m == n) ≡ true = eq-eqb m n e in cc)))

pub none_past : (es : List Entry) (n : ℕ) → is_dead es n ≡ false → length (born es) ≤ n → fact_at (live es) n ≡ None
none_past es n alive h =
    same_if_alive es n (numbered_from 0 (equations es)) alive
    ∙ ap (λ z. fact_at (numbered_from 0 z) n) (sym (append-nil (equations es)))
    ∙ fact_past 0 (equations es) [] n (omega (arith, h, length-map (born es) equation_of))

-- the fact of a number is found in the run in which it is born
pub fact_in_run : (all : List Entry) (s : Stretch) (n : ℕ) → IsRunOf all s → is_dead all n ≡ false → s.base ≤ n → n < s.base + length (born s.entries) → fact_at (live all) n ≡ fact_at (living s.entries s.base s.entries) n
fact_in_run all s n r alive l h =
    let eqs = equations s.entries in
    let size : length (equations r.before) ≡ s.base = length-map (born r.before) equation_of ∙ sym r.base_is in
    let own : length eqs ≡ length (born s.entries) = length-map (born s.entries) equation_of in
    same_if_alive all n (numbered_from 0 (equations all)) alive
    ∙ ap (λ z. fact_at (numbered_from 0 (equations z)) n) r.all_is
    ∙ ap (λ z. fact_at (numbered_from 0 z) n) (equations_append r.before (s.entries ++ r.behind))
    ∙ fact_past 0 (equations r.before) (equations (s.entries ++ r.behind)) n (omega (arith, l, size))
    ∙ ap (λ m. fact_at (numbered_from m (equations (s.entries ++ r.behind))) n) (let z : 0 + length (equations r.before) ≡ s.base = omega (arith, size) in z)
    ∙ ap (λ z. fact_at (numbered_from s.base z) n) (equations_append s.entries r.behind)
    ∙ fact_here s.base eqs (equations r.behind) n l (omega (arith, h, own))
    ∙ sym (same_if_alive s.entries n (numbered_from s.base eqs) (alive_in_run all s n r alive))

pub births_count : (es : List Entry) (bs : List ℕ) (n : ℕ) → n ≡ length bs → bs ≡ births_from 0 es → (n ≡ length (born es)) × (n ≤ length es)
births_count es bs n l e = (l ∙ ap length e ∙ births_length 0 es, omega (arith, l, ap length e, births_length 0 es, births_few es))

pub living_rises : (all : List Entry) (n : ℕ) (es : List Entry) → AreRising (living all n es)
living_rises all n es = rise_on 0 n (living all n es) (omega arith) (filtered_rise (λ f. not (is_dead all f.number)) n (equations es))
