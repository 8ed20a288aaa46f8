-- The token that begins with a quote, or none.
use Rattle.std.proofs.Common.{◌≡◌, ℕ, zero, suc, ◌+◌, ◌<◌, ◌≤◌, List, [], ◌∷◌, ◌⊎◌, length, get_or, take, refl, ap, subst, arith, ⊎_elim, inl, inr, Bool, true, false, not, cond, ◌&&◌, ◌||◌}
use Rattle.std.specs.Prelude.{◌==◌}
use Rattle.std.proofs.Math.Numerals.{one-add}
use Rattle.std.proofs.lemmas.Bool.{eq-eqb, ne_eqb, and_parts, both_ways, and_from, cases_Bool}
use Rattle.std.proofs.lemmas.Bool.Decides.{nat_tests}
use Rattle.uc_clause.specs.declared.token.Kind.{Kind}
use Rattle.uc_clause.specs.declared.token.Kind.TheVariants.{Quoted, Distinct}
use Rattle.uc_clause.specs.Bytes.{is_white, is_gap, closes, is_plain}
use Rattle.uc_clause.specs.Tokens.{spells, Stands, Stuck}
use Rattle.uc_clause.proofs.Once.{nothing_spells}
use Rattle.uc_clause.proofs.Longest.{tail, tail_is, one_first, no_block_by, no_test}

-- the quotes are no backslashes
abbrev IsQuote : ℕ → Type 0
IsQuote q = (q ≡ 39) ⊎ (q ≡ 34)

plain_quote : (q b : ℕ) (c : ℕ) (x : List ℕ) → IsQuote q → (b == q) ≡ true → closes q (b ∷ c ∷ x) ≡ true → ⊥
plain_quote q b c x (inl h) e t = grind (arith, nat_tests)
plain_quote q b c x (inr h) e t = grind (arith, nat_tests)

-- what behind the first byte closes too
escape_rest : (q b c : ℕ) (x : List ℕ) → (b == 92) ≡ true → closes q (b ∷ c ∷ x) ≡ true → closes q x ≡ true
escape_rest q b c x e t = (and_parts (c == 92 || c == q) (closes q x) (subst (λ a. cond {A = Bool} a ((c == 92 || c == q) && closes q x) (is_plain q b && closes q (c ∷ x)) ≡ true) e t)).1

plain_rest : (q b c : ℕ) (x : List ℕ) → (b == 92) ≡ false → closes q (b ∷ c ∷ x) ≡ true → closes q (c ∷ x) ≡ true
plain_rest q b c x e t = (and_parts (is_plain q b) (closes q (c ∷ x)) (subst (λ a. cond {A = Bool} a ((c == 92 || c == q) && closes q x) (is_plain q b && closes q (c ∷ x)) ≡ true) e t)).1

-- a text closes at one place
pub closes_once : (q : ℕ) → IsQuote q → (x : List ℕ) (n m : ℕ) → n ≤ length x → m ≤ length x → closes q (take n x) ≡ true → closes q (take m x) ≡ true → n ≡ m
closes_once q k [] n m h j s t = omega arith
closes_once q k (b ∷ []) (suc n) (suc m) h j s t = omega arith
closes_once q k (b ∷ c ∷ x) (suc zero) (suc zero) h j s t = refl
closes_once q k (b ∷ c ∷ x) (suc zero) (suc (suc m)) h j s t = absurd (plain_quote q b c (take m x) k s t)
closes_once q k (b ∷ c ∷ x) (suc (suc n)) (suc zero) h j s t = absurd (plain_quote q b c (take n x) k t s)
closes_once q k (b ∷ c ∷ x) (suc (suc n)) (suc (suc m)) h j s t =
    ⊎_elim
    (λ e. ap (λ i. suc (suc i)) (closes_once q k x n m (omega arith) (omega arith) (escape_rest q b c (take n x) e s) (escape_rest q b c (take m x) e t)))
    (λ e. ap suc (closes_once q k (c ∷ x) (suc n) (suc m) (omega arith) (omega arith) (plain_rest q b c (take n x) e s) (plain_rest q b c (take m x) e t)))
    (cases_Bool (b == 92))
closes_once q k v w m h j s t = absurd cc

quoted_part : (b : ℕ) (x : List ℕ) → spells Quoted (b ∷ x) ≡ true → closes 39 x ≡ true
quoted_part b [] t = t
quoted_part b (c ∷ x) t = (and_parts (not (c == 39)) (closes 39 (c ∷ x)) (and_parts (b == 39) _ t).1).1

quoted_only : (b : ℕ) (x : List ℕ) (kind : Kind) → b ≡ 39 → spells kind (b ∷ x) ≡ true → closes 39 x ≡ true
quoted_only b x kind e t = quoted_part b x (subst (λ k. spells k (b ∷ x) ≡ true) (one_first kind Quoted b x (λ n. eq-eqb b 39 e) t) t)

distinct_only : (b : ℕ) (x : List ℕ) (kind : Kind) → b ≡ 34 → spells kind (b ∷ x) ≡ true → closes 34 x ≡ true
distinct_only b x kind e t = (and_parts (b == 34) (closes 34 x) (subst (λ k. spells k (b ∷ x) ≡ true) (one_first kind Distinct b x (λ n. eq-eqb b 34 e) t) t)).1

-- the closing quote ends the longest token
longest_closed : (q b : ℕ) (x : List ℕ) (n : ℕ) → IsQuote q → ((kind : Kind) (y : List ℕ) → spells kind (b ∷ y) ≡ true → closes q y ≡ true) → n ≤ length x → closes q (take n x) ≡ true → (other : Kind) (m : ℕ) → m ≤ length (b ∷ x) → spells other (take m (b ∷ x)) ≡ true → m ≤ 1 + n
longest_closed q b x n k only h s other zero j t = omega arith
longest_closed q b x n k only h s other (suc m) j t = let same : n ≡ m = closes_once q k x n m h (omega arith) s (only other (take m x) t) in omega arith

-- no gap begins with another byte than white space, `%` and `/`
pub no_gap_by : (b : ℕ) (bs : List ℕ) → is_white b ≡ false → (b ≡ 37 → ⊥) → (b ≡ 47 → ⊥) → is_gap (b ∷ bs) ≡ false
no_gap_by b [] w p s = grind (arith, nat_tests)
no_gap_by b (c ∷ bs) w p s = grind (arith, nat_tests)

no_gap_front : (b : ℕ) (bs : List ℕ) → is_white b ≡ false → (b ≡ 37 → ⊥) → (b ≡ 47 → ⊥) → (n : ℕ) → is_gap (take n (b ∷ bs)) ≡ false
no_gap_front b bs w p s zero = refl
no_gap_front b bs w p s (suc n) = no_gap_by b (take n bs) w p s

-- no token begins where each one would go on in a way that nothing does
none_begins : (b : ℕ) (x : List ℕ) (P : List ℕ → Type 0) → ((kind : Kind) (y : List ℕ) → spells kind (b ∷ y) ≡ true → P y) → ((n : ℕ) → P (take n x) → ⊥) → (kind : Kind) (n : ℕ) → spells kind (take n (b ∷ x)) ≡ false
none_begins b x P only none kind zero = nothing_spells kind
none_begins b x P only none kind (suc n) = no_test (spells kind (b ∷ take n x)) (λ s. none n (only kind (take n x) s))

stuck_quote : (b : ℕ) (x : List ℕ) (P : List ℕ → Type 0) → (b ≡ 39) ⊎ (b ≡ 34) → ((kind : Kind) (y : List ℕ) → spells kind (b ∷ y) ≡ true → P y) → ((n : ℕ) → P (take n x) → ⊥) → Stuck (b ∷ x)
stuck_quote b x P (inl e) only none = record { no_gap = λ n fits. no_gap_front b x (grind (arith, nat_tests)) (λ h. omega arith) (λ h. omega arith) n; no_token = λ block kind n fits. none_begins b x P only none kind n }
stuck_quote b x P (inr e) only none = record { no_gap = λ n fits. no_gap_front b x (grind (arith, nat_tests)) (λ h. omega arith) (λ h. omega arith) n; no_token = λ block kind n fits. none_begins b x P only none kind n }

quoted_spelled : (b c : ℕ) (x : List ℕ) (n : ℕ) → b ≡ 39 → (c ≡ 39 → ⊥) → closes 39 (take n (c ∷ x)) ≡ true → spells Quoted (b ∷ take n (c ∷ x)) ≡ true
quoted_spelled b c x zero e k s = cc
quoted_spelled b c x (suc n) e k s = and_from (b == 39) _ (eq-eqb b 39 e) (and_from (not (c == 39)) _ (rw (ne_eqb c 39 k) refl) s)

pub quoted_at : (text : List ℕ) (n : ℕ) → 0 < length text → get_or text 0 0 ≡ 39 → (length text ≡ 1 → ⊥) → (get_or text 1 0 ≡ 39 → ⊥) → n ≤ length (tail text) → closes 39 (take n (tail text)) ≡ true → Stands text Quoted (1 + n)
quoted_at [] n some e l k h s = absurd (omega arith)
quoted_at (b ∷ []) n some e l k h s = absurd (l (omega arith))
quoted_at (b ∷ c ∷ x) n some e l k h s =
    let fits : n ≤ length (c ∷ x) = rw (tail_is b (c ∷ x)) at h in
    let closed : closes 39 (take n (c ∷ x)) ≡ true = rw (tail_is b (c ∷ x)) at s in
    record {
      within = omega (arith, fits);
      spelled = rw one-add (quoted_spelled b c x n e k closed);
      longest = longest_closed 39 b (c ∷ x) n (inl refl) (λ kind y t. quoted_only b y kind e t) fits closed;
      no_block = no_block_by b (c ∷ x) (λ h. omega arith);
    }

pub quoted_open : (text : List ℕ) → 0 < length text → get_or text 0 0 ≡ 39 → ((n : ℕ) → closes 39 (take n (tail text)) ≡ false) → Stuck text
quoted_open [] some e none = absurd (omega arith)
quoted_open (b ∷ x) some e none = stuck_quote b x (λ y. closes 39 y ≡ true) (inl e) (λ kind y t. quoted_only b y kind e t) (λ n t. both_ways (closes 39 (take n x)) (rw (tail_is b x) at none n) t)

-- what goes on behind a quote
abbrev GoesOn : List ℕ → Type 0
GoesOn [] = ⊥
GoesOn (c ∷ x) = (c == 39) ≡ false

not_test : (b : Bool) → not b ≡ true → b ≡ false
not_test true t = cc
not_test false t = refl

quoted_goes_on : (b : ℕ) (x : List ℕ) → spells Quoted (b ∷ x) ≡ true → GoesOn x
quoted_goes_on b [] t = absurd (both_ways false refl t)
quoted_goes_on b (c ∷ x) t = not_test (c == 39) (and_parts (not (c == 39)) _ (and_parts (b == 39) _ t).1).0

goes_on_only : (b : ℕ) (x : List ℕ) (kind : Kind) → b ≡ 39 → spells kind (b ∷ x) ≡ true → GoesOn x
goes_on_only b x kind e t = quoted_goes_on b x (subst (λ k. spells k (b ∷ x) ≡ true) (one_first kind Quoted b x (λ n. eq-eqb b 39 e) t) t)

ends_here : (x : List ℕ) → (x ≡ []) ⊎ (get_or x 0 0 ≡ 39) → (n : ℕ) → GoesOn (take n x) → ⊥
ends_here [] h zero g = g
ends_here [] h (suc n) g = g
ends_here (c ∷ x) h zero g = g
ends_here (c ∷ x) (inl h) (suc n) g = cc
ends_here (c ∷ x) (inr h) (suc n) g = both_ways (c == 39) g (eq-eqb c 39 h)

pub quoted_empty : (text : List ℕ) → 0 < length text → get_or text 0 0 ≡ 39 → (length text ≡ 1 → ⊥) → get_or text 1 0 ≡ 39 → Stuck text
quoted_empty [] some e l k = absurd (omega arith)
quoted_empty (b ∷ []) some e l k = absurd (l (omega arith))
quoted_empty (b ∷ c ∷ x) some e l k = stuck_quote b (c ∷ x) GoesOn (inl e) (λ kind y t. goes_on_only b y kind e t) (ends_here (c ∷ x) (inr k))

pub distinct_at : (text : List ℕ) (n : ℕ) → 0 < length text → get_or text 0 0 ≡ 34 → n ≤ length (tail text) → closes 34 (take n (tail text)) ≡ true → Stands text Distinct (1 + n)
distinct_at [] n some e h s = absurd (omega arith)
distinct_at (b ∷ x) n some e h s =
    let fits : n ≤ length x = rw (tail_is b x) at h in
    let closed : closes 34 (take n x) ≡ true = rw (tail_is b x) at s in
    record {
      within = omega (arith, fits);
      spelled = rw one-add (and_from (b == 34) _ (eq-eqb b 34 e) closed);
      longest = longest_closed 34 b x n (inr refl) (λ kind y t. distinct_only b y kind e t) fits closed;
      no_block = no_block_by b x (λ h. omega arith);
    }

pub distinct_open : (text : List ℕ) → 0 < length text → get_or text 0 0 ≡ 34 → ((n : ℕ) → closes 34 (take n (tail text)) ≡ false) → Stuck text
distinct_open [] some e none = absurd (omega arith)
distinct_open (b ∷ x) some e none = stuck_quote b x (λ y. closes 34 y ≡ true) (inr e) (λ kind y t. distinct_only b y kind e t) (λ n t. both_ways (closes 34 (take n x)) (rw (tail_is b x) at none n) t)
