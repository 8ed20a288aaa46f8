-- Block comments, and a slash that begins none.
use Rattle.std.proofs.Common.{◌≡◌, ℕ, zero, suc, ◌+◌, ◌-◌, ◌<◌, ◌≤◌, List, [], ◌∷◌, length, get_or, take, drop, length-take, length-drop, refl, sym, ap, ◌∙◌, arith, ⊎_elim, true, false, ◌&&◌}
use Rattle.std.specs.Prelude.{◌==◌}
use Rattle.std.proofs.Math.Seq.{take_all}
use Rattle.std.proofs.lemmas.Bool.{eq-eqb, ne_eqb, eqb-true, and_parts, both_ways, and_from, and_right, or_right, cases_Bool, cases_lt}
use Rattle.std.proofs.lemmas.Bool.Decides.{nat_tests}
use Rattle.std.proofs.lemmas.List.{drop_more}
use Rattle.uc_clause.specs.declared.token.Kind.TheVariants.{Mark}
use Rattle.uc_clause.specs.Bytes.{is_gap, is_blank, is_line_comment, opens_block, ends_block}
use Rattle.uc_clause.specs.Tokens.{Stands, Skips, Stuck}
use Rattle.uc_clause.proofs.Once.{formed}
use Rattle.uc_clause.proofs.Longest.{longest_one, lone_form, no_test}

-- behind a byte that begins no `*/`
step_off : (b c : ℕ) (x : List ℕ) → ((b == 42) && (c == 47)) ≡ false → ends_block (b ∷ c ∷ x) ≡ ends_block (c ∷ x)
step_off b c x e = rw e refl

step_on : (b c : ℕ) (x : List ℕ) → ((b == 42) && (c == 47)) ≡ true → ends_block (b ∷ c ∷ x) ≡ (length x == 0)
step_on b c x e = rw e refl

no_length : (n : ℕ) (x : List ℕ) → n ≤ length x → (length (take n x) == 0) ≡ true → n ≡ 0
no_length n x h t = let none : length (take n x) ≡ 0 = eqb-true (length (take n x)) 0 t in omega (arith, length-take n x)

pub ends_once : (x : List ℕ) (n m : ℕ) → n ≤ length x → m ≤ length x → ends_block (take n x) ≡ true → ends_block (take m x) ≡ true → n ≡ m
ends_once [] n m h j s t = omega arith
ends_once (b ∷ []) (suc n) (suc m) h j s t = omega arith
ends_once (b ∷ c ∷ x) (suc (suc n)) (suc (suc m)) h j s t =
    ⊎_elim
    (λ e. let first : n ≡ 0 = no_length n x (omega arith) (sym (step_on b c (take n x) e) ∙ s) in let second : m ≡ 0 = no_length m x (omega arith) (sym (step_on b c (take m x) e) ∙ t) in omega arith)
    (λ e. ap suc (ends_once (c ∷ x) (suc n) (suc m) (omega arith) (omega arith) (sym (step_off b c (take n x) e) ∙ s) (sym (step_off b c (take m x) e) ∙ t)))
    (cases_Bool ((b == 42) && (c == 47)))
ends_once v w m h j s t = absurd cc

-- the rest of a text behind its first two bytes
abbrev pub second_tail : List ℕ → List ℕ
second_tail text = take (length text - 2) (drop 2 text)

second_tail_is : (b c : ℕ) (x : List ℕ) → second_tail (b ∷ c ∷ x) ≡ x
second_tail_is b c x = take_all (length (b ∷ c ∷ x) - 2) x (omega arith)

block_part : (b c : ℕ) (x : List ℕ) → b ≡ 47 → is_gap (b ∷ c ∷ x) ≡ true → ends_block x ≡ true
block_part b c x e t = grind (arith, nat_tests)

block_longest : (b c : ℕ) (x : List ℕ) (n : ℕ) → b ≡ 47 → n ≤ length x → ends_block (take n x) ≡ true → (m : ℕ) → m ≤ length (b ∷ c ∷ x) → is_gap (take m (b ∷ c ∷ x)) ≡ true → m ≤ 2 + n
block_longest b c x n e h s zero j t = omega arith
block_longest b c x n e h s (suc zero) j t = omega arith
block_longest b c x n e h s (suc (suc m)) j t = let same : n ≡ m = ends_once x n m h (omega arith) s (block_part b c (take m x) e t) in omega arith

pub block_at : (text : List ℕ) (n : ℕ) → get_or text 0 0 ≡ 47 → 1 < length text → get_or text 1 0 ≡ 42 → n ≤ length (second_tail text) → ends_block (take n (second_tail text)) ≡ true → Skips text (2 + n)
block_at (b ∷ c ∷ x) n e some d h s =
    let fits : n ≤ length x = rw (second_tail_is b c x) at h in
    let ended : ends_block (take n x) ≡ true = rw (second_tail_is b c x) at s in
    let two : 2 + n ≡ suc (suc n) = omega arith in
    record {
      within = omega (arith, fits);
      spelled = rw two (or_right (is_blank (b ∷ c ∷ take n x)) _ (or_right (is_line_comment (b ∷ c ∷ take n x)) _ (and_from ((b == 47) && (c == 42)) _ (and_from (b == 47) _ (eq-eqb b 47 e) (eq-eqb c 42 d)) ended)));
      longest = block_longest b c x n e fits ended;
    }
block_at v n e some d h s = absurd (omega arith)

open_gap : (b c : ℕ) (x : List ℕ) → b ≡ 47 → ((n : ℕ) → ends_block (take n x) ≡ false) → (n : ℕ) → is_gap (take n (b ∷ c ∷ x)) ≡ false
open_gap b c x e none zero = refl
open_gap b c x e none (suc zero) = grind (arith, nat_tests)
open_gap b c x e none (suc (suc n)) = let no : ends_block (take n x) ≡ false = none n in grind (arith, nat_tests, no)

pub block_open : (text : List ℕ) → get_or text 0 0 ≡ 47 → 1 < length text → get_or text 1 0 ≡ 42 → ((n : ℕ) → ends_block (take n (second_tail text)) ≡ false) → Stuck text
block_open (b ∷ c ∷ x) e some d none = record {
  no_gap = λ n fits. open_gap b c x e (rw (second_tail_is b c x) at none) n;
  no_token = λ block kind n fits. absurd (both_ways (opens_block (b ∷ c ∷ x)) block (and_from (b == 47) _ (eq-eqb b 47 e) (eq-eqb c 42 d)));
}
block_open v e some d w = absurd (omega arith)

alone_block : (b : ℕ) (x : List ℕ) → (1 < length (b ∷ x) → get_or (b ∷ x) 1 0 ≡ 42 → ⊥) → opens_block (b ∷ x) ≡ false
alone_block b [] alone = refl
alone_block b (c ∷ x) alone = and_right (b == 47) (c == 42) (ne_eqb c 42 (alone (omega arith)))

pub slash_at : (text : List ℕ) → 0 < length text → get_or text 0 0 ≡ 47 → (1 < length text → get_or text 1 0 ≡ 42 → ⊥) → Stands text Mark 1
slash_at [] some e alone = absurd (omega arith)
slash_at (b ∷ x) some e alone = record {
  within = omega arith;
  spelled = grind (arith, nat_tests);
  longest = longest_one b x (λ kind more t. lone_form kind b (length (b ∷ more)) (grind (arith, nat_tests)) (grind (arith, nat_tests)) (λ h. omega arith) (λ h. omega arith) (formed kind b more t));
  no_block = alone_block b x alone;
}

-- the loop over the bytes of a block comment
ends_nothing : (n : ℕ) → ends_block (take n []) ≡ false
ends_nothing zero = refl
ends_nothing (suc n) = refl

ends_one : (b : ℕ) (n : ℕ) → ends_block (take n (b ∷ [])) ≡ false
ends_one b zero = refl
ends_one b (suc n) = ends_alone n where
  ends_alone : (n : ℕ) → ends_block (b ∷ take n []) ≡ false
  ends_alone zero = refl
  ends_alone (suc n) = refl

step_over : (b c : ℕ) (x : List ℕ) → (b ≡ 42 → c ≡ 47 → ⊥) → (m : ℕ) → 1 ≤ m → ends_block (take m (b ∷ c ∷ x)) ≡ ends_block (take (m - 1) (c ∷ x))
step_over b c x off zero h = absurd (omega arith)
step_over b c x off (suc zero) h = refl
step_over b c x off (suc (suc m)) h =
    let less : suc (suc m) - 1 ≡ suc m = omega arith in
    let no : ((b == 42) && (c == 47)) ≡ false = no_test ((b == 42) && (c == 47)) (λ t. let both = and_parts (b == 42) (c == 47) t in off (eqb-true b 42 both.0) (eqb-true c 47 both.1)) in
    rw less (step_off b c (take m x) no)

one_left : (y : List ℕ) → length y ≤ 1 → (m : ℕ) → ends_block (take m y) ≡ false
one_left [] h m = ends_nothing m
one_left (b ∷ []) h m = ends_one b m
one_left (b ∷ c ∷ y) h m = absurd (omega arith)

module _ (text : List ℕ) (at : ℕ) (behind : (m : ℕ) → at ≤ m → ends_block (take m text) ≡ ends_block (take (m - at) (drop at text))) (before : (m : ℕ) → m ≤ at → ends_block (take m text) ≡ false) where
  one_more : at + 1 < length text → drop at text ≡ get_or text at 0 ∷ drop (at + 1) text
  one_more some = drop_more text at 0 (omega arith)

  two_more : at + 1 < length text → drop (at + 1) text ≡ get_or text (at + 1) 0 ∷ drop (at + 1 + 1) text
  two_more some = drop_more text (at + 1) 0 (omega arith)

  pub behind_more : at + 1 < length text → (get_or text at 0 ≡ 42 → get_or text (at + 1) 0 ≡ 47 → ⊥) → (m : ℕ) → at + 1 ≤ m → ends_block (take m text) ≡ ends_block (take (m - (at + 1)) (drop (at + 1) text))
  behind_more some off m h =
      let left : m - at - 1 ≡ m - (at + 1) = omega arith in
      behind m (omega arith) ∙ rw (one_more some, two_more some, ← left) (step_over (get_or text at 0) (get_or text (at + 1) 0) (drop (at + 1 + 1) text) off (m - at) (omega arith))

  pub before_more : at + 1 < length text → (m : ℕ) → m ≤ at + 1 → ends_block (take m text) ≡ false
  before_more some m h = ⊎_elim (λ le. before m (omega arith)) (λ e. let one : m - at ≡ 1 = omega arith in behind m (omega arith) ∙ rw (one_more some, one) refl) (cases_lt m (at + 1))

  pub ends_now : at + 1 < length text → get_or text at 0 ≡ 42 → get_or text (at + 1) 0 ≡ 47 → ends_block (take (at + 2) text) ≡ true
  ends_now some e d = let two : at + 2 - at ≡ 2 = omega arith in behind (at + 2) (omega arith) ∙ rw (one_more some, two_more some, two) (step_on (get_or text at 0) (get_or text (at + 1) 0) [] (and_from _ _ (eq-eqb (get_or text at 0) 42 e) (eq-eqb (get_or text (at + 1) 0) 47 d)))

  pub never : length text ≤ at + 1 → (m : ℕ) → ends_block (take m text) ≡ false
  never h m = ⊎_elim (λ le. before m (omega arith)) (λ le. behind m le ∙ one_left (drop at text) (omega (arith, length-drop at text)) (m - at)) (cases_lt m at)
