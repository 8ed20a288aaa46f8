-- The token that begins with a dollar sign.
use Rattle.std.proofs.Common.{◌≡◌, ℕ, zero, suc, ◌+◌, ◌<◌, ◌≤◌, List, [], ◌∷◌, ◌⊎◌, length, get_or, take, refl, sym, ap, ◌∙◌, subst, arith, ⊎_elim, inl, inr, true, false, ◌&&◌, ◌||◌}
use Rattle.std.specs.Prelude.{◌==◌}
use Rattle.std.specs.List.{list_all, prefix_len}
use Rattle.std.proofs.Math.Numerals.{one-add}
use Rattle.std.proofs.lemmas.Bool.{eq-eqb, eqb-true, and_parts, and_from, or_left, or_right, or_cases, cond_both, le-leb}
use Rattle.std.proofs.lemmas.Bool.Decides.{nat_tests}
use Rattle.std.proofs.lemmas.List.Sums.{prefix_len-le-length}
use Rattle.uc_clause.specs.declared.token.Kind.{Kind}
use Rattle.uc_clause.specs.declared.token.Kind.TheVariants.{Dollar, Mark}
use Rattle.uc_clause.specs.Bytes.{is_lower, is_word, is_name, name_len}
use Rattle.uc_clause.specs.Tokens.{spells, Stands}
use Rattle.uc_clause.proofs.Once.{form, formed, one_form}
use Rattle.uc_clause.proofs.Longest.{tail, tail_is, front_within, front_passes, no_block_by}

pub name_within : (x : List ℕ) (m : ℕ) → m ≤ length x → is_name (take m x) ≡ true → m ≤ name_len x
name_within x zero h t = omega arith
name_within [] (suc m) h t = h
name_within (b ∷ x) (suc m) h t =
    let parts = and_parts (is_lower b) (list_all is_word (take m x)) t in
    let rest : m ≤ prefix_len is_word x = front_within is_word x m (omega arith) parts.1 in
    rw parts.0 (omega arith)

pub name_passes : (x : List ℕ) → 0 < name_len x → is_name (take (name_len x) x) ≡ true
name_passes [] some = absurd (omega arith)
name_passes (b ∷ x) some = cond_both (is_lower b) (1 + prefix_len is_word x) 0 (λ n. 0 < n → is_name (take n (b ∷ x)) ≡ true) (λ yes more. rw one-add (and_from (is_lower b) (list_all is_word (take (prefix_len is_word x) x)) yes (front_passes is_word x))) (λ no more. absurd (omega arith)) some

pub name_len-le-length : (x : List ℕ) → name_len x ≤ length x
name_len-le-length [] = omega arith
name_len-le-length (b ∷ x) = cond_both (is_lower b) (1 + prefix_len is_word x) 0 (λ n. n ≤ length (b ∷ x)) (λ yes. omega (arith, prefix_len-le-length is_word x)) (λ no. omega arith)

-- a name begins with no dollar sign
dollar_no_name : (c : ℕ) (x : List ℕ) → c ≡ 36 → name_len (c ∷ x) ≡ 0
dollar_no_name c x e = let lower : is_lower c ≡ false = grind (arith, nat_tests) in rw lower refl

dollar_part : (b c : ℕ) (x : List ℕ) (kind : Kind) → b ≡ 36 → spells kind (b ∷ c ∷ x) ≡ true → (is_name (c ∷ x) ≡ true) ⊎ ((c ≡ 36) × (is_name x ≡ true))
dollar_part b c x kind e t =
    let more : form Dollar b (length (b ∷ c ∷ x)) ≡ true = and_from (b == 36) _ (eq-eqb b 36 e) (le-leb 2 (length (b ∷ c ∷ x)) (omega arith)) in
    let same : kind ≡ Dollar = one_form kind Dollar b (length (b ∷ c ∷ x)) (formed kind b (c ∷ x) t) more in
    let parts = and_parts (b == 36) (is_name (c ∷ x) || ((c == 36) && is_name x)) (subst (λ k. spells k (b ∷ c ∷ x) ≡ true) same t) in
    ⊎_elim (λ name. inl name) (λ two. let both = and_parts (c == 36) (is_name x) two in inr (eqb-true c 36 both.0, both.1)) (or_cases (is_name (c ∷ x)) ((c == 36) && is_name x) parts.1)

one_longest : (b : ℕ) (x : List ℕ) → b ≡ 36 → 0 < name_len x → (other : Kind) (m : ℕ) → m ≤ length (b ∷ x) → spells other (take m (b ∷ x)) ≡ true → m ≤ 1 + name_len x
one_longest b x e some other zero h t = omega arith
one_longest b x e some other (suc zero) h t = omega arith
one_longest b [] e some other (suc (suc m)) h t = absurd (omega arith)
one_longest b (c ∷ x) e some other (suc (suc m)) h t =
    ⊎_elim
    (λ name. let most : suc m ≤ name_len (c ∷ x) = name_within (c ∷ x) (suc m) (omega arith) name in omega arith)
    (λ two. let none : name_len (c ∷ x) ≡ 0 = dollar_no_name c x two.0 in absurd (omega arith))
    (dollar_part b c (take m x) other e t)

one_spelled : (b : ℕ) (x : List ℕ) (n : ℕ) → b ≡ 36 → is_name (take n x) ≡ true → spells Dollar (b ∷ take n x) ≡ true
one_spelled b x zero e s = cc
one_spelled b [] (suc n) e s = cc
one_spelled b (c ∷ x) (suc n) e s = and_from (b == 36) _ (eq-eqb b 36 e) (or_left (is_name (c ∷ take n x)) _ s)

-- one dollar sign
pub dollar_at : (text : List ℕ) (n : ℕ) → 0 < length text → get_or text 0 0 ≡ 36 → n ≡ name_len (tail text) → 0 < n → Stands text Dollar (1 + n)
dollar_at [] n some e l more = absurd (omega arith)
dollar_at (b ∷ x) n some e l more =
    let len : n ≡ name_len x = l ∙ ap name_len (tail_is b x) in
    let any : 0 < name_len x = omega arith in
    rw len (record {
      within = omega (arith, name_len-le-length x);
      spelled = rw one-add (one_spelled b x (name_len x) e (name_passes x any));
      longest = one_longest b x e any;
      no_block = no_block_by b x (λ h. omega arith);
    })

name_some : (y : List ℕ) (k : ℕ) → is_name (take k y) ≡ true → 0 < k
name_some y zero s = cc
name_some y (suc k) s = omega arith

two_longest : (b c : ℕ) (x : List ℕ) (n : ℕ) → b ≡ 36 → c ≡ 36 → name_len x ≤ n → (other : Kind) (m : ℕ) → m ≤ length (b ∷ c ∷ x) → spells other (take m (b ∷ c ∷ x)) ≡ true → (m ≤ 1) ⊎ ((m ≤ 2 + n) × (0 < name_len x))
two_longest b c x n e d l other zero h t = inl (omega arith)
two_longest b c x n e d l other (suc zero) h t = inl (omega arith)
two_longest b c x n e d l other (suc (suc m)) h t =
    ⊎_elim
    (λ name. let most : suc m ≤ name_len (c ∷ x) = name_within (c ∷ x) (suc m) (omega arith) name in let none : name_len (c ∷ x) ≡ 0 = dollar_no_name c x d in absurd (omega arith))
    (λ two. let most : m ≤ name_len x = name_within x m (omega arith) two.1 in let any : 0 < m = name_some x m two.1 in inr (omega arith, omega arith))
    (dollar_part b c (take m x) other e t)

two_spelled : (b c : ℕ) (x : List ℕ) → b ≡ 36 → c ≡ 36 → is_name x ≡ true → spells Dollar (b ∷ c ∷ x) ≡ true
two_spelled b c x e d s = and_from (b == 36) _ (eq-eqb b 36 e) (or_right (is_name (c ∷ x)) _ (and_from (c == 36) _ (eq-eqb c 36 d) s))

-- two dollar signs
pub dollars_at : (text : List ℕ) (n : ℕ) → 0 < length text → get_or text 0 0 ≡ 36 → 0 < length (tail text) → get_or (tail text) 0 0 ≡ 36 → n ≡ name_len (tail (tail text)) → (n ≡ 0 → ⊥) → Stands text Dollar (2 + n)
dollars_at [] n some e more d l any = absurd (omega arith)
dollars_at (b ∷ []) n some e more d l any = absurd (let none : length (tail (b ∷ [])) ≡ 0 = ap length (tail_is b []) in omega arith)
dollars_at (b ∷ c ∷ x) n some e more d l any =
    let second : c ≡ 36 = ap (λ y. get_or y 0 0) (sym (tail_is b (c ∷ x))) ∙ d in
    let len : n ≡ name_len x = l ∙ ap (λ y. name_len (tail y)) (tail_is b (c ∷ x)) ∙ ap name_len (tail_is c x) in
    let name : 0 < name_len x = omega arith in
    let two : 2 + name_len x ≡ suc (suc (name_len x)) = omega arith in
    rw len (record {
      within = omega (arith, name_len-le-length x);
      spelled = rw two (two_spelled b c (take (name_len x) x) e second (name_passes x name));
      longest = λ other m h t. ⊎_elim (λ one. omega arith) (λ both. both.0) (two_longest b c x (name_len x) e second (omega arith) other m h t);
      no_block = no_block_by b (c ∷ x) (λ h. omega arith);
    })

alone_longest : (b : ℕ) (x : List ℕ) → b ≡ 36 → name_len x ≡ 0 → (0 < length x → get_or x 0 0 ≡ 36 → name_len (tail x) ≡ 0) → (other : Kind) (m : ℕ) → m ≤ length (b ∷ x) → spells other (take m (b ∷ x)) ≡ true → m ≤ 1
alone_longest b x e none alone other zero h t = omega arith
alone_longest b x e none alone other (suc zero) h t = omega arith
alone_longest b [] e none alone other (suc (suc m)) h t = absurd (omega arith)
alone_longest b (c ∷ x) e none alone other (suc (suc m)) h t =
    ⊎_elim
    (λ name. let most : suc m ≤ name_len (c ∷ x) = name_within (c ∷ x) (suc m) (omega arith) name in absurd (omega arith))
    (λ two. let zero_len : name_len x ≡ 0 = ap name_len (sym (tail_is c x)) ∙ alone (omega arith) two.0 in
    ⊎_elim (λ one. one) (λ both. absurd (omega arith)) (two_longest b c x 0 e two.0 (omega arith) other (suc (suc m)) h t))
    (dollar_part b c (take m x) other e t)

-- a dollar sign alone
pub dollar_alone : (text : List ℕ) → 0 < length text → get_or text 0 0 ≡ 36 → name_len (tail text) ≡ 0 → (0 < length (tail text) → get_or (tail text) 0 0 ≡ 36 → name_len (tail (tail text)) ≡ 0) → Stands text Mark 1
dollar_alone [] some e none alone = absurd (omega arith)
dollar_alone (b ∷ x) some e none alone = record {
  within = omega arith;
  spelled = grind (arith, nat_tests);
  longest = alone_longest b x e (ap name_len (sym (tail_is b x)) ∙ none) (rw (tail_is b x) at alone);
  no_block = no_block_by b x (λ h. omega arith);
}
