-- The longest token and the longest gap at the front of a text, by its first byte.
use Rattle.std.proofs.Common.{◌≡◌, ℕ, zero, suc, ◌+◌, ◌-◌, ◌<◌, ◌≤◌, length-take, List, [], ◌∷◌, length, get_or, take, drop, refl, ap, ◌∙◌, subst, arith, ⊎_elim, Bool, true, false, ◌&&◌}
use Rattle.std.specs.Prelude.{◌==◌, nat_le}
use Rattle.std.specs.List.{list_all, prefix_len}
use Rattle.std.proofs.Math.Numerals.{one-add}
use Rattle.std.proofs.Math.Seq.{take_all}
use Rattle.std.proofs.lemmas.Bool.{cond_both, and_left, ne_eqb, eq-eqb, or_left, or_right, eqb-true, and_parts, or_cases, both_ways, and_from}
use Rattle.std.proofs.lemmas.Bool.Decides.{nat_tests}
use Rattle.std.proofs.lemmas.List.Folds.{length-prefix_len}
use Rattle.std.proofs.lemmas.List.Sums.{prefix_len-le-length}
use Rattle.uc_clause.specs.declared.token.Kind.{Kind}
use Rattle.uc_clause.specs.declared.token.Kind.TheVariants.{Lower, Upper, Quoted, Distinct, Integer, Dollar, Unequal, Mark}
use Rattle.uc_clause.specs.Bytes.{is_lower, is_upper, is_digit, is_word, is_sign, is_white, is_mark, in_line, is_digits, is_gap, is_blank, is_line_comment, opens_block}
use Rattle.uc_clause.specs.Tokens.{spells, Stands, Skips, Stuck}
use Rattle.uc_clause.proofs.Once.{form, formed, one_form, nothing_spells}

-- a front that passes is no longer than the longest
pub front_within : {X : Type 0} (p : X → Bool) (xs : List X) (m : ℕ) → m ≤ length xs → list_all p (take m xs) ≡ true → m ≤ prefix_len p xs
front_within p xs zero fits passes = omega arith
front_within p [] (suc m) fits passes = fits
front_within p (x ∷ xs) (suc m) fits passes =
    let parts = and_parts (p x) (list_all p (take m xs)) passes in
    let rest : m ≤ prefix_len p xs = front_within p xs m (omega arith) parts.1 in
    rw parts.0 (omega arith)

-- `rest` of `[b, rest @ ..]`
abbrev pub tail : List ℕ → List ℕ
tail text = take (length text - 1) (drop 1 text)

pub tail_is : (b : ℕ) (bs : List ℕ) → tail (b ∷ bs) ≡ bs
tail_is b bs = take_all (length (b ∷ bs) - 1) bs (omega arith)

pub front_passes : {X : Type 0} (p : X → Bool) (xs : List X) → list_all p (take (prefix_len p xs) xs) ≡ true
front_passes p [] = refl
front_passes p (x ∷ xs) = cond_both (p x) (1 + prefix_len p xs) 0 (λ n. list_all p (take n (x ∷ xs)) ≡ true) (λ yes. rw one-add (and_from (p x) (list_all p (take (prefix_len p xs) xs)) yes (front_passes p xs))) (λ no. refl)

-- the tokens that begin with such a byte
pub one_first : (k j : Kind) (b : ℕ) (x : List ℕ) → ((n : ℕ) → form j b n ≡ true) → spells k (b ∷ x) ≡ true → k ≡ j
one_first k j b x first s = one_form k j b (length (b ∷ x)) (formed k b x s) (first (length (b ∷ x)))

lower_only : (b : ℕ) (bs : List ℕ) (kind : Kind) → is_lower b ≡ true → spells kind (b ∷ bs) ≡ true → list_all is_word bs ≡ true
lower_only b bs kind l t = (and_parts (is_lower b) (list_all is_word bs) (subst (λ k. spells k (b ∷ bs) ≡ true) (one_first kind Lower b bs (λ n. l) t) t)).1

upper_only : (b : ℕ) (bs : List ℕ) (kind : Kind) → is_upper b ≡ true → spells kind (b ∷ bs) ≡ true → list_all is_word bs ≡ true
upper_only b bs kind l t = (and_parts (is_upper b) (list_all is_word bs) (subst (λ k. spells k (b ∷ bs) ≡ true) (one_first kind Upper b bs (λ n. l) t) t)).1

digit_sign : (b : ℕ) → is_digit b ≡ true → is_sign b ≡ false
digit_sign b l = grind (arith, nat_tests)

digit_part : (b : ℕ) (bs : List ℕ) → is_digit b ≡ true → spells Integer (b ∷ bs) ≡ true → list_all is_digit bs ≡ true
digit_part b bs l t = ⊎_elim (λ signed. absurd (both_ways (is_sign b) (digit_sign b l) (and_parts (is_sign b) (is_digits bs) signed).0)) (λ plain. (and_parts (is_digit b) (list_all is_digit bs) plain).1) (or_cases (is_sign b && is_digits bs) (is_digit b && list_all is_digit bs) t)

digit_only : (b : ℕ) (bs : List ℕ) (kind : Kind) → is_digit b ≡ true → spells kind (b ∷ bs) ≡ true → list_all is_digit bs ≡ true
digit_only b bs kind l t = digit_part b bs l (subst (λ k. spells k (b ∷ bs) ≡ true) (one_first kind Integer b bs (λ n. or_left (is_digit b) _ l) t) t)

sign_part : (b : ℕ) (bs : List ℕ) → is_sign b ≡ true → spells Integer (b ∷ bs) ≡ true → list_all is_digit bs ≡ true
sign_part b [] l t = refl
sign_part b (c ∷ bs) l t = grind (arith, nat_tests)

sign_only : (b : ℕ) (bs : List ℕ) (kind : Kind) → is_sign b ≡ true → spells kind (b ∷ bs) ≡ true → list_all is_digit bs ≡ true
sign_only b [] kind l t = refl
sign_only b (c ∷ bs) kind l t = sign_part b (c ∷ bs) l (subst (λ k. spells k (b ∷ c ∷ bs) ≡ true) (one_form kind Integer b (length (b ∷ c ∷ bs)) (formed kind b (c ∷ bs) t) (or_right (is_digit b) _ (and_from (is_sign b) _ l (grind (arith, nat_tests))))) t)

-- behind these bytes no token goes on
pub lone_form : (kind : Kind) (b n : ℕ) → is_mark b ≡ true → is_sign b ≡ false → (b ≡ 36 → ⊥) → (b ≡ 33 → ⊥) → form kind b n ≡ true → n ≡ 1
lone_form kind b n l s d u f = grind (arith, nat_tests)

-- no block comment begins with another byte than `/`
pub no_block_by : (b : ℕ) (bs : List ℕ) → (b ≡ 47 → ⊥) → opens_block (b ∷ bs) ≡ false
no_block_by b [] n = refl
no_block_by b (c ∷ bs) n = and_left (b == 47) (c == 42) (ne_eqb b 47 n)

-- where what follows the first byte of a token passes a test, the longest front that passes is the longest token
longest_by : (p : ℕ → Bool) (b : ℕ) (bs : List ℕ) → ((kind : Kind) (more : List ℕ) → spells kind (b ∷ more) ≡ true → list_all p more ≡ true) → (other : Kind) (m : ℕ) → m ≤ length (b ∷ bs) → spells other (take m (b ∷ bs)) ≡ true → m ≤ 1 + prefix_len p bs
longest_by p b bs only other zero fits t = omega arith
longest_by p b bs only other (suc m) fits t =
    let within : m ≤ prefix_len p bs = front_within p bs m (omega arith) (only other (take m bs) t) in
    omega arith

-- where each token that begins with a byte has that byte alone
pub longest_one : (b : ℕ) (bs : List ℕ) → ((kind : Kind) (more : List ℕ) → spells kind (b ∷ more) ≡ true → length (b ∷ more) ≡ 1) → (other : Kind) (m : ℕ) → m ≤ length (b ∷ bs) → spells other (take m (b ∷ bs)) ≡ true → m ≤ 1
longest_one b bs only other zero fits t = omega arith
longest_one b bs only other (suc m) fits t =
    let one : length (b ∷ take m bs) ≡ 1 = only other (take m bs) t in
    omega (arith, length-take m bs)

pub lower_at : (text : List ℕ) (n : ℕ) → 0 < length text → is_lower (get_or text 0 0) ≡ true → n ≡ prefix_len is_word (tail text) → Stands text Lower (1 + n)
lower_at [] n some l e = absurd (omega arith)
lower_at (b ∷ bs) n some l e = rw (e, tail_is b bs) (record {
  within = omega (arith, prefix_len-le-length is_word bs);
  spelled = rw one-add (and_from (is_lower b) (list_all is_word (take (prefix_len is_word bs) bs)) l (front_passes is_word bs));
  longest = longest_by is_word b bs (λ kind more t. lower_only b more kind l t);
  no_block = no_block_by b bs (λ h. grind (arith, nat_tests));
})

pub upper_at : (text : List ℕ) (n : ℕ) → 0 < length text → is_upper (get_or text 0 0) ≡ true → n ≡ prefix_len is_word (tail text) → Stands text Upper (1 + n)
upper_at [] n some l e = absurd (omega arith)
upper_at (b ∷ bs) n some l e = rw (e, tail_is b bs) (record {
  within = omega (arith, prefix_len-le-length is_word bs);
  spelled = rw one-add (and_from (is_upper b) (list_all is_word (take (prefix_len is_word bs) bs)) l (front_passes is_word bs));
  longest = longest_by is_word b bs (λ kind more t. upper_only b more kind l t);
  no_block = no_block_by b bs (λ h. grind (arith, nat_tests));
})

pub digit_at : (text : List ℕ) (n : ℕ) → 0 < length text → is_digit (get_or text 0 0) ≡ true → n ≡ prefix_len is_digit (tail text) → Stands text Integer (1 + n)
digit_at [] n some l e = absurd (omega arith)
digit_at (b ∷ bs) n some l e = rw (e, tail_is b bs) (record {
  within = omega (arith, prefix_len-le-length is_digit bs);
  spelled = rw one-add (or_right (is_sign b && is_digits (take (prefix_len is_digit bs) bs)) _ (and_from (is_digit b) (list_all is_digit (take (prefix_len is_digit bs) bs)) l (front_passes is_digit bs)));
  longest = longest_by is_digit b bs (λ kind more t. digit_only b more kind l t);
  no_block = no_block_by b bs (λ h. grind (arith, nat_tests));
})

digits_some : (bs : List ℕ) → list_all is_digit bs ≡ true → 0 < length bs → is_digits bs ≡ true
digits_some [] passes some = absurd (omega arith)
digits_some (b ∷ bs) passes some = passes

pub signed_at : (text : List ℕ) (n : ℕ) → 0 < length text → is_sign (get_or text 0 0) ≡ true → n ≡ prefix_len is_digit (tail text) → (n ≡ 0 → ⊥) → Stands text Integer (1 + n)
signed_at [] n some l e more = absurd (omega arith)
signed_at (b ∷ bs) n some l e more = rw (e, tail_is b bs) (record {
  within = omega (arith, prefix_len-le-length is_digit bs);
  spelled = rw one-add (or_left (is_sign b && is_digits (take (prefix_len is_digit bs) bs)) _ (and_from (is_sign b) (is_digits (take (prefix_len is_digit bs) bs)) l (digits_some (take (prefix_len is_digit bs) bs) (front_passes is_digit bs) (let some_digits : (prefix_len is_digit bs ≡ 0 → ⊥) = λ none. more (e ∙ ap (prefix_len is_digit) (tail_is b bs) ∙ none) in omega (arith, length-prefix_len is_digit bs)))));
  longest = longest_by is_digit b bs (λ kind more t. sign_only b more kind l t);
  no_block = no_block_by b bs (λ h. grind (arith, nat_tests));
})

pub sign_alone_at : (text : List ℕ) → 0 < length text → is_sign (get_or text 0 0) ≡ true → 0 ≡ prefix_len is_digit (tail text) → Stands text Mark 1
sign_alone_at [] some l e = absurd (omega arith)
sign_alone_at (b ∷ bs) some l e = record {
  within = omega arith;
  spelled = grind (arith, nat_tests);
  longest = λ other m fits t. let none : 0 ≡ prefix_len is_digit bs = e ∙ ap (prefix_len is_digit) (tail_is b bs) in let most : m ≤ 1 + prefix_len is_digit bs = longest_by is_digit b bs (λ kind more t. sign_only b more kind l t) other m fits t in omega arith;
  no_block = no_block_by b bs (λ h. grind (arith, nat_tests));
}

pub mark_at : (text : List ℕ) → 0 < length text → is_mark (get_or text 0 0) ≡ true → is_sign (get_or text 0 0) ≡ false → (get_or text 0 0 ≡ 36 → ⊥) → (get_or text 0 0 ≡ 33 → ⊥) → (get_or text 0 0 ≡ 47 → ⊥) → Stands text Mark 1
mark_at [] some l s d u h = absurd (omega arith)
mark_at (b ∷ bs) some l s d u h = record {
  within = omega arith;
  spelled = l;
  longest = longest_one b bs (λ kind more t. lone_form kind b (length (b ∷ more)) l s d u (formed kind b more t));
  no_block = no_block_by b bs h;
}

-- `!` and `!=`
bang_form : (kind : Kind) (b n : ℕ) → b ≡ 33 → form kind b n ≡ true → n ≤ 2
bang_form kind b n l f = grind (arith, nat_tests)

bang_longest : (b : ℕ) (bs : List ℕ) → b ≡ 33 → (other : Kind) (m : ℕ) → m ≤ length (b ∷ bs) → spells other (take m (b ∷ bs)) ≡ true → m ≤ 2
bang_longest b bs l other zero fits t = omega arith
bang_longest b bs l other (suc m) fits t =
    let most : length (b ∷ take m bs) ≤ 2 = bang_form other b (length (b ∷ take m bs)) l (formed other b (take m bs) t) in
    omega (arith, length-take m bs)

pub unequal_at : (text : List ℕ) → 1 < length text → get_or text 0 0 ≡ 33 → get_or text 1 0 ≡ 61 → Stands text Unequal 2
unequal_at (b ∷ c ∷ bs) some l e = record {
  within = omega arith;
  spelled = grind (arith, nat_tests);
  longest = bang_longest b (c ∷ bs) l;
  no_block = no_block_by b (c ∷ bs) (λ h. omega arith);
}
unequal_at v some l e = absurd (omega arith)

unequal_kind : (kind : Kind) (b n : ℕ) → b ≡ 33 → 2 ≤ n → form kind b n ≡ true → kind ≡ Unequal
unequal_kind kind b n l two f = one_form kind Unequal b n f (let most = bang_form kind b n l f in grind (arith, nat_tests))

unequal_second : (b c : ℕ) (bs : List ℕ) (kind : Kind) → b ≡ 33 → spells kind (b ∷ c ∷ bs) ≡ true → c ≡ 61
unequal_second b c [] kind l t = eqb-true c 61 (and_parts (b == 33) (c == 61) (subst (λ k. spells k (b ∷ c ∷ []) ≡ true) (unequal_kind kind b 2 l (omega arith) (formed kind b (c ∷ []) t)) t)).1
unequal_second b c (d ∷ bs) kind l t = absurd (let most : length (b ∷ c ∷ d ∷ bs) ≤ 2 = bang_form kind b (length (b ∷ c ∷ d ∷ bs)) l (formed kind b (c ∷ d ∷ bs) t) in omega arith)

bang_alone : (b : ℕ) (bs : List ℕ) → b ≡ 33 → (1 < length (b ∷ bs) → get_or (b ∷ bs) 1 0 ≡ 61 → ⊥) → (other : Kind) (m : ℕ) → m ≤ length (b ∷ bs) → spells other (take m (b ∷ bs)) ≡ true → m ≤ 1
bang_alone b bs l alone other zero fits t = omega arith
bang_alone b bs l alone other (suc zero) fits t = omega arith
bang_alone b [] l alone other (suc (suc m)) fits t = omega arith
bang_alone b (c ∷ bs) l alone other (suc (suc m)) fits t = absurd (alone (omega arith) (unequal_second b c (take m bs) other l t))

pub bang_at : (text : List ℕ) → 0 < length text → get_or text 0 0 ≡ 33 → (1 < length text → get_or text 1 0 ≡ 61 → ⊥) → Stands text Mark 1
bang_at [] some l alone = absurd (omega arith)
bang_at (b ∷ bs) some l alone = record {
  within = omega arith;
  spelled = grind (arith, nat_tests);
  longest = bang_alone b bs l alone;
  no_block = no_block_by b bs (λ h. omega arith);
}

-- white space, and line comments
gap_longest : (b : ℕ) (bs : List ℕ) → is_white b ≡ true → (m : ℕ) → m ≤ length (b ∷ bs) → is_gap (take m (b ∷ bs)) ≡ true → m ≤ 1
gap_longest b bs w zero fits t = omega arith
gap_longest b [] w (suc m) fits t = fits
gap_longest b (c ∷ bs) w (suc zero) fits t = omega arith
gap_longest b (c ∷ bs) w (suc (suc m)) fits t = grind (arith, nat_tests)

pub white_at : (text : List ℕ) → 0 < length text → is_white (get_or text 0 0) ≡ true → Skips text 1
white_at [] some w = absurd (omega arith)
white_at (b ∷ bs) some w = record {
  within = omega arith;
  spelled = or_left (is_white b) _ w;
  longest = gap_longest b bs w;
}

comment_part : (b : ℕ) (bs : List ℕ) → b ≡ 37 → is_gap (b ∷ bs) ≡ true → list_all in_line bs ≡ true
comment_part b [] e t = refl
comment_part b (c ∷ bs) e t = grind (arith, nat_tests)

comment_longest : (b : ℕ) (bs : List ℕ) → b ≡ 37 → (m : ℕ) → m ≤ length (b ∷ bs) → is_gap (take m (b ∷ bs)) ≡ true → m ≤ 1 + prefix_len in_line bs
comment_longest b bs e zero fits t = omega arith
comment_longest b bs e (suc m) fits t = let within : m ≤ prefix_len in_line bs = front_within in_line bs m (omega arith) (comment_part b (take m bs) e t) in omega arith

pub comment_at : (text : List ℕ) (n : ℕ) → 0 < length text → get_or text 0 0 ≡ 37 → n ≡ prefix_len in_line (tail text) → Skips text (1 + n)
comment_at [] n some e l = absurd (omega arith)
comment_at (b ∷ bs) n some e l = rw (l, tail_is b bs) (record {
  within = omega (arith, prefix_len-le-length in_line bs);
  spelled = rw one-add (or_right (is_blank (b ∷ take (prefix_len in_line bs) bs)) _ (or_left (is_line_comment (b ∷ take (prefix_len in_line bs) bs)) _ (and_from (b == 37) (list_all in_line (take (prefix_len in_line bs) bs)) (eq-eqb b 37 e) (front_passes in_line bs))));
  longest = comment_longest b bs e;
})

-- a byte that begins nothing
pub record Alien (b : ℕ) : Type 0 where
  pub white : is_white b ≡ false
  pub percent : b ≡ 37 → ⊥
  pub slash : b ≡ 47 → ⊥
  pub lower : is_lower b ≡ false
  pub upper : is_upper b ≡ false
  pub digit : is_digit b ≡ false
  pub sign : is_sign b ≡ false
  pub quote : b ≡ 39 → ⊥
  pub double_quote : b ≡ 34 → ⊥
  pub dollar : b ≡ 36 → ⊥
  pub bang : b ≡ 33 → ⊥
  pub mark : is_mark b ≡ false

alien_gap : (b : ℕ) (bs : List ℕ) → Alien b → is_gap (b ∷ bs) ≡ false
alien_gap b [] a = grind (arith, nat_tests, a.white, a.percent)
alien_gap b (c ∷ bs) a = grind (arith, nat_tests, a.slash, a.percent)

alien_form : (kind : Kind) (b n : ℕ) → Alien b → form kind b n ≡ true → ⊥
alien_form Lower b n a f = both_ways (is_lower b) a.lower f
alien_form Upper b n a f = both_ways (is_upper b) a.upper f
alien_form Quoted b n a f = a.quote (eqb-true b 39 f)
alien_form Distinct b n a f = a.double_quote (eqb-true b 34 f)
alien_form Integer b n a f = ⊎_elim (λ d. both_ways (is_digit b) a.digit d) (λ s. both_ways (is_sign b) a.sign (and_parts (is_sign b) _ s).0) (or_cases (is_digit b) (is_sign b && nat_le 2 n) f)
alien_form Dollar b n a f = a.dollar (eqb-true b 36 (and_parts (b == 36) _ f).0)
alien_form Unequal b n a f = a.bang (eqb-true b 33 (and_parts (b == 33) _ f).0)
alien_form Mark b n a f = both_ways (is_mark b) a.mark (and_parts (is_mark b) _ f).0

-- what isn't so is not so
pub no_test : (b : Bool) → (b ≡ true → ⊥) → b ≡ false
no_test true n = absurd (n refl)
no_test false n = refl

stuck_gap : (b : ℕ) (bs : List ℕ) → Alien b → (n : ℕ) → is_gap (take n (b ∷ bs)) ≡ false
stuck_gap b bs a zero = refl
stuck_gap b bs a (suc n) = alien_gap b (take n bs) a

stuck_token : (b : ℕ) (bs : List ℕ) → Alien b → (kind : Kind) (n : ℕ) → spells kind (take n (b ∷ bs)) ≡ false
stuck_token b bs a kind zero = nothing_spells kind
stuck_token b bs a kind (suc n) = no_test (spells kind (b ∷ take n bs)) (λ s. alien_form kind b (length (b ∷ take n bs)) a (formed kind b (take n bs) s))

pub stuck_at : (text : List ℕ) → 0 < length text → Alien (get_or text 0 0) → Stuck text
stuck_at [] some a = absurd (omega arith)
stuck_at (b ∷ bs) some a = record { no_gap = λ n fits. stuck_gap b bs a n; no_token = λ block kind n fits. stuck_token b bs a kind n }
