-- A text is cut in one way.
use Rattle.std.proofs.Common.{◌≡◌, ℕ, zero, suc, ◌+◌, ◌-◌, ◌<◌, ◌≤◌, List, [], ◌∷◌, length, take, drop, length-drop, refl, sym, ap, ◌∙◌, subst, arith, Bool, true, false, not, ◌&&◌, ◌||◌}
use Rattle.std.specs.Prelude.{◌==◌, nat_le}
use Rattle.std.specs.List.{list_all}
use Rattle.std.specs.Prelude.{Result, Ok, Err}
use Rattle.std.specs.Result.{IfOk}
use Rattle.std.proofs.lemmas.Result.{IfOk-weaker}
use Rattle.std.proofs.lemmas.Bool.{both_ways, and_parts, and_from, le-leb}
use Rattle.std.proofs.lemmas.Bool.Decides.{nat_tests}
use Rattle.uc_clause.specs.declared.token.Kind.{Kind}
use Rattle.uc_clause.specs.declared.token.Kind.TheVariants.{Lower, Upper, Quoted, Distinct, Integer, Dollar, Unequal, Mark}
use Rattle.uc_clause.specs.declared.token.Token.{Token}
use Rattle.uc_clause.specs.declared.token.Place.{Place}
use Rattle.uc_clause.specs.Tokens.{Cut, end, gap, token, stuck, onto, token_at, Stands, Skips, Stuck, spells, Spans, AreTokens, StopsAt, place_of}
use Rattle.uc_clause.specs.Bytes.{is_gap, is_lower, is_upper, is_digit, is_sign, is_white, is_word, is_mark, is_name, closes, opens_block}

-- the first byte of a token, and how many bytes it may have
abbrev pub form : Kind → ℕ → ℕ → Bool
form Lower b n = is_lower b
form Upper b n = is_upper b
form Quoted b n = b == 39
form Distinct b n = b == 34
form Integer b n = is_digit b || (is_sign b && nat_le 2 n)
form Dollar b n = (b == 36) && nat_le 2 n
form Unequal b n = (b == 33) && (n == 2)
form Mark b n = is_mark b && (n == 1)

pub formed : (k : Kind) (b : ℕ) (x : List ℕ) → spells k (b ∷ x) ≡ true → form k b (length (b ∷ x)) ≡ true
formed Lower b x s = (and_parts (is_lower b) (list_all is_word x) s).0
formed Upper b x s = (and_parts (is_upper b) (list_all is_word x) s).0
formed Quoted b (c ∷ x) s = (and_parts (b == 39) (not (c == 39) && closes 39 (c ∷ x)) s).0
formed Distinct b x s = (and_parts (b == 34) (closes 34 x) s).0
formed Integer b [] s = grind (arith, nat_tests)
formed Integer b (c ∷ x) s = grind (arith, nat_tests)
formed Dollar b (c ∷ x) s = and_from (b == 36) (nat_le 2 (length (b ∷ c ∷ x))) (and_parts (b == 36) (is_name (c ∷ x) || ((c == 36) && is_name x)) s).0 (le-leb 2 (length (b ∷ c ∷ x)) (omega arith))
formed Unequal b (c ∷ []) s = and_from (b == 33) true (and_parts (b == 33) (c == 61) s).0 refl
formed Mark b [] s = and_from (is_mark b) true s refl
formed v b w s = absurd cc

pub one_form : (k j : Kind) (b n : ℕ) → form k b n ≡ true → form j b n ≡ true → k ≡ j
one_form Lower Lower b n s t = refl
one_form Upper Upper b n s t = refl
one_form Quoted Quoted b n s t = refl
one_form Distinct Distinct b n s t = refl
one_form Integer Integer b n s t = refl
one_form Dollar Dollar b n s t = refl
one_form Unequal Unequal b n s t = refl
one_form Mark Mark b n s t = refl
one_form k j b n s t = absurd (grind (arith, nat_tests))

pub nothing_spells : (kind : Kind) → spells kind [] ≡ false
nothing_spells Lower = refl
nothing_spells Upper = refl
nothing_spells Quoted = refl
nothing_spells Distinct = refl
nothing_spells Integer = refl
nothing_spells Dollar = refl
nothing_spells Unequal = refl
nothing_spells Mark = refl

-- no text is spelled as two kinds
one_kind : (k j : Kind) (x : List ℕ) → spells k x ≡ true → spells j x ≡ true → k ≡ j
one_kind k j [] s t = absurd (both_ways (spells k []) (nothing_spells k) s)
one_kind k j (b ∷ x) s t = one_form k j b (length (b ∷ x)) (formed k b x s) (formed j b x t)

-- white space and line comments begin with bytes of their own
gap_form : (b : ℕ) (x : List ℕ) → is_gap (b ∷ x) ≡ true → opens_block (b ∷ x) ≡ false → (is_white b || b == 37) ≡ true
gap_form b [] g o = grind (arith, nat_tests)
gap_form b (c ∷ x) g o = grind (arith, nat_tests)

no_gap_form : (k : Kind) (b n : ℕ) → form k b n ≡ true → (is_white b || b == 37) ≡ true → ⊥
no_gap_form Lower b n s t = grind (arith, nat_tests)
no_gap_form k b n s t = grind (arith, nat_tests)

-- a front of a text that opens no block opens none
opens_front : (n : ℕ) (text : List ℕ) → opens_block text ≡ false → opens_block (take n text) ≡ false
opens_front zero text o = refl
opens_front (suc n) [] o = refl
opens_front (suc zero) (b ∷ text) o = refl
opens_front (suc (suc n)) (b ∷ []) o = refl
opens_front (suc (suc n)) (b ∷ c ∷ text) o = o

gap_not_token : (text : List ℕ) (n m : ℕ) (kind : Kind) → opens_block text ≡ false → is_gap (take n text) ≡ true → spells kind (take m text) ≡ true → ⊥
gap_not_token text zero m kind o g t = cc
gap_not_token [] (suc n) m kind o g t = cc
gap_not_token (b ∷ text) (suc n) zero kind o g t = both_ways (spells kind []) (nothing_spells kind) t
gap_not_token (b ∷ text) (suc n) (suc m) kind o g t = no_gap_form kind b (length (b ∷ take m text)) (formed kind b (take m text) t) (gap_form b (take n text) g (opens_front (suc n) (b ∷ text) o))

apart : {text : List ℕ} {n m : ℕ} {kind : Kind} → Skips text n → Stands text kind m → ⊥
apart {text} {n} {m} {kind} s t = gap_not_token text n m kind t.no_block s.spelled t.spelled

stuck_gap : {text : List ℕ} {n : ℕ} → Stuck text → Skips text n → ⊥
stuck_gap {text} {n} k s = both_ways (is_gap (take n text)) (k.no_gap n s.within) s.spelled

stuck_token : {text : List ℕ} {kind : Kind} {n : ℕ} → Stuck text → Stands text kind n → ⊥
stuck_token {text} {kind} {n} k s = both_ways (spells kind (take n text)) (k.no_token s.no_block kind n s.within) s.spelled

le_both : {m n : ℕ} → m ≤ n → n ≤ m → m ≡ n
le_both h k = omega arith

gap_len : {text : List ℕ} {n m : ℕ} → Skips text n → Skips text m → n ≡ m
gap_len {text} {n} {m} s t = le_both (t.longest n s.within s.spelled) (s.longest m t.within t.spelled)

token_len : {text : List ℕ} {k j : Kind} {n m : ℕ} → Stands text k n → Stands text j m → n ≡ m
token_len {text} {k} {j} {n} {m} s t = le_both (t.longest k n s.within s.spelled) (s.longest j m t.within t.spelled)

token_kind : {text : List ℕ} {k j : Kind} {n m : ℕ} → Stands text k n → Stands text j m → k ≡ j
token_kind {text} {k} {j} {n} {m} s t = one_kind k j (take n text) s.spelled (rw (token_len s t) t.spelled)

pub cut_once : {text : List ℕ} {at : ℕ} {r q : Result (List Token) ℕ} → Cut text at r → Cut text at q → r ≡ q
cut_once (end h) (end k) = refl
cut_once (end h) (gap k s cut) = absurd (omega arith)
cut_once (end h) (token k s cut) = absurd (omega arith)
cut_once (end h) (stuck k s) = absurd (omega arith)
cut_once (gap h s cut) (end k) = absurd (omega arith)
cut_once {text} {at} {r} {q} (gap h s cut) (gap k t other) = cut_once cut (subst (λ n. Cut text (at + n) q) (gap_len t s) other)
cut_once (gap h s cut) (token k t other) = absurd (apart s t)
cut_once (gap h s cut) (stuck k t) = absurd (stuck_gap t s)
cut_once (token h s cut) (end k) = absurd (omega arith)
cut_once (token h s cut) (gap k t other) = absurd (apart t s)
cut_once {text} {at} (token {n = n} {kind = kind} {rest = rest} h s cut) (token {n = m} {kind = other_kind} {rest = others} k t other) =
    let len = token_len t s in
    let rests : rest ≡ others = cut_once cut (subst (λ n. Cut text (at + n) others) len other) in
    rw (← len, token_kind t s, rests) refl
cut_once (token h s cut) (stuck k t) = absurd (stuck_token t s)
cut_once (stuck h s) (end k) = absurd (omega arith)
cut_once (stuck h s) (gap k t other) = absurd (stuck_gap s t)
cut_once (stuck h s) (token k t other) = absurd (stuck_token s t)
cut_once (stuck h s) (stuck k t) = refl

ok_once : (ts us : List Token) → Path (Result (List Token) ℕ) (Ok ts) (Ok us) → ts ≡ us
ok_once ts us e = cc

err_once : (k j : ℕ) → Path (Result (List Token) ℕ) (Err k) (Err j) → k ≡ j
err_once k j e = cc

ok_or_err : (ts : List Token) (k : ℕ) → Path (Result (List Token) ℕ) (Ok ts) (Err k) → ⊥
ok_or_err ts k e = cc

pub tokens_once : {text : List ℕ} {ts us : List Token} → AreTokens text ts → AreTokens text us → ts ≡ us
tokens_once {text} {ts} {us} a b = ok_once ts us (cut_once a b)

pub tokens_or_stops : {text : List ℕ} {ts : List Token} {place : Place} → AreTokens text ts → StopsAt text place → ⊥
tokens_or_stops {text} {ts} {place} a b = ok_or_err ts b.0 (cut_once a b.1)

pub stops_once : {text : List ℕ} {p q : Place} → StopsAt text p → StopsAt text q → p ≡ q
stops_once {text} {p} {q} a b = a.2 ∙ ap (place_of text) (err_once a.0 b.0 (cut_once a.1 b.1)) ∙ sym b.2

-- The tokens of a cut stand one behind the other.
spans_from : (text : List ℕ) (at from : ℕ) (ts : List Token) → at ≤ from → Spans text from ts → Spans text at ts
spans_from text at from [] le spans = tt
spans_from text at from (t ∷ ts) le spans = (omega (arith, spans.0), spans.1, spans.2, spans.3, spans.4, spans.5)

pub some_bytes : (kind : Kind) (n : ℕ) (x : List ℕ) → spells kind (take n x) ≡ true → 0 < n
some_bytes kind zero x t = absurd (both_ways (spells kind []) (nothing_spells kind) t)
some_bytes kind (suc n) x t = omega arith

spans_onto : (text : List ℕ) (at n : ℕ) (kind : Kind) (rest : Result (List Token) ℕ) → Stands (drop at text) kind n → IfOk rest (λ ts. Spans text (at + n) ts) → IfOk (onto (token_at text kind at n) rest) (λ ts. Spans text at ts)
spans_onto text at n kind (Err k) s spans = tt
spans_onto text at n kind (Ok ts) s spans = (omega arith, omega (arith, some_bytes kind n (drop at text) s.spelled), omega (arith, s.within, length-drop at text, some_bytes kind n (drop at text) s.spelled), (let width : at + n - at ≡ n = omega arith in rw width s.spelled), refl, spans)

pub cut_spans : {text : List ℕ} {at : ℕ} {r : Result (List Token) ℕ} → Cut text at r → IfOk r (λ ts. Spans text at ts)
cut_spans (end h) = tt
cut_spans {text} {at} {r} (gap {n = n} h s cut) = IfOk-weaker r (λ ts. Spans text (at + n) ts) (λ ts. Spans text at ts) (λ ts. spans_from text at (at + n) ts (omega arith)) (cut_spans cut)
cut_spans {text} {at} (token {n = n} {kind = kind} {rest = rest} h s cut) = spans_onto text at n kind rest s (cut_spans cut)
cut_spans (stuck h s) = tt
