-- Where the tokens of a text lie in it.
use Rattle.std.proofs.Common.{◌≡◌, ℕ, zero, suc, ◌+◌, ◌≤◌, length, List, [], ◌∷◌, drop, length-drop, refl, subst, arith}
use Rattle.std.specs.Prelude.{Result, Ok, Err, Some, slice_get}
use Rattle.uc_clause.specs.declared.token.Token.{Token}
use Rattle.uc_clause.proofs.Once.{some_bytes}
use Rattle.uc_clause.specs.Tokens.{Cut, end, gap, token, stuck, token_at, AreTokens, IsWithin, Spans}

within_cons : (text : List ℕ) (t : Token) (rest : List Token) → IsWithin text t → ((k : ℕ) (u : Token) → slice_get rest k ≡ Some u → IsWithin text u) → (k : ℕ) (u : Token) → slice_get (t ∷ rest) k ≡ Some u → IsWithin text u
within_cons text t rest h all zero u at = let same : t ≡ u = cc in subst (IsWithin text) same h
within_cons text t rest h all (suc k) u at = all k u at

all_within : {text : List ℕ} {at : ℕ} {r : Result (List Token) ℕ} → Cut text at r → (ts : List Token) → r ≡ Ok ts → (k : ℕ) (u : Token) → slice_get ts k ≡ Some u → IsWithin text u
all_within (end h) ts e k u at = let none : ts ≡ [] = cc in absurd (let bad : slice_get {X = Token} [] k ≡ Some u = subst (λ l. slice_get l k ≡ Some u) none at in cc)
all_within (gap h s cut) ts e k u at = all_within cut ts e k u at
all_within {text} {at = from} (token {n = n} {kind = kind} {rest = Ok rest} h s cut) ts e k u at =
    let same : ts ≡ token_at text kind from n ∷ rest = cc in
    within_cons text (token_at text kind from n) rest (omega (arith, some_bytes kind n (drop from text) s.spelled), omega (arith, s.within, length-drop from text)) (λ j v got. all_within cut rest refl j v got) k u (subst (λ l. slice_get l k ≡ Some u) same at)
all_within (token {rest = Err j} h s cut) ts e k u at = cc
all_within (stuck h s) ts e k u at = cc

-- a token of the text lies in it
pub within_text : (text : List ℕ) (ts : List Token) (k : ℕ) (u : Token) → AreTokens text ts → slice_get ts k ≡ Some u → IsWithin text u
within_text text ts k u cut at = all_within cut ts refl k u at

-- there are no more tokens than bytes
pub spans_few : (text : List ℕ) (at : ℕ) (ts : List Token) → at ≤ length text → Spans text at ts → at + length ts ≤ length text
spans_few text at [] h spans = omega arith
spans_few text at (t ∷ ts) h spans = omega (arith, spans.0, spans.1, spans_few text t.to ts spans.2 spans.5)
