-- How a text is cut, token by token.
use Rattle.std.proofs.Common.{◌≡◌, ℕ, ◌+◌, ◌<◌, ◌≤◌, List, [], ◌∷◌, ◌++◌, length, drop, length-drop, refl, ap, arith}
use Rattle.std.specs.Prelude.{Result, Ok, Err}
use Rattle.uc_clause.specs.declared.token.Kind.{Kind}
use Rattle.uc_clause.specs.declared.token.Token.{Token}
use Rattle.uc_clause.specs.Tokens.{Cut, end, gap, token, stuck, onto, token_at, Stands, Skips, Stuck}

-- these tokens before the others
abbrev pub before : List Token → Result (List Token) ℕ → Result (List Token) ℕ
before [] rest = rest
before (t ∷ ts) rest = onto t (before ts rest)

pub before_more : (ts : List Token) (t : Token) (rest : Result (List Token) ℕ) → before (ts ++ t ∷ []) rest ≡ before ts (onto t rest)
before_more [] t rest = refl
before_more (u ∷ ts) t rest = ap (onto u) (before_more ts t rest)

pub before_end : (ts : List Token) → before ts (Ok []) ≡ Ok ts
before_end [] = refl
before_end (t ∷ ts) = ap (onto t) (before_end ts)

pub before_err : (ts : List Token) (k : ℕ) → before ts (Err k) ≡ Err k
before_err [] k = refl
before_err (t ∷ ts) k = ap (onto t) (before_err ts k)

-- how a cut of the text from a byte on completes one of the whole
pub record Completes (text : List ℕ) (ts : List Token) (at : ℕ) : Type 0 where
  pub within : at ≤ length text
  pub from : (rest : Result (List Token) ℕ) → Cut text at rest → Cut text 0 (before ts rest)

pub completes_gap : (text : List ℕ) (ts : List Token) (at n : ℕ) → Completes text ts at → at < length text → Skips (drop at text) n → Completes text ts (at + n)
completes_gap text ts at n done some skips = record {
  within = omega (arith, skips.within, length-drop at text);
  from = λ rest cut. done.from rest (gap some skips cut);
}

pub completes_token : (text : List ℕ) (ts : List Token) (at n : ℕ) (kind : Kind) → Completes text ts at → at < length text → Stands (drop at text) kind n → Completes text (ts ++ token_at text kind at n ∷ []) (at + n)
completes_token text ts at n kind done some stands = record {
  within = omega (arith, stands.within, length-drop at text);
  from = λ rest cut. rw (before_more ts (token_at text kind at n) rest) (done.from (onto (token_at text kind at n) rest) (token some stands cut));
}

pub cut_end : (text : List ℕ) (ts : List Token) (at : ℕ) → Completes text ts at → length text ≤ at → Cut text 0 (Ok ts)
cut_end text ts at done none = rw (before_end ts) at (done.from (Ok []) (end none))

pub cut_stuck : (text : List ℕ) (ts : List Token) (at : ℕ) → Completes text ts at → at < length text → Stuck (drop at text) → Cut text 0 (Err at)
cut_stuck text ts at done some s = rw (before_err ts at) at (done.from (Err at) (stuck some s))
