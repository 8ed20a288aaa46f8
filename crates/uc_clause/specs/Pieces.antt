-- What stands next between quotes.
use Rattle.std.specs.Prelude.{◌≡◌, ℕ, ◌<◌, ◌≤◌, ◌-◌, List, length, take, drop, true, false}
use Rattle.uc_clause.specs.Bytes.{closes}
use Rattle.uc_clause.specs.declared.quotes.Piece.{Piece}
use Rattle.uc_clause.specs.declared.quotes.Piece.TheVariants.{Plain, Close, Neither}

-- The first n bytes are a piece: what closes behind them closes with them, and no front of them closes.
pub record IsPlain (quote : ℕ) (text : List ℕ) (n : ℕ) : Type 0 where
  pub some : 0 < n
  pub within : n ≤ length text
  pub behind : (m : ℕ) → n ≤ m → closes quote (take m text) ≡ closes quote (take (m - n) (drop n text))
  pub before : (m : ℕ) → m < n → closes quote (take m text) ≡ false

abbrev pub IsPiece : ℕ → List ℕ → Piece → Type 0
IsPiece quote text (Plain n) = IsPlain quote text n
IsPiece quote text Close = closes quote (take 1 text) ≡ true
IsPiece quote text Neither = (m : ℕ) → closes quote (take m text) ≡ false
